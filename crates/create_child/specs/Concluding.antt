-- Which answers make no Child SA, and for what there may be no memory (RFC 7296 sections 1.3.1 and 2.21.3).
use Rattle.std.specs.Prelude.{◌≡◌, ◌⊎◌, true, Some, None, List}
use Rattle.std.specs.List.{list_any}
use Rattle.wire.specs.declared.payload.Payload.{Payload}
use Rattle.exchange.specs.Chains.{IsRead}
use Rattle.exchange.specs.Counting.{only_nonce}
use Rattle.exchange.specs.Notices.{is_invalid_syntax}
use Rattle.exchange.specs.declared.sealed.Plain.{Plain}
use Rattle.children.specs.Accepting.{IsUnacceptable}
use Rattle.children.specs.declared.asking.Asked.{Asked}
use Rattle.children.specs.declared.fault.MemoryFault.{MemoryFault}
use Rattle.children.specs.declared.fault.MemoryFault.TheVariants.{Message, Window, Narrowing, Table}

-- These payloads make no Child SA: they tell INVALID_SYNTAX, have not one nonce, or are not acceptable for
-- what was asked.
abbrev pub IsConcludedAtOnce : Asked → List Payload → Type 0
IsConcludedAtOnce asked answer =
    (list_any is_invalid_syntax answer ≡ true) ⊎ ((only_nonce answer ≡ None) ⊎ IsUnacceptable asked answer)

-- it opened to payloads that can make a Child SA
pub record CanMakeFurther (asked : Asked) (plain : Plain) : Type 0 where
  pub payloads : List Payload
  pub read : IsRead plain (Some payloads)
  pub later : ¬ IsConcludedAtOnce asked payloads

-- what there may be no memory for: the message, and what an SA pair holds where one can be made
abbrev pub CanWantForAnswer : Asked → Plain → MemoryFault → Type 0
CanWantForAnswer asked plain Message = Unit {0}
CanWantForAnswer asked plain Window = CanMakeFurther asked plain
CanWantForAnswer asked plain Narrowing = CanMakeFurther asked plain
CanWantForAnswer asked plain Table = ⊥
