-- Whether some Child SA is still to come.
use Rattle.std.proofs.Common.{◌≡◌, ℕ, Bool, true, false, MatchBool, Option, None, Some, sym, inl, inr, refl, ◌∙◌}
use Rattle.std.specs.Prelude.{IsSome}
use Rattle.std.proofs.lemmas.Option.{none-some}
use Rattle.requests.specs.Outgoing.{NoneOutstanding, OwnRequests, SomeOutstanding}
use Rattle.association.specs.Closing.{HoldsNoSpi, HoldsSomeSpi}
use Rattle.association.specs.Phases.{spi_in}
use Rattle.association.specs.Purposes.{asks_for_child, spi_asked, AwaitsNone, AwaitsSome}
use Rattle.association.specs.declared.phase.Association.{Association}
use Rattle.association.specs.declared.phase.Request.{Request}
use Rattle.association.specs.declared.purpose.Purpose.{Purpose}
use Rattle.association.specs.declared.purpose.Purpose.TheVariants.{Begin, Identify, CreateChild, Probe, DeleteChild, DeleteAssociation}

-- what asks for a Child SA names its SPI
record NamesSpi (p : Purpose) : Type 0 where
  spi : ℕ
  is : spi_asked p ≡ Some spi

names : (p : Purpose) → true ≡ asks_for_child p → NamesSpi p
names Begin is = absurd cc
names Identify is = absurd cc
names (CreateChild further) is = record { spi = further.child.spi; is = refl }
names Probe is = absurd cc
names (DeleteChild child) is = absurd cc
names DeleteAssociation is = absurd cc

names_none : (p : Purpose) (spi : ℕ) → false ≡ asks_for_child p → spi_asked p ≡ Some spi → ⊥
names_none Begin spi is asked = none-some spi asked
names_none Identify spi is asked = none-some spi asked
names_none (CreateChild further) spi is asked = cc
names_none Probe spi is asked = none-some spi asked
names_none (DeleteChild child) spi is asked = none-some spi asked
names_none DeleteAssociation spi is asked = none-some spi asked

pub further_told : (requests : OwnRequests Request) (Says : Request → Bool → Type 0) → ((r : Request) (b : Bool) → Says r b → b ≡ asks_for_child r.purpose)
    → (found : Bool) → MatchBool found (SomeOutstanding requests.outstanding Says) (NoneOutstanding requests.outstanding Says)
    → MatchBool found (AwaitsSome requests) (AwaitsNone requests)
further_told requests Says is true some =
    let named = names some.request.purpose (is some.request true some.passes) in
    record { spi = named.spi; awaits = record { number = some.number; awaits = record { request = some.request; outstanding = some.there; reserved = named.is } } }
further_told requests Says is false none = record {
  none = λ spi awaits. names_none awaits.awaits.request.purpose spi (is awaits.awaits.request false (none awaits.number awaits.awaits.request awaits.awaits.outstanding)) awaits.awaits.reserved;
}

record NamedBy (o : Option ℕ) : Type 0 where
  spi : ℕ
  same : o ≡ Some spi

some_named : (o : Option ℕ) → IsSome o → NamedBy o
some_named None is = absurd cc
some_named (Some spi) is = record { spi = spi; same = refl }

pub first_held : (a : Association) → IsSome (spi_in a.phase) → HoldsSomeSpi a
first_held a is = let named = some_named (spi_in a.phase) is in record { spi = named.spi; held = inl named.same }

pub both_told : (a : Association) (further : Bool) → spi_in a.phase ≡ None → MatchBool further (AwaitsSome a.outgoing) (AwaitsNone a.outgoing) → MatchBool further (HoldsSomeSpi a) (HoldsNoSpi a)
both_told a true none awaits = record { spi = awaits.spi; held = inr awaits.awaits }
both_told a false none awaits = record {
  none = λ spi held. elim held [
    | inl its ↦ none-some spi (sym none ∙ its)
    | inr awaited ↦ awaits.none spi awaited
  ];
}
