-- What is looked up in a table is determined.
use Rattle.std.proofs.Common.{refl, ◌≡◌, ◌<◌, ℕ, Some, arith, sym, ap, ◌∙◌, inl, inr}
use Rattle.std.proofs.lemmas.Bool.Decides.{leb_tells}
use Rattle.std.proofs.lemmas.Option.{none-some}
use Rattle.std.specs.Option.{unwrap_or}
use Rattle.std.specs.FinMap as map
use Rattle.policy.specs.declared.flow.Flow.{Flow}
use Rattle.sadb.specs.declared.fault.TableFault.{TableFault}
use Rattle.sadb.specs.declared.fault.TableFault.TheVariants.{Full, Spent, Memory}
use Rattle.sadb.specs.declared.pair.Pair.{Pair}
use Rattle.sadb.specs.Database.{Database, PairMap, IsTableRefusal, IsInbound, IsOutbound, IsAfter}

-- two numbers of which neither is below the other
one_of_them : (a b : ℕ) → ¬ (a < b) → ¬ (b < a) → a ≡ b
one_of_them a b one two =
    elim (leb_tells a b) [
      | inl (_, upward) ↦ elim (leb_tells b a) [
        | inl (_, downward) ↦ omega arith
        | inr (_, below) ↦ absurd (one (omega arith))
      ]
      | inr (_, above) ↦ absurd (two (omega arith))
    ]

-- two SA pairs that stand under their own serials, which are one
one_pair : (pairs : PairMap) (a b : Pair) → map.get pairs a.serial ≡ Some a → map.get pairs b.serial ≡ Some b → a.serial ≡ b.serial → a ≡ b
one_pair pairs a b first second same = ap (λ o. unwrap_or o a) (sym first ∙ ap (map.get pairs) same ∙ second)

pub one_inbound : (pairs : PairMap) (spi : ℕ) (a b : Pair) → IsInbound pairs spi a → IsInbound pairs spi b → a ≡ b
one_inbound pairs spi a b first second =
    one_pair pairs a b first.there second.there (second.only a.serial (record { pair = a; there = first.there; its_own = first.its_own }))

pub one_outbound : (pairs : PairMap) (flow : Flow) (a b : ℕ) → IsOutbound pairs flow a → IsOutbound pairs flow b → a ≡ b
one_outbound pairs flow a b first second =
    one_of_them a b (λ below. first.greatest b below second.carries) (λ below. second.greatest a below first.carries)

pub one_after : (pairs : PairMap) (serial : ℕ) (a b : Pair) → IsAfter pairs serial a → IsAfter pairs serial b → a ≡ b
one_after pairs serial a b first second =
    one_pair pairs a b first.there second.there
    (one_of_them a.serial b.serial
    (λ below. none-some a (sym (second.least a.serial first.above below) ∙ first.there))
    (λ below. none-some b (sym (first.least b.serial second.above below) ∙ second.there)))

pub one_refusal : (d : Database) (a b : TableFault) → IsTableRefusal d a → IsTableRefusal d b → a ≡ b
one_refusal d Full Full first second = refl
one_refusal d Full Spent first second = absurd (second.0 first)
one_refusal d Full Memory first second = absurd (second.0 first)
one_refusal d Spent Full first second = absurd (first.0 second)
one_refusal d Spent Spent first second = refl
one_refusal d Spent Memory first second = absurd (second.1 first.1)
one_refusal d Memory Full first second = absurd (first.0 second)
one_refusal d Memory Spent first second = absurd (first.1 second.1)
one_refusal d Memory Memory first second = refl
