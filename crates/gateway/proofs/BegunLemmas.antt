-- A gateway beside one that holds the same, before anything is left out.
use Rattle.std.proofs.Common.{◌≡◌, List, [], ◌∷◌, Option, Some, None, map, refl, sym, ap, ◌∙◌}
use Rattle.std.specs.Cmp.{nat_cmp_total}
use Rattle.std.specs.FinMap as numbers
use Rattle.std.specs.List.{filter}
use Rattle.std.specs.Option.{option_map}
use Rattle.sadb.specs.Database.{pair_at, PairMap}
use Rattle.sadb.specs.declared.pair.Pair.{Pair}
use Rattle.association.specs.declared.phase.Association.{Association}
use Rattle.gateway.specs.Contents.{state_content}
use Rattle.gateway.specs.States.{State}
use Rattle.gateway.proofs.RenamedLaws.{PairLaws}
use Rattle.gateway.proofs.RenamingLemmas.{itself_is}
use Rattle.gateway.specs.Beside.{itself, none_yet, HoldsBeside}
use Rattle.gateway.specs.Others.{state_without, stays}
use Rattle.gateway.specs.Renaming.{renamed_association, renamed_pair, renamed_pairs, renamed_state}

all_kept : (xs : List Association) → filter (stays none_yet) xs ≡ xs
all_kept [] = refl
all_kept (x ∷ xs) = ap (λ ys. x ∷ ys) (all_kept xs)

all_named : (xs : List Association) → map (renamed_association itself) xs ≡ xs
all_named [] = refl
all_named (x ∷ xs) = ap (λ ys. x ∷ ys) (all_named xs)

same_found : (found : Option Pair) → option_map (renamed_pair itself) found ≡ found
same_found None = refl
same_found (Some p) = refl

same_pairs : PairLaws itself → (pairs : PairMap) → renamed_pairs itself pairs ≡ pairs
same_pairs laws pairs =
    numbers.same_map nat_cmp_total numbers.nat_cmp-IsAntisymmetric (renamed_pairs itself pairs) pairs
    (λ serial. laws.at pairs serial ∙ same_found (pair_at pairs serial))

whole : {C : Type 0} → (s : State C) → state_content (state_without none_yet s) ≡ state_content s
whole {C} s = ap (λ (xs : List Association). state_content (record s { machine = record s.machine { held = record s.machine.held { associations = xs } } })) (all_kept s.machine.held.associations)

named : {C : Type 0} → PairLaws itself → (s : State C) → state_content (renamed_state itself s) ≡ state_content s
named {C} laws s = ap (λ (xs : List Association). state_content (record (renamed_state itself s) { machine = record s.machine { held = record s.machine.held { associations = xs } } })) (all_named s.machine.held.associations)
    ∙ ap (λ (ps : PairMap). state_content (record s { table = record s.table { pairs = ps } })) (same_pairs laws s.table.pairs)

pub begun : {C : Type 0} → PairLaws itself → (old other : State C) → state_content old ≡ state_content other → HoldsBeside itself none_yet old other
begun {C} laws old other same = record {
  content = whole old ∙ same ∙ sym (named laws other);
  renames = itself_is other.machine.held.next;
  apart = λ serial. refl;
  half_open = λ place a there out. absurd (cc);
  given = λ serial out. absurd (cc);
}
