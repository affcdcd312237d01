-- What a tick brings where some half-open IKE SAs are left out: of those comes nothing.
use Rattle.std.proofs.Common.{◌≡◌, ℕ, ◌++◌, ◌∷◌, [], Bool, true, false, cond, not, List, map, Option, Some, None, ap, refl, sym, ◌∙◌, subst}
use Rattle.std.specs.Cmp.{nat_cmp_total}
use Rattle.std.specs.FinMap as numbers
use Rattle.std.specs.List.{filter, list_any}
use Rattle.std.specs.Ordering.{nat_cmp}
use Rattle.std.proofs.lemmas.List.{nil_from_length}
use Rattle.std.proofs.lemmas.List.Elements.{filter-append}
use Rattle.sadb.specs.Database.{Database}
use Rattle.association.specs.declared.phase.Association.{Association}
use Rattle.association.specs.declared.phase.Phase.{Phase}
use Rattle.association.specs.declared.phase.Request.{Request}
use Rattle.initial.specs.Answering.{IsHalfOpen}
use Rattle.effects.specs.Waiting.{MayBeOutstanding, SuitPhase}
use Rattle.moments.specs.Due.{due_of, has_failed, is_due, is_over, is_unanswered, outstanding_of, resent}
use Rattle.moments.specs.Ticking.{PassAll, PassesBy, PassesThen, Ticks}
use Rattle.moments.specs.declared.resent.Resent.{Resent}
use Rattle.moments.specs.declared.ticking.Ticked.{Ticked}
use Rattle.gateway.specs.Others.{stays}
use Rattle.gateway.proofs.ListRemoval.{each_of_both, each_of_none, each_of_one, first_of, rest_of, EachOf}

-- half open, and nothing is outstanding but what belongs to that
pub record IsIdle (a : Association) : Type 0 where
  pub half : IsHalfOpen a.phase
  pub waits : SuitPhase a.phase a.outgoing.outstanding

none_waits : (a : Association) → IsIdle a → (n : ℕ) (r : Request) → numbers.get a.outgoing.outstanding n ≡ Some r → ⊥
none_waits a idle n r there = subst (λ (p : Phase). MayBeOutstanding p n r.purpose) idle.half.is (idle.waits n r there)

none_found : (found : Option Request) → ((r : Request) → found ≡ Some r → ⊥) → found ≡ None
none_found None none = refl
none_found (Some r) none = absurd (none r refl)

none_outstanding : (a : Association) → IsIdle a → outstanding_of a ≡ []
none_outstanding a idle =
    let empty : a.outgoing.outstanding ≡ numbers.empty =
    numbers.same_map nat_cmp_total numbers.nat_cmp-IsAntisymmetric a.outgoing.outstanding numbers.empty
    (λ n. none_found (numbers.get a.outgoing.outstanding n) (none_waits a idle n) ∙ sym (numbers.get-empty nat_cmp n)) in
    nil_from_length (outstanding_of a) (sym (numbers.len-entries a.outgoing.outstanding) ∙ ap numbers.len empty ∙ numbers.len-empty nat_cmp Request)

not_failed : (now : ℕ) (a : Association) → IsIdle a → has_failed now a ≡ false
not_failed now a idle = ap (λ es. list_any (λ e. is_unanswered now e.1) es) (none_outstanding a idle)

none_due : (now : ℕ) (a : Association) → IsIdle a → due_of now a ≡ []
none_due now a idle = ap (λ es. map (resent a) (filter (λ e. is_due now e.1) es)) (none_outstanding a idle)

module _ (strange : ℕ → Bool) where
  abbrev others_sent : List Resent → List Resent
  others_sent sent = filter (λ (r : Resent). not (strange r.ike)) sent

  abbrev others_closed : List ℕ → List ℕ
  others_closed closed = filter (λ (serial : ℕ). not (strange serial)) closed

  abbrev others_held : List Association → List Association
  others_held held = filter (stays strange) held

  abbrev pub AreIdle : List Association → Type 0
  AreIdle xs = EachOf (λ (a : Association). strange a.serial ≡ true → IsIdle a) xs

  abbrev pub AreHalf : List Association → Type 0
  AreHalf xs = EachOf (λ (a : Association). strange a.serial ≡ true → IsHalfOpen a.phase) xs

  none_half : AreHalf []
  none_half = each_of_none (λ (a : Association). strange a.serial ≡ true → IsHalfOpen a.phase)

  one_half : (a : Association) → (strange a.serial ≡ true → IsHalfOpen a.phase) → AreHalf (a ∷ [])
  one_half a half = each_of_one (λ (x : Association). strange x.serial ≡ true → IsHalfOpen x.phase) a half

  both_half : (xs ys : List Association) → AreHalf xs → AreHalf ys → AreHalf (xs ++ ys)
  both_half xs ys here there = each_of_both (λ (a : Association). strange a.serial ≡ true → IsHalfOpen a.phase) xs ys here there

  -- of a strange one comes nothing
  record LeavesNothing (table : Database) (sent : List Resent) (closed : List ℕ) (held : List Association) (new_table : Database) : Type 0 where
    pub sent_none : sent ≡ []
    pub closed_none : closed ≡ []
    pub held_none : others_held held ≡ []
    pub table_same : new_table ≡ table
    pub half : AreHalf held

  strange_passes : (over : Bool) (now : ℕ) (a : Association) (table : Database) (sent : List Resent) (closed : List ℕ) (held : List Association) (new_table : Database)
      → strange a.serial ≡ true → IsIdle a → PassesBy over false now a table sent closed held new_table → LeavesNothing table sent closed held new_table
  strange_passes true now a table sent closed held new_table out idle is =
      record { sent_none = is.0; closed_none = is.1; held_none = ap others_held is.2; table_same = is.3; half = subst AreHalf (sym is.2) none_half }
  strange_passes false now a table sent closed held new_table out idle is =
      let serial : is.0.serial ≡ a.serial = ap (λ (x : Association). x.serial) is.1.content in
      let phase : is.0.phase ≡ a.phase = ap (λ (x : Association). x.phase) is.1.content in
      record {
        sent_none = is.2 ∙ none_due now a idle;
        closed_none = is.3;
        held_none = ap others_held is.4 ∙ ap (λ (b : Bool). cond (not b) (is.0 ∷ []) []) (ap strange serial ∙ out);
        table_same = is.5;
        half = subst AreHalf (sym is.4) (one_half is.0 (λ _. subst IsHalfOpen (sym phase) idle.half));
      }

  -- what comes of another stays
  record KeepsAll (sent : List Resent) (closed : List ℕ) (held : List Association) : Type 0 where
    pub sent_same : others_sent sent ≡ sent
    pub closed_same : others_closed closed ≡ closed
    pub held_same : others_held held ≡ held
    pub half : AreHalf held

  all_own : (a : Association) (es : List (ℕ × Request)) → strange a.serial ≡ false → others_sent (map (resent a) es) ≡ map (resent a) es
  all_own a [] own = refl
  all_own a (e ∷ es) own =
      ap (λ (b : Bool). cond (not b) (resent a e ∷ others_sent (map (resent a) es)) (others_sent (map (resent a) es))) own
      ∙ ap (λ (l : List Resent). resent a e ∷ l) (all_own a es own)

  never_both : {P : Type 0} (b : Bool) → b ≡ false → b ≡ true → P
  never_both true one other = absurd cc
  never_both false one other = absurd cc

  other_passes : (over failed : Bool) (now : ℕ) (a : Association) (table : Database) (sent : List Resent) (closed : List ℕ) (held : List Association) (new_table : Database)
      → strange a.serial ≡ false → PassesBy over failed now a table sent closed held new_table → KeepsAll sent closed held
  other_passes true failed now a table sent closed held new_table own is = record {
    sent_same = ap others_sent is.0 ∙ sym is.0;
    closed_same = ap others_closed is.1 ∙ sym is.1;
    held_same = ap others_held is.2 ∙ sym is.2;
    half = subst AreHalf (sym is.2) none_half;
  }
  other_passes false true now a table sent closed held new_table own is =
      let serial : is.0.serial ≡ a.serial = ap (λ (x : Association). x.serial) is.1.content in
      let also : strange is.0.serial ≡ false = ap strange serial ∙ own in
      record {
        sent_same = ap others_sent is.2 ∙ sym is.2;
        closed_same = ap others_closed is.3 ∙ ap (λ (b : Bool). cond (not b) (a.serial ∷ []) []) own ∙ sym is.3;
        held_same = ap others_held is.4 ∙ ap (λ (b : Bool). cond (not b) (is.0 ∷ []) []) also ∙ sym is.4;
        half = subst AreHalf (sym is.4) (one_half is.0 (λ out. never_both (strange is.0.serial) also out));
      }
  other_passes false false now a table sent closed held new_table own is =
      let serial : is.0.serial ≡ a.serial = ap (λ (x : Association). x.serial) is.1.content in
      let also : strange is.0.serial ≡ false = ap strange serial ∙ own in
      record {
        sent_same = ap others_sent is.2 ∙ all_own a (filter (λ e. is_due now e.1) (outstanding_of a)) own ∙ sym is.2;
        closed_same = ap others_closed is.3 ∙ sym is.3;
        held_same = ap others_held is.4 ∙ ap (λ (b : Bool). cond (not b) (is.0 ∷ []) []) also ∙ sym is.4;
        half = subst AreHalf (sym is.4) (one_half is.0 (λ out. never_both (strange is.0.serial) also out));
      }

  passed_alike : (now : ℕ) (xs : List Association) (table another : Database) (sent again : List Resent) (closed ended : List ℕ) (held kept : List Association) (new_table : Database)
      → table ≡ another → sent ≡ again → closed ≡ ended → held ≡ kept → PassAll now xs table sent closed held new_table → PassAll now xs another again ended kept new_table
  passed_alike now xs table another sent again closed ended held kept new_table tables all_sent all_closed all_held is =
      subst (λ (t : Database). PassAll now xs t again ended kept new_table) tables
      (subst (λ (s : List Resent). PassAll now xs table s ended kept new_table) all_sent
      (subst (λ (c : List ℕ). PassAll now xs table sent c kept new_table) all_closed
      (subst (λ (h : List Association). PassAll now xs table sent closed h new_table) all_held is)))

  abbrev PassLeft : ℕ → List Association → Database → List Resent → List ℕ → List Association → Database → Type 0
  PassLeft now xs table sent closed held new_table = PassAll now xs table (others_sent sent) (others_closed closed) (others_held held) new_table

  first_left : (k : Bool) (now : ℕ) (a : Association) (rest : List Association) (table : Database) (sent : List Resent) (closed : List ℕ) (held : List Association) (new_table : Database)
      → strange a.serial ≡ k → (strange a.serial ≡ true → IsIdle a) → (is : PassesThen now a (λ before s c h after. PassAll now rest before s c h after) table sent closed held new_table)
      → PassLeft now (others_held rest) is.between is.sent_rest is.closed_rest is.held_rest new_table → AreHalf is.held_rest
      → PassLeft now (cond (not k) (a ∷ others_held rest) (others_held rest)) table sent closed held new_table × AreHalf held
  first_left true now a rest table sent closed held new_table out idle is later half =
      let nothing : LeavesNothing table is.sent_first is.closed_first is.held_first is.between =
      strange_passes (is_over now a.phase) now a table is.sent_first is.closed_first is.held_first is.between out (idle out)
      (subst (λ (f : Bool). PassesBy (is_over now a.phase) f now a table is.sent_first is.closed_first is.held_first is.between) (not_failed now a (idle out)) is.passes.done) in
      let all_sent : others_sent sent ≡ others_sent is.sent_rest = ap others_sent (is.sent_all ∙ ap (λ (l : List Resent). l ++ is.sent_rest) nothing.sent_none) in
      let all_closed : others_closed closed ≡ others_closed is.closed_rest = ap others_closed (is.closed_all ∙ ap (λ (l : List ℕ). l ++ is.closed_rest) nothing.closed_none) in
      let all_held : others_held held ≡ others_held is.held_rest =
      ap others_held is.held_all ∙ filter-append (stays strange) is.held_first is.held_rest ∙ ap (λ (l : List Association). l ++ others_held is.held_rest) nothing.held_none in (
        passed_alike now (others_held rest) is.between table (others_sent is.sent_rest) (others_sent sent) (others_closed is.closed_rest) (others_closed closed) (others_held is.held_rest) (others_held held) new_table
            nothing.table_same (sym all_sent) (sym all_closed) (sym all_held) later,
        subst AreHalf (sym is.held_all) (both_half is.held_first is.held_rest nothing.half half),
      )
  first_left false now a rest table sent closed held new_table own idle is later half =
      let all : KeepsAll is.sent_first is.closed_first is.held_first =
      other_passes (is_over now a.phase) (has_failed now a) now a table is.sent_first is.closed_first is.held_first is.between own is.passes.done in (
        record {
          sent_first = is.sent_first;
          sent_rest = others_sent is.sent_rest;
          closed_first = is.closed_first;
          closed_rest = others_closed is.closed_rest;
          held_first = is.held_first;
          held_rest = others_held is.held_rest;
          between = is.between;
          passes = is.passes;
          others = later;
          sent_all = ap others_sent is.sent_all ∙ filter-append (λ (r : Resent). not (strange r.ike)) is.sent_first is.sent_rest ∙ ap (λ (l : List Resent). l ++ others_sent is.sent_rest) all.sent_same;
          closed_all = ap others_closed is.closed_all ∙ filter-append (λ (serial : ℕ). not (strange serial)) is.closed_first is.closed_rest ∙ ap (λ (l : List ℕ). l ++ others_closed is.closed_rest) all.closed_same;
          held_all = ap others_held is.held_all ∙ filter-append (stays strange) is.held_first is.held_rest ∙ ap (λ (l : List Association). l ++ others_held is.held_rest) all.held_same;
        },
        subst AreHalf (sym is.held_all) (both_half is.held_first is.held_rest all.half half),
      )

  pub all_left : (now : ℕ) (xs : List Association) (table : Database) (sent : List Resent) (closed : List ℕ) (held : List Association) (new_table : Database)
      → AreIdle xs → PassAll now xs table sent closed held new_table → PassLeft now (others_held xs) table sent closed held new_table × AreHalf held
  all_left now [] table sent closed held new_table idle is =
      ((ap others_sent is.0, ap others_closed is.1, ap others_held is.2, is.3), subst AreHalf (sym is.2) none_half)
  all_left now (a ∷ rest) table sent closed held new_table idle is =
      let later = all_left now rest is.between is.sent_rest is.closed_rest is.held_rest new_table (rest_of (λ (x : Association). strange x.serial ≡ true → IsIdle x) a rest idle) is.others in
      first_left (strange a.serial) now a rest table sent closed held new_table refl (first_of (λ (x : Association). strange x.serial ≡ true → IsIdle x) a rest idle) is later.0 later.1

  abbrev pub ticked_without : Ticked → Ticked
  ticked_without ticked = record { requests = others_sent ticked.requests; closed = others_closed ticked.closed }

  -- a tick at the others does the same to them, and those that are left out stay half open
  pub ticks_left : (now : ℕ) (xs : List Association) (table : Database) (ticked : Ticked) (held : List Association) (new_table : Database)
      → AreIdle xs → Ticks now xs table ticked held new_table → Ticks now (others_held xs) table (ticked_without ticked) (others_held held) new_table × AreHalf held
  ticks_left now xs table ticked held new_table idle is = all_left now xs table ticked.requests ticked.closed held new_table idle is
