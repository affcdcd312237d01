-- What a tick brings goes by what is held.
use Rattle.std.proofs.Common.{◌≡◌, ◌++◌, ◌∷◌, [], ℕ, List, map, Bool, true, false, sym, ap, ◌∙◌, subst}
use Rattle.std.proofs.lemmas.List.{map-append}
use Rattle.std.specs.FinMap as numbers
use Rattle.std.specs.Option.{option_map}
use Rattle.std.specs.Ordering.{nat_cmp}
use Rattle.sadb.specs.Contents.{table_content}
use Rattle.sadb.specs.Database.{Database}
use Rattle.association.specs.Closing.{Closes}
use Rattle.association.specs.Contents.{association_content}
use Rattle.association.specs.declared.phase.Association.{Association}
use Rattle.association.specs.declared.phase.Request.{Request}
use Rattle.moments.specs.Due.{after_sending, due_of, has_failed, is_over, SendsAgain}
use Rattle.moments.specs.Ticking.{PassAll, Passes, PassesBy, Ticks}
use Rattle.moments.specs.declared.resent.Resent.{Resent}
use Rattle.moments.specs.declared.ticking.Ticked.{Ticked}
use Rattle.requests.proofs.EntryLemmas.{same_map}

-- what a lower law says of endings
abbrev pub EndsAlike : Type 0
EndsAlike = (old other a b : Association) (old_table other_table a_table b_table : Database) (moment : ℕ) → association_content old ≡ association_content other → table_content old_table ≡ table_content other_table
    → Closes old old_table moment a a_table → Closes other other_table moment b b_table → (association_content a ≡ association_content b) × (table_content a_table ≡ table_content b_table)

-- two outcomes are one, but for spare capacity
pub record AreAlike (sent again : List Resent) (closed ended : List ℕ) (held kept : List Association) (table another : Database) : Type 0 where
  pub sent_same : sent ≡ again
  pub closed_same : closed ≡ ended
  pub held_same : map association_content held ≡ map association_content kept
  pub table_same : table_content table ≡ table_content another

sent_alike : (now : ℕ) (old other a b : Association) → association_content old ≡ association_content other → SendsAgain now old a → SendsAgain now other b → association_content a ≡ association_content b
sent_alike now old other a b same one two =
    let before : old.outgoing.outstanding ≡ other.outgoing.outstanding = ap (λ (x : Association). x.outgoing.outstanding) same in
    let after : a.outgoing.outstanding ≡ b.outgoing.outstanding =
    same_map a.outgoing.outstanding b.outgoing.outstanding
    (λ q. one.each q ∙ ap (λ (m : numbers.FinMap nat_cmp Request). option_map (after_sending now) (numbers.get m q)) before ∙ sym (two.each q)) in
    ap association_content one.content
    ∙ ap (λ (x : Association). record x { outgoing = record x.outgoing { outstanding = a.outgoing.outstanding } }) same
    ∙ ap (λ (m : numbers.FinMap nat_cmp Request). association_content (record other { outgoing = record other.outgoing { outstanding = m } })) after
    ∙ sym (ap association_content two.content)

alike_by : EndsAlike → (over failed : Bool) (now : ℕ) (old other : Association) (table another : Database) (sent again : List Resent) (closed ended : List ℕ) (held kept : List Association) (a_table b_table : Database)
    → association_content old ≡ association_content other → table_content table ≡ table_content another → PassesBy over failed now old table sent closed held a_table → PassesBy over failed now other another again ended kept b_table
    → AreAlike sent again closed ended held kept a_table b_table
alike_by ends true failed now old other table another sent again closed ended held kept a_table b_table same alike one two =
    record {
      sent_same = one.0 ∙ sym two.0;
      closed_same = one.1 ∙ sym two.1;
      held_same = ap (map association_content) (one.2 ∙ sym two.2);
      table_same = ap table_content one.3 ∙ alike ∙ sym (ap table_content two.3);
    }
alike_by ends false true now old other table another sent again closed ended held kept a_table b_table same alike one two =
    let over = ends old other one.0 two.0 table another a_table b_table now same alike one.1 two.1 in
    record {
      sent_same = one.2 ∙ sym two.2;
      closed_same = one.3 ∙ ap (λ (x : Association). x.serial ∷ []) same ∙ sym two.3;
      held_same = ap (map association_content) one.4 ∙ ap (λ (x : Association). x ∷ []) over.0 ∙ sym (ap (map association_content) two.4);
      table_same = over.1;
    }
alike_by ends false false now old other table another sent again closed ended held kept a_table b_table same alike one two =
    record {
      sent_same = one.2 ∙ ap (due_of now) same ∙ sym two.2;
      closed_same = one.3 ∙ sym two.3;
      held_same = ap (map association_content) one.4 ∙ ap (λ (x : Association). x ∷ []) (sent_alike now old other one.0 two.0 same one.1 two.1) ∙ sym (ap (map association_content) two.4);
      table_same = ap table_content one.5 ∙ alike ∙ sym (ap table_content two.5);
    }

one_alike : EndsAlike → (now : ℕ) (old other : Association) (table another : Database) (sent again : List Resent) (closed ended : List ℕ) (held kept : List Association) (a_table b_table : Database)
    → association_content old ≡ association_content other → table_content table ≡ table_content another → Passes now old table sent closed held a_table → Passes now other another again ended kept b_table
    → AreAlike sent again closed ended held kept a_table b_table
one_alike ends now old other table another sent again closed ended held kept a_table b_table same alike one two =
    let over : is_over now other.phase ≡ is_over now old.phase = sym (ap (λ (x : Association). is_over now x.phase) same) in
    let failed : has_failed now other ≡ has_failed now old = sym (ap (has_failed now) same) in
    alike_by ends (is_over now old.phase) (has_failed now old) now old other table another sent again closed ended held kept a_table b_table same alike one.done
    (subst (λ (v : Bool). PassesBy v (has_failed now old) now other another again ended kept b_table) over
    (subst (λ (w : Bool). PassesBy (is_over now other.phase) w now other another again ended kept b_table) failed two.done))

first_same : (x y : Association) (xs ys : List Association) → x ∷ xs ≡ y ∷ ys → x ≡ y
first_same x y xs ys is = cc

rest_same : (x y : Association) (xs ys : List Association) → x ∷ xs ≡ y ∷ ys → xs ≡ ys
rest_same x y xs ys is = cc

not_none : (x : Association) (xs : List Association) → [] ≡ x ∷ xs → ⊥
not_none x xs is = cc

pub all_alike : EndsAlike → (now : ℕ) (old other : List Association) (table another : Database) (sent again : List Resent) (closed ended : List ℕ) (held kept : List Association) (a_table b_table : Database)
    → map association_content old ≡ map association_content other → table_content table ≡ table_content another → PassAll now old table sent closed held a_table → PassAll now other another again ended kept b_table
    → AreAlike sent again closed ended held kept a_table b_table
all_alike ends now [] [] table another sent again closed ended held kept a_table b_table same like one two =
    record {
      sent_same = one.0 ∙ sym two.0;
      closed_same = one.1 ∙ sym two.1;
      held_same = ap (map association_content) (one.2 ∙ sym two.2);
      table_same = ap table_content one.3 ∙ like ∙ sym (ap table_content two.3);
    }
all_alike ends now [] (y ∷ ys) table another sent again closed ended held kept a_table b_table same like one two = absurd (not_none _ _ same)
all_alike ends now (x ∷ xs) [] table another sent again closed ended held kept a_table b_table same like one two = absurd (not_none _ _ (sym same))
all_alike ends now (x ∷ xs) (y ∷ ys) table another sent again closed ended held kept a_table b_table same like one two =
    let here = one_alike ends now x y table another one.sent_first two.sent_first one.closed_first two.closed_first one.held_first two.held_first one.between two.between (first_same _ _ _ _ same) like one.passes two.passes in
    let rest = all_alike ends now xs ys one.between two.between one.sent_rest two.sent_rest one.closed_rest two.closed_rest one.held_rest two.held_rest a_table b_table (rest_same _ _ _ _ same) here.table_same one.others two.others in
    record {
      sent_same = one.sent_all ∙ (λ i. here.sent_same i ++ rest.sent_same i) ∙ sym two.sent_all;
      closed_same = one.closed_all ∙ (λ i. here.closed_same i ++ rest.closed_same i) ∙ sym two.closed_all;
      held_same = ap (map association_content) one.held_all ∙ map-append association_content one.held_first one.held_rest ∙ (λ i. here.held_same i ++ rest.held_same i)
          ∙ sym (map-append association_content two.held_first two.held_rest) ∙ sym (ap (map association_content) two.held_all);
      table_same = rest.table_same;
    }

pub one_tick : EndsAlike → (now : ℕ) (old other a b : List Association) (table another a_table b_table : Database) (one two : Ticked)
    → map association_content old ≡ map association_content other → table_content table ≡ table_content another → Ticks now old table one a a_table → Ticks now other another two b b_table
    → (one ≡ two) × (map association_content a ≡ map association_content b) × (table_content a_table ≡ table_content b_table)
one_tick ends now old other a b table another a_table b_table one two same like first second =
    let is = all_alike ends now old other table another one.requests two.requests one.closed two.closed a b a_table b_table same like first second in
    (λ i. record { requests = is.sent_same i; closed = is.closed_same i }, is.held_same, is.table_same)
