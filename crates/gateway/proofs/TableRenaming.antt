-- What becomes of a table, and what is asked of it, goes by no serial of an IKE SA.
use Rattle.std.proofs.Common.{◌≡◌, ◌+◌, ◌≤◌, ◌==◌, ◌&&◌, ℕ, true, false, cond, List, [], ◌∷◌, map, Option, Some, None, inl, inr, refl, sym, ap, subst, ◌∙◌}
use Rattle.std.specs.Prelude.{nat_lt, option_and_then, if◌then◌else◌}
use Rattle.std.proofs.lemmas.Bool.{eq-eqb, ne_eqb}
use Rattle.std.proofs.lemmas.Bool.Decides.{eqb_tells}
use Rattle.std.specs.FinMap.{entries}
use Rattle.std.specs.FinSet as set
use Rattle.std.specs.List.{cons_option, find}
use Rattle.std.specs.Option.{option_map}
use Rattle.wire.specs.declared.payload.Payload.{Payload}
use Rattle.exchange.specs.Counting.{unknown_critical}
use Rattle.exchange.specs.Deletions.{count_of_spis, deletes_association, esp_spis}
use Rattle.sadb.specs.Database.{pair_at, BelongsTo, ChangesAt, Database, HasInbound, Installs, IsAsBefore, IsFull, IsLive, IsReady, IsTableRefusal, Marks, PairMap, Releases, RemovesAllOf, Reserves}
use Rattle.sadb.specs.declared.fault.TableFault.{TableFault}
use Rattle.sadb.specs.declared.fault.TableFault.TheVariants.{Full, Spent, Memory}
use Rattle.sadb.specs.declared.pair.Pair.{Pair}
use Rattle.sadb.specs.declared.pair.State.TheVariants.{Live, Deleting}
use Rattle.children.specs.Responding.{AddsNext, CanTake}
use Rattle.association.specs.Closing.{Closes, GivesUpSpi, GivesUpSpis, HoldsSpi}
use Rattle.association.specs.declared.phase.Association.{Association}
use Rattle.deletions.specs.Deciding.{verdict_by, verdict_on}
use Rattle.deletions.specs.Naming.{deleted_by, deleted_for, deleted_pairs, if_live, inbound_spis_of, is_sender, left_by, named_limit, sender, serials_of}
use Rattle.deletions.specs.Removing.{RemovesNamed}
use Rattle.deletions.specs.declared.deciding.Verdict.TheVariants as verdict
use Rattle.deletions.specs.declared.naming.DeletedPairs.{DeletedPairs}
use Rattle.gateway.specs.Renaming.{renamed_association, renamed_entry, renamed_pair, renamed_pairs, renamed_table}
use Rattle.gateway.proofs.PairRenaming.{count_renamed, entries_renamed, insert_renamed, is_there, remove_renamed, was_there, WasPair}

-- no two serials become the same
abbrev pub KeepsApart : (ℕ → ℕ) → Type 0
KeepsApart r = (one other : ℕ) → r one ≡ r other → one ≡ other

-- an SA pair that goes for an SPI, if one does
abbrev if_it_goes : Option (ℕ × Pair) → Option (ℕ × Pair)
if_it_goes found = option_and_then (λ e. if_live e.1.state e) found

module _ (r : ℕ → ℕ) where
  -- ---- what is asked of a table

  pub full_renamed : (d : Database) → IsFull d → IsFull (renamed_table r d)
  full_renamed d is = subst (λ n. 1024 ≤ n + set.len d.reserved) (sym (count_renamed r d.pairs)) is

  pub was_full : (d : Database) → IsFull (renamed_table r d) → IsFull d
  was_full d is = subst (λ n. 1024 ≤ n + set.len d.reserved) (count_renamed r d.pairs) is

  pub not_full_renamed : (d : Database) → ¬ IsFull d → ¬ IsFull (renamed_table r d)
  not_full_renamed d none = λ is. none (was_full d is)

  pub was_not_full : (d : Database) → ¬ IsFull (renamed_table r d) → ¬ IsFull d
  was_not_full d none = λ is. none (full_renamed d is)

  pub refusal_renamed : (d : Database) (fault : TableFault) → IsTableRefusal d fault → IsTableRefusal (renamed_table r d) fault
  refusal_renamed d Full is = full_renamed d is
  refusal_renamed d Spent is = (not_full_renamed d is.0, is.1)
  refusal_renamed d Memory is = (not_full_renamed d is.0, is.1, is.2)

  pub refusal_was : (d : Database) (fault : TableFault) → IsTableRefusal (renamed_table r d) fault → IsTableRefusal d fault
  refusal_was d Full is = was_full d is
  refusal_was d Spent is = (was_not_full d is.0, is.1)
  refusal_was d Memory is = (was_not_full d is.0, is.1, is.2)

  pub ready_renamed : (d : Database) → IsReady d → IsReady (renamed_table r d)
  ready_renamed d it = record { room = it.room; not_full = not_full_renamed d it.not_full; not_spent = it.not_spent }

  pub can_take_renamed : (d : Database) (pair : Pair) → CanTake d pair → CanTake (renamed_table r d) (renamed_pair r pair)
  can_take_renamed d pair it = record { ready = ready_renamed d it.ready; next = it.next }

  -- ---- the SA pairs

  -- an SA pair stands, by what it was
  pub stands_renamed : (pairs : PairMap) (serial : ℕ) (now pair : Pair) → pair_at pairs serial ≡ Some pair → now ≡ renamed_pair r pair → pair_at (renamed_pairs r pairs) serial ≡ Some now
  stands_renamed pairs serial now pair there is = is_there r pairs serial pair there ∙ ap (λ (p : Pair). Some p) (sym is)

  pub belongs_renamed : (pairs : PairMap) (ike serial : ℕ) → BelongsTo pairs ike serial → BelongsTo (renamed_pairs r pairs) (r ike) serial
  belongs_renamed pairs ike serial it = record { pair = renamed_pair r it.pair; there = is_there r pairs serial it.pair it.there; its = ap r it.its }

  pub live_renamed : (pairs : PairMap) (serial : ℕ) → IsLive pairs serial → IsLive (renamed_pairs r pairs) serial
  live_renamed pairs serial it = record { pair = renamed_pair r it.pair; there = is_there r pairs serial it.pair it.there; live = it.live }

  pub was_live : (pairs : PairMap) (serial : ℕ) → IsLive (renamed_pairs r pairs) serial → IsLive pairs serial
  was_live pairs serial it =
      let was : WasPair r pairs serial it.pair = was_there r pairs serial it.pair it.there in
      record { pair = was.pair; there = was.there; live = sym (ap (λ (p : Pair). p.state) was.renamed) ∙ it.live }

  pub inbound_renamed : (pairs : PairMap) (spi serial : ℕ) → HasInbound pairs spi serial → HasInbound (renamed_pairs r pairs) spi serial
  inbound_renamed pairs spi serial it = record { pair = renamed_pair r it.pair; there = is_there r pairs serial it.pair it.there; its_own = it.its_own }

  pub was_inbound : (pairs : PairMap) (spi serial : ℕ) → HasInbound (renamed_pairs r pairs) spi serial → HasInbound pairs spi serial
  was_inbound pairs spi serial it =
      let was : WasPair r pairs serial it.pair = was_there r pairs serial it.pair it.there in
      record { pair = was.pair; there = was.there; its_own = sym (ap (λ (p : Pair). p.inbound.association.spi) was.renamed) ∙ it.its_own }

  -- ---- what becomes of a table

  pub as_before_renamed : (old new : Database) → IsAsBefore old new → IsAsBefore (renamed_table r old) (renamed_table r new)
  as_before_renamed old new it = record { content = ap (renamed_table r) it.content; room = it.room }

  pub reserves_renamed : (old : Database) (spi : ℕ) (new : Database) → Reserves old spi new → Reserves (renamed_table r old) spi (renamed_table r new)
  reserves_renamed old spi new it = record { in_order = it.in_order; content = ap (renamed_table r) it.content; room = it.room }

  pub releases_renamed : (old : Database) (spi : ℕ) (new : Database) → Releases old spi new → Releases (renamed_table r old) spi (renamed_table r new)
  releases_renamed old spi new it = record { reserved = it.reserved; content = ap (renamed_table r) it.content; room = it.room; no_more = it.no_more }

  pub gives_up_spi_renamed : (spi : Option ℕ) (old new : Database) → GivesUpSpi spi old new → GivesUpSpi spi (renamed_table r old) (renamed_table r new)
  gives_up_spi_renamed None old new it = ap (renamed_table r) it
  gives_up_spi_renamed (Some spi) old new it = releases_renamed old spi new it

  pub gives_up_spis_renamed : (Held : ℕ → Type 0) (old new : Database) → GivesUpSpis Held old new → GivesUpSpis Held (renamed_table r old) (renamed_table r new)
  gives_up_spis_renamed Held old new it = record { reserved = it.reserved; content = ap (renamed_table r) it.content; room = it.room }

  pub installs_renamed : (old : Database) (spi : ℕ) (pair : Pair) (serial : ℕ) (new : Database) → Installs old spi pair serial new → Installs (renamed_table r old) spi (renamed_pair r pair) serial (renamed_table r new)
  installs_renamed old spi pair serial new it = record {
    reserved = it.reserved;
    its_own = it.its_own;
    in_order = it.in_order;
    content = ap (renamed_table r) it.content
        ∙ ap (λ (pairs : PairMap). record old { reserved = set.remove old.reserved spi; next = old.next + 1; pairs = pairs; room = new.room }) (insert_renamed r old.pairs serial (record pair { serial = serial }));
    room = it.room;
    no_more = it.no_more;
  }

  pub adds_next_renamed : (old : Database) (pair : Pair) (serial : ℕ) (new : Database) → AddsNext old pair serial new → AddsNext (renamed_table r old) (renamed_pair r pair) serial (renamed_table r new)
  adds_next_renamed old pair serial new it = record {
    spi = it.spi;
    between = renamed_table r it.between;
    reserved = reserves_renamed old it.spi it.between it.reserved;
    installed = installs_renamed it.between it.spi pair serial new it.installed;
  }

  pub changes_at_renamed : (old : Database) (serial : ℕ) (was is : Pair) (new : Database) → ChangesAt old serial was is new → ChangesAt (renamed_table r old) serial (renamed_pair r was) (renamed_pair r is) (renamed_table r new)
  changes_at_renamed old serial was is new it = record {
    there = is_there r old.pairs serial was it.there;
    content = ap (renamed_table r) it.content ∙ ap (λ (pairs : PairMap). record old { pairs = pairs }) (insert_renamed r old.pairs serial is);
  }

  pub marks_renamed : (old : Database) (serial : ℕ) (new : Database) → Marks old serial new → Marks (renamed_table r old) serial (renamed_table r new)
  marks_renamed old serial new it =
      let pair : Pair = it.pair in
      record { pair = renamed_pair r pair; changed = changes_at_renamed old serial pair (record pair { state = Deleting }) new it.changed }

  pub removes_named_renamed : (old : Database) (serials : List ℕ) (new : Database) → RemovesNamed old serials new → RemovesNamed (renamed_table r old) serials (renamed_table r new)
  removes_named_renamed old serials new it = record {
    kept = λ serial now. (
      (λ there.
          let was : WasPair r new.pairs serial now = was_there r new.pairs serial now there in
          let stood = (it.kept serial was.pair).0 was.there in
          (stands_renamed old.pairs serial now was.pair stood.0 was.renamed, stood.1)),
      (λ both.
          let was : WasPair r old.pairs serial now = was_there r old.pairs serial now both.0 in
          stands_renamed new.pairs serial now was.pair ((it.kept serial was.pair).1 (was.there, both.1)) was.renamed),
    );
    content = ap (renamed_table r) it.content;
    room = it.room;
    no_more = it.no_more;
  }

  -- ---- where no two serials become the same

  module _ (apart : KeepsApart r) where
    pub same_serial : (one other : ℕ) → (r one == r other) ≡ (one == other)
    same_serial one other =
        elim (eqb_tells one other) [
          | inl (is_one, same) ↦ eq-eqb (r one) (r other) (ap r same) ∙ sym is_one
          | inr (is_other, differ) ↦ ne_eqb (r one) (r other) (λ same. differ (apart one other same)) ∙ sym is_other
        ]

    pub was_belonging : (pairs : PairMap) (ike serial : ℕ) → BelongsTo (renamed_pairs r pairs) (r ike) serial → BelongsTo pairs ike serial
    was_belonging pairs ike serial it =
        let was : WasPair r pairs serial it.pair = was_there r pairs serial it.pair it.there in
        record { pair = was.pair; there = was.there; its = apart was.pair.ike ike (sym (ap (λ (p : Pair). p.ike) was.renamed) ∙ it.its) }

    pub removes_all_renamed : (old : Database) (ike : ℕ) (new : Database) → RemovesAllOf old ike new → RemovesAllOf (renamed_table r old) (r ike) (renamed_table r new)
    removes_all_renamed old ike new it = record {
      kept = λ serial now. (
        (λ there.
            let was : WasPair r new.pairs serial now = was_there r new.pairs serial now there in
            let stood = (it.kept serial was.pair).0 was.there in
            (stands_renamed old.pairs serial now was.pair stood.0 was.renamed, λ same. stood.1 (apart was.pair.ike ike (sym (ap (λ (p : Pair). p.ike) was.renamed) ∙ same)))),
        (λ both.
            let was : WasPair r old.pairs serial now = was_there r old.pairs serial now both.0 in
            stands_renamed new.pairs serial now was.pair ((it.kept serial was.pair).1 (was.there, λ same. both.1 (ap (λ (p : Pair). p.ike) was.renamed ∙ ap r same))) was.renamed),
      );
      content = ap (renamed_table r) it.content;
      room = it.room;
    }

    pub closes_renamed : (old new : Association) (table new_table : Database) (moment : ℕ) → Closes old table moment new new_table → Closes (renamed_association r old) (renamed_table r table) moment (renamed_association r new) (renamed_table r new_table)
    closes_renamed old new table new_table moment it = record {
      between = renamed_table r it.between;
      released = gives_up_spis_renamed (HoldsSpi old) table it.between it.released;
      removed = removes_all_renamed it.between old.serial new_table it.removed;
      requests = it.requests;
      content = ap (renamed_association r) it.content;
    }

    -- ---- what a peer's deletions ask for

    found_renamed : (ike spi : ℕ) (es : List (ℕ × Pair)) → find (λ (e : ℕ × Pair). is_sender (r ike) spi e.1) (map (renamed_entry r) es) ≡ option_map (renamed_entry r) (find (λ (e : ℕ × Pair). is_sender ike spi e.1) es)
    found_renamed ike spi [] = refl
    found_renamed ike spi (e ∷ es) =
        ap (λ b. cond (b && (e.1.outbound.association.spi == spi)) (Some (renamed_entry r e)) (find (λ (f : ℕ × Pair). is_sender (r ike) spi f.1) (map (renamed_entry r) es))) (same_serial e.1.ike ike)
        ∙ elim (is_sender ike spi e.1) as (λ b. cond b (Some (renamed_entry r e)) (find (λ (f : ℕ × Pair). is_sender (r ike) spi f.1) (map (renamed_entry r) es)) ≡ option_map (renamed_entry r) (cond b (Some e) (find (λ (f : ℕ × Pair). is_sender ike spi f.1) es))) [
          | true ↦ refl
          | false ↦ found_renamed ike spi es
        ]

    sender_renamed : (pairs : PairMap) (ike spi : ℕ) → sender (renamed_pairs r pairs) (r ike) spi ≡ option_map (renamed_entry r) (sender pairs ike spi)
    sender_renamed pairs ike spi = ap (find (λ (e : ℕ × Pair). is_sender (r ike) spi e.1)) (entries_renamed r pairs) ∙ found_renamed ike spi (entries pairs)

    goes_renamed : (found : Option (ℕ × Pair)) → if_it_goes (option_map (renamed_entry r) found) ≡ option_map (renamed_entry r) (if_it_goes found)
    goes_renamed None = refl
    goes_renamed (Some e) = elim (e.1.state) as (λ s. if_live s (renamed_entry r e) ≡ option_map (renamed_entry r) (if_live s e)) [ Live ↦ refl | Deleting ↦ refl ]

    pub deleted_for_renamed : (pairs : PairMap) (ike spi : ℕ) → deleted_for (renamed_pairs r pairs) (r ike) spi ≡ option_map (renamed_entry r) (deleted_for pairs ike spi)
    deleted_for_renamed pairs ike spi = ap if_it_goes (sender_renamed pairs ike spi) ∙ goes_renamed (sender pairs ike spi)

    left_renamed : (pairs : PairMap) (gone : Option (ℕ × Pair)) → left_by (renamed_pairs r pairs) (option_map (renamed_entry r) gone) ≡ renamed_pairs r (left_by pairs gone)
    left_renamed pairs None = refl
    left_renamed pairs (Some e) = sym (remove_renamed r pairs e.0)

    more_renamed : (gone : Option (ℕ × Pair)) (es : List (ℕ × Pair)) → cons_option (option_map (renamed_entry r) gone) (map (renamed_entry r) es) ≡ map (renamed_entry r) (cons_option gone es)
    more_renamed None es = refl
    more_renamed (Some e) es = refl

    pub deleted_pairs_renamed : (pairs : PairMap) (ike : ℕ) (spis : List ℕ) → deleted_pairs (renamed_pairs r pairs) (r ike) spis ≡ map (renamed_entry r) (deleted_pairs pairs ike spis)
    deleted_pairs_renamed pairs ike [] = refl
    deleted_pairs_renamed pairs ike (spi ∷ others) =
        let gone : Option (ℕ × Pair) = deleted_for pairs ike spi in
        ap (λ (f : Option (ℕ × Pair)). cons_option f (deleted_pairs (left_by (renamed_pairs r pairs) f) (r ike) others)) (deleted_for_renamed pairs ike spi)
        ∙ ap (λ (ps : PairMap). cons_option (option_map (renamed_entry r) gone) (deleted_pairs ps (r ike) others)) (left_renamed pairs gone)
        ∙ ap (cons_option (option_map (renamed_entry r) gone)) (deleted_pairs_renamed (left_by pairs gone) ike others)
        ∙ more_renamed gone (deleted_pairs (left_by pairs gone) ike others)

    same_serials : (es : List (ℕ × Pair)) → serials_of (map (renamed_entry r) es) ≡ serials_of es
    same_serials [] = refl
    same_serials (e ∷ es) = ap (λ (rest : List ℕ). e.0 ∷ rest) (same_serials es)

    same_spis : (es : List (ℕ × Pair)) → inbound_spis_of (map (renamed_entry r) es) ≡ inbound_spis_of es
    same_spis [] = refl
    same_spis (e ∷ es) = ap (λ (rest : List ℕ). e.1.inbound.association.spi ∷ rest) (same_spis es)

    pub deleted_by_renamed : (pairs : PairMap) (ike : ℕ) (spis : List ℕ) → deleted_by (renamed_pairs r pairs) (r ike) spis ≡ deleted_by pairs ike spis
    deleted_by_renamed pairs ike spis =
        let same : deleted_pairs (renamed_pairs r pairs) (r ike) spis ≡ map (renamed_entry r) (deleted_pairs pairs ike spis) = deleted_pairs_renamed pairs ike spis in
        let serials : serials_of (deleted_pairs (renamed_pairs r pairs) (r ike) spis) ≡ serials_of (deleted_pairs pairs ike spis) = ap serials_of same ∙ same_serials (deleted_pairs pairs ike spis) in
        let inbound : inbound_spis_of (deleted_pairs (renamed_pairs r pairs) (r ike) spis) ≡ inbound_spis_of (deleted_pairs pairs ike spis) = ap inbound_spis_of same ∙ same_spis (deleted_pairs pairs ike spis) in
        λ i. record { serials = serials i; inbound_spis = inbound i }

    pub verdict_renamed : (pairs : PairMap) (ike : ℕ) (payloads : Option (List Payload)) → verdict_on (renamed_pairs r pairs) (r ike) payloads ≡ verdict_on pairs ike payloads
    verdict_renamed pairs ike None = refl
    verdict_renamed pairs ike (Some payloads) =
        ap (λ (deleted : DeletedPairs). verdict_by (unknown_critical payloads) (if nat_lt named_limit (count_of_spis payloads) then verdict.BadSyntax else (if deletes_association payloads then verdict.Closes else verdict.Deletes deleted)))
        (deleted_by_renamed pairs ike (esp_spis payloads))
