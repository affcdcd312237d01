-- What goes for the SPIs that are named.
use Rattle.std.proofs.Common.{◌≡◌, ◌≢◌, ◌<◌, ◌≤◌, ◌+◌, ◌++◌, ◌∷◌, [], ◌==◌, ℕ, List, true, Option, Some, None, length, get_or, take, arith, sym, ap, ◌∙◌, refl, inl, inr, subst, suc, zero}
use Rattle.std.specs.Prelude.{All, Any, Contains}
use Rattle.std.specs.FinMap.{remove}
use Rattle.std.specs.List.{cons_option, AllZip}
use Rattle.std.proofs.lemmas.Bool.{eq-eqb, or_left, or_right}
use Rattle.std.proofs.lemmas.Bool.Decides.{eqb_tells}
use Rattle.std.proofs.lemmas.List.{append-nil, length-map, map-append, take_more}
use Rattle.std.proofs.lemmas.List.Elements.{All-cons, All-head, All-map, All-nil, All-tail, All-weaker}
use Rattle.std.proofs.lemmas.List.Kept.{AllPairs-cons}
use Rattle.std.proofs.lemmas.Option.{same_Some}
use Rattle.sadb.specs.Database.{pair_at, BelongsTo, HasInbound, IsLive, IsSenderUnder, PairMap, SendsUnder}
use Rattle.sadb.specs.declared.pair.Pair.{Pair}
use Rattle.sadb.specs.declared.pair.State.TheVariants.{Live, Deleting}
use Rattle.deletions.specs.Deciding.{AreLivePairs}
use Rattle.deletions.specs.Naming.{deleted_by, deleted_for, deleted_pairs, inbound_spis_of, left_by, named_limit, serials_of, without}
use Rattle.deletions.specs.Removing.{AreDistinct}
use Rattle.deletions.specs.declared.naming.DeletedPairs.{DeletedPairs}
use Rattle.deletions.proofs.LeftLemmas.{left_told, live_yet, sends_first, stands, stands_then, was_there}
use Rattle.deletions.proofs.SenderLemmas.{deleted_live, deleted_not, deleted_told, under}

-- an SA pair is there under its serial, Live, of the IKE SA, and sends under one of the SPIs
record Goes (pairs : PairMap) (ike : ℕ) (spis : List ℕ) (e : ℕ × Pair) : Type 0 where
  there : pair_at pairs e.0 ≡ Some e.1
  live : IsLive pairs e.0
  sends : Any (λ spi. SendsUnder pairs ike spi e.0) spis

-- ---- the SA pair that was looked at

module _ (m : PairMap) (ns : List ℕ) (ike spi serial : ℕ) (pair : Pair) where
  there_left : IsSenderUnder (without m ns) ike spi serial → Some pair ≡ pair_at m serial → pair_at (without m ns) serial ≡ Some pair
  there_left sends here =
      let s = sends.sends in
      s.there ∙ ap Some (same_Some s.pair pair (sym (left_told m ns serial s.pair s.there).0 ∙ sym here))

  pub live_here : IsSenderUnder (without m ns) ike spi serial → Some pair ≡ pair_at m serial → pair.serial ≡ serial → pair.state ≡ Live
      → deleted_for (without m ns) ike spi ≡ Some (pair.serial, pair)
  live_here sends here own live = deleted_live (without m ns) ike spi serial pair sends (there_left sends here) live ∙ ap (λ (n : ℕ). Some (under n pair)) (sym own)

  pub deleting_here : IsSenderUnder (without m ns) ike spi serial → Some pair ≡ pair_at m serial → pair.state ≡ Deleting → deleted_for (without m ns) ike spi ≡ None
  deleting_here sends here is = deleted_not (without m ns) ike spi serial pair sends (there_left sends here) is

module _ (ike : ℕ) where
  -- ---- those that go first, and those that go for the SPIs behind

  abbrev gone : PairMap → List ℕ → List ℕ
  gone pairs spis = serials_of (deleted_pairs pairs ike spis)

  append_by : (o : Option (ℕ × Pair)) (pairs : PairMap) (first more : List ℕ)
      → ((m : PairMap) → deleted_pairs m ike (first ++ more) ≡ deleted_pairs m ike first ++ deleted_pairs (without m (gone m first)) ike more)
      → cons_option o (deleted_pairs (left_by pairs o) ike (first ++ more))
      ≡ cons_option o (deleted_pairs (left_by pairs o) ike first) ++ deleted_pairs (without pairs (serials_of (cons_option o (deleted_pairs (left_by pairs o) ike first)))) ike more
  append_by None pairs first more rest = rest pairs
  append_by (Some e) pairs first more rest = ap (λ (es : List (ℕ × Pair)). e ∷ es) (rest (remove pairs e.0))

  pub deleted-append : (first more : List ℕ) (pairs : PairMap) → deleted_pairs pairs ike (first ++ more) ≡ deleted_pairs pairs ike first ++ deleted_pairs (without pairs (gone pairs first)) ike more
  deleted-append [] more pairs = refl
  deleted-append (spi ∷ first) more pairs = append_by (deleted_for pairs ike spi) pairs first more (deleted-append first more)

  pub deleted-push : (pairs : PairMap) (spis : List ℕ) (spi : ℕ) (o : Option (ℕ × Pair)) → deleted_for (without pairs (gone pairs spis)) ike spi ≡ o
      → deleted_pairs pairs ike (spis ++ spi ∷ []) ≡ deleted_pairs pairs ike spis ++ cons_option o []
  deleted-push pairs spis spi o is = deleted-append spis (spi ∷ []) pairs ∙ ap (λ (p : Option (ℕ × Pair)). deleted_pairs pairs ike spis ++ cons_option p []) is

  -- ---- what goes

  goes_later : (pairs : PairMap) (n spi : ℕ) (spis : List ℕ) (e : ℕ × Pair) → Goes (remove pairs n) ike spis e → Goes pairs ike (spi ∷ spis) e × (n ≢ e.0)
  goes_later pairs n spi spis e goes =
      let was = was_there pairs n e.0 e.1 goes.there in
      let s = goes.sends in (
        record {
          there = was.1;
          live = record { pair = goes.live.pair; there = (was_there pairs n e.0 goes.live.pair goes.live.there).1; live = goes.live.live };
          sends = (suc s.0, s.1, omega (arith, s.2), s.3, record { pair = s.4.pair; there = (was_there pairs n e.0 s.4.pair s.4.there).1; its = s.4.its; under = s.4.under });
        },
        λ same. was.0 (sym same),
      )

  goes_behind : (pairs : PairMap) (spi : ℕ) (spis : List ℕ) (e : ℕ × Pair) → Goes pairs ike spis e → Goes pairs ike (spi ∷ spis) e
  goes_behind pairs spi spis e goes = (let s = goes.sends in record { there = goes.there; live = goes.live; sends = (suc s.0, s.1, omega (arith, s.2), s.3, s.4) })

  goes_first : (pairs : PairMap) (spi : ℕ) (spis : List ℕ) (e : ℕ × Pair) → deleted_for pairs ike spi ≡ Some e → Goes pairs ike (spi ∷ spis) e
  goes_first pairs spi spis e is =
      let told = deleted_told pairs ike spi e is in
      record {
        there = told.there;
        live = record { pair = e.1; there = told.there; live = told.live };
        sends = (0, spi, omega arith, refl, told.sends.sends);
      }

  go_by : (o : Option (ℕ × Pair)) (pairs : PairMap) (spi : ℕ) (spis : List ℕ) → deleted_for pairs ike spi ≡ o → ((m : PairMap) → All (Goes m ike spis) (deleted_pairs m ike spis))
      → All (Goes pairs ike (spi ∷ spis)) (cons_option o (deleted_pairs (left_by pairs o) ike spis))
  go_by None pairs spi spis is rest = All-weaker (Goes pairs ike spis) (Goes pairs ike (spi ∷ spis)) (goes_behind pairs spi spis) (deleted_pairs pairs ike spis) (rest pairs)
  go_by (Some e) pairs spi spis is rest =
      All-cons (Goes pairs ike (spi ∷ spis)) e (deleted_pairs (remove pairs e.0) ike spis) (goes_first pairs spi spis e is)
      (All-weaker (Goes (remove pairs e.0) ike spis) (Goes pairs ike (spi ∷ spis)) (λ d goes. (goes_later pairs e.0 spi spis d goes).0) (deleted_pairs (remove pairs e.0) ike spis) (rest (remove pairs e.0)))

  all_go : (spis : List ℕ) (pairs : PairMap) → All (Goes pairs ike spis) (deleted_pairs pairs ike spis)
  all_go [] pairs = All-nil (Goes pairs ike [])
  all_go (spi ∷ spis) pairs = go_by (deleted_for pairs ike spi) pairs spi spis refl (all_go spis)

  -- of the serials alone
  serials_all : (P : ℕ → Type 0) (pairs : PairMap) (spis : List ℕ) → ((e : ℕ × Pair) → Goes pairs ike spis e → P e.0) → All P (gone pairs spis)
  serials_all P pairs spis each =
      All-map P (λ (e : ℕ × Pair). e.0) (deleted_pairs pairs ike spis) (All-weaker (Goes pairs ike spis) (λ (e : ℕ × Pair). P e.0) each (deleted_pairs pairs ike spis) (all_go spis pairs))

  pub all_sent : (pairs : PairMap) (spis : List ℕ) → All (λ serial. Any (λ spi. SendsUnder pairs ike spi serial) spis) (gone pairs spis)
  all_sent pairs spis = serials_all (λ serial. Any (λ spi. SendsUnder pairs ike spi serial) spis) pairs spis (λ e goes. goes.sends)

  pub all_live : (pairs : PairMap) (spis : List ℕ) → All (IsLive pairs) (gone pairs spis)
  all_live pairs spis = serials_all (IsLive pairs) pairs spis (λ e goes. goes.live)

  pub all_its_own : (pairs : PairMap) (spis : List ℕ) → All (BelongsTo pairs ike) (gone pairs spis)
  all_its_own pairs spis = serials_all (BelongsTo pairs ike) pairs spis (λ e goes. (let s = goes.sends.4 in record { pair = s.pair; there = s.there; its = s.its }))

  -- ---- none twice

  distinct_by : (o : Option (ℕ × Pair)) (pairs : PairMap) (spis : List ℕ) → ((m : PairMap) → AreDistinct (gone m spis)) → AreDistinct (serials_of (cons_option o (deleted_pairs (left_by pairs o) ike spis)))
  distinct_by None pairs spis rest = rest pairs
  distinct_by (Some e) pairs spis rest =
      AllPairs-cons (λ (a b : ℕ). a ≢ b) e.0 (gone (remove pairs e.0) spis)
      (serials_all (λ (n : ℕ). e.0 ≢ n) (remove pairs e.0) spis (λ d goes. (goes_later pairs e.0 0 spis d goes).1)) (rest (remove pairs e.0))

  pub all_distinct : (spis : List ℕ) (pairs : PairMap) → AreDistinct (gone pairs spis)
  all_distinct [] pairs = λ i j d less short. absurd (omega arith)
  all_distinct (spi ∷ spis) pairs = distinct_by (deleted_for pairs ike spi) pairs spis (all_distinct spis)

  -- ---- how many

  few_by : (o : Option (ℕ × Pair)) (pairs : PairMap) (spis : List ℕ) → ((m : PairMap) → length (deleted_pairs m ike spis) ≤ length spis)
      → length (cons_option o (deleted_pairs (left_by pairs o) ike spis)) ≤ length spis + 1
  few_by None pairs spis rest = (let fewer = rest pairs in omega arith)
  few_by (Some e) pairs spis rest = (let fewer = rest (remove pairs e.0) in omega arith)

  few_pairs : (spis : List ℕ) (pairs : PairMap) → length (deleted_pairs pairs ike spis) ≤ length spis
  few_pairs [] pairs = omega arith
  few_pairs (spi ∷ spis) pairs = (let few = few_by (deleted_for pairs ike spi) pairs spis (few_pairs spis) in omega arith)

  pub few_go : (pairs : PairMap) (spis : List ℕ) → length (gone pairs spis) ≤ length spis
  few_go pairs spis = (let few = few_pairs spis pairs in omega (arith, length-map (deleted_pairs pairs ike spis) (λ (e : ℕ × Pair). e.0)))

  pub as_many : (pairs : PairMap) (spis : List ℕ) → length (inbound_spis_of (deleted_pairs pairs ike spis)) ≡ length (gone pairs spis)
  as_many pairs spis = length-map (deleted_pairs pairs ike spis) (λ (e : ℕ × Pair). e.1.inbound.association.spi) ∙ sym (length-map (deleted_pairs pairs ike spis) (λ (e : ℕ × Pair). e.0))

  -- ---- the SPIs of the other direction

  receive : (pairs : PairMap) (spis : List ℕ) (es : List (ℕ × Pair)) → All (Goes pairs ike spis) es → AllZip (λ serial spi. HasInbound pairs spi serial) (serials_of es) (inbound_spis_of es)
  receive pairs spis [] all = tt
  receive pairs spis (e ∷ es) all =
      let first : HasInbound pairs e.1.inbound.association.spi e.0 = record { pair = e.1; there = (All-head (Goes pairs ike spis) e es all).there; its_own = refl } in
      (first, receive pairs spis es (All-tail (Goes pairs ike spis) e es all))

  pub all_receive : (pairs : PairMap) (spis : List ℕ) → AllZip (λ serial spi. HasInbound pairs spi serial) (gone pairs spis) (inbound_spis_of (deleted_pairs pairs ike spis))
  all_receive pairs spis = receive pairs spis (deleted_pairs pairs ike spis) (all_go spis pairs)

  -- ---- the first that sends under a named SPI goes

  abbrev Stands : PairMap → List ℕ → ℕ → Type 0
  Stands pairs spis serial = stands serial (gone pairs spis) ≡ true

  here_by : (o : Option (ℕ × Pair)) (es : List (ℕ × Pair)) (serial : ℕ) (pair : Pair) → o ≡ Some (serial, pair) → stands serial (serials_of (cons_option o es)) ≡ true
  here_by o es serial pair is = ap (λ (p : Option (ℕ × Pair)). stands serial (serials_of (cons_option p es))) is ∙ or_left (serial == serial) (stands serial (serials_of es)) (eq-eqb serial serial refl)

  later_by : (o : Option (ℕ × Pair)) (pairs : PairMap) (spis : List ℕ) (spi serial : ℕ) → IsSenderUnder pairs ike spi serial → IsLive pairs serial
      → ((m : PairMap) → IsSenderUnder m ike spi serial → IsLive m serial → Stands m spis serial) → stands serial (serials_of (cons_option o (deleted_pairs (left_by pairs o) ike spis))) ≡ true
  later_by None pairs spis spi serial sends live rest = rest pairs sends live
  later_by (Some e) pairs spis spi serial sends live rest = elim (eqb_tells e.0 serial) [
    | inl (is, _) ↦ or_left (e.0 == serial) (stands serial (gone (remove pairs e.0) spis)) is
    | inr (_, apart) ↦
        (let other : serial ≢ e.0 = λ same. apart (sym same) in
        or_right (e.0 == serial) (stands serial (gone (remove pairs e.0) spis)) (rest (remove pairs e.0) (sends_first pairs e.0 ike spi serial other sends) (live_yet pairs e.0 serial other live)))
  ]

  stands_there : (spis : List ℕ) (spi serial : ℕ) → Contains spis spi → (pairs : PairMap) → IsSenderUnder pairs ike spi serial → IsLive pairs serial → Stands pairs spis serial
  stands_there [] spi serial (k, short, same) pairs sends live = absurd (omega arith)
  stands_there (s ∷ spis) spi serial (zero, short, same) pairs sends live =
      here_by (deleted_for pairs ike s) (deleted_pairs (left_by pairs (deleted_for pairs ike s)) ike spis) serial live.pair
      (ap (deleted_for pairs ike) same ∙ deleted_live pairs ike spi serial live.pair sends live.there live.live)
  stands_there (s ∷ spis) spi serial (suc k, short, same) pairs sends live =
      later_by (deleted_for pairs ike s) pairs spis spi serial sends live (stands_there spis spi serial (k, omega (arith, short), same))

  pub each_goes : (pairs : PairMap) (spis : List ℕ) (spi serial : ℕ) → Contains spis spi → IsSenderUnder pairs ike spi serial → IsLive pairs serial → Contains (gone pairs spis) serial
  each_goes pairs spis spi serial there sends live = stands_then serial (gone pairs spis) (stands_there spis spi serial there pairs sends live)

  -- ---- one more SPI

  serials-append : (xs ys : List (ℕ × Pair)) → serials_of (xs ++ ys) ≡ serials_of xs ++ serials_of ys
  serials-append xs ys = map-append (λ (e : ℕ × Pair). e.0) xs ys

  inbound-append : (xs ys : List (ℕ × Pair)) → inbound_spis_of (xs ++ ys) ≡ inbound_spis_of xs ++ inbound_spis_of ys
  inbound-append xs ys = map-append (λ (e : ℕ × Pair). e.1.inbound.association.spi) xs ys

  -- an SA pair that goes is left
  live_left : (pairs : PairMap) (ns : List ℕ) (spi serial : ℕ) → IsSenderUnder (without pairs ns) ike spi serial → IsLive pairs serial
      → (pair : Pair) × (pair_at (without pairs ns) serial ≡ Some pair) × (deleted_for (without pairs ns) ike spi ≡ Some (serial, pair))
  live_left pairs ns spi serial sends live =
      let s = sends.sends in
      let was : pair_at pairs serial ≡ Some s.pair = (left_told pairs ns serial s.pair s.there).0 in
      let same : live.pair ≡ s.pair = same_Some live.pair s.pair (sym live.there ∙ was) in
      (s.pair, s.there, deleted_live (without pairs ns) ike spi serial s.pair sends s.there (ap (λ (p : Pair). p.state) (sym same) ∙ live.live))

  -- and none goes where the first that sends is not Live
  none_left : (pairs : PairMap) (ns : List ℕ) (spi : ℕ) → ((serial : ℕ) → IsSenderUnder (without pairs ns) ike spi serial → ¬ IsLive pairs serial) → deleted_for (without pairs ns) ike spi ≡ None
  none_left pairs ns spi not =
      elim (deleted_for (without pairs ns) ike spi) as (λ o. deleted_for (without pairs ns) ike spi ≡ o → o ≡ None) [
        | None ↦ λ is. refl
        | Some e ↦ λ is.
            let told = deleted_told (without pairs ns) ike spi e is in
            absurd (not e.0 told.sends (record { pair = e.1; there = (left_told pairs ns e.0 e.1 told.there).0; live = told.live }))
      ] refl

  pub one_more : (pairs : PairMap) (spis : List ℕ) (spi serial : ℕ) → IsSenderUnder (without pairs (gone pairs spis)) ike spi serial → IsLive pairs serial
      → gone pairs (spis ++ spi ∷ []) ≡ gone pairs spis ++ serial ∷ []
  one_more pairs spis spi serial sends live =
      let found = live_left pairs (gone pairs spis) spi serial sends live in
      ap serials_of (deleted-push pairs spis spi (Some (serial, found.0)) found.2) ∙ serials-append (deleted_pairs pairs ike spis) ((serial, found.0) ∷ [])

  -- the record of the serials and SPIs of some SA pairs
  abbrev told_of : List (ℕ × Pair) → DeletedPairs
  told_of es = record { serials = serials_of es; inbound_spis = inbound_spis_of es }

  pub no_more : (pairs : PairMap) (spis : List ℕ) (spi : ℕ) → ((serial : ℕ) → IsSenderUnder (without pairs (gone pairs spis)) ike spi serial → ¬ IsLive pairs serial)
      → deleted_by pairs ike (spis ++ spi ∷ []) ≡ deleted_by pairs ike spis
  no_more pairs spis spi not = ap told_of (deleted-push pairs spis spi None (none_left pairs (gone pairs spis) spi not) ∙ append-nil (deleted_pairs pairs ike spis))

  pub named_twice : (pairs : PairMap) (spi first next : ℕ) → IsSenderUnder pairs ike spi first → IsLive pairs first → IsSenderUnder (without pairs (first ∷ [])) ike spi next → IsLive pairs next
      → gone pairs (spi ∷ spi ∷ []) ≡ first ∷ next ∷ []
  named_twice pairs spi first next sends live more also =
      let once : gone pairs (spi ∷ []) ≡ first ∷ [] = one_more pairs [] spi first sends live in
      one_more pairs (spi ∷ []) spi next (subst (λ (ns : List ℕ). IsSenderUnder (without pairs ns) ike spi next) (sym once) more) also
      ∙ ap (λ (ns : List ℕ). ns ++ next ∷ []) once

  pub in_order : (pairs : PairMap) (first more : List ℕ) → (later : List ℕ) × (gone pairs (first ++ more) ≡ gone pairs first ++ later)
  in_order pairs first more = (
    gone (without pairs (gone pairs first)) more,
    ap serials_of (deleted-append first more pairs) ∙ serials-append (deleted_pairs pairs ike first) (deleted_pairs (without pairs (gone pairs first)) ike more),
  )

  -- ---- a walk over the SPIs

  pub walked_serials : (pairs : PairMap) (spis : List ℕ) (i : ℕ) (o : Option (ℕ × Pair)) → i < length spis → deleted_for (without pairs (gone pairs (take i spis))) ike (get_or spis i 0) ≡ o
      → gone pairs (take i spis) ++ serials_of (cons_option o []) ≡ gone pairs (take (i + 1) spis)
  walked_serials pairs spis i o short is =
      sym (serials-append (deleted_pairs pairs ike (take i spis)) (cons_option o []))
      ∙ ap serials_of (sym (deleted-push pairs (take i spis) (get_or spis i 0) o is))
      ∙ ap (gone pairs) (sym (take_more spis i 0 short))

  pub walked_inbound : (pairs : PairMap) (spis : List ℕ) (i : ℕ) (o : Option (ℕ × Pair)) → i < length spis → deleted_for (without pairs (gone pairs (take i spis))) ike (get_or spis i 0) ≡ o
      → inbound_spis_of (deleted_pairs pairs ike (take i spis)) ++ inbound_spis_of (cons_option o []) ≡ inbound_spis_of (deleted_pairs pairs ike (take (i + 1) spis))
  walked_inbound pairs spis i o short is =
      sym (inbound-append (deleted_pairs pairs ike (take i spis)) (cons_option o []))
      ∙ ap inbound_spis_of (sym (deleted-push pairs (take i spis) (get_or spis i 0) o is))
      ∙ ap (λ (xs : List ℕ). inbound_spis_of (deleted_pairs pairs ike xs)) (sym (take_more spis i 0 short))

  pub are_live_pairs : (pairs : PairMap) (spis : List ℕ) → length spis ≤ named_limit → AreLivePairs pairs ike (deleted_by pairs ike spis)
  are_live_pairs pairs spis short =
      let few = few_go pairs spis in
      let same = as_many pairs spis in
      record {
        live = all_live pairs spis;
        its_own = all_its_own pairs spis;
        distinct = all_distinct spis pairs;
        inbound = all_receive pairs spis;
        few = omega arith;
      }
