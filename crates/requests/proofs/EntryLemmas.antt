-- Entries by number, and the finite map that they show.
use Rattle.std.proofs.Common.{◌≡◌, ◌≢◌, ◌+◌, ◌<◌, ◌≤◌, ◌++◌, ◌∷◌, [], ◌==◌, ℕ, zero, suc, List, length, Bool, true, false, cond, not, Option, Some, None, IsSome, is_some, unwrap_or, min, ◌⊎◌, MatchBool, arith, sym, ap, ◌∙◌, refl, inl, inr, subst, nat_lt}
use Rattle.std.proofs.lemmas.Bool.{true≢false, eq-eqb, ne_eqb}
use Rattle.std.proofs.lemmas.Bool.Decides.{eqb_tells, leb_tells, nat_tests}
use Rattle.std.proofs.lemmas.Option.{none-some}
use Rattle.std.proofs.lemmas.List.Quantifiers.{position-Some}
use Rattle.std.specs.List.{position, position_or_len, remove, slice_index_or, filter, HoldsAt, AllWithin}
use Rattle.std.specs.Ordering.{nat_cmp}
use Rattle.std.specs.Cmp.{nat_cmp_total, unsigned_tied}
use Rattle.std.specs.FinMap as map
use Rattle.requests.specs.Outgoing.{IsAbove, SomeOutstanding, NoneOutstanding, is_above}
use Rattle.requests.specs.Storage.{StandOnce, HasNoneAbove, IsNextItem, next_above}

untold : (b : Bool) (i : ℕ) → cond b (Some i) None ≡ None → b ≡ false
untold true i is = absurd (none-some i (sym is))
untold false i is = refl

above_told : (low : Option ℕ) (n : ℕ) → is_above low n ≡ true → IsAbove low n
above_told None n is = tt
above_told (Some m) n is = grind (arith, nat_tests, is)

above_not : (low : Option ℕ) (n : ℕ) → is_above low n ≡ false → ¬ IsAbove low n
above_not None n is = λ _. true≢false is
above_not (Some m) n is = λ above. let not : n ≤ m = grind (arith, nat_tests, is) in omega arith

step_before : (low first : Option ℕ) (n f g : ℕ) → f ≤ min (unwrap_or first n) n → first ≡ Some g → f ≤ g
step_before low None n f g least is = absurd (none-some g is)
step_before low (Some h) n f g least is = let same : h ≡ g = cc in omega arith

step_least : (first : Option ℕ) (n f : ℕ) → f ≤ min (unwrap_or first n) n → f ≤ n
step_least first n f least = omega arith

module _ {X : Type 0} where
  abbrev choice : Option X → Option X → Bool → Option X
  choice here there b = cond b here there

  pub inserted_here : (m : map.FinMap nat_cmp X) (k q : ℕ) (v : X) → q ≡ k → map.get (map.insert m k v) q ≡ Some v
  inserted_here m k q v same = map.get-insert nat_cmp_total m k v q ∙ ap (choice (Some v) (map.get m q)) (unsigned_tied q k ∙ eq-eqb q k same)

  pub inserted_apart : (m : map.FinMap nat_cmp X) (k q : ℕ) (v : X) → q ≢ k → map.get (map.insert m k v) q ≡ map.get m q
  inserted_apart m k q v apart = map.get-insert nat_cmp_total m k v q ∙ ap (choice (Some v) (map.get m q)) (unsigned_tied q k ∙ ne_eqb q k apart)

  pub removed_here : (m : map.FinMap nat_cmp X) (k q : ℕ) → q ≡ k → map.get (map.remove m k) q ≡ None
  removed_here m k q same = map.get-remove nat_cmp_total m k q ∙ ap (choice None (map.get m q)) (unsigned_tied q k ∙ eq-eqb q k same)

  pub removed_apart : (m : map.FinMap nat_cmp X) (k q : ℕ) → q ≢ k → map.get (map.remove m k) q ≡ map.get m q
  removed_apart m k q apart = map.get-remove nat_cmp_total m k q ∙ ap (choice None (map.get m q)) (unsigned_tied q k ∙ ne_eqb q k apart)

  pub same_map : (m n : map.FinMap nat_cmp X) → ((q : ℕ) → map.get m q ≡ map.get n q) → m ≡ n
  same_map m n is = map.same_map nat_cmp_total map.nat_cmp-IsAntisymmetric m n is

  -- to take an item out first changes nothing
  pub replaced : (m : map.FinMap nat_cmp X) (k : ℕ) (v : X) → map.insert (map.remove m k) k v ≡ map.insert m k v
  replaced m k v =
      same_map _ _ (λ q. elim (eqb_tells q k) [
        | inl (_, same) ↦ inserted_here _ k q v same ∙ sym (inserted_here m k q v same)
        | inr (_, apart) ↦ inserted_apart _ k q v apart ∙ removed_apart m k q apart ∙ sym (inserted_apart m k q v apart)
      ])

  -- ---- finding an entry
  abbrev pub is_under : ℕ → ℕ × X → Bool
  is_under n entry = entry.0 == n

  abbrev pub find : ℕ → List (ℕ × X) → Option X
  find n es = map.find nat_cmp n es

  found_here : (n : ℕ) (e : ℕ × X) (es : List (ℕ × X)) → e.0 ≡ n → find n (e ∷ es) ≡ Some e.1
  found_here n e es same = ap (choice (Some e.1) (find n es)) (unsigned_tied n e.0 ∙ eq-eqb n e.0 (sym same))

  found_further : (n : ℕ) (e : ℕ × X) (es : List (ℕ × X)) → e.0 ≢ n → find n (e ∷ es) ≡ find n es
  found_further n e es apart = ap (choice (Some e.1) (find n es)) (unsigned_tied n e.0 ∙ ne_eqb n e.0 (λ same. apart (sym same)))

  pub get_is : (es : List (ℕ × X)) (q : ℕ) → map.get (map.from_entries {R = nat_cmp} es) q ≡ find q es
  get_is es q = map.get-from_entries nat_cmp_total es q

  cons_map : (e : ℕ × X) (es : List (ℕ × X)) → map.from_entries {R = nat_cmp} (e ∷ es) ≡ map.insert (map.from_entries es) e.0 e.1
  cons_map e es =
      same_map _ _ (λ q. elim (eqb_tells q e.0) [
        | inl (_, same) ↦ get_is (e ∷ es) q ∙ found_here q e es (sym same) ∙ sym (inserted_here (map.from_entries es) e.0 q e.1 same)
        | inr (_, apart) ↦
            get_is (e ∷ es) q ∙ found_further q e es (λ same. apart (sym same)) ∙ sym (get_is es q)
            ∙ sym (inserted_apart (map.from_entries es) e.0 q e.1 apart)
      ])

  pub one_item_more : (m : map.FinMap nat_cmp X) (k : ℕ) (v : X) → map.get m k ≡ None → map.len (map.insert m k v) ≡ map.len m + 1
  one_item_more m k v none =
      let new_one : map.contains_key m k ≡ false = ap is_some none in
      map.len-insert nat_cmp_total m k v ∙ ap (λ b. cond b (map.len m) (map.len m + 1)) new_one

  -- entries of which each number stands once are as many as the items
  pub as_many : (es : List (ℕ × X)) → StandOnce es → map.len (map.from_entries {R = nat_cmp} es) ≡ length es
  as_many [] once = map.len-empty nat_cmp X
  as_many (e ∷ es) once =
      ap map.len (cons_map e es) ∙ one_item_more (map.from_entries es) e.0 e.1 (get_is es e.0 ∙ once.0) ∙ ap (λ (n : ℕ). n + 1) (as_many es once.1)
      ∙ omega arith

  -- after an entry whose number is new
  pub pushed : (es : List (ℕ × X)) (n : ℕ) (v : X) → find n es ≡ None → map.from_entries {R = nat_cmp} (es ++ (n, v) ∷ []) ≡ map.insert (map.from_entries es) n v
  pushed es n v none = map.from_entries_push nat_cmp_total map.nat_cmp-IsAntisymmetric es n v none

  find_pushed : (es : List (ℕ × X)) (q n : ℕ) (v : X) → q ≢ n → find q es ≡ None → find q (es ++ (n, v) ∷ []) ≡ None
  find_pushed [] q n v apart none = found_further q (n, v) [] (λ same. apart (sym same))
  find_pushed (e ∷ es) q n v apart none =
      elim (eqb_tells e.0 q) [
        | inl (_, same) ↦ absurd (none-some e.1 (sym none ∙ found_here q e es same))
        | inr (_, other) ↦ found_further q e (es ++ (n, v) ∷ []) other ∙ find_pushed es q n v apart (sym (found_further q e es other) ∙ none)
      ]

  pub pushed_once : (es : List (ℕ × X)) (n : ℕ) (v : X) → StandOnce es → find n es ≡ None → StandOnce (es ++ (n, v) ∷ [])
  pushed_once [] n v once none = (refl, tt)
  pushed_once (e ∷ es) n v once none =
      elim (eqb_tells e.0 n) [
        | inl (_, same) ↦ absurd (none-some e.1 (sym none ∙ found_here n e es same))
        | inr (_, apart) ↦ (find_pushed es e.0 n v apart once.0, pushed_once es n v once.1 (sym (found_further n e es apart) ∙ none))
      ]

  -- ---- the entry at a place
  at_place : (es : List (ℕ × X)) (n i : ℕ) → StandOnce es → i < length es → ((d : ℕ × X) → (slice_index_or es i d).0 ≡ n) → (d : ℕ × X) → find n es ≡ Some (slice_index_or es i d).1
  at_place [] n i once inside is d = absurd (omega arith)
  at_place (e ∷ es) n zero once inside is d = found_here n e es (is d)
  at_place (e ∷ es) n (suc i) once inside is d =
      let rest = at_place es n i once.1 (omega arith) is d in
      found_further n e es (λ same. none-some _ (sym (ap (λ (q : ℕ). find q es) (sym same) ∙ once.0) ∙ rest)) ∙ rest

  is_first : (es : List (ℕ × X)) (n i : ℕ) (e : ℕ × X) → StandOnce (e ∷ es) → i < length es → ((d : ℕ × X) → (slice_index_or es i d).0 ≡ n) → e.0 ≢ n
  is_first es n i e once inside is same = none-some _ (sym (ap (λ (q : ℕ). find q es) (sym same) ∙ once.0) ∙ at_place es n i once.1 inside is e)

  gone : (es : List (ℕ × X)) (n i : ℕ) → StandOnce es → i < length es → ((d : ℕ × X) → (slice_index_or es i d).0 ≡ n) → find n (remove es i) ≡ None
  gone [] n i once inside is = absurd (omega arith)
  gone (e ∷ es) n zero once inside is = ap (λ (q : ℕ). find q es) (sym (is e)) ∙ once.0
  gone (e ∷ es) n (suc i) once inside is =
      found_further n e (remove es i) (is_first es n i e once (omega arith) is) ∙ gone es n i once.1 (omega arith) is

  stays : (es : List (ℕ × X)) (n i q : ℕ) → i < length es → ((d : ℕ × X) → (slice_index_or es i d).0 ≡ n) → q ≢ n → find q (remove es i) ≡ find q es
  stays [] n i q inside is apart = absurd (omega arith)
  stays (e ∷ es) n zero q inside is apart = sym (found_further q e es (λ same. apart (sym same ∙ is e)))
  stays (e ∷ es) n (suc i) q inside is apart =
      elim (eqb_tells e.0 q) [
        | inl (_, same) ↦ found_here q e (remove es i) same ∙ sym (found_here q e es same)
        | inr (_, other) ↦ found_further q e (remove es i) other ∙ stays es n i q (omega arith) is apart ∙ sym (found_further q e es other)
      ]

  left_once : (es : List (ℕ × X)) (n i : ℕ) → StandOnce es → i < length es → ((d : ℕ × X) → (slice_index_or es i d).0 ≡ n) → StandOnce (remove es i)
  left_once [] n i once inside is = absurd (omega arith)
  left_once (e ∷ es) n zero once inside is = once.1
  left_once (e ∷ es) n (suc i) once inside is =
      (stays es n i e.0 (omega arith) is (is_first es n i e once (omega arith) is) ∙ once.0, left_once es n i once.1 (omega arith) is)

  -- what a place tells that was found
  pub record IsPlace (es : List (ℕ × X)) (n i : ℕ) : Type 0 where
    pub inside : i < length es
    pub item : (d : ℕ × X) → map.get (map.from_entries {R = nat_cmp} es) n ≡ Some (slice_index_or es i d).1
    pub left : map.from_entries {R = nat_cmp} (remove es i) ≡ map.remove (map.from_entries es) n
    pub once : StandOnce (remove es i)

  number_at : (es : List (ℕ × X)) (n i : ℕ) → position (is_under n) es ≡ Some i → (d : ℕ × X) → (slice_index_or es i d).0 ≡ n
  number_at es n i found d = let is = (position-Some (is_under n) es i d found).1 in grind (arith, nat_tests, is)

  pub placed : (es : List (ℕ × X)) (n i : ℕ) (d : ℕ × X) → StandOnce es → position (is_under n) es ≡ Some i → IsPlace es n i
  placed es n i d once found =
      let inside : i < length es = (position-Some (is_under n) es i d found).0 in
      let is = number_at es n i found in
      record {
        inside = inside;
        item = λ d. get_is es n ∙ at_place es n i once inside is d;
        left = same_map _ _ (λ q. elim (eqb_tells q n) [
          | inl (_, same) ↦ get_is (remove es i) q ∙ ap (λ (k : ℕ). find k (remove es i)) same ∙ gone es n i once inside is ∙ sym (removed_here (map.from_entries es) n q same)
          | inr (_, apart) ↦ get_is (remove es i) q ∙ stays es n i q inside is apart ∙ sym (get_is es q) ∙ sym (removed_apart (map.from_entries es) n q apart)
        ]);
        once = left_once es n i once inside is;
      }

  no_place : (es : List (ℕ × X)) (n : ℕ) → length es ≤ position_or_len (is_under n) es → find n es ≡ None
  no_place [] n past = refl
  no_place (e ∷ es) n past =
      elim (eqb_tells e.0 n) [
        | inl (is, same) ↦ absurd (let none : position_or_len (is_under n) (e ∷ es) ≡ 0 = ap (λ b. cond (not b) (1 + position_or_len (is_under n) es) 0) is in omega arith)
        | inr (is, apart) ↦
            (let more : position_or_len (is_under n) (e ∷ es) ≡ 1 + position_or_len (is_under n) es = ap (λ b. cond (not b) (1 + position_or_len (is_under n) es) 0) is in
            found_further n e es apart ∙ no_place es n (omega arith))
      ]

  pub unplaced : (es : List (ℕ × X)) (n : ℕ) → position (is_under n) es ≡ None → map.get (map.from_entries {R = nat_cmp} es) n ≡ None
  unplaced es n lost =
      let past : nat_lt (position_or_len (is_under n) es) (length es) ≡ false = untold _ _ lost in
      get_is es n ∙ no_place es n (grind (arith, nat_tests, past))

  -- one that is there has a place
  pub has_place : (es : List (ℕ × X)) (n : ℕ) → IsSome (map.get (map.from_entries {R = nat_cmp} es) n) → (o : Option ℕ) → o ≡ position (is_under n) es → IsSome o
  has_place es n there None is = absurd (true≢false (sym there ∙ ap is_some (unplaced es n (sym is))))
  has_place es n there (Some i) is = refl

  -- ---- those whose numbers pass a test
  none_either : (b : Bool) → cond {A = Option X} b None None ≡ None
  none_either true = refl
  none_either false = refl

  find_passing : (p : ℕ → Bool) (es : List (ℕ × X)) (q : ℕ) → find q (filter (λ e. p e.0) es) ≡ cond (p q) (find q es) None
  find_passing p [] q = elim (p q) as (λ b. find q [] ≡ cond b (find q []) None) [ true ↦ refl | false ↦ refl ]
  find_passing p (e ∷ es) q =
      let rest = find_passing p es q in
      elim (p e.0) as (λ b. p e.0 ≡ b → find q (cond b (e ∷ filter (λ e. p e.0) es) (filter (λ e. p e.0) es)) ≡ cond (p q) (find q (e ∷ es)) None) [
        | true ↦ λ passes. elim (eqb_tells e.0 q) [
          | inl (_, same) ↦
              (let its : p q ≡ true = ap p (sym same) ∙ passes in
              found_here q e (filter (λ e. p e.0) es) same ∙ sym (ap (λ b. cond b (find q (e ∷ es)) None) its ∙ found_here q e es same))
          | inr (_, apart) ↦ found_further q e (filter (λ e. p e.0) es) apart ∙ rest ∙ ap (λ o. cond (p q) o None) (sym (found_further q e es apart))
        ]
        | false ↦ λ fails. elim (eqb_tells e.0 q) [
          | inl (_, same) ↦
              (let its : p q ≡ false = ap p (sym same) ∙ fails in
              rest ∙ ap (λ b. cond b (find q es) None) its ∙ sym (ap (λ b. cond b (find q (e ∷ es)) None) its))
          | inr (_, apart) ↦ rest ∙ ap (λ o. cond (p q) o None) (sym (found_further q e es apart))
        ]
      ] refl

  pub passing_once : (p : ℕ → Bool) (es : List (ℕ × X)) → StandOnce es → StandOnce (filter (λ e. p e.0) es)
  passing_once p [] once = tt
  passing_once p (e ∷ es) once =
      elim (p e.0) as (λ b. StandOnce (cond b (e ∷ filter (λ e. p e.0) es) (filter (λ e. p e.0) es))) [
        | true ↦ (find_passing p es e.0 ∙ ap (λ o. cond (p e.0) o None) once.0 ∙ none_either (p e.0), passing_once p es once.1)
        | false ↦ passing_once p es once.1
      ]

  pub retained : (m : map.FinMap nat_cmp X) (p : ℕ → Bool) (q : ℕ) → map.get (map.retain_keys m p) q ≡ cond (p q) (map.get m q) None
  retained m p q = map.get-retain_keys m p q (λ x tie. ap p (sym (map.nat_cmp-IsAntisymmetric q x tie)))

  pub passing_map : (p : ℕ → Bool) (es : List (ℕ × X)) → map.from_entries {R = nat_cmp} (filter (λ e. p e.0) es) ≡ map.retain_keys (map.from_entries es) p
  passing_map p es =
      same_map _ _ (λ q. get_is (filter (λ e. p e.0) es) q ∙ find_passing p es q ∙ ap (λ o. cond (p q) o None) (sym (get_is es q))
      ∙ sym (retained (map.from_entries es) p q))

  -- ---- the least number above another one, where `first` was found before
  pub record IsLeastAbove (es : List (ℕ × X)) (low first : Option ℕ) (f : ℕ) : Type 0 where
    pub from : (first ≡ Some f) ⊎ (IsAbove low f × IsSome (find f es))
    pub before : (g : ℕ) → first ≡ Some g → f ≤ g
    pub least : (q : ℕ) → IsAbove low q → IsSome (find q es) → f ≤ q

  there_here : (e : ℕ × X) (es : List (ℕ × X)) → IsSome (find e.0 (e ∷ es))
  there_here e es = ap is_some (found_here e.0 e es refl)

  there_further : (q : ℕ) (e : ℕ × X) (es : List (ℕ × X)) → IsSome (find q es) → IsSome (find q (e ∷ es))
  there_further q e es there =
      elim (eqb_tells e.0 q) [
        | inl (_, same) ↦ ap is_some (found_here q e es same)
        | inr (_, apart) ↦ ap is_some (found_further q e es apart) ∙ there
      ]

  there_cases : (q : ℕ) (e : ℕ × X) (es : List (ℕ × X)) → IsSome (find q (e ∷ es)) → (e.0 ≡ q) ⊎ (IsSome (find q es))
  there_cases q e es there =
      elim (eqb_tells e.0 q) [
        | inl (_, same) ↦ inl same
        | inr (_, apart) ↦ inr (ap is_some (sym (found_further q e es apart)) ∙ there)
      ]

  step_from : (e : ℕ × X) (es : List (ℕ × X)) (low first : Option ℕ) (f : ℕ) → IsAbove low e.0 → IsLeastAbove es low (Some (min (unwrap_or first e.0) e.0)) f
      → (first ≡ Some f) ⊎ (IsAbove low f × IsSome (find f (e ∷ es)))
  step_from e es low None f above rest =
      elim rest.from [
        | inl same ↦ (let is : e.0 ≡ f = (let lesser : min e.0 e.0 ≡ f = cc in omega arith) in inr (subst (λ (n : ℕ). IsAbove low n × IsSome (find n (e ∷ es))) is (above, there_here e es)))
        | inr there ↦ inr (there.0, there_further f e es there.1)
      ]
  step_from e es low (Some g) f above rest =
      elim rest.from [
        | inl same ↦
            (let lesser : min g e.0 ≡ f = cc in
            elim (leb_tells g e.0) [
              | inl (_, less) ↦ inl (ap (λ (n : ℕ). Some n) (let is : g ≡ f = omega arith in is))
              | inr (_, more) ↦ (let is : e.0 ≡ f = omega arith in inr (subst (λ (n : ℕ). IsAbove low n × IsSome (find n (e ∷ es))) is (above, there_here e es)))
            ])
        | inr there ↦ inr (there.0, there_further f e es there.1)
      ]

  pub next_found : (es : List (ℕ × X)) (low first : Option ℕ) (f : ℕ) → next_above low first es ≡ Some f → IsLeastAbove es low first f
  next_found [] low first f is = record {
    from = inl is;
    before = λ g same. (let one : f ≡ g = (let both : Some f ≡ Some g = sym is ∙ same in cc) in omega arith);
    least = λ q above there. absurd (true≢false (sym there));
  }
  next_found (e ∷ es) low first f is =
      elim (is_above low e.0) as (λ b. is_above low e.0 ≡ b → next_above low (cond b (Some (min (unwrap_or first e.0) e.0)) first) es ≡ Some f → IsLeastAbove (e ∷ es) low first f) [
        | true ↦ λ told is.
            (let rest = next_found es low (Some (min (unwrap_or first e.0) e.0)) f is in
            let near : f ≤ min (unwrap_or first e.0) e.0 = rest.before _ refl in
            record {
              from = step_from e es low first f (above_told low e.0 told) rest;
              before = λ g same. step_before low first e.0 f g near same;
              least = λ q above there. elim (there_cases q e es there) [
                | inl same ↦ subst (λ (n : ℕ). f ≤ n) same (step_least first e.0 f near)
                | inr further ↦ rest.least q above further
              ];
            })
        | false ↦ λ told is.
            (let rest = next_found es low first f is in
            record {
              from = elim rest.from [ inl same ↦ inl same | inr there ↦ inr (there.0, there_further f e es there.1) ];
              before = rest.before;
              least = λ q above there. elim (there_cases q e es there) [
                | inl same ↦ absurd (above_not low e.0 told (subst (IsAbove low) (sym same) above))
                | inr further ↦ rest.least q above further
              ];
            })
      ] refl is

  next_none : (es : List (ℕ × X)) (low first : Option ℕ) → next_above low first es ≡ None → (first ≡ None) × ((q : ℕ) → IsAbove low q → find q es ≡ None)
  next_none [] low first is = (is, λ q above. refl)
  next_none (e ∷ es) low first is =
      elim (is_above low e.0) as (λ b. is_above low e.0 ≡ b → next_above low (cond b (Some (min (unwrap_or first e.0) e.0)) first) es ≡ None → (first ≡ None) × ((q : ℕ) → IsAbove low q → find q (e ∷ es) ≡ None)) [
        | true ↦ λ told is. absurd (none-some _ (sym (next_none es low (Some (min (unwrap_or first e.0) e.0)) is).0))
        | false ↦ λ told is.
            (let rest = next_none es low first is in
            (rest.0, λ q above. found_further q e es (λ same. above_not low e.0 told (subst (IsAbove low) (sym same) above)) ∙ rest.1 q above))
      ] refl is

  missing : (o : Option X) → (IsSome o → ⊥) → o ≡ None
  missing None not = refl
  missing (Some x) not = absurd (not refl)

  -- what the first number above tells of the map
  pub next_item : (es : List (ℕ × X)) (low : Option ℕ) (f : ℕ) (x : X) → next_above low None es ≡ Some f → Some x ≡ map.get (map.from_entries {R = nat_cmp} es) f → IsNextItem (map.from_entries es) low f x
  next_item es low f x is item =
      let next = next_found es low None f is in record {
        there = sym item;
        above = elim next.from [ inl none ↦ absurd (none-some f none) | inr there ↦ there.0 ];
        least = λ other above less. get_is es other ∙ missing (find other es) (λ there. let least = next.least other above there in omega arith);
      }

  pub no_item : (es : List (ℕ × X)) (low : Option ℕ) → next_above low None es ≡ None → HasNoneAbove (map.from_entries es) low
  no_item es low is = λ other above. get_is es other ∙ (next_none es low None is).1 other above

  pub next_there : (es : List (ℕ × X)) (low : Option ℕ) (f : ℕ) → next_above low None es ≡ Some f → IsSome (map.get (map.from_entries {R = nat_cmp} es) f)
  next_there es low f is =
      elim (next_found es low None f is).from [ inl none ↦ absurd (none-some f none) | inr there ↦ ap is_some (get_is es f) ∙ there.1 ]

  -- ---- a test of each item
  find_somewhere : (es : List (ℕ × X)) (n : ℕ) (x : X) → find n es ≡ Some x → (k : ℕ) × (k < length es) × ((d : ℕ × X) → (slice_index_or es k d).1 ≡ x)
  find_somewhere [] n x is = absurd (none-some x is)
  find_somewhere (e ∷ es) n x is =
      elim (eqb_tells e.0 n) [
        | inl (_, same) ↦ (zero, omega arith, λ d. let both : Some e.1 ≡ Some x = sym (found_here n e es same) ∙ is in cc)
        | inr (_, apart) ↦
            (let rest = find_somewhere es n x (sym (found_further n e es apart) ∙ is) in
            (suc rest.0, omega (arith, rest.1), rest.2))
      ]

  find_at : (es : List (ℕ × X)) (k : ℕ) (d : ℕ × X) → StandOnce es → k < length es → find (slice_index_or es k d).0 es ≡ Some (slice_index_or es k d).1
  find_at [] k d once inside = absurd (omega arith)
  find_at (e ∷ es) zero d once inside = found_here e.0 e es refl
  find_at (e ∷ es) (suc k) d once inside =
      let rest = find_at es k d once.1 (omega arith) in
      found_further (slice_index_or es k d).0 e es (λ same. none-some _ (sym (ap (λ (q : ℕ). find q es) (sym same) ∙ once.0) ∙ rest)) ∙ rest

  pub same_entry : (es : List (ℕ × X)) (k : ℕ) (d e : ℕ × X) → k < length es → slice_index_or es k d ≡ slice_index_or es k e
  same_entry [] k d e inside = absurd (omega arith)
  same_entry (x ∷ es) zero d e inside = refl
  same_entry (x ∷ es) (suc k) d e inside = same_entry es k d e (omega arith)

  an_entry : (es : List (ℕ × X)) (k : ℕ) → k < length es → ℕ × X
  an_entry [] k inside = absurd (omega arith)
  an_entry (e ∷ es) k inside = e

  pub tested : (es : List (ℕ × X)) (Answers : X → Bool → Type 0) (r : Bool) → StandOnce es
      → MatchBool r ((k : ℕ) × (k < length es) × HoldsAt (λ e. Answers e.1 true) es k) (AllWithin (λ e. Answers e.1 false) es 0 (length es))
      → MatchBool r (SomeOutstanding (map.from_entries es) Answers) (NoneOutstanding (map.from_entries es) Answers)
  tested es Answers true once some =
      let d = an_entry es some.0 some.1 in record {
        number = (slice_index_or es some.0 d).0;
        request = (slice_index_or es some.0 d).1;
        there = get_is es (slice_index_or es some.0 d).0 ∙ find_at es some.0 d once some.1;
        passes = some.2 d;
      }
  tested es Answers false once none = λ number request there.
      let place = find_somewhere es number request (sym (get_is es number) ∙ there) in
      subst (λ x. Answers x false) (place.2 (number, request)) (none place.0 (number, request) (omega arith) place.1)
