-- Keys that are told apart, and what is sent under one of them.
use Rattle.std.proofs.Common.{◌≡◌, ◌⊎◌, ◌↔◌, ◌+◌, ◌++◌, ◌∷◌, Bool, true, false, List, [], Contains, nat_eq, ap, subst, refl, sym, arith, inl, inr}
use Rattle.std.specs.Prelude.{if◌then◌else◌}
use Rattle.std.specs.Bool.{Decides}
use Rattle.std.specs.Cmp.Lexicographic.{pointwise, pointwise_decides}
use Rattle.std.proofs.lemmas.Bool.Decides.{Decides-eqb}
use Rattle.std.proofs.lemmas.List.Elements.{Contains-append_cases, Contains-append_left, Contains-append_right, Contains-push, Contains-push_cases}
use Rattle.base.specs.Octets.{Octets}
use Rattle.suite.specs.declared.key_record.KeyRecord.{KeyRecord}
use Rattle.lockstep.specs.Ends.{Entry}
use Rattle.lockstep.specs.Parties.{Marked, same_keys, texts_of, times, under}

texts_decide : (xs ys : List Octets) → Decides (pointwise (pointwise nat_eq) xs ys) (xs ≡ ys)
texts_decide = pointwise_decides {E = pointwise nat_eq} (pointwise_decides {E = nat_eq} Decides-eqb)

one_text : (x y : Octets) (xs ys : List Octets) → x ∷ xs ≡ y ∷ ys → (x ≡ y) × (xs ≡ ys)
one_text x y xs ys is = (cc, cc)

same_texts : (a b : KeyRecord) → texts_of a ≡ texts_of b → a ≡ b
same_texts a b is =
    let i = one_text _ _ _ _ is in
    let r = one_text _ _ _ _ i.1 in
    let ni = one_text _ _ _ _ r.1 in
    let nr = one_text _ _ _ _ ni.1 in
    let d = one_text _ _ _ _ nr.1 in
    let ai = one_text _ _ _ _ d.1 in
    let ar = one_text _ _ _ _ ai.1 in
    let ei = one_text _ _ _ _ ar.1 in
    let er = one_text _ _ _ _ ei.1 in
    let pi = one_text _ _ _ _ er.1 in
    let pr = one_text _ _ _ _ pi.1 in
    let spi_i : a.spi_i ≡ b.spi_i = (let same = i.0 in cc) in
    let spi_r : a.spi_r ≡ b.spi_r = (let same = r.0 in cc) in
    λ j. record {
      spi_i = spi_i j;
      spi_r = spi_r j;
      nonce_i = ni.0 j;
      nonce_r = nr.0 j;
      sk_d = d.0 j;
      sk_ai = ai.0 j;
      sk_ar = ar.0 j;
      sk_ei = ei.0 j;
      sk_er = er.0 j;
      sk_pi = pi.0 j;
      sk_pr = pr.0 j;
    }

pub same_is : (a b : KeyRecord) → same_keys a b ≡ true → a ≡ b
same_is a b told = same_texts a b ((texts_decide (texts_of a) (texts_of b)).0 told)

pub is_same : (a b : KeyRecord) → a ≡ b → same_keys a b ≡ true
is_same a b is = (texts_decide (texts_of a) (texts_of b)).1 (ap texts_of is)

told : (b : Bool) → (b ≡ true) ⊎ (b ≡ false)
told true = inl refl
told false = inr refl

pub under_append : (keys : KeyRecord) (xs ys : List Marked) → under keys (xs ++ ys) ≡ under keys xs ++ under keys ys
under_append keys [] ys = refl
under_append keys (m ∷ xs) ys =
    elim (same_keys keys m.keys) as (λ b. (if b then m.entry ∷ under keys (xs ++ ys) else under keys (xs ++ ys)) ≡ (if b then m.entry ∷ under keys xs else under keys xs) ++ under keys ys) [
      | true ↦ ap (λ (es : List Entry). m.entry ∷ es) (under_append keys xs ys)
      | false ↦ under_append keys xs ys
    ]

pub times_append : (keys : KeyRecord) (xs ys : List KeyRecord) → times keys (xs ++ ys) ≡ times keys xs + times keys ys
times_append keys [] ys = (let is : times keys ys ≡ 0 + times keys ys = omega arith in is)
times_append keys (k ∷ xs) ys = (let rest = times_append keys xs ys in omega (arith, rest))

pub one_time : (keys : KeyRecord) → times keys (keys ∷ []) ≡ 1
one_time keys = ap (λ b. (if b then 1 else 0) + 0) (is_same keys keys refl)

pub time_of_one : (keys k : KeyRecord) → times keys (k ∷ []) ≡ 1 ↔ (k ≡ keys)
time_of_one keys k = (
  λ is. elim (told (same_keys keys k)) [
    | inl same ↦ sym (same_is keys k same)
    | inr apart ↦ absurd (let none : times keys (k ∷ []) ≡ 0 = ap (λ b. (if b then 1 else 0) + 0) apart in omega (arith, is, none))
  ],
  λ is. ap (λ b. (if b then 1 else 0) + 0) (is_same keys k (sym is)),
)

pub at_head : {X : Type 0} (x : X) (xs : List X) → Contains (x ∷ xs) x
at_head {X} x xs = Contains-append_left (x ∷ []) xs x (Contains-push [] x)

pub further_on : {X : Type 0} (y : X) (xs : List X) (x : X) → Contains xs x → Contains (y ∷ xs) x
further_on {X} y xs x there = Contains-append_right (y ∷ []) xs x there

pub none_there : {X : Type 0} (x : X) → Contains [] x → ⊥
none_there {X} x there = (let less = there.1 in absurd (omega arith))

pub at_head_or_further : {X : Type 0} (y : X) (xs : List X) (x : X) → Contains (y ∷ xs) x → (y ≡ x) ⊎ (Contains xs x)
at_head_or_further {X} y xs x there = elim (Contains-append_cases (y ∷ []) xs x there) [
  | inl here ↦ elim (Contains-push_cases [] y x here) [
    | inl none ↦ absurd (none_there x none)
    | inr same ↦ inl same
  ]
  | inr further ↦ inr further
]

abbrev pub marked : KeyRecord → Entry → Marked
marked keys entry = record { keys = keys; entry = entry }

pub under_there : (keys : KeyRecord) (ms : List Marked) (entry : Entry) → Contains ms (marked keys entry) → Contains (under keys ms) entry
under_there keys [] entry there = absurd (none_there (marked keys entry) there)
under_there keys (m ∷ ms) entry there = elim (at_head_or_further m ms (marked keys entry) there) [
  | inl same ↦
      (let is : same_keys keys m.keys ≡ true = is_same keys m.keys (ap (λ (x : Marked). x.keys) (sym same)) in
      subst (λ b. Contains (if b then m.entry ∷ under keys ms else under keys ms) entry) (sym is)
      (subst (λ (e : Entry). Contains (e ∷ under keys ms) entry) (ap (λ (x : Marked). x.entry) (sym same)) (at_head entry (under keys ms))))
  | inr further ↦
      (let rest = under_there keys ms entry further in
      elim (same_keys keys m.keys) as (λ b. Contains (if b then m.entry ∷ under keys ms else under keys ms) entry) [
        | true ↦ further_on m.entry (under keys ms) entry rest
        | false ↦ rest
      ])
]

pub there_under : (keys : KeyRecord) (ms : List Marked) (entry : Entry) → Contains (under keys ms) entry → Contains ms (marked keys entry)
there_under keys [] entry there = absurd (none_there entry there)
there_under keys (m ∷ ms) entry there = elim (told (same_keys keys m.keys)) [
  | inl tells ↦
      elim (at_head_or_further m.entry (under keys ms) entry (subst (λ b. Contains (if b then m.entry ∷ under keys ms else under keys ms) entry) tells there)) [
        | inl same ↦
            (let its : keys ≡ m.keys = same_is keys m.keys tells in
            subst (λ (x : Marked). Contains (m ∷ ms) x) (λ i. marked (sym its i) (same i)) (at_head m ms))
        | inr further ↦ further_on m ms (marked keys entry) (there_under keys ms entry further)
      ]
  | inr fails ↦ further_on m ms (marked keys entry) (there_under keys ms entry (subst (λ b. Contains (if b then m.entry ∷ under keys ms else under keys ms) entry) fails there))
]
