-- The SA pairs of one IKE SA: found one after the other, and removed.
use Rattle.std.proofs.Common.{◌≡◌, ◌≢◌, ◌+◌, ◌<◌, ◌≤◌, ◌↔◌, ℕ, Bool, true, false, Some, IsTrue, refl, sym, ap, subst, ◌∙◌, inl, inr, arith}
use Rattle.std.specs.Prelude.{nat_eq}
use Rattle.std.proofs.lemmas.Bool.{eqb-true, eq-eqb}
use Rattle.std.proofs.lemmas.Bool.Decides.{eqb_tells, leb_tells}
use Rattle.std.proofs.lemmas.Option.{none-some}
use Rattle.std.specs.FinMap as map
use Rattle.sadb.specs.declared.pair.Pair.{Pair}
use Rattle.policy.specs.declared.flow.Flow.{Flow}
use Rattle.policy.specs.Decisions.{Covers}
use Rattle.sadb.specs.declared.pair.State.TheVariants.{Live}
use Rattle.sadb.specs.Database.{Database, PairMap, pair_at, BelongsTo, Carries, IsSoundTable, RemovesAllOf}
use Rattle.sadb.specs.Storage.{RemovesIfOf}
use Rattle.sadb.proofs.NumberedLemmas.{removed_here, removed_apart}

same_pair : (a b : Pair) → Some a ≡ Some b → a ≡ b
same_pair a b is = cc

pub belongs_by : (pairs : PairMap) (ike serial : ℕ) (pair : Pair) → Some pair ≡ map.get pairs serial
    → IsTrue (nat_eq pair.ike ike) ↔ BelongsTo pairs ike serial
belongs_by pairs ike serial pair here = (
  λ equal. record { pair = pair; there = sym here; its = eqb-true pair.ike ike equal },
  λ b. eq-eqb pair.ike ike (ap (λ (p : Pair). p.ike) (same_pair pair b.pair (here ∙ b.there)) ∙ b.its),
)

pub carries_by : (pairs : PairMap) (flow : Flow) (serial : ℕ) (pair : Pair) (result : Bool) → Some pair ≡ map.get pairs serial
    → IsTrue result ↔ ((pair.state ≡ Live) × Covers pair.local pair.remote flow) → IsTrue result ↔ Carries pairs flow serial
carries_by pairs flow serial pair result here is = (
  λ yes. (let both = is.0 yes in record { pair = pair; there = sym here; live = both.0; covered = both.1 }),
  λ carries.
      (let same : carries.pair ≡ pair = same_pair carries.pair pair (sym carries.there ∙ sym here) in
      is.1 (subst (λ (p : Pair). (p.state ≡ Live) × Covers p.local p.remote flow) same (carries.live, carries.covered))),
)

pub not_both : (b : Bool) → b ≡ false → b ≡ true → ⊥
not_both b is_false is_true = cc

-- none from a start to an end, and not at the end either
pub none_more : (P : ℕ → Type 0) (start end : ℕ) → ((n : ℕ) → start ≤ n → n < end → ¬ P n) → ¬ P end → (n : ℕ) → start ≤ n → n < end + 1 → ¬ P n
none_more P start end none not n above below p =
    elim (leb_tells end n) [
      | inl (_, upward) ↦ (let same : n ≡ end = omega arith in not (subst P same p))
      | inr (_, inside) ↦ none n above (omega arith) p
    ]

nearer : (n k : ℕ) → n < k + 1 → n ≢ k → n < k
nearer n k below apart = elim (leb_tells k n) [
  | inl (_, upward) ↦ absurd (apart (omega arith))
  | inr (_, inside) ↦ omega arith
]

-- ---- all of them removed, those below a serial first

pub record RemovedBelow (old : Database) (ike k : ℕ) (new : Database) : Type 0 where
  pub kept : (serial : ℕ) (pair : Pair) → (pair_at new.pairs serial ≡ Some pair) ↔ ((pair_at old.pairs serial ≡ Some pair) × (serial < k → pair.ike ≢ ike))
  pub content : new ≡ record old { pairs = new.pairs; room = new.room }
  pub room : old.room ≤ new.room

pub none_removed : (d : Database) (ike : ℕ) → RemovedBelow d ike 0 d
none_removed d ike = record {
  kept = λ serial pair. (λ here. (here, λ below. absurd (omega (arith, below))), λ both. both.0);
  content = refl;
  room = omega arith;
}

pub one_more : (old now new : Database) (ike k : ℕ) → RemovedBelow old ike k now → RemovesIfOf now ike k new → RemovedBelow old ike (k + 1) new
one_more old now new ike k before (inl (belongs, removes)) =
    let here : pair_at old.pairs k ≡ Some belongs.pair = ((before.kept k belongs.pair).0 belongs.there).0 in
    let pairs : new.pairs ≡ map.remove now.pairs k = ap (λ (d : Database). d.pairs) removes.content in
    record {
      kept = λ n pair. elim (eqb_tells n k) [
        | inl (_, same) ↦ (
          λ there. absurd (none-some pair (sym (ap (λ (m : PairMap). map.get m n) pairs ∙ removed_here now.pairs k n same) ∙ there)),
          λ both. absurd (both.1 (omega (arith, same)) (ap (λ (p : Pair). p.ike) (same_pair pair belongs.pair (sym both.0 ∙ ap (pair_at old.pairs) same ∙ here)) ∙ belongs.its)),
        )
        | inr (_, apart) ↦
            (let still : map.get new.pairs n ≡ map.get now.pairs n = ap (λ (m : PairMap). map.get m n) pairs ∙ removed_apart now.pairs k n apart in (
              λ there. (let was = (before.kept n pair).0 (sym still ∙ there) in (was.0, λ below. was.1 (nearer n k below apart))),
              λ both. still ∙ (before.kept n pair).1 (both.0, λ below. both.1 (omega (arith, below))),
            ))
      ];
      content =
          removes.content
          ∙ ap (λ (d : Database). record d { pairs = map.remove now.pairs k; room = new.room }) before.content
          ∙ ap (λ (m : PairMap). record old { pairs = m; room = new.room }) (sym pairs);
      room = omega (arith, before.room, removes.room);
    }
one_more old now new ike k before (inr (not, same)) =
    subst (RemovedBelow old ike (k + 1)) (sym same)
    (record {
      kept = λ n pair. (
        λ there. (let was = (before.kept n pair).0 there in (
          was.0,
          λ below its. elim (eqb_tells n k) [
            | inl (_, one) ↦ not (record { pair = pair; there = ap (pair_at now.pairs) (sym one) ∙ there; its = its })
            | inr (_, apart) ↦ was.1 (nearer n k below apart) its
          ],
        )),
        λ both. (before.kept n pair).1 (both.0, λ below. both.1 (omega (arith, below))),
      );
      content = before.content;
      room = before.room;
    })

pub all_removed : (old new : Database) (ike k : ℕ) → IsSoundTable old → old.next ≤ k → RemovedBelow old ike k new → RemovesAllOf old ike new
all_removed old new ike k sound whole removed = record {
  kept = λ serial pair. (
    λ there. (let was = (removed.kept serial pair).0 there in (was.0, was.1 (let given = (sound.serial_given serial pair was.0).1 in omega arith))),
    λ both. (removed.kept serial pair).1 (both.0, λ below. both.1),
  );
  content = removed.content;
  room = removed.room;
}
