-- What becomes of answers as pairs change.
use Rattle.std.proofs.Common.{◌≡◌, ◌≢◌, ◌↔◌, ◌∙◌, ℕ, IsTrue, Bool, cond, List, Option, Some, inl, inr, refl, sym, ap, subst}
use Rattle.std.specs.FinMap as map
use Rattle.std.proofs.lemmas.Bool.{eq-eqb, ne_eqb}
use Rattle.std.proofs.lemmas.Bool.Decides.{eqb_tells}
use Rattle.std.specs.Cmp.{nat_cmp_total, unsigned_tied}
use Rattle.base.specs.declared.selector.Selector.{Selector}
use Rattle.policy.specs.Decisions.{Covers}
use Rattle.policy.specs.declared.entry.Entry.{Entry}
use Rattle.policy.specs.declared.flow.Flow.{Flow}
use Rattle.sadb.specs.Database.{Carries, ChangesAt, Database, IsLive, pair_at, PairMap}
use Rattle.sadb.specs.declared.pair.Pair.{Pair}
use Rattle.sadb.specs.declared.pair.State.TheVariants.{Live}
use Rattle.flows.specs.declared.memory.Answer.{Answer}
use Rattle.flows.specs.declared.treatment.Treatment.{Treatment}
use Rattle.flows.specs.declared.treatment.Treatment.TheVariants.{Carried, Uncarried, Bypassed, Discarded}
use Rattle.flows.specs.Memory.{AllRight}
use Rattle.flows.specs.Staying.{NoneComes, WasThere}
use Rattle.flows.specs.Treatments.{Counts, IsCarriedSo, IsTreatment}

one_pair : (a b : Pair) → Some a ≡ Some b → a ≡ b
one_pair a b is = cc

pub live_there : (pairs : PairMap) (serial : ℕ) (pair : Pair) (b : Bool) → Some pair ≡ pair_at pairs serial → (IsTrue b ↔ (pair.state ≡ Live)) → IsTrue b ↔ IsLive pairs serial
live_there pairs serial pair b there is = (
  λ true. record { pair = pair; there = sym there; live = is.0 true },
  λ live. is.1 (ap (λ (p : Pair). p.state) (one_pair pair live.pair (there ∙ live.there)) ∙ live.live),
)

-- ---- no pair comes

module _ (old new : PairMap) (none : NoneComes old new) where
  was_live : (serial : ℕ) → IsLive new serial → IsLive old serial
  was_live serial is =
      let was : WasThere old serial is.pair = none serial is.pair is.there in
      record { pair = was.was; there = was.there; live = was.live is.live }

  carried_before : (flow : Flow) (serial : ℕ) → Carries new flow serial → Carries old flow serial
  carried_before flow serial is =
      let was : WasThere old serial is.pair = none serial is.pair is.there in
      record {
        pair = was.was;
        there = was.there;
        live = was.live is.live;
        covered = subst (λ (remote : List Selector). Covers was.was.local remote flow) was.remote
            (subst (λ (local : List Selector). Covers local is.pair.remote flow) was.local is.covered);
      }

  -- what is Live and carried the flow carries it still
  carries_still : (flow : Flow) (serial : ℕ) → IsLive new serial → Carries old flow serial → Carries new flow serial
  carries_still flow serial is before =
      let was : WasThere old serial is.pair = none serial is.pair is.there in
      let same : before.pair ≡ was.was = one_pair before.pair was.was (sym before.there ∙ was.there) in
      record {
        pair = is.pair;
        there = is.there;
        live = is.live;
        covered = subst (λ (remote : List Selector). Covers is.pair.local remote flow) (ap (λ (p : Pair). p.remote) same ∙ sym was.remote)
            (subst (λ (local : List Selector). Covers local before.pair.remote flow) (ap (λ (p : Pair). p.local) same ∙ sym was.local) before.covered);
      }

  counted : (treatment : Treatment) → Counts new treatment → Counts old treatment
  counted (Carried serial) is = was_live serial is
  counted Uncarried is = tt
  counted Bypassed is = tt
  counted Discarded is = tt

  carried_still : (flow : Flow) (treatment : Treatment) → Counts new treatment → IsCarriedSo old flow treatment → IsCarriedSo new flow treatment
  carried_still flow (Carried serial) live is = record {
    carries = carries_still flow serial live is.carries;
    greatest = λ other above carries. is.greatest other above (carried_before flow other carries);
  }
  carried_still flow Uncarried live none = λ serial carries. none serial (carried_before flow serial carries)
  carried_still flow Bypassed live is = tt
  carried_still flow Discarded live is = tt

pub all_right_still : (policy : List Entry) (old new : PairMap) (memory : List (Option Answer)) → NoneComes old new → AllRight policy old memory → AllRight policy new memory
all_right_still policy old new memory none right = λ flow treatment is.
    (let before : IsTreatment policy old flow treatment = right flow treatment (record { held = is.held; counts = counted old new none treatment is.counts }) in
    record { decision = before.decision; carried = carried_still old new none flow treatment is.counts before.carried })

-- ---- a pair is changed

abbrev choice : Option Pair → Option Pair → Bool → Option Pair
choice here there b = cond b here there

inserted_here : (m : PairMap) (k q : ℕ) (v : Pair) → q ≡ k → pair_at (map.insert m k v) q ≡ Some v
inserted_here m k q v same = map.get-insert nat_cmp_total m k v q ∙ ap (choice (Some v) (pair_at m q)) (unsigned_tied q k ∙ eq-eqb q k same)

inserted_apart : (m : PairMap) (k q : ℕ) (v : Pair) → q ≢ k → pair_at (map.insert m k v) q ≡ pair_at m q
inserted_apart m k q v apart = map.get-insert nat_cmp_total m k v q ∙ ap (choice (Some v) (pair_at m q)) (unsigned_tied q k ∙ ne_eqb q k apart)

itself : (pairs : PairMap) (serial : ℕ) (pair : Pair) → pair_at pairs serial ≡ Some pair → WasThere pairs serial pair
itself pairs serial pair there = record { was = pair; there = there; local = refl; remote = refl; live = λ live. live }

-- the pair at one serial got other windows and numbers alone
pub none_comes : (old : Database) (serial : ℕ) (was is : Pair) (new : Database) → ChangesAt old serial was is new → is.local ≡ was.local → is.remote ≡ was.remote → is.state ≡ was.state
    → NoneComes old.pairs new.pairs
none_comes old serial was is new changes local remote state = λ other pair there.
    (let now : pair_at (map.insert old.pairs serial is) other ≡ Some pair = subst (λ (d : Database). pair_at d.pairs other ≡ Some pair) changes.content there in
    elim (eqb_tells other serial) [
      | inl (_, same) ↦
          (let it : is ≡ pair = one_pair is pair (sym (inserted_here old.pairs serial other is same) ∙ now) in
          subst (λ (p : Pair). WasThere old.pairs other p) it (record {
            was = was;
            there = ap (pair_at old.pairs) same ∙ changes.there;
            local = local;
            remote = remote;
            live = λ live. sym state ∙ live;
          }))
      | inr (_, apart) ↦ itself old.pairs other pair (sym (inserted_apart old.pairs serial other is apart) ∙ now)
    ])
