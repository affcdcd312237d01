-- What IKE_AUTH, and an IKE SA's end, leave of the SA pairs.
use Rattle.std.proofs.Common.{◌≡◌, ◌≢◌, ◌⊎◌, ◌+◌, ◌≤◌, inl, inr, ℕ, cond, Bool, true, false, All, Contains, List, Option, Some, None, ap, refl, subst, sym, ◌∙◌, arith}
use Rattle.std.specs.Cmp.{nat_cmp_total, unsigned_tied}
use Rattle.std.specs.FinMap as map
use Rattle.std.proofs.lemmas.Bool.Decides.{eqb_tells}
use Rattle.std.proofs.lemmas.List.Elements.{All-contains}
use Rattle.wire.specs.declared.payload.Payload.{Payload}
use Rattle.exchange.specs.declared.sealed.Plain.{Plain}
use Rattle.sadb.specs.Database.{pair_at, BelongsTo, Database, Installs, IsAsBefore, PairMap, Releases, RemovesAllOf, Reserves}
use Rattle.sadb.specs.declared.pair.Pair.{Pair}
use Rattle.suite.specs.declared.key_record.KeyRecord.{KeyRecord}
use Rattle.association.specs.Closing.{Closes, GivesUpSpi, GivesUpSpis, HoldsSpi}
use Rattle.association.specs.Phases.{established_spi}
use Rattle.association.specs.declared.phase.Association.{Association}
use Rattle.association.specs.declared.phase.AuthSent.{AuthSent}
use Rattle.association.specs.declared.phase.HalfOpen.{HalfOpen}
use Rattle.auth.specs.Proofs.{Accepts}
use Rattle.base.specs.Octets.{Octets}
use Rattle.children.specs.declared.asking.Asked.{Asked}
use Rattle.children.specs.declared.responding.Made.{Made}
use Rattle.children.specs.declared.responding.Response.TheVariants as response
use Rattle.further.specs.Answering.{further_pair}
use Rattle.further.specs.Concluding.{Concludes, IsConclusion}
use Rattle.further.specs.Deciding.{DecidesFurther, DecidesFurtherBy, IsFurtherDecision}
use Rattle.further.specs.Judging.{Admitted, FurtherJudgement, Refused}
use Rattle.further.specs.declared.concluding.Conclusion.{Conclusion}
use Rattle.further.specs.declared.concluding.Conclusion.TheVariants as conclusion
use Rattle.further.specs.declared.deciding.Decision as deciding
use Rattle.further.specs.declared.deciding.Decision.TheVariants as decided
use Rattle.initial.specs.Answering.{outcome_of}
use Rattle.initial.specs.Concluding.{AddsChild, ConcludesBy}
use Rattle.setup.specs.Configs.{Setup}
use Rattle.initial.specs.Deciding.{Decides, IsDecision}
use Rattle.initial.specs.Ending.{IsFirstChild, IsVerdict, Judges}
use Rattle.informational.specs.Orders.{ClosesIf, RemovesOwn}
use Rattle.effects.specs.Pairs.{IsUnused, LeavesPairs}
use Rattle.initial.specs.declared.concluding.Outcome.{Outcome}
use Rattle.initial.specs.declared.concluding.Outcome.TheVariants as outcome
use Rattle.initial.specs.declared.deciding.Decision.{Decision}
use Rattle.initial.specs.declared.deciding.Decision.TheVariants as decision
use Rattle.effects.proofs.WayLemmas.{pair_made, FurtherIf}
use Rattle.association.specs.Outcomes.{made_by}
use Rattle.association.specs.declared.outcome.Fate.{Fate}

-- ---- maps

inserted : (m : PairMap) (k : ℕ) (v : Pair) (q : ℕ) (p : Pair) → map.get (map.insert m k v) q ≡ Some p → ((q ≡ k) × (Some v ≡ Some p)) ⊎ (map.get m q ≡ Some p)
inserted m k v q p is =
    elim (eqb_tells q k) [
      | inl (one, same) ↦ inl (same, sym (map.get-insert nat_cmp_total m k v q ∙ ap (λ b. cond b (Some v) (map.get m q)) (unsigned_tied q k ∙ one)) ∙ is)
      | inr (none, other) ↦ inr (sym (map.get-insert nat_cmp_total m k v q ∙ ap (λ b. cond b (Some v) (map.get m q)) (unsigned_tied q k ∙ none)) ∙ is)
    ]

inserted_apart : (m : PairMap) (k : ℕ) (v : Pair) (q : ℕ) → q ≢ k → map.get (map.insert m k v) q ≡ map.get m q
inserted_apart m k v q apart =
    elim (eqb_tells q k) [
      | inl (one, same) ↦ absurd (apart same)
      | inr (none, other) ↦ map.get-insert nat_cmp_total m k v q ∙ ap (λ b. cond b (Some v) (map.get m q)) (unsigned_tied q k ∙ none)
    ]

same_pair : (v p : Pair) → Some v ≡ Some p → v ≡ p
same_pair v p e = cc

-- ---- the table's changes

-- another table of the same SA pairs
pub record HasSamePairs (old new : Database) : Type 0 where
  pub start : new.start ≡ old.start
  pub given : old.given ≤ new.given
  pub next : new.next ≡ old.next
  pub pairs : new.pairs ≡ old.pairs

pub itself_same : (old : Database) → HasSamePairs old old
itself_same old = record { start = refl; given = omega arith; next = refl; pairs = refl }

pub same_leaves : (old : Database) (ike : ℕ) (new : Database) → HasSamePairs old new → LeavesPairs old ike new
same_leaves old ike new same =
    record {
      start = same.start;
      given = same.given;
      next = subst (λ n. old.next ≤ n) (sym same.next) (omega arith);
      each = λ q p is. inl (subst (λ (m : PairMap). pair_at m q ≡ Some p) same.pairs is);
      others = λ q p below is other. subst (λ (m : PairMap). pair_at m q ≡ Some p) (sym same.pairs) is;
    }

pub room_same : (old new : Database) → IsAsBefore old new → HasSamePairs old new
room_same old new is = subst (λ (d : Database). HasSamePairs old d) (sym is.content) (record { start = refl; given = omega arith; next = refl; pairs = refl })

reserve_same : (old : Database) (spi : ℕ) (new : Database) → Reserves old spi new → HasSamePairs old new
reserve_same old spi new is = subst (λ (d : Database). HasSamePairs old d) (sym is.content) (record { start = refl; given = omega arith; next = refl; pairs = refl })

release_same : (old : Database) (spi : ℕ) (new : Database) → Releases old spi new → HasSamePairs old new
release_same old spi new is = subst (λ (d : Database). HasSamePairs old d) (sym is.content) (record { start = refl; given = omega arith; next = refl; pairs = refl })

spis_same : (Held : ℕ → Type 0) (old new : Database) → GivesUpSpis Held old new → HasSamePairs old new
spis_same Held old new is = subst (λ (d : Database). HasSamePairs old d) (sym is.content) (record { start = refl; given = omega arith; next = refl; pairs = refl })

after : (old between new : Database) → HasSamePairs old between → HasSamePairs between new → HasSamePairs old new
after old between new one two =
    record { start = two.start ∙ one.start; given = omega (arith, one.given, two.given); next = two.next ∙ one.next; pairs = two.pairs ∙ one.pairs }

still_unused : (ike serial : ℕ) (pair : Pair) → IsUnused ike pair → IsUnused ike (record pair { serial = serial })
still_unused ike serial pair is = record { its = is.its; live = is.live; last = is.last; blocks = is.blocks; window = is.window }

install_leaves : (old between : Database) (ike spi : ℕ) (pair : Pair) (serial : ℕ) (new : Database) → HasSamePairs old between → IsUnused ike pair → Installs between spi pair serial new → LeavesPairs old ike new
install_leaves old between ike spi pair serial new same unused is =
    let v : Pair = record pair { serial = serial } in
    let pairs : new.pairs ≡ map.insert between.pairs serial v = ap (λ (d : Database). d.pairs) is.content in
    let next : serial ≡ old.next = is.in_order ∙ same.next in
    record {
      start = ap (λ (d : Database). d.start) is.content ∙ same.start;
      given = subst (λ n. old.given ≤ n) (sym (ap (λ (d : Database). d.given) is.content)) same.given;
      next = let more : new.next ≡ between.next + 1 = ap (λ (d : Database). d.next) is.content in omega (arith, more, same.next);
      each = λ q p there.
          elim (inserted between.pairs serial v q p (subst (λ (m : PairMap). pair_at m q ≡ Some p) pairs there)) [
            | inl (here, is_v) ↦ inr (record { in_order = here ∙ next; unused = subst (λ (x : Pair). IsUnused ike x) (same_pair v p is_v) (still_unused ike serial pair unused) })
            | inr before ↦ inl (subst (λ (m : PairMap). pair_at m q ≡ Some p) same.pairs before)
          ];
      others = λ q p below there other.
          subst (λ (m : PairMap). pair_at m q ≡ Some p) (sym pairs)
          (inserted_apart between.pairs serial v q (λ here. absurd (omega (arith, here, next, below))) ∙ subst (λ (m : PairMap). pair_at m q ≡ Some p) (sym same.pairs) there);
    }

removal_leaves : (old between : Database) (ike : ℕ) (new : Database) → HasSamePairs old between → RemovesAllOf between ike new → LeavesPairs old ike new
removal_leaves old between ike new same is =
    record {
      start = ap (λ (d : Database). d.start) is.content ∙ same.start;
      given = subst (λ n. old.given ≤ n) (sym (ap (λ (d : Database). d.given) is.content)) same.given;
      next = let still : new.next ≡ between.next = ap (λ (d : Database). d.next) is.content in omega (arith, still, same.next);
      each = λ q p there. inl (subst (λ (m : PairMap). pair_at m q ≡ Some p) same.pairs ((is.kept q p).0 there).0);
      others = λ q p below there other. (is.kept q p).1 (subst (λ (m : PairMap). pair_at m q ≡ Some p) (sym same.pairs) there, other);
    }

-- ---- what IKE_AUTH does

abbrev pub UnusedIn : ℕ → Option Pair → Type 0
UnusedIn ike None = Unit {0}
UnusedIn ike (Some pair) = IsUnused ike pair

abbrev pub UnusedBy : ℕ → Outcome → Type 0
UnusedBy ike outcome.Closes = Unit {0}
UnusedBy ike (outcome.Establishes pair window) = UnusedIn ike pair

child_leaves : (old between : Database) (ike : ℕ) (spi : Option ℕ) (pair : Option Pair) (child : Option ℕ) (new : Database) → HasSamePairs old between → UnusedIn ike pair
    → AddsChild between spi pair child new → LeavesPairs old ike new
child_leaves old between ike None None None new same unused is = same_leaves old ike new (subst (λ (d : Database). HasSamePairs old d) (sym is) same)
child_leaves old between ike None None (Some serial) new same unused is = absurd is
child_leaves old between ike None (Some pair) None new same unused is = absurd is
child_leaves old between ike None (Some pair) (Some serial) new same unused is =
    install_leaves old is.between ike is.spi pair serial new (after old between is.between same (reserve_same between is.spi is.between is.reserved)) unused is.installed
child_leaves old between ike (Some spi) None None new same unused is =
    same_leaves old ike new (after old between new same (release_same between spi new is))
child_leaves old between ike (Some spi) (Some pair) (Some serial) new same unused is = install_leaves old between ike spi pair serial new same unused is
child_leaves old between ike (Some spi) None (Some serial) new same unused is = absurd is
child_leaves old between ike (Some spi) (Some pair) None new same unused is = absurd is

-- what an IKE SA's end leaves
over_leaves : (a : Association) (old between : Database) (moment : ℕ) (new : Association) (new_table : Database) → HasSamePairs old between → Closes a between moment new new_table → LeavesPairs old a.serial new_table
over_leaves a old between moment new new_table same is =
    removal_leaves old is.between a.serial new_table (after old between is.between same (spis_same (HoldsSpi a) between is.between is.released)) is.removed

pub concluded_leaves : (setup : Setup) (a : Association) (old between : Database) (o : Outcome) (came : Fate) (new : Association) (new_table : Database)
    → HasSamePairs old between → UnusedBy a.serial o → ConcludesBy setup a between o came new new_table → LeavesPairs old a.serial new_table
concluded_leaves setup a old between outcome.Closes came new new_table same unused is = over_leaves a old between setup.moment new new_table same is.over
concluded_leaves setup a old between (outcome.Establishes pair window) came new new_table same unused is =
    child_leaves old between a.serial (established_spi a.phase) pair (made_by came) new_table same unused is.added

-- which IKE SA a named SA pair is of
owned : (pairs : PairMap) (ike : ℕ) (serials : List ℕ) (serial : ℕ) (pair : Pair) → All (BelongsTo pairs ike) serials → Contains serials serial → pair_at pairs serial ≡ Some pair → pair.ike ≡ ike
owned pairs ike serials serial pair own named there =
    let its = All-contains (BelongsTo pairs ike) serials serial own named in
    ap (λ (p : Pair). p.ike) (same_pair pair its.pair (sym there ∙ its.there)) ∙ its.its

-- what the deletion of some SA pairs leaves
named_leaves : (old : Database) (ike : ℕ) (serials : List ℕ) (new : Database) → RemovesOwn ike serials old new → LeavesPairs old ike new
named_leaves old ike serials new is =
    record {
      start = ap (λ (d : Database). d.start) is.removed.content;
      given = subst (λ n. old.given ≤ n) (sym (ap (λ (d : Database). d.given) is.removed.content)) (omega arith);
      next = let still : new.next ≡ old.next = ap (λ (d : Database). d.next) is.removed.content in omega (arith, still);
      each = λ q p there. inl ((is.removed.kept q p).0 there).0;
      others = λ q p below there other. (is.removed.kept q p).1 (there, λ named. other (owned old.pairs ike serials q p is.its_own named there));
    }

pub closed_if_leaves : (ending : Bool) (serials : List ℕ) (a : Association) (table : Database) (moment : ℕ) (new : Association) (new_table : Database) → ClosesIf ending serials a table moment new new_table → LeavesPairs table a.serial new_table
closed_if_leaves true serials a table moment new new_table is = over_leaves a table table moment new new_table (itself_same table) is
closed_if_leaves false serials a table moment new new_table is = named_leaves table a.serial serials new_table is.1

decided_unused : (accepts : Accepts) (setup : Setup) (ike : ℕ) (opened : HalfOpen) (table : Database) (payloads : Option (List Payload)) (d : Decision)
    → IsDecision accepts setup ike opened table payloads d → UnusedBy ike (outcome_of d)
decided_unused accepts setup ike opened table payloads (decision.Refused notice) is = tt
decided_unused accepts setup ike opened table payloads (decision.Accepted (response.Refused notice) window) is = tt
decided_unused accepts setup ike opened table None (decision.Accepted (response.Made made) window) is = absurd is
decided_unused accepts setup ike opened table (Some payloads) (decision.Accepted (response.Made made) window) is =
    subst (λ m. IsUnused ike m.pair) (sym is.child.whole) (record { its = refl; live = refl; last = refl; blocks = setup.config.blocks; window = refl })

pub answer_unused : (accepts : Accepts) (setup : Setup) (ike : ℕ) (opened : HalfOpen) (table : Database) (plain : Plain) (d : Decision) → Decides accepts setup ike opened table plain d → UnusedBy ike (outcome_of d)
answer_unused accepts setup ike opened table plain d is = decided_unused accepts setup ike opened table is.payloads d is.due

first_unused : (setup : Setup) (ike : ℕ) (sent : AuthSent) (payloads : List Payload) (pair : Option Pair) → IsFirstChild setup ike sent payloads pair → UnusedIn ike pair
first_unused setup ike sent payloads None is = tt
first_unused setup ike sent payloads (Some pair) is =
    subst (λ (p : Pair). IsUnused ike p) (sym is.made) (record { its = refl; live = refl; last = refl; blocks = setup.config.blocks; window = refl })

verdict_unused : (accepts : Accepts) (setup : Setup) (ike : ℕ) (sent : AuthSent) (payloads : Option (List Payload)) (o : Outcome) → IsVerdict accepts setup ike sent payloads o → UnusedBy ike o
verdict_unused accepts setup ike sent payloads outcome.Closes is = tt
verdict_unused accepts setup ike sent None (outcome.Establishes pair window) is = absurd is
verdict_unused accepts setup ike sent (Some payloads) (outcome.Establishes pair window) is = first_unused setup ike sent payloads pair is.child

pub end_unused : (accepts : Accepts) (setup : Setup) (ike : ℕ) (sent : AuthSent) (plain : Plain) (o : Outcome) → Judges accepts setup ike sent plain o → UnusedBy ike o
end_unused accepts setup ike sent plain o is = verdict_unused accepts setup ike sent is.payloads o is.due

-- ---- what CREATE_CHILD_SA does

further_unused_by : (setup : Setup) (ike : ℕ) (keys : KeyRecord) (table : Database) (j : FurtherJudgement) (d : deciding.Decision) → DecidesFurtherBy setup ike keys table j d → UnusedIn ike (further_pair d)
further_unused_by setup ike keys table (Refused notice) (decided.Refused told) is = tt
further_unused_by setup ike keys table (Refused notice) (decided.Made made) is = absurd is
further_unused_by setup ike keys table (Admitted request) (decided.Refused told) is = tt
further_unused_by setup ike keys table (Admitted request) (decided.Made made) is =
    subst (λ (m : Made). IsUnused ike m.pair) (sym is.whole) (record { its = refl; live = refl; last = refl; blocks = setup.config.blocks; window = refl })

further_decided : (setup : Setup) (ike : ℕ) (keys : KeyRecord) (table : Database) (deleting : Bool) (payloads : Option (List Payload)) (d : deciding.Decision) → IsFurtherDecision setup ike keys table deleting payloads d → UnusedIn ike (further_pair d)
further_decided setup ike keys table deleting None (decided.Refused notice) is = tt
further_decided setup ike keys table deleting None (decided.Made made) is = absurd is
further_decided setup ike keys table deleting (Some payloads) d is = further_unused_by setup ike keys table is.judgement d is.due

pub further_unused : (setup : Setup) (ike : ℕ) (keys : KeyRecord) (table : Database) (deleting : Bool) (plain : Plain) (d : deciding.Decision) → DecidesFurther setup ike keys table deleting plain d → UnusedIn ike (further_pair d)
further_unused setup ike keys table deleting plain d is = further_decided setup ike keys table deleting is.payloads d is.due

made_unused_by : (blocks ike : ℕ) (keys : KeyRecord) (asked : Asked) (own_nonce : Octets) (payloads : Option (List Payload)) (c : Conclusion) → IsConclusion blocks ike keys asked own_nonce payloads c → UnusedIn ike (pair_made c)
made_unused_by blocks ike keys asked own_nonce payloads conclusion.Closes is = tt
made_unused_by blocks ike keys asked own_nonce None (conclusion.Made pair) is = absurd is
made_unused_by blocks ike keys asked own_nonce (Some answer) (conclusion.Made pair) is =
    subst (λ (p : Pair). IsUnused ike p) (sym is.child.made) (record { its = refl; live = refl; last = refl; blocks = blocks; window = refl })
made_unused_by blocks ike keys asked own_nonce payloads conclusion.NoChild is = tt

pub made_unused : (blocks ike : ℕ) (keys : KeyRecord) (asked : Asked) (own_nonce : Octets) (plain : Plain) (c : Conclusion) → Concludes blocks ike keys asked own_nonce plain c → UnusedIn ike (pair_made c)
made_unused blocks ike keys asked own_nonce plain c is = made_unused_by blocks ike keys asked own_nonce is.payloads c is.due

given_up_same : (spi : Option ℕ) (old new : Database) → GivesUpSpi spi old new → HasSamePairs old new
given_up_same None old new is = subst (λ (d : Database). HasSamePairs old d) (sym is) (itself_same old)
given_up_same (Some spi) old new is = release_same old spi new is

pub further_if_leaves : (closing : Bool) (spi : Option ℕ) (pair : Option Pair) (a : Association) (old between : Database) (moment : ℕ) (child : Option ℕ) (new : Association) (new_table : Database)
    → HasSamePairs old between → UnusedIn a.serial pair → FurtherIf closing spi pair a between moment child new new_table → LeavesPairs old a.serial new_table
further_if_leaves true spi pair a old between moment child new new_table same unused is =
    over_leaves a old is.between moment new new_table (after old between is.between same (given_up_same spi between is.between is.given_up)) is.over
further_if_leaves false spi pair a old between moment child new new_table same unused is = child_leaves old between a.serial spi pair child new_table same unused is.added

-- ---- an SA pair that comes is told

-- each SA pair was there, or is this Child SA
abbrev pub ComesTold : Database → Option ℕ → Database → Type 0
ComesTold old child new = (serial : ℕ) (pair : Pair) → pair_at new.pairs serial ≡ Some pair → (pair_at old.pairs serial ≡ Some pair) ⊎ (child ≡ Some serial)

pub same_told : (old : Database) (child : Option ℕ) (new : Database) → HasSamePairs old new → ComesTold old child new
same_told old child new same = λ q p is. inl (subst (λ (m : PairMap). pair_at m q ≡ Some p) same.pairs is)

pub unchanged_told : (old : Database) (child : Option ℕ) (new : Database) → new ≡ old → ComesTold old child new
unchanged_told old child new same = same_told old child new (subst (λ (d : Database). HasSamePairs old d) (sym same) (itself_same old))

install_told : (old between : Database) (spi : ℕ) (pair : Pair) (serial : ℕ) (new : Database) → HasSamePairs old between → Installs between spi pair serial new → ComesTold old (Some serial) new
install_told old between spi pair serial new same is =
    let v : Pair = record pair { serial = serial } in
    let pairs : new.pairs ≡ map.insert between.pairs serial v = ap (λ (d : Database). d.pairs) is.content in
    λ q p there.
    elim (inserted between.pairs serial v q p (subst (λ (m : PairMap). pair_at m q ≡ Some p) pairs there)) [
      | inl (here, is_v) ↦ inr (ap Some (sym here))
      | inr before ↦ inl (subst (λ (m : PairMap). pair_at m q ≡ Some p) same.pairs before)
    ]

removal_told : (old between : Database) (ike : ℕ) (child : Option ℕ) (new : Database) → HasSamePairs old between → RemovesAllOf between ike new → ComesTold old child new
removal_told old between ike child new same is = λ q p there. inl (subst (λ (m : PairMap). pair_at m q ≡ Some p) same.pairs ((is.kept q p).0 there).0)

child_told : (old between : Database) (spi : Option ℕ) (pair : Option Pair) (child : Option ℕ) (new : Database) → HasSamePairs old between → AddsChild between spi pair child new → ComesTold old child new
child_told old between None None None new same is = same_told old None new (subst (λ (d : Database). HasSamePairs old d) (sym is) same)
child_told old between None None (Some serial) new same is = absurd is
child_told old between None (Some pair) None new same is = absurd is
child_told old between None (Some pair) (Some serial) new same is =
    install_told old is.between is.spi pair serial new (after old between is.between same (reserve_same between is.spi is.between is.reserved)) is.installed
child_told old between (Some spi) None None new same is = same_told old None new (after old between new same (release_same between spi new is))
child_told old between (Some spi) (Some pair) (Some serial) new same is = install_told old between spi pair serial new same is
child_told old between (Some spi) None (Some serial) new same is = absurd is
child_told old between (Some spi) (Some pair) None new same is = absurd is

over_told : (a : Association) (old between : Database) (moment : ℕ) (child : Option ℕ) (new : Association) (new_table : Database) → HasSamePairs old between → Closes a between moment new new_table → ComesTold old child new_table
over_told a old between moment child new new_table same is =
    removal_told old is.between a.serial child new_table (after old between is.between same (spis_same (HoldsSpi a) between is.between is.released)) is.removed

pub concluded_told : (setup : Setup) (a : Association) (old between : Database) (o : Outcome) (came : Fate) (new : Association) (new_table : Database)
    → HasSamePairs old between → ConcludesBy setup a between o came new new_table → ComesTold old (made_by came) new_table
concluded_told setup a old between outcome.Closes came new new_table same is = over_told a old between setup.moment (made_by came) new new_table same is.over
concluded_told setup a old between (outcome.Establishes pair window) came new new_table same is =
    child_told old between (established_spi a.phase) pair (made_by came) new_table same is.added

pub closed_if_told : (ending : Bool) (serials : List ℕ) (a : Association) (table : Database) (moment : ℕ) (child : Option ℕ) (new : Association) (new_table : Database) → ClosesIf ending serials a table moment new new_table → ComesTold table child new_table
closed_if_told true serials a table moment child new new_table is = over_told a table table moment child new new_table (itself_same table) is
closed_if_told false serials a table moment child new new_table is = λ q p there. inl ((is.1.removed.kept q p).0 there).0

pub further_if_told : (closing : Bool) (spi : Option ℕ) (pair : Option Pair) (a : Association) (old between : Database) (moment : ℕ) (child : Option ℕ) (new : Association) (new_table : Database)
    → HasSamePairs old between → FurtherIf closing spi pair a between moment child new new_table → ComesTold old child new_table
further_if_told true spi pair a old between moment child new new_table same is =
    over_told a old is.between moment child new new_table (after old between is.between same (given_up_same spi between is.between is.given_up)) is.over
further_if_told false spi pair a old between moment child new new_table same is = child_told old between spi pair child new_table same is.added
