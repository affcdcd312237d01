-- Where no end draws a nonce twice, each nonce is of one IKE SA.
use Rattle.std.proofs.Common.{◌≡◌, ◌++◌, ◌∷◌, inl, inr, ℕ, zero, suc, List, [], Option, Some, None, slice_get, refl, sym, ap, subst, ◌∙◌}
use Rattle.std.specs.Prelude.{option_and_then}
use Rattle.base.specs.Octets.{Octets}
use Rattle.policy.specs.declared.entry.Entry.{Entry}
use Rattle.suite.specs.declared.fresh.Fresh.{Fresh}
use Rattle.sadb.specs.Database.{Database, IsSoundTable}
use Rattle.association.specs.Phases.{keys_in}
use Rattle.association.specs.declared.phase.Association.{Association}
use Rattle.association.specs.declared.phase.AuthSent.{AuthSent}
use Rattle.association.specs.declared.phase.InitSent.{InitSent}
use Rattle.association.specs.declared.phase.Phase.TheVariants as phase
use Rattle.effects.specs.Taking.{Meaning}
use Rattle.ike.specs.Before.{CameNow, WasBegun, WasThere}
use Rattle.ike.specs.Machines.{association_of, Held, Machine}
use Rattle.ike.specs.Soundness.{IsSoundMachine}
use Rattle.ike.specs.Steps as ike
use Rattle.ike.specs.declared.output.IkeOutput.TheVariants as output
use Rattle.ike.specs.declared.output.Stepped.{Stepped}
use Rattle.gateway.specs.Inputs.{Input}
use Rattle.gateway.specs.Inputs as input
use Rattle.gateway.specs.Outputs.{view_of_ike}
use Rattle.gateway.specs.Outputs as said
use Rattle.gateway.specs.Requests.{for_ike}
use Rattle.gateway.specs.States.{State}
use Rattle.gateway.specs.WorldHistories.{Happening, IsWorldTrail}
use Rattle.gateway.specs.Worlds.{gateway_at, other_end, HoldsNothing, TakesEvent, WorldState}
use Rattle.gateway.specs.declared.world.stored.End.{End}
use Rattle.gateway.proofs.AlongLemmas.{after_here, after_there, each_end}
use Rattle.gateway.proofs.BeforeLemmas.{none_some, same_one}
use Rattle.gateway.proofs.ChildLemmas.{way_of}
use Rattle.gateway.proofs.Nonces.{EachNonceIsOfOne, HasNonce}
use Rattle.gateway.specs.DrawnNonces.{DrawsNonce, EachNonceIsDrawnOnce}
use Rattle.gateway.proofs.PartnerLemmas.{PartnerLaws}

-- what waits for a response has its nonce by this
record IsDrawn (R : ℕ → Octets → Type 0) (serial : ℕ) (a : Association) : Type 0 where
  pub first : (sent : InitSent) → a.phase ≡ phase.InitSent sent → R serial sent.nonce
  pub told : (told : AuthSent) → a.phase ≡ phase.AuthSent told → R serial told.keys.nonce_i

abbrev AreDrawn : (ℕ → Octets → Type 0) → List Association → Type 0
AreDrawn R associations = (serial : ℕ) (a : Association) → association_of serial associations ≡ Some a → IsDrawn R serial a

same_wait : (one other : InitSent) → phase.InitSent one ≡ phase.InitSent other → one ≡ other
same_wait one other is = cc

-- what stands behind all others is the last
last_is : (xs : List Association) (y a : Association) (place : ℕ) → slice_get xs place ≡ None → slice_get (xs ++ y ∷ []) place ≡ Some a → y ≡ a
last_is [] y a zero none there = same_one y a there
last_is [] y a (suc place) none there = absurd cc
last_is (x ∷ xs) y a zero none there = absurd cc
last_is (x ∷ xs) y a (suc place) none there = last_is xs y a place none there

start_given : (given : Input) (entry : ℕ) (fresh : Fresh) → for_ike given ≡ Some (ike.Start None entry fresh) → given ≡ input.Start None entry fresh
start_given (input.Ike from octets drawn) entry fresh is = absurd cc
start_given (input.Start serial other drawn) entry fresh is = cc
start_given (input.Probe serial drawn) entry fresh is = absurd cc
start_given (input.DeleteChild serial drawn) entry fresh is = absurd cc
start_given (input.DeleteIke serial drawn) entry fresh is = absurd cc
start_given (input.Secret secret) entry fresh is = absurd cc
start_given (input.Tick moment) entry fresh is = absurd cc
start_given (input.Esp octets) entry fresh is = absurd cc
start_given (input.Outward packet) entry fresh is = absurd cc
start_given (input.Inward packet) entry fresh is = absurd cc

-- ---- over one step of the machine

module _ (laws : PartnerLaws) (R : ℕ → Octets → Type 0) (meaning : Meaning) (entries : List Entry) (view : ike.InputView) (old : Machine) (table : Database) (stepped : Stepped) (new : Machine) (new_table : Database)
    (sound_table : IsSoundTable table) (sound : IsSoundMachine old table) (steps : ike.Steps meaning entries view old table stepped new new_table)
    (draws : (entry : ℕ) (fresh : Fresh) (octets : Octets) → view ≡ ike.Start None entry fresh → stepped.output ≡ output.Request old.held.next octets → R old.held.next fresh.nonce)
    (before : AreDrawn R old.held.associations) where
  begun_now : (serial : ℕ) (a : Association) → CameNow meaning entries view old stepped new.held serial a → WasBegun view a → IsDrawn R serial a
  begun_now serial a came began =
      let starts : ike.Steps meaning entries (ike.Start None began.place began.fresh) old table stepped new new_table =
      subst (λ (v : ike.InputView). ike.Steps meaning entries v old table stepped new new_table) began.came steps in
      let by = starts.1 in
      let same = last_is old.held.associations _ a came.place came.none_at (ap (λ (x : Held). slice_get x.associations came.place) (sym by.done.content) ∙ came.stands_at) in
      let now = draws began.place began.fresh by.beginning.octets began.came (ap (λ (x : Stepped). x.output) by.done.said) in
      record {
        first = λ sent waits.
            let nonce : by.beginning.nonce ≡ sent.nonce = ap (λ (x : InitSent). x.nonce) (same_wait _ sent (ap (λ (x : Association). x.phase) same ∙ waits)) in
            subst (λ (n : ℕ). R n sent.nonce) (sym came.next) (subst (λ (o : Octets). R old.held.next o) (sym by.begins.nonce_is ∙ nonce) now);
        told = λ told waits. absurd (let no = sym waits ∙ began.waits in cc);
      }

  told_before : (serial : ℕ) (a : Association) → association_of serial new.held.associations ≡ Some a → WasThere meaning entries view old table new.held new_table serial a
      → (told : AuthSent) → a.phase ≡ phase.AuthSent told → R serial told.keys.nonce_i
  told_before serial a there was told waits = elim (laws.waits meaning entries view old table stepped new new_table serial a told sound_table sound steps there waits) [
    | inl waited ↦ (before serial waited.was waited.stood).told told waited.waited
    | inr asks ↦
        let gets = (laws.traced meaning entries view old table stepped new new_table sound_table sound steps).keyed serial asks.keyed in
        let none : keys_in was.was.phase ≡ None = sym (ap (λ (o : Option Association). option_and_then (λ x. keys_in x.phase) o) was.stood) ∙ gets.none in
        let sent = laws.waited meaning entries view old table stepped new new_table was.was a told was.how waits none in
        let now = laws.read meaning entries view old table stepped new new_table was.was a sent.sent told was.how sent.is waits in
        subst (λ (o : Octets). R serial o) (sym now.nonce) ((before serial was.was was.stood).first sent.sent sent.is)
  ]

  drawn_by_step : AreDrawn R new.held.associations
  drawn_by_step serial a there = elim (laws.records.steps.came meaning entries view old table stepped new new_table serial a sound steps there) [
    | inl was ↦ record {
      first = λ sent waits.
          let waited = laws.records.waits meaning entries view old table stepped new new_table was.was a sent was.how waits in
          subst (λ (o : Octets). R serial o) (sym waited.nonce) ((before serial was.was was.stood).first waited.before waited.waited);
      told = told_before serial a there was;
    }
    | inr came ↦ elim came.how [
      | inl admitted ↦
          let half = ap (λ (x : Association). x.phase) (sym admitted.made ∙ admitted.admits.content) in
          record { first = λ sent waits. absurd (let no = sym waits ∙ half in cc); told = λ told waits. absurd (let no = sym waits ∙ half in cc) }
      | inr began ↦ begun_now serial a came began
    ]
  ]

-- ---- over a history

module _ {C : Type 0} (laws : PartnerLaws) (meaning_of : C → Meaning) (Q : End → ℕ → Octets → Type 0) where
  abbrev AllDrawn : WorldState C → Type 0
  AllDrawn w = (end : End) → AreDrawn (Q end) (gateway_at end w).machine.held.associations

  abbrev IsTold : Happening C → Type 0
  IsTold h = (end : End) (serial : ℕ) (nonce : Octets) → DrawsNonce h end serial nonce → Q end serial nonce

  drawn_here : (h : Happening C) (t : TakesEvent meaning_of h.event h.before h.said h.after) → IsTold h
      → AreDrawn (Q h.event.end) (gateway_at h.event.end h.before).machine.held.associations → AreDrawn (Q h.event.end) t.gateway.machine.held.associations
  drawn_here h t tells before =
      let was = gateway_at h.event.end h.before in
      let meaning = meaning_of was.caller in
      elim (way_of meaning h.event.input was h.said t.trace t.gateway t.traces.does) [
        | inl w ↦ drawn_by_step laws (Q h.event.end) meaning was.entries w.view was.machine was.table w.stepped t.gateway.machine t.gateway.table t.sound.table t.sound.machine w.steps
            (λ entry fresh octets came out. tells h.event.end was.machine.held.next fresh.nonce (record {
              at = refl;
              entry = entry;
              fresh = fresh;
              told = start_given h.event.input entry fresh (w.is ∙ ap Some came);
              request = octets;
              said = w.output ∙ ap view_of_ike out;
              is = refl;
            })) before
        | inr still ↦ subst (λ (m : Machine). AreDrawn (Q h.event.end) m.held.associations) (sym still.machine) before
      ]

  drawn_event : (h : Happening C) (t : TakesEvent meaning_of h.event h.before h.said h.after) → IsTold h → AllDrawn h.before → AllDrawn h.after
  drawn_event h t tells before =
      each_end (λ e. AreDrawn (Q e) (gateway_at e h.after).machine.held.associations) h.event.end
      (subst (λ (s : State C). AreDrawn (Q h.event.end) s.machine.held.associations) (sym (after_here meaning_of h t)) (drawn_here h t tells (before h.event.end)))
      (subst (λ (s : State C). AreDrawn (Q (other_end h.event.end)) s.machine.held.associations) (sym (after_there meaning_of h t)) (before (other_end h.event.end)))

  drawn_at : (hs : List (Happening C)) (old new : WorldState C) → IsWorldTrail meaning_of old hs new → ((place : ℕ) (h : Happening C) → slice_get hs place ≡ Some h → IsTold h) → AllDrawn old
      → (place : ℕ) (h : Happening C) → slice_get hs place ≡ Some h → AllDrawn h.before × AllDrawn h.after
  drawn_at [] old new trail tells before place h there = absurd cc
  drawn_at (x ∷ hs) old new trail tells before zero h there =
      let at_x : AllDrawn x.before = subst AllDrawn (sym trail.0) before in
      subst (λ (y : Happening C). AllDrawn y.before × AllDrawn y.after) (same_one x h there) (at_x, drawn_event x trail.1 (tells zero x refl) at_x)
  drawn_at (x ∷ hs) old new trail tells before (suc place) h there =
      drawn_at hs x.after new trail.2 (λ n g g_there. tells (suc n) g g_there)
      (drawn_event x trail.1 (tells zero x refl) (subst AllDrawn (sym trail.0) before)) place h there

-- ---- each nonce is of one

record WasDrawn {C : Type 0} (hs : List (Happening C)) (end : End) (serial : ℕ) (nonce : Octets) : Type 0 where
  pub place : ℕ
  pub h : Happening C
  pub there : slice_get hs place ≡ Some h
  pub draws : DrawsNonce h end serial nonce

same_serial : (one other : ℕ) (octets given : Octets) → said.Request one octets ≡ said.Request other given → one ≡ other
same_serial one other octets given is = cc

module _ {C : Type 0} (laws : PartnerLaws) (meaning_of : C → Meaning) (hs : List (Happening C)) (old new : WorldState C) (trail : IsWorldTrail meaning_of old hs new)
    (begins : (end : End) → HoldsNothing (gateway_at end old)) where
  none_yet : AllDrawn laws meaning_of (λ end. WasDrawn hs end) old
  none_yet end serial a there = absurd (none_some a (sym (ap (λ (xs : List Association). association_of serial xs) (begins end).associations) ∙ there))

  drawn : (place : ℕ) (h : Happening C) → slice_get hs place ≡ Some h → AllDrawn laws meaning_of (λ end. WasDrawn hs end) h.before × AllDrawn laws meaning_of (λ end. WasDrawn hs end) h.after
  drawn = drawn_at laws meaning_of (λ end. WasDrawn hs end) hs old new trail (λ place h there end serial nonce draws. record { place = place; h = h; there = there; draws = draws }) none_yet

  one_drawn : EachNonceIsDrawnOnce hs → (end : End) (serial another : ℕ) (nonce : Octets) → WasDrawn hs end serial nonce → WasDrawn hs end another nonce → serial ≡ another
  one_drawn once end serial another nonce p q =
      let places = once.each p.place q.place p.h q.h end serial another nonce p.there q.there p.draws q.draws in
      let same : p.h ≡ q.h = same_one p.h q.h (sym p.there ∙ ap (slice_get hs) places ∙ q.there) in
      same_serial serial another p.draws.request q.draws.request (sym p.draws.said ∙ ap (λ (x : Happening C). x.said) same ∙ q.draws.said)

  -- by what an IKE SA that waits after a step, or before one, holds
  drawn_after : (place : ℕ) (h : Happening C) (end : End) (serial : ℕ) (nonce : Octets) → slice_get hs place ≡ Some h → HasNonce h.after end serial nonce → WasDrawn hs end serial nonce
  drawn_after place h end serial nonce there has =
      subst (λ (o : Octets). WasDrawn hs end serial o) has.is (((drawn place h there).1 end serial has.association has.there).told has.told has.tells)

  drawn_before : (place : ℕ) (h : Happening C) (end : End) (serial : ℕ) (nonce : Octets) → slice_get hs place ≡ Some h → HasNonce h.before end serial nonce → WasDrawn hs end serial nonce
  drawn_before place h end serial nonce there has =
      subst (λ (o : Octets). WasDrawn hs end serial o) has.is (((drawn place h there).0 end serial has.association has.there).told has.told has.tells)

  pub each_is_of_one : EachNonceIsDrawnOnce hs → EachNonceIsOfOne hs
  each_is_of_one once = record {
    each = λ place other h g end serial another nonce there there_too one two.
        one_drawn once end serial another nonce (drawn_after place h end serial nonce there one) (drawn_before other g end another nonce there_too two);
  }

  -- the same of two that wait after a step
  pub who_waits_is_one : EachNonceIsDrawnOnce hs → (place other : ℕ) (h g : Happening C) (end : End) (serial another : ℕ) (nonce : Octets)
      → slice_get hs place ≡ Some h → slice_get hs other ≡ Some g → HasNonce h.after end serial nonce → HasNonce g.after end another nonce → serial ≡ another
  who_waits_is_one once place other h g end serial another nonce there there_too one two =
      one_drawn once end serial another nonce (drawn_after place h end serial nonce there one) (drawn_after other g end another nonce there_too two)
