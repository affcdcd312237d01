-- Children are asked for with extended sequence numbers only where that is configured, and so they are made.
use Rattle.std.proofs.Common.{◌≡◌, ◌⊎◌, inl, inr, ℕ, Bool, true, List, Option, Some, None, max, ap, refl, subst, sym, ◌∙◌}
use Rattle.std.specs.FinMap as map
use Rattle.base.specs.Octets.{Octets}
use Rattle.policy.specs.declared.entry.Entry.{Entry}
use Rattle.suite.specs.declared.key_record.KeyRecord.{KeyRecord}
use Rattle.wire.specs.declared.message.Message.{Message}
use Rattle.sadb.specs.Database.{pair_at, Database, IsSoundTable}
use Rattle.sadb.specs.declared.pair.Pair.{Pair}
use Rattle.association.specs.AskedChildren.{AskedChildView}
use Rattle.association.specs.Phases.{keys_in}
use Rattle.association.specs.Purposes.{asks_for_child}
use Rattle.association.specs.declared.phase.Association.{Association}
use Rattle.association.specs.declared.phase.Phase.{Phase}
use Rattle.association.specs.declared.phase.Phase.TheVariants as phase
use Rattle.association.specs.declared.phase.Request.{Request}
use Rattle.association.specs.declared.purpose.FurtherChild.{FurtherChild}
use Rattle.association.specs.declared.purpose.Purpose.TheVariants.{CreateChild}
use Rattle.initial.specs.Beginning.{begun}
use Rattle.setup.specs.Configs.{IsConfig, Setup}
use Rattle.association.specs.Issuing.{new_request}
use Rattle.effects.specs.Children.{first_asked, MadeBy}
use Rattle.effects.specs.Taking.{Meaning, TakesMessage}
use Rattle.effects.specs.declared.taking.Effect.{Effect}
use Rattle.effects.specs.declared.taking.Effect.TheVariants as effect
use Rattle.ike.specs.Children.{AsksForFurtherNow, MakesChildOf}
use Rattle.ike.specs.Machines.{association_of, setup_at, Held, Machine}
use Rattle.ike.specs.Outputs.{asking_step, request_mark}
use Rattle.ike.specs.Soundness.{AreSound, AsksAsAllowed, AskAsAllowed, IsSoundMachine}
use Rattle.ike.specs.Starting.{child_by}
use Rattle.ike.specs.Steps as steps
use Rattle.ike.specs.Steps.{InputView, Steps}
use Rattle.ike.specs.declared.output.MadeChild.{MadeChild}
use Rattle.ike.specs.declared.output.Mark.{Mark}
use Rattle.ike.specs.declared.output.Stepped.{Stepped}
use Rattle.ike.proofs.AskingLemmas.{changed_itself, changed_phase}
use Rattle.ike.proofs.FurtherLemmas.{step_asks_now, step_further, FurtherLaws}
use Rattle.ike.proofs.MoveLemmas.{at_changed, at_grown}
use Rattle.ike.proofs.SerialLemmas.{same_one}
use Rattle.ike.proofs.StepLemmas.{step_config, step_held, Laws, OrderLaws}
use Rattle.ike.proofs.TickLemmas.{ticked_stood, TicksHold}
use Rattle.ike.proofs.WayLemmas.{asked_one, datagram_came, further_one, joined, stood, taken, AsksOne, Came, StartsOne}

-- what is known of a message
pub record AskLaws : Type 0 where
  pub further : FurtherLaws
  pub hold : TicksHold
  pub before : (meaning : Meaning) (setup : Setup) (old : Association) (table : Database) (octets : Octets) (m : Message) (e : Effect) (new : Association) (new_table : Database) (child : AskedChildView)
      → first_asked new.phase ≡ Some child → TakesMessage meaning setup old table octets m e new new_table → first_asked old.phase ≡ Some child

-- the first Child SA is asked for only so
abbrev Allows : Bool → Association → Type 0
Allows extended a = (child : AskedChildView) → first_asked a.phase ≡ Some child → child.extended ≡ true → extended ≡ true

none_asked : (child : AskedChildView) → None ≡ Some child → ⊥
none_asked child e = cc

same_child : (one other : AskedChildView) → Some one ≡ Some other → one ≡ other
same_child one other e = cc

came_allows : (laws : AskLaws) (meaning : Meaning) (setup : Setup) (octets : Octets) (old : Held) (table : Database) (stepped : Stepped) (new : Held) (new_table : Database) (extended : Bool) (serial : ℕ) (a : Association)
    → AreSound old table → AskAsAllowed extended old → Came meaning setup octets old table stepped new new_table → association_of serial new.associations ≡ Some a → Allows extended a
came_allows laws meaning setup octets old table stepped new new_table extended serial a sound asks (stood is) stands =
    (asks serial a (sym (ap (λ (h : Held). association_of serial h.associations) is.same) ∙ stands)).first
came_allows laws meaning setup octets old table stepped new new_table extended serial a sound asks (taken is) stands =
    let t = is.takes in
    let stays = laws.further.itself meaning setup t.association table octets is.message t.effect t.changed new_table t.takes in
    elim (at_changed old table is.place t.association t.changed new serial sound t.there stays.serial t.content) [
      | inl (here, before, after) ↦ λ child first. (asks serial t.association before).first child
          (laws.before meaning setup t.association table octets is.message t.effect t.changed new_table child (sym (ap (λ (x : Association). first_asked x.phase) (same_one a t.changed (sym stands ∙ after))) ∙ first) t.takes)
      | inr (apart, same) ↦ (asks serial a (sym same ∙ stands)).first
    ]
came_allows laws meaning setup octets old table stepped new new_table extended serial a sound asks (joined is) stands =
    let b = is.admits.admitted.association in
    let content = is.admits.admits.content in
    elim (at_grown old table b new serial sound (ap (λ (x : Association). x.serial) content) is.admits.content) [
      | inl (here, before, after) ↦ λ child first.
          absurd (none_asked child (sym (ap (λ (x : Association). first_asked x.phase) content) ∙ sym (ap (λ (x : Association). first_asked x.phase) (same_one a b (sym stands ∙ after))) ∙ first))
      | inr (apart, same) ↦ (asks serial a (sym same ∙ stands)).first
    ]

started_allows : (meaning : Meaning) (setup : Setup) (old : Held) (table : Database) (stepped : Stepped) (new : Held) (new_table : Database) (serial : ℕ) (a : Association)
    → AreSound old table → AskAsAllowed setup.config.extended old → StartsOne meaning setup old table stepped new new_table → association_of serial new.associations ≡ Some a → Allows setup.config.extended a
started_allows meaning setup old table stepped new new_table serial a sound asks is stands =
    let s = is.starts in
    let child : AskedChildView = child_by s.entry s.done.spi setup.config.extended in
    elim (at_grown old table (begun old.next s.beginning child) new serial sound refl s.done.content) [
      | inl (here, before, after) ↦ λ other first is_extended.
          let its : child ≡ other = same_child child other (sym (ap (λ (x : Association). first_asked x.phase) (same_one a (begun old.next s.beginning child) (sym stands ∙ after))) ∙ first) in
          ap (λ (c : AskedChildView). c.extended) its ∙ is_extended
      | inr (apart, same) ↦ (asks serial a (sym same ∙ stands)).first
    ]

probed_allows : (meaning : Meaning) (setup : Setup) (old : Held) (table : Database) (stepped : Stepped) (new : Held) (new_table : Database) (extended : Bool) (serial : ℕ) (a : Association)
    → AreSound old table → AskAsAllowed extended old → AsksOne meaning setup old table stepped new new_table → association_of serial new.associations ≡ Some a → Allows extended a
probed_allows meaning setup old table stepped new new_table extended serial a sound asks is stands =
    let p = is.probes in
    let stays = changed_itself meaning.body_of setup is.ike old stepped new p in
    elim (at_changed old table p.place p.association p.changed new serial sound p.there stays.serial p.content) [
      | inl (here, before, after) ↦ λ child first. (asks serial p.association before).first child
          (sym (ap first_asked (changed_phase meaning.body_of setup is.ike old stepped new p)) ∙ sym (ap (λ (x : Association). first_asked x.phase) (same_one a p.changed (sym stands ∙ after))) ∙ first)
      | inr (apart, same) ↦ (asks serial a (sym same ∙ stands)).first
    ]

ticked_allows : (now : ℕ) (p q : Phase) (child : AskedChildView) → q ≡ p ⊎ ((keys : Option KeyRecord) × (q ≡ phase.Closed keys now)) → first_asked q ≡ Some child → first_asked p ≡ Some child
ticked_allows now p q child (inl same) first = sym (ap first_asked same) ∙ first
ticked_allows now p q child (inr closed) first = absurd (none_asked child (sym (ap first_asked closed.1) ∙ first))

step_first : (laws : AskLaws) (meaning : Meaning) (entries : List Entry) (input : InputView) (old : Machine) (table : Database) (stepped : Stepped) (new : Machine) (new_table : Database) (serial : ℕ) (a : Association)
    → IsSoundMachine old table → Steps meaning entries input old table stepped new new_table → association_of serial new.held.associations ≡ Some a → Allows old.config.extended a
step_first laws meaning entries (steps.Message from octets fresh) old table stepped new new_table serial a sound is stands =
    came_allows laws meaning (setup_at old entries fresh) octets old.held table stepped new.held new_table old.config.extended serial a sound.held sound.asks
    (datagram_came meaning (setup_at old entries fresh) old.cookies from octets old.held table stepped new.held new_table is.1) stands
step_first laws meaning entries (steps.Start None place fresh) old table stepped new new_table serial a sound is stands =
    started_allows meaning (setup_at old entries fresh) old.held table stepped new.held new_table serial a sound.held sound.asks (record { place = place; starts = is.1 }) stands
step_first laws meaning entries (steps.Start (Some asker) place fresh) old table stepped new new_table serial a sound is stands =
    probed_allows meaning (setup_at old entries fresh) old.held table stepped new.held new_table old.config.extended serial a sound.held sound.asks
    (further_one meaning (setup_at old entries fresh) asker place old.held table stepped new.held new_table is.1) stands
step_first laws meaning entries (steps.Order what fresh) old table stepped new new_table serial a sound is stands =
    probed_allows meaning (setup_at old entries fresh) old.held table stepped new.held new_table old.config.extended serial a sound.held sound.asks
    (asked_one meaning (setup_at old entries fresh) what old.held table stepped new.held new_table is.1) stands
step_first laws meaning entries (steps.Secret secret) old table stepped new new_table serial a sound is stands =
    (sound.asks serial a (sym (ap (λ (m : Machine). association_of serial m.held.associations) is.content) ∙ stands)).first
step_first laws meaning entries (steps.Tick moment) old table stepped new new_table serial a sound is stands =
    let now = max old.moment moment in
    let before = ticked_stood now old.held new.held table serial a sound.held (laws.hold now old.held.associations table is.takes.ticked new.held.associations new_table is.takes.ticks) stands in
    λ child first. (sound.asks serial before.was before.stood).first child (ticked_allows now before.was.phase a.phase child
    (elim before.on.phase [
      | inl stays ↦ inl stays.1
      | inr closes ↦ inr (keys_in before.was.phase, ap (λ (x : Association). x.phase) closes.content)
    ]) first)

-- ---- additional Child SAs

same_request : (one other : Request) → Some one ≡ Some other → one ≡ other
same_request one other is = cc

same_further : (one other : FurtherChild) → CreateChild one ≡ CreateChild other → one ≡ other
same_further one other is = cc

abbrev number_in : Option Mark → ℕ
number_in None = 0
number_in (Some mark) = mark.number

same_number : (ike one other : ℕ) → request_mark ike one ≡ request_mark ike other → one ≡ other
same_number ike one other is = ap number_in is

now_allows : (setup : Setup) (meaning : Meaning) (ike number : ℕ) (request : Request) (further : FurtherChild) (stepped : Stepped) (new : Held) (a : Association) → AsksForFurtherNow meaning.body_of setup ike stepped new
    → stepped ≡ asking_step ike number request.octets → association_of ike new.associations ≡ Some a → map.get a.outgoing.outstanding number ≡ Some request → request.purpose ≡ CreateChild further
    → further.child.extended ≡ true → setup.config.extended ≡ true
now_allows setup meaning ike number request further stepped new a now said stands there purpose is_extended =
    let here : now.number ≡ number = same_number ike now.number number (sym (ap (λ (s : Stepped). s.trace.sent) now.said) ∙ ap (λ (s : Stepped). s.trace.sent) said) in
    let kept : map.get a.outgoing.outstanding number ≡ Some (new_request now.octets (CreateChild now.asks.further) setup.moment) =
    ap (λ (x : Association). map.get x.outgoing.outstanding number) (same_one a now.is (sym stands ∙ now.stands)) ∙ subst (λ (n : ℕ). map.get now.is.outgoing.outstanding n ≡ Some (new_request now.octets (CreateChild now.asks.further) setup.moment)) here now.asks.kept in
    let its : now.asks.further ≡ further = same_further now.asks.further further (sym (ap (λ (r : Request). r.purpose) (same_request request (new_request now.octets (CreateChild now.asks.further) setup.moment) (sym there ∙ kept))) ∙ purpose) in
    sym (ap (λ (f : FurtherChild). f.child.extended) now.asks.is) ∙ ap (λ (f : FurtherChild). f.child.extended) its ∙ is_extended

step_later : (laws : AskLaws) (meaning : Meaning) (entries : List Entry) (input : InputView) (old : Machine) (table : Database) (stepped : Stepped) (new : Machine) (new_table : Database) (serial : ℕ) (a : Association)
    (number : ℕ) (request : Request) (further : FurtherChild) → IsSoundMachine old table → Steps meaning entries input old table stepped new new_table → association_of serial new.held.associations ≡ Some a
    → map.get a.outgoing.outstanding number ≡ Some request → request.purpose ≡ CreateChild further → further.child.extended ≡ true → old.config.extended ≡ true
step_later laws meaning entries input old table stepped new new_table serial a number request further sound is stands there purpose is_extended =
    elim (step_further laws.further laws.hold meaning entries input old table stepped new new_table serial number a request sound is stands there (ap asks_for_child purpose)) [
      | inl w ↦ (sound.asks serial w.was w.stood).further number w.waited.was further w.waited.there (sym w.waited.purpose ∙ purpose) is_extended
      | inr o ↦ now_allows (setup_at old entries o.fresh) meaning serial number request further stepped new.held a
          (step_asks_now laws.further meaning entries serial o.place o.fresh old table stepped new new_table sound
          (subst (λ (i : InputView). Steps meaning entries i old table stepped new new_table) o.is is))
          o.said stands there purpose is_extended
    ]

pub step_allowed : AskLaws → (meaning : Meaning) (entries : List Entry) (input : InputView) (old : Machine) (table : Database) (stepped : Stepped) (new : Machine) (new_table : Database)
    → IsSoundMachine old table → Steps meaning entries input old table stepped new new_table → AskAsAllowed new.config.extended new.held
step_allowed laws meaning entries input old table stepped new new_table sound is serial a stands =
    subst (λ (b : Bool). AsksAsAllowed b a) (sym (ap (λ c. c.extended) (step_config meaning entries input old table stepped new new_table is)))
    (record {
      first = step_first laws meaning entries input old table stepped new new_table serial a sound is stands;
      further = λ number request further there purpose is_extended. step_later laws meaning entries input old table stepped new new_table serial a number request further sound is stands there purpose is_extended;
    })

pub step_sound : (laws : Laws) (orders : OrderLaws) (asks : AskLaws) (meaning : Meaning) (entries : List Entry) (input : InputView) (old : Machine) (table : Database) (stepped : Stepped) (new : Machine) (new_table : Database)
    → IsSoundTable table → IsSoundMachine old table → Steps meaning entries input old table stepped new new_table → IsSoundMachine new new_table
step_sound laws orders asks meaning entries input old table stepped new new_table sound_table sound is =
    record {
      held = step_held laws orders meaning entries input old table stepped new new_table sound_table sound.held is;
      config = subst IsConfig (sym (step_config meaning entries input old table stepped new new_table is)) sound.config;
      asks = step_allowed asks meaning entries input old table stepped new new_table sound is;
    }

-- ---- and made

same_pair : (one other : Pair) → Some one ≡ Some other → one ≡ other
same_pair one other is = cc

made_allowed : (meaning : Meaning) (setup : Setup) (serial : ℕ) (old : Held) (was : Association) (octets : Octets) (m : Message) (e : Effect) (keys : KeyRecord) (pair : Pair)
    → AskAsAllowed setup.config.extended old → association_of serial old.associations ≡ Some was → MadeBy meaning setup was octets m e keys pair
    → pair.inbound.association.extended ≡ true → setup.config.extended ≡ true
made_allowed meaning setup serial old was octets m (effect.Refused f) keys pair asks held made is_extended = absurd made
made_allowed meaning setup serial old was octets m (effect.Repeated reply) keys pair asks held made is_extended = absurd made
made_allowed meaning setup serial old was octets m (effect.Replied answered) keys pair asks held made is_extended = made.1.is.extension is_extended
made_allowed meaning setup serial old was octets m (effect.Again next) keys pair asks held made is_extended = absurd made
made_allowed meaning setup serial old was octets m (effect.AsksAuth next) keys pair asks held made is_extended = absurd made
made_allowed meaning setup serial old was octets m (effect.Counted ended) keys pair asks held (inl made) is_extended =
    (asks serial was held).first made.sent.child (ap first_asked made.was) (made.is.keeps.extension is_extended)
made_allowed meaning setup serial old was octets m (effect.Counted ended) keys pair asks held (inr made) is_extended =
    (asks serial was held).further m.header.id made.request made.further made.outstanding made.asked (made.is.keeps.extension is_extended)

pub child_allowed : (meaning : Meaning) (setup : Setup) (octets : Octets) (old : Held) (table : Database) (stepped : Stepped) (made : MadeChild) (new : Held) (new_table : Database) (pair : Pair)
    → AskAsAllowed setup.config.extended old → MakesChildOf meaning setup octets old table stepped made new new_table → pair_at new_table.pairs made.serial ≡ Some pair
    → pair.inbound.association.extended ≡ true → setup.config.extended ≡ true
child_allowed meaning setup octets old table stepped made new new_table pair asks is there is_extended =
    let its : pair ≡ is.makes.pair = same_pair pair is.makes.pair (sym there ∙ is.makes.brings.there) in
    made_allowed meaning setup made.ike old is.was octets is.message is.effect is.makes.keys is.makes.pair asks is.stood is.makes.made
    (sym (ap (λ (p : Pair). p.inbound.association.extended) its) ∙ is_extended)
