-- What a step that is no tick leaves of what waits for an answer, and of the phases that end with time.
use Rattle.std.proofs.Common.{◌≡◌, ◌⊎◌, inl, inr, ℕ, Bool, false, List, Option, Some, None, ap, refl, subst, sym, ◌∙◌}
use Rattle.std.specs.FinMap as map
use Rattle.std.specs.Ordering.{nat_cmp}
use Rattle.base.specs.Octets.{Octets}
use Rattle.policy.specs.declared.entry.Entry.{Entry}
use Rattle.suite.specs.declared.fresh.Fresh.{Fresh}
use Rattle.suite.specs.declared.keys.Keys.{Keys}
use Rattle.suite.specs.declared.sealer.Cipher.{Cipher}
use Rattle.wire.specs.declared.message.Message.{Message}
use Rattle.suite.specs.declared.key_record.KeyRecord.{KeyRecord}
use Rattle.sadb.specs.Database.{Database}
use Rattle.association.specs.AskedChildren.{AskedChildView}
use Rattle.association.specs.declared.phase.Association.{Association}
use Rattle.association.specs.declared.phase.HalfOpen.{HalfOpen}
use Rattle.association.specs.declared.phase.InitSent.{InitSent}
use Rattle.association.specs.declared.phase.Phase.{Phase}
use Rattle.association.specs.declared.phase.Phase.TheVariants as phase
use Rattle.association.specs.declared.phase.Request.{Request}
use Rattle.initial.specs.Beginning.{begun, Begins}
use Rattle.setup.specs.Configs.{Setup}
use Rattle.initial.specs.declared.beginning.Beginning.{Beginning}
use Rattle.effects.specs.Sending.{SendsRequest}
use Rattle.effects.specs.Taking.{Meaning, KeepsIdentity, TakesMessage}
use Rattle.effects.specs.Requests.{IsSoundlyHeld}
use Rattle.effects.specs.Waiting.{asked_by, ClosesAssociation, KeepTimers, WaitUntil}
use Rattle.effects.specs.Waiting as effects
use Rattle.effects.specs.declared.taking.Effect.{Effect}
use Rattle.effects.specs.declared.taking.Effect.TheVariants as effect
use Rattle.ike.specs.Machines.{association_of, setup_at, Held, Machine}
use Rattle.ike.specs.Moments.{StandsIn, StartsToWait, StopsWaiting, WaitsAt}
use Rattle.ike.specs.Moves.{TellsClosed}
use Rattle.ike.specs.Outputs.{closed_serial, stepped_of}
use Rattle.ike.specs.Soundness.{AreSound, IsSoundMachine}
use Rattle.ike.specs.Starting.{child_by}
use Rattle.ike.specs.Steps as steps
use Rattle.ike.specs.Steps.{is_tick, InputView, Steps}
use Rattle.ike.specs.declared.output.IkeOutput.{IkeOutput}
use Rattle.ike.specs.declared.output.IkeOutput.TheVariants as output
use Rattle.ike.specs.declared.output.Stepped.{Stepped}
use Rattle.ike.proofs.MoveLemmas.{at_changed, at_grown}
use Rattle.ike.proofs.AskingLemmas.{changed_itself, probed_serial}
use Rattle.ike.proofs.SerialLemmas.{same_one}
use Rattle.ike.proofs.WayLemmas.{admitted, asked_one, datagram_way, further_one, probed, rested, started, took, AdmitsOne, AsksOne, StartsOne, Takes, Way}
use Rattle.association.specs.Outcomes.{made_by}

-- what is known of one IKE SA
pub record WaitLaws : Type 0 where
  pub itself : (meaning : Meaning) (setup : Setup) (old : Association) (table : Database) (octets : Octets) (m : Message) (e : Effect) (new : Association) (new_table : Database)
      → TakesMessage meaning setup old table octets m e new new_table → KeepsIdentity old new
  pub taken : (meaning : Meaning) (setup : Setup) (old : Association) (table : Database) (octets : Octets) (m : Message) (e : Effect) (new : Association) (new_table : Database)
      → IsSoundlyHeld old → TakesMessage meaning setup old table octets m e new new_table → KeepTimers setup.moment (asked_by e) old new
  pub until : (meaning : Meaning) (setup : Setup) (old : Association) (table : Database) (octets : Octets) (m : Message) (e : Effect) (new : Association) (new_table : Database)
      → IsSoundlyHeld old → TakesMessage meaning setup old table octets m e new new_table → WaitUntil m.header.id e old.outgoing new.outgoing
  pub closed : (meaning : Meaning) (setup : Setup) (old : Association) (table : Database) (octets : Octets) (m : Message) (e : Effect) (new : Association) (new_table : Database) (keys : Option KeyRecord) (at : ℕ)
      → TakesMessage meaning setup old table octets m e new new_table → new.phase ≡ phase.Closed keys at → (old.phase ≡ phase.Closed keys at) ⊎ ((at ≡ setup.moment) × ClosesAssociation e)
  pub opened : (meaning : Meaning) (setup : Setup) (old : Association) (table : Database) (octets : Octets) (m : Message) (e : Effect) (new : Association) (new_table : Database) (opened : HalfOpen)
      → TakesMessage meaning setup old table octets m e new new_table → new.phase ≡ phase.HalfOpen opened → old.phase ≡ phase.HalfOpen opened
  pub begun : (cipher : Cipher) (group : ℕ) (public_value : Octets → Octets) (fresh : Fresh) (moment serial : ℕ) (beginning : Beginning) (child : AskedChildView) (number : ℕ) (request : Request)
      → Begins cipher group public_value fresh moment beginning → map.get (begun serial beginning child).outgoing.outstanding number ≡ Some request
      → (beginning.octets ≡ request.octets) × (request.timer ≡ record { sent = moment; repeats = 0 })
  pub requested : (body_of : Keys → Octets → Octets → Octets → Octets) (setup : Setup) (old : Association) (octets : Octets) (new : Association) → IsSoundlyHeld old → SendsRequest body_of setup old octets new
      → KeepTimers setup.moment (Some octets) old new
  pub beside : (body_of : Keys → Octets → Octets → Octets → Octets) (setup : Setup) (old : Association) (octets : Octets) (new : Association) (number : ℕ) (request : Request) → IsSoundlyHeld old → SendsRequest body_of setup old octets new
      → map.get old.outgoing.outstanding number ≡ Some request → map.get new.outgoing.outstanding number ≡ Some request

-- what a step that is no tick leaves of what waits, and of phases that have a time
pub record Times (answered moment : ℕ) (old : Held) (stepped : Stepped) (new : Held) (serial : ℕ) : Type 0 where
  pub waits : (number : ℕ) (request : Request) → WaitsAt new serial number request → WaitsAt old serial number request ⊎ StartsToWait moment old stepped new serial number request
  pub waited : (number : ℕ) (request : Request) → WaitsAt old serial number request → WaitsAt new serial number request ⊎ StopsWaiting answered stepped.output serial number
  pub closed : (keys : Option KeyRecord) (at : ℕ) → StandsIn new serial (phase.Closed keys at) → StandsIn old serial (phase.Closed keys at) ⊎ ((at ≡ moment) × TellsClosed serial stepped.output)
  pub half_open : (opened : HalfOpen) → StandsIn new serial (phase.HalfOpen opened) → StandsIn old serial (phase.HalfOpen opened) ⊎ (opened.made ≡ moment)

same_octets : (one other : Octets) → Some one ≡ Some other → one ≡ other
same_octets one other is = cc

none_some : (a : Association) → None ≡ Some a → ⊥
none_some a is = cc

-- the IKE SA is another one
times_apart : (answered moment : ℕ) (old : Held) (stepped : Stepped) (new : Held) (serial : ℕ) → association_of serial new.associations ≡ association_of serial old.associations → Times answered moment old stepped new serial
times_apart answered moment old stepped new serial same = record {
  waits = λ number request waits. inl (record { association = waits.association; there = sym same ∙ waits.there; waits = waits.waits });
  waited = λ number request waits. inl (record { association = waits.association; there = same ∙ waits.there; waits = waits.waits });
  closed = λ keys at stands. inl (record { association = stands.association; there = sym same ∙ stands.there; is = stands.is });
  half_open = λ opened stands. inl (record { association = stands.association; there = sym same ∙ stands.there; is = stands.is });
}

-- what waits at the one that stands there, and its phase
waits_of : (held : Held) (serial number : ℕ) (request : Request) (a : Association) → association_of serial held.associations ≡ Some a → WaitsAt held serial number request → map.get a.outgoing.outstanding number ≡ Some request
waits_of held serial number request a there waits = subst (λ (x : Association). map.get x.outgoing.outstanding number ≡ Some request) (same_one waits.association a (sym waits.there ∙ there)) waits.waits

phase_of : (held : Held) (serial : ℕ) (p : Phase) (a : Association) → association_of serial held.associations ≡ Some a → StandsIn held serial p → a.phase ≡ p
phase_of held serial p a there stands = subst (λ (x : Association). x.phase ≡ p) (same_one stands.association a (sym stands.there ∙ there)) stands.is

none_waits : (number : ℕ) (request : Request) → None ≡ Some request → ⊥
none_waits number request is = cc

-- the one that it is about waits on as it is known
waits_there : (moment : ℕ) (old : Held) (stepped : Stepped) (new : Held) (serial : ℕ) (a b : Association) (sent : Option Octets) (number : ℕ) (request : Request)
    → association_of serial old.associations ≡ Some a → association_of serial new.associations ≡ Some b → KeepTimers moment sent a b
    → ((octets : Octets) → sent ≡ Some octets → stepped.output ≡ output.Request serial octets) → WaitsAt new serial number request
    → WaitsAt old serial number request ⊎ StartsToWait moment old stepped new serial number request
waits_there moment old stepped new serial a b sent number request before after on said waits = elim (on number request (waits_of new serial number request b after waits)) [
  | inl was ↦ inl (record { association = a; there = before; waits = was })
  | inr now ↦ inr (record {
    said = said request.octets now.said;
    timer = now.timer;
    fresh = elim now.fresh [
      | inl none ↦ inl (λ other stood. none_waits number other (sym none ∙ waits_of old serial number other a before stood))
      | inr takes ↦ inr (record { before = a; after = b; stood = before; stands = after; takes = takes })
    ];
  })
]

said_by_effect : (serial number : ℕ) (e : Effect) (octets : Octets) → asked_by e ≡ Some octets → (stepped_of serial number e).output ≡ output.Request serial octets
said_by_effect serial number (effect.Refused f) octets is = cc
said_by_effect serial number (effect.Repeated reply) octets is = cc
said_by_effect serial number (effect.Replied answered) octets is = cc
said_by_effect serial number (effect.Again next) octets is = ap (λ (o : Octets). output.Request serial o) (same_octets next octets is)
said_by_effect serial number (effect.AsksAuth next) octets is = ap (λ (o : Octets). output.Request serial o) (same_octets next octets is)
said_by_effect serial number (effect.Counted ended) octets is = cc

-- what stops by an effect stops by what is said of it
stops_said : (serial id number : ℕ) (e : Effect) → effects.WaitsNoMore id e number → StopsWaiting id (stepped_of serial id e).output serial number
stops_said serial id number (effect.Refused f) stops = absurd stops
stops_said serial id number (effect.Repeated reply) stops = absurd stops
stops_said serial id number (effect.Replied answered) stops = subst (λ (b : Bool). StopsWaiting id (output.Reply answered.octets (closed_serial serial b)) serial number) (sym stops) refl
stops_said serial id number (effect.Again next) stops = (refl, stops)
stops_said serial id number (effect.AsksAuth next) stops = (refl, stops)
stops_said serial id number (effect.Counted ended) stops = (
  refl,
  elim stops [
    | inl same ↦ inl same
    | inr ends ↦ inr (ap (closed_serial serial) ends)
  ],
)

ends_said : (serial id : ℕ) (e : Effect) → ClosesAssociation e → TellsClosed serial (stepped_of serial id e).output
ends_said serial id (effect.Refused f) ends = absurd ends
ends_said serial id (effect.Repeated reply) ends = absurd ends
ends_said serial id (effect.Replied answered) ends = subst (λ (b : Bool). TellsClosed serial (output.Reply answered.octets (closed_serial serial b))) (sym ends) refl
ends_said serial id (effect.Again next) ends = absurd ends
ends_said serial id (effect.AsksAuth next) ends = absurd ends
ends_said serial id (effect.Counted ended) ends = subst (λ (b : Bool). TellsClosed serial (output.Counted serial (made_by ended.fate) (closed_serial serial b))) (sym ends) refl

init_closed : (sent : InitSent) (keys : Option KeyRecord) (at : ℕ) → phase.InitSent sent ≡ phase.Closed keys at → ⊥
init_closed sent keys at is = cc

init_opens : (sent : InitSent) (opened : HalfOpen) → phase.InitSent sent ≡ phase.HalfOpen opened → ⊥
init_opens sent opened is = cc

opened_closed : (opened : HalfOpen) (keys : Option KeyRecord) (at : ℕ) → phase.HalfOpen opened ≡ phase.Closed keys at → ⊥
opened_closed opened keys at is = cc

same_opened : (one other : HalfOpen) → phase.HalfOpen one ≡ phase.HalfOpen other → one ≡ other
same_opened one other is = cc

established_closed : (known : KeyRecord) (keys : Option KeyRecord) (at : ℕ) → phase.Established known ≡ phase.Closed keys at → ⊥
established_closed known keys at is = cc

established_opens : (known : KeyRecord) (opened : HalfOpen) → phase.Established known ≡ phase.HalfOpen opened → ⊥
established_opens known opened is = cc

none_first : (number : ℕ) (request : Request) → map.get {R = nat_cmp} (map.empty {X = Request}) number ≡ Some request → ⊥
none_first number request is = let none : map.get {R = nat_cmp} (map.empty {X = Request}) number ≡ None = map.get-empty nat_cmp number in cc

started_times : (answered : ℕ) (laws : WaitLaws) (meaning : Meaning) (setup : Setup) (old : Held) (table : Database) (stepped : Stepped) (new : Held) (new_table : Database) (serial : ℕ)
    → AreSound old table → StartsOne meaning setup old table stepped new new_table → Times answered setup.moment old stepped new serial
started_times answered laws meaning setup old table stepped new new_table serial sound is =
    let s = is.starts in
    elim (at_grown old table _ new serial sound refl s.done.content) [
      | inl (here, before, after) ↦ record {
        waits = λ number request waits.
            let now = laws.begun meaning.cipher meaning.group meaning.public_value setup.fresh setup.moment old.next s.beginning (child_by s.entry s.done.spi setup.config.extended) number request s.begins
            (waits_of new serial number request _ after waits) in
            inr (record {
              said = ap (λ (x : Stepped). x.output) s.done.said ∙ ap (λ n. output.Request n s.beginning.octets) (sym here) ∙ ap (λ (o : Octets). output.Request serial o) now.0;
              timer = now.1;
              fresh = inl (λ other stood. none_some stood.association (sym before ∙ stood.there));
            });
        waited = λ number request waits. absurd (none_some waits.association (sym before ∙ waits.there));
        closed = λ keys at stands. absurd (init_closed _ keys at (phase_of new serial (phase.Closed keys at) _ after stands));
        half_open = λ opened stands. absurd (init_opens _ opened (phase_of new serial (phase.HalfOpen opened) _ after stands));
      }
      | inr (apart, same) ↦ times_apart answered setup.moment old stepped new serial same
    ]

probed_times : (answered : ℕ) (laws : WaitLaws) (meaning : Meaning) (setup : Setup) (old : Held) (table : Database) (stepped : Stepped) (new : Held) (new_table : Database) (serial : ℕ)
    → AreSound old table → AsksOne meaning setup old table stepped new new_table → Times answered setup.moment old stepped new serial
probed_times answered laws meaning setup old table stepped new new_table serial sound is =
    let p = is.probes in
    let stays = changed_itself meaning.body_of setup is.ike old stepped new p in
    let named : p.association.serial ≡ is.ike = probed_serial meaning.body_of setup is.ike old stepped new p in
    let held = (sound.each p.place p.association p.there).soundly in
    let known : p.changed.phase ≡ phase.Established p.sends.keys = ap (λ (x : Association). x.phase) p.sends.content ∙ p.sends.established in
    elim (at_changed old table p.place p.association p.changed new serial sound p.there stays.serial p.content) [
      | inl (here, before, after) ↦ record {
        waits = λ number request. waits_there setup.moment old stepped new serial p.association p.changed (Some p.octets) number request before after
            (laws.requested meaning.body_of setup p.association p.octets p.changed held p.sends)
            (λ octets out. ap (λ (x : Stepped). x.output) p.said ∙ ap (λ n. output.Request n p.octets) (sym (here ∙ named)) ∙ ap (λ (o : Octets). output.Request serial o) (same_octets p.octets octets out));
        waited = λ number request waits. inl (record {
          association = p.changed;
          there = after;
          waits = laws.beside meaning.body_of setup p.association p.octets p.changed number request held p.sends (waits_of old serial number request p.association before waits);
        });
        closed = λ keys at stands. absurd (established_closed p.sends.keys keys at (sym known ∙ phase_of new serial (phase.Closed keys at) p.changed after stands));
        half_open = λ opened stands. absurd (established_opens p.sends.keys opened (sym known ∙ phase_of new serial (phase.HalfOpen opened) p.changed after stands));
      }
      | inr (apart, same) ↦ times_apart answered setup.moment old stepped new serial same
    ]

took_times : (laws : WaitLaws) (meaning : Meaning) (setup : Setup) (octets : Octets) (old : Held) (table : Database) (stepped : Stepped) (new : Held) (new_table : Database) (serial : ℕ)
    → AreSound old table → (is : Takes meaning setup octets old table stepped new new_table) → Times is.message.header.id setup.moment old stepped new serial
took_times laws meaning setup octets old table stepped new new_table serial sound is =
    let t = is.takes in
    let a = t.association in
    let id = is.message.header.id in
    let held = (sound.each is.place a t.there).soundly in
    let stays = laws.itself meaning setup a table octets is.message t.effect t.changed new_table t.takes in
    elim (at_changed old table is.place a t.changed new serial sound t.there stays.serial t.content) [
      | inl (here, before, after) ↦ (let says : stepped.output ≡ (stepped_of serial id t.effect).output = ap (λ (x : Stepped). x.output) t.said ∙ ap (λ (n : ℕ). (stepped_of n id t.effect).output) (sym here) in
          record {
            waits = λ number request. waits_there setup.moment old stepped new serial a t.changed (asked_by t.effect) number request before after
                (laws.taken meaning setup a table octets is.message t.effect t.changed new_table held t.takes) (λ next out. says ∙ said_by_effect serial id t.effect next out);
            waited = λ number request waits.
                elim (laws.until meaning setup a table octets is.message t.effect t.changed new_table held t.takes number request (waits_of old serial number request a before waits)) [
                  | inl on ↦ inl (record { association = t.changed; there = after; waits = on })
                  | inr stops ↦ inr (subst (λ (o : IkeOutput). StopsWaiting id o serial number) (sym says) (stops_said serial id number t.effect stops))
                ];
            closed = λ keys at stands.
                elim (laws.closed meaning setup a table octets is.message t.effect t.changed new_table keys at t.takes (phase_of new serial (phase.Closed keys at) t.changed after stands)) [
                  | inl was ↦ inl (record { association = a; there = before; is = was })
                  | inr (now, ends) ↦ inr (now, subst (λ (o : IkeOutput). TellsClosed serial o) (sym says) (ends_said serial id t.effect ends))
                ];
            half_open = λ opened stands. inl (record {
              association = a;
              there = before;
              is = laws.opened meaning setup a table octets is.message t.effect t.changed new_table opened t.takes (phase_of new serial (phase.HalfOpen opened) t.changed after stands);
            });
          })
      | inr (apart, same) ↦ times_apart id setup.moment old stepped new serial same
    ]

admitted_times : (answered : ℕ) (meaning : Meaning) (setup : Setup) (octets : Octets) (old : Held) (table : Database) (stepped : Stepped) (new : Held) (new_table : Database) (serial : ℕ)
    → AreSound old table → AdmitsOne meaning setup octets old table stepped new new_table → Times answered setup.moment old stepped new serial
admitted_times answered meaning setup octets old table stepped new new_table serial sound is =
    let b = is.admits.admitted.association in
    let content = is.admits.admits.content in
    elim (at_grown old table b new serial sound (ap (λ (x : Association). x.serial) content) is.admits.content) [
      | inl (here, before, after) ↦ record {
        waits = λ number request waits. absurd (none_first number request (sym (ap (λ (x : Association). map.get x.outgoing.outstanding number) content) ∙ waits_of new serial number request b after waits));
        waited = λ number request waits. absurd (none_some waits.association (sym before ∙ waits.there));
        closed = λ keys at stands. absurd (opened_closed _ keys at (sym (ap (λ (x : Association). x.phase) content) ∙ phase_of new serial (phase.Closed keys at) b after stands));
        half_open = λ opened stands.
            inr (sym (ap (λ (o : HalfOpen). o.made) (same_opened _ opened (sym (ap (λ (x : Association). x.phase) content) ∙ phase_of new serial (phase.HalfOpen opened) b after stands))));
      }
      | inr (apart, same) ↦ times_apart answered setup.moment old stepped new serial same
    ]

-- the number whose response came, if one did
abbrev way_answered : (meaning : Meaning) (setup : Setup) (octets : Octets) (old : Held) (table : Database) (stepped : Stepped) (new : Held) (new_table : Database) → Way meaning setup octets old table stepped new new_table → ℕ
way_answered meaning setup octets old table stepped new new_table (took is) = is.message.header.id
way_answered meaning setup octets old table stepped new new_table (rested is) = 0
way_answered meaning setup octets old table stepped new new_table (admitted is) = 0
way_answered meaning setup octets old table stepped new new_table (started is) = 0
way_answered meaning setup octets old table stepped new new_table (probed is) = 0

way_times : (laws : WaitLaws) (meaning : Meaning) (setup : Setup) (octets : Octets) (old : Held) (table : Database) (stepped : Stepped) (new : Held) (new_table : Database) (serial : ℕ)
    → AreSound old table → (is : Way meaning setup octets old table stepped new new_table) → Times (way_answered meaning setup octets old table stepped new new_table is) setup.moment old stepped new serial
way_times laws meaning setup octets old table stepped new new_table serial sound (rested is) = times_apart 0 setup.moment old stepped new serial (ap (λ (h : Held). association_of serial h.associations) is.same)
way_times laws meaning setup octets old table stepped new new_table serial sound (took is) = took_times laws meaning setup octets old table stepped new new_table serial sound is
way_times laws meaning setup octets old table stepped new new_table serial sound (admitted is) = admitted_times 0 meaning setup octets old table stepped new new_table serial sound is
way_times laws meaning setup octets old table stepped new new_table serial sound (started is) = started_times 0 laws meaning setup old table stepped new new_table serial sound is
way_times laws meaning setup octets old table stepped new new_table serial sound (probed is) = probed_times 0 laws meaning setup old table stepped new new_table serial sound is

abbrev pub step_answered : (meaning : Meaning) (entries : List Entry) (input : InputView) (old : Machine) (table : Database) (stepped : Stepped) (new : Machine) (new_table : Database) → Steps meaning entries input old table stepped new new_table → ℕ
step_answered meaning entries (steps.Message from octets fresh) old table stepped new new_table is =
    way_answered meaning (setup_at old entries fresh) octets old.held table stepped new.held new_table
    (datagram_way meaning (setup_at old entries fresh) old.cookies from octets old.held table stepped new.held new_table is.1)
step_answered meaning entries (steps.Start ike place fresh) old table stepped new new_table is = 0
step_answered meaning entries (steps.Order what fresh) old table stepped new new_table is = 0
step_answered meaning entries (steps.Secret secret) old table stepped new new_table is = 0
step_answered meaning entries (steps.Tick moment) old table stepped new new_table is = 0

pub step_times : WaitLaws → (meaning : Meaning) (entries : List Entry) (input : InputView) (old : Machine) (table : Database) (stepped : Stepped) (new : Machine) (new_table : Database) (serial : ℕ)
    → is_tick input ≡ false → IsSoundMachine old table → (is : Steps meaning entries input old table stepped new new_table)
    → Times (step_answered meaning entries input old table stepped new new_table is) old.moment old.held stepped new.held serial
step_times laws meaning entries (steps.Message from octets fresh) old table stepped new new_table serial none sound is =
    way_times laws meaning (setup_at old entries fresh) octets old.held table stepped new.held new_table serial sound.held
    (datagram_way meaning (setup_at old entries fresh) old.cookies from octets old.held table stepped new.held new_table is.1)
step_times laws meaning entries (steps.Start None place fresh) old table stepped new new_table serial none sound is =
    started_times 0 laws meaning (setup_at old entries fresh) old.held table stepped new.held new_table serial sound.held (record { place = place; starts = is.1 })
step_times laws meaning entries (steps.Start (Some asker) place fresh) old table stepped new new_table serial none sound is =
    probed_times 0 laws meaning (setup_at old entries fresh) old.held table stepped new.held new_table serial sound.held (further_one meaning (setup_at old entries fresh) asker place old.held table stepped new.held new_table is.1)
step_times laws meaning entries (steps.Order what fresh) old table stepped new new_table serial none sound is =
    probed_times 0 laws meaning (setup_at old entries fresh) old.held table stepped new.held new_table serial sound.held (asked_one meaning (setup_at old entries fresh) what old.held table stepped new.held new_table is.1)
step_times laws meaning entries (steps.Secret secret) old table stepped new new_table serial none sound is =
    times_apart 0 old.moment old.held stepped new.held serial (ap (λ (m : Machine). association_of serial m.held.associations) is.content)
step_times laws meaning entries (steps.Tick moment) old table stepped new new_table serial none sound is = absurd cc
