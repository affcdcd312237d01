-- A step makes the moves that are stated, at each IKE SA.
use Rattle.std.proofs.Common.{◌≡◌, ◌≢◌, ◌⊎◌, inl, inr, ℕ, suc, ◌≤◌, ◌∷◌, ◌++◌, [], Bool, true, false, cond, not, List, length, Option, Some, None, Contains, max, arith, ap, refl, subst, sym, ◌∙◌}
use Rattle.std.proofs.lemmas.Bool.Decides.{eqb_tells}
use Rattle.std.specs.List.{slice_get, AllByRecursion, AllZip}
use Rattle.std.specs.Prelude.{slice_set, option_and_then}
use Rattle.base.specs.Octets.{AreOctets, Octets}
use Rattle.wire.specs.Messages.{Spells}
use Rattle.wire.specs.Numbers.{IKE_SA_INIT}
use Rattle.wire.specs.declared.message.Message.{Message}
use Rattle.policy.specs.declared.entry.Entry.{Entry}
use Rattle.suite.specs.declared.fresh.Fresh.{Fresh}
use Rattle.suite.specs.declared.key_record.KeyRecord.{KeyRecord}
use Rattle.suite.specs.declared.keys.Keys.{Keys}
use Rattle.suite.specs.declared.sealer.Cipher.{Cipher}
use Rattle.exchange.specs.Headers.{other_role}
use Rattle.sadb.specs.Database.{Database}
use Rattle.sa_init.specs.Judging.{OfferView}
use Rattle.association.specs.Finding.{is_meant}
use Rattle.association.specs.Phases.{keys_in}
use Rattle.association.specs.Receiving.{Opening}
use Rattle.association.specs.declared.phase.Association.{Association}
use Rattle.association.specs.Admitting.{Admits}
use Rattle.setup.specs.Configs.{IsConfig, Setup}
use Rattle.association.specs.declared.outcome.Answered.{Answered}
use Rattle.association.specs.declared.admitting.Admitted.{Admitted}
use Rattle.association.specs.declared.outcome.Ended.{Ended}
use Rattle.effects.specs.Sending.{SendsRequest}
use Rattle.moments.specs.Due.{has_failed, held_of, is_over, SendsAgain}
use Rattle.moments.specs.Held as moments
use Rattle.moments.specs.Ticking.{Ticks}
use Rattle.moments.specs.declared.ticking.Ticked.{Ticked}
use Rattle.effects.specs.Keeping.{KeyedBy}
use Rattle.effects.specs.Lengths.{HoldsWholeKeys}
use Rattle.effects.specs.Moves.{and_closes, ledger, makes_and_issues, moves_of, Close, Count, Issue, KeepsReply, Lead, Make, Move, Remove, TakeEffect}
use Rattle.effects.specs.Openings.{OpensAsMessage, OpensWhatItSeals}
use Rattle.effects.specs.Requests.{IsSoundlyHeld}
use Rattle.effects.specs.Taking.{Meaning, KeepsIdentity, TakesMessage}
use Rattle.effects.specs.declared.taking.Effect.{Effect}
use Rattle.effects.specs.declared.taking.Effect.TheVariants as effect
use Rattle.ike.specs.Machines.{association_of, has_serial, setup_at, Held, Machine}
use Rattle.ike.specs.Moves.{ledger_at, HasFresh, HasSeal, IsKeyless, IssuesOpenly, KeysCome, MoveComes, MoveOpens, MovesAt, OpensFresh, SaysNoMore, Tells, TellsAgain, TellsClosed}
use Rattle.ike.specs.Outputs.{asking_step, half_open_step, plain_step, request_mark, stepped_of}
use Rattle.ike.specs.Receiving.{with_next}
use Rattle.ike.specs.Soundness.{AreSound, At, IsSoundMachine}
use Rattle.ike.specs.Steps as steps
use Rattle.ike.specs.Steps.{is_tick, InputView, Steps}
use Rattle.ike.specs.declared.output.IkeOutput.TheVariants as output
use Rattle.ike.specs.declared.output.Stepped.{Stepped}
use Rattle.ike.proofs.OutputLemmas.{still_held, TicksLeave}
use Rattle.ike.proofs.AskingLemmas.{changed_itself, probed_serial}
use Rattle.ike.proofs.RequestLemmas.{found_first, held_soundly, some_none, yes_no}
use Rattle.ike.proofs.SerialLemmas.{grown_found, grown_stands, none_next, replaced_found, replaced_stands, same_one, sound_found}
use Rattle.ike.proofs.TellingLemmas.{asking_says, asking_silent, closes_now, closes_one, effect_says, effect_silent, half_open_says, half_open_silent, request_silent, said_silent, sends_now, silent_tells, tick_says, ClosesNow, IsEffectOf, IsSilent, SendsNow, TickFacts}
use Rattle.ike.proofs.TickLemmas.{found_at}
use Rattle.ike.proofs.WayLemmas.{admitted, asked_one, datagram_way, further_one, probed, rested, started, took, AsksOne, StartsOne, Way}
use Rattle.association.specs.Outcomes.{closed_by, made_by}
use Rattle.association.specs.declared.outcome.Fate.{Fate}
use Rattle.association.specs.declared.outcome.Fate.TheVariants as fate

-- what is known of moves at one IKE SA
pub record MoveLaws : Type 0 where
  pub itself : (meaning : Meaning) (setup : Setup) (old : Association) (table : Database) (octets : Octets) (m : Message) (e : Effect) (new : Association) (new_table : Database)
      → TakesMessage meaning setup old table octets m e new new_table → KeepsIdentity old new
  pub message : (meaning : Meaning) (setup : Setup) (old : Association) (table : Database) (octets : Octets) (m : Message) (e : Effect) (new : Association) (new_table : Database)
      → IsSoundlyHeld old → IsConfig setup.config → TakesMessage meaning setup old table octets m e new new_table → Lead (moves_of m.header.id (keys_in new.phase) e) (ledger old) (ledger new)
  pub requested : (body_of : Keys → Octets → Octets → Octets → Octets) (setup : Setup) (old : Association) (octets : Octets) (new : Association)
      → SendsRequest body_of setup old octets new → Lead (Issue old.outgoing.next octets ∷ []) (ledger old) (ledger new)
  pub admits : (cipher : Cipher) (group : ℕ) (public_value : Octets → Octets) (shared_secret : Octets → Octets → Option Octets) (fresh : Fresh) (moment serial : ℕ) (offer : OfferView) (spi_i : ℕ) (request : Octets) (admitted : Admitted)
      → Admits cipher group public_value shared_secret fresh moment serial offer spi_i request admitted → (keys : KeyRecord) × Lead (Make keys ∷ []) None (ledger admitted.association)
  pub initial : (meaning : Meaning) (setup : Setup) (old : Association) (table : Database) (octets : Octets) (m : Message) (next : Octets) (new : Association) (new_table : Database)
      → IsSoundlyHeld old → TakesMessage meaning setup old table octets m (effect.AsksAuth next) new new_table → (m.header.exchange ≡ IKE_SA_INIT) × (m.header.flags.response ≡ true)
  pub sending : (now : ℕ) (old new : Association) → SendsAgain now old new → Lead [] (ledger old) (ledger new)
  pub closing : (now : ℕ) (old new : Association) (keys : KeyRecord) → IsSoundlyHeld old → keys_in old.phase ≡ Some keys → moments.IsClosedAt now old new → Lead (Close ∷ []) (ledger old) (ledger new)
  pub removal : (now : ℕ) (old : Association) (keys : KeyRecord) → IsSoundlyHeld old → keys_in old.phase ≡ Some keys → is_over now old.phase ≡ true → Lead (Remove ∷ []) (ledger old) None
  pub few : (number : ℕ) (keys : Option KeyRecord) (e : Effect) → length (moves_of number keys e) ≤ 2
  pub reply : (meaning : Meaning) (setup : Setup) (old : Association) (table : Database) (octets : Octets) (m : Message) (answered : Answered) (new : Association) (new_table : Database)
      → OpensWhatItSeals meaning.body_of meaning.plain_of setup.fresh.seal → HoldsWholeKeys old.phase → TakesMessage meaning setup old table octets m (effect.Replied answered) new new_table
      → OpensAsMessage meaning.plain_of old old.role true m.header.id answered.octets
  pub identity : (meaning : Meaning) (setup : Setup) (old : Association) (table : Database) (octets : Octets) (m : Message) (next : Octets) (new : Association) (new_table : Database)
      → OpensWhatItSeals meaning.body_of meaning.plain_of setup.fresh.seal → HoldsWholeKeys new.phase → TakesMessage meaning setup old table octets m (effect.AsksAuth next) new new_table
      → OpensAsMessage meaning.plain_of new new.role false 1 next
  pub asked : (body_of : Keys → Octets → Octets → Octets → Octets) (plain_of : Opening) (setup : Setup) (old : Association) (octets : Octets) (new : Association)
      → OpensWhatItSeals body_of plain_of setup.fresh.seal → HoldsWholeKeys old.phase → SendsRequest body_of setup old octets new
      → OpensAsMessage plain_of new new.role false old.outgoing.next octets
  pub taken : (meaning : Meaning) (setup : Setup) (old : Association) (table : Database) (octets : Octets) (m : Message) (answered : Answered) (new : Association) (new_table : Database)
      → Spells m octets → is_meant m.header old ≡ true → TakesMessage meaning setup old table octets m (effect.Replied answered) new new_table
      → OpensAsMessage meaning.plain_of old (other_role old.role) false m.header.id octets
  pub counted : (meaning : Meaning) (setup : Setup) (old : Association) (table : Database) (octets : Octets) (m : Message) (ended : Ended) (new : Association) (new_table : Database)
      → Spells m octets → is_meant m.header old ≡ true → TakesMessage meaning setup old table octets m (effect.Counted ended) new new_table
      → OpensAsMessage meaning.plain_of old (other_role old.role) true m.header.id octets
  pub whole : (meaning : Meaning) (setup : Setup) (old : Association) (table : Database) (octets : Octets) (m : Message) (e : Effect) (new : Association) (new_table : Database)
      → HoldsWholeKeys old.phase → TakesMessage meaning setup old table octets m e new new_table → HoldsWholeKeys new.phase
  pub keyed : (meaning : Meaning) (setup : Setup) (old : Association) (table : Database) (octets : Octets) (m : Message) (e : Effect) (new : Association) (new_table : Database)
      → TakesMessage meaning setup old table octets m e new new_table → KeyedBy e new.phase
  pub kept : (meaning : Meaning) (setup : Setup) (old : Association) (table : Database) (octets : Octets) (m : Message) (reply : Octets) (new : Association) (new_table : Database)
      → TakesMessage meaning setup old table octets m (effect.Repeated reply) new new_table → KeepsReply (ledger old) m.header.id reply
  pub ticks : TickFacts

-- ---- what stands under a serial

abbrev looked : Option Association → Option Association → List Move → Type 0
looked o p moves = Lead moves (option_and_then ledger o) (option_and_then ledger p)

leads_by : (old new : Held) (serial : ℕ) (o p : Option Association) (moves : List Move) → association_of serial old.associations ≡ o → association_of serial new.associations ≡ p → looked o p moves
    → Lead moves (ledger_at old serial) (ledger_at new serial)
leads_by old new serial o p moves before after leads =
    subst (λ (x : Option Association). looked x (association_of serial new.associations) moves) (sym before) (subst (λ (x : Option Association). looked o x moves) (sym after) leads)

-- it stays as it was
rests_at : (meaning : Meaning) (input : InputView) (old : Held) (stepped : Stepped) (new : Held) (serial : ℕ) → association_of serial new.associations ≡ association_of serial old.associations
    → SaysNoMore (association_of serial old.associations) stepped serial [] → MovesAt meaning input old stepped new serial
rests_at meaning input old stepped new serial same says =
    record { moves = []; few = omega arith; lead = ap (option_and_then ledger) same; told = tt; no_more = says; came = tt; opened = λ opens. tt }

silent_at : (meaning : Meaning) (input : InputView) (old : Held) (stepped : Stepped) (new : Held) (serial : ℕ) → association_of serial new.associations ≡ association_of serial old.associations → IsSilent stepped serial
    → MovesAt meaning input old stepped new serial
silent_at meaning input old stepped new serial same silent = rests_at meaning input old stepped new serial same (silent_tells (association_of serial old.associations) stepped serial [] silent)

-- where one IKE SA is changed: it is this one, or this one stays
pub at_changed : (old : Held) (table : Database) (place : ℕ) (a b : Association) (new : Held) (serial : ℕ) → AreSound old table → At old place a → b.serial ≡ a.serial
    → new ≡ record old { associations = slice_set old.associations place b }
    → ((serial ≡ a.serial) × (association_of serial old.associations ≡ Some a) × (association_of serial new.associations ≡ Some b))
    ⊎ ((serial ≢ a.serial) × (association_of serial new.associations ≡ association_of serial old.associations))
at_changed old table place a b new serial sound there same content = elim (eqb_tells serial a.serial) [
  | inl (one, here) ↦ inl (
    here,
    subst (λ n. association_of n old.associations ≡ Some a) (sym here) (sound_found old table place a sound there),
    ap (λ (h : Held). association_of serial h.associations) content
        ∙ subst (λ n. association_of n (slice_set old.associations place b) ≡ Some b) (sym here) (replaced_stands old table place a b sound there same),
  )
  | inr (none, apart) ↦ inr (apart, ap (λ (h : Held). association_of serial h.associations) content ∙ replaced_found old.associations place a b serial there apart same)
]

-- where one comes: it is this one, or this one stays
pub at_grown : (old : Held) (table : Database) (b : Association) (new : Held) (serial : ℕ) → AreSound old table → b.serial ≡ old.next → new ≡ with_next old b
    → ((serial ≡ b.serial) × (association_of serial old.associations ≡ None) × (association_of serial new.associations ≡ Some b))
    ⊎ ((serial ≢ b.serial) × (association_of serial new.associations ≡ association_of serial old.associations))
at_grown old table b new serial sound next content = elim (eqb_tells serial b.serial) [
  | inl (one, here) ↦ inl (
    here,
    subst (λ n. association_of n old.associations ≡ None) (sym (here ∙ next)) (none_next old table sound),
    ap (λ (h : Held). association_of serial h.associations) content
        ∙ subst (λ n. association_of n (old.associations ++ b ∷ []) ≡ Some b) (sym here) (grown_stands old table b sound next),
  )
  | inr (none, apart) ↦ inr (apart, ap (λ (h : Held). association_of serial h.associations) content ∙ grown_found old.associations b serial apart)
]

-- ---- what is told

told_ended : (input : InputView) (stepped : Stepped) (serial : ℕ) (move : Move) (closed : Bool) → Tells input stepped serial move → (closed ≡ true → Tells input stepped serial Close)
    → AllByRecursion (Tells input stepped serial) (and_closes move closed)
told_ended input stepped serial move true tells closes = (tells, (closes refl, tt))
told_ended input stepped serial move false tells closes = (tells, tt)

told_made : (input : InputView) (stepped : Stepped) (serial : ℕ) (keys : Option KeyRecord) (octets : Octets) → is_tick input ≡ false → stepped.trace.keyed ≡ Some serial → stepped.output ≡ output.Request serial octets
    → stepped.trace.sent ≡ request_mark serial 1 → AllByRecursion (Tells input stepped serial) (makes_and_issues keys octets)
told_made input stepped serial (Some keys) octets moves keyed said sent = ((keyed, moves), ((said, sent), tt))
told_made input stepped serial None octets moves keyed said sent = tt

closing_fate : (f : Fate) → closed_by f ≡ true → f ≡ fate.Closed
closing_fate fate.Stands is = absurd cc
closing_fate (fate.Made serial) is = absurd cc
closing_fate fate.Closed is = refl

told_effect : (input : InputView) (serial number : ℕ) (keys : Option KeyRecord) (e : Effect) → is_tick input ≡ false → AllByRecursion (Tells input (stepped_of serial number e) serial) (moves_of number keys e)
told_effect input serial number keys (effect.Refused fault) moves = tt
told_effect input serial number keys (effect.Repeated octets) moves = tt
told_effect input serial number keys (effect.Again octets) moves = tt
told_effect input serial number keys (effect.AsksAuth octets) moves = told_made input (stepped_of serial number (effect.AsksAuth octets)) serial keys octets moves refl refl refl
told_effect input serial number keys (effect.Replied answered) moves =
    told_ended input (stepped_of serial number (effect.Replied answered)) serial (TakeEffect number answered.octets) (closed_by answered.fate) (_, refl, refl)
    (λ closed. subst (λ (f : Fate). Tells input (stepped_of serial number (effect.Replied (record answered { fate = f }))) serial Close) (sym (closing_fate answered.fate closed)) refl)
told_effect input serial number keys (effect.Counted ended) moves =
    told_ended input (stepped_of serial number (effect.Counted ended)) serial (Count number) (closed_by ended.fate) (made_by ended.fate, _, refl)
    (λ closed. subst (λ (f : Fate). Tells input (stepped_of serial number (effect.Counted (record ended { fate = f }))) serial Close) (sym (closing_fate ended.fate closed)) refl)

-- ---- what comes, and what opens

came_ended : (meaning : Meaning) (input : InputView) (old : Held) (serial : ℕ) (move : Move) (closed : Bool) → MoveComes meaning input old serial move
    → AllByRecursion (MoveComes meaning input old serial) (and_closes move closed)
came_ended meaning input old serial move true comes = (comes, (tt, tt))
came_ended meaning input old serial move false comes = (comes, tt)

came_made : (meaning : Meaning) (input : InputView) (old : Held) (serial : ℕ) (keys : Option KeyRecord) (octets : Octets) → KeysCome input (association_of serial old.associations)
    → AllByRecursion (MoveComes meaning input old serial) (makes_and_issues keys octets)
came_made meaning input old serial (Some keys) octets comes = (comes, (tt, tt))
came_made meaning input old serial None octets comes = tt

came_effect : (laws : MoveLaws) (meaning : Meaning) (setup : Setup) (from octets : Octets) (old : Held) (table new_table : Database) (serial : ℕ) (a b : Association) (m : Message) (e : Effect)
    → Spells m octets → is_meant m.header a ≡ true → IsSoundlyHeld a → association_of serial old.associations ≡ Some a → TakesMessage meaning setup a table octets m e b new_table
    → AllByRecursion (MoveComes meaning (steps.Message from octets setup.fresh) old serial) (moves_of m.header.id (keys_in b.phase) e)
came_effect laws meaning setup from octets old table new_table serial a b m (effect.Refused fault) spelled meant held before takes = tt
came_effect laws meaning setup from octets old table new_table serial a b m (effect.Repeated reply) spelled meant held before takes = tt
came_effect laws meaning setup from octets old table new_table serial a b m (effect.Again next) spelled meant held before takes = tt
came_effect laws meaning setup from octets old table new_table serial a b m (effect.AsksAuth next) spelled meant held before takes =
    let initial = laws.initial meaning setup a table octets m next b new_table held takes in
    came_made meaning (steps.Message from octets setup.fresh) old serial (keys_in b.phase) next
    (subst (λ (o : Option Association). KeysCome (steps.Message from octets setup.fresh) o) (sym before)
    (record { message = m; spelled = spelled; response = initial.1; exchange_is = initial.0 }))
came_effect laws meaning setup from octets old table new_table serial a b m (effect.Replied answered) spelled meant held before takes =
    came_ended meaning (steps.Message from octets setup.fresh) old serial (TakeEffect m.header.id answered.octets) (closed_by answered.fate)
    (record { association = a; there = before; comes = laws.taken meaning setup a table octets m answered b new_table spelled meant takes })
came_effect laws meaning setup from octets old table new_table serial a b m (effect.Counted ended) spelled meant held before takes =
    came_ended meaning (steps.Message from octets setup.fresh) old serial (Count m.header.id) (closed_by ended.fate)
    (record { association = a; there = before; comes = laws.counted meaning setup a table octets m ended b new_table spelled meant takes })

opened_ended : (meaning : Meaning) (old new : Held) (serial : ℕ) (move : Move) (closed : Bool) → MoveOpens meaning old new serial move
    → AllByRecursion (MoveOpens meaning old new serial) (and_closes move closed)
opened_ended meaning old new serial move true opens = (opens, (tt, tt))
opened_ended meaning old new serial move false opens = (opens, tt)

opened_made : (meaning : Meaning) (old new : Held) (serial : ℕ) (keys : Option KeyRecord) (octets : Octets) → IssuesOpenly meaning new serial 1 octets
    → AllByRecursion (MoveOpens meaning old new serial) (makes_and_issues keys octets)
opened_made meaning old new serial (Some keys) octets opens = (tt, (opens, tt))
opened_made meaning old new serial None octets opens = tt

opened_effect : (laws : MoveLaws) (meaning : Meaning) (setup : Setup) (octets : Octets) (old new : Held) (table new_table : Database) (serial : ℕ) (a b : Association) (m : Message) (e : Effect)
    → OpensWhatItSeals meaning.body_of meaning.plain_of setup.fresh.seal → HoldsWholeKeys a.phase
    → association_of serial old.associations ≡ Some a → association_of serial new.associations ≡ Some b → TakesMessage meaning setup a table octets m e b new_table
    → AllByRecursion (MoveOpens meaning old new serial) (moves_of m.header.id (keys_in b.phase) e)
opened_effect laws meaning setup octets old new table new_table serial a b m (effect.Refused fault) opens whole before after takes = tt
opened_effect laws meaning setup octets old new table new_table serial a b m (effect.Repeated reply) opens whole before after takes = tt
opened_effect laws meaning setup octets old new table new_table serial a b m (effect.Again next) opens whole before after takes = tt
opened_effect laws meaning setup octets old new table new_table serial a b m (effect.AsksAuth next) opens whole before after takes =
    opened_made meaning old new serial (keys_in b.phase) next (record {
      association = b;
      there = after;
      opens = laws.identity meaning setup a table octets m next b new_table opens (laws.whole meaning setup a table octets m (effect.AsksAuth next) b new_table whole takes) takes;
    })
opened_effect laws meaning setup octets old new table new_table serial a b m (effect.Replied answered) opens whole before after takes =
    opened_ended meaning old new serial (TakeEffect m.header.id answered.octets) (closed_by answered.fate)
    (record { association = a; there = before; opens = laws.reply meaning setup a table octets m answered b new_table opens whole takes })
opened_effect laws meaning setup octets old new table new_table serial a b m (effect.Counted ended) opens whole before after takes =
    opened_ended meaning old new serial (Count m.header.id) (closed_by ended.fate) tt

-- ---- orders

started_moves : (input : InputView) (meaning : Meaning) (setup : Setup) (old : Held) (table : Database) (stepped : Stepped) (new : Held) (new_table : Database) (serial : ℕ)
    → AreSound old table → StartsOne meaning setup old table stepped new new_table → MovesAt meaning input old stepped new serial
started_moves input meaning setup old table stepped new new_table serial sound is =
    let silent : IsSilent stepped serial = subst (λ (s : Stepped). IsSilent s serial) (sym is.starts.done.said) (request_silent old.next is.starts.beginning.octets serial) in
    elim (at_grown old table _ new serial sound refl is.starts.done.content) [
      | inl (here, before, after) ↦ record {
        moves = [];
        few = omega arith;
        lead = ap (option_and_then ledger) after ∙ sym (ap (option_and_then ledger) before);
        told = tt;
        no_more = silent_tells (association_of serial old.associations) stepped serial [] silent;
        came = tt;
        opened = λ opens. tt;
      }
      | inr (apart, same) ↦ silent_at meaning input old stepped new serial same silent
    ]

probed_moves : (laws : MoveLaws) (input : InputView) (meaning : Meaning) (setup : Setup) (old : Held) (table : Database) (stepped : Stepped) (new : Held) (new_table : Database) (serial : ℕ)
    → (OpensFresh meaning input → OpensWhatItSeals meaning.body_of meaning.plain_of setup.fresh.seal) → AreSound old table → AsksOne meaning setup old table stepped new new_table → MovesAt meaning input old stepped new serial
probed_moves laws input meaning setup old table stepped new new_table serial sealed sound is =
    let p = is.probes in
    let stays = changed_itself meaning.body_of setup is.ike old stepped new p in
    let moves = Issue p.association.outgoing.next p.octets ∷ [] in
    let named : p.association.serial ≡ is.ike = probed_serial meaning.body_of setup is.ike old stepped new p in
    elim (at_changed old table p.place p.association p.changed new serial sound p.there stays.serial p.content) [
      | inl (here, before, after) ↦ record {
        moves = moves;
        few = omega arith;
        lead = leads_by old new serial (Some p.association) (Some p.changed) moves before after (laws.requested meaning.body_of setup p.association p.octets p.changed p.sends);
        told = (
          (
            ap (λ (s : Stepped). s.output) p.said ∙ ap (λ n. output.Request n p.octets) (sym (here ∙ probed_serial meaning.body_of setup is.ike old stepped new p)),
            ap (λ (s : Stepped). s.trace.sent) p.said ∙ ap (λ n. request_mark n p.association.outgoing.next) (sym (here ∙ probed_serial meaning.body_of setup is.ike old stepped new p)),
          ),
          tt,
        );
        no_more = subst (λ (s : Stepped). SaysNoMore (association_of serial old.associations) s serial moves) (sym p.said)
            (subst (λ (n : ℕ). SaysNoMore (association_of serial old.associations) (asking_step n p.association.outgoing.next p.octets) serial moves) (here ∙ named)
            (asking_says (association_of serial old.associations) serial p.association.outgoing.next p.octets));
        came = (tt, tt);
        opened = λ opens. (
          record { association = p.changed; there = after; opens = laws.asked meaning.body_of meaning.plain_of setup p.association p.octets p.changed (sealed opens) (sound.each p.place p.association p.there).whole p.sends },
          tt,
        );
      }
      | inr (apart, same) ↦ silent_at meaning input old stepped new serial same
          (subst (λ (s : Stepped). IsSilent s serial) (sym p.said) (asking_silent is.ike p.association.outgoing.next p.octets serial (λ here. apart (here ∙ sym named))))
    ]

-- ---- a datagram

effect_of : (laws : MoveLaws) (meaning : Meaning) (setup : Setup) (octets : Octets) (a : Association) (table : Database) (m : Message) (e : Effect) (b : Association) (new_table : Database)
    → TakesMessage meaning setup a table octets m e b new_table → IsEffectOf (ledger a) m.header.id (keys_in b.phase) e
effect_of laws meaning setup octets a table m e b new_table takes =
    record {
      kept = λ reply is. laws.kept meaning setup a table octets m reply b new_table (subst (λ (x : Effect). TakesMessage meaning setup a table octets m x b new_table) is takes);
      keyed = λ next is.
          let has = laws.keyed meaning setup a table octets m (effect.AsksAuth next) b new_table (subst (λ (x : Effect). TakesMessage meaning setup a table octets m x b new_table) is takes) in
          (has.keys, has.are);
    }

way_moves : (laws : MoveLaws) (meaning : Meaning) (setup : Setup) (from octets : Octets) (old : Held) (table : Database) (stepped : Stepped) (new : Held) (new_table : Database) (serial : ℕ)
    → AreSound old table → IsConfig setup.config → Way meaning setup octets old table stepped new new_table → MovesAt meaning (steps.Message from octets setup.fresh) old stepped new serial
way_moves laws meaning setup from octets old table stepped new new_table serial sound config (rested is) =
    silent_at meaning (steps.Message from octets setup.fresh) old stepped new serial (ap (λ (h : Held). association_of serial h.associations) is.same)
    (subst (λ (s : Stepped). IsSilent s serial) (sym is.is) (said_silent old is.said serial is.goes))
way_moves laws meaning setup from octets old table stepped new new_table serial sound config (took is) =
    let input : InputView = steps.Message from octets setup.fresh in
    let t = is.takes in
    let a = t.association in
    let stays = laws.itself meaning setup a table octets is.message t.effect t.changed new_table t.takes in
    let number = is.message.header.id in
    let moves = moves_of number (keys_in t.changed.phase) t.effect in
    let held = sound.each is.place a t.there in
    elim (at_changed old table is.place a t.changed new serial sound t.there stays.serial t.content) [
      | inl (here, before, after) ↦ record {
        moves = moves;
        few = laws.few number (keys_in t.changed.phase) t.effect;
        lead = leads_by old new serial (Some a) (Some t.changed) moves before after (laws.message meaning setup a table octets is.message t.effect t.changed new_table held.soundly config t.takes);
        told = subst (λ (s : Stepped). AllByRecursion (Tells input s serial) moves) (sym t.said)
            (subst (λ (n : ℕ). AllByRecursion (Tells input (stepped_of n number t.effect) serial) moves) here (told_effect input serial number (keys_in t.changed.phase) t.effect refl));
        no_more = subst (λ (s : Stepped). SaysNoMore (association_of serial old.associations) s serial moves) (sym t.said)
            (subst (λ (n : ℕ). SaysNoMore (association_of serial old.associations) (stepped_of n number t.effect) serial moves) here
            (subst (λ (x : Option Association). SaysNoMore x (stepped_of serial number t.effect) serial moves) (sym before)
            (effect_says (Some a) serial number (keys_in t.changed.phase) t.effect (effect_of laws meaning setup octets a table is.message t.effect t.changed new_table t.takes))));
        came = came_effect laws meaning setup from octets old table new_table serial a t.changed is.message t.effect is.spelled (found_first is.message.header old.associations is.place a is.found_there t.there).passes held.soundly before t.takes;
        opened = λ opens. opened_effect laws meaning setup octets old new table new_table serial a t.changed is.message t.effect opens held.whole before after t.takes;
      }
      | inr (apart, same) ↦ silent_at meaning input old stepped new serial same (subst (λ (s : Stepped). IsSilent s serial) (sym t.said) (effect_silent a.serial number t.effect serial apart))
    ]
way_moves laws meaning setup from octets old table stepped new new_table serial sound config (admitted is) =
    let input : InputView = steps.Message from octets setup.fresh in
    let b = is.admits.admitted.association in
    let made = laws.admits meaning.cipher meaning.group meaning.public_value meaning.shared_secret setup.fresh setup.moment old.next is.offer is.spi_i octets is.admits.admitted is.admits.admits in
    let next : b.serial ≡ old.next = ap (λ (x : Association). x.serial) is.admits.admits.content in
    elim (at_grown old table b new serial sound next is.admits.content) [
      | inl (here, before, after) ↦ record {
        moves = Make made.0 ∷ [];
        few = omega arith;
        lead = leads_by old new serial None (Some b) (Make made.0 ∷ []) before after made.1;
        told = ((ap (λ (s : Stepped). s.trace.keyed) is.admits.said ∙ ap Some (sym (here ∙ next)), refl), tt);
        no_more = subst (λ (s : Stepped). SaysNoMore (association_of serial old.associations) s serial (Make made.0 ∷ [])) (sym is.admits.said)
            (subst (λ (n : ℕ). SaysNoMore (association_of serial old.associations) (half_open_step n is.admits.admitted.octets) serial (Make made.0 ∷ [])) (here ∙ next)
            (half_open_says (association_of serial old.associations) serial is.admits.admitted.octets made.0));
        came = (subst (λ (o : Option Association). KeysCome input o) (sym before) is.asked, tt);
        opened = λ opens. (tt, tt);
      }
      | inr (apart, same) ↦ silent_at meaning input old stepped new serial same
          (subst (λ (s : Stepped). IsSilent s serial) (sym is.admits.said) (half_open_silent old.next is.admits.admitted.octets serial (λ here. apart (here ∙ sym next))))
    ]
way_moves laws meaning setup from octets old table stepped new new_table serial sound config (started is) = started_moves (steps.Message from octets setup.fresh) meaning setup old table stepped new new_table serial sound is
way_moves laws meaning setup from octets old table stepped new new_table serial sound config (probed is) =
    probed_moves laws (steps.Message from octets setup.fresh) meaning setup old table stepped new new_table serial (λ opens. opens) sound is

-- ---- a tick

-- one that is held on, by the list of those that are
record Zipped (now serial : ℕ) (closed : List ℕ) (a : Association) (ys : List Association) : Type 0 where
  held : Association
  there : association_of serial ys ≡ Some held
  stays : moments.StaysItself now closed a held

zip_cons : (now serial : ℕ) (closed : List ℕ) (here : Bool) (x y : Association) (xs ys : List Association) (a : Association) → has_serial serial x ≡ here → moments.StaysItself now closed x y
    → (association_of serial xs ≡ Some a → Zipped now serial closed a ys) → cond here (Some x) (association_of serial xs) ≡ Some a → Zipped now serial closed a (y ∷ ys)
zip_cons now serial closed true x y xs ys a is stays more stands =
    record {
      held = y;
      there = ap (λ b. cond b (Some y) (association_of serial ys)) (ap (λ n. has_serial serial (record y { serial = n })) stays.serial ∙ is);
      stays = subst (λ (c : Association). moments.StaysItself now closed c y) (same_one x a stands) stays;
    }
zip_cons now serial closed false x y xs ys a is stays more stands =
    let rest = more stands in
    record {
      held = rest.held;
      there = ap (λ b. cond b (Some y) (association_of serial ys)) (ap (λ n. has_serial serial (record y { serial = n })) stays.serial ∙ is) ∙ rest.there;
      stays = rest.stays;
    }

zipped : (now serial : ℕ) (closed : List ℕ) (xs ys : List Association) (a : Association) → AllZip (moments.StaysItself now closed) xs ys → association_of serial xs ≡ Some a → Zipped now serial closed a ys
zipped now serial closed [] ys a zip stands = absurd cc
zipped now serial closed (x ∷ xs) [] a zip stands = absurd zip
zipped now serial closed (x ∷ xs) (y ∷ ys) a zip stands = zip_cons now serial closed (has_serial serial x) x y xs ys a refl zip.0 (zipped now serial closed xs ys a zip.1) stands

none_found_too : (here : Bool) (x y : Association) (o p : Option Association) (here_too : Bool) → here_too ≡ here → (o ≡ None → p ≡ None) → cond here (Some x) o ≡ None → cond here_too (Some y) p ≡ None
none_found_too true x y o p here_too same more none = absurd cc
none_found_too false x y o p true same more none = absurd cc
none_found_too false x y o p false same more none = more none

none_zips : (now serial : ℕ) (closed : List ℕ) (xs ys : List Association) → AllZip (moments.StaysItself now closed) xs ys → association_of serial xs ≡ None → association_of serial ys ≡ None
none_zips now serial closed [] [] zip none = refl
none_zips now serial closed [] (y ∷ ys) zip none = absurd zip
none_zips now serial closed (x ∷ xs) [] zip none = absurd zip
none_zips now serial closed (x ∷ xs) (y ∷ ys) zip none =
    none_found_too (has_serial serial x) x y (association_of serial xs) (association_of serial ys) (has_serial serial y) (ap (λ n. has_serial serial (record y { serial = n })) zip.0.serial) (none_zips now serial closed xs ys zip.1) none

-- one that is held on was held, and is not over
record Alive (now : ℕ) (xs : List Association) (serial : ℕ) (x : Association) : Type 0 where
  place : ℕ
  there : slice_get xs place ≡ Some x
  alive : is_over now x.phase ≡ false
  named : has_serial serial x ≡ true

alive_cons : (now serial : ℕ) (over here : Bool) (x y : Association) (xs held : List Association) → is_over now y.phase ≡ over → has_serial serial y ≡ here
    → (association_of serial held ≡ Some x → Alive now xs serial x) → association_of serial (cond (not over) (y ∷ held) held) ≡ Some x → Alive now (y ∷ xs) serial x
alive_cons now serial true here x y xs held is named more stands = let rest = more stands in record { place = suc rest.place; there = rest.there; alive = rest.alive; named = rest.named }
alive_cons now serial false true x y xs held is named more stands =
    let same : y ≡ x = same_one y x (sym (ap (λ b. cond b (Some y) (association_of serial held)) named) ∙ stands) in
    record { place = 0; there = ap Some same; alive = ap (λ (c : Association). is_over now c.phase) (sym same) ∙ is; named = ap (has_serial serial) (sym same) ∙ named }
alive_cons now serial false false x y xs held is named more stands =
    let rest = more (sym (ap (λ b. cond b (Some y) (association_of serial held)) named) ∙ stands) in
    record { place = suc rest.place; there = rest.there; alive = rest.alive; named = rest.named }

alive_of : (now serial : ℕ) (xs : List Association) (x : Association) → association_of serial (held_of now xs) ≡ Some x → Alive now xs serial x
alive_of now serial [] x stands = absurd cc
alive_of now serial (y ∷ xs) x stands = alive_cons now serial (is_over now y.phase) (has_serial serial y) x y xs (held_of now xs) refl refl (alive_of now serial xs x) stands

named_is : (serial : ℕ) (x : Association) → has_serial serial x ≡ true → x.serial ≡ serial
named_is serial x is = elim (eqb_tells x.serial serial) [ inl (_, same) ↦ same | inr (none, _) ↦ absurd (yes_no (has_serial serial x) is none) ]

-- one that is over is held no longer
over_gone : (now serial : ℕ) (old : Held) (table : Database) (a : Association) (o : Option Association) → AreSound old table → association_of serial old.associations ≡ Some a → is_over now a.phase ≡ true
    → association_of serial (held_of now old.associations) ≡ o → o ≡ None
over_gone now serial old table a None sound stands over found = refl
over_gone now serial old table a (Some x) sound stands over found =
    let f = alive_of now serial old.associations x found in
    let there : association_of serial old.associations ≡ Some x = subst (λ n. association_of n old.associations ≡ Some x) (named_is serial x f.named) (sound_found old table f.place x sound f.there) in
    let same : a ≡ x = same_one a x (sym stands ∙ there) in
    absurd (yes_no (is_over now a.phase) over (ap (λ (c : Association). is_over now c.phase) same ∙ f.alive))

-- moves of one that was held
record Ends (input : InputView) (stepped : Stepped) (serial : ℕ) (a : Association) (o : Option Association) : Type 0 where
  moves : List Move
  few : length moves ≤ 2
  lead : looked (Some a) o moves
  told : AllByRecursion (Tells input stepped serial) moves
  closes : TellsClosed serial stepped.output → (keys_in a.phase ≡ None) ⊎ Contains moves Close
  none : TellsAgain serial stepped.output → moves ≡ []
  came : (meaning : Meaning) (old : Held) → AllByRecursion (MoveComes meaning input old serial) moves
  opened : (meaning : Meaning) (old new : Held) → AllByRecursion (MoveOpens meaning old new serial) moves

without_keys : (a : Association) → keys_in a.phase ≡ None → ledger a ≡ None
without_keys a none = cc

gone_moves : (laws : MoveLaws) (input : InputView) (stepped : Stepped) (serial now : ℕ) (a : Association) (keys : Option KeyRecord) → IsSoundlyHeld a → keys_in a.phase ≡ keys → is_over now a.phase ≡ true → is_tick input ≡ true
    → (TellsClosed serial stepped.output → ClosesNow now a) → (TellsAgain serial stepped.output → SendsNow now a) → Ends input stepped serial a None
gone_moves laws input stepped serial now a None held are over ticks closes sends =
    record { moves = []; few = omega arith; lead = sym (without_keys a are); told = tt; closes = λ told. inl are; none = λ told. refl; came = λ meaning old. tt; opened = λ meaning old new. tt }
gone_moves laws input stepped serial now a (Some keys) held are over ticks closes sends =
    record {
      moves = Remove ∷ [];
      few = omega arith;
      lead = laws.removal now a keys held are over;
      told = (ticks, tt);
      closes = λ told. absurd (yes_no (is_over now a.phase) over (closes told).alive);
      none = λ told. absurd (yes_no (is_over now a.phase) over (sends told).alive);
      came = λ meaning old. (tt, tt);
      opened = λ meaning old new. (tt, tt);
    }

closed_moves : (laws : MoveLaws) (input : InputView) (stepped : Stepped) (ticked : Ticked) (serial now : ℕ) (a b : Association) (keys : Option KeyRecord) → IsSoundlyHeld a → keys_in a.phase ≡ keys → stepped.output ≡ output.Ticked ticked
    → Contains ticked.closed serial → (TellsAgain serial stepped.output → SendsNow now a) → moments.IsClosedAt now a b → Ends input stepped serial a (Some b)
closed_moves laws input stepped ticked serial now a b None held are said told sends is =
    record {
      moves = [];
      few = omega arith;
      lead = without_keys b (ap (λ (x : Association). keys_in x.phase) is.content ∙ are) ∙ sym (without_keys a are);
      told = tt;
      closes = λ closed. inl are;
      none = λ told. refl;
      came = λ meaning old. tt;
      opened = λ meaning old new. tt;
    }
closed_moves laws input stepped ticked serial now a b (Some keys) held are said told sends is =
    record {
      moves = Close ∷ [];
      few = omega arith;
      lead = laws.closing now a b keys held are is;
      told = (subst (λ o. TellsClosed serial o) (sym said) told, tt);
      closes = λ closed. inr (0, omega arith, refl);
      none = λ told. absurd (yes_no (has_failed now a) is.failed (sends told).answered);
      came = λ meaning old. (tt, tt);
      opened = λ meaning old new. (tt, tt);
    }

on_moves : (laws : MoveLaws) (input : InputView) (stepped : Stepped) (ticked : Ticked) (serial now : ℕ) (a b : Association) → IsSoundlyHeld a → a.serial ≡ serial → stepped.output ≡ output.Ticked ticked
    → (TellsClosed serial stepped.output → ClosesNow now a) → (TellsAgain serial stepped.output → SendsNow now a) → moments.StaysItself now ticked.closed a b → Ends input stepped serial a (Some b)
on_moves laws input stepped ticked serial now a b held named said closes sends is = elim is.stays [
  | inl sent ↦ record {
    moves = [];
    few = omega arith;
    lead = laws.sending now a b sent.1;
    told = tt;
    closes = λ told. absurd (yes_no (has_failed now a) (closes told).failed sent.0);
    none = λ told. refl;
    came = λ meaning old. tt;
    opened = λ meaning old new. tt;
  }
  | inr closed ↦ closed_moves laws input stepped ticked serial now a b (keys_in a.phase) held refl said (subst (λ n. Contains ticked.closed n) named closed.1) sends closed.0
]

-- a tick at one IKE SA
record TickAt (input : InputView) (old : Held) (table : Database) (stepped : Stepped) (ticked : Ticked) (now : ℕ) (new : Held) (new_table : Database) : Type 0 where
  sound : AreSound old table
  is_moment : is_tick input ≡ true
  said : stepped ≡ plain_step (output.Ticked ticked)
  ticks : Ticks now old.associations table ticked new.associations new_table
  zip : AllZip (moments.StaysItself now ticked.closed) (held_of now old.associations) new.associations

ended_at : (laws : MoveLaws) (meaning : Meaning) (input : InputView) (old : Held) (table : Database) (stepped : Stepped) (ticked : Ticked) (now : ℕ) (new : Held) (new_table : Database) (serial : ℕ) (a : Association) (o : Option Association)
    → TickAt input old table stepped ticked now new new_table → association_of serial old.associations ≡ Some a → association_of serial new.associations ≡ o → Ends input stepped serial a o → MovesAt meaning input old stepped new serial
ended_at laws meaning input old table stepped ticked now new new_table serial a o at before after ends =
    record {
      moves = ends.moves;
      few = ends.few;
      lead = leads_by old new serial (Some a) o ends.moves before after ends.lead;
      told = ends.told;
      no_more = tick_says laws.ticks now old new.associations table new_table stepped ticked serial ends.moves at.sound at.ticks at.said
          (subst (λ (x : Option Association). TellsClosed serial stepped.output → IsKeyless x ⊎ Contains ends.moves Close) (sym before) ends.closes) ends.none;
      came = ends.came meaning old;
      opened = λ opens. ends.opened meaning old new;
    }

told_closes : (laws : MoveLaws) (input : InputView) (old : Held) (table : Database) (stepped : Stepped) (ticked : Ticked) (now : ℕ) (new : Held) (new_table : Database) (serial : ℕ) (a : Association)
    → TickAt input old table stepped ticked now new new_table → association_of serial old.associations ≡ Some a → TellsClosed serial stepped.output → ClosesNow now a
told_closes laws input old table stepped ticked now new new_table serial a at stands told =
    closes_now laws.ticks now old new.associations table new_table ticked serial a at.sound at.ticks stands (subst (λ (s : Stepped). TellsClosed serial s.output) at.said told)

told_sends : (laws : MoveLaws) (input : InputView) (old : Held) (table : Database) (stepped : Stepped) (ticked : Ticked) (now : ℕ) (new : Held) (new_table : Database) (serial : ℕ) (a : Association)
    → TickAt input old table stepped ticked now new new_table → association_of serial old.associations ≡ Some a → TellsAgain serial stepped.output → SendsNow now a
told_sends laws input old table stepped ticked now new new_table serial a at stands told =
    sends_now laws.ticks now old new.associations table new_table ticked serial a at.sound at.ticks stands (subst (λ (s : Stepped). TellsAgain serial s.output) at.said told)

-- who was not held before is not held on
none_alive : (now serial : ℕ) (old : Held) (table : Database) (o : Option Association) → AreSound old table → association_of serial old.associations ≡ None → association_of serial (held_of now old.associations) ≡ o → o ≡ None
none_alive now serial old table None sound none found = refl
none_alive now serial old table (Some x) sound none found =
    let f = alive_of now serial old.associations x found in
    let there : association_of serial old.associations ≡ Some x = subst (λ n. association_of n old.associations ≡ Some x) (named_is serial x f.named) (sound_found old table f.place x sound f.there) in
    absurd (some_none x (sym none ∙ there))

held_moves : (laws : MoveLaws) (meaning : Meaning) (input : InputView) (old : Held) (table : Database) (stepped : Stepped) (ticked : Ticked) (now : ℕ) (new : Held) (new_table : Database) (serial : ℕ) (a : Association) (over : Bool)
    → TickAt input old table stepped ticked now new new_table → association_of serial old.associations ≡ Some a → is_over now a.phase ≡ over → MovesAt meaning input old stepped new serial
held_moves laws meaning input old table stepped ticked now new new_table serial a true at stands over =
    let gone = none_zips now serial ticked.closed (held_of now old.associations) new.associations at.zip (over_gone now serial old table a (association_of serial (held_of now old.associations)) at.sound stands over refl) in
    ended_at laws meaning input old table stepped ticked now new new_table serial a None at stands gone
    (gone_moves laws input stepped serial now a (keys_in a.phase) (held_soundly old table serial a at.sound stands) refl over at.is_moment
    (told_closes laws input old table stepped ticked now new new_table serial a at stands) (told_sends laws input old table stepped ticked now new new_table serial a at stands))
held_moves laws meaning input old table stepped ticked now new new_table serial a false at stands over =
    let z = zipped now serial ticked.closed (held_of now old.associations) new.associations a at.zip (still_held now serial old.associations a over stands) in
    ended_at laws meaning input old table stepped ticked now new new_table serial a (Some z.held) at stands z.there
    (on_moves laws input stepped ticked serial now a z.held (held_soundly old table serial a at.sound stands) (found_at old.associations serial a stands).serial_is (ap (λ (s : Stepped). s.output) at.said)
    (told_closes laws input old table stepped ticked now new new_table serial a at stands) (told_sends laws input old table stepped ticked now new new_table serial a at stands) z.stays)

tick_moves : (laws : MoveLaws) (meaning : Meaning) (input : InputView) (old : Held) (table : Database) (stepped : Stepped) (ticked : Ticked) (now : ℕ) (new : Held) (new_table : Database) (serial : ℕ) (o : Option Association)
    → TickAt input old table stepped ticked now new new_table → association_of serial old.associations ≡ o → MovesAt meaning input old stepped new serial
tick_moves laws meaning input old table stepped ticked now new new_table serial None at stands =
    let gone = none_zips now serial ticked.closed (held_of now old.associations) new.associations at.zip (none_alive now serial old table (association_of serial (held_of now old.associations)) at.sound stands refl) in
    rests_at meaning input old stepped new serial (gone ∙ sym stands)
    (tick_says laws.ticks now old new.associations table new_table stepped ticked serial [] at.sound at.ticks at.said
    (λ told. absurd (closes_one laws.ticks now old new.associations table new_table ticked serial at.sound at.ticks stands (subst (λ (s : Stepped). TellsClosed serial s.output) at.said told))) (λ told. refl))
tick_moves laws meaning input old table stepped ticked now new new_table serial (Some a) at stands =
    held_moves laws meaning input old table stepped ticked now new new_table serial a (is_over now a.phase) at stands refl

pub step_moves : MoveLaws → TicksLeave → (meaning : Meaning) (entries : List Entry) (input : InputView) (old : Machine) (table : Database) (stepped : Stepped) (new : Machine) (new_table : Database) (serial : ℕ)
    → IsSoundMachine old table → Steps meaning entries input old table stepped new new_table → MovesAt meaning input old.held stepped new.held serial
step_moves laws leave meaning entries (steps.Message from octets fresh) old table stepped new new_table serial sound is =
    way_moves laws meaning (setup_at old entries fresh) from octets old.held table stepped new.held new_table serial sound.held sound.config
    (datagram_way meaning (setup_at old entries fresh) old.cookies from octets old.held table stepped new.held new_table is.1)
step_moves laws leave meaning entries (steps.Start None place fresh) old table stepped new new_table serial sound is =
    started_moves (steps.Start None place fresh) meaning (setup_at old entries fresh) old.held table stepped new.held new_table serial sound.held (record { place = place; starts = is.1 })
step_moves laws leave meaning entries (steps.Start (Some asker) place fresh) old table stepped new new_table serial sound is =
    probed_moves laws (steps.Start (Some asker) place fresh) meaning (setup_at old entries fresh) old.held table stepped new.held new_table serial (λ opens. opens) sound.held (further_one meaning (setup_at old entries fresh) asker place old.held table stepped new.held new_table is.1)
step_moves laws leave meaning entries (steps.Order what fresh) old table stepped new new_table serial sound is =
    probed_moves laws (steps.Order what fresh) meaning (setup_at old entries fresh) old.held table stepped new.held new_table serial (λ opens. opens) sound.held (asked_one meaning (setup_at old entries fresh) what old.held table stepped new.held new_table is.1)
step_moves laws leave meaning entries (steps.Secret secret) old table stepped new new_table serial sound is =
    silent_at meaning (steps.Secret secret) old.held stepped new.held serial (ap (λ (m : Machine). association_of serial m.held.associations) is.content)
    (subst (λ (s : Stepped). IsSilent s serial) (sym is.said) (said_silent old.held output.Done serial tt))
step_moves laws leave meaning entries (steps.Tick moment) old table stepped new new_table serial sound is =
    let t = is.takes in
    let now = max old.moment moment in
    tick_moves laws meaning (steps.Tick moment) old.held table stepped t.ticked now new.held new_table serial (association_of serial old.held.associations)
    (record { sound = sound.held; is_moment = refl; said = t.said; ticks = t.ticks; zip = leave now old.held.associations new.held.associations table new_table t.ticked t.ticks }) refl

-- ---- what is fresh

seal_opens : (body_of : Keys → Octets → Octets → Octets → Octets) (plain_of : Opening) → ((octets : Octets) → AreOctets octets → length octets ≡ 16 → OpensWhatItSeals body_of plain_of octets)
    → (meaning : Meaning) (fresh : Fresh) → meaning.body_of ≡ body_of → meaning.plain_of ≡ plain_of → HasSeal fresh → OpensWhatItSeals meaning.body_of meaning.plain_of fresh.seal
seal_opens body_of plain_of opens meaning fresh body plain has =
    subst (λ (b : Keys → Octets → Octets → Octets → Octets). OpensWhatItSeals b meaning.plain_of fresh.seal) (sym body)
    (subst (λ (p : Opening). OpensWhatItSeals body_of p fresh.seal) (sym plain) (opens fresh.seal has.octets has.many))

pub fresh_opens : (body_of : Keys → Octets → Octets → Octets → Octets) (plain_of : Opening) → ((octets : Octets) → AreOctets octets → length octets ≡ 16 → OpensWhatItSeals body_of plain_of octets)
    → (meaning : Meaning) (input : InputView) → meaning.body_of ≡ body_of → meaning.plain_of ≡ plain_of → HasFresh input → OpensFresh meaning input
fresh_opens body_of plain_of opens meaning (steps.Message from octets fresh) body plain has = seal_opens body_of plain_of opens meaning fresh body plain has
fresh_opens body_of plain_of opens meaning (steps.Start ike place fresh) body plain has = seal_opens body_of plain_of opens meaning fresh body plain has
fresh_opens body_of plain_of opens meaning (steps.Order what fresh) body plain has = seal_opens body_of plain_of opens meaning fresh body plain has
fresh_opens body_of plain_of opens meaning (steps.Secret secret) body plain has = tt
fresh_opens body_of plain_of opens meaning (steps.Tick moment) body plain has = tt
