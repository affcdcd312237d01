-- What may go out of a step as a reply, and how long an IKE SA is held.
use Rattle.std.proofs.Common.{◌≡◌, ◌==◌, ◌⊎◌, inl, inr, ℕ, ◌∷◌, [], Bool, true, false, cond, not, max, List, Option, Some, None, Result, Ok, Err, ap, arith, refl, subst, sym, ◌∙◌}
use Rattle.std.specs.Cmp.Lexicographic.{same_text}
use Rattle.std.specs.List.{position, AllZip}
use Rattle.std.specs.Prelude.{slice_set}
use Rattle.std.proofs.lemmas.Bool.Decides.{eqb_tells}
use Rattle.base.specs.Octets.{Octets}
use Rattle.wire.specs.Messages.{Spells}
use Rattle.wire.specs.declared.message.Message.{Message}
use Rattle.policy.specs.declared.entry.Entry.{Entry}
use Rattle.suite.specs.declared.fresh.Fresh.{Fresh}
use Rattle.sadb.specs.Database.{Database}
use Rattle.sa_init.specs.Cookies.{CookieSecrets}
use Rattle.sa_init.specs.Judging.{Accepted, Answered, Full, Incomplete, JudgementView}
use Rattle.requests.specs.Incoming.{PeerRequests}
use Rattle.association.specs.Finding.{place_meant, sent_by_other}
use Rattle.association.specs.Receiving.{IsRepeating}
use Rattle.association.specs.declared.fault.MessageFault.{MessageFault}
use Rattle.association.specs.Phases.{IsEstablished}
use Rattle.association.specs.declared.phase.Association.{Association}
use Rattle.association.specs.declared.phase.Phase.{Phase}
use Rattle.association.specs.declared.phase.Phase.TheVariants as phase
use Rattle.suite.specs.declared.key_record.KeyRecord.{KeyRecord}
use Rattle.setup.specs.Configs.{Setup}
use Rattle.association.specs.declared.outcome.Answered as answering
use Rattle.moments.specs.Due.{held_of, is_over}
use Rattle.moments.specs.Held as moments
use Rattle.moments.specs.Ticking.{Ticks}
use Rattle.moments.specs.declared.ticking.Ticked.{Ticked}
use Rattle.effects.specs.Keeping.{kept_reply}
use Rattle.effects.specs.Requests.{is_concluded, IsPassing, KeepsWindow, PutsIntoEffect, WidensWindow}
use Rattle.effects.specs.Taking.{Meaning, TakesMessage}
use Rattle.effects.specs.declared.taking.Effect.{Effect}
use Rattle.effects.specs.declared.taking.Effect.TheVariants as effect
use Rattle.ike.specs.Machines.{association_of, has_serial, setup_at, Held, Machine}
use Rattle.ike.specs.Outputs.{stepped_of, IsQuiet}
use Rattle.ike.specs.Receiving.{is_answered, is_answered_phase, is_initial_request, is_sound_initial, with_next, DoesJudgement, IsInitialRequest, TakesAt, TakesFound, TakesRead, TakesRequestAt, TakesSound}
use Rattle.ike.specs.Requests.{IsFirstReplyKept, IsGivenUp, IsHeldThrough, IsInitialDatagram, IsNewRequest, IsReplyKept, OpensAsRequest, PutsOneIntoEffect}
use Rattle.ike.specs.Soundness.{AreSound, At, IsSoundMachine}
use Rattle.ike.specs.Steps.{InputView, Steps}
use Rattle.ike.specs.Steps as steps
use Rattle.ike.specs.declared.output.IkeOutput.TheVariants as output
use Rattle.ike.specs.declared.output.Stepped.{Stepped}
use Rattle.ike.proofs.AskingLemmas.{changed_itself}
use Rattle.ike.proofs.RepeatLemmas.{opened_of}
use Rattle.ike.proofs.RequestLemmas.{and_left, below, finds_of, first_of, found_first, request_pair, some_none, still_same, takes_there, way_change, Change, Laws}
use Rattle.ike.proofs.RequestLemmas.{asked, took_it, unchanged}
use Rattle.ike.proofs.SerialLemmas.{grown_found, replaced_found, replaced_stands, same_one, sound_found}
use Rattle.ike.proofs.TickLemmas.{ticked_stood, TicksHold}
use Rattle.ike.proofs.WayLemmas.{admitted, asked_one, datagram_way, further_one, probed, rested, started, took, Way}

-- what more is known of one message's effect
pub record MoreLaws : Type 0 where
  pub laws : Laws
  pub otherwise : (meaning : Meaning) (setup : Setup) (old : Association) (table : Database) (octets : Octets) (m : Message) (e : Effect) (new : Association) (new_table : Database)
      → TakesMessage meaning setup old table octets m e new new_table → m.header.flags.response ≡ false → IsPassing e ⊎ PutsIntoEffect meaning.plain_of old octets m e new m.header.id
  pub replied : (meaning : Meaning) (setup : Setup) (old : Association) (table : Database) (octets : Octets) (m : Message) (answered : answering.Answered) (new : Association) (new_table : Database)
      → TakesMessage meaning setup old table octets m (effect.Replied answered) new new_table → PutsIntoEffect meaning.plain_of old octets m (effect.Replied answered) new m.header.id
  pub only : (meaning : Meaning) (setup : Setup) (old : Association) (table : Database) (octets : Octets) (m : Message) (reply : Octets) (new : Association) (new_table : Database)
      → TakesMessage meaning setup old table octets m (effect.Repeated reply) new new_table → IsRepeating meaning.plain_of old octets m reply
  pub window : (meaning : Meaning) (setup : Setup) (old : Association) (table : Database) (octets : Octets) (m : Message) (e : Effect) (new : Association) (new_table : Database)
      → TakesMessage meaning setup old table octets m e new new_table → KeepsWindow setup.config.window old new

-- ---- what opens and is not new is passed over, or answered again

quiet_by : (serial number : ℕ) (e : Effect) → IsPassing e → IsQuiet (stepped_of serial number e).output
quiet_by serial number (effect.Refused f) is = tt
quiet_by serial number (effect.Repeated reply) is = tt
quiet_by serial number (effect.Replied answered) is = absurd is
quiet_by serial number (effect.Again next) is = absurd is
quiet_by serial number (effect.AsksAuth next) is = absurd is
quiet_by serial number (effect.Counted ended) is = absurd is

pub step_otherwise : MoreLaws → (meaning : Meaning) (entries : List Entry) (input : InputView) (old : Machine) (table : Database) (stepped : Stepped) (new : Machine) (new_table : Database)
    (serial : ℕ) (a : Association) (number : ℕ) → IsSoundMachine old table → Steps meaning entries input old table stepped new new_table → association_of serial old.held.associations ≡ Some a
    → OpensAsRequest meaning input a number → IsQuiet stepped.output ⊎ IsNewRequest meaning input a number
step_otherwise more meaning entries (steps.Message from octets fresh) old table stepped new new_table serial a number sound is stands opens =
    let o = opens.1 in
    let setup = setup_at old entries fresh in
    let f = finds_of old.held table serial a meaning.plain_of octets opens.0 number sound.held stands o in
    let it = takes_there more.laws meaning setup old.cookies from octets old.held table stepped new.held new_table a o.message o.spelled f is.1 in
    let t = it.takes in
    let takes : TakesMessage meaning setup a table octets o.message t.effect t.changed new_table = subst (λ (x : Association). TakesMessage meaning setup x table octets o.message t.effect t.changed new_table) it.is t.takes in
    elim (more.otherwise meaning setup a table octets o.message t.effect t.changed new_table takes o.request) [
      | inl passing ↦ inl (subst (λ (s : Stepped). IsQuiet s.output) (sym t.said) (quiet_by t.association.serial o.message.header.id t.effect passing))
      | inr put ↦ inr (subst (λ n. IsNewRequest meaning (steps.Message from octets fresh) a n) o.number_is
          (record {
            exchange = o.message.header.exchange;
            opens = record {
              message = o.message;
              spelled = o.spelled;
              spis = o.spis;
              from_peer = o.from_peer;
              request = o.request;
              exchange_is = refl;
              number_is = refl;
              plain = put.plain;
              opened = put.opened;
            };
            fresh = put.fresh;
            admitted = put.admitted;
          }))
    ]
step_otherwise more meaning entries (steps.Start ike place fresh) old table stepped new new_table serial a number sound is stands opens = absurd opens
step_otherwise more meaning entries (steps.Order what fresh) old table stepped new new_table serial a number sound is stands opens = absurd opens
step_otherwise more meaning entries (steps.Secret secret) old table stepped new new_table serial a number sound is stands opens = absurd opens
step_otherwise more meaning entries (steps.Tick moment) old table stepped new new_table serial a number sound is stands opens = absurd opens

-- ---- what is replied to

-- an effect whose output is a reply
record RepliedBy (e : Effect) : Type 0 where
  answered : answering.Answered
  is : e ≡ effect.Replied answered

replied_by : (serial number : ℕ) (e : Effect) (reply : Octets) (closed : Option ℕ) → (stepped_of serial number e).output ≡ output.Reply reply closed → RepliedBy e
replied_by serial number (effect.Refused f) reply closed is = absurd cc
replied_by serial number (effect.Repeated said) reply closed is = absurd cc
replied_by serial number (effect.Replied answered) reply closed is = record { answered = answered; is = refl }
replied_by serial number (effect.Again next) reply closed is = absurd cc
replied_by serial number (effect.AsksAuth next) reply closed is = absurd cc
replied_by serial number (effect.Counted ended) reply closed is = absurd cc

taken_replies : (more : MoreLaws) (place : ℕ) (meaning : Meaning) (setup : Setup) (octets : Octets) (m : Message) (old : Held) (table : Database) (stepped : Stepped) (new : Held) (new_table : Database) (reply : Octets) (closed : Option ℕ)
    → AreSound old table → stepped.output ≡ output.Reply reply closed → TakesAt place meaning setup octets m old table stepped new new_table → PutsOneIntoEffect old new
taken_replies more place meaning setup octets m old table stepped new new_table reply closed sound said t =
    let stays = more.laws.itself meaning setup t.association table octets m t.effect t.changed new_table t.takes in
    let by = replied_by t.association.serial m.header.id t.effect reply closed (sym (ap (λ (s : Stepped). s.output) t.said) ∙ said) in
    let takes = subst (λ (e : Effect). TakesMessage meaning setup t.association table octets m e t.changed new_table) by.is t.takes in
    let put = more.replied meaning setup t.association table octets m by.answered t.changed new_table takes in
    record {
      serial = t.association.serial;
      number = m.header.id;
      before = t.association;
      after = t.changed;
      held = record {
        before = sound_found old table place t.association sound t.there;
        after = ap (λ (h : Held). association_of t.association.serial h.associations) t.content ∙ replaced_stands old table place t.association t.changed sound t.there stays.serial;
      };
      comes = record {
        before = put.fresh.not_in_effect;
        after = more.laws.always meaning setup t.association table octets m (effect.Replied by.answered) t.changed new_table put.plain takes put.request put.fresh put.admitted put.opened;
      };
    }

found_replies : (more : MoreLaws) (r : Result ℕ MessageFault) (meaning : Meaning) (setup : Setup) (octets : Octets) (m : Message) (old : Held) (table : Database) (stepped : Stepped) (new : Held) (new_table : Database) (reply : Octets) (closed : Option ℕ)
    → AreSound old table → stepped.output ≡ output.Reply reply closed → TakesFound r meaning setup octets m old table stepped new new_table → PutsOneIntoEffect old new
found_replies more (Ok place) meaning setup octets m old table stepped new new_table reply closed sound said is = taken_replies more place meaning setup octets m old table stepped new new_table reply closed sound said is
found_replies more (Err f) meaning setup octets m old table stepped new new_table reply closed sound said is =
    let clash = sym (ap (λ (s : Stepped). s.output) is.0.said) ∙ said in absurd cc

initial_replies : (b : Bool) (meaning : Meaning) (setup : Setup) (cookies : CookieSecrets) (from octets : Octets) (m : Message) (old : Held) (stepped : Stepped) (new : Held) (reply : Octets) (closed : Option ℕ)
    → Spells m octets → is_initial_request m.header ≡ true → is_sound_initial m.header ≡ b → stepped.output ≡ output.Reply reply closed → TakesSound b meaning setup cookies from octets m old stepped new → IsInitialRequest octets
initial_replies true meaning setup cookies from octets m old stepped new reply closed spelled initial sound_header said is = record { message = m; spelled = spelled; initial = initial; sound = sound_header }
initial_replies false meaning setup cookies from octets m old stepped new reply closed spelled initial sound_header said is =
    let clash = sym (ap (λ (s : Stepped). s.output) is.said) ∙ said in absurd cc

read_replies : (more : MoreLaws) (b : Bool) (meaning : Meaning) (setup : Setup) (cookies : CookieSecrets) (from octets : Octets) (m : Message) (old : Held) (table : Database) (stepped : Stepped) (new : Held) (new_table : Database) (reply : Octets) (closed : Option ℕ)
    → AreSound old table → Spells m octets → is_initial_request m.header ≡ b → stepped.output ≡ output.Reply reply closed → TakesRead b meaning setup cookies from octets m old table stepped new new_table → PutsOneIntoEffect old new ⊎ IsInitialRequest octets
read_replies more true meaning setup cookies from octets m old table stepped new new_table reply closed sound spelled initial said is =
    inr (initial_replies (is_sound_initial m.header) meaning setup cookies from octets m old stepped new reply closed spelled initial refl said is.0)
read_replies more false meaning setup cookies from octets m old table stepped new new_table reply closed sound spelled initial said is =
    inl (found_replies more (place_meant m.header old.associations) meaning setup octets m old table stepped new new_table reply closed sound said is)

pub step_replied : MoreLaws → (meaning : Meaning) (entries : List Entry) (input : InputView) (old : Machine) (table : Database) (stepped : Stepped) (new : Machine) (new_table : Database)
    (reply : Octets) (closed : Option ℕ) → IsSoundMachine old table → Steps meaning entries input old table stepped new new_table → stepped.output ≡ output.Reply reply closed
    → PutsOneIntoEffect old.held new.held ⊎ IsInitialDatagram input
step_replied more meaning entries (steps.Message from octets fresh) old table stepped new new_table reply closed sound is said = elim is.1 [
  | inl unread ↦ let clash = sym (ap (λ (s : Stepped). s.output) unread.passed.said) ∙ said in absurd cc
  | inr read ↦ read_replies more (is_initial_request read.message.header) meaning (setup_at old entries fresh) old.cookies from octets read.message old.held table stepped new.held new_table reply closed sound.held read.spelled refl said read.done
]
step_replied more meaning entries (steps.Start None place fresh) old table stepped new new_table reply closed sound is said =
    let clash = sym (ap (λ (s : Stepped). s.output) is.1.done.said) ∙ said in absurd cc
step_replied more meaning entries (steps.Start (Some asker) place fresh) old table stepped new new_table reply closed sound is said =
    let one = further_one meaning (setup_at old entries fresh) asker place old.held table stepped new.held new_table is.1 in
    let clash = sym (ap (λ (s : Stepped). s.output) one.probes.said) ∙ said in absurd cc
step_replied more meaning entries (steps.Order what fresh) old table stepped new new_table reply closed sound is said =
    let one = asked_one meaning (setup_at old entries fresh) what old.held table stepped new.held new_table is.1 in
    let clash = sym (ap (λ (s : Stepped). s.output) one.probes.said) ∙ said in absurd cc
step_replied more meaning entries (steps.Secret secret) old table stepped new new_table reply closed sound is said =
    let clash = sym (ap (λ (s : Stepped). s.output) is.said) ∙ said in absurd cc
step_replied more meaning entries (steps.Tick moment) old table stepped new new_table reply closed sound is said =
    let clash = sym (ap (λ (s : Stepped). s.output) is.takes.said) ∙ said in absurd cc

-- ---- what is answered by a reply that is kept

same_repeat : (one other : Octets) → output.Repeat one ≡ output.Repeat other → one ≡ other
same_repeat one other is = cc

same_item : (one other : Octets) → Some one ≡ Some other → one ≡ other
same_item one other is = cc

repeated_by : (serial number : ℕ) (e : Effect) (reply : Octets) → (stepped_of serial number e).output ≡ output.Repeat reply → e ≡ effect.Repeated reply
repeated_by serial number (effect.Refused f) reply is = absurd cc
repeated_by serial number (effect.Repeated said) reply is = ap effect.Repeated (same_repeat said reply is)
repeated_by serial number (effect.Replied answered) reply is = absurd cc
repeated_by serial number (effect.Again next) reply is = absurd cc
repeated_by serial number (effect.AsksAuth next) reply is = absurd cc
repeated_by serial number (effect.Counted ended) reply is = absurd cc

taken_repeats : (more : MoreLaws) (place : ℕ) (meaning : Meaning) (setup : Setup) (from octets : Octets) (fresh : Fresh) (m : Message) (old : Held) (table : Database) (stepped : Stepped) (new : Held) (new_table : Database) (reply : Octets)
    → AreSound old table → Spells m octets → place_meant m.header old.associations ≡ Ok place → stepped.output ≡ output.Repeat reply → TakesAt place meaning setup octets m old table stepped new new_table
    → IsReplyKept meaning (steps.Message from octets fresh) old reply
taken_repeats more place meaning setup from octets fresh m old table stepped new new_table reply sound spelled finds said t =
    let e = repeated_by t.association.serial m.header.id t.effect reply (sym (ap (λ (s : Stepped). s.output) t.said) ∙ said) in
    let takes = subst (λ (x : Effect). TakesMessage meaning setup t.association table octets m x t.changed new_table) e t.takes in
    let why = more.only meaning setup t.association table octets m reply t.changed new_table takes in
    let meant = (found_first m.header old.associations place t.association finds t.there).passes in
    record {
      serial = t.association.serial;
      number = m.header.id;
      association = t.association;
      there = sound_found old table place t.association sound t.there;
      kept = why.kept;
      opens = (
        m.header.exchange,
        record {
          message = m;
          spelled = spelled;
          spis = request_pair m.header t.association why.request meant;
          from_peer = and_left (sent_by_other t.association.role m.header.flags.initiator) _ meant;
          request = why.request;
          exchange_is = refl;
          number_is = refl;
          plain = why.plain;
          opened = why.opened;
        },
      );
    }

found_repeats : (more : MoreLaws) (r : Result ℕ MessageFault) (meaning : Meaning) (setup : Setup) (from octets : Octets) (fresh : Fresh) (m : Message) (old : Held) (table : Database) (stepped : Stepped) (new : Held) (new_table : Database) (reply : Octets)
    → AreSound old table → Spells m octets → place_meant m.header old.associations ≡ r → stepped.output ≡ output.Repeat reply → TakesFound r meaning setup octets m old table stepped new new_table → IsReplyKept meaning (steps.Message from octets fresh) old reply
found_repeats more (Ok place) meaning setup from octets fresh m old table stepped new new_table reply sound spelled finds said is =
    taken_repeats more place meaning setup from octets fresh m old table stepped new new_table reply sound spelled finds said is
found_repeats more (Err f) meaning setup from octets fresh m old table stepped new new_table reply sound spelled finds said is =
    let clash = sym (ap (λ (s : Stepped). s.output) is.0.said) ∙ said in absurd cc

judged_repeats : (j : JudgementView) (meaning : Meaning) (setup : Setup) (spi_i : ℕ) (octets : Octets) (old : Held) (stepped : Stepped) (new : Held) (reply : Octets)
    → stepped.output ≡ output.Repeat reply → DoesJudgement meaning setup spi_i octets j old stepped new → ⊥
judged_repeats (Answered notice) meaning setup spi_i octets old stepped new reply said is = let clash = sym (ap (λ (s : Stepped). s.output) is.0.said) ∙ said in cc
judged_repeats Incomplete meaning setup spi_i octets old stepped new reply said is = let clash = sym (ap (λ (s : Stepped). s.output) is.said) ∙ said in cc
judged_repeats Full meaning setup spi_i octets old stepped new reply said is = let clash = sym (ap (λ (s : Stepped). s.output) is.said) ∙ said in cc
judged_repeats (Accepted offer) meaning setup spi_i octets old stepped new reply said is = elim is.done [
  | inl refused ↦ let clash = sym (ap (λ (s : Stepped). s.output) refused.1.said) ∙ said in cc
  | inr made ↦ let clash = sym (ap (λ (s : Stepped). s.output) made.said) ∙ said in cc
]

request_repeats : (o : Option ℕ) (meaning : Meaning) (setup : Setup) (cookies : CookieSecrets) (from octets : Octets) (fresh : Fresh) (m : Message) (old : Held) (table : Database) (stepped : Stepped) (new : Held) (reply : Octets)
    → AreSound old table → position (is_answered octets) old.associations ≡ o → stepped.output ≡ output.Repeat reply → TakesRequestAt o meaning setup cookies from octets m old stepped new
    → IsFirstReplyKept (steps.Message from octets fresh) old reply
request_repeats None meaning setup cookies from octets fresh m old table stepped new reply sound first said is = absurd (judged_repeats is.judgement meaning setup m.header.spi_i octets old stepped new reply said is.done)
request_repeats (Some place) meaning setup cookies from octets fresh m old table stepped new reply sound first said is =
    let r = is.0 in
    let passes : is_answered octets r.association ≡ true = (first_of (is_answered octets) old.associations place r.association first r.there).passes in
    let half = opened_of octets r.association.phase passes in
    let same : half.0.request ≡ octets = same_text half.0.request octets (sym (sym (ap (is_answered_phase octets) half.1) ∙ passes)) in
    let reply_is : r.reply ≡ reply = same_repeat r.reply reply (sym (ap (λ (s : Stepped). s.output) r.said) ∙ said) in
    record {
      serial = r.association.serial;
      association = r.association;
      there = sound_found old table place r.association sound r.there;
      opened = half.0;
      half_open = half.1;
      same = same_item half.0.reply reply (sym (ap kept_reply half.1) ∙ r.kept ∙ ap Some reply_is);
      request = sym same;
    }

initial_repeats : (b : Bool) (meaning : Meaning) (setup : Setup) (cookies : CookieSecrets) (from octets : Octets) (fresh : Fresh) (m : Message) (old : Held) (table : Database) (stepped : Stepped) (new : Held) (reply : Octets)
    → AreSound old table → stepped.output ≡ output.Repeat reply → TakesSound b meaning setup cookies from octets m old stepped new → IsFirstReplyKept (steps.Message from octets fresh) old reply
initial_repeats true meaning setup cookies from octets fresh m old table stepped new reply sound said is =
    request_repeats (position (is_answered octets) old.associations) meaning setup cookies from octets fresh m old table stepped new reply sound refl said is
initial_repeats false meaning setup cookies from octets fresh m old table stepped new reply sound said is = let clash = sym (ap (λ (s : Stepped). s.output) is.said) ∙ said in absurd cc

read_repeats : (more : MoreLaws) (b : Bool) (meaning : Meaning) (setup : Setup) (cookies : CookieSecrets) (from octets : Octets) (fresh : Fresh) (m : Message) (old : Held) (table : Database) (stepped : Stepped) (new : Held) (new_table : Database) (reply : Octets)
    → AreSound old table → Spells m octets → stepped.output ≡ output.Repeat reply → TakesRead b meaning setup cookies from octets m old table stepped new new_table
    → IsReplyKept meaning (steps.Message from octets fresh) old reply ⊎ IsFirstReplyKept (steps.Message from octets fresh) old reply
read_repeats more true meaning setup cookies from octets fresh m old table stepped new new_table reply sound spelled said is =
    inr (initial_repeats (is_sound_initial m.header) meaning setup cookies from octets fresh m old table stepped new reply sound said is.0)
read_repeats more false meaning setup cookies from octets fresh m old table stepped new new_table reply sound spelled said is =
    inl (found_repeats more (place_meant m.header old.associations) meaning setup from octets fresh m old table stepped new new_table reply sound spelled refl said is)

pub step_repeats_only : MoreLaws → (meaning : Meaning) (entries : List Entry) (input : InputView) (old : Machine) (table : Database) (stepped : Stepped) (new : Machine) (new_table : Database)
    (reply : Octets) → IsSoundMachine old table → Steps meaning entries input old table stepped new new_table → stepped.output ≡ output.Repeat reply
    → IsReplyKept meaning input old.held reply ⊎ IsFirstReplyKept input old.held reply
step_repeats_only more meaning entries (steps.Message from octets fresh) old table stepped new new_table reply sound is said = elim is.1 [
  | inl unread ↦ let clash = sym (ap (λ (s : Stepped). s.output) unread.passed.said) ∙ said in absurd cc
  | inr read ↦ read_repeats more (is_initial_request read.message.header) meaning (setup_at old entries fresh) old.cookies from octets fresh read.message old.held table stepped new.held new_table reply sound.held read.spelled said read.done
]
step_repeats_only more meaning entries (steps.Start None place fresh) old table stepped new new_table reply sound is said = let clash = sym (ap (λ (s : Stepped). s.output) is.1.done.said) ∙ said in absurd cc
step_repeats_only more meaning entries (steps.Start (Some asker) place fresh) old table stepped new new_table reply sound is said =
    let one = further_one meaning (setup_at old entries fresh) asker place old.held table stepped new.held new_table is.1 in
    let clash = sym (ap (λ (s : Stepped). s.output) one.probes.said) ∙ said in absurd cc
step_repeats_only more meaning entries (steps.Order what fresh) old table stepped new new_table reply sound is said =
    let one = asked_one meaning (setup_at old entries fresh) what old.held table stepped new.held new_table is.1 in
    let clash = sym (ap (λ (s : Stepped). s.output) one.probes.said) ∙ said in absurd cc
step_repeats_only more meaning entries (steps.Secret secret) old table stepped new new_table reply sound is said = let clash = sym (ap (λ (s : Stepped). s.output) is.said) ∙ said in absurd cc
step_repeats_only more meaning entries (steps.Tick moment) old table stepped new new_table reply sound is said = let clash = sym (ap (λ (s : Stepped). s.output) is.takes.said) ∙ said in absurd cc

-- ---- the window

change_window : (more : MoreLaws) (meaning : Meaning) (setup : Setup) (octets : Octets) (stepped : Stepped) (table : Database) (a b : Association) → Change meaning setup octets stepped table a b → KeepsWindow setup.config.window a b
change_window more meaning setup octets stepped table a b (unchanged is) = inl (ap (λ (x : Association). x.incoming.size) is)
change_window more meaning setup octets stepped table a b (asked is same_phase) = inl (ap (λ (r : PeerRequests). r.size) is)
change_window more meaning setup octets stepped table a b (took_it t) = more.window meaning setup a table octets t.message t.effect b t.new_table t.takes

way_window : (more : MoreLaws) (meaning : Meaning) (setup : Setup) (octets : Octets) (old : Held) (table : Database) (stepped : Stepped) (new : Held) (new_table : Database) (serial : ℕ) (a b : Association)
    → AreSound old table → IsHeldThrough serial old new a b → Way meaning setup octets old table stepped new new_table → KeepsWindow setup.config.window a b
way_window more meaning setup octets old table stepped new new_table serial a b sound held way =
    change_window more meaning setup octets stepped table a b (way_change more.laws meaning setup octets old table stepped new new_table serial a b sound held way)

pub step_window : MoreLaws → TicksHold → (meaning : Meaning) (entries : List Entry) (input : InputView) (old : Machine) (table : Database) (stepped : Stepped) (new : Machine) (new_table : Database)
    (serial : ℕ) (a b : Association) → IsSoundMachine old table → Steps meaning entries input old table stepped new new_table → IsHeldThrough serial old.held new.held a b → KeepsWindow old.config.window a b
step_window more ticks meaning entries (steps.Message from octets fresh) old table stepped new new_table serial a b sound is held =
    way_window more meaning (setup_at old entries fresh) octets old.held table stepped new.held new_table serial a b sound.held held (datagram_way meaning (setup_at old entries fresh) old.cookies from octets old.held table stepped new.held new_table is.1)
step_window more ticks meaning entries (steps.Start None place fresh) old table stepped new new_table serial a b sound is held =
    way_window more meaning (setup_at old entries fresh) [] old.held table stepped new.held new_table serial a b sound.held held (started (record { place = place; starts = is.1 }))
step_window more ticks meaning entries (steps.Start (Some asker) place fresh) old table stepped new new_table serial a b sound is held =
    way_window more meaning (setup_at old entries fresh) [] old.held table stepped new.held new_table serial a b sound.held held (probed (further_one meaning (setup_at old entries fresh) asker place old.held table stepped new.held new_table is.1))
step_window more ticks meaning entries (steps.Order what fresh) old table stepped new new_table serial a b sound is held =
    way_window more meaning (setup_at old entries fresh) [] old.held table stepped new.held new_table serial a b sound.held held (probed (asked_one meaning (setup_at old entries fresh) what old.held table stepped new.held new_table is.1))
step_window more ticks meaning entries (steps.Secret secret) old table stepped new new_table serial a b sound is held =
    inl (ap (λ (x : Association). x.incoming.size) (still_same old.held new.held serial a b (ap (λ (m : Machine). m.held) is.content) held.before held.after))
step_window more ticks meaning entries (steps.Tick moment) old table stepped new new_table serial a b sound is held =
    let t = is.takes in
    let now = max old.moment moment in
    let was = ticked_stood now old.held new.held table serial b sound.held (ticks now old.held.associations table t.ticked new.held.associations new_table t.ticks) held.after in
    inl (ap (λ (r : PeerRequests). r.size) was.on.incoming ∙ ap (λ (x : Association). x.incoming.size) (same_one was.was a (sym was.stood ∙ held.before)))

-- ---- who is established widens the window

both : (b : Bool) → b ≡ true → b ≡ false → ⊥
both true one other = cc
both false one other = cc

open_established : (p q : Phase) → IsEstablished q → q ≡ p → is_concluded p ≡ false → ⊥
open_established p q stands same open_yet = both (is_concluded p) (sym (ap is_concluded same) ∙ ap is_concluded stands.is) open_yet

closed_established : (keys : Option KeyRecord) (at : ℕ) (known : KeyRecord) → phase.Closed keys at ≡ phase.Established known → ⊥
closed_established keys at known e = cc

abbrev MessagesWiden : Type 0
MessagesWiden = (meaning : Meaning) (setup : Setup) (old : Association) (table : Database) (octets : Octets) (m : Message) (e : Effect) (new : Association) (new_table : Database)
    → is_concluded old.phase ≡ false → IsEstablished new.phase → TakesMessage meaning setup old table octets m e new new_table → WidensWindow setup.config.window old new

change_widens : MessagesWiden → (meaning : Meaning) (setup : Setup) (octets : Octets) (stepped : Stepped) (table : Database) (a b : Association) → is_concluded a.phase ≡ false → IsEstablished b.phase
    → Change meaning setup octets stepped table a b → WidensWindow setup.config.window a b
change_widens widens meaning setup octets stepped table a b open_yet stands (unchanged is) = absurd (open_established a.phase b.phase stands (ap (λ (x : Association). x.phase) is) open_yet)
change_widens widens meaning setup octets stepped table a b open_yet stands (asked is same_phase) = absurd (open_established a.phase b.phase stands same_phase open_yet)
change_widens widens meaning setup octets stepped table a b open_yet stands (took_it t) = widens meaning setup a table octets t.message t.effect b t.new_table open_yet stands t.takes

way_widens : Laws → MessagesWiden → (meaning : Meaning) (setup : Setup) (octets : Octets) (old : Held) (table : Database) (stepped : Stepped) (new : Held) (new_table : Database) (serial : ℕ) (a b : Association)
    → AreSound old table → IsHeldThrough serial old new a b → is_concluded a.phase ≡ false → IsEstablished b.phase → Way meaning setup octets old table stepped new new_table → WidensWindow setup.config.window a b
way_widens laws widens meaning setup octets old table stepped new new_table serial a b sound held open_yet stands way =
    change_widens widens meaning setup octets stepped table a b open_yet stands (way_change laws meaning setup octets old table stepped new new_table serial a b sound held way)

pub step_widens : Laws → TicksHold → MessagesWiden → (meaning : Meaning) (entries : List Entry) (input : InputView) (old : Machine) (table : Database) (stepped : Stepped) (new : Machine) (new_table : Database)
    (serial : ℕ) (a b : Association) → IsSoundMachine old table → Steps meaning entries input old table stepped new new_table → IsHeldThrough serial old.held new.held a b
    → is_concluded a.phase ≡ false → IsEstablished b.phase → WidensWindow old.config.window a b
step_widens laws ticks widens meaning entries (steps.Message from octets fresh) old table stepped new new_table serial a b sound is held open_yet stands =
    way_widens laws widens meaning (setup_at old entries fresh) octets old.held table stepped new.held new_table serial a b sound.held held open_yet stands
    (datagram_way meaning (setup_at old entries fresh) old.cookies from octets old.held table stepped new.held new_table is.1)
step_widens laws ticks widens meaning entries (steps.Start None place fresh) old table stepped new new_table serial a b sound is held open_yet stands =
    way_widens laws widens meaning (setup_at old entries fresh) [] old.held table stepped new.held new_table serial a b sound.held held open_yet stands (started (record { place = place; starts = is.1 }))
step_widens laws ticks widens meaning entries (steps.Start (Some asker) place fresh) old table stepped new new_table serial a b sound is held open_yet stands =
    way_widens laws widens meaning (setup_at old entries fresh) [] old.held table stepped new.held new_table serial a b sound.held held open_yet stands
    (probed (further_one meaning (setup_at old entries fresh) asker place old.held table stepped new.held new_table is.1))
step_widens laws ticks widens meaning entries (steps.Order what fresh) old table stepped new new_table serial a b sound is held open_yet stands =
    way_widens laws widens meaning (setup_at old entries fresh) [] old.held table stepped new.held new_table serial a b sound.held held open_yet stands
    (probed (asked_one meaning (setup_at old entries fresh) what old.held table stepped new.held new_table is.1))
step_widens laws ticks widens meaning entries (steps.Secret secret) old table stepped new new_table serial a b sound is held open_yet stands =
    absurd (open_established a.phase b.phase stands
    (ap (λ (x : Association). x.phase) (still_same old.held new.held serial a b (ap (λ (m : Machine). m.held) is.content) held.before held.after)) open_yet)
step_widens laws ticks widens meaning entries (steps.Tick moment) old table stepped new new_table serial a b sound is held open_yet stands =
    let t = is.takes in
    let now = max old.moment moment in
    let was = ticked_stood now old.held new.held table serial b sound.held (ticks now old.held.associations table t.ticked new.held.associations new_table t.ticks) held.after in
    let same : was.was ≡ a = same_one was.was a (sym was.stood ∙ held.before) in
    elim was.on.phase [
      | inl stays ↦ absurd (open_established a.phase b.phase stands (stays.1 ∙ ap (λ (x : Association). x.phase) same) open_yet)
      | inr closes ↦ absurd (closed_established _ now stands.keys (sym (ap (λ (x : Association). x.phase) closes.content) ∙ stands.is))
    ]

-- ---- how long it is held

-- what a tick leaves
abbrev pub TicksLeave : Type 0
TicksLeave = (now : ℕ) (old new : List Association) (table new_table : Database) (ticked : Ticked) → Ticks now old table ticked new new_table → AllZip (moments.StaysItself now ticked.closed) (held_of now old) new

not_over : (here over : Bool) (x : Association) (rest held : List Association) (a : Association) (serial : ℕ) → has_serial serial x ≡ here → (x ≡ a → over ≡ false)
    → (association_of serial rest ≡ Some a → association_of serial held ≡ Some a) → cond here (Some x) (association_of serial rest) ≡ Some a
    → association_of serial (cond (not over) (x ∷ held) held) ≡ Some a
not_over true true x rest held a serial is stays more stands = let clash : true ≡ false = stays (same_one x a stands) in absurd cc
not_over true false x rest held a serial is stays more stands = ap (λ b. cond b (Some x) (association_of serial held)) is ∙ stands
not_over false true x rest held a serial is stays more stands = more stands
not_over false false x rest held a serial is stays more stands = ap (λ b. cond b (Some x) (association_of serial held)) is ∙ more stands

pub still_held : (now serial : ℕ) (xs : List Association) (a : Association) → is_over now a.phase ≡ false → association_of serial xs ≡ Some a → association_of serial (held_of now xs) ≡ Some a
still_held now serial [] a alive stands = absurd cc
still_held now serial (x ∷ xs) a alive stands =
    not_over (has_serial serial x) (is_over now x.phase) x xs (held_of now xs) a serial refl (λ same. ap (λ (y : Association). is_over now y.phase) same ∙ alive) (still_held now serial xs a alive) stands

none_first : (b c : Bool) (x y : Association) (o p : Option Association) → b ≡ c → (p ≡ None → o ≡ None) → cond c (Some y) p ≡ None → cond b (Some x) o ≡ None
none_first b true x y o p same rest none = absurd cc
none_first true false x y o p same rest none = absurd cc
none_first false false x y o p same rest none = rest none

none_zipped : (now serial : ℕ) (closed : List ℕ) (xs ys : List Association) → AllZip (moments.StaysItself now closed) xs ys → association_of serial ys ≡ None → association_of serial xs ≡ None
none_zipped now serial closed [] ys zip none = refl
none_zipped now serial closed (x ∷ xs) [] zip none = absurd zip
none_zipped now serial closed (x ∷ xs) (y ∷ ys) zip none =
    none_first (has_serial serial x) (has_serial serial y) x y (association_of serial xs) (association_of serial ys) (ap (λ n. n == serial) (sym zip.0.serial)) (none_zipped now serial closed xs ys zip.1) none

lost : (held_still : Option Association) (a : Association) → held_still ≡ Some a → held_still ≡ None → ⊥
lost o a is none = some_none a (sym none ∙ is)

replaced_keeps : (old : Held) (table : Database) (place : ℕ) (a b : Association) (new : Held) (serial : ℕ) (c : Association) → AreSound old table → At old place a → b.serial ≡ a.serial
    → new ≡ record old { associations = slice_set old.associations place b } → association_of serial old.associations ≡ Some c → association_of serial new.associations ≡ None → ⊥
replaced_keeps old table place a b new serial c sound there same content stands none = elim (eqb_tells serial a.serial) [
  | inl (one, here) ↦
      some_none b (sym none ∙ ap (λ (h : Held). association_of serial h.associations) content
      ∙ subst (λ n. association_of n (slice_set old.associations place b) ≡ Some b) (sym here) (replaced_stands old table place a b sound there same))
  | inr (other, apart) ↦
      some_none c (sym none ∙ ap (λ (h : Held). association_of serial h.associations) content ∙ replaced_found old.associations place a b serial there apart same ∙ stands)
]

grown_keeps : (old : Held) (table : Database) (serial : ℕ) (b a : Association) (new : Held) → AreSound old table → b.serial ≡ old.next → new ≡ with_next old b
    → association_of serial old.associations ≡ Some a → association_of serial new.associations ≡ None → ⊥
grown_keeps old table serial b a new sound next content stands none =
    let less = below old table serial a sound stands in
    some_none a (sym none ∙ ap (λ (h : Held). association_of serial h.associations) content ∙ grown_found old.associations b serial (λ e. omega (arith, less, e, next)) ∙ stands)

way_keeps : (laws : Laws) (meaning : Meaning) (setup : Setup) (octets : Octets) (old : Held) (table : Database) (stepped : Stepped) (new : Held) (new_table : Database) (serial : ℕ) (a : Association)
    → AreSound old table → association_of serial old.associations ≡ Some a → association_of serial new.associations ≡ None → Way meaning setup octets old table stepped new new_table → ⊥
way_keeps laws meaning setup octets old table stepped new new_table serial a sound stands none (rested is) = some_none a (sym none ∙ ap (λ (h : Held). association_of serial h.associations) is.same ∙ stands)
way_keeps laws meaning setup octets old table stepped new new_table serial a sound stands none (took is) =
    let t = is.takes in
    let stays = laws.itself meaning setup t.association table octets is.message t.effect t.changed new_table t.takes in
    replaced_keeps old table is.place t.association t.changed new serial a sound t.there stays.serial t.content stands none
way_keeps laws meaning setup octets old table stepped new new_table serial a sound stands none (admitted is) =
    grown_keeps old table serial is.admits.admitted.association a new sound (ap (λ (x : Association). x.serial) is.admits.admits.content) is.admits.content stands none
way_keeps laws meaning setup octets old table stepped new new_table serial a sound stands none (started is) =
    grown_keeps old table serial _ a new sound refl is.starts.done.content stands none
way_keeps laws meaning setup octets old table stepped new new_table serial a sound stands none (probed is) =
    let p = is.probes in
    let stays = changed_itself meaning.body_of setup is.ike old stepped new p in
    replaced_keeps old table p.place p.association p.changed new serial a sound p.there stays.serial p.content stands none

over_or : (over : Bool) → (over ≡ false → ⊥) → over ≡ true
over_or true never = refl
over_or false never = absurd (never refl)

pub step_gone : Laws → TicksLeave → (meaning : Meaning) (entries : List Entry) (input : InputView) (old : Machine) (table : Database) (stepped : Stepped) (new : Machine) (new_table : Database)
    (serial : ℕ) (a : Association) → IsSoundMachine old table → Steps meaning entries input old table stepped new new_table → association_of serial old.held.associations ≡ Some a
    → association_of serial new.held.associations ≡ None → IsGivenUp input old a
step_gone laws leave meaning entries (steps.Message from octets fresh) old table stepped new new_table serial a sound is stands none =
    absurd (way_keeps laws meaning (setup_at old entries fresh) octets old.held table stepped new.held new_table serial a sound.held stands none (datagram_way meaning (setup_at old entries fresh) old.cookies from octets old.held table stepped new.held new_table is.1))
step_gone laws leave meaning entries (steps.Start None place fresh) old table stepped new new_table serial a sound is stands none =
    absurd (way_keeps laws meaning (setup_at old entries fresh) [] old.held table stepped new.held new_table serial a sound.held stands none (started (record { place = place; starts = is.1 })))
step_gone laws leave meaning entries (steps.Start (Some asker) place fresh) old table stepped new new_table serial a sound is stands none =
    absurd (way_keeps laws meaning (setup_at old entries fresh) [] old.held table stepped new.held new_table serial a sound.held stands none (probed (further_one meaning (setup_at old entries fresh) asker place old.held table stepped new.held new_table is.1)))
step_gone laws leave meaning entries (steps.Order what fresh) old table stepped new new_table serial a sound is stands none =
    absurd (way_keeps laws meaning (setup_at old entries fresh) [] old.held table stepped new.held new_table serial a sound.held stands none (probed (asked_one meaning (setup_at old entries fresh) what old.held table stepped new.held new_table is.1)))
step_gone laws leave meaning entries (steps.Secret secret) old table stepped new new_table serial a sound is stands none =
    absurd (some_none a (sym none ∙ ap (λ (m : Machine). association_of serial m.held.associations) is.content ∙ stands))
step_gone laws leave meaning entries (steps.Tick moment) old table stepped new new_table serial a sound is stands none =
    let t = is.takes in
    let now = max old.moment moment in
    over_or (is_over now a.phase) (λ alive.
    lost (association_of serial (held_of now old.held.associations)) a (still_held now serial old.held.associations a alive stands)
    (none_zipped now serial t.ticked.closed (held_of now old.held.associations) new.held.associations (leave now old.held.associations new.held.associations table new_table t.ticked t.ticks) none))
