-- The first three steps: A begins, B answers, and A reads the answer and tells who it is (RFC 7296 sections
-- 1.2 and 2.14).
use Rattle.std.proofs.Common.{◌∷◌, inl, inr, ℕ, Option, None, [], ap, arith, refl, sym}
use Rattle.std.specs.Prelude.{replicate}
use Rattle.std.specs.FinMap as map
use Rattle.std.specs.FinSet as set
use Rattle.std.specs.Ordering.{nat_cmp}
use Rattle.wire.specs.Parts.{IsZero}
use Rattle.sadb.specs.Database.{empty_table, Database, IsFull}
use Rattle.sadb.specs.declared.pair.Pair.{Pair}
use Rattle.sa_init.specs.Judging.{Accepted}
use Rattle.sa_init.specs.declared.response.Response.TheVariants as response
use Rattle.association.specs.Receiving as receiving
use Rattle.association.specs.Receiving.{reception_by}
use Rattle.association.specs.declared.phase.Association.{Association}
use Rattle.association.specs.declared.phase.Request.{Request}
use Rattle.association.specs.Admitting.{Admits}
use Rattle.setup.specs.Configs.{Setup}
use Rattle.initial.specs.Reading.{ReadsResponse, TellsIdentity}
use Rattle.association.specs.declared.admitting.Admitted.{Admitted}
use Rattle.initial.specs.declared.reading.Continued.TheVariants as continued
use Rattle.moments.specs.Held.{IsInTime}
use Rattle.effects.specs.Taking.{asker_of, TakesMessage}
use Rattle.effects.specs.declared.taking.Effect.TheVariants as effect
use Rattle.ike.specs.Machines.{new_machine, setup_at, Machine}
use Rattle.ike.specs.Outputs.{half_open_step, plain_step, stepped_of}
use Rattle.ike.specs.Steps.{Message, Start, Steps}
use Rattle.ike.specs.declared.output.IkeOutput.TheVariants.{Request as Requested}
use Rattle.ike.specs.declared.output.Stepped.{Stepped}
use Rattle.gateway.specs.States.{IsSoundState}
use Rattle.gateway.specs.WorldHistories.{IsWorldTrail}
use Rattle.gateway.specs.Worlds.{TakesEvent}
use Rattle.gateway.specs.declared.world.stored.End.{End}
use Rattle.gateway.specs.declared.world.stored.End.TheVariants.{A, B}
use Rattle.laws_two_ends.proofs.WorkedRequestLemmas.{none_asked}
use Rattle.laws_two_ends.specs.WorkedRecords.{answering_fresh, beginning_fresh, fresh_of, worked_record}
use Rattle.laws_two_ends.proofs.AuthLemmas.{auth_octets, plain_octets, request_chain, request_is}
use Rattle.laws_two_ends.proofs.InitLemmas.{answer_octets, answer_read, answered_message, asked_message, request_octets, request_read}
use Rattle.laws_two_ends.proofs.OctetLemmas.{octets_if}
use Rattle.laws_two_ends.proofs.WorkedRecordLemmas as records
use Rattle.laws_two_ends.proofs.WorkedRecordLemmas.{accepted, answered, first_request, gives, init_sent, waiting, worked_agreed, worked_beginning, worked_offer}
use Rattle.laws_two_ends.proofs.RequestLemmas.{first_waits, second_issued}
use Rattle.laws_two_ends.proofs.ArrivalLemmas.{alone, takes_alone}
use Rattle.laws_two_ends.proofs.MapLemmas.{only_there}
use Rattle.laws_two_ends.proofs.StateLemmas.{in_time_if}
use Rattle.laws_two_ends.specs.WorkedRuns.{all_protected, config_at, new_end, new_ends, run_meaning, spi_at}
use Rattle.laws_two_ends.proofs.NewEndLemmas.{empty_is_sound, new_end_is_sound, reserved_is_sound, sealing, starts}
use Rattle.laws_two_ends.proofs.SoundnessLemmas.{sound_next, timely_alone, NoSpiIsLost, SoundnessStays}
use Rattle.laws_two_ends.proofs.Stages.{answers, begins, end_with, opened, reserved_table, second_request, telling, tells, told_world}

-- an end's machine that holds this IKE SA alone
abbrev machine_with : End → Association → Machine
machine_with end a = alone (new_machine (config_at end)) a

-- A's table, from its first step on
abbrev first_table : Database
first_table = reserved_table (spi_at A)

-- ---- A begins

not_full : (spi : ℕ) → ¬ IsFull (empty_table spi)
not_full spi full =
    let no_pairs = map.len-empty nat_cmp Pair in
    let none_reserved = set.len-empty nat_cmp in
    absurd (omega (arith, full, no_pairs, none_reserved))

abbrev begun_step : Stepped
begun_step = plain_step (Requested 1 request_octets)

begin_steps : Steps run_meaning all_protected (Start None 0 (fresh_of 1)) (new_machine (config_at A)) (empty_table (spi_at A)) begun_step
    (machine_with A waiting) first_table
begin_steps = (
  refl,
  record {
    entry = _;
    allowed = record { none = refl; protects = refl; next = refl; left = omega arith };
    beginning = worked_beginning;
    begins = records.begins;
    between = empty_table (spi_at A);
    room = record { content = refl; room = omega arith };
    done = record {
      not_full = not_full (spi_at A);
      not_spent = λ spent. absurd (omega (arith, spent));
      spi = spi_at A;
      reserved = record { in_order = refl; content = refl; room = omega arith };
      said = refl;
      content = refl;
    };
  },
)

-- ---- B answers

abbrev admitted : Admitted
admitted = record { association = opened; octets = answer_octets }

admits : Admits run_meaning.cipher run_meaning.group run_meaning.public_value run_meaning.shared_secret answering_fresh 0 1 worked_offer beginning_fresh.spi
    request_octets admitted
admits = record { agreed = worked_agreed; answer = answered; octets = refl; content = refl }

abbrev answered_step : Stepped
answered_step = half_open_step 1 answer_octets

answer_steps : Steps run_meaning all_protected (Message (replicate 4 1) request_octets (fresh_of 2)) (new_machine (config_at B)) (empty_table (spi_at B)) answered_step
    (machine_with B opened) (empty_table (spi_at B))
answer_steps = (
  refl,
  inr (record {
    message = asked_message;
    spelled = request_read;
    done = (
      record {
        judgement = Accepted worked_offer;
        judged = accepted;
        done = record { can = record { serial = omega arith; usable = refl }; done = inr (record { admitted = admitted; admits = admits; said = refl; content = refl }) };
      },
      refl,
    );
  }),
)

-- ---- A reads the answer, and tells who it is

abbrev reading_setup : Setup
reading_setup = setup_at (new_machine (config_at A)) all_protected (fresh_of 3)

tells_identity : TellsIdentity (asker_of run_meaning) reading_setup waiting init_sent 0 answered_message answer_octets worked_record auth_octets telling
tells_identity = record {
  request = first_request;
  outstanding = first_waits first_request;
  sealed = record { first = 35; plain = plain_octets 1; spelled = request_chain IsZero refl; octets = octets_if (plain_octets 1) refl; whole = request_is IsZero refl };
  issued = second_issued second_request;
  content = refl;
}

reads : ReadsResponse (asker_of run_meaning) reading_setup waiting 0 answer_octets answered_message (continued.AsksAuth auth_octets) telling
reads = record { sent = init_sent; was = refl; response = response.Keys worked_record; means = gives; continues = tells_identity }

reads_message : TakesMessage run_meaning reading_setup waiting first_table answer_octets answered_message (effect.AsksAuth auth_octets) telling first_table
reads_message = record {
  reception = receiving.AnswersInitial;
  received = sym (ap (λ (o : Option Request). reception_by waiting.phase 34 o None) (first_waits first_request));
  done = (record { continued = continued.AsksAuth auth_octets; read = reads; said = refl }, refl);
}

abbrev told_step : Stepped
told_step = stepped_of 1 0 (effect.AsksAuth auth_octets)

tell_steps : Steps run_meaning all_protected (Message (replicate 4 2) answer_octets (fresh_of 3)) (machine_with A waiting) first_table told_step
    (machine_with A telling) first_table
tell_steps = takes_alone (new_machine (config_at A)) all_protected (replicate 4 2) (fresh_of 3) answer_read refl refl reads_message

-- ---- nothing is due at time 0

waiting_in_time : IsInTime 0 waiting
waiting_in_time = in_time_if waiting refl (omega arith) (λ n r is. ap (λ (x : Request). x.timer) (only_there map.empty refl 0 first_request n r is).content)

telling_in_time : IsInTime 0 telling
telling_in_time = in_time_if telling refl (omega arith) (λ n r is. ap (λ (x : Request). x.timer) (only_there map.empty refl 1 second_request n r is).content)

opened_in_time : IsInTime 0 opened
opened_in_time = in_time_if opened refl (omega arith) (λ n r is. absurd (none_asked n r is))

-- ---- the three steps, and the ends after them

module _ (stays : SoundnessStays) (held : NoSpiIsLost) {C : Type 0} (a b : C) where
  begun_is_sound : IsSoundState (end_with A a waiting first_table)
  begun_is_sound =
      sound_next stays held run_meaning (Start None 0 (fresh_of 1)) begun_step (new_end A a) (end_with A a waiting first_table) (new_end_is_sound A a) begin_steps
      (reserved_is_sound (spi_at A) (starts A)) (timely_alone (config_at A) waiting waiting_in_time)

  pub told_one_is_sound : IsSoundState (told_world a b).a
  told_one_is_sound =
      sound_next stays held run_meaning (Message (replicate 4 2) answer_octets (fresh_of 3)) told_step (end_with A a waiting first_table)
      (end_with A a telling first_table) begun_is_sound tell_steps (reserved_is_sound (spi_at A) (starts A)) (timely_alone (config_at A) telling telling_in_time)

  pub told_other_is_sound : IsSoundState (told_world a b).b
  told_other_is_sound =
      sound_next stays held run_meaning (Message (replicate 4 1) request_octets (fresh_of 2)) answered_step (new_end B b)
      (end_with B b opened (empty_table (spi_at B))) (new_end_is_sound B b) answer_steps (empty_is_sound (spi_at B) (starts B))
      (timely_alone (config_at B) opened opened_in_time)

  begins_is : TakesEvent (λ _. run_meaning) (begins a b).event (begins a b).before (begins a b).said (begins a b).after
  begins_is = record {
    sound = new_end_is_sound A a;
    fresh = sealing 1 (omega arith);
    trace = begun_step.trace;
    gateway = end_with A a waiting first_table;
    traces = record { kept = refl; does = inl (record { stepped = begun_step; steps = begin_steps; output = refl; traced = refl }) };
    content = refl;
  }

  answers_is : TakesEvent (λ _. run_meaning) (answers a b).event (answers a b).before (answers a b).said (answers a b).after
  answers_is = record {
    sound = new_end_is_sound B b;
    fresh = sealing 2 (omega arith);
    trace = answered_step.trace;
    gateway = end_with B b opened (empty_table (spi_at B));
    traces = record { kept = refl; does = inl (record { stepped = answered_step; steps = answer_steps; output = refl; traced = refl }) };
    content = refl;
  }

  tells_is : TakesEvent (λ _. run_meaning) (tells a b).event (tells a b).before (tells a b).said (tells a b).after
  tells_is = record {
    sound = begun_is_sound;
    fresh = sealing 3 (omega arith);
    trace = told_step.trace;
    gateway = end_with A a telling first_table;
    traces = record { kept = refl; does = inl (record { stepped = told_step; steps = tell_steps; output = refl; traced = refl }) };
    content = refl;
  }

  pub first_steps_are : IsWorldTrail (λ _. run_meaning) (new_ends a b) (begins a b ∷ answers a b ∷ tells a b ∷ []) (told_world a b)
  first_steps_are = (refl, begins_is, (refl, answers_is, (refl, tells_is, refl)))
