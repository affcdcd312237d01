-- A request for an IKE SA comes to a new gateway, which then begins one of its own; and the run without it.
use Rattle.std.proofs.Common.{◌≡◌, ◌∷◌, ◌∙◌, inl, inr, ℕ, zero, suc, Bool, true, false, None, Some, List, [], slice_get, replicate, refl, sym, ap, arith}
use Rattle.std.specs.FinMap as map
use Rattle.std.specs.FinSet as set
use Rattle.std.specs.Ordering.{nat_cmp}
use Rattle.base.specs.Octets.{IsOctet, Octets}
use Rattle.wire.specs.Messages.{Spells}
use Rattle.wire.specs.declared.message.Message.{Message as Read}
use Rattle.esp.specs.declared.fault.EspFault.TheVariants.{BadLength}
use Rattle.traffic.specs.Outcomes as outcomes
use Rattle.traffic.specs.declared.fault.PacketFault.TheVariants.{Esp}
use Rattle.association.specs.Finding.{has_pair}
use Rattle.association.specs.declared.fault.MessageFault.TheVariants.{UnknownAssociation}
use Rattle.ike.specs.Receiving.{is_answered, is_initial_request}
use Rattle.ike.specs.declared.fault.IkeFault.TheVariants as fault
use Rattle.gateway.specs.Others.{HaveNotTheSpi, IsApartDatagram}
use Rattle.gateway.specs.Strangers.{IsAccepted}
use Rattle.gateway.specs.declared.fault.Reason.TheVariants.{Ike, Packet}
use Rattle.laws_two_ends.proofs.OctetLemmas.{octets_if}
use Rattle.laws_authenticated.proofs.WorkedClosingLemmas.{nothing_told}
use Rattle.laws_authenticated.proofs.WorkedDeletionLemmas.{payload_is}
use Rattle.laws_authenticated.specs.WorkedDeletions.{deletion, deletion_payload}
use Rattle.sadb.specs.Database.{empty_table, IsFull}
use Rattle.sadb.specs.declared.pair.Pair.{Pair}
use Rattle.sa_init.specs.Judging.{Accepted}
use Rattle.association.specs.declared.admitting.Admitted.{Admitted}
use Rattle.association.specs.declared.phase.Association.{Association}
use Rattle.initial.specs.Beginning.{begun}
use Rattle.ike.specs.Machines.{has_own_spi, new_machine, Machine}
use Rattle.ike.specs.Outputs.{half_open_step, no_trace, passed_over, plain_step}
use Rattle.laws_two_ends.proofs.AuthLemmas.{worked_child}
use Rattle.ike.specs.Steps.{InputView, Message, Start, Steps}
use Rattle.ike.specs.declared.output.IkeOutput.TheVariants.{Request as Requested}
use Rattle.ike.specs.declared.output.Stepped.{Stepped}
use Rattle.gateway.proofs.CarryingLemmas as carrying
use Rattle.gateway.specs.Histories.{IsPassage, Passage}
use Rattle.gateway.specs.Inputs as input
use Rattle.gateway.specs.LeavingOut.{IsRightlyGiven}
use Rattle.gateway.specs.Outputs.{Dropped, Reply, Request}
use Rattle.gateway.specs.States.{IsSoundState, State}
use Rattle.gateway.specs.declared.world.stored.End.TheVariants.{B}
use Rattle.laws_two_ends.proofs.BeginningLemmas.{told_other_is_sound}
use Rattle.laws_two_ends.proofs.InitLemmas.{answer_octets, asked_message, request_octets, request_read}
use Rattle.laws_two_ends.proofs.NewEndLemmas.{new_end_is_sound}
use Rattle.laws_two_ends.proofs.SoundnessLemmas.{NoSpiIsLost, OneMessage, SoundnessStays}
use Rattle.laws_two_ends.proofs.Stages.{end_with, opened, reserved_table}
use Rattle.laws_two_ends.proofs.WorkedRecordLemmas as records
use Rattle.laws_two_ends.proofs.WorkedRecordLemmas.{accepted, answered, worked_agreed, worked_beginning, worked_offer}
use Rattle.laws_two_ends.specs.WorkedRecords.{beginning_fresh, fresh_of}
use Rattle.laws_two_ends.specs.WorkedRuns.{all_protected, config_at, new_end, run_meaning, spi_at}
use Rattle.gateway.proofs.BegunLemmas as beside
use Rattle.gateway.proofs.RenamedLaws.{PairLaws}
use Rattle.gateway.specs.Beside.{itself, none_yet, AreGivenBeside}
use Rattle.laws_authenticated.specs.WorkedBeside.{LeavesARequestOut}

-- ---- the two steps

abbrev admitted : Admitted
admitted = record { association = opened; octets = answer_octets }

abbrev answered_step : Stepped
answered_step = half_open_step 1 answer_octets

answer_steps : Steps run_meaning all_protected (Message (replicate 4 1) request_octets (fresh_of 2)) (new_machine (config_at B)) (empty_table (spi_at B)) answered_step
    (record (new_machine (config_at B)) { held = record { next = 2; associations = opened ∷ [] } }) (empty_table (spi_at B))
answer_steps = (
  refl,
  inr (record {
    message = asked_message;
    spelled = request_read;
    done = (
      record {
        judgement = Accepted worked_offer;
        judged = accepted;
        done = record {
          can = record { serial = omega arith; usable = refl };
          done = inr (record { admitted = admitted; admits = record { agreed = worked_agreed; answer = answered; octets = refl; content = refl }; said = refl; content = refl });
        };
      },
      refl,
    );
  }),
)

not_full : (spi : ℕ) → ¬ IsFull (empty_table spi)
not_full spi full =
    let no_pairs = map.len-empty nat_cmp Pair in
    let none_reserved = set.len-empty nat_cmp in
    absurd (omega (arith, full, no_pairs, none_reserved))

-- the IKE SA that it asks for itself
abbrev own : ℕ → Association
own serial = begun serial worked_beginning (record worked_child { spi = 512 })

abbrev machine_of : ℕ → List Association → Machine
machine_of next associations = record (new_machine (config_at B)) { held = record { next = next; associations = associations } }

abbrev given_own : InputView
given_own = Start None 0 (fresh_of 1)

begin_first : Steps run_meaning all_protected given_own (new_machine (config_at B)) (empty_table (spi_at B)) (plain_step (Requested 1 request_octets))
    (machine_of 2 (own 1 ∷ [])) (reserved_table (spi_at B))
begin_first = (
  refl,
  record {
    entry = _;
    allowed = record { none = refl; protects = refl; next = refl; left = omega arith };
    beginning = worked_beginning;
    begins = records.begins;
    between = empty_table (spi_at B);
    room = record { content = refl; room = omega arith };
    done = record {
      not_full = not_full (spi_at B);
      not_spent = λ spent. absurd (omega (arith, spent));
      spi = spi_at B;
      reserved = record { in_order = refl; content = refl; room = omega arith };
      said = refl;
      content = refl;
    };
  },
)

begin_second : Steps run_meaning all_protected given_own (machine_of 2 (opened ∷ [])) (empty_table (spi_at B)) (plain_step (Requested 2 request_octets))
    (machine_of 3 (opened ∷ own 2 ∷ [])) (reserved_table (spi_at B))
begin_second = (
  refl,
  record {
    entry = _;
    allowed = record { none = refl; protects = refl; next = refl; left = omega arith };
    beginning = worked_beginning;
    begins = records.begins;
    between = empty_table (spi_at B);
    room = record { content = refl; room = omega arith };
    done = record {
      not_full = not_full (spi_at B);
      not_spent = λ spent. absurd (omega (arith, spent));
      spi = spi_at B;
      reserved = record { in_order = refl; content = refl; room = omega arith };
      said = refl;
      content = refl;
    };
  },
)

-- ---- a datagram for an IKE SA that there isn't

abbrev stray : Octets
stray = 0 ∷ 0 ∷ 0 ∷ 0 ∷ 0 ∷ 0 ∷ 0 ∷ 5 ∷ 0 ∷ 0 ∷ 0 ∷ 0 ∷ 0 ∷ 0 ∷ 0 ∷ 6 ∷ 42 ∷ 0x20 ∷ 37 ∷ 0x08 ∷ 0 ∷ 0 ∷ 0 ∷ 3 ∷ 0 ∷ 0 ∷ 0 ∷ 36 ∷ deletion_payload

abbrev stray_message : Read
stray_message = record deletion { header = record deletion.header { spi_i = 5; spi_r = 6 } }

stray_spelled : Spells stray_message stray
stray_spelled = record {
  first = 42;
  header = 0 ∷ 0 ∷ 0 ∷ 0 ∷ 0 ∷ 0 ∷ 0 ∷ 5 ∷ 0 ∷ 0 ∷ 0 ∷ 0 ∷ 0 ∷ 0 ∷ 0 ∷ 6 ∷ 42 ∷ 0x20 ∷ 37 ∷ 0x08 ∷ 0 ∷ 0 ∷ 0 ∷ 3 ∷ [];
  payloads = deletion_payload;
  whole = refl;
  head = record {
    flags = 8;
    has_flags = record { low = 0; high = 0; value = refl; low_bits = omega arith; high_bits = omega arith; free = (omega arith, omega arith) };
    spelled = refl;
    spi_i = omega arith;
    spi_r = omega arith;
    minor = omega arith;
    id = omega arith;
  };
  chain = payload_is IsOctet (omega arith);
  limit = omega arith;
  octets = octets_if stray refl;
}

named_not : (m : Read) (place : ℕ) (a : Association) → m ≡ stray_message → slice_get (opened ∷ []) place ≡ Some a → has_pair m.header a ≡ false
named_not m zero a is there = let same : opened ≡ a = cc in ap (λ (n : Read). has_pair n.header a) is ∙ ap (has_pair stray_message.header) (sym same)
named_not m (suc place) a is there = absurd (cc)

asked_not : (place : ℕ) (a : Association) → slice_get (opened ∷ []) place ≡ Some a → is_answered stray a ≡ false
asked_not zero a there = let same : opened ≡ a = cc in ap (is_answered stray) (sym same)
asked_not (suc place) a there = absurd (cc)

not_first : (m : Read) → m ≡ stray_message → is_initial_request m.header ≡ true → ⊥
not_first m is first = let no : is_initial_request m.header ≡ false = ap (λ (n : Read). is_initial_request n.header) is in cc

-- ---- the runs

module _ {C : Type 0} (caller : C) where
  abbrev after_own : ℕ → List Association → State C
  after_own next associations = record (new_end B caller) { machine = machine_of next associations; table = reserved_table (spi_at B) }

  abbrev answers : Passage C
  answers = record {
    before = new_end B caller;
    given = input.Ike (replicate 4 1) request_octets (fresh_of 2);
    said = Reply answer_octets None;
    after = end_with B caller opened (empty_table (spi_at B));
  }

  abbrev begins_beside : Passage C
  begins_beside = record {
    before = end_with B caller opened (empty_table (spi_at B));
    given = input.Start None 0 (fresh_of 1);
    said = Request 2 request_octets;
    after = after_own 3 (opened ∷ own 2 ∷ []);
  }

  abbrev begins_alone : Passage C
  begins_alone = record {
    before = new_end B caller;
    given = input.Start None 0 (fresh_of 1);
    said = Request 1 request_octets;
    after = after_own 2 (own 1 ∷ []);
  }

  answers_is : IsPassage (λ _. run_meaning) answers
  answers_is = record {
    sound = new_end_is_sound B caller;
    steps = record { trace = answered_step.trace; traces = record { kept = refl; does = inl (record { stepped = answered_step; steps = answer_steps; output = refl; traced = refl }) } };
  }

  beside_is : IsSoundState (end_with B caller opened (empty_table (spi_at B))) → IsPassage (λ _. run_meaning) begins_beside
  beside_is sound = record {
    sound = sound;
    steps = record { trace = no_trace; traces = record { kept = refl; does = inl (record { stepped = plain_step (Requested 2 request_octets); steps = begin_second; output = refl; traced = refl }) } };
  }

  alone_is : IsPassage (λ _. run_meaning) begins_alone
  alone_is = record {
    sound = new_end_is_sound B caller;
    steps = record { trace = no_trace; traces = record { kept = refl; does = inl (record { stepped = plain_step (Requested 1 request_octets); steps = begin_first; output = refl; traced = refl }) } };
  }

  -- an ESP packet of no octets, and a stray datagram
  abbrev drops_packet : Passage C
  drops_packet = record {
    before = end_with B caller opened (empty_table (spi_at B));
    given = input.Esp [];
    said = Dropped (Packet (Esp BadLength));
    after = end_with B caller opened (empty_table (spi_at B));
  }

  abbrev drops_beside : Passage C
  drops_beside = record {
    before = end_with B caller opened (empty_table (spi_at B));
    given = input.Ike (replicate 4 1) stray (fresh_of 3);
    said = Dropped (Ike (fault.Message UnknownAssociation));
    after = end_with B caller opened (empty_table (spi_at B));
  }

  abbrev drops_alone : Passage C
  drops_alone = record {
    before = new_end B caller;
    given = input.Ike (replicate 4 1) stray (fresh_of 3);
    said = Dropped (Ike (fault.Message UnknownAssociation));
    after = new_end B caller;
  }

  packet_is : IsSoundState (end_with B caller opened (empty_table (spi_at B))) → IsPassage (λ _. run_meaning) drops_packet
  packet_is sound = record {
    sound = sound;
    steps = record {
      trace = no_trace;
      traces = record {
        kept = refl;
        does = (record { machine = refl; traced = refl }, record { outcome = outcomes.Dropped (Esp BadLength); receives = inl (omega arith, refl); output = refl });
      };
    };
  }

  stray_beside : IsSoundState (end_with B caller opened (empty_table (spi_at B))) → IsPassage (λ _. run_meaning) drops_beside
  stray_beside sound = record {
    sound = sound;
    steps = record {
      trace = no_trace;
      traces = record {
        kept = refl;
        does = inl (record {
          stepped = passed_over (fault.Message UnknownAssociation);
          steps = (refl, inr (record { message = stray_message; spelled = stray_spelled; done = (record { said = refl; unchanged = refl }, refl) }));
          output = refl;
          traced = refl;
        });
      };
    };
  }

  stray_alone : IsPassage (λ _. run_meaning) drops_alone
  stray_alone = record {
    sound = new_end_is_sound B caller;
    steps = record {
      trace = no_trace;
      traces = record {
        kept = refl;
        does = inl (record {
          stepped = passed_over (fault.Message UnknownAssociation);
          steps = (refl, inr (record { message = stray_message; spelled = stray_spelled; done = (record { said = refl; unchanged = refl }, refl) }));
          output = refl;
          traced = refl;
        });
      };
    };
  }

  -- ---- what is asked of them

  not_accepted : IsAccepted (empty_table (spi_at B)) [] → ⊥
  not_accepted is = let none = map.get-empty {X = Pair} nat_cmp is.child in let found = is.there in cc

  its_own : (strange : ℕ → Bool) → OneMessage → IsApartDatagram strange (machine_of 2 (opened ∷ [])) (replicate 4 1) stray (fresh_of 3)
  its_own strange one = record {
    unnamed = λ m place a spelled there out. named_not m place a (one m stray_message stray spelled stray_spelled) there;
    unasked = λ place a there out. asked_not place a there;
    heard = λ m spelled first. absurd (not_first m (one m stray_message stray spelled stray_spelled) first);
    room = λ m spelled first. absurd (not_first m (one m stray_message stray spelled stray_spelled) first);
    spi = λ m spelled first. absurd (not_first m (one m stray_message stray spelled stray_spelled) first);
  }

  not_its_spi : (strange : ℕ → Bool) → HaveNotTheSpi strange (machine_of 2 (opened ∷ [])).held beginning_fresh.spi
  not_its_spi strange zero a there out = let same : opened ≡ a = cc in ap (has_own_spi beginning_fresh.spi) (sym same)
  not_its_spi strange (suc place) a there out = absurd (cc)

  is_given : OneMessage → AreGivenBeside (λ _. run_meaning) (IsRightlyGiven (λ _. run_meaning)) (true ∷ true ∷ []) itself none_yet (answers ∷ drops_packet ∷ drops_beside ∷ begins_beside ∷ [])
      (drops_alone ∷ begins_alone ∷ [])
  is_given one = (
    inr (record { message = asked_message; spelled = request_read; initial = refl; sound = refl }),
    (
      inl not_accepted,
      (
        record {
          given = refl;
          left = omega arith;
          apart = its_own _ one;
          is = (octets_if stray refl, nothing_told (fresh_of 3));
          memory = refl;
          memory_too = refl;
        },
        (
          record {
            given = refl;
            left = omega arith;
            apart = record { room = record { holding = omega arith; serial = omega arith }; spi = not_its_spi _ };
            is = tt;
            memory = refl;
            memory_too = refl;
          },
          tt,
        ),
      ),
    ),
  )

  pub left_out : SoundnessStays → NoSpiIsLost → OneMessage → PairLaws itself → LeavesARequestOut caller
  left_out stays held one pairs =
      let sound = told_other_is_sound stays held caller caller in
      record {
        request = request_octets;
        response = answer_octets;
        stray = stray;
        own = request_octets;
        passages = answers ∷ drops_packet ∷ drops_beside ∷ begins_beside ∷ [];
        new = after_own 3 (opened ∷ own 2 ∷ []);
        trail = (refl, answers_is, (refl, packet_is sound, (refl, stray_beside sound, (refl, beside_is sound, refl))));
        takes = refl;
        says = refl;
        others = drops_alone ∷ begins_alone ∷ [];
        after = after_own 2 (own 1 ∷ []);
        trail_too = (refl, stray_alone, (refl, alone_is, refl));
        takes_less = refl;
        says_alike = refl;
        begins = beside.begun pairs (new_end B caller) (new_end B caller) refl;
        standing = carrying.begun (config_at B) all_protected (spi_at B) caller;
        given = is_given one;
      }
