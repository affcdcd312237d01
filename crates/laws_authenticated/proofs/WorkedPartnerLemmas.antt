-- The worked run meets the premises of a partner, and has one.
use Rattle.std.proofs.Common.{◌≡◌, ◌∷◌, inl, inr, ℕ, zero, suc, Bool, true, false, cond, List, [], Some, None, arith, refl, subst, sym, ◌∙◌}
use Rattle.std.proofs.lemmas.Option.{same_Some}
use Rattle.std.specs.Prelude.{⊤, replicate, slice_get}
use Rattle.base.specs.Octets.{Octets}
use Rattle.suite.specs.declared.key_record.KeyRecord.{KeyRecord}
use Rattle.exchange.specs.declared.headers.Role.TheVariants.{Initiator, Responder}
use Rattle.association.specs.Phases.{keys_in}
use Rattle.association.specs.declared.phase.Association.{Association}
use Rattle.association.specs.declared.phase.AuthSent.{AuthSent}
use Rattle.association.specs.declared.phase.HalfOpen.{HalfOpen}
use Rattle.auth.specs.Proofs.{octets_to_prove, proving_of}
use Rattle.auth.specs.declared.identity.Identity.{Identity}
use Rattle.ike.specs.Machines.{association_of, has_serial}
use Rattle.ike.specs.Steps as ike
use Rattle.gateway.specs.Exchanges.{AnswersRequest, HaveExchanged, HoldsWith, ReadsResponse, SendsRequest}
use Rattle.gateway.specs.States.{association_in, State}
use Rattle.gateway.specs.WorldHistories.{Happening}
use Rattle.laws_two_ends.specs.WorkedRequests.{worked_reply, worked_request}
use Rattle.gateway.specs.Worlds.{gateway_at, other_end, HoldsNothing, WorldState}
use Rattle.gateway.specs.declared.world.stored.End.{End}
use Rattle.gateway.specs.declared.world.stored.End.TheVariants.{A, B}
use Rattle.gateway.proofs.PartyLemmas.{some_is}
use Rattle.laws_two_ends.specs.WorkedRecords.{fresh_of, worked_record}
use Rattle.laws_two_ends.specs.WorkedRuns.{end_config, new_end, new_ends, run_meaning, spi_at, Exchanged}
use Rattle.laws_two_ends.proofs.AuthLemmas.{asked as asked_message, auth_octets, plain_octets, request_payloads, worked_child}
use Rattle.laws_two_ends.proofs.CallerLemmas.{answering_is, beginning_is}
use Rattle.laws_two_ends.proofs.InitLemmas.{answer_octets, request_octets}
use Rattle.laws_two_ends.proofs.NewEndLemmas.{can_be, new_end_holds_nothing, none_found}
use Rattle.laws_two_ends.proofs.ResponseLemmas.{answer_spelled, answered as answered_message, asked_spelled, request_read, response_octets, response_payloads, response_read}
use Rattle.laws_two_ends.proofs.SoundnessLemmas.{NoSpiIsLost, SoundnessStays}
use Rattle.laws_two_ends.proofs.Stages.{accepts, all_steps, answering, answers, asking, begins, carried_octets, concludes, counted, end_with, is_there, last_world, opened, probed, probing, reserved_table, telling, tells}
use Rattle.laws_two_ends.proofs.StateLemmas.{found_is}
use Rattle.laws_two_ends.proofs.WorkedRecordLemmas.{init_sent, waiting}
use Rattle.laws_two_ends.proofs.WorkedRunLemmas.{run_is}
use Rattle.gateway.specs.Agreeing.{HasAsker, HasPartner, HasProved, IsEstablishedAsInitiator, IsEstablishedAsResponder, IsToBeProved, NoProofIsForged, NoTwoRecordsProveAlike, ProvesAsInitiator, ProvesAsResponder}
use Rattle.gateway.specs.DrawnNonces.{DrawsNonce, EachAnswerDrawsItsNonce, EachNonceIsDrawnOnce}
use Rattle.laws_authenticated.specs.WorkedPartners.{AcceptsProof, IsWorkedPartner}

-- ---- what its peer has to prove

-- what is to be proved by the one that is found is that of the one that is there
due_of : (serial : ℕ) (a was : Association) (peer : Identity) (octets : Octets) → association_of serial (a ∷ []) ≡ Some was
    → IsToBeProved was.phase peer octets → IsToBeProved a.phase peer octets
due_of serial a was peer octets stood due =
    subst (λ (x : Association). IsToBeProved x.phase peer octets) (sym (found_is (has_serial serial a) a was stood)) due

abbrev to_be_proved_by_a : Octets
to_be_proved_by_a = octets_to_prove (proving_of Initiator worked_record request_octets) (end_config 1).identity

abbrev to_be_proved_by_b : Octets
to_be_proved_by_b = octets_to_prove (proving_of Responder worked_record answer_octets) (end_config 2).identity

-- B's, half-open, and A's, which waits for the response
abbrev at_half : HalfOpen
at_half = record { keys = worked_record; request = request_octets; reply = answer_octets; made = 0 }

abbrev waits : AuthSent
waits = record { keys = worked_record; first = answer_octets; child = worked_child }

-- ---- whose keys there are

-- an end that holds IKE SAs holds them under these keys, or none
abbrev HoldsOne : {C : Type 0} → State C → Type 0
HoldsOne s = (serial : ℕ) (was : Association) (keys : KeyRecord) → association_in s serial ≡ Some was → keys_in was.phase ≡ Some keys → keys ≡ worked_record

abbrev HoldOne : {C : Type 0} → WorldState C → Type 0
HoldOne w = HoldsOne w.a × HoldsOne w.b

-- of the one that is held alone, the keys are those that are found
alone_with : (serial : ℕ) (a was : Association) (keys : KeyRecord) → association_of serial (a ∷ []) ≡ Some was → keys_in was.phase ≡ Some keys → keys_in a.phase ≡ Some keys
alone_with serial a was keys stood keyed = subst (λ (x : Association). keys_in x.phase ≡ Some keys) (sym (found_is (has_serial serial a) a was stood)) keyed

alone_keyed : (a : Association) → keys_in a.phase ≡ Some worked_record
    → (serial : ℕ) (was : Association) (keys : KeyRecord) → association_of serial (a ∷ []) ≡ Some was → keys_in was.phase ≡ Some keys → keys ≡ worked_record
alone_keyed a is serial was keys stood keyed = same_Some keys worked_record (sym (alone_with serial a was keys stood keyed) ∙ is)

alone_unkeyed : (a : Association) → keys_in a.phase ≡ None
    → (serial : ℕ) (was : Association) (keys : KeyRecord) → association_of serial (a ∷ []) ≡ Some was → keys_in was.phase ≡ Some keys → keys ≡ worked_record
alone_unkeyed a none serial was keys stood keyed = absurd (none_keyed keys (sym none ∙ alone_with serial a was keys stood keyed)) where
  none_keyed : (k : KeyRecord) → None ≡ Some k → ⊥
  none_keyed k is = cc

held_alike : {C : Type 0} (w : WorldState C) → HoldOne w → (end : End) (serial : ℕ) (keys : KeyRecord) → HoldsWith w end serial keys → keys ≡ worked_record
held_alike {C} w one A serial keys holds = one.0 serial holds.association keys holds.there holds.keyed
held_alike {C} w one B serial keys holds = one.1 serial holds.association keys holds.there holds.keyed

-- who is held alone was so before under its serial
still_there : (passes : Bool) (old new is : Association) → cond passes (Some old) None ≡ None → cond passes (Some new) None ≡ Some is → ⊥
still_there true old new is none there = cc
still_there false old new is none there = cc

-- ---- what holds at each place of a list

abbrev AllPlaced : {X : Type 0} → (ℕ → X → Type 0) → List X → Type 0
AllPlaced {X} P [] = ⊤
AllPlaced {X} P (x ∷ xs) = P 0 x × AllPlaced (λ place. P (suc place)) xs

placed_at : {X : Type 0} (P : ℕ → X → Type 0) (xs : List X) → AllPlaced P xs → (place : ℕ) (x : X) → slice_get xs place ≡ Some x → P place x
placed_at {X} P [] all place x there = absurd cc
placed_at {X} P (y ∷ ys) all zero x there = subst (P 0) (some_is y x there) all.0
placed_at {X} P (y ∷ ys) all (suc place) x there = placed_at (λ n. P (suc n)) ys all.1 place x there

abbrev exchanged : Exchanged
exchanged = record {
  init_request = request_octets;
  init_response = answer_octets;
  auth_request = auth_octets;
  auth_response = response_octets;
  packet = carried_octets;
  probe = worked_request;
  probe_response = worked_reply;
}

module _ {C : Type 0} (a b : C) where
  abbrev steps : List (Happening C)
  steps = all_steps a b response_octets

  holds_nothing : (end : End) → HoldsNothing (gateway_at end (new_ends a b))
  holds_nothing A = new_end_holds_nothing A a
  holds_nothing B = new_end_holds_nothing B b

  -- ---- no nonce is drawn twice

  -- A begins one IKE SA with the first step, and none is begun after it
  abbrev IsFirstDraw : ℕ → Happening C → Type 0
  IsFirstDraw place h = (end : End) (serial : ℕ) (nonce : Octets) → DrawsNonce h end serial nonce → place ≡ 0

  first_draw : AllPlaced IsFirstDraw steps
  first_draw = (
    λ end serial nonce draws. refl,
    (
      λ end serial nonce draws. absurd (let no = draws.told in cc),
      (
        λ end serial nonce draws. absurd (let no = draws.told in cc),
        (
          λ end serial nonce draws. absurd (let no = draws.told in cc),
          (
            λ end serial nonce draws. absurd (let no = draws.told in cc),
            (
              λ end serial nonce draws. absurd (let no = draws.told in cc),
              (
                λ end serial nonce draws. absurd (let no = draws.told in cc),
                (
                  λ end serial nonce draws. absurd (let no = draws.told in cc),
                  (λ end serial nonce draws. absurd (let no = draws.told in cc), (λ end serial nonce draws. absurd (let no = draws.told in cc), tt)),
                ),
              ),
            ),
          ),
        ),
      ),
    ),
  )

  drawn_once : EachNonceIsDrawnOnce steps
  drawn_once = record {
    each = λ place other h g end serial another nonce there there_too one two.
        placed_at IsFirstDraw steps first_draw place h there end serial nonce one
        ∙ sym (placed_at IsFirstDraw steps first_draw other g there_too end another nonce two);
  }

  -- B answers one request of IKE_SA_INIT with the second step, and none comes after it
  abbrev IsFirstAnswer : ℕ → Happening C → Type 0
  IsFirstAnswer place h = (end : End) (serial : ℕ) (request response : Octets) → AnswersRequest h end serial request response → place ≡ 1

  -- B held it before these steps
  accepts_none : IsFirstAnswer 3 (accepts a b response_octets)
  accepts_none end serial request response x =
      let h : Happening C = accepts a b response_octets in
      absurd (still_there (has_serial serial opened) opened (answering response_octets) x.association
      (subst (λ (e : End). association_in (gateway_at e h.before) serial ≡ None) (sym x.at) x.none)
      (subst (λ (e : End). association_in (gateway_at e h.after) serial ≡ Some x.association) (sym x.at) x.there))

  probed_none : IsFirstAnswer 8 (is_there a b response_octets)
  probed_none end serial request response x =
      let h : Happening C = is_there a b response_octets in
      absurd (still_there (has_serial serial (answering response_octets)) (answering response_octets) probed x.association
      (subst (λ (e : End). association_in (gateway_at e h.before) serial ≡ None) (sym x.at) x.none)
      (subst (λ (e : End). association_in (gateway_at e h.after) serial ≡ Some x.association) (sym x.at) x.there))

  first_answer : AllPlaced IsFirstAnswer steps
  first_answer = (
    λ end serial request response x. absurd (let no = x.came in cc),
    (
      λ end serial request response x. refl,
      (
        λ end serial request response x. absurd (let no = x.said in cc),
        (
          accepts_none,
          (
            λ end serial request response x. absurd (let no = x.said in cc),
            (
              λ end serial request response x. absurd (let no = x.came in cc),
              (
                λ end serial request response x. absurd (let no = x.came in cc),
                (λ end serial request response x. absurd (let no = x.came in cc), (probed_none, (λ end serial request response x. absurd (let no = x.said in cc), tt))),
              ),
            ),
          ),
        ),
      ),
    ),
  )

  answered_once : EachAnswerDrawsItsNonce steps
  answered_once = record {
    each = λ place other h g end serial another request response asked answered there there_too one two same.
        placed_at IsFirstAnswer steps first_answer place h there end serial request response one
        ∙ sym (placed_at IsFirstAnswer steps first_answer other g there_too end another asked answered two);
  }

  -- ---- no two records of keys prove alike, since there is one

  nothing_held : HoldsOne (new_end A a) × HoldsOne (new_end B b)
  nothing_held = (λ serial was keys stood keyed. absurd (none_found serial was stood), λ serial was keys stood keyed. absurd (none_found serial was stood))

  asks_alone : HoldsOne (end_with A a waiting (reserved_table (spi_at A)))
  asks_alone = alone_unkeyed waiting refl

  abbrev AreAlike : ℕ → Happening C → Type 0
  AreAlike place h = HoldOne h.before × HoldOne h.after

  all_alike : AllPlaced AreAlike steps
  all_alike =
      let opened_one = alone_keyed opened refl in
      let telling_one = alone_keyed telling refl in
      let asking_one = alone_keyed asking refl in
      let answering_one = alone_keyed (answering response_octets) refl in
      let probing_one = alone_keyed probing refl in
      let probed_one = alone_keyed probed refl in
      let counted_one = alone_keyed counted refl in (
        (nothing_held, (asks_alone, nothing_held.1)),
        (
          ((asks_alone, nothing_held.1), (asks_alone, opened_one)),
          (
            ((asks_alone, opened_one), (telling_one, opened_one)),
            (
              ((telling_one, opened_one), (telling_one, answering_one)),
              (
                ((telling_one, answering_one), (asking_one, answering_one)),
                (
                  ((asking_one, answering_one), (asking_one, answering_one)),
                  (
                    ((asking_one, answering_one), (asking_one, answering_one)),
                    (
                      ((asking_one, answering_one), (probing_one, answering_one)),
                      (((probing_one, answering_one), (probing_one, probed_one)), (((probing_one, probed_one), (counted_one, probed_one)), tt)),
                    ),
                  ),
                ),
              ),
            ),
          ),
        ),
      )

  apart : NoTwoRecordsProveAlike steps
  apart = record {
    each = λ place other h g end another serial number one two there there_too holds held same.
        held_alike h.after (placed_at AreAlike steps all_alike place h there).1 end serial one holds
        ∙ sym (held_alike g.before (placed_at AreAlike steps all_alike other g there_too).0 another number two held);
  }

  -- ---- what each end proved

  abbrev sends : SendsRequest (begins a b) A 1 request_octets
  sends = record { at = refl; said = refl; association = waiting; there = refl; sent = init_sent; waits = refl; secret = beginning_is.secret }

  abbrev replies : AnswersRequest (answers a b) B 1 request_octets answer_octets
  replies = record { at = refl; from = replicate 4 1; fresh = fresh_of 2; came = refl; said = refl; none = refl; association = opened; there = refl; secret = answering_is.secret }

  abbrev reads : ReadsResponse (tells a b) A 1 answer_octets
  reads = record { at = refl; from = replicate 4 2; fresh = fresh_of 3; came = refl; was = waiting; stood = refl; sent = init_sent; waited = refl; is = telling; there = refl; keys = worked_record; keyed = refl }

  a_proves : (octets : Octets) → octets ≡ to_be_proved_by_a → ProvesAsInitiator steps 2 (tells a b) A octets
  a_proves octets is = record {
    serial = 1;
    response = answer_octets;
    reads = reads;
    told = waits;
    tells = refl;
    request = request_octets;
    asked = 0;
    asks = begins a b;
    asks_there = refl;
    earlier = omega arith;
    sends = sends;
    proved = is;
  }

  b_proves : (octets : Octets) → octets ≡ to_be_proved_by_b → ProvesAsResponder steps 3 (accepts a b response_octets) B octets
  b_proves octets is = record {
    at = refl;
    serial = 1;
    was = opened;
    stood = refl;
    opened = at_half;
    waited = refl;
    is = answering response_octets;
    there = refl;
    established = refl;
    request = request_octets;
    response = answer_octets;
    answered = 1;
    replies = answers a b;
    replies_there = refl;
    earlier = omega arith;
    answers = replies;
    proved = is;
  }

  -- ---- no proof is forged

  -- what the peer of an IKE SA has to prove before this step, the other end proved before this place
  abbrev IsProvedAt : ℕ → Happening C → Type 0
  IsProvedAt place h = (serial : ℕ) (was : Association) (octets : Octets)
      → association_in (gateway_at h.event.end h.before) serial ≡ Some was
      → IsToBeProved was.phase (gateway_at h.event.end h.before).machine.config.peer.identity octets
      → HasProved steps place (other_end h.event.end) octets

  proved_to_b : IsProvedAt 3 (accepts a b response_octets)
  proved_to_b serial was octets stood due =
      let is : octets ≡ to_be_proved_by_a = due_of serial opened was (end_config 1).identity octets stood due in
      record { by = 2; earlier = omega arith; prover = tells a b; there = refl; proves = inl (a_proves octets is) }

  proved_to_a : IsProvedAt 4 (concludes a b response_octets)
  proved_to_a serial was octets stood due =
      let is : octets ≡ to_be_proved_by_b = due_of serial telling was (end_config 2).identity octets stood due in
      record { by = 3; earlier = omega arith; prover = accepts a b response_octets; there = refl; proves = inr (b_proves octets is) }

  -- nothing is to be proved to who holds no IKE SA, waits for the response of IKE_SA_INIT, or is established
  all_proved : AllPlaced IsProvedAt steps
  all_proved = (
    λ serial was octets stood due. absurd (none_found serial was stood),
    (
      λ serial was octets stood due. absurd (none_found serial was stood),
      (
        λ serial was octets stood due. absurd (due_of serial waiting was (end_config 2).identity octets stood due),
        (
          proved_to_b,
          (
            proved_to_a,
            (
              λ serial was octets stood due. absurd (due_of serial asking was (end_config 2).identity octets stood due),
              (
                λ serial was octets stood due. absurd (due_of serial (answering response_octets) was (end_config 1).identity octets stood due),
                (
                  λ serial was octets stood due. absurd (due_of serial asking was (end_config 2).identity octets stood due),
                  (
                    λ serial was octets stood due. absurd (due_of serial (answering response_octets) was (end_config 1).identity octets stood due),
                    (λ serial was octets stood due. absurd (due_of serial probing was (end_config 2).identity octets stood due), tt),
                  ),
                ),
              ),
            ),
          ),
        ),
      ),
    ),
  )

  unforged : NoProofIsForged (λ _. run_meaning) steps
  unforged = record {
    each = λ place serial h was is keys view octets there stood came proved due now established.
        placed_at IsProvedAt steps all_proved place h there serial was octets stood due;
  }

  -- ---- what each end accepts

  accepts_initiator : AcceptsProof (accepts a b response_octets) B 1 worked_record to_be_proved_by_a
  accepts_initiator = record {
    at = refl;
    was = opened;
    stood = refl;
    view = ike.Message (replicate 4 1) auth_octets (fresh_of 4);
    came = refl;
    proved = record {
      message = asked_message;
      spelled = asked_spelled;
      plain = record { first = 35; octets = plain_octets 1 };
      opened = refl;
      proved = inl (record {
        opened = at_half;
        was = refl;
        payloads = request_payloads;
        read = request_read;
        proved = record { method = 2; proof = 0 ∷ []; identity = refl; alone = refl; checked = refl };
      });
    };
    due = refl;
    is = answering response_octets;
    there = refl;
    established = refl;
  }

  accepts_responder : AcceptsProof (concludes a b response_octets) A 1 worked_record to_be_proved_by_b
  accepts_responder = record {
    at = refl;
    was = telling;
    stood = refl;
    view = ike.Message (replicate 4 2) response_octets (fresh_of 5);
    came = refl;
    proved = record {
      message = answered_message;
      spelled = answer_spelled;
      plain = record { first = 36; octets = plain_octets 2 };
      opened = refl;
      proved = inr (record {
        sent = waits;
        was = refl;
        payloads = response_payloads;
        read = response_read;
        proved = record { method = 2; proof = 0 ∷ []; identity = refl; alone = refl; checked = refl };
      });
    };
    due = refl;
    is = asking;
    there = refl;
    established = refl;
  }

  -- ---- the partner

  is_established : IsEstablishedAsInitiator (concludes a b response_octets) A 1 worked_record
  is_established = record { at = refl; was = telling; stood = refl; told = waits; waited = refl; is = asking; there = refl; established = refl }

  abbrev have_exchanged : HaveExchanged steps A 1 1
  have_exchanged = record {
    request = request_octets;
    response = answer_octets;
    asked = 0;
    asks = begins a b;
    asks_there = refl;
    sends = sends;
    answered = 1;
    replies = answers a b;
    replies_there = refl;
    answers = replies;
    taken = 2;
    takes = tells a b;
    takes_there = refl;
    reads = reads;
    later = omega arith;
  }

  has_partner : HasPartner steps 4 A 1 worked_record
  has_partner = record {
    partner = 1;
    exchanged = have_exchanged;
    by = 3;
    earlier = omega arith;
    after_it = omega arith;
    read = refl;
    accepts = accepts a b response_octets;
    accepts_there = refl;
    at = refl;
    was = opened;
    stood = refl;
    opened = at_half;
    half_open = refl;
    association = answering response_octets;
    there = refl;
    established = refl;
  }

  is_responder : IsEstablishedAsResponder (accepts a b response_octets) B 1 worked_record
  is_responder = record { at = refl; was = opened; stood = refl; opened = at_half; waited = refl; is = answering response_octets; there = refl; established = refl }

  has_asker : HasAsker steps 3 B at_half worked_record
  has_asker = record {
    partner = 1;
    asked = 0;
    asks = begins a b;
    asks_there = refl;
    sends = sends;
    by = 2;
    earlier = omega arith;
    first = omega arith;
    reader = tells a b;
    reader_there = refl;
    response = answer_octets;
    reads = reads;
    told = waits;
    tells = refl;
    same_keys = refl;
  }

  pub worked_partner_is : SoundnessStays → NoSpiIsLost → IsWorkedPartner a b
  unfolding is_responder
  worked_partner_is stays held = record {
    exchanged = exchanged;
    happenings = steps;
    last = last_world a b response_octets;
    takes = refl;
    says = refl;
    can_be = can_be;
    trail = run_is a b stays held;
    holds_nothing = holds_nothing;
    unforged = unforged;
    drawn_once = drawn_once;
    answered_once = answered_once;
    apart = apart;
    accepting = accepts a b response_octets;
    accepts = refl;
    asked = to_be_proved_by_a;
    accepts_initiator = accepts_initiator;
    concluding = concludes a b response_octets;
    concludes = refl;
    answered = to_be_proved_by_b;
    accepts_responder = accepts_responder;
    established = is_established;
    partner = has_partner;
    responds = is_responder;
    asker = has_asker;
  }
