-- Of the additional Child SA there is one sender each way, and what is judged of it had been sent.
use Rattle.std.proofs.Common.{◌≡◌, ◌≤◌, ◌⊎◌, ◌∷◌, inl, inr, ℕ, Bool, true, false, List, [], Some, Contains, ap, arith, refl, subst, sym, ◌∙◌}
use Rattle.std.proofs.lemmas.Bool.{true≢false}
use Rattle.std.proofs.lemmas.List.Elements.{Contains-push}
use Rattle.std.specs.Prelude.{slice_get}
use Rattle.base.specs.Octets.{Octets}
use Rattle.replay.specs.Window.{unused_window}
use Rattle.exchange.specs.declared.headers.Role.TheVariants.{Responder}
use Rattle.sadb.specs.Database.{pair_at}
use Rattle.sadb.specs.declared.pair.Pair.{Pair}
use Rattle.gateway.specs.Inputs.{Input}
use Rattle.gateway.specs.Inputs as input
use Rattle.gateway.specs.WorldChildren.{AreEndsOfOneChild}
use Rattle.gateway.specs.WorldHistories.{Happening}
use Rattle.gateway.specs.WorldPackets.{HasOneSender, HasSentPacket, IsJudgedAt, IsUnforgedTo}
use Rattle.gateway.specs.Worlds.{Stored}
use Rattle.gateway.specs.declared.world.stored.Child.{Child}
use Rattle.gateway.specs.declared.world.stored.End.TheVariants.{A, B}
use Rattle.gateway.proofs.PartyLemmas.{at_head_or_further, single}
use Rattle.laws_two_ends.specs.WorkedChildren.{lone_pair}
use Rattle.laws_two_ends.proofs.CarriedLemmas.{judged}
use Rattle.laws_two_ends.proofs.TableLemmas.{lone_in}
use Rattle.laws_worked.proofs.FurtherLemmas.{answering_key, apart, asking_key, first_of_b, of_one}
use Rattle.laws_worked.proofs.FurtherStages.{answering_two, asks_further, counts_child, delivered_world, further_answered, further_asked, further_carried, further_pair, further_steps, hands_up_further, makes_child, seals_further, sent_answering, sent_asking, sent_further}
use Rattle.laws_two_ends.proofs.LastLemmas.{all_at}
use Rattle.laws_worked.proofs.RecoveryStages.{asks_again, goes_again, matches, replies, second_alive, second_sent}
use Rattle.laws_worked.proofs.RetransmissionLemmas.{answers_again}
use Rattle.laws_two_ends.proofs.ResponseLemmas.{response_octets}
use Rattle.laws_worked.proofs.ReplayRunLemmas.{comes_again}
use Rattle.laws_two_ends.proofs.Stages.{accepts, answered_child, answers, asked_child, begins, concludes, counts, hands_up, is_there, one_taken, pair_of, probes, seals, sent_alive, sent_answer, sent_auth, sent_packet, sent_probe, sent_request, sent_response, tells}
use Rattle.laws_worked.proofs.TwoPairLemmas.{addressed, packet_was_sent}

-- ---- one sender

abbrev all_children : List Child
all_children = answered_child ∷ asked_child ∷ further_answered ∷ further_asked ∷ []

-- it is one of the four
record IsOneOf (child : Child) : Type 0 where
  one : (answered_child ≡ child) ⊎ ((asked_child ≡ child) ⊎ ((further_answered ≡ child) ⊎ (further_asked ≡ child)))

one_of : (child : Child) → Contains all_children child → IsOneOf child
one_of child there = record {
  one = elim (at_head_or_further answered_child (asked_child ∷ further_answered ∷ further_asked ∷ []) child there) [
    | inl here ↦ inl here
    | inr beyond ↦ elim (at_head_or_further asked_child (further_answered ∷ further_asked ∷ []) child beyond) [
      | inl here ↦ inr (inl here)
      | inr further ↦ elim (at_head_or_further further_answered (further_asked ∷ []) child further) [
        | inl here ↦ inr (inr (inl here))
        | inr last ↦ inr (inr (inr (single further_asked child last)))
      ]
    ]
  ];
}

ends_apart : A ≡ B → ⊥
ends_apart is = cc

pub alone : (stored : Stored) → stored.children ≡ all_children → HasOneSender further_answered stored
alone stored are other there end_is spi_is key_is =
    elim (one_of other (subst (λ (cs : List Child). Contains cs other) are there)).one [
      | inl same ↦ absurd (ends_apart (sym (ap (λ (c : Child). c.end) same ∙ end_is)))
      | inr (inl same) ↦ (let spi = ap (λ (c : Child). c.outbound.spi) same ∙ spi_is in absurd (omega (arith, spi)))
      | inr (inr (inl same)) ↦ absurd (ends_apart (sym (ap (λ (c : Child). c.end) same ∙ end_is)))
      | inr (inr (inr same)) ↦ subst (λ (c : Child). AreEndsOfOneChild further_answered c) same (inr of_one)
    ]

pub alone_back : (stored : Stored) → stored.children ≡ all_children → HasOneSender further_asked stored
alone_back stored are other there end_is spi_is key_is =
    elim (one_of other (subst (λ (cs : List Child). Contains cs other) are there)).one [
      | inl same ↦ (let spi = ap (λ (c : Child). c.outbound.spi) same ∙ spi_is in absurd (omega (arith, spi)))
      | inr (inl same) ↦ absurd (ends_apart (ap (λ (c : Child). c.end) same ∙ end_is))
      | inr (inr (inl same)) ↦ subst (λ (c : Child). AreEndsOfOneChild further_asked c) same (inl of_one)
      | inr (inr (inr same)) ↦ absurd (ends_apart (ap (λ (c : Child). c.end) same ∙ end_is))
    ]

-- ---- what is judged

abbrev is_packet : Input → Bool
is_packet (input.Esp octets) = true
is_packet _ = false

module _ {C : Type 0} (a b : C) where
  abbrev last : Stored
  last = (delivered_world a b).stored

  -- only three steps take an ESP packet
  each_step : (P : Happening C → Type 0) → ((h : Happening C) → is_packet h.event.input ≡ false → P h) → P (hands_up a b response_octets)
      → P (comes_again a b) → P (hands_up_further a b) → (place : ℕ) (h : Happening C) → slice_get (further_steps a b) place ≡ Some h → P h
  each_step P none one two three =
      all_at P (further_steps a b) (
        none (begins a b) refl,
        (
          none (answers a b) refl,
          (
            none (tells a b) refl,
            (
              none (accepts a b response_octets) refl,
              (
                none (concludes a b response_octets) refl,
                (
                  none (seals a b response_octets) refl,
                  (
                    one,
                    (
                      none (probes a b response_octets) refl,
                      (
                        none (is_there a b response_octets) refl,
                        (
                          none (counts a b response_octets) refl,
                          (
                            two,
                            (
                              none (answers_again a b) refl,
                              (
                                none (asks_again a b) refl,
                                (
                                  none (goes_again a b) refl,
                                  (
                                    none (replies a b) refl,
                                    (
                                      none (matches a b) refl,
                                      (
                                        none (asks_further a b) refl,
                                        (none (makes_child a b) refl, (none (counts_child a b) refl, (none (seals_further a b) refl, (three, tt)))),
                                      ),
                                    ),
                                  ),
                                ),
                              ),
                            ),
                          ),
                        ),
                      ),
                    ),
                  ),
                ),
              ),
            ),
          ),
        ),
      )

  no_packet : (h : Happening C) → is_packet h.event.input ≡ false → (child : Child) (number : ℕ) (octets : Octets) → IsJudgedAt child number octets h → ⊥
  no_packet h none child number octets judges = true≢false (sym (ap is_packet judges.given) ∙ none)

  -- where the first pair stands alone, nothing is judged of the second
  not_its_own : (lone pair : Pair) → pair_at (lone_pair lone) pair.serial ≡ Some pair → pair.serial ≡ 2 → ⊥
  not_its_own lone pair there own =
      let number : pair.serial ≡ 1 = ((lone_in lone).only pair.serial pair there).number in
      omega (arith, own, number)

  pub packet_comes : IsJudgedAt further_answered 1 further_carried (hands_up_further a b)
  packet_comes = record {
    end_is = refl;
    given = refl;
    pair = further_pair Responder 0 (unused_window 2);
    addressed = addressed 513 257 (omega arith) asking_key answering_key answering_two first_of_b apart;
    own = refl;
    judged = judged 513 257 (omega arith) asking_key answering_key;
  }

  packet_there : Contains last.sent sent_further
  packet_there =
      Contains-push (sent_request ∷ sent_answer ∷ sent_auth ∷ sent_response response_octets ∷ sent_packet ∷ sent_probe ∷ sent_alive ∷ sent_alive
      ∷ second_sent ∷ second_sent ∷ second_alive ∷ sent_asking ∷ sent_answering ∷ []) sent_further

  abbrev Sent : ℕ → Octets → Type 0
  Sent number octets = HasSentPacket A further_answered.inbound.spi further_answered.inbound.key number octets last

  at_first : (number : ℕ) (octets : Octets) → IsJudgedAt further_answered number octets (hands_up a b response_octets) → Sent number octets
  at_first number octets judges = absurd (not_its_own (pair_of Responder 0 (unused_window 2)) judges.pair judges.addressed.inbound.there judges.own)

  again : (number : ℕ) (octets : Octets) → IsJudgedAt further_answered number octets (comes_again a b) → Sent number octets
  again number octets judges = absurd (not_its_own (pair_of Responder 0 one_taken) judges.pair judges.addressed.inbound.there judges.own)

  at_last : (number : ℕ) (octets : Octets) → IsJudgedAt further_answered number octets (hands_up_further a b) → Sent number octets
  at_last number octets judges =
      packet_was_sent 513 257 (omega arith) asking_key answering_key answering_two first_of_b apart last packet_there judges.pair number octets judges.given
      judges.addressed judges.own judges.judged

  pub unforged_to : IsUnforgedTo further_answered (further_steps a b) last
  unforged_to place number octets =
      each_step (λ (h : Happening C). IsJudgedAt further_answered number octets h → Sent number octets)
      (λ h none judges. absurd (no_packet h none further_answered number octets judges)) (at_first number octets) (again number octets) (at_last number octets) place

  -- no packet came to A
  pub unforged_back : IsUnforgedTo further_asked (further_steps a b) last
  unforged_back place number octets =
      each_step (λ (h : Happening C). IsJudgedAt further_asked number octets h → HasSentPacket B further_asked.inbound.spi further_asked.inbound.key number octets last)
      (λ h none judges. absurd (no_packet h none further_asked number octets judges)) (λ judges. absurd (ends_apart (sym judges.end_is)))
      (λ judges. absurd (ends_apart (sym judges.end_is))) (λ judges. absurd (ends_apart (sym judges.end_is))) place

  -- ---- what was sent before it came

  pub sent_before : (early number : ℕ) (octets : Octets) (g : Happening C) → early ≤ 20 → slice_get (further_steps a b) early ≡ Some g
      → IsJudgedAt further_answered number octets g → HasSentPacket A further_answered.inbound.spi further_answered.inbound.key number octets g.before.stored
  sent_before early number octets g least =
      each_step (λ (h : Happening C). IsJudgedAt further_answered number octets h
      → HasSentPacket A further_answered.inbound.spi further_answered.inbound.key number octets h.before.stored)
      (λ h none judges. absurd (no_packet h none further_answered number octets judges))
      (λ judges. absurd (not_its_own (pair_of Responder 0 (unused_window 2)) judges.pair judges.addressed.inbound.there judges.own))
      (λ judges. absurd (not_its_own (pair_of Responder 0 one_taken) judges.pair judges.addressed.inbound.there judges.own)) (at_last number octets) early g
