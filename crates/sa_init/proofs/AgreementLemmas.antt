-- Both ends have one record, and an answer is read as one.
use Rattle.std.proofs.Common.{◌≡◌, ◌≢◌, ℕ, zero, suc, List, [], ◌∷◌, Option, Some, slice_get, refl, sym, ap, subst, ◌∙◌, arith}
use Rattle.base.specs.Octets.{Octets}
use Rattle.wire.specs.Messages.{Spells, SpellsPlainly}
use Rattle.wire.specs.declared.message.Message.{Message}
use Rattle.wire.specs.declared.proposal.Proposal.{Proposal}
use Rattle.suite.specs.Callers.{IsSecret}
use Rattle.suite.specs.Choice.{HasSpi, IsChosenProposal}
use Rattle.suite.specs.Keys.{ike_keys}
use Rattle.suite.specs.declared.choice.Chosen.{Chosen}
use Rattle.suite.specs.declared.choice.Wanted.{Wanted}
use Rattle.suite.specs.declared.fresh.Fresh.{Fresh}
use Rattle.suite.specs.declared.key_record.KeyRecord.{KeyRecord}
use Rattle.suite.specs.declared.sealer.Cipher.{Cipher}
use Rattle.suite.specs.Offers.{answer_of, offer_of, IsAcceptableAnswer}
use Rattle.sa_init.specs.Agreement.{IsAnswer}
use Rattle.sa_init.specs.Judging.{OfferView}
use Rattle.sa_init.specs.Messages.{answer_message, ike_wanted}
use Rattle.sa_init.specs.Parts.{HasParts, PartsView}
use Rattle.sa_init.specs.Reading.{GivesKeys, WaitingView}
use Rattle.sa_init.specs.declared.answers.Agreed.{Agreed}
use Rattle.sa_init.proofs.PartLemmas.{same_parts}

abbrev pub OneMessage : Type 0
OneMessage = (m n : Message) (b : List ℕ) → Spells m b → Spells n b → m ≡ n

abbrev pub Weakens : Type 0
Weakens = (m : Message) (b : List ℕ) → SpellsPlainly m b → Spells m b

abbrev pub IsSymmetric : (Octets → Octets) → (Octets → Octets → Option Octets) → Type 0
IsSymmetric public_value shared_secret = (a b : List ℕ) → IsSecret a → IsSecret b → shared_secret a (public_value b) ≡ shared_secret b (public_value a)

-- the parts of the answer
abbrev pub answer_parts : Cipher → ℕ → (Octets → Octets) → OfferView → Fresh → PartsView
answer_parts cipher group public_value offer fresh =
    record { proposals = answer_of (ike_wanted cipher group) offer.chosen [] ∷ []; group = group; public = public_value fresh.secret; nonce = fresh.nonce }

abbrev answer_sent : Cipher → ℕ → (Octets → Octets) → ℕ → OfferView → Fresh → Message
answer_sent cipher group public_value spi_i offer fresh = answer_message cipher group (public_value fresh.secret) offer.chosen fresh.nonce spi_i fresh.spi

answer_has : (cipher : Cipher) (group : ℕ) (public_value : Octets → Octets) (spi_i : ℕ) (offer : OfferView) (fresh : Fresh)
    → HasParts (answer_sent cipher group public_value spi_i offer fresh).payloads (answer_parts cipher group public_value offer fresh)
answer_has cipher group public_value spi_i offer fresh = record { sa = refl; ke = refl; ni = refl }

same_keys : (s t ni mi nr mr : Octets) (spi_i spi_r other : ℕ) → s ≡ t → ni ≡ mi → nr ≡ mr → spi_r ≡ other → ike_keys s ni nr spi_i spi_r ≡ ike_keys t mi mr spi_i other
same_keys s t ni mi nr mr spi_i spi_r other es ei er ep = (λ i. ike_keys (es i) (ei i) (er i) spi_i (ep i))

-- what spells the answer is the answer
is_answer : OneMessage → Weakens → (cipher : Cipher) (group : ℕ) (public_value : Octets → Octets) (shared_secret : Octets → Octets → Option Octets) (offer : OfferView) (spi_i : ℕ) (fresh : Fresh) (agreed : Agreed) (m : Message)
    → IsAnswer cipher group public_value shared_secret offer spi_i fresh agreed → Spells m agreed.octets → m ≡ answer_sent cipher group public_value spi_i offer fresh
is_answer one weakens cipher group public_value shared_secret offer spi_i fresh agreed m answer spelled =
    let sent = answer_sent cipher group public_value spi_i offer fresh in
    one m sent agreed.octets spelled (weakens sent agreed.octets answer.spelled)

pub one_record : OneMessage → Weakens → (public_value : Octets → Octets) (shared_secret : Octets → Octets → Option Octets) → IsSymmetric public_value shared_secret
    → (cipher : Cipher) (group : ℕ) (sent : WaitingView) (offer : OfferView) (fresh : Fresh) (agreed : Agreed) (m : Message) (keys : KeyRecord)
    → IsSecret sent.secret → IsSecret fresh.secret → offer.public ≡ public_value sent.secret → offer.nonce ≡ sent.nonce
    → IsAnswer cipher group public_value shared_secret offer sent.spi_i fresh agreed → Spells m agreed.octets
    → GivesKeys cipher group shared_secret sent m keys → keys ≡ agreed.record
one_record one weakens public_value shared_secret symmetric cipher group sent offer fresh agreed m keys secret_i secret_r public nonce answer spelled gives =
    let is : m ≡ answer_sent cipher group public_value sent.spi_i offer fresh = is_answer one weakens cipher group public_value shared_secret offer sent.spi_i fresh agreed m answer spelled in
    let parts = answer_parts cipher group public_value offer fresh in
    let complete : HasParts (answer_sent cipher group public_value sent.spi_i offer fresh).payloads gives.parts = subst (λ (n : Message). HasParts n.payloads gives.parts) is gives.acceptance.complete in
    let same : gives.parts ≡ parts = same_parts (answer_sent cipher group public_value sent.spi_i offer fresh).payloads gives.parts parts complete (answer_has cipher group public_value sent.spi_i offer fresh) in
    let theirs : shared_secret sent.secret gives.parts.public ≡ shared_secret fresh.secret offer.public =
    ap (λ (p : PartsView). shared_secret sent.secret p.public) same ∙ symmetric sent.secret fresh.secret secret_i secret_r ∙ ap (λ (x : Octets). shared_secret fresh.secret x) (sym public) in
    let shared : gives.shared ≡ answer.shared = cc (gives.agrees, answer.agrees, theirs) in
    gives.made
    ∙ same_keys gives.shared answer.shared sent.nonce offer.nonce gives.parts.nonce fresh.nonce sent.spi_i m.header.spi_r fresh.spi shared (sym nonce) (ap (λ (p : PartsView). p.nonce) same) (ap (λ (n : Message). n.header.spi_r) is)
    ∙ sym answer.keys

abbrev pub EndsAgree : Type 0
EndsAgree = (ours theirs : Wanted) (spi answer : List ℕ) (chosen : Chosen) → HasSpi ours answer → IsChosenProposal theirs (offer_of ours spi ∷ []) chosen → IsAcceptableAnswer ours (answer_of theirs chosen answer)

first_of_one : (p : Proposal) (place : ℕ) (q : Proposal) → slice_get (p ∷ []) place ≡ Some q → place ≡ 0
first_of_one p zero q here = refl
first_of_one p (suc place) q here = absurd (cc)

pub answer_is_read : OneMessage → Weakens → EndsAgree → (public_value : Octets → Octets) (shared_secret : Octets → Octets → Option Octets) → IsSymmetric public_value shared_secret
    → (cipher : Cipher) (group : ℕ) (sent : WaitingView) (offer : OfferView) (fresh : Fresh) (agreed : Agreed) (m : Message)
    → IsSecret sent.secret → IsSecret fresh.secret → offer.public ≡ public_value sent.secret → offer.nonce ≡ sent.nonce
    → IsChosenProposal (ike_wanted cipher group) (offer_of (ike_wanted cipher group) [] ∷ []) offer.chosen → fresh.spi ≢ 0
    → IsAnswer cipher group public_value shared_secret offer sent.spi_i fresh agreed → Spells m agreed.octets
    → GivesKeys cipher group shared_secret sent m agreed.record
answer_is_read one weakens agree public_value shared_secret symmetric cipher group sent offer fresh agreed m secret_i secret_r public nonce choice named answer spelled =
    let w = ike_wanted cipher group in
    let is : m ≡ answer_sent cipher group public_value sent.spi_i offer fresh = is_answer one weakens cipher group public_value shared_secret offer sent.spi_i fresh agreed m answer spelled in
    let due : IsAcceptableAnswer w (answer_of w offer.chosen []) = agree w w [] [] offer.chosen refl choice in
    let place : offer.chosen.place ≡ 0 = first_of_one (offer_of w []) offer.chosen.place choice.proposal choice.here in
    let theirs : shared_secret sent.secret (public_value fresh.secret) ≡ shared_secret fresh.secret offer.public =
    symmetric sent.secret fresh.secret secret_i secret_r ∙ ap (λ (x : Octets). shared_secret fresh.secret x) (sym public) in
    let gives : GivesKeys cipher group shared_secret sent (answer_sent cipher group public_value sent.spi_i offer fresh) agreed.record = record {
      parts = answer_parts cipher group public_value offer fresh;
      acceptance = record {
        complete = answer_has cipher group public_value sent.spi_i offer fresh;
        chosen = offer.chosen;
        accepted = record {
          proposal = answer_of w offer.chosen [];
          alone = refl;
          answer = due;
          choice = record {
            proposal = answer_of w offer.chosen [];
            here = ap (λ (k : ℕ). slice_get (answer_of w offer.chosen [] ∷ []) k) place;
            acceptable = due.acceptable;
            first = λ k other below. absurd (omega (arith, place));
            number = refl;
            numbers = choice.numbers;
          };
        };
        same_group = refl;
        named = named;
      };
      shared = answer.shared;
      agrees = theirs ∙ answer.agrees;
      made = answer.keys ∙ same_keys answer.shared answer.shared offer.nonce sent.nonce fresh.nonce fresh.nonce sent.spi_i fresh.spi fresh.spi refl nonce refl refl;
    } in
    subst (λ (n : Message). GivesKeys cipher group shared_secret sent n agreed.record) (sym is) gives
