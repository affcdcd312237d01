-- What a request of IKE_SA_INIT and its response tell of their senders.
use Rattle.std.proofs.Common.{◌≡◌, ◌∷◌, ◌∙◌, ℕ, [], Option, Some, None, ap, refl, subst, sym}
use Rattle.std.proofs.lemmas.Option.{same_Some}
use Rattle.base.specs.Octets.{Octets}
use Rattle.wire.specs.Messages.{Spells, SpellsPlainly}
use Rattle.wire.specs.declared.message.Header.{Header}
use Rattle.wire.specs.declared.message.Message.{Message}
use Rattle.suite.specs.Offers.{answer_of, offer_of}
use Rattle.suite.specs.declared.choice.Chosen.{Chosen}
use Rattle.suite.specs.declared.sealer.Cipher.{Cipher}
use Rattle.sa_init.specs.Messages.{answer_message, ike_wanted, request_message, request_payloads}
use Rattle.sa_init.specs.Parts.{HasParts, PartsView}
use Rattle.exchange.specs.Counting.{only_ke, only_nonce}
use Rattle.effects.specs.Taking.{Meaning}
use Rattle.ike.specs.Before.{IsFirstRequest}
use Rattle.ike.specs.LawsOfRecords.{FirstAnswersIntroduceTheirSenders, FirstRequestsIntroduceTheirSenders, OctetsIntroduceOneSender}
use Rattle.ike.specs.Records.{introduced, SaysOfSender}

abbrev request_parts : (cipher : Cipher) (group : ℕ) (public nonce : Octets) (cookie : Option Octets)
    → HasParts (request_payloads cipher group public cookie nonce) (record { proposals = offer_of (ike_wanted cipher group) [] ∷ []; group = group; public = public; nonce = nonce })
request_parts cipher group public nonce None = record { sa = refl; ke = refl; ni = refl }
request_parts cipher group public nonce (Some octets) = record { sa = refl; ke = refl; ni = refl }

abbrev request_says : ((m : Message) (b : Octets) → SpellsPlainly m b → Spells m b) → (meaning : Meaning) (spi : ℕ) (secret nonce octets : Octets) → IsFirstRequest meaning spi secret nonce octets
    → SaysOfSender (λ (h : Header). h.spi_i) octets (introduced meaning.public_value spi secret nonce)
request_says spells meaning spi secret nonce octets is = record {
  message = request_message meaning.cipher meaning.group (meaning.public_value secret) spi is.cookie nonce;
  spelled = spells _ octets is.spelled;
  parts = record { proposals = offer_of (ike_wanted meaning.cipher meaning.group) [] ∷ []; group = meaning.group; public = meaning.public_value secret; nonce = nonce };
  complete = request_parts meaning.cipher meaning.group (meaning.public_value secret) nonce is.cookie;
  is = refl;
}

abbrev answer_says : ((m : Message) (b : Octets) → SpellsPlainly m b → Spells m b) → (cipher : Cipher) (group : ℕ) (public_value : Octets → Octets) (chosen : Chosen) (secret nonce : Octets) (spi_i spi_r : ℕ) (octets : Octets)
    → SpellsPlainly (answer_message cipher group (public_value secret) chosen nonce spi_i spi_r) octets → SaysOfSender (λ (h : Header). h.spi_r) octets (introduced public_value spi_r secret nonce)
answer_says spells cipher group public_value chosen secret nonce spi_i spi_r octets spelled = record {
  message = answer_message cipher group (public_value secret) chosen nonce spi_i spi_r;
  spelled = spells _ octets spelled;
  parts = record { proposals = answer_of (ike_wanted cipher group) chosen [] ∷ []; group = group; public = public_value secret; nonce = nonce };
  complete = record { sa = refl; ke = refl; ni = refl };
  is = refl;
}

pub request_introduces : ((m : Message) (b : Octets) → SpellsPlainly m b → Spells m b) → FirstRequestsIntroduceTheirSenders
request_introduces spells meaning spi secret nonce octets is = record { says = request_says spells meaning spi secret nonce octets is; flag = refl }

pub answer_introduces : ((m : Message) (b : Octets) → SpellsPlainly m b → Spells m b) → FirstAnswersIntroduceTheirSenders
answer_introduces spells cipher group public_value shared_secret fresh moment serial offer spi_i request admitted admits = record {
  says = answer_says spells cipher group public_value offer.chosen fresh.secret fresh.nonce spi_i fresh.spi admitted.octets
      (subst (λ (o : Octets). SpellsPlainly (answer_message cipher group (public_value fresh.secret) offer.chosen fresh.nonce spi_i fresh.spi) o) (sym admits.octets) admits.answer.spelled);
  flag = refl;
}

-- octets spell one message, and that has one value of the key exchange and one nonce
same_public : (m n : Message) (p q : PartsView) → m ≡ n → HasParts m.payloads p → HasParts n.payloads q → p.public ≡ q.public
same_public m n p q same one other =
    ap (λ (x : ℕ × Octets). x.1) (same_Some (p.group, p.public) (q.group, q.public) (sym one.ke ∙ ap (λ (x : Message). only_ke x.payloads) same ∙ other.ke))

same_nonce : (m n : Message) (p q : PartsView) → m ≡ n → HasParts m.payloads p → HasParts n.payloads q → p.nonce ≡ q.nonce
same_nonce m n p q same one other = same_Some p.nonce q.nonce (sym one.ni ∙ ap (λ (x : Message). only_nonce x.payloads) same ∙ other.ni)

pub one_sender : ((m n : Message) (b : Octets) → Spells m b → Spells n b → m ≡ n) → OctetsIntroduceOneSender
one_sender one_message spi_of octets one other a b =
    let same : a.message ≡ b.message = one_message a.message b.message octets a.spelled b.spelled in
    let spi : spi_of a.message.header ≡ spi_of b.message.header = ap (λ (m : Message). spi_of m.header) same in
    let public = same_public a.message b.message a.parts b.parts same a.complete b.complete in
    let nonce = same_nonce a.message b.message a.parts b.parts same a.complete b.complete in
    let both : record { spi = spi_of a.message.header; public = a.parts.public; nonce = a.parts.nonce } ≡ record { spi = spi_of b.message.header; public = b.parts.public; nonce = b.parts.nonce } =
    λ i. record { spi = spi i; public = public i; nonce = nonce i } in
    a.is ∙ both ∙ sym b.is
