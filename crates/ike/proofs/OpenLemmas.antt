-- What was sealed opens to what was sealed, and to nothing else, as a message of the end that sealed it.
use Rattle.std.proofs.Common.{◌≡◌, ℕ, Bool, List, [], ◌∷◌, ◌++◌, Option, Some, take, drop, refl, sym, ap, subst, ◌∙◌}
use Rattle.std.proofs.lemmas.List.{take-append-drop}
use Rattle.base.specs.Octets.{AreOctets, Octets}
use Rattle.wire.specs.Messages.{Spells, SpellsPlainly}
use Rattle.wire.specs.Parts.{IsZero}
use Rattle.wire.specs.Payloads.{SpellsChain, SpellsPayloads}
use Rattle.wire.specs.declared.message.Message.{Message}
use Rattle.wire.specs.declared.payload.Payload.{Payload}
use Rattle.wire.specs.declared.payload.Payload.TheVariants.{Sealed}
use Rattle.suite.specs.Sealing.{AreSealable}
use Rattle.suite.specs.declared.key_record.KeyRecord.{KeyRecord}
use Rattle.suite.specs.declared.keys.Keys.{Keys}
use Rattle.exchange.specs.Headers.{is_initiator, keys_of}
use Rattle.exchange.specs.Sealed.{head_of, plain_behind, plain_of_message}
use Rattle.exchange.specs.declared.headers.Role.{Role}
use Rattle.exchange.specs.declared.headers.Role.TheVariants.{Initiator, Responder}
use Rattle.exchange.specs.declared.sealed.Plain.{Plain}
use Rattle.association.specs.Receiving.{Opening}
use Rattle.ike.specs.Payloads.{AreSame, OpensToPayloads, SealsPayloads}

-- what is known of spellings, and of a cipher
pub record OpenLaws (body_of : Keys → Octets → Octets → Octets → Octets) (plain_of : Opening) : Type 0 where
  pub spells : (m : Message) (b : Octets) → SpellsPlainly m b → Spells m b
  pub one_message : (m n : Message) (b : Octets) → Spells m b → Spells n b → m ≡ n
  pub plain_chain : (first : ℕ) (ps qs : List Payload) (b : Octets) → SpellsPayloads IsZero first ps b → SpellsChain first qs b → ps ≡ qs
  pub again : (keys : Keys) (head plain fresh : Octets) → AreSealable keys head plain fresh → plain_of keys head (body_of keys head plain fresh) ≡ Some plain

-- a front of octets is of octets
octets_front : (a b : List ℕ) → AreOctets (a ++ b) → AreOctets a
octets_front [] b fits = tt
octets_front (x ∷ a) b fits = (fits.0, octets_front a b fits.1)

octets_take : (n : ℕ) (xs : List ℕ) → AreOctets xs → AreOctets (take n xs)
octets_take n xs fits = octets_front (take n xs) (drop n xs) (subst AreOctets (sym (take-append-drop n xs)) fits)

same_role : (one other : Role) → is_initiator one ≡ is_initiator other → one ≡ other
same_role Initiator Initiator is = refl
same_role Responder Responder is = refl
same_role Initiator Responder is = absurd cc
same_role Responder Initiator is = absurd cc

same_plain : (first : ℕ) (plain : Octets) (o : Option Octets) (found : Plain) → o ≡ Some plain → plain_behind first o ≡ Some found → found ≡ record { first = first; octets = plain }
same_plain first plain o found is opened =
    let both : Some (record { first = first; octets = plain }) ≡ Some found = sym (ap (plain_behind first) is) ∙ opened in
    cc

pub opens_so : (body_of : Keys → Octets → Octets → Octets → Octets) (plain_of : Opening) → OpenLaws body_of plain_of → (keys : KeyRecord) (exchange of : ℕ) (response : Bool) (number : ℕ) (payloads read : List Payload) (octets : Octets)
    → SealsPayloads body_of keys exchange response number payloads octets → OpensToPayloads plain_of keys of response number read octets → AreSame exchange of payloads read
opens_so body_of plain_of laws keys exchange of response number payloads read octets s o =
    let it = s.sealed in
    let body = body_of (keys_of s.sender keys) (head_of octets) it.plain s.fresh in
    let sealing : Message = record { header = s.header; payloads = Sealed it.first body ∷ [] } in
    let same : sealing ≡ o.message = laws.one_message sealing o.message octets (laws.spells sealing octets it.whole) o.spelled in
    let sender_is : s.sender ≡ o.sender = same_role s.sender o.sender (sym s.from_sender ∙ ap (λ (m : Message). m.header.flags.initiator) same ∙ o.from_sender) in
    let again = laws.again (keys_of s.sender keys) (head_of octets) it.plain s.fresh (record {
      keyed = s.keyed;
      head_octets = octets_take 32 octets it.whole.octets;
      plain_octets = it.octets;
      fresh_octets = s.fresh_octets;
      fresh_long = s.fresh_long;
    }) in
    let opened : plain_of_message plain_of (keys_of s.sender keys) octets sealing.payloads ≡ Some o.plain =
    ap (λ (r : Role). plain_of_message plain_of (keys_of r keys) octets sealing.payloads) sender_is
    ∙ ap (λ (m : Message). plain_of_message plain_of (keys_of o.sender keys) octets m.payloads) same
    ∙ o.opened in
    let plain_is : o.plain ≡ record { first = it.first; octets = it.plain } =
    same_plain it.first it.plain (plain_of (keys_of s.sender keys) (head_of octets) body) o.plain again opened in
    let chain : SpellsChain it.first read it.plain = subst (λ (p : Plain). SpellsChain p.first read p.octets) plain_is o.read in
    record {
      exchange_is = sym s.header_is.exchange_is ∙ ap (λ (m : Message). m.header.exchange) same ∙ o.header_is.exchange_is;
      payloads_are = laws.plain_chain it.first payloads read it.plain it.spelled chain;
    }
