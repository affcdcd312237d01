-- A response means one thing, and an offer is answered in one way.
use Rattle.std.proofs.Common.{◌≡◌, ℕ, Option, Some, sym, ap, ◌∙◌}
use Rattle.base.specs.Octets.{Octets}
use Rattle.wire.specs.Messages.{SpellsPlainly}
use Rattle.wire.specs.declared.message.Message.{Message}
use Rattle.suite.specs.Keys.{ike_keys}
use Rattle.suite.specs.declared.fresh.Fresh.{Fresh}
use Rattle.suite.specs.declared.key_record.KeyRecord.{KeyRecord}
use Rattle.suite.specs.declared.sealer.Cipher.{Cipher}
use Rattle.sa_init.specs.Agreement.{IsAnswer}
use Rattle.sa_init.specs.Judging.{OfferView}
use Rattle.sa_init.specs.Messages.{answer_message}
use Rattle.sa_init.specs.Parts.{PartsView}
use Rattle.sa_init.specs.Reading.{AsksCookie, GivesKeys, IsResponse, IsSameResponse, WaitingView}
use Rattle.sa_init.specs.declared.answers.Agreed.{Agreed}
use Rattle.sa_init.specs.declared.response.Response.{Response}
use Rattle.sa_init.specs.declared.response.Response.TheVariants.{Cookie, Keys, Unfit}
use Rattle.sa_init.proofs.PartLemmas.{same_parts}

-- what the law of the format says of messages that are spelled with zeros
abbrev pub OneSpelling : Type 0
OneSpelling = (m : Message) (a b : Octets) → SpellsPlainly m a → SpellsPlainly m b → a ≡ b

same_shared : (o : Option Octets) (a b : Octets) → o ≡ Some a → o ≡ Some b → a ≡ b
same_shared o a b one other = cc

one_cookie : (sent : WaitingView) (m : Message) (a b : Octets) → AsksCookie sent m a → AsksCookie sent m b → a ≡ b
one_cookie sent m a b one other = cc (one.asked, other.asked)

cookie_or_keys : (cipher : Cipher) (group : ℕ) (shared_secret : Octets → Octets → Option Octets) (sent : WaitingView) (m : Message) (octets : Octets) (keys : KeyRecord)
    → AsksCookie sent m octets → GivesKeys cipher group shared_secret sent m keys → ⊥
cookie_or_keys cipher group shared_secret sent m octets keys asks gives = gives.acceptance.named asks.unnamed

one_record : (cipher : Cipher) (group : ℕ) (shared_secret : Octets → Octets → Option Octets) (sent : WaitingView) (m : Message) (a b : KeyRecord)
    → GivesKeys cipher group shared_secret sent m a → GivesKeys cipher group shared_secret sent m b → a ≡ b
one_record cipher group shared_secret sent m a b one other =
    let parts = same_parts m.payloads one.parts other.parts one.acceptance.complete other.acceptance.complete in
    let shared = same_shared (shared_secret sent.secret other.parts.public) one.shared other.shared (sym (ap (λ (p : PartsView). shared_secret sent.secret p.public) parts) ∙ one.agrees) other.agrees in
    one.made
    ∙ ap (λ (s : Octets). ike_keys s sent.nonce one.parts.nonce sent.spi_i m.header.spi_r) shared
    ∙ ap (λ (p : PartsView). ike_keys other.shared sent.nonce p.nonce sent.spi_i m.header.spi_r) parts
    ∙ sym other.made

pub one_response : (cipher : Cipher) (group : ℕ) (shared_secret : Octets → Octets → Option Octets) (sent : WaitingView) (m : Message) (one other : Response)
    → IsResponse cipher group shared_secret sent m one → IsResponse cipher group shared_secret sent m other → IsSameResponse one other
one_response cipher group shared_secret sent m (Cookie a) (Cookie b) is also = one_cookie sent m a.now b.now is also
one_response cipher group shared_secret sent m (Cookie a) (Keys k) is also = cookie_or_keys cipher group shared_secret sent m a.now k is also
one_response cipher group shared_secret sent m (Cookie a) Unfit is also = also.0 a.now is
one_response cipher group shared_secret sent m (Keys k) (Cookie b) is also = cookie_or_keys cipher group shared_secret sent m b.now k also is
one_response cipher group shared_secret sent m (Keys k) (Keys l) is also = one_record cipher group shared_secret sent m k l is also
one_response cipher group shared_secret sent m (Keys k) Unfit is also = also.1 k is
one_response cipher group shared_secret sent m Unfit (Cookie b) is also = is.0 b.now also
one_response cipher group shared_secret sent m Unfit (Keys l) is also = is.1 l also
one_response cipher group shared_secret sent m Unfit Unfit is also = tt

pub one_answer : OneSpelling → (cipher : Cipher) (group : ℕ) (public_value : Octets → Octets) (shared_secret : Octets → Octets → Option Octets) (offer : OfferView) (spi_i : ℕ) (fresh : Fresh) (a b : Agreed)
    → IsAnswer cipher group public_value shared_secret offer spi_i fresh a → IsAnswer cipher group public_value shared_secret offer spi_i fresh b → a ≡ b
one_answer one cipher group public_value shared_secret offer spi_i fresh a b is also =
    let shared = same_shared (shared_secret fresh.secret offer.public) is.shared also.shared is.agrees also.agrees in
    let keys : a.record ≡ b.record = is.keys ∙ ap (λ (s : Octets). ike_keys s offer.nonce fresh.nonce spi_i fresh.spi) shared ∙ sym also.keys in
    let octets : a.octets ≡ b.octets = one (answer_message cipher group (public_value fresh.secret) offer.chosen fresh.nonce spi_i fresh.spi) a.octets b.octets is.spelled also.spelled in
    λ i. record { «record» = keys i; octets = octets i }
