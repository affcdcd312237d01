-- Both ends have one record.
use Rattle.std.proofs.Common.{◌≡◌, ℕ, List, Option, Some, sym, ap, subst, ◌∙◌}
use Rattle.base.specs.Octets.{Octets}
use Rattle.wire.specs.declared.message.Message.{Message}
use Rattle.suite.specs.Callers.{IsSecret}
use Rattle.suite.specs.Keys.{ike_keys}
use Rattle.suite.specs.declared.key_record.KeyRecord.{KeyRecord}
use Rattle.suite.specs.declared.sealer.Cipher.{Cipher}
use Rattle.sa_init.specs.Parts.{HasParts, PartsView}
use Rattle.sa_init.specs.Reading.{GivesKeys, IsResponse}
use Rattle.sa_init.specs.declared.response.Response.{Response}
use Rattle.sa_init.specs.declared.response.Response.TheVariants as response
use Rattle.association.specs.Phases.{keys_in}
use Rattle.association.specs.declared.phase.Association.{Association}
use Rattle.association.specs.declared.phase.InitSent.{InitSent}
use Rattle.setup.specs.Configs.{Setup}
use Rattle.initial.specs.Reading.{Asker, Continues, waiting_of}
use Rattle.initial.specs.declared.reading.Continued.TheVariants as continued
use Rattle.ike.specs.Records.{ComesToKeysAsInitiator, ComesToKeysAsResponder, Introduction}

abbrev pub IsSymmetric : (Octets → Octets) → (Octets → Octets → Option Octets) → Type 0
IsSymmetric public_value shared_secret = (a b : List ℕ) → IsSecret a → IsSecret b → shared_secret a (public_value b) ≡ shared_secret b (public_value a)

-- what is read gives the keys that the IKE SA has then
keys_read : (asker : Asker) (setup : Setup) (old : Association) (sent : InitSent) (number : ℕ) (m : Message) (octets request : Octets) (response : Response) (new : Association) (keys : KeyRecord)
    → IsResponse asker.cipher asker.group asker.shared_secret (waiting_of old.spi_i sent) m response
    → Continues asker setup old sent number m octets response (continued.AsksAuth request) new
    → keys_in new.phase ≡ Some keys → GivesKeys asker.cipher asker.group asker.shared_secret (waiting_of old.spi_i sent) m keys
keys_read asker setup old sent number m octets request (response.Cookie cookie) new keys means continues keyed = absurd continues
keys_read asker setup old sent number m octets request (response.Keys made) new keys means continues keyed =
    let same : Some made ≡ Some keys = sym (ap (λ (a : Association). keys_in a.phase) continues.content) ∙ keyed in
    let is : made ≡ keys = cc in
    subst (λ (k : KeyRecord). GivesKeys asker.cipher asker.group asker.shared_secret (waiting_of old.spi_i sent) m k) is means
keys_read asker setup old sent number m octets request response.Unfit new keys means continues keyed = absurd continues

pub same_values : (m : Message) (a b : PartsView) → HasParts m.payloads a → HasParts m.payloads b → a.public ≡ b.public
same_values m a b one other = let both : (a.group, a.public) ≡ (b.group, b.public) = cc in ap (λ (x : ℕ × Octets). x.1) both

pub same_nonces : (m : Message) (a b : PartsView) → HasParts m.payloads a → HasParts m.payloads b → a.nonce ≡ b.nonce
same_nonces m a b one other = cc

same_keys : (s t ni mi nr mr : Octets) (spi_i other_i spi_r other_r : ℕ) → s ≡ t → ni ≡ mi → nr ≡ mr → spi_i ≡ other_i → spi_r ≡ other_r
    → ike_keys s ni nr spi_i spi_r ≡ ike_keys t mi mr other_i other_r
same_keys s t ni mi nr mr spi_i other_i spi_r other_r es ei er ep eq = (λ i. ike_keys (es i) (ei i) (er i) (ep i) (eq i))

pub one_record : (asker : Asker) → IsSymmetric asker.public_value asker.shared_secret → (cipher : Cipher) (group : ℕ) (initiator responder : Introduction) (one other : KeyRecord)
    → ComesToKeysAsInitiator asker initiator responder one → ComesToKeysAsResponder cipher group asker.public_value asker.shared_secret responder initiator other → one ≡ other
one_record asker symmetric cipher group initiator responder one other i r =
    let sent = i.read.sent in
    let gives = keys_read asker i.setup i.old sent i.number i.response i.octets i.request i.read.response i.new one i.read.means i.read.continues i.keyed in
    let both = sym i.own_is ∙ r.other_is in
    let theirs = sym i.other_is ∙ r.own_is in
    let spi_i : i.old.spi_i ≡ r.spi_i = ap (λ (x : Introduction). x.spi) both in
    let public_i : asker.public_value sent.secret ≡ r.offer.public = ap (λ (x : Introduction). x.public) both in
    let nonce_i : sent.nonce ≡ r.offer.nonce = ap (λ (x : Introduction). x.nonce) both in
    let spi_r : i.response.header.spi_r ≡ r.fresh.spi = ap (λ (x : Introduction). x.spi) theirs in
    let public_r : gives.parts.public ≡ asker.public_value r.fresh.secret = same_values i.response gives.parts i.parts gives.acceptance.complete i.complete ∙ ap (λ (x : Introduction). x.public) theirs in
    let nonce_r : gives.parts.nonce ≡ r.fresh.nonce = same_nonces i.response gives.parts i.parts gives.acceptance.complete i.complete ∙ ap (λ (x : Introduction). x.nonce) theirs in
    let secrets : asker.shared_secret sent.secret gives.parts.public ≡ asker.shared_secret r.fresh.secret r.offer.public =
    ap (λ (x : Octets). asker.shared_secret sent.secret x) public_r ∙ symmetric sent.secret r.fresh.secret i.secret r.secret ∙ ap (λ (x : Octets). asker.shared_secret r.fresh.secret x) public_i in
    let answer = r.admits.answer in
    let shared : gives.shared ≡ answer.shared = cc (gives.agrees, answer.agrees, secrets) in
    let kept : Some r.admits.agreed.record ≡ Some other = sym (ap (λ (a : Association). keys_in a.phase) r.admits.content) ∙ r.keyed in
    let record_is : r.admits.agreed.record ≡ other = cc in
    gives.made
    ∙ same_keys gives.shared answer.shared sent.nonce r.offer.nonce gives.parts.nonce r.fresh.nonce i.old.spi_i r.spi_i i.response.header.spi_r r.fresh.spi shared nonce_i nonce_r spi_i spi_r
    ∙ sym answer.keys
    ∙ record_is
