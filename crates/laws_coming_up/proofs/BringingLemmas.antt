-- Both exchanges in a row.
use Rattle.std.proofs.Common.{◌++◌, ◌∙◌, ℕ, zero, suc, List, arith, subst, sym}
use Rattle.std.specs.Int.{to_be_bytes, w32}
use Rattle.std.specs.Prelude.{slice_index}
use Rattle.sha2.specs.Sha256.{digest_bytes, final_hash, initial_hash_256, sha256}
use Rattle.mac.specs.Hmac.{hmac_sha256}
use Rattle.base.proofs.OctetLemmas.{octets_append}
use Rattle.base.specs.Octets.{AreOctets, Octets}
use Rattle.suite.specs.declared.key_record.KeyRecord.{KeyRecord}
use Rattle.suite.specs.SignedOctets as signed
use Rattle.suite.specs.declared.fresh.Fresh.{Fresh}
use Rattle.exchange.specs.declared.headers.Role.{Role}
use Rattle.exchange.specs.declared.headers.Role.TheVariants.{Initiator, Responder}
use Rattle.policy.specs.declared.entry.Entry.{Entry}
use Rattle.effects.specs.Taking.{Meaning}
use Rattle.gateway.specs.Histories.{Passage}
use Rattle.laws_opening.specs.Opened.{Opening, Side}
use Rattle.laws_opening.specs.Opening.{HasOpened}
use Rattle.laws_coming_up.specs.ComingUp.{proved_octets, AreInExchange, IsKnownTo, PoliciesMeet}
use Rattle.laws_coming_up.specs.BringingUp.{AreSetUp, CanProveItself}

-- ---- what is proved is octets

word_octets : (n : ℕ) → AreOctets (to_be_bytes w32 n)
word_octets n = (omega arith, (omega arith, (omega arith, (omega arith, tt))))

digest_octets : (h : List ℕ) (n : ℕ) → AreOctets (digest_bytes h n)
unfolding digest_bytes
digest_octets h zero = tt
digest_octets h (suc n) = octets_append (digest_bytes h n) (to_be_bytes w32 (slice_index h n)) (digest_octets h n) (word_octets (slice_index h n))

hash_octets : (m : List ℕ) → AreOctets (sha256 m)
unfolding sha256
hash_octets m = digest_octets (final_hash initial_hash_256 m) 8

tag_octets : (key text : List ℕ) → AreOctets (hmac_sha256 key text)
unfolding hmac_sha256
tag_octets key text = hash_octets _

-- the octets that go in front of the tag
abbrev first_of : Role → Opening → Octets
first_of Initiator o = o.request
first_of Responder o = o.response

abbrev nonce_for : Role → KeyRecord → Octets
nonce_for Initiator keys = keys.nonce_r
nonce_for Responder keys = keys.nonce_i

pub signed_octets : (first nonce sk_p : Octets) (kind : ℕ) (id : Octets) → AreOctets first → AreOctets nonce → AreOctets (signed.proved_octets first nonce sk_p kind id)
signed_octets first nonce sk_p kind id one two =
    octets_append (first ++ nonce) (hmac_sha256 sk_p (signed.rest_of_id kind id)) (octets_append first nonce one two) (tag_octets sk_p (signed.rest_of_id kind id))

proved_are_octets : (role : Role) (own : Side) (o : Opening) → AreOctets (first_of role o) → AreOctets (nonce_for role o.keys) → AreOctets (proved_octets role own o)
proved_are_octets Initiator own o first nonce = signed_octets o.request o.keys.nonce_r o.keys.sk_pi own.config.own.identity.kind own.config.own.identity.data first nonce
proved_are_octets Responder own o first nonce = signed_octets o.response o.keys.nonce_i o.keys.sk_pr own.config.own.identity.kind own.config.own.identity.data first nonce

-- ---- both exchanges

known : (role : Role) (own other : Side) (meaning theirs : Meaning) (o : Opening) → AreOctets (proved_octets role own o) → CanProveItself own other meaning theirs
    → IsKnownTo role own other meaning theirs o
known role own other meaning theirs o octets can = record { named = can.named; proved = can.proved (proved_octets role own o) octets }

module _ {C : Type 0} (meaning_of : C → Meaning) (one other : Side) (a b : C) (place : ℕ) (entry : Entry) (asking answering reading : Fresh) (shared : Octets)
    (p q r s t : Passage C) (h : HasOpened (meaning_of a) one other a b entry asking answering reading shared p q r) where
  pub in_exchange : AreSetUp meaning_of one other a b place asking answering reading p q r s t → CanProveItself one other (meaning_of a) (meaning_of b)
      → CanProveItself other one (meaning_of b) (meaning_of a) → AreInExchange meaning_of one other a b h.opening h.auth h.room s t
  in_exchange are one_can other_can = record {
    initiator_known = known Initiator one other (meaning_of a) (meaning_of b) h.opening
        (proved_are_octets Initiator one h.opening h.asked_spelled.octets
        (subst (λ (k : KeyRecord). AreOctets k.nonce_r) (sym h.keys_are) are.answering_nonce)) one_can;
    responder_known = known Responder other one (meaning_of b) (meaning_of a) h.opening
        (proved_are_octets Responder other h.opening h.answer_spelled.octets
        (subst (λ (k : KeyRecord). AreOctets k.nonce_i) (sym h.keys_are) are.asking_nonce)) other_can;
    sent = record { fresh = reading; seal = are.seal; sealed = h.sealed };
    answers = are.accepts;
    opened = are.then_other ∙ h.responder;
    asked = are.asked h.auth h.told;
    ends = are.concludes;
    waits = are.then_one ∙ h.initiator;
    answered = are.answered;
  }

  pub meets : PoliciesMeet other.entries entry → PoliciesMeet other.entries h.opening.entry
  meets do_so = subst (λ (e : Entry). PoliciesMeet other.entries e) (sym h.entry_is) do_so

  pub meets_not : ¬ PoliciesMeet other.entries entry → ¬ PoliciesMeet other.entries h.opening.entry
  meets_not not_so do_so = not_so (subst (λ (e : Entry). PoliciesMeet other.entries e) h.entry_is do_so)
