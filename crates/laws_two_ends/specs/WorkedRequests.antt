-- A witness run for the assumptions on requests and on retransmissions: a request comes and is processed,
-- and then it comes again.
use Rattle.std.specs.Prelude.{[], ◌∷◌, replicate}
use Rattle.std.specs.FinMap as map
use Rattle.std.specs.FinSet as set
use Rattle.base.specs.Octets.{Octets}
use Rattle.suite.specs.declared.key_record.KeyRecord.{KeyRecord}
use Rattle.requests.specs.Incoming.{PeerRequests}

-- 32 octets
abbrev pub worked_key : Octets
worked_key = replicate 32 0

abbrev pub worked_keys : KeyRecord
worked_keys = record {
  spi_i = 1;
  spi_r = 2;
  nonce_i = worked_key;
  nonce_r = worked_key;
  sk_d = worked_key;
  sk_ai = worked_key;
  sk_ar = worked_key;
  sk_ei = worked_key;
  sk_er = worked_key;
  sk_pi = worked_key;
  sk_pr = worked_key;
}

-- INFORMATIONAL with Message ID 2 and no payloads, from the original initiator (RFC 7296, sections 1.4 and
-- 3.1). In order: the SPIs; next payload encrypted, version 2.0, the exchange, flag I, the Message ID, the
-- length; the header of the encrypted payload, whose body is empty.
abbrev pub worked_request : Octets
worked_request =
    0 ∷ 0 ∷ 0 ∷ 0 ∷ 0 ∷ 0 ∷ 0 ∷ 1 ∷ 0 ∷ 0 ∷ 0 ∷ 0 ∷ 0 ∷ 0 ∷ 0 ∷ 2 ∷ 46 ∷ 0x20 ∷ 37 ∷ 0x08 ∷ 0 ∷ 0 ∷ 0 ∷ 2 ∷ 0 ∷ 0 ∷ 0 ∷ 32
    ∷ 0 ∷ 0 ∷ 0 ∷ 4 ∷ []

-- the same with flag R, from the responder
abbrev pub worked_reply : Octets
worked_reply =
    0 ∷ 0 ∷ 0 ∷ 0 ∷ 0 ∷ 0 ∷ 0 ∷ 1 ∷ 0 ∷ 0 ∷ 0 ∷ 0 ∷ 0 ∷ 0 ∷ 0 ∷ 2 ∷ 46 ∷ 0x20 ∷ 37 ∷ 0x20 ∷ 0 ∷ 0 ∷ 0 ∷ 2 ∷ 0 ∷ 0 ∷ 0 ∷ 32
    ∷ 0 ∷ 0 ∷ 0 ∷ 4 ∷ []

-- IKE_SA_INIT and IKE_AUTH are in effect, no response is kept, and the window is one
abbrev pub first_taken : PeerRequests
first_taken = record { in_effect = set.insert (set.insert set.empty 0) 1; size = 1; kept = map.empty; room = 0 }

abbrev pub one_more_taken : PeerRequests
one_more_taken = record first_taken { in_effect = set.insert first_taken.in_effect 2; kept = map.insert first_taken.kept 2 worked_reply }
