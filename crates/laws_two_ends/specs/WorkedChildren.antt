-- A worked world, for which the premises of what is promised of both ends are shown to hold: both ends made
-- one Child SA; A has sealed a packet by its pair of that child, and asked whether B is there. The packet
-- comes to B and is delivered; the probe comes to B, is processed and is answered; and the response comes to
-- A and is counted.
use Rattle.std.specs.Prelude.{◌∷◌, ℕ, false, List, []}
use Rattle.std.specs.FinMap as map
use Rattle.std.specs.FinSet as set
use Rattle.base.specs.Octets.{Octets}
use Rattle.base.specs.declared.address.Range.TheVariants.{V4}
use Rattle.replay.specs.Window.{unused_window, Seen}
use Rattle.policy.specs.declared.entry.Action.TheVariants.{Protect}
use Rattle.policy.specs.declared.entry.Entry.{Entry}
use Rattle.sadb.specs.Database.{Database, PairMap}
use Rattle.sadb.specs.declared.pair.Pair.{Pair}
use Rattle.sadb.specs.declared.pair.State.TheVariants.{Live}
use Rattle.suite.specs.Keys.{child_keys}
use Rattle.exchange.specs.declared.headers.Role.{Role}
use Rattle.exchange.specs.declared.headers.Role.TheVariants.{Initiator, Responder}
use Rattle.association.specs.declared.phase.Request.{Request}
use Rattle.association.specs.declared.purpose.Purpose.TheVariants.{Probe}
use Rattle.children.specs.Pairs.{inbound_of, outbound_of}
use Rattle.children.specs.Terms.{Terms}
use Rattle.deliveries.specs.Worked.{any_traffic}
use Rattle.laws_two_ends.specs.WorkedRequests.{worked_keys}
use Rattle.laws_two_ends.specs.WorkedMessages.{nonce_of, probe_octets}

-- ---- the IKE SAs

-- the probe, which waits for its answer
abbrev pub probe_request : Request
probe_request = record { octets = probe_octets; purpose = Probe; timer = record { sent = 0; repeats = 0 } }

-- ---- the Child SA

-- what both ends agreed on: A gave the SPI 512, and B 256
abbrev pub agreed_terms : Terms
agreed_terms = record { spi_i = 512; spi_r = 256; extended = false; ts_i = any_traffic; ts_r = any_traffic }

-- the keys that both nonces make
abbrev pub agreed_keys : List Octets
agreed_keys = child_keys worked_keys.sk_d (nonce_of 1) (nonce_of 2)

-- the pair of the end of this role in the exchange: the last number that it sealed under, and what it knows
-- of the numbers that came
abbrev pub pair_of : Role → ℕ → Seen → Pair
pair_of role last window = record {
  serial = 1;
  ike = 1;
  inbound = record { association = inbound_of role agreed_keys agreed_terms; window = window };
  outbound = record { association = outbound_of role agreed_keys agreed_terms; last = last };
  local = any_traffic;
  remote = any_traffic;
  state = Live;
}

-- ---- the gateways

-- a window of 64 numbers, of which 1 is taken
abbrev pub one_taken : Seen
one_taken = record { top = 1; size = 64; taken = set.insert set.empty 1 }

-- a table that gave one SPI, this one, for one pair
abbrev pub table_with : ℕ → PairMap → Database
table_with spi pairs = record { start = spi; given = 1; reserved = set.empty; next = 2; pairs = pairs; room = 0 }

abbrev pub lone_pair : Pair → PairMap
lone_pair pair = map.insert map.empty 1 pair

-- A's, which sealed under so many numbers
abbrev pub asking_table : ℕ → Database
asking_table last = table_with 512 (lone_pair (pair_of Initiator last (unused_window 2)))

-- B's, to which nothing came yet, and to which number 1 came
abbrev pub answering_table : Database
answering_table = table_with 256 (lone_pair (pair_of Responder 0 (unused_window 2)))

abbrev pub later_table : Database
later_table = record answering_table { pairs = map.insert answering_table.pairs 1 (pair_of Responder 0 one_taken) }

-- one entry, which protects all traffic of IPv4
abbrev pub all_protected : List Entry
all_protected =
    record {
      protocol = 0;
      local = V4 0 4294967295;
      remote = V4 0 4294967295;
      local_ports = (0, 65535);
      remote_ports = (0, 65535);
      action = Protect;
    }
    ∷ []
