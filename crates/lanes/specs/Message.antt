-- What a lane takes: the blocks of a message.
use Rattle.std.specs.Prelude.{◌≡◌, ℕ, ◌*◌, ◌/◌, List, ◌++◌, length, take}
use Rattle.lanes.specs.declared.message.Message.{Message}

-- how many whole blocks the octets have
abbrev pub whole_blocks : Message → ℕ
whole_blocks m = length m.octets.now / 64

-- the whole blocks of the octets, and then those that end the message
abbrev pub blocks_of : Message → List ℕ
blocks_of m = take (whole_blocks m * 64) m.octets.now ++ m.end

-- a message has these octets as its blocks
pub record HasBlocks (m : Message) (octets : List ℕ) : Type 0 where
  pub whole : length octets ≡ m.count * 64
  pub blocks : take (m.count * 64) (blocks_of m) ≡ octets
