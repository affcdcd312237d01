-- What a cipher is asked to seal, and what opening does (RFC 7296, section 3.14).
use Rattle.std.specs.Prelude.{◌≡◌, ℕ, Bool, true, false, Option, Some, None, List, ◌++◌, length}
use Rattle.base.specs.Octets.{AreOctets}
use Rattle.suite.specs.declared.keys.Keys.{Keys}

-- both keys have 32 octets
pub record AreKeys (keys : Keys) : Type 0 where
  pub encryption_long : length keys.encryption ≡ 32
  pub integrity_long : length keys.integrity ≡ 32
  pub encryption_octets : AreOctets keys.encryption
  pub integrity_octets : AreOctets keys.integrity

-- what the code's types say of keys, head, plain text and the 16 fresh octets: a cipher is a function on
-- these alone
pub record AreSealable (keys : Keys) (head plain fresh : List ℕ) : Type 0 where
  pub keyed : AreKeys keys
  pub head_octets : AreOctets head
  pub plain_octets : AreOctets plain
  pub fresh_octets : AreOctets fresh
  pub fresh_long : length fresh ≡ 16

-- a body was opened or not, and a list that was so before became so: what the body opens to stands behind
-- it, or nothing
abbrev pub Opens : Option (List ℕ) → Bool → List ℕ → List ℕ → Type 0
Opens None opens before after = (opens ≡ false) × (after ≡ before)
Opens (Some plain) opens before after = (opens ≡ true) × (after ≡ before ++ plain)
