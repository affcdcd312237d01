-- A Child SA that an end asked for, with the IKE SA or by an exchange of its own (RFC 7296 sections 1.2 and
-- 1.3.1).
use Rattle.std.specs.Prelude.{ℕ, Bool}
use Rattle.base.specs.declared.selector.Selector.{Selector}
use Rattle.policy.specs.Narrowing.{IsSendableSelector}
use Rattle.children.specs.declared.asking.Asked.{Asked}

pub record AskedChildView : Type 0 where
  -- the inbound SPI that the table reserved
  pub spi : ℕ
  -- the selectors of this end's side and of the peer's
  pub local : Selector
  pub remote : Selector
  -- ESN is allowed
  pub extended : Bool

-- a message can carry both selectors (section 3.13.1)
pub record IsSendableChild (local remote : Selector) : Type 0 where
  pub local_fits : IsSendableSelector local
  pub remote_fits : IsSendableSelector remote

-- what is asked for
abbrev pub asked_of : AskedChildView → Asked
asked_of child = record { spi = child.spi; local = child.local; remote = child.remote; extended = child.extended }
