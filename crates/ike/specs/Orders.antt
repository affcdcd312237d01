-- What a command asks of the peer under an established IKE SA (RFC 7296 sections 1.4, 1.4.1 and 2.4), as
-- plain data.
use Rattle.std.specs.Prelude.{ℕ}

pub data OrderView : Type 0 where
  -- a liveness check, under the IKE SA with this serial
  Probe : ℕ → OrderView
  -- a deletion of the Child SA with this serial
  DeleteChild : ℕ → OrderView
  -- a deletion of the IKE SA with this serial
  DeleteIke : ℕ → OrderView
