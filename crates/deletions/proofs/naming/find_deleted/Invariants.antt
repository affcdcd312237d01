use Rattle.std.proofs.Common.{◌≡◌, take}
use Rattle.deletions.specs.Naming.{deleted_pairs, inbound_spis_of, serials_of}
use Rattle.deletions.proofs.naming.find_deleted.Given as goal

-- those that go for the SPIs before this one
abbrev pub invariant-loop-spi : goal.invariant-loop-spi
invariant-loop-spi l = record {
  serials : l.serials.items ≡ serials_of (deleted_pairs l.table.pairs l.ike (take l.spi-index l.spis));
  inbound_spis : l.inbound_spis.items ≡ inbound_spis_of (deleted_pairs l.table.pairs l.ike (take l.spi-index l.spis));
}
