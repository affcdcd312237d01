-- Each packet of a list that was looked at is of this association.
use Rattle.std.proofs.Common.{rules, ◌≡◌, ◌≤◌, ℕ, length, take, subst, sym}
use Rattle.std.specs.List.{All}
use Rattle.std.proofs.lemmas.List.Elements.{All-map}
use Rattle.byteorder.specs.Endian.{big_bytes}
use Rattle.esp.specs.Packet.{BeginsWithItsSpi}
use Rattle.tool_times.proofs.receiver.Receiver.open_all.Goals as goal

pub open_all-requires : goal.open_all-requires
open_all-requires c =
    let ours : All (λ p. 4 ≤ length p.now → take 4 p.now ≡ big_bytes 4 256) c.args.packets.now = c.are_ours.ensures (search rules) in
    All-map (BeginsWithItsSpi c.args.self.now.inbound.association) (λ p. p.now) c.args.packets.now
    (subst (λ (s : ℕ). All (λ p. 4 ≤ length p.now → take 4 p.now ≡ big_bytes 4 s) c.args.packets.now) (sym c.args.self.now.spi) ours)
