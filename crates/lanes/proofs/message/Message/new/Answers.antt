use Rattle.std.proofs.lemmas.List.{take_rest}
use Rattle.std.proofs.Common.{◌*◌, ◌/◌, length}
use Rattle.lanes.proofs.MessageLemmas.{made}
use Rattle.lanes.proofs.message.Message.new.Goals as goal

pub returns : goal.returns
returns c =
    let octets = c.args.octets.now in
    let parts = made octets c.args.more.now _ c.ending.result c.end_len-size.result c.requires (take_rest octets (length octets / 64 * 64)) c.end_len-size.ensures c.ending.ensures in
    record { whole = parts.1; blocks = parts.2 }
