use Rattle.std.proofs.Common.{rules}
use Rattle.ike.proofs.datagram.Datagram.is_whole.Goals as goal

pub returns-clause-sound : goal.returns-clause-sound
returns-clause-sound c = (c.args.self.now.message, search rules)
