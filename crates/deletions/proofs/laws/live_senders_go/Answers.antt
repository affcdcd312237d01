use Rattle.deletions.proofs.SenderLemmas.{deleted_live, deleted_told}
use Rattle.deletions.proofs.laws.live_senders_go.Goals as goal

pub returns : goal.returns
returns c = λ pairs ike spi serial pair. (
  λ is. (let told = deleted_told pairs ike spi (serial, pair) is in (told.sends, told.there, told.live)),
  λ all. deleted_live pairs ike spi serial pair all.0 all.1 all.2,
)
