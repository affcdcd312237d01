use Rattle.ike.specs.Records.{agreeing_by}
use Rattle.ike.proofs.RecordLemmas.{one_record}
use Rattle.ike.proofs.laws.records.both_ends_make_one_record.Goals as goal

pub returns : goal.returns
returns g c asker theirs their_group initiator responder one other i r =
    one_record (agreeing_by g.C.Agreement asker) g.met.C.Agreement.symmetric theirs their_group initiator responder one other i r
