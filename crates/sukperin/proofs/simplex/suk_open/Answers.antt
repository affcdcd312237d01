use Rattle.std.proofs.Common.{rules}
use Rattle.sukperin.proofs.simplex.suk_open.Goals as goal

-- src/simplex.rt:141:1
pub returns-clause-opened : goal.returns-clause-opened
returns-clause-opened c done =
    let opens = c.open_by-code.ensures.opened done in
    let had = opens.had in
    let has = opens.has in
    record { receiver = opens.receiver; after = opens.after; had = search rules; has = search rules; opens = opens.opens }
