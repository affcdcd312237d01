use Rattle.sa_init.proofs.encoding.octets_of.Goals as goal

pub unreachable-requires : goal.unreachable-requires
unreachable-requires c =
    let m = c.args.message.now in
    let fits = c.messages_that_fit_are_spelled.ensures m c.requires.header c.requires.payloads c.requires.short in
    c.in-Err.ensures.unspelled c.in_default.not-Memory fits.octets (c.plain_spellings_are_spellings.ensures.message m fits.octets fits.spelled)
