use Rattle.std.proofs.Common.{rules, sym, ◌∙◌, arith}
use Rattle.caller_peer.proofs.BodyLemmas.{intact_long, intact_whole, opens_not, opens_after_all, opens_plain, opens_nothing}
use Rattle.caller_peer.proofs.sealer.PeerCallerSealer.open.Goals as goal

pub returns-then-not-is_intact-clause-answered : goal.returns-then-not-is_intact-clause-answered
returns-then-not-is_intact-clause-answered c = opens_not _ _ _ _ _ (sym c.is_intact.ensures ∙ c.if-not-is_intact.true) (search rules)

pub plain_len-requires-clause-long : goal.plain_len-requires-clause-long
plain_len-requires-clause-long c = intact_long c.args.keys.now c.args.head.now c.args.body.now (sym c.is_intact.ensures ∙ c.if-not-is_intact.false)

pub plain_len-requires-clause-whole : goal.plain_len-requires-clause-whole
plain_len-requires-clause-whole c = intact_whole c.args.keys.now c.args.head.now c.args.body.now (sym c.is_intact.ensures ∙ c.if-not-is_intact.false)

pub returns-in_default-clause-answered : goal.returns-in_default-clause-answered
returns-in_default-clause-answered c =
    opens_nothing c.args.keys.now c.args.head.now c.args.body.now c.args.out.now.items _ (sym c.is_intact.ensures ∙ c.if-not-is_intact.false)
    c.in_default.ensures.plain (search rules)

pub append_decrypted-requires-clause-long : goal.append_decrypted-requires-clause-long
append_decrypted-requires-clause-long c =
    let long = intact_long c.args.keys.now c.args.head.now c.args.body.now (sym c.is_intact.ensures ∙ c.if-not-is_intact.false) in
    omega arith

pub append_decrypted-requires-clause-whole : goal.append_decrypted-requires-clause-whole
append_decrypted-requires-clause-whole c = intact_whole c.args.keys.now c.args.head.now c.args.body.now (sym c.is_intact.ensures ∙ c.if-not-is_intact.false)

pub returns-in_err-append_decrypted-clause-unopened : goal.returns-in_err-append_decrypted-clause-unopened
returns-in_err-append_decrypted-clause-unopened c =
    opens_after_all c.args.keys.now c.args.head.now c.args.body.now _ (sym c.is_intact.ensures ∙ c.if-not-is_intact.false) c.in-Some.ensures.plain

pub returns-clause-answered : goal.returns-clause-answered
returns-clause-answered c =
    opens_plain c.args.keys.now c.args.head.now c.args.body.now c.args.out.now.items _ _ c.len-start.result c.in-Some.plain
    (sym c.is_intact.ensures ∙ c.if-not-is_intact.false) c.in-Some.ensures.plain (search rules) (search rules) c.truncate.ensures.items

pub returns-clause-unopened : goal.returns-clause-unopened
returns-clause-unopened c =
    opens_after_all c.args.keys.now c.args.head.now c.args.body.now _ (sym c.is_intact.ensures ∙ c.if-not-is_intact.false) c.in-Some.ensures.plain
