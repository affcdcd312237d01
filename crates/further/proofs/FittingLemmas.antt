-- What is sent can be written, and is short.
use Rattle.std.proofs.Common.{◌≤◌, List, [], ◌∷◌, arith}
use Rattle.std.proofs.lemmas.List.Sums.{sum_by-cons}
use Rattle.base.specs.Octets.{Octets}
use Rattle.wire.specs.Sizes.{size_of, FitsFields}
use Rattle.wire.specs.declared.payload.Payload.{Payload}
use Rattle.wire.specs.declared.payload.Payload.TheVariants.{Sa, Nonce, TsI, TsR}
use Rattle.exchange.specs.Notices.{payload_of_notice, FitsNotice}
use Rattle.exchange.specs.declared.child.ChildPayloads.{ChildPayloads}
use Rattle.exchange.specs.declared.notices.Notice.{Notice}
use Rattle.auth.specs.Fitting.{FitWithin}
use Rattle.exchange.specs.declared.child.ChildAnswer.{ChildAnswer}
use Rattle.exchange.specs.declared.child.ChildAnswer.TheVariants as answered
use Rattle.children.specs.Asking.{FitMessages}
use Rattle.further.specs.Answering.{further_answer, FitsAnswer}
use Rattle.further.specs.Payloads.{further_payloads}

pub child_fits : (child : ChildPayloads) (nonce : Octets) → FitMessages child → FitsFields (Nonce nonce) → FitWithin 2840 (further_payloads child nonce)
child_fits child nonce fit octets =
    let selectors : List Payload = TsI child.ts_i ∷ TsR child.ts_r ∷ [] in
    let first = sum_by-cons size_of (Sa child.proposals) (Nonce nonce ∷ selectors) in
    let second = sum_by-cons size_of (Nonce nonce) selectors in
    let without = sum_by-cons size_of (Sa child.proposals) selectors in
    let short = fit.short in
    let few = octets.few in
    record { fields = (fit.fields.0, (octets, fit.fields.1)); short = omega arith }

-- what is said of Notify payloads
abbrev pub NoticesFit : Type 0
NoticesFit = (notice : Notice) → FitsNotice notice → FitsFields (payload_of_notice notice) × (size_of (payload_of_notice notice) ≤ 72)

pub notice_fits : NoticesFit → (notice : Notice) → FitsNotice notice → FitWithin 2840 (payload_of_notice notice ∷ [])
notice_fits law notice fit =
    let both = law notice fit in
    let short = both.1 in
    let alone = sum_by-cons size_of (payload_of_notice notice) [] in
    record { fields = (both.0, tt); short = omega arith }

pub answer_fits : NoticesFit → (answer : ChildAnswer) (nonce : Octets) → FitsAnswer answer → FitsFields (Nonce nonce) → FitWithin 2840 (further_answer answer nonce)
answer_fits law (answered.Payloads child) nonce fit octets = child_fits child nonce fit octets
answer_fits law (answered.Notice notice) nonce fit octets = notice_fits law notice fit
