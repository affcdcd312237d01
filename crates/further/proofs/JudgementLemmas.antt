-- A request is judged in one way.
use Rattle.std.proofs.Common.{◌≡◌, ◌&&◌, ℕ, Bool, true, false, is_some, Option, Some, None, List, [], unwrap_or, sym, ap, ◌∙◌}
use Rattle.wire.specs.declared.payload.Payload.{Payload}
use Rattle.exchange.specs.Counting.{only_nonce, only_sa, only_ts_i, only_ts_r, unknown_critical}
use Rattle.exchange.specs.declared.notices.Notice.{Notice}
use Rattle.exchange.specs.declared.notices.Notice.TheVariants.{UnsupportedCriticalPayload, InvalidSyntax, NoProposalChosen, AuthenticationFailed, NoAdditionalSas, TsUnacceptable, Cookie}
use Rattle.further.specs.Judging.{is_complete, is_declined, Admitted, AsksFor, FurtherJudgement, FurtherRequestView, IsFurtherJudgement, Refused}

judged : Option ℕ → Bool → Bool → FurtherRequestView → FurtherJudgement
judged (Some kind) declined complete request = Refused (UnsupportedCriticalPayload kind)
judged None true complete request = Refused NoAdditionalSas
judged None false false request = Refused InvalidSyntax
judged None false true request = Admitted request

request_in : List Payload → FurtherRequestView
request_in ps = record { child = record { proposals = unwrap_or (only_sa ps) []; ts_i = unwrap_or (only_ts_i ps) []; ts_r = unwrap_or (only_ts_r ps) [] }; nonce = unwrap_or (only_nonce ps) [] }

judgement_of : List Payload → Bool → FurtherJudgement
judgement_of ps deleting = judged (unknown_critical ps) (is_declined ps deleting) (is_complete ps) (request_in ps)

all_there : (a b c d : Bool) → a ≡ true → b ≡ true → c ≡ true → d ≡ true → (a && b && c && d) ≡ true
all_there a b c d p q r s = λ i. p i && q i && r i && s i

asked_alone : (ps : List Payload) (deleting : Bool) (request : FurtherRequestView) → AsksFor ps deleting request → judgement_of ps deleting ≡ Admitted request
unfolding judgement_of judged request_in
asked_alone ps deleting request is =
    let complete : is_complete ps ≡ true = all_there _ _ _ _ (λ i. is_some (is.sa i)) (λ i. is_some (is.nonce i)) (λ i. is_some (is.ts_i i)) (λ i. is_some (is.ts_r i)) in
    let judgement : judgement_of ps deleting ≡ Admitted (request_in ps) = λ i. judged (is.known i) (is.admitted i) (complete i) (request_in ps) in
    let content : request_in ps ≡ request = λ i. record { child = record { proposals = unwrap_or (is.sa i) []; ts_i = unwrap_or (is.ts_i i) []; ts_r = unwrap_or (is.ts_r i) [] }; nonce = unwrap_or (is.nonce i) [] } in
    judgement ∙ ap (λ (r : FurtherRequestView). Admitted r) content

alone : (ps : List Payload) (deleting : Bool) (one : FurtherJudgement) → IsFurtherJudgement ps deleting one → judgement_of ps deleting ≡ one
unfolding judgement_of judged request_in
alone ps deleting (Refused (UnsupportedCriticalPayload kind)) is = λ i. judged (is i) (is_declined ps deleting) (is_complete ps) (request_in ps)
alone ps deleting (Refused NoAdditionalSas) is = λ i. judged (is.known i) (is.declined i) (is_complete ps) (request_in ps)
alone ps deleting (Refused InvalidSyntax) is = λ i. judged (is.known i) (is.admitted i) (is.missing i) (request_in ps)
alone ps deleting (Refused NoProposalChosen) is = absurd is
alone ps deleting (Refused AuthenticationFailed) is = absurd is
alone ps deleting (Refused TsUnacceptable) is = absurd is
alone ps deleting (Refused (Cookie octets)) is = absurd is
alone ps deleting (Admitted request) is = asked_alone ps deleting request is

pub judged_once : (ps : List Payload) (deleting : Bool) (one other : FurtherJudgement) → IsFurtherJudgement ps deleting one → IsFurtherJudgement ps deleting other → one ≡ other
judged_once ps deleting one other is too = sym (alone ps deleting one is) ∙ alone ps deleting other too

pub refused_or_admitted : (ps : List Payload) (deleting : Bool) (notice : Notice) (request : FurtherRequestView) → IsFurtherJudgement ps deleting (Refused notice) → AsksFor ps deleting request → ⊥
refused_or_admitted ps deleting notice request refused asks =
    let same : Refused notice ≡ Admitted request = judged_once ps deleting (Refused notice) (Admitted request) refused asks in
    cc same
