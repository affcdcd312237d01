-- Judgements are determined.
use Rattle.std.proofs.Common.{◌≡◌, ℕ, List, Some, None, slice_get, All, inl, inr, refl, sym, ap, subst, ◌∙◌, arith}
use Rattle.std.proofs.lemmas.Bool.{cases_order}
use Rattle.std.proofs.lemmas.Option.{slice_get_within, get_or_from_slice_get}
use Rattle.base.specs.Octets.{Octets}
use Rattle.wire.specs.declared.payload.Payload.{Payload}
use Rattle.wire.specs.declared.proposal.Proposal.{Proposal}
use Rattle.suite.specs.Choice.{IsAcceptableProposal, IsChosenProposal}
use Rattle.suite.specs.declared.choice.Chosen.{Chosen}
use Rattle.suite.specs.declared.choice.Wanted.{Wanted}
use Rattle.suite.specs.declared.sealer.Cipher.{Cipher}
use Rattle.exchange.specs.Counting.{unknown_critical}
use Rattle.exchange.specs.declared.notices.Notice.TheVariants.{UnsupportedCriticalPayload, InvalidSyntax, NoProposalChosen, AuthenticationFailed, NoAdditionalSas, TsUnacceptable, Cookie}
use Rattle.sa_init.specs.Cookies.{new_cookie, CookieSecrets}
use Rattle.sa_init.specs.Judging.{Accepted, Answered, BringsRightCookie, Full, Incomplete, IsAccepted, IsConsidered, IsDeclined, IsHeard, IsIncomplete, IsJudgement, IsSuited, IsTurnedAway, IsUnsuited, IsWhole, JudgementView, OfferView, WantsCookie}
use Rattle.sa_init.specs.Messages.{ike_wanted}
use Rattle.sa_init.specs.Parts.{PartsView}
use Rattle.sa_init.specs.declared.judging.Sender.{Sender}
use Rattle.sa_init.proofs.PartLemmas.{same_parts}

-- what the law of choices says
abbrev pub OneChoice : Type 0
OneChoice = (wanted : Wanted) (ps : List Proposal) (a b : Chosen) → IsChosenProposal wanted ps a → IsChosenProposal wanted ps b → a ≡ b

-- what holds of all of a list holds at a place
all_at : (P : Proposal → Type 0) (ps : List Proposal) (place : ℕ) (p : Proposal) → All P ps → slice_get ps place ≡ Some p → P p
all_at P ps place p all here = subst P (get_or_from_slice_get ps place p p here) (all place p (slice_get_within ps place p here))

whole_same : (ps : List Payload) (a b : PartsView) → IsWhole ps a → IsWhole ps b → a ≡ b
whole_same ps a b one other = same_parts ps a b one.complete other.complete

critical_known : (ps : List Payload) (kind : ℕ) → unknown_critical ps ≡ Some kind → unknown_critical ps ≡ None → ⊥
critical_known ps kind critical known = cc

incomplete_apart : (ps : List Payload) (parts : PartsView) → IsIncomplete ps → IsWhole ps parts → ⊥
incomplete_apart ps parts incomplete whole = incomplete.missing parts whole.complete

-- whose cookie is asked for isn't heard
cookie_apart : (secrets : CookieSecrets) (sender : Sender) (h : ℕ) (ps : List Payload) (octets : Octets) (parts : PartsView) → WantsCookie secrets sender h ps octets → IsHeard secrets sender h ps parts → ⊥
cookie_apart secrets sender h ps octets parts wants heard =
    let same : parts ≡ wants.parts = whole_same ps parts wants.parts heard.whole wants.whole in
    elim heard.reached [
      | inl few ↦ omega (arith, few, wants.many)
      | inr right ↦ wants.unproved (subst (λ (p : PartsView). BringsRightCookie secrets sender ps p.nonce) same right)
    ]

room_apart : (secrets : CookieSecrets) (sender : Sender) (h held : ℕ) (ps : List Payload) (parts : PartsView) → IsTurnedAway secrets sender h held ps → IsConsidered secrets sender h held ps parts → ⊥
room_apart secrets sender h held ps parts away considered =
    elim away.full [
      | inl opening ↦ omega (arith, opening, considered.opening)
      | inr holding ↦ omega (arith, holding, considered.holding)
    ]

unsuited_apart : (cipher : Cipher) (group : ℕ) (parts : PartsView) (chosen : Chosen) → IsUnsuited cipher group parts → IsSuited cipher group parts chosen → ⊥
unsuited_apart cipher group parts chosen unsuited suited =
    elim unsuited [
      | inl other ↦ other suited.same_group
      | inr none ↦ all_at (λ p. ¬ IsAcceptableProposal (ike_wanted cipher group) p) parts.proposals chosen.place suited.choice.proposal none suited.choice.here suited.choice.acceptable
    ]

choice_apart : (cipher : Cipher) (group : ℕ) (secrets : CookieSecrets) (sender : Sender) (h held : ℕ) (ps : List Payload) (offer : OfferView)
    → IsDeclined cipher group secrets sender h held ps → IsAccepted cipher group secrets sender h held ps offer → ⊥
choice_apart cipher group secrets sender h held ps offer declined accepted =
    let same : declined.parts ≡ accepted.parts = whole_same ps declined.parts accepted.parts declined.considered.heard.whole accepted.considered.heard.whole in
    unsuited_apart cipher group accepted.parts offer.chosen (subst (λ (p : PartsView). IsUnsuited cipher group p) same declined.unsuited) accepted.suited

one_cookie : (secrets : CookieSecrets) (sender : Sender) (h : ℕ) (ps : List Payload) (a b : Octets) → WantsCookie secrets sender h ps a → WantsCookie secrets sender h ps b → a ≡ b
one_cookie secrets sender h ps a b x y =
    x.made ∙ ap (λ (p : PartsView). new_cookie secrets p.nonce sender.address sender.spi_i) (whole_same ps x.parts y.parts x.whole y.whole) ∙ sym y.made

one_offer : OneChoice → (cipher : Cipher) (group : ℕ) (secrets : CookieSecrets) (sender : Sender) (h held : ℕ) (ps : List Payload) (a b : OfferView)
    → IsAccepted cipher group secrets sender h held ps a → IsAccepted cipher group secrets sender h held ps b → a ≡ b
one_offer choose cipher group secrets sender h held ps a b x y =
    let same : x.parts ≡ y.parts = whole_same ps x.parts y.parts x.considered.heard.whole y.considered.heard.whole in
    let choice = subst (λ (p : PartsView). IsSuited cipher group p a.chosen) same x.suited in
    let chosen : a.chosen ≡ b.chosen = choose (ike_wanted cipher group) y.parts.proposals a.chosen b.chosen choice.choice y.suited.choice in
    let public : a.public ≡ b.public = x.value ∙ ap (λ (p : PartsView). p.public) same ∙ sym y.value in
    let nonce : a.nonce ≡ b.nonce = x.ni ∙ ap (λ (p : PartsView). p.nonce) same ∙ sym y.ni in
    (λ i. record { chosen = chosen i; public = public i; nonce = nonce i })

pub determined : OneChoice → (cipher : Cipher) (group : ℕ) (secrets : CookieSecrets) (sender : Sender) (h held : ℕ) (ps : List Payload) (one other : JudgementView)
    → IsJudgement cipher group secrets sender h held ps one → IsJudgement cipher group secrets sender h held ps other → one ≡ other
determined choose cipher group secrets sender h held ps (Answered (UnsupportedCriticalPayload kind)) (Answered (UnsupportedCriticalPayload other)) x y = ap (λ (n : ℕ). Answered (UnsupportedCriticalPayload n)) (let same : kind ≡ other = cc in same)
determined choose cipher group secrets sender h held ps (Answered (UnsupportedCriticalPayload kind)) Incomplete x y = absurd (critical_known ps kind x y.known)
determined choose cipher group secrets sender h held ps (Answered (UnsupportedCriticalPayload kind)) (Answered (Cookie octets)) x y = absurd (critical_known ps kind x y.whole.known)
determined choose cipher group secrets sender h held ps (Answered (UnsupportedCriticalPayload kind)) Full x y = absurd (critical_known ps kind x y.heard.whole.known)
determined choose cipher group secrets sender h held ps (Answered (UnsupportedCriticalPayload kind)) (Answered NoProposalChosen) x y = absurd (critical_known ps kind x y.considered.heard.whole.known)
determined choose cipher group secrets sender h held ps (Answered (UnsupportedCriticalPayload kind)) (Accepted offer) x y = absurd (critical_known ps kind x y.considered.heard.whole.known)
determined choose cipher group secrets sender h held ps (Answered (UnsupportedCriticalPayload kind)) (Answered InvalidSyntax) x y = absurd y
determined choose cipher group secrets sender h held ps (Answered (UnsupportedCriticalPayload kind)) (Answered AuthenticationFailed) x y = absurd y
determined choose cipher group secrets sender h held ps (Answered (UnsupportedCriticalPayload kind)) (Answered NoAdditionalSas) x y = absurd y
determined choose cipher group secrets sender h held ps (Answered (UnsupportedCriticalPayload kind)) (Answered TsUnacceptable) x y = absurd y
determined choose cipher group secrets sender h held ps Incomplete (Answered (UnsupportedCriticalPayload kind)) x y = absurd (critical_known ps kind y x.known)
determined choose cipher group secrets sender h held ps Incomplete Incomplete x y = refl
determined choose cipher group secrets sender h held ps Incomplete (Answered (Cookie octets)) x y = absurd (incomplete_apart ps y.parts x y.whole)
determined choose cipher group secrets sender h held ps Incomplete Full x y = absurd (incomplete_apart ps y.parts x y.heard.whole)
determined choose cipher group secrets sender h held ps Incomplete (Answered NoProposalChosen) x y = absurd (incomplete_apart ps y.parts x y.considered.heard.whole)
determined choose cipher group secrets sender h held ps Incomplete (Accepted offer) x y = absurd (incomplete_apart ps y.parts x y.considered.heard.whole)
determined choose cipher group secrets sender h held ps Incomplete (Answered InvalidSyntax) x y = absurd y
determined choose cipher group secrets sender h held ps Incomplete (Answered AuthenticationFailed) x y = absurd y
determined choose cipher group secrets sender h held ps Incomplete (Answered NoAdditionalSas) x y = absurd y
determined choose cipher group secrets sender h held ps Incomplete (Answered TsUnacceptable) x y = absurd y
determined choose cipher group secrets sender h held ps (Answered (Cookie octets)) (Answered (UnsupportedCriticalPayload kind)) x y = absurd (critical_known ps kind y x.whole.known)
determined choose cipher group secrets sender h held ps (Answered (Cookie octets)) Incomplete x y = absurd (incomplete_apart ps x.parts y x.whole)
determined choose cipher group secrets sender h held ps (Answered (Cookie octets)) (Answered (Cookie other)) x y = ap (λ (o : Octets). Answered (Cookie o)) (one_cookie secrets sender h ps octets other x y)
determined choose cipher group secrets sender h held ps (Answered (Cookie octets)) Full x y = absurd (cookie_apart secrets sender h ps octets y.parts x y.heard)
determined choose cipher group secrets sender h held ps (Answered (Cookie octets)) (Answered NoProposalChosen) x y = absurd (cookie_apart secrets sender h ps octets y.parts x y.considered.heard)
determined choose cipher group secrets sender h held ps (Answered (Cookie octets)) (Accepted offer) x y = absurd (cookie_apart secrets sender h ps octets y.parts x y.considered.heard)
determined choose cipher group secrets sender h held ps (Answered (Cookie octets)) (Answered InvalidSyntax) x y = absurd y
determined choose cipher group secrets sender h held ps (Answered (Cookie octets)) (Answered AuthenticationFailed) x y = absurd y
determined choose cipher group secrets sender h held ps (Answered (Cookie octets)) (Answered NoAdditionalSas) x y = absurd y
determined choose cipher group secrets sender h held ps (Answered (Cookie octets)) (Answered TsUnacceptable) x y = absurd y
determined choose cipher group secrets sender h held ps Full (Answered (UnsupportedCriticalPayload kind)) x y = absurd (critical_known ps kind y x.heard.whole.known)
determined choose cipher group secrets sender h held ps Full Incomplete x y = absurd (incomplete_apart ps x.parts y x.heard.whole)
determined choose cipher group secrets sender h held ps Full (Answered (Cookie octets)) x y = absurd (cookie_apart secrets sender h ps octets x.parts y x.heard)
determined choose cipher group secrets sender h held ps Full Full x y = refl
determined choose cipher group secrets sender h held ps Full (Answered NoProposalChosen) x y = absurd (room_apart secrets sender h held ps y.parts x y.considered)
determined choose cipher group secrets sender h held ps Full (Accepted offer) x y = absurd (room_apart secrets sender h held ps y.parts x y.considered)
determined choose cipher group secrets sender h held ps Full (Answered InvalidSyntax) x y = absurd y
determined choose cipher group secrets sender h held ps Full (Answered AuthenticationFailed) x y = absurd y
determined choose cipher group secrets sender h held ps Full (Answered NoAdditionalSas) x y = absurd y
determined choose cipher group secrets sender h held ps Full (Answered TsUnacceptable) x y = absurd y
determined choose cipher group secrets sender h held ps (Answered NoProposalChosen) (Answered (UnsupportedCriticalPayload kind)) x y = absurd (critical_known ps kind y x.considered.heard.whole.known)
determined choose cipher group secrets sender h held ps (Answered NoProposalChosen) Incomplete x y = absurd (incomplete_apart ps x.parts y x.considered.heard.whole)
determined choose cipher group secrets sender h held ps (Answered NoProposalChosen) (Answered (Cookie octets)) x y = absurd (cookie_apart secrets sender h ps octets x.parts y x.considered.heard)
determined choose cipher group secrets sender h held ps (Answered NoProposalChosen) Full x y = absurd (room_apart secrets sender h held ps x.parts y x.considered)
determined choose cipher group secrets sender h held ps (Answered NoProposalChosen) (Answered NoProposalChosen) x y = refl
determined choose cipher group secrets sender h held ps (Answered NoProposalChosen) (Accepted offer) x y = absurd (choice_apart cipher group secrets sender h held ps offer x y)
determined choose cipher group secrets sender h held ps (Answered NoProposalChosen) (Answered InvalidSyntax) x y = absurd y
determined choose cipher group secrets sender h held ps (Answered NoProposalChosen) (Answered AuthenticationFailed) x y = absurd y
determined choose cipher group secrets sender h held ps (Answered NoProposalChosen) (Answered NoAdditionalSas) x y = absurd y
determined choose cipher group secrets sender h held ps (Answered NoProposalChosen) (Answered TsUnacceptable) x y = absurd y
determined choose cipher group secrets sender h held ps (Accepted offer) (Answered (UnsupportedCriticalPayload kind)) x y = absurd (critical_known ps kind y x.considered.heard.whole.known)
determined choose cipher group secrets sender h held ps (Accepted offer) Incomplete x y = absurd (incomplete_apart ps x.parts y x.considered.heard.whole)
determined choose cipher group secrets sender h held ps (Accepted offer) (Answered (Cookie octets)) x y = absurd (cookie_apart secrets sender h ps octets x.parts y x.considered.heard)
determined choose cipher group secrets sender h held ps (Accepted offer) Full x y = absurd (room_apart secrets sender h held ps x.parts y x.considered)
determined choose cipher group secrets sender h held ps (Accepted offer) (Answered NoProposalChosen) x y = absurd (choice_apart cipher group secrets sender h held ps offer y x)
determined choose cipher group secrets sender h held ps (Accepted offer) (Accepted other) x y = ap (λ (o : OfferView). Accepted o) (one_offer choose cipher group secrets sender h held ps offer other x y)
determined choose cipher group secrets sender h held ps (Accepted offer) (Answered InvalidSyntax) x y = absurd y
determined choose cipher group secrets sender h held ps (Accepted offer) (Answered AuthenticationFailed) x y = absurd y
determined choose cipher group secrets sender h held ps (Accepted offer) (Answered NoAdditionalSas) x y = absurd y
determined choose cipher group secrets sender h held ps (Accepted offer) (Answered TsUnacceptable) x y = absurd y
determined choose cipher group secrets sender h held ps (Answered InvalidSyntax) other x y = absurd x
determined choose cipher group secrets sender h held ps (Answered AuthenticationFailed) other x y = absurd x
determined choose cipher group secrets sender h held ps (Answered NoAdditionalSas) other x y = absurd x
determined choose cipher group secrets sender h held ps (Answered TsUnacceptable) other x y = absurd x
