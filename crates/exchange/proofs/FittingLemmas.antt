-- What counts of payloads that have what their fields allow has it too, and notifications have it.
use Rattle.std.proofs.Common.{◌≡◌, ◌==◌, ◌≤◌, ◌&&◌, ℕ, length, nat_le, Bool, true, false, if◌then◌else◌, List, [], ◌∷◌, Option, Some, None, option_and_then, refl, subst, arith}
use Rattle.std.specs.List.{filter, AllByRecursion}
use Rattle.std.proofs.lemmas.Bool.{leb-true}
use Rattle.base.specs.declared.selector.Selector.{Selector}
use Rattle.wire.specs.Numbers.{COOKIE, SA_TYPE, TS_I_TYPE, TS_R_TYPE}
use Rattle.wire.specs.Payloads.{type_of}
use Rattle.wire.specs.Sizes.{size_of, FitsFields}
use Rattle.wire.specs.declared.payload.Payload.{Payload}
use Rattle.wire.specs.declared.payload.Payload.TheVariants.{Notify, Sa, TsI, TsR}
use Rattle.wire.specs.declared.proposal.Proposal.{Proposal}
use Rattle.exchange.specs.Counting.{lone_item, only, only_sa, only_ts_i, only_ts_r, sa_in, ts_i_in, ts_r_in}
use Rattle.exchange.specs.Notices.{asked_cookie, cookie_in, payload_of_notice, FitsNotice}
use Rattle.exchange.specs.declared.notices.Notice.{Notice}
use Rattle.exchange.specs.declared.notices.Notice.TheVariants.{UnsupportedCriticalPayload, InvalidSyntax, NoProposalChosen, AuthenticationFailed, NoAdditionalSas, TsUnacceptable, Cookie}

keep : (P : Payload → Type 0) (b : Bool) (p : Payload) (ps : List Payload) → P p → AllByRecursion P ps → AllByRecursion P (if b then p ∷ ps else ps)
keep P true p ps here others = (here, others)
keep P false p ps here others = others

filter_keeps : (P : Payload → Type 0) (f : Payload → Bool) (ps : List Payload) → AllByRecursion P ps → AllByRecursion P (filter f ps)
filter_keeps P f [] all = tt
filter_keeps P f (p ∷ ps) all = keep P (f p) p (filter f ps) all.0 (filter_keeps P f ps all.1)

lone_holds : (P : Payload → Type 0) (ps : List Payload) (p : Payload) → AllByRecursion P ps → lone_item ps ≡ Some p → P p
lone_holds P [] p all is = absurd (cc)
lone_holds P (q ∷ []) p all is =
    let same : q ≡ p = cc in
    subst P same all.0
lone_holds P (q ∷ r ∷ ps) p all is = absurd (cc)

only_holds : (P : Payload → Type 0) (kind : ℕ) (ps : List Payload) (p : Payload) → AllByRecursion P ps → only kind ps ≡ Some p → P p
only_holds P kind ps p all is = lone_holds P (filter (λ q. type_of q == kind) ps) p (filter_keeps P (λ q. type_of q == kind) ps all) is

-- what is told of a payload that there is
told_of : {A : Type 0} (f : Payload → Option A) (P : A → Type 0) (o : Option Payload) (a : A) → ((p : Payload) → o ≡ Some p → f p ≡ Some a → P a) → option_and_then f o ≡ Some a → P a
told_of f P None a told is = absurd (cc)
told_of f P (Some p) a told is = told p refl is

sa_fits : (p : Payload) (proposals : List Proposal) → FitsFields p → sa_in p ≡ Some proposals → FitsFields (Sa proposals)
sa_fits (Sa ps) proposals fits is =
    let same : ps ≡ proposals = cc in
    subst (λ x. FitsFields (Sa x)) same fits
sa_fits p proposals fits is = absurd (cc)

ts_i_fits : (p : Payload) (selectors : List Selector) → FitsFields p → ts_i_in p ≡ Some selectors → FitsFields (TsI selectors)
ts_i_fits (TsI ss) selectors fits is =
    let same : ss ≡ selectors = cc in
    subst (λ x. FitsFields (TsI x)) same fits
ts_i_fits p selectors fits is = absurd (cc)

ts_r_fits : (p : Payload) (selectors : List Selector) → FitsFields p → ts_r_in p ≡ Some selectors → FitsFields (TsR selectors)
ts_r_fits (TsR ss) selectors fits is =
    let same : ss ≡ selectors = cc in
    subst (λ x. FitsFields (TsR x)) same fits
ts_r_fits p selectors fits is = absurd (cc)

pub only_sa_fits : (ps : List Payload) (proposals : List Proposal) → AllByRecursion FitsFields ps → only_sa ps ≡ Some proposals → FitsFields (Sa proposals)
only_sa_fits ps proposals all is =
    told_of sa_in (λ x. FitsFields (Sa x)) (only SA_TYPE ps) proposals (λ p here. sa_fits p proposals (only_holds FitsFields SA_TYPE ps p all here)) is

pub only_ts_i_fits : (ps : List Payload) (selectors : List Selector) → AllByRecursion FitsFields ps → only_ts_i ps ≡ Some selectors → FitsFields (TsI selectors)
only_ts_i_fits ps selectors all is =
    told_of ts_i_in (λ x. FitsFields (TsI x)) (only TS_I_TYPE ps) selectors (λ p here. ts_i_fits p selectors (only_holds FitsFields TS_I_TYPE ps p all here)) is

pub only_ts_r_fits : (ps : List Payload) (selectors : List Selector) → AllByRecursion FitsFields ps → only_ts_r ps ≡ Some selectors → FitsFields (TsR selectors)
only_ts_r_fits ps selectors all is =
    told_of ts_r_in (λ x. FitsFields (TsR x)) (only TS_R_TYPE ps) selectors (λ p here. ts_r_fits p selectors (only_holds FitsFields TS_R_TYPE ps p all here)) is

pub notice_fits : (notice : Notice) → FitsNotice notice → FitsFields (payload_of_notice notice) × (size_of (payload_of_notice notice) ≤ 72)
notice_fits (UnsupportedCriticalPayload kind) fits = (record { protocol_fits = omega arith; kind_fits = omega arith; spi_fits = record { some = omega arith; few = omega arith; fits = tt }; octets_fit = (fits, tt) }, omega arith)
notice_fits InvalidSyntax fits = (record { protocol_fits = omega arith; kind_fits = omega arith; spi_fits = record { some = omega arith; few = omega arith; fits = tt }; octets_fit = tt }, omega arith)
notice_fits NoProposalChosen fits = (record { protocol_fits = omega arith; kind_fits = omega arith; spi_fits = record { some = omega arith; few = omega arith; fits = tt }; octets_fit = tt }, omega arith)
notice_fits AuthenticationFailed fits = (record { protocol_fits = omega arith; kind_fits = omega arith; spi_fits = record { some = omega arith; few = omega arith; fits = tt }; octets_fit = tt }, omega arith)
notice_fits NoAdditionalSas fits = (record { protocol_fits = omega arith; kind_fits = omega arith; spi_fits = record { some = omega arith; few = omega arith; fits = tt }; octets_fit = tt }, omega arith)
notice_fits TsUnacceptable fits = (record { protocol_fits = omega arith; kind_fits = omega arith; spi_fits = record { some = omega arith; few = omega arith; fits = tt }; octets_fit = tt }, omega arith)
notice_fits (Cookie octets) fits = (record { protocol_fits = omega arith; kind_fits = omega arith; spi_fits = record { some = omega arith; few = omega arith; fits = tt }; octets_fit = fits.fits }, omega (arith, fits.few))

-- what is read of a notification as a cookie
pub record IsShort (octets : List ℕ) : Type 0 where
  pub some : 1 ≤ length octets
  pub few : length octets ≤ 64

short_cookie : (kind : ℕ) (held octets : List ℕ) (is some few : Bool) → (kind == COOKIE) ≡ is → nat_le 1 (length held) ≡ some → nat_le (length held) 64 ≡ few
    → (if is && some && few then Some held else None) ≡ Some octets → IsShort octets
short_cookie kind held octets false some few e1 e2 e3 found = absurd (cc)
short_cookie kind held octets true false few e1 e2 e3 found = absurd (cc)
short_cookie kind held octets true true false e1 e2 e3 found = absurd (cc)
short_cookie kind held octets true true true e1 e2 e3 found =
    let same : held ≡ octets = cc in
    subst IsShort same (record { some = leb-true 1 (length held) e2; few = leb-true (length held) 64 e3 })

cookie_short : (p : Payload) (octets : List ℕ) → cookie_in p ≡ Some octets → IsShort octets
cookie_short (Notify protocol spi kind held) octets found =
    short_cookie kind held octets (kind == COOKIE) (nat_le 1 (length held)) (nat_le (length held) 64) refl refl refl found
cookie_short p octets found = absurd (cc)

asked_short : (ps : List Payload) (octets : List ℕ) → asked_cookie ps ≡ Some octets → IsShort octets
asked_short [] octets found = absurd (cc)
asked_short (p ∷ []) octets found = cookie_short p octets found
asked_short (p ∷ q ∷ ps) octets found = absurd (cc)

pub some_octets : (ps : List Payload) (octets : List ℕ) → asked_cookie ps ≡ Some octets → 1 ≤ length octets
some_octets ps octets found = (asked_short ps octets found).some

pub few_octets : (ps : List Payload) (octets : List ℕ) → asked_cookie ps ≡ Some octets → length octets ≤ 64
few_octets ps octets found = (asked_short ps octets found).few
