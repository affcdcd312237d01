-- The parts of a message are determined, and what a spelling says of them.
use Rattle.std.proofs.Common.{◌≡◌, ◌==◌, ◌≢◌, ℕ, zero, suc, ◌+◌, ◌≤◌, Bool, true, false, if◌then◌else◌, List, [], ◌∷◌, Option, Some, None, slice_get, option_and_then, refl, sym, ap, subst, ◌∙◌, arith}
use Rattle.std.specs.List.{filter, AllByRecursion}
use Rattle.base.specs.Octets.{IsOctet, Octets}
use Rattle.wire.specs.Numbers.{NONCE_TYPE, SA_TYPE}
use Rattle.wire.specs.Payloads.{following, type_of, SpellsPayload, SpellsPayloads}
use Rattle.wire.specs.Proposals.{AreNumbered, NumberedFrom}
use Rattle.wire.specs.declared.message.Message.{Message}
use Rattle.wire.specs.declared.payload.Payload.{Payload}
use Rattle.wire.specs.declared.payload.Payload.TheVariants.{Sa, Nonce}
use Rattle.wire.specs.declared.proposal.Proposal.{Proposal}
use Rattle.suite.specs.Nonces.{IsNonce}
use Rattle.suite.specs.declared.sealer.Cipher.{Cipher}
use Rattle.exchange.specs.Counting.{lone_item, nonce_in, only, sa_in}
use Rattle.suite.specs.Offers.{IsAcceptableAnswer}
use Rattle.sa_init.specs.Fitting.{IsSpelled}
use Rattle.sa_init.specs.Messages.{ike_wanted}
use Rattle.sa_init.specs.Parts.{HasParts, PartsView}
use Rattle.sa_init.specs.Reading.{IsAcceptance}

same_in_some : {A : Type 0} (x y : A) → Some x ≡ Some y → x ≡ y
same_in_some x y same = cc

pub same_parts : (payloads : List Payload) (a b : PartsView) → HasParts payloads a → HasParts payloads b → a ≡ b
same_parts payloads a b has_a has_b =
    let proposals : a.proposals ≡ b.proposals = cc (has_a.sa, has_b.sa) in
    let ke : ◌≡◌ {A = ℕ × Octets} (a.group, a.public) (b.group, b.public) = same_in_some {A = ℕ × Octets} (a.group, a.public) (b.group, b.public) (sym has_a.ke ∙ has_b.ke) in
    let nonce : a.nonce ≡ b.nonce = cc (has_a.ni, has_b.ni) in
    (λ i. record { proposals = proposals i; group = (ke i).0; public = (ke i).1; nonce = nonce i })

-- no acceptance where the group is another
pub refused_by_group : (cipher : Cipher) (group : ℕ) (m : Message) (a b : PartsView) → HasParts m.payloads a → a.group ≢ group → ¬ IsAcceptance cipher group m b
refused_by_group cipher group m a b has_a other acceptance =
    other (ap (λ (p : PartsView). p.group) (same_parts m.payloads a b has_a acceptance.complete) ∙ acceptance.same_group)

-- nor where the proposals are no answer to this end's
pub refused_by_answer : (cipher : Cipher) (group : ℕ) (m : Message) (a b : PartsView) → HasParts m.payloads a
    → ((p : Proposal) → a.proposals ≡ p ∷ [] → ¬ IsAcceptableAnswer (ike_wanted cipher group) p) → ¬ IsAcceptance cipher group m b
refused_by_answer cipher group m a b has_a none acceptance =
    let same = same_parts m.payloads a b has_a acceptance.complete in
    none acceptance.accepted.proposal (ap (λ (p : PartsView). p.proposals) same ∙ acceptance.accepted.alone) acceptance.accepted.answer

-- some octets spell the payload
pub record IsSpelledPayload (p : Payload) : Type 0 where
  pub next : ℕ
  pub octets : Octets
  pub spelled : SpellsPayload IsOctet p next octets

all_spelled : (t : ℕ) (ps : List Payload) (x : Octets) → SpellsPayloads IsOctet t ps x → AllByRecursion IsSpelledPayload ps
all_spelled t [] x s = tt
all_spelled t (p ∷ ps) x s = (record { next = s.1; octets = s.2.front; spelled = s.2.first }, all_spelled (following p s.1) ps s.2.rest s.2.others)

keep : (P : Payload → Type 0) (b : Bool) (p : Payload) (ps : List Payload) → P p → AllByRecursion P ps → AllByRecursion P (if b then p ∷ ps else ps)
keep P true p ps here others = (here, others)
keep P false p ps here others = others

filter_keeps : (P : Payload → Type 0) (f : Payload → Bool) (ps : List Payload) → AllByRecursion P ps → AllByRecursion P (filter f ps)
filter_keeps P f [] all = tt
filter_keeps P f (p ∷ ps) all = keep P (f p) p (filter f ps) all.0 (filter_keeps P f ps all.1)

lone_holds : (P : Payload → Type 0) (ps : List Payload) (p : Payload) → AllByRecursion P ps → lone_item ps ≡ Some p → P p
lone_holds P [] p all is = absurd (cc)
lone_holds P (q ∷ []) p all is =
    let same : q ≡ p = cc in
    subst P same all.0
lone_holds P (q ∷ r ∷ ps) p all is = absurd (cc)

-- the only payload of a type, in a message that is spelled
only_spelled : (m : Message) (kind : ℕ) (p : Payload) → IsSpelled m → only kind m.payloads ≡ Some p → IsSpelledPayload p
only_spelled m kind p spelled is =
    lone_holds IsSpelledPayload (filter (λ q. type_of q == kind) m.payloads) p
    (filter_keeps IsSpelledPayload (λ q. type_of q == kind) m.payloads (all_spelled spelled.spelled.first m.payloads spelled.spelled.payloads spelled.spelled.chain)) is

nonce_fits : (p : Payload) (nonce : Octets) → IsSpelledPayload p → nonce_in p ≡ Some nonce → IsNonce nonce
nonce_fits (Nonce octets) nonce spelled is =
    let same : octets ≡ nonce = cc in
    subst IsNonce same (record { some = spelled.spelled.inside.some; few = spelled.spelled.inside.few })
nonce_fits p nonce spelled is = absurd (cc)

numbers_fit : (p : Payload) (proposals : List Proposal) → IsSpelledPayload p → sa_in p ≡ Some proposals → AreNumbered proposals
numbers_fit (Sa ps) proposals spelled is =
    let same : ps ≡ proposals = cc in
    subst AreNumbered same spelled.spelled.inside.numbered
numbers_fit p proposals spelled is = absurd (cc)

-- what is told of a payload that there is
told_of : {A : Type 0} (f : Payload → Option A) (P : A → Type 0) (o : Option Payload) (a : A) → ((p : Payload) → o ≡ Some p → f p ≡ Some a → P a) → option_and_then f o ≡ Some a → P a
told_of f P None a told is = absurd (cc)
told_of f P (Some p) a told is = told p refl is

pub nonce_is_nonce : (m : Message) (parts : PartsView) → IsSpelled m → HasParts m.payloads parts → IsNonce parts.nonce
nonce_is_nonce m parts spelled has =
    told_of nonce_in IsNonce (only NONCE_TYPE m.payloads) parts.nonce (λ p here. nonce_fits p parts.nonce (only_spelled m NONCE_TYPE p spelled here)) has.ni

numbered_from : (n : ℕ) (ps : List Proposal) (place : ℕ) (p : Proposal) → NumberedFrom n ps → slice_get ps place ≡ Some p → n ≤ p.number
numbered_from n [] zero p numbered is = absurd (cc)
numbered_from n [] (suc place) p numbered is = absurd (cc)
numbered_from n (q ∷ ps) zero p numbered is =
    let same : q ≡ p = cc in
    let number : p.number ≡ n = ap (λ (x : Proposal). x.number) (sym same) ∙ numbered.0 in
    omega arith
numbered_from n (q ∷ ps) (suc place) p numbered is =
    let above : n + 1 ≤ p.number = numbered_from (n + 1) ps place p numbered.1 is in
    omega arith

numbered_at : (ps : List Proposal) (place : ℕ) (p : Proposal) → AreNumbered ps → slice_get ps place ≡ Some p → 1 ≤ p.number
numbered_at [] place p numbered is = absurd numbered
numbered_at (q ∷ []) zero p numbered is =
    let same : q ≡ p = cc in
    subst (λ (x : Proposal). 1 ≤ x.number) same numbered
numbered_at (q ∷ []) (suc place) p numbered is = absurd (cc)
numbered_at (q ∷ r ∷ ps) place p numbered is = numbered_from 1 (q ∷ r ∷ ps) place p numbered is

pub numbers_are_numbers : (m : Message) (parts : PartsView) (place : ℕ) (proposal : Proposal) → IsSpelled m → HasParts m.payloads parts
    → slice_get parts.proposals place ≡ Some proposal → 1 ≤ proposal.number
numbers_are_numbers m parts place proposal spelled has =
    numbered_at parts.proposals place proposal
    (told_of sa_in AreNumbered (only SA_TYPE m.payloads) parts.proposals (λ p here. numbers_fit p parts.proposals (only_spelled m SA_TYPE p spelled here)) has.sa)
