-- Answers are determined.
use Rattle.std.proofs.Common.{◌≡◌, ◌<◌, ℕ, Bool, List, [], ◌∷◌, slice_get, Some, inl, inr, refl, sym, ap, subst, ◌∙◌, arith}
use Rattle.std.proofs.lemmas.Bool.Decides.{leb_tells}
use Rattle.std.proofs.lemmas.Option.{slice_get_within, get_or_from_slice_get}
use Rattle.byteorder.specs.Endian.{big_number}
use Rattle.base.specs.declared.selector.Selector.{Selector}
use Rattle.wire.specs.declared.payload.Payload.{Payload}
use Rattle.wire.specs.declared.proposal.Proposal.{Proposal}
use Rattle.wire.specs.declared.proposal.Transform.{Transform}
use Rattle.suite.specs.Choice.{sequence_numbers, IsAcceptableProposal, IsChosenProposal, IsFirstAcceptable}
use Rattle.suite.specs.declared.choice.Chosen.{Chosen}
use Rattle.suite.specs.declared.choice.Wanted.{Wanted}
use Rattle.suite.specs.declared.choice.Wanted.TheVariants.{Esp}
use Rattle.exchange.specs.declared.child.ChildPayloads.{ChildPayloads}
use Rattle.exchange.specs.declared.headers.Role.TheVariants.{Initiator}
use Rattle.exchange.specs.declared.notices.Notice.{Notice}
use Rattle.exchange.specs.declared.notices.Notice.TheVariants.{UnsupportedCriticalPayload, InvalidSyntax, NoProposalChosen, AuthenticationFailed, NoAdditionalSas, TsUnacceptable, Cookie}
use Rattle.policy.specs.Narrowing.{IsNarrowing}
use Rattle.policy.specs.declared.entry.Entry.{Entry}
use Rattle.sadb.specs.Database.{Database}
use Rattle.sadb.specs.declared.pair.Pair.{Pair}
use Rattle.children.specs.Accepting.{IsAcceptedChild}
use Rattle.children.specs.Pairs.{new_pair}
use Rattle.children.specs.Responding.{made_of, IsChildRefusal, IsChildResponse, IsMadeChild, OffersNone, OffersSome}
use Rattle.children.specs.Terms.{Terms}
use Rattle.children.specs.declared.asking.Asked.{Asked}
use Rattle.children.specs.declared.responding.Made.{Made}
use Rattle.children.specs.declared.responding.Response.{Response}
use Rattle.children.specs.declared.responding.Response.TheVariants as response
use Rattle.children.specs.declared.setting.Setting.{Setting}
use Rattle.children.proofs.TermLemmas.{same_numbers, same_terms}

same_item : {X : Type 0} (xs : List X) (k l : ℕ) (x y : X) → slice_get xs k ≡ Some x → slice_get xs l ≡ Some y → k ≡ l → x ≡ y
same_item xs k l x y here there same = cc

-- what the law of choices says
abbrev pub OneChoice : Type 0
OneChoice = (wanted : Wanted) (ps : List Proposal) (a b : Chosen) → IsChosenProposal wanted ps a → IsChosenProposal wanted ps b → a ≡ b

abbrev pub OneNarrowing : Type 0
OneNarrowing = (entries : List Entry) (i r answer_i answer_r other_i other_r : List Selector) → IsNarrowing entries i r answer_i answer_r → IsNarrowing entries i r other_i other_r
    → (answer_i ≡ other_i) × (answer_r ≡ other_r)

pub one_made : OneChoice → OneNarrowing → (setting : Setting) (extended : Bool) (entries : List Entry) (table : Database) (offer : ChildPayloads) (a b : Made) → IsMadeChild setting extended entries table offer a → IsMadeChild setting extended entries table offer b → a ≡ b
one_made choose narrow setting extended entries table offer a b x y =
    let chosen : x.chosen ≡ y.chosen = choose (Esp extended) offer.proposals x.chosen y.chosen x.due.choice y.due.choice in
    let p = x.due.choice in
    let q = y.due.choice in
    let proposal : p.proposal ≡ q.proposal = same_item offer.proposals x.chosen.place y.chosen.place p.proposal q.proposal p.here q.here (ap (λ (c : Chosen). c.place) chosen) in
    let lists = narrow entries offer.ts_i offer.ts_r x.terms.ts_i x.terms.ts_r y.terms.ts_i y.terms.ts_r x.due.narrowed y.due.narrowed in
    let terms : x.terms ≡ y.terms =
    same_terms x.terms y.terms
    (x.due.peer ∙ ap (λ (p : Proposal). big_number 4 p.spi) proposal ∙ sym y.due.peer)
    (x.due.own ∙ sym y.due.own)
    (x.due.extension ∙ ap (λ (c : Chosen). c.extended) chosen ∙ sym y.due.extension)
    lists.0 lists.1 in
    x.whole ∙ ap (λ (c : Chosen). made_of setting (Esp extended) c x.terms) chosen ∙ ap (λ (t : Terms). made_of setting (Esp extended) y.chosen t) terms ∙ sym y.whole

-- where one is chosen, not none is acceptable
some_chosen : (e : Bool) (o : ChildPayloads) → OffersNone e o → OffersSome e o → ⊥
some_chosen e o none some =
    let c = some.choice in
    let p = c.proposal in
    none some.chosen.place c.proposal (slice_get_within o.proposals some.chosen.place c.proposal c.here)
    (subst (λ (q : Proposal). IsAcceptableProposal (Esp e) q) (sym (get_or_from_slice_get o.proposals some.chosen.place c.proposal c.proposal c.here)) c.acceptable)

one_refusal : (e : Bool) (entries : List Entry) (t : Database) (o : ChildPayloads) (m n : Notice) → IsChildRefusal e entries t o m → IsChildRefusal e entries t o n → m ≡ n
one_refusal e entries t o NoProposalChosen NoProposalChosen x y = refl
one_refusal e entries t o NoProposalChosen TsUnacceptable x y = absurd (some_chosen e o x y.0)
one_refusal e entries t o NoProposalChosen NoAdditionalSas x y = absurd (some_chosen e o x y.0)
one_refusal e entries t o NoProposalChosen (UnsupportedCriticalPayload other) x y = absurd y
one_refusal e entries t o NoProposalChosen InvalidSyntax x y = absurd y
one_refusal e entries t o NoProposalChosen AuthenticationFailed x y = absurd y
one_refusal e entries t o NoProposalChosen (Cookie others) x y = absurd y
one_refusal e entries t o TsUnacceptable NoProposalChosen x y = absurd (some_chosen e o y x.0)
one_refusal e entries t o TsUnacceptable TsUnacceptable x y = refl
one_refusal e entries t o TsUnacceptable NoAdditionalSas x y = absurd (x.1 y.1)
one_refusal e entries t o TsUnacceptable (UnsupportedCriticalPayload other) x y = absurd y
one_refusal e entries t o TsUnacceptable InvalidSyntax x y = absurd y
one_refusal e entries t o TsUnacceptable AuthenticationFailed x y = absurd y
one_refusal e entries t o TsUnacceptable (Cookie others) x y = absurd y
one_refusal e entries t o NoAdditionalSas NoProposalChosen x y = absurd (some_chosen e o y x.0)
one_refusal e entries t o NoAdditionalSas TsUnacceptable x y = absurd (y.1 x.1)
one_refusal e entries t o NoAdditionalSas NoAdditionalSas x y = refl
one_refusal e entries t o NoAdditionalSas (UnsupportedCriticalPayload other) x y = absurd y
one_refusal e entries t o NoAdditionalSas InvalidSyntax x y = absurd y
one_refusal e entries t o NoAdditionalSas AuthenticationFailed x y = absurd y
one_refusal e entries t o NoAdditionalSas (Cookie others) x y = absurd y
one_refusal e entries t o (UnsupportedCriticalPayload kind) n x y = absurd x
one_refusal e entries t o InvalidSyntax n x y = absurd x
one_refusal e entries t o AuthenticationFailed n x y = absurd x
one_refusal e entries t o (Cookie octets) n x y = absurd x

not_refused : (setting : Setting) (extended : Bool) (entries : List Entry) (t : Database) (o : ChildPayloads) (made : Made) (n : Notice) → IsMadeChild setting extended entries t o made → IsChildRefusal extended entries t o n → ⊥
not_refused setting extended entries t o made NoProposalChosen m x = some_chosen extended o x (record { chosen = m.chosen; choice = m.due.choice })
not_refused setting extended entries t o made TsUnacceptable m x = x.1 (record { place = m.due.narrowed.place; entry = m.due.narrowed.entry; chosen = m.due.narrowed.chosen })
not_refused setting extended entries t o made NoAdditionalSas m x = elim (x.2) [
  | inl full ↦ m.due.not_full full
  | inr spent ↦ m.due.not_spent spent
]
not_refused setting extended entries t o made (UnsupportedCriticalPayload kind) m x = x
not_refused setting extended entries t o made InvalidSyntax m x = x
not_refused setting extended entries t o made AuthenticationFailed m x = x
not_refused setting extended entries t o made (Cookie octets) m x = x

pub one_response : OneChoice → OneNarrowing → (setting : Setting) (extended : Bool) (entries : List Entry) (table : Database) (offer : ChildPayloads) (a b : Response) → IsChildResponse setting extended entries table offer a → IsChildResponse setting extended entries table offer b → a ≡ b
one_response choose narrow setting extended entries table offer (response.Made a) (response.Made b) x y = ap (λ (m : Made). response.Made m) (one_made choose narrow setting extended entries table offer a b x y)
one_response choose narrow setting extended entries table offer (response.Made a) (response.Refused n) x y = absurd (not_refused setting extended entries table offer a n x y)
one_response choose narrow setting extended entries table offer (response.Refused m) (response.Made b) x y = absurd (not_refused setting extended entries table offer b m y x)
one_response choose narrow setting extended entries table offer (response.Refused m) (response.Refused n) x y = ap (λ (k : Notice). response.Refused k) (one_refusal extended entries table offer m n x y)

same_first : (a b : Proposal) → Some (a ∷ []) ≡ Some (b ∷ []) → a ≡ b
same_first a b is = cc

same_list : {X : Type 0} (a b : List X) → Some a ≡ Some b → a ≡ b
same_list a b is = cc

pub one_accepted : OneChoice → (setting : Setting) (asked : Asked) (answer : List Payload) (a b : Pair) → IsAcceptedChild setting asked answer a → IsAcceptedChild setting asked answer b → a ≡ b
one_accepted choose setting asked answer a b x y =
    let d = x.due in
    let f = y.due in
    let proposal : x.due.proposal ≡ y.due.proposal = same_first x.due.proposal y.due.proposal (sym x.due.sa ∙ y.due.sa) in
    let other = subst (λ (p : Proposal). IsChosenProposal (Esp asked.extended) (p ∷ []) y.due.chosen) (sym proposal) y.due.accepted.choice in
    let chosen : x.due.chosen ≡ y.due.chosen = choose (Esp asked.extended) (x.due.proposal ∷ []) x.due.chosen y.due.chosen x.due.accepted.choice other in
    let terms : x.terms ≡ y.terms =
    same_terms x.terms y.terms
    (x.due.own ∙ sym y.due.own)
    (x.due.peer ∙ ap (λ (p : Proposal). big_number 4 p.spi) proposal ∙ sym y.due.peer)
    (x.due.extension ∙ ap (λ (c : Chosen). c.extended) chosen ∙ sym y.due.extension)
    (same_list x.terms.ts_i y.terms.ts_i (sym x.due.ts_i ∙ y.due.ts_i))
    (same_list x.terms.ts_r y.terms.ts_r (sym x.due.ts_r ∙ y.due.ts_r)) in
    x.made ∙ ap (λ (t : Terms). new_pair Initiator setting t) terms ∙ sym y.made
