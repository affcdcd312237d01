-- What each end makes is its SA pair of the Child SA; and what a responder answers, an initiator accepts.
use Rattle.std.proofs.Common.{◌≡◌, ◌<◌, ◌≤◌, ◌^◌, ℕ, zero, suc, ◌==◌, Bool, true, false, List, [], ◌∷◌, Some, Contains, refl, sym, ap, subst, ◌∙◌, arith}
use Rattle.std.proofs.lemmas.Bool.{eq-eqb}
use Rattle.byteorder.specs.Endian.{big_bytes, big_number}
use Rattle.byteorder.specs.Numbers.{length-bytes_high_first}
use Rattle.base.specs.declared.selector.Selector.{Selector}
use Rattle.wire.specs.declared.payload.Payload.{Payload}
use Rattle.wire.specs.declared.proposal.Proposal.{Proposal}
use Rattle.wire.specs.declared.proposal.Transform.{Transform}
use Rattle.suite.specs.Choice.{acceptable_transforms, sequence_numbers, ChoosesNumbers, HasSpi, IsAcceptableProposal, IsChosenProposal, IsFirstAcceptable}
use Rattle.suite.specs.declared.choice.Chosen.{Chosen}
use Rattle.suite.specs.declared.choice.Wanted.{Wanted}
use Rattle.suite.specs.declared.choice.Wanted.TheVariants.{Esp}
use Rattle.exchange.specs.Counting.{only_sa}
use Rattle.suite.specs.Offers.{answer_of, answered_transforms, offer_of, AcceptsAnswer, IsAcceptableAnswer, IsTakenFrom}
use Rattle.exchange.specs.declared.child.ChildPayloads.{ChildPayloads}
use Rattle.exchange.specs.declared.headers.Role.TheVariants.{Initiator, Responder}
use Rattle.policy.specs.Narrowing.{AnswersOffer, IsNarrowing, LieInsidePolicy}
use Rattle.policy.specs.declared.entry.Entry.{Entry}
use Rattle.sadb.specs.Database.{Database, IsAsBefore}
use Rattle.sadb.specs.declared.pair.Pair.{Pair}
use Rattle.children.specs.Accepting.{AreAcceptedTerms, IsAcceptedChild, KeepsToRequest}
use Rattle.children.specs.Asking.{asked_proposal, child_request, HasChildPayloads}
use Rattle.children.specs.Pairs.{IsChild}
use Rattle.children.specs.Responding.{next_spi, IsMadeChild, TakesProposal}
use Rattle.children.specs.Terms.{numbers_in, AreTermsOf, IsForEsp}
use Rattle.children.specs.declared.asking.Asked.{Asked}
use Rattle.children.specs.declared.responding.Made.{Made}
use Rattle.children.specs.declared.setting.Setting.{Setting}
use Rattle.children.proofs.ListLemmas.{lone_kept, one_item, spi_back}

-- an answer has one transform for sequence numbers
numbers_answered : (allowed extended : Bool) → numbers_in (answered_transforms (Esp allowed) extended) ≡ sequence_numbers extended ∷ []
numbers_answered allowed true = refl
numbers_answered allowed false = refl

-- what is acceptable for a Child SA is for ESP
for_esp : (allowed : Bool) (p : Proposal) → IsAcceptableProposal (Esp allowed) p → IsForEsp p
for_esp allowed p x = record { protocol = x.protocol; spi = x.spi.0 }

pub made_terms : (setting : Setting) (extended : Bool) (entries : List Entry) (table : Database) (offer : ChildPayloads) (made : Made) (request reply : List Payload)
    → (m : IsMadeChild setting extended entries table offer made) → only_sa request ≡ Some offer.proposals → HasChildPayloads reply made.payloads → AreTermsOf request reply m.terms
made_terms setting extended entries table offer made request reply m asked has =
    record {
      offered = offer.proposals;
      place = m.chosen.place;
      proposal = m.due.choice.proposal;
      answer = answer_of (Esp extended) m.chosen (big_bytes 4 m.terms.spi_r);
      request_sa = asked;
      reply_sa = has.sa ∙ ap (λ (x : Made). Some x.payloads.proposals) m.whole;
      there = m.due.choice.here;
      number = m.due.choice.number;
      proposal_for = for_esp extended m.due.choice.proposal m.due.choice.acceptable;
      answer_for = record { protocol = refl; spi = length-bytes_high_first 4 m.terms.spi_r };
      spi_i = m.due.peer;
      spi_r = sym (spi_back m.terms.spi_r m.due.own_most);
      numbers = numbers_answered extended m.chosen.extended ∙ ap (λ (b : Bool). sequence_numbers b ∷ []) (sym m.due.extension);
      ts_i = has.ts_i ∙ ap (λ (x : Made). Some x.payloads.ts_i) m.whole;
      ts_r = has.ts_r ∙ ap (λ (x : Made). Some x.payloads.ts_r) m.whole;
    }

pub made_is_child : (setting : Setting) (extended : Bool) (entries : List Entry) (table : Database) (offer : ChildPayloads) (made : Made) (request reply : List Payload)
    → IsMadeChild setting extended entries table offer made → only_sa request ≡ Some offer.proposals → HasChildPayloads reply made.payloads
    → IsChild Responder setting.keys request reply made.pair
made_is_child setting extended entries table offer made request reply m asked has =
    record {
      terms = m.terms;
      agreed = made_terms setting extended entries table offer made request reply m asked has;
      inbound = ap (λ (x : Made). x.pair.inbound.association) m.whole;
      outbound = ap (λ (x : Made). x.pair.outbound.association) m.whole;
      local = ap (λ (x : Made). x.pair.local) m.whole;
      remote = ap (λ (x : Made). x.pair.remote) m.whole;
    }

same_proposal : (p q : Proposal) → p ∷ [] ≡ q ∷ [] → p ≡ q
same_proposal p q is = cc

-- the proposal of an answer that is accepted is what was chosen of it
answer_proposal : (w : Wanted) (p : Proposal) (chosen : Chosen) → AcceptsAnswer w (p ∷ []) chosen → IsAcceptableAnswer w p
answer_proposal w p chosen x = subst (λ (q : Proposal). IsAcceptableAnswer w q) (sym (same_proposal p x.proposal x.alone)) x.answer

numbers_chosen : (allowed : Bool) (p : Proposal) (chosen : Chosen) (x : AcceptsAnswer (Esp allowed) (p ∷ []) chosen) → IsFirstAcceptable (Esp allowed) 5 p.transforms (sequence_numbers chosen.extended)
numbers_chosen allowed p chosen x =
    subst (λ (q : Proposal). IsFirstAcceptable (Esp allowed) 5 q.transforms (sequence_numbers chosen.extended)) (sym (one_item p chosen.place x.choice.proposal x.choice.here)) x.choice.numbers

numbers_accepted : (allowed : Bool) (p : Proposal) (chosen : Chosen) → AcceptsAnswer (Esp allowed) (p ∷ []) chosen → numbers_in p.transforms ≡ sequence_numbers chosen.extended ∷ []
numbers_accepted allowed p chosen x =
    let found = numbers_chosen allowed p chosen x in
    let answer = answer_proposal (Esp allowed) p chosen x in
    lone_kept (λ (t : Transform). t.kind == 5) p.transforms found.place (sequence_numbers chosen.extended) (answer.one_each 2 5 (omega arith)) found.here
    (eq-eqb (sequence_numbers chosen.extended).kind 5 found.acceptable.0)

pub accepted_is_child : (setting : Setting) (asked : Asked) (request answer : List Payload) (pair : Pair) → IsAcceptedChild setting asked answer pair → asked.spi < 2 ^ 32
    → only_sa request ≡ Some (asked_proposal asked ∷ []) → IsChild Initiator setting.keys request answer pair
accepted_is_child setting asked request answer pair a small request_sa =
    let d = a.due in
    record {
      terms = a.terms;
      agreed = record {
        offered = asked_proposal asked ∷ [];
        place = 0;
        proposal = asked_proposal asked;
        answer = d.proposal;
        request_sa = request_sa;
        reply_sa = d.sa;
        there = refl;
        number = (answer_proposal (Esp asked.extended) d.proposal d.chosen d.accepted).number;
        proposal_for = record { protocol = refl; spi = length-bytes_high_first 4 asked.spi };
        answer_for = for_esp asked.extended d.proposal (answer_proposal (Esp asked.extended) d.proposal d.chosen d.accepted).acceptable;
        spi_i = d.own ∙ sym (spi_back asked.spi small);
        spi_r = d.peer;
        numbers = numbers_accepted asked.extended d.proposal d.chosen d.accepted ∙ ap (λ (b : Bool). sequence_numbers b ∷ []) (sym d.extension);
        ts_i = d.ts_i;
        ts_r = d.ts_r;
      };
      inbound = ap (λ (x : Pair). x.inbound.association) a.made;
      outbound = ap (λ (x : Pair). x.outbound.association) a.made;
      local = ap (λ (x : Pair). x.local) a.made;
      remote = ap (λ (x : Pair). x.remote) a.made;
    }

-- what is made has the SPI that the table gives next, also once there is room
pub made_next : (setting : Setting) (extended : Bool) (entries : List Entry) (old : Database) (offer : ChildPayloads) (made : Made) (new : Database) → IsMadeChild setting extended entries old offer made → IsAsBefore old new
    → made.pair.inbound.association.spi ≡ next_spi new
made_next setting extended entries old offer made new m before =
    ap (λ (x : Made). x.pair.inbound.association.spi) m.whole ∙ m.due.own ∙ sym (ap (λ (d : Database). next_spi d) before.content)

-- the laws of the crates below that say what an answer is to its offer
abbrev pub EndsAgree : Type 0
EndsAgree = (ours theirs : Wanted) (spi answer : List ℕ) (chosen : Chosen) → HasSpi ours answer → IsChosenProposal theirs (offer_of ours spi ∷ []) chosen → IsAcceptableAnswer ours (answer_of theirs chosen answer)

abbrev pub NumbersAgree : Type 0
NumbersAgree = (ours theirs : Wanted) (spi answer : List ℕ) (chosen : Chosen) → IsChosenProposal theirs (offer_of ours spi ∷ []) chosen → ChoosesNumbers ours (answer_of theirs chosen answer).transforms chosen.extended

abbrev pub LieInOffers : Type 0
LieInOffers = (entries : List Entry) (i r answer_i answer_r : List Selector) → IsNarrowing entries i r answer_i answer_r → AnswersOffer answer_i i × AnswersOffer answer_r r

none_before : (w : Wanted) (p : Proposal) (k : ℕ) (q : Proposal) → k < 0 → ⊥
none_before w p k q below = omega (arith, below)

pub reply_accepted : EndsAgree → NumbersAgree → LieInOffers → (asked : Asked) (setting : Setting) (extended : Bool) (entries : List Entry) (table : Database) (made : Made) (reply : List Payload)
    → asked.spi < 2 ^ 32 → (m : IsMadeChild setting extended entries table (child_request asked) made) → HasChildPayloads reply made.payloads → AreAcceptedTerms asked reply m.terms
reply_accepted agree numbers inside asked setting extended entries table made reply small m has =
    let own = m.terms.spi_r in
    let octets : List ℕ = big_bytes 4 m.terms.spi_r in
    let back : big_number 4 (big_bytes 4 m.terms.spi_r) ≡ m.terms.spi_r = spi_back m.terms.spi_r m.due.own_most in
    let form : HasSpi (Esp asked.extended) (big_bytes 4 m.terms.spi_r) = (length-bytes_high_first 4 m.terms.spi_r, subst (λ (k : ℕ). 256 ≤ k) (sym back) m.due.own_least) in
    let due = agree (Esp asked.extended) (Esp extended) (big_bytes 4 asked.spi) (big_bytes 4 m.terms.spi_r) m.chosen form m.due.choice in
    let offered : asked_proposal asked ≡ m.due.choice.proposal = one_item (asked_proposal asked) m.chosen.place m.due.choice.proposal m.due.choice.here in
    let lie = inside entries (asked.local ∷ []) (asked.remote ∷ []) m.terms.ts_i m.terms.ts_r m.due.narrowed in
    record {
      proposal = answer_of (Esp extended) m.chosen (big_bytes 4 m.terms.spi_r);
      chosen = record { place = 0; number = m.chosen.number; extended = m.chosen.extended };
      sa = has.sa ∙ ap (λ (x : Made). Some x.payloads.proposals) m.whole;
      accepted = record {
        proposal = answer_of (Esp extended) m.chosen (big_bytes 4 m.terms.spi_r);
        alone = refl;
        answer = due;
        choice = record {
          proposal = answer_of (Esp extended) m.chosen (big_bytes 4 m.terms.spi_r);
          here = refl;
          acceptable = due.acceptable;
          first = λ k other below. absurd (none_before (Esp asked.extended) other k other below);
          number = refl;
          numbers = numbers (Esp asked.extended) (Esp extended) (big_bytes 4 asked.spi) (big_bytes 4 m.terms.spi_r) m.chosen m.due.choice;
        };
      };
      own = m.due.peer ∙ ap (λ (p : Proposal). big_number 4 p.spi) (sym offered) ∙ spi_back asked.spi small;
      peer = sym back;
      extension = m.due.extension;
      ts_i = has.ts_i ∙ ap (λ (x : Made). Some x.payloads.ts_i) m.whole;
      ts_r = has.ts_r ∙ ap (λ (x : Made). Some x.payloads.ts_r) m.whole;
      inside_i = lie.0;
      inside_r = lie.1;
    }

-- the extension is made only where it is allowed
allowed_if : (allowed extended : Bool) → Contains (acceptable_transforms (Esp allowed)) (sequence_numbers extended) → extended ≡ true → allowed ≡ true
allowed_if true extended has is = refl
allowed_if false false has is = cc
allowed_if false true (zero, within, at) is = absurd (let k : 1 ≡ 5 = ap (λ (t : Transform). t.kind) at in omega arith)
allowed_if false true (suc zero, within, at) is = absurd (let k : 3 ≡ 5 = ap (λ (t : Transform). t.kind) at in omega arith)
allowed_if false true (suc (suc zero), within, at) is = absurd (let k : 0 ≡ 1 = ap (λ (t : Transform). t.id) at in omega arith)
allowed_if false true (suc (suc (suc k)), within, at) is = absurd (omega (arith, within))

pub extension_allowed : (setting : Setting) (extended : Bool) (entries : List Entry) (table : Database) (offer : ChildPayloads) (made : Made) → IsMadeChild setting extended entries table offer made
    → made.pair.inbound.association.extended ≡ true → extended ≡ true
extension_allowed setting extended entries table offer made m is =
    allowed_if extended m.chosen.extended m.due.choice.numbers.acceptable.1
    (sym m.due.extension ∙ sym (ap (λ (x : Made). x.pair.inbound.association.extended) m.whole) ∙ is)

pub request_kept : (setting : Setting) (asked : Asked) (answer : List Payload) (pair : Pair) → IsAcceptedChild setting asked answer pair → KeepsToRequest asked pair
request_kept setting asked answer pair a =
    let d = a.due in
    record {
      spi = ap (λ (x : Pair). x.inbound.association.spi) a.made ∙ d.own;
      local = subst (λ (x : Pair). AnswersOffer x.local (asked.local ∷ [])) (sym a.made) d.inside_i;
      remote = subst (λ (x : Pair). AnswersOffer x.remote (asked.remote ∷ [])) (sym a.made) d.inside_r;
      extension = λ is.
          allowed_if asked.extended d.chosen.extended d.accepted.choice.numbers.acceptable.1
          (sym d.extension ∙ sym (ap (λ (x : Pair). x.inbound.association.extended) a.made) ∙ is);
    }

pub pair_inside : LieInOffers → (setting : Setting) (extended : Bool) (entries : List Entry) (table : Database) (offer : ChildPayloads) (made : Made) → IsMadeChild setting extended entries table offer made
    → AnswersOffer made.pair.remote offer.ts_i × AnswersOffer made.pair.local offer.ts_r
pair_inside inside setting extended entries table offer made m =
    let lie = inside entries offer.ts_i offer.ts_r m.terms.ts_i m.terms.ts_r m.due.narrowed in (
      subst (λ (ts : List Selector). AnswersOffer ts offer.ts_i) (sym (ap (λ (x : Made). x.pair.remote) m.whole)) lie.0,
      subst (λ (ts : List Selector). AnswersOffer ts offer.ts_r) (sym (ap (λ (x : Made). x.pair.local) m.whole)) lie.1,
    )

abbrev pub LieInPolicies : Type 0
LieInPolicies = (entries : List Entry) (i r answer_i answer_r : List Selector) → IsNarrowing entries i r answer_i answer_r → LieInsidePolicy entries answer_i answer_r

pub pair_protected : LieInPolicies → (setting : Setting) (extended : Bool) (entries : List Entry) (table : Database) (offer : ChildPayloads) (made : Made) → IsMadeChild setting extended entries table offer made
    → LieInsidePolicy entries made.pair.remote made.pair.local
pair_protected inside setting extended entries table offer made m =
    subst (λ (x : Made). LieInsidePolicy entries x.pair.remote x.pair.local) (sym m.whole) (inside entries offer.ts_i offer.ts_r m.terms.ts_i m.terms.ts_r m.due.narrowed)

pub pair_narrowed : (setting : Setting) (extended : Bool) (entries : List Entry) (table : Database) (offer : ChildPayloads) (made : Made) → IsMadeChild setting extended entries table offer made
    → IsNarrowing entries offer.ts_i offer.ts_r made.pair.remote made.pair.local
pair_narrowed setting extended entries table offer made m =
    subst (λ (x : Made). IsNarrowing entries offer.ts_i offer.ts_r x.pair.remote x.pair.local) (sym m.whole) m.due.narrowed

abbrev pub AreTaken : Type 0
AreTaken = (wanted : Wanted) (proposals : List Proposal) (chosen : Chosen) (spi : List ℕ) → IsChosenProposal wanted proposals chosen → IsTakenFrom proposals chosen.place (answer_of wanted chosen spi)

pub answer_taken : AreTaken → (setting : Setting) (extended : Bool) (entries : List Entry) (table : Database) (offer : ChildPayloads) (made : Made) → IsMadeChild setting extended entries table offer made
    → TakesProposal offer.proposals made.payloads.proposals
answer_taken taken setting extended entries table offer made m =
    record {
      place = m.chosen.place;
      answer = answer_of (Esp extended) m.chosen (big_bytes 4 m.terms.spi_r);
      lone = ap (λ (x : Made). x.payloads.proposals) m.whole;
      taken = taken (Esp extended) offer.proposals m.chosen (big_bytes 4 m.terms.spi_r) m.due.choice;
    }
