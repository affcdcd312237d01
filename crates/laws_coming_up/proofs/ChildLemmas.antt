-- What a responder answers to the offer of a first Child SA, whatever its table holds: the pair on the terms
-- that both ends agree on, or the notification that is due (RFC 7296 sections 1.3 and 2.9).
use Rattle.std.proofs.Common.{◌≡◌, ◌≤◌, ◌<◌, ◌^◌, ◌∷◌, ◌&&◌, inl, inr, ℕ, zero, suc, Bool, List, [], Some, slice_get, ap, arith, refl, sym, ◌∙◌}
use Rattle.std.proofs.lemmas.List.{append-nil}
use Rattle.std.specs.FinMap as map
use Rattle.std.specs.FinSet as set
use Rattle.std.specs.Ordering.{nat_cmp}
use Rattle.byteorder.specs.Endian.{big_bytes, big_number}
use Rattle.byteorder.specs.Numbers.{big_number-reads_back, length-bytes_high_first}
use Rattle.wire.specs.declared.proposal.Proposal.{Proposal}
use Rattle.suite.specs.Choice.{HasSpi}
use Rattle.suite.specs.declared.choice.Chosen.{Chosen}
use Rattle.suite.specs.declared.choice.Wanted.TheVariants.{Esp}
use Rattle.exchange.specs.declared.child.ChildPayloads.{ChildPayloads}
use Rattle.exchange.specs.declared.notices.Notice.TheVariants.{NoAdditionalSas, NoProposalChosen, TsUnacceptable}
use Rattle.policy.specs.declared.entry.Entry.{Entry}
use Rattle.sadb.specs.Database.{empty_table, Database, IsFull, IsSpent}
use Rattle.sadb.specs.declared.pair.Pair.{Pair}
use Rattle.association.specs.AskedChildren.{asked_of}
use Rattle.children.specs.Asking.{asked_proposal, child_request}
use Rattle.children.specs.Responding.{made_of, CanBeNarrowed, IsChildResponse, IsMadeChild, OffersNone, TakesNoMore}
use Rattle.children.specs.Terms.{Terms}
use Rattle.children.specs.declared.responding.Made.{Made}
use Rattle.children.specs.declared.responding.Response.{Response}
use Rattle.children.specs.declared.responding.Response.TheVariants as response
use Rattle.children.specs.declared.setting.Setting.{Setting}
use Rattle.laws_opening.specs.Beside.{next_spi}
use Rattle.laws_coming_up.specs.ComingUp.{chosen_on}
use Rattle.laws_coming_up.specs.ComingUpBeside.{AreTermsIn, HasPlace, Meeting}
use Rattle.laws_coming_up.proofs.OfferLemmas.{chosen_by, chosen_so, chosen_with, ChoosesOnce, OffersAreAcceptable}

-- ---- the offer

pub spi_back : (spi : ℕ) → spi < 2 ^ 32 → big_number 4 (big_bytes 4 spi) ≡ spi
spi_back spi small = ap (big_number 4) (sym (append-nil (big_bytes 4 spi))) ∙ big_number-reads_back 4 spi [] (omega (arith, small))

pub offers_spi : (extended : Bool) (spi : ℕ) → 256 ≤ spi → spi < 2 ^ 32 → HasSpi (Esp extended) (big_bytes 4 spi)
offers_spi extended spi least most = (
  length-bytes_high_first 4 spi,
  (let back = spi_back spi most in omega (arith, back, least)),
)

one_item : (x : Proposal) (place : ℕ) (y : Proposal) → slice_get (x ∷ []) place ≡ Some y → x ≡ y
one_item x zero y is = cc
one_item x (suc place) y is = cc

-- ---- the answer

module _ (acceptable : OffersAreAcceptable) (once : ChoosesOnce) (d : Meeting) (least : 256 ≤ d.child.spi) (most : d.child.spi < 2 ^ 32)
    (setting : Setting) (extended : Bool) (entries : List Entry) (table : Database) where
  abbrev offer : ChildPayloads
  offer = child_request (asked_of d.child)

  abbrev proposal : Proposal
  proposal = asked_proposal (asked_of d.child)

  abbrev spelled : List ℕ
  spelled = big_bytes 4 d.child.spi

  form : HasSpi (Esp d.child.extended) spelled
  form = offers_spi d.child.extended d.child.spi least most

  -- some proposal is acceptable
  not_none : ¬ OffersNone extended offer
  not_none none = none 0 proposal (omega arith) (acceptable d.child.extended extended spelled form)

  -- the terms, and the answer on them
  pub record AnswersOnTerms (answer : Response) : Type 0 where
    pub terms : Terms
    pub agreed : AreTermsIn d extended entries (next_spi table) terms
    pub is : answer ≡ response.Made (made_of setting (Esp extended) (chosen_on terms) terms)

  on_terms : (made : Made) → IsMadeChild setting extended entries table offer made → AnswersOnTerms (response.Made made)
  on_terms made m =
      let chosen : m.chosen ≡ chosen_by d.child.extended extended = chosen_so acceptable d.child.extended extended spelled form once m.chosen m.due.choice in
      let extension : m.terms.extended ≡ (d.child.extended && extended) = m.due.extension ∙ ap (λ (c : Chosen). c.extended) chosen in
      let offered : proposal ≡ m.due.choice.proposal = one_item proposal m.chosen.place m.due.choice.proposal m.due.choice.here in
      let choice : m.chosen ≡ chosen_on m.terms = chosen ∙ ap (λ (b : Bool). record { place = 0; number = 1; extended = b }) (sym extension) in
      record {
        terms = m.terms;
        agreed = record {
          spi_i = m.due.peer ∙ ap (λ (p : Proposal). big_number 4 p.spi) (sym offered) ∙ spi_back d.child.spi most;
          spi_r = m.due.own;
          least = m.due.own_least;
          most = m.due.own_most;
          extension = extension;
          narrowed = m.due.narrowed;
        };
        is = ap (λ (x : Made). response.Made x) (m.whole ∙ ap (λ (c : Chosen). made_of setting (Esp extended) c m.terms) choice);
      }

  no_more : HasPlace table → ¬ TakesNoMore table
  no_more has (inl full) = has.not_full full
  no_more has (inr spent) = has.not_spent spent

  pub answers_on_terms : CanBeNarrowed entries offer → HasPlace table → (answer : Response) → IsChildResponse setting extended entries table offer answer
      → AnswersOnTerms answer
  answers_on_terms can has (response.Made made) child = on_terms made child
  answers_on_terms can has (response.Refused NoProposalChosen) child = absurd (not_none child)
  answers_on_terms can has (response.Refused TsUnacceptable) child = absurd (child.1 can)
  answers_on_terms can has (response.Refused NoAdditionalSas) child = absurd (no_more has child.2)
  answers_on_terms can has (response.Refused notice) child = absurd child

  can_be : (made : Made) → IsMadeChild setting extended entries table offer made → CanBeNarrowed entries offer
  can_be made m = record { place = m.due.narrowed.place; entry = m.due.narrowed.entry; chosen = m.due.narrowed.chosen }

  pub answers_none : ¬ CanBeNarrowed entries offer → (answer : Response) → IsChildResponse setting extended entries table offer answer
      → answer ≡ response.Refused TsUnacceptable
  answers_none cannot (response.Made made) child = absurd (cannot (can_be made child))
  answers_none cannot (response.Refused NoProposalChosen) child = absurd (not_none child)
  answers_none cannot (response.Refused TsUnacceptable) child = refl
  answers_none cannot (response.Refused NoAdditionalSas) child = absurd (cannot child.1)
  answers_none cannot (response.Refused notice) child = absurd child

  has_place : (made : Made) → IsMadeChild setting extended entries table offer made → HasPlace table
  has_place made m = record { not_full = m.due.not_full; not_spent = m.due.not_spent }

  -- where the table takes no more, it says so
  pub answers_no_more : CanBeNarrowed entries offer → TakesNoMore table → (answer : Response) → IsChildResponse setting extended entries table offer answer
      → answer ≡ response.Refused NoAdditionalSas
  answers_no_more can takes (response.Made made) child = absurd (no_more (has_place made child) takes)
  answers_no_more can takes (response.Refused NoProposalChosen) child = absurd (not_none child)
  answers_no_more can takes (response.Refused TsUnacceptable) child = absurd (child.1 can)
  answers_no_more can takes (response.Refused NoAdditionalSas) child = refl
  answers_no_more can takes (response.Refused notice) child = absurd child

-- ---- so it answers on such terms, whichever they are

-- a table that gave none yet can take a pair
pub empty_not_full : (start : ℕ) → ¬ IsFull (empty_table start)
empty_not_full start full =
    let pairs = map.len-empty nat_cmp Pair in
    let spis = set.len-empty nat_cmp in
    absurd (omega (arith, full, pairs, spis))

pub empty_not_spent : (start : ℕ) → ¬ IsSpent (empty_table start)
empty_not_spent start spent = absurd (omega (arith, spent))

module _ (acceptable : OffersAreAcceptable) (d : Meeting) (least : 256 ≤ d.child.spi) (most : d.child.spi < 2 ^ 32)
    (setting : Setting) (extended : Bool) (entries : List Entry) (spi : ℕ) where
  abbrev pub made_on : (terms : Terms) → AreTermsIn d extended entries spi terms
      → IsMadeChild setting extended entries (empty_table terms.spi_r) (child_request (asked_of d.child))
      (made_of setting (Esp extended) (chosen_on terms) terms)
  made_on terms agreed = record {
    chosen = chosen_on terms;
    terms = terms;
    due = record {
      choice = chosen_with acceptable d.child.extended extended (big_bytes 4 d.child.spi) (offers_spi d.child.extended d.child.spi least most) terms.extended agreed.extension;
      peer = agreed.spi_i ∙ sym (spi_back d.child.spi most);
      own = omega arith;
      own_least = agreed.least;
      own_most = agreed.most;
      extension = refl;
      narrowed = agreed.narrowed;
      not_full = empty_not_full terms.spi_r;
      not_spent = empty_not_spent terms.spi_r;
    };
    whole = refl;
  }
