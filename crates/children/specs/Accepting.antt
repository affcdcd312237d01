-- What an initiator accepts of the answer to what it asked (RFC 7296 sections 2.7 and 2.9).
use Rattle.std.specs.Prelude.{◌≡◌, true, List, [], ◌∷◌, Some}
use Rattle.byteorder.specs.Endian.{big_number}
use Rattle.wire.specs.declared.payload.Payload.{Payload}
use Rattle.wire.specs.declared.proposal.Proposal.{Proposal}
use Rattle.suite.specs.declared.choice.Chosen.{Chosen}
use Rattle.suite.specs.declared.choice.Wanted.TheVariants.{Esp}
use Rattle.exchange.specs.Counting.{only_sa, only_ts_i, only_ts_r}
use Rattle.suite.specs.Offers.{AcceptsAnswer}
use Rattle.exchange.specs.declared.headers.Role.TheVariants.{Initiator}
use Rattle.policy.specs.Narrowing.{AnswersOffer}
use Rattle.sadb.specs.declared.pair.Pair.{Pair}
use Rattle.children.specs.Pairs.{new_pair}
use Rattle.children.specs.Terms.{Terms}
use Rattle.children.specs.declared.asking.Asked.{Asked}
use Rattle.children.specs.declared.setting.Setting.{Setting}

-- The terms of an acceptable answer: one proposal that is due to the offer, and selectors inside those
-- offered, which are not empty.
pub record AreAcceptedTerms (asked : Asked) (answer : List Payload) (terms : Terms) : Type 0 where
  pub proposal : Proposal
  pub chosen : Chosen
  pub sa : only_sa answer ≡ Some (proposal ∷ [])
  pub accepted : AcceptsAnswer (Esp asked.extended) (proposal ∷ []) chosen
  pub own : terms.spi_i ≡ asked.spi
  pub peer : terms.spi_r ≡ big_number 4 proposal.spi
  pub extension : terms.extended ≡ chosen.extended
  pub ts_i : only_ts_i answer ≡ Some terms.ts_i
  pub ts_r : only_ts_r answer ≡ Some terms.ts_r
  pub inside_i : AnswersOffer terms.ts_i (asked.local ∷ [])
  pub inside_r : AnswersOffer terms.ts_r (asked.remote ∷ [])

-- the SA pair that an initiator has by an acceptable answer
pub record IsAcceptedChild (setting : Setting) (asked : Asked) (answer : List Payload) (pair : Pair)
    : Type 0 where
  pub terms : Terms
  pub due : AreAcceptedTerms asked answer terms
  pub made : pair ≡ new_pair Initiator setting terms

-- no terms are acceptable
abbrev pub IsUnacceptable : Asked → List Payload → Type 0
IsUnacceptable asked answer = (terms : Terms) → ¬ AreAcceptedTerms asked answer terms

-- The SA pair keeps to what was asked: it receives under the SPI that was given, its selectors lie inside
-- those asked for, and ESN is used only where that was allowed.
pub record KeepsToRequest (asked : Asked) (pair : Pair) : Type 0 where
  pub spi : pair.inbound.association.spi ≡ asked.spi
  pub local : AnswersOffer pair.local (asked.local ∷ [])
  pub remote : AnswersOffer pair.remote (asked.remote ∷ [])
  pub extension : pair.inbound.association.extended ≡ true → asked.extended ≡ true
