-- What is answered goes by what the table holds, and so does what is installed.
use Rattle.std.proofs.Common.{◌≡◌, ℕ, Bool, List, subst}
use Rattle.wire.specs.declared.payload.Payload.{Payload}
use Rattle.exchange.specs.declared.child.ChildPayloads.{ChildPayloads}
use Rattle.exchange.specs.declared.notices.Notice.{Notice}
use Rattle.exchange.specs.declared.notices.Notice.TheVariants.{UnsupportedCriticalPayload, InvalidSyntax, NoProposalChosen, AuthenticationFailed, NoAdditionalSas, TsUnacceptable, Cookie}
use Rattle.policy.specs.declared.entry.Entry.{Entry}
use Rattle.sadb.specs.Contents.{table_content}
use Rattle.sadb.specs.Database.{Database, Installs, Reserves}
use Rattle.sadb.specs.declared.pair.Pair.{Pair}
use Rattle.suite.specs.declared.choice.Chosen.{Chosen}
use Rattle.children.specs.Accepting.{IsAcceptedChild, IsUnacceptable}
use Rattle.children.specs.Responding.{AddsNext, AreMadeTerms, IsChildRefusal, IsChildResponse, IsMadeChild}
use Rattle.children.specs.Terms.{Terms}
use Rattle.children.specs.declared.asking.Asked.{Asked}
use Rattle.children.specs.declared.responding.Made.{Made}
use Rattle.children.specs.declared.responding.Response.{Response}
use Rattle.children.specs.declared.responding.Response.TheVariants as response
use Rattle.children.specs.declared.setting.Setting.{Setting}

pub accepted_or_not : (setting : Setting) (asked : Asked) (answer : List Payload) (pair : Pair) → IsAcceptedChild setting asked answer pair → ¬ IsUnacceptable asked answer
accepted_or_not setting asked answer pair is none = none is.terms is.due

-- the table enters by what it holds alone
terms_by_content : (extended : Bool) (entries : List Entry) (table : Database) (offer : ChildPayloads) (chosen : Chosen) (terms : Terms) → AreMadeTerms extended entries table offer chosen terms → AreMadeTerms extended entries (table_content table) offer chosen terms
terms_by_content extended entries table offer chosen terms is = record {
  choice = is.choice;
  peer = is.peer;
  own = is.own;
  own_least = is.own_least;
  own_most = is.own_most;
  extension = is.extension;
  narrowed = is.narrowed;
  not_full = is.not_full;
  not_spent = is.not_spent;
}

terms_of_content : (extended : Bool) (entries : List Entry) (table : Database) (offer : ChildPayloads) (chosen : Chosen) (terms : Terms) → AreMadeTerms extended entries (table_content table) offer chosen terms → AreMadeTerms extended entries table offer chosen terms
terms_of_content extended entries table offer chosen terms is = record {
  choice = is.choice;
  peer = is.peer;
  own = is.own;
  own_least = is.own_least;
  own_most = is.own_most;
  extension = is.extension;
  narrowed = is.narrowed;
  not_full = is.not_full;
  not_spent = is.not_spent;
}

made_by_content : (setting : Setting) (extended : Bool) (entries : List Entry) (table other : Database) (offer : ChildPayloads) (made : Made) → table_content table ≡ table_content other
    → IsMadeChild setting extended entries table offer made → IsMadeChild setting extended entries other offer made
made_by_content setting extended entries table other offer made same is =
    record {
      chosen = is.chosen;
      terms = is.terms;
      due =
          terms_of_content extended entries other offer is.chosen is.terms
          (subst (λ (d : Database). AreMadeTerms extended entries d offer is.chosen is.terms) same
          (terms_by_content extended entries table offer is.chosen is.terms is.due));
      whole = is.whole;
    }

refused_by_content : (extended : Bool) (entries : List Entry) (table other : Database) (offer : ChildPayloads) (notice : Notice) → table_content table ≡ table_content other
    → IsChildRefusal extended entries table offer notice → IsChildRefusal extended entries other offer notice
refused_by_content extended entries table other offer NoProposalChosen same is = is
refused_by_content extended entries table other offer TsUnacceptable same is = is
refused_by_content extended entries table other offer NoAdditionalSas same is = subst (λ (d : Database). IsChildRefusal extended entries d offer NoAdditionalSas) same is
refused_by_content extended entries table other offer (UnsupportedCriticalPayload kind) same is = absurd is
refused_by_content extended entries table other offer InvalidSyntax same is = absurd is
refused_by_content extended entries table other offer AuthenticationFailed same is = absurd is
refused_by_content extended entries table other offer (Cookie octets) same is = absurd is

pub answered_by_content : (setting : Setting) (extended : Bool) (entries : List Entry) (table other : Database) (offer : ChildPayloads) (answer : Response) → table_content table ≡ table_content other
    → IsChildResponse setting extended entries table offer answer → IsChildResponse setting extended entries other offer answer
answered_by_content setting extended entries table other offer (response.Made made) same is = made_by_content setting extended entries table other offer made same is
answered_by_content setting extended entries table other offer (response.Refused notice) same is = refused_by_content extended entries table other offer notice same is

-- what the law of tables says of an SPI that is given and of an SA pair that comes
pub record TableLaws : Type 0 where
  pub reserved : (old other a b : Database) (spi mark : ℕ) → table_content old ≡ table_content other → Reserves old spi a → Reserves other mark b → (spi ≡ mark) × (table_content a ≡ table_content b)
  pub installed : (old other a b : Database) (spi mark : ℕ) (pair : Pair) (serial number : ℕ) → table_content old ≡ table_content other → Installs old spi pair serial a → Installs other mark pair number b
      → (serial ≡ number) × (table_content a ≡ table_content b)

pub same_after_adding : TableLaws → (old other a b : Database) (pair : Pair) (serial number : ℕ) → table_content old ≡ table_content other → AddsNext old pair serial a → AddsNext other pair number b
    → (serial ≡ number) × (table_content a ≡ table_content b)
same_after_adding laws old other a b pair serial number same one two =
    let between = laws.reserved old other one.between two.between one.spi two.spi same one.reserved two.reserved in
    laws.installed one.between two.between a b one.spi two.spi pair serial number between.1 one.installed two.installed
