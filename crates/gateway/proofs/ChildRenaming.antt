-- What is decided of a Child SA under other serials: the same, with the SA pair renamed.
use Rattle.std.proofs.Common.{◌≤◌, ◌+◌, ◌⊎◌, inl, inr, ℕ, Bool, List, sym, ap, subst}
use Rattle.std.specs.FinSet as set
use Rattle.wire.specs.declared.payload.Payload.{Payload}
use Rattle.exchange.specs.declared.child.ChildPayloads.{ChildPayloads}
use Rattle.exchange.specs.declared.notices.Notice.{Notice}
use Rattle.exchange.specs.declared.notices.Notice.TheVariants.{UnsupportedCriticalPayload, InvalidSyntax, NoProposalChosen, AuthenticationFailed, NoAdditionalSas, TsUnacceptable, Cookie}
use Rattle.policy.specs.declared.entry.Entry.{Entry}
use Rattle.sadb.specs.Database.{Database, IsAsBefore, IsFull, IsSpent, Installs, Releases, Reserves}
use Rattle.sadb.specs.declared.pair.Pair.{Pair}
use Rattle.children.specs.Accepting.{IsAcceptedChild}
use Rattle.children.specs.Responding.{AddsNext, IsChildRefusal, IsChildResponse, IsMadeChild}
use Rattle.children.specs.declared.asking.Asked.{Asked}
use Rattle.children.specs.declared.responding.Made.{Made}
use Rattle.children.specs.declared.responding.Response.{Response}
use Rattle.children.specs.declared.responding.Response.TheVariants as response
use Rattle.children.specs.declared.setting.Setting.{Setting}
use Rattle.association.specs.Closing.{Closes}
use Rattle.association.specs.declared.phase.Association.{Association}
use Rattle.gateway.proofs.RenamedLaws.{PairLaws}
use Rattle.gateway.specs.Renaming.{renamed_association, renamed_pair, renamed_table}

-- how tables change, under other serials
pub record TableSteps (r : ℕ → ℕ) : Type 0 where
  pub before : (old new : Database) → IsAsBefore old new → IsAsBefore (renamed_table r old) (renamed_table r new)
  pub adds : (old new : Database) (pair : Pair) (serial : ℕ) → AddsNext old pair serial new → AddsNext (renamed_table r old) (renamed_pair r pair) serial (renamed_table r new)
  pub installs : (old new : Database) (spi serial : ℕ) (pair : Pair) → Installs old spi pair serial new → Installs (renamed_table r old) spi (renamed_pair r pair) serial (renamed_table r new)
  pub releases : (old new : Database) (spi : ℕ) → Releases old spi new → Releases (renamed_table r old) spi (renamed_table r new)
  pub reserves : (old new : Database) (spi : ℕ) → Reserves old spi new → Reserves (renamed_table r old) spi (renamed_table r new)
  pub closes : (old new : Association) (table new_table : Database) (moment : ℕ)
      → Closes old table moment new new_table → Closes (renamed_association r old) (renamed_table r table) moment (renamed_association r new) (renamed_table r new_table)

abbrev pub renamed_setting : (ℕ → ℕ) → Setting → Setting
renamed_setting r setting = record setting { ike = r setting.ike }

abbrev pub renamed_child : (ℕ → ℕ) → Made → Made
renamed_child r made = record made { pair = renamed_pair r made.pair }

abbrev pub renamed_response : (ℕ → ℕ) → Response → Response
renamed_response r (response.Made made) = response.Made (renamed_child r made)
renamed_response r (response.Refused notice) = response.Refused notice

module _ (r : ℕ → ℕ) (laws : PairLaws r) where
  pub full : (d : Database) → IsFull d → IsFull (renamed_table r d)
  full d is = subst (λ n. 1024 ≤ n + set.len d.reserved) (sym (laws.count d.pairs)) is

  pub full_before : (d : Database) → IsFull (renamed_table r d) → IsFull d
  full_before d is = subst (λ n. 1024 ≤ n + set.len d.reserved) (laws.count d.pairs) is

  pub not_full : (d : Database) → ¬ IsFull d → ¬ IsFull (renamed_table r d)
  not_full d is_not is = is_not (full_before d is)

  takes_no_more : (d : Database) → IsFull d ⊎ IsSpent d → IsFull (renamed_table r d) ⊎ IsSpent (renamed_table r d)
  takes_no_more d (inl is) = inl (full d is)
  takes_no_more d (inr is) = inr is

  refusal : (extended : Bool) (entries : List Entry) (table : Database) (offer : ChildPayloads) (notice : Notice)
      → IsChildRefusal extended entries table offer notice → IsChildRefusal extended entries (renamed_table r table) offer notice
  refusal extended entries table offer NoProposalChosen is = is
  refusal extended entries table offer TsUnacceptable is = is
  refusal extended entries table offer NoAdditionalSas is = (is.0, is.1, takes_no_more table is.2)
  refusal extended entries table offer (UnsupportedCriticalPayload kind) is = absurd is
  refusal extended entries table offer InvalidSyntax is = absurd is
  refusal extended entries table offer AuthenticationFailed is = absurd is
  refusal extended entries table offer (Cookie octets) is = absurd is

  made : (setting : Setting) (extended : Bool) (entries : List Entry) (table : Database) (offer : ChildPayloads) (child : Made)
      → IsMadeChild setting extended entries table offer child → IsMadeChild (renamed_setting r setting) extended entries (renamed_table r table) offer (renamed_child r child)
  made setting extended entries table offer child is = record {
    chosen = is.chosen;
    terms = is.terms;
    due = record {
      choice = is.due.choice;
      peer = is.due.peer;
      own = is.due.own;
      own_least = is.due.own_least;
      own_most = is.due.own_most;
      extension = is.due.extension;
      narrowed = is.due.narrowed;
      not_full = not_full table is.due.not_full;
      not_spent = is.due.not_spent;
    };
    whole = ap (renamed_child r) is.whole;
  }

  pub responds : (setting : Setting) (extended : Bool) (entries : List Entry) (table : Database) (offer : ChildPayloads) (said : Response)
      → IsChildResponse setting extended entries table offer said → IsChildResponse (renamed_setting r setting) extended entries (renamed_table r table) offer (renamed_response r said)
  responds setting extended entries table offer (response.Made child) is = made setting extended entries table offer child is
  responds setting extended entries table offer (response.Refused notice) is = refusal extended entries table offer notice is

pub accepted : (r : ℕ → ℕ) (setting : Setting) (asked : Asked) (answer : List Payload) (pair : Pair)
    → IsAcceptedChild setting asked answer pair → IsAcceptedChild (renamed_setting r setting) asked answer (renamed_pair r pair)
accepted r setting asked answer pair is = record { terms = is.terms; due = is.due; made = ap (renamed_pair r) is.made }
