-- How many selectors an SA pair has.
use Rattle.std.proofs.Common.{◌≡◌, ◌≤◌, List, Some, length, Bool, sym, subst}
use Rattle.std.specs.List.{AllByRecursion}
use Rattle.base.specs.declared.selector.Selector.{Selector}
use Rattle.wire.specs.Numbers.{SELECTOR_LIMIT}
use Rattle.wire.specs.Sizes.{FitsFields}
use Rattle.wire.specs.declared.payload.Payload.{Payload}
use Rattle.wire.specs.declared.payload.Payload.TheVariants.{TsI, TsR}
use Rattle.exchange.specs.Counting.{only_ts_i, only_ts_r}
use Rattle.exchange.specs.declared.child.ChildPayloads.{ChildPayloads}
use Rattle.policy.specs.Narrowing.{AreSendable, IsNarrowing}
use Rattle.policy.specs.declared.entry.Entry.{Entry}
use Rattle.sadb.specs.Database.{Database}
use Rattle.sadb.specs.declared.pair.Pair.{Pair}
use Rattle.children.specs.Accepting.{IsAcceptedChild}
use Rattle.children.specs.Pairs.{HasFewSelectors}
use Rattle.children.specs.Responding.{IsMadeChild}
use Rattle.children.specs.declared.asking.Asked.{Asked}
use Rattle.children.specs.declared.responding.Made.{Made}
use Rattle.children.specs.declared.setting.Setting.{Setting}

-- what `policy` and `exchange` say
pub record FewFacts : Type 0 where
  pub narrowed : (entries : List Entry) (i r answer_i answer_r : List Selector) → length i ≤ 16 → length r ≤ 16 → IsNarrowing entries i r answer_i answer_r → AreSendable answer_i × AreSendable answer_r
  pub ts_i : (payloads : List Payload) (selectors : List Selector) → AllByRecursion FitsFields payloads → only_ts_i payloads ≡ Some selectors → FitsFields (TsI selectors)
  pub ts_r : (payloads : List Payload) (selectors : List Selector) → AllByRecursion FitsFields payloads → only_ts_r payloads ≡ Some selectors → FitsFields (TsR selectors)

pub few_made : (facts : FewFacts) (setting : Setting) (extended : Bool) (entries : List Entry) (table : Database) (offer : ChildPayloads) (made : Made)
    → length offer.ts_i ≤ SELECTOR_LIMIT → length offer.ts_r ≤ SELECTOR_LIMIT → IsMadeChild setting extended entries table offer made → HasFewSelectors made.pair
few_made facts setting extended entries table offer made few_i few_r is =
    let sendable = facts.narrowed entries offer.ts_i offer.ts_r is.terms.ts_i is.terms.ts_r few_i few_r is.due.narrowed in
    subst (λ (m : Made). HasFewSelectors m.pair) (sym is.whole) (record { local = sendable.1.few; remote = sendable.0.few })

pub few_accepted : (facts : FewFacts) (setting : Setting) (asked : Asked) (answer : List Payload) (pair : Pair)
    → AllByRecursion FitsFields answer → IsAcceptedChild setting asked answer pair → HasFewSelectors pair
few_accepted facts setting asked answer pair fit is =
    let few_i = facts.ts_i answer is.terms.ts_i fit is.due.ts_i in
    let few_r = facts.ts_r answer is.terms.ts_r fit is.due.ts_r in
    subst HasFewSelectors (sym is.made) (record { local = few_i.few; remote = few_r.few })
