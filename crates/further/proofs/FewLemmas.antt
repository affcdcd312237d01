-- How many selectors an SA pair has.
use Rattle.std.proofs.Common.{◌≡◌, ◌≤◌, ℕ, Bool, List, Option, Some, None, length}
use Rattle.std.specs.List.{AllByRecursion}
use Rattle.base.specs.Octets.{Octets}
use Rattle.base.specs.declared.selector.Selector.{Selector}
use Rattle.wire.specs.Numbers.{SELECTOR_LIMIT}
use Rattle.wire.specs.Payloads.{SpellsChain}
use Rattle.wire.specs.Sizes.{FitsFields}
use Rattle.wire.specs.declared.payload.Payload.{Payload}
use Rattle.wire.specs.declared.payload.Payload.TheVariants.{TsI, TsR}
use Rattle.suite.specs.declared.key_record.KeyRecord.{KeyRecord}
use Rattle.exchange.specs.Counting.{only_ts_i, only_ts_r}
use Rattle.exchange.specs.declared.child.ChildPayloads.{ChildPayloads}
use Rattle.exchange.specs.declared.sealed.Plain.{Plain}
use Rattle.policy.specs.declared.entry.Entry.{Entry}
use Rattle.sadb.specs.Database.{Database}
use Rattle.sadb.specs.declared.pair.Pair.{Pair}
use Rattle.children.specs.Accepting.{IsAcceptedChild}
use Rattle.children.specs.Pairs.{HasFewSelectors}
use Rattle.children.specs.Responding.{IsMadeChild}
use Rattle.children.specs.declared.asking.Asked.{Asked}
use Rattle.children.specs.declared.responding.Made.{Made}
use Rattle.children.specs.declared.setting.Setting.{Setting}
use Rattle.setup.specs.Configs.{Setup}
use Rattle.exchange.specs.Chains.{IsRead}
use Rattle.further.specs.Concluding.{Concludes, IsConclusion}
use Rattle.further.specs.Deciding.{further_setting, responder_setting, DecidesFurther, IsFurtherDecision}
use Rattle.further.specs.declared.concluding.Conclusion.TheVariants as conclusion
use Rattle.further.specs.declared.deciding.Decision.TheVariants as decision
use Rattle.further.proofs.PairLemmas.{made_on, MakesFurther}

-- what the crates below say
pub record FewLaws : Type 0 where
  pub read : (first : ℕ) (ps : List Payload) (b : Octets) → SpellsChain first ps b → AllByRecursion FitsFields ps
  pub ts_i : (payloads : List Payload) (selectors : List Selector) → AllByRecursion FitsFields payloads → only_ts_i payloads ≡ Some selectors → FitsFields (TsI selectors)
  pub ts_r : (payloads : List Payload) (selectors : List Selector) → AllByRecursion FitsFields payloads → only_ts_r payloads ≡ Some selectors → FitsFields (TsR selectors)
  pub made : (setting : Setting) (extended : Bool) (entries : List Entry) (table : Database) (offer : ChildPayloads) (made : Made)
      → length offer.ts_i ≤ SELECTOR_LIMIT → length offer.ts_r ≤ SELECTOR_LIMIT → IsMadeChild setting extended entries table offer made → HasFewSelectors made.pair
  pub accepted : (setting : Setting) (asked : Asked) (answer : List Payload) (pair : Pair) → AllByRecursion FitsFields answer → IsAcceptedChild setting asked answer pair → HasFewSelectors pair

made_by : FewLaws → (setup : Setup) (ike : ℕ) (keys : KeyRecord) (table : Database) (deleting : Bool) (plain : Plain) (made : Made) (payloads : Option (List Payload))
    → IsRead plain payloads → IsFurtherDecision setup ike keys table deleting payloads (decision.Made made) → HasFewSelectors made.pair
made_by laws setup ike keys table deleting plain made None read due = absurd due
made_by laws setup ike keys table deleting plain made (Some payloads) read due =
    let fit = laws.read plain.first payloads plain.octets read in
    let m : MakesFurther setup ike keys table deleting payloads made = made_on setup ike keys table deleting payloads made due in
    let few_i = laws.ts_i payloads m.request.child.ts_i fit m.asks.ts_i in
    let few_r = laws.ts_r payloads m.request.child.ts_r fit m.asks.ts_r in
    laws.made (responder_setting setup ike keys m.request) setup.config.extended setup.entries table m.request.child made few_i.few few_r.few m.child

pub few_made : FewLaws → (setup : Setup) (ike : ℕ) (keys : KeyRecord) (table : Database) (deleting : Bool) (plain : Plain) (made : Made)
    → DecidesFurther setup ike keys table deleting plain (decision.Made made) → HasFewSelectors made.pair
few_made laws setup ike keys table deleting plain made is = made_by laws setup ike keys table deleting plain made is.payloads is.read is.due

accepted_by : FewLaws → (blocks ike : ℕ) (keys : KeyRecord) (asked : Asked) (own_nonce : Octets) (plain : Plain) (pair : Pair) (payloads : Option (List Payload))
    → IsRead plain payloads → IsConclusion blocks ike keys asked own_nonce payloads (conclusion.Made pair) → HasFewSelectors pair
accepted_by laws blocks ike keys asked own_nonce plain pair None read due = absurd due
accepted_by laws blocks ike keys asked own_nonce plain pair (Some answer) read due =
    laws.accepted (further_setting blocks ike keys own_nonce due.nonce) asked answer pair (laws.read plain.first answer plain.octets read) due.child

pub few_accepted : FewLaws → (blocks ike : ℕ) (keys : KeyRecord) (asked : Asked) (own_nonce : Octets) (plain : Plain) (pair : Pair)
    → Concludes blocks ike keys asked own_nonce plain (conclusion.Made pair) → HasFewSelectors pair
few_accepted laws blocks ike keys asked own_nonce plain pair is = accepted_by laws blocks ike keys asked own_nonce plain pair is.payloads is.read is.due
