-- The whole step of an initiator that may hold other IKE SAs, from the datagram to what it holds and tells.
use Rattle.std.proofs.Common.{◌≡◌, ◌<◌, ◌^◌, ◌∷◌, ℕ, Bool, List, [], Option, Some, None, ap, refl, subst, ◌∙◌}
use Rattle.base.specs.Octets.{Octets}
use Rattle.wire.specs.declared.payload.Payload.{Payload}
use Rattle.policy.specs.declared.entry.Entry.{Entry}
use Rattle.suite.specs.declared.choice.Wanted.TheVariants.{Esp}
use Rattle.exchange.specs.declared.child.ChildAnswer.{ChildAnswer}
use Rattle.exchange.specs.declared.child.ChildAnswer.TheVariants as told
use Rattle.exchange.specs.declared.headers.Role.TheVariants.{Initiator, Responder}
use Rattle.exchange.specs.declared.notices.Notice.{Notice}
use Rattle.sadb.specs.Database.{empty_table, Database}
use Rattle.sadb.specs.Mirrors.{Mirrors}
use Rattle.sadb.specs.declared.pair.Pair.{Pair}
use Rattle.association.specs.AskedChildren.{asked_of}
use Rattle.association.specs.declared.phase.Association.{Association}
use Rattle.children.specs.Accepting.{AreAcceptedTerms}
use Rattle.children.specs.Asking.{child_request, HasChildPayloads}
use Rattle.children.specs.Responding.{child_response, IsMadeChild}
use Rattle.children.specs.Terms.{Terms}
use Rattle.children.specs.declared.asking.Asked.{Asked}
use Rattle.children.specs.declared.responding.Made.{Made}
use Rattle.children.specs.declared.setting.Setting.{Setting}
use Rattle.setup.specs.Configs.{first_setting, IsConfig, Setup}
use Rattle.setup.specs.declared.config.Config.{Config}
use Rattle.initial.specs.Concluding.{AddsChild}
use Rattle.initial.specs.Ending.{IsFirstChild}
use Rattle.effects.specs.Taking.{Meaning}
use Rattle.ike.specs.Machines.{setup_at, Held}
use Rattle.ike.specs.Soundness.{At}
use Rattle.gateway.specs.Histories.{IsPassage, Passage}
use Rattle.laws_coming_up.specs.ComingUp.{chosen_on, Brings}
use Rattle.laws_coming_up.specs.ComingUpBeside.{answer_in, installing, pair_in, proved_in, releasing, told_on, AreTermsIn, AwaitsAnswer, ConcludesBeside, ConcludesWithChildBeside, ConcludesWithoutChildBeside, IsKnownIn, IsSealedIn, Meeting}
use Rattle.laws_coming_up.proofs.TableLemmas.{initiator_adds, initiator_adds_none}
use Rattle.laws_coming_up.proofs.EndingLemmas.{no_pair, pair_is, AcceptsOnce}
use Rattle.laws_coming_up.proofs.OfferLemmas.{OffersAreAcceptable}
use Rattle.laws_coming_up.proofs.PayloadLemmas.{answer_clear, has_child, has_no_child}
use Rattle.laws_coming_up.proofs.StepLemmas.{response_header, response_later, response_place, step_at, NoFault, OneMessage, TakesInStep}
use Rattle.laws_coming_up.proofs.ConcludingLemmas.{concludes_at, counted, sent_in, waiting_in, waiting_so, AcceptsAnswers, ConcludesAt, IsWaitingSo, TellsWindows}
use Rattle.laws_coming_up.proofs.SealedLemmas.{OneChain, OpensWhatIsSealed}
use Rattle.laws_coming_up.proofs.ChildLemmas.{made_on}

abbrev pub ResponsesAreAcceptable : Type 0
ResponsesAreAcceptable = (asked : Asked) (setting : Setting) (extended : Bool) (entries : List Entry) (table : Database) (made : Made) (reply : List Payload)
    → asked.spi < 2 ^ 32 → (m : IsMadeChild setting extended entries table (child_request asked) made) → HasChildPayloads reply made.payloads
    → AreAcceptedTerms asked reply m.terms

-- the laws of lower crates that this goes by
pub record EndsBy (teller meaning : Meaning) : Type 0 where
  pub one_message : OneMessage
  pub no_fault : NoFault
  pub one_chain : OneChain
  pub opens : OpensWhatIsSealed teller.body_of meaning.plain_of
  pub accepts_answers : AcceptsAnswers
  pub tells_windows : TellsWindows
  pub responses_acceptable : ResponsesAreAcceptable
  pub offers_acceptable : OffersAreAcceptable
  pub accepts_once : AcceptsOnce

module _ {C : Type 0} (meaning_of : C → Meaning) (teller : Meaning) (other : Config) (d : Meeting) (octets : Octets) (r : Passage C)
    (laws : EndsBy teller (meaning_of r.before.caller)) (is : IsPassage meaning_of r) (brings : Brings octets r) (waits : AwaitsAnswer d r.before.machine.held)
    (valid : IsConfig other) (known : IsKnownIn Responder other r.before.machine.config teller (meaning_of r.before.caller) d) where
  abbrev meaning : Meaning
  meaning = meaning_of r.before.caller

  abbrev config : Config
  config = r.before.machine.config

  abbrev number : ℕ
  number = waits.association.serial

  abbrev setup : Setup
  setup = setup_at r.before.machine r.before.entries brings.fresh

  so : IsWaitingSo d waits.asked waits.association
  so = waiting_so d r.before.machine.held r.before.table is.sound.machine.held is.sound.table waits

  -- the step, with its pair and what that makes of the table
  record ConcludesStep (payloads : List Payload) : Type 0 where
    pair : Option Pair
    child : IsFirstChild setup number (sent_in d) payloads pair
    serial : Option ℕ
    table : Database
    added : AddsChild r.before.table (Some d.child.spi) pair serial table
    concludes : ConcludesBeside other d serial table r waits

  concludes_by : (payloads : List Payload) (sealed : Payload)
      (step : TakesInStep meaning r waits.place (waiting_in waits.association d) octets brings.fresh (record { header = response_header d; payloads = sealed ∷ [] }))
      → ConcludesAt other setup d number payloads r.before.table step.effect step.changed step.new_table → ConcludesStep payloads
  concludes_by payloads sealed step at = record {
    pair = at.pair;
    child = at.child;
    serial = at.serial;
    table = step.new_table;
    added = at.added;
    concludes = record { said = step.said ∙ at.said; association = step.changed; standing = at.standing; after = step.after };
  }

  concludes_step : (answer : ChildAnswer) → IsSealedIn Responder teller d (answer_in teller other d answer) octets → ConcludesStep (answer_in teller other d answer).payloads
  concludes_step answer sent =
      let held : Held = r.before.machine.held in
      let base : Association = waits.association in
      let there : At held waits.place (waiting_in base d) = waits.there ∙ ap (λ (a : Association). Some a) so.is in
      let again = laws.opens _ sent.fresh.seal (answer_in teller other d answer) octets so.whole.responder sent.seal.octets sent.seal.many
      (answer_clear teller.own_method teller.proof_of other.own.identity (proved_in Responder d) answer other.window) sent.sealed in
      let meant = response_place d held r.before.table is.sound.machine.held waits.place (waiting_in base d) there in
      let step = step_at laws.one_message laws.no_fault r octets _ again.spelled (response_later d) waits.place (waiting_in base d) there meant meaning_of is brings in
      let count = counted meaning setup d base waits.asked waits.outstanding so.purpose r.before.table octets again.sealed again.plain again.opens step.effect step.changed
      step.new_table step.takes in
      let at = concludes_at laws.one_chain laws.accepts_answers laws.tells_windows teller meaning other setup d base waits.asked so is.sound.machine.config valid
      known r.before.table answer again.plain again.payloads step.effect step.changed step.new_table count in
      concludes_by (answer_in teller other d answer).payloads again.sealed step at

  -- with this serial, and this table
  concludes_so : (serial : Option ℕ) (table : Database) (child : Option ℕ) (new : Database) → serial ≡ child → table ≡ new → ConcludesBeside other d serial table r waits
      → ConcludesBeside other d child new r waits
  concludes_so serial table child new same same_table c =
      subst (λ (t : Database). ConcludesBeside other d child t r waits) same_table (subst (λ (n : Option ℕ). ConcludesBeside other d n table r waits) same c)

  module _ (extended : Bool) (entries : List Entry) (spi : ℕ) (terms : Terms) (agreed : AreTermsIn d extended entries spi terms) where
    abbrev payloads_on : List Payload
    payloads_on = (answer_in teller other d (told_on extended terms)).payloads

    -- what is told of the terms is acceptable
    accepted_terms : AreAcceptedTerms (asked_of d.child) payloads_on terms
    accepted_terms =
        laws.responses_acceptable (asked_of d.child) (first_setting config number d.keys) extended entries (empty_table terms.spi_r) _ payloads_on so.most
        (made_on laws.offers_acceptable d so.least so.most (first_setting config number d.keys) extended entries spi terms agreed)
        (has_child teller.own_method teller.proof_of other.own.identity (proved_in Responder d) (child_response (Esp extended) (chosen_on terms) terms) other.window)

    pub concludes_with_child : IsSealedIn Responder teller d (answer_in teller other d (told_on extended terms)) octets → ConcludesWithChildBeside other d terms r waits
    concludes_with_child sent =
        let s = concludes_step (told_on extended terms) sent in
        let pair = pair_is setup number (sent_in d) payloads_on laws.accepts_once terms accepted_terms s.pair s.child in
        let added = initiator_adds r.before.table s.table d.child.spi (pair_in Initiator config d number terms) s.serial
        (subst (λ (x : Option Pair). AddsChild r.before.table (Some d.child.spi) x s.serial s.table) pair s.added) in
        record {
          room = s.table.room;
          concludes = concludes_so s.serial s.table (Some r.before.table.next)
              (installing r.before.table d.child.spi (pair_in Initiator config d number terms) s.table.room) added.serial added.content s.concludes;
        }

  pub concludes_without_child : (notice : Notice) → IsSealedIn Responder teller d (answer_in teller other d (told.Notice notice)) octets
      → ConcludesWithoutChildBeside other d r waits
  concludes_without_child notice sent =
      let s = concludes_step (told.Notice notice) sent in
      let none = no_pair setup number (sent_in d) (answer_in teller other d (told.Notice notice)).payloads
      (has_no_child teller.own_method teller.proof_of other.own.identity (proved_in Responder d) notice other.window) s.pair s.child in
      let given = initiator_adds_none r.before.table s.table d.child.spi s.serial
      (subst (λ (x : Option Pair). AddsChild r.before.table (Some d.child.spi) x s.serial s.table) none s.added) in
      record {
        room = s.table.room;
        concludes = concludes_so s.serial s.table None (releasing r.before.table d.child.spi s.table.room) given.none given.content s.concludes;
      }

-- what one end sends by its pair the other receives by its own
pub mirrored : (one other : Config) (d : Meeting) (first second : ℕ) (terms : Terms) → Mirrors (pair_in Initiator one d first terms) (pair_in Responder other d second terms)
mirrored one other d first second terms = record { inward = refl; outward = refl; extension = refl; local = refl; remote = refl }
