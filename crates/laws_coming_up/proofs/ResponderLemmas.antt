-- The whole step of a responder that may hold other IKE SAs, from the datagram to what it holds and sends.
use Rattle.std.proofs.Common.{◌≡◌, ◌∷◌, ℕ, [], Option, Some, None, ap, subst, ◌∙◌}
use Rattle.base.specs.Octets.{Octets}
use Rattle.wire.specs.declared.payload.Payload.{Payload}
use Rattle.exchange.specs.declared.headers.Role.TheVariants.{Initiator, Responder}
use Rattle.exchange.specs.declared.notices.Notice.{Notice}
use Rattle.exchange.specs.declared.notices.Notice.TheVariants.{NoAdditionalSas, TsUnacceptable}
use Rattle.sadb.specs.Database.{Database, IsAsBefore}
use Rattle.association.specs.AskedChildren.{asked_of}
use Rattle.association.specs.declared.phase.Association.{Association}
use Rattle.children.specs.Asking.{child_request}
use Rattle.children.specs.Responding.{IsChildResponse, TakesNoMore}
use Rattle.children.specs.declared.responding.Response.{Response}
use Rattle.children.specs.declared.responding.Response.TheVariants as response
use Rattle.setup.specs.Configs.{first_setting, Setup}
use Rattle.setup.specs.declared.config.Config.{Config}
use Rattle.initial.specs.Answering.{child_answer, pair_of}
use Rattle.initial.specs.Concluding.{AddsChild}
use Rattle.effects.specs.Taking.{Meaning}
use Rattle.ike.specs.Machines.{setup_at, Held}
use Rattle.ike.specs.Soundness.{At}
use Rattle.gateway.specs.Histories.{IsPassage, Passage}
use Rattle.laws_coming_up.specs.ComingUp.{Brings}
use Rattle.laws_coming_up.specs.ComingUpBeside.{identity_in, pair_in, proved_in, told_on, AcceptsBeside, AcceptsWithChildBeside, AcceptsWithoutChildBeside, AwaitsIdentity, CanAskFor, HasPlace, IsKnownIn, IsSealedIn, Meeting, PolicyMeetsChild}
use Rattle.laws_coming_up.proofs.TableLemmas.{responder_adds, responder_adds_none}
use Rattle.laws_coming_up.proofs.AnsweringLemmas.{JudgesOnce}
use Rattle.laws_coming_up.proofs.OfferLemmas.{ChoosesOnce, OffersAreAcceptable}
use Rattle.laws_coming_up.proofs.PayloadLemmas.{request_clear}
use Rattle.laws_coming_up.proofs.StepLemmas.{request_header, request_later, request_place, step_at, NoFault, OneMessage, TakesInStep}
use Rattle.laws_coming_up.proofs.AcceptingLemmas.{accepts_at, half_as, half_so, replied, AcceptsAt, AcceptsRequests, ReceivesOnce, ReceivesWhatIsDue}
use Rattle.laws_coming_up.proofs.SealedLemmas.{OneChain, OpensWhatIsSealed}
use Rattle.laws_coming_up.proofs.ChildLemmas.{answers_no_more, answers_none, answers_on_terms}

-- the laws of lower crates that this goes by
pub record GoesBy (asker meaning : Meaning) : Type 0 where
  pub one_message : OneMessage
  pub no_fault : NoFault
  pub one_chain : OneChain
  pub opens : OpensWhatIsSealed asker.body_of meaning.plain_of
  pub receives_once : ReceivesOnce
  pub receives_due : ReceivesWhatIsDue
  pub judges_once : JudgesOnce
  pub accepts_requests : AcceptsRequests
  pub offers_acceptable : OffersAreAcceptable
  pub chooses_once : ChoosesOnce

module _ {C : Type 0} (meaning_of : C → Meaning) (asker : Meaning) (one : Config) (d : Meeting) (auth : Octets) (q : Passage C)
    (laws : GoesBy asker (meaning_of q.before.caller)) (is : IsPassage meaning_of q) (brings : Brings auth q) (waits : AwaitsIdentity d q.before.machine.held)
    (can : CanAskFor one d.child) (known : IsKnownIn Initiator one q.before.machine.config asker (meaning_of q.before.caller) d)
    (sent : IsSealedIn Initiator asker d (identity_in asker one d) auth) where
  abbrev meaning : Meaning
  meaning = meaning_of q.before.caller

  abbrev config : Config
  config = q.before.machine.config

  abbrev number : ℕ
  number = waits.association.serial

  -- the step, with its answer and what that makes of the table
  record AcceptsStep : Type 0 where
    answer : Response
    child : IsChildResponse (first_setting config number d.keys) config.extended q.before.entries q.before.table (child_request (asked_of d.child)) answer
    table : Database
    accepts : AcceptsBeside meaning one d (child_answer answer) table q waits
    serial : Option ℕ
    between : Database
    room : IsAsBefore q.before.table between
    added : AddsChild between None (pair_of answer) serial table

  accepts_by : (made : ℕ) (sealed : Payload)
      (step : TakesInStep meaning q waits.place (half_as waits.association d made) auth brings.fresh (record { header = request_header d; payloads = sealed ∷ [] }))
      → AcceptsAt meaning one (setup_at q.before.machine q.before.entries brings.fresh) d number q.before.table step.effect step.changed step.new_table → AcceptsStep
  accepts_by made sealed step at = record {
    answer = at.answer;
    child = at.child;
    table = step.new_table;
    accepts = record {
      octets = at.octets;
      said = step.said ∙ at.said;
      sent = record { fresh = brings.fresh; seal = brings.seal; sealed = at.sealed };
      association = step.changed;
      standing = at.standing;
      after = step.after;
    };
    serial = at.serial;
    between = at.between;
    room = at.room;
    added = at.added;
  }

  accepts_step : AcceptsStep
  accepts_step =
      let held : Held = q.before.machine.held in
      let setup : Setup = setup_at q.before.machine q.before.entries brings.fresh in
      let base : Association = waits.association in
      let so = half_so d held q.before.table is.sound.machine.held waits in
      let there : At held waits.place (half_as base d waits.made) = waits.there ∙ ap (λ (a : Association). Some a) so.is in
      let again = laws.opens _ sent.fresh.seal (identity_in asker one d) auth so.whole.initiator sent.seal.octets sent.seal.many
      (request_clear asker.own_method asker.proof_of one.own.identity (proved_in Initiator d) (child_request (asked_of d.child)) one.window) sent.sealed in
      let meant = request_place d held q.before.table is.sound.machine.held waits.place (half_as base d waits.made) there in
      let step = step_at laws.one_message laws.no_fault q auth _ again.spelled (request_later d) waits.place (half_as base d waits.made) there meant meaning_of is brings in
      let reply = replied meaning setup d base waits.made q.before.table auth again.sealed again.plain again.opens laws.receives_once laws.receives_due step.effect step.changed
      step.new_table step.takes in
      let at = accepts_at laws.judges_once laws.one_chain laws.accepts_requests asker meaning one setup d base waits.made so can.valid is.sound.machine.config known
      q.before.table again.plain again.payloads step.effect step.changed step.new_table reply in
      accepts_by waits.made again.sealed step at

  pub accepts_with_child : PolicyMeetsChild q.before.entries d.child → HasPlace q.before.table → AcceptsWithChildBeside meaning one d q waits
  accepts_with_child meets has =
      let s = accepts_step in
      let on = answers_on_terms laws.offers_acceptable laws.chooses_once d can.least can.most (first_setting config number d.keys) config.extended q.before.entries
      q.before.table meets has s.answer s.child in
      let added = responder_adds q.before.table s.between s.table s.room is.sound.table (pair_in Responder config d number on.terms) s.serial
      (subst (λ (r : Response). AddsChild s.between None (pair_of r) s.serial s.table) on.is s.added) in
      record {
        terms = on.terms;
        agreed = on.agreed;
        room = s.table.room;
        accepts = subst (λ (t : Database). AcceptsBeside meaning one d (told_on config.extended on.terms) t q waits) added.content
            (subst (λ (r : Response). AcceptsBeside meaning one d (child_answer r) s.table q waits) on.is s.accepts);
      }

  -- by this notification in place of a Child SA
  refused_by : (notice : Notice) (s : AcceptsStep) → s.answer ≡ response.Refused notice → AcceptsWithoutChildBeside meaning one d notice q waits
  refused_by notice s refused =
      let stayed = responder_adds_none q.before.table s.between s.table s.room s.serial
      (subst (λ (r : Response). AddsChild s.between None (pair_of r) s.serial s.table) refused s.added) in
      record {
        room = s.table.room;
        accepts = subst (λ (t : Database). AcceptsBeside meaning one d (child_answer (response.Refused notice)) t q waits) stayed.content
            (subst (λ (r : Response). AcceptsBeside meaning one d (child_answer r) s.table q waits) refused s.accepts);
      }

  pub accepts_without_child : ¬ PolicyMeetsChild q.before.entries d.child → AcceptsWithoutChildBeside meaning one d TsUnacceptable q waits
  accepts_without_child cannot =
      let s = accepts_step in
      refused_by TsUnacceptable s
      (answers_none laws.offers_acceptable laws.chooses_once d can.least can.most (first_setting config number d.keys) config.extended q.before.entries
      q.before.table cannot s.answer s.child)

  pub accepts_no_more : PolicyMeetsChild q.before.entries d.child → TakesNoMore q.before.table → AcceptsWithoutChildBeside meaning one d NoAdditionalSas q waits
  accepts_no_more meets takes =
      let s = accepts_step in
      refused_by NoAdditionalSas s
      (answers_no_more laws.offers_acceptable laws.chooses_once d can.least can.most (first_setting config number d.keys) config.extended q.before.entries
      q.before.table meets takes s.answer s.child)
