-- What holds of every step that is done, whichever exchange its datagram belongs to: who reads `Ike::step`
-- meets here what a step may do. Each field is a law of src/laws/ of its own, said there of every case
-- (`EachStep`).
use Rattle.std.specs.Prelude.{◌≡◌, ◌<◌, ◌≤◌, ℕ, Option, Some, None, true, false, List}
use Rattle.base.specs.Octets.{Octets}
use Rattle.policy.specs.declared.entry.Entry.{Entry}
use Rattle.suite.specs.declared.fresh.Fresh.{Fresh}
use Rattle.suite.specs.declared.key_record.KeyRecord.{KeyRecord}
use Rattle.sa_init.specs.Judging.{COOKIE_THRESHOLD}
use Rattle.sadb.specs.Database.{pair_at, Database}
use Rattle.sadb.specs.declared.pair.Pair.{Pair}
use Rattle.association.specs.Purposes.{AwaitsDeletion}
use Rattle.association.specs.declared.phase.Association.{Association}
use Rattle.association.specs.declared.phase.Phase.TheVariants as phase
use Rattle.effects.specs.Taking.{Meaning}
use Rattle.children.specs.Pairs.{HasFewSelectors}
use Rattle.ike.specs.Children.{MakesChildOf}
use Rattle.ike.specs.LawCases.{StepCase}
use Rattle.ike.specs.Machines.{association_of, half_open_count, setup_at, Held, Machine}
use Rattle.ike.specs.Moves.{MovesAt}
use Rattle.ike.specs.Outputs.{octets_in}
use Rattle.ike.specs.Offers.{AnswersFirstOffer, AnswersNoOffer, AnswersSealedOffer}
use Rattle.ike.specs.Pairs.{ChangesOne}
use Rattle.ike.specs.Proving.{WasKnown}
use Rattle.ike.specs.Reaching.{WasReached}
use Rattle.ike.specs.Requests.{ComesIntoEffect, IsAnswered, IsHeldThrough, IsNewRequest}
use Rattle.ike.specs.Steps.{is_command, is_tick, InputView, Message}
use Rattle.ike.specs.Tracing.{IsInClear, IsTraced}
use Rattle.ike.specs.declared.output.IkeOutput.TheVariants as output
use Rattle.ike.specs.declared.output.MadeChild.{MadeChild}
use Rattle.ike.specs.declared.output.Mark.{Mark}
use Rattle.ike.specs.declared.output.Stepped.{Stepped}

-- What an answer may hold that this step sent: an SA with one proposal of those offered, and one of its
-- transforms of each type (RFC 7296, section 3.3.1), where it answers an offer; else none.
pub record AnswersKeepToOffers (octets : Octets) (fresh : Fresh) (it : StepCase) (reply : Octets) : Type 0 where
  pub initial : (ike : ℕ) → it.stepped.trace.keyed ≡ Some ike → AnswersFirstOffer octets reply
  pub sealed : (mark : Mark) → it.stepped.trace.sent ≡ Some mark
      → AnswersSealedOffer it.meaning (setup_at it.old it.entries fresh) mark.ike octets reply it.old.held
  pub other : it.stepped.trace.sent ≡ None → it.stepped.trace.keyed ≡ None → AnswersNoOffer reply

-- What holds of a step that took a datagram.
pub record KeepsLawsOfDatagrams (from octets : Octets) (fresh : Fresh) (it : StepCase) : Type 0 where
  -- a Child SA is made of what its exchange's two messages say, under the IKE SA's keys (sections 1.2,
  -- 1.3.1, 2.9 and 2.17)
  pub made : (made : MadeChild) → it.stepped.trace.child ≡ Some made
      → MakesChildOf it.meaning (setup_at it.old it.entries fresh) octets it.old.held it.table it.stepped made it.new.held it.new_table
  -- and has extended sequence numbers only where the configuration allows them (RFC 4303, section 2.2.1)
  pub extended : (made : MadeChild) (pair : Pair) → it.stepped.trace.child ≡ Some made
      → pair_at it.new_table.pairs made.serial ≡ Some pair
      → pair.inbound.association.extended ≡ true → it.old.config.extended ≡ true
  pub answers : (reply : Octets) (closed : Option ℕ) → it.stepped.output ≡ output.Reply reply closed
      → AnswersKeepToOffers octets fresh it reply
  -- while 8 are half open, no other one comes to be half open but with a right cookie (section 2.6)
  pub cookie : COOKIE_THRESHOLD ≤ half_open_count it.old.held.associations
      → half_open_count it.old.held.associations < half_open_count it.new.held.associations
      → WasReached it.old.cookies from octets

-- the IKE SA under which a request goes out does not wait for the answer to its own deletion
abbrev pub AsksWhileNotDeleting : Held → Stepped → Type 0
AsksWhileNotDeleting old stepped = (serial : ℕ) (octets : Octets) (a : Association)
    → stepped.output ≡ output.Request serial octets
    → association_of serial old.associations ≡ Some a
    → ¬ AwaitsDeletion a.outgoing

-- What holds of a step.
pub record KeepsLaws (it : StepCase) : Type 0 where
  -- of each IKE SA with keys: at most two moves, and nothing is told beside them
  pub moves : (serial : ℕ) → MovesAt it.meaning it.input it.old.held it.stepped it.new.held serial
  -- a request of the peer comes into effect by its own datagram alone, and is answered (sections 2.1 to 2.3)
  pub in_effect : (serial : ℕ) (a b : Association) (number : ℕ)
      → IsHeldThrough serial it.old.held it.new.held a b → ComesIntoEffect number a b
      → IsNewRequest it.meaning it.input a number × IsAnswered it.stepped number b
  -- after a request to delete the IKE SA no command sends another one under it (section 1.4.1)
  pub undeleted : is_command it.input ≡ true → AsksWhileNotDeleting it.old.held it.stepped
  -- who is established was so before this step under the same keys, or proves the configured peer's identity
  -- now (section 2.15)
  pub established : (ike : ℕ) (a : Association) (keys : KeyRecord)
      → association_of ike it.new.held.associations ≡ Some a → a.phase ≡ phase.Established keys
      → WasKnown it.meaning it.entries it.input it.old ike keys
  -- what the trace names came now, and the keys and the pair that came are named
  pub traced : IsTraced it.old.held it.table it.stepped it.new.held it.new_table
  -- what goes out and isn't named is in clear: of an IKE SA without keys, or a response of IKE_SA_INIT
  pub clear : (octets : Octets) → it.stepped.trace.sent ≡ None → octets_in it.stepped.output ≡ Some octets
      → IsInClear it.old.held it.stepped.trace.keyed it.new.held it.stepped.output
  -- but for a tick one IKE SA is changed, and pairs of no other
  pub one : is_tick it.input ≡ false → ChangesOne it.old.held it.new.held it.table it.new_table
  pub few_selectors : (made : MadeChild) (pair : Pair) → it.stepped.trace.child ≡ Some made
      → pair_at it.new_table.pairs made.serial ≡ Some pair → HasFewSelectors pair
  pub datagram : (from octets : Octets) (fresh : Fresh) → it.input ≡ Message from octets fresh → KeepsLawsOfDatagrams from octets fresh it

abbrev pub StepsByLaws : Meaning → List Entry → InputView → Machine → Database → Stepped → Machine → Database → Type 0
StepsByLaws meaning entries input old table stepped new new_table = KeepsLaws (record {
  meaning = meaning;
  entries = entries;
  input = input;
  old = old;
  table = table;
  stepped = stepped;
  new = new;
  new_table = new_table;
})
