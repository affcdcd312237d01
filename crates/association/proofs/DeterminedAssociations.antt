-- What a message is to an IKE SA goes by what is held of it, and so does what its end leaves.
use Rattle.std.proofs.Common.{◌≡◌, ℕ, Bool, true, false, refl, inl, inr, sym, ap, subst, ◌∙◌}
use Rattle.std.specs.Cmp.{nat_cmp_total}
use Rattle.std.specs.FinSet as set
use Rattle.std.specs.Ordering.{nat_cmp}
use Rattle.base.specs.Octets.{Octets}
use Rattle.wire.specs.declared.message.Message.{Message}
use Rattle.requests.specs.Contents.{incoming_content, outgoing_content}
use Rattle.requests.specs.Incoming.{IsJudgement, PeerRequests}
use Rattle.requests.specs.Outgoing.{GivesUpRequests, OwnRequests}
use Rattle.requests.specs.declared.incoming.Judgement.{Judgement}
use Rattle.sadb.specs.Contents.{table_content}
use Rattle.sadb.specs.Database.{Database, RemovesAllOf}
use Rattle.association.specs.Closing.{Closes, GivesUpSpis, HoldsSpi}
use Rattle.association.specs.Contents.{association_content}
use Rattle.association.specs.Phases.{keys_in, spi_in}
use Rattle.association.specs.Purposes.{AwaitsSpi}
use Rattle.association.specs.Receiving.{judged_reception, opened_by, reception_of_response, IsReceivedBy, Opening, Reception}
use Rattle.association.specs.declared.phase.Association.{Association}
use Rattle.association.specs.declared.phase.Phase.TheVariants.{Closed}
use Rattle.association.specs.declared.phase.Request.{Request}

abbrev pub JudgesByContent : Type 0
JudgesByContent = (old other : PeerRequests) (n : ℕ) (judgement : Judgement) → incoming_content old ≡ incoming_content other → IsJudgement old n judgement → IsJudgement other n judgement

pub received_by_content : JudgesByContent → (response : Bool) (plain_of : Opening) (a b : Association) (octets : Octets) (m : Message) (reception : Reception) → association_content a ≡ association_content b
    → IsReceivedBy response plain_of a octets m reception → IsReceivedBy response plain_of b octets m reception
received_by_content judges true plain_of a b octets m reception same is =
    is ∙ ap (λ (x : Association). reception_of_response plain_of x octets m) same
received_by_content judges false plain_of a b octets m reception same is = record {
  judgement = is.judgement;
  number = judges a.incoming b.incoming m.header.id is.judgement (ap (λ (x : Association). x.incoming) same) is.number;
  whole = is.whole ∙ ap (λ (x : Association). judged_reception x.phase m.header.exchange (opened_by plain_of x octets m.payloads) is.judgement) same;
}

-- what lower laws say of tables and requests after a call
pub record Laws : Type 0 where
  pub emptied : (old other a b : Database) (ike : ℕ) → table_content old ≡ table_content other → RemovesAllOf old ike a → RemovesAllOf other ike b → table_content a ≡ table_content b
  pub given_up : (old other a b : OwnRequests Request) → outgoing_content old ≡ outgoing_content other → GivesUpRequests old a → GivesUpRequests other b → outgoing_content a ≡ outgoing_content b

-- ---- what is held goes by content

to_content : (r : OwnRequests Request) (spi : ℕ) → AwaitsSpi r spi → AwaitsSpi (outgoing_content r) spi
to_content r spi awaits = record { number = awaits.number; awaits = record { request = awaits.awaits.request; outstanding = awaits.awaits.outstanding; reserved = awaits.awaits.reserved } }

from_content : (r : OwnRequests Request) (spi : ℕ) → AwaitsSpi (outgoing_content r) spi → AwaitsSpi r spi
from_content r spi awaits = record { number = awaits.number; awaits = record { request = awaits.awaits.request; outstanding = awaits.awaits.outstanding; reserved = awaits.awaits.reserved } }

held_alike : (a b : Association) (spi : ℕ) → association_content a ≡ association_content b → HoldsSpi a spi → HoldsSpi b spi
held_alike a b spi same (inl its) = inl (sym (ap (λ (x : Association). spi_in x.phase) same) ∙ its)
held_alike a b spi same (inr awaits) =
    inr (from_content b.outgoing spi (subst (λ (x : Association). AwaitsSpi x.outgoing spi) same (to_content a.outgoing spi awaits)))

both_ways : (b c : Bool) → (b ≡ true → c ≡ true) → (c ≡ true → b ≡ true) → b ≡ c
both_ways true c one two = sym (one refl)
both_ways false true one two = two refl
both_ways false false one two = refl

same_after_giving_up : (Held Other : ℕ → Type 0) (old other a b : Database) → ((spi : ℕ) → Held spi → Other spi) → ((spi : ℕ) → Other spi → Held spi)
    → table_content old ≡ table_content other → GivesUpSpis Held old a → GivesUpSpis Other other b → table_content a ≡ table_content b
same_after_giving_up Held Other old other a b there back same one two =
    let was : (spi : ℕ) → set.contains old.reserved spi ≡ set.contains other.reserved spi = λ spi. ap (λ (d : Database). set.contains d.reserved spi) same in
    let reserved : a.reserved ≡ b.reserved = set.same_set nat_cmp_total set.nat_cmp-IsAntisymmetric a.reserved b.reserved (λ spi.
    both_ways (set.contains a.reserved spi) (set.contains b.reserved spi)
    (λ is. let before = (one.reserved spi).0 is in (two.reserved spi).1 (sym (was spi) ∙ before.0, λ held. before.1 (back spi held)))
    (λ is. let before = (two.reserved spi).0 is in (one.reserved spi).1 (was spi ∙ before.0, λ held. before.1 (there spi held)))) in
    ap table_content one.content
    ∙ ap (λ (d : Database). record d { reserved = a.reserved; room = 0 }) same
    ∙ ap (λ (r : set.FinSet nat_cmp). record other { reserved = r; room = 0 }) reserved
    ∙ sym (ap table_content two.content)

pub same_after_closing : Laws → (old other a b : Association) (old_table other_table a_table b_table : Database) (moment : ℕ) → association_content old ≡ association_content other → table_content old_table ≡ table_content other_table
    → Closes old old_table moment a a_table → Closes other other_table moment b b_table → (association_content a ≡ association_content b) × (table_content a_table ≡ table_content b_table)
same_after_closing laws old other a b old_table other_table a_table b_table moment same alike one two =
    let serials : other.serial ≡ old.serial = sym (ap (λ (x : Association). x.serial) same) in
    let removed : RemovesAllOf two.between old.serial b_table = subst (λ (ike : ℕ). RemovesAllOf two.between ike b_table) serials two.removed in
    let between = same_after_giving_up (HoldsSpi old) (HoldsSpi other) old_table other_table one.between two.between (λ spi. held_alike old other spi same) (λ spi. held_alike other old spi (sym same)) alike one.released two.released in
    let requests : outgoing_content a.outgoing ≡ outgoing_content b.outgoing = laws.given_up old.outgoing other.outgoing a.outgoing b.outgoing (ap (λ (x : Association). x.outgoing) same) one.requests two.requests in (
      ap association_content one.content
          ∙ ap (λ (x : Association). record x { outgoing = outgoing_content a.outgoing; phase = Closed (keys_in x.phase) moment }) same
          ∙ ap (λ (o : OwnRequests Request). record (association_content other) { outgoing = o; phase = Closed (keys_in other.phase) moment }) requests
          ∙ sym (ap association_content two.content),
      laws.emptied one.between two.between a_table b_table old.serial between one.removed removed,
    )
