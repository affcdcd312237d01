-- The SPIs that an IKE SA holds stay reserved.
use Rattle.std.proofs.Common.{◌≡◌, ◌≢◌, ℕ, cond, None, Some, sym, ap, subst, ◌∙◌, inl, inr}
use Rattle.std.proofs.lemmas.Bool.{eq-eqb, ne_eqb}
use Rattle.std.proofs.lemmas.Bool.Decides.{eqb_tells}
use Rattle.std.proofs.lemmas.Option.{none-some}
use Rattle.std.specs.Cmp.{nat_cmp_total, unsigned_tied}
use Rattle.std.specs.Ordering.{nat_cmp}
use Rattle.std.specs.FinMap as map
use Rattle.requests.specs.Incoming.{PeerRequests}
use Rattle.requests.specs.Outgoing.{CountsAnswer, HasSameOwnRequests, IssuesRequest, OwnRequests, ReplacesRequest, WithdrawsRequest}
use Rattle.sadb.specs.Database.{Database, IsAsBefore, IsReserved}
use Rattle.association.specs.Closing.{Closes, HoldsReserved, HoldsSpi}
use Rattle.association.specs.Phases.{spi_in}
use Rattle.association.specs.Purposes.{spi_asked, AwaitsChild, AwaitsSpi}
use Rattle.association.specs.declared.phase.Association.{Association}
use Rattle.association.specs.declared.phase.Request.{Request}
use Rattle.association.proofs.GivingUpLemmas.{same_request, was_there}

abbrev WereAwaited : Association → Association → Type 0
WereAwaited a b = (number spi : ℕ) → AwaitsChild b.outgoing number spi → AwaitsChild a.outgoing number spi

awaited_some : (a b : Association) (spi : ℕ) → WereAwaited a b → AwaitsSpi b.outgoing spi → AwaitsSpi a.outgoing spi
awaited_some a b spi requests awaits = record { number = awaits.number; awaits = requests awaits.number spi awaits.awaits }

held_before : (a b : Association) (spi : ℕ) → ((spi : ℕ) → spi_in b.phase ≡ Some spi → spi_in a.phase ≡ Some spi) → WereAwaited a b → HoldsSpi b spi → HoldsSpi a spi
held_before a b spi phases requests (inl its) = inl (phases spi its)
held_before a b spi phases requests (inr awaits) = inr (awaited_some a b spi requests awaits)

pub fewer_held : (a b : Association) (table new : Database) → ((spi : ℕ) → spi_in b.phase ≡ Some spi → spi_in a.phase ≡ Some spi) → WereAwaited a b
    → ((spi : ℕ) → HoldsSpi b spi → IsReserved table spi → IsReserved new spi) → HoldsReserved a table → HoldsReserved b new
fewer_held a b table new phases requests stays holds = record {
  reserved = λ spi its. stays spi its (holds.reserved spi (held_before a b spi phases requests its));
  first = λ spi its awaits. holds.first spi (phases spi its) (awaited_some a b spi requests awaits);
  one = λ number other spi one two. holds.one number other spi (requests number spi one) (requests other spi two);
}

-- ---- which Child SAs are awaited

kept_awaited : (old new : OwnRequests Request) (number spi : ℕ) → ((r : Request) → map.get new.outstanding number ≡ Some r → map.get old.outstanding number ≡ Some r)
    → AwaitsChild new number spi → AwaitsChild old number spi
kept_awaited old new number spi kept awaits = record { request = awaits.request; outstanding = kept awaits.request awaits.outstanding; reserved = awaits.reserved }

pub prepared_awaited : (old new : OwnRequests Request) (number spi : ℕ) → HasSameOwnRequests old new → AwaitsChild new number spi → AwaitsChild old number spi
prepared_awaited old new number spi same =
    kept_awaited old new number spi (λ r there. sym (ap (λ (o : OwnRequests Request). map.get o.outstanding number) same.content) ∙ there)

pub counted_awaited : (old new : OwnRequests Request) (request : Request) (counted number spi : ℕ) → CountsAnswer old counted request new → AwaitsChild new number spi → AwaitsChild old number spi
counted_awaited old new request counted number spi is =
    kept_awaited old new number spi (λ r there. was_there old.outstanding counted number r (sym (ap (λ (o : OwnRequests Request). map.get o.outstanding number) is.content) ∙ there))

pub withdrawn_awaited : (old new : OwnRequests Request) (request : Request) (withdrawn number spi : ℕ) → WithdrawsRequest old withdrawn request new → AwaitsChild new number spi → AwaitsChild old number spi
withdrawn_awaited old new request withdrawn number spi is =
    kept_awaited old new number spi (λ r there. was_there old.outstanding withdrawn number r (sym (ap (λ (o : OwnRequests Request). map.get o.outstanding number) is.content) ∙ there))

inserted_here : (m : map.FinMap nat_cmp Request) (k q : ℕ) (v : Request) → q ≡ k → map.get (map.insert m k v) q ≡ Some v
inserted_here m k q v same = map.get-insert nat_cmp_total m k v q ∙ ap (λ b. cond b (Some v) (map.get m q)) (unsigned_tied q k ∙ eq-eqb q k same)

inserted_apart : (m : map.FinMap nat_cmp Request) (k q : ℕ) (v : Request) → q ≢ k → map.get (map.insert m k v) q ≡ map.get m q
inserted_apart m k q v apart = map.get-insert nat_cmp_total m k v q ∙ ap (λ b. cond b (Some v) (map.get m q)) (unsigned_tied q k ∙ ne_eqb q k apart)

pub issued_awaited : (old new : OwnRequests Request) (request : Request) (issued number spi : ℕ) → spi_asked request.purpose ≡ None → IssuesRequest old request issued new
    → AwaitsChild new number spi → AwaitsChild old number spi
issued_awaited old new request issued number spi none is awaits =
    let there : map.get (map.insert old.outstanding issued request) number ≡ Some awaits.request = sym (ap (λ (o : OwnRequests Request). map.get o.outstanding number) is.content) ∙ awaits.outstanding in
    elim (eqb_tells number issued) [
      | inl (_, same) ↦
          absurd (none-some spi (sym none ∙ ap (λ (r : Request). spi_asked r.purpose) (same_request request awaits.request (sym (inserted_here old.outstanding issued number request same) ∙ there)) ∙ awaits.reserved))
      | inr (_, apart) ↦ record { request = awaits.request; outstanding = sym (inserted_apart old.outstanding issued number request apart) ∙ there; reserved = awaits.reserved }
    ]

pub replaced_awaited : (old new : OwnRequests Request) (was is : Request) (replaced number spi : ℕ) → spi_asked is.purpose ≡ None → ReplacesRequest old replaced was is new
    → AwaitsChild new number spi → AwaitsChild old number spi
replaced_awaited old new was is replaced number spi none done awaits =
    let there : map.get (map.insert old.outstanding replaced is) number ≡ Some awaits.request = sym (ap (λ (o : OwnRequests Request). map.get o.outstanding number) done.content) ∙ awaits.outstanding in
    elim (eqb_tells number replaced) [
      | inl (_, same) ↦
          absurd (none-some spi (sym none ∙ ap (λ (r : Request). spi_asked r.purpose) (same_request is awaits.request (sym (inserted_here old.outstanding replaced number is same) ∙ there)) ∙ awaits.reserved))
      | inr (_, apart) ↦ record { request = awaits.request; outstanding = sym (inserted_apart old.outstanding replaced number is apart) ∙ there; reserved = awaits.reserved }
    ]

-- ---- who is closed

pub none_held : (old : Association) (table : Database) (moment : ℕ) (new : Association) (new_table : Database) (spi : ℕ) → Closes old table moment new new_table → HoldsSpi new spi → ⊥
none_held old table moment new new_table spi is (inl its) =
    none-some spi (sym (ap (λ (a : Association). spi_in a.phase) is.content) ∙ its)
none_held old table moment new new_table spi is (inr awaits) =
    none-some awaits.awaits.request (sym (ap (λ (o : OwnRequests Request). map.get o.outstanding awaits.number) is.requests.content ∙ map.get-empty nat_cmp awaits.number) ∙ awaits.awaits.outstanding)

-- ---- what is held, step by step

pub taken_held : (a : Association) (table : Database) (incoming : PeerRequests) → HoldsReserved a table → HoldsReserved (record a { incoming = incoming }) table
taken_held a table incoming holds = record { reserved = holds.reserved; first = holds.first; one = holds.one }

pub counted_held : (a : Association) (table : Database) (number : ℕ) (request : Request) (outgoing : OwnRequests Request) → CountsAnswer a.outgoing number request outgoing → HoldsReserved a table
    → HoldsReserved (record a { outgoing = outgoing }) table
counted_held a table number request outgoing is holds =
    fewer_held a (record a { outgoing = outgoing }) table table (λ spi its. its)
    (λ n spi. counted_awaited a.outgoing outgoing request number n spi is)
    (λ spi its there. there) holds

pub room_held : (a : Association) (table new : Database) → IsAsBefore table new → HoldsReserved a table → HoldsReserved a new
room_held a table new is holds = record {
  reserved = λ spi its. subst (λ (d : Database). IsReserved d spi) (sym is.content) (holds.reserved spi its);
  first = holds.first;
  one = holds.one;
}
