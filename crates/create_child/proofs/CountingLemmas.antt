-- What a matched response gives back.
use Rattle.std.proofs.Common.{◌≡◌, ◌≢◌, ◌&&◌, ℕ, cond, not, Some, None, ap, refl, subst, sym, inl, inr, ◌∙◌}
use Rattle.std.proofs.lemmas.Bool.{eq-eqb, ne_eqb}
use Rattle.std.proofs.lemmas.Option.{none-some}
use Rattle.std.specs.Cmp.{nat_cmp_total, unsigned_tied}
use Rattle.std.specs.FinMap as map
use Rattle.std.specs.FinSet as set
use Rattle.std.specs.Ordering.{nat_cmp}
use Rattle.base.specs.Octets.{Octets}
use Rattle.requests.specs.Outgoing.{CountsAnswer, OwnRequests}
use Rattle.sadb.specs.Database.{Database, IsReserved, Releases}
use Rattle.association.specs.AskedChildren.{asked_of}
use Rattle.association.specs.Closing.{HoldsReserved, HoldsSpi}
use Rattle.association.specs.Purposes.{sought_of, spi_asked, AwaitsChild}
use Rattle.association.specs.declared.phase.Association.{Association}
use Rattle.association.specs.declared.phase.Request.{Request}
use Rattle.association.specs.declared.purpose.FurtherChild.{FurtherChild}
use Rattle.association.specs.declared.purpose.Purpose.{Purpose}
use Rattle.association.specs.declared.purpose.Purpose.TheVariants.{Begin, CreateChild, DeleteAssociation, DeleteChild, Identify, Probe}
use Rattle.association.specs.declared.purpose.Sought.TheVariants as sought
use Rattle.children.specs.declared.asking.Asked.{Asked}
use Rattle.association.specs.Issuing.{with_outgoing}

-- what was asked for is what the request for an additional Child SA asked for
pub record IsThatChild (p : Purpose) (asked : Asked) (nonce : Octets) : Type 0 where
  pub further : FurtherChild
  pub is : p ≡ CreateChild further
  pub asked_is : asked ≡ asked_of further.child
  pub nonce_is : nonce ≡ further.nonce

same_asked : (a b : Asked) (n m : Octets) → sought.Child a n ≡ sought.Child b m → a ≡ b
same_asked a b n m is = cc

same_nonce : (a b : Asked) (n m : Octets) → sought.Child a n ≡ sought.Child b m → n ≡ m
same_nonce a b n m is = cc

pub that_child : (p : Purpose) (asked : Asked) (nonce : Octets) → sought.Child asked nonce ≡ sought_of p → IsThatChild p asked nonce
that_child (CreateChild further) asked nonce is = record {
  further = further;
  is = refl;
  asked_is = same_asked asked (asked_of further.child) nonce further.nonce is;
  nonce_is = same_nonce asked (asked_of further.child) nonce further.nonce is;
}
that_child Begin asked nonce is = absurd (cc)
that_child Identify asked nonce is = absurd (cc)
that_child Probe asked nonce is = absurd (cc)
that_child (DeleteChild child) asked nonce is = absurd (cc)
that_child DeleteAssociation asked nonce is = absurd (cc)

-- another SPI stays reserved
pub release_keeps : (old : Database) (spi : ℕ) (new : Database) (q : ℕ) → q ≢ spi → Releases old spi new → IsReserved old q → IsReserved new q
release_keeps old spi new q apart is there =
    subst (λ (d : Database). IsReserved d q) (sym is.content)
    (set.contains-remove nat_cmp_total old.reserved spi q ∙ ap (λ b. not b && set.contains old.reserved q) (unsigned_tied q spi ∙ ne_eqb q spi apart) ∙ there)

removed_here : (m : map.FinMap nat_cmp Request) (k q : ℕ) → q ≡ k → map.get (map.remove m k) q ≡ None
removed_here m k q same = map.get-remove nat_cmp_total m k q ∙ ap (λ b. cond b None (map.get m q)) (unsigned_tied q k ∙ eq-eqb q k same)

pub same_request : (a b : Request) → Some a ≡ Some b → a ≡ b
same_request a b is = cc

pub same_spi : (a b : ℕ) → Some a ≡ Some b → a ≡ b
same_spi a b is = cc

-- the IKE SA holds the SPI of a request no more that was answered
pub given_back : (a : Association) (table : Database) (number : ℕ) (request : Request) (outgoing : OwnRequests Request) (spi : ℕ)
    → ((old new : OwnRequests Request) (request : Request) (counted number spi : ℕ) → CountsAnswer old counted request new → AwaitsChild new number spi → AwaitsChild old number spi)
    → HoldsReserved a table → CountsAnswer a.outgoing number request outgoing → spi_asked request.purpose ≡ Some spi → HoldsSpi (with_outgoing a outgoing) spi → ⊥
given_back a table number request outgoing spi counting holds is asked (inl its) =
    holds.first spi its (record { number = number; awaits = record { request = request; outstanding = is.there; reserved = asked } })
given_back a table number request outgoing spi counting holds is asked (inr awaits) =
    let own : AwaitsChild a.outgoing number spi = record { request = request; outstanding = is.there; reserved = asked } in
    let same : awaits.number ≡ number = holds.one awaits.number number spi (counting a.outgoing outgoing request number awaits.number spi is awaits.awaits) own in
    none-some awaits.awaits.request
    (sym (ap (λ (o : OwnRequests Request). map.get o.outstanding awaits.number) is.content ∙ removed_here a.outgoing.outstanding number awaits.number same) ∙ awaits.awaits.outstanding)
