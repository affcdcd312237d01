-- The SPIs that an IKE SA holds from its command on.
use Rattle.std.proofs.Common.{◌≡◌, ◌⊎◌, ◌+◌, ◌||◌, inl, inr, ℕ, Bool, true, false, cond, Some, ap, arith, refl, subst, sym, ◌∙◌}
use Rattle.std.proofs.lemmas.Bool.Decides.{eqb_tells}
use Rattle.std.proofs.lemmas.Option.{none-some}
use Rattle.std.specs.Cmp.{nat_cmp_total, unsigned_tied}
use Rattle.std.specs.FinMap as map
use Rattle.std.specs.FinSet as set
use Rattle.std.specs.Ordering.{nat_cmp}
use Rattle.base.specs.Octets.{Octets}
use Rattle.base.specs.declared.selector.Selector.{Selector}
use Rattle.suite.specs.declared.keys.Keys.{Keys}
use Rattle.requests.specs.Outgoing.{OwnRequests}
use Rattle.sadb.specs.Database.{Database, IsAsBefore, IsReserved, IsSoundTable, Reserves}
use Rattle.association.specs.Closing.{HoldsReserved, HoldsSpi}
use Rattle.association.specs.Phases.{spi_in}
use Rattle.association.specs.Purposes.{spi_asked, AwaitsChild}
use Rattle.association.specs.declared.phase.Association.{Association}
use Rattle.association.specs.declared.phase.Request.{Request}
use Rattle.association.specs.declared.purpose.Purpose.TheVariants.{CreateChild}
use Rattle.setup.specs.Configs.{Setup}
use Rattle.association.specs.Issuing.{new_request, IssuesNext}
use Rattle.create_child.specs.Asking.{wanted, AsksForFurther}
use Rattle.create_child.proofs.CountingLemmas.{same_request, same_spi}

-- ---- maps and sets

-- what stands where one was put: it, or what stood there before
put_at : (outstanding : map.FinMap nat_cmp Request) (k : ℕ) (request : Request) (number : ℕ) (found : Request) → map.get (map.insert outstanding k request) number ≡ Some found
    → (map.get outstanding number ≡ Some found) ⊎ ((number ≡ k) × (request ≡ found))
put_at outstanding k request number found there = elim (eqb_tells number k) [
  | inl (one, same) ↦ (let is : Some request ≡ Some found = sym (map.get-insert nat_cmp_total outstanding k request number ∙ ap (λ b. cond b (Some request) (map.get outstanding number)) (unsigned_tied number k ∙ one)) ∙ there in
      inr (same, same_request request found is))
  | inr (none, apart) ↦ inl (sym (map.get-insert nat_cmp_total outstanding k request number ∙ ap (λ b. cond b (Some request) (map.get outstanding number)) (unsigned_tied number k ∙ none)) ∙ there)
]

put_here : (outstanding : map.FinMap nat_cmp Request) (k : ℕ) (request : Request) → map.get (map.insert outstanding k request) k ≡ Some request
put_here outstanding k request = elim (eqb_tells k k) [
  | inl (one, same) ↦ map.get-insert nat_cmp_total outstanding k request k ∙ ap (λ b. cond b (Some request) (map.get outstanding k)) (unsigned_tied k k ∙ one)
  | inr (none, apart) ↦ absurd (apart refl)
]

or_true : (b c : Bool) → c ≡ true → (b || c) ≡ true
or_true true c is = refl
or_true false c is = is

inserted : (s : set.FinSet nat_cmp) (k : ℕ) → set.contains (set.insert s k) k ≡ true
inserted s k = elim (eqb_tells k k) [
  | inl (one, same) ↦ set.contains-insert nat_cmp_total s k k ∙ ap (λ b. b || set.contains s k) (unsigned_tied k k ∙ one)
  | inr (none, apart) ↦ absurd (apart refl)
]

-- ---- the table

reserves_own : (old : Database) (spi : ℕ) (new : Database) → Reserves old spi new → IsReserved new spi
reserves_own old spi new is = ap (λ (d : Database). set.contains d.reserved spi) is.content ∙ inserted old.reserved spi

reserves_others : (old between : Database) (spi : ℕ) (new : Database) (q : ℕ) → IsAsBefore old between → Reserves between spi new → IsReserved old q → IsReserved new q
reserves_others old between spi new q room is there =
    ap (λ (d : Database). set.contains d.reserved q) is.content
    ∙ set.contains-insert nat_cmp_total between.reserved spi q
    ∙ or_true _ (set.contains between.reserved q) (ap (λ (d : Database). set.contains d.reserved q) room.content ∙ there)

reserves_next : (old between : Database) (spi : ℕ) (new : Database) → IsAsBefore old between → Reserves between spi new → spi ≡ old.start + old.given
reserves_next old between spi new room is = is.in_order ∙ ap (λ (d : Database). d.start + d.given) room.content

-- ---- a request that goes out

issued_here : (old : OwnRequests Request) (request : Request) (new : OwnRequests Request) → IssuesNext old request new → map.get new.outstanding old.next ≡ Some request
issued_here old request new is = ap (λ (r : OwnRequests Request). map.get r.outstanding old.next) is.issued.content ∙ put_here is.ready.outstanding old.next request

issued_at : (old : OwnRequests Request) (request : Request) (new : OwnRequests Request) (number : ℕ) (found : Request) → IssuesNext old request new → map.get new.outstanding number ≡ Some found
    → (map.get old.outstanding number ≡ Some found) ⊎ ((number ≡ old.next) × (request ≡ found))
issued_at old request new number found is there =
    elim (put_at is.ready.outstanding old.next request number found (sym (ap (λ (r : OwnRequests Request). map.get r.outstanding number) is.issued.content) ∙ there)) [
      | inl before ↦ inl (sym (ap (λ (r : OwnRequests Request). map.get r.outstanding number) is.prepared.content) ∙ before)
      | inr now ↦ inr now
    ]

-- a Child SA is awaited by it, or was before
awaited_by : (old new : OwnRequests Request) (request : Request) (spi number q : ℕ) → spi_asked request.purpose ≡ Some spi → IssuesNext old request new → AwaitsChild new number q
    → AwaitsChild old number q ⊎ ((number ≡ old.next) × (q ≡ spi))
awaited_by old new request spi number q asked is awaits =
    elim (issued_at old request new number awaits.request is awaits.outstanding) [
      | inl before ↦ inl (record { request = awaits.request; outstanding = before; reserved = awaits.reserved })
      | inr (here, now) ↦ inr (here, same_spi q spi (sym awaits.reserved ∙ ap (λ (r : Request). spi_asked r.purpose) (sym now) ∙ asked))
    ]

-- ---- the laws

module _ (body_of : Keys → Octets → Octets → Octets → Octets) (setup : Setup) (local remote : Selector) (old : Association) (table : Database) (octets : Octets) (new : Association) (new_table : Database) where
  abbrev its_request : ℕ → Request
  its_request spi = new_request octets (CreateChild (wanted setup spi local remote)) setup.moment

  pub asked_own : AsksForFurther body_of setup local remote old table octets new new_table → HoldsSpi new (table.start + table.given)
  asked_own is =
      subst (HoldsSpi new) (reserves_next table is.between is.spi new_table is.room is.reserved)
      (subst (λ (a : Association). HoldsSpi a is.spi) (sym is.content)
      (inr (record {
        number = old.outgoing.next;
        awaits = record { request = its_request is.spi; outstanding = issued_here old.outgoing (its_request is.spi) is.outgoing is.issued; reserved = refl };
      })))

  awaits_further : (is : AsksForFurther body_of setup local remote old table octets new new_table) (number q : ℕ) → AwaitsChild new.outgoing number q
      → AwaitsChild old.outgoing number q ⊎ ((number ≡ old.outgoing.next) × (q ≡ is.spi))
  awaits_further is number q awaits =
      awaited_by old.outgoing is.outgoing (its_request is.spi) is.spi number q refl is.issued
      (subst (λ (a : Association). AwaitsChild a.outgoing number q) is.content awaits)

  pub asked_holds : (q : ℕ) → AsksForFurther body_of setup local remote old table octets new new_table → HoldsSpi new q → HoldsSpi old q ⊎ (q ≡ table.start + table.given)
  asked_holds q is (inl its) = inl (inl (sym (ap (λ (a : Association). spi_in a.phase) is.content) ∙ its))
  asked_holds q is (inr awaits) =
      elim (awaits_further is awaits.number q awaits.awaits) [
        | inl before ↦ inl (inr (record { number = awaits.number; awaits = before }))
        | inr (here, same) ↦ inr (same ∙ reserves_next table is.between is.spi new_table is.room is.reserved)
      ]

  pub asked_others : (q : ℕ) → AsksForFurther body_of setup local remote old table octets new new_table → IsReserved table q → IsReserved new_table q
  asked_others q is there = reserves_others table is.between is.spi new_table q is.room is.reserved there

  -- the SPI that comes is none that was held
  comes_new : IsSoundTable table → HoldsReserved old table → (is : AsksForFurther body_of setup local remote old table octets new new_table) (number q : ℕ)
      → AwaitsChild old.outgoing number q → q ≡ is.spi → ⊥
  comes_new sound holds is number q awaits same =
      let given = sound.reserved_given q (holds.reserved q (inr (record { number = number; awaits = awaits }))) in
      let next = reserves_next table is.between is.spi new_table is.room is.reserved in
      let before = given.before_next in
      omega (arith, before, same, next)

  pub asked_reserved : IsSoundTable table → HoldsReserved old table → AsksForFurther body_of setup local remote old table octets new new_table → HoldsReserved new new_table
  asked_reserved sound holds is =
      record {
        reserved = λ q held.
            elim (asked_holds q is held) [
              | inl before ↦ asked_others q is (holds.reserved q before)
              | inr same ↦ subst (IsReserved new_table) (reserves_next table is.between is.spi new_table is.room is.reserved ∙ sym same) (reserves_own is.between is.spi new_table is.reserved)
            ];
        first = λ q its awaits. none-some q (sym (ap spi_in is.established) ∙ sym (ap (λ (a : Association). spi_in a.phase) is.content) ∙ its);
        one = λ number other q one two.
            elim (awaits_further is number q one) [
              | inl before ↦ (elim (awaits_further is other q two) [
                | inl too ↦ holds.one number other q before too
                | inr (here, same) ↦ absurd (comes_new sound holds is number q before same)
              ])
              | inr (here, same) ↦ (elim (awaits_further is other q two) [
                | inl too ↦ absurd (comes_new sound holds is other q too same)
                | inr (there, also) ↦ here ∙ sym there
              ])
            ];
      }
