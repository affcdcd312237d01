-- All outstanding requests are given up, one after the other, with the SPIs of the Child SAs that they asked
-- for.
use Rattle.std.proofs.Common.{◌≡◌, ◌≢◌, ◌+◌, ◌-◌, ◌<◌, ◌≤◌, ◌&&◌, ◌↔◌, ℕ, Bool, true, false, cond, not, Option, Some, None, refl, sym, ap, subst, ◌∙◌, inl, inr, arith}
use Rattle.std.specs.Prelude.{is_some, nat_eq, ◌⊎◌}
use Rattle.std.proofs.lemmas.Bool.{eq-eqb, ne_eqb}
use Rattle.std.proofs.lemmas.Bool.Decides.{eqb_tells, leb_tells}
use Rattle.std.proofs.lemmas.Option.{none-some}
use Rattle.std.specs.Cmp.{nat_cmp_total, unsigned_tied}
use Rattle.std.specs.Ordering.{nat_cmp}
use Rattle.std.specs.FinMap as map
use Rattle.std.specs.FinSet as set
use Rattle.requests.specs.Outgoing.{GivesUpRequests, OwnRequests, WithdrawsRequest}
use Rattle.sadb.specs.Database.{Database, IsReserved}
use Rattle.association.specs.Closing.{GivesUpSpi, GivesUpSpis}
use Rattle.association.specs.GivingUp.{GivesUpRequest}
use Rattle.association.specs.Purposes.{spi_asked, AwaitsChild, AwaitsSpi}
use Rattle.association.specs.declared.phase.Request.{Request}

abbrev Outstanding : Type 0
Outstanding = map.FinMap nat_cmp Request

removed_here : (m : Outstanding) (k q : ℕ) → q ≡ k → map.get (map.remove m k) q ≡ None
removed_here m k q same = map.get-remove nat_cmp_total m k q ∙ ap (λ b. cond b None (map.get m q)) (unsigned_tied q k ∙ eq-eqb q k same)

removed_apart : (m : Outstanding) (k q : ℕ) → q ≢ k → map.get (map.remove m k) q ≡ map.get m q
removed_apart m k q apart = map.get-remove nat_cmp_total m k q ∙ ap (λ b. cond b None (map.get m q)) (unsigned_tied q k ∙ ne_eqb q k apart)

still_gone : (m : Outstanding) (k q : ℕ) → map.get m q ≡ None → map.get (map.remove m k) q ≡ None
still_gone m k q gone = elim (eqb_tells q k) [
  | inl (_, same) ↦ removed_here m k q same
  | inr (_, apart) ↦ removed_apart m k q apart ∙ gone
]

pub was_there : (m : Outstanding) (k q : ℕ) (r : Request) → map.get (map.remove m k) q ≡ Some r → map.get m q ≡ Some r
was_there m k q r there = elim (eqb_tells q k) [
  | inl (_, same) ↦ absurd (none-some r (sym (removed_here m k q same) ∙ there))
  | inr (_, apart) ↦ sym (removed_apart m k q apart) ∙ there
]

some_there : (m : Outstanding) (k : ℕ) (r : Request) → map.get m k ≡ Some r → 1 ≤ map.len m
some_there m k r there = elim (leb_tells 1 (map.len m)) [
  | inl (_, some) ↦ some
  | inr (_, none) ↦
      (let empty : m ≡ map.empty = map.empty_of_len m (omega (arith, none)) in
      absurd (none-some r (sym (ap (λ (x : Outstanding). map.get x k) empty ∙ map.get-empty nat_cmp k) ∙ there)))
]

-- one fewer are left
pub fewer : (m : Outstanding) (k : ℕ) (r : Request) → map.get m k ≡ Some r → map.len (map.remove m k) + 1 ≡ map.len m
fewer m k r there =
    let left : map.len (map.remove m k) ≡ map.len m - 1 = map.len-remove nat_cmp_total m k ∙ ap (λ b. cond b (map.len m - 1) (map.len m)) (ap is_some there) in
    let some : 1 ≤ map.len m = some_there m k r there in
    omega (arith, left, some)

pub fewer_left : (old new : OwnRequests Request) (k : ℕ) (r : Request) → WithdrawsRequest old k r new → map.len new.outstanding < map.len old.outstanding
fewer_left old new k r is =
    let lens : map.len new.outstanding ≡ map.len (map.remove old.outstanding k) = ap (λ (o : OwnRequests Request). map.len o.outstanding) is.content in
    let one : map.len (map.remove old.outstanding k) + 1 ≡ map.len old.outstanding = fewer old.outstanding k r is.there in
    omega (arith, lens, one)

-- ---- an SPI whose request is outstanding no more

pub record WasGivenUp (old now : OwnRequests Request) (spi : ℕ) : Type 0 where
  pub number : ℕ
  pub awaited : AwaitsChild old number spi
  pub gone : map.get now.outstanding number ≡ None

-- some are given up, and their SPIs
pub record GivesUpSome (old : OwnRequests Request) (old_table : Database) (now : OwnRequests Request) (table : Database) : Type 0 where
  pub kept : (number : ℕ) (r : Request) → map.get now.outstanding number ≡ Some r → map.get old.outstanding number ≡ Some r
  pub content : now ≡ record old { outstanding = now.outstanding; room = now.room }
  pub count : now.room + map.len now.outstanding ≡ old.room + map.len old.outstanding
  pub spis : (spi : ℕ) → IsReserved table spi ↔ (IsReserved old_table spi × (¬ WasGivenUp old now spi))
  pub others : table ≡ record old_table { reserved = table.reserved; room = table.room }
  pub room : old_table.room ≤ table.room

pub none_yet : (old : OwnRequests Request) (table : Database) → GivesUpSome old table old table
none_yet old table = record {
  kept = λ number r there. there;
  content = refl;
  count = refl;
  spis = λ spi. (
    λ reserved. (reserved, λ given. none-some given.awaited.request (sym given.gone ∙ given.awaited.outstanding)),
    λ both. both.0,
  );
  others = refl;
  room = omega arith;
}

-- ---- what the release of one SPI does

one_spi : (a b : ℕ) → Some a ≡ Some b → a ≡ b
one_spi a b is = cc

both_false : (b : Bool) → (false && b) ≡ true → ⊥
both_false b is = cc

pub released_told : (o : Option ℕ) (old new : Database) → GivesUpSpi o old new → (spi : ℕ) → IsReserved new spi ↔ (IsReserved old spi × (o ≢ Some spi))
released_told None old new same spi = (
  λ reserved. (subst (λ (d : Database). IsReserved d spi) same reserved, λ is. none-some spi is),
  λ both. subst (λ (d : Database). IsReserved d spi) (sym same) both.0,
)
released_told (Some s) old new is spi =
    let told : set.contains new.reserved spi ≡ (not (nat_eq spi s) && set.contains old.reserved spi) =
    ap (λ (d : Database). set.contains d.reserved spi) is.content ∙ set.contains-remove nat_cmp_total old.reserved s spi ∙ ap (λ b. not b && set.contains old.reserved spi) (unsigned_tied spi s) in
    elim (eqb_tells spi s) [
      | inl (_, same) ↦ (
        λ reserved. absurd (both_false (set.contains old.reserved spi) (sym (told ∙ ap (λ b. not b && set.contains old.reserved spi) (eq-eqb spi s same)) ∙ reserved)),
        λ both. absurd (both.1 (ap Some (sym same))),
      )
      | inr (_, apart) ↦
          (let still : set.contains new.reserved spi ≡ set.contains old.reserved spi = told ∙ ap (λ b. not b && set.contains old.reserved spi) (ne_eqb spi s apart) in (
            λ reserved. (sym still ∙ reserved, λ e. apart (sym (one_spi s spi e))),
            λ both. still ∙ both.0,
          ))
    ]

pub released_others : (o : Option ℕ) (old new : Database) → GivesUpSpi o old new → new ≡ record old { reserved = new.reserved; room = new.room }
released_others None old new same = subst (λ (d : Database). d ≡ record old { reserved = d.reserved; room = d.room }) (sym same) refl
released_others (Some s) old new is =
    is.content ∙ ap (λ (r : set.FinSet nat_cmp). record old { reserved = r; room = new.room }) (sym (ap (λ (d : Database). d.reserved) is.content))

pub released_room : (o : Option ℕ) (old new : Database) → GivesUpSpi o old new → old.room ≤ new.room
released_room None old new same = subst (λ (d : Database). old.room ≤ d.room) (sym same) (omega arith)
released_room (Some s) old new is = is.room

-- ---- one more request

pub same_request : (a b : Request) → Some a ≡ Some b → a ≡ b
same_request a b is = cc

pub one_more : (old : OwnRequests Request) (old_table : Database) (now : OwnRequests Request) (table : Database) (n : ℕ) (new : OwnRequests Request) (new_table : Database)
    → GivesUpSome old old_table now table → GivesUpRequest now table n new new_table → GivesUpSome old old_table new new_table
one_more old old_table now table n new new_table before is =
    let r : Request = is.request in
    let there : map.get now.outstanding n ≡ Some r = is.withdrawn.there in
    let left : new.outstanding ≡ map.remove now.outstanding n = ap (λ (o : OwnRequests Request). o.outstanding) is.withdrawn.content in
    let rooms : new.room ≡ now.room + 1 = ap (λ (o : OwnRequests Request). o.room) is.withdrawn.content in
    let awaited : (spi : ℕ) → spi_asked r.purpose ≡ Some spi → WasGivenUp old new spi = λ spi asked. record {
      number = n;
      awaited = record { request = r; outstanding = before.kept n r there; reserved = asked };
      gone = ap (λ (m : Outstanding). map.get m n) left ∙ removed_here now.outstanding n n refl;
    } in
    let earlier : (spi : ℕ) → WasGivenUp old now spi → WasGivenUp old new spi = λ spi was. record {
      number = was.number;
      awaited = was.awaited;
      gone = ap (λ (m : Outstanding). map.get m was.number) left ∙ still_gone now.outstanding n was.number was.gone;
    } in
    let either : (spi : ℕ) → spi_asked r.purpose ≢ Some spi → WasGivenUp old new spi → WasGivenUp old now spi = λ spi other was. elim (eqb_tells was.number n) [
      | inl (_, same) ↦
          absurd (other (ap (λ (q : Request). spi_asked q.purpose) (same_request r was.awaited.request (sym (before.kept n r there) ∙ ap (map.get old.outstanding) (sym same) ∙ was.awaited.outstanding)) ∙ was.awaited.reserved))
      | inr (_, apart) ↦ record {
        number = was.number;
        awaited = was.awaited;
        gone = sym (removed_apart now.outstanding n was.number apart) ∙ sym (ap (λ (m : Outstanding). map.get m was.number) left) ∙ was.gone;
      }
    ] in
    record {
      kept = λ q other here. before.kept q other (was_there now.outstanding n q other (sym (ap (λ (m : Outstanding). map.get m q) left) ∙ here));
      content =
          is.withdrawn.content
          ∙ ap (λ (o : OwnRequests Request). record o { outstanding = map.remove now.outstanding n; room = now.room + 1 }) before.content
          ∙ ap (λ (m : Outstanding). record old { outstanding = m; room = now.room + 1 }) (sym left)
          ∙ ap (λ (k : ℕ). record old { outstanding = new.outstanding; room = k }) (sym rooms);
      count = (let fewer_now : map.len (map.remove now.outstanding n) + 1 ≡ map.len now.outstanding = fewer now.outstanding n r there in
          let lens : map.len new.outstanding ≡ map.len (map.remove now.outstanding n) = ap (λ (m : Outstanding). map.len m) left in
          omega (arith, fewer_now, lens, rooms, before.count));
      spis = λ spi. (
        λ reserved. (let now_told = (released_told (spi_asked r.purpose) table new_table is.released spi).0 reserved in
            let old_told = (before.spis spi).0 now_told.0 in
            (old_told.0, λ was. old_told.1 (either spi now_told.1 was))),
        λ both. (released_told (spi_asked r.purpose) table new_table is.released spi).1 (
          (before.spis spi).1 (both.0, λ was. both.1 (earlier spi was)),
          λ asked. both.1 (awaited spi asked),
        ),
      );
      others =
          released_others (spi_asked r.purpose) table new_table is.released
          ∙ ap (λ (d : Database). record d { reserved = new_table.reserved; room = new_table.room }) before.others;
      room = (let more = released_room (spi_asked r.purpose) table new_table is.released in omega (arith, more, before.room));
    }

-- its SPI is still reserved
pub not_yet : (old : OwnRequests Request) (old_table : Database) (now : OwnRequests Request) (table : Database) (n : ℕ) (r : Request) (spi : ℕ)
    → ((number : ℕ) → AwaitsSpi old number → IsReserved old_table number)
    → ((number other spi : ℕ) → AwaitsChild old number spi → AwaitsChild old other spi → number ≡ other)
    → GivesUpSome old old_table now table → map.get now.outstanding n ≡ Some r → AwaitsChild now n spi → IsReserved table spi
not_yet old old_table now table n r spi reserved one before there awaits =
    let was : AwaitsChild old n spi = record { request = awaits.request; outstanding = before.kept n awaits.request awaits.outstanding; reserved = awaits.reserved } in
    (before.spis spi).1 (
      reserved spi (record { number = n; awaits = was }),
      λ given. none-some r (sym given.gone ∙ ap (map.get now.outstanding) (one given.number n spi given.awaited was) ∙ there),
    )

-- ---- all of them

none_left : (m : Outstanding) → ((q : ℕ) → map.get m q ≡ None) → m ≡ map.empty
none_left m none = map.same_map nat_cmp_total map.nat_cmp-IsAntisymmetric m map.empty (λ q. none q ∙ sym (map.get-empty nat_cmp q))

pub all_requests : (old : OwnRequests Request) (old_table : Database) (now : OwnRequests Request) (table : Database)
    → GivesUpSome old old_table now table → ((q : ℕ) → map.get now.outstanding q ≡ None) → GivesUpRequests old now
all_requests old old_table now table given none =
    let empty : now.outstanding ≡ map.empty = none_left now.outstanding none in
    let length_is : map.len now.outstanding ≡ 0 = ap (λ (m : Outstanding). map.len m) empty ∙ map.len-empty nat_cmp Request in
    let rooms : now.room ≡ old.room + map.len old.outstanding = omega (arith, length_is, given.count) in
    record {
      content =
          given.content
          ∙ ap (λ (m : Outstanding). record old { outstanding = m; room = now.room }) empty
          ∙ ap (λ (k : ℕ). record old { outstanding = map.empty; room = k }) rooms;
    }

pub all_spis : (old : OwnRequests Request) (old_table : Database) (now : OwnRequests Request) (table : Database)
    → GivesUpSome old old_table now table → ((q : ℕ) → map.get now.outstanding q ≡ None) → GivesUpSpis (AwaitsSpi old) old_table table
all_spis old old_table now table given none = record {
  reserved = λ spi. (
    λ reserved. (let told = (given.spis spi).0 reserved in
        (told.0, λ awaits. told.1 (record { number = awaits.number; awaited = awaits.awaits; gone = none awaits.number }))),
    λ both. (given.spis spi).1 (both.0, λ was. both.1 (record { number = was.number; awaits = was.awaited })),
  );
  content = given.others;
  room = given.room;
}

-- ---- that of the first Child SA, and all others

pub both_given_up : (o : Option ℕ) (requests : OwnRequests Request) (old between new : Database) → GivesUpSpi o old between → GivesUpSpis (AwaitsSpi requests) between new
    → GivesUpSpis (λ spi. (o ≡ Some spi) ⊎ AwaitsSpi requests spi) old new
both_given_up o requests old between new first others = record {
  reserved = λ spi. (
    λ reserved. (let then = (others.reserved spi).0 reserved in
        let before = (released_told o old between first spi).0 then.0 in
        (before.0, λ held. elim held [ inl its ↦ before.1 its | inr awaits ↦ then.1 awaits ])),
    λ both. (others.reserved spi).1 ((released_told o old between first spi).1 (both.0, λ its. both.1 (inl its)), λ awaits. both.1 (inr awaits)),
  );
  content = others.content ∙ ap (λ (d : Database). record d { reserved = new.reserved; room = new.room }) (released_others o old between first);
  room = (let one = released_room o old between first in omega (arith, one, others.room));
}
