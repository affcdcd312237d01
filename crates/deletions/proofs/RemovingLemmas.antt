-- SA pairs taken out one after the other, and what is left.
use Rattle.std.proofs.Common.{◌≡◌, ◌≢◌, ◌<◌, ◌++◌, ◌∷◌, [], ◌↔◌, ℕ, List, Option, Some, None, length, cond, get_or, arith, sym, ap, ◌∙◌, refl, inl, inr, subst}
use Rattle.std.specs.Prelude.{All, Bool, Contains, IsSome, take}
use Rattle.std.specs.Cmp.{nat_cmp_total, unsigned_tied}
use Rattle.std.specs.FinMap as map
use Rattle.std.specs.FinSet as set
use Rattle.std.proofs.lemmas.Bool.{eq-eqb, ne_eqb}
use Rattle.std.proofs.lemmas.Bool.Decides.{eqb_tells}
use Rattle.std.proofs.lemmas.List.{get_or_default, get_or-take, length-append, length-take}
use Rattle.std.proofs.lemmas.List.Elements.{All-contains, All-weaker, Contains-append_left, Contains-push, Contains-push_cases}
use Rattle.std.proofs.lemmas.Option.{none-some, same_Some}
use Rattle.sadb.specs.Contents.{table_content}
use Rattle.sadb.specs.Database.{pair_at, BelongsTo, Database, IsLive, IsSoundTable, IsThere, PairMap, Removes}
use Rattle.sadb.specs.Following.{Follows, IsSamePair}
use Rattle.sadb.specs.declared.pair.Pair.{Pair}
use Rattle.deletions.specs.Deciding.{AreLivePairs}
use Rattle.deletions.specs.declared.naming.DeletedPairs.{DeletedPairs}
use Rattle.deletions.specs.Removing.{AreDistinct, RemovesNamed}

abbrev choice : Option Pair → Option Pair → Bool → Option Pair
choice here there b = cond b here there

pub removed_here : (m : PairMap) (k q : ℕ) → q ≡ k → map.get (map.remove m k) q ≡ None
removed_here m k q same = map.get-remove nat_cmp_total m k q ∙ ap (choice None (map.get m q)) (unsigned_tied q k ∙ eq-eqb q k same)

pub removed_apart : (m : PairMap) (k q : ℕ) → q ≢ k → map.get (map.remove m k) q ≡ map.get m q
removed_apart m k q apart = map.get-remove nat_cmp_total m k q ∙ ap (choice None (map.get m q)) (unsigned_tied q k ∙ ne_eqb q k apart)

-- one more was taken out
pub one_more_removed : (old now new : Database) (serials : List ℕ) (n : ℕ) → RemovesNamed old serials now → Removes now n new → RemovesNamed old (serials ++ n ∷ []) new
one_more_removed old now new serials n before removes =
    let pairs : new.pairs ≡ map.remove now.pairs n = ap (λ (d : Database). d.pairs) removes.content in
    record {
      kept = λ serial pair. elim (eqb_tells serial n) [
        | inl (_, same) ↦ (
          λ there. absurd (none-some pair (sym (ap (λ (m : PairMap). map.get m serial) pairs ∙ removed_here now.pairs n serial same) ∙ there)),
          λ both. absurd (both.1 (subst (Contains (serials ++ n ∷ [])) (sym same) (Contains-push serials n))),
        )
        | inr (_, apart) ↦
            (let still : map.get new.pairs serial ≡ map.get now.pairs serial = ap (λ (m : PairMap). map.get m serial) pairs ∙ removed_apart now.pairs n serial apart in (
              λ there. (let was = (before.kept serial pair).0 (sym still ∙ there) in (
                was.0,
                λ named. elim (Contains-push_cases serials n serial named) [ inl earlier ↦ was.1 earlier | inr last ↦ apart (sym last) ],
              )),
              λ both. still ∙ (before.kept serial pair).1 (both.0, λ named. both.1 (Contains-append_left serials (n ∷ []) serial named)),
            ))
      ];
      content =
          removes.content
          ∙ ap (λ (d : Database). record d { pairs = map.remove now.pairs n; room = new.room }) before.content
          ∙ ap (λ (m : PairMap). record old { pairs = m; room = new.room }) (sym pairs);
      room = omega (arith, before.room, removes.room);
      no_more = omega (arith, before.no_more, removes.no_more, length-append serials (n ∷ []));
    }

-- the next one is there still
pub still_there : (old now : Database) (serials : List ℕ) (n : ℕ) → RemovesNamed old serials now → IsThere old.pairs n → ¬ Contains serials n → IsThere now.pairs n
still_there old now serials n before there new =
    elim (pair_at old.pairs n) as (λ o. pair_at old.pairs n ≡ o → IsSome o → IsThere now.pairs n) [
      | None ↦ λ is some. absurd (cc)
      | Some pair ↦ λ is some. subst IsSome (sym ((before.kept n pair).1 (is, new))) refl
    ] refl there

-- and was not named before
pub not_before : (serials : List ℕ) (i : ℕ) → AreDistinct serials → i < length serials → ¬ Contains (take i serials) (get_or serials i 0)
not_before serials i distinct short (k, below, is) =
    let n = get_or serials i 0 in
    let less : k < i = omega (arith, below, length-take i serials) in
    distinct k i n less short (sym (get_or-take i serials k n less) ∙ is ∙ get_or_default serials i 0 n short)

-- ---- what follows of what is left

pub same_option : (o p : Option Pair) → ((pair : Pair) → o ≡ Some pair → p ≡ Some pair) → ((pair : Pair) → p ≡ Some pair → o ≡ Some pair) → o ≡ p
same_option None None there back = refl
same_option None (Some x) there back = back x refl
same_option (Some x) p there back = sym (there x refl)

kept_by_both : (old other a b : Database) (serials : List ℕ) (serial : ℕ) (pair : Pair) → table_content old ≡ table_content other → RemovesNamed old serials a → RemovesNamed other serials b
    → pair_at a.pairs serial ≡ Some pair → pair_at b.pairs serial ≡ Some pair
kept_by_both old other a b serials serial pair same one two is =
    let was = (one.kept serial pair).0 is in
    (two.kept serial pair).1 (ap (λ (d : Database). pair_at d.pairs serial) (sym same) ∙ was.0, was.1)

pub same_after_removing : (old other a b : Database) (serials : List ℕ) → table_content old ≡ table_content other → RemovesNamed old serials a → RemovesNamed other serials b → table_content a ≡ table_content b
same_after_removing old other a b serials same one two =
    let pairs : a.pairs ≡ b.pairs = map.same_map nat_cmp_total map.nat_cmp-IsAntisymmetric a.pairs b.pairs (λ serial. same_option (pair_at a.pairs serial) (pair_at b.pairs serial)
    (λ pair is. kept_by_both old other a b serials serial pair same one two is)
    (λ pair is. kept_by_both other old b a serials serial pair (sym same) two one is)) in
    ap table_content one.content
    ∙ ap (λ (d : Database). record d { pairs = a.pairs; room = 0 }) same
    ∙ ap (λ (m : PairMap). record other { pairs = m; room = 0 }) pairs
    ∙ sym (ap table_content two.content)

same_pair : (pair : Pair) → IsSamePair pair pair
same_pair pair = record {
  serial = refl;
  ike = refl;
  inbound = refl;
  outbound = refl;
  local = refl;
  remote = refl;
  state = λ is. is;
  last = omega arith;
  window = record { size = refl; spent = λ n is. is };
}

pub after_removing : (old new : Database) (serials : List ℕ) → IsSoundTable old → RemovesNamed old serials new → Follows old new
after_removing old new serials sound is =
    let was : (n : ℕ) (held : Pair) → pair_at new.pairs n ≡ Some held → pair_at old.pairs n ≡ Some held = λ n held there. ((is.kept n held).0 there).0 in
    record {
      start = ap (λ (d : Database). d.start) is.content;
      given = let same : new.given ≡ old.given = ap (λ (d : Database). d.given) is.content in omega arith;
      next = let same : new.next ≡ old.next = ap (λ (d : Database). d.next) is.content in omega arith;
      reserved = λ q there. inl (ap (λ (d : Database). set.contains d.reserved q) (sym is.content) ∙ there);
      old_pairs = λ n held there below. record { was = held; there = was n held there; same = same_pair held };
      new_pairs = λ n held there above. absurd (let given = sound.serial_given n held (was n held there) in let below = given.1 in omega arith);
    }

-- ---- what is decided

pub live_are_there : (pairs : PairMap) (ike : ℕ) (found : DeletedPairs) → AreLivePairs pairs ike found → All (IsThere pairs) found.serials
live_are_there pairs ike found are = All-weaker (IsLive pairs) (IsThere pairs) (λ serial live. subst IsSome (sym live.there) refl) found.serials are.live

pub others_stay : (old new : Database) (ike : ℕ) (found : DeletedPairs) (serial : ℕ) (pair : Pair) → AreLivePairs old.pairs ike found → RemovesNamed old found.serials new → pair.ike ≢ ike
    → (pair_at new.pairs serial ≡ Some pair) ↔ (pair_at old.pairs serial ≡ Some pair)
others_stay old new ike found serial pair are removes other = (
  λ there. ((removes.kept serial pair).0 there).0,
  λ here. (removes.kept serial pair).1 (
    here,
    λ named.
        let belongs : BelongsTo old.pairs ike serial = All-contains (BelongsTo old.pairs ike) found.serials serial are.its_own named in
        other (ap (λ (p : Pair). p.ike) (same_Some pair belongs.pair (sym here ∙ belongs.there)) ∙ belongs.its),
  ),
)
