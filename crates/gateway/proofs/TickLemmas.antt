-- A tick leaves each IKE SA established that it doesn't close.
use Rattle.std.proofs.Common.{◌≡◌, ℕ, Bool, true, false, cond, not, List, [], ◌∷◌, Some, None, refl, ap, subst, sym, ◌∙◌, inl, inr}
use Rattle.std.specs.List.{AllZip}
use Rattle.std.specs.Prelude.{◌==◌, Contains}
use Rattle.std.proofs.lemmas.Bool.{eqb-true}
use Rattle.suite.specs.declared.key_record.KeyRecord.{KeyRecord}
use Rattle.association.specs.declared.phase.Association.{Association}
use Rattle.association.specs.declared.phase.Phase.TheVariants as phase
use Rattle.moments.specs.Due.{held_of, is_over}
use Rattle.moments.specs.Held.{StaysItself}
use Rattle.ike.specs.Machines.{association_of, has_serial}

same_one : (x a : Association) → Some x ≡ Some a → x ≡ a
same_one x a e = cc

none_some : (a : Association) → None ≡ Some a → ⊥
none_some a e = cc

-- ---- who is found has the serial

picked_serial : (serial : ℕ) (b : Bool) (x a : Association) (rest : List Association) → has_serial serial x ≡ b → cond b (Some x) (association_of serial rest) ≡ Some a
    → (association_of serial rest ≡ Some a → a.serial ≡ serial) → a.serial ≡ serial
picked_serial serial true x a rest is found later = sym (ap (λ (y : Association). y.serial) (same_one x a found)) ∙ eqb-true x.serial serial is
picked_serial serial false x a rest is found later = later found

pub found_serial : (serial : ℕ) (xs : List Association) (a : Association) → association_of serial xs ≡ Some a → a.serial ≡ serial
found_serial serial [] a found = absurd (none_some a found)
found_serial serial (x ∷ xs) a found = picked_serial serial (has_serial serial x) x a xs refl found (found_serial serial xs a)

-- ---- who is not over is held on

kept_first : (now serial : ℕ) (b c : Bool) (x a : Association) (rest kept : List Association) → has_serial serial x ≡ b → is_over now x.phase ≡ c → is_over now a.phase ≡ false
    → cond b (Some x) (association_of serial rest) ≡ Some a → (association_of serial rest ≡ Some a → association_of serial kept ≡ Some a)
    → association_of serial (cond (not c) (x ∷ kept) kept) ≡ Some a
kept_first now serial true true x a rest kept is over alive found later =
    absurd (let same = same_one x a found in let e : true ≡ false = sym over ∙ ap (λ (y : Association). is_over now y.phase) same ∙ alive in cc)
kept_first now serial true false x a rest kept is over alive found later = ap (λ b. cond b (Some x) (association_of serial kept)) is ∙ found
kept_first now serial false true x a rest kept is over alive found later = later found
kept_first now serial false false x a rest kept is over alive found later = ap (λ b. cond b (Some x) (association_of serial kept)) is ∙ later found

held_on : (now serial : ℕ) (xs : List Association) (a : Association) → is_over now a.phase ≡ false → association_of serial xs ≡ Some a → association_of serial (held_of now xs) ≡ Some a
held_on now serial [] a alive found = absurd (none_some a found)
held_on now serial (x ∷ xs) a alive found =
    kept_first now serial (has_serial serial x) (is_over now x.phase) x a xs (held_of now xs) refl refl alive found (held_on now serial xs a alive)

-- ---- who is held on stays itself

record IsSelf (now : ℕ) (closed : List ℕ) (serial : ℕ) (a : Association) (ys : List Association) : Type 0 where
  pub is : Association
  pub there : association_of serial ys ≡ Some is
  pub stays : StaysItself now closed a is

self_first : (now : ℕ) (closed : List ℕ) (serial : ℕ) (b : Bool) (x y a : Association) (xs ys : List Association) → has_serial serial x ≡ b → StaysItself now closed x y
    → cond b (Some x) (association_of serial xs) ≡ Some a → (association_of serial xs ≡ Some a → IsSelf now closed serial a ys) → IsSelf now closed serial a (y ∷ ys)
self_first now closed serial true x y a xs ys is self found later =
    let same : has_serial serial y ≡ true = ap (λ n. n == serial) self.serial ∙ is in
    record {
      is = y;
      there = ap (λ b. cond b (Some y) (association_of serial ys)) same;
      stays = subst (λ (z : Association). StaysItself now closed z y) (same_one x a found) self;
    }
self_first now closed serial false x y a xs ys is self found later =
    let apart : has_serial serial y ≡ false = ap (λ n. n == serial) self.serial ∙ is in
    let rest = later found in
    record { is = rest.is; there = ap (λ b. cond b (Some y) (association_of serial ys)) apart ∙ rest.there; stays = rest.stays }

self_of : (now : ℕ) (closed : List ℕ) (serial : ℕ) (xs ys : List Association) (a : Association) → AllZip (StaysItself now closed) xs ys → association_of serial xs ≡ Some a → IsSelf now closed serial a ys
self_of now closed serial [] ys a all found = absurd (none_some a found)
self_of now closed serial (x ∷ xs) [] a all found = absurd all
self_of now closed serial (x ∷ xs) (y ∷ ys) a all found =
    self_first now closed serial (has_serial serial x) x y a xs ys refl all.0 found (self_of now closed serial xs ys a all.1)

-- ---- who is established stays so

pub record IsStillEstablished (serial : ℕ) (keys : KeyRecord) (ys : List Association) : Type 0 where
  pub is : Association
  pub there : association_of serial ys ≡ Some is
  pub established : is.phase ≡ phase.Established keys

pub still_established : (now : ℕ) (closed : List ℕ) (serial : ℕ) (keys : KeyRecord) (old new : List Association) (a : Association)
    → AllZip (StaysItself now closed) (held_of now old) new → association_of serial old ≡ Some a → a.phase ≡ phase.Established keys → (Contains closed serial → ⊥)
    → IsStillEstablished serial keys new
still_established now closed serial keys old new a all found established unclosed =
    let alive : is_over now a.phase ≡ false = ap (is_over now) established in
    let self = self_of now closed serial (held_of now old) new a all (held_on now serial old a alive found) in
    record {
      is = self.is;
      there = self.there;
      established = elim self.stays.stays [
        | inl stays ↦ ap (λ (x : Association). x.phase) stays.1.content ∙ established
        | inr closes ↦ absurd (unclosed (subst (λ n. Contains closed n) (found_serial serial old a found) closes.1))
      ];
    }
