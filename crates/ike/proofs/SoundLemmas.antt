-- IKE SAs stay sound with the table, whatever a step does.
use Rattle.std.proofs.Common.{◌≡◌, ◌≢◌, ◌⊎◌, inl, inr, ℕ, ◌+◌, ◌<◌, ◌≤◌, ◌++◌, ◌∷◌, [], List, length, Some, ap, refl, subst, sym, ◌∙◌, arith}
use Rattle.std.specs.List.{slice_get}
use Rattle.std.specs.Prelude.{slice_set}
use Rattle.std.proofs.lemmas.Bool.Decides.{leb_tells}
use Rattle.std.proofs.lemmas.List.{length-append, length-set}
use Rattle.exchange.specs.declared.headers.Role.{Role}
use Rattle.exchange.specs.declared.headers.Role.TheVariants.{Initiator}
use Rattle.sadb.specs.Database.{Database, IsReserved}
use Rattle.sa_init.specs.Judging.{ASSOCIATION_LIMIT, HALF_OPEN_LIMIT}
use Rattle.association.specs.Closing.{HoldsReserved, HoldsSpi}
use Rattle.association.specs.declared.phase.Association.{Association}
use Rattle.association.specs.declared.phase.HalfOpen.{HalfOpen}
use Rattle.association.specs.declared.phase.Phase.TheVariants as phase
use Rattle.initial.specs.Ending.{IsAuthSent}
use Rattle.initial.specs.Reading.{IsInitSent}
use Rattle.effects.specs.Taking.{KeepsIdentity}
use Rattle.ike.specs.Machines.{half_open_count, own_spi, spi_by_role, Held, SERIAL_END}
use Rattle.ike.specs.Soundness.{AreApart, AreSound, At, IsSound}
use Rattle.ike.proofs.ListLemmas.{grown, replaced}

-- what stands at a place, after one item was replaced or added there
abbrev pub Stands : {A : Type 0} → List A → ℕ → A → ℕ → A → Type 0
Stands {A} xs i y k b = ((k ≡ i) × (b ≡ y)) ⊎ ((k ≢ i) × (slice_get xs k ≡ Some b))

pub other_holds : (table new_table : Database) (a : Association) → ((spi : ℕ) → HoldsSpi a spi → IsReserved table spi → IsReserved new_table spi) → HoldsReserved a table → HoldsReserved a new_table
other_holds table new_table a stays holds = record { reserved = λ spi its. stays spi its (holds.reserved spi its); first = holds.first; one = holds.one }

-- what is asked of the IKE SA b that stands at a place from now on, among others
pub record Joins (old : Held) (place : ℕ) (b : Association) (next : ℕ) (table new_table : Database) : Type 0 where
  pub sound : IsSound b next new_table
  pub more : old.next ≤ next
  pub others : (k : ℕ) (c : Association) (spi : ℕ) → k ≢ place → At old k c → HoldsSpi c spi → IsReserved table spi → IsReserved new_table spi
  pub before : (k : ℕ) (c : Association) → k < place → At old k c → AreApart c b
  pub after : (k : ℕ) (c : Association) → place < k → At old k c → AreApart b c

still_sound : (old : Held) (place : ℕ) (b : Association) (next : ℕ) (table new_table : Database) → AreSound old table → Joins old place b next table new_table
    → (k : ℕ) (c : Association) → Stands old.associations place b k c → IsSound c next new_table
still_sound old place b next table new_table sound joins k c (inl (here, same)) = subst (λ (x : Association). IsSound x next new_table) (sym same) joins.sound
still_sound old place b next table new_table sound joins k c (inr (other, there)) =
    let was = sound.each k c there in
    record {
      serial_least = was.serial_least;
      serial_given = omega (arith, was.serial_given, joins.more);
      own = was.own;
      initiator = was.initiator;
      responder = was.responder;
      reserved = other_holds table new_table c (λ spi held reserved. joins.others k c spi other there held reserved) was.reserved;
      short = was.short;
      soundly = was.soundly;
      asked = was.asked;
      whole = was.whole;
    }

still_apart : (old : Held) (place : ℕ) (b : Association) (next : ℕ) (table new_table : Database) → AreSound old table → Joins old place b next table new_table
    → (k l : ℕ) (c d : Association) → k < l → Stands old.associations place b k c → Stands old.associations place b l d → AreApart c d
still_apart old place b next table new_table sound joins k l c d less (inl (here, same)) (inl (there, too)) = absurd (omega (arith, less, here, there))
still_apart old place b next table new_table sound joins k l c d less (inl (here, same)) (inr (other, there)) =
    subst (λ (x : Association). AreApart x d) (sym same) (joins.after l d (omega (arith, less, here)) there)
still_apart old place b next table new_table sound joins k l c d less (inr (other, there)) (inl (here, same)) =
    subst (λ (x : Association). AreApart c x) (sym same) (joins.before k c (omega (arith, less, here)) there)
still_apart old place b next table new_table sound joins k l c d less (inr (other, there)) (inr (another, where_too)) =
    sound.apart k l c d less there where_too

-- one of them changed
pub sound_replaced : (old : Held) (place : ℕ) (b : Association) (table new_table : Database)
    → half_open_count (slice_set old.associations place b) ≤ half_open_count old.associations
    → AreSound old table → Joins old place b old.next table new_table → AreSound (record { next = old.next; associations = slice_set old.associations place b }) new_table
sound_replaced old place b table new_table fewer sound joins =
    record {
      first = sound.first;
      serials = sound.serials;
      few = subst (λ n. n ≤ ASSOCIATION_LIMIT) (sym (length-set old.associations place b)) sound.few;
      few_half_open = omega (arith, fewer, sound.few_half_open);
      each = λ k c is. still_sound old place b old.next table new_table sound joins k c (replaced old.associations place b k c is);
      apart = λ k l c d less is too. still_apart old place b old.next table new_table sound joins k l c d less (replaced old.associations place b k c is) (replaced old.associations place b l d too);
    }

-- one more came
pub sound_grown : (old : Held) (b : Association) (table new_table : Database) → length old.associations < ASSOCIATION_LIMIT → old.next < SERIAL_END
    → half_open_count (old.associations ++ b ∷ []) ≤ HALF_OPEN_LIMIT
    → AreSound old table → Joins old (length old.associations) b (old.next + 1) table new_table
    → AreSound (record { next = old.next + 1; associations = old.associations ++ b ∷ [] }) new_table
sound_grown old b table new_table few left half_open sound joins =
    record {
      first = omega arith;
      serials = omega (arith, left);
      few = subst (λ n. n ≤ ASSOCIATION_LIMIT) (sym (length-append old.associations (b ∷ []))) (omega (arith, few));
      few_half_open = half_open;
      each = λ k c is. still_sound old (length old.associations) b (old.next + 1) table new_table sound joins k c (grown old.associations b k c is);
      apart = λ k l c d less is too. still_apart old (length old.associations) b (old.next + 1) table new_table sound joins k l c d less (grown old.associations b k c is) (grown old.associations b l d too);
    }

-- the table alone changed, and all that was reserved is reserved
pub sound_with : (old : Held) (table new_table : Database) → ((spi : ℕ) → IsReserved table spi → IsReserved new_table spi) → AreSound old table → AreSound old new_table
sound_with old table new_table stays sound =
    record {
      first = sound.first;
      serials = sound.serials;
      few = sound.few;
      few_half_open = sound.few_half_open;
      each = λ k c is.
          let was = sound.each k c is in
          record {
            serial_least = was.serial_least;
            serial_given = was.serial_given;
            own = was.own;
            initiator = was.initiator;
            responder = was.responder;
            reserved = other_holds table new_table c (λ spi held. stays spi) was.reserved;
            short = was.short;
            soundly = was.soundly;
            asked = was.asked;
            whole = was.whole;
          };
      apart = sound.apart;
    }

-- ---- an IKE SA that a message changed

by_role : (a b : Association) (r : Role) → a.role ≡ r → b.role ≡ r → spi_by_role r b.spi_i b.spi_r ≡ spi_by_role r a.spi_i a.spi_r → own_spi b ≡ own_spi a
by_role a b r was is same =
    ap (λ (x : Role). spi_by_role x b.spi_i b.spi_r) is ∙ same ∙ sym (ap (λ (x : Role). spi_by_role x a.spi_i a.spi_r) was)

-- who waits for a response waited for one before
pub waited_before : (a b : Association) → KeepsIdentity a b → IsInitSent b.phase ⊎ IsAuthSent b.phase → IsInitSent a.phase ⊎ IsAuthSent a.phase
waited_before a b stays (inl waits) = inl (stays.waiting waits)
waited_before a b stays (inr asks) = stays.asking asks

-- this end's SPI stays
pub own_stays : (a b : Association) → (IsInitSent a.phase → a.role ≡ Initiator) → KeepsIdentity a b → own_spi b ≡ own_spi a
own_stays a b initiator stays =
    elim stays.spi_r [
      | inl same ↦ by_role a b a.role refl stays.role (ap (λ n. spi_by_role a.role n b.spi_r) stays.spi_i ∙ ap (λ n. spi_by_role a.role a.spi_i n) same)
      | inr waits ↦ by_role a b Initiator (initiator waits) (stays.role ∙ initiator waits) stays.spi_i
    ]

-- one that is half open was so before, by the same request
abbrev pub StaysOpened : Association → Association → Type 0
StaysOpened a b = (opened : HalfOpen) → b.phase ≡ phase.HalfOpen opened → a.phase ≡ phase.HalfOpen opened

pub apart_before : (a b c : Association) → own_spi b ≡ own_spi a → KeepsIdentity a b → StaysOpened a b → ((spi : ℕ) → HoldsSpi b spi → HoldsSpi a spi) → AreApart c a → AreApart c b
apart_before a b c own stays opens none was =
    record {
      rising = subst (λ n. c.serial < n) (sym stays.serial) was.rising;
      own = λ e. was.own (e ∙ own);
      held = λ spi held e. was.held spi held (none spi e);
      asked = λ one two is also. was.asked one two is (opens two also);
    }

pub apart_after : (a b c : Association) → own_spi b ≡ own_spi a → KeepsIdentity a b → StaysOpened a b → ((spi : ℕ) → HoldsSpi b spi → HoldsSpi a spi) → AreApart a c → AreApart b c
apart_after a b c own stays opens none was =
    record {
      rising = subst (λ n. n < c.serial) (sym stays.serial) was.rising;
      own = λ e. was.own (sym own ∙ e);
      held = λ spi held e. was.held spi (none spi held) e;
      asked = λ one two is also. was.asked one two (opens one is) also;
    }

-- two at different places hold no SPI both
pub alone : (held : Held) (table : Database) (k place : ℕ) (c a : Association) (spi : ℕ) → AreSound held table → k ≢ place → At held k c → At held place a → HoldsSpi c spi → ¬ HoldsSpi a spi
alone held table k place c a spi sound other there here holds =
    elim (leb_tells place k) [
      | inl (yes_it_is, above) ↦ λ e. (sound.apart place k a c (omega (arith, other, above)) here there).held spi e holds
      | inr (no_it_is_not, below) ↦ (sound.apart k place c a below there here).held spi holds
    ]
