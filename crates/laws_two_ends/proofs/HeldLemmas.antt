-- What the tables of the worked run hold is sound, and nothing of its IKE SAs is due.
use Rattle.std.proofs.Common.{◌≡◌, ◌+◌, ◌≤◌, ◌^◌, ◌||◌, ◌&&◌, inl, inr, ℕ, Bool, ap, arith, refl, subst, sym, ◌∙◌}
use Rattle.std.specs.Prelude.{not}
use Rattle.std.proofs.lemmas.Bool.{eq-eqb, ne_eqb}
use Rattle.std.proofs.lemmas.Bool.Decides.{eqb_tells}
use Rattle.std.specs.Cmp.{nat_cmp_total, unsigned_tied}
use Rattle.std.specs.FinMap as map
use Rattle.std.specs.FinSet as set
use Rattle.std.specs.Ordering.{nat_cmp}
use Rattle.base.specs.Octets.{Octets}
use Rattle.replay.specs.Window.{unused_window}
use Rattle.sadb.specs.Database.{Database, IsSoundTable}
use Rattle.sadb.specs.declared.pair.Pair.{Pair}
use Rattle.exchange.specs.declared.headers.Role.TheVariants.{Initiator, Responder}
use Rattle.association.specs.declared.phase.Request.{Request}
use Rattle.moments.specs.Held.{IsInTime}
use Rattle.laws_two_ends.specs.WorkedChildren.{lone_pair}
use Rattle.laws_two_ends.specs.WorkedChildren as ends
use Rattle.laws_two_ends.proofs.CarriedLemmas.{one_sound}
use Rattle.laws_two_ends.proofs.TableLemmas.{few_pairs, lone_in, sound_table, unused_sound, IsFit}
use Rattle.laws_two_ends.proofs.MapLemmas.{none_found, only_there, taken_out}
use Rattle.laws_two_ends.proofs.StateLemmas.{in_time_if}
use Rattle.laws_two_ends.proofs.Stages.{answering, answering_table, asking, asking_table, later_table, one_taken, pair_of, probe_request, probing, second_request, table_with}

-- ---- the tables

-- where the pair came, its SPI is reserved no more
pub unreserved : (spi : ℕ) → set.remove (set.insert (set.empty {R = nat_cmp}) spi) spi ≡ set.empty
unreserved spi = set.same_set nat_cmp_total set.nat_cmp-IsAntisymmetric (set.remove (set.insert set.empty spi) spi) set.empty (λ n.
    set.contains-remove nat_cmp_total (set.insert set.empty spi) spi n ∙ elim (eqb_tells n spi) [
      | inl (_, same) ↦
          ap (λ (b : Bool). not b && set.contains (set.insert (set.empty {R = nat_cmp}) spi) n) (unsigned_tied n spi ∙ eq-eqb n spi same)
          ∙ sym (set.contains-empty nat_cmp n)
      | inr (_, apart) ↦
          ap (λ (b : Bool). not b && set.contains (set.insert (set.empty {R = nat_cmp}) spi) n) (unsigned_tied n spi ∙ ne_eqb n spi apart)
          ∙ set.contains-insert nat_cmp_total set.empty spi n
          ∙ ap (λ (b : Bool). b || set.contains (set.empty {R = nat_cmp}) n) (unsigned_tied n spi ∙ ne_eqb n spi apart)
    ])

-- so the table is one in which none is reserved
as_unreserved : (spi : ℕ) (pair : Pair) → table_with spi pair ≡ ends.table_with spi (lone_pair pair)
as_unreserved spi pair = λ i. record { start = spi; given = 1; reserved = unreserved spi i; next = 2; pairs = lone_pair pair; room = 0 }

sound_with : (spi : ℕ) (pair : Pair) → IsFit pair spi → 256 ≤ spi → spi + 65536 ≤ 2 ^ 32 → IsSoundTable (table_with spi pair)
sound_with spi pair fit least most =
    subst (λ (d : Database). IsSoundTable d) (sym (as_unreserved spi pair)) (sound_table pair (lone_pair pair) spi (lone_in pair) (few_pairs pair) fit least most)

pub asking_table_is_sound : (last : ℕ) → IsSoundTable (asking_table last)
asking_table_is_sound last =
    sound_with 256 (pair_of Initiator last (unused_window 2)) (record { serial = refl; inbound = refl; window = unused_sound }) (omega arith) (omega arith)

pub answering_table_is_sound : IsSoundTable answering_table
answering_table_is_sound =
    sound_with 512 (pair_of Responder 0 (unused_window 2)) (record { serial = refl; inbound = refl; window = unused_sound }) (omega arith) (omega arith)

pub later_table_is_sound : IsSoundTable later_table
later_table_is_sound =
    sound_with 512 (pair_of Responder 0 one_taken) (record { serial = refl; inbound = refl; window = one_sound }) (omega arith) (omega arith)

-- ---- what waits

pub asking_waits_for_none : asking.outgoing.outstanding ≡ map.empty
asking_waits_for_none = taken_out map.empty refl 1 second_request

pub asking_in_time : IsInTime 0 asking
asking_in_time = in_time_if asking refl (omega arith) (λ n r is. absurd (none_found asking.outgoing.outstanding asking_waits_for_none n r is))

pub answering_in_time : (response : Octets) → IsInTime 0 (answering response)
answering_in_time response = in_time_if (answering response) refl (omega arith) (λ n r is. absurd (none_found map.empty refl n r is))

pub probing_in_time : IsInTime 0 probing
probing_in_time =
    in_time_if probing refl (omega arith)
    (λ n r is. ap (λ (x : Request). x.timer) (only_there asking.outgoing.outstanding asking_waits_for_none 2 probe_request n r is).content)
