-- What a table that is ready to give an SPI stays ready over.
use Rattle.std.proofs.Common.{◌≡◌, ◌≤◌, ◌-◌, ◌+◌, ℕ, ap, ◌∙◌, arith, is_some, cond}
use Rattle.std.specs.Cmp.{nat_cmp_total}
use Rattle.std.specs.FinMap as map
use Rattle.std.specs.FinSet as set
use Rattle.sadb.specs.declared.pair.Pair.{Pair}
use Rattle.sadb.specs.Database.{Database, IsReady, ChangesAt, Releases, Removes}
use Rattle.sadb.proofs.GivenLemmas.{removed_len}

ready_by : (old new : Database) → IsReady old → old.room ≤ new.room → new.given ≡ old.given → map.len new.pairs + set.len new.reserved ≤ map.len old.pairs + set.len old.reserved → IsReady new
ready_by old new ready room given fewer = record {
  room = omega (arith, ready.room);
  not_full = λ full. ready.not_full (omega (arith, full));
  not_spent = λ spent. ready.not_spent (omega (arith, spent));
}

pub ready_after_releasing : (old new : Database) (spi : ℕ) → IsReady old → Releases old spi new → IsReady new
ready_after_releasing old new spi ready is =
    let pairs : map.len new.pairs ≡ map.len old.pairs = ap (λ d. map.len d.pairs) is.content in
    let reserved : set.len new.reserved ≡ set.len old.reserved - 1 = ap (λ d. set.len d.reserved) is.content ∙ removed_len old.reserved spi is.reserved in
    ready_by old new ready is.room (ap (λ d. d.given) is.content) (omega (arith, pairs, reserved))

pub ready_after_removing : (old new : Database) (serial : ℕ) → IsReady old → Removes old serial new → IsReady new
ready_after_removing old new serial ready is =
    let pairs : map.len new.pairs ≡ map.len old.pairs - 1 =
    ap (λ d. map.len d.pairs) is.content ∙ map.len-remove nat_cmp_total old.pairs serial ∙ ap (λ o. cond (is_some o) (map.len old.pairs - 1) (map.len old.pairs)) is.there in
    let reserved : set.len new.reserved ≡ set.len old.reserved = ap (λ d. set.len d.reserved) is.content in
    ready_by old new ready is.room (ap (λ d. d.given) is.content) (omega (arith, pairs, reserved))

pub ready_after_changing : (old new : Database) (serial : ℕ) (was is : Pair) → IsReady old → ChangesAt old serial was is new → IsReady new
ready_after_changing old new serial was is ready changes =
    let pairs : map.len new.pairs ≡ map.len old.pairs =
    ap (λ d. map.len d.pairs) changes.content ∙ map.len-insert nat_cmp_total old.pairs serial is ∙ ap (λ o. cond (is_some o) (map.len old.pairs) (map.len old.pairs + 1)) changes.there in
    let reserved : set.len new.reserved ≡ set.len old.reserved = ap (λ d. set.len d.reserved) changes.content in
    let room : new.room ≡ old.room = ap (λ d. d.room) changes.content in
    ready_by old new ready (omega (arith, room)) (ap (λ d. d.given) changes.content) (omega (arith, pairs, reserved))
