use Rattle.std.proofs.Common.{◌≡◌, ◌≤◌, ℕ, ◌+◌, List, [], ◌∷◌, ◌++◌, length, take, sym, ap, ◌∙◌, refl, arith, rules}
use Rattle.std.proofs.lemmas.List.{places}
use Rattle.mac.specs.KeyMaterial.{prf_plus}
use Rattle.std.specs.List.{flat_map}
use Rattle.mac.specs.Hmac.{hmac_block, keyed_hash}
use Rattle.mac.proofs.KeyMaterialLemmas.{prf_block-first, prf_block-more, prf_blocks-first, prf_plus-of_blocks, written-more, written-rest}
use Rattle.mac.proofs.key_material.prf_plus.Goals as goal

pub loop-out-init : goal.loop-out-init
loop-out-init c =
    let key = c.args.key.now in
    let seed : List ℕ = flat_map (λ part. part.now) c.args.seed_parts.now in
    let first = c.tag_between-block.ensures ∙ ap (λ (k : List ℕ). keyed_hash k ([] ++ seed ++ 1 ∷ [])) c.new-key.ensures ∙ prf_block-first key seed in
    record { block = first; blocks = first ∙ sym (prf_blocks-first key seed); place = refl; within = omega arith }

pub loop-out-preserved : goal.loop-out-preserved
loop-out-preserved c =
    let key = c.args.key.now in
    let seed : List ℕ = flat_map (λ part. part.now) c.args.seed_parts.now in
    let kept = c.loop-out.invariant in
    let n = c.loop-out.number in
    let next = c.tag_between-block-in-loop-out.ensures
    ∙ ap (λ (k : List ℕ). keyed_hash k (c.loop-out.block ++ seed ++ (n + 1) ∷ [])) c.new-key.ensures
    ∙ ap (λ (b : List ℕ). keyed_hash (hmac_block key) (b ++ seed ++ (n + 1) ∷ [])) kept.block
    ∙ prf_block-more key seed n in
    record {
      block = next;
      blocks = written-more key seed c.loop-out.out c.loop-out.block c.copy_from_slice.new.self c.tag_between-block-in-loop-out.result c.loop-out.filled n
          kept.within c.copy_from_slice.ensures.after (omega arith) kept.blocks next;
      place = omega arith;
      within = search (rules, places);
    }

pub returns-clause-filled : goal.returns-clause-filled
returns-clause-filled c = λ few.
    let key = c.args.key.now in
    let seed : List ℕ = flat_map (λ part. part.now) c.args.seed_parts.now in
    let kept = c.loop-out.invariant in (
      refl,
      written-rest c.loop-out.out c.loop-out.block c.copy_from_slice-2.new.self c.loop-out.filled kept.within c.copy_from_slice-2.ensures.after
          ∙ ap (λ (xs : List ℕ). take (length c.loop-out.out) xs) kept.blocks
          ∙ prf_plus-of_blocks key seed (length c.loop-out.out) c.loop-out.number (omega arith) (omega arith)
          ∙ ap (λ (n : ℕ). prf_plus key seed n) c.loop-out.auto.out,
    )
