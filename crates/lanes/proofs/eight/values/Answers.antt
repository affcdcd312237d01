use Rattle.std.proofs.Common.{◌≡◌, [], ◌∷◌, slice_index_or, take}
use Rattle.sha2.specs.Sha256.{digest_bytes}
use Rattle.lanes.specs.Lane.{lane}
use Rattle.lanes.proofs.LaneLemmas.{each_lane}
use Rattle.lanes.proofs.eight.values.Goals as goal

pub returns : goal.returns
returns c = each_lane (λ j. slice_index_or (c.value.result ∷ c.value-2.result ∷ c.value-3.result ∷ c.value-4.result ∷ c.value-5.result ∷ c.value-6.result ∷ c.value-7.result ∷ c.value-8.result ∷ []) j [] ≡ take 16 (digest_bytes (lane j c.args.tags.now) 8))
    c.value.ensures c.value-2.ensures c.value-3.ensures c.value-4.ensures c.value-5.ensures c.value-6.ensures c.value-7.ensures c.value-8.ensures
