-- What the peer makes of a deletion.
use Rattle.std.proofs.Common.{◌≡◌, ◌∷◌, [], ℕ, Option, Some, sym, ap, ◌∙◌}
use Rattle.std.specs.List.{cons_option}
use Rattle.esp.specs.declared.sa.Sa.{Sa}
use Rattle.sadb.specs.Database.{pair_at, IsSenderUnder, PairMap}
use Rattle.sadb.specs.Mirrors.{Mirrors}
use Rattle.sadb.specs.declared.pair.Pair.{Pair}
use Rattle.sadb.specs.declared.pair.State.TheVariants.{Live, Deleting}
use Rattle.deletions.specs.Answering.{payloads_of_verdict}
use Rattle.deletions.specs.Asking.{child_deletion}
use Rattle.deletions.specs.Deciding.{verdict_of}
use Rattle.deletions.specs.Naming.{inbound_spis_of, serials_of}
use Rattle.deletions.specs.declared.deciding.Verdict.{Verdict}
use Rattle.deletions.specs.declared.deciding.Verdict.TheVariants.{Deletes}
use Rattle.deletions.proofs.SenderLemmas.{deleted_live, deleted_not}

-- by the only SA pair that may go
abbrev deleting : Option (ℕ × Pair) → Verdict
deleting o = Deletes (record { serials = serials_of (cons_option o []); inbound_spis = inbound_spis_of (cons_option o []) })

module _ (pairs : PairMap) (ike serial : ℕ) (ours theirs : Pair) where
  pub mirror_named : Mirrors ours theirs → IsSenderUnder pairs ike ours.inbound.association.spi serial → pair_at pairs serial ≡ Some theirs → theirs.state ≡ Live
      → verdict_of pairs ike (child_deletion ours.inbound.association.spi) ≡ Deletes (record { serials = serial ∷ []; inbound_spis = ours.outbound.association.spi ∷ [] })
  mirror_named mirrors sends there live =
      ap deleting (deleted_live pairs ike ours.inbound.association.spi serial theirs sends there live)
      ∙ ap (λ (a : Sa). Deletes (record { serials = serial ∷ []; inbound_spis = a.spi ∷ [] })) (sym mirrors.outward)

  pub mirror_answered : Mirrors ours theirs → IsSenderUnder pairs ike ours.inbound.association.spi serial → pair_at pairs serial ≡ Some theirs → theirs.state ≡ Live
      → payloads_of_verdict (verdict_of pairs ike (child_deletion ours.inbound.association.spi)) ≡ child_deletion theirs.inbound.association.spi
  mirror_answered mirrors sends there live =
      ap payloads_of_verdict (mirror_named mirrors sends there live) ∙ ap (λ (a : Sa). child_deletion a.spi) mirrors.outward

  -- both ends ask at once
  pub crossing_named : IsSenderUnder pairs ike ours.inbound.association.spi serial → pair_at pairs serial ≡ Some theirs → theirs.state ≡ Deleting
      → verdict_of pairs ike (child_deletion ours.inbound.association.spi) ≡ Deletes (record { serials = []; inbound_spis = [] })
  crossing_named sends there is = ap deleting (deleted_not pairs ike ours.inbound.association.spi serial theirs sends there is)

  pub crossing_answered : IsSenderUnder pairs ike ours.inbound.association.spi serial → pair_at pairs serial ≡ Some theirs → theirs.state ≡ Deleting
      → payloads_of_verdict (verdict_of pairs ike (child_deletion ours.inbound.association.spi)) ≡ []
  crossing_answered sends there is = ap payloads_of_verdict (crossing_named sends there is)
