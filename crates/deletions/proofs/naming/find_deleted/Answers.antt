use Rattle.std.proofs.Common.{◌≡◌, ◌++◌, ◌∷◌, [], ℕ, List, Some, None, ap, get_or, sym, take, ◌∙◌}
use Rattle.std.proofs.lemmas.List.{append-nil}
use Rattle.deletions.specs.Naming.{deleted_for, deleted_pairs, inbound_spis_of, serials_of, without}
use Rattle.deletions.proofs.NamingLemmas.{walked_inbound, walked_serials}
use Rattle.deletions.proofs.naming.find_deleted.Goals.{in-Some+in_ok-push+in_ok-push-2, in_default}
use Rattle.deletions.proofs.naming.find_deleted.Goals as goal

pub loop-spi-preserved : goal.loop-spi-preserved
loop-spi-preserved c =
    let pairs = c.args.table.now.pairs in
    let ike = c.args.ike in
    let spis = c.args.spis.now in
    let i = c.loop-spi.spi-index in
    let so_far = c.loop-spi.invariant in
    let short = c.loop-spi-test.true in
    let gone : c.as_slice.result.now ≡ serials_of (deleted_pairs pairs ike (take i spis)) = c.as_slice.ensures.value ∙ so_far.serials in
    let same = ap (λ (ns : List ℕ). deleted_for (without pairs ns) ike (get_or spis i 0)) (sym gone) in
    elim c.match-deleted_for.branch [
      | in-Some+in_ok-push+in_ok-push-2 w ↦
          (let pair = w.in-Some.pair.now in
          let found = same ∙ w.in-Some.ensures.some in
          record {
            serials =
                ap (λ v. v.items) w.serials-is
                ∙ w.in_ok-push.ensures.items
                ∙ ap (λ (ns : List ℕ). ns ++ pair.serial ∷ []) so_far.serials
                ∙ walked_serials ike pairs spis i (Some (pair.serial, pair)) short found;
            inbound_spis =
                ap (λ v. v.items) w.inbound_spis-is
                ∙ w.in_ok-push-2.ensures.items
                ∙ ap (λ (ns : List ℕ). ns ++ w.spi.result ∷ []) so_far.inbound_spis
                ∙ ap (λ (n : ℕ). inbound_spis_of (deleted_pairs pairs ike (take i spis)) ++ n ∷ []) w.spi.ensures
                ∙ walked_inbound ike pairs spis i (Some (pair.serial, pair)) short found;
          })
      | in_default w ↦
          (let found = same ∙ w.in_default.ensures.none in
          record {
            serials =
                ap (λ v. v.items) w.serials-is
                ∙ so_far.serials
                ∙ sym (append-nil (serials_of (deleted_pairs pairs ike (take i spis))))
                ∙ walked_serials ike pairs spis i None short found;
            inbound_spis =
                ap (λ v. v.items) w.inbound_spis-is
                ∙ so_far.inbound_spis
                ∙ sym (append-nil (inbound_spis_of (deleted_pairs pairs ike (take i spis))))
                ∙ walked_inbound ike pairs spis i None short found;
          })
    ]
