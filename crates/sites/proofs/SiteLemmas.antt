-- Lemmas on lists of gateways.
use Rattle.std.proofs.Common.{◌≡◌, inl, inr, ◌+◌, ◌-◌, ◌<◌, ◌≤◌, ℕ, List, length, arith, Bool, slice_index_or}
use Rattle.std.proofs.lemmas.Bool.{cases_order}
use Rattle.std.proofs.lemmas.List.Elements.{All-filter}
use Rattle.std.proofs.lemmas.List.Kept.{AllPairs-filter}
use Rattle.std.specs.List.{filter}
use Rattle.sites.specs.Ranges.{AreApart, AreSites, IsStart, Takes}
use Rattle.sites.specs.declared.site.Site.{Site}

-- some of the gateways are such a list again
pub some_sites : (test : Site → Bool) (sites : List Site) → AreSites sites → AreSites (filter test sites)
some_sites test sites sound =
    record {
      starts = All-filter test (λ site. IsStart site.start) sites sound.starts;
      apart = AllPairs-filter AreApart test sites sound.apart;
    }

-- ranges that are apart don't both have an SPI
not_both : (spi : ℕ) (one other : Site) → AreApart one other → Takes spi one → Takes spi other → ⊥
not_both spi one other away first second =
    let distance : 65536 ≤ (one.start - other.start) + (other.start - one.start) = away.distance in
    let a = first.from_start in
    let b = first.before_end in
    let c = second.from_start in
    let d = second.before_end in
    omega arith

-- two places whose gateways take one SPI are one
pub one_place : (sites : List Site) (spi i j : ℕ) (site : Site) → AreSites sites → i < length sites → j < length sites → Takes spi (slice_index_or sites i site) → Takes spi (slice_index_or sites j site) → i ≡ j
one_place sites spi i j site sound at_i at_j first second =
    elim (cases_order i j) [
      | inl same ↦ same
      | inr rest ↦ elim rest [
        | inl below ↦ absurd (not_both spi (slice_index_or sites i site) (slice_index_or sites j site) (sound.apart i j site below at_j) first second)
        | inr above ↦ absurd (not_both spi (slice_index_or sites j site) (slice_index_or sites i site) (sound.apart j i site above at_i) second first)
      ]
    ]
