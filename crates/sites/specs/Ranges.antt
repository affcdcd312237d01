-- Gateways side by side, and which inbound SPIs are theirs (RFC 4303 section 2.1).
use Rattle.std.specs.Prelude.{◌≡◌, ◌+◌, ◌^◌, ◌<◌, ◌≤◌, ◌==◌, ℕ, Bool, true, false, nat_lt, List}
use Rattle.std.specs.Int.{abs_diff}
use Rattle.std.specs.List.{All, AllPairs, list_any}
use Rattle.sites.specs.declared.fault.SiteFault.{SiteFault}
use Rattle.sites.specs.declared.fault.SiteFault.TheVariants.{Start, KeyTaken, Overlap, Memory}
use Rattle.sites.specs.declared.site.Site.{Site}

-- where a range may begin: 0 to 255 are reserved (section 2.1), and 65,536 SPIs from the start on fit 32 bits
pub record IsStart (start : ℕ) : Type 0 where
  pub least : 256 ≤ start
  pub most : start + 65536 ≤ 2 ^ 32

-- the SPI is in the gateway's range
pub record Takes (spi : ℕ) (site : Site) : Type 0 where
  pub from_start : site.start ≤ spi
  pub before_end : spi < site.start + 65536

-- two ranges have no SPI in common: one is whole below the other
pub record AreApart (one other : Site) : Type 0 where
  pub distance : 65536 ≤ abs_diff one.start other.start

-- What holds of every list of gateways.
pub record AreSites (sites : List Site) : Type 0 where
  pub starts : All (λ site. IsStart site.start) sites
  pub apart : AllPairs AreApart sites

-- the gateway has this name
abbrev pub has_key : ℕ → Site → Bool
has_key key site = site.key == key

-- the range from a start on has an SPI in common with the gateway's
abbrev pub meets : ℕ → Site → Bool
meets start site = nat_lt (abs_diff site.start start) 65536

-- a gateway of the list has this name
abbrev pub is_taken : ℕ → List Site → Bool
is_taken key sites = list_any (has_key key) sites

-- the range from a start on meets that of a gateway of the list
abbrev pub overlaps : ℕ → List Site → Bool
overlaps start sites = list_any (meets start) sites

-- the gateway can stand beside those that there are
pub record IsNew (sites : List Site) (site : Site) : Type 0 where
  pub start : IsStart site.start
  pub key : is_taken site.key sites ≡ false
  pub clear : overlaps site.start sites ≡ false

-- why a gateway is not added, each where those before it don't apply
abbrev pub IsSiteRefusal : List Site → Site → SiteFault → Type 0
IsSiteRefusal sites site Start = ¬ IsStart site.start
IsSiteRefusal sites site KeyTaken = IsStart site.start × (is_taken site.key sites ≡ true)
IsSiteRefusal sites site Overlap =
    IsStart site.start × (is_taken site.key sites ≡ false) × (overlaps site.start sites ≡ true)
IsSiteRefusal sites site Memory = IsNew sites site
