use Rattle.sites.proofs.SiteLemmas.{one_place}
use Rattle.sites.proofs.laws.an_spi_is_of_one_site.Goals as goal

pub returns : goal.returns
returns c = one_place
