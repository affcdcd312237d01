-- What the worked runs of the crates above carry.
use Rattle.std.specs.Prelude.{List, [], ◌∷◌}
use Rattle.base.specs.declared.address.Range.TheVariants.{V4}
use Rattle.base.specs.declared.selector.Selector.{Selector}

-- all traffic of IPv4
abbrev pub any_traffic : List Selector
any_traffic = record { protocol = 0; start_port = 0; end_port = 65535; addresses = V4 0 4294967295 } ∷ []
