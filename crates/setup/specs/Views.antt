-- A configuration, as contracts see it.
use Rattle.std.specs.Prelude.{ℕ, Bool}
use Rattle.base.specs.Octets.{Octets}
use Rattle.setup.specs.declared.config.EndConfig.{EndConfig}

pub record ConfigView : Type 0 where
  pub own : EndConfig
  pub peer : EndConfig
  pub extended : Bool
  pub blocks : ℕ
  pub cookie_secret : Octets
  pub window : ℕ
