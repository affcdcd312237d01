-- A configuration, by how it is kept.
use Rattle.setup.specs.Views.{ConfigView}
use Rattle.setup.specs.declared.config.Config.TheInside.{Inside}

abbrev pub config_view : Inside → ConfigView
config_view c = record {
  own = c.own;
  peer = c.peer;
  extended = c.extended;
  blocks = c.blocks;
  cookie_secret = c.cookie_secret;
  window = c.window;
}
