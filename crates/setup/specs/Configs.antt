-- What an end is set to, and what a step has to hand.
use Rattle.std.specs.Prelude.{ℕ, true, List}
use Rattle.base.specs.Octets.{Octets}
use Rattle.replay.specs.Window.{IsBlockCount}
use Rattle.policy.specs.declared.entry.Entry.{Entry}
use Rattle.suite.specs.Keys.{first_child_keys}
use Rattle.suite.specs.declared.fresh.Fresh.{Fresh}
use Rattle.suite.specs.declared.key_record.KeyRecord.{KeyRecord}
use Rattle.auth.specs.Proofs.{IsIdentity}
use Rattle.auth.specs.Windows.{IsWindow}
use Rattle.children.specs.declared.setting.Setting.{Setting}
use Rattle.setup.specs.declared.config.Config.{Config}
use Rattle.setup.specs.declared.config.EndConfig.{EndConfig}
use Rattle.setup.specs.declared.fault.ConfigFault.{ConfigFault}
use Rattle.setup.specs.declared.fault.ConfigFault.TheVariants as fault
use Rattle.setup.specs.declared.surroundings.Setup.{Setup as Surroundings}

-- what holds of every configuration: the identities fit payloads, the blocks are those of a replay window,
-- and the window is one of 1 to 16
pub record IsConfig (config : Config) : Type 0 where
  pub own : IsIdentity config.own.identity
  pub peer : IsIdentity config.peer.identity
  pub blocks : IsBlockCount config.blocks
  pub window : IsWindow config.window

-- by which fault no configuration is made of two ends, the second where the first doesn't apply
abbrev pub IsEndFault : EndConfig → EndConfig → ConfigFault → Type 0
IsEndFault own peer fault.OwnIdentity = ¬ IsIdentity own.identity
IsEndFault own peer fault.PeerIdentity = IsIdentity own.identity × (¬ IsIdentity peer.identity)
IsEndFault own peer fault.Blocks = ⊥
IsEndFault own peer fault.Window = ⊥

-- one with the sizes that most have
abbrev pub plain_config : EndConfig → EndConfig → Octets → Config
plain_config own peer secret = record { own = own; peer = peer; extended = true; blocks = 2; cookie_secret = secret; window = 1 }

-- what a step has to hand, but for the caller
pub record Setup : Type 0 where
  pub config : Config
  pub entries : List Entry
  pub fresh : Fresh
  pub moment : ℕ

abbrev pub setup_of : {C : Type 0} → Surroundings C → Setup
setup_of given = record { config = given.config.now; entries = given.policy.now; fresh = given.fresh.now; moment = given.moment }

-- what the first Child SA of an IKE SA is made on
abbrev pub first_setting : Config → ℕ → KeyRecord → Setting
first_setting config ike keys = record { ike = ike; keys = first_child_keys keys; blocks = config.blocks }
