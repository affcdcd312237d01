-- What is told of the keys of an IKE SA.
use Rattle.std.specs.Prelude.{ℕ, Option, None, List, if◌then◌else◌}
use Rattle.std.specs.Option.{option_map}
use Rattle.association.specs.declared.phase.Association.{Association}
use Rattle.ike.specs.Machines.{keys_of_serial}
use Rattle.suite.specs.declared.key_record.KeyRecord.{KeyRecord}
use Rattle.sukperin.specs.declared.hosted.Hosted.{Hosted}
use Rattle.sukperin.specs.declared.keys.SukKeys.{SukKeys}

-- the seven keys of RFC 7296, section 2.14, each as the IKE SA has it
abbrev pub keys_told : KeyRecord → SukKeys
keys_told keys = record {
  sk_d = keys.sk_d;
  sk_ai = keys.sk_ai;
  sk_ar = keys.sk_ar;
  sk_ei = keys.sk_ei;
  sk_er = keys.sk_er;
  sk_pi = keys.sk_pi;
  sk_pr = keys.sk_pr;
}

-- those of the IKE SA with this serial, where the gateway's terms let it tell them
abbrev pub keys_at : ℕ → Hosted → Option SukKeys
keys_at serial held =
    let associations : List Association = held.gateway.machine.held.associations in
    if held.tells_keys then option_map keys_told (keys_of_serial serial associations) else None
