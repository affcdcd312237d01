-- A response that gives keys is not unfit.
use Rattle.std.proofs.Common.{◌≡◌, ℕ, Option, subst}
use Rattle.base.specs.Octets.{Octets}
use Rattle.wire.specs.declared.message.Message.{Message}
use Rattle.suite.specs.declared.key_record.KeyRecord.{KeyRecord}
use Rattle.suite.specs.declared.sealer.Cipher.{Cipher}
use Rattle.sa_init.specs.Reading.{GivesKeys, IsResponse, WaitingView}
use Rattle.sa_init.specs.declared.response.Response.{Response}
use Rattle.sa_init.specs.declared.response.Response.TheVariants as response
use Rattle.association.specs.declared.phase.Association.{Association}
use Rattle.association.specs.declared.phase.InitSent.{InitSent}
use Rattle.association.specs.declared.phase.Phase.TheVariants as phase
use Rattle.initial.specs.Reading.{IsUnfitAtOnce}

pub keys_fit : (cipher : Cipher) (group : ℕ) (shared_secret : Octets → Octets → Option Octets) (a : Association) (sent : InitSent) (waiting : WaitingView) (m : Message) (read : Response) (keys : KeyRecord)
    → a.phase ≡ phase.InitSent sent → read ≡ response.Keys keys → IsResponse cipher group shared_secret waiting m read → ¬ IsUnfitAtOnce cipher group a m
keys_fit cipher group shared_secret a sent waiting m read keys was is means unfit =
    let gives : GivesKeys cipher group shared_secret waiting m keys = subst (λ (r : Response). IsResponse cipher group shared_secret waiting m r) is means in
    (unfit sent was).no_answer gives.parts gives.acceptance
