-- Whether some request asks for the end of its IKE SA.
use Rattle.std.proofs.Common.{◌≡◌, Bool, true, false, MatchBool, sym}
use Rattle.requests.specs.Outgoing.{NoneOutstanding, OwnRequests, SomeOutstanding}
use Rattle.association.specs.Purposes.{asks_to_end, AwaitsDeletion}
use Rattle.association.specs.declared.phase.Request.{Request}

clash : (b : Bool) → b ≡ true → b ≡ false → ⊥
clash b is other = cc

pub deleting_told : (requests : OwnRequests Request) (Says : Request → Bool → Type 0) → ((r : Request) (b : Bool) → Says r b → b ≡ asks_to_end r.purpose)
    → (found : Bool) → MatchBool found (SomeOutstanding requests.outstanding Says) (NoneOutstanding requests.outstanding Says)
    → MatchBool found (AwaitsDeletion requests) (¬ AwaitsDeletion requests)
deleting_told requests Says is true some = record { number = some.number; request = some.request; outstanding = some.there; deletion = sym (is some.request true some.passes) }
deleting_told requests Says is false none = λ waits. clash (asks_to_end waits.request.purpose) waits.deletion (sym (is waits.request false (none waits.number waits.request waits.outstanding)))
