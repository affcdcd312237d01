-- What the Message IDs of an IKE SA say. For how many more responses or requests there is room is no part of
-- it.
use Rattle.requests.specs.Incoming.{PeerRequests}
use Rattle.requests.specs.Outgoing.{OwnRequests}

abbrev pub incoming_content : PeerRequests → PeerRequests
incoming_content r = record r { room = 0 }

abbrev pub outgoing_content : {T : Type 0} → OwnRequests T → OwnRequests T
outgoing_content r = record r { room = 0 }
