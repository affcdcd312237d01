-- What an end holds of an IKE SA. Its spare capacity for more replies and requests is no part of it.
use Rattle.requests.specs.Contents.{incoming_content, outgoing_content}
use Rattle.association.specs.declared.phase.Association.{Association}

abbrev pub association_content : Association → Association
association_content a = record a { incoming = incoming_content a.incoming; outgoing = outgoing_content a.outgoing }
