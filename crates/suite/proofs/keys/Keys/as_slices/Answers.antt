use Rattle.suite.proofs.keys.Keys.as_slices.Goals as goal

pub returns-clause-keys : goal.returns-clause-keys
returns-clause-keys c =
    record {
      encryption_long = c.octets_of.ensures.whole;
      integrity_long = c.octets_of-2.ensures.whole;
      encryption_octets = c.octets_of.ensures.octets;
      integrity_octets = c.octets_of-2.ensures.octets;
    }
