use Rattle.std.proofs.Common.{rules}
use Rattle.traffic.proofs.VerdictLemmas.{named}
use Rattle.traffic.proofs.verdict.judge.Goals as goal

pub returns-else-covers : goal.returns-else-covers
returns-else-covers c = record {
  flow = c.read_inner.new.flow;
  packet = record {
    named = record {
      family = c.in_ok-family.family;
      named = named c.args.opened.next c.in_ok-family.family (search rules);
      version = search rules;
    };
    flow_is = search rules;
  };
  not_covered = search rules;
}
