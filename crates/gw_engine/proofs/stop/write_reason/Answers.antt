use Rattle.std.proofs.Common.{rules, ◌≡◌, OnErr, OnOk, subst, ◌∙◌}
use Rattle.std.proofs.lemmas.Fmt.{contents_after_writes}
use Rattle.std.specs.Io.KnownBytes.{Appends}
use Rattle.gw_console.specs.Output.{AppendsBeginning}
use Rattle.gw_engine.specs.Ends.{stop_line}
use Rattle.gw_engine.proofs.stop.write_reason.Goals as goal

pub returns-in-Ok-clause-whole : goal.returns-in-Ok-clause-whole
returns-in-Ok-clause-whole g c =
    let line = c.writeln.new.self.bytes in
    let is : line ≡ stop_line c.args.stop = search (rules, contents_after_writes _ (λ it. it.bytes) (λ w bs v gives. gives) c.new-line.result (stop_line c.args.stop) c.writeln.new.self, c.in-Ok.ensures.writes) in
    let read : c.as_bytes.result.now ≡ line = search rules in
    subst (λ t. OnOk c.write_whole.result (Appends (g.W.Write.contents c.args.writer.now) (g.W.Write.contents c.write_whole.new.writer) t)) (read ∙ is) c.write_whole.ensures.whole

pub returns-in-Ok-clause-beginning : goal.returns-in-Ok-clause-beginning
returns-in-Ok-clause-beginning g c =
    let line = c.writeln.new.self.bytes in
    let is : line ≡ stop_line c.args.stop = search (rules, contents_after_writes _ (λ it. it.bytes) (λ w bs v gives. gives) c.new-line.result (stop_line c.args.stop) c.writeln.new.self, c.in-Ok.ensures.writes) in
    let read : c.as_bytes.result.now ≡ line = search rules in
    subst (λ t. OnErr c.write_whole.result (AppendsBeginning (g.W.Write.contents c.args.writer.now) (g.W.Write.contents c.write_whole.new.writer) t)) (read ∙ is) c.write_whole.ensures.beginning
