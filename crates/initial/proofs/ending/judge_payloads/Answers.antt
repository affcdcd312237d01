use Rattle.std.proofs.Common.{◌≡◌, Ok, Err, ap, refl, subst, sym, ◌∙◌}
use Rattle.exchange.specs.declared.headers.Role.TheVariants.{Responder}
use Rattle.auth.specs.Answers.{is_accepted}
use Rattle.auth.specs.Proofs.{proving_of}
use Rattle.children.specs.Accepting.{IsUnacceptable}
use Rattle.children.specs.declared.asking.Asked.{Asked}
use Rattle.setup.specs.Configs.{setup_of}
use Rattle.setup.specs.declared.config.EndConfig.{EndConfig}
use Rattle.initial.proofs.ChildLemmas.{first_child}
use Rattle.initial.proofs.ending.judge_payloads.Goals as goal

refuses : {A E : Type 0} {x : A} {e : E} → Err e ≡ Ok x → ⊥
refuses is = cc

pub returns-clause-judged : goal.returns-clause-judged
returns-clause-judged g c =
    let accepts = g.C.Proof.accepts c.args.setup.now.caller.now in
    record {
      proved = ap (λ (e : EndConfig). is_accepted accepts e.identity (proving_of Responder c.args.sent.now.keys c.args.sent.now.first) c.args.payloads.now) (sym c.peer.ensures.end)
          ∙ ap (λ w. is_accepted accepts c.peer.result.now.identity w c.args.payloads.now)
          (sym (c.of-proving.ensures ∙ ap (λ f. proving_of Responder c.args.sent.now.keys f) c.as_slice.ensures))
          ∙ sym c.in_ok-is_accepted.ensures.accepted ∙ c.if-not-branch.false;
      child = first_child (setup_of c.args.setup.now) c.args.ike c.args.sent.now c.args.payloads.now c.asked.result
          (record { ike = c.args.ike; keys = c.first_child_keys.result; blocks = c.blocks-2.result }) c.in_ok-accept.field-0
          c.asked.ensures.asked (rw (c.first_child_keys.ensures, c.blocks-2.ensures.count) refl)
          c.in_ok-accept.ensures.accepted;
      told = c.peer_window.ensures;
    }

pub returns-in_err-accept-clause-unacceptable : goal.returns-in_err-accept-clause-unacceptable
returns-in_err-accept-clause-unacceptable g c = λ none.
    absurd (refuses (c.in_err-accept.ensures.early (subst (λ (a : Asked). IsUnacceptable a c.args.payloads.now) (sym c.asked.ensures.asked) none)))
