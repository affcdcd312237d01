use Rattle.std.proofs.Common.{List, All, Any, refl, sym, subst}
use Rattle.std.proofs.lemmas.Option.{get_or_from_slice_get, slice_get_read}
use Rattle.wire.specs.declared.proposal.Proposal.{Proposal}
use Rattle.wire.specs.declared.proposal.Transform.{Transform}
use Rattle.suite.specs.Choice.{ChoosesNumbers, IsAcceptableProposal, IsAcceptableTransform, kinds}
use Rattle.suite.proofs.choice.choose.Goals as goal

pub takes_extension-requires : goal.takes_extension-requires
takes_extension-requires c =
    let w = c.args.wanted.now in
    let P : List Transform → Type 0 = λ ts. All (λ kind. Any (IsAcceptableTransform w kind) ts) (kinds w) in
    subst P (sym c.as_slice.ensures) (c.is_acceptable.ensures.0 c.if-is_acceptable.true).each

pub returns-then-is_acceptable : goal.returns-then-is_acceptable
returns-then-is_acceptable c =
    let w = c.args.wanted.now in
    let all = c.args.proposals.now in
    let P : Proposal → Type 0 = λ p. IsAcceptableProposal w p in
    let N : List Transform → Type 0 = λ ts. ChoosesNumbers w ts c.takes_extension.result in
    record {
      proposal = c.index-proposals-place.result;
      here = slice_get_read all _ c.loop-place.place c.index-proposals-place.result refl c.loop-place-test.true c.index-proposals-place.is;
      acceptable = c.is_acceptable.ensures.0 c.if-is_acceptable.true;
      first = λ k other below at is. c.loop-place.invariant k other below (subst P (sym (get_or_from_slice_get all k other other at)) is);
      number = refl;
      numbers = subst N c.as_slice.ensures c.takes_extension.ensures;
    }
