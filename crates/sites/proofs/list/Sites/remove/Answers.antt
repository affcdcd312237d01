use Rattle.std.proofs.Common.{◌≡◌, ◌∙◌, sym, ap, subst, not, rules}
use Rattle.std.proofs.lemmas.Fn.{filter_same}
use Rattle.sites.proofs.SiteLemmas.{some_sites}
use Rattle.sites.proofs.list.Sites.remove.Goals as goal
use Rattle.sites.specs.Finding.{others_than}
use Rattle.sites.specs.Ranges.{AreSites, has_key}

pub invariant_of-self : goal.invariant_of-self
invariant_of-self c =
    let left : c.retain.new.self.items ≡ others_than c.args.key c.self.inside.sites.items = filter_same _ (λ site. not (has_key c.args.key site)) _ (λ x b f k. search rules) _ _ c.retain.ensures.filtered in
    subst AreSites (sym left) (some_sites (λ site. not (has_key c.args.key site)) c.self.inside.sites.items c.self.invariant)

pub returns-clause-others : goal.returns-clause-others
returns-clause-others c =
    let left : c.retain.new.self.items ≡ others_than c.args.key c.self.inside.sites.items = filter_same _ (λ site. not (has_key c.args.key site)) _ (λ x b f k. search rules) _ _ c.retain.ensures.filtered in
    left ∙ ap (others_than c.args.key) c.self.view_is
