use Rattle.std.proofs.Common.{rules, ◌≡◌, ◌+◌, ℕ, Some, None, IsSome, ◌-◌, sym, ap, ◌∙◌, refl, subst, Option}
use Rattle.slab.specs.Slab.{slab_len}
use Rattle.sadb.specs.Storage.{key_of, PairsBySerial}
use Rattle.std.proofs.lemmas.List.{length-set}
use Rattle.sadb.proofs.PairsLemmas.{key_given, pair_given, get_at_key, taken_by_serial, taken_shown, same_by_serial}
use Rattle.sadb.proofs.pairs.Pairs.remove.Goals as goal

pub unwrap-key-requires : goal.unwrap-key-requires
unwrap-key-requires c =
    let at : key_of c.self.inside.keys.items c.args.serial ≡ c.key.result = ap (λ ks. key_of ks c.args.serial) (sym c.deref.ensures.value) ∙ sym c.key.ensures in
    subst (λ (o : Option ℕ). IsSome o) at (key_given c.self.inside.keys.items c.self.inside.slab c.args.self.now.pairs c.args.serial (ap (λ (s : PairsBySerial). s.pairs) c.self.view_is) c.requires)

pub remove-requires : goal.remove-requires
remove-requires c =
    let at : key_of c.self.inside.keys.items c.args.serial ≡ Some c.unwrap-key.result = ap (λ ks. key_of ks c.args.serial) (sym c.deref.ensures.value) ∙ sym c.key.ensures ∙ c.unwrap-key.ensures in
    pair_given c.self.inside.keys.items c.self.inside.slab c.args.self.now.pairs c.args.serial (ap (λ (s : PairsBySerial). s.pairs) c.self.view_is) c.unwrap-key.result at c.requires

pub invariant_of-self : goal.invariant_of-self
invariant_of-self c =
    let at : key_of c.self.inside.keys.items c.args.serial ≡ Some c.unwrap-key.result = ap (λ ks. key_of ks c.args.serial) (sym c.deref.ensures.value) ∙ sym c.key.ensures ∙ c.unwrap-key.ensures in
    let counted : slab_len c.remove.new.self + 1 ≡ slab_len c.self.inside.slab = search rules in
    taken_by_serial c.self.inside.keys.items c.self.inside.slab c.args.self.now.pairs c.args.serial (ap (λ (s : PairsBySerial). s.pairs) c.self.view_is)
    c.remove.new.self c.unwrap-key.result c.remove.result c.self.invariant at (c.remove.ensures.value) c.remove.ensures.updates counted

pub returns-clause-there : goal.returns-clause-there
returns-clause-there c =
    let at : key_of c.self.inside.keys.items c.args.serial ≡ Some c.unwrap-key.result = ap (λ ks. key_of ks c.args.serial) (sym c.deref.ensures.value) ∙ sym c.key.ensures ∙ c.unwrap-key.ensures in
    get_at_key c.self.inside.keys.items c.self.inside.slab c.args.self.now.pairs c.args.serial (ap (λ (s : PairsBySerial). s.pairs) c.self.view_is) c.unwrap-key.result at
    ∙ c.remove.ensures.value

pub returns-clause-content : goal.returns-clause-content
returns-clause-content c =
    let at : key_of c.self.inside.keys.items c.args.serial ≡ Some c.unwrap-key.result = ap (λ ks. key_of ks c.args.serial) (sym c.deref.ensures.value) ∙ sym c.key.ensures ∙ c.unwrap-key.ensures in
    same_by_serial _ _
    (ap (λ (n : ℕ). n + 1) (length-set c.self.inside.keys.items (c.args.serial - 1) None) ∙ ap (λ (s : PairsBySerial). s.next) c.self.view_is)
    (taken_shown c.self.inside.keys.items c.self.inside.slab c.args.self.now.pairs c.args.serial (ap (λ (s : PairsBySerial). s.pairs) c.self.view_is)
    c.remove.new.self c.unwrap-key.result c.remove.result c.self.invariant at (c.remove.ensures.value) c.remove.ensures.updates)
    refl
