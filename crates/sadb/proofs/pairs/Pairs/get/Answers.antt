use Rattle.std.proofs.Common.{◌≡◌, Some, None, sym, ap, ◌∙◌}
use Rattle.std.specs.Option.{option_copied}
use Rattle.std.specs.FinMap as map
use Rattle.sadb.specs.Storage.{key_of, PairsBySerial, shown_pairs, at_key}
use Rattle.sadb.proofs.PairsLemmas.{get_shown, sound_serial, each_copied}
use Rattle.sadb.proofs.pairs.Pairs.get.Goals as goal

pub returns-in_err-key-clause-value : goal.returns-in_err-key-clause-value
returns-in_err-key-clause-value c =
    let keys = c.self.inside.keys.items in
    let slab = c.self.inside.slab in
    let none : key_of keys c.args.serial ≡ None = ap (λ ks. key_of ks c.args.serial) (sym c.deref.ensures.value) ∙ sym c.key.ensures ∙ c.in_err-key.was in
    let shows = get_shown keys slab c.args.self.now.pairs (ap (λ (s : PairsBySerial). s.pairs) c.self.view_is) c.args.serial in
    ap option_copied c.from_residual.ensures ∙ sym (shows ∙ ap (at_key slab) none)

pub returns-clause-value : goal.returns-clause-value
returns-clause-value c =
    let keys = c.self.inside.keys.items in
    let slab = c.self.inside.slab in
    let some : key_of keys c.args.serial ≡ Some c.in_ok-key.field-0 = ap (λ ks. key_of ks c.args.serial) (sym c.deref.ensures.value) ∙ sym c.key.ensures ∙ c.in_ok-key.was in
    let shows = get_shown keys slab c.args.self.now.pairs (ap (λ (s : PairsBySerial). s.pairs) c.self.view_is) c.args.serial in
    c.get.ensures ∙ sym (shows ∙ ap (at_key slab) some)

pub returns-clause-own_serial : goal.returns-clause-own_serial
returns-clause-own_serial c =
    let keys = c.self.inside.keys.items in
    let slab = c.self.inside.slab in
    let pairs = c.args.self.now.pairs in
    let shown : shown_pairs keys slab ≡ pairs = ap (λ (s : PairsBySerial). s.pairs) c.self.view_is in
    let value : option_copied c.get.result ≡ map.get pairs c.args.serial = returns-clause-value c in
    each_copied (λ pair. pair.serial ≡ c.args.serial) c.get.result (λ pair is. sound_serial keys slab pairs shown c.self.invariant c.args.serial pair (sym value ∙ is))
