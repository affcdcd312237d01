use Rattle.std.proofs.Common.{◌≡◌, ℕ, Some, IsSome, sym, ap, ◌∙◌, refl, subst, is_some, Option}
use Rattle.std.specs.FinMap as map
use Rattle.sadb.specs.declared.pair.Pair as held
use Rattle.esp.specs.Packet.{BeginsWithItsSpi}
use Rattle.slab.specs.Slab.{get}
use Rattle.std.proofs.lemmas.Result.{MatchResult-weaker}
use Rattle.sadb.specs.Storage.{key_of, PairsBySerial}
use Rattle.sadb.proofs.PairsLemmas.{key_given, pair_given, get_at_key, written_by_serial, written_shown}
use Rattle.sadb.proofs.pairs.Pairs.open.Goals as goal

pub unwrap-key-requires : goal.unwrap-key-requires
unwrap-key-requires c =
    let at : key_of c.self.inside.keys.items c.args.serial ≡ c.key.result = ap (λ ks. key_of ks c.args.serial) (sym c.deref.ensures.value) ∙ sym c.key.ensures in
    subst (λ (o : Option ℕ). IsSome o) at (key_given c.self.inside.keys.items c.self.inside.slab c.args.self.now.pairs c.args.serial (ap (λ (s : PairsBySerial). s.pairs) c.self.view_is) (ap is_some c.requires.asked.there))

pub index_mut-requires : goal.index_mut-requires
index_mut-requires c =
    let at : key_of c.self.inside.keys.items c.args.serial ≡ Some c.unwrap-key.result = ap (λ ks. key_of ks c.args.serial) (sym c.deref.ensures.value) ∙ sym c.key.ensures ∙ c.unwrap-key.ensures in
    pair_given c.self.inside.keys.items c.self.inside.slab c.args.self.now.pairs c.args.serial (ap (λ (s : PairsBySerial). s.pairs) c.self.view_is) c.unwrap-key.result at (ap is_some c.requires.asked.there)

pub invariant_of-self : goal.invariant_of-self
invariant_of-self c =
    let at : key_of c.self.inside.keys.items c.args.serial ≡ Some c.unwrap-key.result = ap (λ ks. key_of ks c.args.serial) (sym c.deref.ensures.value) ∙ sym c.key.ensures ∙ c.unwrap-key.ensures in
    written_by_serial c.self.inside.keys.items c.self.inside.slab c.args.self.now.pairs c.args.serial (ap (λ (s : PairsBySerial). s.pairs) c.self.view_is)
    c.unwrap-key.result c.index_mut.result.now _ c.self.invariant at c.index_mut.ensures.value refl c.window_is_sound.ensures

pub open_ahead-opened-requires-clause-mine : goal.open_ahead-opened-requires-clause-mine
open_ahead-opened-requires-clause-mine c =
    let at : key_of c.self.inside.keys.items c.args.serial ≡ Some c.unwrap-key.result = ap (λ ks. key_of ks c.args.serial) (sym c.deref.ensures.value) ∙ sym c.key.ensures ∙ c.unwrap-key.ensures in
    let here : get c.self.inside.slab c.unwrap-key.result ≡ Some c.index_mut.result.now = c.index_mut.ensures.value in
    let there : map.get c.args.self.now.pairs c.args.serial ≡ Some c.index_mut.result.now = get_at_key c.self.inside.keys.items c.self.inside.slab c.args.self.now.pairs c.args.serial (ap (λ (s : PairsBySerial). s.pairs) c.self.view_is) c.unwrap-key.result at ∙ here in
    let same : c.requires.asked.pair ≡ c.index_mut.result.now = (let both : Some c.requires.asked.pair ≡ Some c.index_mut.result.now = sym c.requires.asked.there ∙ there in cc) in
    subst (λ (p : held.Pair). BeginsWithItsSpi p.inbound.association c.args.packet.now) same c.requires.asked.addressed

pub returns-clause-up : goal.returns-clause-up
returns-clause-up c =
    let at : key_of c.self.inside.keys.items c.args.serial ≡ Some c.unwrap-key.result = ap (λ ks. key_of ks c.args.serial) (sym c.deref.ensures.value) ∙ sym c.key.ensures ∙ c.unwrap-key.ensures in
    let here : get c.self.inside.slab c.unwrap-key.result ≡ Some c.index_mut.result.now = c.index_mut.ensures.value in
    let there : map.get c.args.self.now.pairs c.args.serial ≡ Some c.index_mut.result.now = get_at_key c.self.inside.keys.items c.self.inside.slab c.args.self.now.pairs c.args.serial (ap (λ (s : PairsBySerial). s.pairs) c.self.view_is) c.unwrap-key.result at ∙ here in
    MatchResult-weaker c.open_ahead-opened.result c.open_ahead-opened.ensures.up
    (λ o up. record { pair = c.index_mut.result.now; there = there; inbound = c.open_ahead-opened.new.self; opened = up; changed = written_shown c.self.inside.keys.items c.self.inside.slab c.args.self.now.pairs c.args.serial (ap (λ (s : PairsBySerial). s.pairs) c.self.view_is) c.unwrap-key.result c.index_mut.result.now _ c.self.invariant at here })
    (λ fault nothing. nothing)

pub returns-clause-refused : goal.returns-clause-refused
returns-clause-refused c =
    let at : key_of c.self.inside.keys.items c.args.serial ≡ Some c.unwrap-key.result = ap (λ ks. key_of ks c.args.serial) (sym c.deref.ensures.value) ∙ sym c.key.ensures ∙ c.unwrap-key.ensures in
    let here : get c.self.inside.slab c.unwrap-key.result ≡ Some c.index_mut.result.now = c.index_mut.ensures.value in
    let there : map.get c.args.self.now.pairs c.args.serial ≡ Some c.index_mut.result.now = get_at_key c.self.inside.keys.items c.self.inside.slab c.args.self.now.pairs c.args.serial (ap (λ (s : PairsBySerial). s.pairs) c.self.view_is) c.unwrap-key.result at ∙ here in
    MatchResult-weaker c.open_ahead-opened.result c.open_ahead-opened.ensures.refused
    (λ o nothing. nothing)
    (λ fault refused. record { pair = c.index_mut.result.now; there = there; inbound = c.open_ahead-opened.new.self; refused = refused; changed = written_shown c.self.inside.keys.items c.self.inside.slab c.args.self.now.pairs c.args.serial (ap (λ (s : PairsBySerial). s.pairs) c.self.view_is) c.unwrap-key.result c.index_mut.result.now _ c.self.invariant at here })
