use Rattle.std.proofs.Common.{◌≡◌, ℕ, Some, IsSome, ◌-◌, length, sym, ap, ◌∙◌, refl, subst, min, Option, take}
use Rattle.std.specs.FinMap as map
use Rattle.esp.specs.Laying.{packet_size}
use Rattle.esp.specs.Views.{Sending}
use Rattle.std.specs.Vec.{vec_capacity}
use Rattle.slab.specs.Slab.{get}
use Rattle.std.proofs.lemmas.Result.{MatchResult-weaker}
use Rattle.sadb.specs.Storage.{key_of, PairsBySerial}
use Rattle.sadb.proofs.PairsLemmas.{key_given, pair_given, get_at_key, written_by_serial, written_shown, written_same, written_len, same_by_serial}
use Rattle.sadb.proofs.SenderLemmas.{laid_in_at, rest_stays}
use Rattle.sadb.proofs.pairs.Pairs.lay_in.Goals as goal

pub unwrap-key-requires : goal.unwrap-key-requires
unwrap-key-requires c =
    let at : key_of c.self.inside.keys.items c.args.serial ≡ c.key.result = ap (λ ks. key_of ks c.args.serial) (sym c.deref.ensures.value) ∙ sym c.key.ensures in
    subst (λ (o : Option ℕ). IsSome o) at (key_given c.self.inside.keys.items c.self.inside.slab c.args.self.now.pairs c.args.serial (ap (λ (s : PairsBySerial). s.pairs) c.self.view_is) c.requires.there)

pub index_mut-requires : goal.index_mut-requires
index_mut-requires c =
    let at : key_of c.self.inside.keys.items c.args.serial ≡ Some c.unwrap-key.result = ap (λ ks. key_of ks c.args.serial) (sym c.deref.ensures.value) ∙ sym c.key.ensures ∙ c.unwrap-key.ensures in
    pair_given c.self.inside.keys.items c.self.inside.slab c.args.self.now.pairs c.args.serial (ap (λ (s : PairsBySerial). s.pairs) c.self.view_is) c.unwrap-key.result at c.requires.there

pub invariant_of-self : goal.invariant_of-self
invariant_of-self c =
    let at : key_of c.self.inside.keys.items c.args.serial ≡ Some c.unwrap-key.result = ap (λ ks. key_of ks c.args.serial) (sym c.deref.ensures.value) ∙ sym c.key.ensures ∙ c.unwrap-key.ensures in
    written_by_serial c.self.inside.keys.items c.self.inside.slab c.args.self.now.pairs c.args.serial (ap (λ (s : PairsBySerial). s.pairs) c.self.view_is)
    c.unwrap-key.result c.index_mut.result.now _ c.self.invariant at c.index_mut.ensures.value refl (c.self.invariant.windows c.unwrap-key.result c.index_mut.result.now c.index_mut.ensures.value)

pub returns-clause-sealed : goal.returns-clause-sealed
returns-clause-sealed c =
    let at : key_of c.self.inside.keys.items c.args.serial ≡ Some c.unwrap-key.result = ap (λ ks. key_of ks c.args.serial) (sym c.deref.ensures.value) ∙ sym c.key.ensures ∙ c.unwrap-key.ensures in
    let here : get c.self.inside.slab c.unwrap-key.result ≡ Some c.index_mut.result.now = c.index_mut.ensures.value in
    let there : map.get c.args.self.now.pairs c.args.serial ≡ Some c.index_mut.result.now = get_at_key c.self.inside.keys.items c.self.inside.slab c.args.self.now.pairs c.args.serial (ap (λ (s : PairsBySerial). s.pairs) c.self.view_is) c.unwrap-key.result at ∙ here in
    let changed = written_shown c.self.inside.keys.items c.self.inside.slab c.args.self.now.pairs c.args.serial (ap (λ (s : PairsBySerial). s.pairs) c.self.view_is) c.unwrap-key.result c.index_mut.result.now _ c.self.invariant at here in
    MatchResult-weaker c.lay_in.result c.lay_in.ensures.sealed
    (λ number sealed. record {
      pair = c.index_mut.result.now;
      there = there;
      outbound = c.lay_in.new.self;
      sealed = laid_in_at c.args.self.now.pairs _ c.args.serial c.args.next number c.index_mut.result.now c.lay_in.new.self c.args.payload.now
          (take (packet_size (length c.args.payload.now)) c.lay_in.new.room) changed sealed;
      changed = changed;
    })
    (λ fault nothing. nothing)

pub returns-clause-refused : goal.returns-clause-refused
returns-clause-refused c =
    let at : key_of c.self.inside.keys.items c.args.serial ≡ Some c.unwrap-key.result = ap (λ ks. key_of ks c.args.serial) (sym c.deref.ensures.value) ∙ sym c.key.ensures ∙ c.unwrap-key.ensures in
    let here : get c.self.inside.slab c.unwrap-key.result ≡ Some c.index_mut.result.now = c.index_mut.ensures.value in
    let there : map.get c.args.self.now.pairs c.args.serial ≡ Some c.index_mut.result.now = get_at_key c.self.inside.keys.items c.self.inside.slab c.args.self.now.pairs c.args.serial (ap (λ (s : PairsBySerial). s.pairs) c.self.view_is) c.unwrap-key.result at ∙ here in
    MatchResult-weaker c.lay_in.result c.lay_in.ensures.refused
    (λ number nothing. nothing)
    (λ fault refused. (
      record { pair = c.index_mut.result.now; there = there; refused = refused.0 },
      same_by_serial _ _ (ap (λ (s : PairsBySerial). s.next) c.self.view_is)
          (written_same c.self.inside.keys.items c.self.inside.slab c.args.self.now.pairs c.args.serial (ap (λ (s : PairsBySerial). s.pairs) c.self.view_is) c.unwrap-key.result c.index_mut.result.now _ c.self.invariant at here (ap (λ (o : Sending). record c.index_mut.result.now { outbound = o }) refused.1))
          (ap (λ (n : ℕ). min (vec_capacity c.self.inside.keys - length c.self.inside.keys.items) (c.self.inside.slab.capacity - n)) (written_len c.self.inside.keys.items c.self.inside.slab c.args.self.now.pairs c.args.serial (ap (λ (s : PairsBySerial). s.pairs) c.self.view_is) c.unwrap-key.result c.index_mut.result.now _ c.self.invariant at here)
          ∙ ap (λ (s : PairsBySerial). s.room) c.self.view_is),
      refused.2,
    ))

pub returns-clause-behind : goal.returns-clause-behind
returns-clause-behind c =
    rest_stays c.lay_in.result c.index_mut.result.now.outbound c.args.next c.args.payload.now c.args.room.now c.lay_in.new.self c.lay_in.new.room c.lay_in.ensures.laid
