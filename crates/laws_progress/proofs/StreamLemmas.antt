-- A stream of packets that come in order goes up whole.
use Rattle.std.proofs.Common.{◌≡◌, ◌⊎◌, ◌<◌, ℕ, zero, suc, List, Some, inl, inr, sym, subst, arith}
use Rattle.std.specs.List.{slice_get}
use Rattle.base.specs.Octets.{Octets}
use Rattle.sadb.specs.Database.{pair_at}
use Rattle.sadb.specs.declared.pair.Pair.{Pair}
use Rattle.effects.specs.Taking.{Meaning}
use Rattle.gateway.specs.Outputs.{Up}
use Rattle.gateway.specs.Packets.{PacketsAreDelivered}
use Rattle.gateway.specs.WorldHistories.{passage_at, passages_at, Happening, IsWorldTrail}
use Rattle.gateway.specs.Worlds.{gateway_at, WorldState}
use Rattle.gateway.specs.declared.world.stored.Child.{Child}
use Rattle.gateway.specs.declared.world.stored.End.{End}
use Rattle.laws_progress.specs.Delivering.{ComesToChild, IsSealedFrom}
use Rattle.laws_progress.specs.InOrder.{ComesInOrder, WasAccepted, WasAcceptedBefore, WasGreatestAtFirst}
use Rattle.laws_progress.specs.Streams.{AcceptsNothingElse, ArrivedBefore, ArriveInOrder, ArrivesAs}
use Rattle.laws_progress.proofs.DeliveringLemmas.{step_at}
use Rattle.laws_progress.proofs.PlaceLemmas.{located}

module _ {C : Type 0} (meaning_of : C → Meaning) (sender receiver : Child) (happenings : List (Happening C)) (old new : WorldState C) (trail : IsWorldTrail meaning_of old happenings new)
    (delivered : PacketsAreDelivered (passages_at receiver.end happenings))
    (rule : (sealing place number : ℕ) (packet octets : Octets) (pair : Pair) (g h : Happening C) → slice_get happenings sealing ≡ Some g → slice_get happenings place ≡ Some h
    → IsSealedFrom sender number packet octets g → ComesToChild receiver pair octets h → ComesInOrder h.event.end old happenings place pair number → h.said ≡ Up receiver.serial number packet)
    (nothing_else : AcceptsNothingElse sender receiver happenings) (in_order : ArriveInOrder sender receiver old happenings) where
  own_serial : (place number : ℕ) (packet : Octets) (a : ArrivesAs sender receiver happenings place number packet) → a.pair.serial ≡ receiver.serial
  own_serial place number packet a =
      let takes = step_at meaning_of happenings old new trail place a.happening a.here in
      takes.sound.table.serial receiver.serial a.pair
      (subst (λ (e : End). pair_at (gateway_at e a.happening.before).table.pairs receiver.serial ≡ Some a.pair) (sym a.comes.end_is) a.comes.held)

  -- what goes up was accepted
  was_accepted : (place earlier number : ℕ) (packet : Octets) → earlier < place → (a : ArrivesAs sender receiver happenings earlier number packet) → a.happening.said ≡ Up receiver.serial number packet
      → WasAcceptedBefore receiver.end happenings place receiver.serial number
  was_accepted place earlier number packet before a says =
      let at = located receiver.end happenings earlier a.happening a.here a.comes.end_is in
      record {
        earlier = earlier;
        before = before;
        happening = a.happening;
        there = a.here;
        end_is = a.comes.end_is;
        accepts = delivered.up at.at receiver.serial number packet (passage_at receiver.end a.happening) at.there says;
      }

  module _ (place number : ℕ) (packet : Octets) (a : ArrivesAs sender receiver happenings place number packet)
      (earlier_go_up : (earlier last : ℕ) (other : Octets) → earlier < place → (b : ArrivesAs sender receiver happenings earlier last other) → b.happening.said ≡ Up receiver.serial last other) where
    lower : (taken : ℕ) → WasAccepted receiver.end old happenings place receiver.serial taken → taken < number
    lower taken (inl first) = in_order.above place number taken packet a first
    lower taken (inr was) =
        let so = nothing_else was.earlier taken was.accepts.octets was.happening was.there was.end_is was.accepts.judges in
        in_order.ordered was.earlier place taken number so.packet packet was.before so.arrives a

    near : (last : ℕ) → (last ≡ 0) ⊎ (WasGreatestAtFirst receiver.serial last (gateway_at receiver.end old) ⊎ ArrivedBefore sender receiver happenings place last)
        → (last ≡ 0) ⊎ WasAccepted receiver.end old happenings place receiver.serial last
    near last (inl nothing) = inl nothing
    near last (inr (inl first)) = inr (inl first)
    near last (inr (inr b)) = inr (inr (was_accepted place b.earlier last b.packet b.before b.arrives (earlier_go_up b.earlier last b.packet b.before b.arrives)))

    comes_so : ComesInOrder a.happening.event.end old happenings place a.pair number
    comes_so =
        subst (λ (e : End). ComesInOrder e old happenings place a.pair number) (sym a.comes.end_is) (record {
          above = λ taken was. lower taken (subst (λ (s : ℕ). WasAccepted receiver.end old happenings place s taken) (own_serial place number packet a) was);
          close = λ extended.
              let gap = in_order.close place number packet a extended in
              record {
                last = gap.last;
                was = subst (λ (s : ℕ). (gap.last ≡ 0) ⊎ WasAccepted receiver.end old happenings place s gap.last) (sym (own_serial place number packet a)) (near gap.last gap.was);
                within = gap.within;
              };
        })

    this_goes_up : a.happening.said ≡ Up receiver.serial number packet
    this_goes_up = rule a.sealing place number packet a.octets a.pair a.sealed_at a.happening a.there a.here a.sealed a.comes comes_so

  all_below : (bound place number : ℕ) (packet : Octets) → place < bound → (a : ArrivesAs sender receiver happenings place number packet) → a.happening.said ≡ Up receiver.serial number packet
  all_below zero place number packet less a = absurd (omega (arith, less))
  all_below (suc bound) place number packet less a =
      this_goes_up place number packet a (λ earlier last other before b. all_below bound earlier last other (omega (arith, less, before)) b)

  pub stream_goes_up : (place number : ℕ) (packet : Octets) → (a : ArrivesAs sender receiver happenings place number packet) → a.happening.said ≡ Up receiver.serial number packet
  stream_goes_up place number packet a = all_below (suc place) place number packet (omega arith) a
