-- What goes out at a step is among the datagrams that the step stores.
use Rattle.std.proofs.Common.{◌≡◌, ◌++◌, ◌∷◌, inl, inr, [], List, Option, Some, Contains, map, ℕ, ap, refl, subst, sym, ◌∙◌}
use Rattle.std.proofs.lemmas.List.Elements.{Contains-append_left, Contains-append_right}
use Rattle.base.specs.Octets.{Octets}
use Rattle.sadb.specs.Database.{pair_at}
use Rattle.sadb.specs.declared.pair.Pair.{Pair}
use Rattle.effects.specs.Taking.{Meaning}
use Rattle.moments.specs.declared.resent.Resent.{Resent}
use Rattle.ike.specs.Machines.{Machine}
use Rattle.ike.specs.declared.output.Mark as ike
use Rattle.gateway.specs.Inputs.{Event}
use Rattle.gateway.specs.Outputs.{Clear, Counted, Discarded, Done, Dropped, Dummy, OutputView, Refused, Repeat, Reply, Request, Sealed, Ticked, Up}
use Rattle.gateway.specs.States.{State}
use Rattle.gateway.specs.Worlds.{again_as, datagram_of, esp_mark, gateway_at, ike_mark, mark_again, mark_by, sent_by, simplex_of, storing, with_gateway, Stored, TakesEvent, WorldState}
use Rattle.gateway.specs.declared.world.stored.Datagram.{Datagram}
use Rattle.gateway.specs.declared.world.stored.End.{End}
use Rattle.gateway.specs.declared.world.stored.End.TheVariants.{A, B}
use Rattle.gateway.specs.declared.world.stored.Protection.{Protection}
use Rattle.gateway.specs.declared.world.stored.Protection.TheVariants as mark
use Rattle.gateway.proofs.PartyLemmas.{at_head, at_head_or_further, further_on, none_there}
use Rattle.laws_two_ends.specs.GoingOut.{GoesOut, IsAmong, IsStoredAsSent}
use Rattle.laws_two_ends.proofs.WorldRecordLemmas.{gateway_then}

stored_then : {C : Type 0} (end : End) (gateway : State C) (stored : Stored) (w : WorldState C) → (with_gateway end gateway stored w).stored ≡ stored
stored_then {C} A gateway stored w = refl
stored_then {C} B gateway stored w = refl

mapped : {X Y : Type 0} (f : X → Y) (xs : List X) (x : X) → Contains xs x → Contains (map f xs) (f x)
mapped {X} {Y} f [] x there = absurd (none_there x there)
mapped {X} {Y} f (y ∷ ys) x there = elim (at_head_or_further y ys x there) [
  | inl same ↦ subst (λ (z : X). Contains (f y ∷ map f ys) (f z)) same (at_head (f y) (map f ys))
  | inr beyond ↦ further_on (f y) (map f ys) (f x) (mapped f ys x beyond)
]

-- a datagram with these octets is in the list
record IsIn (end : End) (octets : Octets) (sent : List Datagram) : Type 0 where
  pub mark : Protection
  pub there : Contains sent (datagram_of end mark octets)

-- the one datagram of a step
single : (end : End) (m : Protection) (octets sent : Octets) → octets ≡ sent → IsIn end sent (datagram_of end m octets ∷ [])
single end m octets sent same = record { mark = m; there = subst (λ (os : Octets). Contains (datagram_of end m octets ∷ []) (datagram_of end m os)) same (at_head (datagram_of end m octets) []) }

in_front : (end : End) (octets : Octets) (xs ys : List Datagram) → IsIn end octets xs → IsIn end octets (xs ++ ys)
in_front end octets xs ys is = record { mark = is.mark; there = Contains-append_left xs ys (datagram_of end is.mark octets) is.there }

behind : (end : End) (octets : Octets) (xs ys : List Datagram) → IsIn end octets ys → IsIn end octets (xs ++ ys)
behind end octets xs ys is = record { mark = is.mark; there = Contains-append_right xs ys (datagram_of end is.mark octets) is.there }

again : (end : End) (machine : Machine) (requests : List Resent) (sent : Octets) → IsAmong requests sent → IsIn end sent (map (again_as end machine) requests)
again end machine requests sent is =
    let m : Protection = ike_mark machine (mark_again is.request) in
    record {
      mark = m;
      there = subst (λ (os : Octets). Contains (map (again_as end machine) requests) (datagram_of end m os)) is.is (mapped (again_as end machine) requests is.request is.there);
    }

step_sends : {C : Type 0} (end : End) (said : OutputView) (m : Option ike.Mark) (gateway : State C) (sent : Octets) → GoesOut said sent → IsIn end sent (sent_by end said m gateway)
step_sends {C} end (Reply octets closed) m gateway sent is =
    in_front end sent (datagram_of end (ike_mark gateway.machine m) octets ∷ []) [] (single end (ike_mark gateway.machine m) octets sent is)
step_sends {C} end (Repeat octets) m gateway sent is =
    in_front end sent (datagram_of end (ike_mark gateway.machine m) octets ∷ []) [] (single end (ike_mark gateway.machine m) octets sent is)
step_sends {C} end (Request serial octets) m gateway sent is =
    in_front end sent (datagram_of end (ike_mark gateway.machine m) octets ∷ []) [] (single end (ike_mark gateway.machine m) octets sent is)
step_sends {C} end (Sealed child number octets) m gateway sent is =
    in_front end sent (datagram_of end (esp_mark gateway.table child number) octets ∷ []) [] (single end (esp_mark gateway.table child number) octets sent is)
step_sends {C} end (Ticked requests closed) m gateway sent is = again end gateway.machine requests sent is
step_sends {C} end (Counted serial child closed) m gateway sent is = absurd is
step_sends {C} end Done m gateway sent is = absurd is
step_sends {C} end (Up child number packet) m gateway sent is = absurd is
step_sends {C} end (Dummy child number) m gateway sent is = absurd is
step_sends {C} end (Clear packet) m gateway sent is = absurd is
step_sends {C} end Discarded m gateway sent is = absurd is
step_sends {C} end (Dropped why) m gateway sent is = absurd is
step_sends {C} end (Refused why) m gateway sent is = absurd is

module _ {C : Type 0} (meaning_of : C → Meaning) (event : Event) (old : WorldState C) (said : OutputView) (new : WorldState C) (takes : TakesEvent meaning_of event old said new) where
  stored_is : new.stored ≡ storing event.end said takes.trace takes.gateway old.stored
  stored_is = ap (λ (w : WorldState C). w.stored) takes.content ∙ stored_then event.end takes.gateway (storing event.end said takes.trace takes.gateway old.stored) old

  pub stored_if_sent : (octets : Octets) → GoesOut said octets → IsStoredAsSent event.end octets new.stored
  stored_if_sent octets is =
      let found = behind event.end octets old.stored.sent (sent_by event.end said takes.trace.sent takes.gateway) (step_sends event.end said takes.trace.sent takes.gateway octets is) in
      record { mark = found.mark; there = subst (λ (s : Stored). Contains s.sent (datagram_of event.end found.mark octets)) (sym stored_is) found.there }

  -- a packet is stored with the number under which it was sealed, and by what
  pub stored_packet : (child number : ℕ) (octets : Octets) (pair : Pair) → said ≡ Sealed child number octets → pair_at (gateway_at event.end new).table.pairs child ≡ Some pair
      → Contains new.stored.sent (datagram_of event.end (mark.Esp (simplex_of pair.outbound.association) number) octets)
  stored_packet child number octets pair is stands =
      let there : Contains (sent_by event.end (Sealed child number octets) takes.trace.sent takes.gateway) (datagram_of event.end (esp_mark takes.gateway.table child number) octets) =
      Contains-append_left (datagram_of event.end (esp_mark takes.gateway.table child number) octets ∷ []) [] (datagram_of event.end (esp_mark takes.gateway.table child number) octets)
      (at_head (datagram_of event.end (esp_mark takes.gateway.table child number) octets) []) in
      let gateway_is : gateway_at event.end new ≡ takes.gateway =
      ap (λ (w : WorldState C). gateway_at event.end w) takes.content ∙ gateway_then event.end takes.gateway (storing event.end said takes.trace takes.gateway old.stored) old in
      let found : pair_at takes.gateway.table.pairs child ≡ Some pair = sym (ap (λ (s : State C). pair_at s.table.pairs child) gateway_is) ∙ stands in
      let by_pair : esp_mark takes.gateway.table child number ≡ mark.Esp (simplex_of pair.outbound.association) number = ap (λ (p : Option Pair). mark_by number p) found in
      let in_sent : Contains (sent_by event.end said takes.trace.sent takes.gateway) (datagram_of event.end (mark.Esp (simplex_of pair.outbound.association) number) octets) =
      subst (λ (o : OutputView). Contains (sent_by event.end o takes.trace.sent takes.gateway) (datagram_of event.end (mark.Esp (simplex_of pair.outbound.association) number) octets)) (sym is)
      (subst (λ (m : Protection). Contains (sent_by event.end (Sealed child number octets) takes.trace.sent takes.gateway) (datagram_of event.end m octets)) by_pair there) in
      subst (λ (s : Stored). Contains s.sent (datagram_of event.end (mark.Esp (simplex_of pair.outbound.association) number) octets)) (sym stored_is)
      (Contains-append_right old.stored.sent (sent_by event.end said takes.trace.sent takes.gateway)
      (datagram_of event.end (mark.Esp (simplex_of pair.outbound.association) number) octets) in_sent)
