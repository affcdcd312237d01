-- What is delivered lies in what was lent.
use Rattle.std.proofs.Common.{◌≡◌, ◌+◌, ◌++◌, ℕ, List, length, take, drop, refl, sym, ap, ◌∙◌, subst, arith, append_assoc}
use Rattle.std.proofs.lemmas.List.{length-append}
use Rattle.std.proofs.Math.Seq.{drop-append_seam, take-append_seam}
use Rattle.base.specs.Octets.{Octets}
use Rattle.esp.specs.Packet.{trailer, IsContents}
use Rattle.sadb.specs.Database.{Database}
use Rattle.effects.specs.Taking.{Meaning}
use Rattle.traffic.specs.Outcomes as traffic
use Rattle.traffic.specs.Receiving.{IsOpened, Receives}
use Rattle.traffic.specs.Verdicts.{Packet}
use Rattle.gateway.specs.Groups.{packet_in}
use Rattle.gateway.specs.Inputs.{Input}
use Rattle.gateway.specs.LawsOfOutputs.{IsPartBehindHead}
use Rattle.gateway.specs.Outputs.{Up}
use Rattle.gateway.specs.States.{State}
use Rattle.gateway.specs.Steps.{DoesInput, Steps}
use Rattle.gateway.proofs.DeliveryLemmas.{came_up, told_outcome}

behind : (front payload rest : Octets) → length front ≡ 8 → payload ≡ take (length payload) (drop 8 (front ++ (payload ++ rest)))
behind front payload rest eight =
    subst (λ (n : ℕ). payload ≡ take (length payload) (drop n (front ++ (payload ++ rest)))) eight
    (sym (ap (λ (xs : List ℕ). take (length payload) xs) (drop-append_seam front (payload ++ rest)) ∙ take-append_seam payload rest))

contents_behind : (came payload : Octets) (next : ℕ) → IsContents came next payload → IsPartBehindHead came payload
contents_behind came payload next c =
    let rest = trailer c.p next ++ c.check in
    let eight = c.eight in
    let octets : came ≡ c.front ++ (payload ++ rest) = c.octets ∙ append_assoc (c.front ++ payload) (trailer c.p next) c.check ∙ append_assoc c.front payload rest in
    let whole : length came ≡ length c.front + length (payload ++ rest) = ap (λ (xs : List ℕ). length xs) octets ∙ length-append c.front (payload ++ rest) in
    let inner = length-append payload rest in
    record {
      part = subst (λ (xs : List ℕ). payload ≡ take (length payload) (drop 8 xs)) (sym octets) (behind c.front payload rest eight);
      within = omega arith;
    }

opened_behind : (old new : Database) (came packet : Octets) (child number : ℕ) → IsOpened old came child number (Packet packet) new → IsPartBehindHead came packet
opened_behind old new came packet child number is =
    subst (λ (xs : List ℕ). IsPartBehindHead came xs) (sym is.verdict_is.0) (contents_behind came is.payload is.next is.opened.opened.contents)

pub goes_up_as_lent : {C : Type 0} (meaning : Meaning) (given : Input) (child number : ℕ) (packet : Octets) (old new : State C)
    → Steps meaning given old (Up child number packet) new → IsPartBehindHead (packet_in given) packet
goes_up_as_lent {C} meaning given child number packet old new s =
    let does = s.traces.does in
    let came = came_up meaning old.entries given old.machine old.table (Up child number packet) s.trace new.machine new.table does refl in
    let by = subst (λ (g : Input). DoesInput meaning old.entries g old.machine old.table (Up child number packet) s.trace new.machine new.table) came.is does in
    let outcome : by.1.outcome ≡ traffic.Up child number packet = told_outcome (Up child number packet) by.1.outcome (traffic.Up child number packet) by.1.output refl in
    let receives = subst (λ (o : traffic.Outcome). Receives old.table came.octets o new.table) outcome by.1.receives in
    subst (λ (xs : List ℕ). IsPartBehindHead xs packet) (sym (ap packet_in came.is)) (opened_behind old.table new.table came.octets packet child number receives)
