-- The outbound SAs of a table's SA pairs, with which packets that were laid are finished.
use Rattle.std.proofs.Common.{◌≡◌, ℕ, List, [], ◌++◌, refl, sym, ap, ◌∙◌, subst, Some, take, drop, inl, inr, arith, length-append}
use Rattle.std.specs.FinMap as map
use Rattle.std.proofs.lemmas.Bool.Decides.{eqb_tells}
use Rattle.std.specs.Prelude.{Result, Ok, Err, OnOk, IfErr, ◌≤◌, length}
use Rattle.esp.specs.declared.fault.EspFault.{EspFault}
use Rattle.esp.specs.Laying.{Lays, LaysIn, StaysBehind, finished, finished_behind, packet_size}
use Rattle.esp.specs.Sealing.{IsSealRefusal, Seals}
use Rattle.esp.specs.Views.{Sending}
use Rattle.sadb.specs.Database.{PairMap, pair_at}
use Rattle.sadb.specs.Laying.{KeepsSenders, finished_at, finished_at_behind, finished_by, sender_at, sender_of}
use Rattle.sadb.specs.declared.pair.Pair.{Pair}
use Rattle.sadb.proofs.NumberedLemmas.{inserted_here, inserted_apart}

-- where one SA pair is changed, and its outbound SA stays
pub senders_kept : (old new : PairMap) (serial : ℕ) (was is : Pair) → pair_at old serial ≡ Some was → new ≡ map.insert old serial is → is.outbound.association ≡ was.outbound.association
    → KeepsSenders old new
senders_kept old new serial was is there changed same = record {
  each = λ other. ap (λ (m : PairMap). sender_at m other) changed ∙ elim (eqb_tells other serial) [
    | inl (_, here) ↦ ap sender_of (inserted_here old serial other is here) ∙ ap Some same ∙ sym (ap (sender_at old) here ∙ ap sender_of there)
    | inr (_, apart) ↦ ap sender_of (inserted_apart old serial other is apart)
  ];
}

-- where another number is the last one of its outbound SA, that is the same SA
same_sender : (old new : PairMap) (serial number : ℕ) (pair : Pair) (outbound : Sending) → new ≡ map.insert old serial (record pair { outbound = outbound })
    → outbound ≡ record pair.outbound { last = number } → sender_at new serial ≡ Some pair.outbound.association
same_sender old new serial number pair outbound changed last =
    let is : Pair = record pair { outbound = outbound } in
    ap (λ (m : PairMap). sender_at m serial) changed ∙ ap sender_of (inserted_here old serial serial is refl) ∙ ap Some (ap (λ (s : Sending). s.association) last)

-- what an SA pair laid is finished by it
pub laid_at : (old new : PairMap) (serial next number start : ℕ) (pair : Pair) (outbound : Sending) (payload before octets : List ℕ)
    → new ≡ map.insert old serial (record pair { outbound = outbound })
    → Seals pair.outbound next payload before number outbound (finished_behind start pair.outbound.association number octets)
    → Seals pair.outbound next payload before number outbound (finished_at_behind start new serial number octets)
laid_at old new serial next number start pair outbound payload before octets changed sealed =
    subst (λ (xs : List ℕ). Seals pair.outbound next payload before number outbound xs)
    (sym (ap (λ s. take start octets ++ finished_by s number (drop start octets)) (same_sender old new serial number pair outbound changed sealed.last))) sealed

-- the same of what it laid at the beginning of a room
pub laid_in_at : (old new : PairMap) (serial next number : ℕ) (pair : Pair) (outbound : Sending) (payload octets : List ℕ)
    → new ≡ map.insert old serial (record pair { outbound = outbound })
    → Seals pair.outbound next payload [] number outbound (finished pair.outbound.association number octets)
    → Seals pair.outbound next payload [] number outbound (finished_at new serial number octets)
laid_in_at old new serial next number pair outbound payload octets changed sealed =
    subst (λ (xs : List ℕ). Seals pair.outbound next payload [] number outbound xs)
    (sym (ap (λ s. finished_by s number octets) (same_sender old new serial number pair outbound changed sealed.last))) sealed

-- what stands behind it in the room stays
pub rest_stays : (result : Result ℕ EspFault) (old : Sending) (next : ℕ) (payload room : List ℕ) (new : Sending) (filled : List ℕ) → OnOk result (LaysIn old next payload room new filled)
    → OnOk result (StaysBehind (packet_size (length payload)) room filled)
rest_stays (Ok n) old next payload room new filled laid = laid.behind
rest_stays (Err e) old next payload room new filled laid = tt

-- nothing of what stood before is taken away
pub not_shorter : (result : Result ℕ EspFault) (old : Sending) (next : ℕ) (payload before : List ℕ) (new : Sending) (after : List ℕ) → OnOk result (Lays old next payload before new after)
    → IfErr result (λ fault. IsSealRefusal old payload fault × (new ≡ old) × (after ≡ before)) → length before ≤ length after
not_shorter (Ok n) old next payload before new after laid refused = omega (arith, ap length laid.appended ∙ length-append before _)
not_shorter (Err e) old next payload before new after laid refused = omega (arith, ap length refused.2)
