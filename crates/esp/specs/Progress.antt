-- How far a list of payloads came that are sealed, or laid out, in order.
use Rattle.std.specs.Prelude.{◌≡◌, ℕ, ◌+◌, ◌<◌, ◌≤◌, List, [], length, take, drop, get_or, IfSome, IfNone}
use Rattle.esp.specs.declared.progress.Progress.{Progress}
use Rattle.esp.specs.declared.fault.EspFault.TheVariants.{Memory}
use Rattle.esp.specs.Sealing.{IsSealRefusal, most_octets}
use Rattle.esp.specs.Views.{Sending}

-- the list was left at its end, or where the next payload is refused
pub record EndsRightly (payloads : List (List ℕ)) (progress : Progress) (new : Sending) : Type 0 where
  pub all : IfNone progress.refusal (progress.done ≡ length payloads)
  pub some_left : IfSome progress.refusal (λ fault. progress.done < length payloads)
  pub refused : IfSome progress.refusal (λ fault. IsSealRefusal new (get_or payloads progress.done []) fault)

-- The room is used, from so many octets of such a capacity to so many others: memory was wanted only where
-- there was no room for the next packet behind those before it, and no packet took more than it may.
pub record UsesRoom (payloads : List (List ℕ)) (progress : Progress) (before capacity after capacity_after : ℕ) : Type 0 where
  pub memory : IfSome progress.refusal (λ fault. fault ≡ Memory
      → capacity < before + most_octets (take (progress.done + 1) payloads))
  pub kept : capacity ≤ capacity_after
  pub growth : after + most_octets (drop progress.done payloads) ≤ before + most_octets payloads
