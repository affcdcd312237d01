-- An IKE SA that is found is sound; and keys that come with a request come with that of number 1.
use Rattle.std.proofs.Common.{◌≡◌, ℕ, suc, Bool, true, false, List, [], ◌∷◌, Option, Some, None, Result, Ok, Err, slice_get, cond, inl, inr, sym, ap, ◌∙◌}
use Rattle.std.specs.List.{find, position}
use Rattle.base.specs.Octets.{Octets}
use Rattle.wire.specs.declared.message.Message.{Message}
use Rattle.sadb.specs.Database.{Database}
use Rattle.sa_init.specs.Cookies.{CookieSecrets}
use Rattle.sa_init.specs.Judging.{Accepted, Answered, Full, Incomplete, JudgementView}
use Rattle.association.specs.Finding.{place_meant}
use Rattle.association.specs.declared.fault.MessageFault.{MessageFault}
use Rattle.association.specs.declared.phase.Association.{Association}
use Rattle.setup.specs.Configs.{Setup}
use Rattle.effects.specs.Lengths.{HoldsWholeKeys}
use Rattle.effects.specs.Taking.{Meaning}
use Rattle.effects.specs.declared.taking.Effect.{Effect}
use Rattle.effects.specs.declared.taking.Effect.TheVariants as effect
use Rattle.ike.specs.Lengths.{HoldWholeKeys}
use Rattle.ike.specs.Machines.{association_of, has_serial, Held, Machine}
use Rattle.ike.specs.Outputs.{plain_step, request_mark, stepped_of}
use Rattle.ike.specs.Receiving.{is_answered, is_initial_request, is_sound_initial, DoesJudgement, TakesDatagram, TakesFound, TakesRead, TakesRequestAt, TakesSound}
use Rattle.ike.specs.Soundness.{IsSound, IsSoundMachine}
use Rattle.ike.specs.declared.output.IkeOutput.{IkeOutput}
use Rattle.ike.specs.declared.output.IkeOutput.TheVariants as output
use Rattle.ike.specs.declared.output.Stepped.{Stepped}

none_some : {T : Type 0} (x : T) → None ≡ Some x → ⊥
none_some {T} x is = cc

-- ---- what is found stands at a place

record Placed (xs : List Association) (a : Association) : Type 0 where
  place : ℕ
  at : slice_get xs place ≡ Some a

placed_in : (b : Bool) (x a : Association) (xs : List Association) (found : Option Association) → (found ≡ Some a → Placed xs a) → cond b (Some x) found ≡ Some a → Placed (x ∷ xs) a
placed_in true x a xs found rest is = record { place = 0; at = is }
placed_in false x a xs found rest is = let later = rest is in record { place = suc later.place; at = later.at }

placed : (p : Association → Bool) (xs : List Association) (a : Association) → find p xs ≡ Some a → Placed xs a
placed p [] a is = absurd cc
placed p (x ∷ xs) a is = placed_in (p x) x a xs (find p xs) (placed p xs a) is

pub sound_at : (machine : Machine) (table : Database) (serial : ℕ) (a : Association) → IsSoundMachine machine table → association_of serial machine.held.associations ≡ Some a → IsSound a machine.held.next table
sound_at machine table serial a sound there =
    let is = placed (has_serial serial) machine.held.associations a there in
    sound.held.each is.place a is.at

pub whole_at : (held : Held) (serial : ℕ) (a : Association) → HoldWholeKeys held → association_of serial held.associations ≡ Some a → HoldsWholeKeys a.phase
whole_at held serial a whole there =
    let is = placed (has_serial serial) held.associations a there in
    whole is.place a is.at

-- ---- keys that come with a request: that is the one of number 1

abbrev IsAsked : ℕ → Octets → Stepped → Type 0
IsAsked serial next stepped = stepped.output ≡ output.Request serial next → stepped.trace.keyed ≡ Some serial → stepped.trace.sent ≡ request_mark serial 1

plain_not : (serial : ℕ) (next : Octets) (o : IkeOutput) (stepped : Stepped) → stepped ≡ plain_step o → IsAsked serial next stepped
plain_not serial next o stepped is said keyed = absurd (none_some serial (sym (ap (λ (x : Stepped). x.trace.keyed) is) ∙ keyed))

reply_not : (serial : ℕ) (next : Octets) (octets : Octets) (closed : Option ℕ) (stepped : Stepped) → stepped.output ≡ output.Reply octets closed → IsAsked serial next stepped
reply_not serial next octets closed stepped is said keyed = absurd (let e : output.Reply octets closed ≡ output.Request serial next = sym is ∙ said in cc)

effect_asked : (serial own number : ℕ) (next : Octets) (e : Effect) (stepped : Stepped) → stepped ≡ stepped_of own number e → IsAsked serial next stepped
effect_asked serial own number next (effect.Refused f) stepped is = plain_not serial next _ stepped is
effect_asked serial own number next (effect.Repeated octets) stepped is = λ said keyed. absurd (none_some serial (sym (ap (λ (x : Stepped). x.trace.keyed) is) ∙ keyed))
effect_asked serial own number next (effect.Replied answered) stepped is = λ said keyed. absurd (none_some serial (sym (ap (λ (x : Stepped). x.trace.keyed) is) ∙ keyed))
effect_asked serial own number next (effect.Again octets) stepped is = plain_not serial next _ stepped is
effect_asked serial own number next (effect.AsksAuth octets) stepped is = λ said keyed.
    let same : output.Request own octets ≡ output.Request serial next = sym (ap (λ (x : Stepped). x.output) is) ∙ said in
    let own_is : own ≡ serial = cc in
    ap (λ (x : Stepped). x.trace.sent) is ∙ ap (λ (k : ℕ). request_mark k 1) own_is
effect_asked serial own number next (effect.Counted ended) stepped is = λ said keyed. absurd (none_some serial (sym (ap (λ (x : Stepped). x.trace.keyed) is) ∙ keyed))

module _ (meaning : Meaning) (setup : Setup) (cookies : CookieSecrets) (from octets : Octets) (m : Message) (old : Held) (table : Database) (stepped : Stepped) (new : Held) (new_table : Database) (serial : ℕ) (next : Octets) where
  judgement_asked : (j : JudgementView) → DoesJudgement meaning setup m.header.spi_i octets j old stepped new → IsAsked serial next stepped
  judgement_asked (Answered notice) is = plain_not serial next _ stepped is.0.said
  judgement_asked Incomplete is = plain_not serial next _ stepped is.said
  judgement_asked Full is = plain_not serial next _ stepped is.said
  judgement_asked (Accepted offer) is = elim is.done [
    | inl refused ↦ plain_not serial next _ stepped refused.1.said
    | inr admits ↦ reply_not serial next admits.admitted.octets None stepped (ap (λ (x : Stepped). x.output) admits.said)
  ]

  request_asked : (o : Option ℕ) → TakesRequestAt o meaning setup cookies from octets m old stepped new → IsAsked serial next stepped
  request_asked (Some place) is = plain_not serial next _ stepped is.0.said
  request_asked None is = judgement_asked is.judgement is.done

  sound_asked : (b : Bool) → TakesSound b meaning setup cookies from octets m old stepped new → IsAsked serial next stepped
  sound_asked true is = request_asked (position (is_answered octets) old.associations) is
  sound_asked false is = plain_not serial next _ stepped is.said

  found_asked : (r : Result ℕ MessageFault) → TakesFound r meaning setup octets m old table stepped new new_table → IsAsked serial next stepped
  found_asked (Ok place) is = effect_asked serial is.association.serial m.header.id next is.effect stepped is.said
  found_asked (Err f) is = plain_not serial next _ stepped is.0.said

  read_asked : (b : Bool) → TakesRead b meaning setup cookies from octets m old table stepped new new_table → IsAsked serial next stepped
  read_asked true is = sound_asked (is_sound_initial m.header) is.0
  read_asked false is = found_asked (place_meant m.header old.associations) is

pub datagram_asked : (meaning : Meaning) (setup : Setup) (cookies : CookieSecrets) (from octets : Octets) (old : Held) (table : Database) (stepped : Stepped) (new : Held) (new_table : Database) (serial : ℕ) (next : Octets)
    → TakesDatagram meaning setup cookies from octets old table stepped new new_table → IsAsked serial next stepped
datagram_asked meaning setup cookies from octets old table stepped new new_table serial next (inl fails) = plain_not serial next _ stepped fails.passed.said
datagram_asked meaning setup cookies from octets old table stepped new new_table serial next (inr reads) =
    read_asked meaning setup cookies from octets reads.message old table stepped new new_table serial next (is_initial_request reads.message.header) reads.done
