-- What goes out without a mark goes in clear.
use Rattle.std.proofs.Common.{◌≡◌, inl, inr, ℕ, List, Option, Some, None, ap, refl, subst, sym, ◌∙◌}
use Rattle.std.specs.Prelude.{option_and_then}
use Rattle.base.specs.Octets.{Octets}
use Rattle.policy.specs.declared.entry.Entry.{Entry}
use Rattle.wire.specs.Messages.{SpellsPlainly}
use Rattle.wire.specs.declared.message.Message.{Message}
use Rattle.sadb.specs.Database.{Database}
use Rattle.association.specs.Phases.{keys_in}
use Rattle.association.specs.declared.phase.Association.{Association}
use Rattle.sa_init.specs.Messages.{answer_message}
use Rattle.setup.specs.Configs.{Setup}
use Rattle.effects.specs.Taking.{Meaning, KeepsIdentity, TakesMessage}
use Rattle.effects.specs.declared.taking.Effect.{Effect}
use Rattle.effects.specs.declared.taking.Effect.TheVariants as effect
use Rattle.ike.specs.Machines.{association_of, keys_of_serial, Held, Machine}
use Rattle.ike.specs.Outputs.{octets_in, plain_step, stepped_of}
use Rattle.ike.specs.Soundness.{AreSound, IsSoundMachine}
use Rattle.ike.specs.Steps.{InputView, Steps}
use Rattle.ike.specs.Tracing.{IsInClear}
use Rattle.ike.specs.declared.output.IkeOutput.{IkeOutput}
use Rattle.ike.specs.declared.output.IkeOutput.TheVariants as output
use Rattle.ike.specs.declared.output.Mark.{Mark}
use Rattle.ike.specs.declared.output.Stepped.{Stepped}
use Rattle.ike.proofs.MoveLemmas.{at_changed, at_grown}
use Rattle.ike.proofs.WayLemmas.{admitted, probed, rested, started, step_way, took, GoesOut, Takes, Way}

pub record ClearLaws : Type 0 where
  pub itself : (meaning : Meaning) (setup : Setup) (old : Association) (table : Database) (octets : Octets) (m : Message) (e : Effect) (new : Association) (new_table : Database)
      → TakesMessage meaning setup old table octets m e new new_table → KeepsIdentity old new
  pub again : (meaning : Meaning) (setup : Setup) (old : Association) (table : Database) (octets : Octets) (m : Message) (next : Octets) (new : Association) (new_table : Database)
      → TakesMessage meaning setup old table octets m (effect.Again next) new new_table → keys_in new.phase ≡ None

-- what is said of a step that marks nothing and sends something
abbrev Clear : Held → Stepped → Held → Type 0
Clear old stepped new = (octets : Octets) → stepped.trace.sent ≡ None → octets_in stepped.output ≡ Some octets → IsInClear old stepped.trace.keyed new stepped.output

some_mark : (mark : Mark) → Some mark ≡ None → ⊥
some_mark mark is = cc

no_octets : (octets : Octets) → None ≡ Some octets → ⊥
no_octets octets is = cc

rested_clear : (old new : Held) (said : IkeOutput) → GoesOut old said → new ≡ old → Clear old (plain_step said) new
rested_clear old new (output.Reply octets None) goes same = λ sent none out. (goes.0, refl, inl same)
rested_clear old new (output.Reply octets (Some closed)) goes same = absurd goes
rested_clear old new (output.Repeat octets) goes same = λ sent none out. record { place = goes.place; association = goes.association; there = goes.there; kept = goes.kept }
rested_clear old new (output.Request ike octets) goes same = absurd goes
rested_clear old new (output.Counted ike child closed) goes same = absurd goes
rested_clear old new (output.Ticked ticked) goes same = absurd goes
rested_clear old new output.Done goes same = λ sent none out. absurd (no_octets sent out)
rested_clear old new (output.Dropped f) goes same = λ sent none out. absurd (no_octets sent out)

-- the keys under a serial, by the IKE SA that stands there
keys_there : (new : Held) (serial : ℕ) (a : Association) → association_of serial new.associations ≡ Some a → keys_in a.phase ≡ None → keys_of_serial serial new.associations ≡ None
keys_there new serial a there none = ap (λ (o : Option Association). option_and_then (λ (x : Association). keys_in x.phase) o) there ∙ none

effect_clear : (old new : Held) (serial number : ℕ) (e : Effect) → ((next : Octets) → e ≡ effect.Again next → keys_of_serial serial new.associations ≡ None) → Clear old (stepped_of serial number e) new
effect_clear old new serial number (effect.Refused f) unkeyed = λ sent none out. absurd (no_octets sent out)
effect_clear old new serial number (effect.Repeated octets) unkeyed = λ sent none out. absurd (some_mark _ none)
effect_clear old new serial number (effect.Replied answered) unkeyed = λ sent none out. absurd (some_mark _ none)
effect_clear old new serial number (effect.Again next) unkeyed = λ sent none out. unkeyed next refl
effect_clear old new serial number (effect.AsksAuth next) unkeyed = λ sent none out. absurd (some_mark _ none)
effect_clear old new serial number (effect.Counted ended) unkeyed = λ sent none out. absurd (no_octets sent out)

took_clear : (laws : ClearLaws) (meaning : Meaning) (setup : Setup) (octets : Octets) (old : Held) (table : Database) (stepped : Stepped) (new : Held) (new_table : Database)
    → AreSound old table → Takes meaning setup octets old table stepped new new_table → Clear old stepped new
took_clear laws meaning setup octets old table stepped new new_table sound is =
    let t = is.takes in
    let a = t.association in
    let stays = laws.itself meaning setup a table octets is.message t.effect t.changed new_table t.takes in
    let unkeyed : (next : Octets) → t.effect ≡ effect.Again next → keys_of_serial a.serial new.associations ≡ None = λ next again.
    elim (at_changed old table is.place a t.changed new a.serial sound t.there stays.serial t.content) [
      | inl (here, before, after) ↦ keys_there new a.serial t.changed after
          (laws.again meaning setup a table octets is.message next t.changed new_table (subst (λ (e : Effect). TakesMessage meaning setup a table octets is.message e t.changed new_table) again t.takes))
      | inr (apart, same) ↦ absurd (apart refl)
    ] in
    subst (λ (s : Stepped). Clear old s new) (sym t.said) (effect_clear old new a.serial is.message.header.id t.effect unkeyed)

way_clear : (laws : ClearLaws) (meaning : Meaning) (setup : Setup) (octets : Octets) (old : Held) (table : Database) (stepped : Stepped) (new : Held) (new_table : Database)
    → AreSound old table → Way meaning setup octets old table stepped new new_table → Clear old stepped new
way_clear laws meaning setup octets old table stepped new new_table sound (rested is) = subst (λ (s : Stepped). Clear old s new) (sym is.is) (rested_clear old new is.said is.goes is.same)
way_clear laws meaning setup octets old table stepped new new_table sound (took is) = took_clear laws meaning setup octets old table stepped new new_table sound is
way_clear laws meaning setup octets old table stepped new new_table sound (admitted is) = subst (λ (s : Stepped). Clear old s new) (sym is.admits.said)
    (λ sent none out. (
      record {
        message = answer_message meaning.cipher meaning.group (meaning.public_value setup.fresh.secret) is.offer.chosen setup.fresh.nonce is.spi_i setup.fresh.spi;
        spelled =
            subst (λ (o : Octets). SpellsPlainly (answer_message meaning.cipher meaning.group (meaning.public_value setup.fresh.secret) is.offer.chosen setup.fresh.nonce is.spi_i setup.fresh.spi) o)
            (sym is.admits.admits.octets) is.admits.admits.answer.spelled;
        exchange = refl;
        response = refl;
      },
      refl,
      inr refl,
    ))
way_clear laws meaning setup octets old table stepped new new_table sound (started is) =
    let s = is.starts in
    subst (λ (x : Stepped). Clear old x new) (sym s.done.said) (λ sent none out.
    elim (at_grown old table _ new old.next sound refl s.done.content) [
      | inl (here, before, after) ↦ keys_there new old.next _ after refl
      | inr (apart, same) ↦ absurd (apart refl)
    ])
way_clear laws meaning setup octets old table stepped new new_table sound (probed is) = subst (λ (s : Stepped). Clear old s new) (sym is.probes.said) (λ sent none out. absurd (some_mark _ none))

pub step_clear : ClearLaws → (meaning : Meaning) (entries : List Entry) (input : InputView) (old : Machine) (table : Database) (stepped : Stepped) (new : Machine) (new_table : Database) (octets : Octets)
    → IsSoundMachine old table → Steps meaning entries input old table stepped new new_table → stepped.trace.sent ≡ None → octets_in stepped.output ≡ Some octets → IsInClear old.held stepped.trace.keyed new.held stepped.output
step_clear laws meaning entries input old table stepped new new_table octets sound is none out = elim (step_way meaning entries input old table stepped new new_table is) [
  | inl w ↦ way_clear laws meaning w.setup w.octets old.held table stepped new.held new_table sound.held w.way octets none out
  | inr passes ↦ absurd (no_octets octets (sym (ap (λ (s : Stepped). octets_in s.output) passes.takes.said) ∙ out))
]
