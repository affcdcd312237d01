-- The stranger's datagram opens under no keys, is strange, and leaves B as it was.
use Rattle.std.proofs.Common.{◌≡◌, ◌∷◌, false, [], Option, Some, None, ap, arith, refl, subst, sym, ◌∙◌}
use Rattle.std.proofs.lemmas.Bool.{true≢false}
use Rattle.base.specs.Octets.{IsOctet}
use Rattle.wire.specs.Messages.{Spells}
use Rattle.wire.specs.declared.message.Message.{Message}
use Rattle.suite.specs.declared.key_record.KeyRecord.{KeyRecord}
use Rattle.exchange.specs.declared.headers.Role.{Role}
use Rattle.exchange.specs.declared.sealed.Plain.{Plain}
use Rattle.requests.specs.declared.incoming.Judgement.TheVariants as judged
use Rattle.sadb.specs.Database.{Database}
use Rattle.association.specs.Phases.{keys_in}
use Rattle.association.specs.Receiving as receiving
use Rattle.association.specs.Receiving.{opened_by, opened_under, Opening}
use Rattle.association.specs.declared.fault.MessageFault.TheVariants.{NotOpened}
use Rattle.association.specs.declared.phase.Association.{Association}
use Rattle.setup.specs.Configs.{Setup}
use Rattle.effects.specs.Taking.{HasItsEffect, Meaning, TakesMessage}
use Rattle.effects.specs.declared.taking.Effect.TheVariants as effect
use Rattle.ike.specs.Machines.{Held}
use Rattle.ike.specs.Receiving.{is_initial_request}
use Rattle.gateway.specs.Strangers.{CountsForOne, IsStrangeDatagram}
use Rattle.laws_two_ends.specs.WorkedRuns.{run_meaning}
use Rattle.laws_two_ends.proofs.OctetLemmas.{octets_if}
use Rattle.laws_two_ends.proofs.Stages.{probed}
use Rattle.laws_two_ends.proofs.SoundnessLemmas.{OneMessage}
use Rattle.laws_authenticated.specs.WorkedDeletions.{clear_deletion, deletion, deletion_payload}
use Rattle.laws_authenticated.proofs.WorkedDeletionLemmas.{fresh_three, payload_is}

-- ---- the octets

pub clear_spelled : Spells deletion clear_deletion
clear_spelled = record {
  first = 42;
  header = 0 ∷ 0 ∷ 0 ∷ 0 ∷ 0 ∷ 0 ∷ 0 ∷ 1 ∷ 0 ∷ 0 ∷ 0 ∷ 0 ∷ 0 ∷ 0 ∷ 0 ∷ 2 ∷ 42 ∷ 0x20 ∷ 37 ∷ 0x08 ∷ 0 ∷ 0 ∷ 0 ∷ 3 ∷ [];
  payloads = deletion_payload;
  whole = refl;
  head = record {
    flags = 8;
    has_flags = record { low = 0; high = 0; value = refl; low_bits = omega arith; high_bits = omega arith; free = (omega arith, omega arith) };
    spelled = refl;
    spi_i = omega arith;
    spi_r = omega arith;
    minor = omega arith;
    id = omega arith;
  };
  chain = payload_is IsOctet (omega arith);
  limit = omega arith;
  octets = octets_if clear_deletion refl;
}

-- ---- it is strange

pub opens_under_none : (plain_of : Opening) (role : Role) (keys : Option KeyRecord) → opened_under plain_of role keys clear_deletion deletion.payloads ≡ None
opens_under_none plain_of role None = refl
opens_under_none plain_of role (Some keys) = refl

opens_never : (plain_of : Opening) (a : Association) (plain : Plain) → opened_by plain_of a clear_deletion deletion.payloads ≡ Some plain → ⊥
opens_never plain_of a plain opens = let none : None ≡ Some plain = sym (opens_under_none plain_of a.role (keys_in a.phase)) ∙ opens in cc

module _ (one : OneMessage) where
  the_one : (m : Message) → Spells m clear_deletion → m ≡ deletion
  the_one m is = one m deletion clear_deletion is clear_spelled

  counts_never : (plain_of : Opening) (held : Held) → CountsForOne plain_of held clear_deletion → ⊥
  counts_never plain_of held is =
      let same = the_one is.message is.spelled in
      let counts : HasItsEffect false plain_of is.association clear_deletion deletion is.plain =
      subst (λ (m : Message). HasItsEffect m.header.flags.response plain_of is.association clear_deletion m is.plain) same is.counts in
      opens_never plain_of is.association is.plain counts.opened

  pub is_strange : (meaning : Meaning) (held : Held) → IsStrangeDatagram meaning held clear_deletion
  is_strange meaning held = record {
    uncounted = counts_never meaning.plain_of held;
    not_first = λ is. true≢false (sym is.initial ∙ ap (λ (m : Message). is_initial_request m.header) (the_one is.message is.spelled));
    not_awaited = λ is. true≢false (sym is.due.due.response ∙ ap (λ (m : Message). m.header.flags.response) (the_one is.message is.spelled));
  }

-- ---- it is refused

pub clear_takes : (setup : Setup) (table : Database)
    → TakesMessage run_meaning setup probed table clear_deletion deletion (effect.Refused NotOpened) probed table
clear_takes setup table = record {
  reception = receiving.Refused NotOpened;
  received = record { judgement = judged.Fresh; number = fresh_three; whole = refl };
  done = (refl, record { association = refl; pairs = refl });
}
