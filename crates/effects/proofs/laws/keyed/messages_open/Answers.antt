use Rattle.effects.specs.declared.taking.Effect.TheVariants.{Replied}
use Rattle.effects.proofs.OpeningLemmas.{counted_opens, identities_open, replies_open, requests_open, taken_opens}
use Rattle.effects.proofs.laws.keyed.messages_open.Goals as goal

pub returns : goal.returns
returns c =
    record {
      reply = replies_open;
      identity = identities_open;
      requested = requests_open;
      taken = λ meaning setup old table octets m answered new new_table spelled meant is.
          taken_opens meaning old octets m (Replied answered) new spelled meant (c.requests_take_effect.ensures.replied meaning setup old table octets m answered new new_table is);
      counted = counted_opens c.receptions_say_why.ensures.answering;
    }
