-- All that lemmas say of tables and of single IKE SAs under other serials.
use Rattle.std.proofs.Common.{◌≡◌, ℕ}
use Rattle.gateway.proofs.ChildRenaming.{TableSteps}
use Rattle.gateway.proofs.FirstRenaming.{answers_auth, ends_auth, reads_response}
use Rattle.gateway.proofs.FurtherRenaming.{answers_further, counts_further}
use Rattle.gateway.proofs.MessageRenaming.{association_laws, MessageLaws}
use Rattle.gateway.proofs.PairRenaming.{pair_laws}
use Rattle.gateway.proofs.RenamedLaws.{RenamedLaws}
use Rattle.gateway.proofs.TableRenaming as table

module _ (r : ℕ → ℕ) (apart : (one other : ℕ) → r one ≡ r other → one ≡ other) where
  table_steps : TableSteps r
  table_steps = record {
    before = λ old new. table.as_before_renamed r old new;
    adds = λ old new pair serial. table.adds_next_renamed r old pair serial new;
    installs = λ old new spi serial pair. table.installs_renamed r old spi pair serial new;
    releases = λ old new spi. table.releases_renamed r old spi new;
    reserves = λ old new spi. table.reserves_renamed r old spi new;
    closes = λ old new before after moment. table.closes_renamed r apart old new before after moment;
  }

  message_laws : MessageLaws r
  message_laws = record {
    answers_auth = λ prover setup old before number plain answer new after. answers_auth r (pair_laws r) table_steps prover setup old new before after number plain answer;
    ends_auth = λ accepts setup old before number plain ended new after. ends_auth r (pair_laws r) table_steps accepts setup old new before after number plain ended;
    answers_further = λ body_of setup old before number plain answer new after. answers_further r (pair_laws r) table_steps body_of setup old new before after number plain answer;
    counts_further = λ setup old before number plain ended new after. counts_further r (pair_laws r) table_steps setup old new before after number plain ended;
    reads = λ asker setup old number octets m came new. reads_response r asker setup old new number octets m came;
  }

  pub renamed_laws : RenamedLaws r
  renamed_laws = record { pairs = pair_laws r; associations = association_laws r apart message_laws }
