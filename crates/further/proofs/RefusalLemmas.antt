-- What a refusal brings about at who asked.
use Rattle.std.proofs.Common.{◌≡◌, ℕ, true, false, List, [], ◌∷◌, Option, Some, refl, subst}
use Rattle.base.specs.Octets.{Octets}
use Rattle.wire.specs.Payloads.{SpellsChain}
use Rattle.wire.specs.declared.payload.Payload.{Payload}
use Rattle.suite.specs.declared.key_record.KeyRecord.{KeyRecord}
use Rattle.exchange.specs.Notices.{payload_of_notice}
use Rattle.exchange.specs.declared.notices.Notice.{Notice}
use Rattle.exchange.specs.declared.notices.Notice.TheVariants.{UnsupportedCriticalPayload, InvalidSyntax, NoProposalChosen, AuthenticationFailed, NoAdditionalSas, TsUnacceptable, Cookie}
use Rattle.exchange.specs.declared.sealed.Plain.{Plain}
use Rattle.children.specs.declared.asking.Asked.{Asked}
use Rattle.further.specs.Concluding.{Concludes, IsConclusion}
use Rattle.further.specs.Deciding.{ends_association}
use Rattle.further.specs.declared.concluding.Conclusion.{Conclusion}
use Rattle.further.specs.declared.concluding.Conclusion.TheVariants as conclusion
use Rattle.further.proofs.ReadingLemmas.{one_read, OneChain}

module _ (blocks ike : ℕ) (keys : KeyRecord) (asked : Asked) (own_nonce : Octets) where
  closed_by : (notice : Notice) (concluded : Conclusion) → ends_association notice ≡ true
      → IsConclusion blocks ike keys asked own_nonce (Some (payload_of_notice notice ∷ [])) concluded → concluded ≡ conclusion.Closes
  closed_by InvalidSyntax conclusion.Closes ends due = refl
  closed_by InvalidSyntax (conclusion.Made pair) ends due = absurd (cc due.stands)
  closed_by InvalidSyntax conclusion.NoChild ends due = absurd (cc due.stands)
  closed_by (UnsupportedCriticalPayload kind) concluded ends due = absurd (cc ends)
  closed_by NoProposalChosen concluded ends due = absurd (cc ends)
  closed_by AuthenticationFailed concluded ends due = absurd (cc ends)
  closed_by NoAdditionalSas concluded ends due = absurd (cc ends)
  closed_by TsUnacceptable concluded ends due = absurd (cc ends)
  closed_by (Cookie octets) concluded ends due = absurd (cc ends)

  without_child : (notice : Notice) (concluded : Conclusion) → ends_association notice ≡ false
      → IsConclusion blocks ike keys asked own_nonce (Some (payload_of_notice notice ∷ [])) concluded → concluded ≡ conclusion.NoChild
  without_child InvalidSyntax concluded ends due = absurd (cc ends)
  without_child notice conclusion.NoChild ends due = refl
  without_child notice (conclusion.Made pair) ends due = absurd (cc due.alone)
  without_child (UnsupportedCriticalPayload kind) conclusion.Closes ends due = absurd (cc due)
  without_child NoProposalChosen conclusion.Closes ends due = absurd (cc due)
  without_child AuthenticationFailed conclusion.Closes ends due = absurd (cc due)
  without_child NoAdditionalSas conclusion.Closes ends due = absurd (cc due)
  without_child TsUnacceptable conclusion.Closes ends due = absurd (cc due)
  without_child (Cookie octets) conclusion.Closes ends due = absurd (cc due)

  due_on : OneChain → (notice : Notice) (plain : Plain) (concluded : Conclusion) → SpellsChain plain.first (payload_of_notice notice ∷ []) plain.octets
      → Concludes blocks ike keys asked own_nonce plain concluded → IsConclusion blocks ike keys asked own_nonce (Some (payload_of_notice notice ∷ [])) concluded
  due_on chain notice plain concluded spelled is =
      let read : is.payloads ≡ Some (payload_of_notice notice ∷ []) = one_read chain plain is.payloads (Some (payload_of_notice notice ∷ [])) is.read spelled in
      subst (λ (p : Option (List Payload)). IsConclusion blocks ike keys asked own_nonce p concluded) read is.due

  pub told_to_close : OneChain → (notice : Notice) (plain : Plain) (concluded : Conclusion) → ends_association notice ≡ true
      → SpellsChain plain.first (payload_of_notice notice ∷ []) plain.octets → Concludes blocks ike keys asked own_nonce plain concluded → concluded ≡ conclusion.Closes
  told_to_close chain notice plain concluded ends spelled is = closed_by notice concluded ends (due_on chain notice plain concluded spelled is)

  pub told_no_child : OneChain → (notice : Notice) (plain : Plain) (concluded : Conclusion) → ends_association notice ≡ false
      → SpellsChain plain.first (payload_of_notice notice ∷ []) plain.octets → Concludes blocks ike keys asked own_nonce plain concluded → concluded ≡ conclusion.NoChild
  told_no_child chain notice plain concluded ends spelled is = without_child notice concluded ends (due_on chain notice plain concluded spelled is)
