-- From what the readers of the code give to what the public calls promise.
use Rattle.std.proofs.Common.{◌≡◌, ◌≢◌, ℕ, ◌+◌, ◌-◌, ◌<◌, false, List, length, Result, Ok, Err, refl, sym, ap, subst, ◌∙◌, inl, inr, ◌⊎◌, arith}
use Rattle.std.specs.Prelude.{IfOk, IfErr, IsOk}
use Rattle.base.specs.Octets.{AreOctets}
use Rattle.wire.specs.Payloads.{SpellsChain}
use Rattle.wire.specs.Messages.{Spells}
use Rattle.wire.specs.Refusals.{IsFaultAt, IsFaultOf, IsChainFault, IsUnlessMemory}
use Rattle.wire.specs.Reading.{Answers, message_of, chain_at}
use Rattle.wire.specs.declared.message.Message.{Message}
use Rattle.wire.specs.declared.payload.Payload.{Payload}
use Rattle.wire.specs.declared.fault.WireFault.{WireFault}
use Rattle.wire.specs.declared.fault.WireFault.TheVariants as faults
use Rattle.std.proofs.lemmas.List.{length-append}
use Rattle.wire.proofs.Links.{err_is}
use Rattle.wire.proofs.ChainReading.{chain_takes, chain_again, chain_fault, fault_again}
use Rattle.wire.proofs.MessageReading.{message_takes, message_fault}

pub memory_or : (f : WireFault) → (f ≡ faults.Memory) ⊎ (f ≢ faults.Memory)
memory_or faults.Short = inr (λ e. cc)
memory_or faults.BadLength = inr (λ e. cc)
memory_or faults.BadVersion = inr (λ e. cc)
memory_or (faults.BadChain at) = inr (λ e. cc)
memory_or (faults.BadProposal at) = inr (λ e. cc)
memory_or (faults.BadSelector at) = inr (λ e. cc)
memory_or (faults.BadNonce at) = inr (λ e. cc)
memory_or (faults.BadField at) = inr (λ e. cc)
memory_or faults.TooLong = inr (λ e. cc)
memory_or faults.Memory = inl refl

pub only_unless : {Y : Type 0} (r read : Result Y WireFault) (y : Y) → Answers (λ x. x) r read → read ≡ Ok y → IsUnlessMemory r (Ok y)
only_unless (Ok x) read y a e = inl (sym a ∙ e)
only_unless (Err g) read y a e = elim (memory_or g) [ inl is ↦ inr (ap (λ (h : WireFault). Err h) is) | inr other ↦ absurd (clash (sym e ∙ a other)) ] where
  clash : Ok y ≡ Err g → ⊥
  clash q = cc

pub fault_unless : {X Y : Type 0} (view : X → Y) (r : Result X WireFault) (read : Result Y WireFault) (f : WireFault) → Answers view r read → read ≡ Err f → IsUnlessMemory r (Err f)
fault_unless {Y = Y} view (Ok x) read f a e = absurd (clash (sym a ∙ e)) where
  clash : {B : Type 0} {y : B} → Ok y ≡ Err f → ⊥
  clash q = cc
fault_unless {Y = Y} view (Err g) read f a e = elim (memory_or g) [ inl is ↦ inr (ap (λ (h : WireFault). Err h) is) | inr other ↦ inl (ap (λ (h : WireFault). Err h) (err_is {A = Y} g f (sym (a other) ∙ e))) ]

-- ---- messages

pub message_found : (b : List ℕ) (r : Result Message WireFault) → AreOctets b → Answers (λ x. x) r (message_of b) → IfOk r (λ m. Spells m b)
message_found b (Ok m) fits a = message_takes b m fits a
message_found b (Err f) fits a = tt

pub message_refused : (b : List ℕ) (r : Result Message WireFault) → AreOctets b → Answers (λ x. x) r (message_of b) → IfErr r (λ f. f ≢ faults.Memory → IsFaultOf b f)
message_refused b (Ok m) fits a = tt
message_refused b (Err f) fits a = λ other. message_fault b f fits (a other)

refused_is_none : (Y : Type 0) (f : WireFault) → IsOk {T = Y} {E = WireFault} (Err f) → ⊥
refused_is_none Y f ok = cc

-- where memory is wanted for what is read alone, a fault is told
pub fault_told : {Y : Type 0} (r read : Result Y WireFault) (f : WireFault) → Answers (λ x. x) r read → (r ≡ Err faults.Memory → IsOk read) → read ≡ Err f → r ≡ Err f
fault_told {Y = Y} r read f a allowed e =
    elim (fault_unless (λ x. x) r read f a e) [ inl is ↦ is | inr memory ↦ absurd (refused_is_none Y f (subst (λ (q : Result Y WireFault). IsOk q) e (allowed memory))) ]

pub message_wanted : (b : List ℕ) (r : Result Message WireFault) → AreOctets b → (r ≡ Err faults.Memory → IsOk (message_of b)) → r ≡ Err faults.Memory → (m : Message) × Spells m b
message_wanted b r fits allowed memory = go (message_of b) refl (allowed memory) where
  go : (read : Result Message WireFault) → message_of b ≡ read → IsOk read → (m : Message) × Spells m b
  go (Ok m) e ok = (m, message_takes b m fits e)
  go (Err f) e ok = absurd cc

pub message_or_fault : (b : List ℕ) → AreOctets b → ((m : Message) × Spells m b) ⊎ ((f : WireFault) × IsFaultOf b f)
message_or_fault b fits = go (message_of b) refl where
  go : (read : Result Message WireFault) → message_of b ≡ read → ((m : Message) × Spells m b) ⊎ ((f : WireFault) × IsFaultOf b f)
  go (Ok m) e = inl (m, message_takes b m fits e)
  go (Err f) e = inr (f, message_fault b f fits e)

-- ---- chains

abbrev whole_chain : ℕ → List ℕ → Result (List Payload) WireFault
whole_chain first b = chain_at false (length b) (length b) first b

chain_spelled : (first : ℕ) (b : List ℕ) (ps : List Payload) → first < 256 → AreOctets b → whole_chain first b ≡ Ok ps → SpellsChain first ps b
chain_spelled first b ps small fits e =
    let t = chain_takes false (length b) (length b) first b ps small fits e in
    record { clear = t.1; payloads = t.0; octets = fits }

chain_read : (first : ℕ) (b : List ℕ) (ps : List Payload) → SpellsChain first ps b → whole_chain first b ≡ Ok ps
chain_read first b ps s = chain_again false (length b) (length b) first ps b (omega arith) s.clear s.payloads

pub chain_found : (first : ℕ) (b : List ℕ) (r : Result (List Payload) WireFault) → first < 256 → AreOctets b → Answers (λ x. x) r (whole_chain first b) → IfOk r (λ ps. SpellsChain first ps b)
chain_found first b (Ok ps) small fits a = chain_spelled first b ps small fits a
chain_found first b (Err f) small fits a = tt

pub chain_only : (first : ℕ) (b : List ℕ) (r : Result (List Payload) WireFault) (ps : List Payload) → Answers (λ x. x) r (whole_chain first b) → SpellsChain first ps b → IsUnlessMemory r (Ok ps)
chain_only first b r ps a s = only_unless r (whole_chain first b) ps a (chain_read first b ps s)

chain_at_fault : (first : ℕ) (b : List ℕ) (f : WireFault) → first < 256 → AreOctets b → whole_chain first b ≡ Err f → IsChainFault false 0 first b f
chain_at_fault first b f small fits e =
    let c = chain_fault false (length b) (length b) first b f (omega arith) small fits e in
    let at : length b - length c.rest ≡ 0 + length c.front = omega (arith, ap length c.joined, length-append c.front c.rest) in
    record { payloads = c.payloads; kind = c.named; front = c.front; rest = c.rest; joined = c.joined; leads = c.leads; here = subst (λ (n : ℕ). IsFaultAt false c.named c.rest n f) at c.here }

chain_reads_fault : (first : ℕ) (b : List ℕ) (f : WireFault) → first < 256 → AreOctets b → IsChainFault false 0 first b f → whole_chain first b ≡ Err f
chain_reads_fault first b f small fits c =
    let at : 0 + length c.front ≡ length b - length c.rest = omega (arith, ap length c.joined, length-append c.front c.rest) in
    fault_again false (length b) (length b) first c.payloads c.kind c.front c.rest b f (omega arith) small fits c.joined c.leads (subst (λ (n : ℕ). IsFaultAt false c.kind c.rest n f) at c.here)

pub chain_refused : (first : ℕ) (b : List ℕ) (r : Result (List Payload) WireFault) → first < 256 → AreOctets b → Answers (λ x. x) r (whole_chain first b) → IfErr r (λ f. f ≢ faults.Memory → IsChainFault false 0 first b f)
chain_refused first b (Ok ps) small fits a = tt
chain_refused first b (Err f) small fits a = λ other. chain_at_fault first b f small fits (a other)

pub chain_first_fault : (first : ℕ) (b : List ℕ) (r : Result (List Payload) WireFault) (f : WireFault) → first < 256 → AreOctets b → Answers (λ x. x) r (whole_chain first b)
    → (r ≡ Err faults.Memory → IsOk (whole_chain first b)) → IsChainFault false 0 first b f → r ≡ Err f
chain_first_fault first b r f small fits a allowed c = fault_told r (whole_chain first b) f a allowed (chain_reads_fault first b f small fits c)

pub chain_or_fault : (first : ℕ) (b : List ℕ) → first < 256 → AreOctets b → ((ps : List Payload) × SpellsChain first ps b) ⊎ ((f : WireFault) × IsChainFault false 0 first b f)
chain_or_fault first b small fits = go (whole_chain first b) refl where
  go : (read : Result (List Payload) WireFault) → whole_chain first b ≡ read → ((ps : List Payload) × SpellsChain first ps b) ⊎ ((f : WireFault) × IsChainFault false 0 first b f)
  go (Ok ps) e = inl (ps, chain_spelled first b ps small fits e)
  go (Err f) e = inr (f, chain_at_fault first b f small fits e)

pub chain_not_both : (first : ℕ) (ps : List Payload) (b : List ℕ) (f : WireFault) → first < 256 → SpellsChain first ps b → IsChainFault false 0 first b f → ⊥
chain_not_both first ps b f small s c = clash (sym (chain_read first b ps s) ∙ chain_reads_fault first b f small s.octets c) where
  clash : Ok ps ≡ Err f → ⊥
  clash q = cc

pub chain_wanted : (first : ℕ) (b : List ℕ) (r : Result (List Payload) WireFault) → first < 256 → AreOctets b → (r ≡ Err faults.Memory → IsOk (whole_chain first b)) → r ≡ Err faults.Memory → (ps : List Payload) × SpellsChain first ps b
chain_wanted first b r small fits allowed memory = go (whole_chain first b) refl (allowed memory) where
  go : (read : Result (List Payload) WireFault) → whole_chain first b ≡ read → IsOk read → (ps : List Payload) × SpellsChain first ps b
  go (Ok ps) e ok = (ps, chain_spelled first b ps small fits e)
  go (Err f) e ok = absurd cc
