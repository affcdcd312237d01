-- With zeros in all that is reserved there is one spelling: of each part, and so of payloads, chains and
-- messages.
use Rattle.std.proofs.Common.{◌≡◌, ℕ, ◌+◌, Bool, cond, List, [], ◌∷◌, ◌++◌, length, Result, Ok, Err, sym, ap, subst, ◌∙◌, inl, inr, arith}
use Rattle.std.proofs.lemmas.List.{length-append}
use Rattle.byteorder.specs.Endian.{big_bytes}
use Rattle.base.specs.declared.selector.Selector.{Selector}
use Rattle.wire.specs.Parts.{IsZero, IsPart, IsMarked, Joins, SpellsEach, SpellsMarked}
use Rattle.wire.specs.Proposals.{SpellsAttribute, SpellsTransform, SpellsProposal}
use Rattle.wire.specs.Selectors.{SpellsSelector, SpellsSelectors}
use Rattle.wire.specs.Fields.{SpellsKe, SpellsTyped, SpellsDelete, SpellsSpi, HasSpiSize}
use Rattle.wire.specs.Payloads.{SpellsPayloads, SpellsPayload, SpellsBody, HasHeader, HasCriticalBit, following}
use Rattle.wire.specs.Messages.{SpellsHeader, SpellsPlainly, Spells, HasFlags}
use Rattle.wire.specs.Refusals.{IsFaultOf}
use Rattle.wire.specs.Writing.{first_type}
use Rattle.wire.specs.declared.fault.WireFault.{WireFault}
use Rattle.wire.specs.declared.message.Flags.{Flags}
use Rattle.wire.specs.declared.message.Header.{Header}
use Rattle.wire.specs.declared.message.Message.{Message}
use Rattle.wire.specs.declared.payload.Payload.{Payload}
use Rattle.wire.specs.declared.payload.Payload.TheVariants.{Sa, Ke, IdI, IdR, Auth, Nonce, Notify, Delete, TsI, TsR, Sealed, Skipped, Unknown}
use Rattle.wire.specs.declared.proposal.Attribute.{Attribute}
use Rattle.wire.specs.declared.proposal.Attribute.TheVariants.{Short, Long}
use Rattle.wire.specs.declared.proposal.Proposal.{Proposal}
use Rattle.wire.specs.declared.proposal.Transform.{Transform}
use Rattle.wire.proofs.MessageReading.{message_again, fault_message}

-- no two lists are spelled so
abbrev IsOne : (List ℕ → Type 0) → Type 0
IsOne Spelled = (x y : List ℕ) → Spelled x → Spelled y → x ≡ y

-- ---- parts, and what stands in a row

one_joined : (Front Rest : List ℕ → Type 0) → IsOne Front → IsOne Rest → IsOne (Joins Front Rest)
one_joined Front Rest one other x y s t =
    s.joined
    ∙ ap (λ (front : List ℕ). front ++ s.rest) (one s.front t.front s.first t.first)
    ∙ ap (λ (rest : List ℕ). t.front ++ rest) (other s.rest t.rest s.others t.others)
    ∙ sym t.joined

one_each : {A : Type 0} (Spelled : A → List ℕ → Type 0) → ((a : A) → IsOne (Spelled a)) → (found : List A) → IsOne (SpellsEach Spelled found)
one_each Spelled one [] x y s t = s ∙ sym t
one_each Spelled one (a ∷ found) x y s t = one_joined (Spelled a) (SpellsEach Spelled found) (one a) (one_each Spelled one found) x y s t

part_of : (first second other : ℕ) (inside content x y : List ℕ) → second ≡ other → inside ≡ content → IsPart first second inside x → IsPart first other content y → x ≡ y
part_of first second other inside content x y same alike s t =
    s.spelled
    ∙ ap (λ (o : ℕ). first ∷ o ∷ big_bytes 2 (4 + length inside) ++ inside) same
    ∙ ap (λ (within : List ℕ). first ∷ other ∷ big_bytes 2 (4 + length within) ++ within) alike
    ∙ sym t.spelled

one_part : (mark : ℕ) (Inside : List ℕ → Type 0) → IsOne Inside → IsOne (IsMarked IsZero mark Inside)
one_part mark Inside one x y s t =
    part_of mark s.reserved t.reserved s.inside t.inside x y (s.free ∙ sym t.free) (one s.inside t.inside s.content t.content) s.part t.part

one_marked : {A : Type 0} (more : ℕ) (Spelled : A → List ℕ → Type 0) → ((a : A) → IsOne (Spelled a)) → (found : List A) → IsOne (SpellsMarked IsZero more Spelled found)
one_marked more Spelled one [] x y s t = absurd s
one_marked more Spelled one (a ∷ []) x y s t = one_part 0 (Spelled a) (one a) x y s t
one_marked more Spelled one (a ∷ b ∷ found) x y s t =
    one_joined (IsMarked IsZero more (Spelled a)) (SpellsMarked IsZero more Spelled (b ∷ found)) (one_part more (Spelled a) (one a)) (one_marked more Spelled one (b ∷ found)) x y s t

-- ---- bodies

one_attribute : (a : Attribute) → IsOne (SpellsAttribute a)
one_attribute (Short kind value) x y s t = s.0 ∙ sym t.0
one_attribute (Long kind value) x y s t = s.0 ∙ sym t.0

one_transform : (a : Transform) → IsOne (SpellsTransform IsZero a)
one_transform a x y s t =
    s.spelled
    ∙ ap (λ (o : ℕ). a.kind ∷ o ∷ big_bytes 2 a.id ++ s.attributes) (s.free ∙ sym t.free)
    ∙ ap (λ (rest : List ℕ). a.kind ∷ t.reserved ∷ big_bytes 2 a.id ++ rest) (one_each SpellsAttribute one_attribute a.attributes s.attributes t.attributes s.each t.each)
    ∙ sym t.spelled

one_proposal : (p : Proposal) → IsOne (SpellsProposal IsZero p)
one_proposal p x y s t =
    s.spelled
    ∙ ap (λ (rest : List ℕ). p.number ∷ p.protocol ∷ length p.spi ∷ length p.transforms ∷ p.spi ++ rest) (one_marked 3 (SpellsTransform IsZero) one_transform p.transforms s.transforms t.transforms s.each t.each)
    ∙ sym t.spelled

one_selector : (a : Selector) → IsOne (SpellsSelector a)
one_selector a x y s t = s.part.spelled ∙ sym t.part.spelled

one_selectors : (found : List Selector) → IsOne (SpellsSelectors IsZero found)
one_selectors found x y s t =
    s.spelled
    ∙ ap (λ (o : ℕ). length found ∷ o ∷ s.reserved_2 ∷ s.reserved_3 ∷ s.selectors) (s.free.0 ∙ sym t.free.0)
    ∙ ap (λ (o : ℕ). length found ∷ t.reserved_1 ∷ o ∷ s.reserved_3 ∷ s.selectors) (s.free.1 ∙ sym t.free.1)
    ∙ ap (λ (o : ℕ). length found ∷ t.reserved_1 ∷ t.reserved_2 ∷ o ∷ s.selectors) (s.free.2 ∙ sym t.free.2)
    ∙ ap (λ (rest : List ℕ). length found ∷ t.reserved_1 ∷ t.reserved_2 ∷ t.reserved_3 ∷ rest) (one_each SpellsSelector one_selector found s.selectors t.selectors s.each t.each)
    ∙ sym t.spelled

one_ke : (group : ℕ) (octets : List ℕ) → IsOne (SpellsKe IsZero group octets)
one_ke group octets x y s t =
    s.spelled
    ∙ ap (λ (o : ℕ). big_bytes 2 group ++ (o ∷ s.reserved_2 ∷ octets)) (s.free.0 ∙ sym t.free.0)
    ∙ ap (λ (o : ℕ). big_bytes 2 group ++ (t.reserved_1 ∷ o ∷ octets)) (s.free.1 ∙ sym t.free.1)
    ∙ sym t.spelled

one_typed : (limit kind : ℕ) (octets : List ℕ) → IsOne (SpellsTyped IsZero limit kind octets)
one_typed limit kind octets x y s t =
    s.spelled
    ∙ ap (λ (o : ℕ). kind ∷ o ∷ s.reserved_2 ∷ s.reserved_3 ∷ octets) (s.free.0 ∙ sym t.free.0)
    ∙ ap (λ (o : ℕ). kind ∷ t.reserved_1 ∷ o ∷ s.reserved_3 ∷ octets) (s.free.1 ∙ sym t.free.1)
    ∙ ap (λ (o : ℕ). kind ∷ t.reserved_1 ∷ t.reserved_2 ∷ o ∷ octets) (s.free.2 ∙ sym t.free.2)
    ∙ sym t.spelled

one_spi : (spi : ℕ) → IsOne (SpellsSpi spi)
one_spi spi x y s t = s.0 ∙ sym t.0

one_size : (protocol m n : ℕ) (spis : List ℕ) → HasSpiSize protocol m spis → HasSpiSize protocol n spis → m ≡ n
one_size protocol m n spis (inl s) (inl t) = s.1 ∙ sym t.1
one_size protocol m n spis (inl s) (inr (inl ah, t)) = absurd (let e : 1 ≡ 2 = sym s.0 ∙ ah in omega arith)
one_size protocol m n spis (inl s) (inr (inr esp, t)) = absurd (let e : 1 ≡ 3 = sym s.0 ∙ esp in omega arith)
one_size protocol m n spis (inr (inl ah, s)) (inl t) = absurd (let e : 1 ≡ 2 = sym t.0 ∙ ah in omega arith)
one_size protocol m n spis (inr (inr esp, s)) (inl t) = absurd (let e : 1 ≡ 3 = sym t.0 ∙ esp in omega arith)
one_size protocol m n spis (inr (is, s)) (inr (also, t)) = s ∙ sym t

one_delete : (protocol : ℕ) (spis : List ℕ) → IsOne (SpellsDelete protocol spis)
one_delete protocol spis x y s t =
    s.spelled
    ∙ ap (λ (o : ℕ). protocol ∷ o ∷ big_bytes 2 (length spis) ++ s.list) (one_size protocol s.size t.size spis s.sized t.sized)
    ∙ ap (λ (rest : List ℕ). protocol ∷ t.size ∷ big_bytes 2 (length spis) ++ rest) (one_each SpellsSpi one_spi spis s.list t.list s.each t.each)
    ∙ sym t.spelled

one_body : (p : Payload) → IsOne (SpellsBody IsZero p)
one_body (Sa proposals) x y s t = one_marked 2 (SpellsProposal IsZero) one_proposal proposals x y s.each t.each
one_body (Ke group octets) x y s t = one_ke group octets x y s t
one_body (IdI kind octets) x y s t = one_typed 256 kind octets x y s t
one_body (IdR kind octets) x y s t = one_typed 256 kind octets x y s t
one_body (Auth method octets) x y s t = one_typed 1024 method octets x y s t
one_body (Nonce octets) x y s t = s.spelled ∙ sym t.spelled
one_body (Notify protocol spi kind octets) x y s t = s.spelled ∙ sym t.spelled
one_body (Delete protocol spis) x y s t = one_delete protocol spis x y s t
one_body (TsI selectors) x y s t = one_selectors selectors x y s t
one_body (TsR selectors) x y s t = one_selectors selectors x y s t
one_body (Sealed first body) x y s t = s ∙ sym t
one_body (Skipped kind octets) x y s t = s ∙ sym t
one_body (Unknown kind critical octets) x y s t = s ∙ sym t

-- ---- payloads and chains

one_critical : (critical : Bool) (m n : ℕ) → HasCriticalBit IsZero critical m → HasCriticalBit IsZero critical n → m ≡ n
one_critical critical m n s t = s.value ∙ ap (λ (o : ℕ). cond critical 128 0 + o) (s.free ∙ sym t.free) ∙ sym t.value

-- the header's second octet
one_second : (p : Payload) (next m n : ℕ) → HasHeader IsZero p next m → HasHeader IsZero p next n → m ≡ n
one_second (Sa proposals) next m n s t = s ∙ sym t
one_second (Ke group octets) next m n s t = s ∙ sym t
one_second (IdI kind octets) next m n s t = s ∙ sym t
one_second (IdR kind octets) next m n s t = s ∙ sym t
one_second (Auth method octets) next m n s t = s ∙ sym t
one_second (Nonce octets) next m n s t = s ∙ sym t
one_second (Notify protocol spi kind octets) next m n s t = s ∙ sym t
one_second (Delete protocol spis) next m n s t = s ∙ sym t
one_second (TsI selectors) next m n s t = s ∙ sym t
one_second (TsR selectors) next m n s t = s ∙ sym t
one_second (Sealed first body) next m n s t = s.1 ∙ sym t.1
one_second (Skipped kind octets) next m n s t = s ∙ sym t
one_second (Unknown kind critical octets) next m n s t = one_critical critical m n s.1 t.1

one_payload : (p : Payload) (next : ℕ) → IsOne (SpellsPayload IsZero p next)
one_payload p next x y s t =
    part_of next s.second t.second s.body t.body x y (one_second p next s.second t.second s.header t.header) (one_body p s.body t.body s.inside t.inside) s.part t.part

chain_type : (t : ℕ) (ps : List Payload) (x : List ℕ) → SpellsPayloads IsZero t ps x → t ≡ first_type ps
chain_type t [] x s = s.0
chain_type t (p ∷ ps) x s = s.0

-- the type that a payload's header names next
abbrev named_next : Payload → List Payload → ℕ
named_next (Sealed first body) ps = first
named_next p ps = first_type ps

next_is : (p : Payload) (ps : List Payload) (next second : ℕ) (x : List ℕ) → HasHeader IsZero p next second → SpellsPayloads IsZero (following p next) ps x → next ≡ named_next p ps
next_is (Sa proposals) ps next second x header rest = chain_type next ps x rest
next_is (Ke group octets) ps next second x header rest = chain_type next ps x rest
next_is (IdI kind octets) ps next second x header rest = chain_type next ps x rest
next_is (IdR kind octets) ps next second x header rest = chain_type next ps x rest
next_is (Auth method octets) ps next second x header rest = chain_type next ps x rest
next_is (Nonce octets) ps next second x header rest = chain_type next ps x rest
next_is (Notify protocol spi kind octets) ps next second x header rest = chain_type next ps x rest
next_is (Delete protocol spis) ps next second x header rest = chain_type next ps x rest
next_is (TsI selectors) ps next second x header rest = chain_type next ps x rest
next_is (TsR selectors) ps next second x header rest = chain_type next ps x rest
next_is (Sealed first body) ps next second x header rest = header.0
next_is (Skipped kind octets) ps next second x header rest = chain_type next ps x rest
next_is (Unknown kind critical octets) ps next second x header rest = chain_type next ps x rest

-- the payload at the front and those behind it, by the type that it names next
abbrev SpellsLink : Payload → List Payload → ℕ → List ℕ → Type 0
SpellsLink p ps next x = Joins (SpellsPayload IsZero p next) (SpellsPayloads IsZero (following p next) ps) x

one_chain : (first other : ℕ) (ps : List Payload) (x y : List ℕ) → SpellsPayloads IsZero first ps x → SpellsPayloads IsZero other ps y → x ≡ y
one_chain first other [] x y s t = s.1 ∙ sym t.1
one_chain first other (p ∷ ps) x y s t =
    let j = s.2 in
    let k = t.2 in
    let same : s.1 ≡ t.1 = next_is p ps s.1 j.first.second j.rest j.first.header j.others ∙ sym (next_is p ps t.1 k.first.second k.rest k.first.header k.others) in
    let moved : SpellsLink p ps t.1 x = subst (λ (next : ℕ). SpellsLink p ps next x) same j in
    one_joined (SpellsPayload IsZero p t.1) (SpellsPayloads IsZero (following p t.1) ps) (one_payload p t.1) (one_chain (following p t.1) (following p t.1) ps) x y moved k

pub one_plain_chain : (first other : ℕ) (ps : List Payload) (x y : List ℕ) → SpellsPayloads IsZero first ps x → SpellsPayloads IsZero other ps y → (first ≡ other) × (x ≡ y)
one_plain_chain first other ps x y s t = (chain_type first ps x s ∙ sym (chain_type other ps y t), one_chain first other ps x y s t)

-- ---- messages

one_flags : (f : Flags) (m n : ℕ) → HasFlags IsZero f m → HasFlags IsZero f n → m ≡ n
one_flags f m n s t =
    let low : s.low ≡ t.low = s.free.0 ∙ sym t.free.0 in
    let high : s.high ≡ t.high = s.free.1 ∙ sym t.free.1 in
    omega (arith, s.value, t.value)

one_header : (h : Header) (first other : ℕ) (x y : List ℕ) → first ≡ other → SpellsHeader IsZero h first x → SpellsHeader IsZero h other y → x ≡ y
one_header h first other x y same s t =
    s.spelled
    ∙ ap (λ (o : ℕ). big_bytes 8 h.spi_i ++ big_bytes 8 h.spi_r ++ (o ∷ (32 + h.minor) ∷ h.exchange ∷ s.flags ∷ big_bytes 4 h.id)) same
    ∙ ap (λ (o : ℕ). big_bytes 8 h.spi_i ++ big_bytes 8 h.spi_r ++ (other ∷ (32 + h.minor) ∷ h.exchange ∷ o ∷ big_bytes 4 h.id)) (one_flags h.flags s.flags t.flags s.has_flags t.has_flags)
    ∙ sym t.spelled

whole_long : (m : Message) (b : List ℕ) (s : SpellsPlainly m b) → length b ≡ 28 + length s.payloads
whole_long m b s =
    let head : length s.header ≡ 24 = ap length s.head.spelled in
    omega (arith, ap length s.whole, length-append (s.header ++ big_bytes 4 (length b)) s.payloads, length-append s.header (big_bytes 4 (length b)), head)

pub one_plain_message : (m : Message) (x y : List ℕ) → SpellsPlainly m x → SpellsPlainly m y → x ≡ y
one_plain_message m x y s t =
    let chain = one_plain_chain s.first t.first m.payloads s.payloads t.payloads s.chain t.chain in
    let behind : s.payloads ≡ t.payloads = chain.1 in
    let long : length x ≡ length y = omega (arith, whole_long m x s, whole_long m y t, ap length behind) in
    s.whole
    ∙ ap (λ (h : List ℕ). h ++ big_bytes 4 (length x) ++ s.payloads) (one_header m.header s.first t.first s.header t.header chain.0 s.head t.head)
    ∙ ap (λ (n : ℕ). t.header ++ big_bytes 4 n ++ s.payloads) long
    ∙ ap (λ (rest : List ℕ). t.header ++ big_bytes 4 (length y) ++ rest) behind
    ∙ sym t.whole

-- what is spelled has no fault
pub spelled_or_faulty : (m : Message) (b : List ℕ) (f : WireFault) → Spells m b → IsFaultOf b f → ⊥
spelled_or_faulty m b f s faulty =
    let read : Result Message WireFault = Ok m in
    let refused : Result Message WireFault = Err f in
    let clash : read ≡ refused = sym (message_again m b s) ∙ fault_message b f s.octets faulty in
    cc
