-- Two ends that read a request and its reply agree on one list of terms, and their SA pairs mirror each
-- other.
use Rattle.std.proofs.Common.{◌≡◌, ℕ, ◌==◌, Bool, true, false, List, [], ◌∷◌, slice_get, Some, refl, sym, ap, subst, ◌∙◌, arith}
use Rattle.std.specs.List.{filter}
use Rattle.byteorder.specs.Endian.{big_number}
use Rattle.base.specs.declared.selector.Selector.{Selector}
use Rattle.wire.specs.declared.payload.Payload.{Payload}
use Rattle.wire.specs.declared.proposal.Proposal.{Proposal}
use Rattle.wire.specs.declared.proposal.Transform.{Transform}
use Rattle.suite.specs.Choice.{sequence_numbers}
use Rattle.exchange.specs.Counting.{only_sa}
use Rattle.exchange.specs.declared.headers.Role.TheVariants.{Initiator, Responder}
use Rattle.esp.specs.declared.sa.Sa.{Sa}
use Rattle.sadb.specs.Mirrors.{Mirrors}
use Rattle.sadb.specs.declared.pair.Pair.{Pair}
use Rattle.children.specs.Pairs.{inbound_of, local_of, outbound_of, remote_of, IsChild}
use Rattle.children.specs.Terms.{AreTermsOf, Terms}
use Rattle.children.proofs.ListLemmas.{one_item}

pub same_numbers : (a b : Bool) → sequence_numbers a ≡ sequence_numbers b → a ≡ b
same_numbers true true is = refl
same_numbers false false is = refl
same_numbers true false is = absurd (let k : 1 ≡ 0 = ap (λ (t : Transform). t.id) is in omega arith)
same_numbers false true is = absurd (let k : 0 ≡ 1 = ap (λ (t : Transform). t.id) is in omega arith)

abbrev terms : ℕ → ℕ → Bool → List Selector → List Selector → Terms
terms i r e ts us = record { spi_i = i; spi_r = r; extended = e; ts_i = ts; ts_r = us }

pub same_terms : (s t : Terms) → s.spi_i ≡ t.spi_i → s.spi_r ≡ t.spi_r → s.extended ≡ t.extended → s.ts_i ≡ t.ts_i → s.ts_r ≡ t.ts_r → s ≡ t
same_terms s t i r e a b =
    ap (λ (x : ℕ). terms x s.spi_r s.extended s.ts_i s.ts_r) i
    ∙ ap (λ (x : ℕ). terms t.spi_i x s.extended s.ts_i s.ts_r) r
    ∙ ap (λ (x : Bool). terms t.spi_i t.spi_r x s.ts_i s.ts_r) e
    ∙ ap (λ (x : List Selector). terms t.spi_i t.spi_r t.extended x s.ts_r) a
    ∙ ap (λ (x : List Selector). terms t.spi_i t.spi_r t.extended t.ts_i x) b

-- of a request with one proposal, that is the one that is answered
asked_one : (request reply : List Payload) (proposal : Proposal) (t : Terms) (x : AreTermsOf request reply t) → only_sa request ≡ Some (proposal ∷ []) → proposal ≡ x.proposal
asked_one request reply proposal t x asked =
    let same : x.offered ≡ proposal ∷ [] = cc (x.request_sa, asked) in
    one_item proposal x.place x.proposal (subst (λ (ps : List Proposal). slice_get ps x.place ≡ Some x.proposal) same x.there)

same_first : (a b : Proposal) → Some (a ∷ []) ≡ Some (b ∷ []) → a ≡ b
same_first a b is = cc

same_list : {X : Type 0} (a b : List X) → Some a ≡ Some b → a ≡ b
same_list a b is = cc

same_lone : (a b : Transform) → a ∷ [] ≡ b ∷ [] → a ≡ b
same_lone a b is = cc

pub one_terms : (request reply : List Payload) (proposal : Proposal) (s t : Terms) → only_sa request ≡ Some (proposal ∷ []) → AreTermsOf request reply s → AreTermsOf request reply t → s ≡ t
one_terms request reply proposal s t asked x y =
    let offered : x.proposal ≡ y.proposal = sym (asked_one request reply proposal s x asked) ∙ asked_one request reply proposal t y asked in
    let answered : x.answer ≡ y.answer = same_first x.answer y.answer (sym x.reply_sa ∙ y.reply_sa) in
    same_terms s t
    (x.spi_i ∙ ap (λ (p : Proposal). big_number 4 p.spi) offered ∙ sym y.spi_i)
    (x.spi_r ∙ ap (λ (p : Proposal). big_number 4 p.spi) answered ∙ sym y.spi_r)
    (same_numbers s.extended t.extended (same_lone (sequence_numbers s.extended) (sequence_numbers t.extended)
    (sym x.numbers ∙ ap (λ (p : Proposal). filter (λ (u : Transform). u.kind == 5) p.transforms) answered ∙ y.numbers)))
    (same_list s.ts_i t.ts_i (sym x.ts_i ∙ y.ts_i))
    (same_list s.ts_r t.ts_r (sym x.ts_r ∙ y.ts_r))

pub children_mirrored : (keys : List (List ℕ)) (request reply : List Payload) (proposal : Proposal) (a b : Pair) → only_sa request ≡ Some (proposal ∷ [])
    → IsChild Initiator keys request reply a → IsChild Responder keys request reply b → Mirrors a b
children_mirrored keys request reply proposal a b asked x y =
    let same : x.terms ≡ y.terms = one_terms request reply proposal x.terms y.terms asked x.agreed y.agreed in
    record {
      inward = x.inbound ∙ ap (λ (t : Terms). inbound_of Initiator keys t) same ∙ sym y.outbound;
      outward = x.outbound ∙ ap (λ (t : Terms). outbound_of Initiator keys t) same ∙ sym y.inbound;
      extension = ap (λ (k : Sa). k.extended) x.inbound ∙ sym (ap (λ (k : Sa). k.extended) x.outbound);
      local = x.local ∙ ap (λ (t : Terms). local_of Initiator t) same ∙ sym y.remote;
      remote = x.remote ∙ ap (λ (t : Terms). remote_of Initiator t) same ∙ sym y.local;
    }
