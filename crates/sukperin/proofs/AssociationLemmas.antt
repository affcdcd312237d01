-- How long a sealed packet is, and where in a packet that is opened its payload stands.
use Rattle.std.proofs.Common.{◌≡◌, ℕ, zero, suc, ◌+◌, ◌-◌, ◌%◌, ◌<◌, ◌≤◌, List, [], ◌∷◌, ◌++◌, length, take, drop, refl, sym, ap, ◌∙◌, subst, arith, length-append}
use Rattle.std.proofs.lemmas.List.{append_assoc, take_at, drop_at}
use Rattle.mac.proofs.HmacLemmas.{length-icv_sha256}
use Rattle.esp.proofs.PacketLemmas.{length-head}
use Rattle.esp.specs.Opening.{HandsUp}
use Rattle.esp.specs.Packet.{head, padding, packet, trailer, check_value, IsPacket, IsContents}
use Rattle.esp.specs.Sealing.{IsShortestPacket, Seals}
use Rattle.esp.specs.Views.{Receiving, Sending}
use Rattle.esp.specs.declared.sa.Sa.{Sa}
use Rattle.sukperin.specs.Associations.{OpensAt}
use Rattle.sukperin.specs.declared.simplex.SukOpened.{SukOpened}

length-padding : (p : ℕ) → length (padding p) ≡ p
length-padding zero = refl
length-padding (suc p) = length-append (padding p) (suc p ∷ []) ∙ (let e = length-padding p in omega arith)

-- the shortest packet has less than a word of padding
length-shortest : (a : Sa) (n next : ℕ) (payload b : List ℕ) → IsShortestPacket a n next payload b → length b ≤ length payload + 29
length-shortest a n next payload b s =
    let q : ℕ = (4 - (length payload + 2) % 4) % 4 in
    let few : s.p ≤ q = s.shortest q (packet a n next payload q) (record { octets = refl; aligned = omega arith; one_octet = omega arith; fits = s.packet.fits }) in
    let covered : List ℕ = head a n ++ payload ++ trailer s.p next in
    let whole : length b ≡ length covered + 16 =
    ap length s.packet.octets ∙ length-append covered (check_value a n covered) ∙ ap (λ (k : ℕ). length covered + k) (length-icv_sha256 a.key _)
    in
    let l = length-append (head a n ++ payload) (trailer s.p next) in
    let k = length-append (head a n) payload in
    let h = length-head a n in
    let t = length-append (padding s.p) (s.p ∷ next ∷ []) in
    let r = length-padding s.p in
    omega arith

pub length_sealed : (old new : Sending) (next n : ℕ) (payload after : List ℕ) → Seals old next payload [] n new after → length after ≤ length payload + 29
length_sealed old new next n payload after s =
    let few = length-shortest old.association n next payload s.packet s.shortest in
    let same : length after ≡ length s.packet = ap length s.appended in
    omega arith

-- the payload stands behind the eight octets of the head
pub opens_at : (old new : Receiving) (b payload : List ℕ) (n next told : ℕ) → told ≡ next → HandsUp old b n next payload new
    → OpensAt old b new (record { number = n; offset = 8; length = length payload; next = told; reserved = 0 })
opens_at old new b payload n next told same h =
    let c = h.contents in
    let rest : List ℕ = payload ++ trailer c.p next ++ c.check in
    let split : b ≡ c.front ++ rest =
    c.octets ∙ ap (λ (xs : List ℕ). xs ++ c.check) (append_assoc c.front payload (trailer c.p next))
    ∙ append_assoc c.front (payload ++ trailer c.p next) c.check
    in
    let behind : drop 8 b ≡ rest = ap (drop 8) split ∙ drop_at c.front rest 8 c.eight in
    let part : payload ≡ take (length payload) (drop 8 b) =
    sym (ap (take (length payload)) (behind ∙ append_assoc payload (trailer c.p next) c.check) ∙ take_at payload (trailer c.p next ++ c.check) (length payload) refl)
    in
    let l = ap length split ∙ length-append c.front rest in
    let k = length-append (payload ++ trailer c.p next) c.check in
    let m = length-append payload (trailer c.p next) in
    let e = c.eight in
    record {
      within = omega arith;
      behind_head = refl;
      reserved = refl;
      hands_up = subst (λ (k : ℕ). HandsUp old b n k (take (length payload) (drop 8 b)) new) (sym same) (subst (λ (xs : List ℕ). HandsUp old b n next xs new) part h);
    }
