-- What a list that is sealed comes to: one thing alone, and with another list behind it what both in one come
-- to.
use Rattle.std.proofs.Common.{◌≡◌, ℕ, ◌+◌, List, [], ◌∷◌, ◌++◌, length, take, sym, ap, ◌∙◌, subst, refl, arith, length-append}
use Rattle.std.proofs.lemmas.List.{take_all, take_at, drop_at}
use Rattle.esp.specs.declared.sa.Sa.{Sa}
use Rattle.esp.specs.Packet.{packet}
use Rattle.esp.specs.Views.{Sending}
use Rattle.esp.specs.Sealing.{IsShortestPacket, Seals, SealRun, SealsFirst}
use Rattle.esp.proofs.LayingLemmas.{seal_run_joined, take-more}

one_packet : (a : Sa) (n next : ℕ) (payload b c : List ℕ) → IsShortestPacket a n next payload b → IsShortestPacket a n next payload c → b ≡ c
one_packet a n next payload b c x y =
    let few = x.shortest y.p c y.packet in
    let more = y.shortest x.p b x.packet in
    let same : x.p ≡ y.p = omega arith in
    x.packet.octets ∙ ap (packet a n next payload) same ∙ sym y.packet.octets

one_seal : (s : Sending) (next : ℕ) (payload before : List ℕ) (n m : ℕ) (t u : Sending) (after other : List ℕ)
    → Seals s next payload before n t after → Seals s next payload before m u other → (t ≡ u) × (after ≡ other)
one_seal s next payload before n m t u after other x y =
    let number : n ≡ m = x.number ∙ sym y.number in
    let same : x.packet ≡ y.packet =
    one_packet s.association n next payload x.packet y.packet x.shortest
    (subst (λ (k : ℕ). IsShortestPacket s.association k next payload y.packet) (sym number) y.shortest)
    in (
      x.last ∙ ap (λ (k : ℕ). record s { last = k }) number ∙ sym y.last,
      x.appended ∙ ap (λ (b : List ℕ). before ++ b) same ∙ sym y.appended,
    )

pub one_run : (s : Sending) (next : ℕ) (ps : List (List ℕ)) (before : List ℕ) (t u : Sending) (after other : List ℕ)
    → SealRun s next ps before t after → SealRun s next ps before u other → (t ≡ u) × (after ≡ other)
one_run s next [] before t u after other x y = (x.0 ∙ sym y.0, x.1 ∙ sym y.1)
one_run s next (p ∷ ps) before t u after other x y =
    let same = one_seal s next p before x.0 y.0 x.1 y.1 x.2 y.2 x.3 y.3 in
    one_run x.1 next ps x.2 t u after other x.4
    (subst (λ (m : Sending). SealRun m next ps x.2 u other) (sym same.0)
    (subst (λ (xs : List ℕ). SealRun y.1 next ps xs u other) (sym same.1) y.4))

pub one_list : (k next : ℕ) (s t u : Sending) (ps qs : List (List ℕ)) (before between after : List ℕ)
    → SealsFirst (length ps) s next ps before t between → SealsFirst k t next qs between u after
    → SealsFirst (length ps + k) s next (ps ++ qs) before u after
one_list k next s t u ps qs before between after first second =
    let n : ℕ = length ps in
    let parts : take n ps ++ take k qs ≡ take (n + k) (ps ++ qs) =
    ap (λ (xs : List (List ℕ)). xs ++ take k qs) (take_all n ps (omega arith) ∙ sym (take_at ps qs n refl))
    ∙ ap (λ (xs : List (List ℕ)). take n (ps ++ qs) ++ take k xs) (sym (drop_at ps qs n refl))
    ∙ sym (take-more (ps ++ qs) n k)
    in
    let number : s.last + n + k ≡ s.last + (n + k) = omega arith in
    record {
      within = (let few = second.within in omega (arith, length-append ps qs));
      run = subst (λ (xs : List (List ℕ)). SealRun s next xs before u after) parts
          (seal_run_joined s next (take n ps) (take k qs) before between after t u first.run second.run);
      last = second.last ∙ ap (λ (m : Sending). record m { last = m.last + k }) first.last ∙ ap (λ (m : ℕ). record s { last = m }) number;
    }
