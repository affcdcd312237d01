use Rattle.std.proofs.Common.{◌≡◌, ℕ, ◌+◌, ◌-◌, List, [], ◌++◌, take, drop, sym, ap, ◌∙◌, append_assoc, append-nil, arith, length-take}
use Rattle.std.proofs.lemmas.List.{drop-drop, drop_all}
use Rattle.byteorder.specs.Endian.{big_bytes}
use Rattle.wire.proofs.writer.set_u32.Goals as goal

pub returns : goal.returns
returns c =
    let place = c.args.place in
    let octets = c.args.octets.now in
    let behind : place + ((place + 4) - place) ≡ place + 4 = omega arith in
    let none : drop 4 (take ((place + 4) - place) (drop place octets)) ≡ [] =
    drop_all 4 (take ((place + 4) - place) (drop place octets)) (omega (length-take ((place + 4) - place) (drop place octets), arith)) in
    ap (λ (ys : List ℕ). take place octets ++ (ys ++ drop ((place + 4) - place) (drop place octets)))
    (c.write_u32.ensures ∙ ap (λ (ys : List ℕ). big_bytes 4 c.args.number ++ ys) none ∙ append-nil (big_bytes 4 c.args.number))
    ∙ ap (λ (ys : List ℕ). take place octets ++ (big_bytes 4 c.args.number ++ ys)) (drop-drop ((place + 4) - place) place octets ∙ ap (λ (n : ℕ). drop n octets) behind)
    ∙ sym (append_assoc (take place octets) (big_bytes 4 c.args.number) (drop (place + 4) octets))
