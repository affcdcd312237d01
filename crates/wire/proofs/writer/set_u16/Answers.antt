use Rattle.std.proofs.Common.{◌≡◌, ℕ, ◌+◌, ◌-◌, List, [], ◌++◌, take, drop, sym, ap, ◌∙◌, append_assoc, append-nil, arith, length-take}
use Rattle.std.proofs.lemmas.List.{drop-drop, drop_all}
use Rattle.byteorder.specs.Endian.{big_bytes}
use Rattle.wire.proofs.writer.set_u16.Goals as goal

pub returns : goal.returns
returns c =
    let place = c.args.place in
    let octets = c.args.octets.now in
    let behind : place + ((place + 2) - place) ≡ place + 2 = omega arith in
    let none : drop 2 (take ((place + 2) - place) (drop place octets)) ≡ [] =
    drop_all 2 (take ((place + 2) - place) (drop place octets)) (omega (length-take ((place + 2) - place) (drop place octets), arith)) in
    ap (λ (ys : List ℕ). take place octets ++ (ys ++ drop ((place + 2) - place) (drop place octets)))
    (c.write_u16.ensures ∙ ap (λ (ys : List ℕ). big_bytes 2 c.args.number ++ ys) none ∙ append-nil (big_bytes 2 c.args.number))
    ∙ ap (λ (ys : List ℕ). take place octets ++ (big_bytes 2 c.args.number ++ ys)) (drop-drop ((place + 2) - place) place octets ∙ ap (λ (n : ℕ). drop n octets) behind)
    ∙ sym (append_assoc (take place octets) (big_bytes 2 c.args.number) (drop (place + 2) octets))
