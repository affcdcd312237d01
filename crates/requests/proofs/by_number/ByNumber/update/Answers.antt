use Rattle.std.proofs.Common.{◌∙◌, ◌≡◌, ◌+◌, ap, arith, refl}
use Rattle.std.specs.FinMap as map
use Rattle.requests.specs.Storage.{Held}
use Rattle.requests.proofs.EntryLemmas.{replaced, removed_here}
use Rattle.requests.proofs.by_number.ByNumber.update.Goals as goal

pub add-requires-clause-room : goal.add-requires-clause-room
add-requires-clause-room g c =
    let room : c.remove-item.new.self.room ≡ c.args.self.now.room + 1 = ap (λ (h : Held _). h.room) c.remove-item.ensures.content in
    omega arith

pub add-requires-clause-new_number : goal.add-requires-clause-new_number
add-requires-clause-new_number g c =
    ap (λ (h : Held _). map.get h.items c.args.number) c.remove-item.ensures.content ∙ removed_here c.args.self.now.items c.args.number c.args.number refl

pub returns : goal.returns
returns g c =
    let taken : c.remove-item.new.self.room ≡ c.args.self.now.room + 1 = ap (λ (h : Held _). h.room) c.remove-item.ensures.content in
    let given = c.add.ensures.room in
    let room : c.add.new.self.room ≡ c.args.self.now.room = omega arith in
    let items =
    ap (λ (h : Held _). h.items) c.add.ensures.content
    ∙ ap (λ (h : Held _). map.insert h.items c.args.number c.change.result) c.remove-item.ensures.content
    ∙ replaced c.args.self.now.items c.args.number c.change.result in
    record {
      was = c.remove-item.result;
      is = c.change.result;
      made = c.change.ensures;
      there = c.remove-item.ensures.there;
      content = λ i. record { items = items i; room = room i };
    }
