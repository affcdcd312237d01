use Rattle.std.proofs.Common.{◌≡◌, ◌∷◌, [], ℕ, All, List, Option, Some, Bool, if◌then◌else◌, ap, subst, sym, ◌∙◌}
use Rattle.std.proofs.lemmas.Bool.{eq-eqb}
use Rattle.std.proofs.lemmas.List.Elements.{All-cons, All-nil}
use Rattle.std.specs.Option.{option_copied}
use Rattle.sadb.specs.Database.{pair_at, BelongsTo, Database}
use Rattle.sadb.specs.declared.pair.Pair.{Pair}
use Rattle.association.specs.declared.purpose.Purpose.{Purpose}
use Rattle.informational.specs.Counting.{gone_with, if_its_own}
use Rattle.informational.specs.Orders.{RemovesOwn}
use Rattle.informational.proofs.counting.remove_deleted.Goals as goal

pub returns-in-Some : goal.returns-in-Some
returns-in-Some c =
    let table : Database = c.args.table.now in
    let child = c.in-DeleteChild.child in
    let pair : Pair = c.in-Some.pair.now in
    let there : pair_at table.pairs child ≡ Some pair = sym c.get.ensures ∙ ap option_copied c.in-Some.is in
    let own : BelongsTo table.pairs c.args.ike child = record { pair = pair; there = there; its = c.if-pair-ike.true } in
    let gone : gone_with table.pairs c.args.ike c.args.purpose.now ≡ child ∷ [] =
    ap (λ (p : Purpose). gone_with table.pairs c.args.ike p) c.in-DeleteChild.is
    ∙ ap (λ (o : Option Pair). if_its_own o c.args.ike child) there
    ∙ ap (λ (b : Bool). if b then child ∷ [] else []) (eq-eqb pair.ike c.args.ike c.if-pair-ike.true) in
    let all_own : All (BelongsTo table.pairs c.args.ike) (child ∷ []) = All-cons (BelongsTo table.pairs c.args.ike) child [] own (All-nil (BelongsTo table.pairs c.args.ike)) in
    subst (λ (serials : List ℕ). RemovesOwn c.args.ike serials table c.remove_named.new.table) (sym gone) (record { its_own = all_own; removed = c.remove_named.ensures })
