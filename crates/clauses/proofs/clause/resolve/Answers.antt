use Rattle.std.proofs.Common.{◌≡◌, ◌-◌, false, List, ◌++◌, length, take, drop, Some, None, sym, refl, ap, ◌∙◌, arith}
use Rattle.std.proofs.lemmas.Bool.{cond-true, cond-false}
use Rattle.clauses.specs.Clauses.{joined, join, filed, over, told_clause}
use Rattle.clauses.proofs.RowLaws.{join_grows, pivot_none, pivot_is, take_over, over_over, length_without, by_pivot}
use Rattle.clauses.proofs.clause.resolve.Goals as goal

pub returns-then-position-eq0 : goal.returns-then-position-eq0
returns-then-position-eq0 g c =
    by_pivot g.L.Alike.like g.L.Literal.opposite c.args.first.now c.args.second.now c.args.position _ c.args.row.now _ (omega arith) None
    (pivot_none g.L.Literal.opposite c.args.first.now c.args.position c.then-position-eq0.either) refl refl

pub returns-then-not-contains : goal.returns-then-not-contains
returns-then-not-contains g c =
    let pivot = pivot_is g.L.Literal.opposite c.args.first.now c.args.position _ c.complement-pivot.result c.if-position-eq0.false c.if-position-first.false c.index-first-position.is c.complement-pivot.ensures in
    let missing = sym c.if-not-contains.ensures in
    by_pivot g.L.Alike.like g.L.Literal.opposite c.args.first.now c.args.second.now c.args.position _ c.args.row.now _ (omega arith) (Some c.complement-pivot.result)
    pivot (sym (cond-false _ _ _ missing)) (sym (cond-false _ _ _ missing))

pub returns : goal.returns
returns g c =
    let pivot = pivot_is g.L.Literal.opposite c.args.first.now c.args.position _ c.complement-pivot.result c.if-position-eq0.false c.if-position-first.false c.index-first-position.is c.complement-pivot.ensures in
    let there = sym c.if-not-contains.ensures in
    let rest : List g.row.L.Denot = take (c.args.position - 1) c.args.first.now ++ drop c.args.position c.args.first.now in
    let long = length_without c.args.first.now c.args.position (omega arith) c.if-position-first.false in
    let start : take (length c.args.first.now - 1) c.copy_without.new.row ≡ rest = ap (take (length c.args.first.now - 1)) c.copy_without.ensures ∙ take_over rest c.args.row.now _ long in
    let built = join g.L.Alike.like g.L.Literal.opposite (Some c.complement-pivot.result) (joined rest false) c.args.second.now in
    let grows = join_grows g.L.Alike.like g.L.Literal.opposite (Some c.complement-pivot.result) c.args.second.now (joined rest false) in
    let answer : told_clause c.join_all.result c.join_all.new.row ≡ filed built = rw start at c.join_all.ensures.answer in
    let row : c.join_all.new.row ≡ over built.clause c.args.row.now =
    rw start at c.join_all.ensures.kept ∙ ap (over built.clause) c.copy_without.ensures ∙ over_over rest c.args.row.now built.clause grows in
    by_pivot g.L.Alike.like g.L.Literal.opposite c.args.first.now c.args.second.now c.args.position _ c.args.row.now _ (omega arith) (Some c.complement-pivot.result)
    pivot (answer ∙ sym (cond-true _ _ _ there)) (row ∙ sym (cond-true _ _ _ there))
