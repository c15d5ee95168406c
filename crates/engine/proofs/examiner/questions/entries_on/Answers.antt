use Rattle.std.proofs.Common.{◌≡◌, ◌+◌, ◌-◌, drop, ap, arith}
use Rattle.std.proofs.lemmas.List.{at_drop_all}
use Rattle.engine.specs.Shelves.{entries_in}
use Rattle.engine.proofs.QuestionLaws.{entries_next}
use Rattle.engine.proofs.examiner.questions.entries_on.Goals as goal

pub overflow_add-total : goal.overflow_add-total
overflow_add-total g c =
    let next = entries_next (g.F.Shelf.list c.args.shelf.now) c.loop-number.number (omega arith) (omega arith) in
    omega (arith, g.F.Shelf.fits c.args.shelf.now)

pub loop-number-preserved : goal.loop-number-preserved
loop-number-preserved g c =
    let next = entries_next (g.F.Shelf.list c.args.shelf.now) c.loop-number.number (omega arith) (omega arith) in
    let back : c.loop-number.number + 1 - 1 ≡ c.loop-number.number = omega arith in
    omega (arith, ap (λ k. entries_in (drop k (g.F.Shelf.list c.args.shelf.now))) back)

pub returns : goal.returns
returns g c = omega (arith, at_drop_all entries_in (g.F.Shelf.list c.args.shelf.now) (c.loop-number.number - 1) (omega arith))

pub returns-2 : goal.returns-2
returns-2 g c =
    let next = entries_next (g.F.Shelf.list c.args.shelf.now) c.loop-number.number (omega arith) (omega arith) in
    omega (arith, at_drop_all entries_in (g.F.Shelf.list c.args.shelf.now) c.loop-number.number (omega arith))
