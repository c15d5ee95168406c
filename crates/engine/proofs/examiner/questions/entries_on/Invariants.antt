use Rattle.std.proofs.Common.{◌≡◌, ◌+◌, ◌-◌, drop}
use Rattle.engine.specs.Shelves.{entries_in}
use Rattle.engine.proofs.examiner.questions.entries_on.Given as goal

-- the clauses that are left have the rest
abbrev pub invariant-loop-number : goal.invariant-loop-number
invariant-loop-number g l =
    l.total + entries_in (drop (l.number - 1) (g.F.Shelf.list l.shelf)) ≡ entries_in (g.F.Shelf.list l.shelf)
