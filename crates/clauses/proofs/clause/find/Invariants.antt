use Rattle.std.proofs.Common.{◌≡◌, drop}
use Rattle.clauses.specs.Clauses.{found_in}
use Rattle.clauses.proofs.clause.find.Given as goal

-- what is left decides
abbrev pub invariant-loop-y : goal.invariant-loop-y
invariant-loop-y g l = found_in g.L.Alike.like l.x l.complement (drop l.y-index l.clause) ≡ found_in g.L.Alike.like l.x (g.L.Literal.opposite l.x) l.clause
