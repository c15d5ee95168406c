use Rattle.std.proofs.Common.{◌≡◌}
use Rattle.clauses.specs.Clauses.{over}
use Rattle.expansion.proofs.RowWrites.{items}
use Rattle.expansion.proofs.Expansion.write_existentials.Given as goal

-- the entries so far stand at the row's front
abbrev pub invariant-loop-i : goal.invariant-loop-i
invariant-loop-i l = l.row ≡ over (items l.yielded) l.initial.row
