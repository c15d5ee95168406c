-- The first literals of the clause stand at the row's front, and behind them the row is as it was.
use Rattle.std.proofs.Common.{◌≡◌, map, take}
use Rattle.clauses.specs.Clauses.{over}
use Rattle.gates.specs.Wiring.{goal_entry}
use Rattle.gates.proofs.goals.copy_goal.Given as goal

abbrev pub invariant-loop-i : goal.invariant-loop-i
invariant-loop-i l =
    l.row ≡ over (map (goal_entry l.formula.variables.now l.wires) (take l.i l.literal-items)) l.initial.row
