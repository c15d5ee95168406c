-- The rules of the two sides, by the rows of their tables and the two numbers of a shelf.
use Rattle.std.specs.Prelude.{ℕ, []}
use Rattle.engine.specs.declared.side.Verdict.TheVariants as verdict
use Rattle.engine.specs.Plain.{Rules}
use Rattle.expansion.specs.Instances.{falsity_admits, falsity_claim, falsity_opening}
use Rattle.gates.specs.Wiring.{truth_admits, truth_claim, truth_opening, goal_number, goal_clause}
use Rattle.models.specs.HeldTables.{RowsOfFormula, RowsOfCircuit}

abbrev pub truth_rules : RowsOfFormula → RowsOfCircuit → ℕ → ℕ → Rules
truth_rules t u most width =
    record {
      opening = truth_opening t u;
      admits = truth_admits;
      claim = truth_claim u;
      goals = goal_number t;
      goal = goal_clause t u.head.wires;
      says = verdict.True;
      most = most;
      width = width;
    }

-- the one goal is the empty clause
abbrev pub falsity_rules : RowsOfFormula → ℕ → ℕ → Rules
falsity_rules t most width =
    record {
      opening = falsity_opening t;
      admits = falsity_admits;
      claim = falsity_claim t;
      goals = 1;
      goal = λ g. [];
      says = verdict.False;
      most = most;
      width = width;
    }
