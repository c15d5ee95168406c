use Rattle.std.proofs.Common.{◌≡◌, ◌≤◌, length, drop}
use Rattle.audit.specs.FormulaAudit.{spans_end}
use Rattle.audit.proofs.formulas.lawful_clauses.Given as goal

abbrev pub invariant-loop-clause : goal.invariant-loop-clause
invariant-loop-clause l =
    record {
      rest : spans_end l.declared l.at (drop l.clause-index l.used) l.literals ≡ spans_end l.declared 0 l.used l.literals;
      within : l.at ≤ length l.literals;
    }
