use Rattle.std.proofs.Common.{◌≡◌, ℕ, [], take, drop}
use Rattle.formula.specs.Clauses.{names}
use Rattle.formula.specs.Marks.{has_mark}
use Rattle.audit.specs.FormulaAudit.{clause_lawful}
use Rattle.audit.proofs.formulas.lawful_clause.Given as goal

abbrev pub invariant-loop-literal : goal.invariant-loop-literal
invariant-loop-literal l =
    record {
      rest : clause_lawful l.declared (take l.literal-index l.literals) (drop l.literal-index l.literals) ≡ clause_lawful l.declared [] l.literals;
      marked : (v : ℕ) → has_mark l.marks v ≡ names v (take l.literal-index l.literals);
    }
