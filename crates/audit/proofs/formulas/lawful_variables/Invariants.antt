use Rattle.std.proofs.Common.{◌≡◌, ◌+◌, drop, replicate}
use Rattle.audit.specs.FormulaAudit.{owners, records_own}
use Rattle.audit.proofs.formulas.lawful_variables.Given as goal

abbrev pub invariant-loop-i : goal.invariant-loop-i
invariant-loop-i l =
    records_own l.head (l.i + 1) (drop l.i l.declared) l.owners
    ≡ records_own l.head 1 l.declared (owners (replicate 65 0) (replicate 4097 0))
