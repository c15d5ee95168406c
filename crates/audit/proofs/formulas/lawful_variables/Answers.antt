use Rattle.std.proofs.Common.{rules}
use Rattle.audit.specs.FormulaAudit.{undeclared}
use Rattle.audit.proofs.TurnLaws.{records_all}
use Rattle.audit.proofs.Undeclared.{record_same, undeclared_same, all_same}
use Rattle.audit.proofs.formulas.lawful_variables.Goals as goal

pub returns-then-has_owners-2 : goal.returns-then-has_owners-2
returns-then-has_owners-2 c =
    let none = c.default.result in
    let free = all_same (λ x. record_same x none) undeclared (λ x. undeclared_same x none c.default.ensures) c.args.free.now in
    search (rules, records_all)
