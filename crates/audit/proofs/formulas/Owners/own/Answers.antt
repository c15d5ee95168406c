use Rattle.std.proofs.Common.{◌≡◌, ◌∙◌, rules}
use Rattle.base.specs.Words.{empty_word}
use Rattle.audit.specs.FormulaAudit.{undeclared}
use Rattle.audit.proofs.Undeclared.{within_empty, undeclared_same}
use Rattle.audit.proofs.formulas.Owners.own.Goals as goal

pub returns-in-Undeclared : goal.returns-in-Undeclared
returns-in-Undeclared c =
    let e : c.eq.result ≡ undeclared c.args.variable = c.eq.ensures ∙ undeclared_same c.args.variable c.default.result c.default.ensures in
    search rules

pub returns-then-eq : goal.returns-then-eq
unfolding empty_word
returns-then-eq c = search (rules, within_empty)

pub returns-else-eq : goal.returns-else-eq
unfolding empty_word
returns-else-eq c = search (rules, within_empty)
