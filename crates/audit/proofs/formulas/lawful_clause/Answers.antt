use Rattle.std.proofs.Common.{◌∙◌, ◌≤◌, length, get_or, ap, sym, arith, rules, take}
use Rattle.std.proofs.lemmas.List.{take_more}
use Rattle.formula.specs.Clauses.{names}
use Rattle.formula.specs.Reading.{no_literal}
use Rattle.formula.proofs.ClauseLaws.{marks_push}
use Rattle.audit.proofs.TurnLaws.{literals_step}
use Rattle.audit.proofs.formulas.lawful_clause.Goals as goal

pub loop-literal-preserved : goal.loop-literal-preserved
loop-literal-preserved c =
    let i = c.loop-literal.literal-index in
    let ls = c.args.literals.now in
    let before = c.loop-literal.invariant.marked in
    let known : (get_or ls i no_literal).variable ≤ length c.args.declared.now = search rules in
    record {
      rest = search (rules, literals_step, before);
      marked = λ v. marks_push (take i ls) _ _ _ (omega (arith, known)) before c.add.ensures v ∙ ap (names v) (sym (take_more ls i no_literal (omega arith)));
    }
