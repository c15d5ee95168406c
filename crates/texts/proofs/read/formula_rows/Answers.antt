use Rattle.std.proofs.Common.{Ok, sym, ap, ◌∙◌, rules, subst}
use Rattle.std.proofs.lemmas.List.{with_items_is}
use Rattle.formula.specs.Reading.{Tables}
use Rattle.models.specs.HeldTables.{RowsOfFormula}
use Rattle.texts.specs.Spelled.{ReadsFormula}
use Rattle.texts.proofs.FormulaRead.{Lent, rows_same, accepted_rows, refused_rows, accepted_reads, refused_reads}
use Rattle.texts.proofs.read.formula_rows.Goals as goal
use Rattle.texts.proofs.read.formula_rows.Goals.{After-read_formula}

-- the tables that the reader was lent, before and after
abbrev was : After-read_formula → Tables
was c = record { variables = c.as_mut_slice.result.now; clauses = c.as_mut_slice-2.result.now; literals = c.as_mut_slice-3.result.now }

abbrev is : After-read_formula → Tables
is c = record { variables = c.read_formula.new.vars; clauses = c.read_formula.new.clauses; literals = c.read_formula.new.literals }

lent : (c : After-read_formula) → Lent c.args.text.now (was c) (is c)
lent c =
    record {
      variables = c.as_mut_slice.ensures.len ∙ c.in_ok-variables.ensures.len;
      clauses = c.as_mut_slice-2.ensures.len ∙ c.in_ok-clauses.ensures.len;
      literals = c.as_mut_slice-3.ensures.len ∙ c.in_ok-literals.ensures.len;
      variables_kept = c.read_formula.auto.vars;
      clauses_kept = c.read_formula.auto.clauses;
      literals_kept = c.read_formula.auto.literals;
    }

pub returns-in-Ok : goal.returns-in-Ok
returns-in-Ok c =
    let text = c.args.text.now in
    let head = c.in-Ok.head in
    let place = c.read_formula.new.place.at in
    let r = (goal.at.returns-in-Ok c).After-read_formula in
    let same =
    rows_same head
    (with_items_is c.in_ok-variables.variables c.read_formula.new.vars (c.read_formula.auto.vars ∙ c.as_mut_slice.ensures.len))
    (with_items_is c.in_ok-clauses.clauses c.read_formula.new.clauses (c.read_formula.auto.clauses ∙ c.as_mut_slice-2.ensures.len))
    (with_items_is c.in_ok-literals.literals c.read_formula.new.literals (c.read_formula.auto.literals ∙ c.as_mut_slice-3.ensures.len)) in
    record {
      is = ap Ok same ∙ accepted_rows text (was r) (is r) place (lent r) head (search rules);
      spelt = subst (λ (t : RowsOfFormula). ReadsFormula text (Ok t)) (sym same) (accepted_reads text (is r) place head (search rules));
    }

pub returns-in-Err : goal.returns-in-Err
returns-in-Err c =
    let text = c.args.text.now in
    let fault = c.in-Err.fault in
    let place = c.read_formula.new.place.at in
    let r = (goal.at.returns-in-Err c).After-read_formula in
    record {
      is = refused_rows text (was r) (is r) place (lent r) fault (search rules);
      spelt = refused_reads text (was r) (is r) place (lent r) fault (search rules);
    }
