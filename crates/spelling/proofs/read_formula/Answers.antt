use Rattle.spelling.proofs.FormulaLaws.{formula_accepts}
use Rattle.spelling.proofs.read_formula.Goals as goal

pub returns : goal.returns
returns c =
    record {
      is = c.read_formula.ensures;
      spelt = formula_accepts c.args.text.now c.args.place.now.at c.read_formula.new.place.at c.read_formula.result
          (record { variables = c.args.vars.now; clauses = c.args.clauses.now; literals = c.args.literals.now })
          (record { variables = c.read_formula.new.vars; clauses = c.read_formula.new.clauses; literals = c.read_formula.new.literals })
          c.read_formula.ensures;
    }
