-- The audit's recursions, one entry further.
use Rattle.std.proofs.Common.{◌≡◌, ℕ, ◌+◌, ◌<◌, ◌≤◌, not, ◌&&◌, leb, List, length, get_or, take, drop, Some}
use Rattle.std.proofs.lemmas.List.{at_drop_more, at_drop_all, take_more}
use Rattle.formula.specs.declared.tables.Head.{Head}
use Rattle.formula.specs.declared.tables.Literal.{Literal}
use Rattle.formula.specs.declared.tables.Variable.{Variable}
use Rattle.formula.specs.Groups.{variable_at, is_undeclared}
use Rattle.formula.specs.Clauses.{names}
use Rattle.formula.specs.Reading.{no_literal}
use Rattle.audit.specs.declared.formulas.Owners.{Owners}
use Rattle.audit.specs.FormulaAudit.{records_own, clause_lawful}

-- no record is left
pub records_all : (head : Head) (v : ℕ) (o : Owners) (xs : List Variable) (i : ℕ) → length xs ≤ i → records_own head v (drop i xs) o ≡ Some o
records_all head v o xs i h = at_drop_all (λ ys. records_own head v ys o) xs i h

-- the literals of a clause, behind the first i
module _ (vs : List Variable) (ls : List Literal) (i : ℕ) where
  pub literals_step : i < length ls → let l = get_or ls i no_literal in clause_lawful vs (take i ls) (drop i ls) ≡ (leb 1 l.variable && leb l.variable (length vs) && not (is_undeclared (variable_at vs l.variable).kind) && not (names l.variable (take i ls)) && clause_lawful vs (take (i + 1) ls) (drop (i + 1) ls))
  literals_step h = rw (take_more ls i no_literal h) (at_drop_more (clause_lawful vs (take i ls)) ls i no_literal h)
