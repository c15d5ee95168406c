-- No two examiners give one formula a True and a False.
use Rattle.std.specs.Prelude.{◌≡◌, ℕ, List}
use Rattle.clauses.specs.declared.entry.Entry.{Entry}
use Rattle.engine.specs.Plain.{Rules, start, close_slip}
use Rattle.engine.specs.Runs.{Call, run}
use Rattle.engine.specs.Plain.{verdict_slip}
use Rattle.models.specs.HeldTables.{RowsOfFormula, RowsOfCircuit}
use Rattle.sides.specs.SideRules.{truth_rules, falsity_rules}

-- A shelf with some list at the making, a list of calls, and a close after them that gives a slip with the verdict.
pub record Gave (r : Rules) : Type 0 where
  pub list : List (List Entry)
  pub calls : List Call
  pub ticket : ℕ
  pub case : ℕ
  pub clauses : ℕ
  pub verdict : close_slip r (run r (start list) calls) ticket ≡ verdict_slip r.says case clauses

-- whatever calls each was given, on whatever shelves: no examiner says True of circuits for a formula and another False of it
abbrev pub NeverBoth : RowsOfFormula → RowsOfCircuit → Type 0
NeverBoth t u = (most width most' width' : ℕ) → Gave (truth_rules t u most width) → Gave (falsity_rules t most' width') → ⊥
