-- What a reading of a formula from the start of a text leaves in rows of the lengths that the text asks for.
use Rattle.std.proofs.Common.{◌≡◌, ℕ, ◌/◌, List, length, Ok, Err, Result, sym, subst, arith}
use Rattle.base.specs.declared.faults.Fault.{Fault}
use Rattle.base.specs.Causes.{Refusal, told}
use Rattle.formula.specs.declared.tables.Clause.{Clause}
use Rattle.formula.specs.declared.tables.Head.{Head}
use Rattle.formula.specs.declared.tables.Literal.{Literal}
use Rattle.formula.specs.declared.tables.Variable.{Variable}
use Rattle.formula.specs.Reading.{Formula, Tables, Agrees, formula_from}
use Rattle.spelling.specs.Dqbf.{Dqbf}
use Rattle.spelling.specs.FormulaLaw.{Accepts}
use Rattle.spelling.proofs.ProperWords.{no_ok}
use Rattle.models.specs.HeldTables.{RowsOfFormula}
use Rattle.texts.specs.Spelled.{Spelled, ReadsFormula}
use Rattle.texts.specs.TextRows.{rows_read, formula_in}
use Rattle.texts.proofs.FewLiterals.{few_literals}

-- the rows of a head and the tables that were filled
abbrev pub rows_in : Head → Tables → RowsOfFormula
rows_in h t = record { head = h; variables = t.variables; clauses = t.clauses; literals = t.literals }

-- rows whose tables are the same
pub rows_same : {vs vs' : List Variable} {cs cs' : List Clause} {ls ls' : List Literal} (h : Head) → vs ≡ vs' → cs ≡ cs' → ls ≡ ls' → rows_in h (record { variables = vs; clauses = cs; literals = ls }) ≡ rows_in h (record { variables = vs'; clauses = cs'; literals = ls' })
rows_same h e f g = cc

-- the rows that a reading leaves, by its answer
module _ (was is : Tables) (p q room : ℕ) (clauses : length was.clauses ≡ 16384) (literals : length was.literals ≡ room) where
  accepted : (f : Result Formula Refusal) (h : Head) → Agrees f (Ok h) was is p q → Ok (rows_in h is) ≡ rows_read f room
  accepted (Ok f) h a = cc
  accepted (Err e) h a = absurd (no_ok h e (sym a.head))

  refused : (f : Result Formula Refusal) (e : Fault) → Agrees f (Err e) was is p q → Err (told e) ≡ rows_read f room
  refused (Ok f) e a = absurd (no_ok f.head (told e) a.head)
  refused (Err d) e a = cc

-- an accepted reading leaves a formula that the text spells
pub accepted_reads : (text : List ℕ) (is : Tables) (q : ℕ) (h : Head) → Accepts text 0 (Ok h) is q → ReadsFormula text (Ok (rows_in h is))
accepted_reads text is q h (f, rest, bytes, spelt, lawful, fits, holds, behind) =
    (f, record { bytes = bytes; lawful = lawful; rest = rest; spells = spelt }, record { lawful = lawful; fits = fits; holds = holds })

-- the rows before and after a reading, of the lengths that the text asks for
pub record Lent (text : List ℕ) (was is : Tables) : Type 0 where
  pub variables : length was.variables ≡ 65535
  pub clauses : length was.clauses ≡ 16384
  pub literals : length was.literals ≡ length text / 2
  pub variables_kept : length is.variables ≡ length was.variables
  pub clauses_kept : length is.clauses ≡ length was.clauses
  pub literals_kept : length is.literals ≡ length was.literals

-- what a reading says of rows of these lengths
module _ (text : List ℕ) (was is : Tables) (q : ℕ) (lent : Lent text was is) where
  abbrev ReadAs : Result Head Fault → Type 0
  ReadAs r = Agrees (formula_from text 0 (length was.variables) (length was.clauses) (length was.literals)) r was is 0 q

  -- the same reading, with the lengths as numbers
  at_lengths : (r : Result Head Fault) → ReadAs r → Agrees (formula_from text 0 65535 16384 (length text / 2)) r was is 0 q
  at_lengths r a =
      subst (λ n. Agrees (formula_from text 0 65535 16384 n) r was is 0 q) lent.literals
      (subst (λ n. Agrees (formula_from text 0 65535 n (length was.literals)) r was is 0 q) lent.clauses
      (subst (λ n. Agrees (formula_from text 0 n (length was.clauses) (length was.literals)) r was is 0 q) lent.variables a))

  -- the rows are those that the text's words give
  pub accepted_rows : (h : Head) → ReadAs (Ok h) → Ok (rows_in h is) ≡ formula_in text
  accepted_rows h a = accepted was is 0 q (length text / 2) lent.clauses lent.literals _ h (at_lengths (Ok h) a)

  -- the refusal is the one that the text's words give
  pub refused_rows : (e : Fault) → ReadAs (Err e) → Err (told e) ≡ formula_in text
  refused_rows e a = refused was is 0 q (length text / 2) lent.clauses lent.literals _ e (at_lengths (Err e) a)

  -- a formula that the text spells would have fitted, so a refused text spells none
  pub refused_reads : (e : Fault) → Accepts text 0 (Err e) is q → (f : Dqbf) → Spelled text f → ⊥
  refused_reads e none f s =
      let few = few_literals text f s.rest s.spells in
      let lawful = s.lawful in
      none f s.rest s.bytes s.spells lawful
      (record {
        variables = omega (arith, lawful.few_variables, lent.variables, lent.variables_kept);
        clauses = omega (arith, lawful.few_clauses, lent.clauses, lent.clauses_kept);
        literals = omega (arith, few, lent.literals, lent.literals_kept);
      })
