-- The falsity side: the clauses of a formula under a word of values, by expansion of the universals.
use Rattle.std.specs.Prelude.{ℕ, ◌+◌, ◌*◌, Bool, true, false, cond, ◌&&◌, List, Some, None, Ok, Err, Option, Result, filter_map, nat_le}
use Rattle.std.specs.List.{list_any}
use Rattle.base.specs.declared.values.ValueWord.{ValueWord}
use Rattle.base.specs.Causes.{Refusal, refused}
use Rattle.base.specs.Words.{has_bit, first_word, common_word, within_word}
use Rattle.formula.specs.declared.tables.Literal.{Literal}
use Rattle.formula.specs.declared.tables.Variable.{Variable}
use Rattle.formula.specs.Groups.{is_universal, is_existential}
use Rattle.clauses.specs.declared.entry.Entry.{Entry}
use Rattle.clauses.specs.Worlds.{entry_of}
use Rattle.records.specs.declared.step.Premise.{Premise}
use Rattle.records.specs.declared.step.Premise.TheVariants as premise
use Rattle.models.specs.HeldTables.{RowsOfFormula, lawful_formula, record_at, clause_of}
use Rattle.models.specs.Models.{signed}

-- The k-th existential under a word of values, or its negation: code 2k or 2k + 1 (codes have four bytes, which no lawful
-- formula passes), and its annotation has the values of the existential's dependencies alone.
abbrev pub annotated : Variable → Bool → ValueWord → Entry
annotated x negative values = entry_of (2 * x.position + cond negative 1 0) (common_word values x.dependencies)

-- whether a literal is universal and true under a word of values
abbrev pub true_universal : List Variable → ValueWord → Literal → Bool
true_universal vs values l =
    is_universal (record_at vs l.variable).kind && signed l.negative (has_bit values (record_at vs l.variable).position)

abbrev pub some_universal_true : List Variable → ValueWord → List Literal → Bool
some_universal_true vs values ls = list_any (true_universal vs values) ls

-- an existential literal with its annotation; none for any other literal
abbrev pub annotated_literal : List Variable → ValueWord → Literal → Option Entry
annotated_literal vs values l =
    cond (is_existential (record_at vs l.variable).kind) (Some (annotated (record_at vs l.variable) l.negative values)) None

-- the existential literals of a clause in their order, annotated
abbrev pub instance : List Variable → ValueWord → List Literal → List Entry
instance vs values ls = filter_map (annotated_literal vs values) ls

-- there is such a clause, and the word has no value above the universals
abbrev pub is_named : RowsOfFormula → ℕ → ValueWord → Bool
is_named t j values = nat_le 1 j && nat_le j t.head.clauses && within_word values (first_word t.head.universals)

-- The premise of clause j under a word of values: there is none where a universal literal of it is true.
abbrev pub clause_instance : RowsOfFormula → ℕ → ValueWord → Result (List Entry) ℕ
clause_instance t j values =
    cond (is_named t j values)
    (cond (some_universal_true t.variables values (clause_of t j)) (Err 17)
    (Ok (instance t.variables values (clause_of t j))))
    (Err 16)

abbrev pub falsity_claim : RowsOfFormula → Premise → Result (List Entry) ℕ
falsity_claim t (premise.Truth class number part) = Err 16
falsity_claim t (premise.Falsity j values) = clause_instance t j values

abbrev pub falsity_admits : Premise → Bool
falsity_admits (premise.Truth class number part) = false
falsity_admits (premise.Falsity j values) = true

-- tables that no accepted reading leaves are refused
abbrev pub falsity_opening : RowsOfFormula → Result (Unit {0}) Refusal
falsity_opening t =
    cond (lawful_formula t) (Ok tt) (Err (refused 12 0 4))
