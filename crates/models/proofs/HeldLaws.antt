-- What the tables of a formula say of it: its clauses, its variables' records, and what its literals name.
use Rattle.std.proofs.Common.{◌≡◌, ℕ, zero, suc, ◌+◌, ◌-◌, ◌<◌, ◌≤◌, min, true, false, cond, not, ◌&&◌, leb, List, [], ◌∷◌, ◌++◌, length, get_or, take, drop, replicate, sym, refl, ap, ◌∙◌, subst, arith}
use Rattle.std.specs.List.{AllByRecursion}
use Rattle.std.proofs.ByRecursion.{All-get_or, All-weaker}
use Rattle.std.proofs.lemmas.List.{append_assoc, length-append, length-take, take_at, drop_at}
use Rattle.std.proofs.lemmas.Bool.{and_from, cond-true, cond-false, le-leb, ne_eqb}
use Rattle.formula.specs.declared.tables.Clause.{Clause}
use Rattle.formula.specs.declared.tables.Literal.{Literal}
use Rattle.formula.specs.Groups.{is_undeclared}
use Rattle.formula.specs.Reading.{no_span, no_literal}
use Rattle.spelling.specs.Dqbf.{Dqbf, member, LawfulClause, record_of, literals_of, spans_from}
use Rattle.spelling.proofs.PrefixLaws.{variables_of, record_undeclared}
use Rattle.audit.proofs.FormulaPlaces.{declared_all}
use Rattle.models.specs.HeldTables.{RowsOfFormula, Held, record_at, span_at, clause_of}

-- the literals that a span cuts out
abbrev cut_by : Clause → List Literal → List Literal
cut_by s ls = take (min s.len 1024) (drop s.first ls)

-- the spans cut each clause out of the literals
spans_cut : (cs : List (List Literal)) (i : ℕ) (before rest : List Literal) (more : List Clause) (at : ℕ) → length before ≡ at → i < length cs → AllByRecursion (λ c. length c ≤ 1024) cs → cut_by (get_or (spans_from at cs ++ more) i no_span) (before ++ (literals_of cs ++ rest)) ≡ get_or cs i []
spans_cut [] i before rest more at e h short = absurd (omega arith)
spans_cut (c ∷ cs) zero before rest more at e h (few, short) =
    let n : min (length c) 1024 ≡ length c = omega arith in
    ap (take (min (length c) 1024)) (drop_at before (literals_of (c ∷ cs) ++ rest) at e ∙ append_assoc c (literals_of cs) rest)
    ∙ take_at c (literals_of cs ++ rest) (min (length c) 1024) (sym n)
spans_cut (c ∷ cs) (suc i) before rest more at e h (few, short) =
    let regroup : before ++ (literals_of (c ∷ cs) ++ rest) ≡ (before ++ c) ++ (literals_of cs ++ rest) = simp append_assoc in
    ap (cut_by (get_or (spans_from (at + length c) cs ++ more) i no_span)) regroup
    ∙ spans_cut cs i (before ++ c) rest more (at + length c) (length-append before c ∙ ap (λ (n : ℕ). n + length c) e) (omega arith) short

module _ {t : RowsOfFormula} {f : Dqbf} (held : Held t f) where
  -- the clause that the tables give is the matrix's
  pub clause_held : (j : ℕ) → 1 ≤ j → j ≤ t.head.clauses → clause_of t j ≡ get_or f.matrix (j - 1) []
  clause_held j low high =
      let m = f.matrix in
      let spans = replicate (length t.clauses - length (spans_from 0 m)) no_span in
      let rest = replicate (length t.literals - length (literals_of m)) no_literal in
      let few : AllByRecursion (λ (c : List Literal). length c ≤ 1024) m = All-weaker (LawfulClause (variables_of f.prefix)) (λ (c : List Literal). length c ≤ 1024) (λ c l. l.0) m held.lawful.clauses in
      cond-true _ _ _ (and_from (leb 1 j) (leb j t.head.clauses) (le-leb 1 j low) (le-leb j t.head.clauses high))
      ∙ ap (λ (cs : List Clause). cut_by (get_or cs (j - 1) no_span) t.literals) held.holds.clauses
      ∙ ap (λ (ls : List Literal). cut_by (get_or (spans_from 0 m ++ spans) (j - 1) no_span) ls) held.holds.literals
      ∙ spans_cut m (j - 1) [] rest spans 0 refl (omega (arith, held.holds.head_clauses)) few

  -- a clause of the tables names declared variables
  pub literals_declared : (j : ℕ) → 1 ≤ j → j ≤ t.head.clauses → AllByRecursion (λ l. member l.variable (variables_of f.prefix) ≡ true) (clause_of t j)
  literals_declared j low high =
      let P : List Literal → Type 0 = λ c. AllByRecursion (λ (l : Literal). member l.variable (variables_of f.prefix) ≡ true) c in
      subst P (sym (clause_held j low high))
      (All-get_or (LawfulClause (variables_of f.prefix)) f.matrix (j - 1) [] (omega (arith, held.holds.head_clauses)) held.lawful.clauses).2

  -- a declared variable is in range
  pub declared_range : (v : ℕ) → member v (variables_of f.prefix) ≡ true → (1 ≤ v) × (v ≤ f.variables)
  declared_range v m = declared_all (λ (x : ℕ). (1 ≤ x) × (x ≤ f.variables)) f.prefix v held.lawful.in_range m

  -- the record in the tables is the prefix's
  pub record_held : (v : ℕ) → 1 ≤ v → v ≤ f.variables → record_at t.variables v ≡ record_of f.prefix v
  record_held v low high =
      cond-false _ _ _ (ne_eqb v 0 (λ e. omega arith)) ∙ held.holds.variables v low (omega (arith, held.fits.variables))

  pub record_declared : (v : ℕ) → member v (variables_of f.prefix) ≡ true → record_at t.variables v ≡ record_of f.prefix v
  record_declared v m =
      let range = declared_range v m in
      record_held v range.0 range.1

  -- and a declared variable's record is not that of an undeclared one
  pub kind_declared : (v : ℕ) → member v (variables_of f.prefix) ≡ true → is_undeclared (record_of f.prefix v).kind ≡ false
  kind_declared v m = record_undeclared v 0 0 f.prefix ∙ ap not m

-- no clause of the tables has more than 1,024 literals
pub clause_short : (t : RowsOfFormula) (j : ℕ) → length (clause_of t j) ≤ 1024
clause_short t j =
    let s = span_at t.clauses j in
    elim (leb 1 j && leb j t.head.clauses) as (λ b. length (cond b (cut_by s t.literals) []) ≤ 1024)
    [ true ↦ omega (arith, length-take (min s.len 1024) (drop s.first t.literals)) | false ↦ omega arith ]
