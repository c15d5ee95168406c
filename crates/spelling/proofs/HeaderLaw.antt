-- A header is read just where the words spell it, within the limits.
use Rattle.std.proofs.Common.{◌≡◌, ℕ, ◌≤◌, Bool, false, ◌||◌, eqb, ltb, List, [], ◌∷◌, Ok, codes, sym, ap, ◌∙◌, subst, arith}
use Rattle.std.proofs.lemmas.Bool.{cond-false, eqb-false, le-ltb, ltb-false, ne_eqb, or_from, or_parts}
use Rattle.words.specs.Words.{Spelt, end_of, start_of}
use Rattle.words.specs.Due.{name_from, name_in, number_from, number_in}
use Rattle.formula.specs.Reading.{count_from, header_from}
use Rattle.spelling.specs.FormulaGrammar.{Name, Number}
use Rattle.spelling.proofs.ProperWords.{cond_ok, is_name, is_number, no_ok, ok_same, reads_name, reads_number, then_at, then_ok}

-- The words are a header with these counts, for tables of these lengths, and then the words that are left.
pub record Header (ws : List Spelt) (variable_room clause_room variables clauses : ℕ) (rest : List Spelt) (q : ℕ) : Type 0 where
  pub p : Spelt
  pub cnf : Spelt
  pub v : Spelt
  pub c : Spelt
  pub words : ws ≡ p ∷ cnf ∷ v ∷ c ∷ rest
  pub is_p : Name p (codes "p")
  pub is_cnf : Name cnf (codes "cnf")
  pub is_v : Number v variables
  pub is_c : Number c clauses
  pub some_variable : 1 ≤ variables
  pub few_variables : variables ≤ 65535
  pub variables_fit : variables ≤ variable_room
  pub few_clauses : clauses ≤ 16384
  pub clauses_fit : clauses ≤ clause_room
  pub place : q ≡ end_of c

first_name : (name : List ℕ) (ws : List Spelt) (size : ℕ) (g : Unit {0} × List Spelt × ℕ) → name_from name ws size ≡ Ok g → (w : Spelt) × (ws ≡ w ∷ g.1) × Name w name
first_name name [] size g e = absurd (no_ok g _ e)
first_name name (w ∷ ws) size g e =
    let t = then_ok (name_in name w) (λ n. Ok (tt, ws, end_of w)) g e in
    (w, ap (λ (h : Unit {0} × List Spelt × ℕ). w ∷ h.1) (ok_same (tt, ws, end_of w) g t.2), is_name name w t.1)

first_number : (ws : List Spelt) (size : ℕ) (g : (ℕ × ℕ) × List Spelt × ℕ) → number_from ws size ≡ Ok g → (w : Spelt) × (ws ≡ w ∷ g.1) × Number w g.0.0 × (g.2 ≡ end_of w)
first_number [] size g e = absurd (no_ok g _ e)
first_number (w ∷ ws) size g e =
    let t = then_ok (number_in w) (λ n. Ok ((n, start_of w), ws, end_of w)) g e in
    let s = ok_same ((t.0, start_of w), ws, end_of w) g t.2 in (
      w,
      ap (λ (h : (ℕ × ℕ) × List Spelt × ℕ). w ∷ h.1) s,
      subst (Number w) (ap (λ (h : (ℕ × ℕ) × List Spelt × ℕ). h.0.0) s) (is_number w t.0 t.1),
      sym (ap (λ (h : (ℕ × ℕ) × List Spelt × ℕ). h.2) s),
    )

first_count : (breaks : ℕ → Bool) (room : ℕ) (ws : List Spelt) (size : ℕ) (g : ℕ × List Spelt × ℕ) → count_from breaks room ws size ≡ Ok g → (w : Spelt) × (ws ≡ w ∷ g.1) × Number w g.0 × (g.2 ≡ end_of w) × (breaks g.0 ≡ false) × (g.0 ≤ room)
first_count breaks room ws size g e =
    let t = then_ok (number_from ws size) _ g e in
    let x = t.0 in
    let n = first_number ws size x t.1 in
    let a = cond_ok (breaks x.0.0) _ _ g t.2 in
    let b = cond_ok (ltb room x.0.0) _ _ g a.1 in
    let s = ok_same (x.0.0, x.1, x.2) g b.1 in
    let count : x.0.0 ≡ g.0 = ap (λ (h : ℕ × List Spelt × ℕ). h.0) s in (
      n.0,
      n.1 ∙ ap (λ (h : ℕ × List Spelt × ℕ). n.0 ∷ h.1) s,
      subst (Number n.0) count n.2,
      sym (ap (λ (h : ℕ × List Spelt × ℕ). h.2) s) ∙ n.3,
      ap breaks (sym count) ∙ a.0,
      subst (λ k. k ≤ room) count (ltb-false room x.0.0 b.0),
    )

four_words : (ws as' bs cs rest : List Spelt) (p cnf v c : Spelt) → ws ≡ p ∷ as' → as' ≡ cnf ∷ bs → bs ≡ v ∷ cs → cs ≡ c ∷ rest → ws ≡ p ∷ cnf ∷ v ∷ c ∷ rest
four_words ws as' bs cs rest p cnf v c e₁ e₂ e₃ e₄ = cc

pub header_sound : (ws : List Spelt) (variable_room clause_room size variables clauses : ℕ) (rest : List Spelt) (q : ℕ) → header_from ws variable_room clause_room size ≡ Ok ((variables, clauses), rest, q) → Header ws variable_room clause_room variables clauses rest q
header_sound ws variable_room clause_room size variables clauses rest q e =
    let g : (ℕ × ℕ) × List Spelt × ℕ = ((variables, clauses), rest, q) in
    let t₁ = then_ok (name_from (codes "p") ws size) _ g e in
    let t₂ = then_ok (name_from (codes "cnf") t₁.0.1 size) _ g t₁.2 in
    let t₃ = then_ok (count_from (λ n. eqb n 0 || ltb 65535 n) variable_room t₂.0.1 size) _ g t₂.2 in
    let t₄ = then_ok (count_from (λ n. ltb 16384 n) clause_room t₃.0.1 size) _ g t₃.2 in
    let p = first_name (codes "p") ws size t₁.0 t₁.1 in
    let cnf = first_name (codes "cnf") t₁.0.1 size t₂.0 t₂.1 in
    let v = first_count (λ n. eqb n 0 || ltb 65535 n) variable_room t₂.0.1 size t₃.0 t₃.1 in
    let c = first_count (λ n. ltb 16384 n) clause_room t₃.0.1 size t₄.0 t₄.1 in
    let s = ok_same ((t₃.0.0, t₄.0.0), t₄.0.1, t₄.0.2) g t₄.2 in
    let sv : t₃.0.0 ≡ variables = ap (λ (h : (ℕ × ℕ) × List Spelt × ℕ). h.0.0) s in
    let sc : t₄.0.0 ≡ clauses = ap (λ (h : (ℕ × ℕ) × List Spelt × ℕ). h.0.1) s in
    let some = or_parts (eqb t₃.0.0 0) (ltb 65535 t₃.0.0) v.4 in
    let no_zero = eqb-false t₃.0.0 0 some.0 in
    let few = ltb-false 65535 t₃.0.0 some.1 in
    let few_c = ltb-false 16384 t₄.0.0 c.4 in
    let fit_v = v.5 in
    let fit_c = c.5 in
    record {
      p = p.0;
      cnf = cnf.0;
      v = v.0;
      c = c.0;
      words = four_words ws t₁.0.1 t₂.0.1 t₃.0.1 rest p.0 cnf.0 v.0 c.0 p.1 cnf.1 v.1 (c.1 ∙ ap (λ (h : (ℕ × ℕ) × List Spelt × ℕ). c.0 ∷ h.1) s);
      is_p = p.2;
      is_cnf = cnf.2;
      is_v = subst (Number v.0) sv v.2;
      is_c = subst (Number c.0) sc c.2;
      some_variable = omega arith;
      few_variables = omega arith;
      variables_fit = omega arith;
      few_clauses = omega arith;
      clauses_fit = omega arith;
      place = sym (ap (λ (h : (ℕ × ℕ) × List Spelt × ℕ). h.2) s) ∙ c.3;
    }

first_name_reads : (name : List ℕ) (w : Spelt) (ws : List Spelt) (size : ℕ) → Name w name → name_from name (w ∷ ws) size ≡ Ok (tt, ws, end_of w)
first_name_reads name w ws size h =
    then_at (λ n. Ok (tt, ws, end_of w)) (reads_name name w h)

first_count_reads : (breaks : ℕ → Bool) (room : ℕ) (w : Spelt) (ws : List Spelt) (size n : ℕ) → Number w n → breaks n ≡ false → n ≤ room → count_from breaks room (w ∷ ws) size ≡ Ok (n, ws, end_of w)
first_count_reads breaks room w ws size n h b fits =
    then_at _ (then_at (λ k. Ok ((k, start_of w), ws, end_of w)) (reads_number w n h))
    ∙ cond-false (breaks n) _ _ b
    ∙ cond-false (ltb room n) _ _ (le-ltb room n fits)

pub header_complete : (p cnf v c : Spelt) (rest : List Spelt) (variable_room clause_room size variables clauses : ℕ) → Name p (codes "p") → Name cnf (codes "cnf") → Number v variables → Number c clauses → 1 ≤ variables → variables ≤ 65535 → variables ≤ variable_room → clauses ≤ 16384 → clauses ≤ clause_room → header_from (p ∷ cnf ∷ v ∷ c ∷ rest) variable_room clause_room size ≡ Ok ((variables, clauses), rest, end_of c)
header_complete p cnf v c rest variable_room clause_room size variables clauses is_p is_cnf is_v is_c some few fit few_c fit_c =
    then_at _ (first_name_reads (codes "p") p (cnf ∷ v ∷ c ∷ rest) size is_p)
    ∙ then_at _ (first_name_reads (codes "cnf") cnf (v ∷ c ∷ rest) size is_cnf)
    ∙ then_at _ (first_count_reads (λ n. eqb n 0 || ltb 65535 n) variable_room v (c ∷ rest) size variables is_v (or_from (eqb variables 0) (ltb 65535 variables) (ne_eqb variables 0 (λ z. omega arith)) (le-ltb 65535 variables few)) fit)
    ∙ then_at _ (first_count_reads (λ n. ltb 16384 n) clause_room c rest size clauses is_c (le-ltb 16384 clauses few_c) fit_c)
