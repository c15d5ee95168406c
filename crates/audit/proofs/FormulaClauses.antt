-- What the audit's tests say of the clauses, and back: the tables hold a lawful matrix.
use Rattle.std.proofs.Common.{◌≡◌, ℕ, suc, ◌+◌, ◌-◌, ◌≤◌, Bool, true, false, cond, not, ◌&&◌, eqb, leb, List, [], ◌∷◌, ◌++◌, map, length, take, drop, replicate, Some, None, Option, sym, refl, ap, ◌∙◌, subst, ap₂, add-zero, arith}
use Rattle.std.specs.Option.{option_map_or}
use Rattle.std.specs.List.{AllByRecursion}
use Rattle.std.proofs.ByRecursion.{All-weaker}
use Rattle.std.proofs.lemmas.List.{append_assoc, append-nil, length-append, length-drop, length-take-le, map-append, take_at, drop_at, drop-drop}
use Rattle.std.proofs.Math.Seq.{take-add}
use Rattle.std.proofs.lemmas.Option.{none-some, same_Some}
use Rattle.std.proofs.lemmas.Bool.{and_parts, and_from, cond-true, eqb-true, eq-eqb, leb-true, le-leb, not-true, not-false, not_from_true, not_from_false}
use Rattle.words.specs.Tables.{padded}
use Rattle.formula.specs.declared.tables.Clause.{Clause}
use Rattle.formula.specs.declared.tables.Head.{Head}
use Rattle.formula.specs.declared.tables.Literal.{Literal}
use Rattle.formula.specs.declared.tables.Variable.{Variable}
use Rattle.formula.specs.Groups.{variable_at, is_undeclared}
use Rattle.formula.specs.Clauses.{names}
use Rattle.formula.specs.Reading.{no_span, no_literal}
use Rattle.spelling.specs.Dqbf.{member, Distinct, literal_variable, LawfulClause, literals_of, spans_from}
use Rattle.spelling.proofs.MatrixLaw.{names_member}
use Rattle.spelling.proofs.PrefixLaws.{distinct_push, distinct_next}
use Rattle.audit.specs.FormulaAudit.{clause_lawful, spans_end, zero_spans, zero_span, zero_literals, zero_literal, clauses_lawful}
use Rattle.audit.proofs.CircuitTables.{all_replicate, replicate_all, table_padded, padded_front, padded_rest}
use Rattle.audit.proofs.FormulaVariables.{on_true}

-- a literal of a variable that the records declare
abbrev Named : List Variable → Literal → Type 0
Named vs l = (1 ≤ l.variable) × (l.variable ≤ length vs) × (is_undeclared (variable_at vs l.variable).kind ≡ false)

cond_goes : {X : Type 0} (b : Bool) (m : Option X) (y : X) → cond b m None ≡ Some y → (b ≡ true) × (m ≡ Some y)
cond_goes true m y e = (refl, e)
cond_goes false m y e = absurd (none-some y e)

length_spans : (at : ℕ) (m : List (List Literal)) → length (spans_from at m) ≡ length m
length_spans at [] = refl
length_spans at (c ∷ m) = ap suc (length_spans (at + length c) m)

-- zeros
span_zero : (s : Clause) → zero_span s ≡ true → s ≡ no_span
span_zero s e =
    let a = and_parts (eqb s.first 0) (eqb s.len 0) e in
    ap₂ (λ (x y : ℕ). record { first = x; len = y }) (eqb-true s.first 0 a.0) (eqb-true s.len 0 a.1)

literal_zero : (l : Literal) → zero_literal l ≡ true → l ≡ no_literal
literal_zero l e =
    let a = and_parts (eqb l.variable 0) (not l.negative) e in
    ap₂ (λ (x : ℕ) (y : Bool). record { variable = x; negative = y }) (eqb-true l.variable 0 a.0) (not-true l.negative a.1)

-- the clauses that spans cut out, the first from `at`
abbrev matrix_of : ℕ → List Clause → List Literal → List (List Literal)
matrix_of at [] ls = []
matrix_of at (s ∷ ss) ls = take s.len (drop at ls) ∷ matrix_of (at + s.len) ss ls

record Cut (at : ℕ) (ss : List Clause) (ls : List Literal) (end : ℕ) (declared : List ℕ) : Type 0 where
  within : end ≤ length ls
  spans : spans_from at (matrix_of at ss ls) ≡ ss
  literals : take at ls ++ literals_of (matrix_of at ss ls) ≡ take end ls
  lawful : AllByRecursion (LawfulClause declared) (matrix_of at ss ls)

-- The tables hold a matrix of lawful clauses, and zeros behind it.
pub record MatrixHeld (h : Head) (cs : List Clause) (ls : List Literal) (declared : List ℕ) : Type 0 where
  pub matrix : List (List Literal)
  pub count : length matrix ≡ h.clauses
  pub lawful : AllByRecursion (LawfulClause declared) matrix
  pub clauses : cs ≡ padded no_span (spans_from 0 matrix) (length cs)
  pub literals : ls ≡ padded no_literal (literals_of matrix) (length ls)
  pub fits : length (literals_of matrix) ≤ length ls

-- one clause
module _ (vs : List Variable) where
  clause_is : (done ls : List Literal) → clause_lawful vs done ls ≡ true → Distinct (map literal_variable done) → Distinct (map literal_variable (done ++ ls)) × AllByRecursion (Named vs) ls
  clause_is done [] e d = (subst (λ (x : List Literal). Distinct (map literal_variable x)) (sym (append-nil done)) d, tt)
  clause_is done (l ∷ ls) e d =
      let v = l.variable in
      let a = and_parts _ (clause_lawful vs (done ++ l ∷ []) ls) e in
      let b = and_parts _ (not (names v done)) a.0 in
      let c = and_parts (leb 1 v && leb v (length vs)) (not (is_undeclared (variable_at vs v).kind)) b.0 in
      let f = and_parts (leb 1 v) (leb v (length vs)) c.0 in
      let new : member v (map literal_variable done) ≡ false = sym (names_member v done) ∙ not-true (names v done) b.1 in
      let pushed = subst Distinct (sym (map-append literal_variable done (l ∷ []))) (distinct_push (map literal_variable done) v d new) in
      let rest = clause_is (done ++ l ∷ []) ls a.1 pushed in (
        subst (λ (x : List Literal). Distinct (map literal_variable x)) (append_assoc done (l ∷ []) ls) rest.0,
        ((leb-true 1 v f.0, leb-true v (length vs) f.1, not-true (is_undeclared (variable_at vs v).kind) c.1), rest.1),
      )

  is_clause : (done ls : List Literal) → Distinct (map literal_variable (done ++ ls)) → AllByRecursion (Named vs) ls → clause_lawful vs done ls ≡ true
  is_clause done [] d h = refl
  is_clause done (l ∷ ls) d ((low, high, declared), h) =
      let v = l.variable in
      let new : names v done ≡ false = names_member v done ∙ distinct_next (map literal_variable done) v (map literal_variable ls) (subst Distinct (map-append literal_variable done (l ∷ ls)) d) in
      and_from _ _
      (and_from _ _
      (and_from _ _ (and_from _ _ (le-leb 1 v low) (le-leb v (length vs) high)) (not_from_false (is_undeclared (variable_at vs v).kind) declared))
      (not_from_false (names v done) new))
      (is_clause (done ++ l ∷ []) ls (subst (λ (x : List Literal). Distinct (map literal_variable x)) (sym (append_assoc done (l ∷ []) ls)) d) h)

  -- where the records tell which variables are declared
  module _ (declared : List ℕ) (range : (v : ℕ) → member v declared ≡ true → (1 ≤ v) × (v ≤ length vs)) (tells : (v : ℕ) → 1 ≤ v → v ≤ length vs → is_undeclared (variable_at vs v).kind ≡ not (member v declared)) where
    clause_has : (c : List Literal) → length c ≤ 1024 → clause_lawful vs [] c ≡ true → LawfulClause declared c
    clause_has c few e =
        let (d, h) = clause_is [] c e tt in
        (few, d, All-weaker (Named vs) (λ l. member l.variable declared ≡ true) (λ l n. not-false (member l.variable declared) (sym (tells l.variable n.0 n.1) ∙ n.2)) c h)

    has_clause : (c : List Literal) → LawfulClause declared c → clause_lawful vs [] c ≡ true
    has_clause c (few, d, h) =
        is_clause [] c d
        (All-weaker (λ l. member l.variable declared ≡ true) (Named vs)
        (λ l m. let (low, high) = range l.variable m in (low, high, tells l.variable low high ∙ not_from_true (member l.variable declared) m)) c h)

    spans_has : (at : ℕ) (ss : List Clause) (ls : List Literal) (end : ℕ) → at ≤ length ls → spans_end vs at ss ls ≡ Some end → Cut at ss ls end declared
    spans_has at [] ls end inside e =
        let same : at ≡ end = same_Some at end e in
        record { within = omega arith; spans = refl; literals = append-nil (take at ls) ∙ ap (λ n. take n ls) same; lawful = tt }
    spans_has at (s ∷ ss) ls end inside e =
        let c = take s.len (drop at ls) in
        let (t, go) = cond_goes (eqb s.first at && leb s.len 1024 && leb s.len (length ls - at) && clause_lawful vs [] c) (spans_end vs (at + s.len) ss ls) end e in
        let a = and_parts (eqb s.first at && leb s.len 1024 && leb s.len (length ls - at)) (clause_lawful vs [] c) t in
        let b = and_parts (eqb s.first at && leb s.len 1024) (leb s.len (length ls - at)) a.0 in
        let f = and_parts (eqb s.first at) (leb s.len 1024) b.0 in
        let first = eqb-true s.first at f.0 in
        let few = leb-true s.len 1024 f.1 in
        let room = leb-true s.len (length ls - at) b.1 in
        let long : length c ≡ s.len = length-take-le s.len (drop at ls) (simp length-drop room) in
        let rest = spans_has (at + s.len) ss ls end (omega arith) go in
        let m = matrix_of (at + s.len) ss ls in
        record {
          within = rest.within;
          spans = ap₂ ◌∷◌ (ap₂ (λ (x y : ℕ). record { first = x; len = y }) (sym first) long) (ap (λ n. spans_from (at + n) m) long ∙ rest.spans);
          literals = sym (append_assoc (take at ls) c (literals_of m)) ∙ ap (λ l. l ++ literals_of m) (sym (take-add at s.len ls)) ∙ rest.literals;
          lawful = (clause_has c (omega arith) a.1, rest.lawful);
        }

    has_spans : (at : ℕ) (m : List (List Literal)) (ls tail : List Literal) → at ≤ length ls → drop at ls ≡ literals_of m ++ tail → AllByRecursion (LawfulClause declared) m → spans_end vs at (spans_from at m) ls ≡ Some (at + length (literals_of m))
    has_spans at [] ls tail inside e h = ap (λ (n : ℕ). Some n) (sym (add-zero at))
    has_spans at (c ∷ m) ls tail inside e (lawful, h) =
        let back = literals_of m ++ tail in
        let cut : drop at ls ≡ c ++ back = e ∙ append_assoc c (literals_of m) tail in
        let room : length ls - at ≡ length c + length back = sym (length-drop at ls) ∙ ap length cut ∙ length-append c back in
        let front : take (length c) (drop at ls) ≡ c = ap (take (length c)) cut ∙ take_at c back (length c) refl in
        let next : drop (at + length c) ls ≡ back = sym (drop-drop (length c) at ls) ∙ ap (drop (length c)) cut ∙ drop_at c back (length c) refl in
        let sum : at + length c + length (literals_of m) ≡ at + length (c ++ literals_of m) = simp length-append (omega arith) in
        cond-true _ _ None
        (and_from _ _
        (and_from _ _ (and_from _ _ (eq-eqb at at refl) (le-leb (length c) 1024 lawful.0)) (le-leb (length c) (length ls - at) (omega arith)))
        (ap (clause_lawful vs []) front ∙ has_clause c lawful))
        ∙ has_spans (at + length c) m ls tail (omega arith) next h
        ∙ ap (λ (n : ℕ). Some n) sum

    pub clauses_have : (h : Head) (all : List Variable) (cs : List Clause) (ls : List Literal) → take h.variables all ≡ vs → h.clauses ≤ length cs → clauses_lawful h all cs ls ≡ true → MatrixHeld h cs ls declared
    clauses_have h all cs ls same fits e =
        let (end, run, tests) = on_true (spans_end (take h.variables all) 0 (take h.clauses cs) ls) _ e in
        let cut = spans_has 0 (take h.clauses cs) ls end (omega arith) (ap (λ x. spans_end x 0 (take h.clauses cs) ls) (sym same) ∙ run) in
        let m = matrix_of 0 (take h.clauses cs) ls in
        let a = and_parts (zero_spans (drop h.clauses cs)) (zero_literals (drop end ls)) tests in
        let count : length (take h.clauses cs) ≡ h.clauses = length-take-le h.clauses cs fits in
        let long : length (literals_of m) ≡ end = ap length cut.literals ∙ length-take-le end ls cut.within in
        record {
          matrix = m;
          count = sym (length_spans 0 m) ∙ ap length cut.spans ∙ count;
          lawful = cut.lawful;
          clauses = table_padded no_span cs h.clauses fits (all_replicate zero_span no_span span_zero (drop h.clauses cs) a.0) ∙ ap (λ (l : List Clause). padded no_span l (length cs)) (sym cut.spans);
          literals = table_padded no_literal ls end cut.within (all_replicate zero_literal no_literal literal_zero (drop end ls) a.1) ∙ ap (λ (l : List Literal). padded no_literal l (length ls)) (sym cut.literals);
          fits = omega (arith, long, cut.within);
        }

    pub have_clauses : (h : Head) (all : List Variable) (cs : List Clause) (ls : List Literal) → take h.variables all ≡ vs → MatrixHeld h cs ls declared → clauses_lawful h all cs ls ≡ true
    have_clauses h all cs ls same w =
        let m = w.matrix in
        let count : length (spans_from 0 m) ≡ h.clauses = length_spans 0 m ∙ w.count in
        let front = padded_front no_span cs (spans_from 0 m) (length cs) h.clauses count w.clauses in
        let back = padded_rest no_span cs (spans_from 0 m) (length cs) h.clauses count w.clauses in
        let behind = padded_rest no_literal ls (literals_of m) (length ls) (0 + length (literals_of m)) (omega arith) w.literals in
        let run : spans_end (take h.variables all) 0 (take h.clauses cs) ls ≡ Some (0 + length (literals_of m)) =
        ap₂ (λ (x : List Variable) (ss : List Clause). spans_end x 0 ss ls) same front ∙ has_spans 0 m ls (replicate (length ls - length (literals_of m)) no_literal) (omega arith) w.literals w.lawful in
        ap (λ (x : Option ℕ). option_map_or (λ end. zero_spans (drop h.clauses cs) && zero_literals (drop end ls)) x false) run
        ∙ and_from _ _
        (ap zero_spans back ∙ replicate_all zero_span no_span refl (length cs - length (spans_from 0 m)))
        (ap zero_literals behind ∙ replicate_all zero_literal no_literal refl (length ls - length (literals_of m)))
