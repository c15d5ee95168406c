-- Clauses are read just where the words spell lawful ones.
use Rattle.std.proofs.Common.{◌≡◌, ℕ, zero, suc, ◌+◌, ◌-◌, ◌<◌, ◌≤◌, true, false, not, ◌||◌, eqb, ltb, leb, ◌⊎◌, List, [], ◌∷◌, ◌++◌, map, length, Ok, Err, Result, sym, refl, ap, ◌∙◌, subst, ap₂, inl, inr, ⊎_elim, append_assoc, append-nil, arith, length-append}
use mathlib.Core.List.{map-append}
use Rattle.std.specs.List.{AllByRecursion}
use Rattle.std.proofs.ByRecursion.{All-push}
use Rattle.std.proofs.lemmas.List.{length_push}
use Rattle.std.proofs.lemmas.Bool.{cond_both, cond-false, eqb-true, leb-false, lt-leb, ne_eqb, not-false, not_from_true}
use Rattle.std.proofs.lemmas.Bool.Decides.{nat_tests}
use Rattle.base.specs.Causes.{Refusal}
use Rattle.words.specs.Words.{Spelt, letter, number, other, end_of, start_of}
use Rattle.words.specs.Due.{Got, and_then}
use Rattle.formula.specs.declared.tables.Literal.{Literal}
use Rattle.formula.specs.declared.tables.Variable.{Variable}
use Rattle.formula.specs.Groups.{is_undeclared, variable_at}
use Rattle.formula.specs.Clauses.{Clauses, add_clause, add_literal, clause_from, clauses_from, literal_of, names, no_clause}
use Rattle.spelling.specs.Dqbf.{Distinct, LawfulClause, literal_variable, literals_of, member, spans_from}
use Rattle.spelling.specs.FormulaGrammar.{ClauseText, MatrixText, Signed}
use Rattle.spelling.specs.FormulaGrammar.ClauseText.{ends, goes}
use Rattle.spelling.specs.FormulaGrammar.MatrixText.{none, more}
use Rattle.spelling.specs.FormulaLaw.{Behind}
use Rattle.spelling.proofs.PrefixLaws.{all_next, distinct_next, distinct_push}
use Rattle.spelling.proofs.ProperWords.{Proper, reads_literal, then_at}

-- the variables that literals name
pub names_member : (v : ℕ) (ls : List Literal) → names v ls ≡ member v (map literal_variable ls)
names_member v [] = refl
names_member v (l ∷ ls) = ap (λ b. eqb l.variable v || b) (names_member v ls)

-- what is left of proper words is proper
pub proper_left : {ws rest : List Spelt} {c : List Literal} → ClauseText ws c rest → AllByRecursion Proper ws → AllByRecursion Proper rest
proper_left (ends n) h = h.1
proper_left (goes s pos t) h = proper_left t h.1

pub proper_behind : {ws rest : List Spelt} {cs : List (List Literal)} → MatrixText ws cs rest → AllByRecursion Proper ws → AllByRecursion Proper rest
proper_behind none h = h
proper_behind (more t m) h = proper_behind m (proper_left t h)

-- one more literal of a lawful clause
lawful_push : (declared : List ℕ) (c : List Literal) (l : Literal) → LawfulClause declared c → length c < 1024 → names l.variable c ≡ false → member l.variable declared ≡ true → LawfulClause declared (c ++ l ∷ [])
lawful_push declared c l h few new known = (
  simp length_push (omega arith),
  subst Distinct (sym (map-append literal_variable c (l ∷ []))) (distinct_push (map literal_variable c) l.variable h.1 (sym (names_member l.variable c) ∙ new)),
  All-push (λ k. member k.variable declared ≡ true) c l h.2 known,
)

behind_more : (w : Spelt) (ws rest : List Spelt) (q : ℕ) → Behind ws rest q → Behind (w ∷ ws) rest q
behind_more w ws rest q b = (w ∷ b.0, b.1, ap (λ l. w ∷ l) b.2, b.3)

pub behind_both : (ws mid rest : List Spelt) (p q : ℕ) → Behind ws mid p → Behind mid rest q → Behind ws rest q
behind_both ws mid rest p q a b = (a.0 ++ a.1 ∷ b.0, b.1, a.2 ∙ ap (λ l. a.0 ++ a.1 ∷ l) b.2 ∙ sym (append_assoc a.0 (a.1 ∷ b.0) (b.1 ∷ rest)), b.3)

-- What an answer says of a clause behind the literals that were read.
abbrev Reads : List ℕ → List Literal → List Spelt → ℕ → Got (List Literal) → Type 0
Reads declared done ws room (Ok g) =
    (ls : List Literal) × (g.0 ≡ done ++ ls) × ClauseText ws ls g.1 × LawfulClause declared g.0 × (length g.0 ≤ room) × Behind ws g.1 g.2
Reads declared done ws room (Err e) = Unit {0}

reads_more : (declared : List ℕ) (done : List Literal) (l : Literal) (w : Spelt) (ws : List Spelt) (room : ℕ) (r : Got (List Literal)) → Signed w l.negative l.variable → 0 < l.variable → Reads declared (done ++ l ∷ []) ws room r → Reads declared done (w ∷ ws) room r
reads_more declared done l w ws room (Ok g) s pos h =
    (l ∷ h.0, h.1 ∙ append_assoc done (l ∷ []) h.0, goes s pos h.2, h.3, h.4, behind_more w ws g.1 g.2 h.5)
reads_more declared done l w ws room (Err e) s pos h = tt

-- The words spell n lawful clauses, which stand in `done` behind those that were read, and then the words that are left.
pub record MatrixRead (declared : List ℕ) (n : ℕ) (before : Clauses) (ws : List Spelt) (q room : ℕ) (done : Clauses) (rest : List Spelt) (q' : ℕ) : Type 0 where
  pub matrix : List (List Literal)
  pub count : length matrix ≡ n
  pub text : MatrixText ws matrix rest
  pub lawful : AllByRecursion (LawfulClause declared) matrix
  pub literals : done.literals ≡ before.literals ++ literals_of matrix
  pub spans : done.spans ≡ before.spans ++ spans_from (length before.literals) matrix
  pub fits : length (before.literals ++ literals_of matrix) ≤ room
  pub place : ((rest ≡ ws) × (q' ≡ q)) ⊎ Behind ws rest q'

abbrev ReadsAll : List ℕ → ℕ → Clauses → List Spelt → ℕ → ℕ → Got Clauses → Type 0
ReadsAll declared n before ws q room (Ok g) = MatrixRead declared n before ws q room g.0 g.1 g.2
ReadsAll declared n before ws q room (Err e) = Unit {0}

spans_more : (before : Clauses) (c : List Literal) (cs : List (List Literal)) → (add_clause before c).spans ++ spans_from (length (before.literals ++ c)) cs ≡ before.spans ++ spans_from (length before.literals) (c ∷ cs)
spans_more before c cs =
    ap (λ n. (add_clause before c).spans ++ spans_from n cs) (length-append before.literals c)
    ∙ append_assoc before.spans (record { first = length before.literals; len = length c } ∷ []) (spans_from (length before.literals + length c) cs)

reads_one : (declared : List ℕ) (n : ℕ) (before : Clauses) (c : List Literal) (ws mid : List Spelt) (q p room : ℕ) (r : Got Clauses) → ClauseText ws c mid → LawfulClause declared c → Behind ws mid p → ReadsAll declared n (add_clause before c) mid p room r → ReadsAll declared (suc n) before ws q room r
reads_one declared n before c ws mid q p room (Ok g) t lawful b h =
    let cs = h.matrix in
    let same : (before.literals ++ c) ++ literals_of cs ≡ before.literals ++ literals_of (c ∷ cs) = append_assoc before.literals c (literals_of cs) in
    record {
      matrix = c ∷ cs;
      count = ap suc h.count;
      text = more t h.text;
      lawful = (lawful, h.lawful);
      literals = h.literals ∙ same;
      spans = h.spans ∙ spans_more before c cs;
      fits = subst (λ ls. length ls ≤ room) same h.fits;
      place =
          inr
          (⊎_elim
          (λ s. subst (λ k. Behind ws g.1 k) (sym s.1) (subst (λ k. Behind ws k p) (sym s.0) b))
          (λ s. behind_both ws mid g.1 p g.2 b s)
          h.place);
    }
reads_one declared n before c ws mid q p room (Err e) t lawful b h = tt

module _ (known : ℕ) (vs : List Variable) (declared : List ℕ) (H : (v : ℕ) → 1 ≤ v → (ltb known v || is_undeclared (variable_at vs v).kind) ≡ not (member v declared)) where
  reads : (done : List Literal) (ws : List Spelt) (room size : ℕ) → AllByRecursion Proper ws → LawfulClause declared done → length done ≤ room → Reads declared done ws room (clause_from known vs done ws room size)
  reads done [] room size proper lawful fits = tt
  reads done (letter bs p ∷ ws) room size proper lawful fits = tt
  reads done (other bs p ∷ ws) room size proper lawful fits = tt
  reads done (number bs p n ∷ ws) room size proper lawful fits =
      let w = number bs p n in
      let v = n.value in
      let l = literal_of n in
      let next : Literal → Got (List Literal) = λ k. clause_from known vs (done ++ k ∷ []) ws room size in
      let judged : Result Literal Refusal → Type 0 = λ r. Reads declared done (w ∷ ws) room (and_then r next) in
      cond_both (eqb v 0) _ _ (Reads declared done (w ∷ ws) room)
      (λ z. let e = eqb-true v 0 z in ([], sym (append-nil done), ends (proper.0 e, e), lawful, fits, ([], w, refl, refl)))
      (λ z.
      let pos : 0 < v = grind (arith, nat_tests) in
      cond_both (leb 1024 (length done)) _ _ judged (λ _. tt)
      (λ few. cond_both (ltb known v || is_undeclared (variable_at vs v).kind) _ _ judged (λ _. tt)
      (λ new. cond_both (names v done) _ _ judged (λ _. tt)
      (λ once. cond_both (leb room (length done)) _ _ judged (λ _. tt)
      (λ free.
      let low = leb-false 1024 (length done) few in
      let left = leb-false room (length done) free in
      reads_more declared done l w ws room (next l) (refl, refl) pos
      (reads (done ++ l ∷ []) ws room size proper.1
      (lawful_push declared done l lawful low once (not-false (member v declared) (sym (H v pos) ∙ new)))
      (simp length_push (omega arith))))))))

  pub clause_sound : (ws : List Spelt) (room size : ℕ) (c : List Literal) (rest : List Spelt) (q : ℕ) → AllByRecursion Proper ws → clause_from known vs [] ws room size ≡ Ok (c, rest, q) → ClauseText ws c rest × LawfulClause declared c × (length c ≤ room) × Behind ws rest q
  clause_sound ws room size c rest q proper e =
      let h = subst (Reads declared [] ws room) e (reads [] ws room size proper (omega arith, tt, tt) (omega arith)) in
      (subst (λ ls. ClauseText ws ls rest) (sym h.1) h.2, h.3, h.4, h.5)

  accepts : {ws rest : List Spelt} {ls : List Literal} → ClauseText ws ls rest → (done : List Literal) (room size : ℕ) → LawfulClause declared (done ++ ls) → length (done ++ ls) ≤ room → (q : ℕ) × (clause_from known vs done ws room size ≡ Ok (done ++ ls, rest, q))
  accepts {rest = rest} (ends {w = w} h) done room size lawful fits =
      (end_of w, then_at _ (reads_literal w false 0 h) ∙ ap (λ c. Ok (c, rest, end_of w)) (sym (append-nil done)))
  accepts {rest = rest} (goes {w = w} {ws = ws} {l = l} {ls = ls} s pos t) done room size lawful fits =
      let v = l.variable in
      let long = length-append done (l ∷ ls) in
      let same : (done ++ l ∷ []) ++ ls ≡ done ++ l ∷ ls = append_assoc done (l ∷ []) ls in
      let few = lawful.0 in
      let new : names v done ≡ false =
      names_member v done ∙ distinct_next (map literal_variable done) v (map literal_variable ls) (subst Distinct (map-append literal_variable done (l ∷ ls)) lawful.1) in
      let known_v = all_next (λ (k : Literal). member k.variable declared ≡ true) done l ls lawful.2 in
      let rest_read = accepts t (done ++ l ∷ []) room size (subst (LawfulClause declared) (sym same) lawful) (subst (λ c. length c ≤ room) (sym same) fits) in
      let judged : add_literal known vs done room (record { negative = l.negative; value = v }) (start_of w) ≡ Ok l =
      cond-false (leb 1024 (length done)) _ _ (lt-leb 1024 (length done) (omega arith))
      ∙ cond-false (ltb known v || is_undeclared (variable_at vs v).kind) _ _ (H v pos ∙ not_from_true (member v declared) known_v)
      ∙ cond-false (names v done) _ _ new
      ∙ cond-false (leb room (length done)) _ _ (lt-leb room (length done) (omega arith)) in (
        rest_read.0,
        then_at _ (reads_literal w l.negative v s)
            ∙ cond-false (eqb v 0) _ _ (ne_eqb v 0 (λ z. omega arith))
            ∙ then_at (λ k. clause_from known vs (done ++ k ∷ []) ws room size) judged
            ∙ rest_read.1
            ∙ ap (λ c. Ok (c, rest, rest_read.0)) same,
      )

  pub clause_complete : (ws : List Spelt) (c : List Literal) (rest : List Spelt) (room size : ℕ) → ClauseText ws c rest → LawfulClause declared c → length c ≤ room → (q : ℕ) × (clause_from known vs [] ws room size ≡ Ok (c, rest, q))
  clause_complete ws c rest room size t lawful fits = accepts t [] room size lawful fits

  reads_next : (n : ℕ) (before : Clauses) (ws : List Spelt) (q room size : ℕ) (r : Got (List Literal)) → ((b : Clauses) (us : List Spelt) (p : ℕ) → AllByRecursion Proper us → length b.literals ≤ room → ReadsAll declared n b us p room (clauses_from known vs n b us p room size)) → AllByRecursion Proper ws → length before.literals ≤ room → Reads declared [] ws (room - length before.literals) r → ReadsAll declared (suc n) before ws q room (and_then r (λ c. clauses_from known vs n (add_clause before c.0) c.1 c.2 room size))
  reads_next n before ws q room size (Ok g) next proper fits h =
      let c = g.0 in
      let t = subst (λ ls. ClauseText ws ls g.1) (sym h.1) h.2 in
      let small = h.4 in
      reads_one declared n before c ws g.1 q g.2 room (clauses_from known vs n (add_clause before c) g.1 g.2 room size) t h.3 h.5
      (next (add_clause before c) g.1 g.2 (proper_left t proper) (simp length-append (omega arith)))
  reads_next n before ws q room size (Err e) next proper fits h = tt

  reads_all : (n : ℕ) (before : Clauses) (ws : List Spelt) (q room size : ℕ) → AllByRecursion Proper ws → length before.literals ≤ room → ReadsAll declared n before ws q room (clauses_from known vs n before ws q room size)
  reads_all zero before ws q room size proper fits =
      record {
        matrix = [];
        count = refl;
        text = none;
        lawful = tt;
        literals = sym (append-nil before.literals);
        spans = sym (append-nil before.spans);
        fits = simp append-nil fits;
        place = inl (refl, refl);
      }
  reads_all (suc n) before ws q room size proper fits =
      reads_next n before ws q room size (clause_from known vs [] ws (room - length before.literals) size)
      (λ b us p. reads_all n b us p room size) proper fits
      (reads [] ws (room - length before.literals) size proper (omega arith, tt, tt) (omega arith))

  pub clauses_sound : (n : ℕ) (ws : List Spelt) (q room size : ℕ) (done : Clauses) (rest : List Spelt) (q' : ℕ) → AllByRecursion Proper ws → clauses_from known vs n no_clause ws q room size ≡ Ok (done, rest, q') → MatrixRead declared n no_clause ws q room done rest q'
  clauses_sound n ws q room size done rest q' proper e =
      subst (ReadsAll declared n no_clause ws q room) e (reads_all n no_clause ws q room size proper (omega arith))

  accepts_all : {ws rest : List Spelt} {cs : List (List Literal)} → MatrixText ws cs rest → (before : Clauses) (q room size : ℕ) → AllByRecursion (LawfulClause declared) cs → length before.literals + length (literals_of cs) ≤ room → (q' : ℕ) × (clauses_from known vs (length cs) before ws q room size ≡ Ok (record { spans = before.spans ++ spans_from (length before.literals) cs; literals = before.literals ++ literals_of cs }, rest, q'))
  accepts_all {rest = rest} none before q room size lawful fits =
      (q, ap₂ (λ s l. Ok (record { spans = s; literals = l }, rest, q)) (sym (append-nil before.spans)) (sym (append-nil before.literals)))
  accepts_all {ws = ws} {rest = rest} (more {mid = mid} {c = c} {cs = cs} t m) before q room size lawful fits =
      let long = length-append c (literals_of cs) in
      let one = clause_complete ws c mid (room - length before.literals) size t lawful.0 (omega arith) in
      let all = accepts_all m (add_clause before c) one.0 room size lawful.1 (simp length-append (omega arith)) in (
        all.0,
        then_at _ one.1
            ∙ all.1
            ∙ ap₂ (λ s l. Ok (record { spans = s; literals = l }, rest, all.0)) (spans_more before c cs) (append_assoc before.literals c (literals_of cs)),
      )

  pub clauses_complete : (ws : List Spelt) (cs : List (List Literal)) (rest : List Spelt) (q room size : ℕ) → MatrixText ws cs rest → AllByRecursion (LawfulClause declared) cs → length (literals_of cs) ≤ room → (q' : ℕ) × (clauses_from known vs (length cs) no_clause ws q room size ≡ Ok (record { spans = spans_from 0 cs; literals = literals_of cs }, rest, q'))
  clauses_complete ws cs rest q room size t lawful fits = accepts_all t no_clause q room size lawful (omega arith)
