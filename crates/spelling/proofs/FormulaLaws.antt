-- A reading of a formula text accepts exactly what spells a lawful formula that fits the tables.
use Rattle.std.proofs.Common.{◌≡◌, ℕ, zero, suc, ◌+◌, ◌-◌, ◌<◌, ◌≤◌, false, not, ◌||◌, eqb, ltb, ◌⊎◌, List, [], ◌∷◌, ◌++◌, length, get_or, replicate, Ok, Err, Result, sym, refl, ap, ◌∙◌, subst, inl, inr, ⊎_elim, arith}
use Rattle.std.specs.List.{AllByRecursion}
use Rattle.std.proofs.lemmas.List.{length-replicate}
use Rattle.std.proofs.lemmas.Bool.{cases_Bool, cond_both, cond-false, le-ltb, ltb-false, ltb-true, ne_eqb, not_from_false, or_from, or_left}
use Rattle.base.specs.declared.faults.Fault.{Fault}
use Rattle.base.specs.Causes.{Refusal, told}
use Rattle.words.specs.Words.{Spelt, words_from, end_of}
use Rattle.words.specs.Due.{literal_in}
use Rattle.words.proofs.TableLaws.{padded_at}
use Rattle.words.specs.Tables.{padded}
use Rattle.formula.specs.declared.tables.Head.{Head}
use Rattle.formula.specs.declared.tables.Literal.{Literal}
use Rattle.formula.specs.declared.tables.Variable.{Variable}
use Rattle.formula.specs.Groups.{Declared, no_variable, variable_at, is_undeclared, nothing_declared, groups_from, outside}
use Rattle.formula.specs.Clauses.{Clauses, add_clause, add_literal, clause_from, clauses_from, no_clause}
use Rattle.formula.specs.Reading.{Formula, Tables, Agrees, header_from, parts_from, formula_from, head_read, no_literal, no_span}
use Rattle.spelling.specs.Dqbf.{Declaration, Dqbf, Lawful, variable_of, universals_of, existentials_of, member, record_of, literals_of, spans_from}
use Rattle.spelling.specs.FormulaGrammar.{Number, Groups, Stops, Spells}
use Rattle.spelling.specs.FormulaGrammar.Spells.{spells}
use Rattle.spelling.specs.FormulaLaw.{Accepts, Behind}
use Rattle.spelling.proofs.ProperWords.{Proper, words_proper, cond_ok, no_ok, ok_same, then_at, then_ok}
use Rattle.spelling.proofs.CircuitReads.{then_cases}
use Rattle.spelling.proofs.PrefixLaws.{variables_of, record_undeclared, prefix_lawful}
use Rattle.spelling.proofs.DeclaredLaws.{DeclaredAs, declared_start}
use Rattle.spelling.proofs.GroupsLaw.{groups_sound, groups_complete}
use Rattle.spelling.proofs.HeaderLaw.{Header, header_sound, header_complete}
use Rattle.spelling.proofs.MatrixLaw.{MatrixRead, behind_both, clauses_sound, clauses_complete}

-- the records tell which variables the prefix declares
not_beyond : (known v : ℕ) (ds : List Declaration) → AllByRecursion (λ d. (1 ≤ variable_of d) × (variable_of d ≤ known)) ds → known < v → member v (variables_of ds) ≡ false
not_beyond known v [] h over = refl
not_beyond known v (d ∷ ds) ((low, high), h) over =
    or_from (eqb (variable_of d) v) (member v (variables_of ds)) (ne_eqb (variable_of d) v (λ e. omega arith)) (not_beyond known v ds h over)

pub declared_tells : (known : ℕ) (d : Declared) (prefix : List Declaration) → DeclaredAs known d prefix → (v : ℕ) → 1 ≤ v → (ltb known v || is_undeclared (variable_at d.table v).kind) ≡ not (member v (variables_of prefix))
declared_tells known d prefix a v low =
    let told_so = is_undeclared (variable_at d.table v).kind in
    ⊎_elim
    (λ over.
    or_left (ltb known v) told_so over
    ∙ sym (not_from_false (member v (variables_of prefix)) (not_beyond known v prefix a.lawful.in_range (ltb-true known v over))))
    (λ under.
    let high = ltb-false known v under in
    ap (λ b. b || told_so) under
    ∙ ap (λ (x : Variable). is_undeclared x.kind) (a.records v low (omega (arith, a.room)))
    ∙ record_undeclared v 0 0 prefix)
    (cases_Bool (ltb known v))

-- the place behind words that were read
abbrev On : List Spelt → List Spelt → ℕ → ℕ → Type 0
On ws rest p q = ((rest ≡ ws) × (q ≡ p)) ⊎ Behind ws rest q

behind_on : (ws mid rest : List Spelt) (p q : ℕ) → Behind ws mid p → On mid rest p q → Behind ws rest q
behind_on ws mid rest p q (read, x, e, at) (inl (s, t)) = (read, x, e ∙ ap (λ l. read ++ x ∷ l) (sym s), t ∙ at)
behind_on ws mid rest p q b (inr c) = behind_both ws mid rest p q b c

all_back : {X : Type 0} (P : X → Type 0) (xs : List X) (y : X) (ys : List X) → AllByRecursion P (xs ++ y ∷ ys) → AllByRecursion P ys
all_back P [] y ys h = h.1
all_back P (x ∷ xs) y ys h = all_back P xs y ys h.1

proper_on : (ws rest : List Spelt) (p q : ℕ) → On ws rest p q → AllByRecursion Proper ws → AllByRecursion Proper rest
proper_on ws rest p q (inl (s, t)) h = subst (AllByRecursion Proper) (sym s) h
proper_on ws rest p q (inr (read, x, e, at)) h = all_back Proper read x rest (subst (AllByRecursion Proper) e h)

module _ (known : ℕ) (vs : List Variable) (room size : ℕ) where
  clause_place : (done : List Literal) (ws : List Spelt) (space : ℕ) (g : List Literal × List Spelt × ℕ) → clause_from known vs done ws space size ≡ Ok g → Behind ws g.1 g.2
  clause_place done [] space g e = absurd (no_ok g _ e)
  clause_place done (w ∷ ws) space g e =
      let t = then_ok (literal_in w) _ g e in
      let n = t.0 in
      cond_both (eqb n.value 0) _ _ (λ r. r ≡ Ok g → Behind (w ∷ ws) g.1 g.2)
      (λ z s. subst (λ (h : List Literal × List Spelt × ℕ). Behind (w ∷ ws) h.1 h.2) (ok_same (done, ws, end_of w) g s) ([], w, refl, refl))
      (λ z s.
      let u = then_ok (add_literal known vs done space n _) _ g s in
      let (read, x, same, at) = clause_place (done ++ u.0 ∷ []) ws space g u.2 in
      (w ∷ read, x, ap (λ l. w ∷ l) same, at))
      t.2

  clauses_place : (n : ℕ) (done : Clauses) (ws : List Spelt) (q : ℕ) (g : Clauses × List Spelt × ℕ) → clauses_from known vs n done ws q room size ≡ Ok g → On ws g.1 q g.2
  clauses_place zero done ws q g e =
      let s = ok_same (done, ws, q) g e in
      inl (sym (ap (λ (h : Clauses × List Spelt × ℕ). h.1) s), sym (ap (λ (h : Clauses × List Spelt × ℕ). h.2) s))
  clauses_place (suc n) done ws q g e =
      let t = then_ok (clause_from known vs [] ws (room - length done.literals) size) _ g e in
      let c = t.0 in
      inr
      (behind_on ws c.1 g.1 c.2 g.2 (clause_place [] ws (room - length done.literals) c t.1)
      (clauses_place n (add_clause done c.0) c.1 c.2 g t.2))

-- The words spell this lawful formula, and it is what was read, for tables of these lengths; then the words that are left.
pub record FormulaWasRead (ws : List Spelt) (variable_room clause_room literal_room : ℕ) (f : Formula) (dqbf : Dqbf) (rest : List Spelt) : Type 0 where
  pub spelt : Spells ws dqbf rest
  pub lawful : Lawful dqbf
  pub variables_fit : dqbf.variables ≤ variable_room
  pub clauses_fit : length dqbf.matrix ≤ clause_room
  pub literals_fit : length (literals_of dqbf.matrix) ≤ literal_room
  pub head_variables : f.head.variables ≡ dqbf.variables
  pub head_clauses : f.head.clauses ≡ length dqbf.matrix
  pub head_universals : f.head.universals ≡ length (universals_of dqbf.prefix)
  pub head_existentials : f.head.existentials ≡ length (existentials_of dqbf.prefix)
  pub room : length f.variables ≡ variable_room
  pub records : (v : ℕ) → 1 ≤ v → v ≤ variable_room → get_or f.variables (v - 1) no_variable ≡ record_of dqbf.prefix v
  pub clauses : f.clauses ≡ spans_from 0 dqbf.matrix
  pub literals : f.literals ≡ literals_of dqbf.matrix
  pub behind : Behind ws rest f.place

abbrev formula_of : (ℕ × ℕ) × List Spelt × ℕ → Declared × List Spelt × ℕ → Clauses × List Spelt × ℕ → Formula
formula_of h d c =
    record {
      head = record { variables = h.0.0; clauses = h.0.1; universals = d.0.universals; existentials = d.0.existentials };
      variables = d.0.table;
      clauses = c.0.spans;
      literals = c.0.literals;
      place = c.2;
    }

module _ (ws : List Spelt) (variable_room clause_room literal_room size : ℕ) where
  read_parts : (h : (ℕ × ℕ) × List Spelt × ℕ) (d : Declared × List Spelt × ℕ) (c : Clauses × List Spelt × ℕ) (prefix : List Declaration) → Header ws variable_room clause_room h.0.0 h.0.1 h.1 h.2 → Groups [] h.1 prefix d.1 → Stops d.1 → DeclaredAs h.0.0 d.0 prefix → On h.1 d.1 h.2 d.2 → length d.0.table ≡ variable_room → (m : MatrixRead (variables_of prefix) h.0.1 no_clause d.1 d.2 literal_room c.0 c.1 c.2) → FormulaWasRead ws variable_room clause_room literal_room (formula_of h d c) (record { variables = h.0.0; prefix = prefix; matrix = m.matrix }) c.1
  read_parts h d c prefix hr gs stops a at long m =
      let dqbf : Dqbf = record { variables = h.0.0; prefix = prefix; matrix = m.matrix } in
      let count = m.count in
      let law = a.lawful in
      record {
        spelt = subst (λ l. Spells l dqbf c.1) (sym hr.words) (spells hr.is_p hr.is_cnf hr.is_v (subst (Number hr.c) (sym count) hr.is_c) gs stops m.text);
        lawful = record {
          some_variable = hr.some_variable;
          few_variables = hr.few_variables;
          few_clauses = omega (arith, hr.few_clauses);
          few_universals = law.few_universals;
          few_existentials = law.few_existentials;
          in_range = law.in_range;
          once = law.once;
          clauses = m.lawful;
        };
        variables_fit = hr.variables_fit;
        clauses_fit = omega (arith, hr.clauses_fit);
        literals_fit = m.fits;
        head_variables = refl;
        head_clauses = sym count;
        head_universals = a.universals;
        head_existentials = a.existentials;
        room = long;
        records = λ v low high. a.records v low (omega arith);
        clauses = m.spans;
        literals = m.literals;
        behind = behind_on ws d.1 c.1 d.2 c.2
            (behind_on ws h.1 d.1 h.2 d.2 (hr.p ∷ hr.cnf ∷ hr.v ∷ [], hr.c, hr.words, hr.place) at) m.place;
      }

  read_sound : (h : (ℕ × ℕ) × List Spelt × ℕ) (d : Declared × List Spelt × ℕ) (c : Clauses × List Spelt × ℕ) → AllByRecursion Proper ws → header_from ws variable_room clause_room size ≡ Ok h → groups_from h.0.0 outside (nothing_declared (replicate variable_room no_variable)) h.1 h.2 size ≡ Ok d → clauses_from h.0.0 d.0.table h.0.1 no_clause d.1 d.2 literal_room size ≡ Ok c → (dqbf : Dqbf) × (rest : List Spelt) × FormulaWasRead ws variable_room clause_room literal_room (formula_of h d c) dqbf rest
  read_sound h d c proper he de ce =
      let known = h.0.0 in
      let hr = header_sound ws variable_room clause_room size known h.0.1 h.1 h.2 he in
      let (prefix, gs, stops, a, at, long) = groups_sound known size _ d.0 [] h.1 d.1 h.2 d.2 (declared_start known variable_room hr.variables_fit) de in
      let behind = all_back Proper (hr.p ∷ hr.cnf ∷ hr.v ∷ []) hr.c h.1 (subst (AllByRecursion Proper) hr.words proper) in
      let left = proper_on h.1 d.1 h.2 d.2 at behind in
      let m = clauses_sound known d.0.table (variables_of prefix) (declared_tells known d.0 prefix a) h.0.1 d.1 d.2 literal_room size c.0 c.1 c.2 left ce in
      (_, c.1, read_parts h d c prefix hr gs stops a at (long ∙ length-replicate variable_room no_variable) m)

  -- SOUND: what the reading accepts is a lawful formula that fits.
  pub parts_sound : (f : Formula) → AllByRecursion Proper ws → parts_from ws variable_room clause_room literal_room size ≡ Ok f → (dqbf : Dqbf) × (rest : List Spelt) × FormulaWasRead ws variable_room clause_room literal_room f dqbf rest
  parts_sound f proper e =
      then_cases (header_from ws variable_room clause_room size) _ f e
      (λ h he e. then_cases (groups_from h.0.0 outside (nothing_declared (replicate variable_room no_variable)) h.1 h.2 size) _ f e
      (λ d de e. then_cases (clauses_from h.0.0 d.0.table h.0.1 no_clause d.1 d.2 literal_room size) _ f e
      (λ c ce e.
      subst (λ (g : Formula). (dqbf : Dqbf) × (rest : List Spelt) × FormulaWasRead ws variable_room clause_room literal_room g dqbf rest)
      (ok_same (formula_of h d c) f e) (read_sound h d c proper he de ce))))

-- COMPLETE: words that spell a lawful formula that fits are read, and it is what is read.
pub parts_complete : {ws rest : List Spelt} {dqbf : Dqbf} (variable_room clause_room literal_room size : ℕ) → Spells ws dqbf rest → Lawful dqbf → dqbf.variables ≤ variable_room → length dqbf.matrix ≤ clause_room → length (literals_of dqbf.matrix) ≤ literal_room → (f : Formula) × (parts_from ws variable_room clause_room literal_room size ≡ Ok f) × FormulaWasRead ws variable_room clause_room literal_room f dqbf rest
parts_complete {dqbf = dqbf} variable_room clause_room literal_room size (spells {p} {cnf} {v} {c} {ws} {mid} {rest} is_p is_cnf is_v is_c gs stops text) lawful vfit cfit lfit =
    let known = dqbf.variables in
    let n = length dqbf.matrix in
    let all = p ∷ cnf ∷ v ∷ c ∷ ws in
    let he = header_complete p cnf v c ws variable_room clause_room size known n is_p is_cnf is_v is_c lawful.some_variable lawful.few_variables vfit lawful.few_clauses cfit in
    let hr = header_sound all variable_room clause_room size known n ws (end_of c) he in
    let start = nothing_declared (replicate variable_room no_variable) in
    let begun = declared_start known variable_room vfit in
    let (d, at, de, a) = groups_complete known size gs stops (prefix_lawful dqbf lawful) start (end_of c) begun in
    let g = groups_sound known size start d [] ws mid (end_of c) at begun de in
    let (to, ce) = clauses_complete known d.table (variables_of dqbf.prefix) (declared_tells known d dqbf.prefix a) mid dqbf.matrix rest at literal_room size text lawful.clauses lfit in
    let read : Clauses = record { spans = spans_from 0 dqbf.matrix; literals = literals_of dqbf.matrix } in (
      formula_of ((known, n), ws, end_of c) (d, mid, at) (read, rest, to),
      then_at _ he ∙ then_at _ de ∙ then_at _ ce,
      read_parts all variable_room clause_room literal_room size ((known, n), ws, end_of c) (d, mid, at) (read, rest, to) dqbf.prefix hr gs stops a g.4 (g.5 ∙ length-replicate variable_room no_variable)
          (record { matrix = dqbf.matrix; count = refl; text = text; lawful = lawful.clauses; literals = refl; spans = refl; fits = lfit; place = clauses_place known d.table literal_room size n no_clause mid at (read, rest, to) ce }),
    )

-- the whole text
length_spans : (at : ℕ) (cs : List (List Literal)) → length (spans_from at cs) ≡ length cs
length_spans at [] = refl
length_spans at (c ∷ cs) = ap suc (length_spans (at + length c) cs)

-- the answer, and the tables that it leaves
module _ (text : List ℕ) (p q variable_room clause_room literal_room : ℕ) (t : Tables) where
  accepted : (h : Head) (f : Formula) (dqbf : Dqbf) (rest : List Spelt) → length text ≤ 16777216 → FormulaWasRead (words_from text p) variable_room clause_room literal_room f dqbf rest → Ok h ≡ head_read (Ok f) → t.variables ≡ f.variables → t.clauses ≡ padded no_span f.clauses clause_room → t.literals ≡ padded no_literal f.literals literal_room → q ≡ f.place → Accepts text p (Ok h) t q
  accepted h f dqbf rest short r he ve ce le qe =
      let head = ok_same h f.head he in
      let long : length t.variables ≡ variable_room = ap length ve ∙ r.room in
      let matrix = dqbf.matrix in
      let spans = padded_at no_span (spans_from 0 matrix) t.clauses clause_room (simp length_spans r.clauses_fit) (ce ∙ ap (λ l. padded no_span l clause_room) r.clauses) in
      let literals = padded_at no_literal (literals_of matrix) t.literals literal_room r.literals_fit (le ∙ ap (λ l. padded no_literal l literal_room) r.literals) in (
        dqbf,
        rest,
        short,
        r.spelt,
        r.lawful,
        record { variables = omega (arith, r.variables_fit); clauses = omega (arith, spans.0, length_spans 0 matrix); literals = literals.0 },
        record {
          head_variables = ap (λ (x : Head). x.variables) head ∙ r.head_variables;
          head_clauses = ap (λ (x : Head). x.clauses) head ∙ r.head_clauses;
          head_universals = ap (λ (x : Head). x.universals) head ∙ r.head_universals;
          head_existentials = ap (λ (x : Head). x.existentials) head ∙ r.head_existentials;
          variables = λ v low high. ap (λ l. get_or l (v - 1) no_variable) ve ∙ r.records v low (omega arith);
          clauses = spans.1;
          literals = literals.1;
        },
        subst (Behind (words_from text p) rest) (sym qe) r.behind,
      )

  by_answer : (was : Tables) (r : Result Head Fault) (f : Result Formula Refusal) → length was.variables ≡ variable_room → length was.clauses ≡ clause_room → length was.literals ≡ literal_room → formula_from text p variable_room clause_room literal_room ≡ f → Agrees f r was t p q → Accepts text p r t q
  by_answer was (Ok h) (Ok f) vr cr lr e a =
      let (short, parts) = cond_ok (ltb 16777216 (length text)) _ _ f e in
      let (dqbf, rest, r) = parts_sound (words_from text p) variable_room clause_room literal_room (length text) f (words_proper text p) parts in
      accepted h f dqbf rest (ltb-false 16777216 (length text) short) r a.head a.variables (a.clauses ∙ ap (padded no_span f.clauses) cr) (a.literals ∙ ap (padded no_literal f.literals) lr) a.place
  by_answer was (Ok h) (Err x) vr cr lr e a = absurd (no_ok h x (sym a.head))
  by_answer was (Err x) (Ok f) vr cr lr e a = absurd (no_ok f.head (told x) a.head)
  by_answer was (Err x) (Err y) vr cr lr e a = λ dqbf rest short s lawful fits.
      let vl : length t.variables ≡ variable_room = ap length a.variables ∙ length-replicate (length was.variables) no_variable ∙ vr in
      let cl : length t.clauses ≡ clause_room = ap length a.clauses ∙ length-replicate (length was.clauses) no_span ∙ cr in
      let ll : length t.literals ≡ literal_room = ap length a.literals ∙ length-replicate (length was.literals) no_literal ∙ lr in
      let r = parts_complete variable_room clause_room literal_room (length text) s lawful (omega arith) (omega arith) (omega arith) in
      no_ok r.0 y (sym e ∙ cond-false (ltb 16777216 (length text)) _ _ (le-ltb 16777216 (length text) short) ∙ r.1)

pub formula_accepts : (text : List ℕ) (p q : ℕ) (r : Result Head Fault) (was is : Tables) → Agrees (formula_from text p (length was.variables) (length was.clauses) (length was.literals)) r was is p q → Accepts text p r is q
formula_accepts text p q r was is a = by_answer text p q _ _ _ is was r _ refl refl refl refl a
