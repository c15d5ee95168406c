-- The formula audit accepts exactly the tables that some accepted reading of some text leaves.
use Rattle.std.proofs.Common.{◌≡◌, ℕ, ◌+◌, ◌-◌, ◌^◌, ◌<◌, ◌≤◌, Bool, true, not, leb, List, length, get_or, take, Decides, sym, refl, ap, ◌∙◌, subst, ap₂, arith}
use Rattle.std.specs.List.{AllByRecursion}
use Rattle.std.proofs.ByRecursion.{All-weaker}
use Rattle.std.proofs.lemmas.List.{ext_get_or, get_or-take, length-take-le}
use Rattle.std.proofs.lemmas.Bool.{leb-true, le-leb, and_parts, and_from}
use Rattle.std.proofs.lemmas.Bool.Decides.{Decides-at}
use Rattle.words.specs.Words.{Spelt, words_from}
use Rattle.words.specs.Tables.{padded}
use Rattle.formula.specs.declared.tables.Clause.{Clause}
use Rattle.formula.specs.declared.tables.Head.{Head}
use Rattle.formula.specs.declared.tables.Literal.{Literal}
use Rattle.formula.specs.declared.tables.Variable.{Variable}
use Rattle.formula.specs.Groups.{no_variable, variable_at, is_undeclared, is_universal, is_existential}
use Rattle.formula.specs.Reading.{no_span, no_literal}
use Rattle.spelling.specs.Dqbf.{Declaration, Dqbf, Lawful, LawfulClause, member, universals_of, existentials_of, record_of}
use Rattle.spelling.proofs.ProperWords.{words_proper}
use Rattle.spelling.proofs.PrefixLaws.{LawfulPrefix, variables_of, record_undeclared, prefix_lawful}
use Rattle.spelling.proofs.FormulaLaws.{FormulaWasRead, parts_sound, parts_complete}
use Rattle.audit.specs.FormulaAudit.{head_lawful, variables_lawful, clauses_lawful, formula_lawful, LeavesFormula, LeftByAFormulaText}
use Rattle.audit.proofs.FormulaVariables.{Variables, decides_variables}
use Rattle.audit.proofs.FormulaPrefix.{prefix_universals, prefix_existentials, listed_distinct, listed_range, held_prefix, held_records, held_lawful, held_positions}
use Rattle.audit.proofs.FormulaPlaces.{declared_all}
use Rattle.audit.proofs.FormulaClauses.{MatrixHeld, clauses_have, have_clauses}
use Rattle.audit.proofs.FormulaTexts.{Small, SmallClause, formula_text}
use Rattle.audit.proofs.FormulaBounds.{variables_bound}
use Rattle.audit.proofs.FormulaLeft.{spells_within, prefix_variables_held}

-- the head
pub record Limits (h : Head) (variables clauses : ℕ) : Type 0 where
  pub some_variable : 1 ≤ h.variables
  pub few_variables : h.variables ≤ 65535
  pub variables_fit : h.variables ≤ variables
  pub few_clauses : h.clauses ≤ 16384
  pub clauses_fit : h.clauses ≤ clauses
  pub few_universals : h.universals ≤ 64
  pub few_existentials : h.existentials ≤ 4096

module _ (h : Head) (variables clauses : ℕ) where
  limits_are : head_lawful h variables clauses ≡ true → Limits h variables clauses
  limits_are e =
      let a = and_parts _ (leb h.existentials 4096) e in
      let b = and_parts _ (leb h.universals 64) a.0 in
      let c = and_parts _ (leb h.clauses clauses) b.0 in
      let d = and_parts _ (leb h.clauses 16384) c.0 in
      let f = and_parts _ (leb h.variables variables) d.0 in
      let g = and_parts (leb 1 h.variables) (leb h.variables 65535) f.0 in
      record {
        some_variable = leb-true 1 h.variables g.0;
        few_variables = leb-true h.variables 65535 g.1;
        variables_fit = leb-true h.variables variables f.1;
        few_clauses = leb-true h.clauses 16384 d.1;
        clauses_fit = leb-true h.clauses clauses c.1;
        few_universals = leb-true h.universals 64 b.1;
        few_existentials = leb-true h.existentials 4096 a.1;
      }

  are_limits : Limits h variables clauses → head_lawful h variables clauses ≡ true
  are_limits l =
      and_from _ _
      (and_from _ _
      (and_from _ _
      (and_from _ _
      (and_from _ _
      (and_from _ _ (le-leb 1 h.variables l.some_variable) (le-leb h.variables 65535 l.few_variables))
      (le-leb h.variables variables l.variables_fit))
      (le-leb h.clauses 16384 l.few_clauses))
      (le-leb h.clauses clauses l.clauses_fit))
      (le-leb h.universals 64 l.few_universals))
      (le-leb h.existentials 4096 l.few_existentials)

head_same : (x y : Head) → x.variables ≡ y.variables → x.clauses ≡ y.clauses → x.universals ≡ y.universals → x.existentials ≡ y.existentials → x ≡ y
head_same x y a b c d =
    ap₂ (λ (p q : ℕ). record { variables = p; clauses = q; universals = x.universals; existentials = x.existentials }) a b
    ∙ ap₂ (λ (p q : ℕ). record { variables = y.variables; clauses = y.clauses; universals = p; existentials = q }) c d

module _ (h : Head) (vs : List Variable) (cs : List Clause) (ls : List Literal) where
  abbrev known : ℕ
  known = h.variables

  abbrev Range : ℕ → Type 0
  Range v = (1 ≤ v) × (v ≤ known)

  abbrev front : List Variable
  front = take known vs

  module _ (fits : known ≤ length vs) where
    front_count : length front ≡ known
    front_count = length-take-le known vs fits

    front_at : (v : ℕ) → 1 ≤ v → v ≤ length front → variable_at front v ≡ variable_at vs v
    front_at v some most = get_or-take known vs (v - 1) no_variable (omega (arith, front_count))

    -- what the records tell, their front tells
    front_tells : (declared : List ℕ) → ((v : ℕ) → 1 ≤ v → v ≤ known → is_undeclared (variable_at vs v).kind ≡ not (member v declared)) → (v : ℕ) → 1 ≤ v → v ≤ length front → is_undeclared (variable_at front v).kind ≡ not (member v declared)
    front_tells declared tells v some most =
        ap (λ (x : Variable). is_undeclared x.kind) (front_at v some most) ∙ tells v some (omega (arith, front_count))

    front_range : (declared : List ℕ) → ((v : ℕ) → member v declared ≡ true → Range v) → (v : ℕ) → member v declared ≡ true → (1 ≤ v) × (v ≤ length front)
    front_range declared range v m = let (some, most) = range v m in (some, omega (arith, front_count))

  -- tables that pass are left by the text of their formula
  module _ (low : AllByRecursion (λ x. x.dependencies.bits < 2 ^ 64) vs) (l : Limits h (length vs) (length cs)) (a : Variables h vs) where
    abbrev few_u : h.universals ≤ 64
    few_u = l.few_universals

    abbrev few_e : h.existentials ≤ 4096
    few_e = l.few_existentials

    abbrev prefix : List Declaration
    prefix = held_prefix h vs few_u few_e low a

    lawful_prefix : LawfulPrefix known prefix
    lawful_prefix = held_lawful h vs few_u few_e low a

    records : (v : ℕ) → 1 ≤ v → record_of prefix v ≡ variable_at vs v
    records = held_records h vs few_u few_e low a

    range : (v : ℕ) → member v (variables_of prefix) ≡ true → Range v
    range v m = declared_all Range prefix v lawful_prefix.in_range m

    tells : (v : ℕ) → 1 ≤ v → v ≤ known → is_undeclared (variable_at vs v).kind ≡ not (member v (variables_of prefix))
    tells v some most = ap (λ (x : Variable). is_undeclared x.kind) (sym (records v some)) ∙ record_undeclared v 0 0 prefix

    module _ (m : MatrixHeld h cs ls (variables_of prefix)) where
      abbrev dqbf : Dqbf
      dqbf = record { variables = known; prefix = prefix; matrix = m.matrix }

      dqbf_lawful : Lawful dqbf
      dqbf_lawful =
          record {
            some_variable = l.some_variable;
            few_variables = l.few_variables;
            few_clauses = omega (arith, l.few_clauses, m.count);
            few_universals = lawful_prefix.few_universals;
            few_existentials = lawful_prefix.few_existentials;
            in_range = lawful_prefix.in_range;
            once = lawful_prefix.once;
            clauses = m.lawful;
          }

      small : (us : List ℕ) → AllByRecursion Range us → AllByRecursion Small us
      small us r = All-weaker Range Small (λ v b. (b.0, omega (arith, l.few_variables))) us r

      small_clauses : AllByRecursion SmallClause m.matrix
      small_clauses =
          All-weaker (LawfulClause (variables_of prefix)) SmallClause
          (λ c lawful. All-weaker (λ x. member x.variable (variables_of prefix) ≡ true) (λ x. Small x.variable) (λ x t. let (some, most) = range x.variable t in (some, omega (arith, l.few_variables))) c lawful.2)
          m.matrix m.lawful

      left : LeftByAFormulaText h vs cs ls
      left =
          let f = λ (v : ℕ). (variable_at vs v).dependencies in
          let us = a.universals in
          let es = a.existentials in
          let (text, bytes, spelt) = formula_text f us known es m.matrix l.few_variables (omega (arith, l.few_clauses, m.count))
          (listed_distinct is_universal (variable_at vs) known us a.universals_listed)
          (small us (listed_range is_universal (variable_at vs) known us a.universals_listed))
          (small es (listed_range is_existential (variable_at vs) known es a.existentials_listed))
          (held_positions h vs few_u few_e low a) small_clauses in
          let (g, accepted, read) = parts_complete {dqbf = dqbf} (length vs) (length cs) (length ls) (length text) spelt dqbf_lawful l.variables_fit (omega (arith, l.clauses_fit, m.count)) m.fits in
          let nu : h.universals ≡ g.head.universals = sym a.universals_count ∙ ap length (sym (prefix_universals f us es)) ∙ sym read.head_universals in
          let ne : h.existentials ≡ g.head.existentials = sym a.existentials_count ∙ ap length (sym (prefix_existentials f us es)) ∙ sym read.head_existentials in (
            text,
            0,
            record {
              bytes = bytes;
              formula = g;
              accepted = accepted;
              head = head_same h g.head (sym read.head_variables) (sym m.count ∙ sym read.head_clauses) nu ne;
              variables = ext_get_or no_variable vs g.variables (sym read.room)
                  (λ i b.
                  let shift : i ≡ i + 1 - 1 = omega arith in
                  ap (λ j. get_or vs j no_variable) shift ∙ sym (records (i + 1) (omega arith)) ∙ sym (read.records (i + 1) (omega arith) (omega arith)) ∙ ap (λ j. get_or g.variables j no_variable) (sym shift));
              clauses = m.clauses ∙ ap (λ (x : List Clause). padded no_span x (length cs)) (sym read.clauses);
              literals = m.literals ∙ ap (λ (x : List Literal). padded no_literal x (length ls)) (sym read.literals);
            },
          )

  pub lawful_left : formula_lawful h vs cs ls ≡ true → LeftByAFormulaText h vs cs ls
  lawful_left e =
      let a = and_parts _ (clauses_lawful h vs cs ls) e in
      let b = and_parts (head_lawful h (length vs) (length cs)) (variables_lawful h vs) a.0 in
      let l = limits_are h (length vs) (length cs) b.0 in
      let v = (decides_variables h vs l.variables_fit l.few_universals l.few_existentials).0 b.1 in
      let low = variables_bound h vs v in
      let declared = variables_of (prefix low l v) in
      left low l v (clauses_have front declared (front_range l.variables_fit declared (range low l v)) (front_tells l.variables_fit declared (tells low l v)) h vs cs ls refl l.clauses_fit a.1)

  -- tables that a reading leaves pass
  module _ (text : List ℕ) (place : ℕ) (l : LeavesFormula text place h vs cs ls) (dqbf : Dqbf) (rest : List Spelt) (read : FormulaWasRead (words_from text place) (length vs) (length cs) (length ls) l.formula dqbf rest) where
    head_variables : h.variables ≡ dqbf.variables
    head_variables = ap (λ (x : Head). x.variables) l.head ∙ read.head_variables

    head_clauses : h.clauses ≡ length dqbf.matrix
    head_clauses = ap (λ (x : Head). x.clauses) l.head ∙ read.head_clauses

    head_universals : h.universals ≡ length (universals_of dqbf.prefix)
    head_universals = ap (λ (x : Head). x.universals) l.head ∙ read.head_universals

    head_existentials : h.existentials ≡ length (existentials_of dqbf.prefix)
    head_existentials = ap (λ (x : Head). x.existentials) l.head ∙ read.head_existentials

    left_limits : Limits h (length vs) (length cs)
    left_limits =
        record {
          some_variable = omega (arith, head_variables, read.lawful.some_variable);
          few_variables = omega (arith, head_variables, read.lawful.few_variables);
          variables_fit = omega (arith, head_variables, read.variables_fit);
          few_clauses = omega (arith, head_clauses, read.lawful.few_clauses);
          clauses_fit = omega (arith, head_clauses, read.clauses_fit);
          few_universals = omega (arith, head_universals, read.lawful.few_universals);
          few_existentials = omega (arith, head_existentials, read.lawful.few_existentials);
        }

    read_prefix : LawfulPrefix known dqbf.prefix
    read_prefix = subst (λ (n : ℕ). LawfulPrefix n dqbf.prefix) (sym head_variables) (prefix_lawful dqbf read.lawful)

    read_records : (v : ℕ) → 1 ≤ v → v ≤ length vs → variable_at vs v ≡ record_of dqbf.prefix v
    read_records v some most = ap (λ x. get_or x (v - 1) no_variable) l.variables ∙ read.records v some most

    left_variables : Variables h vs
    left_variables = prefix_variables_held h vs dqbf.prefix left_limits.variables_fit read_prefix read_records head_universals head_existentials (spells_within read.spelt)

    left_matrix : MatrixHeld h cs ls (variables_of dqbf.prefix)
    left_matrix =
        record {
          matrix = dqbf.matrix;
          count = sym head_clauses;
          lawful = read.lawful.clauses;
          clauses = l.clauses ∙ ap (λ (x : List Clause). padded no_span x (length cs)) read.clauses;
          literals = l.literals ∙ ap (λ (x : List Literal). padded no_literal x (length ls)) read.literals;
          fits = read.literals_fit;
        }

    left_passes : formula_lawful h vs cs ls ≡ true
    left_passes =
        let declared = variables_of dqbf.prefix in
        and_from _ _
        (and_from _ _ (are_limits h (length vs) (length cs) left_limits)
        ((decides_variables h vs left_limits.variables_fit left_limits.few_universals left_limits.few_existentials).1 left_variables))
        (have_clauses front declared (front_range left_limits.variables_fit declared (λ v m. declared_all Range dqbf.prefix v read_prefix.in_range m))
        (front_tells left_limits.variables_fit declared
        (λ v some most. ap (λ (x : Variable). is_undeclared x.kind) (read_records v some (omega (arith, left_limits.variables_fit))) ∙ record_undeclared v 0 0 dqbf.prefix))
        h vs cs ls refl left_matrix)

  pub left_lawful : LeftByAFormulaText h vs cs ls → formula_lawful h vs cs ls ≡ true
  left_lawful (text, place, l) =
      let (dqbf, rest, read) = parts_sound (words_from text place) (length vs) (length cs) (length ls) (length text) l.formula (words_proper text place) l.accepted in
      left_passes text place l dqbf rest read

pub formula_audit : (h : Head) (vs : List Variable) (cs : List Clause) (ls : List Literal) → Decides (formula_lawful h vs cs ls) (LeftByAFormulaText h vs cs ls)
formula_audit h vs cs ls = (lawful_left h vs cs ls, left_lawful h vs cs ls)

-- so does any answer that is what the audit computes
pub formula_audited : {r : Bool} (h : Head) (vs : List Variable) (cs : List Clause) (ls : List Literal) → r ≡ formula_lawful h vs cs ls → Decides r (LeftByAFormulaText h vs cs ls)
formula_audited {r} h vs cs ls e = Decides-at r (formula_lawful h vs cs ls) e (formula_audit h vs cs ls)
