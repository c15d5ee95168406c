-- A clause under a word of values is true in every model of the formula that the tables hold.
use Rattle.std.proofs.Common.{◌≡◌, ℕ, ◌-◌, ◌/◌, ◌%◌, ◌≤◌, Bool, true, false, ◌&&◌, eqb, ◌⊎◌, List, [], ◌∷◌, length, Option, Some, None, cond, Ok, sym, refl, ap, ◌∙◌, subst, inl, inr, ⊎_elim, arith}
use Rattle.std.specs.List.{AllByRecursion, cons_option}
use Rattle.std.proofs.ByRecursion.{All-get_or}
use Rattle.std.proofs.lemmas.Bool.{both_ways, eq-eqb, ne_eqb, or_cases, or_left, or_parts, or_right}
use Rattle.base.specs.declared.values.ValueWord.{ValueWord}
use Rattle.base.specs.Words.{has_bit, common_word}
use Rattle.base.proofs.WordLaws.{has_common}
use Rattle.formula.specs.declared.tables.Kind.{Kind}
use Rattle.formula.specs.declared.tables.Kind.TheVariants as kind
use Rattle.formula.specs.declared.tables.Literal.{Literal}
use Rattle.formula.specs.declared.tables.Variable.{Variable}
use Rattle.formula.specs.Groups.{is_universal, is_existential, is_undeclared}
use Rattle.clauses.specs.declared.entry.Entry.{Entry}
use Rattle.clauses.specs.Worlds.{true_in}
use Rattle.records.specs.declared.step.Premise.{Premise}
use Rattle.records.specs.declared.step.Premise.TheVariants as premise
use Rattle.spelling.specs.Dqbf.{Declaration, Dqbf, Lawful, member, record_of}
use Rattle.spelling.proofs.PrefixLaws.{variables_of, place_universal}
use Rattle.spelling.proofs.ProperWords.{no_ok}
use Rattle.audit.proofs.FormulaPlaces.{existential_place}
use Rattle.models.specs.CircuitValues.{existential_at}
use Rattle.models.specs.HeldTables.{RowsOfFormula, record_at, clause_of}
use Rattle.models.specs.Models.{Assignment, Functions, signed, universal_at, literal_value, clause_value, Agree, DependsOnAllowed, IsModel}
use Rattle.models.proofs.HeldLaws.{clause_held, clause_short, literals_declared, record_declared, kind_declared}
use Rattle.models.proofs.ValueLaws.{value_universal, value_existential, existential_declared}
use Rattle.expansion.specs.Instances.{annotated, true_universal, some_universal_true, instance, falsity_claim}
use Rattle.expansion.specs.ModelWorlds.{Model, assignment_by, function_value, model_world, HoldsInModels}
use Rattle.expansion.proofs.ClaimLaws.{claimed}

-- what the literal of a variable gives, by the variable's kind
abbrev annotated_by : Kind → Variable → Bool → ValueWord → Option Entry
annotated_by k x negative values = cond (is_existential k) (Some (annotated x negative values)) None

-- the code of a lawful position says the position and the sign
code_half : (x : Variable) (negative : Bool) (values : ValueWord) → x.position ≤ 4096 → (annotated x negative values).code / 2 ≡ x.position
code_half x true values h = omega arith
code_half x false values h = omega arith

code_parity : (x : Variable) (negative : Bool) (values : ValueWord) → eqb ((annotated x negative values).code % 2) 1 ≡ negative
code_parity x true values = eq-eqb ((annotated x true values).code % 2) 1 (omega arith)
code_parity x false values = ne_eqb ((annotated x false values).code % 2) 1 (λ e. omega arith)

module _ {f : Dqbf} (lawful : Lawful f) (values : ValueWord) where
  -- the values of a set of dependencies alone agree with all values on that set
  agree_common : (d : ValueWord) → Agree f.prefix d (assignment_by f.prefix (common_word values d)) (assignment_by f.prefix values)
  agree_common d k low high there =
      let u = universal_at f.prefix k in
      let at : (record_of f.prefix u).position ≡ k = (place_universal f.prefix u k lawful.once (low, high, refl)).1 in
      let P : ℕ → Type 0 = λ p. has_bit (common_word values d) p ≡ has_bit values p in
      let both : (a b : Bool) → b ≡ true → (a && b) ≡ a = λ a b e. ap (λ (x : Bool). a && x) e ∙ elim a as (λ x. (x && true) ≡ x) [ true ↦ refl | false ↦ refl ] in
      subst P (sym at) (has_common values d k ∙ both (has_bit values k) (has_bit d k) there)

  module _ {F : Functions} (model : IsModel f F) where
    -- an annotated literal is true just where the literal is, under the values
    annotated_value : (v : ℕ) (negative : Bool) → is_existential (record_of f.prefix v).kind ≡ true → function_value f.prefix F (annotated (record_of f.prefix v) negative values) ≡ signed negative (F v (assignment_by f.prefix values))
    annotated_value v negative is =
        let x = record_of f.prefix v in
        let (low, high, stands) = existential_place f.prefix v is in
        let few : x.position ≤ 4096 = omega (arith, lawful.few_existentials) in
        let τ : Assignment = assignment_by f.prefix (common_word values x.dependencies) in
        let same : F v τ ≡ F v (assignment_by f.prefix values) = existential_declared (DependsOnAllowed f.prefix F) f.prefix v is model.allowed τ (assignment_by f.prefix values) (agree_common x.dependencies) in
        ap (λ (k : ℕ). signed (eqb ((annotated x negative values).code % 2) 1) (F (existential_at f.prefix k) τ)) (code_half x negative values few)
        ∙ ap (λ (b : Bool). signed b (F (existential_at f.prefix x.position) τ)) (code_parity x negative values)
        ∙ ap (λ (y : ℕ). signed negative (F y τ)) stands
        ∙ ap (signed negative) same

module _ (t : RowsOfFormula) (m : Model t) (values : ValueWord) where
  abbrev prefix : List Declaration
  prefix = m.formula.prefix

  abbrev σ : Assignment
  σ = assignment_by prefix values

  -- the value of a literal by its variable's record
  universal_signed : (v : ℕ) (negative : Bool) → is_universal (record_of prefix v).kind ≡ true → literal_value m.formula m.functions σ (record { variable = v; negative = negative }) ≡ signed negative (has_bit values (record_of prefix v).position)
  universal_signed v negative is = ap (signed negative) (value_universal prefix m.functions σ v is)

  existential_signed : (v : ℕ) (negative : Bool) → is_existential (record_of prefix v).kind ≡ true → literal_value m.formula m.functions σ (record { variable = v; negative = negative }) ≡ function_value prefix m.functions (annotated (record_of prefix v) negative values)
  existential_signed v negative is =
      ap (signed negative) (value_existential prefix m.functions σ v is)
      ∙ sym (annotated_value m.held.lawful values m.is_model v negative is)

  -- one literal more: if it is true it is no universal, and then its entry is true
  one_more : (l : Literal) (k : Kind) (rest : List Entry) → k ≡ (record_of prefix l.variable).kind → is_undeclared (record_of prefix l.variable).kind ≡ false → (is_universal k && signed l.negative (has_bit values (record_of prefix l.variable).position)) ≡ false → (literal_value m.formula m.functions σ l ≡ true) ⊎ (true_in (model_world t m) rest ≡ true) → true_in (model_world t m) (cons_option (annotated_by k (record_of prefix l.variable) l.negative values) rest) ≡ true
  one_more l kind.Undeclared rest e declared untrue h = absurd (both_ways _ declared (sym (ap is_undeclared e)))
  one_more l kind.Universal rest e declared untrue (inl h) =
      absurd (both_ways _ (universal_signed l.variable l.negative (sym (ap is_universal e)) ∙ untrue) h)
  one_more l kind.Universal rest e declared untrue (inr h) = h
  one_more l kind.Existential rest e declared untrue (inl h) =
      or_left _ _ (sym (existential_signed l.variable l.negative (sym (ap is_existential e))) ∙ h)
  one_more l kind.Existential rest e declared untrue (inr h) =
      or_right (function_value prefix m.functions (annotated (record_of prefix l.variable) l.negative values)) _ h

  -- the same of a whole clause of declared variables
  instance_holds : (ls : List Literal) → AllByRecursion (λ l. member l.variable (variables_of prefix) ≡ true) ls → clause_value m.formula m.functions σ ls ≡ true → some_universal_true t.variables values ls ≡ false → true_in (model_world t m) (instance t.variables values ls) ≡ true
  instance_holds [] declared h n = absurd (both_ways false refl h)
  instance_holds (l ∷ ls) (d, declared) h n =
      let w = model_world t m in
      let rest = instance t.variables values ls in
      let parts = or_parts (true_universal t.variables values l) (some_universal_true t.variables values ls) n in
      let same : record_at t.variables l.variable ≡ record_of prefix l.variable = record_declared m.held l.variable d in
      let untrue = sym (ap (λ (x : Variable). is_universal x.kind && signed l.negative (has_bit values x.position)) same) ∙ parts.0 in
      let either : (literal_value m.formula m.functions σ l ≡ true) ⊎ (true_in w rest ≡ true) = ⊎_elim (λ a. inl a) (λ b. inr (instance_holds ls declared b parts.1)) (or_cases _ _ h) in
      ap (λ (x : Variable). true_in w (cons_option (annotated_by x.kind x l.negative values) rest)) same
      ∙ one_more l (record_of prefix l.variable).kind rest refl (kind_declared m.held l.variable d) untrue either

-- a premise of clause j is true in every model
pub instance_true : (t : RowsOfFormula) (j : ℕ) (values : ValueWord) → HoldsInModels t j values
instance_true t j values c e m =
    let claim = claimed t j values c e in
    let f = m.formula in
    let there : clause_value f m.functions (assignment_by f.prefix values) (clause_of t j) ≡ true =
    ap (clause_value f m.functions (assignment_by f.prefix values)) (clause_held m.held j claim.low claim.high)
    ∙ All-get_or (λ (c : List Literal). clause_value f m.functions (assignment_by f.prefix values) c ≡ true) f.matrix (j - 1) [] (omega (arith, claim.low, claim.high, m.held.holds.head_clauses)) (m.is_model.satisfies (assignment_by f.prefix values)) in
    ap (true_in (model_world t m)) claim.entries
    ∙ instance_holds t m values (clause_of t j) (literals_declared m.held j claim.low claim.high) there claim.no_universal

-- and so is every claim of the falsity side
pub claim_true : (t : RowsOfFormula) (p : Premise) (c : List Entry) → falsity_claim t p ≡ Ok c → (m : Model t) → true_in (model_world t m) c ≡ true
claim_true t (premise.Truth class number part) c e m = absurd (no_ok c 16 e)
claim_true t (premise.Falsity j values) c e m = instance_true t j values c e m

-- an instance has no more literals than its clause
instance_short : (vs : List Variable) (values : ValueWord) (ls : List Literal) → length (instance vs values ls) ≤ length ls
instance_short vs values [] = omega arith
instance_short vs values (l ∷ ls) =
    let x = record_at vs l.variable in
    let rest = instance vs values ls in
    let short = instance_short vs values ls in
    elim x.kind as (λ k. length (cons_option (annotated_by k x l.negative values) rest) ≤ length (l ∷ ls))
    [ kind.Undeclared ↦ omega arith | kind.Universal ↦ omega arith | kind.Existential ↦ omega arith ]

-- so no claim has more than 1,024
pub claim_short : (t : RowsOfFormula) (p : Premise) (c : List Entry) → falsity_claim t p ≡ Ok c → length c ≤ 1024
claim_short t (premise.Truth class number part) c e = absurd (no_ok c 16 e)
claim_short t (premise.Falsity j values) c e =
    let claim = claimed t j values c e in
    omega (arith, ap length claim.entries, instance_short t.variables values (clause_of t j), clause_short t j)
