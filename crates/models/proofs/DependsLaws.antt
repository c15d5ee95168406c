-- An output depends only on the inputs that a path of gates leads to; so circuits that read only what they may compute
-- functions of the allowed dependencies.
use Rattle.std.proofs.Common.{◌≡◌, ℕ, zero, suc, ◌+◌, ◌-◌, ◌*◌, ◌/◌, ◌%◌, ◌<◌, ◌≤◌, true, ◌&&◌, eqb, List, [], ◌∷◌, ◌++◌, length, get_or, sym, refl, ap, ◌∙◌, subst, ap₂, ⊎_elim, arith}
use Rattle.std.specs.List.{AllByRecursion}
use Rattle.std.proofs.ByRecursion.{All-get_or}
use Rattle.std.proofs.lemmas.List.{append_assoc, map-append}
use Rattle.std.proofs.lemmas.Bool.{cases_lt, cond-true, eq-eqb}
use Rattle.base.specs.declared.values.ValueWord.{ValueWord}
use Rattle.base.specs.Words.{has_bit}
use Rattle.circuit.specs.declared.tables.Gate.{Gate}
use Rattle.circuit.specs.Reading.{no_gate}
use Rattle.formula.specs.declared.tables.Kind.TheVariants as kind
use Rattle.formula.specs.declared.tables.Variable.{Variable}
use Rattle.reach.specs.Reach.{Leads, Ordered}
use Rattle.reach.specs.Reach.Leads.{here, left, right}
use Rattle.spelling.specs.CircuitGrammar.{Aig, wires_of, LawfulCircuit}
use Rattle.spelling.specs.Dqbf.{Declaration, universal, existential, variable_of, Dqbf, Distinct, Lawful, existentials_of, record_of}
use Rattle.spelling.proofs.PrefixLaws.{variables_of, distinct_next, record_new}
use Rattle.formula.specs.Groups.{is_existential}
use Rattle.audit.proofs.FormulaPlaces.{existential_place}
use Rattle.models.specs.CircuitValues.{Inputs, wire_value, gate_values, output_at, output_value, inputs_by, circuit_functions, ReadsAllowed}
use Rattle.models.specs.Models.{signed, DependsOnAllowed}
use Rattle.models.proofs.GateLaws.{ordered_at, wire_input, gate_wire}

module _ (i : ℕ) (gs : List Gate) (ordered : Ordered i gs) (α β : Inputs) where
  abbrev SameInputs : ℕ → Type 0
  SameInputs w = (k : ℕ) → 1 ≤ k → k ≤ i → Leads i gs w k → α k ≡ β k

  abbrev SameValue : ℕ → Type 0
  SameValue w = wire_value i α (gate_values i α [] gs) w ≡ wire_value i β (gate_values i β [] gs) w

  -- by induction on a bound above the wire
  wire_same : (n w : ℕ) → w < n → w ≤ i + length gs → SameInputs w → SameValue w
  wire_same zero w s t same = absurd (omega arith)
  wire_same (suc n) w s t same =
      ⊎_elim
      (λ (p : i < w).
      let g = w - i - 1 in
      let h : g < length gs = omega arith in
      let o = ordered g h in
      let l = (get_or gs g no_gate).left in
      let r = (get_or gs g no_gate).right in
      let at : i + 1 + g ≡ w = omega arith in
      let sames : SameInputs (i + 1 + g) = subst SameInputs (sym at) same in
      let by_left = wire_same n (l / 2) (omega arith) (omega arith) (λ k low high q. sames k low high (left h q)) in
      let by_right = wire_same n (r / 2) (omega arith) (omega arith) (λ k low high q. sames k low high (right h q)) in
      subst SameValue at
      (gate_wire i α gs ordered g h
      ∙ ap₂ ◌&&◌ (ap (signed (eqb (l % 2) 1)) by_left) (ap (signed (eqb (r % 2) 1)) by_right)
      ∙ sym (gate_wire i β gs ordered g h)))
      (λ (p : w ≤ i).
      ⊎_elim
      (λ (low : 0 < w).
      wire_input i α (gate_values i α [] gs) w low p ∙ same w low p here ∙ sym (wire_input i β (gate_values i β [] gs) w low p))
      (λ (none : w ≤ 0). let z : 0 ≡ w = omega arith in subst SameValue z refl)
      (cases_lt 0 w))
      (cases_lt i w)

-- inputs that agree where a path leads give an output the same value
pub output_same : (c : Aig) → LawfulCircuit c → (α β : Inputs) (k : ℕ) → 1 ≤ k → k ≤ length c.outputs → ((i : ℕ) → 1 ≤ i → i ≤ c.inputs → Leads c.inputs c.gates (output_at c k / 2) i → α i ≡ β i) → output_value c α k ≡ output_value c β k
output_same c lawful α β k low high same =
    let l = output_at c k in
    let bound = All-get_or (λ o. o ≤ 2 * wires_of c + 1) c.outputs (k - 1) 0 (omega arith) lawful.outputs in
    ap (signed (eqb (l % 2) 1))
    (wire_same c.inputs c.gates (ordered_at c.inputs c.gates lawful.ordered) α β (suc (l / 2)) (l / 2) (omega arith) (omega arith) same)

-- the record of a variable is made of its declaration
pub record_existential : (front rest : List Declaration) (y : ℕ) (d : ValueWord) → Distinct (variables_of (front ++ existential y d ∷ rest)) → record_of (front ++ existential y d ∷ rest) y ≡ record { kind = kind.Existential; position = length (existentials_of front) + 1; dependencies = d }
record_existential front rest y d once =
    let new = distinct_next (variables_of front) y (variables_of rest) (subst Distinct (map-append variable_of front (existential y d ∷ rest)) once) in
    record_new front (existential y d ∷ rest) y new ∙ cond-true (eqb y y) _ _ (eq-eqb y y refl)

module _ (f : Dqbf) (c : Aig) (lawful : Lawful f) (lawful_circuit : LawfulCircuit c) (allowed : ReadsAllowed f c) where
  -- the function of a declared existential depends on its declared dependencies
  function_allowed : (y : ℕ) (d : ValueWord) → is_existential (record_of f.prefix y).kind ≡ true → (record_of f.prefix y).dependencies ≡ d → DependsOnAllowed f.prefix (circuit_functions f.prefix c) (existential y d)
  function_allowed y d is deps σ τ agree =
      let p = (record_of f.prefix y).position in
      let (low, high, at) = existential_place f.prefix y is in
      output_same c lawful_circuit (inputs_by f.prefix σ) (inputs_by f.prefix τ) p low (omega (arith, allowed.outputs))
      (λ i least most leads.
      let bit = allowed.reads p i low (omega (arith, allowed.outputs)) least most leads in
      agree i least (omega (arith, allowed.inputs))
      (ap (λ w. has_bit w i) (sym deps) ∙ ap (λ v. has_bit (record_of f.prefix v).dependencies i) (sym at) ∙ bit))

  one_allowed : (front rest : List Declaration) (d : Declaration) → front ++ d ∷ rest ≡ f.prefix → DependsOnAllowed f.prefix (circuit_functions f.prefix c) d
  one_allowed front rest (universal u) e = tt
  one_allowed front rest (existential y d) e =
      let at : record_of f.prefix y ≡ record { kind = kind.Existential; position = length (existentials_of front) + 1; dependencies = d } =
      ap (λ ds. record_of ds y) (sym e)
      ∙ record_existential front rest y d (subst (λ ds. Distinct (variables_of ds)) (sym e) lawful.once) in
      function_allowed y d (ap (λ (x : Variable). is_existential x.kind) at) (ap (λ (x : Variable). x.dependencies) at)

  all_allowed : (front rest : List Declaration) → front ++ rest ≡ f.prefix → AllByRecursion (DependsOnAllowed f.prefix (circuit_functions f.prefix c)) rest
  all_allowed front [] e = tt
  all_allowed front (d ∷ rest) e =
      (one_allowed front rest d e, all_allowed (front ++ d ∷ []) rest (append_assoc front (d ∷ []) rest ∙ e))

  -- what circuits compute that read only what they may depends on the allowed dependencies alone
  pub functions_allowed : AllByRecursion (DependsOnAllowed f.prefix (circuit_functions f.prefix c)) f.prefix
  functions_allowed = all_allowed [] f.prefix refl
