-- Where opening accepts, each output reads only inputs that its existential may depend on.
use Rattle.std.proofs.Common.{◌≡◌, ℕ, ◌+◌, ◌-◌, ◌*◌, ◌/◌, ◌^◌, ◌<◌, ◌≤◌, Bool, true, cond, not, ◌&&◌, eqb, List, [], ◌∷◌, filter_map, min, length, get_or, Some, None, Option, Ok, Err, sym, refl, ap, ◌∙◌, subst, arith}
use Rattle.std.specs.List.{AllByRecursion, cons_option, reduce}
use Rattle.std.proofs.ByRecursion.{All-get_or}
use Rattle.std.proofs.lemmas.List.{get_or-take}
use Rattle.std.proofs.lemmas.Bool.{and_from, and_parts, le-leb}
use Rattle.std.proofs.lemmas.Bool.Decides.{nat_tests}
use Rattle.base.specs.declared.values.ValueWord.{ValueWord}
use Rattle.base.specs.Causes.{refused}
use Rattle.base.specs.Words.{has_bit, within_word}
use Rattle.base.proofs.WordLaws.{within_bound, within_yes}
use Rattle.formula.specs.declared.tables.Variable.{Variable}
use Rattle.formula.specs.Groups.{no_variable, is_existential}
use Rattle.reach.specs.Reach.{fills, Leads}
use Rattle.spelling.specs.Dqbf.{Dqbf, existentials_of, record_of}
use Rattle.spelling.specs.CircuitGrammar.{wires_of}
use Rattle.audit.specs.FormulaAudit.{variables_lawful}
use Rattle.audit.proofs.FormulaBounds.{variables_bound}
use Rattle.audit.proofs.FormulaPlaces.{existentials_all, place_existential}
use Rattle.audit.proofs.FormulaVariables.{decides_variables}
use Rattle.models.specs.CircuitValues.{output_at, existential_at, ReadsAllowed}
use Rattle.models.specs.HeldTables.{RowsOfFormula, RowsOfCircuit, lawful_formula, lawful_circuit, aig_of, Held}
use Rattle.models.proofs.CircuitRows.{lawful_rows}
use Rattle.models.proofs.GateLaws.{ordered_at}
use Rattle.gates.specs.Wiring.{output_reach, leaving, lowest_leaving, gate_reaches, reach_told, truth_opening}
use Rattle.gates.proofs.ReachTables.{path_reach}

-- What an accepted opening says: lawful tables, equal counts, and no output that leaves its dependencies.
pub record Opened (t : RowsOfFormula) (c : RowsOfCircuit) : Type 0 where
  pub formula : lawful_formula t ≡ true
  pub circuit : lawful_circuit c ≡ true
  pub inputs : c.head.inputs ≡ t.head.universals
  pub outputs : c.head.outputs ≡ t.head.existentials
  pub none : lowest_leaving c (gate_reaches c) t.variables ≡ None

-- what its tests say where all of them pass
accepts : (formula circuit : Bool) (i n k m : ℕ) (o : Option ℕ) → cond (formula && circuit) (cond (eqb i n && eqb k m) (reach_told o) (Err (refused 13 0 4))) (Err (refused 12 0 4)) ≡ Ok tt → (formula ≡ true) × (circuit ≡ true) × (i ≡ n) × (k ≡ m) × (o ≡ None)
accepts formula circuit i n k m o e = grind (arith, nat_tests, e)

-- it says so wherever it answers Ok
pub opened : (t : RowsOfFormula) (c : RowsOfCircuit) → truth_opening t c ≡ Ok tt → Opened t c
opened t c e =
    let (formula, circuit, inputs, outputs, none) = accepts _ _ _ _ _ _ _ e in
    record { formula = formula; circuit = circuit; inputs = inputs; outputs = outputs; none = none }

-- no existential's output leaves its dependencies
none_kept : {Y : Type 0} (f : Y → Y → Y) (o : Option Y) (ys : List Y) → reduce f (cons_option o ys) ≡ None → (o ≡ None) × (reduce f ys ≡ None)
none_kept f o ys e = grind (arith, e)

none_mapped : {X Y : Type 0} (f : Y → Y → Y) (h : X → Option Y) (xs : List X) → reduce f (filter_map h xs) ≡ None → AllByRecursion (λ x. h x ≡ None) xs
none_mapped f h [] e = tt
none_mapped f h (x ∷ xs) e =
    let (first, rest) = none_kept f (h x) (filter_map h xs) e in
    (first, none_mapped f h xs rest)

stays : (existential inside : Bool) (p : ℕ) → existential ≡ true → cond (existential && not inside) (Some p) None ≡ None → inside ≡ true
stays existential inside p is e = grind (arith, nat_tests, is, e)

not_leaving : (c : RowsOfCircuit) (reaches : List ValueWord) (x : Variable) (k : ℕ) → leaving c reaches x ≡ None → is_existential x.kind ≡ true → x.position ≡ k → within_word (output_reach c reaches k) x.dependencies ≡ true
not_leaving c reaches x k e is at =
    ap (λ p. within_word (output_reach c reaches p) x.dependencies) (sym at) ∙ stays _ _ _ is e

module _ (t : RowsOfFormula) (c : RowsOfCircuit) (start : Opened t c) (f : Dqbf) (held : Held t f) where
  abbrev existential : ℕ → ℕ
  existential k = existential_at f.prefix k

  -- the k-th existential and its record
  existential_range : (k : ℕ) → 1 ≤ k → k ≤ length (existentials_of f.prefix) → (1 ≤ existential k) × (existential k ≤ f.variables)
  existential_range k low high =
      All-get_or (λ v. (1 ≤ v) × (v ≤ f.variables)) (existentials_of f.prefix) (k - 1) 0 (omega arith)
      (existentials_all (λ v. (1 ≤ v) × (v ≤ f.variables)) f.prefix held.lawful.in_range)

  -- its record stands in the table, so what holds of all records holds of it
  record_passes : (P : Variable → Type 0) → AllByRecursion P t.variables → (k : ℕ) → 1 ≤ k → k ≤ length (existentials_of f.prefix) → P (record_of f.prefix (existential k))
  record_passes P all k low high =
      let (least, most) = existential_range k low high in
      let fits = held.fits.variables in
      subst P (held.holds.variables (existential k) least (omega arith))
      (All-get_or P t.variables (existential k - 1) no_variable (omega arith) all)

  variables_pass : variables_lawful t.head t.variables ≡ true
  variables_pass = (and_parts _ _ (and_parts _ _ start.formula).0).1

  words_bound : AllByRecursion (λ x. x.dependencies.bits < 2 ^ 64) t.variables
  words_bound =
      let h = t.head in
      let few_universals = held.lawful.few_universals in
      let few_existentials = held.lawful.few_existentials in
      let fits = held.fits.variables in
      let head_variables = held.holds.head_variables in
      let head_universals = held.holds.head_universals in
      let head_existentials = held.holds.head_existentials in
      variables_bound h t.variables ((decides_variables h t.variables (omega arith) (omega arith) (omega arith)).0 variables_pass)

  -- a path from output k leads to an input that the existential may depend on
  reads_right : (k i : ℕ) → 1 ≤ k → k ≤ length (aig_of c).outputs → 1 ≤ i → i ≤ c.head.inputs → Leads c.head.inputs (aig_of c).gates (output_at (aig_of c) k / 2) i → has_bit (record_of f.prefix (existential k)).dependencies i ≡ true
  reads_right k i low high least most leads =
      let rows = lawful_rows c start.circuit in
      let lawful = rows.lawful in
      let counts = rows.counts in
      let many = rows.outputs in
      let gates = rows.gates in
      let outputs = start.outputs in
      let existentials = held.holds.head_existentials in
      let x = record_of f.prefix (existential k) in
      let inside : k ≤ length (existentials_of f.prefix) = omega arith in
      let (is, at) = place_existential f.prefix (existential k) k held.lawful.once (low, inside, refl) in
      let reach = output_reach c (gate_reaches c) k in
      let within = not_leaving c (gate_reaches c) x k (record_passes (λ y. leaving c (gate_reaches c) y ≡ None) (none_mapped min (leaving c (gate_reaches c)) t.variables start.none) k low inside) is at in
      let same : output_at (aig_of c) k ≡ get_or c.outputs (k - 1) 0 = get_or-take c.head.outputs c.outputs (k - 1) 0 (omega arith) in
      let bound : output_at (aig_of c) k ≤ 2 * wires_of (aig_of c) + 1 = All-get_or (λ o. o ≤ 2 * wires_of (aig_of c) + 1) (aig_of c).outputs (k - 1) 0 (omega arith) lawful.outputs in
      let full : fills c.head c.gates 60000 ≡ true = and_from _ _ (le-leb c.head.gates (length c.gates) counts.gates_fit) (le-leb c.head.gates 60000 counts.few_gates) in
      let bit : has_bit reach i ≡ true =
      path_reach c.head c.gates 60000 full lawful.few_inputs (ordered_at c.head.inputs (aig_of c).gates lawful.ordered)
      (get_or c.outputs (k - 1) 0 / 2) i (omega arith) least most
      (subst (λ o. Leads c.head.inputs (aig_of c).gates (o / 2) i) same leads) in
      within_yes reach x.dependencies (within_bound reach x.dependencies within)
      (record_passes (λ y. y.dependencies.bits < 2 ^ 64) words_bound k low inside) within i bit

-- so circuits that are opened read only what they may, whatever formula the tables hold
pub opening_right : (t : RowsOfFormula) (c : RowsOfCircuit) → truth_opening t c ≡ Ok tt → (f : Dqbf) → Held t f → ReadsAllowed f (aig_of c)
opening_right t c e f held =
    let start = opened t c e in
    let rows = lawful_rows c start.circuit in
    record {
      inputs = start.inputs ∙ held.holds.head_universals;
      outputs = rows.outputs ∙ start.outputs ∙ held.holds.head_existentials;
      reads = reads_right t c start f held;
    }
