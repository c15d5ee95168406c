-- What the tests of the circuit audit say of its tables, and back.
use Rattle.std.proofs.Common.{◌≡◌, ℕ, zero, suc, ◌+◌, ◌-◌, ◌*◌, ◌<◌, ◌≤◌, Bool, true, eqb, ltb, leb, List, [], ◌∷◌, ◌++◌, length, take, drop, replicate, Decides, sym, refl, ap, ◌∙◌, subst, ap₂, add-zero, arith}
use Rattle.std.specs.List.{AllByRecursion, enumerate_from, list_all}
use Rattle.std.proofs.lemmas.List.{take-append-drop, length-take-le, length-drop, take_at, drop_at}
use Rattle.std.proofs.lemmas.Bool.{leb-true, le-leb, eqb-true, eq-eqb, and_parts, and_from}
use Rattle.std.proofs.lemmas.Bool.Decides.{Decides-ltb}
use Rattle.std.proofs.ByRecursion.{Decides-by_and}
use Rattle.words.specs.Tables.{padded}
use Rattle.circuit.specs.declared.tables.CircuitHead.{CircuitHead}
use Rattle.circuit.specs.declared.tables.Gate.{Gate}
use Rattle.circuit.specs.Reading.{no_gate}
use Rattle.spelling.specs.CircuitGrammar.{OrderedFrom}
use Rattle.audit.specs.CircuitAudit.{counts_lawful, outputs_lawful, below_own, gates_lawful, zero_outputs, zero_gate, zero_gates}

-- the counts
pub record Counts (h : CircuitHead) (outputs gates : ℕ) : Type 0 where
  pub few_inputs : h.inputs ≤ 64
  pub few_wires : h.wires ≤ 60000
  pub few_outputs : h.outputs ≤ 4096
  pub few_gates : h.gates ≤ 60000
  pub sum : h.wires ≡ h.inputs + h.gates
  pub outputs_fit : h.outputs ≤ outputs
  pub gates_fit : h.gates ≤ gates

module _ (h : CircuitHead) (outputs gates : ℕ) where
  counts_are : counts_lawful h outputs gates ≡ true → Counts h outputs gates
  counts_are e =
      let a = and_parts _ (leb h.gates gates) e in
      let b = and_parts _ (leb h.outputs outputs) a.0 in
      let c = and_parts _ (eqb h.wires (h.inputs + h.gates)) b.0 in
      let d = and_parts _ (leb h.gates 60000) c.0 in
      let f = and_parts _ (leb h.outputs 4096) d.0 in
      let g = and_parts (leb h.inputs 64) (leb h.wires 60000) f.0 in
      record {
        few_inputs = leb-true h.inputs 64 g.0;
        few_wires = leb-true h.wires 60000 g.1;
        few_outputs = leb-true h.outputs 4096 f.1;
        few_gates = leb-true h.gates 60000 d.1;
        sum = eqb-true h.wires (h.inputs + h.gates) c.1;
        outputs_fit = leb-true h.outputs outputs b.1;
        gates_fit = leb-true h.gates gates a.1;
      }

  are_counts : Counts h outputs gates → counts_lawful h outputs gates ≡ true
  are_counts c =
      and_from _ _
      (and_from _ _
      (and_from _ _
      (and_from _ _
      (and_from _ _
      (and_from _ _ (le-leb h.inputs 64 c.few_inputs) (le-leb h.wires 60000 c.few_wires))
      (le-leb h.outputs 4096 c.few_outputs))
      (le-leb h.gates 60000 c.few_gates))
      (eq-eqb h.wires (h.inputs + h.gates) c.sum))
      (le-leb h.outputs outputs c.outputs_fit))
      (le-leb h.gates gates c.gates_fit)

  pub decides_counts : Decides (counts_lawful h outputs gates) (Counts h outputs gates)
  decides_counts = (counts_are, are_counts)

-- the entries
pub decides_outputs : (bound : ℕ) (os : List ℕ) → Decides (outputs_lawful bound os) (AllByRecursion (λ o. o < bound) os)
decides_outputs bound os = Decides-by_and (λ o. ltb o bound) (λ o. o < bound) (outputs_lawful bound) (λ o. Decides-ltb o bound) refl (λ _ _. refl) os

-- the gates from gate k on
gates_ordered : (i k : ℕ) (gs : List Gate) → list_all (below_own i) (enumerate_from k gs) ≡ true → OrderedFrom (i + k) gs
gates_ordered i k [] e = tt
gates_ordered i k (g ∷ gs) e =
    let own = 2 * (i + k + 1) in
    let a = and_parts (below_own i (k, g)) (list_all (below_own i) (enumerate_from (k + 1) gs)) e in
    let b = and_parts (ltb g.left own) (ltb g.right own) a.0 in
    let next : i + (k + 1) ≡ i + k + 1 = omega arith in
    ((Decides-ltb g.left own).0 b.0, (Decides-ltb g.right own).0 b.1, subst (λ (n : ℕ). OrderedFrom n gs) next (gates_ordered i (k + 1) gs a.1))

ordered_gates : (i k : ℕ) (gs : List Gate) → OrderedFrom (i + k) gs → list_all (below_own i) (enumerate_from k gs) ≡ true
ordered_gates i k [] o = refl
ordered_gates i k (g ∷ gs) o =
    let own = 2 * (i + k + 1) in
    let next : i + k + 1 ≡ i + (k + 1) = omega arith in
    and_from _ _
    (and_from _ _ ((Decides-ltb g.left own).1 o.0) ((Decides-ltb g.right own).1 o.1))
    (ordered_gates i (k + 1) gs (subst (λ (n : ℕ). OrderedFrom n gs) next o.2))

pub decides_gates : (i : ℕ) (gs : List Gate) → Decides (gates_lawful i gs) (OrderedFrom i gs)
decides_gates i gs = (
  λ e. subst (λ (n : ℕ). OrderedFrom n gs) (add-zero i) (gates_ordered i 0 gs e),
  λ o. ordered_gates i 0 gs (subst (λ (n : ℕ). OrderedFrom n gs) (sym (add-zero i)) o),
)

-- entries that all pass a test which one entry alone passes are that entry, and back
pub all_replicate : {X : Type 0} (test : X → Bool) (none : X) → ((x : X) → test x ≡ true → x ≡ none) → (xs : List X) → list_all test xs ≡ true → xs ≡ replicate (length xs) none
all_replicate test none one [] e = refl
all_replicate test none one (x ∷ xs) e =
    let a = and_parts (test x) (list_all test xs) e in
    ap₂ ◌∷◌ (one x a.0) (all_replicate test none one xs a.1)

pub replicate_all : {X : Type 0} (test : X → Bool) (none : X) → test none ≡ true → (n : ℕ) → list_all test (replicate n none) ≡ true
replicate_all test none e zero = refl
replicate_all test none e (suc n) = and_from (test none) (list_all test (replicate n none)) e (replicate_all test none e n)

-- zeros
pub outputs_zero : (os : List ℕ) → zero_outputs os ≡ true → os ≡ replicate (length os) 0
outputs_zero os e = all_replicate (λ o. eqb o 0) 0 (λ o. eqb-true o 0) os e

pub zeros_outputs : (n : ℕ) → zero_outputs (replicate n 0) ≡ true
zeros_outputs n = replicate_all (λ o. eqb o 0) 0 refl n

gate_zero : (g : Gate) → zero_gate g ≡ true → g ≡ no_gate
gate_zero g e =
    let a = and_parts (eqb g.left 0) (eqb g.right 0) e in
    ap₂ (λ (x y : ℕ). record { left = x; right = y }) (eqb-true g.left 0 a.0) (eqb-true g.right 0 a.1)

pub gates_zero : (gs : List Gate) → zero_gates gs ≡ true → gs ≡ replicate (length gs) no_gate
gates_zero gs e = all_replicate zero_gate no_gate gate_zero gs e

pub zeros_gates : (n : ℕ) → zero_gates (replicate n no_gate) ≡ true
zeros_gates n = replicate_all zero_gate no_gate refl n

-- a table whose rest is empty is padded, and back
pub table_padded : {X : Type 0} (none : X) (xs : List X) (n : ℕ) → n ≤ length xs → drop n xs ≡ replicate (length (drop n xs)) none → xs ≡ padded none (take n xs) (length xs)
table_padded none xs n h e =
    let l : length (drop n xs) ≡ length xs - length (take n xs) = length-drop n xs ∙ ap (λ k. length xs - k) (sym (length-take-le n xs h)) in
    sym (take-append-drop n xs) ∙ ap (λ ys. take n xs ++ ys) (e ∙ ap (λ k. replicate k none) l)

pub padded_front : {X : Type 0} (none : X) (xs ys : List X) (m n : ℕ) → length ys ≡ n → xs ≡ padded none ys m → take n xs ≡ ys
padded_front none xs ys m n l e = ap (take n) e ∙ take_at ys (replicate (m - length ys) none) n l

pub padded_rest : {X : Type 0} (none : X) (xs ys : List X) (m n : ℕ) → length ys ≡ n → xs ≡ padded none ys m → drop n xs ≡ replicate (m - length ys) none
padded_rest none xs ys m n l e = ap (drop n) e ∙ drop_at ys (replicate (m - length ys) none) n l
