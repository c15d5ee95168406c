-- Of an ordered circuit, each gate's value is the conjunction of its right literals' values.
use Rattle.std.proofs.Common.{◌≡◌, ℕ, zero, suc, ◌+◌, ◌-◌, ◌*◌, ◌/◌, ◌%◌, ◌<◌, ◌≤◌, Bool, false, cond, ◌&&◌, eqb, leb, List, [], ◌∷◌, ◌++◌, length, get_or, take, sym, refl, ap, ◌∙◌, ap₂, ⊎_elim, arith}
use Rattle.std.proofs.lemmas.List.{get_or_push, get_or-take, length_push, take_all, take-append-le, take_at}
use Rattle.std.proofs.lemmas.Bool.{cases_lt, cond-false, cond-true, le-leb, lt-leb, ne_eqb}
use Rattle.circuit.specs.declared.tables.Gate.{Gate}
use Rattle.circuit.specs.Reading.{no_gate}
use Rattle.reach.specs.Reach.{Ordered}
use Rattle.spelling.specs.CircuitGrammar.{OrderedFrom}
use Rattle.models.specs.Models.{signed}
use Rattle.models.specs.CircuitValues.{Inputs, wire_value, wire_literal, gate_values}

-- a gate's value, from the values of the gates before it
abbrev gate_and : ℕ → Inputs → List Bool → Gate → Bool
gate_and i α done g = wire_literal i α done g.left && wire_literal i α done g.right

-- gates in order, by their places
pub ordered_at : (i : ℕ) (gs : List Gate) → OrderedFrom i gs → Ordered i gs
ordered_at i [] o g h = absurd (omega arith)
ordered_at i (x ∷ xs) (left, right, rest) zero h = (omega arith, omega arith)
ordered_at i (x ∷ xs) (left, right, rest) (suc g) h =
    let (l, r) = ordered_at (i + 1) xs rest g (omega arith) in
    (omega arith, omega arith)

-- an input's wire, and a gate's
pub wire_input : (i : ℕ) (α : Inputs) (vs : List Bool) (w : ℕ) → 1 ≤ w → w ≤ i → wire_value i α vs w ≡ α w
wire_input i α vs w low high =
    cond-false (eqb w 0) _ _ (ne_eqb w 0 (λ e. omega arith)) ∙ cond-true (leb w i) _ _ (le-leb w i high)

pub wire_gate : (i : ℕ) (α : Inputs) (vs : List Bool) (g : ℕ) → wire_value i α vs (i + 1 + g) ≡ get_or vs g false
wire_gate i α vs g =
    let w = i + 1 + g in
    let at : w - i - 1 ≡ g = omega arith in
    cond-false (eqb w 0) _ _ (ne_eqb w 0 (λ e. omega arith)) ∙ cond-false (leb w i) _ _ (lt-leb w i (omega arith))
    ∙ ap (λ n. get_or vs n false) at

-- a wire below gate n reads nothing from entry n on
wire_front : (i : ℕ) (α : Inputs) (vs : List Bool) (n w : ℕ) → w < i + 1 + n → wire_value i α (take n vs) w ≡ wire_value i α vs w
wire_front i α vs n w h =
    ⊎_elim
    (λ (p : i < w). ap (λ b. cond (eqb w 0) false (cond (leb w i) (α w) b)) (get_or-take n vs (w - i - 1) false (omega arith)))
    (λ (p : w ≤ i). let e = le-leb w i p in ap (cond (eqb w 0) false) (cond-true (leb w i) _ _ e ∙ sym (cond-true (leb w i) _ _ e)))
    (cases_lt i w)

literal_front : (i : ℕ) (α : Inputs) (vs : List Bool) (n l : ℕ) → l < 2 * (i + 1 + n) → wire_literal i α (take n vs) l ≡ wire_literal i α vs l
literal_front i α vs n l h = ap (signed (eqb (l % 2) 1)) (wire_front i α vs n (l / 2) (omega arith))

-- what is worked out stays as it is
values_front : (i : ℕ) (α : Inputs) (done : List Bool) (gs : List Gate) (n : ℕ) → n ≤ length done → take n (gate_values i α done gs) ≡ take n done
values_front i α done [] n h = refl
values_front i α done (g ∷ gs) n h =
    let v = gate_and i α done g in
    values_front i α (done ++ v ∷ []) gs n (omega (arith, length_push done v)) ∙ take-append-le n done (v ∷ []) h

-- one value for each gate
values_count : (i : ℕ) (α : Inputs) (done : List Bool) (gs : List Gate) → length (gate_values i α done gs) ≡ length done + length gs
values_count i α done [] = omega arith
values_count i α done (g ∷ gs) =
    let v = gate_and i α done g in
    let more = values_count i α (done ++ v ∷ []) gs in
    omega (arith, length_push done v)

-- each entry is its gate's value, from the entries before it
values_entry : (i : ℕ) (α : Inputs) (done : List Bool) (gs : List Gate) (j n : ℕ) → j < length gs → n ≡ length done + j → get_or (gate_values i α done gs) n false ≡ gate_and i α (take n (gate_values i α done gs)) (get_or gs j no_gate)
values_entry i α done [] j n h e = absurd (omega arith)
values_entry i α done (g ∷ gs) zero n h e =
    let v = gate_and i α done g in
    let more = done ++ v ∷ [] in
    let all = gate_values i α more gs in
    let long = length_push done v in
    let upto : take (n + 1) all ≡ more = values_front i α more gs (n + 1) (omega arith) ∙ take_all (n + 1) more (omega arith) in
    let before : take n all ≡ done = values_front i α more gs n (omega arith) ∙ take_at done (v ∷ []) n (omega arith) in
    sym (get_or-take (n + 1) all n false (omega arith)) ∙ ap (λ l. get_or l n false) upto ∙ get_or_push done v false n (omega arith)
    ∙ ap (λ l. gate_and i α l g) (sym before)
values_entry i α done (g ∷ gs) (suc j) n h e =
    let v = gate_and i α done g in
    values_entry i α (done ++ v ∷ []) gs j n (omega arith) (omega (arith, length_push done v))

module _ (i : ℕ) (α : Inputs) (gs : List Gate) where
  -- there are as many values as gates
  pub gates_count : length (gate_values i α [] gs) ≡ length gs
  gates_count = omega (arith, values_count i α [] gs)

  -- a gate's value, from the values of all gates
  pub gate_value : Ordered i gs → (g : ℕ) → g < length gs → get_or (gate_values i α [] gs) g false ≡ (wire_literal i α (gate_values i α [] gs) (get_or gs g no_gate).left && wire_literal i α (gate_values i α [] gs) (get_or gs g no_gate).right)
  gate_value ordered g h =
      let all = gate_values i α [] gs in
      let gate = get_or gs g no_gate in
      let o = ordered g h in
      values_entry i α [] gs g g h (omega arith)
      ∙ ap₂ ◌&&◌ (literal_front i α all g gate.left (omega arith)) (literal_front i α all g gate.right (omega arith))

  -- so is the value of its wire
  pub gate_wire : Ordered i gs → (g : ℕ) → g < length gs → wire_value i α (gate_values i α [] gs) (i + 1 + g) ≡ (wire_literal i α (gate_values i α [] gs) (get_or gs g no_gate).left && wire_literal i α (gate_values i α [] gs) (get_or gs g no_gate).right)
  gate_wire ordered g h = wire_gate i α (gate_values i α [] gs) g ∙ gate_value ordered g h
