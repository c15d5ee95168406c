-- Of an ordered circuit, a wire's reach has an input just where a path of gates leads to it.
use Rattle.std.proofs.Common.{◌≡◌, ℕ, zero, suc, ◌+◌, ◌-◌, ◌/◌, ◌<◌, ◌≤◌, true, ◌||◌, leb, List, [], length, get_or, take, sym, refl, ap, ◌∙◌, subst, ⊎_elim, arith}
use Rattle.std.proofs.lemmas.List.{length-take-le}
use Rattle.std.proofs.lemmas.Bool.{and_parts, both_ways, cases_lt, cond-false, cond-true, eq-eqb, eqb-true, le-leb, leb-true, lt-leb, or_cases, or_left, or_right}
use Rattle.std.proofs.lemmas.Bool.Decides.{nat_tests}
use Rattle.base.specs.declared.values.ValueWord.{ValueWord}
use Rattle.base.specs.Words.{empty_word, single_word, union_word, has_bit}
use Rattle.base.proofs.WordLaws.{has_empty, has_single, has_union}
use Rattle.circuit.specs.declared.tables.CircuitHead.{CircuitHead}
use Rattle.circuit.specs.declared.tables.Gate.{Gate}
use Rattle.circuit.specs.Reading.{no_gate}
use Rattle.reach.specs.Reach.{wire_reach, reaches_from, fills, reaches_table, Leads, Ordered, Paths}
use Rattle.reach.specs.Reach.Leads.{here, left, right}
use Rattle.reach.proofs.ReachLaws.{reach_front, reach_padded, reaches_entry}

-- the two right wires of gate g
abbrev left_of : List Gate → ℕ → ℕ
left_of gs g = (get_or gs g no_gate).left / 2

abbrev right_of : List Gate → ℕ → ℕ
right_of gs g = (get_or gs g no_gate).right / 2

-- a word of one value has no other
single_zero : single_word 0 ≡ empty_word
unfolding single_word empty_word
single_zero = refl

single_only : (w k : ℕ) → w ≤ 64 → has_bit (single_word w) k ≡ true → w ≡ k
single_only zero k h b = absurd (both_ways (has_bit (single_word 0) k) (ap (λ a. has_bit a k) single_zero ∙ has_empty k) b)
single_only (suc w) k h b = eqb-true (suc w) k (sym (has_single (suc w) k (grind (arith, nat_tests))) ∙ b)

module _ (i : ℕ) (gs : List Gate) (few : i ≤ 64) (ordered : Ordered i gs) where
  abbrev reach : ℕ → ValueWord
  reach = wire_reach i (reaches_from i [] gs)

  reach_input : (w : ℕ) → w ≤ i → reach w ≡ single_word w
  reach_input w h = cond-true (leb w i) _ _ (le-leb w i h)

  -- the reach of a gate is the union of its two right wires' reaches
  reach_gate : (g : ℕ) → g < length gs → reach (i + 1 + g) ≡ union_word (reach (left_of gs g)) (reach (right_of gs g))
  reach_gate g h =
      let all = reaches_from i [] gs in
      let l = left_of gs g in
      let r = right_of gs g in
      let o = ordered g h in
      let at : i + 1 + g - i - 1 ≡ g = omega arith in
      cond-false (leb (i + 1 + g) i) _ _ (lt-leb (i + 1 + g) i (omega arith))
      ∙ ap (λ n. get_or all n empty_word) at
      ∙ reaches_entry i gs g h
      ∙ ap (λ a. union_word a (wire_reach i (take g all) r)) (reach_front i all g l (omega arith))
      ∙ ap (union_word (reach l)) (reach_front i all g r (omega arith))

  has_gate : (g k : ℕ) → g < length gs → has_bit (reach (i + 1 + g)) k ≡ (has_bit (reach (left_of gs g)) k || has_bit (reach (right_of gs g)) k)
  has_gate g k h = ap (λ a. has_bit a k) (reach_gate g h) ∙ has_union (reach (left_of gs g)) (reach (right_of gs g)) k

  -- by induction on a bound above the wire
  path_from : (n w k : ℕ) → w < n → w ≤ i + length gs → has_bit (reach w) k ≡ true → Leads i gs w k
  path_from zero w k s t b = absurd (omega arith)
  path_from (suc n) w k s t b =
      ⊎_elim
      (λ (p : i < w).
      let g = w - i - 1 in
      let h : g < length gs = omega arith in
      let o = ordered g h in
      let l = left_of gs g in
      let r = right_of gs g in
      let same : i + 1 + g ≡ w = omega arith in
      subst (λ v. Leads i gs v k) same
      (⊎_elim
      (λ e. left h (path_from n l k (omega arith) (omega arith) e))
      (λ e. right h (path_from n r k (omega arith) (omega arith) e))
      (or_cases (has_bit (reach l) k) (has_bit (reach r) k) (sym (has_gate g k h) ∙ ap (λ v. has_bit (reach v) k) same ∙ b))))
      (λ (p : w ≤ i).
      subst (Leads i gs w) (single_only w k (omega arith) (sym (ap (λ a. has_bit a k) (reach_input w p)) ∙ b)) here)
      (cases_lt i w)

  -- by induction on the path
  has_from : {w k : ℕ} → 1 ≤ k → k ≤ i → Leads i gs w k → has_bit (reach w) k ≡ true
  has_from {w} low high here =
      ap (λ a. has_bit a w) (reach_input w high) ∙ has_single w w (grind (arith, nat_tests)) ∙ eq-eqb w w refl
  has_from {k = k} low high (left {g = g} h p) = has_gate g k h ∙ or_left (has_bit (reach (left_of gs g)) k) _ (has_from low high p)
  has_from {k = k} low high (right {g = g} h p) = has_gate g k h ∙ or_right _ (has_bit (reach (right_of gs g)) k) (has_from low high p)

-- the table that is filled tells the paths
pub table_paths : (head : CircuitHead) (gates : List Gate) (reaches : List ValueWord) → reaches ≡ reaches_table head gates (length reaches) → Paths head gates reaches
table_paths head gates reaches e f few ordered w k low least most =
    let i = head.inputs in
    let gs = take head.gates gates in
    let parts = and_parts (leb head.gates (length gates)) _ f in
    let all = length-take-le head.gates gates (leb-true head.gates (length gates) parts.0) in
    let same : wire_reach i reaches w ≡ wire_reach i (reaches_from i [] gs) w =
    ap (λ l. wire_reach i l w) (e ∙ cond-true (fills head gates (length reaches)) _ _ f)
    ∙ reach_padded i (reaches_from i [] gs) (length reaches - length (reaches_from i [] gs)) w in
    let bits = ap (λ a. has_bit a k) same in (
      λ b. path_from i gs few ordered (suc w) w k (omega arith) (omega arith) (sym bits ∙ b),
      λ p. bits ∙ has_from i gs few ordered least most p,
    )
