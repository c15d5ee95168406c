-- The table of reaches that opening fills has an entry for each gate, and tells the paths.
use Rattle.std.proofs.Common.{◌≡◌, ℕ, ◌+◌, ◌≤◌, true, leb, List, [], ◌∷◌, ◌++◌, length, take, sym, ap, ◌∙◌, arith}
use Rattle.std.proofs.lemmas.List.{length_push, length-take-le}
use Rattle.std.proofs.lemmas.Bool.{and_parts, cond-true, leb-true}
use Rattle.base.specs.declared.values.ValueWord.{ValueWord}
use Rattle.base.specs.Words.{empty_word, has_bit}
use Rattle.words.proofs.TableLaws.{length_padded}
use Rattle.circuit.specs.declared.tables.CircuitHead.{CircuitHead}
use Rattle.circuit.specs.declared.tables.Gate.{Gate}
use Rattle.reach.specs.Reach.{wire_reach, reaches_from, fills, reaches_table, Leads, Ordered}
use Rattle.reach.proofs.PathLaws.{table_paths}
use Rattle.reach.proofs.ReachLaws.{gate_union}

-- one reach for each gate
reaches_count : (i : ℕ) (done : List ValueWord) (gs : List Gate) → length (reaches_from i done gs) ≡ length done + length gs
reaches_count i done [] = omega arith
reaches_count i done (g ∷ gs) =
    let u = gate_union i done g in
    let more = reaches_count i (done ++ u ∷ []) gs in
    omega (arith, length_push done u)

module _ (head : CircuitHead) (gates : List Gate) (room : ℕ) (full : fills head gates room ≡ true) where
  abbrev table : List ValueWord
  table = reaches_table head gates room

  table_count : length table ≡ room
  table_count =
      let gs = take head.gates gates in
      let p = and_parts (leb head.gates (length gates)) (leb head.gates room) full in
      let low = leb-true head.gates (length gates) p.0 in
      let high = leb-true head.gates room p.1 in
      let count = length-take-le head.gates gates low in
      let all = reaches_count head.inputs [] gs in
      ap length (cond-true (fills head gates room) _ _ full)
      ∙ length_padded empty_word (reaches_from head.inputs [] gs) room (omega arith)

  -- where a path leads from a wire to an input, the wire's reach has the input
  pub path_reach : head.inputs ≤ 64 → Ordered head.inputs (take head.gates gates) → (w k : ℕ) → w ≤ head.inputs + head.gates → 1 ≤ k → k ≤ head.inputs → Leads head.inputs (take head.gates gates) w k → has_bit (wire_reach head.inputs table w) k ≡ true
  path_reach few ordered w k bound low high =
      (table_paths head gates table (ap (reaches_table head gates) (sym table_count)) (ap (fills head gates) table_count ∙ full) few ordered w k bound low high).1
