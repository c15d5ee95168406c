-- What the linked shelf promises of its limits and its list.
use Rattle.std.specs.Prelude.{◌≡◌, ℕ, ◌≤◌, List, length}
use Rattle.std.proofs.Common.{arith}
use Rattle.std.proofs.lemmas.List.{length-map}
use Rattle.engine.specs.Shelves.{entries_in}
use Rattle.linked.specs.declared.blocks.Block.{Block}
use Rattle.linked.specs.declared.blocks.Chain.{Chain}
use Rattle.linked.specs.Chains.{clause_of, clauses_of}

pub linked_fits : (blocks : List Block) (rows : List Chain) (k w m u : ℕ) → m ≡ length rows → u ≡ entries_in (clauses_of blocks rows) → k ≤ 1000000 → w ≤ 16000000 → m ≤ k → u ≤ w → (k ≤ 1000000) × (w ≤ 16000000) × (length (clauses_of blocks rows) ≤ k) × (entries_in (clauses_of blocks rows) ≤ w)
linked_fits blocks rows k w m u em eu few narrow clauses entries =
    let long = length-map rows (clause_of blocks) in
    (few, narrow, omega arith, omega arith)
