-- Laws of the linked shelf: a clause is filed, and the last is taken off.
use Rattle.std.proofs.Common.{◌≡◌, ℕ, ◌+◌, ◌≤◌, List, [], ◌∷◌, ◌++◌, length, get_or, ap, ◌∙◌, inl, inr, arith}
use Rattle.std.proofs.lemmas.List.{get_or_past}
use Rattle.std.proofs.lemmas.Bool.{cases_lt}
use Rattle.clauses.specs.declared.entry.Entry.{Entry}
use Rattle.engine.specs.Shelves.{entries_in}
use Rattle.linked.specs.declared.blocks.Chain.{Chain}
use Rattle.linked.specs.declared.pool.Pool.{Pool}
use Rattle.linked.specs.Chains.{blocks_for, places, clause_of, chains, clauses_of, times, one_below}
use Rattle.linked.specs.Moves.{blocks_of, touched, block_at, spares, Taken, Returned, Within}
use Rattle.linked.proofs.ChainLaws.{below_one, below_from, chains_same, clauses_same, length_chain}
use Rattle.linked.proofs.ReadLaws.{length_clause}
use Rattle.linked.proofs.IndexLaws.{entries_push, clauses_all, times_all, length_all, times_one}

-- what holds of the blocks of a shelf: each is in one chain, and once
module _ (p : Pool) (rows : List Chain) (apart : (b : ℕ) → times b (chains (blocks_of p) rows) + times b (spares p) ≡ one_below (touched p) b) where
  pub shelf_within : (k : ℕ) → Within p (get_or rows k (record { head = 0; length = 0 }))
  shelf_within k b = let d : Chain = record { head = 0; length = 0 } in elim (cases_lt k (length rows)) [
    | inl h ↦ (let a = apart b in let one = times_one (blocks_of p) b rows k d h in omega arith)
    | inr h ↦ (let none : times b (places (blocks_of p) (get_or rows k d)) ≡ 0 = ap (λ r. times b (places (blocks_of p) r)) (get_or_past rows k d h) in omega arith)
  ]

  -- a clause c is filed, in the blocks of the chain r
  module _ (q : Pool) (c : List Entry) (r : Chain) (all : List Chain) (items : all ≡ rows ++ r ∷ []) (taken : Taken (places (blocks_of q) r) p q) (is : clause_of (blocks_of q) r ≡ c) where
    file_kept : (b : ℕ) → 1 ≤ times b (chains (blocks_of p) rows) → block_at q b ≡ block_at p b
    file_kept b t =
        let a = apart b in
        let one = below_one (touched p) b in
        taken.kept b (below_from (touched p) b 1 (omega arith) (omega arith)) (omega arith)

    filed_chains : chains (blocks_of q) rows ≡ chains (blocks_of p) rows
    filed_chains = chains_same (blocks_of p) (blocks_of q) rows file_kept

    pub filed_clauses : clauses_of (blocks_of q) all ≡ clauses_of (blocks_of p) rows ++ c ∷ []
    filed_clauses =
        clauses_all (blocks_of q) all rows r items
        ∙ ap (λ l. l ++ clause_of (blocks_of q) r ∷ []) (clauses_same (blocks_of p) (blocks_of q) rows file_kept)
        ∙ ap (λ x. clauses_of (blocks_of p) rows ++ x ∷ []) is

    pub filed_apart : (b : ℕ) → times b (chains (blocks_of q) all) + times b (spares q) ≡ one_below (touched q) b
    filed_apart b =
        let a = apart b in
        let moved = taken.moved b in
        let push = times_all (blocks_of q) all rows r items b in
        let same : times b (chains (blocks_of q) rows) ≡ times b (chains (blocks_of p) rows) = ap (times b) filed_chains in
        omega arith

    pub filed_whole : length (chains (blocks_of p) rows) + p.spare ≡ touched p → length (chains (blocks_of q) all) + q.spare ≡ touched q
    filed_whole whole =
        let size = taken.size in
        let push = length_all (blocks_of q) all rows r items in
        let long = length_chain (blocks_of q) (blocks_for r.length) r.head in
        let same : length (chains (blocks_of q) rows) ≡ length (chains (blocks_of p) rows) = ap length filed_chains in
        omega arith

-- the last clause, which has the chain r, is taken off
module _ (p : Pool) (all rows : List Chain) (r : Chain) (items : all ≡ rows ++ r ∷ []) (apart : (b : ℕ) → times b (chains (blocks_of p) all) + times b (spares p) ≡ one_below (touched p) b) where
  pub last_apart : (b : ℕ) → times b (places (blocks_of p) r) + times b (spares p) ≤ one_below (touched p) b
  last_apart b = let a = apart b in let push = times_all (blocks_of p) all rows r items b in omega arith

  pub last_few : length (chains (blocks_of p) all) + p.spare ≡ touched p → p.spare + blocks_for r.length ≤ touched p
  last_few whole = let push = length_all (blocks_of p) all rows r items in omega arith

  pub last_entries : entries_in (clauses_of (blocks_of p) all) ≡ entries_in (clauses_of (blocks_of p) rows) + r.length
  last_entries =
      let e : entries_in (clauses_of (blocks_of p) all) ≡ entries_in (clauses_of (blocks_of p) rows ++ clause_of (blocks_of p) r ∷ []) = ap entries_in (clauses_all (blocks_of p) all rows r items) in
      let push = entries_push (clauses_of (blocks_of p) rows) (clause_of (blocks_of p) r) in
      let long = length_clause (blocks_of p) r in
      omega arith

  -- its blocks are given back
  module _ (q : Pool) (back : Returned (places (blocks_of p) r) p q) where
    off_kept : (b : ℕ) → 1 ≤ times b (chains (blocks_of p) rows) → block_at q b ≡ block_at p b
    off_kept b t =
        let a = apart b in
        let push = times_all (blocks_of p) all rows r items b in
        let one = below_one (touched p) b in
        back.kept b (omega arith)

    off_chains : chains (blocks_of q) rows ≡ chains (blocks_of p) rows
    off_chains = chains_same (blocks_of p) (blocks_of q) rows off_kept

    pub off_clauses : clauses_of (blocks_of q) rows ≡ clauses_of (blocks_of p) rows
    off_clauses = clauses_same (blocks_of p) (blocks_of q) rows off_kept

    pub off_apart : (b : ℕ) → times b (chains (blocks_of q) rows) + times b (spares q) ≡ one_below (touched q) b
    off_apart b =
        let a = apart b in
        let moved = back.moved b in
        let push = times_all (blocks_of p) all rows r items b in
        let same : times b (chains (blocks_of q) rows) ≡ times b (chains (blocks_of p) rows) = ap (times b) off_chains in
        let n : one_below (touched q) b ≡ one_below (touched p) b = ap (λ k. one_below k b) back.long in
        omega arith

    pub off_whole : length (chains (blocks_of p) all) + p.spare ≡ touched p → length (chains (blocks_of q) rows) + q.spare ≡ touched q
    off_whole whole =
        let size = back.size in
        let len = back.long in
        let push = length_all (blocks_of p) all rows r items in
        let long = length_chain (blocks_of p) (blocks_for r.length) r.head in
        let same : length (chains (blocks_of q) rows) ≡ length (chains (blocks_of p) rows) = ap length off_chains in
        omega arith
