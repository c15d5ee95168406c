-- Laws of the index: its clauses, and the blocks of all of them.
use Rattle.std.proofs.Common.{◌≡◌, ℕ, zero, suc, ◌+◌, ◌*◌, ◌<◌, ◌≤◌, List, [], ◌∷◌, ◌++◌, length, get_or, ap, ◌∙◌, arith}
use Rattle.std.proofs.lemmas.List.{length-append, length-map, map-append, get_or-map, get_or_past}
use Rattle.std.proofs.lemmas.Grind.{flat_map-append}
use Rattle.std.proofs.lemmas.Bool.Decides.{nat_tests}
use Rattle.clauses.specs.declared.entry.Entry.{Entry}
use Rattle.engine.specs.Shelves.{entries_in, clause_at}
use Rattle.linked.specs.declared.blocks.Block.{Block}
use Rattle.linked.specs.declared.blocks.Chain.{Chain}
use Rattle.linked.specs.Chains.{blocks_for, places, clause_of, chains, clauses_of, times}
use Rattle.linked.proofs.ChainLaws.{times_append, length_chain}
use Rattle.linked.proofs.ReadLaws.{length_clause}

pub entries_push : (l : List (List Entry)) (c : List Entry) → entries_in (l ++ c ∷ []) ≡ entries_in l + length c
entries_push [] c = omega arith
entries_push (d ∷ l) c = let e = entries_push l c in omega arith

module _ (blocks : List Block) where
  -- an index that is another with one row more
  module _ (all rows : List Chain) (r : Chain) (items : all ≡ rows ++ r ∷ []) where
    pub clauses_all : clauses_of blocks all ≡ clauses_of blocks rows ++ clause_of blocks r ∷ []
    clauses_all = ap (clauses_of blocks) items ∙ map-append (clause_of blocks) rows (r ∷ [])

    chains_all : chains blocks all ≡ chains blocks rows ++ (places blocks r ++ [])
    chains_all = ap (chains blocks) items ∙ flat_map-append (places blocks) rows (r ∷ [])

    pub times_all : (b : ℕ) → times b (chains blocks all) ≡ times b (chains blocks rows) + times b (places blocks r)
    times_all b = let is = ap (times b) chains_all in omega (arith, times_append)

    pub length_all : length (chains blocks all) ≡ length (chains blocks rows) + blocks_for r.length
    length_all = let is = ap length chains_all in let n = length_chain blocks (blocks_for r.length) r.head in omega (arith, length-append {A = ℕ})

  -- a clause leaves at most three places of its blocks empty, and has no block without an entry
  pub blocks_few : (rows : List Chain) → (4 * length (chains blocks rows) ≤ entries_in (clauses_of blocks rows) + 3 * length rows) × (length (chains blocks rows) ≤ entries_in (clauses_of blocks rows))
  blocks_few [] = (omega arith, omega arith)
  blocks_few (r ∷ rows) =
      let rest = blocks_few rows in
      let low = rest.0 in
      let few = rest.1 in
      let e = length-append (places blocks r) (chains blocks rows) in
      let n = length_chain blocks (blocks_for r.length) r.head in
      let m = length_clause blocks r in
      (omega arith, omega arith)

  -- the blocks of one clause are among those of all
  pub times_one : (b : ℕ) (rows : List Chain) (k : ℕ) (d : Chain) → k < length rows → times b (places blocks (get_or rows k d)) ≤ times b (chains blocks rows)
  times_one b [] k d h = absurd (omega arith)
  times_one b (r ∷ rows) zero d h = let e = times_append b (places blocks r) (chains blocks rows) in omega arith
  times_one b (r ∷ rows) (suc k) d h =
      let e = times_append b (places blocks r) (chains blocks rows) in
      let rest = times_one b rows k d (omega arith) in
      omega arith

  -- the clause after the first k
  pub clause_found : (rows : List Chain) (n k : ℕ) (d : Chain) → n ≡ k + 1 → k < length rows → clause_of blocks (get_or rows k d) ≡ clause_at (clauses_of blocks rows) n
  clause_found rows n k d e h = let is = get_or-map (clause_of blocks) rows k d [] h in grind (arith, nat_tests)

  -- what is not filed has no entries
  pub clause_missing : (rows : List Chain) (n k : ℕ) → n ≡ k + 1 → length rows ≤ k → [] ≡ clause_at (clauses_of blocks rows) n
  clause_missing rows n k e h =
      let l = length-map rows (clause_of blocks) in
      let past = get_or_past (clauses_of blocks rows) k [] (omega arith) in
      grind (arith, nat_tests)
