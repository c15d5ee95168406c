-- Laws of chains: how often a place stands in them, and what a change of other blocks leaves.
use Rattle.std.proofs.Common.{◌≡◌, ℕ, zero, suc, ◌+◌, ◌-◌, ◌<◌, ◌≤◌, ◌≢◌, List, [], ◌∷◌, ◌++◌, length, get_or, set, take, refl, ap, ◌∙◌, arith}
use Rattle.std.proofs.lemmas.List.{get_or-set_other}
use Rattle.std.proofs.lemmas.Bool.Decides.{nat_tests}
use Rattle.linked.specs.declared.blocks.Block.{Block}
use Rattle.linked.specs.declared.blocks.Chain.{Chain}
use Rattle.linked.specs.Chains.{blocks_for, no_block, four, chain, held, places, clause_of, chains, clauses_of, times, one_below}

pub times_append : (b : ℕ) (l m : List ℕ) → times b (l ++ m) ≡ times b l + times b m
times_append b [] m = omega arith
times_append b (x ∷ l) m = omega (arith, times_append b l m)

-- a place in front of a list stands in it
pub times_first : (b : ℕ) (l : List ℕ) → times b (b ∷ l) ≡ 1 + times b l
times_first b l = grind (arith, nat_tests)

pub times_other : (b x : ℕ) (l : List ℕ) → b ≢ x → times b (x ∷ l) ≡ times b l
times_other b x l ne = grind (arith, nat_tests)

pub below_yes : (n b : ℕ) → b < n → one_below n b ≡ 1
below_yes n b h = grind (arith, nat_tests)

pub below_no : (n b : ℕ) → n ≤ b → one_below n b ≡ 0
below_no n b h = grind (arith, nat_tests)

-- what is counted among the first n blocks is the place of one of them
pub below_from : (n b t : ℕ) → t ≤ one_below n b → 1 ≤ t → b < n
below_from n b t h one = grind (arith, nat_tests)

pub below_one : (n b : ℕ) → one_below n b ≤ 1
below_one n b = grind (arith, nat_tests)

-- one block more
pub below_more : (n b : ℕ) (l : List ℕ) → times b (n ∷ l) + one_below n b ≡ times b l + one_below (n + 1) b
below_more n b l = grind (arith, nat_tests)

-- a chain is its first block, and the chain that its link begins
pub chain_first : (blocks : List Block) (m head : ℕ) → 0 < m → chain blocks m head ≡ head ∷ chain blocks (m - 1) (get_or blocks head no_block).next
chain_first blocks m head h = let e : m ≡ suc (m - 1) = omega arith in ap (λ n. chain blocks n head) e

module _ (old new : List Block) where
  -- a chain is as it was if its blocks are
  pub chain_same : (m head : ℕ) → ((b : ℕ) → 1 ≤ times b (chain old m head) → get_or new b no_block ≡ get_or old b no_block) → chain new m head ≡ chain old m head
  chain_same zero head same = refl
  chain_same (suc m) head same =
      let next = (get_or old head no_block).next in
      let here = times_first head (chain old m next) in
      let e : get_or new head no_block ≡ get_or old head no_block = same head (omega arith) in
      ap (λ (x : Block). head ∷ chain new m x.next) e
      ∙ ap (λ l. head ∷ l) (chain_same m next (λ b t. same b (omega arith)))

  pub held_same : (m head : ℕ) → ((b : ℕ) → 1 ≤ times b (chain old m head) → get_or new b no_block ≡ get_or old b no_block) → held new m head ≡ held old m head
  held_same zero head same = refl
  held_same (suc m) head same =
      let next = (get_or old head no_block).next in
      let here = times_first head (chain old m next) in
      let e : get_or new head no_block ≡ get_or old head no_block = same head (omega arith) in
      ap (λ (x : Block). four x ++ held new m x.next) e
      ∙ ap (λ l. four (get_or old head no_block) ++ l) (held_same m next (λ b t. same b (omega arith)))

  -- the clauses are as they were if the blocks of their chains are
  pub chains_same : (rows : List Chain) → ((b : ℕ) → 1 ≤ times b (chains old rows) → get_or new b no_block ≡ get_or old b no_block) → chains new rows ≡ chains old rows
  chains_same [] same = refl
  chains_same (r ∷ rows) same =
      let one = chain_same (blocks_for r.length) r.head (λ b t. same b (let e = times_append b (places old r) (chains old rows) in omega arith)) in
      let rest = chains_same rows (λ b t. same b (let e = times_append b (places old r) (chains old rows) in omega arith)) in
      ap (λ l. l ++ chains new rows) one ∙ ap (λ l. places old r ++ l) rest

  pub clauses_same : (rows : List Chain) → ((b : ℕ) → 1 ≤ times b (chains old rows) → get_or new b no_block ≡ get_or old b no_block) → clauses_of new rows ≡ clauses_of old rows
  clauses_same [] same = refl
  clauses_same (r ∷ rows) same =
      let one = held_same (blocks_for r.length) r.head (λ b t. same b (let e = times_append b (places old r) (chains old rows) in omega arith)) in
      let rest = clauses_same rows (λ b t. same b (let e = times_append b (places old r) (chains old rows) in omega arith)) in
      ap (λ l. take r.length l ∷ clauses_of new rows) one ∙ ap (λ l. clause_of old r ∷ l) rest

-- and so if a block is written that it does not go through
pub chain_written : (blocks : List Block) (m head place : ℕ) (x : Block) → times place (chain blocks m head) ≡ 0 → chain (set blocks place x) m head ≡ chain blocks m head
chain_written blocks m head place x none =
    chain_same blocks (set blocks place x) m head
    (λ b t. get_or-set_other blocks place b x no_block
    (λ e. let again : times b (chain blocks m head) ≡ times place (chain blocks m head) = ap (λ k. times k (chain blocks m head)) e in omega arith))

pub length_chain : (blocks : List Block) (m head : ℕ) → length (chain blocks m head) ≡ m
length_chain blocks zero head = refl
length_chain blocks (suc m) head = ap suc (length_chain blocks m (get_or blocks head no_block).next)
