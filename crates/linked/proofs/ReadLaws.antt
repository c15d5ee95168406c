-- What is read along the chain of a clause.
use Rattle.std.proofs.Common.{◌≡◌, ℕ, zero, suc, ◌+◌, ◌-◌, ◌*◌, ◌/◌, ◌%◌, ◌<◌, ◌≤◌, List, [], ◌∷◌, ◌++◌, length, get_or, take, drop, set, sym, refl, ap, ◌∙◌, append_assoc, arith}
use Rattle.std.proofs.lemmas.List.{get_or-take, get_or-drop, drop-drop, take_more, drop_more, set_at, length-append, length-take, length-take-le}
use Rattle.clauses.specs.declared.entry.Entry.{Entry}
use Rattle.engine.specs.Shelves.{no_entry}
use Rattle.linked.specs.declared.blocks.Block.{Block}
use Rattle.linked.specs.declared.blocks.Chain.{Chain}
use Rattle.linked.specs.declared.pool.Pool.{Pool}
use Rattle.linked.specs.Moves.{blocks_of, touched, block_at, Within}
use Rattle.linked.specs.Chains.{blocks_for, no_block, four, chain, held, places, clause_of, times}
use Rattle.linked.proofs.ChainLaws.{times_first, below_from, chain_first}

length_held : (blocks : List Block) (m head : ℕ) → length (held blocks m head) ≡ 4 * m
length_held blocks zero head = refl
length_held blocks (suc m) head =
    let x = get_or blocks head no_block in
    let e = length-append (four x) (held blocks m x.next) in
    let rest = length_held blocks m x.next in
    omega arith

pub length_clause : (blocks : List Block) (r : Chain) → length (clause_of blocks r) ≡ r.length
length_clause blocks r =
    let long = length_held blocks (blocks_for r.length) r.head in
    length-take-le r.length (held blocks (blocks_for r.length) r.head) (omega arith)

-- k links along the chain of a clause, `place` begins what is left of it
pub record Reading (p : Pool) (r : Chain) (k place : ℕ) : Type 0 where
  pub entries : drop (4 * k) (held (blocks_of p) (blocks_for r.length) r.head) ≡ held (blocks_of p) (blocks_for r.length - k) place
  pub among : (b : ℕ) → times b (chain (blocks_of p) (blocks_for r.length - k) place) ≤ times b (places (blocks_of p) r)

pub reading_none : (p : Pool) (r : Chain) → Reading p r 0 r.head
reading_none p r =
    let all : blocks_for r.length - 0 ≡ blocks_for r.length = omega arith in
    record {
      entries = ap (λ n. held (blocks_of p) n r.head) (sym all);
      among = λ b. let same = ap (λ n. times b (chain (blocks_of p) n r.head)) all in omega arith;
    }

module _ (p : Pool) (r : Chain) (k place : ℕ) (is : Reading p r k place) (more : 4 * k < r.length) where
  abbrev left : ℕ
  left = blocks_for r.length - k

  -- the block there is one of the pool
  pub reading_below : Within p r → place < touched p
  reading_below within =
      let first = ap (times place) (chain_first (blocks_of p) left place (omega arith)) in
      let one = times_first place (chain (blocks_of p) (left - 1) (block_at p place).next) in
      let among = is.among place in
      below_from (touched p) place (times place (places (blocks_of p) r)) (within place) (omega arith)

  -- it has the next four entries
  pub reading_block : drop (4 * k) (held (blocks_of p) (blocks_for r.length) r.head) ≡ four (block_at p place) ++ held (blocks_of p) (left - 1) (block_at p place).next
  reading_block =
      let e : left ≡ suc (left - 1) = omega arith in
      is.entries ∙ ap (λ n. held (blocks_of p) n place) e

  -- its link leads on
  pub reading_next : (n next : ℕ) → n ≡ k + 1 → next ≡ (block_at p place).next → Reading p r n next
  reading_next n next e at =
      let fewer : left - 1 ≡ blocks_for r.length - n = omega arith in
      let on : 4 * n ≡ 4 * k + 4 = omega arith in
      record {
        entries =
            ap (λ i. drop i (held (blocks_of p) (blocks_for r.length) r.head)) on
            ∙ sym (drop-drop 4 (4 * k) (held (blocks_of p) (blocks_for r.length) r.head))
            ∙ ap (drop 4) reading_block
            ∙ ap (λ m. held (blocks_of p) m (block_at p place).next) fewer
            ∙ ap (held (blocks_of p) (blocks_for r.length - n)) (sym at);
        among = λ b.
            let first = ap (times b) (chain_first (blocks_of p) left place (omega arith)) in
            let rest : times b (chain (blocks_of p) (blocks_for r.length - n) next) ≡ times b (chain (blocks_of p) (left - 1) (block_at p place).next) = cc in
            let among = is.among b in
            omega arith;
      }

four_at : (c l : List Entry) (j : ℕ) → j < 4 → get_or (four (record { entries = c; next = 0 }) ++ l) j no_entry ≡ get_or c j no_entry
four_at c l zero h = refl
four_at c l (suc zero) h = refl
four_at c l (suc (suc zero)) h = refl
four_at c l (suc (suc (suc zero))) h = refl
four_at c l (suc (suc (suc (suc j)))) h = absurd (omega arith)

-- the entry i of a clause
pub read_entry : (p : Pool) (r : Chain) (i k place : ℕ) → Reading p r k place → k ≡ i / 4 → i < r.length → get_or (block_at p place).entries (i % 4) no_entry ≡ get_or (clause_of (blocks_of p) r) i no_entry
read_entry p r i k place is e h =
    let all = held (blocks_of p) (blocks_for r.length) r.head in
    let x = block_at p place in
    let later = held (blocks_of p) (blocks_for r.length - k - 1) x.next in
    let there : 4 * k + i % 4 ≡ i = omega arith in
    sym
    (get_or-take r.length all i no_entry h
    ∙ ap (λ n. get_or all n no_entry) (sym there)
    ∙ sym (get_or-drop (4 * k) all (i % 4) no_entry)
    ∙ ap (λ l. get_or l (i % 4) no_entry) (reading_block p r k place is (omega arith))
    ∙ four_at x.entries later (i % 4) (omega arith))

-- one entry more of a list is written to the front of a row
pub copy_more : (c row : List Entry) (k : ℕ) (x : Entry) → k < length c → k < length row → x ≡ get_or c k no_entry → set (take k c ++ drop k row) k x ≡ take (k + 1) c ++ drop (k + 1) row
copy_more c row k x h g e =
    let long = length-take k c in
    ap (λ l. set (take k c ++ l) k x) (drop_more row k no_entry g)
    ∙ set_at (take k c) (get_or row k no_entry) (drop (k + 1) row) x k (omega arith)
    ∙ ap (λ y. take k c ++ y ∷ drop (k + 1) row) e
    ∙ sym (append_assoc (take k c) (get_or c k no_entry ∷ []) (drop (k + 1) row))
    ∙ ap (λ l. l ++ drop (k + 1) row) (sym (take_more c k no_entry h))
