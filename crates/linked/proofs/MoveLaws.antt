-- Laws of the free list: blocks that are taken from it and put on it.
use Rattle.std.proofs.Common.{◌≡◌, ℕ, ◌+◌, ◌-◌, ◌<◌, ◌≤◌, List, [], ◌∷◌, ◌++◌, length, get_or, set, vec_capacity, sym, ap, ◌∙◌, add-one, arith}
use Rattle.std.proofs.lemmas.List.{get_or-set_other, get_or-set_same, get_or_append_left}
use Rattle.std.proofs.lemmas.Bool.Decides.{nat_tests}
use Rattle.linked.specs.declared.blocks.Block.{Block}
use Rattle.linked.specs.declared.pool.Pool.{Pool}
use Rattle.linked.specs.Chains.{no_block, chain, times, one_below}
use Rattle.linked.specs.Moves.{blocks_of, touched, block_at, spares, Taken, Returned}
use Rattle.linked.proofs.ChainLaws.{times_first, below_yes, below_one, below_from, below_more, chain_first, chain_written}

-- the first block of the free list is taken, and written
module _ (blocks : List Block) (n free spare next : ℕ) (some : 0 < spare) (at : next ≡ (get_or blocks free no_block).next) (once : (b : ℕ) → times b (chain blocks spare free) ≤ one_below n b) where
  abbrev rest : List ℕ
  rest = chain blocks (spare - 1) next

  first : (b : ℕ) → times b (chain blocks spare free) ≡ times b (free ∷ rest)
  first b = ap (times b) (chain_first blocks spare free some) ∙ ap (λ h. times b (free ∷ chain blocks (spare - 1) h)) (sym at)

  -- it is one of the pool
  pub free_below : free < n
  free_below =
      let is = first free in
      let more = times_first free rest in
      below_from n free (times free (chain blocks spare free)) (once free) (omega arith)

  -- the others stay, in their order
  pub rest_same : (x : Block) → chain (set blocks free x) (spare - 1) next ≡ rest
  rest_same x =
      let is = first free in
      let more = times_first free rest in
      let low = once free in
      let one = below_one n free in
      chain_written blocks (spare - 1) next free x (omega arith)

  pub rest_once : (x : Block) (b : ℕ) → times b (chain (set blocks free x) (spare - 1) next) ≤ one_below n b
  rest_once x b = let is = first b in let same = ap (times b) (rest_same x) in let low = once b in omega arith

module _ (p q : Pool) (x : Block) (some : 0 < p.spare) (items : blocks_of q ≡ set (blocks_of p) p.free x) (long : touched q ≡ touched p) (cap : vec_capacity q.blocks ≡ vec_capacity p.blocks) (free : q.free ≡ (block_at p p.free).next) (spare : q.spare ≡ p.spare - 1) where
  spares_less : (b : ℕ) → times b (spares p) ≡ times b (p.free ∷ spares q)
  spares_less b =
      let same : chain (set (blocks_of p) p.free x) (p.spare - 1) q.free ≡ spares q = cc in
      first (blocks_of p) (touched p) p.free p.spare q.free some free p.once b
      ∙ ap (λ l. times b (p.free ∷ l)) (sym (rest_same (blocks_of p) (touched p) p.free p.spare q.free some free p.once x) ∙ same)

  pop_kept : (b : ℕ) → b < touched p → times b (spares p) ≡ 0 → block_at q b ≡ block_at p b
  pop_kept b h z =
      ap (λ (l : List Block). get_or l b no_block) items
      ∙ get_or-set_other (blocks_of p) p.free b x no_block
      (λ e. let is = spares_less p.free in
      let one = times_first p.free (spares q) in
      let again : times b (spares p) ≡ times p.free (spares p) = ap (λ k. times k (spares p)) e in
      omega arith)

  pub taken_pop : Taken (p.free ∷ []) p q
  taken_pop =
      record {
        kept = pop_kept;
        moved = λ b. let is = spares_less b in let n : one_below (touched q) b ≡ one_below (touched p) b = ap (λ k. one_below k b) long in omega arith;
        size = omega arith;
        room = cap;
      }

-- a block never used before is taken, and written
module _ (p q : Pool) (x : Block) (none : p.spare ≡ 0) (len : touched p ≡ length (blocks_of p)) (items : blocks_of q ≡ blocks_of p ++ x ∷ []) (long : touched q ≡ touched p + 1) (cap : vec_capacity q.blocks ≡ vec_capacity p.blocks) (spare : q.spare ≡ p.spare) (place : ℕ) (at : place ≡ touched p) where
  fresh_kept : (b : ℕ) → b < touched p → block_at q b ≡ block_at p b
  fresh_kept b h =
      ap (λ (l : List Block). get_or l b no_block) items
      ∙ get_or_append_left (blocks_of p) (x ∷ []) no_block b (omega arith)

  none_before : (b : ℕ) → times b (spares p) ≡ 0
  none_before b = ap (λ n. times b (chain (blocks_of p) n p.free)) none

  none_after : (b : ℕ) → times b (spares q) ≡ 0
  none_after b = ap (λ n. times b (chain (blocks_of q) n q.free)) (spare ∙ none)

  pub taken_fresh : Taken (place ∷ []) p q
  taken_fresh =
      record {
        kept = λ b h z. fresh_kept b h;
        moved = λ b. let y = none_before b in let z = none_after b in let more = below_more (touched p) b [] in let is : times b (place ∷ []) ≡ times b (touched p ∷ []) = ap (λ k. times b (k ∷ [])) at in let n : one_below (touched q) b ≡ one_below (touched p + 1) b = ap (λ k. one_below k b) long in omega arith;
        size = omega arith;
        room = cap;
      }

-- the blocks l are taken, and then the block b
module _ (p q r : Pool) (l : List ℕ) (b : ℕ) (t : Taken l p q) (u : Taken (b ∷ []) q r) where
  -- what is taken is no longer free
  not_free : (y : ℕ) → 1 ≤ times y l → (times y (spares q) ≡ 0) × (y < touched q)
  not_free y h =
      let moved = t.moved y in
      let once = p.once y in
      let one = below_one (touched q) y in
      (omega arith, below_from (touched q) y (times y l) (omega arith) h)

  -- the blocks l stay as they are
  pub taken_same : (y : ℕ) → 1 ≤ times y l → block_at r y ≡ block_at q y
  taken_same y h = let both = not_free y h in u.kept y both.1 both.0

  still_kept : (y : ℕ) → y < touched p → times y (spares p) ≡ 0 → block_at r y ≡ block_at p y
  still_kept y h z =
      let moved = t.moved y in
      let yes = below_yes (touched p) y h in
      let one = below_one (touched q) y in
      let here : y < touched q = below_from (touched q) y 1 (omega arith) (omega arith) in
      u.kept y here (omega arith) ∙ t.kept y h z

  pub taken_more : Taken (b ∷ l) p r
  taken_more =
      record {
        kept = still_kept;
        moved = λ y. let one = t.moved y in let two = u.moved y in omega arith;
        size = let one = t.size in let two = u.size in omega arith;
        room = u.room ∙ t.room;
      }

-- a block that is not free is written, with a link to the free list, and put in front of it
module _ (blocks : List Block) (n free spare place : ℕ) (x : Block) (below : place < n) (len : n ≡ length blocks) (apart : times place (chain blocks spare free) ≡ 0) (next : x.next ≡ free) where
  pub put_more : chain (set blocks place x) (spare + 1) place ≡ place ∷ chain blocks spare free
  put_more =
      let here : get_or (set blocks place x) place no_block ≡ x = get_or-set_same blocks place x no_block (omega arith) in
      let same = chain_written blocks spare free place x apart in
      rw add-one
      (ap (λ (y : Block). place ∷ chain (set blocks place x) spare y.next) here
      ∙ ap (λ h. place ∷ chain (set blocks place x) spare h) next
      ∙ ap (λ l. place ∷ l) same)

  pub put_once : ((b : ℕ) → times b (chain blocks spare free) ≤ one_below n b) → (b : ℕ) → times b (chain (set blocks place x) (spare + 1) place) ≤ one_below n b
  put_once once b = let is = ap (times b) put_more in let low = once b in grind (arith, nat_tests)

module _ (p q : Pool) (place : ℕ) (x : Block) (below : place < touched p) (apart : times place (spares p) ≡ 0) (len : touched p ≡ length (blocks_of p)) (items : blocks_of q ≡ set (blocks_of p) place x) (next : x.next ≡ p.free) (long : touched q ≡ touched p) (cap : vec_capacity q.blocks ≡ vec_capacity p.blocks) (free : q.free ≡ place) (spare : q.spare ≡ p.spare + 1) where
  put_kept : (b : ℕ) → times b (place ∷ []) ≡ 0 → block_at q b ≡ block_at p b
  put_kept b z =
      ap (λ (l : List Block). get_or l b no_block) items
      ∙ get_or-set_other (blocks_of p) place b x no_block (λ e. let one : times b (place ∷ []) ≡ times place (place ∷ []) = ap (λ k. times k (place ∷ [])) e in let first = times_first place [] in omega arith)

  spares_more : spares q ≡ place ∷ spares p
  spares_more =
      let more = put_more (blocks_of p) (touched p) p.free p.spare place x below len apart next in
      cc

  pub returned_one : Returned (place ∷ []) p q
  returned_one =
      record {
        kept = put_kept;
        moved = λ b. let is : times b (spares q) ≡ times b (place ∷ spares p) = ap (times b) spares_more in omega arith;
        long = long;
        size = omega arith;
        room = cap;
      }
