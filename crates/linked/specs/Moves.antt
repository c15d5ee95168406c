-- Blocks that go from the free list into a chain, and back.
use Rattle.std.specs.Prelude.{◌≡◌, ℕ, ◌+◌, ◌<◌, ◌≤◌, List, length, vec_items, vec_len, vec_capacity, slice_index_or}
use Rattle.linked.specs.declared.blocks.Block.{Block}
use Rattle.linked.specs.declared.blocks.Chain.{Chain}
use Rattle.linked.specs.declared.pool.Pool.{Pool}
use Rattle.linked.specs.Chains.{no_block, chain, places, times, one_below}

-- the blocks of a pool
abbrev pub blocks_of : Pool → List Block
blocks_of p = vec_items p.blocks

-- the block at a place
abbrev pub block_at : Pool → ℕ → Block
block_at p b = slice_index_or (blocks_of p) b no_block

-- how many blocks were ever used
abbrev pub touched : Pool → ℕ
touched p = vec_len p.blocks

-- the places of the free blocks
abbrev pub spares : Pool → List ℕ
spares p = chain (blocks_of p) p.spare p.free

-- from p to q the blocks l were taken: from the free list, or never used before
pub record Taken (l : List ℕ) (p q : Pool) : Type 0 where
  pub kept : (b : ℕ) → b < touched p → times b (spares p) ≡ 0 → block_at q b ≡ block_at p b
  pub moved : (b : ℕ) → times b l + times b (spares q) + one_below (touched p) b ≡ times b (spares p) + one_below (touched q) b
  pub size : touched q + p.spare ≡ touched p + q.spare + length l
  pub room : vec_capacity q.blocks ≡ vec_capacity p.blocks

-- from p to q the blocks l were put on the free list
pub record Returned (l : List ℕ) (p q : Pool) : Type 0 where
  pub kept : (b : ℕ) → times b l ≡ 0 → block_at q b ≡ block_at p b
  pub moved : (b : ℕ) → times b (spares q) ≡ times b l + times b (spares p)
  pub long : touched q ≡ touched p
  pub size : q.spare ≡ p.spare + length l
  pub room : vec_capacity q.blocks ≡ vec_capacity p.blocks

-- the blocks of a clause are blocks of the pool
abbrev pub Within : Pool → Chain → Type 0
Within p r = (b : ℕ) → times b (places (blocks_of p) r) ≤ one_below (touched p) b
