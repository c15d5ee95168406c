-- A chain whose blocks are put on the free list one by one.
use Rattle.std.proofs.Common.{◌≡◌, ℕ, suc, ◌+◌, ◌<◌, ◌≤◌, List, [], ◌∷◌, length, refl, ap, ◌∙◌, arith}
use Rattle.linked.specs.declared.blocks.Chain.{Chain}
use Rattle.linked.specs.declared.pool.Pool.{Pool}
use Rattle.linked.specs.Chains.{blocks_for, places, chain, times, one_below}
use Rattle.linked.specs.Moves.{blocks_of, touched, block_at, spares, Returned}
use Rattle.linked.proofs.ChainLaws.{times_first, times_other, below_one, below_from, chain_same, length_chain}

-- from p to q the blocks l of the chain `all` were put on the free list, and `left` blocks from `place` on were not
pub record Releasing (p q : Pool) (all : List ℕ) (left place : ℕ) (l : List ℕ) : Type 0 where
  pub returned : Returned l p q
  pub parts : (b : ℕ) → times b l + times b (chain (blocks_of q) left place) ≡ times b all
  pub sum : length l + left ≡ length all

pub releasing_none : (p : Pool) (r : Chain) (left : ℕ) → left ≡ blocks_for r.length → Releasing p p (places (blocks_of p) r) left r.head []
releasing_none p r left e =
    record {
      returned = record { kept = λ b z. refl; moved = λ b. omega arith; long = refl; size = omega arith; room = refl };
      parts = λ b. let same = ap (λ n. times b (chain (blocks_of p) n r.head)) e in omega arith;
      sum = let n = length_chain (blocks_of p) (blocks_for r.length) r.head in omega arith;
    }

pub releasing_all : (p q : Pool) (r : Chain) (left place : ℕ) (l : List ℕ) → left ≡ 0 → Releasing p q (places (blocks_of p) r) left place l → Returned (places (blocks_of p) r) p q
releasing_all p q r left place l done so =
    let none : (b : ℕ) → times b (chain (blocks_of q) left place) ≡ 0 = λ b. ap (λ n. times b (chain (blocks_of q) n place)) done in
    let back = so.returned in
    record {
      kept = λ b z. back.kept b (let parts = so.parts b in omega arith);
      moved = λ b. let parts = so.parts b in let rest = none b in let moved = back.moved b in omega arith;
      long = back.long;
      size = let size = back.size in let sum = so.sum in omega arith;
      room = back.room;
    }

-- one block more is put on the free list
module _ (p q : Pool) (all : List ℕ) (was left place : ℕ) (l : List ℕ) (apart : (b : ℕ) → times b all + times b (spares p) ≤ one_below (touched p) b) (is : Releasing p q all was place l) (down : was ≡ left + 1) where
  abbrev later : List ℕ
  later = chain (blocks_of q) left (block_at q place).next

  first_left : chain (blocks_of q) was place ≡ place ∷ later
  first_left = let e : was ≡ suc left = omega arith in ap (λ n. chain (blocks_of q) n place) e

  -- the next block is in the chain once, and not free
  alone : (times place later + times place (spares q) ≡ 0) × (place < touched q)
  alone =
      let one = ap (times place) first_left in
      let first = times_first place later in
      let parts = is.parts place in
      let moved = is.returned.moved place in
      let long = is.returned.long in
      let once = apart place in
      let most = below_one (touched p) place in
      let below : place < touched p = below_from (touched p) place 1 (omega arith) (omega arith) in
      (omega arith, omega arith)

  pub next_below : place < touched q
  next_below = alone.1

  pub next_apart : times place (spares q) ≡ 0
  next_apart = let both = alone.0 in omega arith

  module _ (r : Pool) (next : ℕ) (one : Returned (place ∷ []) q r) (at : next ≡ (block_at q place).next) where
    later_same : chain (blocks_of r) left next ≡ later
    later_same =
        ap (λ h. chain (blocks_of r) left h) at
        ∙ chain_same (blocks_of q) (blocks_of r) left (block_at q place).next
        (λ b t. one.kept b
        (times_other b place []
        (λ e. let again : times b later ≡ times place later = ap (λ k. times k later) e in let none = alone.0 in omega arith)))

    pub releasing_more : Releasing p r all left next (place ∷ l)
    releasing_more =
        record {
          returned = record {
            kept = λ b z. one.kept b (omega arith) ∙ is.returned.kept b (omega arith);
            moved = λ b. let x = one.moved b in let y = is.returned.moved b in omega arith;
            long = one.long ∙ is.returned.long;
            size = let x = one.size in let y = is.returned.size in omega arith;
            room = one.room ∙ is.returned.room;
          };
          parts = λ b. let parts = is.parts b in let here = ap (times b) first_left in let rest = ap (times b) later_same in omega arith;
          sum = let sum = is.sum in omega arith;
        }
