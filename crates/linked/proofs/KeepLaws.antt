-- A clause that is kept block by block, the last block first.
use Rattle.std.proofs.Common.{◌≡◌, ℕ, suc, ◌+◌, ◌-◌, ◌*◌, List, [], ◌∷◌, ◌++◌, length, min, take, drop, sym, refl, ap, ◌∙◌, subst, inl, inr, arith}
use Rattle.std.proofs.lemmas.List.{length-append, length-drop, drop-drop, drop-take, drop_all, drop_at, take-take, take_all, take_at}
use Rattle.std.proofs.lemmas.Bool.{cases_lt}
use Rattle.clauses.specs.declared.entry.Entry.{Entry}
use Rattle.linked.specs.declared.blocks.Block.{Block}
use Rattle.linked.specs.declared.pool.Pool.{Pool}
use Rattle.linked.specs.Chains.{blocks_for, four, first_four, chain, held}
use Rattle.linked.specs.Moves.{blocks_of, block_at, Taken}
use Rattle.linked.proofs.ChainLaws.{chain_same, held_same}
use Rattle.linked.proofs.MoveLaws.{taken_same, taken_more}

-- four entries before what follows them
four_front : (d t : List Entry) → take (length d - 4) t ≡ drop 4 d → take (length d) (first_four d ++ t) ≡ d
four_front [] t h = refl
four_front (a ∷ []) t h = refl
four_front (a ∷ b ∷ []) t h = refl
four_front (a ∷ b ∷ e ∷ []) t h = refl
four_front (a ∷ b ∷ e ∷ f ∷ d) t h =
    let n : length d ≡ length (a ∷ b ∷ e ∷ f ∷ d) - 4 = omega arith in
    ap (λ l. a ∷ b ∷ e ∷ f ∷ l) (ap (λ k. take k t) n ∙ h)

-- the entries from i on: the four of a block, and those of the blocks after it
front_more : (c t : List Entry) (i n : ℕ) → n ≡ length c - i → take (n - 4) t ≡ drop (i + 4) c → take n (first_four (drop i c) ++ t) ≡ drop i c
front_more c t i n e h =
    let d = drop i c in
    let long = length-drop i c in
    let m : n ≡ length d = omega arith in
    let rest : take (length d - 4) t ≡ drop 4 d = ap (λ k. take (k - 4) t) (sym m) ∙ h ∙ sym (drop-drop 4 i c) in
    ap (λ k. take k (first_four d ++ t)) m ∙ four_front d t rest

first_of_four : (c : List Entry) → first_four (take 4 c) ≡ first_four c
first_of_four [] = refl
first_of_four (a ∷ []) = refl
first_of_four (a ∷ b ∷ []) = refl
first_of_four (a ∷ b ∷ e ∷ []) = refl
first_of_four (a ∷ b ∷ e ∷ f ∷ c) = refl

-- a chunk x at the end of the front s of a list, and what is left before it
module _ (c s t x : List Entry) (front : s ≡ take (length s) c) (cut : s ≡ t ++ x) where
  pub chunk_front : t ≡ take (length t) c
  chunk_front =
      let long = ap length cut in
      let both = length-append t x in
      sym (take_at t x (length t) refl) ∙ ap (take (length t)) (sym cut ∙ front) ∙ take-take (length t) (length s) c (omega arith)

  pub chunk_four : (left : ℕ) → length t ≡ 4 * left → length s ≡ min (length c) (4 * left + 4) → first_four x ≡ first_four (drop (4 * left) c)
  chunk_four left e n =
      let whole : take (length s) c ≡ take (4 * left + 4) c = elim (cases_lt (length c) (4 * left + 4)) [
        | inl h ↦ take_all (length s) c (omega arith) ∙ sym (take_all (4 * left + 4) c (omega arith))
        | inr h ↦ ap (λ k. take k c) (omega arith)
      ] in
      ap first_four
      (sym (drop_at t x (4 * left) e)
      ∙ ap (drop (4 * left)) (sym cut ∙ front ∙ whole)
      ∙ drop-take (4 * left) 4 c)
      ∙ first_of_four (drop (4 * left) c)

taken_none : (p : Pool) → Taken [] p p
taken_none p = record { kept = λ b h z. refl; moved = λ b. omega arith; size = omega arith; room = refl }

-- from p to q the blocks from the place `left` of a clause on were made; they begin at `head`
pub record Building (p q : Pool) (c : List Entry) (left head made : ℕ) : Type 0 where
  pub sum : made + left ≡ blocks_for (length c)
  pub taken : Taken (chain (blocks_of q) made head) p q
  pub entries : take (length c - 4 * left) (held (blocks_of q) made head) ≡ drop (4 * left) c

pub building_none : (p : Pool) (c : List Entry) (left head : ℕ) → left ≡ blocks_for (length c) → Building p p c left head 0
building_none p c left head e =
    let none : length c - 4 * left ≡ 0 = omega arith in
    record {
      sum = omega arith;
      taken = taken_none p;
      entries = ap (λ n. take n []) none ∙ sym (drop_all (4 * left) c (omega arith));
    }

-- one block more is stored, at b
module _ (p q r : Pool) (c : List Entry) (left was head made b : ℕ) (x : Block) (is : Building p q c was head made) (down : was ≡ left + 1) (entries : four x ≡ first_four (drop (4 * left) c)) (next : x.next ≡ head) (wrote : block_at r b ≡ x) (one : Taken (b ∷ []) q r) where
  chain_more : chain (blocks_of r) (suc made) b ≡ b ∷ chain (blocks_of q) made head
  chain_more =
      ap (λ (y : Block). b ∷ chain (blocks_of r) made y.next) wrote
      ∙ ap (λ h. b ∷ chain (blocks_of r) made h) next
      ∙ ap (λ l. b ∷ l) (chain_same (blocks_of q) (blocks_of r) made head (taken_same p q r (chain (blocks_of q) made head) b is.taken one))

  held_more : held (blocks_of r) (suc made) b ≡ first_four (drop (4 * left) c) ++ held (blocks_of q) made head
  held_more =
      ap (λ (y : Block). four y ++ held (blocks_of r) made y.next) wrote
      ∙ ap (λ h. four x ++ held (blocks_of r) made h) next
      ∙ ap (λ l. four x ++ l) (held_same (blocks_of q) (blocks_of r) made head (taken_same p q r (chain (blocks_of q) made head) b is.taken one))
      ∙ ap (λ l. l ++ held (blocks_of q) made head) entries

  pub building_more : Building p r c left b (suc made)
  building_more =
      let sum = is.sum in
      let n : length c - 4 * left - 4 ≡ length c - 4 * was = omega arith in
      let i : 4 * was ≡ 4 * left + 4 = omega arith in
      let rest : take (length c - 4 * left - 4) (held (blocks_of q) made head) ≡ drop (4 * left + 4) c =
      ap (λ k. take k (held (blocks_of q) made head)) n ∙ is.entries ∙ ap (λ k. drop k c) i in
      record {
        sum = omega arith;
        taken = subst (λ l. Taken l p r) (sym chain_more) (taken_more p q r (chain (blocks_of q) made head) b is.taken one);
        entries = ap (take (length c - 4 * left)) held_more ∙ front_more c (held (blocks_of q) made head) (4 * left) (length c - 4 * left) refl rest;
      }
