-- A row into which items are written from the front, by their numbers.
use Rattle.std.proofs.Common.{◌≡◌, ℕ, ◌+◌, ◌<◌, List, [], ◌∷◌, ◌++◌, map, length, get_or, set, refl, sym, ap, ◌∙◌, zero-add, arith}
use Rattle.std.specs.List.{enumerate_from}
use Rattle.std.proofs.lemmas.List.{length-map, map-append, map-id}
use Rattle.std.proofs.lemmas.List.FromFn.{get_or-enumerate_from, length-enumerate_from}
use Rattle.clauses.specs.Clauses.{over}
use Rattle.clauses.proofs.RowLaws.{over_more}

module _ {X : Type 0} where
  -- items without their numbers
  abbrev pub items : List (ℕ × X) → List X
  items = map (λ p. p.1)

  items-enumerate : (n : ℕ) (xs : List X) → items (enumerate_from n xs) ≡ xs
  items-enumerate n [] = refl
  items-enumerate n (x ∷ xs) = ap (λ ys. x ∷ ys) (items-enumerate (n + 1) xs)

  -- the next item's number is how many stand before it
  pub next_is : (all : List X) (ps : List (ℕ × X)) (p : ℕ × X) → (length ps < length (enumerate_from 0 all)) × (p ≡ get_or (enumerate_from 0 all) (length ps) p) → (length ps < length all) × (p.0 ≡ length ps)
  next_is all ps p h =
      let inside : length ps < length all = omega (arith, length-enumerate_from 0 all) in
      (inside, ap (λ q. q.0) (h.1 ∙ get_or-enumerate_from 0 all (length ps) p inside) ∙ zero-add (length ps))

  -- one item more
  pub written_more : (row was : List X) (ps : List (ℕ × X)) (p : ℕ × X) → p.0 ≡ length ps → length ps < length was → row ≡ over (items ps) was → set row p.0 p.1 ≡ over (items (ps ++ p ∷ [])) was
  written_more row was ps p e inside w =
      ap (λ r. set r p.0 p.1) w ∙ over_more (items ps) was p.0 p.1 (length-map ps (λ p. p.1) ∙ sym e) (omega arith)
      ∙ ap (λ xs. over xs was) (sym (map-append (λ p. p.1) ps (p ∷ [])))

  -- all of them
  pub written_all : (row was all : List X) (ps : List (ℕ × X)) → map (λ p. (p.0, p.1)) ps ≡ enumerate_from 0 all → row ≡ over (items ps) was → row ≡ over all was
  written_all row was all ps e w =
      let same : items ps ≡ all = ap items (sym (map-id ps) ∙ e) ∙ items-enumerate 0 all in
      w ∙ ap (λ xs. over xs was) same
