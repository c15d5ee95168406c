-- A row that a list is copied to the front of, as far as there is room.
use Rattle.std.proofs.Common.{◌≡◌, ℕ, ◌+◌, ◌<◌, min, List, map, length, get_or, take, set, sym, ap, ◌∙◌, arith}
use Rattle.std.proofs.lemmas.List.{length-map, length-take-le, map_more, take-map, take_min}
use Rattle.clauses.specs.Clauses.{over}
use Rattle.clauses.proofs.RowLaws.{over_more}

module _ {X Y : Type 0} (f : X → Y) (xs : List X) (was : List Y) where
  -- the next item's image is written
  pub copied_more : (row : List Y) (n : ℕ) (d : X) → n < length xs → n < length was → row ≡ over (map f (take n xs)) was → set row n (f (get_or xs n d)) ≡ over (map f (take (n + 1) xs)) was
  copied_more row n d low high e =
      let long : length (map f (take n xs)) ≡ n = length-map (take n xs) f ∙ length-take-le n xs (omega arith) in
      ap (λ r. set r n (f (get_or xs n d))) e ∙ over_more (map f (take n xs)) was n (f (get_or xs n d)) long high
      ∙ ap (λ ys. over ys was) (sym (map_more f xs n d low))

  -- as much of them as there is room for
  pub copied_all : (n : ℕ) → n ≡ min (length xs) (length was) → over (map f (take n xs)) was ≡ over (take (length was) (map f xs)) was
  copied_all n e =
      let count : n ≡ min (length was) (length xs) = omega arith in
      ap (λ k. over (map f (take k xs)) was) count ∙ ap (λ ys. over (map f ys) was) (take_min (length was) xs)
      ∙ ap (λ ys. over ys was) (sym (take-map f (length was) xs))
