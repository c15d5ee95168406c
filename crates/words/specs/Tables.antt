-- Tables that a reader is lent: what it fills them with, and what it leaves.
use Rattle.std.specs.Prelude.{◌≡◌, ℕ, ◌-◌, List, ◌++◌, length, drop, replicate}

-- a table of n entries that holds these, and zeros behind them
abbrev pub padded : {X : Type 0} → X → List X → ℕ → List X
padded none xs n = xs ++ replicate (n - length xs) none

-- what stands behind the first n entries is as it was
abbrev pub Kept : {X : Type 0} → ℕ → List X → List X → Type 0
Kept n was is = drop n is ≡ drop n was
