-- The counts of the header by their least and most: the first is not 0, and the second may be.
use Rattle.std.proofs.Common.{◌≡◌, ℕ, Bool, cond, ◌||◌, eqb, ltb, List, Ok, Err, ap, arith}
use Rattle.std.proofs.lemmas.Bool.Decides.{nat_tests}
use Rattle.base.specs.Causes.{refused}
use Rattle.words.specs.Words.{Spelt}
use Rattle.words.specs.Due.{number_from}
use Rattle.formula.specs.Reading.{count_from}
use Rattle.formula.proofs.FrontLaws.{then_same}

count_same : (f g : ℕ → Bool) (room : ℕ) (ws : List Spelt) (size : ℕ) → ((n : ℕ) → f n ≡ g n) → count_from f room ws size ≡ count_from g room ws size
count_same f g room ws size h =
    then_same (number_from ws size) _ _ (λ k. ap (λ b. cond b (Err (refused 5 k.0.1 2)) (cond (ltb room k.0.0) (Err (refused 8 k.0.1 2)) (Ok (k.0.0, k.1, k.2)))) (h k.0.0))

not_zero : (most n : ℕ) → (ltb n 1 || ltb most n) ≡ (eqb n 0 || ltb most n)
not_zero most n = grind (arith, nat_tests)

not_below : (most n : ℕ) → (ltb n 0 || ltb most n) ≡ ltb most n
not_below most n = grind (arith, nat_tests)

pub variable_count : (room : ℕ) (ws : List Spelt) (size : ℕ) → count_from (λ n. ltb n 1 || ltb 65535 n) room ws size ≡ count_from (λ n. eqb n 0 || ltb 65535 n) room ws size
variable_count room ws size = count_same _ _ room ws size (not_zero 65535)

pub clause_count : (room : ℕ) (ws : List Spelt) (size : ℕ) → count_from (λ n. ltb n 0 || ltb 16384 n) room ws size ≡ count_from (λ n. ltb 16384 n) room ws size
clause_count room ws size = count_same _ _ room ws size (not_below 16384)
