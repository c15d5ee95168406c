use Rattle.std.proofs.Common.{ℕ, ◌^◌, ◌<◌, ◌≤◌, arith}
use Rattle.std.proofs.lemmas.Grind.{common_steps}
use native.Mathlib.Nat.{pow-le-pow_right}
use Rattle.words.proofs.forms.number_of.Goals as goal

few_digits : (n i : ℕ) → n < 10 ^ i → i ≤ 8 → n < 100000000
few_digits n i h l = let p : 10 ^ i ≤ 10 ^ 8 = pow-le-pow_right (omega arith) l in omega arith

pub overflow_mul-n : goal.overflow_mul-n
overflow_mul-n c = let few = few_digits c.loop-b.n c.loop-b.b-index c.loop-b.invariant.few (omega arith) in omega arith

pub overflow_add-n : goal.overflow_add-n
overflow_add-n c =
    let few = few_digits c.loop-b.n c.loop-b.b-index c.loop-b.invariant.few (omega arith) in
    let e = c.in_ok-n.ensures.value in
    grind (arith, common_steps)
