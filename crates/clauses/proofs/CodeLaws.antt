-- Codes come in pairs, 2y and 2y + 1: the complement has the same y and the other parity.
use Rattle.std.proofs.Common.{◌≡◌, ℕ, ◌/◌, ◌%◌, not, eqb, arith}
use lib.Bits.{bit_xor, xor_shr, xor_mod, xor_zero_r}
use Rattle.std.proofs.lemmas.Bool.Decides.{nat_tests}

pub complement_half : (n : ℕ) → bit_xor n 1 / 2 ≡ n / 2
complement_half n = omega (arith, xor_shr n 1 1, xor_zero_r (n / 2))

pub complement_parity : (n : ℕ) → eqb (bit_xor n 1 % 2) 1 ≡ not (eqb (n % 2) 1)
complement_parity n = grind (arith, nat_tests, xor_mod n 1 1)
