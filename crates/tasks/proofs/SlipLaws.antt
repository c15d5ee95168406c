-- The byte of a slip that has its verdict.
use Rattle.std.proofs.Common.{◌≡◌, ℕ, get_or, refl, arith}
use Rattle.engine.specs.declared.side.Verdict.{Verdict}
use Rattle.engine.specs.declared.side.Verdict.TheVariants as verdict
use Rattle.engine.specs.Plain.{verdict_slip}
use Rattle.records.specs.declared.slip.Slip.{Slip}
use Rattle.records.specs.declared.slip.Slip.TheVariants as slip
use Rattle.records.specs.Slips.{verdict_number, case_of, clauses_of, slip_bytes}

-- the byte of a side's verdict: 1 says True, 2 says False
abbrev pub verdict_byte : Verdict → ℕ
verdict_byte verdict.True = 1
verdict_byte verdict.False = 2

has_verdict : (v : Verdict) (s : Slip) → verdict_number s ≡ verdict_byte v → s ≡ verdict_slip v (case_of s) (clauses_of s)
has_verdict verdict.True (slip.True n k) e = refl
has_verdict verdict.True (slip.False n k) e = absurd (omega (arith, e))
has_verdict verdict.True (slip.Unproved n k j) e = absurd (omega (arith, e))
has_verdict verdict.True (slip.Stray n) e = absurd (omega (arith, e))
has_verdict verdict.False (slip.True n k) e = absurd (omega (arith, e))
has_verdict verdict.False (slip.False n k) e = refl
has_verdict verdict.False (slip.Unproved n k j) e = absurd (omega (arith, e))
has_verdict verdict.False (slip.Stray n) e = absurd (omega (arith, e))

-- a slip whose bytes have a verdict's byte is a slip with this verdict
pub verdict_given : (v : Verdict) (s : Slip) → get_or (slip_bytes s) 3 0 ≡ verdict_byte v → s ≡ verdict_slip v (case_of s) (clauses_of s)
verdict_given v s e = has_verdict v s e
