-- Slips: a lawful slip's bytes read as the slip, whatever stands behind them.
use Rattle.std.proofs.Common.{◌≡◌, ℕ, ◌^◌, ◌<◌, ◌≤◌, true, List, ◌++◌, length, get_or, take, drop, Some, None, Ok, Err, Option, sym, ap, ◌∙◌, arith, length-append}
use Rattle.std.specs.Option.{ok_or}
use Rattle.std.specs.Int.{w32, to_be_bytes}
use Rattle.std.proofs.lemmas.List.{take-append-drop}
use Rattle.std.proofs.lemmas.Bool.{le-leb}
use Rattle.std.proofs.lemmas.Bool.Decides.{nat_tests}
use Rattle.std.proofs.lemmas.Nat.{from_be_bytes-to_be_bytes_4}
use Rattle.base.specs.declared.faults.Fault.{Fault}
use Rattle.base.specs.Causes.{answered, Refusal, told}
use Rattle.records.specs.declared.slip.Slip.{Slip}
use Rattle.records.specs.declared.slip.Slip.TheVariants as slip
use Rattle.records.specs.Slips.{LawfulSlip, MadeBy, ReadsSlip, begins_slip, verdict_number, case_of, clauses_of, goal_of, fields_bytes, slip_bytes, slip_by, slip_from, malformed}
use Rattle.records.proofs.ByteLaws.{elements, split_at}

-- sixteen bytes read as their verdict's number and three fields
pub fields_read : (verdict case clauses goal : ℕ) (behind : List ℕ) → case < 2 ^ 32 → clauses < 2 ^ 32 → goal < 2 ^ 32 →
    slip_from (fields_bytes verdict case clauses goal ++ behind) ≡ ok_or (slip_by verdict case clauses goal) malformed
fields_read verdict case clauses goal behind c s g =
    let front = fields_bytes verdict case clauses goal in
    rw (le-leb 16 (length (front ++ behind)) (omega (arith, length-append front behind)), from_be_bytes-to_be_bytes_4 case c, from_be_bytes-to_be_bytes_4 clauses s, from_be_bytes-to_be_bytes_4 goal g)

-- a lawful slip is made of its verdict's number and its fields
lawful_by : (s : Slip) → LawfulSlip s → slip_by (verdict_number s) (case_of s) (clauses_of s) (goal_of s) ≡ Some s
lawful_by (slip.True case clauses) h = grind (arith, nat_tests)
lawful_by (slip.False case clauses) h = grind (arith, nat_tests)
lawful_by (slip.Unproved case clauses goal) h = grind (arith, nat_tests)
lawful_by (slip.Stray case) h = grind (arith, nat_tests)

goal_bound : (s : Slip) → LawfulSlip s → goal_of s < 2 ^ 32
goal_bound (slip.True case clauses) h = omega arith
goal_bound (slip.False case clauses) h = omega arith
goal_bound (slip.Unproved case clauses goal) h = omega arith
goal_bound (slip.Stray case) h = omega arith

-- the bytes of a lawful slip, with any behind them, read as the slip
pub slip_reads : (s : Slip) (behind : List ℕ) → LawfulSlip s → slip_from (slip_bytes s ++ behind) ≡ Ok s
slip_reads s behind h =
    fields_read (verdict_number s) (case_of s) (clauses_of s) (goal_of s) behind h.0 (omega (arith, h.1)) (goal_bound s h)
    ∙ ap (λ o. ok_or o malformed) (lawful_by s h)

-- Bytes that read as no slip begin with no lawful slip's bytes.
pub refuses_slip : (bs : List ℕ) (e : Refusal) → Err e ≡ slip_from bs → (s : Slip) → LawfulSlip s → take 16 bs ≡ slip_bytes s → ⊥
refuses_slip bs e r s h front =
    let whole : bs ≡ slip_bytes s ++ drop 16 bs = sym (take-append-drop 16 bs) ∙ ap (λ (l : List ℕ). l ++ drop 16 bs) front in
    let reads : slip_from bs ≡ Ok s = ap slip_from whole ∙ slip_reads s (drop 16 bs) h in
    let z : ◌≡◌ {A = ℕ} 0 1 = cc in
    omega arith

-- The other way: bytes that begin as a slip does and have the bytes of three fields are those sixteen and others behind.
pub fields_whole : (bs : List ℕ) (case clauses goal : ℕ) → begins_slip bs ≡ true →
    to_be_bytes w32 case ≡ elements bs 4 4 → to_be_bytes w32 clauses ≡ elements bs 8 4 → to_be_bytes w32 goal ≡ elements bs 12 4 →
    bs ≡ fields_bytes (get_or bs 3 0) case clauses goal ++ drop 16 bs
fields_whole bs case clauses goal h e f g =
    let a : get_or bs 0 0 ≡ 0 = grind (arith, nat_tests) in
    let b : get_or bs 1 0 ≡ 14 = grind (arith, nat_tests) in
    let c : get_or bs 2 0 ≡ 1 = grind (arith, nat_tests) in
    let long : 16 ≤ length bs = grind (arith, nat_tests) in
    let front = split_at 16 bs 0 long in
    cc

-- What a reader answers that makes its slip of those fields.
pub slip_law : (bs : List ℕ) (verdict case clauses goal : ℕ) (o : Option Slip) (f : Fault) → bs ≡ fields_bytes verdict case clauses goal ++ drop 16 bs →
    MadeBy verdict case clauses goal o → told f ≡ malformed → answered (ok_or o f) ≡ slip_from bs → ReadsSlip bs (ok_or o f)
slip_law bs verdict case clauses goal (Some s) f whole m t is =
    let front : take 16 bs ≡ fields_bytes verdict case clauses goal = ap (take 16) whole in
    (m.0, front ∙ rw (m.1, m.2, m.3, m.4))
slip_law bs verdict case clauses goal None f whole m t is = (t, refuses_slip bs (told f) is)
