-- Slips: length 14, version 1, the verdict, and three numbers of four bytes.
use Rattle.std.specs.Prelude.{◌≡◌, ℕ, ◌^◌, ◌<◌, ◌≤◌, Bool, true, false, cond, ◌&&◌, List, ◌∷◌, ◌++◌, length, take, Some, None, Ok, Err, Option, Result, ◌==◌, ◌≢◌, nat_le, nat_lt, slice_index}
use Rattle.std.specs.Int.{w32, to_be_bytes}
use Rattle.std.specs.Option.{ok_or}
use Rattle.base.specs.declared.faults.Fault.{Fault}
use Rattle.base.specs.Causes.{Refusal, told, refused}
use Rattle.records.specs.declared.slip.Slip.{Slip}
use Rattle.records.specs.declared.slip.Slip.TheVariants as slip
use Rattle.records.specs.declared.slip.Verdict.{Verdict}
use Rattle.records.specs.declared.slip.Verdict.TheVariants as verdict
use Rattle.records.specs.Records.{field}

-- what a slip says of its case
abbrev pub verdict_of : Slip → Verdict
verdict_of (slip.True case clauses) = verdict.True
verdict_of (slip.False case clauses) = verdict.False
verdict_of (slip.Unproved case clauses goal) = verdict.Unproved
verdict_of (slip.Stray case) = verdict.Stray

-- whether it says True or False
abbrev pub decided : Slip → Bool
decided (slip.True case clauses) = true
decided (slip.False case clauses) = true
decided (slip.Unproved case clauses goal) = false
decided (slip.Stray case) = false

-- the number of each verdict
abbrev pub verdict_number : Slip → ℕ
verdict_number (slip.True case clauses) = 1
verdict_number (slip.False case clauses) = 2
verdict_number (slip.Unproved case clauses goal) = 3
verdict_number (slip.Stray case) = 4

abbrev pub case_of : Slip → ℕ
case_of (slip.True case clauses) = case
case_of (slip.False case clauses) = case
case_of (slip.Unproved case clauses goal) = case
case_of (slip.Stray case) = case

abbrev pub clauses_of : Slip → ℕ
clauses_of (slip.True case clauses) = clauses
clauses_of (slip.False case clauses) = clauses
clauses_of (slip.Unproved case clauses goal) = clauses
clauses_of (slip.Stray case) = 0

abbrev pub goal_of : Slip → ℕ
goal_of (slip.True case clauses) = 0
goal_of (slip.False case clauses) = 0
goal_of (slip.Unproved case clauses goal) = goal
goal_of (slip.Stray case) = 0

-- the sixteen bytes of a verdict's number and three fields
abbrev pub fields_bytes : ℕ → ℕ → ℕ → ℕ → List ℕ
fields_bytes verdict case clauses goal = 0 ∷ 14 ∷ 1 ∷ verdict ∷ to_be_bytes w32 case ++ to_be_bytes w32 clauses ++ to_be_bytes w32 goal

abbrev pub slip_bytes : Slip → List ℕ
slip_bytes s = fields_bytes (verdict_number s) (case_of s) (clauses_of s) (goal_of s)

-- at most 1,000,000 clauses, and where it is unproved a goal from 1 to 16,384
abbrev pub LawfulGoal : Slip → Type 0
LawfulGoal (slip.True case clauses) = Unit {0}
LawfulGoal (slip.False case clauses) = Unit {0}
LawfulGoal (slip.Unproved case clauses goal) = (1 ≤ goal) × (goal ≤ 16384)
LawfulGoal (slip.Stray case) = Unit {0}

abbrev pub LawfulSlip : Slip → Type 0
LawfulSlip s = (case_of s < 2 ^ 32) × (clauses_of s ≤ 1000000) × LawfulGoal s

abbrev pub malformed : Refusal
malformed = refused 26 0 7

-- the slip of a verdict's number and three fields, at most 1,000,000 clauses among them; none where they are unlawful
abbrev pub slip_by : ℕ → ℕ → ℕ → ℕ → Option Slip
slip_by verdict case clauses goal =
    cond (nat_lt 1000000 clauses) None
    (cond (verdict == 1 && goal == 0) (Some (slip.True case clauses))
    (cond (verdict == 2 && goal == 0) (Some (slip.False case clauses))
    (cond (verdict == 3 && nat_le 1 goal && nat_le goal 16384) (Some (slip.Unproved case clauses goal))
    (cond (verdict == 4 && goal == 0 && clauses == 0) (Some (slip.Stray case)) None))))

-- sixteen bytes begin as a slip does
abbrev pub begins_slip : List ℕ → Bool
begins_slip bs = slice_index bs 0 == 0 && slice_index bs 1 == 14 && slice_index bs 2 == 1 && nat_le 16 (length bs)

-- the slip in the first sixteen bytes, or the refusal
abbrev pub slip_from : List ℕ → Result Slip Refusal
slip_from bs = ok_or (cond (begins_slip bs) (slip_by (slice_index bs 3) (field w32 bs 4) (field w32 bs 8) (field w32 bs 12)) None) malformed

-- What is read is lawful, and its bytes are the first sixteen; what is refused begins with no lawful slip's bytes.
abbrev pub ReadsSlip : List ℕ → Result Slip Fault → Type 0
ReadsSlip bs (Ok s) = LawfulSlip s × (take 16 bs ≡ slip_bytes s)
ReadsSlip bs (Err e) = (told e ≡ malformed) × ((s : Slip) → LawfulSlip s → take 16 bs ≢ slip_bytes s)

-- What is made of a verdict's number and three fields is lawful and has them.
abbrev pub MadeBy : ℕ → ℕ → ℕ → ℕ → Option Slip → Type 0
MadeBy verdict case clauses goal (Some s) =
    LawfulSlip s × (verdict_number s ≡ verdict) × (case_of s ≡ case) × (clauses_of s ≡ clauses) × (goal_of s ≡ goal)
MadeBy verdict case clauses goal None = Unit {0}
