-- Records: a length of two bytes, version 1, a kind, and the fields of a step.
use Rattle.std.specs.Prelude.{◌≡◌, ℕ, ◌+◌, ◌^◌, ◌<◌, Bool, cond, ◌&&◌, List, [], ◌∷◌, ◌++◌, length, drop, Some, None, Ok, Err, Option, Result, ◌==◌, ◌≢◌, nat_le, slice_index}
use Rattle.std.specs.Int.{Width, w16, w32, w64, to_be_bytes, from_be_bytes}
use Rattle.base.specs.declared.faults.Fault.{Fault}
use Rattle.base.specs.Causes.{Refusal, told, refused}
use Rattle.records.specs.declared.step.Premise.TheVariants.{Truth, Falsity}
use Rattle.records.specs.declared.step.Step.{Step}
use Rattle.records.specs.declared.step.Step.TheVariants.{Resolve, Settle}
use Rattle.records.specs.declared.step.Step.TheVariants as step

-- The record of a step.
abbrev pub record_of : Step → List ℕ
record_of (step.Premise (Truth class number part)) = 0 ∷ 6 ∷ 1 ∷ 1 ∷ class ∷ to_be_bytes w16 number ++ part ∷ []
record_of (step.Premise (Falsity clause values)) = 0 ∷ 12 ∷ 1 ∷ 2 ∷ to_be_bytes w16 clause ++ to_be_bytes w64 values.bits
record_of (Resolve first second position) = 0 ∷ 12 ∷ 1 ∷ 3 ∷ to_be_bytes w32 first ++ to_be_bytes w32 second ++ to_be_bytes w16 position
record_of (Settle goal clause) = 0 ∷ 8 ∷ 1 ∷ 4 ∷ to_be_bytes w16 goal ++ to_be_bytes w32 clause

-- the fields of a step fit their bytes
abbrev pub Fits : Step → Type 0
Fits (step.Premise (Truth class number part)) = (class < 256) × (number < 2 ^ 16) × (part < 256)
Fits (step.Premise (Falsity clause values)) = (clause < 2 ^ 16) × (values.bits < 2 ^ 64)
Fits (Resolve first second position) = (first < 2 ^ 32) × (second < 2 ^ 32) × (position < 2 ^ 16)
Fits (Settle goal clause) = (goal < 2 ^ 16) × (clause < 2 ^ 32)

-- a record of a length and a kind stands in front
abbrev pub begins : List ℕ → ℕ → ℕ → Bool
begins bs long kind = slice_index bs 0 == 0 && slice_index bs 1 == long && slice_index bs 2 == 1 && slice_index bs 3 == kind && nat_le (long + 2) (length bs)

-- the number of this width in the bytes from an index on
abbrev pub field : Width → List ℕ → ℕ → ℕ
field w bs at = from_be_bytes w (drop at bs)

abbrev pub malformed : Refusal
malformed = refused 24 0 6

-- the step of the record in front, or the refusal
abbrev pub step_from : List ℕ → Result Step Refusal
step_from bs =
    cond (begins bs 6 1) (Ok (step.Premise (Truth (slice_index bs 4) (field w16 bs 5) (slice_index bs 7))))
    (cond (begins bs 12 2) (Ok (step.Premise (Falsity (field w16 bs 4) (record { bits = field w64 bs 6 }))))
    (cond (begins bs 12 3) (Ok (Resolve (field w32 bs 4) (field w32 bs 8) (field w16 bs 12)))
    (cond (begins bs 8 4) (Ok (Settle (field w16 bs 4) (field w32 bs 6))) (Err malformed))))

-- the bytes behind that record; all of them where it is refused
abbrev pub rest_from : List ℕ → List ℕ
rest_from bs =
    cond (begins bs 6 1) (drop 8 bs) (cond (begins bs 12 2) (drop 14 bs) (cond (begins bs 12 3) (drop 14 bs) (cond (begins bs 8 4) (drop 10 bs) bs)))

-- What is read is the record of its step and the bytes behind it; what is refused begins with no step's record.
abbrev pub Reads : List ℕ → Result Step Fault → List ℕ → Type 0
Reads bs (Ok s) rest = Fits s × (bs ≡ record_of s ++ rest)
Reads bs (Err e) rest = (told e ≡ malformed) × (rest ≡ bs) × ((s : Step) (behind : List ℕ) → Fits s → bs ≢ record_of s ++ behind)

-- what a writer leaves in the memory that it is lent: the bytes in front, or nothing new where there is no room
abbrev pub put_front : List ℕ → List ℕ → List ℕ
put_front front bs = cond (nat_le (length front) (length bs)) (front ++ drop (length front) bs) bs

-- and how many bytes it wrote
abbrev pub put_count : List ℕ → ℕ → Option ℕ
put_count front room = cond (nat_le (length front) room) (Some (length front)) None

abbrev pub written_into : Step → List ℕ → List ℕ
written_into s bs = put_front (record_of s) bs

abbrev pub written_count : Step → ℕ → Option ℕ
written_count s room = put_count (record_of s) room

-- What was written reads back as the step, and the bytes behind it as they are.
abbrev pub ReadsBack : Step → Option ℕ → List ℕ → Type 0
ReadsBack s (Some n) bs = (step_from bs ≡ Ok s) × (rest_from bs ≡ drop n bs)
ReadsBack s None bs = Unit {0}

-- What a writer of a step does: its answer, the bytes it leaves, and that they read back.
pub record Writes (s : Step) (r : Option ℕ) (before after : List ℕ) : Type 0 where
  pub count : r ≡ written_count s (length before)
  pub written : after ≡ written_into s before
  pub back : ReadsBack s r after
