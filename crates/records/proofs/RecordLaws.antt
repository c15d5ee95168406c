-- Records of steps: a step's record reads as the step, whatever stands behind it.
use Rattle.std.proofs.Common.{◌≡◌, ℕ, ◌+◌, ◌-◌, ◌≤◌, true, leb, List, ◌∷◌, ◌++◌, length, get_or, take, drop, Some, None, Ok, Err, Option, sym, refl, ap, ◌∙◌, ⊎_elim, arith, length-append}
use Rattle.std.specs.Int.{w16, w32, w64, to_be_bytes}
use Rattle.std.proofs.lemmas.List.{drop_at, take_rest}
use Rattle.std.proofs.lemmas.Bool.{cases_Bool, le-leb}
use Rattle.std.proofs.lemmas.Bool.Decides.{nat_tests}
use Rattle.std.proofs.lemmas.Nat.{from_be_bytes-to_be_bytes_2, from_be_bytes-to_be_bytes_4, from_be_bytes-to_be_bytes_8}
use Rattle.base.specs.declared.values.ValueWord.{ValueWord}
use Rattle.base.specs.Causes.{Refusal}
use Rattle.records.specs.declared.step.Premise.TheVariants.{Truth, Falsity}
use Rattle.records.specs.declared.step.Step.{Step}
use Rattle.records.specs.declared.step.Step.TheVariants.{Resolve, Settle}
use Rattle.records.specs.declared.step.Step.TheVariants as step
use Rattle.records.specs.Records.{Fits, ReadsBack, begins, record_of, step_from, rest_from, written_count, written_into}
use Rattle.records.proofs.ByteLaws.{elements, split_at}

-- there is room for n bytes where n bytes stand
room : (n : ℕ) (front behind : List ℕ) → length front ≡ n → leb n (length (front ++ behind)) ≡ true
room n front behind e = le-leb n (length (front ++ behind)) (omega (arith, length-append front behind))

-- the record of a step, with any bytes behind it, reads as the step
pub step_reads : (s : Step) (behind : List ℕ) → Fits s → step_from (record_of s ++ behind) ≡ Ok s
step_reads (step.Premise (Truth class number part)) behind h =
    rw (room 8 (record_of (step.Premise (Truth class number part))) behind refl, from_be_bytes-to_be_bytes_2 number h.1)
step_reads (step.Premise (Falsity clause values)) behind h =
    rw (room 14 (record_of (step.Premise (Falsity clause values))) behind refl, from_be_bytes-to_be_bytes_2 clause h.0, from_be_bytes-to_be_bytes_8 values.bits h.1)
step_reads (Resolve first second position) behind h =
    rw (room 14 (record_of (Resolve first second position)) behind refl, from_be_bytes-to_be_bytes_4 first h.0, from_be_bytes-to_be_bytes_4 second h.1, from_be_bytes-to_be_bytes_2 position h.2)
step_reads (Settle goal clause) behind h =
    rw (room 10 (record_of (Settle goal clause)) behind refl, from_be_bytes-to_be_bytes_2 goal h.0, from_be_bytes-to_be_bytes_4 clause h.1)

-- and leaves those bytes
pub rest_reads : (s : Step) (behind : List ℕ) → rest_from (record_of s ++ behind) ≡ behind
rest_reads (step.Premise (Truth class number part)) behind = rw (room 8 (record_of (step.Premise (Truth class number part))) behind refl)
rest_reads (step.Premise (Falsity clause values)) behind = rw (room 14 (record_of (step.Premise (Falsity clause values))) behind refl)
rest_reads (Resolve first second position) behind = rw (room 14 (record_of (Resolve first second position)) behind refl)
rest_reads (Settle goal clause) behind = rw (room 10 (record_of (Settle goal clause)) behind refl)

-- The other way: bytes that begin with a kind and have the bytes of a step's fields are its record and those behind.
module _ (bs : List ℕ) where
  header : (long kind : ℕ) → begins bs long kind ≡ true → (get_or bs 0 0 ≡ 0) × (get_or bs 1 0 ≡ long) × (get_or bs 2 0 ≡ 1) × (get_or bs 3 0 ≡ kind) × (long + 2 ≤ length bs)
  header long kind h = (grind (arith, nat_tests), grind (arith, nat_tests), grind (arith, nat_tests), grind (arith, nat_tests), grind (arith, nat_tests))

  pub truth_whole : (number : ℕ) → begins bs 6 1 ≡ true → to_be_bytes w16 number ≡ elements bs 5 2 →
      bs ≡ record_of (step.Premise (Truth (get_or bs 4 0) number (get_or bs 7 0))) ++ drop 8 bs
  truth_whole number h e = let k = header 6 1 h in let front = split_at 8 bs 0 k.4 in cc

  pub falsity_whole : (clause : ℕ) (values : ValueWord) → begins bs 12 2 ≡ true → to_be_bytes w16 clause ≡ elements bs 4 2 → to_be_bytes w64 values.bits ≡ elements bs 6 8 →
      bs ≡ record_of (step.Premise (Falsity clause values)) ++ drop 14 bs
  falsity_whole clause values h e f = let k = header 12 2 h in let front = split_at 14 bs 0 k.4 in cc

  pub resolve_whole : (first second position : ℕ) → begins bs 12 3 ≡ true → to_be_bytes w32 first ≡ elements bs 4 4 → to_be_bytes w32 second ≡ elements bs 8 4 → to_be_bytes w16 position ≡ elements bs 12 2 →
      bs ≡ record_of (Resolve first second position) ++ drop 14 bs
  resolve_whole first second position h e f g = let k = header 12 3 h in let front = split_at 14 bs 0 k.4 in cc

  pub settle_whole : (goal clause : ℕ) → begins bs 8 4 ≡ true → to_be_bytes w16 goal ≡ elements bs 4 2 → to_be_bytes w32 clause ≡ elements bs 6 4 →
      bs ≡ record_of (Settle goal clause) ++ drop 10 bs
  settle_whole goal clause h e f = let k = header 8 4 h in let front = split_at 10 bs 0 k.4 in cc

-- bytes that read as no step begin with no step's record
pub refuses : (bs : List ℕ) (e : Refusal) → Err e ≡ step_from bs → (s : Step) (behind : List ℕ) → Fits s → bs ≡ record_of s ++ behind → ⊥
refuses bs e r s behind h whole =
    let reads : step_from bs ≡ Ok s = ap step_from whole ∙ step_reads s behind h in
    let z : ◌≡◌ {A = ℕ} 0 1 = cc in
    omega arith

-- what was written in front reads back
pub reads_back : (s : Step) (r : Option ℕ) (before after : List ℕ) → Fits s → r ≡ written_count s (length before) → after ≡ written_into s before → ReadsBack s r after
reads_back s r before after fits count written =
    let n = length (record_of s) in
    let rest = drop n before in
    ⊎_elim
    (λ room.
    let some : r ≡ Some n = rw count (rw room) in
    let front : after ≡ record_of s ++ rest = rw written (rw room) in
    let reads : step_from after ≡ Ok s = ap step_from front ∙ step_reads s rest fits in
    let behind : rest_from after ≡ drop n after = ap rest_from front ∙ rest_reads s rest ∙ sym (ap (drop n) front ∙ drop_at (record_of s) rest n refl) in
    rw some (reads, behind))
    (λ none. let e : r ≡ None = rw count (rw none) in rw e tt)
    (cases_Bool (leb n (length before)))

-- a record of twelve bytes behind its length
pub long_record : (bs : List ℕ) (kind : ℕ) → begins bs 12 kind ≡ true → bs ≡ 0 ∷ 12 ∷ 1 ∷ kind ∷ elements bs 4 10 ++ take (length bs - 14) (drop 14 bs)
long_record bs kind h =
    let a : get_or bs 0 0 ≡ 0 = grind (arith, nat_tests) in
    let b : get_or bs 1 0 ≡ 12 = grind (arith, nat_tests) in
    let c : get_or bs 2 0 ≡ 1 = grind (arith, nat_tests) in
    let d : get_or bs 3 0 ≡ kind = grind (arith, nat_tests) in
    let long : 14 ≤ length bs = grind (arith, nat_tests) in
    let front = split_at 14 bs 0 long in
    let rest = take_rest bs 14 in
    cc
