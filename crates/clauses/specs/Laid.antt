-- A clause that is laid at the front of a row.
use Rattle.std.specs.Prelude.{◌≡◌, ℕ, cond, List, length, Ok, Err, Result, nat_le}
use Rattle.base.specs.declared.faults.Cause.{Cause}
use Rattle.base.specs.Causes.{cause_number}
use Rattle.clauses.specs.declared.entry.Entry.{Entry}
use Rattle.clauses.specs.Clauses.{over}

-- how many literals a clause has that fits the room, or the cause why there is none
abbrev pub laid_count : Result (List Entry) ℕ → ℕ → Result ℕ ℕ
laid_count (Ok c) room = cond (nat_le (length c) room) (Ok (length c)) (Err 8)
laid_count (Err k) room = Err k

abbrev pub laid_row : Result (List Entry) ℕ → List Entry → List Entry
laid_row (Ok c) was = cond (nat_le (length c) (length was)) (over c was) was
laid_row (Err k) was = was

abbrev pub told_count : Result ℕ Cause → Result ℕ ℕ
told_count (Ok n) = Ok n
told_count (Err c) = Err (cause_number c)

-- what laying answers, and what the row then holds: nothing new where it is refused
pub record Laid (claim : Result (List Entry) ℕ) (r : Result ℕ Cause) (was is : List Entry) : Type 0 where
  pub answer : told_count r ≡ laid_count claim (length was)
  pub row : is ≡ laid_row claim was
