-- A clause that is laid at the front of a row.
use Rattle.std.specs.Prelude.{◌≡◌, ℕ, cond, List, length, Ok, Err, Result, nat_le}
use Rattle.base.specs.declared.faults.Cause.{Cause}
use Rattle.clauses.specs.declared.entry.Entry.{Entry}
use Rattle.clauses.specs.Clauses.{told_clause}
use Rattle.clauses.specs.Laid.{laid_row}

abbrev pub laid_answer : Result (List Entry) ℕ → ℕ → Result (List Entry) ℕ
laid_answer (Ok c) room = cond (nat_le (length c) room) (Ok c) (Err 8)
laid_answer (Err k) room = Err k

pub record Laid (claim : Result (List Entry) ℕ) (r : Result ℕ Cause) (was is : List Entry) : Type 0 where
  pub answer : told_clause r is ≡ laid_answer claim (length was)
  pub row : is ≡ laid_row claim was
