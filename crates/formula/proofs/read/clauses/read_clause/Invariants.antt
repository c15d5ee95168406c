use Rattle.std.proofs.Common.{◌≡◌, ℕ, ◌-◌, ◌≤◌, [], length, take}
use Rattle.words.specs.Words.{words_from}
use Rattle.words.specs.Tables.{Kept}
use Rattle.formula.specs.Clauses.{names, clause_from}
use Rattle.formula.specs.Marks.{has_mark}
use Rattle.formula.proofs.read.clauses.read_clause.Given as goal

abbrev pub invariant-loop-number : goal.invariant-loop-number
invariant-loop-number l = record {
  reads :
      clause_from (length l.vars) l.vars (take l.n l.rest) (words_from l.text l.place.at) (length l.initial.rest) (length l.text)
      ≡ clause_from (length l.vars) l.vars [] (words_from l.text l.initial.place.at) (length l.initial.rest) (length l.text);
  room : l.n ≤ length l.initial.rest;
  few : l.n ≤ 1024;
  kept : Kept l.n l.initial.rest l.rest;
  marked : (v : ℕ) → has_mark l.marks v ≡ names v (take l.n l.rest);
}

abbrev pub decreases-loop-number : goal.decreases-loop-number
decreases-loop-number l = length l.text - l.place.at
