use Rattle.std.proofs.Common.{◌≡◌, ◌-◌, ◌*◌, ◌≤◌, length, take, drop}
use Rattle.words.specs.Words.{words_from}
use Rattle.formula.specs.Clauses.{clauses_from, no_clause}
use Rattle.formula.proofs.read.clauses.read_clauses.Given as goal

abbrev pub invariant-loop-clause : goal.invariant-loop-clause
invariant-loop-clause l = record {
  reads :
      clauses_from (length l.vars) l.vars (length l.clause-items - l.clause-index) (record { spans = take l.clause-index l.clause-items; literals = take l.at l.literals }) (words_from l.text l.place.at) l.place.at (length l.initial.literals) (length l.text)
      ≡ clauses_from (length l.vars) l.vars (length l.initial.clause-items) no_clause (words_from l.text l.initial.place.at) l.initial.place.at (length l.initial.literals) (length l.text);
  room : l.at ≤ length l.initial.literals;
  few : l.at ≤ 1024 * l.clause-index;
  kept : drop l.at l.literals ≡ drop l.at l.initial.literals;
}
