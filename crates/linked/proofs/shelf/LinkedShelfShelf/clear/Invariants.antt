use Rattle.std.proofs.Common.{◌≡◌, vec_len}
use Rattle.linked.proofs.shelf.LinkedShelfShelf.clear.Given as goal

abbrev pub invariant-loop-last : goal.invariant-loop-last
invariant-loop-last l = record {
  clauses : l.self.clauses ≡ l.initial.self.clauses;
  width : l.self.width ≡ l.initial.self.width;
}

abbrev pub decreases-loop-last : goal.decreases-loop-last
decreases-loop-last l = vec_len l.self.index
