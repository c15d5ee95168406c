use Rattle.std.proofs.Common.{◌≡◌, ◌/◌, ◌++◌, take, drop}
use Rattle.linked.specs.Chains.{clause_of}
use Rattle.linked.specs.Moves.{blocks_of}
use Rattle.linked.proofs.ReadLaws.{Reading}
use Rattle.linked.proofs.pool.Pool.copy.Given as goal

abbrev pub invariant-loop-k : goal.invariant-loop-k
invariant-loop-k l = record {
  reading : Reading l.self l.fn.clause (l.k / 4) l.place;
  copied : l.entry-items ≡ take l.k (clause_of (blocks_of l.self) l.fn.clause) ++ drop l.k l.initial.entry-items;
}
