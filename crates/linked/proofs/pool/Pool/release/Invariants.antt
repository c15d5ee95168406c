use Rattle.std.proofs.Common.{ℕ, ◌-◌, List}
use Rattle.linked.specs.Chains.{blocks_for, places}
use Rattle.linked.specs.Moves.{blocks_of}
use Rattle.linked.proofs.ReleaseLaws.{Releasing}
use Rattle.linked.proofs.pool.Pool.release.Given as goal

abbrev pub invariant-loop : goal.invariant-loop
invariant-loop l = (done : List ℕ) × Releasing l.initial.self l.self (places (blocks_of l.initial.self) l.fn.clause) (blocks_for l.fn.clause.length - l.counter) l.place done
