use Rattle.linked.proofs.ReadLaws.{Reading}
use Rattle.linked.proofs.pool.Pool.entry.Given as goal

abbrev pub invariant-loop : goal.invariant-loop
invariant-loop l = Reading l.self l.fn.clause l.counter l.place
