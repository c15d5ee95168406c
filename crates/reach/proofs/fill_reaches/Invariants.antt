-- The first g entries are the reaches of the first g gates, and zeros stand behind them.
use Rattle.std.proofs.Common.{◌≡◌, [], take, drop}
use Rattle.reach.specs.Reach.{reaches_from}
use Rattle.reach.proofs.fill_reaches.Given as goal

abbrev pub invariant-loop-g : goal.invariant-loop-g
invariant-loop-g l =
    record {
      filled : reaches_from l.head.inputs (take l.g l.reaches) (drop l.g (take l.count l.gates)) ≡ reaches_from l.head.inputs [] (take l.count l.gates);
      rest : drop l.g l.reaches ≡ drop l.g l.initial.reaches;
    }
