use Rattle.engine.specs.Called.{RunsTo}
use Rattle.engine.proofs.run.run.Given as goal

-- the calls up to here were made
abbrev pub invariant-loop-i : goal.invariant-loop-i
invariant-loop-i g l = RunsTo g.S.Side g.F.Shelf l.i l.calls l.initial.answers l.answers l.initial.examiner l.examiner
