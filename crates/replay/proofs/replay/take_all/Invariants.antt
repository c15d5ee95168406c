use Rattle.std.proofs.Common.{◌-◌, length}
use Rattle.replay.proofs.TakeLaws.{GoesOn}
use Rattle.replay.proofs.replay.take_all.Given as goal

-- what is left gives it
abbrev pub invariant-loop-bytes : goal.invariant-loop-bytes
invariant-loop-bytes g l = GoesOn g.S.Side g.F.Shelf l.proof l.records l.bytes l.initial.examiner l.examiner

abbrev pub decreases-loop-bytes : goal.decreases-loop-bytes
decreases-loop-bytes g l = length l.proof - l.bytes
