use Rattle.std.proofs.Common.{ℕ, ◌+◌, ◌≤◌, List, length, drop, subst, arith}
use Rattle.std.proofs.lemmas.List.{length-drop, take_rest}
use Rattle.engine.specs.Means.{Takes}
use Rattle.replay.proofs.TakeLaws.{taken_some, taken_more, taken_refused}
use Rattle.replay.proofs.replay.take_all.Given as given
use Rattle.replay.proofs.replay.take_all.Goals as goal
use Rattle.replay.proofs.replay.take_all.Goals.{After-take-answer, In_default}

-- the record that is taken is of the bytes that are left
takes : (g : given.Over) (c : After-take-answer g) → Takes g.S.Side g.F.Shelf (drop c.loop-bytes.bytes c.args.proof.now) c.take-answer.result.0 c.take-answer.result.1 c.loop-bytes.examiner c.take-answer.new.self
takes g c =
    subst (λ (l : List ℕ). Takes g.S.Side g.F.Shelf l c.take-answer.result.0 c.take-answer.result.1 c.loop-bytes.examiner c.take-answer.new.self) (take_rest c.args.proof.now c.loop-bytes.bytes) c.take-answer.ensures

-- the accepted record used some of them
uses : (g : given.Over) (c : In_default g) (t : Takes g.S.Side g.F.Shelf (drop c.loop-bytes.bytes c.args.proof.now) c.take-answer.result.0 c.take-answer.result.1 c.loop-bytes.examiner c.take-answer.new.self) → (1 ≤ c.take-answer.result.1) × (c.take-answer.result.1 + c.loop-bytes.bytes ≤ length c.args.proof.now)
uses g c t =
    let some = taken_some g.S.Side g.F.Shelf (drop c.loop-bytes.bytes c.args.proof.now) c.take-answer.result.0 c.take-answer.result.1 c.loop-bytes.examiner c.take-answer.new.self t c.in_default.field-0 c.in_default.is in
    (some.0, omega (arith, length-drop c.loop-bytes.bytes c.args.proof.now))

pub returns-in-Err : goal.returns-in-Err
returns-in-Err g c =
    taken_refused g.S.Side g.F.Shelf c.args.proof.now c.loop-bytes.records c.loop-bytes.bytes c.args.examiner.now c.loop-bytes.examiner c.loop-bytes.invariant
    c.take-answer.result.0 c.take-answer.result.1 c.take-answer.new.self (takes g (goal.at.returns-in-Err g c).After-take-answer) (omega arith) c.in-Err.fault c.in-Err.is

pub overflow_add-bytes : goal.overflow_add-bytes
overflow_add-bytes g c = let some = uses g c (takes g (goal.at.overflow_add-bytes g c).After-take-answer) in omega arith

pub loop-bytes-smaller : goal.loop-bytes-smaller
loop-bytes-smaller g c = let some = uses g (goal.at.loop-bytes-smaller g c).In_default (takes g (goal.at.loop-bytes-smaller g c).After-take-answer) in omega arith

pub loop-bytes-preserved : goal.loop-bytes-preserved
loop-bytes-preserved g c =
    taken_more g.S.Side g.F.Shelf c.args.proof.now c.loop-bytes.records c.loop-bytes.bytes c.args.examiner.now c.loop-bytes.examiner c.loop-bytes.invariant
    c.take-answer.result.0 c.take-answer.result.1 c.take-answer.new.self (takes g (goal.at.loop-bytes-preserved g c).After-take-answer) (omega arith) c.in_default.field-0 c.in_default.is
