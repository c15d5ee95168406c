use Rattle.std.proofs.Common.{◌≡◌, ℕ, subst, arith}
use Rattle.std.proofs.lemmas.List.{get_or-take, length-take}
use Rattle.engine.specs.declared.run.Call.{Call}
use Rattle.engine.specs.declared.run.Call.TheVariants as call
use Rattle.engine.specs.Called.{Calls, RunsTo}
use Rattle.engine.proofs.RunLaws.{runs_more}
use Rattle.engine.proofs.VerdictLaws.{run_sound}
use Rattle.engine.proofs.run.run.Goals as goal

pub loop-i-preserved : goal.loop-i-preserved
loop-i-preserved g c =
    let short = length-take c.min-count.result c.args.calls.now in
    runs_more g.S.Side g.F.Shelf c.loop-i.i c.args.calls.now c.args.answers.now c.loop-i.answers c.args.examiner.now c.loop-i.examiner c.make_call.new.examiner (call.Open 0) c.make_call.result
    (omega arith) (omega arith) c.loop-i.invariant
    (subst (λ (x : Call). Calls g.S.Side g.F.Shelf x c.make_call.result c.loop-i.examiner c.make_call.new.examiner) (get_or-take c.min-count.result c.args.calls.now c.loop-i.i (call.Open 0) (omega arith)) c.make_call.ensures.calls)

pub returns : goal.returns
returns g c =
    let short = length-take c.min-count.result c.args.calls.now in
    let all : c.loop-i.i ≡ c.min-count.result = omega arith in
    let runs : RunsTo g.S.Side g.F.Shelf c.min-count.result c.args.calls.now c.args.answers.now c.loop-i.answers c.args.examiner.now c.loop-i.examiner =
    subst (λ (n : ℕ). RunsTo g.S.Side g.F.Shelf n c.args.calls.now c.args.answers.now c.loop-i.answers c.args.examiner.now c.loop-i.examiner) all c.loop-i.invariant in
    record {
      count = c.min-count.ensures;
      runs = runs;
      sound = run_sound g.S.Side g.F.Shelf c.min-count.result c.args.calls.now c.args.answers.now c.loop-i.answers c.args.examiner.now c.loop-i.examiner runs;
    }
