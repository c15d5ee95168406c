use Rattle.std.proofs.Common.{map, length, take, ap, ◌∙◌, arith}
use Rattle.std.proofs.Math.ListN.{set}
use Rattle.std.proofs.lemmas.List.{length-take, take_all}
use Rattle.formula.specs.Reading.{no_literal}
use Rattle.clauses.specs.Clauses.{over}
use Rattle.gates.specs.Wiring.{goal_entry}
use Rattle.gates.proofs.RowCopies.{copied_more, copied_all}
use Rattle.gates.proofs.goals.copy_goal.Goals as goal

-- one more literal is written
pub loop-i-preserved : goal.loop-i-preserved
loop-i-preserved c =
    let f = goal_entry c.args.formula.now.variables.now c.args.wires in
    let few = take c.min-count.result c.clause-clause.result.now in
    let long = length-take c.min-count.result c.clause-clause.result.now in
    ap (set c.loop-i.row c.loop-i.i) c.goal_entry.ensures
    ∙ copied_more f few c.args.row.now c.loop-i.row c.loop-i.i no_literal (omega arith) (omega arith) c.loop-i.invariant

-- behind the last turn as much stands there as there is room for
pub returns-clause-after : goal.returns-clause-after
returns-clause-after c =
    let f = goal_entry c.args.formula.now.variables.now c.args.wires in
    let was = c.args.row.now in
    let n = c.min-count.result in
    let clause = c.clause-clause.result.now in
    c.loop-i.invariant ∙ ap (λ ls. over (map f ls) was) (take_all c.loop-i.i (take n clause) (omega arith))
    ∙ copied_all f clause was n (omega arith) ∙ ap (λ ls. over (take (length was) (map f ls)) was) c.clause-clause.ensures
