use Rattle.std.proofs.Common.{rules, tests, arith}
use Rattle.std.proofs.lemmas.Iterator.{YieldsList, YieldsList-from_slice}
use Rattle.std.proofs.lemmas.Iterator.Consumers.{YieldsList-at, YieldsList-from_filter_map, YieldsList-from_enumerate, YieldsList-turn, YieldsList-end}
use Rattle.std.specs.List.{enumerate_from}
use Rattle.expansion.specs.Instances.{annotated_literal, instance}
use Rattle.expansion.proofs.RowWrites.{next_is, written_more, written_all}
use Rattle.expansion.proofs.Expansion.write_existentials.Given as given
use Rattle.expansion.proofs.Expansion.write_existentials.Goals as goal
use Rattle.expansion.proofs.Expansion.write_existentials.Goals.{After-into_iter-i-iterator}

-- the loop goes over the clause's instance
road : (c : After-into_iter-i-iterator) → YieldsList (given.iterator-loop-i).next_gives (λ p. (p.0, p.1)) c.into_iter-i-iterator.result (enumerate_from 0 (instance c.args.self.now.formula.now.variables.now c.args.self.now.values c.args.clause.now))
road c =
    YieldsList-at (cc)
    (YieldsList-from_enumerate
    (YieldsList-at c.enumerate-i-items.ensures.source
    (YieldsList-from_filter_map _ (annotated_literal c.args.self.now.formula.now.variables.now c.args.self.now.values)
    (YieldsList-at c.filter_map-entries.ensures.source (YieldsList-from_slice c.args.clause.now cc)) c.filter_map-entries.ensures.closure (λ x r q k. search (rules, tests))))
    c.enumerate-i-items.ensures.count)

pub bounds-row-i : goal.bounds-row-i
bounds-row-i c =
    let t = next_is _ c.loop-i.yielded (c.in-Some.i, c.in-Some.entry) (YieldsList-turn (road (goal.at.bounds-row-i c).After-into_iter-i-iterator) c.loop-i.yielded _ c.loop-i.yielded_by _ _ _ c.in-Some.is c.next.ensures.steps) in
    omega arith

pub loop-i-preserved : goal.loop-i-preserved
loop-i-preserved c =
    let t = next_is _ c.loop-i.yielded (c.in-Some.i, c.in-Some.entry) (YieldsList-turn (road (goal.at.loop-i-preserved c).After-into_iter-i-iterator) c.loop-i.yielded _ c.loop-i.yielded_by _ _ _ c.in-Some.is c.next.ensures.steps) in
    written_more c.loop-i.row c.args.row.now c.loop-i.yielded (c.in-Some.i, c.in-Some.entry) t.1 (omega arith) c.loop-i.invariant

pub returns : goal.returns
returns c =
    written_all c.loop-i.row c.args.row.now _ c.loop-i.yielded
    (YieldsList-end (road (goal.at.returns c).After-into_iter-i-iterator) c.loop-i.yielded _ c.loop-i.yielded_by _ _ c.in-None.is c.next.ensures.steps).0 c.loop-i.invariant
