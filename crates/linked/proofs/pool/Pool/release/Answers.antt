use Rattle.std.proofs.Common.{[], ◌∷◌, ◌+◌, ◌-◌, arith}
use Rattle.linked.specs.Chains.{blocks_for, places}
use Rattle.linked.specs.Moves.{blocks_of}
use Rattle.linked.proofs.ChainLaws.{length_chain}
use Rattle.linked.proofs.ReleaseLaws.{releasing_none, releasing_all, next_below, next_apart, releasing_more}
use Rattle.linked.proofs.pool.Pool.release.Goals as goal

pub loop-init : goal.loop-init
loop-init c = ([], releasing_none c.args.self.now c.args.clause (blocks_for c.args.clause.length - 0) (omega arith))

pub give_back-place-requires : goal.give_back-place-requires
give_back-place-requires c =
    let p = c.args.self.now in
    let q = c.loop.self in
    let r = c.args.clause in
    let all = places (blocks_of p) r in
    let is = c.loop.invariant.1 in
    let left = blocks_for r.length - (c.loop.counter + 1) in
    let long = length_chain (blocks_of p) (blocks_for r.length) r.head in
    let sum = is.sum in
    let size = is.returned.size in
    let same = is.returned.long in
    record {
      below = next_below p q all (blocks_for r.length - c.loop.counter) left c.loop.place c.loop.invariant.0 c.requires.apart is (omega arith);
      apart = next_apart p q all (blocks_for r.length - c.loop.counter) left c.loop.place c.loop.invariant.0 c.requires.apart is (omega arith);
      few = omega arith;
    }

pub loop-preserved : goal.loop-preserved
loop-preserved c =
    let r = c.args.clause in (
      c.loop.place ∷ c.loop.invariant.0,
      releasing_more c.args.self.now c.loop.self (places (blocks_of c.args.self.now) r) (blocks_for r.length - c.loop.counter) (blocks_for r.length - (c.loop.counter + 1)) c.loop.place c.loop.invariant.0 c.requires.apart c.loop.invariant.1 (omega arith) c.give_back-place.new.self c.give_back-place.result c.give_back-place.ensures.returned c.give_back-place.ensures.next,
    )

pub returns : goal.returns
returns c =
    let r = c.args.clause in
    releasing_all c.args.self.now c.loop.self r (blocks_for r.length - c.loop.counter) c.loop.place c.loop.invariant.0 (omega arith) c.loop.invariant.1
