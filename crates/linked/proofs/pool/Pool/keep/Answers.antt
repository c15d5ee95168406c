use Rattle.std.proofs.Common.{◌≡◌, suc, ◌-◌, ◌*◌, ◌/◌, length, ap, ◌∙◌, arith}
use Rattle.std.specs.Slice.Iter.{chunks_rest}
use Rattle.std.specs.Iterator.Adapters.{rev_source}
use Rattle.linked.specs.Chains.{blocks_for}
use Rattle.linked.specs.Moves.{blocks_of}
use Rattle.linked.proofs.ChainLaws.{length_chain}
use Rattle.linked.proofs.KeepLaws.{building_more, chunk_front, chunk_four}
use Rattle.linked.proofs.pool.Pool.keep.Goals as goal

pub store-head-requires : goal.store-head-requires
store-head-requires c =
    let q = c.loop-part.self in
    let step = c.in-Some.ensures.steps in
    let some = step.1.2 in
    let made = c.loop-part.invariant.built.0 in
    let is = c.loop-part.invariant.built.1 in
    let sum = is.sum in
    let size = is.taken.size in
    let cap = is.taken.room in
    let long = length_chain (blocks_of q) made c.loop-part.head in
    omega arith

pub loop-part-preserved : goal.loop-part-preserved
loop-part-preserved c =
    let s = chunks_rest (rev_source c.loop-part.part-iterator) in
    let t = chunks_rest (rev_source c.next.new.self) in
    let is = c.loop-part.invariant in
    let step = c.in-Some.ensures.steps in
    let some = step.1.2 in
    let cs = c.args.clause.now in
    let fewer : length t ≡ (length s - 1) / 4 * 4 = step.1.1 ∙ ap (λ n. (length s - 1) / n * n) is.size in
    let whole = is.whole in
    let left = blocks_for (length t) in
    let all : length t ≡ 4 * left = omega arith in
    let entries = c.block_from.ensures.entries ∙ chunk_four cs s t c.in-Some.part.now is.front step.1.0 left all (omega arith) in
    record {
      size = step.0 ∙ is.size;
      front = chunk_front cs s t c.in-Some.part.now is.front step.1.0;
      whole = omega arith;
      built = (
        suc is.built.0,
        building_more c.args.self.now c.loop-part.self c.store-head.new.self cs left (blocks_for (length s)) c.loop-part.head is.built.0 c.store-head.result c.block_from.result is.built.1 (omega arith) entries c.block_from.ensures.next c.store-head.ensures.wrote c.store-head.ensures.taken,
      );
    }
