use Rattle.std.proofs.Common.{get_or, refl, ap, ◌∙◌, arith}
use Rattle.std.proofs.lemmas.List.{get_or_push, get_or-set_same}
use Rattle.linked.specs.declared.blocks.Block.{Block}
use Rattle.linked.specs.Chains.{no_block}
use Rattle.linked.specs.Moves.{block_at}
use Rattle.linked.proofs.MoveLaws.{free_below, rest_once, taken_pop, taken_fresh}
use Rattle.linked.proofs.pool.Pool.store.Goals as goal

pub returns-then-self-eq0 : goal.returns-then-self-eq0
returns-then-self-eq0 c =
    let p = c.args.self.now in
    record {
      wrote = ap (λ l. get_or l c.len-fresh.result no_block) c.push_reserved.ensures.items ∙ get_or_push p.blocks.items c.args.block no_block c.len-fresh.result (omega arith);
      taken = taken_fresh p _ c.args.block (omega arith) p.blocks.ok.0 c.push_reserved.ensures.items c.push_reserved.ensures.len c.push_reserved.ensures.capacity refl c.len-fresh.result (omega arith);
    }

pub block-requires : goal.block-requires
block-requires c =
    let p = c.args.self.now in
    free_below p.blocks.items p.blocks.len p.free p.spare (block_at p p.free).next (omega arith) refl p.once

pub index_mut-requires : goal.index_mut-requires
index_mut-requires c =
    let p = c.args.self.now in
    free_below p.blocks.items p.blocks.len p.free p.spare (block_at p p.free).next (omega arith) refl p.once

pub invariant_of-self-2-clause-once : goal.invariant_of-self-2-clause-once
invariant_of-self-2-clause-once c =
    let p = c.args.self.now in
    rest_once p.blocks.items p.blocks.len p.free p.spare c.block.result.now.next (omega arith) (ap (λ (x : Block). x.next) c.block.ensures) p.once c.args.block

pub returns : goal.returns
returns c =
    let p = c.args.self.now in
    let below = free_below p.blocks.items p.blocks.len p.free p.spare (block_at p p.free).next (omega arith) refl p.once in
    record {
      wrote = get_or-set_same p.blocks.items p.free c.args.block no_block (omega arith);
      taken = taken_pop p _ c.args.block (omega arith) refl refl refl (ap (λ (x : Block). x.next) c.block.ensures) (omega arith);
    }
