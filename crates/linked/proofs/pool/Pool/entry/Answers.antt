use Rattle.std.proofs.Common.{◌+◌, get_or, refl, ap, ◌∙◌, ◌%◌, arith}
use Rattle.linked.specs.declared.blocks.Block.{Block}
use Rattle.engine.specs.Shelves.{no_entry}
use Rattle.linked.proofs.ReadLaws.{reading_below, reading_next, read_entry}
use Rattle.linked.proofs.pool.Pool.entry.Goals as goal

pub block-requires : goal.block-requires
block-requires c = reading_below c.args.self.now c.args.clause c.loop.counter c.loop.place c.loop.invariant (omega arith) c.requires.within

pub loop-preserved : goal.loop-preserved
loop-preserved c =
    reading_next c.args.self.now c.args.clause c.loop.counter c.loop.place c.loop.invariant (omega arith) (c.loop.counter + 1) c.block.result.now.next refl (ap (λ (x : Block). x.next) c.block.ensures)

pub block-requires-2 : goal.block-requires-2
block-requires-2 c = reading_below c.args.self.now c.args.clause c.loop.counter c.loop.place c.loop.invariant (omega arith) c.requires.within

pub returns : goal.returns
returns c =
    ap (λ (x : Block). get_or x.entries (c.args.index % 4) no_entry) c.block-2.ensures
    ∙ read_entry c.args.self.now c.args.clause c.args.index c.loop.counter c.loop.place c.loop.invariant (omega arith) c.requires.index
