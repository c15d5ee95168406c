use Rattle.std.proofs.Common.{◌≡◌, ◌+◌, ◌/◌, ◌%◌, get_or, take, set, ap, ◌∙◌, subst, sym, refl, arith, length-take}
use Rattle.engine.specs.Shelves.{no_entry}
use Rattle.linked.specs.declared.blocks.Block.{Block}
use Rattle.linked.specs.Chains.{clause_of}
use Rattle.linked.specs.Moves.{blocks_of}
use Rattle.linked.proofs.ReadLaws.{Reading, reading_below, reading_next, read_entry, copy_more, length_clause}
use Rattle.linked.proofs.pool.Pool.copy.Goals as goal
use Rattle.linked.proofs.pool.Pool.copy.Goals.{then-k-eq3, else-k-eq3}

pub block-block-requires : goal.block-block-requires
block-block-requires c =
    let size = length-take c.min-n.result c.args.row.now in
    reading_below c.args.self.now c.args.clause (c.loop-k.k / 4) c.loop-k.place c.loop-k.invariant.reading (omega arith) c.requires

pub loop-k-preserved : goal.loop-k-preserved
loop-k-preserved c =
    let p = c.args.self.now in
    let r = c.args.clause in
    let k = c.loop-k.k in
    let clause = clause_of (blocks_of p) r in
    let reading = c.loop-k.invariant.reading in
    let x = get_or c.block-block.result.now.entries (k % 4) no_entry in
    let size = length-take c.min-n.result c.args.row.now in
    let long = length_clause (blocks_of p) r in
    let is : x ≡ get_or clause k no_entry = ap (λ (y : Block). get_or y.entries (k % 4) no_entry) c.block-block.ensures ∙ read_entry p r k (k / 4) c.loop-k.place reading refl (omega arith) in
    let on : Reading p r ((k + 1) / 4) c.if-k-eq3.place = elim c.if-k-eq3.branch [
      | then-k-eq3 w ↦ reading_next p r (k / 4) c.loop-k.place reading (omega arith) ((k + 1) / 4) c.if-k-eq3.place (omega arith) (w.place-is ∙ ap (λ (y : Block). y.next) c.block-block.ensures)
      | else-k-eq3 w ↦ (let same : k / 4 ≡ (k + 1) / 4 = omega arith in subst (λ n. Reading p r n c.if-k-eq3.place) same (subst (Reading p r (k / 4)) (sym w.place-is) reading))
    ] in
    record {
      reading = on;
      copied = ap (λ l. set l k x) c.loop-k.invariant.copied ∙ copy_more clause (take c.min-n.result c.args.row.now) k x (omega arith) (omega arith) is;
    }
