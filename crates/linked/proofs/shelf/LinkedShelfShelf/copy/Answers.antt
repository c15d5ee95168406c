use Rattle.std.proofs.Common.{length, ap, arith}
use Rattle.linked.proofs.ReadLaws.{length_clause}
use Rattle.linked.proofs.shelf.LinkedShelfShelf.copy.Goals as goal

pub returns-clause-answer : goal.returns-clause-answer
returns-clause-answer c =
    let long = length_clause c.args.self.now.pool.blocks.items c.find.result in
    let same = ap length c.find.ensures.is in
    omega arith
