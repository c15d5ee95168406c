use Rattle.std.proofs.Common.{arith}
use Rattle.shelves.specs.Cut.{length_cut}
use Rattle.shelves.proofs.flat.FlatShelfShelf.count.Goals as goal

pub returns : goal.returns
returns c = grind (arith, length_cut)
