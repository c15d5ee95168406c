use Rattle.std.proofs.Common.{◌≡◌, get_or, sym, subst, rules}
use Rattle.linked.specs.declared.blocks.Chain.{Chain}
use Rattle.linked.specs.Moves.{Within}
use Rattle.linked.proofs.ShelfLaws.{shelf_within}
use Rattle.linked.proofs.shelf.LinkedShelf.find.Goals as goal

pub returns-clause-within : goal.returns-clause-within
returns-clause-within c =
    let was = c.args.self.now in
    let is : c.unwrap_or_default.result ≡ get_or was.index.items c.in-Some.at (record { head = 0; length = 0 }) = search rules in
    subst (λ (r : Chain). Within was.pool r) (sym is) (shelf_within was.pool was.index.items was.apart c.in-Some.at)
