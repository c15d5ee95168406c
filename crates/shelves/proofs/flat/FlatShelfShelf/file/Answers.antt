use Rattle.std.proofs.Common.{◌≡◌, true, [], ◌∷◌, ◌++◌, arith}
use Rattle.std.proofs.lemmas.Bool.Decides.{nat_tests}
use Rattle.shelves.specs.Cut.{rising, length_cut}
use Rattle.shelves.proofs.Pieces.{cut_push, rising_push, cut_entries}
use Rattle.shelves.proofs.flat.FlatShelfShelf.file.Goals as goal

pub returns-then-len-self : goal.returns-then-len-self
returns-then-len-self c =
    let was = c.args.self.now in
    let long = length_cut 0 was.ends.items was.entries.items in
    grind (arith, nat_tests)

pub returns-then-clause-self : goal.returns-then-clause-self
returns-then-clause-self c =
    let was = c.args.self.now in
    let total = cut_entries was.ends.items was.entries.items was.entries.len was.entries.ok.0 was.rise in
    grind (arith, nat_tests)

pub invariant_of-self-2-clause-rise : goal.invariant_of-self-2-clause-rise
invariant_of-self-2-clause-rise c =
    let was = c.args.self.now in
    let up : rising 0 (was.ends.items ++ c.len-3.result ∷ []) c.len-3.result ≡ true =
    rising_push 0 was.ends.items was.entries.len c.len-3.result (omega arith) was.rise in
    cc

pub returns : goal.returns
returns c =
    let was = c.args.self.now in
    let long = length_cut 0 was.ends.items was.entries.items in
    let total = cut_entries was.ends.items was.entries.items was.entries.len was.entries.ok.0 was.rise in
    let pushed = cut_push 0 was.ends.items was.entries.items c.args.clause.now was.entries.len c.len-3.result was.entries.ok.0 (omega arith) was.rise in
    grind (arith, nat_tests)
