use Rattle.std.proofs.Common.{◌≡◌, ◌+◌, ◌++◌, take, vec_items, vec_len, vec_capacity}
use Rattle.shelves.proofs.flat.append.Given as goal

abbrev pub invariant-loop-entry : goal.invariant-loop-entry
invariant-loop-entry l =
    (vec_items l.row ≡ vec_items l.initial.row ++ take l.entry-index l.clause)
    × (vec_len l.row ≡ vec_len l.initial.row + l.entry-index)
    × (vec_capacity l.row ≡ vec_capacity l.initial.row)
