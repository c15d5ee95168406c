-- The marks on the variables of one clause.
use Rattle.std.specs.Prelude.{ℕ, Bool, ◌==◌, slice_index}
use Rattle.formula.specs.declared.marks.Marks.{Marks}

-- whether variable v has a mark; behind the entries slice_index is 0, and the clause's number is above 0
abbrev pub has_mark : Marks → ℕ → Bool
has_mark m v = slice_index m.entries v == m.clause
