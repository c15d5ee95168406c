-- What a shelf answers, by its list of clauses.
use Rattle.std.specs.Prelude.{ℕ, ◌+◌, ◌-◌, Bool, cond, ◌&&◌, List, [], ◌∷◌, ◌++◌, length, Some, None, Option, ◌==◌, nat_le, nat_lt, slice_index_or}
use Rattle.clauses.specs.declared.entry.Entry.{Entry}

-- how many entries the clauses have in all
abbrev pub entries_in : List (List Entry) → ℕ
entries_in [] = 0
entries_in (c ∷ cs) = length c + entries_in cs

-- the clause with a number, from 1; what is not filed has no entries
abbrev pub clause_at : List (List Entry) → ℕ → List Entry
clause_at cs n = cond (n == 0) [] (slice_index_or cs (n - 1) [])

abbrev pub no_entry : Entry
no_entry = record { code = 0; values = record { bits = 0 } }

abbrev pub entry_at : List (List Entry) → ℕ → ℕ → Entry
entry_at cs n i = slice_index_or (clause_at cs n) i no_entry

-- fewer than K clauses are filed, and W entries are not passed
abbrev pub has_room : ℕ → ℕ → List (List Entry) → List Entry → Bool
has_room K W cs c = nat_lt (length cs) K && nat_le (entries_in cs + length c) W

abbrev pub filed_number : ℕ → ℕ → List (List Entry) → List Entry → Option ℕ
filed_number K W cs c = cond (has_room K W cs c) (Some (length cs + 1)) None

abbrev pub filed_list : ℕ → ℕ → List (List Entry) → List Entry → List (List Entry)
filed_list K W cs c = cond (has_room K W cs c) (cs ++ c ∷ []) cs
