-- Entries, and worlds that make each of them true or false.
use Rattle.std.specs.Prelude.{◌≡◌, ℕ, ◌%◌, Bool, false, not, ◌&&◌, ◌||◌, List, [], ◌∷◌, ◌==◌, bit_xor}
use Rattle.base.specs.declared.values.ValueWord.{ValueWord}
use Rattle.base.specs.Words.{equal_words}
use Rattle.clauses.specs.declared.entry.Entry.{Entry}

-- the entry of a code, of which the lower four bytes are kept
abbrev pub entry_of : ℕ → ValueWord → Entry
entry_of code values = record { code = code % 4294967296; values = values }

abbrev pub same_entry : Entry → Entry → Bool
same_entry a b = a.code == b.code && equal_words a.values b.values

-- the code flips between 2y and 2y + 1, the values stay
abbrev pub complement_entry : Entry → Entry
complement_entry e = record { code = bit_xor e.code 1; values = e.values }

-- A world says of every entry whether it is true, and exactly one of an entry and its complement is.
pub record World : Type 0 where
  pub holds : Entry → Bool
  pub one : (e : Entry) → holds (complement_entry e) ≡ not (holds e)

-- a clause is true in a world if one of its literals is
abbrev pub true_in : World → List Entry → Bool
true_in w [] = false
true_in w (e ∷ es) = w.holds e || true_in w es
