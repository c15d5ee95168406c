-- Chains of blocks, and the clauses that they hold.
use Rattle.std.specs.Prelude.{ℕ, zero, suc, ◌+◌, ◌/◌, cond, List, [], ◌∷◌, ◌++◌, map, take, ◌==◌, nat_lt, slice_index_or}
use Rattle.std.specs.List.{flat_map}
use Rattle.clauses.specs.declared.entry.Entry.{Entry}
use Rattle.engine.specs.Shelves.{no_entry}
use Rattle.linked.specs.declared.blocks.Block.{Block}
use Rattle.linked.specs.declared.blocks.Chain.{Chain}

-- how many blocks so many entries take
abbrev pub blocks_for : ℕ → ℕ
blocks_for n = (n + 3) / 4

-- what stands at a place that no block has
abbrev pub no_block : Block
no_block = record { entries = []; next = 0 }

-- the first four entries of a list; no entry where it has fewer
abbrev pub first_four : List Entry → List Entry
first_four c = slice_index_or c 0 no_entry ∷ slice_index_or c 1 no_entry ∷ slice_index_or c 2 no_entry ∷ slice_index_or c 3 no_entry ∷ []

-- the four entries of a block
abbrev pub four : Block → List Entry
four x = first_four x.entries

-- the places of so many blocks along a chain
abbrev pub chain : List Block → ℕ → ℕ → List ℕ
chain blocks zero head = []
chain blocks (suc m) head = head ∷ chain blocks m (slice_index_or blocks head no_block).next

-- the entries of so many blocks along a chain
abbrev pub held : List Block → ℕ → ℕ → List Entry
held blocks zero head = []
held blocks (suc m) head = four (slice_index_or blocks head no_block) ++ held blocks m (slice_index_or blocks head no_block).next

-- the places of a clause's blocks
abbrev pub places : List Block → Chain → List ℕ
places blocks r = chain blocks (blocks_for r.length) r.head

-- the entries of a clause
abbrev pub clause_of : List Block → Chain → List Entry
clause_of blocks r = take r.length (held blocks (blocks_for r.length) r.head)

-- the places of the blocks of all clauses
abbrev pub chains : List Block → List Chain → List ℕ
chains blocks rows = flat_map (places blocks) rows

-- the clauses
abbrev pub clauses_of : List Block → List Chain → List (List Entry)
clauses_of blocks rows = map (clause_of blocks) rows

-- how often a place stands in a list
abbrev pub times : ℕ → List ℕ → ℕ
times b [] = 0
times b (x ∷ l) = cond (b == x) 1 0 + times b l

-- 1 for the place of one of the first n blocks, else 0
abbrev pub one_below : ℕ → ℕ → ℕ
one_below n b = cond (nat_lt b n) 1 0
