-- A row of entries cut into clauses at a list of ends.
use Rattle.std.specs.Prelude.{◌≡◌, ℕ, suc, ◌+◌, ◌-◌, ◌≤◌, Bool, true, ◌&&◌, List, [], ◌∷◌, length, take, drop, ◌==◌, nat_le, refl}
use Rattle.std.proofs.Common.{ap, arith, length-take, length-drop}
use Rattle.std.proofs.lemmas.Bool.{and_parts, leb-true, eqb-true}
use Rattle.clauses.specs.declared.entry.Entry.{Entry}
use Rattle.engine.specs.Shelves.{entries_in}

-- the pieces of a row: the first from s to the first end, each other from one end to the next
abbrev pub cut : ℕ → List ℕ → List Entry → List (List Entry)
cut s [] row = []
cut s (e ∷ ends) row = take (e - s) (drop s row) ∷ cut e ends row

-- whether the ends ascend from s, and the last is u
abbrev pub rising : ℕ → List ℕ → ℕ → Bool
rising s [] u = s == u
rising s (e ∷ ends) u = nat_le s e && rising e ends u

-- the first place is not past the last
pub rising_low : (s : ℕ) (ends : List ℕ) (u : ℕ) → rising s ends u ≡ true → s ≤ u
rising_low s [] u r = let e : s ≡ u = eqb-true s u r in omega arith
rising_low s (e ∷ ends) u r =
    let both = and_parts (nat_le s e) (rising e ends u) r in
    let a : s ≤ e = leb-true s e both.0 in
    let b : e ≤ u = rising_low e ends u both.1 in
    omega arith

-- there are as many pieces as ends
pub length_cut : (s : ℕ) (ends : List ℕ) (row : List Entry) → length (cut s ends row) ≡ length ends
length_cut s [] row = refl
length_cut s (e ∷ ends) row = ap suc (length_cut e ends row)

-- the pieces have all the entries from s on
pub total_cut : (s : ℕ) (ends : List ℕ) (row : List Entry) (u : ℕ) → u ≡ length row → rising s ends u ≡ true → s + entries_in (cut s ends row) ≡ u
total_cut s [] row u n r = let e : s ≡ u = eqb-true s u r in omega arith
total_cut s (e ∷ ends) row u n r =
    let both = and_parts (nat_le s e) (rising e ends u) r in
    let a : s ≤ e = leb-true s e both.0 in
    let b : e ≤ u = rising_low e ends u both.1 in
    let rest : e + entries_in (cut e ends row) ≡ u = total_cut e ends row u n both.1 in
    let long = length-take (e - s) (drop s row) in
    let left = length-drop s row in
    omega arith

-- what a shelf promises of its limits and its list, from what the flat shelf knows of its rows
pub cut_fits : (ends : List ℕ) (row : List Entry) (k w m u : ℕ) → m ≡ length ends → u ≡ length row → rising 0 ends u ≡ true → k ≤ 1000000 → w ≤ 16000000 → m ≤ k → u ≤ w → (k ≤ 1000000) × (w ≤ 16000000) × (length (cut 0 ends row) ≤ k) × (entries_in (cut 0 ends row) ≤ w)
cut_fits ends row k w m u em eu r few narrow clauses entries =
    let long = length_cut 0 ends row in
    let all : 0 + entries_in (cut 0 ends row) ≡ u = total_cut 0 ends row u eu r in
    (few, narrow, omega arith, omega arith)
