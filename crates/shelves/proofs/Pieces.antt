-- Laws of a row that is cut into clauses.
use Rattle.std.proofs.Common.{◌≡◌, ℕ, zero, suc, ◌+◌, ◌-◌, ◌<◌, ◌≤◌, true, eqb, leb, List, [], ◌∷◌, ◌++◌, length, get_or, take, drop, refl, ap, ◌∙◌, arith, length-drop}
use Rattle.std.proofs.lemmas.List.{drop_at, take_all, drop-append-le, take-append-le, get_or_past}
use Rattle.std.proofs.lemmas.Bool.{and_parts, and_from, leb-true, eqb-true, eq-eqb, le-leb}
use Rattle.std.proofs.lemmas.Bool.Decides.{nat_tests}
use Rattle.clauses.specs.declared.entry.Entry.{Entry}
use Rattle.engine.specs.Shelves.{entries_in, clause_at}
use Rattle.shelves.specs.Cut.{cut, rising, rising_low, length_cut, total_cut}

-- a clause appended to the row, and its end to the ends
pub cut_push : (s : ℕ) (ends : List ℕ) (row c : List Entry) (u e : ℕ) → u ≡ length row → e ≡ u + length c → rising s ends u ≡ true → cut s (ends ++ e ∷ []) (row ++ c) ≡ cut s ends row ++ c ∷ []
cut_push s [] row c u e n m r =
    let is : s ≡ u = eqb-true s u r in
    let whole : drop s (row ++ c) ≡ c = drop_at row c s (omega arith) in
    ap (λ p. p ∷ []) (ap (take (e - s)) whole ∙ take_all (e - s) c (omega arith))
cut_push s (a ∷ ends) row c u e n m r =
    let both = and_parts (leb s a) (rising a ends u) r in
    let low : s ≤ a = leb-true s a both.0 in
    let high : a ≤ u = rising_low a ends u both.1 in
    let left = length-drop s row in
    let same : take (a - s) (drop s (row ++ c)) ≡ take (a - s) (drop s row) =
    ap (take (a - s)) (drop-append-le s row c (omega arith)) ∙ take-append-le (a - s) (drop s row) c (omega arith) in
    ap (λ p. p ∷ cut a (ends ++ e ∷ []) (row ++ c)) same
    ∙ ap (λ l. take (a - s) (drop s row) ∷ l) (cut_push a ends row c u e n m both.1)

pub rising_push : (s : ℕ) (ends : List ℕ) (u e : ℕ) → u ≤ e → rising s ends u ≡ true → rising s (ends ++ e ∷ []) e ≡ true
rising_push s [] u e h r =
    let is : s ≡ u = eqb-true s u r in
    and_from (leb s e) (eqb e e) (le-leb s e (omega arith)) (eq-eqb e e refl)
rising_push s (a ∷ ends) u e h r =
    let both = and_parts (leb s a) (rising a ends u) r in
    and_from (leb s a) (rising a (ends ++ e ∷ []) e) both.0 (rising_push a ends u e h both.1)

-- where the piece k lies
pub piece_at : (s : ℕ) (ends : List ℕ) (row : List Entry) (k : ℕ) → k < length ends → get_or (cut s ends row) k [] ≡ take (get_or ends k 0 - get_or (s ∷ ends) k 0) (drop (get_or (s ∷ ends) k 0) row)
piece_at s [] row k h = absurd (omega arith)
piece_at s (e ∷ ends) row zero h = refl
piece_at s (e ∷ ends) row (suc k) h = piece_at e ends row k (omega arith)

-- no piece goes backwards or past the row
pub piece_low : (s : ℕ) (ends : List ℕ) (u k : ℕ) → rising s ends u ≡ true → k < length ends → get_or (s ∷ ends) k 0 ≤ get_or ends k 0
piece_low s [] u k r h = absurd (omega arith)
piece_low s (e ∷ ends) u zero r h = leb-true s e (and_parts (leb s e) (rising e ends u) r).0
piece_low s (e ∷ ends) u (suc k) r h = piece_low e ends u k (and_parts (leb s e) (rising e ends u) r).1 (omega arith)

pub piece_high : (s : ℕ) (ends : List ℕ) (u k : ℕ) → rising s ends u ≡ true → k < length ends → get_or ends k 0 ≤ u
piece_high s [] u k r h = absurd (omega arith)
piece_high s (e ∷ ends) u zero r h = rising_low e ends u (and_parts (leb s e) (rising e ends u) r).1
piece_high s (e ∷ ends) u (suc k) r h = piece_high e ends u k (and_parts (leb s e) (rising e ends u) r).1 (omega arith)

-- the clause after the first k ends where the k-th piece does
pub clause_piece : (ends : List ℕ) (row : List Entry) (n k : ℕ) → n ≡ k + 1 → k < length ends → clause_at (cut 0 ends row) n ≡ take (get_or ends k 0 - get_or (0 ∷ ends) k 0) (drop (get_or (0 ∷ ends) k 0) row)
clause_piece ends row n k e h = let at = piece_at 0 ends row k h in grind (arith, nat_tests)

-- what is not filed has no entries
pub clause_none : (ends : List ℕ) (row : List Entry) (n k : ℕ) → n ≡ k + 1 → length ends ≤ k → clause_at (cut 0 ends row) n ≡ []
clause_none ends row n k e h =
    let l = length_cut 0 ends row in
    let past = get_or_past (cut 0 ends row) k [] (omega arith) in
    grind (arith, nat_tests)

-- how many entries the clauses have, by the length of the row
pub cut_entries : (ends : List ℕ) (row : List Entry) (u : ℕ) → u ≡ length row → rising 0 ends u ≡ true → u ≡ entries_in (cut 0 ends row)
cut_entries ends row u e r = let t : 0 + entries_in (cut 0 ends row) ≡ u = total_cut 0 ends row u e r in omega arith
