-- Where the lowest open goal stands, and how the entries go on that are counted.
use Rattle.std.proofs.Common.{◌≡◌, ℕ, ◌+◌, ◌-◌, ◌<◌, ◌≤◌, Bool, true, false, not, List, [], ◌∷◌, length, get_or, take, drop, position, option_map, sym, refl, ap, ◌∙◌, suc, zero-add, arith}
use Rattle.std.specs.List.{position_from}
use Rattle.std.proofs.lemmas.Iterator.Adapters.{position_from-zero}
use Rattle.std.proofs.lemmas.List.{get_or-take, length-take, at_drop_more}
use Rattle.std.proofs.lemmas.Bool.{cond-true, cond-false, ne_eqb}
use Rattle.clauses.specs.declared.entry.Entry.{Entry}
use Rattle.engine.specs.Plain.{State, lowest_open}
use Rattle.engine.specs.Shelves.{entries_in, clause_at}

-- the goals from number i + 1 on are settled as these flags say
lowest_from : (s : State) (flags : List Bool) (i : ℕ) → ((k : ℕ) → k < length flags → get_or s.settled (i + k) false ≡ get_or flags k false) → option_map (λ at. at + 1) (position_from not i flags) ≡ lowest_open s (i + 1) (length flags)
lowest_from s [] i h = refl
lowest_from s (true ∷ flags) i h =
    let at : i + 1 - 1 ≡ i + 0 = omega arith in
    lowest_from s flags (i + 1) (λ k l. let same : i + 1 + k ≡ i + suc k = omega arith in ap (λ (j : ℕ). get_or s.settled j false) same ∙ h (suc k) (omega arith))
    ∙ sym (cond-true _ _ _ (ap (λ (j : ℕ). get_or s.settled j false) at ∙ h 0 (omega arith)))
lowest_from s (false ∷ flags) i h =
    let at : i + 1 - 1 ≡ i + 0 = omega arith in
    sym (cond-false _ _ _ (ap (λ (j : ℕ). get_or s.settled j false) at ∙ h 0 (omega arith)))

pub lowest_is : (s : State) (n : ℕ) → n ≤ length s.settled → option_map (λ at. at + 1) (position not (take n s.settled)) ≡ lowest_open s 1 n
lowest_is s n h =
    let long : length (take n s.settled) ≡ n = omega (arith, length-take n s.settled) in
    ap (option_map (λ (at : ℕ). at + 1)) (position_from-zero not (take n s.settled))
    ∙ lowest_from s (take n s.settled) 0 (λ k l. ap (λ (j : ℕ). get_or s.settled j false) (zero-add k) ∙ sym (get_or-take n s.settled k false (omega arith)))
    ∙ ap (lowest_open s 1) long

-- the entries that are left are those of the next clause and of the others
pub entries_next : (cs : List (List Entry)) (n : ℕ) → 1 ≤ n → n ≤ length cs → entries_in (drop (n - 1) cs) ≡ length (clause_at cs n) + entries_in (drop n cs)
entries_next cs n low high =
    let next : n - 1 + 1 ≡ n = omega arith in
    at_drop_more entries_in cs (n - 1) [] (omega arith) ∙ ap (λ (k : ℕ). length (get_or cs (n - 1) []) + entries_in (drop k cs)) next
    ∙ ap (λ (c : List Entry). length c + entries_in (drop n cs)) (sym (cond-false _ _ _ (ne_eqb n 0 (λ z. omega arith))))
