-- Reaches in a table with zeros behind them, and entry by entry.
use Rattle.std.proofs.Common.{◌≡◌, ℕ, zero, suc, ◌+◌, ◌-◌, ◌/◌, ◌<◌, ◌≤◌, cond, leb, List, [], ◌∷◌, ◌++◌, length, get_or, take, drop, set, replicate, sym, refl, ap, ◌∙◌, ⊎_elim, arith}
use Rattle.std.proofs.lemmas.List.{at_drop_more, get_or-take, get_or_push, length_push, take_all, take-append-le, take_at, take_more_set}
use Rattle.std.proofs.lemmas.Bool.{cases_lt, cond-true, le-leb}
use Rattle.base.specs.declared.values.ValueWord.{ValueWord}
use Rattle.base.specs.Words.{empty_word, single_word, union_word}
use Rattle.words.proofs.TableLaws.{padded_is, get_or_padded}
use Rattle.circuit.specs.declared.tables.Gate.{Gate}
use Rattle.circuit.specs.Reading.{no_gate}
use Rattle.reach.specs.Reach.{wire_reach, reaches_from}

-- a gate's reach, from the reaches of the gates before it
abbrev pub gate_union : ℕ → List ValueWord → Gate → ValueWord
gate_union i done g = union_word (wire_reach i done (g.left / 2)) (wire_reach i done (g.right / 2))

-- zeros behind a table change no reach
pub reach_padded : (i : ℕ) (xs : List ValueWord) (m w : ℕ) → wire_reach i (xs ++ replicate m empty_word) w ≡ wire_reach i xs w
reach_padded i xs m w = ap (cond (leb w i) (single_word w)) (get_or_padded empty_word xs m (w - i - 1))

-- a wire below gate n reads nothing from entry n on
pub reach_front : (i : ℕ) (xs : List ValueWord) (n w : ℕ) → w < i + 1 + n → wire_reach i (take n xs) w ≡ wire_reach i xs w
reach_front i xs n w h =
    ⊎_elim
    (λ (p : i < w). ap (cond (leb w i) (single_word w)) (get_or-take n xs (w - i - 1) empty_word (omega arith)))
    (λ (p : w ≤ i). let e = le-leb w i p in cond-true (leb w i) _ _ e ∙ sym (cond-true (leb w i) _ _ e))
    (cases_lt i w)

-- one more gate's reach is written into a table that held zeros
pub from_more : (i room g : ℕ) (gs : List Gate) (xs ys : List ValueWord) (v : ValueWord) → ys ≡ replicate room empty_word → length xs ≡ length ys → drop g xs ≡ drop g ys → g < length xs → g < length gs → v ≡ gate_union i xs (get_or gs g no_gate) → reaches_from i (take (g + 1) (set xs g v)) (drop (g + 1) gs) ≡ reaches_from i (take g xs) (drop g gs)
from_more i room g gs xs ys v z same behind h inside e =
    let done = take g xs in
    let gate = get_or gs g no_gate in
    let left = gate.left / 2 in
    let right = gate.right / 2 in
    let read : (w : ℕ) → wire_reach i xs w ≡ wire_reach i done w = λ w.
    ap (λ l. wire_reach i l w) (padded_is empty_word g room xs ys z (omega arith) same behind)
    ∙ reach_padded i done (room - length done) w in
    let front : take (g + 1) (set xs g v) ≡ done ++ gate_union i done gate ∷ [] =
    take_more_set xs g v h
    ∙ ap (λ u. done ++ u ∷ [])
    (e ∙ ap (λ a. union_word a (wire_reach i xs right)) (read left) ∙ ap (union_word (wire_reach i done left)) (read right)) in
    ap (λ l. reaches_from i l (drop (g + 1) gs)) front ∙ sym (at_drop_more (reaches_from i done) gs g no_gate inside)

-- what is worked out stays as it is
from_front : (i : ℕ) (done : List ValueWord) (gs : List Gate) (n : ℕ) → n ≤ length done → take n (reaches_from i done gs) ≡ take n done
from_front i done [] n h = refl
from_front i done (g ∷ gs) n h =
    let u = gate_union i done g in
    from_front i (done ++ u ∷ []) gs n (omega (arith, length_push done u)) ∙ take-append-le n done (u ∷ []) h

-- each entry is the union of its gate's two reaches, from the entries before it
from_entry : (i : ℕ) (done : List ValueWord) (gs : List Gate) (j n : ℕ) (d : ValueWord) → j < length gs → n ≡ length done + j → get_or (reaches_from i done gs) n d ≡ gate_union i (take n (reaches_from i done gs)) (get_or gs j no_gate)
from_entry i done [] j n d h e = absurd (omega arith)
from_entry i done (g ∷ gs) zero n d h e =
    let u = gate_union i done g in
    let more = done ++ u ∷ [] in
    let all = reaches_from i more gs in
    let long = length_push done u in
    let upto : take (n + 1) all ≡ more = from_front i more gs (n + 1) (omega arith) ∙ take_all (n + 1) more (omega arith) in
    let before : take n all ≡ done = from_front i more gs n (omega arith) ∙ take_at done (u ∷ []) n (omega arith) in
    sym (get_or-take (n + 1) all n d (omega arith)) ∙ ap (λ l. get_or l n d) upto ∙ get_or_push done u d n (omega arith)
    ∙ ap (λ l. gate_union i l g) (sym before)
from_entry i done (g ∷ gs) (suc j) n d h e =
    let u = gate_union i done g in
    from_entry i (done ++ u ∷ []) gs j n d (omega arith) (omega (arith, length_push done u))

pub reaches_entry : (i : ℕ) (gs : List Gate) (g : ℕ) → g < length gs → get_or (reaches_from i [] gs) g empty_word ≡ gate_union i (take g (reaches_from i [] gs)) (get_or gs g no_gate)
reaches_entry i gs g h = from_entry i [] gs g g empty_word h (omega arith)
