-- What reading the numbers of a circuit text says of the words that were left, and back.
use Rattle.std.proofs.Common.{◌≡◌, ℕ, ◌<◌, ◌≤◌, Bool, true, false, cond, eqb, ltb, List, [], ◌∷◌, ◌++◌, Ok, Err, Result, sym, refl, ap, ◌∙◌, subst, arith}
use Rattle.std.proofs.lemmas.List.{append_assoc}
use Rattle.std.proofs.lemmas.Bool.{ltb-true, ltb-false, eqb-true, lt-ltb, le-ltb, eq-eqb, cond-true, cond-false}
use Rattle.base.specs.Causes.{Refusal}
use Rattle.words.specs.Words.{Spelt, start_of, end_of}
use Rattle.words.specs.Due.{and_then, number_in, name_in, number_from, name_from}
use Rattle.circuit.specs.Reading.{exact_from, below_from, count_from, at_most, table_count}
use Rattle.spelling.specs.FormulaGrammar.{Name, Number}
use Rattle.spelling.specs.FormulaLaw.{Behind}
use Rattle.spelling.specs.CircuitGrammar.{Numbers, none, more}
use Rattle.spelling.proofs.ProperWords.{ok_same, no_ok, then_ok, cond_ok, reads_number, is_number, reads_name, is_name}

-- answers
pub then_cases : {X Y C : Type 0} (r : Result X Refusal) (f : X → Result Y Refusal) (y : Y) → and_then r f ≡ Ok y → ((x : X) → r ≡ Ok x → f x ≡ Ok y → C) → C
then_cases (Ok x) f y e go = go x refl e
then_cases (Err e) f y h go = absurd (no_ok y e h)

pub then_from : {X Y : Type 0} (r : Result X Refusal) (f : X → Result Y Refusal) (x : X) (y : Result Y Refusal) → r ≡ Ok x → f x ≡ y → and_then r f ≡ y
then_from r f x y e h = ap (λ s. and_then s f) e ∙ h

pub passes_true : {X : Type 0} (b : Bool) (e : Refusal) (r : Result X Refusal) (y : X) → cond b r (Err e) ≡ Ok y → (b ≡ true) × (r ≡ Ok y)
passes_true true e r y h = (refl, h)
passes_true false e r y h = absurd (no_ok y e h)

-- one word is taken, which is a number, and the place is behind it
pub data Taken : List Spelt → ℕ → List Spelt → ℕ → Type 0 where
  taken : {w : Spelt} {ws : List Spelt} {n : ℕ} → Number w n → Taken (w ∷ ws) n ws (end_of w)

-- words that are the numbers of a list, with the place before and behind them
pub data Run : List Spelt → ℕ → List ℕ → List Spelt → ℕ → Type 0 where
  stops : {ws : List Spelt} {q : ℕ} → Run ws q [] ws q
  goes : {w : Spelt} {ws rest : List Spelt} {p q n : ℕ} {ns : List ℕ} → Number w n → Run ws (end_of w) ns rest q → Run (w ∷ ws) p (n ∷ ns) rest q

pub run_more : {ws mid rest : List Spelt} {p m q n : ℕ} {ns : List ℕ} → Taken ws n mid m → Run mid m ns rest q → Run ws p (n ∷ ns) rest q
run_more (taken h) r = goes h r

pub run_append : {ws mid rest : List Spelt} {p m q : ℕ} {xs ys : List ℕ} → Run ws p xs mid m → Run mid m ys rest q → Run ws p (xs ++ ys) rest q
run_append stops s = s
run_append (goes h r) s = goes h (run_append r s)

pub run_split : (xs : List ℕ) {ws rest : List Spelt} {p q : ℕ} {ys : List ℕ} → Run ws p (xs ++ ys) rest q → (mid : List Spelt) × (m : ℕ) × Run ws p xs mid m × Run mid m ys rest q
run_split [] {ws} {rest} {p} r = (ws, p, stops, r)
run_split (x ∷ xs) (goes h r) = let s = run_split xs r in (s.0, s.1, goes h s.2, s.3)

pub run_numbers : {ws rest : List Spelt} {p q : ℕ} {ns : List ℕ} → Run ws p ns rest q → Numbers ws ns rest
run_numbers stops = none
run_numbers (goes h r) = more h (run_numbers r)

pub numbers_run : {ws rest : List Spelt} {ns : List ℕ} → Numbers ws ns rest → (p : ℕ) → (q : ℕ) × Run ws p ns rest q
numbers_run none p = (p, stops)
numbers_run (more {w} h r) p = let s = numbers_run r (end_of w) in (s.0, goes h s.1)

-- the place stays behind the last word that was read
pub run_behind : {ws rest : List Spelt} {p q : ℕ} {ns : List ℕ} (all : List Spelt) → Run ws p ns rest q → Behind all ws p → Behind all rest q
run_behind all stops b = b
run_behind all (goes {w} {ws} h r) b =
    run_behind all r (b.0 ++ b.1 ∷ [], w, b.2 ∙ sym (append_assoc b.0 (b.1 ∷ []) (w ∷ ws)), refl)

-- a number
pub number_taken : (ws : List Spelt) (size : ℕ) (g : (ℕ × ℕ) × List Spelt × ℕ) → number_from ws size ≡ Ok g → Taken ws g.0.0 g.1 g.2
number_taken [] size g e = absurd (no_ok g _ e)
number_taken (w ∷ ws) size g e =
    let s = then_ok (number_in w) _ g e in
    subst (λ (t : (ℕ × ℕ) × List Spelt × ℕ). Taken (w ∷ ws) t.0.0 t.1 t.2) (ok_same _ g s.2) (taken (is_number w s.0 s.1))

pub taken_number : (w : Spelt) (ws : List Spelt) (size n : ℕ) → Number w n → number_from (w ∷ ws) size ≡ Ok ((n, start_of w), ws, end_of w)
taken_number w ws size n h = then_from (number_in w) _ n _ (reads_number w n h) refl

-- a name
pub data Named : List ℕ → List Spelt → List Spelt → ℕ → Type 0 where
  named : {name : List ℕ} {w : Spelt} {ws : List Spelt} → Name w name → Named name (w ∷ ws) ws (end_of w)

pub name_taken : (name : List ℕ) (ws : List Spelt) (size : ℕ) (g : Unit {0} × List Spelt × ℕ) → name_from name ws size ≡ Ok g → Named name ws g.1 g.2
name_taken name [] size g e = absurd (no_ok g _ e)
name_taken name (w ∷ ws) size g e =
    let s = then_ok (name_in name w) _ g e in
    subst (λ (t : Unit {0} × List Spelt × ℕ). Named name (w ∷ ws) t.1 t.2) (ok_same _ g s.2) (named (is_name name w s.1))

pub taken_name : (name : List ℕ) (w : Spelt) (ws : List Spelt) (size : ℕ) → Name w name → name_from name (w ∷ ws) size ≡ Ok (tt, ws, end_of w)
taken_name name w ws size h = then_from (name_in name w) _ tt _ (reads_name name w h) refl

-- a literal that has to be this one
pub exact_taken : (due : ℕ) (ws : List Spelt) (size : ℕ) (g : Unit {0} × List Spelt × ℕ) → exact_from due ws size ≡ Ok g → Taken ws due g.1 g.2
exact_taken due ws size g e =
    let s = then_ok (number_from ws size) _ g e in
    let t = passes_true (eqb s.0.0.0 due) _ _ g s.2 in
    let same_g = ok_same _ g t.1 in
    subst (λ (n : ℕ). Taken ws n g.1 g.2) (eqb-true s.0.0.0 due t.0)
    (subst (λ (x : Unit {0} × List Spelt × ℕ). Taken ws s.0.0.0 x.1 x.2) same_g (number_taken ws size s.0 s.1))

pub taken_exact : (w : Spelt) (ws : List Spelt) (size n : ℕ) → Number w n → exact_from n (w ∷ ws) size ≡ Ok (tt, ws, end_of w)
taken_exact w ws size n h = then_from (number_from (w ∷ ws) size) _ _ _ (taken_number w ws size n h) (cond-true (eqb n n) _ _ (eq-eqb n n refl))

-- a literal that has to be below a bound
pub below_taken : (bound : ℕ) (ws : List Spelt) (size : ℕ) (g : ℕ × List Spelt × ℕ) → below_from bound ws size ≡ Ok g → Taken ws g.0 g.1 g.2 × (g.0 < bound)
below_taken bound ws size g e =
    let s = then_ok (number_from ws size) _ g e in
    let t = passes_true (ltb s.0.0.0 bound) _ _ g s.2 in
    subst (λ (x : ℕ × List Spelt × ℕ). Taken ws x.0 x.1 x.2 × (x.0 < bound)) (ok_same _ g t.1) (number_taken ws size s.0 s.1, ltb-true s.0.0.0 bound t.0)

pub taken_below : (bound : ℕ) (w : Spelt) (ws : List Spelt) (size n : ℕ) → Number w n → n < bound → below_from bound (w ∷ ws) size ≡ Ok (n, ws, end_of w)
taken_below bound w ws size n h l = then_from (number_from (w ∷ ws) size) _ _ _ (taken_number w ws size n h) (cond-true (ltb n bound) _ _ (lt-ltb n bound l))

-- a count
pub count_taken : (rule : ℕ → ℕ → Result ℕ Refusal) (P : ℕ → Type 0) → ((n p k : ℕ) → rule n p ≡ Ok k → (n ≡ k) × P k) → (ws : List Spelt) (size : ℕ) (g : ℕ × List Spelt × ℕ) → count_from rule ws size ≡ Ok g → Taken ws g.0 g.1 g.2 × P g.0
count_taken rule P told ws size g e =
    let s = then_ok (number_from ws size) _ g e in
    let t = then_ok (rule s.0.0.0 s.0.0.1) _ g s.2 in
    let u = told s.0.0.0 s.0.0.1 t.0 t.1 in
    subst (λ (x : ℕ × List Spelt × ℕ). Taken ws x.0 x.1 x.2 × P x.0) (ok_same _ g t.2)
    (subst (λ (n : ℕ). Taken ws n s.0.1 s.0.2) u.0 (number_taken ws size s.0 s.1), u.1)

pub taken_count : (rule : ℕ → ℕ → Result ℕ Refusal) (w : Spelt) (ws : List Spelt) (size n : ℕ) → Number w n → rule n (start_of w) ≡ Ok n → count_from rule (w ∷ ws) size ≡ Ok (n, ws, end_of w)
taken_count rule w ws size n h e =
    then_from (number_from (w ∷ ws) size) _ _ _ (taken_number w ws size n h) (then_from (rule n (start_of w)) _ n _ e refl)

pub at_most_is : (bound n p k : ℕ) → at_most bound n p ≡ Ok k → (n ≡ k) × (k ≤ bound)
at_most_is bound n p k e =
    let s = cond_ok (ltb bound n) _ _ k e in
    let same_k = ok_same n k s.1 in
    (same_k, omega (arith, ltb-false bound n s.0))

pub is_at_most : (bound n p : ℕ) → n ≤ bound → at_most bound n p ≡ Ok n
is_at_most bound n p h = cond-false (ltb bound n) _ _ (le-ltb bound n h)

pub table_count_is : (room : ℕ) (breaks : ℕ → Bool) (n p k : ℕ) → table_count room breaks n p ≡ Ok k → (n ≡ k) × ((k ≤ room) × (breaks k ≡ false))
table_count_is room breaks n p k e =
    let s = cond_ok (ltb room n) _ _ k e in
    let t = cond_ok (breaks n) _ _ k s.1 in
    let same_k = ok_same n k t.1 in
    (same_k, (omega (arith, ltb-false room n s.0), subst (λ (x : ℕ). breaks x ≡ false) same_k t.0))

pub is_table_count : (room : ℕ) (breaks : ℕ → Bool) (n p : ℕ) → n ≤ room → breaks n ≡ false → table_count room breaks n p ≡ Ok n
is_table_count room breaks n p h b = cond-false (ltb room n) _ _ (le-ltb room n h) ∙ cond-false (breaks n) _ _ b
