-- Rows with a clause at their front, and how long a clause is that was told.
use Rattle.std.proofs.Common.{◌≡◌, ℕ, ◌+◌, ◌-◌, [], subst, ◌≤◌, min, Bool, true, false, cond, ◌&&◌, ltb, leb, List, length, take, Some, None, Ok, Err, Option, Result, Vec, sym, refl, ap, ◌∙◌, arith}
use Rattle.std.proofs.lemmas.List.{take_all, with_items_is}
use Rattle.std.proofs.lemmas.Bool.{cond-true, cond-false, le-leb, ltb-false, leb-true, ne_eqb, and_parts}
use Rattle.base.specs.declared.faults.Cause.{Cause}
use Rattle.base.specs.declared.faults.Fault.{Fault}
use Rattle.base.specs.Causes.{told, cause_number}
use Rattle.clauses.specs.declared.entry.Entry.{Entry}
use Rattle.clauses.specs.Clauses.{Joined, filed, over, told_clause, once, member, resolvent, pivot_at, resolved_by, PremiseKept, Resolved}
use Rattle.clauses.specs.Laid.{told_count}
use Rattle.clauses.proofs.RowLaws.{take_over}
use Rattle.clauses.specs.Worlds.{same_entry, complement_entry}
use Rattle.engine.specs.Laid.{Laid}
use Rattle.engine.specs.Plain.{Rules, State, here, judged, numbered, are_there}
use Rattle.engine.specs.Shelves.{clause_at}
use Rattle.engine.specs.Histories.{Filed}
use Rattle.std.specs.List.{AllByRecursion}
use Rattle.std.proofs.ByRecursion.{All-get_or}
use Rattle.std.specs.Vec.{with_items}

pub err_ok : {X Y : Type 0} (x : X) (y : Y) → ◌≡◌ {A = Result X Y} (Err y) (Ok x) → ⊥
err_ok x y e = cc

pub same_ok : {X Y : Type 0} (x y : X) → ◌≡◌ {A = Result X Y} (Ok x) (Ok y) → x ≡ y
same_ok x y e = cc

-- a clause that is copied to the front of a row that has room for it
pub copied : (c was is : List Entry) (n : ℕ) → length c ≤ 1024 → 1024 ≤ length was → n ≡ min (length c) (length was) → is ≡ over (take (length was) c) was → take n is ≡ c
copied c was is n h l en e =
    let long : length c ≡ n = omega arith in
    let whole : take (length was) c ≡ c = take_all (length was) c (omega arith) in
    ap (take n) (e ∙ ap (λ x. over x was) whole) ∙ take_over c was n long

-- a part from a row's front, where a vector was filled with the row
pub part_is : {Z : Type 0} (v : Vec Entry Z) (xs ws c : List Entry) (n : ℕ) → xs ≡ (with_items v ws).items → length ws ≡ v.len → take n ws ≡ c → take n xs ≡ c
part_is v xs ws c n e l f = ap (take n) (e ∙ with_items_is v ws l) ∙ f

pub told_row : {Z : Type 0} (v : Vec Entry Z) (made : Result ℕ Cause) (ws : List Entry) → length ws ≡ v.len → told_clause made (with_items v ws).items ≡ told_clause made ws
told_row v made ws l = ap (told_clause made) (with_items_is v ws l)

-- what was made, by what was told of it
pub told_ok : (s : State) (made : Result ℕ Cause) (n : ℕ) → Ok n ≡ judged s (told_count made) → made ≡ Ok n
told_ok s (Ok k) n e = cc
told_ok s (Err c) n e = absurd (cc)

pub told_err : (s : State) (made : Result ℕ Cause) (row : List Entry) (claim : Result (List Entry) ℕ) (f : Fault) → told_clause made row ≡ claim → Err (told f) ≡ judged s (told_count made) → judged s claim ≡ Err (told f)
told_err s (Ok n) row claim f e q = absurd (cc)
told_err s (Err c) row claim f e q = let same : told f ≡ here s (cause_number c) = cc in ap (judged s) (sym e) ∙ ap Err (sym same)

laid_by : (claim : Result (List Entry) ℕ) (r : Result ℕ Cause) (was is : List Entry) → Laid claim r was is → ((c : List Entry) → claim ≡ Ok c → length c ≤ length was) → told_clause r is ≡ claim
laid_by (Ok c) r was is l short = l.answer ∙ cond-true _ _ _ (le-leb (length c) (length was) (short c refl))
laid_by (Err k) r was is l short = l.answer

-- what is told of a premise in a row that has room for each
pub laid_is : (claim : Result (List Entry) ℕ) (r : Result ℕ Cause) (was is : List Entry) → Laid claim r was is → ((c : List Entry) → claim ≡ Ok c → length c ≤ 1024) → 1024 ≤ length was → told_clause r is ≡ claim
laid_is claim r was is l short room = laid_by claim r was is l (λ c e. let h = short c e in omega arith)

short_by : (b t : Bool) (c d : List Entry) → (t ≡ false → length c ≤ 1024) → ◌≡◌ {A = Result (List Entry) ℕ} (cond b (Err 19) (cond t (Err 20) (Ok c))) (Ok d) → length d ≤ 1024
short_by true t c d h e = absurd (err_ok d 19 e)
short_by false true c d h e = absurd (err_ok d 20 e)
short_by false false c d h e = subst (λ (l : List Entry). length l ≤ 1024) (same_ok c d e) (h refl)

-- a clause that is filed has at most 1,024 literals
pub filed_short : (j : Joined Entry) (d : List Entry) → filed j ≡ Ok d → length d ≤ 1024
filed_short j d e = short_by j.clash (ltb 1024 (length j.clause)) j.clause d (ltb-false 1024 (length j.clause)) e

resolved_by_short : (b : Bool) (j : Joined Entry) (d : List Entry) → cond b (filed j) (Err 18) ≡ Ok d → length d ≤ 1024
resolved_by_short true j d e = filed_short j d e
resolved_by_short false j d e = absurd (err_ok d 18 e)

pub resolved_short : (o : Option Entry) (first second : List Entry) (position : ℕ) (d : List Entry) → resolved_by same_entry complement_entry o first second position ≡ Ok d → length d ≤ 1024
resolved_short None first second position d e = absurd (err_ok d 16 e)
resolved_short (Some x) first second position d e =
    resolved_by_short (member same_entry x second) (resolvent same_entry complement_entry first second x position) d e

-- what is told of a premise with each literal kept once, in a row that has room
pub kept_is : (p c : List Entry) (r : Result ℕ Cause) (was is : List Entry) → PremiseKept same_entry complement_entry p r was is → p ≡ c → length c ≤ length was → told_clause r is ≡ filed (once same_entry complement_entry c)
kept_is p c r was is k e room =
    let h : length p ≤ length was = omega (arith, ap length e) in
    k.answer ∙ cond-true _ _ _ (le-leb (length p) (length was) h) ∙ ap (λ x. filed (once same_entry complement_entry x)) e

-- what is told of a resolvent in a row that has room
pub resolved_is : (p q c d : List Entry) (at position : ℕ) (r : Result ℕ Cause) (was is : List Entry) → Resolved same_entry complement_entry p q at r was is → p ≡ c → q ≡ d → at ≡ position → length c + length d ≤ length was → told_clause r is ≡ resolved_by same_entry complement_entry (pivot_at complement_entry c position) c d position
resolved_is p q c d at position r was is k e f o room =
    let h : length p + length q ≤ length was = omega (arith, ap length e, ap length f) in
    k.answer ∙ cond-true _ _ _ (le-leb (length p + length q) (length was) h)
    ∙ ap (λ x. resolved_by same_entry complement_entry (pivot_at complement_entry x at) x q at) e
    ∙ ap (λ x. resolved_by same_entry complement_entry (pivot_at complement_entry c at) c x at) f
    ∙ ap (λ x. resolved_by same_entry complement_entry (pivot_at complement_entry c x) c d x) o

-- a clause that a step may use has at most 1,024 literals
pub numbered_short : (s : State) (n : ℕ) → numbered s n ≡ true → length (clause_at s.list n) ≤ 1024
numbered_short s n e =
    leb-true (length (clause_at s.list n)) 1024 (and_parts (leb 1 n && leb n (length s.list)) (leb (length (clause_at s.list n)) 1024) e).1

-- and it is filed
pub numbered_filed : (s : State) (n : ℕ) → numbered s n ≡ true → Filed s.list n
numbered_filed s n e =
    let a = and_parts (leb 1 n && leb n (length s.list)) (leb (length (clause_at s.list n)) 1024) e in
    let b = and_parts (leb 1 n) (leb n (length s.list)) a.0 in
    (leb-true 1 n b.0, leb-true n (length s.list) b.1)

-- what holds of all clauses holds of a filed one
pub filed_all : (P : List Entry → Type 0) (cs : List (List Entry)) (n : ℕ) → AllByRecursion P cs → Filed cs n → P (clause_at cs n)
filed_all P cs n h f =
    let low : 1 ≤ n = f.0 in
    let high : n ≤ length cs = f.1 in
    subst P (sym (cond-false _ _ _ (ne_eqb n 0 (λ z. omega arith)))) (All-get_or P cs (n - 1) [] (omega arith) h)

-- a goal and a clause that are there
pub there_parts : (r : Rules) (s : State) (g c : ℕ) → are_there r s g c ≡ true → (1 ≤ g) × (g ≤ r.goals) × (numbered s c ≡ true)
there_parts r s g c e =
    let a = and_parts (leb 1 g && leb g r.goals) (numbered s c) e in
    let b = and_parts (leb 1 g) (leb g r.goals) a.0 in
    (leb-true 1 g b.0, leb-true g r.goals b.1, a.1)
