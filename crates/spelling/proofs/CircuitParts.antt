-- The inputs, outputs and gates of a circuit text: what their reading says of the words, and back.
use Rattle.std.proofs.Common.{◌≡◌, ℕ, zero, suc, ◌+◌, ◌*◌, ◌<◌, ◌≤◌, List, [], ◌∷◌, ◌++◌, length, Ok, sym, refl, ap, ◌∙◌, subst, add-zero, arith}
use Rattle.std.specs.List.{AllByRecursion}
use Rattle.std.proofs.lemmas.List.{append-nil, append_assoc, length_push}
use Rattle.words.specs.Words.{Spelt, end_of}
use Rattle.circuit.specs.declared.tables.Gate.{Gate}
use Rattle.circuit.specs.Reading.{exact_from, below_from, inputs_from, outputs_from, gate_from, gates_from}
use Rattle.spelling.specs.FormulaGrammar.{Number}
use Rattle.spelling.specs.CircuitGrammar.{OrderedFrom, input_literals, gate_literals}
use Rattle.spelling.proofs.ProperWords.{ok_same}
use Rattle.spelling.proofs.CircuitReads.{then_cases, then_from, Taken, Run, stops, goes, run_more, exact_taken, taken_exact, below_taken, taken_below}

-- inputs
pub inputs_run : (n i : ℕ) (ws : List Spelt) (q size : ℕ) (g : Unit {0} × List Spelt × ℕ) → inputs_from n i ws q size ≡ Ok g → Run ws q (input_literals i n) g.1 g.2
inputs_run zero i ws q size g e = subst (λ (x : Unit {0} × List Spelt × ℕ). Run ws q [] x.1 x.2) (ok_same _ g e) stops
inputs_run (suc n) i ws q size g e =
    then_cases (exact_from (2 * i) ws size) _ g e
    (λ s se h. run_more (exact_taken (2 * i) ws size s se) (inputs_run n (i + 1) s.1 s.2 size g h))

pub run_inputs : (n i : ℕ) (size : ℕ) {ws rest : List Spelt} {p q : ℕ} → Run ws p (input_literals i n) rest q → inputs_from n i ws p size ≡ Ok (tt, rest, q)
run_inputs zero i size stops = refl
run_inputs (suc n) i size (goes {w} {ws} h r) =
    then_from (exact_from (2 * i) (w ∷ ws) size) _ _ _ (taken_exact w ws size (2 * i) h) (run_inputs n (i + 1) size r)

-- outputs, behind those that were read
pub record OutputsRead (m n : ℕ) (done : List ℕ) (ws : List Spelt) (q : ℕ) (g : List ℕ × List Spelt × ℕ) : Type 0 where
  pub new : List ℕ
  pub is : g.0 ≡ done ++ new
  pub count : length new ≡ n
  pub within : AllByRecursion (λ o. o ≤ 2 * m + 1) new
  pub run : Run ws q new g.1 g.2

outputs_more : (m n : ℕ) (done : List ℕ) (ws : List Spelt) (q : ℕ) (s : ℕ × List Spelt × ℕ) (g : List ℕ × List Spelt × ℕ) → Taken ws s.0 s.1 s.2 × (s.0 < 2 * m + 2) → OutputsRead m n (done ++ s.0 ∷ []) s.1 s.2 g → OutputsRead m (suc n) done ws q g
outputs_more m n done ws q s g t r =
    record { new = s.0 ∷ r.new; is = r.is ∙ append_assoc done (s.0 ∷ []) r.new; count = ap suc r.count; within = (omega (arith, t.1), r.within); run = run_more t.0 r.run }

pub outputs_run : (m n : ℕ) (done : List ℕ) (ws : List Spelt) (q size : ℕ) (g : List ℕ × List Spelt × ℕ) → outputs_from m n done ws q size ≡ Ok g → OutputsRead m n done ws q g
outputs_run m zero done ws q size g e =
    subst (OutputsRead m 0 done ws q) (ok_same _ g e) (record { new = []; is = sym (append-nil done); count = refl; within = tt; run = stops })
outputs_run m (suc n) done ws q size g e =
    then_cases (below_from (2 * m + 2) ws size) _ g e
    (λ s se h. outputs_more m n done ws q s g (below_taken (2 * m + 2) ws size s se) (outputs_run m n (done ++ s.0 ∷ []) s.1 s.2 size g h))

pub run_outputs : (m : ℕ) (done : List ℕ) (size : ℕ) {os : List ℕ} {ws rest : List Spelt} {p q : ℕ} → Run ws p os rest q → AllByRecursion (λ o. o ≤ 2 * m + 1) os → outputs_from m (length os) done ws p size ≡ Ok (done ++ os, rest, q)
run_outputs m done size (stops {ws} {q}) a = ap (λ (l : List ℕ). Ok (l, ws, q)) (sym (append-nil done))
run_outputs m done size {rest = rest} {q = q} (goes {w} {ws} {n = n} {ns = ns} h r) a =
    then_from (below_from (2 * m + 2) (w ∷ ws) size) _ _ _ (taken_below (2 * m + 2) w ws size n h (omega (arith, a.0)))
    (run_outputs m (done ++ n ∷ []) size r a.1 ∙ ap (λ (l : List ℕ). Ok (l, rest, q)) (append_assoc done (n ∷ []) ns))

-- one gate
pub record GateRead (own : ℕ) (ws : List Spelt) (q : ℕ) (g : Gate × List Spelt × ℕ) : Type 0 where
  pub left : g.0.left < own
  pub right : g.0.right < own
  pub run : {ns : List ℕ} {rest : List Spelt} {r : ℕ} → Run g.1 g.2 ns rest r → Run ws q (own ∷ g.0.left ∷ g.0.right ∷ ns) rest r

gate_parts : (own : ℕ) (ws : List Spelt) (q size : ℕ) (s : Unit {0} × List Spelt × ℕ) (t u : ℕ × List Spelt × ℕ) → exact_from own ws size ≡ Ok s → below_from own s.1 size ≡ Ok t → below_from own t.1 size ≡ Ok u → GateRead own ws q (record { left = t.0; right = u.0 }, u.1, u.2)
gate_parts own ws q size s t u se te ue =
    let b = below_taken own s.1 size t te in
    let c = below_taken own t.1 size u ue in
    record { left = b.1; right = c.1; run = λ r. run_more (exact_taken own ws size s se) (run_more b.0 (run_more c.0 r)) }

gate_run : (own : ℕ) (ws : List Spelt) (q size : ℕ) (g : Gate × List Spelt × ℕ) → gate_from own ws size ≡ Ok g → GateRead own ws q g
gate_run own ws q size g e =
    then_cases (exact_from own ws size) _ g e
    (λ s se h. then_cases (below_from own s.1 size) _ g h
    (λ t te i. then_cases (below_from own t.1 size) _ g i
    (λ u ue same_g. subst (GateRead own ws q) (ok_same _ g same_g) (gate_parts own ws q size s t u se te ue))))

run_gate : (own : ℕ) (x y z : Spelt) (ws : List Spelt) (size : ℕ) (g : Gate) → Number x own → Number y g.left → Number z g.right → g.left < own → g.right < own → gate_from own (x ∷ y ∷ z ∷ ws) size ≡ Ok (g, ws, end_of z)
run_gate own x y z ws size g a b c l r =
    then_from (exact_from own (x ∷ y ∷ z ∷ ws) size) _ _ _ (taken_exact x (y ∷ z ∷ ws) size own a)
    (then_from (below_from own (y ∷ z ∷ ws) size) _ _ _ (taken_below own y (z ∷ ws) size g.left b l)
    (then_from (below_from own (z ∷ ws) size) _ _ _ (taken_below own z ws size g.right c r) refl))

-- gates, behind those that were read: the first one's own literal is 2(k + 1)
pub record GatesRead (k n : ℕ) (done : List Gate) (ws : List Spelt) (q : ℕ) (g : List Gate × List Spelt × ℕ) : Type 0 where
  pub new : List Gate
  pub is : g.0 ≡ done ++ new
  pub count : length new ≡ n
  pub ordered : OrderedFrom k new
  pub run : Run ws q (gate_literals k new) g.1 g.2

gates_more : (k n : ℕ) (done : List Gate) (ws : List Spelt) (q : ℕ) (s : Gate × List Spelt × ℕ) (g : List Gate × List Spelt × ℕ) → GateRead (2 * (k + 1)) ws q s → GatesRead (k + 1) n (done ++ s.0 ∷ []) s.1 s.2 g → GatesRead k (suc n) done ws q g
gates_more k n done ws q s g t r =
    record { new = s.0 ∷ r.new; is = r.is ∙ append_assoc done (s.0 ∷ []) r.new; count = ap suc r.count; ordered = (t.left, t.right, r.ordered); run = t.run r.run }

pub gates_run : (i n : ℕ) (done : List Gate) (ws : List Spelt) (q size : ℕ) (g : List Gate × List Spelt × ℕ) → gates_from i n done ws q size ≡ Ok g → GatesRead (i + length done) n done ws q g
gates_run i zero done ws q size g e =
    subst (GatesRead (i + length done) 0 done ws q) (ok_same _ g e) (record { new = []; is = sym (append-nil done); count = refl; ordered = tt; run = stops })
gates_run i (suc n) done ws q size g e =
    then_cases (gate_from (2 * (i + length done + 1)) ws size) _ g e
    (λ s se h.
    gates_more (i + length done) n done ws q s g (gate_run (2 * (i + length done + 1)) ws q size s se)
    (subst (λ (k : ℕ). GatesRead k n (done ++ s.0 ∷ []) s.1 s.2 g) (omega (arith, length_push done s.0)) (gates_run i n (done ++ s.0 ∷ []) s.1 s.2 size g h)))

pub run_gates : (i k : ℕ) (done : List Gate) (size : ℕ) (gs : List Gate) {ws rest : List Spelt} {p q : ℕ} → k ≡ i + length done → Run ws p (gate_literals k gs) rest q → OrderedFrom k gs → gates_from i (length gs) done ws p size ≡ Ok (done ++ gs, rest, q)
run_gates i k done size [] e (stops {ws} {q}) o = ap (λ (l : List Gate). Ok (l, ws, q)) (sym (append-nil done))
run_gates i k done size (g ∷ gs) {rest = rest} {q = q} e (goes {w = x} a (goes {w = y} b (goes {w = z} {ws = ws} c r))) o =
    let own : 2 * (i + length done + 1) ≡ 2 * (k + 1) = omega arith in
    then_from (gate_from (2 * (i + length done + 1)) (x ∷ y ∷ z ∷ ws) size) _ _ _
    (ap (λ (n : ℕ). gate_from n (x ∷ y ∷ z ∷ ws) size) own ∙ run_gate (2 * (k + 1)) x y z ws size g a b c o.0 o.1)
    (run_gates i (k + 1) (done ++ g ∷ []) size gs (omega (arith, length_push done g)) r o.2 ∙ ap (λ (l : List Gate). Ok (l, rest, q)) (append_assoc done (g ∷ []) gs))

-- all outputs, and all gates
pub outputs_all : (m n : ℕ) (ws : List Spelt) (q size : ℕ) (g : List ℕ × List Spelt × ℕ) → outputs_from m n [] ws q size ≡ Ok g → (length g.0 ≡ n) × AllByRecursion (λ o. o ≤ 2 * m + 1) g.0 × Run ws q g.0 g.1 g.2
outputs_all m n ws q size g e =
    let r = outputs_run m n [] ws q size g e in
    subst (λ (l : List ℕ). (length l ≡ n) × AllByRecursion (λ o. o ≤ 2 * m + 1) l × Run ws q l g.1 g.2) (sym r.is) (r.count, r.within, r.run)

pub gates_all : (i n : ℕ) (ws : List Spelt) (q size : ℕ) (g : List Gate × List Spelt × ℕ) → gates_from i n [] ws q size ≡ Ok g → (length g.0 ≡ n) × OrderedFrom i g.0 × Run ws q (gate_literals i g.0) g.1 g.2
gates_all i n ws q size g e =
    let r = subst (λ (k : ℕ). GatesRead k n [] ws q g) (add-zero i) (gates_run i n [] ws q size g e) in
    subst (λ (l : List Gate). (length l ≡ n) × OrderedFrom i l × Run ws q (gate_literals i l) g.1 g.2) (sym r.is) (r.count, r.ordered, r.run)
