-- A reading of a circuit text accepts exactly what spells a lawful circuit that fits the tables.
use Rattle.std.proofs.Common.{◌≡◌, ℕ, ◌+◌, ◌*◌, ◌≤◌, false, not, eqb, ltb, List, [], ◌∷◌, ◌++◌, length, Ok, Err, Result, sym, refl, ap, ◌∙◌, subst, add-zero, arith}
use Rattle.std.specs.List.{AllByRecursion}
use Rattle.std.proofs.lemmas.List.{length-replicate}
use Rattle.std.proofs.lemmas.Bool.{ltb-false, eqb-true, le-ltb, eq-eqb, not-false, not_from_true, cond-false}
use Rattle.base.specs.declared.faults.Fault.{Fault}
use Rattle.base.specs.Causes.{Refusal, told}
use Rattle.words.specs.Words.{Spelt, words_from, start_of, end_of}
use Rattle.words.specs.Due.{name_from}
use Rattle.words.proofs.TableLaws.{padded_at}
use Rattle.words.specs.Tables.{padded}
use Rattle.circuit.specs.declared.tables.CircuitHead.{CircuitHead}
use Rattle.circuit.specs.declared.tables.Gate.{Gate}
use Rattle.circuit.specs.Reading.{no_gate, Circuit, count_from, at_most, table_count, header_from, inputs_from, outputs_from, gates_from, parts_from, circuit_from, head_read, Agrees}
use Rattle.spelling.specs.FormulaGrammar.{Name, Number}
use Rattle.spelling.specs.FormulaLaw.{Behind}
use Rattle.spelling.specs.CircuitGrammar.{Aig, wires_of, LawfulCircuit, Numbers, more, numbers_of, input_literals, gate_literals, OrderedFrom, SpellsCircuit, spells}
use Rattle.spelling.specs.CircuitLaw.{AcceptsCircuit}
use Rattle.spelling.proofs.ProperWords.{ok_same, no_ok, cond_ok}
use Rattle.spelling.proofs.CircuitReads.{then_cases, then_from, Taken, Run, run_more, run_append, run_split, run_numbers, numbers_run, run_behind, Named, named, name_taken, taken_name, count_taken, taken_count, at_most_is, is_at_most, table_count_is, is_table_count}
use Rattle.spelling.proofs.CircuitParts.{inputs_run, run_inputs, outputs_all, run_outputs, gates_all, run_gates}

abbrev aag : List ℕ
aag = 97 ∷ 97 ∷ 103 ∷ []

abbrev Num : Type 0
Num = ℕ × List Spelt × ℕ

-- the header
record HeaderRead (ws : List Spelt) (output_room gate_room : ℕ) (h : CircuitHead × List Spelt × ℕ) : Type 0 where
  words : List Spelt
  from : ℕ
  name : Named aag ws words from
  few_wires : h.0.wires ≤ 60000
  few_inputs : h.0.inputs ≤ 64
  few_outputs : h.0.outputs ≤ 4096
  outputs_fit : h.0.outputs ≤ output_room
  gates_fit : h.0.gates ≤ gate_room
  sum : h.0.wires ≡ h.0.inputs + h.0.gates
  run : {ns : List ℕ} {rest : List Spelt} {r : ℕ} → Run h.1 h.2 ns rest r → Run words from (h.0.wires ∷ h.0.inputs ∷ 0 ∷ h.0.outputs ∷ h.0.gates ∷ ns) rest r

module _ (ws : List Spelt) (output_room gate_room size : ℕ) where
  header_parts : (a : Unit {0} × List Spelt × ℕ) (m i l o g : Num) → name_from aag ws size ≡ Ok a → count_from (at_most 60000) a.1 size ≡ Ok m → count_from (at_most 64) m.1 size ≡ Ok i → count_from (at_most 0) i.1 size ≡ Ok l → count_from (table_count output_room (λ n. ltb 4096 n)) l.1 size ≡ Ok o → count_from (table_count gate_room (λ n. not (eqb m.0 (i.0 + n)))) o.1 size ≡ Ok g → HeaderRead ws output_room gate_room (record { wires = m.0; inputs = i.0; outputs = o.0; gates = g.0 }, g.1, g.2)
  header_parts a m i l o g ae me ie le oe ge =
      let wires = count_taken (at_most 60000) (λ n. n ≤ 60000) (at_most_is 60000) a.1 size m me in
      let inputs = count_taken (at_most 64) (λ n. n ≤ 64) (at_most_is 64) m.1 size i ie in
      let latches = count_taken (at_most 0) (λ n. n ≤ 0) (at_most_is 0) i.1 size l le in
      let outputs = count_taken (table_count output_room (λ n. ltb 4096 n)) (λ n. (n ≤ output_room) × (ltb 4096 n ≡ false)) (table_count_is output_room (λ n. ltb 4096 n)) l.1 size o oe in
      let gates = count_taken (table_count gate_room (λ n. not (eqb m.0 (i.0 + n)))) (λ n. (n ≤ gate_room) × (not (eqb m.0 (i.0 + n)) ≡ false)) (table_count_is gate_room (λ n. not (eqb m.0 (i.0 + n)))) o.1 size g ge in
      let no_latch : l.0 ≡ 0 = omega (arith, latches.1) in
      record {
        words = a.1;
        from = a.2;
        name = name_taken aag ws size a ae;
        few_wires = wires.1;
        few_inputs = inputs.1;
        few_outputs = ltb-false 4096 o.0 outputs.1.1;
        outputs_fit = outputs.1.0;
        gates_fit = gates.1.0;
        sum = eqb-true m.0 (i.0 + g.0) (not-false _ gates.1.1);
        run = λ r. run_more wires.0 (run_more inputs.0 (run_more (subst (λ (n : ℕ). Taken i.1 n l.1 l.2) no_latch latches.0) (run_more outputs.0 (run_more gates.0 r))));
      }

  header_run : (h : CircuitHead × List Spelt × ℕ) → header_from ws output_room gate_room size ≡ Ok h → HeaderRead ws output_room gate_room h
  header_run h e =
      then_cases (name_from aag ws size) _ h e
      (λ a ae e. then_cases (count_from (at_most 60000) a.1 size) _ h e
      (λ m me e. then_cases (count_from (at_most 64) m.1 size) _ h e
      (λ i ie e. then_cases (count_from (at_most 0) i.1 size) _ h e
      (λ l le e. then_cases (count_from (table_count output_room (λ n. ltb 4096 n)) l.1 size) _ h e
      (λ o oe e. then_cases (count_from (table_count gate_room (λ n. not (eqb m.0 (i.0 + n)))) o.1 size) _ h e
      (λ g ge e. subst (HeaderRead ws output_room gate_room) (ok_same _ h e) (header_parts a m i l o g ae me ie le oe ge)))))))

-- what a reading of the whole circuit says of the words
abbrev pub aig_of : Circuit → Aig
aig_of c = record { inputs = c.head.inputs; outputs = c.outputs; gates = c.gates }

abbrev pub head_of : Aig → CircuitHead
head_of a = record { wires = wires_of a; inputs = a.inputs; outputs = length a.outputs; gates = length a.gates }

pub head_same : (h : CircuitHead) (w o g : ℕ) → h.wires ≡ w → h.outputs ≡ o → h.gates ≡ g → h ≡ record { wires = w; inputs = h.inputs; outputs = o; gates = g }
head_same h w o g a b c = rw (← a, ← b, ← c)

spelt_from : {ws words rest : List Spelt} {from : ℕ} (a : Aig) → Named aag ws words from → Numbers words (numbers_of a) rest → SpellsCircuit ws a rest
spelt_from a (named h) n = spells h n

behind_named : {name : List ℕ} {ws words : List Spelt} {from : ℕ} → Named name ws words from → Behind ws words from
behind_named (named {w = w} h) = ([], w, refl, refl)

pub record CircuitWasRead (ws : List Spelt) (output_room gate_room : ℕ) (c : Circuit) : Type 0 where
  pub rest : List Spelt
  pub spelt : SpellsCircuit ws (aig_of c) rest
  pub lawful : LawfulCircuit (aig_of c)
  pub outputs_fit : length c.outputs ≤ output_room
  pub gates_fit : length c.gates ≤ gate_room
  pub head : c.head ≡ head_of (aig_of c)
  pub behind : Behind ws rest c.place

module _ (ws : List Spelt) (output_room gate_room size : ℕ) where
  abbrev Heads : Type 0
  Heads = CircuitHead × List Spelt × ℕ

  circuit_parts : (h : Heads) (i : Unit {0} × List Spelt × ℕ) (o : List ℕ × List Spelt × ℕ) (g : List Gate × List Spelt × ℕ) → HeaderRead ws output_room gate_room h → Run h.1 h.2 (input_literals 1 h.0.inputs) i.1 i.2 → (length o.0 ≡ h.0.outputs) × AllByRecursion (λ x. x ≤ 2 * h.0.wires + 1) o.0 × Run i.1 i.2 o.0 o.1 o.2 → (length g.0 ≡ h.0.gates) × OrderedFrom h.0.inputs g.0 × Run o.1 o.2 (gate_literals h.0.inputs g.0) g.1 g.2 → CircuitWasRead ws output_room gate_room (record { head = h.0; outputs = o.0; gates = g.0; place = g.2 })
  circuit_parts h i o g hr ir or gr =
      let wires : h.0.wires ≡ h.0.inputs + length g.0 = omega (arith, hr.sum, gr.0) in
      let head : h.0 ≡ record { wires = h.0.inputs + length g.0; inputs = h.0.inputs; outputs = length o.0; gates = length g.0 } = head_same h.0 (h.0.inputs + length g.0) (length o.0) (length g.0) wires (sym or.0) (sym gr.0) in
      let run : Run hr.words hr.from (h.0.wires ∷ h.0.inputs ∷ 0 ∷ h.0.outputs ∷ h.0.gates ∷ (input_literals 1 h.0.inputs ++ (o.0 ++ gate_literals h.0.inputs g.0))) g.1 g.2 = hr.run (run_append ir (run_append or.2 gr.2)) in
      record {
        rest = g.1;
        spelt = spelt_from (record { inputs = h.0.inputs; outputs = o.0; gates = g.0 }) hr.name (run_numbers (subst (λ (x : CircuitHead). Run hr.words hr.from (x.wires ∷ x.inputs ∷ 0 ∷ x.outputs ∷ x.gates ∷ (input_literals 1 h.0.inputs ++ (o.0 ++ gate_literals h.0.inputs g.0))) g.1 g.2) head run));
        lawful = record { few_inputs = hr.few_inputs; few_outputs = omega (arith, hr.few_outputs, or.0); few_wires = omega (arith, hr.few_wires, wires); outputs = subst (λ (m : ℕ). AllByRecursion (λ x. x ≤ 2 * m + 1) o.0) wires or.1; ordered = gr.1 };
        outputs_fit = omega (arith, hr.outputs_fit, or.0);
        gates_fit = omega (arith, hr.gates_fit, gr.0);
        head = head;
        behind = run_behind ws run (behind_named hr.name);
      }

  pub parts_run : (c : Circuit) → parts_from ws output_room gate_room size ≡ Ok c → CircuitWasRead ws output_room gate_room c
  parts_run c e =
      then_cases (header_from ws output_room gate_room size) _ c e
      (λ h he e. then_cases (inputs_from h.0.inputs 1 h.1 h.2 size) _ c e
      (λ i ie e. then_cases (outputs_from h.0.wires h.0.outputs [] i.1 i.2 size) _ c e
      (λ o oe e. then_cases (gates_from h.0.inputs h.0.gates [] o.1 o.2 size) _ c e
      (λ g ge e.
      subst (CircuitWasRead ws output_room gate_room) (ok_same _ c e)
      (circuit_parts h i o g (header_run ws output_room gate_room size h he) (inputs_run h.0.inputs 1 h.1 h.2 size i ie)
      (outputs_all h.0.wires h.0.outputs i.1 i.2 size o oe)
      (gates_all h.0.inputs h.0.gates o.1 o.2 size g ge))))))

-- words that spell a lawful circuit are read
module _ (a : Aig) (lawful : LawfulCircuit a) (output_room gate_room size : ℕ) (outputs_fit : length a.outputs ≤ output_room) (gates_fit : length a.gates ≤ gate_room) where
  header_is : (w m i l o g : Spelt) (ws : List Spelt) → Name w aag → Number m (wires_of a) → Number i a.inputs → Number l 0 → Number o (length a.outputs) → Number g (length a.gates) → header_from (w ∷ m ∷ i ∷ l ∷ o ∷ g ∷ ws) output_room gate_room size ≡ Ok (head_of a, ws, end_of g)
  header_is w m i l o g ws wn mn in' ln on gn =
      then_from (name_from aag (w ∷ m ∷ i ∷ l ∷ o ∷ g ∷ ws) size) _ _ _ (taken_name aag w (m ∷ i ∷ l ∷ o ∷ g ∷ ws) size wn)
      (then_from (count_from (at_most 60000) (m ∷ i ∷ l ∷ o ∷ g ∷ ws) size) _ _ _ (taken_count (at_most 60000) m (i ∷ l ∷ o ∷ g ∷ ws) size (wires_of a) mn (is_at_most 60000 (wires_of a) (start_of m) lawful.few_wires))
      (then_from (count_from (at_most 64) (i ∷ l ∷ o ∷ g ∷ ws) size) _ _ _ (taken_count (at_most 64) i (l ∷ o ∷ g ∷ ws) size a.inputs in' (is_at_most 64 a.inputs (start_of i) lawful.few_inputs))
      (then_from (count_from (at_most 0) (l ∷ o ∷ g ∷ ws) size) _ _ _ (taken_count (at_most 0) l (o ∷ g ∷ ws) size 0 ln (is_at_most 0 0 (start_of l) (omega arith)))
      (then_from (count_from (table_count output_room (λ n. ltb 4096 n)) (o ∷ g ∷ ws) size) _ _ _ (taken_count (table_count output_room (λ n. ltb 4096 n)) o (g ∷ ws) size (length a.outputs) on (is_table_count output_room (λ n. ltb 4096 n) (length a.outputs) (start_of o) outputs_fit (le-ltb 4096 (length a.outputs) lawful.few_outputs)))
      (then_from (count_from (table_count gate_room (λ n. not (eqb (wires_of a) (a.inputs + n)))) (g ∷ ws) size) _ _ _ (taken_count (table_count gate_room (λ n. not (eqb (wires_of a) (a.inputs + n)))) g ws size (length a.gates) gn (is_table_count gate_room (λ n. not (eqb (wires_of a) (a.inputs + n))) (length a.gates) (start_of g) gates_fit (not_from_true _ (eq-eqb (wires_of a) (wires_of a) refl))))
      refl)))))

  pub parts_are : {ws rest : List Spelt} → SpellsCircuit ws a rest → (q : ℕ) × (parts_from ws output_room gate_room size ≡ Ok (record { head = head_of a; outputs = a.outputs; gates = a.gates; place = q }))
  parts_are {rest = rest} (spells {w} wn (more {w = m} mn (more {w = i} in' (more {w = l} ln (more {w = o} on (more {w = g} {ws = ws} gn ns)))))) =
      let whole = numbers_run ns (end_of g) in
      let front = run_split (input_literals 1 a.inputs) whole.1 in
      let back = run_split a.outputs front.3 in (
        whole.0,
        then_from (header_from (w ∷ m ∷ i ∷ l ∷ o ∷ g ∷ ws) output_room gate_room size) _ _ _ (header_is w m i l o g ws wn mn in' ln on gn)
            (then_from (inputs_from a.inputs 1 ws (end_of g) size) _ _ _ (run_inputs a.inputs 1 size front.2)
            (then_from (outputs_from (wires_of a) (length a.outputs) [] front.0 front.1 size) _ _ _ (run_outputs (wires_of a) [] size back.2 lawful.outputs)
            (then_from (gates_from a.inputs (length a.gates) [] back.0 back.1 size) _ _ _ (run_gates a.inputs a.inputs [] size a.gates (sym (add-zero a.inputs)) back.3 lawful.ordered)
            refl))),
      )

-- the whole text
circuit_read : (text : List ℕ) (p output_room gate_room : ℕ) (c : Circuit) → circuit_from text p output_room gate_room ≡ Ok c → (length text ≤ 16777216) × CircuitWasRead (words_from text p) output_room gate_room c
circuit_read text p output_room gate_room c e =
    let s = cond_ok (ltb 16777216 (length text)) _ _ c e in
    (ltb-false 16777216 (length text) s.0, parts_run (words_from text p) output_room gate_room (length text) c s.1)

circuit_is : (text : List ℕ) (p output_room gate_room : ℕ) (a : Aig) (rest : List Spelt) → length text ≤ 16777216 → SpellsCircuit (words_from text p) a rest → LawfulCircuit a → length a.outputs ≤ output_room → length a.gates ≤ gate_room → (c : Circuit) × (circuit_from text p output_room gate_room ≡ Ok c)
circuit_is text p output_room gate_room a rest short s lawful os gs =
    let r = parts_are a lawful output_room gate_room (length text) os gs s in
    (record { head = head_of a; outputs = a.outputs; gates = a.gates; place = r.0 }, cond-false (ltb 16777216 (length text)) _ _ (le-ltb 16777216 (length text) short) ∙ r.1)

module _ (text : List ℕ) (p q output_room gate_room : ℕ) (os : List ℕ) (gs : List Gate) where
  accepted : (h : CircuitHead) (c : Circuit) → (length text ≤ 16777216) × CircuitWasRead (words_from text p) output_room gate_room c → Ok h ≡ head_read (Ok c) → os ≡ padded 0 c.outputs output_room → gs ≡ padded no_gate c.gates gate_room → q ≡ c.place → AcceptsCircuit text p (Ok h) os gs q
  accepted h c r he oe ge qe =
      let t = r.1 in
      let o = padded_at 0 c.outputs os output_room t.outputs_fit oe in
      let g = padded_at no_gate c.gates gs gate_room t.gates_fit ge in (
        aig_of c,
        t.rest,
        r.0,
        t.spelt,
        t.lawful,
        o.0,
        g.0,
        record { head = ok_same h c.head he ∙ t.head; outputs = o.1; gates = g.1 },
        subst (Behind (words_from text p) t.rest) (sym qe) t.behind,
      )

  by_answer : (r : Result CircuitHead Fault) (c : Result Circuit Refusal) → circuit_from text p output_room gate_room ≡ c → Agrees c r output_room os gate_room gs p q → AcceptsCircuit text p r os gs q
  by_answer (Ok h) (Ok c) e a = accepted h c (circuit_read text p output_room gate_room c e) a.head a.outputs a.gates a.place
  by_answer (Ok h) (Err x) e a = absurd (no_ok h x (sym a.head))
  by_answer (Err f) (Ok c) e a = absurd (no_ok c.head (told f) a.head)
  by_answer (Err f) (Err x) e a = λ c rest short s lawful o g.
      let ol : length os ≡ output_room = ap length a.outputs ∙ length-replicate output_room 0 in
      let gl : length gs ≡ gate_room = ap length a.gates ∙ length-replicate gate_room no_gate in
      let r = circuit_is text p output_room gate_room c rest short s lawful (omega arith) (omega arith) in
      no_ok r.0 x (sym e ∙ r.1)

pub circuit_accepts : (text : List ℕ) (p q : ℕ) (r : Result CircuitHead Fault) (room_o room_g : ℕ) (os : List ℕ) (gs : List Gate) → Agrees (circuit_from text p room_o room_g) r room_o os room_g gs p q → AcceptsCircuit text p r os gs q
circuit_accepts text p q r room_o room_g os gs a = by_answer text p q room_o room_g os gs r (circuit_from text p room_o room_g) refl a
