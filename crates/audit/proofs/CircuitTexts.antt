-- Every lawful circuit has a text.
use Rattle.std.proofs.Common.{ℕ, zero, suc, ◌+◌, ◌*◌, ◌^◌, ◌<◌, ◌≤◌, false, List, [], ◌∷◌, ◌++◌, map, length, codes, sym, refl, subst, arith}
use Rattle.std.specs.List.{AllByRecursion}
use Rattle.std.proofs.ByRecursion.{All-append, All-weaker, All-map}
use Rattle.std.proofs.lemmas.Bool.{false≢true}
use Rattle.words.specs.Words.{Spelt, words_from}
use Rattle.circuit.specs.declared.tables.Gate.{Gate}
use Rattle.spelling.specs.CircuitGrammar.{Aig, wires_of, LawfulCircuit, OrderedFrom, input_literals, gate_literals, Numbers, none, more, numbers_of, SpellsCircuit, spells}
use Rattle.spelling.proofs.TextOf.{Token, name, num, Good, token_bytes, spelt, some_text}

-- the numbers have at most nine digits
abbrev Low : ℕ → Type 0
Low n = n < 10 ^ 9

inputs_low : (i n : ℕ) → i + n ≤ 100000 → AllByRecursion Low (input_literals i n)
inputs_low i zero h = tt
inputs_low i (suc n) h = (omega arith, inputs_low (i + 1) n (omega arith))

gates_low : (i : ℕ) (gs : List Gate) → i + length gs ≤ 100000 → OrderedFrom i gs → AllByRecursion Low (gate_literals i gs)
gates_low i [] h o = tt
gates_low i (g ∷ gs) h o = (omega arith, (omega (arith, o.0), (omega (arith, o.1), gates_low (i + 1) gs (omega arith) o.2)))

numbers_low : (c : Aig) → LawfulCircuit c → AllByRecursion Low (numbers_of c)
numbers_low c l =
    let low_inputs = inputs_low 1 c.inputs (omega (arith, l.few_inputs)) in
    let low_outputs = All-weaker (λ o. o ≤ 2 * wires_of c + 1) Low (λ o h. omega (arith, l.few_wires)) c.outputs l.outputs in
    let low_gates = gates_low c.inputs c.gates (omega (arith, l.few_wires)) l.ordered in
    let low_back = All-append Low c.outputs (gate_literals c.inputs c.gates) low_outputs low_gates in
    let low = All-append Low (input_literals 1 c.inputs) (c.outputs ++ gate_literals c.inputs c.gates) low_inputs low_back in
    (omega (arith, l.few_wires), (omega (arith, l.few_inputs), (omega arith, (omega (arith, l.few_outputs), (omega (arith, l.few_wires), low)))))

-- the tokens of a circuit
abbrev tokens_of : Aig → List Token
tokens_of c = name (codes "aag") ∷ map (num false) (numbers_of c)

tokens_good : (c : Aig) → LawfulCircuit c → AllByRecursion Good (tokens_of c)
tokens_good c l = ((omega arith, (refl, (refl, (refl, tt)))), All-map Good (num false) (numbers_of c) (All-weaker Low (λ n. Good (num false n)) (λ n h. (h, λ e. absurd (false≢true e))) (numbers_of c) (numbers_low c l)))

tokens_numbers : (p : ℕ) (ns : List ℕ) → Numbers (spelt p (map (num false) ns)) ns []
tokens_numbers p [] = none
tokens_numbers p (n ∷ ns) = more (refl, refl) (tokens_numbers (p + length (token_bytes (num false n)) + 1) ns)

tokens_spell : (c : Aig) → SpellsCircuit (spelt 0 (tokens_of c)) c []
tokens_spell c = spells refl (tokens_numbers (0 + length (codes "aag") + 1) (numbers_of c))

pub circuit_text : (c : Aig) → LawfulCircuit c → (text : List ℕ) × (AllByRecursion (λ b. b < 256) text) × SpellsCircuit (words_from text 0) c []
circuit_text c l =
    let t = some_text (tokens_of c) (tokens_good c l) in
    (t.0, t.1, subst (λ (ws : List Spelt). SpellsCircuit ws c []) (sym t.2) (tokens_spell c))
