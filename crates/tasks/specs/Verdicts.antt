-- What the sixteen bytes of a slip say of the formula that a text spells.
use Rattle.std.specs.Prelude.{◌≡◌, ℕ, List, slice_index}
use Rattle.spelling.specs.CircuitGrammar.{Aig}
use Rattle.spelling.specs.Dqbf.{Dqbf}
use Rattle.models.specs.CircuitValues.{RightCircuits}
use Rattle.models.specs.Models.{FalseFormula}
use Rattle.texts.specs.Spelled.{Spelled, SpelledCircuit}
use Rattle.tasks.specs.Outcomes.{Ending, formula_refused, circuit_refused, opening_refused, closed, truth_ending, falsity_ending}

-- a slip with this verdict's byte was given: 1 says True, 2 says False
abbrev pub Gives : Ending → ℕ → Type 0
Gives (formula_refused e) verdict = ⊥
Gives (circuit_refused h e) verdict = ⊥
Gives (opening_refused hs e) verdict = ⊥
Gives (closed hs p slip) verdict = slice_index slip 3 ≡ verdict

-- True: the texts spell a formula and circuits that are right for it
abbrev pub TextsTrue : List ℕ → List ℕ → Type 0
TextsTrue formula circuit =
    (f : Dqbf) × (c : Aig) × Spelled formula f × SpelledCircuit circuit c × RightCircuits f c

-- False: the text spells a formula that is false
abbrev pub TextFalse : List ℕ → Type 0
TextFalse formula = (f : Dqbf) × Spelled formula f × FalseFormula f

-- whatever circuits, proofs, numbers and shelves, one formula text is never given both a True and a False
abbrev pub NeverBoth : List ℕ → Type 0
NeverBoth formula =
    (circuit proof proof' : List ℕ) (case most width case' most' width' : ℕ) →
    Gives (truth_ending formula circuit proof case most width) 1 → Gives (falsity_ending formula proof' case' most' width') 2 → ⊥
