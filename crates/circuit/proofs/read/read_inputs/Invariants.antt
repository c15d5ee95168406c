use Rattle.std.proofs.Common.{◌≡◌, ◌+◌, ◌-◌, length}
use Rattle.words.specs.Words.{words_from}
use Rattle.circuit.specs.Reading.{inputs_from}
use Rattle.circuit.proofs.read.read_inputs.Given as goal

abbrev pub invariant-loop-i : goal.invariant-loop-i
invariant-loop-i l =
    inputs_from (l.inputs + 1 - l.i) l.i (words_from l.text l.place.at) l.place.at (length l.text)
    ≡ inputs_from l.inputs 1 (words_from l.text l.initial.place.at) l.initial.place.at (length l.text)
