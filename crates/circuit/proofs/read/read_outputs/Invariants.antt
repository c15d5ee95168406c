use Rattle.std.proofs.Common.{◌≡◌, ◌-◌, [], length, take}
use Rattle.words.specs.Words.{words_from}
use Rattle.circuit.specs.Reading.{outputs_from}
use Rattle.circuit.proofs.read.read_outputs.Given as goal

abbrev pub invariant-loop-output : goal.invariant-loop-output
invariant-loop-output l =
    outputs_from l.wires (length l.outputs - l.output-index) (take l.output-index l.outputs) (words_from l.text l.place.at) l.place.at (length l.text)
    ≡ outputs_from l.wires (length l.outputs) [] (words_from l.text l.initial.place.at) l.initial.place.at (length l.text)
