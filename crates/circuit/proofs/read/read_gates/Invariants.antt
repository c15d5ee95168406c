use Rattle.std.proofs.Common.{◌≡◌, ◌-◌, [], length, take}
use Rattle.words.specs.Words.{words_from}
use Rattle.circuit.specs.Reading.{gates_from}
use Rattle.circuit.proofs.read.read_gates.Given as goal

abbrev pub invariant-loop-g : goal.invariant-loop-g
invariant-loop-g l =
    gates_from l.inputs (length l.gates - l.g) (take l.g l.gates) (words_from l.text l.place.at) l.place.at (length l.text)
    ≡ gates_from l.inputs (length l.gates) [] (words_from l.text l.initial.place.at) l.initial.place.at (length l.text)
