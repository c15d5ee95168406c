use Rattle.std.proofs.Common.{length}
use Rattle.spelling.proofs.CircuitLaws.{circuit_accepts}
use Rattle.spelling.proofs.read_circuit.Goals as goal

pub returns : goal.returns
returns c =
    record {
      is = c.read_circuit.ensures;
      spelt = circuit_accepts c.args.text.now c.args.place.now.at c.read_circuit.new.place.at c.read_circuit.result
          (length c.args.outputs.now) (length c.args.gates.now) c.read_circuit.new.outputs c.read_circuit.new.gates c.read_circuit.ensures;
    }
