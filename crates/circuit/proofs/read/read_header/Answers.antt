use Rattle.std.proofs.Common.{◌+◌, not, nat_eq, rules}
use Rattle.circuit.proofs.read.read_header.Goals as goal

pub returns-in_err-gates-clause-is : goal.returns-in_err-gates-clause-is
returns-in_err-gates-clause-is c =
    let gates = c.read_table_count-2.ensures.is (λ n. not (nat_eq c.in_ok-wires.wires (c.in_ok-inputs.inputs + n))) (λ n b p. search rules) in
    search rules
