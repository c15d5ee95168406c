-- Circuits that are opened read only what they may.
use Rattle.std.proofs.Common.{rules}
use Rattle.models.specs.HeldTables.{formula_rows, circuit_rows}
use Rattle.gates.proofs.OpeningLaws.{opening_right}
use Rattle.gates.proofs.opening.check_opening.Goals as goal

pub returns-clause-right : goal.returns-clause-right
returns-clause-right c = opening_right (formula_rows c.args.formula.now) (circuit_rows c.args.circuit.now) (search rules)
