-- A premise of the gates or of the outputs is true in the circuit's worlds.
use Rattle.std.proofs.Common.{rules}
use Rattle.gates.proofs.WiringLaws.{wiring_true}
use Rattle.gates.proofs.wiring.lay_wiring.Goals as goal

pub returns-in-1-clause-holds : goal.returns-in-1-clause-holds
returns-in-1-clause-holds c = search (rules, wiring_true)

pub returns-in-2-clause-holds : goal.returns-in-2-clause-holds
returns-in-2-clause-holds c = search (rules, wiring_true)
