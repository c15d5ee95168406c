use Rattle.std.proofs.Common.{◌+◌, ◌≤◌, length}
use Rattle.jumpweft.proofs.records_command.print_records.Given as goal

-- each record so far had a byte at least
abbrev pub invariant-loop-rest : goal.invariant-loop-rest
invariant-loop-rest l = l.count + length l.rest ≤ length l.bytes

abbrev pub decreases-loop-rest : goal.decreases-loop-rest
decreases-loop-rest l = length l.rest
