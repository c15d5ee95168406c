-- From the place that is reached, with what is declared there, the reading comes out as from the entry.
use Rattle.std.proofs.Common.{◌≡◌, ◌-◌, length}
use Rattle.formula.specs.Groups.{outside, declared, groups_at}
use Rattle.formula.proofs.read.groups.read_groups.Given as goal

abbrev pub invariant-loop-group : goal.invariant-loop-group
invariant-loop-group l =
    groups_at l.text l.place.at outside (declared l.counts l.vars) ≡ groups_at l.text l.initial.place.at outside (declared l.initial.counts l.initial.vars)

abbrev pub decreases-loop-group : goal.decreases-loop-group
decreases-loop-group l = length l.text - l.place.at
