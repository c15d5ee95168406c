-- From the place that is reached, with what is declared there, the reading comes out as from the entry.
use Rattle.std.proofs.Common.{◌≡◌, ◌-◌, ◌≤◌, length}
use Rattle.formula.specs.Groups.{listed, declared, groups_at}
use Rattle.formula.proofs.read.groups.read_listed.Given as goal

abbrev pub invariant-loop-v : goal.invariant-loop-v
invariant-loop-v l = record {
  reads : groups_at l.text l.place.at (listed l.quantifier) (declared l.counts l.vars) ≡ groups_at l.text l.initial.place.at (listed l.quantifier) (declared l.initial.counts l.initial.vars);
  onward : l.initial.place.at ≤ l.place.at;
}

abbrev pub decreases-loop-v : goal.decreases-loop-v
decreases-loop-v l = length l.text - l.place.at
