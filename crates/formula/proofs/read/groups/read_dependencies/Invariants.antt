-- From the place that is reached, with what is declared there, the reading comes out as from the entry.
use Rattle.std.proofs.Common.{◌≡◌, ◌-◌, ◌≤◌, length}
use Rattle.formula.specs.declared.read.groups.Counts.{Counts}
use Rattle.formula.specs.Groups.{dependencies, declared, groups_at}
use Rattle.formula.proofs.read.groups.read_dependencies.Given as goal

abbrev pub invariant-loop-u : goal.invariant-loop-u
invariant-loop-u l = record {
  reads : (c : Counts) → groups_at l.text l.place.at (dependencies l.v) (declared c l.vars) ≡ groups_at l.text l.initial.place.at (dependencies l.v) (declared c l.initial.vars);
  onward : l.initial.place.at ≤ l.place.at;
}

abbrev pub decreases-loop-u : goal.decreases-loop-u
decreases-loop-u l = length l.text - l.place.at
