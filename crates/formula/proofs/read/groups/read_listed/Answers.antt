-- A declaration that is refused is where the reading ends too.
use Rattle.std.proofs.Common.{length, rules}
use Rattle.formula.specs.Groups.{declared}
use Rattle.formula.proofs.GroupLaws.{listed_unfold}
use Rattle.formula.proofs.read.groups.read_listed.Goals as goal

pub returns-in_err-counts-clause-is : goal.returns-in_err-counts-clause-is
returns-in_err-counts-clause-is c =
    let e = listed_unfold (length c.args.vars.now) (declared c.loop-v.counts c.loop-v.vars) c.args.text.now c.loop-v.place.at c.args.quantifier in
    search rules
