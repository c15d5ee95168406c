use Rattle.std.proofs.Common.{◌-◌, ◌/◌, ◌^◌, rules}
use lib.Bits.{and_mask}
use Rattle.base.specs.Words.{has_bit}
use Rattle.base.proofs.values.ValueWord.has.Goals as goal

pub returns-then-k-eq0 : goal.returns-then-k-eq0
unfolding has_bit
returns-then-k-eq0 c = search rules

pub returns : goal.returns
unfolding has_bit
returns c = let low = and_mask (c.args.self.bits / 2 ^ (c.args.k - 1)) 1 in search rules
