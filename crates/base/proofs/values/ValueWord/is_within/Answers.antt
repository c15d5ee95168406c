use Rattle.std.proofs.Common.{◌-◌, ◌^◌, ◌&&◌, eqb, sym, ap, arith}
use lib.Bits.{bit_and}
use Rattle.std.proofs.lemmas.Bool.{lt-ltb}
use Rattle.base.specs.Words.{within_word}
use Rattle.base.proofs.values.ValueWord.is_within.Goals as goal

pub returns : goal.returns
unfolding within_word
returns c =
    sym (ap (λ b. b && eqb (bit_and c.args.self.bits (2 ^ 64 - 1 - c.args.other.bits)) 0) (lt-ltb c.args.self.bits (2 ^ 64) (omega arith)))
