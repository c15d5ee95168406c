use Rattle.std.proofs.Common.{refl}
use Rattle.base.specs.Words.{empty_word, first_word, single_word, union_word, has_bit}
use Rattle.cases.proofs.cases_hold.Goals as goal

-- each case computes
pub returns : goal.returns
unfolding empty_word first_word single_word union_word has_bit
returns c = refl
