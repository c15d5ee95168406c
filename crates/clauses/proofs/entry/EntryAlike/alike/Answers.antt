use Rattle.base.specs.Words.{equal_words}
use Rattle.clauses.proofs.entry.EntryAlike.alike.Goals as goal

pub returns : goal.returns
unfolding equal_words
returns c = c.eq.ensures
