-- What a word that borrows the text spells.
use Rattle.words.specs.declared.word.Word.{Word}
use Rattle.words.specs.declared.word.Word.TheVariants.{Letter, Number, Other}
use Rattle.words.specs.Words.{Spelt, letter, number, other}

abbrev pub seen : Word → Spelt
seen (Letter w p) = letter w.now p
seen (Number w p n) = number w.now p n
seen (Other w p) = other w.now p
