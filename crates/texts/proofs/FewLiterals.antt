-- How many literals a text can spell: each is a word, and four words stand in front of them.
use Rattle.std.proofs.Common.{ℕ, ◌+◌, ◌/◌, ◌≤◌, List, ◌∷◌, length, arith, length-append}
use Rattle.formula.specs.declared.tables.Literal.{Literal}
use Rattle.words.specs.Words.{Spelt, words_from}
use Rattle.spelling.specs.Dqbf.{Declaration, Dqbf, literals_of}
use Rattle.spelling.specs.FormulaGrammar.{Listing, Groups, ClauseText, MatrixText, Spells}
use Rattle.spelling.specs.FormulaGrammar.Listing.{ends as list_ends, goes as list_goes}
use Rattle.spelling.specs.FormulaGrammar.Groups.{none as no_group, a_group, e_group, d_group}
use Rattle.spelling.specs.FormulaGrammar.ClauseText.{ends, goes}
use Rattle.spelling.specs.FormulaGrammar.MatrixText.{none, more}
use Rattle.spelling.specs.FormulaGrammar.Spells.{spells}
use Rattle.texts.proofs.FewWords.{few_words}

-- the words that are left behind a part of the prefix are no more than there were
listing_words : {ws rest : List Spelt} {ns : List ℕ} → Listing ws ns rest → length rest ≤ length ws
listing_words (list_ends e) = omega arith
listing_words (list_goes e h l) = let less = listing_words l in omega arith

groups_words : {ws rest : List Spelt} {prefix all : List Declaration} → Groups prefix ws all rest → length rest ≤ length ws
groups_words no_group = omega arith
groups_words (a_group n l g) = let less = listing_words l in let rest = groups_words g in omega arith
groups_words (e_group n l g) = let less = listing_words l in let rest = groups_words g in omega arith
groups_words (d_group v n e l d g) = let less = listing_words l in let rest = groups_words g in omega arith

-- each literal of the matrix is a word
clause_words : {ws rest : List Spelt} {c : List Literal} → ClauseText ws c rest → length c + length rest ≤ length ws
clause_words (ends e) = omega arith
clause_words (goes e h c) = let less = clause_words c in omega arith

matrix_words : {ws rest : List Spelt} {m : List (List Literal)} → MatrixText ws m rest → length (literals_of m) ≤ length ws
matrix_words none = omega arith
matrix_words {m = c ∷ cs} (more t ts) =
    let one = clause_words t in
    let others = matrix_words ts in
    let both = length-append c (literals_of cs) in
    omega arith

-- the words of `p cnf V C` stand in front
spelled_words : {ws rest : List Spelt} {f : Dqbf} → Spells ws f rest → length (literals_of f.matrix) + 4 ≤ length ws
spelled_words (spells p cnf v c g s m) = let less = groups_words g in let all = matrix_words m in omega arith

-- a text of b bytes spells at most b / 2 literals
pub few_literals : (text : List ℕ) (f : Dqbf) (rest : List Spelt) → Spells (words_from text 0) f rest → length (literals_of f.matrix) ≤ length text / 2
few_literals text f rest s = let some = few_words text in let all = spelled_words s in omega arith
