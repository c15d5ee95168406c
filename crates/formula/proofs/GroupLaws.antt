-- The reading inside a list of variables, from a place of a text, by the number that is due there.
use Rattle.std.proofs.Common.{◌≡◌, ℕ, cond, eqb, List, length, refl}
use Rattle.words.specs.Words.{words_from}
use Rattle.words.specs.Due.{and_then, number_from}
use Rattle.words.proofs.DueLaws.{by_number}
use Rattle.formula.specs.declared.read.groups.Quantifier.{Quantifier}
use Rattle.formula.specs.Groups.{Declared, outside, listed, add_listed, groups_from}

pub listed_unfold : (known : ℕ) (d : Declared) (text : List ℕ) (p : ℕ) (k : Quantifier) → groups_from known (listed k) d (words_from text p) p (length text) ≡ and_then (number_from (words_from text p) (length text)) (λ g. cond (eqb g.0.0 0) (groups_from known outside d g.1 g.2 (length text)) (and_then (add_listed k known d g.0.0 g.0.1) (λ d'. groups_from known (listed k) d' g.1 g.2 (length text))))
listed_unfold known d text p k =
    by_number (λ ws. groups_from known (listed k) d ws p (length text))
    (λ v at ws q. cond (eqb v 0) (groups_from known outside d ws q (length text)) (and_then (add_listed k known d v at) (λ d'. groups_from known (listed k) d' ws q (length text))))
    (length text) refl (λ w ws. refl) (words_from text p)
