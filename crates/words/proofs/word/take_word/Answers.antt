use Rattle.std.proofs.Common.{◌+◌, ◌-◌, ◌∷◌, length, take, drop, refl, sym, ap, ◌∙◌, arith}
use Rattle.std.specs.Option.{unwrap_or}
use Rattle.std.proofs.lemmas.List.{length-take-le}
use Rattle.words.specs.Words.{words_from, end_of}
use Rattle.words.proofs.WordLaws.{no_word_left, word_left, end_classed}
use Rattle.words.proofs.word.take_word.Goals as goal

pub returns-in_default-clause-is : goal.returns-in_default-clause-is
returns-in_default-clause-is c =
    no_word_left c.args.text.now c.in_ok-left.left.now c.args.place.now.at c.in_ok-left.ensures.lookup.0.2 c.in_default.ensures

pub returns : goal.returns
returns c =
    let left = c.in_ok-left.left.now in
    let k = c.in-Some.blanks in
    let n = c.unwrap_or-len.result in
    let start = c.args.place.now.at + k in
    let word = take (length left - k) (drop k left) in
    let w = word_left c.args.text.now left c.args.place.now.at c.in_ok-left.ensures.lookup.0.2 k n c.in-Some.ensures word refl (c.unwrap_or-len.ensures ∙ ap (λ o. unwrap_or o (length word)) c.first_blank.ensures) in
    record {
      is = w.3 ∙ ap (λ v. v ∷ words_from c.args.text.now (start + n)) (sym c.classify.ensures);
      onward = (omega arith, omega arith, sym (ap end_of c.classify.ensures ∙ end_classed (take n word) start ∙ ap (λ m. start + m) (length-take-le n word w.1)));
    }
