use Rattle.std.proofs.Common.{◌≡◌, length, take, sym, ap, ◌∙◌, arith, rules}
use Rattle.std.proofs.lemmas.List.{take_more_set, length-take-le}
use Rattle.words.specs.Words.{words_from}
use Rattle.words.proofs.TableLaws.{drop_more_set}
use Rattle.formula.specs.Clauses.{names}
use Rattle.formula.proofs.ClauseLaws.{clause_unfold, marks_push}
use Rattle.formula.proofs.read.clauses.read_clause.Goals as goal

pub returns-in_err-number : goal.returns-in_err-number
returns-in_err-number c =
    let step = clause_unfold (length c.args.vars.now) c.args.vars.now (take c.loop-number.n c.loop-number.rest) (length c.args.rest.now) (length c.args.text.now) (words_from c.args.text.now c.loop-number.place.at) in
    search rules

pub returns-in_err-literal : goal.returns-in_err-literal
returns-in_err-literal c =
    let step = clause_unfold (length c.args.vars.now) c.args.vars.now (take c.loop-number.n c.loop-number.rest) (length c.args.rest.now) (length c.args.text.now) (words_from c.args.text.now c.loop-number.place.at) in
    let long : length (take c.loop-number.n c.loop-number.rest) ≡ c.loop-number.n = length-take-le c.loop-number.n c.loop-number.rest (omega arith) in
    let marked = c.loop-number.invariant.marked c.in_ok-number.number.value in
    search rules

pub loop-number-preserved : goal.loop-number-preserved
loop-number-preserved c =
    let n = c.loop-number.n in
    let xs = c.loop-number.rest in
    let l = c.in_ok-literal.literal in
    let room = c.in_ok-literal.ensures.room in
    let step = clause_unfold (length c.args.vars.now) c.args.vars.now (take n xs) (length c.args.rest.now) (length c.args.text.now) (words_from c.args.text.now c.loop-number.place.at) in
    let long : length (take n xs) ≡ n = length-take-le n xs (omega arith) in
    let marked = c.loop-number.invariant.marked c.in_ok-number.number.value in
    let put = take_more_set xs n l (omega arith) in
    record {
      reads = search rules;
      room = omega arith;
      few = omega (arith, c.in_ok-literal.ensures.few);
      kept = drop_more_set xs c.args.rest.now n l c.loop-number.invariant.kept;
      marked = λ v. marks_push (take n xs) l _ _ (omega (arith, c.in_ok-literal.ensures.known)) c.loop-number.invariant.marked c.add.ensures v ∙ ap (names v) (sym put);
    }
