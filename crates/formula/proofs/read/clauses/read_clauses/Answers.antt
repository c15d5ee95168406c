use Rattle.std.proofs.Common.{◌≡◌, suc, ◌+◌, ◌-◌, ◌≤◌, length, take, drop, ap, ◌∙◌, arith, rules}
use Rattle.std.proofs.lemmas.List.{take_rest, length-take-le, drop-drop, take_more_set}
use Rattle.words.proofs.TableLaws.{take_put_rest, drop_put_rest, length_part}
use Rattle.formula.proofs.read.clauses.read_clauses.Goals as goal

pub returns-in_err-len-clause-is : goal.returns-in_err-len-clause-is
returns-in_err-len-clause-is c =
    let at = c.loop-clause.at in
    let xs = c.loop-clause.literals in
    let inside : at ≤ length xs = omega arith in
    let less : length c.loop-clause.clause-items - c.loop-clause.clause-index ≡ suc (length c.loop-clause.clause-items - (c.loop-clause.clause-index + 1)) = omega arith in
    let front = length-take-le at xs inside in
    let part = length_part at xs c.read_clause.new.rest inside in
    search rules

pub loop-clause-preserved : goal.loop-clause-preserved
loop-clause-preserved c =
    let at = c.loop-clause.at in
    let j = c.loop-clause.clause-index in
    let n = c.in_ok-len.len in
    let xs = c.loop-clause.literals in
    let ys = c.read_clause.new.rest in
    let inside : at ≤ length xs = omega arith in
    let less : length c.loop-clause.clause-items - j ≡ suc (length c.loop-clause.clause-items - (j + 1)) = omega arith in
    let front = length-take-le at xs inside in
    let part = length_part at xs ys inside in
    let put = take_put_rest at xs ys inside n in
    let room = c.in_ok-len.ensures.room in
    let kept = c.in_ok-len.ensures.kept in
    let span = take_more_set c.loop-clause.clause-items j (record { first = at; len = n }) (omega arith) in
    let size : length (take n ys) ≡ n = length-take-le n ys (omega arith) in
    record {
      reads = search rules;
      room = omega arith;
      few = omega (arith, c.in_ok-len.ensures.few);
      kept = drop_put_rest at xs ys inside n ∙ kept ∙ ap (drop n) (take_rest xs at ∙ c.loop-clause.invariant.kept) ∙ drop-drop n at c.args.literals.now;
    }
