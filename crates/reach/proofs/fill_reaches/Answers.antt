-- Each turn writes one more gate's reach; the filled table tells the paths.
use Rattle.std.proofs.Common.{◌≡◌, leb, [], length, get_or, take, replicate, true, sym, ap, ◌∙◌, rules, arith}
use Rattle.std.proofs.lemmas.List.{at_drop_all, length-take-le}
use Rattle.std.proofs.lemmas.Bool.{and_from, cond-true, le-leb}
use Rattle.base.specs.Words.{empty_word}
use Rattle.words.specs.Tables.{padded}
use Rattle.words.proofs.TableLaws.{padded_is, drop_more_set}
use Rattle.circuit.specs.Reading.{no_gate}
use Rattle.reach.specs.Reach.{reaches_from, fills, reaches_table}
use Rattle.reach.proofs.ReachLaws.{gate_union, from_more}
use Rattle.reach.proofs.PathLaws.{table_paths}
use Rattle.reach.proofs.fill_reaches.Goals as goal

-- the turn writes the union of the two reaches that the table gives
pub loop-g-preserved : goal.loop-g-preserved
loop-g-preserved c =
    let g = c.loop-g.g in
    let xs = c.loop-g.reaches in
    let ys = c.fill.new.self in
    let room = length c.args.reaches.now in
    let gs = take c.args.head.gates c.args.gates.now in
    let count = length-take-le c.args.head.gates c.args.gates.now c.if-count-gates.false in
    let union : c.union.result ≡ gate_union c.args.head.inputs xs (get_or gs g no_gate) = search rules in
    record {
      filled =
          from_more c.args.head.inputs room g gs xs ys c.union.result
          (c.fill.ensures.after (λ y e. e) ∙ ap (replicate room) c.empty.ensures)
          (omega arith) c.loop-g.invariant.rest (omega (arith, count)) (omega arith) union
          ∙ c.loop-g.invariant.filled;
      rest = search (rules, drop_more_set);
    }

-- behind the last turn the table is whole
pub returns : goal.returns
returns c =
    let i = c.args.head.inputs in
    let n = c.args.head.gates in
    let g = c.loop-g.g in
    let xs = c.loop-g.reaches in
    let ys = c.fill.new.self in
    let room = length c.args.reaches.now in
    let gates = c.args.gates.now in
    let gs = take n gates in
    let count = length-take-le n gates c.if-count-gates.false in
    let full : fills c.args.head gates room ≡ true =
    and_from (leb n (length gates)) (leb n room) (le-leb n (length gates) (omega arith)) (le-leb n room (omega arith)) in
    let all : take g xs ≡ reaches_from i [] gs =
    sym (at_drop_all (reaches_from i (take g xs)) gs g (omega arith)) ∙ c.loop-g.invariant.filled in
    let zeros : ys ≡ replicate room empty_word = c.fill.ensures.after (λ y e. e) ∙ ap (replicate room) c.empty.ensures in
    let table : xs ≡ reaches_table c.args.head gates room =
    padded_is empty_word g room xs ys zeros (omega arith) (omega (arith, count)) c.loop-g.invariant.rest
    ∙ ap (λ l. padded empty_word l room) all
    ∙ sym (cond-true (fills c.args.head gates room) _ _ full) in
    let long : room ≡ length xs = omega arith in
    record {
      answer = sym full;
      after = table;
      paths = table_paths c.args.head gates xs (table ∙ ap (reaches_table c.args.head gates) long);
    }
