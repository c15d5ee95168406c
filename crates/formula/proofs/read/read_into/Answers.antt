-- The parts of a formula are read over the fronts of their tables.
use Rattle.std.proofs.Common.{◌≡◌, length, arith, rules}
use Rattle.words.specs.Words.{words_from}
use Rattle.words.proofs.TableLaws.{padded_is}
use Rattle.formula.specs.Reading.{no_span, no_literal}
use Rattle.formula.proofs.FrontLaws.{padded_front, groups_of_front, clauses_of_front}
use Rattle.formula.proofs.read.read_into.Goals as goal

pub returns-in_err-declared-clause-is : goal.returns-in_err-declared-clause-is
returns-in_err-declared-clause-is c =
    let vs = c.args.vars.now in
    let n = c.in_ok-variables.variables in
    let fits = c.in_ok-variables.ensures.variables_fit in
    let groups = groups_of_front n vs c.args.text.now c.read_header.new.place.at fits in
    search rules

pub returns-in_err-read_clauses-clause-is : goal.returns-in_err-read_clauses-clause-is
returns-in_err-read_clauses-clause-is c =
    let vs = c.args.vars.now in
    let n = c.in_ok-variables.variables in
    let fits = c.in_ok-variables.ensures.variables_fit in
    let groups = groups_of_front n vs c.args.text.now c.read_header.new.place.at fits in
    let cs = c.args.clauses.now in
    let count = c.in_ok-variables.count in
    let clauses-fit = c.in_ok-variables.ensures.clauses_fit in
    let at = c.read_groups.new.place.at in
    let clauses = clauses_of_front n count vs c.read_groups.new.vars cs (words_from c.args.text.now at) at (length c.args.literals.now) (length c.args.text.now) fits clauses-fit c.read_groups.auto.vars in
    search rules

pub returns : goal.returns
returns c =
    let vs = c.args.vars.now in
    let n = c.in_ok-variables.variables in
    let fits = c.in_ok-variables.ensures.variables_fit in
    let groups = groups_of_front n vs c.args.text.now c.read_header.new.place.at fits in
    let cs = c.args.clauses.now in
    let count = c.in_ok-variables.count in
    let clauses-fit = c.in_ok-variables.ensures.clauses_fit in
    let at = c.read_groups.new.place.at in
    let clauses = clauses_of_front n count vs c.read_groups.new.vars cs (words_from c.args.text.now at) at (length c.args.literals.now) (length c.args.text.now) fits clauses-fit c.read_groups.auto.vars in
    let ls = c.args.literals.now in
    let spans = padded_front no_span count c.read_clauses.new.clauses cs c.requires.no_clauses clauses-fit c.read_clauses.auto.clauses in
    let long : length c.read_clauses.new.literals ≡ length ls = omega arith in
    let literals = padded_is no_literal c.in_ok-read_clauses.field-0 (length ls) c.read_clauses.new.literals ls c.requires.no_literals c.in_ok-read_clauses.ensures.room long c.in_ok-read_clauses.ensures.kept in
    search rules
