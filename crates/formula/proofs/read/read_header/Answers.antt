use Rattle.std.proofs.Common.{length, rules}
use Rattle.words.specs.Words.{words_from}
use Rattle.formula.proofs.HeaderLaws.{variable_count, clause_count}
use Rattle.formula.proofs.read.read_header.Goals as goal

pub returns-in_err-variables-clause-is : goal.returns-in_err-variables-clause-is
returns-in_err-variables-clause-is c =
    let v = variable_count c.args.variable_room (words_from c.args.text.now c.read_name-2.new.place.at) (length c.args.text.now) in
    search rules

pub returns-in_err-clauses-clause-is : goal.returns-in_err-clauses-clause-is
returns-in_err-clauses-clause-is c =
    let v = variable_count c.args.variable_room (words_from c.args.text.now c.read_name-2.new.place.at) (length c.args.text.now) in
    let n = clause_count c.args.clause_room (words_from c.args.text.now c.read_count.new.place.at) (length c.args.text.now) in
    search rules
