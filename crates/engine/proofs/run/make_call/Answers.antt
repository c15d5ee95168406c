use Rattle.std.proofs.Common.{◌≡◌, rules}
use Rattle.std.specs.Result.{MatchResult}
use Rattle.std.proofs.lemmas.Result.{MatchResult-weaker}
use Rattle.engine.specs.declared.run.Answer.TheVariants as answer
use Rattle.engine.proofs.RunLaws.{takes_told}
use Rattle.engine.proofs.run.make_call.Goals as goal

pub returns-in-Take-clause-calls : goal.returns-in-Take-clause-calls
returns-in-Take-clause-calls g c =
    let told : MatchResult c.take-taken.result.0 (λ n. c.map_or_else-in-Take.result ≡ answer.Took n c.take-taken.result.1) (λ f. c.map_or_else-in-Take.result ≡ answer.Refused f) =
    MatchResult-weaker c.take-taken.result.0 {P' = λ n. c.map_or_else-in-Take.result ≡ answer.Took n c.take-taken.result.1} {Q' = λ f. c.map_or_else-in-Take.result ≡ answer.Refused f} c.map_or_else-in-Take.ensures (λ n h. search rules) (λ f h. search rules) in
    takes_told g.S.Side g.F.Shelf c.args.examiner.now c.take-taken.new.self c.args.call c.in-Take.bytes c.in-Take.is c.take-taken.result.0 c.take-taken.result.1 c.map_or_else-in-Take.result told c.take-taken.ensures
