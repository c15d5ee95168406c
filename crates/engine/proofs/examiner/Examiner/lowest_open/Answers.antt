use Rattle.std.proofs.Common.{◌≡◌, ◌+◌, ◌≤◌, length, not, take, position, option_map, rules, ap, ◌∙◌, arith}
use Rattle.engine.specs.Means.{state_of}
use Rattle.engine.specs.Plain.{lowest_open}
use Rattle.engine.proofs.QuestionLaws.{lowest_is}
use Rattle.engine.proofs.examiner.Examiner.lowest_open.Goals as goal

pub returns : goal.returns
returns g c =
    let few : c.goal_count-goals.result ≤ length c.args.self.now.settled.items = omega (arith, g.S.Side.few c.args.self.now.side) in
    let found : c.map.result ≡ option_map (λ at. at + 1) (position not (take c.goal_count-goals.result c.args.self.now.settled.items)) = search rules in
    found ∙ lowest_is (state_of g.S.Side g.F.Shelf c.args.self.now) c.goal_count-goals.result few
    ∙ ap (lowest_open (state_of g.S.Side g.F.Shelf c.args.self.now) 1) c.goal_count-goals.ensures
