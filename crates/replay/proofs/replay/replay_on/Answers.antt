use Rattle.replay.proofs.ReplayLaws.{replays}
use Rattle.replay.proofs.replay.replay_on.Goals as goal

pub returns : goal.returns
returns g c =
    let first = c.«open».new.self in
    let last = c.take_all-taken.new.examiner in
    replays g.S.Side g.F.Shelf c.args.case c.args.proof.now c.in_ok-ticket.ticket _ c.args.examiner.now first last
    (record {
      opening = c.in_ok-ticket.ensures;
      taking = c.take_all-taken.ensures;
      clauses = cc (c.count-clauses.ensures, c.shelf.ensures);
      entries = cc (c.entries_on-entries.ensures, c.shelf-2.ensures);
      settled = c.settled_count-settled.ensures;
      goals = cc (c.goal_count-goals.ensures, c.side.ensures);
      slip = c.close-slip.ensures.plain.answer;
      sound = c.close-slip.ensures.sound;
    })
