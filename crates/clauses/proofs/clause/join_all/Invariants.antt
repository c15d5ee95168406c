use Rattle.std.proofs.Common.{◌≡◌, false, ◌+◌, ◌≤◌, take, drop}
use Rattle.clauses.specs.Clauses.{joined, join}
use Rattle.clauses.proofs.clause.join_all.Given as goal

-- what is left, joined to the front, gives the same; behind the front the row is as it was
abbrev pub invariant-loop-y : goal.invariant-loop-y
invariant-loop-y g l =
    record {
      same :
          join g.L.Alike.like g.L.Literal.opposite l.except (joined (take l.len l.row) l.clash) (drop l.y-index l.more)
          ≡ join g.L.Alike.like g.L.Literal.opposite l.except (joined (take l.start l.initial.row) false) l.more;
      behind : drop l.len l.row ≡ drop l.len l.initial.row;
      least : l.start ≤ l.len;
      most : l.len ≤ l.start + l.y-index;
    }
