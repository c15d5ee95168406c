use Rattle.std.proofs.Common.{None, refl, ap}
use Rattle.engine.proofs.examiner.Examiner.new.Goals as goal

pub returns : goal.returns
returns g c =
    record {
      rules = refl;
      state = ap (λ l. record { case = None; list = g.F.Shelf.list c.args.shelf; settled = l }) (c.in_ok-settled.ensures.items_if_clones_equal (λ y e. e));
      side = refl;
    }
