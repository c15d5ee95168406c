use Rattle.std.proofs.Common.{refl}
use Rattle.linked.proofs.MoveLaws.{put_once, returned_one}
use Rattle.linked.proofs.pool.Pool.give_back.Goals as goal

pub invariant_of-self-clause-once : goal.invariant_of-self-clause-once
invariant_of-self-clause-once c =
    let p = c.args.self.now in
    put_once p.blocks.items p.blocks.len p.free p.spare c.args.place _ c.requires.below p.blocks.ok.0 c.requires.apart refl p.once

pub returns-clause-returned : goal.returns-clause-returned
returns-clause-returned c =
    let p = c.args.self.now in
    returned_one p _ c.args.place _ c.requires.below c.requires.apart p.blocks.ok.0 refl refl refl refl refl refl
