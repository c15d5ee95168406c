use Rattle.std.proofs.Common.{ap, arith}
use Rattle.std.proofs.lemmas.List.{length-map}
use Rattle.std.proofs.lemmas.Bool.Decides.{nat_tests}
use Rattle.engine.specs.Shelves.{entries_in}
use Rattle.linked.specs.Chains.{clause_of, clauses_of}
use Rattle.linked.proofs.IndexLaws.{blocks_few, entries_push}
use Rattle.linked.proofs.ShelfLaws.{filed_clauses, filed_apart, filed_whole}
use Rattle.linked.proofs.shelf.LinkedShelfShelf.file.Goals as goal

pub keep-kept-requires-clause-room : goal.keep-kept-requires-clause-room
keep-kept-requires-clause-room c =
    let was = c.args.self.now in
    let few = blocks_few was.pool.blocks.items was.index.items in
    let low = few.0 in
    let most = few.1 in
    let sum = was.sum in
    let whole = was.whole in
    omega arith

pub invariant_of-self : goal.invariant_of-self
invariant_of-self c =
    let was = c.args.self.now in
    let p = was.pool in
    let q = c.keep-kept.new.self in
    let cs = c.args.clause.now in
    let r = c.keep-kept.result in
    let rows = was.index.items in
    let all = c.push_reserved.new.self.items in
    let items = c.push_reserved.ensures.items in
    let taken = c.keep-kept.ensures.taken in
    let is = c.keep-kept.ensures.is in
    let total = ap entries_in (filed_clauses p rows was.apart q cs r all items taken is) in
    let more = entries_push (clauses_of p.blocks.items rows) cs in
    let sum = was.sum in
    let cap = taken.room in
    record {
      few = omega arith;
      narrow = omega arith;
      clause_room = omega arith;
      entry_room = omega arith;
      clauses_within = omega arith;
      entries_within = omega arith;
      sum = omega arith;
      apart = filed_apart p rows was.apart q cs r all items taken is;
      whole = filed_whole p rows was.apart q cs r all items taken is was.whole;
    }

pub returns : goal.returns
returns c =
    let was = c.args.self.now in
    let rows = was.index.items in
    let long = length-map rows (clause_of was.pool.blocks.items) in
    let sum = was.sum in
    let list = filed_clauses was.pool rows was.apart c.keep-kept.new.self c.args.clause.now c.keep-kept.result c.push_reserved.new.self.items c.push_reserved.ensures.items c.keep-kept.ensures.taken c.keep-kept.ensures.is in
    grind (arith, nat_tests)
