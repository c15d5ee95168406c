use Rattle.std.proofs.Common.{◌≡◌, ap, arith}
use Rattle.engine.specs.Shelves.{entries_in}
use Rattle.linked.specs.Chains.{clauses_of}
use Rattle.linked.proofs.ShelfLaws.{last_apart, last_few, last_entries, off_clauses, off_apart, off_whole}
use Rattle.linked.proofs.shelf.LinkedShelfShelf.clear.Goals as goal

pub release-requires : goal.release-requires
release-requires c =
    let was = c.loop-last.self in
    let rows = c.pop.new.self.items in
    record {
      apart = last_apart was.pool was.index.items rows c.in-Some.last c.in-Some.ensures.items was.apart;
      few = last_few was.pool was.index.items rows c.in-Some.last c.in-Some.ensures.items was.apart was.whole;
    }

pub overflow_sub-self : goal.overflow_sub-self
overflow_sub-self c =
    let was = c.loop-last.self in
    let total = last_entries was.pool was.index.items c.pop.new.self.items c.in-Some.last c.in-Some.ensures.items was.apart in
    let sum = was.sum in
    omega arith

pub invariant_of-self : goal.invariant_of-self
invariant_of-self c =
    let was = c.loop-last.self in
    let p = was.pool in
    let q = c.release.new.self in
    let rows = c.pop.new.self.items in
    let r = c.in-Some.last in
    let items = c.in-Some.ensures.items in
    let back = c.release.ensures in
    let total = last_entries p was.index.items rows r items was.apart in
    let sum = was.sum in
    let same : entries_in (clauses_of q.blocks.items rows) ≡ entries_in (clauses_of p.blocks.items rows) = ap entries_in (off_clauses p was.index.items rows r items was.apart q back) in
    let cap = c.in-Some.ensures.capacity in
    let len = c.in-Some.ensures.len in
    let room = back.room in
    let long = back.long in
    record {
      few = omega arith;
      narrow = omega arith;
      clause_room = omega arith;
      entry_room = omega arith;
      clauses_within = omega arith;
      entries_within = omega arith;
      sum = omega arith;
      apart = off_apart p was.index.items rows r items was.apart q back;
      whole = off_whole p was.index.items rows r items was.apart q back was.whole;
    }
