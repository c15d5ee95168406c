use Rattle.std.proofs.Common.{◌≡◌, ℕ, ◌*◌, min, length, take}
use Rattle.std.specs.Slice.Iter.{chunks_rest, chunks_size}
use Rattle.std.specs.Iterator.Adapters.{rev_source}
use Rattle.linked.specs.Chains.{blocks_for}
use Rattle.linked.proofs.KeepLaws.{Building}
use Rattle.linked.proofs.pool.Pool.keep.Given as goal

abbrev pub invariant-loop-part : goal.invariant-loop-part
invariant-loop-part l =
    let rest = chunks_rest (rev_source l.part-iterator) in
    record {
      size : chunks_size (rev_source l.part-iterator) ≡ 4;
      front : rest ≡ take (length rest) l.clause;
      whole : length rest ≡ min (length l.clause) (4 * blocks_for (length rest));
      built : (made : ℕ) × Building l.initial.self l.self l.clause (blocks_for (length rest)) l.head made;
    }
