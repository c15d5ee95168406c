use Rattle.std.proofs.Common.{◌≡◌, ◌<◌, length, get_or, sym, ap, ◌∙◌, arith}
use Rattle.shelves.proofs.Pieces.{clause_piece, clause_none, piece_low, piece_high}
use Rattle.shelves.proofs.flat.FlatShelf.clause.Goals as goal

pub returns-in_default-get-clause-is : goal.returns-in_default-get-clause-is
returns-in_default-get-clause-is c =
    let was = c.args.self.now in
    let past = c.in_default-get.ensures.lookup.3 in
    sym (clause_none was.ends.items was.entries.items c.args.number c.in-Some.index (omega arith) (omega arith))

pub offset_bounds-as_slice-start : goal.offset_bounds-as_slice-start
offset_bounds-as_slice-start c =
    let was = c.args.self.now in
    let here : c.in-Some.index < length was.ends.items = omega (arith, c.in-Some-get.ensures.lookup.3.0) in
    let low = piece_low 0 was.ends.items was.entries.len c.in-Some.index was.rise here in
    let high = piece_high 0 was.ends.items was.entries.len c.in-Some.index was.rise here in
    omega arith

pub slice_bounds-result-count : goal.slice_bounds-result-count
slice_bounds-result-count c =
    let was = c.args.self.now in
    let here : c.in-Some.index < length was.ends.items = omega (arith, c.in-Some-get.ensures.lookup.3.0) in
    let at : c.in-Some-get.end.now ≡ get_or was.ends.items c.in-Some.index 0 = c.in-Some-get.ensures.lookup.3.1 0 ∙ ap (λ l. get_or l c.in-Some.index 0) c.deref.ensures.value in
    let low = piece_low 0 was.ends.items was.entries.len c.in-Some.index was.rise here in
    omega arith

pub slice_bounds-result-start : goal.slice_bounds-result-start
slice_bounds-result-start c =
    let was = c.args.self.now in
    let here : c.in-Some.index < length was.ends.items = omega (arith, c.in-Some-get.ensures.lookup.3.0) in
    let at : c.in-Some-get.end.now ≡ get_or was.ends.items c.in-Some.index 0 = c.in-Some-get.ensures.lookup.3.1 0 ∙ ap (λ l. get_or l c.in-Some.index 0) c.deref.ensures.value in
    let low = piece_low 0 was.ends.items was.entries.len c.in-Some.index was.rise here in
    omega arith

pub slice_bounds-result-end-2 : goal.slice_bounds-result-end-2
slice_bounds-result-end-2 c =
    let was = c.args.self.now in
    let here : c.in-Some.index < length was.ends.items = omega (arith, c.in-Some-get.ensures.lookup.3.0) in
    let at : c.in-Some-get.end.now ≡ get_or was.ends.items c.in-Some.index 0 = c.in-Some-get.ensures.lookup.3.1 0 ∙ ap (λ l. get_or l c.in-Some.index 0) c.deref.ensures.value in
    let high = piece_high 0 was.ends.items was.entries.len c.in-Some.index was.rise here in
    omega arith

pub returns-clause-is : goal.returns-clause-is
returns-clause-is c =
    let was = c.args.self.now in
    let here : c.in-Some.index < length was.ends.items = omega (arith, c.in-Some-get.ensures.lookup.3.0) in
    let at : c.in-Some-get.end.now ≡ get_or was.ends.items c.in-Some.index 0 = c.in-Some-get.ensures.lookup.3.1 0 ∙ ap (λ l. get_or l c.in-Some.index 0) c.deref.ensures.value in
    let is = clause_piece was.ends.items was.entries.items c.args.number c.in-Some.index (omega arith) here in
    cc
