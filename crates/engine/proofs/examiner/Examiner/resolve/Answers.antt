use Rattle.std.proofs.Common.{◌≤◌, List, length, sym, ◌∙◌, rules, arith}
use Rattle.clauses.specs.declared.entry.Entry.{Entry}
use Rattle.engine.specs.Shelves.{clause_at}
use Rattle.engine.specs.Means.{state_of}
use Rattle.engine.specs.Plain.{State}
use Rattle.engine.proofs.RowLaws.{copied, part_is, told_row, resolved_is, numbered_short}
use Rattle.engine.proofs.examiner.Examiner.resolve.Goals as goal

pub returns : goal.returns
returns g c =
    let s : State = state_of g.S.Side g.F.Shelf c.args.self.now in
    let one : List Entry = clause_at s.list c.args.first in
    let two : List Entry = clause_at s.list c.args.second in
    let short-one : length one ≤ 1024 = numbered_short s c.args.first (sym c.if-not-is_numbered.ensures) in
    let short-two : length two ≤ 1024 = numbered_short s c.args.second (sym c.if-not-is_numbered-2.ensures) in
    let copy-one = copied one c.deref_mut.result.now c.copy-a.new.row c.copy-a.result short-one (omega arith) c.copy-a.ensures.answer c.copy-a.ensures.after in
    let copy-two = copied two c.deref_mut-2.result.now c.copy-b.new.row c.copy-b.result short-two (omega arith) c.copy-b.ensures.answer c.copy-b.ensures.after in
    let part-one = part_is c.args.self.now.first c.deref.result.now c.copy-a.new.row one c.copy-a.result c.deref.ensures.value (omega arith) copy-one in
    let part-two = part_is c.args.self.now.second c.deref-2.result.now c.copy-b.new.row two c.copy-b.result c.deref-2.ensures.value (omega arith) copy-two in
    let made = resolved_is _ _ one two c.from.result c.args.position c.resolve-resolved.result c.deref_mut-3.result.now c.resolve-resolved.new.row c.resolve-resolved.ensures part-one part-two c.from.ensures (omega arith) in
    let told = told_row c.args.self.now.row c.resolve-resolved.result c.resolve-resolved.new.row (omega arith) ∙ made in
    search rules
