use Rattle.std.proofs.Common.{◌≡◌, ℕ, ◌≤◌, List, length, take, Ok, Err, Result, rules, sym, refl, ap, ◌∙◌, arith}
use Rattle.clauses.specs.declared.entry.Entry.{Entry}
use Rattle.clauses.specs.Clauses.{told_clause}
use Rattle.engine.specs.Means.{state_of}
use Rattle.engine.specs.Plain.{State}
use Rattle.engine.proofs.RowLaws.{part_is, told_row, told_ok, told_err, laid_is, kept_is}
use Rattle.engine.proofs.examiner.Examiner.premise.Goals as goal

pub returns-in_err-len : goal.returns-in_err-len
returns-in_err-len g c =
    let s : State = state_of g.S.Side g.F.Shelf c.args.self.now in
    let claimed = laid_is _ c.lay_premise-laid.result c.deref_mut.result.now c.lay_premise-laid.new.row c.lay_premise-laid.ensures (g.S.Side.short c.args.self.now.side c.args.premise) (omega arith) in
    let same : c.from_residual.result ≡ Err c.in_err-len.field-0.0 = search rules in
    let refused = told_err s c.lay_premise-laid.result c.lay_premise-laid.new.row _ c.in_err-len.field-0.0 claimed c.in_err-len.ensures in
    search rules

pub returns : goal.returns
returns g c =
    let s : State = state_of g.S.Side g.F.Shelf c.args.self.now in
    let claim : Result (List Entry) ℕ = g.S.Side.claim c.args.self.now.side c.args.premise in
    let front : List Entry = take c.in_ok-len.len c.lay_premise-laid.new.row in
    let claimed : Ok front ≡ claim =
    ap (λ m. told_clause m c.lay_premise-laid.new.row) (sym (told_ok s c.lay_premise-laid.result c.in_ok-len.len c.in_ok-len.ensures))
    ∙ laid_is claim c.lay_premise-laid.result c.deref_mut.result.now c.lay_premise-laid.new.row c.lay_premise-laid.ensures (g.S.Side.short c.args.self.now.side c.args.premise) (omega arith) in
    let brief : length front ≤ 1024 = g.S.Side.short c.args.self.now.side c.args.premise front (sym claimed) in
    let part = part_is c.args.self.now.first c.deref.result.now c.lay_premise-laid.new.row front c.in_ok-len.len c.deref.ensures.value (omega arith) refl in
    let kept = kept_is _ front c.keep_once-kept.result c.deref_mut-2.result.now c.keep_once-kept.new.row c.keep_once-kept.ensures part (omega arith) in
    let told = told_row c.args.self.now.row c.keep_once-kept.result c.keep_once-kept.new.row (omega arith) ∙ kept in
    search rules
