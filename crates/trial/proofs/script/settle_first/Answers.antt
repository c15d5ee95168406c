use Rattle.std.proofs.Common.{◌≡◌, ℕ, Bool, true, false, replicate, Ok, Result, ap, ◌∙◌, arith}
use Rattle.std.proofs.lemmas.List.{get_or-replicate, get_or-set_same, length-replicate}
use Rattle.base.specs.Causes.{Refusal}
use Rattle.engine.specs.Means.{rules_of, state_of, opened_state, opened_number, after}
use Rattle.engine.specs.Plain.{start, opened, premise_step, settle_step, close_slip}
use Rattle.records.specs.declared.step.Premise.TheVariants as premise
use Rattle.trial.proofs.ScriptLaws as laws
use Rattle.trial.specs.contracts.TrialSideSide.TheImpl.{ghosts}
use Rattle.trial.proofs.script.settle_first.Goals as goal

ok_of : (a b : ℕ) → ◌≡◌ {A = Result ℕ Refusal} (Ok a) (Ok b) → a ≡ b
ok_of a b e = cc

pub returns : goal.returns
returns g c =
    let side = ghosts in
    let shelf = g.F.Shelf in
    let K = shelf.K c.args.shelf in
    let W = shelf.W c.args.shelf in
    let list = shelf.list c.args.shelf in
    let made = c.in_ok-examiner.ensures in
    let none = get_or-replicate 16384 0 false false (omega arith) in
    let one = get_or-set_same (replicate 16384 false) 0 true false (omega (arith, length-replicate {A = Bool})) in
    let R = laws.R side shelf K W c.args.case (replicate 16384 false) none one in
    let e₀ = c.in_ok-examiner.examiner in
    let rules₁ : rules_of side shelf c.open.new.self ≡ R = c.open.ensures.kept.rules_same ∙ made.rules in
    let rules₂ : rules_of side shelf c.premise.new.self ≡ R = c.premise.ensures.kept.rules_same ∙ rules₁ in
    let rules₃ : rules_of side shelf c.settle.new.self ≡ R = c.settle.ensures.kept.rules_same ∙ rules₂ in
    let t₁ = state_of side shelf c.open.new.self in
    let t₂ = state_of side shelf c.premise.new.self in
    let t₃ = state_of side shelf c.settle.new.self in
    let opens : t₁ ≡ opened_state side shelf (start list) (opened R (start list) c.args.case) =
    c.open.ensures.state ∙ ap (λ s. opened_state side shelf s (opened (rules_of side shelf e₀) s c.args.case)) made.state
    ∙ ap (λ r. opened_state side shelf (start list) (opened r (start list) c.args.case)) made.rules in
    let files : t₂ ≡ after side shelf t₁ (premise_step R t₁ (premise.Truth 0 1 0)) =
    c.premise.ensures.state ∙ ap (λ r. after side shelf t₁ (premise_step r t₁ (premise.Truth 0 1 0))) rules₁ in
    let settles : t₃ ≡ after side shelf t₂ (settle_step R t₂ 1 1) =
    c.settle.ensures.state ∙ ap (λ r. after side shelf t₂ (settle_step r t₂ 1 1)) rules₂ in
    let answers : ◌≡◌ {A = Result ℕ Refusal} (Ok c.in-Ok.ticket.number) (Ok c.args.case) =
    c.in-Ok.ensures.answer ∙ ap (λ s. opened_number side shelf (opened (rules_of side shelf e₀) s c.args.case) c.args.case) made.state
    ∙ ap (λ r. opened_number side shelf (opened r (start list) c.args.case) c.args.case) made.rules in
    laws.ends side shelf K W c.args.case (replicate 16384 false) none one t₁ t₂ t₃ c.close.result c.in-Ok.ticket.number opens files settles
    (ok_of c.in-Ok.ticket.number c.args.case answers)
    (c.close.ensures.plain.answer ∙ ap (λ r. close_slip r t₃ c.in-Ok.ticket.number) rules₃)
