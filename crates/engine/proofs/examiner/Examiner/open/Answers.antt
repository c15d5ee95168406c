use Rattle.std.proofs.Common.{◌≡◌, ℕ, true, false, [], replicate, Some, None, Ok, Option, vec_items, rules, sym, refl, ap, ◌∙◌}
use Rattle.std.proofs.lemmas.Bool.{true≢false}
use Rattle.engine.specs.Means.{rules_of, state_of}
use Rattle.engine.specs.Plain.{Rules, State, opened, on_some, on_ok, is_open}
use Rattle.engine.proofs.examiner.Examiner.open.Goals as goal

shut_when : {X : Type 0} (o : Option ℕ) (x y : X) → on_some o false (λ _. true) ≡ false → on_some o x (λ _. y) ≡ x
shut_when None x y e = refl
shut_when (Some n) x y e = absurd (true≢false e)

opened_is : (r : Rules) (s : State) (n : ℕ) → is_open s ≡ false → (u : Unit {0}) → Ok u ≡ r.opening → opened r s n ≡ Ok (record { case = Some n; list = []; settled = replicate 16384 false })
opened_is r s n o u e =
    shut_when s.case _ _ o
    ∙ ap (λ x. on_ok x (λ (_ : Unit {0}). Ok (record { case = Some n; list = []; settled = replicate 16384 false }))) (sym e)

pub returns : goal.returns
returns g c =
    let filled : vec_items c.fill.new.self ≡ replicate 16384 false = c.fill.ensures.items (λ y e. e) ∙ ap (λ k. replicate k false) c.args.self.now.goals in
    let goes = opened_is (rules_of g.S.Side g.F.Shelf c.args.self.now) (state_of g.S.Side g.F.Shelf c.args.self.now) c.args.number (sym c.if-is_open.ensures) c.in_ok-open.field-0 c.in_ok-open.ensures in
    search rules
