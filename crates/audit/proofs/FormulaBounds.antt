-- The dependency words of lawful records fit 64 bits.
use Rattle.std.proofs.Common.{◌≡◌, ◌+◌, ◌-◌, ◌^◌, ◌<◌, ◌≤◌, true, ◌&&◌, eqb, List, get_or, drop, sym, ap, ◌∙◌, subst, ⊎_elim, arith}
use Rattle.std.specs.List.{AllByRecursion}
use Rattle.std.proofs.ByRecursion.{All-get_or, All-from_get_or}
use Rattle.std.proofs.lemmas.List.{get_or-drop, length-drop}
use Rattle.std.proofs.lemmas.Bool.{and_parts, cases_lt}
use Rattle.base.specs.Words.{empty_word, first_word, within_word}
use Rattle.base.proofs.WordLaws.{within_bound}
use Rattle.formula.specs.declared.tables.Head.{Head}
use Rattle.formula.specs.declared.tables.Kind.{Kind}
use Rattle.formula.specs.declared.tables.Kind.TheVariants as kind
use Rattle.formula.specs.declared.tables.Variable.{Variable}
use Rattle.formula.specs.Groups.{no_variable, is_undeclared}
use Rattle.audit.specs.FormulaAudit.{undeclared}
use Rattle.audit.proofs.FormulaOwners.{PlainBy}
use Rattle.audit.proofs.FormulaVariables.{each_passes, Variables}

plain_bound : (κ : Kind) (h : Head) (x : Variable) → PlainBy κ h x → x.dependencies.bits < 2 ^ 64
plain_bound kind.Undeclared h x p = within_bound x.dependencies empty_word p.1
plain_bound kind.Universal h x p = within_bound x.dependencies empty_word p
plain_bound kind.Existential h x p = within_bound x.dependencies (first_word h.universals) p

undeclared_bound : (x : Variable) → undeclared x ≡ true → x.dependencies.bits < 2 ^ 64
undeclared_bound x e =
    within_bound x.dependencies empty_word (and_parts (is_undeclared x.kind && eqb x.position 0) (within_word x.dependencies empty_word) e).1

pub variables_bound : (h : Head) (vs : List Variable) → Variables h vs → AllByRecursion (λ x. x.dependencies.bits < 2 ^ 64) vs
variables_bound h vs a =
    let known = h.variables in
    All-from_get_or (λ x. x.dependencies.bits < 2 ^ 64) vs no_variable
    (λ i l.
    let x = get_or vs i no_variable in
    ⊎_elim
    (λ (below : i < known).
    let shift : i + 1 - 1 ≡ i = omega arith in
    let at : get_or vs (i + 1 - 1) no_variable ≡ x = ap (λ j. get_or vs j no_variable) shift in
    subst (λ (y : Variable). y.dependencies.bits < 2 ^ 64) at (plain_bound (get_or vs (i + 1 - 1) no_variable).kind h (get_or vs (i + 1 - 1) no_variable) (a.plain (i + 1) (omega arith) (omega arith))))
    (λ (above : known ≤ i).
    let shift : known + (i - known) ≡ i = omega arith in
    let at : get_or (drop known vs) (i - known) no_variable ≡ x = get_or-drop known vs (i - known) no_variable ∙ ap (λ j. get_or vs j no_variable) shift in
    let all = (each_passes undeclared (drop known vs)).0 a.rest in
    undeclared_bound x (ap undeclared (sym at) ∙ All-get_or (λ y. undeclared y ≡ true) (drop known vs) (i - known) no_variable (simp length-drop (omega arith)) all))
    (cases_lt i known))
