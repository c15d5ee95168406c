-- The records of a lawful prefix are lawful.
use Rattle.std.proofs.Common.{◌≡◌, ℕ, ◌+◌, ◌-◌, ◌<◌, ◌≤◌, Bool, true, false, List, length, get_or, drop, sym, ap, ◌∙◌, subst, ⊎_elim, arith}
use Rattle.std.specs.List.{AllByRecursion}
use Rattle.std.proofs.ByRecursion.{All-get_or, All-from_get_or}
use Rattle.std.proofs.lemmas.List.{length-drop, get_or-drop}
use Rattle.std.proofs.lemmas.Bool.{cases_Bool}
use Rattle.words.specs.Words.{Spelt}
use Rattle.formula.specs.declared.tables.Head.{Head}
use Rattle.formula.specs.declared.tables.Kind.{Kind}
use Rattle.formula.specs.declared.tables.Variable.{Variable}
use Rattle.formula.specs.Groups.{no_variable, variable_at, is_universal, is_existential}
use Rattle.spelling.specs.Dqbf.{Declaration, Dqbf, universals_of, existentials_of, member, record_of}
use Rattle.spelling.specs.FormulaGrammar.{Spells}
use Rattle.spelling.specs.FormulaGrammar.Spells.{spells}
use Rattle.spelling.proofs.PrefixLaws.{LawfulPrefix, Stands, variables_of, record_none, universal_place, place_universal}
use Rattle.audit.specs.FormulaAudit.{undeclared}
use Rattle.audit.proofs.FormulaOwners.{Plain}
use Rattle.audit.proofs.FormulaVariables.{each_passes, Listed, Variables}
use Rattle.audit.proofs.FormulaPlaces.{existential_place, place_existential, universals_all, existentials_all, declared_all, Within, groups_within, nothing_inside, record_plain}

-- a formula that is spelt depends only on its universals
pub spells_within : {ws rest : List Spelt} {f : Dqbf} → Spells ws f rest → AllByRecursion (Within (length (universals_of f.prefix))) f.prefix
spells_within (spells is_p is_cnf is_v is_c gs stops text) = groups_within gs tt

module _ (h : Head) (vs : List Variable) (ds : List Declaration) (fits : h.variables ≤ length vs) (lawful : LawfulPrefix h.variables ds) (records : (v : ℕ) → 1 ≤ v → v ≤ length vs → variable_at vs v ≡ record_of ds v) where
  abbrev known : ℕ
  known = h.variables

  abbrev Range : ℕ → Type 0
  Range v = (1 ≤ v) × (v ≤ known)

  kind_listed : (of : Kind → Bool) (us : List ℕ) → AllByRecursion Range us → ((w : ℕ) → of (record_of ds w).kind ≡ true → Stands us w (record_of ds w).position) → ((w k : ℕ) → Stands us w k → (of (record_of ds w).kind ≡ true) × ((record_of ds w).position ≡ k)) → Listed of (variable_at vs) known us
  kind_listed of us range place back =
      record {
        each_is = λ k l.
            let w = get_or us k 0 in
            let (low, high) = All-get_or Range us k 0 l range in
            let same : k + 1 - 1 ≡ k = omega arith in
            let (is, at) = back w (k + 1) (omega arith, omega arith, ap (λ i. get_or us i 0) same) in
            let e = records w low (omega arith) in
            (low, omega arith, ap (λ (x : Variable). of x.kind) e ∙ is, ap (λ (x : Variable). x.position) e ∙ at);
        all_in = λ w low high is.
            let e = records w low (omega arith) in
            subst (λ (x : Variable). Stands us w x.position) (sym e) (place w (ap (λ (x : Variable). of x.kind) (sym e) ∙ is));
      }

  not_beyond : (v : ℕ) → known < v → member v (variables_of ds) ≡ false
  not_beyond v over = ⊎_elim (λ m. absurd (let r = declared_all Range ds v lawful.in_range m in omega arith)) (λ m. m) (cases_Bool (member v (variables_of ds)))

  none_undeclared : undeclared no_variable ≡ true
  none_undeclared = nothing_inside

  beyond : (i : ℕ) → i < length (drop known vs) → undeclared (get_or (drop known vs) i no_variable) ≡ true
  beyond i l =
      let v = known + i + 1 in
      let shift : known + i ≡ v - 1 = omega arith in
      let inside : v ≤ length vs = omega (arith, length-drop known vs) in
      ap undeclared (get_or-drop known vs i no_variable ∙ ap (λ j. get_or vs j no_variable) shift ∙ records v (omega arith) inside ∙ record_none v 0 0 ds (not_beyond v (omega arith)))
      ∙ none_undeclared

  pub prefix_variables_held : h.universals ≡ length (universals_of ds) → h.existentials ≡ length (existentials_of ds) → AllByRecursion (Within (length (universals_of ds))) ds → Variables h vs
  prefix_variables_held nu ne within =
      record {
        universals = universals_of ds;
        existentials = existentials_of ds;
        universals_count = sym nu;
        existentials_count = sym ne;
        universals_listed = kind_listed is_universal (universals_of ds) (universals_all Range ds lawful.in_range) (universal_place ds) (λ w k s. place_universal ds w k lawful.once s);
        existentials_listed = kind_listed is_existential (existentials_of ds) (existentials_all Range ds lawful.in_range) (existential_place ds) (λ w k s. place_existential ds w k lawful.once s);
        plain = λ w low high.
            subst (Plain h) (sym (records w low (omega arith)))
            (record_plain h w 0 0 ds (omega (arith, lawful.few_universals)) (subst (λ (n : ℕ). AllByRecursion (Within n) ds) (sym nu) within));
        rest = (each_passes undeclared (drop known vs)).1 (All-from_get_or (λ x. undeclared x ≡ true) (drop known vs) no_variable beyond);
      }
