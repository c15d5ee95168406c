-- Ways through the plain case's tests.
use Rattle.std.proofs.Common.{◌≡◌, ℕ, zero, suc, ◌+◌, ◌<◌, ◌≤◌, Bool, true, false, cond, ltb, List, length, get_or, replicate, Some, None, Ok, Err, Option, Result, sym, refl, ◌∙◌, subst, ⊎_elim, arith}
use Rattle.std.proofs.lemmas.Bool.{cond-true, cond-false, cases_Bool, cases_eq}
use Rattle.base.specs.Causes.{Refusal}
use Rattle.clauses.specs.declared.entry.Entry.{Entry}
use Rattle.clauses.specs.Clauses.{Joined, filed}
use Rattle.records.specs.declared.slip.Slip.TheVariants as slip
use Rattle.engine.specs.declared.side.Verdict.{Verdict}
use Rattle.engine.specs.declared.side.Verdict.TheVariants as verdict
use Rattle.engine.specs.Plain.{State, on_ok, on_some, here, judged, is_settled, lowest_open, verdict_slip}
use Rattle.engine.proofs.RowLaws.{err_ok, same_ok}

pub none_some : (k : ℕ) → ◌≡◌ {A = Option ℕ} None (Some k) → ⊥
none_some k e = cc

-- ways through the plain case's tests
pub case_both : {X : Type 0} (P : X → Type 0) (o : Option ℕ) (x : X) (f : ℕ → X) → (o ≡ None → P x) → ((k : ℕ) → o ≡ Some k → P (f k)) → P (on_some o x f)
case_both P None x f p q = p refl
case_both P (Some k) x f p q = q k refl

module _ {X Y : Type 0} (P : Result Y Refusal → Type 0) (errs : (e : Refusal) → P (Err e)) where
  pub ok_both : (x : Result X Refusal) (f : X → Result Y Refusal) → ((v : X) → x ≡ Ok v → P (f v)) → P (on_ok x f)
  ok_both (Ok v) f h = h v refl
  ok_both (Err e) f h = errs e

  pub judged_both : (s : State) (x : Result X ℕ) (f : X → Result Y Refusal) → ((v : X) → x ≡ Ok v → P (f v)) → P (on_ok (judged s x) f)
  judged_both s (Ok v) f h = h v refl
  judged_both s (Err c) f h = errs (here s c)

-- a clause that is filed did not clash
filed_by : (b t : Bool) (c d : List Entry) → ◌≡◌ {A = Result (List Entry) ℕ} (cond b (Err 19) (cond t (Err 20) (Ok c))) (Ok d) → (b ≡ false) × (c ≡ d)
filed_by true t c d e = absurd (err_ok d 19 e)
filed_by false true c d e = absurd (err_ok d 20 e)
filed_by false false c d e = (refl, same_ok c d e)

pub filed_parts : (j : Joined Entry) (d : List Entry) → filed j ≡ Ok d → (j.clash ≡ false) × (j.clause ≡ d)
filed_parts j d e = filed_by j.clash (ltb 1024 (length j.clause)) j.clause d e

pub none_settled : (n i : ℕ) → get_or (replicate n false) i false ≡ false
none_settled zero i = refl
none_settled (suc n) zero = refl
none_settled (suc n) (suc i) = none_settled n i

-- where no goal from g on is the lowest open one, all are settled
pub lowest_all : (st : State) (n g : ℕ) → lowest_open st g n ≡ None → (k : ℕ) → g ≤ k → k < g + n → is_settled st k ≡ true
lowest_all st zero g e k l h = absurd (omega arith)
lowest_all st (suc n) g e k l h =
    ⊎_elim
    (λ t.
    ⊎_elim
    (λ same. subst (λ (i : ℕ). is_settled st i ≡ true) (sym same) t)
    (λ other. lowest_all st n (g + 1) (sym (cond-true _ _ _ t) ∙ e) k (let o : k ≡ g → ⊥ = other in omega arith) (omega arith))
    (cases_eq k g))
    (λ f. absurd (none_some g (sym e ∙ cond-false _ _ _ f)))
    (cases_Bool (is_settled st g))

pub unproved_never : (v : Verdict) (n k g m c : ℕ) → slip.Unproved n k g ≡ verdict_slip v m c → ⊥
unproved_never verdict.True n k g m c e = cc
unproved_never verdict.False n k g m c e = cc
