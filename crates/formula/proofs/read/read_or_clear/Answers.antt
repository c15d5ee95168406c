use Rattle.std.proofs.Common.{◌≡◌, ℕ, true, length, replicate, Ok, Err, Result, refl, sym, ◌∙◌, rules}
use Rattle.std.specs.Result.{is_err}
use Rattle.base.specs.declared.faults.Fault.{Fault}
use Rattle.base.specs.Causes.{Refusal, answered}
use Rattle.formula.specs.declared.tables.Head.{Head}
use Rattle.formula.specs.Groups.{no_variable}
use Rattle.formula.specs.Reading.{Formula, Tables, Agrees, head_read, place_read, no_span, no_literal}
use Rattle.formula.proofs.read.read_or_clear.Goals as goal

-- what a refusal leaves in tables that are cleared
refused_agrees : (f : Result Formula Refusal) (r : Result Head Fault) (was is : Tables) (p : ℕ) → is_err r ≡ true → answered r ≡ head_read f → is.variables ≡ replicate (length was.variables) no_variable → is.clauses ≡ replicate (length was.clauses) no_span → is.literals ≡ replicate (length was.literals) no_literal → Agrees f r was is p (place_read f p)
refused_agrees (Err e) r was is p t h v c l = record { head = h; variables = v; clauses = c; literals = l; place = refl }
refused_agrees (Ok x) (Ok y) was is p t h v c l = absurd (cc)
refused_agrees (Ok x) (Err e) was is p t h v c l = absurd (cc)

pub returns-then-is_err-clause-read : goal.returns-then-is_err-clause-read
returns-then-is_err-clause-read c =
    refused_agrees _ c.read_into-read.result _ _ c.args.place.now.at (sym c.is_err.ensures.value ∙ c.if-is_err.true) (search rules) (search rules) (search rules) (search rules)
