-- A case: what the replay answers makes the outcome, and what a verdict in it means.
use Rattle.std.proofs.Common.{ℕ, List, get_or, sym, ap, ◌∙◌}
use Rattle.engine.specs.declared.side.Side.{Ghosts as SideGhosts}
use Rattle.engine.specs.Verdicts.{Concluded}
use Rattle.records.specs.Slips.{case_of, clauses_of}
use Rattle.tasks.specs.declared.outcome.Outcome.{Outcome}
use Rattle.tasks.specs.declared.outcome.Outcome.TheVariants as outcome
use Rattle.tasks.specs.Cases.{CaseHolds}
use Rattle.tasks.specs.Outcomes.{told_outcome}
use Rattle.tasks.specs.Verdicts.{Gives}
use Rattle.tasks.proofs.SlipLaws.{verdict_byte, verdict_given}

-- where an outcome has the byte of the side's verdict, it is proved
pub case_proved : {S : Type 0} (side : SideGhosts S) (s : S) (o : Outcome) → CaseHolds side s o → Gives (told_outcome o) (verdict_byte (side.says s)) → Concluded side s
case_proved side s (outcome.FormulaRefused f) h e = absurd e
case_proved side s (outcome.CircuitRefused k f) h e = absurd e
case_proved side s (outcome.OpeningRefused hs f) h e = absurd e
case_proved side s (outcome.Closed hs p slip) h e =
    h.1 (case_of p.slip) (clauses_of p.slip) (verdict_given (side.says s) p.slip (ap (λ (x : List ℕ). get_or x 3 0) (sym h.0) ∙ e))
