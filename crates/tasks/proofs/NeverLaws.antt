-- One formula text is never given both a True and a False.
use Rattle.std.proofs.Common.{◌≡◌, ℕ, List, [], ◌∷◌, length, Some, None, Ok, Err, Result, sym, refl, ap, ◌∙◌}
use Rattle.base.specs.Causes.{Refusal}
use Rattle.engine.specs.Plain.{Rules, State, start, on_ok, opened, close_slip}
use Rattle.engine.specs.Runs.{opens, opened_state, run}
use Rattle.models.specs.HeldTables.{RowsOfFormula, RowsOfCircuit}
use Rattle.records.specs.Slips.{case_of, clauses_of, slip_bytes}
use Rattle.replay.specs.Replay.{on_result, take_all, told_of}
use Rattle.replay.proofs.TurnLaws.{turns_run}
use Rattle.sides.specs.Agreement as sides
use Rattle.sides.specs.Agreement.{Gave}
use Rattle.sides.specs.SideRules.{truth_rules, falsity_rules}
use Rattle.sides.proofs.AgreementLaws.{never_both}
use Rattle.texts.specs.TextRows.{formula_in, circuit_in}
use Rattle.tasks.specs.declared.outcome.Heads.{Heads}
use Rattle.tasks.specs.Outcomes.{closed, opening_refused, heads, case_ending}
use Rattle.tasks.specs.Verdicts.{Gives, NeverBoth}
use Rattle.tasks.proofs.FalsityLaws.{falsity_by}
use Rattle.tasks.proofs.TruthLaws.{truth_by}
use Rattle.tasks.proofs.SlipLaws.{verdict_byte, verdict_given}

module _ (hs : Heads) (r : Rules) (case : ℕ) (proof : List ℕ) where
  -- by what the opening answers
  gave_by : (o : Result State Refusal) → opened r (start []) case ≡ o → Gives (on_result (on_ok o (λ t. Ok (told_of r case (take_all r t proof)))) (λ p. closed hs p (slip_bytes p.slip)) (λ e. opening_refused hs e)) (verdict_byte r.says) → Gave r
  gave_by (Ok t) e h =
      let took = turns_run (length proof) r t 0 0 proof in
      let slip = close_slip r (take_all r t proof).state case in
      let reached : run r (start []) (opens case ∷ took.0) ≡ (take_all r t proof).state = ap (λ (s : State). run r s took.0) (ap (opened_state (start [])) e) ∙ sym took.1 in
      record {
        list = [];
        calls = opens case ∷ took.0;
        ticket = case;
        case = case_of slip;
        clauses = clauses_of slip;
        verdict = ap (λ (s : State). close_slip r s case) reached ∙ verdict_given r.says slip h;
      }
  gave_by (Err f) e h = absurd h

  -- where a case ends with its side's verdict, calls from the making on gave it
  pub gave : Gives (case_ending hs r case proof) (verdict_byte r.says) → Gave r
  gave h = gave_by (opened r (start []) case) refl h

-- the law of the two sides, at plain rows
never_both_rows : (t : RowsOfFormula) (u : RowsOfCircuit) → sides.NeverBoth t u
never_both_rows t u =
    never_both
    (record {
      head = t.head;
      variables = record { ref_ptr = (0, 0); now = t.variables };
      clauses = record { ref_ptr = (0, 0); now = t.clauses };
      literals = record { ref_ptr = (0, 0); now = t.literals };
    })
    (record {
      head = u.head;
      outputs = record { ref_ptr = (0, 0); now = u.outputs };
      gates = record { ref_ptr = (0, 0); now = u.gates };
    })

module _ (proof proof' : List ℕ) (case most width case' most' width' : ℕ) where
  -- by what the texts are read as
  never_by : (o : Result RowsOfFormula Refusal) (q : Result RowsOfCircuit Refusal) → Gives (truth_by proof case most width o q) 1 → Gives (falsity_by proof' case' most' width' o) 2 → ⊥
  never_by (Ok t) (Ok u) h k =
      never_both_rows t u most width most' width' (gave (heads t.head (Some u.head)) (truth_rules t u most width) case proof h) (gave (heads t.head None) (falsity_rules t most' width') case' proof' k)
  never_by (Ok t) (Err f) h k = h
  never_by (Err e) (Ok u) h k = h
  never_by (Err e) (Err f) h k = h

-- the law on texts
pub never_both_texts : (formula : List ℕ) → NeverBoth formula
never_both_texts formula circuit proof proof' case most width case' most' width' h k =
    never_by proof proof' case most width case' most' width' (formula_in formula) (circuit_in circuit) h k
