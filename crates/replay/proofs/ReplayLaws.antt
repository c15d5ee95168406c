-- A replay: what its parts answer makes the plain case's report, and the slip in it holds.
use Rattle.std.proofs.Common.{◌≡◌, ℕ, List, [], ◌∷◌, ◌++◌, length, Ok, Err, Result, option_map, sym, refl, ap, ◌∙◌, subst}
use Rattle.base.specs.declared.faults.Fault.{Fault}
use Rattle.base.specs.Causes.{Refusal, told}
use Rattle.clauses.specs.declared.entry.Entry.{Entry}
use Rattle.engine.specs.declared.examiner.Examiner.{Examiner}
use Rattle.engine.specs.declared.shelf.Shelf.{Ghosts as ShelfGhosts}
use Rattle.engine.specs.declared.side.Side.{Ghosts as SideGhosts}
use Rattle.engine.specs.declared.ticket.Ticket.{Ticket}
use Rattle.engine.specs.Shelves.{entries_in}
use Rattle.engine.specs.Plain.{Rules, State, start, on_ok, opened, settled_count, close_slip}
use Rattle.engine.specs.Means.{rules, rules_of, state_of, Opens, opened_number, opened_state}
use Rattle.engine.specs.Runs.{Call, opens, run}
use Rattle.engine.specs.Verdicts.{SlipHolds, Reached, SoundSlip}
use Rattle.engine.proofs.RowLaws.{err_ok, same_ok}
use Rattle.engine.proofs.VerdictLaws.{run_append, reached_open}
use Rattle.replay.specs.declared.report.Report.{Report}
use Rattle.replay.specs.Replay.{Told, TakenRecords, taken, take_all, told_of, replayed_from, replayed}
use Rattle.replay.specs.Reports.{TakesAll, Replays, ReportHolds, told_report, told_outcome}
use Rattle.replay.proofs.TurnLaws.{turns_run}

module _ {S F : Type 0} (side : SideGhosts S) (shelf : ShelfGhosts F) where
  opened_is : (o : Result State Refusal) (n k : ℕ) → ◌≡◌ {A = Result ℕ Refusal} (Ok k) (opened_number side shelf o n) → (t : State) × (o ≡ Ok t) × (k ≡ n)
  opened_is (Ok t) n k e = (t, refl, same_ok k n e)
  opened_is (Err f) n k e = absurd (err_ok k f (sym e))

  -- A report of an examiner that was opened, took the records and is about to be closed.
  pub record Reported (case : ℕ) (proof : List ℕ) (ticket : Ticket) (p : Report) (was first last : Examiner S F side shelf) : Type 0 where
    pub opening : Opens side shelf case (Ok ticket) was first
    pub taking : TakesAll side shelf proof p.taken first last
    pub clauses : p.clauses ≡ length (shelf.list last.shelf)
    pub entries : p.entries ≡ entries_in (shelf.list last.shelf)
    pub settled : p.settled ≡ settled_count (state_of side shelf last) (side.goals last.side)
    pub goals : p.goals ≡ side.goals last.side
    pub slip : p.slip ≡ close_slip (rules_of side shelf last) (state_of side shelf last) ticket.number
    pub sound : SoundSlip side shelf last p.slip

  module _ (case : ℕ) (proof : List ℕ) (ticket : Ticket) (p : Report) (was first last : Examiner S F side shelf) (h : Reported case proof ticket p was first last) where
    abbrev r : Rules
    r = rules_of side shelf was

    abbrev t : TakenRecords
    t = taken (state_of side shelf last) p.taken.records p.taken.bytes (option_map told p.taken.refusal)

    told_is : told_report p ≡ told_of (rules_of side shelf last) ticket.number t
    told_is = rw (h.clauses, h.entries, h.settled, h.goals, h.slip)

    rules_first : rules_of side shelf first ≡ r
    rules_first = h.opening.kept.rules_same

    rules_last : rules_of side shelf last ≡ r
    rules_last = h.taking.kept.rules_same ∙ rules_first

    -- the calls that lead to the closing, behind those that led to the opening
    reached : (list : List (List Entry)) (calls : List Call) → Reached side shelf list calls was → (more : List Call) × Reached side shelf list more last
    reached list calls at =
        let q : Rules = rules_of side shelf first in
        let before : List Call = calls ++ opens case ∷ [] in
        let took = turns_run (length proof) q (state_of side shelf first) 0 0 proof in (
          before ++ took.0,
          ap (λ (x : TakenRecords). x.state) h.taking.all ∙ took.1
              ∙ ap (λ (x : State). run q x took.0) (reached_open side shelf list calls was first at case (Ok ticket) h.opening)
              ∙ sym (run_append q (start list) before took.0)
              ∙ ap (λ (x : Rules). run x (start list) (before ++ took.0)) (sym h.taking.kept.rules_same),
        )

    -- the report is the plain case's, and its slip holds
    pub replays : Replays side shelf case proof (Ok p) was
    replays =
        let s : State = state_of side shelf was in
        let o = opened_is (opened r s case) case ticket.number h.opening.answer in
        let state : state_of side shelf first ≡ o.0 = h.opening.state ∙ ap (opened_state side shelf s) o.1 in
        let all : t ≡ take_all r o.0 proof = h.taking.all ∙ ap (λ (q : Rules). take_all q (state_of side shelf first) proof) rules_first ∙ ap (λ (x : State). take_all r x proof) state in
        record {
          outcome =
              ap (λ (x : Told). Ok x)
              (told_is ∙ ap (λ (q : Rules). told_of q ticket.number t) rules_last ∙ ap (λ (n : ℕ). told_of r n t) o.2
              ∙ ap (λ (x : TakenRecords). told_of r case x) all)
              ∙ sym (ap (λ (x : Result State Refusal). on_ok x (λ y. Ok (told_of r case (take_all r y proof)))) o.1);
          holds =
              λ list calls at.
              let there = reached list calls at in
              subst (λ (x : S). SlipHolds side x p.slip) (h.taking.kept.side_same ∙ h.opening.kept.side_same) (h.sound list there.0 there.1);
        }

  -- a replay from the making on
  pub replays_made : (case : ℕ) (proof : List ℕ) (o : Result Report Fault) (e : Examiner S F side shelf) (s : S) (f : F) → rules_of side shelf e ≡ rules side shelf s f → state_of side shelf e ≡ start (shelf.list f) → e.side ≡ s → Replays side shelf case proof o e → (told_outcome o ≡ replayed (rules side shelf s f) case proof) × ReportHolds side s o
  replays_made case proof o e s f ru st sd h = (
    h.outcome ∙ ap (λ (q : Rules). replayed_from q (state_of side shelf e) case proof) ru ∙ ap (λ (x : State). replayed_from (rules side shelf s f) x case proof) st,
    subst (λ (x : S). ReportHolds side x o) sd (h.holds (shelf.list f) [] st),
  )
