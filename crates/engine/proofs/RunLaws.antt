-- How the calls of the code meet those of runs, one call and one more of a list.
use Rattle.std.proofs.Common.{◌≡◌, ℕ, ◌+◌, ◌<◌, List, [], ◌∷◌, ◌++◌, map, length, get_or, take, drop, set, Ok, Err, Result, sym, refl, ap, ◌∙◌, subst, arith, Bor}
use Rattle.std.specs.Result.{MatchResult}
use Rattle.std.proofs.lemmas.List.{length-map, get_or-map, take_more, take_more_set, drop-set-lt, drop-drop, map_push}
use Rattle.base.specs.declared.faults.Fault.{Fault}
use Rattle.base.specs.Causes.{Refusal, told, answered}
use Rattle.engine.specs.declared.examiner.Examiner.{Examiner}
use Rattle.engine.specs.declared.run.Answer.{Answer}
use Rattle.engine.specs.declared.run.Answer.TheVariants as answer
use Rattle.engine.specs.declared.run.Call.{Call}
use Rattle.engine.specs.declared.run.Call.TheVariants as call
use Rattle.engine.specs.declared.side.Side.{Ghosts as SideGhosts}
use Rattle.engine.specs.declared.shelf.Shelf.{Ghosts as ShelfGhosts}
use Rattle.engine.specs.Plain.{Rules, State, take_result}
use Rattle.engine.specs.Means.{rules_of, state_of, Takes, number_of}
use Rattle.engine.specs.Runs as runs
use Rattle.engine.specs.Called.{called, told_answer, Calls, RunsTo}
use Rattle.engine.proofs.RowLaws.{same_ok}

-- the state after one call more
pub run_more : (r : Rules) (s : State) (cs : List runs.Call) (c : runs.Call) → runs.run r s (cs ++ c ∷ []) ≡ runs.next r (runs.run r s cs) c
run_more r s [] c = refl
run_more r s (d ∷ cs) c = run_more r (runs.next r s d) cs c

answers_more : (r : Rules) (s : State) (cs : List runs.Call) (c : runs.Call) → runs.answers r s (cs ++ c ∷ []) ≡ runs.answers r s cs ++ runs.answer r (runs.run r s cs) c ∷ []
answers_more r s [] c = refl
answers_more r s (d ∷ cs) c = ap (λ l. runs.answer r s d ∷ l) (answers_more r (runs.next r s d) cs c)

module _ {S F : Type 0} (side : SideGhosts S) (shelf : ShelfGhosts F) where
  taken_told : (y : Result ℕ Fault) (x : Result (ℕ × State) Refusal) (used : ℕ) (a : Answer) → MatchResult y (λ n. a ≡ answer.Took n used) (λ f. a ≡ answer.Refused f) → answered y ≡ number_of side shelf x → told_answer a ≡ runs.taken_answer used x
  taken_told (Ok n) (Ok z) used a t e = ap told_answer t ∙ ap (λ k. runs.took k used) (same_ok n z.0 e)
  taken_told (Ok n) (Err f) used a t e = absurd (cc)
  taken_told (Err f) (Ok z) used a t e = absurd (cc)
  taken_told (Err f) (Err h) used a t e = let same : told f ≡ h = cc in ap told_answer t ∙ ap runs.refuses same

  -- a record that was taken, and what is answered of it
  pub takes_told : (was is : Examiner S F side shelf) (x : Call) (bytes : Bor (List ℕ)) → x ≡ call.Take bytes → (y : Result ℕ Fault) (used : ℕ) (a : Answer) → MatchResult y (λ n. a ≡ answer.Took n used) (λ f. a ≡ answer.Refused f) → Takes side shelf bytes.now y used was is → Calls side shelf x a was is
  takes_told was is x bytes i y used a m t =
      subst (λ (z : Call). Calls side shelf z a was is) (sym i)
      (record {
        answer =
            taken_told y (take_result (rules_of side shelf was) (state_of side shelf was) bytes.now) used a m t.steps.answer
            ∙ ap (λ u. runs.taken_answer u (take_result (rules_of side shelf was) (state_of side shelf was) bytes.now)) t.used_bytes;
        state = t.steps.state;
        kept = t.steps.kept;
      })

  -- one call more
  pub runs_more : (n : ℕ) (calls : List Call) (row row_then : List Answer) (was mid is : Examiner S F side shelf) (d : Call) (a : Answer) → n < length calls → n < length row_then → RunsTo side shelf n calls row row_then was mid → Calls side shelf (get_or calls n d) a mid is → RunsTo side shelf (n + 1) calls row (set row_then n a) was is
  runs_more n calls row row_then was mid is d a inside room h k =
      let r : Rules = rules_of side shelf was in
      let s : State = state_of side shelf was in
      let cs : List runs.Call = take n (map called calls) in
      let c : runs.Call = called (get_or calls n d) in
      let long : n < length (map called calls) = omega (arith, length-map calls called) in
      let front : take (n + 1) (map called calls) ≡ take n (map called calls) ++ called (get_or calls n d) ∷ [] =
      take_more (map called calls) n (called d) long ∙ ap (λ x. take n (map called calls) ++ x ∷ []) (get_or-map called calls n d (called d) inside) in
      let to_answer : runs.answer (rules_of side shelf mid) (state_of side shelf mid) c ≡ runs.answer r (runs.run r s cs) c =
      ap (λ q. runs.answer q (state_of side shelf mid) c) h.kept.rules_same ∙ ap (λ q. runs.answer r q c) h.state in
      let to_next : runs.next (rules_of side shelf mid) (state_of side shelf mid) c ≡ runs.next r (runs.run r s cs) c =
      ap (λ q. runs.next q (state_of side shelf mid) c) h.kept.rules_same ∙ ap (λ q. runs.next r q c) h.state in
      record {
        answers =
            ap (map told_answer) (take_more_set row_then n a room) ∙ map_push told_answer (take n row_then) a
            ∙ ap (λ l. l ++ told_answer a ∷ []) h.answers ∙ ap (λ x. runs.answers r s cs ++ x ∷ []) (k.answer ∙ to_answer)
            ∙ sym (answers_more r s cs c) ∙ ap (runs.answers r s) (sym front);
        rest = drop-set-lt (n + 1) row_then n a (omega arith) ∙ sym (drop-drop 1 n row_then) ∙ ap (drop 1) h.rest ∙ drop-drop 1 n row;
        state = k.state ∙ to_next ∙ sym (run_more r s cs c) ∙ ap (runs.run r s) (sym front);
        kept = record { side_same = k.kept.side_same ∙ h.kept.side_same; rules_same = k.kept.rules_same ∙ h.kept.rules_same };
      }
