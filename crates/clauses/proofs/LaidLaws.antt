-- When a clause is laid at the front of a row: from the claim, what is answered and what the row then holds.
use Rattle.std.proofs.Common.{◌≡◌, ℕ, ◌<◌, ◌≤◌, leb, List, length, Ok, Err, Result, sym, ap, ◌∙◌, arith}
use Rattle.std.proofs.lemmas.Bool.{cond-true, cond-false, le-leb, lt-leb}
use Rattle.base.specs.declared.faults.Cause.{Cause}
use Rattle.base.specs.declared.faults.Cause.TheVariants as cause
use Rattle.base.specs.Causes.{cause_number}
use Rattle.clauses.specs.declared.entry.Entry.{Entry}
use Rattle.clauses.specs.Clauses.{over}
use Rattle.clauses.specs.Laid.{Laid, laid_count, laid_row}

module _ {claim : Result (List Entry) ℕ} (was : List Entry) where
  -- there is no claim
  pub laid_refused : (k : Cause) → claim ≡ Err (cause_number k) → Laid claim (Err k) was was
  laid_refused k e =
      record {
        answer = sym (ap (λ (r : Result (List Entry) ℕ). laid_count r (length was)) e);
        row = sym (ap (λ (r : Result (List Entry) ℕ). laid_row r was) e);
      }

  module _ (c : List Entry) (e : claim ≡ Ok c) where
    -- the row is too short for it
    pub laid_short : length was < length c → Laid claim (Err cause.TableShort) was was
    laid_short h =
        let short = lt-leb (length c) (length was) h in
        record {
          answer = sym (ap (λ (r : Result (List Entry) ℕ). laid_count r (length was)) e ∙ cond-false (leb (length c) (length was)) _ _ short);
          row = sym (ap (λ (r : Result (List Entry) ℕ). laid_row r was) e ∙ cond-false (leb (length c) (length was)) _ _ short);
        }

    -- it is written
    pub laid_written : (n : ℕ) (is : List Entry) → n ≡ length c → n ≤ length was → is ≡ over c was → Laid claim (Ok n) was is
    laid_written n is size h w =
        let room = le-leb (length c) (length was) (omega arith) in
        record {
          answer =
              ap (λ (k : ℕ). Ok k) size
              ∙ sym (ap (λ (r : Result (List Entry) ℕ). laid_count r (length was)) e ∙ cond-true (leb (length c) (length was)) _ _ room);
          row = w ∙ sym (ap (λ (r : Result (List Entry) ℕ). laid_row r was) e ∙ cond-true (leb (length c) (length was)) _ _ room);
        }
