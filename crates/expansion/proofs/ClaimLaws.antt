-- The premise of a clause under a word of values: when there is one, and what it then has.
use Rattle.std.proofs.Common.{◌≡◌, ℕ, ◌≤◌, Bool, true, false, cond, ◌&&◌, leb, List, Ok, Err, Result, refl}
use Rattle.std.proofs.lemmas.Bool.{and_parts, leb-true}
use Rattle.base.specs.declared.values.ValueWord.{ValueWord}
use Rattle.clauses.specs.declared.entry.Entry.{Entry}
use Rattle.models.specs.HeldTables.{RowsOfFormula, clause_of}
use Rattle.expansion.specs.Instances.{some_universal_true, instance, is_named, clause_instance}

-- what holds where there is a premise
pub record Claimed (t : RowsOfFormula) (j : ℕ) (values : ValueWord) (c : List Entry) : Type 0 where
  pub low : 1 ≤ j
  pub high : j ≤ t.head.clauses
  pub no_universal : some_universal_true t.variables values (clause_of t j) ≡ false
  pub entries : c ≡ instance t.variables values (clause_of t j)

-- the premise by its two tests: whether it is named, and whether a universal literal is true
abbrev claim_by : Bool → Bool → List Entry → Result (List Entry) ℕ
claim_by named true_there c = cond named (cond true_there (Err 17) (Ok c)) (Err 16)

claim_tests : (named true_there : Bool) (c' c : List Entry) → claim_by named true_there c' ≡ Ok c → (named ≡ true) × (true_there ≡ false) × (c ≡ c')
claim_tests true true c' c e = cc
claim_tests true false c' c e = (refl, refl, cc)
claim_tests false true_there c' c e = cc

pub claimed : (t : RowsOfFormula) (j : ℕ) (values : ValueWord) (c : List Entry) → clause_instance t j values ≡ Ok c → Claimed t j values c
claimed t j values c e =
    let tests = claim_tests (is_named t j values) (some_universal_true t.variables values (clause_of t j)) (instance t.variables values (clause_of t j)) c e in
    let named = and_parts (leb 1 j && leb j t.head.clauses) _ tests.0 in
    let there = and_parts (leb 1 j) (leb j t.head.clauses) named.0 in
    record {
      low = leb-true 1 j there.0;
      high = leb-true j t.head.clauses there.1;
      no_universal = tests.1;
      entries = tests.2;
    }
