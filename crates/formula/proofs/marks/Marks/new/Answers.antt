use Rattle.std.proofs.Common.{ℕ, eqb, ap, arith}
use Rattle.words.proofs.TableLaws.{get_or_zeros}
use Rattle.formula.proofs.marks.Marks.new.Goals as goal

pub invariant_of-result-clause-within : goal.invariant_of-result-clause-within
invariant_of-result-clause-within c = λ v. omega (arith, get_or_zeros {X = ℕ} 0 65536 v)

pub returns : goal.returns
returns c = λ v. ap (λ k. eqb k 1) (get_or_zeros {X = ℕ} 0 65536 v)
