-- The table of causes: each cause's number, each layer's number, and the refusals that they make.
use Rattle.std.specs.Prelude.{ℕ, Ok, Err, Result}
use Rattle.base.specs.declared.faults.Cause.{Cause}
use Rattle.base.specs.declared.faults.Cause.TheVariants as cause
use Rattle.base.specs.declared.faults.Layer.{Layer}
use Rattle.base.specs.declared.faults.Layer.TheVariants as layer
use Rattle.base.specs.declared.faults.Fault.{Fault}

abbrev pub cause_number : Cause → ℕ
cause_number cause.TextTooLong = 1
cause_number cause.WordForm = 2
cause_number cause.NumberTooLong = 3
cause_number cause.TextEnds = 4
cause_number cause.FormulaLimit = 5
cause_number cause.VariableUnfit = 6
cause_number cause.VariableTwice = 7
cause_number cause.TableShort = 8
cause_number cause.CircuitCount = 9
cause_number cause.CircuitLiteral = 10
cause_number cause.CaseOpen = 11
cause_number cause.TablesUnlawful = 12
cause_number cause.CountsDiffer = 13
cause_number cause.ReachTooWide = 14
cause_number cause.NoCaseOpen = 15
cause_number cause.NotThere = 16
cause_number cause.UniversalTrue = 17
cause_number cause.ComplementMissing = 18
cause_number cause.BothSigns = 19
cause_number cause.ClauseTooLong = 20
cause_number cause.ShelfFull = 21
cause_number cause.OutsideGoal = 22
cause_number cause.GoalSettled = 23
cause_number cause.RecordMalformed = 24
cause_number cause.OtherSide = 25
cause_number cause.SlipMalformed = 26

abbrev pub layer_number : Layer → ℕ
layer_number layer.Words = 1
layer_number layer.Formula = 2
layer_number layer.Circuit = 3
layer_number layer.Case = 4
layer_number layer.Shelf = 5
layer_number layer.Records = 6
layer_number layer.Slips = 7

-- A refusal as it is told: the numbers of cause, place and layer.
pub record Refusal : Type 0 where
  pub cause : ℕ
  pub place : ℕ
  pub layer : ℕ

abbrev pub told : Fault → Refusal
told f = record { cause = cause_number f.cause; place = f.place; layer = layer_number f.layer }

-- A refusal with its numbers in the order in which it is printed.
abbrev pub refused : ℕ → ℕ → ℕ → Refusal
refused c p l = record { cause = c; place = p; layer = l }

-- an answer as it is told
abbrev pub answered : {X : Type 0} → Result X Fault → Result X Refusal
answered (Ok x) = Ok x
answered (Err e) = Err (told e)
