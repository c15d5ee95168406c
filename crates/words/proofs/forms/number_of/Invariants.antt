use Rattle.std.proofs.Common.{◌≡◌, ◌^◌, ◌<◌, drop}
use Rattle.words.specs.Forms.{digits, decimal}
use Rattle.words.proofs.forms.number_of.Given as goal

abbrev pub invariant-loop-b : goal.invariant-loop-b
invariant-loop-b l =
    record {
      all : digits (drop l.b-index l.word) ≡ digits l.word;
      value : decimal l.n (drop l.b-index l.word) ≡ decimal 0 l.word;
      few : l.n < 10 ^ l.b-index;
    }
