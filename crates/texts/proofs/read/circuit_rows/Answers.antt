use Rattle.std.proofs.Common.{Ok, sym, ap, ◌∙◌, rules, subst, ap₂}
use Rattle.std.proofs.lemmas.List.{with_items_is}
use Rattle.models.specs.HeldTables.{RowsOfCircuit}
use Rattle.texts.specs.Spelled.{ReadsCircuit}
use Rattle.texts.proofs.CircuitRead.{circuit_rows_in, accepted_rows, refused_rows, accepted_reads, refused_reads}
use Rattle.texts.proofs.read.circuit_rows.Goals as goal

pub returns-in-Ok : goal.returns-in-Ok
returns-in-Ok c =
    let text = c.args.text.now in
    let head = c.in-Ok.head in
    let os = c.read_circuit.new.outputs in
    let gs = c.read_circuit.new.gates in
    let place = c.read_circuit.new.place.at in
    let os-long = c.as_mut_slice.ensures.len in
    let gs-long = c.as_mut_slice-2.ensures.len in
    let same =
    ap₂ (circuit_rows_in head) (with_items_is c.in_ok-outputs.outputs os (c.read_circuit.auto.outputs ∙ os-long))
    (with_items_is c.in_ok-gates.gates gs (c.read_circuit.auto.gates ∙ gs-long)) in
    record {
      is = ap Ok same
          ∙ accepted_rows text _ _ os gs place (os-long ∙ c.in_ok-outputs.ensures.len) (gs-long ∙ c.in_ok-gates.ensures.len) head (search rules);
      spelt = subst (λ (t : RowsOfCircuit). ReadsCircuit text (Ok t)) (sym same) (accepted_reads text os gs place head (search rules));
    }

pub returns-in-Err : goal.returns-in-Err
returns-in-Err c =
    let text = c.args.text.now in
    let fault = c.in-Err.fault in
    let os = c.read_circuit.new.outputs in
    let gs = c.read_circuit.new.gates in
    let place = c.read_circuit.new.place.at in
    let os-long = c.as_mut_slice.ensures.len ∙ c.in_ok-outputs.ensures.len in
    let gs-long = c.as_mut_slice-2.ensures.len ∙ c.in_ok-gates.ensures.len in
    record {
      is = refused_rows text _ _ os gs place os-long gs-long fault (search rules);
      spelt = refused_reads text os gs place fault (c.read_circuit.auto.outputs ∙ os-long) (c.read_circuit.auto.gates ∙ gs-long) (rw c.default-place.ensures at c.in-Err.ensures.spelt);
    }
