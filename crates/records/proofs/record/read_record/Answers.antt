use Rattle.std.proofs.Common.{◌≡◌, true, false, refl, rules}
use Rattle.std.proofs.lemmas.List.{take_rest}
use Rattle.std.proofs.lemmas.Nat.{be_bytes_2, be_bytes_4, be_bytes_8}
use Rattle.records.specs.Records.{begins}
use Rattle.records.proofs.ByteLaws.{elements, elements_bytes}
use Rattle.records.proofs.RecordLaws.{long_record}
use Rattle.records.proofs.record.read_record.Goals as goal

pub returns-in-0-2-clause-law : goal.returns-in-0-2-clause-law
returns-in-0-2-clause-law c =
    let bs = c.args.bytes.now in
    let kind : begins bs 12 2 ≡ true = search rules in
    let whole = long_record bs 2 kind in
    let clause = be_bytes_2 (elements bs 4 2) c.from_be_bytes.result refl (elements_bytes bs 4 2 c.type_inv.bytes) c.from_be_bytes.ensures in
    let values = be_bytes_8 (elements bs 6 8) c.from_be_bytes-in-0-2.result refl (elements_bytes bs 6 8 c.type_inv.bytes) c.from_be_bytes-in-0-2.ensures in
    ((c.from_be_bytes.type_inv, c.from_be_bytes-in-0-2.type_inv), (cc))

pub returns-in-0-3-clause-law : goal.returns-in-0-3-clause-law
returns-in-0-3-clause-law c =
    let bs = c.args.bytes.now in
    let kind : begins bs 12 3 ≡ true = search rules in
    let whole = long_record bs 3 kind in
    let first = be_bytes_4 (elements bs 4 4) c.from_be_bytes-in-0-3.result refl (elements_bytes bs 4 4 c.type_inv.bytes) c.from_be_bytes-in-0-3.ensures in
    let second = be_bytes_4 (elements bs 8 4) c.from_be_bytes-in-0-3-2.result refl (elements_bytes bs 8 4 c.type_inv.bytes) c.from_be_bytes-in-0-3-2.ensures in
    let position = be_bytes_2 (elements bs 12 2) c.from_be_bytes-in-0-3-3.result refl (elements_bytes bs 12 2 c.type_inv.bytes) c.from_be_bytes-in-0-3-3.ensures in
    ((c.from_be_bytes-in-0-3.type_inv, c.from_be_bytes-in-0-3-2.type_inv, c.from_be_bytes-in-0-3-3.type_inv), (cc))

pub returns-in-0-clause-rest : goal.returns-in-0-clause-rest
returns-in-0-clause-rest c =
    let kind : begins c.args.bytes.now 6 1 ≡ true = search rules in
    rw (take_rest, kind)

-- no record of any kind stands in front
pub returns-in_default-clause-is : goal.returns-in_default-clause-is
returns-in_default-clause-is c =
    let bs = c.args.bytes.now in
    let truth : begins bs 6 1 ≡ false = search rules in
    let falsity : begins bs 12 2 ≡ false = search rules in
    let resolve : begins bs 12 3 ≡ false = search rules in
    let settle : begins bs 8 4 ≡ false = search rules in
    rw (truth, falsity, resolve, settle, c.fault.ensures)

pub returns-in_default-clause-rest : goal.returns-in_default-clause-rest
returns-in_default-clause-rest c =
    let bs = c.args.bytes.now in
    let truth : begins bs 6 1 ≡ false = search rules in
    let falsity : begins bs 12 2 ≡ false = search rules in
    let resolve : begins bs 12 3 ≡ false = search rules in
    let settle : begins bs 8 4 ≡ false = search rules in
    rw (truth, falsity, resolve, settle)
