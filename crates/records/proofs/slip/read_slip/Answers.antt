use Rattle.std.proofs.Common.{◌≡◌, true, get_or, refl, ap, rules}
use Rattle.std.proofs.lemmas.Nat.{be_bytes_4}
use Rattle.base.specs.Causes.{answered, told}
use Rattle.records.specs.Slips.{begins_slip, slip_from}
use Rattle.records.proofs.ByteLaws.{elements, elements_bytes}
use Rattle.records.proofs.SlipLaws.{fields_whole, slip_law}
use Rattle.records.proofs.slip.read_slip.Goals as goal

pub returns-in-0-clause-law : goal.returns-in-0-clause-law
returns-in-0-clause-law c =
    let bs = c.args.bytes.now in
    let begins : begins_slip bs ≡ true = search rules in
    let case = be_bytes_4 (elements bs 4 4) c.from_be_bytes.result refl (elements_bytes bs 4 4 c.type_inv.bytes) c.from_be_bytes.ensures in
    let clauses = be_bytes_4 (elements bs 8 4) c.from_be_bytes-in-0.result refl (elements_bytes bs 8 4 c.type_inv.bytes) c.from_be_bytes-in-0.ensures in
    let goal = be_bytes_4 (elements bs 12 4) c.from_be_bytes-in-0-2.result refl (elements_bytes bs 12 4 c.type_inv.bytes) c.from_be_bytes-in-0-2.ensures in
    let whole = fields_whole bs c.from_be_bytes.result c.from_be_bytes-in-0.result c.from_be_bytes-in-0-2.result begins case clauses goal in
    let is : answered c.ok_or.result ≡ slip_from bs = search rules in
    let made = c.ok_or.ensures.value in
    rw made (slip_law bs (get_or bs 3 0) c.from_be_bytes.result c.from_be_bytes-in-0.result c.from_be_bytes-in-0-2.result c.slip_with.result c.fault-malformed.result whole c.slip_with.ensures.law (ap told c.fault-malformed.ensures) (rw made at is))
