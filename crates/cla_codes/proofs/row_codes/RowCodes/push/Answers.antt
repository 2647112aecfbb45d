use Rattle.std.proofs.Common.{◌≢◌, arith, rules, refl}
use Rattle.cla_codes.proofs.CodeBytes.{grown_codes, one_byte, two_bytes, four_bytes, takes_four}
use Rattle.cla_codes.proofs.row_codes.RowCodes.push.Goals as goal

pub returns-in_ok-push-in-1-clause-codes : goal.returns-in_ok-push-in-1-clause-codes
returns-in_ok-push-in-1-clause-codes c =
    grown_codes 1 _ c.args.code c.self.inside.bytes.items _ _ _ c.in-1.is (omega arith) c.self.invariant c.self.view_is
    refl (one_byte c.args.code) c.in_ok-push-in-1.ensures.items

pub returns-in_ok-extend_from_slice-in-2-clause-codes : goal.returns-in_ok-extend_from_slice-in-2-clause-codes
returns-in_ok-extend_from_slice-in-2-clause-codes c =
    grown_codes 2 _ c.args.code c.self.inside.bytes.items _ _ _ c.in-2.is (omega arith) c.self.invariant c.self.view_is
    refl (two_bytes c.args.code) c.in_ok-extend_from_slice-in-2.ensures.items

pub returns-in_ok-extend_from_slice-in_default-clause-codes :
    goal.returns-in_ok-extend_from_slice-in_default-clause-codes
returns-in_ok-extend_from_slice-in_default-clause-codes c =
    let one : c.self.inside.width ≢ 1 = search rules in
    let two : c.self.inside.width ≢ 2 = search rules in
    grown_codes 4 _ c.args.code c.self.inside.bytes.items _ _ _
    (takes_four c.self.inside.width c.self.invariant.width one two) (omega arith) c.self.invariant c.self.view_is
    refl (four_bytes c.args.code) c.in_ok-extend_from_slice-in_default.ensures.items
