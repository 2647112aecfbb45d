use Rattle.std.proofs.Common.{◌≡◌, ◌≢◌, ◌/◌, ◌≤◌, ◌^◌, length, map, sym, ap, ◌∙◌, arith, rules}
use Rattle.cla_layout.proofs.Coded.{tuples_few, codes_few}
use Rattle.cla_layout.proofs.Tuples.{tuples_count}
use Rattle.cla_codes.proofs.CodeBytes.{takes_four}
use Rattle.cla_coded.specs.AnyGroups.{least_code_bytes}
use Rattle.cla_coded.proofs.AnyRows.{fewest_fit, codes_from}
use Rattle.cla_coded.proofs.any_group.AnyGroup.from_row_codes.Goals as goal

pub from_row_codes-requires-in_default : goal.from_row_codes-requires-in_default
from_row_codes-requires-in_default g c =
    let n = length c.args.values.items / c.args.width in
    let one : c.width.result ≢ 1 = search rules in
    let two : c.width.result ≢ 2 = search rules in
    let is = takes_four c.width.result c.width.ensures.width one two in
    let four : c.args.codes.width ≡ 4 = sym c.width.ensures.is ∙ is in
    let few : n ≤ 2 ^ 26 = omega (arith, tuples_few _ _ _ _ c.requires.codes, codes_few _ _ _ _ c.requires.codes) in
    (omega arith, (four, (c.requires.codes, fewest_fit 4 n (sym four ∙ c.requires.fewest) few)))

pub returns-in_ok-from_row_codes-in-2 : goal.returns-in_ok-from_row_codes-in-2
returns-in_ok-from_row_codes-in-2 g c =
    let n = length c.args.values.items / c.args.width in
    let count = tuples_count c.args.width n (map g.N.Number.value c.args.values.items) in
    let fewest : least_code_bytes n ≡ 2 = sym c.requires.fewest ∙ sym c.width.ensures.is ∙ c.in-2.is in
    let made = c.in_ok-from_row_codes-in-2.ensures in
    codes_from 2 _ _ _ _ _ _ (ap least_code_bytes count ∙ fewest) made.columns made.codes made.dictionary

pub returns-in_ok-from_row_codes-in_default : goal.returns-in_ok-from_row_codes-in_default
returns-in_ok-from_row_codes-in_default g c =
    let n = length c.args.values.items / c.args.width in
    let count = tuples_count c.args.width n (map g.N.Number.value c.args.values.items) in
    let one : c.width.result ≢ 1 = search rules in
    let two : c.width.result ≢ 2 = search rules in
    let is = takes_four c.width.result c.width.ensures.width one two in
    let fewest : least_code_bytes n ≡ 4 = sym c.requires.fewest ∙ sym c.width.ensures.is ∙ is in
    let made = c.in_ok-from_row_codes-in_default.ensures in
    codes_from 4 _ _ _ _ _ _ (ap least_code_bytes count ∙ fewest) made.columns made.codes made.dictionary
