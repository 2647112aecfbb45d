use Rattle.std.proofs.Common.{◌≡◌, ◌+◌, ◌*◌, ◌-◌, get_or, true, rules, refl}
use Rattle.std.proofs.lemmas.Int.Digits.{digits_value_more}
use Rattle.std.proofs.lemmas.List.Folds.{list_all_more}
use Rattle.std.proofs.lemmas.List.{take_rest}
use Rattle.std.specs.Char.{is_ascii_digit}
use Rattle.cla_market_lines.proofs.PlainLaws.{digit_is, found}
use Rattle.cla_market_lines.proofs.plain.digits_then.Goals as goal

pub loop-i-preserved : goal.loop-i-preserved
loop-i-preserved c =
    let bytes = c.args.bytes.now in
    let i = c.loop-i.i in
    let before = c.loop-i.invariant in
    let digit : is_ascii_digit (get_or bytes i 0) ≡ true = search rules in
    let next : c.in_ok-size.size ≡ c.loop-i.size * 10 + (get_or bytes i 0 - 48) = search rules in
    record {
      digits = rw (list_all_more is_ascii_digit bytes i 0 c.loop-i-test.true, before.digits, digit) refl;
      small = search rules;
      value = rw (
        digits_value_more 10 bytes i c.loop-i-test.true,
        next,
        before.value,
        digit_is
            (get_or bytes i 0) digit,
      ) refl;
    }

pub returns-then-i-gt0 : goal.returns-then-i-gt0
returns-then-i-gt0 c =
    let i = c.loop-i.i in
    let here : get_or c.args.bytes.now i 0 ≡ c.args.stop = search rules in
    found c.args.stop c.loop-i.size i c.args.bytes.now _ c.if-i-gt0.true c.loop-i-test.true here
    c.loop-i.invariant.digits c.loop-i.invariant.value c.loop-i.invariant.small
    (take_rest c.args.bytes.now (i + 1))
