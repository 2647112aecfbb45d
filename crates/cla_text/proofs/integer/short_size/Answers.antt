use Rattle.std.proofs.Common.{◌≡◌, ◌+◌, ◌*◌, ◌-◌, get_or, true, rules, refl}
use Rattle.std.proofs.lemmas.Int.Digits.{digits_value_more}
use Rattle.std.proofs.lemmas.List.Folds.{list_all_more}
use Rattle.std.specs.Char.{is_ascii_digit}
use Rattle.cla_text.proofs.IntWords.{digit_is}
use Rattle.cla_text.proofs.integer.short_size.Goals as goal

pub loop-digit-preserved : goal.loop-digit-preserved
loop-digit-preserved c =
    let digits = c.args.digits.now in
    let i = c.loop-digit.digit-index in
    let before = c.loop-digit.invariant in
    let digit : is_ascii_digit (get_or digits i 0) ≡ true = search rules in
    let next : c.in_ok-size.size ≡ c.loop-digit.size * 10 + (get_or digits i 0 - 48) = search rules in
    record {
      digits = rw (list_all_more is_ascii_digit digits i 0 c.loop-digit-test.true, before.digits, digit) refl;
      value = rw (
        digits_value_more 10 digits i c.loop-digit-test.true,
        next,
        before.value,
        digit_is (get_or digits i 0) digit,
      ) refl;
    }
