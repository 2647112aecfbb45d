use Rattle.std.proofs.Common.{◌∷◌, ◌-◌, List, ℕ, length, take, drop, ap, sym, ◌∙◌}
use Rattle.std.proofs.lemmas.List.{take_rest}
use Rattle.cla_market_lines.proofs.PlainLaws.{plain_then, minus_then, minus_front}
use Rattle.cla_market_lines.proofs.plain.number_then.Goals as goal

pub returns-in_ok-size : goal.returns-in_ok-size
returns-in_ok-size c =
    let bytes = c.args.bytes.now in
    minus_then c.args.stop c.in_ok-size.size bytes (take (length bytes - 1) (drop 1 bytes)) c.in_ok-size.rest.now
    (minus_front bytes c.if-bytes-gt0.true c.if-bytes-eq45.true
    ∙ ap (λ (r : List ℕ). 45 ∷ r) (sym (take_rest bytes 1))) c.in_ok-size.ensures

pub returns-in_ok-size-2 : goal.returns-in_ok-size-2
returns-in_ok-size-2 c = plain_then c.args.stop c.in_ok-size-2.size c.args.bytes.now c.in_ok-size-2.rest.now
    c.in_ok-size-2.ensures
