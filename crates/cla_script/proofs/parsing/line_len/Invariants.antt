use Rattle.std.proofs.Common.{◌≡◌, ◌+◌, drop}
use Rattle.std.specs.List.{position_or_len}
use Rattle.cla_spec.specs.Lines.{is_lf}
use Rattle.cla_script.proofs.parsing.line_len.Given as goal

-- what is left decides
abbrev pub invariant-loop-i : goal.invariant-loop-i
invariant-loop-i l = position_or_len is_lf (drop l.i l.text) + l.i ≡ position_or_len is_lf l.text
