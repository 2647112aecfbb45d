use Rattle.std.proofs.Common.{◌≡◌, ◌+◌, drop}
use Rattle.std.specs.List.{position_or_len}
use Rattle.cla_text.specs.Words.{is_blank}
use Rattle.cla_text.proofs.word.word_end.Given as goal

-- what is left decides
abbrev pub invariant-loop-i : goal.invariant-loop-i
invariant-loop-i l = position_or_len is_blank (drop l.i l.line) + l.i ≡ position_or_len is_blank l.line
