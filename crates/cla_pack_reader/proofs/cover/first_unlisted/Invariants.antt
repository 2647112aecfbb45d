use Rattle.std.proofs.Common.{◌≡◌, ◌<◌, ℕ, true, false, get_or}
use Rattle.cla_pack_reader.proofs.cover.first_unlisted.Given as goal

-- each row so far has a mark
abbrev pub invariant-loop-row : goal.invariant-loop-row
invariant-loop-row l = (k : ℕ) → k < l.row → get_or l.marks k false ≡ true
