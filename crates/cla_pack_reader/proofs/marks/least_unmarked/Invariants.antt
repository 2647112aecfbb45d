use Rattle.std.proofs.Common.{◌≡◌, List, ℕ, ◌<◌, length, true}
use Rattle.cla_packed.specs.Codes.{has}
use Rattle.cla_pack_reader.specs.Marks.{AreMarks}
use Rattle.cla_pack_reader.proofs.marks.least_unmarked.Given as goal

-- each column so far has a mark
abbrev pub invariant-loop-c : goal.invariant-loop-c
invariant-loop-c l =
    (taken : List ℕ) → AreMarks (length l.marks) taken l.marks → ((c : ℕ) → c < l.fn.from → has taken c ≡ true)
    → (c : ℕ) → c < l.c → has taken c ≡ true
