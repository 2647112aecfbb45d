use Rattle.std.proofs.Common.{◌≡◌, List, ℕ, ◌++◌, length, take}
use Rattle.cla_pack_reader.specs.Marks.{AreMarks}
use Rattle.cla_pack_reader.proofs.marks.mark.Given as goal

-- the columns so far have marks
abbrev pub invariant-loop-column : goal.invariant-loop-column
invariant-loop-column l =
    record {
      size : length l.marks ≡ length l.fn.marks;
      marks : (taken : List ℕ) → AreMarks (length l.fn.marks) taken l.fn.marks
          → AreMarks (length l.fn.marks) (taken ++ take l.column-index l.columns) l.marks;
    }
