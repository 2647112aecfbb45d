use Rattle.std.proofs.Common.{◌≡◌, ◌++◌, map, take}
use Rattle.cla_layout.specs.Groups.{code_of}
use Rattle.cla_offsets.proofs.listed.push_offsets.Given as goal

-- the rows so far are appended
abbrev pub invariant-loop-place : goal.invariant-loop-place
invariant-loop-place l = record {
  pushed : l.offsets.items ≡ l.fn.offsets.items ++ map (code_of l.rows) (take l.place-index l.places);
}
