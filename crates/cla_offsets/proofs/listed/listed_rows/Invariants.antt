use Rattle.std.proofs.Common.{◌≡◌, ◌≤◌, length, take}
use Rattle.cla_offsets.proofs.ListedKeys.{AreListedTo}
use Rattle.cla_offsets.proofs.listed.listed_rows.Given as goal

-- the rows before row i are listed
abbrev pub invariant-loop-i : goal.invariant-loop-i
invariant-loop-i l = record {
  within : l.count ≤ l.i;
  a_row_each : length l.rows.items ≡ length l.codes;
  a_key_each : length l.keys.items ≡ length l.codes;
  listed : AreListedTo l.i l.codes l.rest (take l.count l.rows.items) (take l.count l.keys.items);
}
