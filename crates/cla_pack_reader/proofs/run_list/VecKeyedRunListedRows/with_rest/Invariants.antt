use Rattle.std.proofs.Common.{◌≡◌, ◌<◌, ◌≤◌, ℕ, length, get_or}
use Rattle.cla_packed.specs.Rests.{with_rest}
use Rattle.cla_runs.specs.declared.run_list.KeyedRun.{KeyedRun}
use Rattle.cla_pack_reader.specs.Keys.{keyed}
use Rattle.cla_pack_reader.proofs.run_list.VecKeyedRunListedRows.with_rest.Given as goal

-- the runs so far have their codes
abbrev pub invariant-loop-n : goal.invariant-loop-n
invariant-loop-n l = record {
  size : length l.runs.items ≡ length l.fn.self.items;
  before : (d j : ℕ) (run : KeyedRun)
      → ((n : ℕ) (e : KeyedRun) → n < length l.fn.self.items → (get_or l.fn.self.items n e).key < d) → j < l.n
      → get_or l.runs.items j run ≡ keyed (with_rest d l.r) (get_or l.fn.self.items j run);
  behind : (j : ℕ) (run : KeyedRun) → l.n ≤ j → get_or l.runs.items j run ≡ get_or l.fn.self.items j run;
}
