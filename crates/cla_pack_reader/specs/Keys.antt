-- Runs under other keys.
use Rattle.std.specs.Prelude.{ℕ}
use Rattle.cla_runs.specs.declared.run_list.KeyedRun.{KeyedRun}

-- the same rows, with the key that f gives
abbrev pub keyed : (ℕ → ℕ) → KeyedRun → KeyedRun
keyed f run = record { begin = run.begin; end = run.end; key = f run.key }
