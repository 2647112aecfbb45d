-- What files in memory show of their plan.
use Rattle.std.specs.Prelude.{ℕ, List}
use Rattle.cla_io.specs.declared.stop.CallKind.{CallKind}
use Rattle.cla_io.specs.declared.mem_files.MemFiles.{MemFiles}
use Rattle.cla_io.specs.Plan.{Calls, calls_of}

-- the calls that fail, each by its kind and number
abbrev pub failing_calls : MemFiles → List (CallKind × ℕ)
failing_calls files = files.plan.fail.items

-- how many calls were made
abbrev pub calls_made : MemFiles → Calls
calls_made files = calls_of files.plan
