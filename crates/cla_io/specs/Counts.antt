-- Counts of faults and of calls.
use Rattle.std.specs.Prelude.{◌≡◌, ℕ, ◌+◌, ◌-◌, ◌^◌, ◌≤◌, min, Result, Ok, Err}
use Rattle.cla_io.specs.declared.stop.Stop.{Stop}
use Rattle.cla_io.specs.declared.stop.Stop.TheVariants.{Failed, Memory}

-- the last number of a counter, at which it stands still
abbrev pub counter_end : ℕ
counter_end = 2 ^ 64 - 1

-- the number of the next call
abbrev pub next_call : ℕ → ℕ
next_call n = min (n + 1) counter_end

-- a count has risen, or stands at a counter's last number
abbrev pub Rose : ℕ → ℕ → Type 0
Rose before now = next_call before ≤ now

-- Failed comes only where a count of faults rose, and the count stays with every other answer: no fault is passed over
abbrev pub HasCause : {T : Type 0} → ℕ → ℕ → Result T Stop → Type 0
HasCause before now (Err Failed) = Rose before now
HasCause before now (Err Memory) = now ≡ before
HasCause before now (Ok x) = now ≡ before
