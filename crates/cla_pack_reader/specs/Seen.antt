-- Codes by how many tuples have occurred.
use Rattle.std.specs.Prelude.{ℕ, ◌+◌, Bool, ◌==◌, ◌&&◌, ◌||◌, not, nat_lt, nat_le, if◌then◌else◌}

-- how many tuples have occurred behind a code, where so many had before it
abbrev pub seen_with : ℕ → ℕ → ℕ
seen_with seen code = if code == seen then seen + 1 else seen

-- a tuple that has occurred or the next one; at the last row all d have occurred
abbrev pub fits_seen : ℕ → ℕ → Bool → ℕ → Bool
fits_seen d seen last code = nat_lt code d && nat_le code seen && (not last || seen_with seen code == d)
