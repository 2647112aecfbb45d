-- Lines that are taken at once, of the bytes that an input holds.
use Rattle.std.specs.Prelude.{◌≡◌, ℕ, zero, suc, ◌+◌, ◌-◌, List, [], take, drop, Some, false}
use Rattle.cla_io.specs.Lines.{Progress, IsLfPlace}

-- the bytes that are held before the limit
abbrev pub ahead_in_limit : Progress → List ℕ
ahead_in_limit p = take (p.limit - p.at) p.ahead

-- these bytes begin with so many lines, each of which ends at an LF, and they take `width` bytes together
abbrev pub AreLines : List ℕ → ℕ → ℕ → Type 0
AreLines bytes zero width = width ≡ 0
AreLines bytes (suc count) width = (start : ℕ) × (place : ℕ) × AreLines bytes count start
    × IsLfPlace (drop start bytes) (Some place) × (width ≡ start + (place + 1))

-- so many lines were taken at once, of which none is kept
abbrev pub after_lines : Progress → ℕ → ℕ → Progress
after_lines p count width = record {
  ahead = drop width p.ahead;
  at = p.at + width;
  limit = p.limit;
  line = [];
  lines = p.lines + count;
  ended = false;
}
