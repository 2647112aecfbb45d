use Rattle.std.proofs.Common.{◌≡◌, ℕ, ◌+◌, ◌*◌, ◌<◌, ◌≤◌, get_or, length}
use Rattle.std.specs.Prelude.{nat_le, nat_lt, ◌||◌, ◌&&◌}
use Rattle.cla_pack_reader.proofs.BitLaws.{marked}
use Rattle.cla_pack_reader.proofs.bits.put_all.Given as goal

-- the words so far have their bits, and the others are as they were
abbrev pub invariant-loop-place : goal.invariant-loop-place
invariant-loop-place l =
    record {
      size : length l.words ≡ length l.fn.words;
      done : (w k : ℕ) → w < l.place → k < 64 → marked (get_or l.words w 0) k
          ≡ (marked (get_or l.fn.words w 0) k || nat_le l.begin (64 * w + k) && nat_lt (64 * w + k) l.end);
      later : (w : ℕ) → l.place ≤ w → get_or l.words w 0 ≡ get_or l.fn.words w 0;
    }
