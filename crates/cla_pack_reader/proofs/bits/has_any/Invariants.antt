use Rattle.std.proofs.Common.{◌≡◌, ℕ, ◌*◌, ◌<◌, ◌≤◌, false}
use Rattle.cla_pack_reader.specs.Bits.{mark_in}
use Rattle.cla_pack_reader.proofs.bits.has_any.Given as goal

-- none in the words so far is set
abbrev pub invariant-loop-place : goal.invariant-loop-place
invariant-loop-place l =
    record {
      none : (i : ℕ) → l.begin ≤ i → i < l.end → i < 64 * l.place → mark_in l.words i ≡ false;
    }
