use Rattle.std.proofs.Common.{◌≡◌, ◌<◌, ◌≤◌, ◌+◌, ◌*◌, ℕ, pos, length}
use Rattle.cla_layout.specs.Groups.{at}
use Rattle.cla_layout.specs.Values.{values_of}
use Rattle.cla_coded.specs.Parts.{parts_of}
use Rattle.cla_prod.specs.Lines.{line_times}
use Rattle.cla_prod.proofs.lines.times_lines.Given as goal

-- the lines so far; the others hold zeros
abbrev pub invariant-loop-l : goal.invariant-loop-l
invariant-loop-l g l = record {
  done : (d i : ℕ) → d < l.l → i < l.fn.lines.outer →
      at l.exact (d * l.fn.lines.outer + i)
      ≡ line_times (parts_of g.G.Group.codes g.G.Group.dictionary l.parts) l.fn.lines l.m d i;
  zeros : (p : ℕ) → l.l * l.fn.lines.outer ≤ p → p < length l.exact → at l.exact p ≡ pos 0;
  counts : l.meter ≡ record l.fn.meter {
    mults = l.fn.meter.mults + l.l * values_of
        (parts_of g.G.Group.codes g.G.Group.dictionary l.parts);
  };
}
