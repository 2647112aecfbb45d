use Rattle.std.proofs.Common.{◌≡◌, ◌≤◌, ◌-◌, length}
use Rattle.cla_io.specs.Ahead.{AreLines}
use Rattle.cla_market.specs.declared.banner.Symmetry.TheVariants.{General}
use Rattle.cla_mtx.specs.Phases.{IsReady, DecidesOver}
use Rattle.cla_mtx.proofs.dense.add_lines.Given as goal

-- what is left decides after the lines so far, if it did before them
abbrev pub invariant-plain : goal.invariant-plain
invariant-plain g l = record {
  ready : IsReady g.N.Number.BITS l.entries;
  general : l.entries.banner.symmetry ≡ General;
  lines : AreLines l.fn.bytes l.lines.count l.lines.width;
  within : l.lines.width ≤ length l.fn.bytes;
  few : l.lines.count ≤ l.lines.width;
  over : DecidesOver g.N.Number.BITS l.fn.entries l.entries l.fn.bytes l.lines.count l.lines.width;
}

abbrev pub decreases-plain : goal.decreases-plain
decreases-plain g l = length l.fn.bytes - l.lines.width
