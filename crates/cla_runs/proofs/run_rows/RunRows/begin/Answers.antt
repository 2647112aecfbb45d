use Rattle.std.proofs.Common.{sym, ◌∙◌, arith}
use Rattle.cla_rows.proofs.RunsOfCode.{listed_count, listed_begin}
use Rattle.cla_runs.proofs.run_rows.RunRows.begin.Goals as goal

pub begin-requires : goal.begin-requires
begin-requires c = let kept = rw c.self.view_is at c.self.invariant in
    omega (arith, c.requires, listed_count kept.runs, kept.runs.a_begin_each)

pub returns : goal.returns
returns c =
    let kept = rw c.self.view_is at c.self.invariant in
    c.begin.ensures ∙ sym (listed_begin kept.runs c.args.number (omega (arith, c.requires, listed_count kept.runs)))
