use Rattle.std.proofs.Common.{◌<◌, length, arith}
use Rattle.cla_layout.specs.Listed.{rows_of}
use Rattle.cla_rows.proofs.RunsOfCode.{begins_count, previous_within, run_is}
use Rattle.cla_runs.proofs.run_rows.RunRows.run.Goals.{After-begin-begin}
use Rattle.cla_runs.proofs.run_rows.RunRows.run.Goals as goal

-- run n of the code is there
there : (c : After-begin-begin) → c.args.n < length (rows_of c.self.inside.runs.keys.items c.args.k)
there c =
    let kept = rw c.self.view_is at c.self.invariant in
    omega (arith, begins_count kept.runs c.args.k c.requires.listed, c.requires.run)

pub number_of-number-requires : goal.number_of-number-requires
number_of-number-requires c =
    let kept = rw c.self.view_is at c.self.invariant in
    omega (arith, begins_count kept.runs c.args.k c.requires.listed, c.requires.run)

pub previous_end-requires : goal.previous_end-requires
previous_end-requires c = record { ends = c.self.invariant.runs.an_end_each; run = there c }

pub overflow_sub-result : goal.overflow_sub-result
overflow_sub-result c =
    let kept = rw c.self.view_is at c.self.invariant in
    let run = there (goal.at.overflow_sub-result c).After-begin-begin in
    rw (c.begin-begin.ensures, c.number_of-number.ensures.number)
    (previous_within kept.runs c.args.k c.requires.listed c.args.n c.previous_end.result run
    c.previous_end.ensures.first c.previous_end.ensures.later)

pub returns : goal.returns
returns c =
    let kept = rw c.self.view_is at c.self.invariant in
    let run = there (goal.at.returns c).After-begin-begin in
    rw (c.begin-begin.ensures, c.end_before.ensures, c.number_of-number.ensures.number)
    (run_is kept.runs c.args.k c.requires.listed c.args.n c.previous_end.result run
    c.previous_end.ensures.first c.previous_end.ensures.later)
