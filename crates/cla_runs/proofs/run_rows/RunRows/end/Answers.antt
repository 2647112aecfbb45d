use Rattle.std.proofs.Common.{◌<◌, length, refl, arith}
use Rattle.cla_layout.specs.Groups.{code_of}
use Rattle.cla_rows.proofs.RunsOfCode.{listed_count, listed_begin, key_is, maximal}
use Rattle.cla_runs.proofs.run_rows.RunRows.end.Goals as goal

pub end_before-requires : goal.end_before-requires
end_before-requires c = let kept = rw c.self.view_is at c.self.invariant in
    omega (arith, c.requires, listed_count kept.runs, kept.runs.an_end_each)

pub returns : goal.returns
returns c =
    let kept = rw c.self.view_is at c.self.invariant in
    let there : c.args.number < length c.self.inside.runs.keys.items =
    omega (arith, c.requires, listed_count kept.runs) in
    rw (listed_begin kept.runs c.args.number there, key_is kept.runs c.args.number there, c.end_before.ensures)
    (maximal kept.runs (code_of c.self.inside.runs.keys.items c.args.number)
    (kept.runs.listed c.args.number there) c.args.number there refl)
