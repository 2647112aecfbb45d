use Rattle.std.proofs.Common.{◌∙◌, length, sym, arith}
use Rattle.cla_rows.proofs.RunBounds.{IsAtRun, at_run, code_in_run, code_in_gap}
use Rattle.cla_runs.proofs.run_rows.RunRows.code_at.Goals.{After-ended_by-n}
use Rattle.cla_runs.proofs.run_rows.RunRows.code_at.Goals as goal

-- the run at which row i stands
found : (c : After-ended_by-n) → IsAtRun c.self.inside.runs.ends.items (length c.self.inside.runs.keys.items) c.args.i
    c.ended_by-n.result
found c = rw c.ended_by-n.ensures (at_run c.self.invariant.runs c.args.i)

pub ended_by-n-requires : goal.ended_by-n-requires
ended_by-n-requires c = (_, _, _, c.self.invariant.runs)

pub begin-requires : goal.begin-requires
begin-requires c = omega (arith, (found c).there, c.self.invariant.runs.a_begin_each)

pub key-requires : goal.key-requires
key-requires c =
    let kept = rw c.self.view_is at c.self.invariant in
    let is = found (goal.at.key-requires c).After-ended_by-n in
    (code_in_run kept.runs c.args.i c.ended_by-n.result c.requires is
    (omega (arith, c.if-begin-i.true, c.begin.ensures))).0

pub returns-then-begin-i : goal.returns-then-begin-i
returns-then-begin-i c =
    let kept = rw c.self.view_is at c.self.invariant in
    let is = found (goal.at.returns-then-begin-i c).After-ended_by-n in
    c.key.ensures ∙ sym (code_in_run kept.runs c.args.i c.ended_by-n.result c.requires is
    (omega (arith, c.if-begin-i.true, c.begin.ensures))).1

pub returns-else-begin-i : goal.returns-else-begin-i
returns-else-begin-i c =
    let kept = rw c.self.view_is at c.self.invariant in
    let is = found (goal.at.returns-else-begin-i c).After-ended_by-n in
    c.rest.ensures
    ∙ sym
    (code_in_gap kept.runs c.args.i c.ended_by-n.result is (omega (arith, c.if-begin-i.false, c.begin.ensures)))
