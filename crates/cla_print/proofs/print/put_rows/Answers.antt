use Rattle.std.proofs.Common.{◌<◌, ◌∙◌, ℕ, length, rules, arith}
use Rattle.std.proofs.lemmas.Result.{err_from_is_err_and}
use Rattle.cla_layout.specs.Groups.{cell_of}
use Rattle.cla_print.specs.Texts.{row_text}
use Rattle.cla_print.proofs.PieceLaws.{none_put, piece_on, piece_fails}
use Rattle.cla_print.proofs.print.put_rows.Goals as goal

pub loop-i-init : goal.loop-i-init
loop-i-init g c = record {
  parted = none_put c.args.buffer.now (g.O.Sink.told c.args.out.now);
  later = search rules;
  steady = search rules;
  kept = g.met.O.Sink.kept_itself _;
  no_fault = search rules;
}

pub loop-i-preserved : goal.loop-i-preserved
loop-i-preserved g c =
    let before = c.loop-i.invariant in
    let put = c.in_ok-put_row.ensures in
    let cells = cell_of (g.G.Group.codes c.args.g.now) (g.G.Group.dictionary c.args.g.now) in
    let line = λ (i : ℕ). row_text (g.G.Group.columns c.args.g.now) (cells i) in
    record {
      parted = piece_on c.args.buffer.now line c.loop-i.i _ _ _ _ _ before.parted (rw c.code_at.ensures at put.parts);
      later = omega (arith, put.later);
      steady = put.steady ∙ before.steady;
      kept = g.met.O.Sink.kept_on _ _ _ before.kept put.kept;
      no_fault = put.cause ∙ before.no_fault;
    }

pub returns-in_err-put_row-clause-parts : goal.returns-in_err-put_row-clause-parts
returns-in_err-put_row-clause-parts g c =
    let told = g.O.Sink.told in
    let codes = g.G.Group.codes c.args.g.now in
    let cells = cell_of codes (g.G.Group.dictionary c.args.g.now) in
    let line = λ (i : ℕ). row_text (g.G.Group.columns c.args.g.now) (cells i) in
    let below : c.loop-i.i < length codes = omega (arith, c.loop-i-test.true, c.rows-i-end.ensures) in
    rw (err_from_is_err_and c.from_residual.result c.from_residual.ensures.1).1
    (piece_fails c.args.buffer.now line c.loop-i.i (length codes) (told c.args.out.now) (told c.loop-i.out)
    (told c.put_row.new.out) c.loop-i.buffer below c.loop-i.invariant.parted
    (rw c.code_at.ensures at c.in_err-put_row.ensures.parts))
