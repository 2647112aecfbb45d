use Rattle.std.proofs.Common.{◌≡◌, ◌≤◌, ◌∙◌, ℕ, ℤ, sym, ap, rules, arith}
use Rattle.std.proofs.lemmas.Result.{err_from_is_err_and}
use Rattle.cla_layout.specs.Groups.{value_of}
use Rattle.cla_print.specs.Texts.{row_text}
use Rattle.cla_print.specs.Pieces.{pieces, entry_piece}
use Rattle.cla_print.proofs.PieceLaws.{none_put, piece_on, piece_fails}
use Rattle.cla_print.proofs.TextLaws.{row_pieces}
use Rattle.cla_print.proofs.print.put_row.Goals as goal

pub loop-c-init : goal.loop-c-init
loop-c-init g c = record {
  parted = none_put c.args.buffer.now (g.O.Sink.told c.args.out.now);
  later = search rules;
  steady = search rules;
  kept = g.met.O.Sink.kept_itself _;
  no_fault = search rules;
}

pub loop-c-preserved : goal.loop-c-preserved
loop-c-preserved g c =
    let before = c.loop-c.invariant in
    let put = c.in_ok-put_entry.ensures in
    let piece = entry_piece c.width-cols.result (value_of (g.G.Group.dictionary c.args.g.now) c.args.k) in
    record {
      parted =
          piece_on c.args.buffer.now piece c.loop-c.c _ _ _ _ _ before.parted
          (rw (c.value.ensures, c.entry_end.ensures) at put.parts);
      later = omega (arith, put.later);
      steady = put.steady ∙ before.steady;
      kept = g.met.O.Sink.kept_on _ _ _ before.kept put.kept;
      no_fault = put.cause ∙ before.no_fault;
    }

-- the row's line, by the number of columns that the call answered
line_is : (cols columns : ℕ) (row : ℕ → ℤ) → 1 ≤ columns → cols ≡ columns
    → row_text columns row ≡ pieces (entry_piece cols row) cols
line_is cols columns row some same =
    row_pieces columns row some ∙ ap (λ (w : ℕ). pieces (entry_piece w row) w) (sym same)

pub returns-in_err-put_entry-clause-parts : goal.returns-in_err-put_entry-clause-parts
returns-in_err-put_entry-clause-parts g c =
    let told = g.O.Sink.told in
    let cols = c.width-cols.result in
    let row = value_of (g.G.Group.dictionary c.args.g.now) c.args.k in
    let some = (g.met.G.Group.laws c.args.g.now).a_column in
    let line = line_is cols (g.G.Group.columns c.args.g.now) row some c.width-cols.ensures in
    rw ((err_from_is_err_and c.from_residual.result c.from_residual.ensures.1).1, line)
    (piece_fails c.args.buffer.now (entry_piece cols row) c.loop-c.c cols (told c.args.out.now) (told c.loop-c.out)
    (told c.put_entry.new.out) c.loop-c.buffer c.loop-c-test.true c.loop-c.invariant.parted
    (rw (c.value.ensures, c.entry_end.ensures) at c.in_err-put_entry.ensures.parts))

pub returns-clause-parts : goal.returns-clause-parts
returns-clause-parts g c =
    let cols = c.width-cols.result in
    let row = value_of (g.G.Group.dictionary c.args.g.now) c.args.k in
    let some = (g.met.G.Group.laws c.args.g.now).a_column in
    let line = line_is cols (g.G.Group.columns c.args.g.now) row some c.width-cols.ensures in
    let all : c.loop-c.c ≡ cols = omega (arith, c.loop-c-test.false, c.loop-c.auto.c-end) in
    rw line (rw all at c.loop-c.invariant.parted)
