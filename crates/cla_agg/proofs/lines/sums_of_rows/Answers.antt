use Rattle.std.proofs.Common.{◌≡◌, ◌+◌, ◌*◌, ℤ, List, length, drop, ap, ◌∙◌}
use Rattle.std.proofs.lemmas.List.{take_at}
use Rattle.cla_layout.specs.Groups.{at}
use Rattle.cla_layout.specs.Layouts.{entry_in}
use Rattle.cla_coded.specs.Parts.{parts_of}
use Rattle.cla_meaning.specs.Entries.{row_sum}
use Rattle.cla_agg.proofs.Answered.{answer_same, line_place, cells_at}
use Rattle.cla_agg.proofs.lines.sums_of_rows.Goals as goal

pub returns : goal.returns
returns g c =
    let m = c.args.m.now in
    let cols = c.args.cols in
    let sum = row_sum m.cols (entry_in (parts_of g.G.Group.codes g.G.Group.dictionary m.parts)) in
    let into = c.add_rows.new.into in
    let zeros = c.in-Ok-zeros.sums in
    let kept : length into ≡ zeros.len = c.add_rows.auto.into ∙ c.deref_mut-2.ensures.len in
    let back : c.deref.result.now ≡ into = c.deref.ensures.value
    ∙ take_at into (drop (length into) zeros.items) zeros.len kept in
    answer_same g.N.Number.BITS c.args.rows cols (cells_at cols c.deref.result.now) (λ i j. sum (i * cols + j))
    c.matrix_of.result
    (λ i j row col. ap (λ (cells : List ℤ). at cells (i * cols + j)) back
    ∙ c.add_rows.ensures.sums (i * cols + j) (line_place m.rows c.args.rows cols i j c.requires.line row col))
    c.matrix_of.ensures
