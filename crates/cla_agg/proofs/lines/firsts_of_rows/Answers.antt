use Rattle.std.proofs.Common.{◌≡◌, ◌<◌, ◌≤◌, ◌*◌, ◌++◌, ℤ, List, length, map, take, drop, ap, subst, sym, ◌∙◌, arith}
use Rattle.std.proofs.Math.Nat.{mul-le-mul_left}
use Rattle.std.proofs.lemmas.List.{take_at}
use Rattle.cla_spec.specs.Matrix.{Matrix, most_cells}
use Rattle.cla_layout.specs.Groups.{at}
use Rattle.cla_layout.specs.GroupLaws.{IsExtreme}
use Rattle.cla_layout.specs.Layouts.{entry_in}
use Rattle.cla_coded.specs.Parts.{parts_of}
use Rattle.cla_agg.proofs.Answered.{line_count, line_shape}
use Rattle.cla_agg.proofs.lines.firsts_of_rows.Goals as goal

pub choose_in_rows-requires-clause-tuples : goal.choose_in_rows-requires-clause-tuples
choose_in_rows-requires-clause-tuples g c q there =
    omega (
      arith,
      c.most_tuples.ensures q there,
      ap (λ (numbers : List g.row.N.Denot). length numbers) c.deref_mut-2.ensures.value,
      c.in_ok-tuples.ensures,
    )

pub new-requires : goal.new-requires
new-requires g c =
    let m = c.args.m.now in
    let whole = c.choose_in_rows.ensures.whole in
    let into = c.choose_in_rows.new.into in
    let held = c.in_ok-firsts.firsts in
    let kept : length into ≡ held.len = c.choose_in_rows.auto.into ∙ c.deref_mut-3.ensures.len in
    let back : take held.len (into ++ drop (length into) held.items) ≡ into =
    take_at into (drop (length into) held.items) held.len kept in
    let count : length into ≡ c.args.rows * c.args.cols = c.choose_in_rows.auto.into
    ∙ ap (λ (numbers : List g.row.N.Denot). length numbers) c.deref_mut-3.ensures.value ∙ c.in_ok-firsts.ensures in
    let few : m.rows ≤ most_cells = omega (arith, mul-le-mul_left m.rows whole.a_col, whole.few) in
    rw back (line_shape m.rows c.args.rows c.args.cols into whole.a_row few c.requires.line count)

pub returns : goal.returns
returns g c =
    let m = c.args.m.now in
    let value = g.N.Number.value in
    let entry = entry_in (parts_of g.G.Group.codes g.G.Group.dictionary m.parts) in
    let into = c.choose_in_rows.new.into in
    let held = c.in_ok-firsts.firsts in
    let kept : length into ≡ held.len = c.choose_in_rows.auto.into ∙ c.deref_mut-3.ensures.len in
    let back : take held.len (into ++ drop (length into) held.items) ≡ into =
    take_at into (drop (length into) held.items) held.len kept in
    let cells : c.new.result.cells ≡ map value into =
    ap (λ (d : Matrix). d.cells) c.new.ensures ∙ ap (map value) back in
    let count = line_count m.rows c.args.rows c.args.cols c.requires.line in
    record {
      height = ap (λ (d : Matrix). d.rows) c.new.ensures;
      width = ap (λ (d : Matrix). d.cols) c.new.ensures;
      each = λ p lt. (let place : p < m.rows = omega (arith, lt, count) in
          subst (λ (xs : List ℤ). IsExtreme g.O.Order.before (entry p) m.cols (at xs p)) (sym cells)
          (c.choose_in_rows.ensures.firsts p place));
    }
