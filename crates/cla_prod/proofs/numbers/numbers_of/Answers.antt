use Rattle.std.proofs.Common.{◌≡◌, ◌<◌, ◌*◌, ℕ, ℤ, pos, List, length, map, ap, subst, sym, ◌∙◌, arith}
use Rattle.std.proofs.Common.{Option, Some, None, MatchResult}
use Rattle.std.proofs.lemmas.List.{length-map}
use Rattle.cla_spec.specs.Matrix.{row_by_row}
use Rattle.cla_spec.proofs.Entries.{row_by_row-same}
use Rattle.cla_num.specs.declared.fault.OpFault.{OpFault}
use Rattle.cla_num.specs.Fault.{exactly, fault_of, first_fault}
use Rattle.cla_layout.specs.Groups.{at}
use Rattle.cla_prod.specs.declared.numbers.Order.TheVariants.{Rows}
use Rattle.cla_prod.specs.Lines.{cell_at, AreNumbers}
use Rattle.cla_prod.proofs.Firsts.{all_in_range, numbers_in_range, all_numbers}
use Rattle.cla_prod.proofs.numbers.numbers_of.Goals as goal

pub returns-then-is_row_by_row : goal.returns-then-is_row_by_row
returns-then-is_row_by_row g c =
    let bits = g.N.Number.BITS in
    let cells = c.args.cells.now in
    let rows = c.args.rows in
    let cols = c.args.cols in
    let there = cell_at Rows rows cols cells in
    let exact = cell_at c.args.order rows cols cells in
    let some = c.requires.shape.a_col in
    let numbers = map g.N.Number.value c.numbers_row_by_row.new.numbers in
    let result = c.numbers_row_by_row.result in
    let same : (i j : ℕ) → i < rows → j < cols → there i j ≡ exact i j =
    λ i j row col. ap (at cells) (sym (c.is_row_by_row.ensures c.if-is_row_by_row.true rows i j col)) in
    let entries : row_by_row rows cols there ≡ row_by_row rows cols exact =
    row_by_row-same rows cols there exact (pos 0) some same in
    let found = fault_of bits rows cols (exactly there) in
    let faults : found ≡ fault_of bits rows cols (exactly exact) =
    ap (first_fault bits cols) (row_by_row-same rows cols (exactly there) (exactly exact) None some
    (λ i j row col. ap Some (same i j row col))) in
    subst (λ (first : Option OpFault). MatchResult result (λ x. (numbers ≡ row_by_row rows cols exact) × (first ≡ None))
    (λ fault. first ≡ Some fault)) faults
    (subst (λ (all : List ℤ). MatchResult result (λ x. (numbers ≡ all) × (found ≡ None))
    (λ fault. found ≡ Some fault)) entries c.numbers_row_by_row.ensures)

pub returns : goal.returns
returns g c =
    let bits = g.N.Number.BITS in
    let value = g.N.Number.value in
    let rows = c.args.rows in
    let cols = c.args.cols in
    let exact = cell_at c.args.order rows cols c.args.cells.now in
    let end : c.loop-i.i ≡ rows = omega (arith, c.loop-i-test.false, c.loop-i.auto.i-end) in
    let are : AreNumbers value cols exact (rows * cols) c.loop-i.numbers = subst
    (λ (n : ℕ). AreNumbers value cols exact (n * cols) c.loop-i.numbers) end c.loop-i.invariant in
    let count : length (map value c.loop-i.numbers) ≡ rows * cols = length-map c.loop-i.numbers value
    ∙ c.loop-i.auto.numbers ∙ c.requires.numbers in (
      all_numbers value rows cols exact c.loop-i.numbers count are,
      all_in_range bits rows cols exact c.requires.shape.a_col
          (numbers_in_range bits value g.met.N.Number.in_range cols exact (rows * cols) c.loop-i.numbers
          (omega (arith, c.loop-i.auto.numbers, c.requires.numbers)) are),
    )
