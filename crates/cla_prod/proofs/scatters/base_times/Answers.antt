use Rattle.std.proofs.Common.{◌≡◌, ◌<◌, ◌≤◌, ◌+◌, ◌*ℤ◌, ◌+ℤ◌, ℕ, ℤ, length, map, take, ap, subst, sym, ◌∙◌, arith}
use Rattle.std.proofs.Common.{rules}
use Rattle.std.specs.Int.{w128}
use Rattle.std.specs.Int.RustNames.{FitsSigned}
use Rattle.std.proofs.lemmas.List.{take_all}
use Rattle.cla_num.proofs.Sizes.{fits_by_size}
use Rattle.cla_layout.specs.Groups.{at}
use Rattle.cla_layout.specs.Layouts.{LayoutPart, IsPart, layout_with}
use Rattle.cla_layout.specs.Laws.{sum_over}
use Rattle.cla_coded.specs.Parts.{part_of, parts_of}
use Rattle.cla_coded.proofs.Outlines.{part_of_item, parts_count}
use Rattle.cla_layout.proofs.Wholes.{own_column, own_column_within}
use Rattle.cla_layout.proofs.PartSums.{row_by_parts}
use Rattle.cla_layout.proofs.PartSums.{sum_over_more}
use Rattle.cla_layout.proofs.PartValues.{values_more, values_few}
use Rattle.cla_prod.specs.Sums.{part_times}
use Rattle.cla_prod.proofs.PartSums.{row_size}
use Rattle.cla_prod.proofs.scatters.base_times.Goals as goal

pub add_part-requires-clause-part : goal.add_part-requires-clause-part
add_part-requires-clause-part g c =
    let items = c.args.parts.now in
    let parts = parts_of g.G.Group.codes g.G.Group.dictionary items in
    let q = c.loop-part.part-index in
    let within : q < length parts = rw (parts_count g.G.Group.codes g.G.Group.dictionary items) c.loop-part-test.true in
    let is = part_of_item g.G.Group.codes g.G.Group.dictionary items q c.part-item.result c.loop-part-test.true
    c.part-item.is in
    subst (λ (n : ℕ). IsPart g.N.Number.BITS n (part_of g.G.Group.codes g.G.Group.dictionary c.part-item.result))
    (sym c.loop-part.auto.sums) (subst (IsPart g.N.Number.BITS (length c.args.sums.now)) is
    (c.requires.whole.each q within))

pub add_part-requires-clause-within : goal.add_part-requires-clause-within
add_part-requires-clause-within g c place there =
    let items = c.args.parts.now in
    let parts = parts_of g.G.Group.codes g.G.Group.dictionary items in
    let part = part_of g.G.Group.codes g.G.Group.dictionary c.part-item.result in
    let q = c.loop-part.part-index in
    let within : q < length parts = rw (parts_count g.G.Group.codes g.G.Group.dictionary items) c.loop-part-test.true in
    let is = part_of_item g.G.Group.codes g.G.Group.dictionary items q c.part-item.result c.loop-part-test.true
    c.part-item.is in
    let own = own_column part place ((rw is at (c.requires.whole.each q within)).rising) there in
    own_column_within (length c.args.items.now) parts q _ c.requires.whole.partition within (rw is own.1)

pub add_part-requires-clause-fits : goal.add_part-requires-clause-fits
add_part-requires-clause-fits g c i row =
    let items = c.args.parts.now in
    let parts = parts_of g.G.Group.codes g.G.Group.dictionary items in
    let value = g.N.Number.value in
    let q = c.loop-part.part-index in
    let within : q < length parts = rw (parts_count g.G.Group.codes g.G.Group.dictionary items) c.loop-part-test.true in
    let is = part_of_item g.G.Group.codes g.G.Group.dictionary items q c.part-item.result c.loop-part-test.true
    c.part-item.is in
    let f = part_times (map value c.args.items.now) i in
    let sum : at c.loop-part.sums i +ℤ f (part_of g.G.Group.codes g.G.Group.dictionary c.part-item.result)
    ≡ sum_over f (take (q + 1) parts) =
    ap (λ (z : ℤ). z +ℤ f (part_of g.G.Group.codes g.G.Group.dictionary c.part-item.result))
    (c.loop-part.invariant.sums i row) ∙ ap (λ (p : LayoutPart). sum_over f (take q parts) +ℤ f p) (sym is) ∙ sym
    (sum_over_more f parts q within) in
    let there : i < length c.args.sums.now = omega (arith, row, c.loop-part.auto.sums) in
    subst (FitsSigned w128) (sym sum) (fits_by_size _ (row_size g.N.Number.BITS value g.met.N.Number.in_range
    c.requires.bits (length c.args.sums.now) parts c.args.items.now c.requires.whole i (q + 1) there))

pub add_part-requires-clause-room : goal.add_part-requires-clause-room
add_part-requires-clause-room g c =
    let items = c.args.parts.now in
    let parts = parts_of g.G.Group.codes g.G.Group.dictionary items in
    let few = values_few g.N.Number.BITS (layout_with (length c.args.sums.now) (length c.args.items.now) parts)
    c.loop-part.part-index c.requires.whole in
    rw c.loop-part.invariant.counts (record {
      mults = omega (
        arith,
        c.requires.room.mults,
        few,
        c.requires.whole.few,
      );
      maps = omega (arith, c.requires.room.maps);
    })

pub loop-part-preserved : goal.loop-part-preserved
loop-part-preserved g c =
    let items = c.args.parts.now in
    let parts = parts_of g.G.Group.codes g.G.Group.dictionary items in
    let value = g.N.Number.value in
    let q = c.loop-part.part-index in
    let within : q < length parts = rw (parts_count g.G.Group.codes g.G.Group.dictionary items) c.loop-part-test.true in
    let is = part_of_item g.G.Group.codes g.G.Group.dictionary items q c.part-item.result c.loop-part-test.true
    c.part-item.is in
    record {
      sums = λ i row.
          (let there : i < length c.loop-part.sums = omega (arith, row, c.add_part.auto.sums) in
          let f = part_times (map value c.args.items.now) i in
          c.add_part.ensures.sums i there ∙ ap (λ (z : ℤ). z +ℤ f (part_of g.G.Group.codes g.G.Group.dictionary
          c.part-item.result)) (c.loop-part.invariant.sums i there)
          ∙ ap (λ (p : LayoutPart). sum_over f (take q parts) +ℤ f p) (sym is) ∙ sym (sum_over_more f parts q within));
      counts = rw (c.add_part.ensures.counts, c.loop-part.invariant.counts, values_more parts q within, is)
          (search rules);
    }

pub returns-clause-sums : goal.returns-clause-sums
returns-clause-sums g c i row =
    let items = c.args.parts.now in
    let parts = parts_of g.G.Group.codes g.G.Group.dictionary items in
    let xs = map g.N.Number.value c.args.items.now in
    let f = part_times xs i in
    let q = c.loop-part.part-index in
    let all : length parts ≤ q = rw (parts_count g.G.Group.codes g.G.Group.dictionary items) c.loop-part-test.false in
    let there : i < length c.loop-part.sums = omega (arith, row, c.loop-part.auto.sums) in
    c.loop-part.invariant.sums i there ∙ ap (sum_over f) (take_all q parts all)
    ∙ sym (row_by_parts g.N.Number.BITS (layout_with (length c.args.sums.now) (length c.args.items.now) parts)
    (λ k z. z *ℤ at xs k) i c.requires.whole)

pub returns-clause-counts : goal.returns-clause-counts
returns-clause-counts g c =
    let items = c.args.parts.now in
    let parts = parts_of g.G.Group.codes g.G.Group.dictionary items in
    let all : length parts ≤ c.loop-part.part-index = rw (parts_count g.G.Group.codes g.G.Group.dictionary items)
    c.loop-part-test.false in
    rw (sym (take_all c.loop-part.part-index parts all)) c.loop-part.invariant.counts

pub add_part-requires-clause-scratch : goal.add_part-requires-clause-scratch
add_part-requires-clause-scratch g c =
    let items = c.args.parts.now in
    let parts = parts_of g.G.Group.codes g.G.Group.dictionary items in
    let q = c.loop-part.part-index in
    let within : q < length parts = rw (parts_count g.G.Group.codes g.G.Group.dictionary items) c.loop-part-test.true in
    let is = part_of_item g.G.Group.codes g.G.Group.dictionary items q c.part-item.result c.loop-part-test.true
    c.part-item.is in
    omega (arith, c.loop-part.auto.scratch, rw is at (c.requires.scratch q within))
