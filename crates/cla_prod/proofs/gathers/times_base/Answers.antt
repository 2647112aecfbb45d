use Rattle.std.proofs.Common.{◌<◌, ◌≤◌, length, map, take, subst, sym, arith, rules}
use Rattle.std.proofs.lemmas.List.{take_all}
use Rattle.cla_layout.specs.Groups.{at}
use Rattle.cla_layout.specs.Layouts.{LayoutPart, IsPart, layout_with}
use Rattle.cla_layout.proofs.PartValues.{values_few}
use Rattle.cla_layout.proofs.Wholes.{own_column, own_column_within}
use Rattle.cla_coded.specs.Parts.{part_of, parts_of}
use Rattle.cla_coded.proofs.Outlines.{part_of_item, parts_count}
use Rattle.cla_prod.specs.Sums.{AreGathered}
use Rattle.cla_prod.proofs.ColumnsSet.{parts_step, next_zeros, all_gathered, values_from_more, values_from_few}
use Rattle.cla_prod.proofs.gathers.times_base.Goals as goal

pub gather_part-requires-clause-part : goal.gather_part-requires-clause-part
gather_part-requires-clause-part g c =
    let items = c.args.parts.now in
    let parts = parts_of g.G.Group.codes g.G.Group.dictionary items in
    let q = c.loop-part.part-index in
    let within : q < length parts = rw (parts_count g.G.Group.codes g.G.Group.dictionary items) c.loop-part-test.true in
    let is = part_of_item g.G.Group.codes g.G.Group.dictionary items q c.part-item.result c.loop-part-test.true
    c.part-item.is in
    subst (IsPart g.N.Number.BITS (length c.args.items.now)) is (c.requires.whole.each q within)

pub gather_part-requires-clause-within : goal.gather_part-requires-clause-within
gather_part-requires-clause-within g c place there =
    let items = c.args.parts.now in
    let parts = parts_of g.G.Group.codes g.G.Group.dictionary items in
    let part = part_of g.G.Group.codes g.G.Group.dictionary c.part-item.result in
    let q = c.loop-part.part-index in
    let within : q < length parts = rw (parts_count g.G.Group.codes g.G.Group.dictionary items) c.loop-part-test.true in
    let is = part_of_item g.G.Group.codes g.G.Group.dictionary items q c.part-item.result c.loop-part-test.true
    c.part-item.is in
    let own = own_column part place ((rw is at (c.requires.whole.each q within)).rising) there in
    rw c.loop-part.auto.sums (own_column_within (length c.args.sums.now) parts q _ c.requires.whole.partition within
    (rw is own.1))

pub gather_part-requires-clause-scratch : goal.gather_part-requires-clause-scratch
gather_part-requires-clause-scratch g c =
    let items = c.args.parts.now in
    let parts = parts_of g.G.Group.codes g.G.Group.dictionary items in
    let q = c.loop-part.part-index in
    let within : q < length parts = rw (parts_count g.G.Group.codes g.G.Group.dictionary items) c.loop-part-test.true in
    let is = part_of_item g.G.Group.codes g.G.Group.dictionary items q c.part-item.result c.loop-part-test.true
    c.part-item.is in
    omega (arith, c.loop-part.auto.scratch, rw is at (c.requires.scratch q within))

pub gather_part-requires-clause-zeros : goal.gather_part-requires-clause-zeros
gather_part-requires-clause-zeros g c =
    let items = c.args.parts.now in
    let parts = parts_of g.G.Group.codes g.G.Group.dictionary items in
    let q = c.loop-part.part-index in
    let within : q < length parts = rw (parts_count g.G.Group.codes g.G.Group.dictionary items) c.loop-part-test.true in
    let is = part_of_item g.G.Group.codes g.G.Group.dictionary items q c.part-item.result c.loop-part-test.true
    c.part-item.is in
    rw is at (next_zeros g.N.Number.BITS c.args.from (length c.args.items.now) (length c.args.sums.now) q parts
    (at (map g.N.Number.value c.args.items.now)) c.loop-part.sums c.requires.whole within c.loop-part.invariant.sums)

pub gather_part-requires-clause-room : goal.gather_part-requires-clause-room
gather_part-requires-clause-room g c =
    let parts = parts_of g.G.Group.codes g.G.Group.dictionary c.args.parts.now in
    let q = c.loop-part.part-index in
    let most = values_few g.N.Number.BITS (layout_with (length c.args.items.now) (length c.args.sums.now) parts) q
    c.requires.whole in
    let few = values_from_few c.args.from (take q parts) in
    rw c.loop-part.invariant.counts
    (record {
      mults = omega (arith, c.requires.room.mults, few, most, c.requires.whole.few);
      maps = omega
          (arith, c.requires.room.maps);
    })

pub loop-part-preserved : goal.loop-part-preserved
loop-part-preserved g c =
    let items = c.args.parts.now in
    let parts = parts_of g.G.Group.codes g.G.Group.dictionary items in
    let q = c.loop-part.part-index in
    let within : q < length parts = rw (parts_count g.G.Group.codes g.G.Group.dictionary items) c.loop-part-test.true in
    let is = part_of_item g.G.Group.codes g.G.Group.dictionary items q c.part-item.result c.loop-part-test.true
    c.part-item.is in
    let rows = length c.args.items.now in
    let item = at (map g.N.Number.value c.args.items.now) in
    record {
      sums = parts_step g.N.Number.BITS c.args.from rows (length c.args.sums.now) q parts item c.loop-part.sums
          c.gather_part.new.sums
          c.requires.whole within
          (subst (λ (p : LayoutPart). AreGathered c.args.from rows p item c.loop-part.sums c.gather_part.new.sums)
          (sym is) c.gather_part.ensures.sums)
          c.loop-part.invariant.sums;
      counts = rw (
        c.gather_part.ensures.counts,
        c.loop-part.invariant.counts,
        values_from_more c.args.from parts q
            within,
        is,
      ) (search rules);
    }

pub returns-clause-sums : goal.returns-clause-sums
returns-clause-sums g c =
    let items = c.args.parts.now in
    let parts = parts_of g.G.Group.codes g.G.Group.dictionary items in
    let q = c.loop-part.part-index in
    let all : length parts ≤ q = rw (parts_count g.G.Group.codes g.G.Group.dictionary items) c.loop-part-test.false in
    all_gathered g.N.Number.BITS c.args.from (length c.args.items.now) (length c.args.sums.now) q parts
    (at (map g.N.Number.value c.args.items.now)) c.loop-part.sums c.requires.whole all c.loop-part.invariant.sums

pub returns-clause-counts : goal.returns-clause-counts
returns-clause-counts g c =
    let items = c.args.parts.now in
    let parts = parts_of g.G.Group.codes g.G.Group.dictionary items in
    let all : length parts ≤ c.loop-part.part-index = rw (parts_count g.G.Group.codes g.G.Group.dictionary items)
    c.loop-part-test.false in
    rw (sym (take_all c.loop-part.part-index parts all)) c.loop-part.invariant.counts
