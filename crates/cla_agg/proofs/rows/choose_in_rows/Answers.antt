use Rattle.std.proofs.Common.{◌≡◌, ◌<◌, ◌≤◌, ◌+◌, ℕ, length, map, get_or, ap, subst, sym, ◌∙◌, arith}
use Rattle.cla_layout.specs.Groups.{at, code_of}
use Rattle.cla_layout.specs.Layouts.{LayoutPart, part_at}
use Rattle.cla_coded.specs.Parts.{parts_of}
use Rattle.cla_coded.specs.Tables.{layout_of}
use Rattle.cla_coded.proofs.Outlines.{parts_count}
use Rattle.cla_agg.proofs.PartSums.{part_read}
use Rattle.cla_agg.proofs.Extremes.{a_part}
use Rattle.cla_agg.proofs.Spread.{IsFirstOfRow, IsPartRowFirst, group_row_read, found_within, row_one, row_more}
use Rattle.cla_agg.proofs.Spread.{row_first}
use Rattle.cla_agg.proofs.rows.choose_in_rows.Goals as goal

pub bounds-parts-0 : goal.bounds-parts-0
bounds-parts-0 g c =
    let some = a_part g.N.Number.BITS g.G.Group.codes g.G.Group.dictionary c.args.m.now c.parts-parts.ensures.whole in
    rw c.parts-parts.ensures.parts some

pub read_group-requires-clause-codes : goal.read_group-requires-clause-codes
read_group-requires-clause-codes g c =
    let m = c.args.m.now in
    let codes = g.G.Group.codes in
    let dictionary = g.G.Group.dictionary in
    let items = c.parts-parts.result.now in
    let part = get_or items 0 c.index-parts-0.result in
    let whole = c.parts-parts.ensures.whole in
    let some : 0 < length items = rw c.parts-parts.ensures.parts (a_part g.N.Number.BITS codes dictionary m whole) in
    let read = part_read g.N.Number.BITS codes dictionary m items 0 part whole c.parts-parts.ensures.parts some
    (ap (get_or items 0) c.index-parts-0.is) in
    c.requires.codes ∙ sym read.is.a_code_each

pub read_group-requires-clause-tuples : goal.read_group-requires-clause-tuples
read_group-requires-clause-tuples g c =
    let m = c.args.m.now in
    let codes = g.G.Group.codes in
    let dictionary = g.G.Group.dictionary in
    let items = c.parts-parts.result.now in
    let part = get_or items 0 c.index-parts-0.result in
    let whole = c.parts-parts.ensures.whole in
    let some : 0 < length items = rw c.parts-parts.ensures.parts (a_part g.N.Number.BITS codes dictionary m whole) in
    let read = part_read g.N.Number.BITS codes dictionary m items 0 part whole c.parts-parts.ensures.parts some
    (ap (get_or items 0) c.index-parts-0.is) in
    let few = subst (λ (p : LayoutPart). length p.tuples ≤ length c.args.firsts.now) read.same
    (c.requires.tuples 0 read.within) in
    few

pub set_rows-requires-clause-rows : goal.set_rows-requires-clause-rows
set_rows-requires-clause-rows g c =
    c.requires.rows ∙ sym c.requires.codes ∙ sym c.read_group.auto.codes

pub set_rows-requires-clause-tuples : goal.set_rows-requires-clause-tuples
set_rows-requires-clause-tuples g c i lt =
    let m = c.args.m.now in
    let codes = g.G.Group.codes in
    let dictionary = g.G.Group.dictionary in
    let items = c.parts-parts.result.now in
    let part = get_or items 0 c.index-parts-0.result in
    let whole = c.parts-parts.ensures.whole in
    let some : 0 < length items = rw c.parts-parts.ensures.parts (a_part g.N.Number.BITS codes dictionary m whole) in
    let read = part_read g.N.Number.BITS codes dictionary m items 0 part whole c.parts-parts.ensures.parts some
    (ap (get_or items 0) c.index-parts-0.is) in
    let few = subst (λ (p : LayoutPart). length p.tuples ≤ length c.args.firsts.now) read.same
    (c.requires.tuples 0 read.within) in
    found_within g.N.Number.BITS (g.G.Group.columns part.group) (codes part.group) c.read_group.new.codes
    (dictionary part.group) (length c.read_group.new.firsts) i (g.met.G.Group.laws part.group)
    c.read_group.ensures.codes (omega (arith, few, c.read_group.auto.firsts)) lt

pub loop-q-init : goal.loop-q-init
loop-q-init g c i there =
    let m = c.args.m.now in
    let codes = g.G.Group.codes in
    let dictionary = g.G.Group.dictionary in
    let items = c.parts-parts.result.now in
    let part = get_or items 0 c.index-parts-0.result in
    let whole = c.parts-parts.ensures.whole in
    let some : 0 < length items = rw c.parts-parts.ensures.parts (a_part g.N.Number.BITS codes dictionary m whole) in
    let read = part_read g.N.Number.BITS codes dictionary m items 0 part whole c.parts-parts.ensures.parts some
    (ap (get_or items 0) c.index-parts-0.is) in
    let parts = parts_of codes dictionary m.parts in
    let row : i < m.rows = omega (arith, there, c.set_rows.auto.into, c.requires.rows) in
    let lt : i < length c.read_group.new.codes = omega (arith, row, c.requires.codes, c.read_group.auto.codes) in
    let first = group_row_read g.O.Order.before g.N.Number.BITS g.G.Group.columns codes dictionary m 0 part
    c.read_group.new.codes (map g.N.Number.value c.read_group.new.firsts) i (g.met.G.Group.laws part.group) read
    c.read_group.ensures.codes c.read_group.ensures.firsts row in
    row_one g.O.Order.before parts i (at (map g.N.Number.value c.set_rows.new.into) i)
    (subst (IsPartRowFirst g.O.Order.before i (part_at parts 0)) (sym (c.set_rows.ensures i lt)) first)

pub read_group-requires-in-loop-q-clause-codes : goal.read_group-requires-in-loop-q-clause-codes
read_group-requires-in-loop-q-clause-codes g c =
    let m = c.args.m.now in
    let codes = g.G.Group.codes in
    let dictionary = g.G.Group.dictionary in
    let items = c.parts-parts.result.now in
    let q = c.loop-q.q in
    let part = get_or items q c.index-parts-q.result in
    let whole = c.parts-parts.ensures.whole in
    let read = part_read g.N.Number.BITS codes dictionary m items q part whole c.parts-parts.ensures.parts
    (omega (arith, c.loop-q-test.true)) (ap (get_or items q) c.index-parts-q.is) in
    c.loop-q.auto.codes ∙ c.read_group.auto.codes ∙ c.requires.codes ∙ sym read.is.a_code_each

pub read_group-requires-in-loop-q-clause-tuples : goal.read_group-requires-in-loop-q-clause-tuples
read_group-requires-in-loop-q-clause-tuples g c =
    let m = c.args.m.now in
    let codes = g.G.Group.codes in
    let dictionary = g.G.Group.dictionary in
    let items = c.parts-parts.result.now in
    let q = c.loop-q.q in
    let part = get_or items q c.index-parts-q.result in
    let whole = c.parts-parts.ensures.whole in
    let read = part_read g.N.Number.BITS codes dictionary m items q part whole c.parts-parts.ensures.parts
    (omega (arith, c.loop-q-test.true)) (ap (get_or items q) c.index-parts-q.is) in
    let few = subst (λ (p : LayoutPart). length p.tuples ≤ length c.args.firsts.now) read.same
    (c.requires.tuples q read.within) in
    omega (arith, few, c.loop-q.auto.firsts, c.read_group.auto.firsts)

pub join_rows-requires-clause-rows : goal.join_rows-requires-clause-rows
join_rows-requires-clause-rows g c =
    c.loop-q.auto.into ∙ c.set_rows.auto.into ∙ c.requires.rows ∙ sym c.requires.codes ∙ sym c.read_group.auto.codes
    ∙ sym c.loop-q.auto.codes ∙ sym c.read_group-in-loop-q.auto.codes

pub join_rows-requires-clause-tuples : goal.join_rows-requires-clause-tuples
join_rows-requires-clause-tuples g c i lt =
    let m = c.args.m.now in
    let codes = g.G.Group.codes in
    let dictionary = g.G.Group.dictionary in
    let items = c.parts-parts.result.now in
    let q = c.loop-q.q in
    let part = get_or items q c.index-parts-q.result in
    let whole = c.parts-parts.ensures.whole in
    let read = part_read g.N.Number.BITS codes dictionary m items q part whole c.parts-parts.ensures.parts
    (omega (arith, c.loop-q-test.true)) (ap (get_or items q) c.index-parts-q.is) in
    let few = subst (λ (p : LayoutPart). length p.tuples ≤ length c.args.firsts.now) read.same
    (c.requires.tuples q read.within) in
    found_within g.N.Number.BITS (g.G.Group.columns part.group) (codes part.group) c.read_group-in-loop-q.new.codes
    (dictionary part.group) (length c.read_group-in-loop-q.new.firsts) i (g.met.G.Group.laws part.group)
    c.read_group-in-loop-q.ensures.codes
    (omega (arith, few, c.loop-q.auto.firsts, c.read_group.auto.firsts, c.read_group-in-loop-q.auto.firsts)) lt

pub loop-q-preserved : goal.loop-q-preserved
loop-q-preserved g c i there =
    let m = c.args.m.now in
    let codes = g.G.Group.codes in
    let dictionary = g.G.Group.dictionary in
    let items = c.parts-parts.result.now in
    let q = c.loop-q.q in
    let part = get_or items q c.index-parts-q.result in
    let whole = c.parts-parts.ensures.whole in
    let read = part_read g.N.Number.BITS codes dictionary m items q part whole c.parts-parts.ensures.parts
    (omega (arith, c.loop-q-test.true)) (ap (get_or items q) c.index-parts-q.is) in
    let parts = parts_of codes dictionary m.parts in
    let value = g.N.Number.value in
    let before : i < length c.loop-q.into = omega (arith, there, c.join_rows.auto.into) in
    let row : i < m.rows =
    omega (arith, before, c.loop-q.auto.into, c.set_rows.auto.into, c.requires.rows) in
    let found = c.read_group-in-loop-q.new.codes in
    let lt : i < length found =
    omega (
      arith,
      row,
      c.requires.codes,
      c.read_group.auto.codes,
      c.loop-q.auto.codes,
      c.read_group-in-loop-q.auto.codes,
    ) in
    let firsts = map value c.read_group-in-loop-q.new.firsts in
    let next =
    group_row_read g.O.Order.before g.N.Number.BITS g.G.Group.columns codes dictionary m q part found firsts i
    (g.met.G.Group.laws part.group) read c.read_group-in-loop-q.ensures.codes c.read_group-in-loop-q.ensures.firsts
    row in
    subst (IsFirstOfRow g.O.Order.before parts i (q + 1)) (sym (c.join_rows.ensures i lt))
    (row_more g.O.Order.before g.O.Order.choice g.met.O.Order.laws parts i q (at (map value c.loop-q.into) i)
    (at firsts (code_of found i)) (c.loop-q.invariant i before) next)

pub returns-clause-firsts : goal.returns-clause-firsts
returns-clause-firsts g c i row =
    let m = c.args.m.now in
    let codes = g.G.Group.codes in
    let dictionary = g.G.Group.dictionary in
    let parts = parts_of codes dictionary m.parts in
    let whole = c.parts-parts.ensures.whole in
    let long : length c.parts-parts.result.now ≡ length m.parts = ap length c.parts-parts.ensures.parts in
    let some = a_part g.N.Number.BITS codes dictionary m whole in
    let all : c.loop-q.q ≡ length parts =
    omega (arith, c.loop-q-test.false, c.loop-q.auto.q-end, long, some, parts_count codes dictionary m.parts) in
    let there : i < length c.loop-q.into =
    omega (arith, row, c.loop-q.auto.into, c.set_rows.auto.into, c.requires.rows) in
    let first = at (map g.N.Number.value c.loop-q.into) i in
    row_first g.O.Order.before g.N.Number.BITS (layout_of codes dictionary m) i first whole
    (subst (λ (n : ℕ). IsFirstOfRow g.O.Order.before parts i n first) all (c.loop-q.invariant i there))
