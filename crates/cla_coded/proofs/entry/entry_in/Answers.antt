use Rattle.std.proofs.Common.{arith, inl, inr}
use Rattle.std.proofs.lemmas.Bool.{cases_eq}
use Rattle.cla_coded.specs.Parts.{parts_of}
use Rattle.cla_layout.proofs.Columns.{entry_at, nowhere_listed}
use Rattle.cla_coded.proofs.Outlines.{part_of_item, part_of_whole, parts_count}
use Rattle.cla_coded.proofs.entry.entry_in.Goals as goal

pub value_in-requires-clause-part : goal.value_in-requires-clause-part
value_in-requires-clause-part g c =
    let part = part_of_whole _ _ _ _ _ c.args.parts.now _ _ c.requires.2 c.loop-part-test.true c.part-item.is in
    rw part.a_code_each part

pub value_in-requires-clause-row : goal.value_in-requires-clause-row
value_in-requires-clause-row g c =
    let part = part_of_whole _ _ _ _ _ c.args.parts.now _ _ c.requires.2 c.loop-part-test.true c.part-item.is in
    omega (arith, part.a_code_each, c.requires.3)

pub returns-in-Some : goal.returns-in-Some
returns-in-Some g c =
    let codes_of = g.G.Group.codes in
    let dictionary_of = g.G.Group.dictionary in
    let parts = c.args.parts.now in
    let is = part_of_item codes_of dictionary_of parts c.loop-part.part-index c.part-item.result c.loop-part-test.true
    c.part-item.is in
    let entry = entry_at (parts_of codes_of dictionary_of parts) c.loop-part.part-index c.args.i c.args.j
    (rw (parts_count codes_of dictionary_of parts) c.loop-part-test.true) c.loop-part.invariant
    (rw is c.in-Some.ensures.0) in
    rw (entry, is) c.in-Some.ensures.1

pub loop-part-preserved : goal.loop-part-preserved
loop-part-preserved g c q lt =
    let codes_of = g.G.Group.codes in
    let dictionary_of = g.G.Group.dictionary in
    let parts = c.args.parts.now in
    let is = part_of_item codes_of dictionary_of parts c.loop-part.part-index c.part-item.result c.loop-part-test.true
    c.part-item.is in
    elim (cases_eq q c.loop-part.part-index) [
      | inl same ↦ rw (same, is) c.in_default.ensures
      | inr other ↦ c.loop-part.invariant q (grind (arith, lt, other))
    ]

pub unreachable-requires : goal.unreachable-requires
unreachable-requires g c =
    let codes_of = g.G.Group.codes in
    let dictionary_of = g.G.Group.dictionary in
    let parts = parts_of codes_of dictionary_of c.args.parts.now in
    let count = parts_count codes_of dictionary_of c.args.parts.now in
    let none =
    nowhere_listed parts c.args.j
    (λ q lt. c.loop-part.invariant q (omega (arith, lt, count, c.loop-part-test.false))) in
    let once = c.requires.2.partition.once c.args.j c.requires.4 in
    absurd (omega (arith, none, once))
