use Rattle.std.proofs.Common.{◌∙◌, map, ap, sym}
use Rattle.cla_layout.specs.Layouts.{layout_with}
use Rattle.cla_coded.specs.Outlines.{outline}
use Rattle.cla_coded.specs.Parts.{part_of}
use Rattle.cla_coded.specs.AnyGroups.{any_columns, any_codes, any_dictionary, any_form}
use Rattle.cla_coded.proofs.Outlines.{mapped_more, mapped_all}
use Rattle.cla_coded.proofs.coded.copy.Goals as goal

pub loop-part-preserved : goal.loop-part-preserved
loop-part-preserved g c =
    let items = c.parts-part-items.result.now in
    let i = c.loop-part.part-index in
    let more = c.in_ok-copy_part.ensures in
    let copy = c.in_ok-copy_part.field-0 in
    let done = c.loop-part.parts.items in
    let so_far = c.loop-part.invariant in
    rw c.in_ok-push.ensures.items (record {
      outlines = mapped_more (outline any_columns any_codes) _ items i c.part-item.result done copy
          c.loop-part-test.true c.part-item.is so_far.outlines more.outline;
      parts = mapped_more (part_of any_codes any_dictionary) _ items i c.part-item.result done copy
          c.loop-part-test.true c.part-item.is so_far.parts more.part;
      forms = mapped_more (λ part. any_form part.group) _ items i c.part-item.result done copy
          c.loop-part-test.true c.part-item.is so_far.forms more.form;
    })

pub with_parts-requires : goal.with_parts-requires
with_parts-requires g c =
    let view = outline any_columns any_codes in
    rw (sym c.parts-part-items.ensures.parts)
    (mapped_all view view c.parts-part-items.result.now c.loop-part.part-index _ c.loop-part-test.false
    c.loop-part.invariant.outlines)

pub returns-clause-layout : goal.returns-clause-layout
returns-clause-layout g c =
    let view = part_of any_codes any_dictionary in
    let all = mapped_all view view c.parts-part-items.result.now c.loop-part.part-index _ c.loop-part-test.false
    c.loop-part.invariant.parts in
    rw c.with_parts.ensures
    (ap (λ parts. layout_with c.args.m.now.rows c.args.m.now.cols parts) (all
    ∙ ap (map view) c.parts-part-items.ensures.parts))

pub returns-clause-forms : goal.returns-clause-forms
returns-clause-forms g c =
    let all = mapped_all (λ part. any_form part.group) _ c.parts-part-items.result.now c.loop-part.part-index _
    c.loop-part-test.false
    c.loop-part.invariant.forms in
    rw c.with_parts.ensures (all ∙ ap (map (λ part. any_form part.group)) c.parts-part-items.ensures.parts)
