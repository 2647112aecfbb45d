use Rattle.std.proofs.Common.{[], ◌∷◌, ◌++◌, length, map, sym, ap, ◌∙◌, subst}
use Rattle.std.proofs.lemmas.List.{get_or-map, map-append, length-map}
use Rattle.cla_layout.specs.Groups.{IsGroup}
use Rattle.cla_grouping.specs.Tuples.{AreColumns}
use Rattle.cla_coded.specs.AnyGroups.{any_codes, any_dictionary, any_form}
use Rattle.cla_coded.specs.Parts.{part_of, parts_of}
use Rattle.cla_coded.proofs.Outlines.{mapped_more}
use Rattle.cla_cocode.specs.declared.cut.LayoutGroup.{LayoutGroup}
use Rattle.cla_cocode.specs.Built.{IsBuilt, AreBuilt, AreInForm, HasEntries}
use Rattle.cla_cocode.proofs.Forms.{form-push}
use Rattle.cla_cocode.proofs.PartLemmas.{built-push}
use Rattle.cla_cocode.proofs.built.built_parts.Goals as goal

pub built_part-requires : goal.built_part-requires
built_part-requires g c =
    let groups = c.args.groups.now in
    let i = c.loop-group.group-index in
    let there = c.loop-group-test.true in
    subst (AreColumns c.args.m.now.cols)
    (get_or-map (λ (x : LayoutGroup). x.columns.items) groups i c.group-item.result [] there
    ∙ ap (λ (x : LayoutGroup). x.columns.items) (sym c.group-item.is) ∙ sym c.deref.ensures.value)
    (c.requires i there)

pub loop-group-preserved : goal.loop-group-preserved
loop-group-preserved g c =
    let groups = c.args.groups.now in
    let i = c.loop-group.group-index in
    let there = c.loop-group-test.true in
    let done = c.loop-group.parts.items in
    let next = c.in_ok-built_part.field-0 in
    let made = c.in_ok-built_part.ensures in
    let is : IsBuilt g.N.Number.BITS c.args.m.now (part_of any_codes any_dictionary next) = record {
      a_code_each = made.rows;
      group = subst (λ cs. IsGroup g.N.Number.BITS (length cs) (any_codes next.group) (any_dictionary next.group))
          (sym made.columns) made.group;
      entries = subst (λ cs. HasEntries c.args.m.now cs (any_codes next.group) (any_dictionary next.group))
          (sym made.columns) made.entries;
    } in
    rw c.in_ok-push.ensures.items (record {
      columns = mapped_more (λ (x : LayoutGroup). x.columns.items)
          (λ p. p.columns.items) groups i c.group-item.result done next there c.group-item.is
          c.loop-group.invariant.columns (made.columns ∙ c.deref.ensures.value);
      kinds = mapped_more (λ (x : LayoutGroup). x.kind) (λ p. (any_form p.group).kind) groups i c.group-item.result done
          next there c.group-item.is
          c.loop-group.invariant.kinds made.kind;
      built = subst (AreBuilt g.N.Number.BITS c.args.m.now)
          (sym (map-append (part_of any_codes any_dictionary) done (next ∷ [])))
          (built-push (IsBuilt g.N.Number.BITS c.args.m.now) (parts_of any_codes any_dictionary done) _
          c.loop-group.invariant.built is);
      in_form = subst (λ fs. AreInForm fs (parts_of any_codes any_dictionary (done ++ next ∷ [])))
          (sym (map-append (λ p. any_form p.group) done (next ∷ [])))
          (subst (AreInForm _) (sym (map-append (part_of any_codes any_dictionary) done (next ∷ [])))
          (form-push (map (λ p. any_form p.group) done) (parts_of any_codes any_dictionary done) _ _
          (length-map done (λ p. any_form p.group) ∙ sym (length-map done (part_of any_codes any_dictionary)))
          c.loop-group.invariant.in_form made.in_form));
    })
