use Rattle.std.proofs.Common.{◌≡◌, length, map, sym, ap, ◌∙◌, subst}
use Rattle.std.proofs.lemmas.List.{length-map}
use Rattle.cla_layout.specs.Canonical.{IsCanonical}
use Rattle.cla_layout.specs.Layouts.{LayoutPart, IsWhole, layout_with}
use Rattle.cla_coded.specs.AnyGroups.{FormOf, any_codes, any_dictionary, any_form}
use Rattle.cla_coded.specs.Parts.{part_of, parts_of}
use Rattle.cla_grouping.specs.Grouping.{GroupOf}
use Rattle.cla_cocode.specs.declared.cut.LayoutGroup.{LayoutGroup}
use Rattle.cla_cocode.specs.Cuts.{group_seen}
use Rattle.cla_grouping.specs.Partitions.{ArePartitioned}
use Rattle.cla_cocode.proofs.Forms.{parts-canonical, own-forms}
use Rattle.cla_cocode.proofs.Partition.{cut-groups, cut-columns, parts-whole, parts-in_order, map-twice}
use Rattle.cla_cocode.proofs.built.build.Goals as goal

pub built_parts-requires : goal.built_parts-requires
built_parts-requires g c =
    let m = c.args.m.now in
    let groups = cut-groups m c.args.l.now c.cells.ensures.shape.a_col c.requires in
    cut-columns m c.deref.result.now
    (subst (λ gs. ArePartitioned m.cols (map (λ (x : LayoutGroup). x.columns.items) gs))
    (sym c.deref.ensures.value) groups)

pub new-requires : goal.new-requires
new-requires g c =
    let m = c.args.m.now in
    let bits = g.N.Number.BITS in
    let groups = cut-groups m c.args.l.now c.cells.ensures.shape.a_col c.requires in
    let parts = parts_of any_codes any_dictionary c.in_ok-parts.parts.items in
    let same = map-twice (λ (p : LayoutPart). p.columns) (part_of any_codes any_dictionary) c.in_ok-parts.parts.items
    ∙ c.in_ok-parts.ensures.columns ∙ ap (map (λ (x : LayoutGroup). x.columns.items)) c.deref.ensures.value in
    subst (λ n. IsWhole bits (layout_with n c.cols.result parts)) (sym c.rows.ensures)
    (subst (λ n. IsWhole bits (layout_with m.rows n parts)) (sym c.cols.ensures)
    (parts-whole bits m c.cells.result.now parts _ c.cells.ensures.shape groups same c.in_ok-parts.ensures.built))

pub returns-clause-columns : goal.returns-clause-columns
returns-clause-columns g c =
    rw c.new.ensures (c.in_ok-parts.ensures.columns ∙ ap (map (λ (x : LayoutGroup). x.columns.items))
    c.deref.ensures.value
    ∙ sym (map-twice (λ (x : GroupOf). x.columns) group_seen c.args.l.now.groups.items))

pub returns-clause-kinds : goal.returns-clause-kinds
returns-clause-kinds g c =
    rw c.new.ensures (c.in_ok-parts.ensures.kinds ∙ ap (map (λ (x : LayoutGroup). x.kind)) c.deref.ensures.value
    ∙ sym (map-twice (λ (x : GroupOf). x.kind) group_seen c.args.l.now.groups.items))

pub returns-clause-canonical : goal.returns-clause-canonical
returns-clause-canonical g c =
    let m = c.args.m.now in
    let bits = g.N.Number.BITS in
    let groups = cut-groups m c.args.l.now c.cells.ensures.shape.a_col c.requires in
    let items = c.in_ok-parts.parts.items in
    let parts = parts_of any_codes any_dictionary items in
    let forms = map (λ p. any_form p.group) items in
    let same = map-twice (λ (p : LayoutPart). p.columns) (part_of any_codes any_dictionary) items
    ∙ c.in_ok-parts.ensures.columns ∙ ap (map (λ (x : LayoutGroup). x.columns.items)) c.deref.ensures.value in
    let whole = parts-whole bits m c.cells.result.now parts _ c.cells.ensures.shape groups same
    c.in_ok-parts.ensures.built in
    let count : length forms ≡ length parts = length-map items (λ p. any_form p.group)
    ∙ sym (length-map items (part_of any_codes any_dictionary)) in
    let is = parts-canonical bits m.rows m.cols parts forms count whole
    (parts-in_order m.cols parts _ groups same) c.in_ok-parts.ensures.in_form in
    let kinds = map-twice (λ (f : FormOf). f.kind) (λ p. any_form p.group) items in
    rw c.new.ensures
    (subst (λ n. IsCanonical bits (layout_with n c.cols.result parts) (map (λ p. (any_form p.group).kind) items))
    (sym c.rows.ensures)
    (subst (λ n. IsCanonical bits (layout_with m.rows n parts) (map (λ p. (any_form p.group).kind) items))
    (sym c.cols.ensures)
    (subst (IsCanonical bits (layout_with m.rows m.cols parts)) kinds is)))

pub returns-clause-forms : goal.returns-clause-forms
returns-clause-forms g c =
    let items = c.in_ok-parts.parts.items in
    rw c.new.ensures (own-forms (parts_of any_codes any_dictionary items)
    (map (λ p. any_form p.group) items) c.in_ok-parts.ensures.in_form)
