-- The table of a cut has the layout of its matrix by the rule.
use Rattle.std.proofs.Common.{◌≡◌, ℕ, ℤ, List, length, map, Option, Result, Ok, Err, sym, ap, subst, ◌∙◌, IfOk, []}
use Rattle.std.proofs.Common.{Some, None, ◌≤◌}
use Rattle.std.proofs.lemmas.List.{length-map}
use Rattle.std.specs.Prelude.{OnOk}
use Rattle.std.proofs.lemmas.Simd.{map-map}
use Rattle.cla_spec.specs.Matrix.{Matrix, IsShaped, IsWellMade}
use Rattle.cla_layout.specs.declared.kind.Kind.{Kind}
use Rattle.cla_layout.specs.Canonical.{IsCanonical}
use Rattle.cla_layout.specs.Layouts.{LayoutPart, Layout, StandsFor}
use Rattle.cla_layout.proofs.Matrices.{one_matrix, well_made}
use Rattle.cla_grouping.specs.Grouping.{CutOf, GroupOf, grouping_of}
use Rattle.cla_coded.specs.Parts.{part_of}
use Rattle.cla_coded.specs.Tables.{TableOf, layout_of}
use Rattle.cla_io.specs.declared.stop.OutFault.{OutFault}
use Rattle.cla_packed.specs.Layouts.{encoded, first_bad_field}
use Rattle.cla_packed_laws.proofs.Encoded.{no_bad_field}
use Rattle.cla_io.specs.Sinks.{Grows, PutsAll}
use Rattle.cla_pack.specs.Packing.{kinds_by_rule, packed_file_of, IsLayoutByRule}
use Rattle.cla_pack.proofs.LayoutsBy.{by_rule_is_one}

-- what follows where a call answers Ok
pub on_ok : {T E : Type 0} (P Q : T → Type 0) (result : Result T E) → ((x : T) → P x → Q x) → IfOk result P
    → IfOk result Q
on_ok P Q (Ok x) follows h = follows x h
on_ok P Q (Err e) follows h = tt

-- the cells of a matrix, as they are kept and as they are seen
shaped_as : {N : Type 0} (value : N → ℤ) (m : Matrix) (cells : List N) → map value cells ≡ m.cells
    → IsShaped m.rows m.cols cells → IsShaped m.rows m.cols m.cells
shaped_as value m cells same shape = record {
  a_row = shape.a_row;
  a_col = shape.a_col;
  count = sym (ap (λ (vs : List ℤ). length vs) same) ∙ length-map cells value ∙ shape.count;
  few = shape.few;
}

module _ {G : Type 0} (codes : G → List ℕ) (dictionary : G → List (List ℤ)) (kinds : TableOf G → List Kind) where
  pub built_by_rule : {N E : Type 0} (bits : ℕ) (value : N → ℤ) (m : Matrix) (cells : List N) (cut : CutOf)
      (result : Result (TableOf G) E)
      → map value cells ≡ m.cells → IsShaped m.rows m.cols cells → cut ≡ grouping_of m
      → IfOk result (λ t. StandsFor (layout_of codes dictionary t) m)
      → IfOk result (λ t. map (λ p. p.columns.items) t.parts ≡ map (λ g. g.columns) cut.groups)
      → IfOk result (λ t. kinds t ≡ map (λ g. g.kind) cut.groups)
      → IfOk result (λ t. IsCanonical bits (layout_of codes dictionary t) (kinds t))
      → IfOk result (λ t. IsLayoutByRule bits m (layout_of codes dictionary t))
  built_by_rule bits value m cells cut (Ok t) same shape rule stands columns kinds_are canonical =
      let layout = layout_of codes dictionary t in
      let by_rule = kinds_are ∙ ap (λ (c : CutOf). map (λ (g : GroupOf). g.kind) c.groups) rule in
      record {
        canonical = subst (IsCanonical bits layout) by_rule canonical;
        matrix = sym (one_matrix bits layout m canonical.whole (shaped_as value m cells same shape) stands);
        has_columns = map-map (λ (part : LayoutPart). part.columns) (part_of codes dictionary) t.parts
            ∙ columns ∙ ap (λ (c : CutOf). map (λ (g : GroupOf). g.columns) c.groups) rule;
      }
  built_by_rule bits value m cells cut (Err e) same shape rule stands columns kinds_are canonical = tt

-- what is put of a layout by the rule is the packed file of its matrix
pub puts_file : {U : Type 0} (bits : ℕ) (m : Matrix) (layout : Layout) (kinds : List Kind) (old new : Option (List ℕ))
    (result : Result U OutFault) → IsLayoutByRule bits m layout → kinds ≡ kinds_by_rule m
    → PutsAll (encoded 8 layout kinds) old new result → PutsAll (packed_file_of m) old new result
puts_file {U} bits m layout kinds old new result is kinds_are puts =
    let well : IsWellMade bits m = subst (IsWellMade bits) is.matrix (well_made bits layout is.canonical.whole) in
    subst (λ (l : Layout). PutsAll {U = U} (encoded 8 l (kinds_by_rule m)) old new result)
    (by_rule_is_one bits m layout well is)
    (subst (λ (ks : List Kind). PutsAll {U = U} (encoded 8 layout ks) old new result) kinds_are puts)

-- what an empty sink has then is read back
pub read_back : {U : Type 0} (bits : ℕ) (layout : Layout) (kinds : List Kind) (old new : Option (List ℕ))
    (result : Result U OutFault)
    → IsCanonical bits layout kinds → PutsAll (encoded 8 layout kinds) old new result
    → (limit : ℕ) (file : List ℕ) → bits ≡ 47 → old ≡ Some [] → new ≡ Some file → length file ≤ limit
    → OnOk result (first_bad_field 8 47 limit file ≡ None)
read_back bits layout kinds old new (Ok u) canonical puts limit file narrow empty told small =
    let bytes = encoded 8 layout kinds in
    let grown : Grows (Some []) new bytes = subst (λ (o : Option (List ℕ)). Grows o new bytes) empty puts in
    let both : Some bytes ≡ Some file = sym grown ∙ told in
    let same : bytes ≡ file = cc in
    subst (λ (f : List ℕ). first_bad_field 8 47 limit f ≡ None) same
    (no_bad_field limit layout kinds (subst (λ (b : ℕ). IsCanonical b layout kinds) narrow canonical)
    (subst (λ (f : List ℕ). length f ≤ limit) (sym same) small))
read_back bits layout kinds old new (Err e) canonical puts limit file narrow empty told small = tt
