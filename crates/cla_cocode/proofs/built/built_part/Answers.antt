use Rattle.std.proofs.Common.{◌≡◌, ◌*◌, ◌/◌, length, map, sym, ap, ◌∙◌, subst, arith}
use Rattle.std.proofs.lemmas.List.{length-map}
use Rattle.cla_layout.specs.Groups.{cell_of, IsGroup}
use Rattle.cla_layout.specs.Tuples.{AreCodes, tuples_of}
use Rattle.cla_rows.specs.Counted.{AreCounted}
use Rattle.cla_grouping.specs.Tuples.{TuplesOf, AreTuples, tuples_in, same_tuple}
use Rattle.cla_grouping.proofs.TupleLemmas.{length-codes_by}
use Rattle.cla_coded.specs.AnyGroups.{any_columns, any_codes, any_dictionary, any_form, any_law}
use Rattle.cla_coded.specs.Parts.{part_of}
use Rattle.cla_grouping.proofs.FirstRows.{codes_by-numbered}
use Rattle.cla_layout.proofs.Tuples.{tuples_count}
use Rattle.cla_layout.specs.Canonical.{AreDistinct}
use Rattle.cla_layout.specs.Groups.{AreNumbered}
use Rattle.cla_cocode.proofs.Forms.{in-form, tuples-distinct}
use Rattle.cla_cocode.proofs.PartLemmas.{first_rows-within, values-count, are-codes, cells-are, tuples-count, has-rows}
use Rattle.cla_cocode.proofs.PartLemmas.{has-cells}
use Rattle.cla_cocode.proofs.built.built_part.Goals as goal

pub values_of-requires-clause-rows : goal.values_of-requires-clause-rows
values_of-requires-clause-rows g c =
    let t = tuples_in c.args.m.now c.args.columns.now in
    let codes : c.codes.result.now ≡ t.codes = c.codes.ensures.codes
    ∙ ap (λ (x : TuplesOf). x.codes) c.in_ok-tuples.ensures in
    let distinct : c.distinct.result ≡ t.distinct = c.distinct.ensures
    ∙ ap (λ (x : TuplesOf). x.distinct) c.in_ok-tuples.ensures in
    let counts = c.in_ok-first_rows.field-0.counts.items in
    let rows = c.deref.result.now in
    let counted : AreCounted t.codes t.distinct counts rows =
    subst (AreCounted t.codes t.distinct counts) (sym c.deref.ensures.value)
    (subst (λ n. AreCounted t.codes n counts c.in_ok-first_rows.field-0.first_rows.items) distinct
    (subst (λ x. AreCounted x c.distinct.result counts c.in_ok-first_rows.field-0.first_rows.items) codes
    c.in_ok-first_rows.ensures)) in
    first_rows-within c.args.m.now c.args.columns.now counts rows counted

pub from_codes-requires : goal.from_codes-requires
from_codes-requires g c =
    let m = c.args.m.now in
    let columns = c.args.columns.now in
    let t = tuples_in m columns in
    let distinct : c.distinct.result ≡ t.distinct = c.distinct.ensures
    ∙ ap (λ (x : TuplesOf). x.distinct) c.in_ok-tuples.ensures in
    let codes : c.codes-2.result.now ≡ t.codes = c.codes-2.ensures.codes
    ∙ ap (λ (x : TuplesOf). x.codes) c.in_ok-tuples.ensures in
    let width : c.width.result ≡ length columns = c.width.ensures
    ∙ ap (λ (x : TuplesOf). x.width) c.in_ok-tuples.ensures in
    let values = c.in_ok-values.values.items in
    let rows = c.deref.result.now in
    let each : length rows ≡ t.distinct = ap length c.deref.ensures.value ∙ c.in_ok-first_rows.ensures.a_row_each
    ∙ distinct in
    let count : length values ≡ t.distinct * length columns =
    sym (length-map values g.N.Number.value) ∙ ap length c.in_ok-values.ensures ∙ values-count m columns rows
    ∙ ap (λ n. n * length columns) each in
    let are : AreTuples t = subst AreTuples c.in_ok-tuples.ensures c.codes-2.ensures.are in
    subst (λ w. AreCodes w (length values / w) c.codes-2.result.now (length values)) (sym width)
    (subst (λ x. AreCodes (length columns) (length values / length columns) x (length values)) (sym codes)
    (are-codes m columns (length values) are count))

pub returns-clause-rows : goal.returns-clause-rows
returns-clause-rows g c =
    let m = c.args.m.now in
    let columns = c.args.columns.now in
    has-rows _ c.codes-2.result.now _ (any_codes c.in_ok-group.group)
    (any_dictionary c.in_ok-group.group) _ c.in_ok-group.ensures.has
    ∙ ap length (c.codes-2.ensures.codes ∙ ap (λ (x : TuplesOf). x.codes) c.in_ok-tuples.ensures)
    ∙ length-codes_by (same_tuple m columns) m.rows

pub returns-clause-entries : goal.returns-clause-entries
returns-clause-entries g c =
    let m = c.args.m.now in
    let columns = c.args.columns.now in
    let t = tuples_in m columns in
    let xs = c.codes-2.result.now in
    let group = c.in_ok-group.group in
    let values = map g.N.Number.value c.in_ok-values.values.items in
    let counts = c.in_ok-first_rows.field-0.counts.items in
    let rows = c.deref.result.now in
    let first_codes : c.codes.result.now ≡ t.codes = c.codes.ensures.codes
    ∙ ap (λ (x : TuplesOf). x.codes) c.in_ok-tuples.ensures in
    let codes : xs ≡ t.codes = c.codes-2.ensures.codes ∙ ap (λ (x : TuplesOf). x.codes) c.in_ok-tuples.ensures in
    let distinct : c.distinct.result ≡ t.distinct = c.distinct.ensures
    ∙ ap (λ (x : TuplesOf). x.distinct) c.in_ok-tuples.ensures in
    let width : c.width.result ≡ length columns = c.width.ensures
    ∙ ap (λ (x : TuplesOf). x.width) c.in_ok-tuples.ensures in
    let counted : AreCounted t.codes t.distinct counts rows =
    subst (AreCounted t.codes t.distinct counts) (sym c.deref.ensures.value)
    (subst (λ n. AreCounted t.codes n counts c.in_ok-first_rows.field-0.first_rows.items) distinct
    (subst (λ x. AreCounted x c.distinct.result counts c.in_ok-first_rows.field-0.first_rows.items) first_codes
    c.in_ok-first_rows.ensures)) in
    let are : AreTuples t = subst AreTuples c.in_ok-tuples.ensures c.codes-2.ensures.are in
    let long = ap length codes ∙ length-codes_by (same_tuple m columns) m.rows in
    let items = c.in_ok-values.values.items in
    let count : length items ≡ t.distinct * length columns =
    sym (length-map items g.N.Number.value) ∙ ap length c.in_ok-values.ensures ∙ values-count m columns rows
    ∙ ap (λ n. n * length columns) counted.a_row_each in
    let n : length items / length columns ≡ t.distinct = tuples-count t.distinct (length columns)
    (length items) are.a_column count in
    λ i k row place.
    has-cells _ xs _ (any_codes group) (any_dictionary group) c.width.result i k c.in_ok-group.ensures.has
    (omega (arith, row, long)) (omega (arith, place, width))
    ∙ ap (λ x. cell_of x (tuples_of c.width.result (length items / c.width.result) values) i k) codes
    ∙ ap (λ w. cell_of t.codes (tuples_of w (length items / w) values) i k) width
    ∙ cells-are m columns counts rows (length items / length columns) values are counted c.in_ok-values.ensures n i k
    row place

pub returns-clause-group : goal.returns-clause-group
returns-clause-group g c =
    let group = c.in_ok-group.group in
    let width = c.in_ok-group.ensures.columns_are ∙ c.width.ensures
    ∙ ap (λ (x : TuplesOf). x.width) c.in_ok-tuples.ensures in
    subst (λ w. IsGroup g.N.Number.BITS w (any_codes group) (any_dictionary group)) width (any_law group)

pub returns-clause-in_form : goal.returns-clause-in_form
returns-clause-in_form g c =
    let m = c.args.m.now in
    let columns = c.args.columns.now in
    let t = tuples_in m columns in
    let xs = c.codes-2.result.now in
    let items = c.in_ok-values.values.items in
    let values = map g.N.Number.value items in
    let counts = c.in_ok-first_rows.field-0.counts.items in
    let rows = c.deref.result.now in
    let first_codes : c.codes.result.now ≡ t.codes = c.codes.ensures.codes
    ∙ ap (λ (x : TuplesOf). x.codes) c.in_ok-tuples.ensures in
    let codes : xs ≡ t.codes = c.codes-2.ensures.codes ∙ ap (λ (x : TuplesOf). x.codes) c.in_ok-tuples.ensures in
    let distinct : c.distinct.result ≡ t.distinct = c.distinct.ensures
    ∙ ap (λ (x : TuplesOf). x.distinct) c.in_ok-tuples.ensures in
    let width : c.width.result ≡ length columns = c.width.ensures
    ∙ ap (λ (x : TuplesOf). x.width) c.in_ok-tuples.ensures in
    let counted : AreCounted t.codes t.distinct counts rows =
    subst (AreCounted t.codes t.distinct counts) (sym c.deref.ensures.value)
    (subst (λ n. AreCounted t.codes n counts c.in_ok-first_rows.field-0.first_rows.items) distinct
    (subst (λ x. AreCounted x c.distinct.result counts c.in_ok-first_rows.field-0.first_rows.items) first_codes
    c.in_ok-first_rows.ensures)) in
    let are : AreTuples t = subst AreTuples c.in_ok-tuples.ensures c.codes-2.ensures.are in
    let count : length items ≡ t.distinct * length columns =
    sym (length-map items g.N.Number.value) ∙ ap length c.in_ok-values.ensures ∙ values-count m columns rows
    ∙ ap (λ n. n * length columns) counted.a_row_each in
    let n : length items / length columns ≡ t.distinct = tuples-count t.distinct (length columns)
    (length items) are.a_column count in
    let group = c.in_ok-group.group in
    let tuples = tuples_of (length columns) (length items / length columns) values in
    let numbered : AreNumbered xs (length tuples) =
    subst (λ k. AreNumbered xs k) (sym (tuples_count (length columns) (length items / length columns) values ∙ n))
    (subst (λ cs. AreNumbered cs t.distinct) (sym codes) (codes_by-numbered (same_tuple m columns) m.rows)) in
    let apart : AreDistinct tuples = tuples-distinct m columns counts rows
    (length items / length columns) values counted c.in_ok-values.ensures n in
    let same : tuples ≡ tuples_of c.width.result (length items / c.width.result) values =
    ap (λ w. tuples_of w (length items / w) values) (sym width) in
    in-form c.args.kind g.N.Number.BITS c.width.result (any_columns group) (any_columns group) xs _ (any_form group)
    (part_of any_codes any_dictionary (record { columns = c.in_ok-columns.columns; group = group }))
    (subst (λ ts. AreNumbered xs (length ts)) same numbered) (subst AreDistinct same apart)
    (any_law group) c.in_ok-group.ensures
