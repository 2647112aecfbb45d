-- The layout of a matrix by parted columns and their kinds is canonical, and each canonical layout is such a one.
use Rattle.std.proofs.Common.{◌≡◌, ℕ, ◌+◌, ◌<◌, List, [], ◌∷◌, length, map, get_or, refl, sym, ap, subst, ◌∙◌, zero}
use Rattle.std.proofs.Common.{suc, arith}
use Rattle.std.proofs.lemmas.List.{get_or-map, length-map}
use Rattle.cla_spec.specs.Matrix.{Matrix, IsWellMade}
use Rattle.cla_layout.specs.declared.kind.Kind.{Kind}
use Rattle.cla_layout.specs.Canonical.{IsCanonical, kind_at}
use Rattle.cla_layout.specs.Groups.{code_of}
use Rattle.cla_layout.specs.Layouts.{LayoutPart, Layout, StandsFor, IsPartition, IsWhole, part_at, no_part}
use Rattle.cla_layout.specs.Layouts.{layout_with, all_columns, count_of, matrix_in}
use Rattle.cla_layout.proofs.Matrices.{one_matrix, well_made}
use Rattle.cla_layout.proofs.Wholes.{own_column, own_column_within}
use Rattle.cla_grouping.specs.Grouping.{GroupOf, grouping_of}
use Rattle.cla_grouping.specs.Partitions.{columns_in, times_in, ArePartitioned}
use Rattle.cla_grouping.specs.Tuples.{AreColumns}
use Rattle.cla_grouping.proofs.Partition.{count-append, cut-partition}
use Rattle.cla_packed_laws.proofs.Fixed.{layout_fixed}
use Rattle.cla_cocode.specs.Built.{AreBuilt}
use Rattle.cla_pack.specs.Layouts.{part_by, parts_by, layout_by, IsLayoutBy}
use Rattle.cla_pack.specs.Packing.{kinds_by_rule, layout_by_rule, IsLayoutByRule}
use Rattle.cla_pack.proofs.PartsBy.{IsInKind, in_kind}

abbrev columns_of : List LayoutPart → List (List ℕ)
columns_of parts = map (λ (part : LayoutPart). part.columns) parts

-- ---- the parts by columns and kinds

parts_columns : (m : Matrix) (columns : List (List ℕ)) (kinds : List Kind) → length kinds ≡ length columns
    → columns_of (parts_by m columns kinds) ≡ columns
parts_columns m [] kinds same = refl
parts_columns m (some ∷ columns) [] same = absurd (omega (arith, same))
parts_columns m (some ∷ columns) (k ∷ kinds) same =
    ap (λ (l : List (List ℕ)). some ∷ l) (parts_columns m columns kinds (omega (arith, same)))

parts_count : (m : Matrix) (columns : List (List ℕ)) (kinds : List Kind) → length kinds ≡ length columns
    → length (parts_by m columns kinds) ≡ length columns
parts_count m columns kinds same =
    sym (length-map (parts_by m columns kinds) (λ (part : LayoutPart). part.columns))
    ∙ ap (λ (l : List (List ℕ)). length l) (parts_columns m columns kinds same)

part_there : (m : Matrix) (columns : List (List ℕ)) (kinds : List Kind) (q : ℕ) → length kinds ≡ length columns
    → q < length columns → part_at (parts_by m columns kinds) q ≡ part_by m (get_or columns q []) (kind_at kinds q)
part_there m [] kinds q same there = absurd (omega (arith, there))
part_there m (some ∷ columns) [] q same there = absurd (omega (arith, same))
part_there m (some ∷ columns) (k ∷ kinds) zero same there = refl
part_there m (some ∷ columns) (k ∷ kinds) (suc q) same there =
    part_there m columns kinds q (omega (arith, same)) (omega (arith, there))

part_in_kind : (bits : ℕ) (m : Matrix) (columns : List (List ℕ)) (kinds : List Kind) (q : ℕ) → IsWellMade bits m
    → ArePartitioned m.cols columns → length kinds ≡ length columns → q < length (parts_by m columns kinds)
    → IsInKind bits m (kind_at kinds q) (part_at (parts_by m columns kinds) q)
part_in_kind bits m columns kinds q well are same there =
    let lt : q < length columns = omega (arith, there, parts_count m columns kinds same) in
    subst (IsInKind bits m (kind_at kinds q)) (sym (part_there m columns kinds q same lt))
    (in_kind bits m (get_or columns q []) (kind_at kinds q) well (are.each q lt))

-- ---- the columns of parts

column_lists : (parts : List LayoutPart) (q : ℕ) → q < length parts
    → get_or (columns_of parts) q [] ≡ (part_at parts q).columns
column_lists parts q lt = get_or-map (λ (part : LayoutPart). part.columns) parts q no_part [] lt

times_all : (j : ℕ) (parts : List LayoutPart) → count_of (all_columns parts) j ≡ times_in (columns_of parts) j
times_all j [] = refl
times_all j (part ∷ parts) =
    count-append j part.columns (all_columns parts) ∙ ap (λ (n : ℕ). count_of part.columns j + n) (times_all j parts)

parted : (n : ℕ) (parts : List LayoutPart) (columns : List (List ℕ)) → ArePartitioned n columns
    → columns_of parts ≡ columns → IsPartition n (all_columns parts)
parted n parts columns are have = record {
  once = λ j there. times_all j parts ∙ ap (λ (l : List (List ℕ)). times_in l j) have ∙ are.once j there;
  no_other = λ j past. times_all j parts ∙ ap (λ (l : List (List ℕ)). times_in l j) have ∙ are.no_other j past;
}

part_columns : (n : ℕ) (parts : List LayoutPart) (columns : List (List ℕ)) (q : ℕ) → ArePartitioned n columns
    → columns_of parts ≡ columns → q < length parts → AreColumns n (part_at parts q).columns
part_columns n parts columns q are have lt =
    subst (λ (l : List (List ℕ)). ArePartitioned n l → AreColumns n (part_at parts q).columns) have (λ these.
    subst (AreColumns n) (column_lists parts q lt)
    (these.each q (omega (arith, lt, length-map parts (λ (part : LayoutPart). part.columns))))) are

-- parts stand in the order of their first columns
ordered : (n : ℕ) (parts : List LayoutPart) → ArePartitioned n (columns_of parts) → (q r : ℕ) → q < r
    → r < length parts → code_of (part_at parts q).columns 0 < code_of (part_at parts r).columns 0
ordered n parts are q r before there =
    let count = length-map parts (λ (part : LayoutPart). part.columns) in
    let one = ap (λ (l : List ℕ). code_of l 0) (column_lists parts q (omega (arith, before, there))) in
    let two = ap (λ (l : List ℕ). code_of l 0) (column_lists parts r there) in
    omega (arith, are.in_order q r before (omega (arith, there, count)), one, two)

-- parts that hold the columns of a matrix make a whole layout
whole_of : (bits : ℕ) (m : Matrix) (parts : List LayoutPart) (columns : List (List ℕ)) → IsWellMade bits m
    → ArePartitioned m.cols columns → columns_of parts ≡ columns → AreBuilt bits m parts
    → IsWhole bits (layout_with m.rows m.cols parts)
whole_of bits m parts columns well are have built = record {
  a_row = well.shape.a_row;
  a_col = well.shape.a_col;
  few = well.shape.few;
  partition = parted m.cols parts columns are have;
  each = λ q lt. record {
    rising = (part_columns m.cols parts columns q are have lt).rising;
    a_code_each = (built q lt).a_code_each;
    group = (built q lt).group;
  };
}

-- which stands for the matrix
stands_of : (bits : ℕ) (m : Matrix) (parts : List LayoutPart) (columns : List (List ℕ)) → ArePartitioned m.cols columns
    → columns_of parts ≡ columns → AreBuilt bits m parts → StandsFor (layout_with m.rows m.cols parts) m
stands_of bits m parts columns are have built = record {
  rows = refl;
  cols = refl;
  partition = parted m.cols parts columns are have;
  entries = λ q i c there row place. sym ((built q there).entries i c row place);
}

-- ---- the layout

pub layout_by_is : (bits : ℕ) (m : Matrix) (columns : List (List ℕ)) (kinds : List Kind) → IsWellMade bits m
    → ArePartitioned m.cols columns → length kinds ≡ length columns
    → IsLayoutBy bits m columns kinds (layout_by m columns kinds)
layout_by_is bits m columns kinds well are same =
    let parts = parts_by m columns kinds in
    let have = parts_columns m columns kinds same in
    let each = λ (q : ℕ) (lt : q < length parts). part_in_kind bits m columns kinds q well are same lt in
    let built : AreBuilt bits m parts = λ q lt. (each q lt).built in
    let whole = whole_of bits m parts columns well are have built in
    record {
      canonical = record {
        whole = whole;
        a_kind_each = same ∙ sym (parts_count m columns kinds same);
        in_order = ordered m.cols parts (subst (ArePartitioned m.cols) (sym have) are);
        numbered = λ q lt. (each q lt).numbered;
        kinds_are = λ q lt. (each q lt).has_kind;
      };
      matrix = sym (one_matrix bits (layout_by m columns kinds) m whole well.shape
          (stands_of bits m parts columns are have built));
      has_columns = have;
    }

-- there is one with these columns and kinds
pub one_layout : (bits : ℕ) (m : Matrix) (columns : List (List ℕ)) (kinds : List Kind) (layout other : Layout)
    → IsLayoutBy bits m columns kinds layout → IsLayoutBy bits m columns kinds other → layout ≡ other
one_layout bits m columns kinds layout other is also =
    layout_fixed bits layout other kinds is.canonical also.canonical (is.matrix ∙ sym also.matrix)
    (is.has_columns ∙ sym also.has_columns)

-- ---- canonical layouts

-- the columns of a canonical layout are parted
pub columns_parted : (bits : ℕ) (layout : Layout) (kinds : List Kind) → IsCanonical bits layout kinds
    → ArePartitioned layout.cols (columns_of layout.parts)
columns_parted bits layout kinds is =
    let parts = layout.parts in
    let count = length-map parts (λ (part : LayoutPart). part.columns) in
    let partition = is.whole.partition in
    record {
      each = λ q there.
          let lt : q < length parts = omega (arith, there, count) in
          let part = part_at parts q in
          let own = is.whole.each q lt in
          subst (AreColumns layout.cols) (sym (column_lists parts q lt)) (record {
            some = own.group.a_column;
            rising = own.rising;
            within = λ c place.
                own_column_within layout.cols parts q (code_of part.columns c) partition lt
                (own_column part c own.rising place).1;
          });
      once = λ j there. sym (times_all j parts) ∙ partition.once j there;
      no_other = λ j past. sym (times_all j parts) ∙ partition.no_other j past;
      in_order = λ q r before there.
          let last : r < length parts = omega (arith, there, count) in
          let first : q < length parts = omega (arith, before, last) in
          let heads = is.in_order q r before last in
          let one = ap (λ (l : List ℕ). code_of l 0) (column_lists parts q first) in
          let two = ap (λ (l : List ℕ). code_of l 0) (column_lists parts r last) in
          omega (arith, heads, one, two);
    }

-- and it is the layout by them
pub canonical_is_by : (bits : ℕ) (layout : Layout) (kinds : List Kind) → IsCanonical bits layout kinds
    → layout ≡ layout_by (matrix_in layout) (columns_of layout.parts) kinds
canonical_is_by bits layout kinds is =
    let m = matrix_in layout in
    let columns = columns_of layout.parts in
    let count = length-map layout.parts (λ (part : LayoutPart). part.columns) in
    one_layout bits m columns kinds layout (layout_by m columns kinds)
    (record { canonical = is; matrix = refl; has_columns = refl })
    (layout_by_is bits m columns kinds (well_made bits layout is.whole) (columns_parted bits layout kinds is)
    (is.a_kind_each ∙ sym count))

-- so each part is that of its columns in its kind
pub canonical_part_is_by : (bits : ℕ) (layout : Layout) (kinds : List Kind) (q : ℕ) → IsCanonical bits layout kinds
    → q < length layout.parts
    → part_at layout.parts q ≡ part_by (matrix_in layout) (part_at layout.parts q).columns (kind_at kinds q)
canonical_part_is_by bits layout kinds q is lt =
    let m = matrix_in layout in
    let columns = columns_of layout.parts in
    let count = length-map layout.parts (λ (part : LayoutPart). part.columns) in
    ap (λ (l : Layout). part_at l.parts q) (canonical_is_by bits layout kinds is)
    ∙ part_there m columns kinds q (is.a_kind_each ∙ sym count) (omega (arith, lt, count))
    ∙ ap (λ (cs : List ℕ). part_by m cs (kind_at kinds q)) (column_lists layout.parts q lt)

-- ---- by the rule

pub by_rule_is : (bits : ℕ) (m : Matrix) → IsWellMade bits m → IsLayoutByRule bits m (layout_by_rule m)
by_rule_is bits m well =
    let groups = (grouping_of m).groups in
    layout_by_is bits m (columns_in groups) (kinds_by_rule m) well (cut-partition m well.shape.a_col)
    (length-map groups (λ (g : GroupOf). g.kind) ∙ sym (length-map groups (λ (g : GroupOf). g.columns)))

pub by_rule_is_one : (bits : ℕ) (m : Matrix) (layout : Layout) → IsWellMade bits m → IsLayoutByRule bits m layout
    → layout ≡ layout_by_rule m
by_rule_is_one bits m layout well is =
    one_layout bits m (columns_in (grouping_of m).groups) (kinds_by_rule m) layout (layout_by_rule m) is
    (by_rule_is bits m well)
