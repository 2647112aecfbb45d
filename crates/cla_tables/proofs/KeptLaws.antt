-- Tables of packed files, as they are kept and as they are seen.
use Rattle.std.proofs.Common.{◌≡◌, ℕ, ◌<◌, Bool, false, if◌then◌else◌, List, [], ◌∷◌, length, map, get_or, Result, Ok}
use Rattle.std.proofs.Common.{Err, IfOk, refl, ap, subst, ◌∙◌, sym, arith}
use Rattle.std.specs.Prelude.{All}
use Rattle.std.specs.List.{AllByRecursion}
use Rattle.std.proofs.lemmas.List.{length-map, get_or-map}
use Rattle.std.proofs.lemmas.List.Elements.{All-from_recursion, recursion_from_All}
use Rattle.std.specs.declared.cmp.Ord as ord
use Rattle.std.specs.declared.cmp.PartialEq as partial_eq
use Rattle.std.specs.declared.cmp.PartialOrd as partial_ord
use Rattle.std.specs.declared.hash.Hash as hash
use Rattle.cla_num.specs.declared.number.Number as number
use Rattle.cla_spec.specs.Matrix.{Matrix}
use Rattle.cla_layout.specs.declared.kind.Kind.{Kind}
use Rattle.cla_layout.specs.declared.kind.Kind.TheVariants as kinds
use Rattle.cla_layout.specs.Canonical.{IsCanonical, kind_at}
use Rattle.cla_layout.specs.Groups.{IsGroup}
use Rattle.cla_layout.specs.Layouts.{LayoutPart, Layout, layout_with, no_part, part_at, matrix_in, matrix_as}
use Rattle.cla_coded.specs.declared.any_group.AnyGroup.{AnyGroup}
use Rattle.cla_coded.specs.declared.part.Part.{Part}
use Rattle.cla_coded.specs.AnyGroups.{any_codes, any_dictionary}
use Rattle.cla_coded.specs.Forms.{kinds_of}
use Rattle.cla_coded.specs.Parts.{parts_of}
use Rattle.cla_coded.specs.Tables.{TableOf, layout_of, matrix_of, rows_of_table, cols_of_table}
use Rattle.cla_packed.specs.Layouts.{part_of, layout_in}
use Rattle.cla_pack_reader.specs.declared.reader.Packed as reader
use Rattle.cla_pack_reader.specs.Kept.{group_kept, layout_kept, HasItsForm, HaveTheirForms}
use Rattle.cla_tables.specs.declared.kept.Kept.{Kept}
use Rattle.cla_tables.specs.declared.kept.Kept.TheVariants.{Packed}
use Rattle.cla_tables.specs.declared.stats.TableStats.{TableStats}
use Rattle.cla_tables.specs.TableFiles.{TableFile, group_of, of_layout}
use Rattle.cla_tables.specs.Stats.{AreStats, stats_of}
use Rattle.cla_tables.specs.Kept.{file_kept, IsKept}
use Rattle.cla_tables.specs.KeptStats.{part_seen, kind_kept, stats_kept, IsKeptPart}
use Rattle.cla_tables.proofs.KeptTuples.{told_of_part}
use Rattle.cla_tables.proofs.KeptTuples as laws

module _ {N : Type 0} {n : number.Ghosts N} {o : ord.Ghosts N} {e : partial_eq.Ghosts N} {p : partial_ord.Ghosts N}
    {h : hash.Ghosts N} where
  parts_same : (parts : List (Part (AnyGroup N n o e p h)))
      → map part_of (map group_kept parts) ≡ parts_of any_codes any_dictionary parts
  parts_same [] = refl
  parts_same (part ∷ parts) = ap (λ (l : List LayoutPart). part_of (group_kept part) ∷ l) (parts_same parts)

  -- the matrix of a table that isn't a transpose
  matrix_same : (t : TableOf (AnyGroup N n o e p h)) → t.flipped ≡ false
      → matrix_of any_codes any_dictionary t ≡ matrix_in (layout_in (layout_kept t))
  matrix_same t upright = ap (λ (b : Bool). matrix_as b (layout_of any_codes any_dictionary t)) upright
      ∙ ap (λ (ps : List LayoutPart). matrix_in (layout_with t.rows t.cols ps)) (sym (parts_same t.parts))

  pub dense_of : {E : Type 0} (k : Kept N n o e p h) (packed : reader.Packed N n o e p h) (seen : TableFile)
      (result : Result Matrix E) → file_kept k ≡ seen → k ≡ Packed packed → IsKept k
      → IfOk result (λ m. m ≡ matrix_of any_codes any_dictionary packed.table)
      → IfOk result (λ m. m ≡ seen.matrix)
  dense_of k packed seen (Ok m) view is kept same =
      let shown = subst (λ (x : Kept N n o e p h). file_kept x ≡ seen) is view in
      let whole = subst (λ (x : Kept N n o e p h). IsKept x) is kept in
      same ∙ matrix_same packed.table whole.0 ∙ ap (λ (t : TableFile). t.matrix) shown
  dense_of k packed seen (Err x) view is kept same = tt

  -- what is told of a part is what is told of its columns
  abbrev IsTold : Matrix → Part (AnyGroup N n o e p h) → Type 0
  IsTold m part = stats_kept part ≡ stats_of m (group_of m (group_kept part))

  all_told : (m : Matrix) (parts : List (Part (AnyGroup N n o e p h))) → AllByRecursion (IsTold m) parts
      → map stats_kept parts ≡ map (stats_of m) (map (group_of m) (map group_kept parts))
  all_told m [] told = refl
  all_told m (part ∷ parts) told = λ i. told.0 i ∷ all_told m parts told.1 i

  module _ (t : TableOf (AnyGroup N n o e p h))
      (canonical : IsCanonical n.BITS (layout_of any_codes any_dictionary t) (kinds_of t)) where
    abbrev layout : Layout
    layout = layout_of any_codes any_dictionary t

    count : length layout.parts ≡ length t.parts
    count = length-map t.parts part_seen

    -- part q of the layout, and its kind
    part_is : (q : ℕ) (d : Part (AnyGroup N n o e p h)) → q < length t.parts
        → part_at layout.parts q ≡ part_seen (get_or t.parts q d)
    part_is q d there = get_or-map part_seen t.parts q d no_part there

    kind_is : (q : ℕ) (d : Part (AnyGroup N n o e p h)) → q < length t.parts
        → kind_at (kinds_of t) q ≡ kind_kept (get_or t.parts q d)
    kind_is q d there = get_or-map kind_kept t.parts q d kinds.Plain there

    told : All (IsTold (matrix_in layout)) t.parts
    told q d there =
        let m = matrix_in layout in
        let part = get_or t.parts q d in
        let at_q = told_of_part n.BITS layout (kinds_of t) q canonical (omega (arith, there, count)) in
        let of_kind = subst (λ (k : Kind). laws.IsTold m (part_at layout.parts q).columns k (part_at layout.parts q))
        (kind_is q d there) at_q in
        let of_part =
        subst (λ (x : LayoutPart). laws.IsTold m x.columns (kind_kept part) x) (part_is q d there) of_kind in
        λ i. record {
          kind = kind_kept part;
          width = length part.columns.items;
          tuples = of_part.0 i;
          bytes = of_part.1 i;
        }

    -- each part is kept in its form
    pub kept_parts : HaveTheirForms t.parts → All IsKeptPart t.parts
    kept_parts forms q d there = record {
      group = subst (λ (x : LayoutPart). IsGroup n.BITS (length x.columns) x.codes x.tuples) (part_is q d there)
          (canonical.whole.each q (omega (arith, there, count))).group;
      form = All-from_recursion HasItsForm t.parts forms q d there;
    }

    -- what is told of it
    pub table_told : (bytes : ℕ) (stats : TableStats) → t.flipped ≡ false → stats.rows ≡ rows_of_table t
        → stats.cols ≡ cols_of_table t → stats.bytes ≡ bytes → stats.groups.items ≡ map stats_kept t.parts
        → AreStats (of_layout bytes (layout_kept t)) stats
    table_told bytes stats upright rows cols size groups =
        let m = matrix_in layout in
        let kept = layout_kept t in
        let same : m ≡ matrix_in (layout_in kept) =
        ap (λ (ps : List LayoutPart). matrix_in (layout_with t.rows t.cols ps)) (sym (parts_same t.parts)) in
        record {
          rows = rows ∙ ap (λ (b : Bool). if b then t.cols else t.rows) upright;
          cols = cols ∙ ap (λ (b : Bool). if b then t.rows else t.cols) upright;
          bytes = size;
          groups = groups ∙ all_told m t.parts (recursion_from_All (IsTold m) t.parts told)
              ∙ ap (λ (x : Matrix). map (stats_of x) (map (group_of x) (map group_kept t.parts))) same;
        }
