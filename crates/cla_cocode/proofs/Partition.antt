-- The parts of the groups of a cut make a whole layout.
use Rattle.std.proofs.Common.{◌≡◌, ℕ, ◌+◌, ◌<◌, ◌≤◌, List, [], ◌∷◌, length, map, get_or, refl, sym, ap, ◌∙◌, subst}
use Rattle.std.proofs.Common.{arith}
use Rattle.std.proofs.lemmas.List.{get_or-map, length-map}
use Rattle.cla_spec.specs.Matrix.{Matrix, IsShaped}
use Rattle.cla_layout.specs.Groups.{code_of}
use Rattle.cla_layout.specs.Layouts.{LayoutPart, IsPartition, IsWhole, StandsFor, count_of, all_columns, part_at}
use Rattle.cla_layout.specs.Layouts.{no_part, layout_with}
use Rattle.cla_grouping.specs.Tuples.{AreColumns}
use Rattle.cla_grouping.specs.Grouping.{CutOf, grouping_of}
use Rattle.cla_grouping.specs.Partitions.{times_in, columns_in, ArePartitioned}
use Rattle.cla_grouping.proofs.Partition.{count-append, cut-partition}
use Rattle.cla_cocode.specs.declared.cut.LayoutGroup.{LayoutGroup}
use Rattle.cla_cocode.specs.declared.cut.Cut.{Cut}
use Rattle.cla_cocode.specs.Built.{AreBuilt}
use Rattle.cla_cocode.specs.Cuts.{group_seen, cut_seen}

seen-columns : (groups : List LayoutGroup) → columns_in (map group_seen groups)
    ≡ map (λ (g : LayoutGroup). g.columns.items) groups
seen-columns [] = refl
seen-columns (g ∷ groups) = ap (λ l. g.columns.items ∷ l) (seen-columns groups)

-- the groups of the cut of a matrix
pub cut-groups : (m : Matrix) (l : Cut) → 1 ≤ m.cols → cut_seen l ≡ grouping_of m
    → ArePartitioned m.cols (map (λ (g : LayoutGroup). g.columns.items) l.groups.items)
cut-groups m l some is =
    subst (ArePartitioned m.cols) (ap (λ (c : CutOf). columns_in c.groups) (sym is)
    ∙ seen-columns l.groups.items) (cut-partition m some)

pub cut-columns : (m : Matrix) (groups : List LayoutGroup) → ArePartitioned m.cols
    (map (λ (g : LayoutGroup). g.columns.items) groups)
    → (q : ℕ) → q < length groups → AreColumns m.cols (get_or (map (λ (g : LayoutGroup). g.columns.items) groups) q [])
cut-columns m groups are q there =
    are.each q (omega (arith, there, length-map groups (λ (g : LayoutGroup). g.columns.items)))

times-all : (j : ℕ) (parts : List LayoutPart) → count_of (all_columns parts) j
    ≡ times_in (map (λ (p : LayoutPart). p.columns) parts) j
times-all j [] = refl
times-all j (p ∷ parts) = count-append j p.columns (all_columns parts)
    ∙ ap (λ n. count_of p.columns j + n) (times-all j parts)

pub parts-partition : (n : ℕ) (parts : List LayoutPart) (gs : List (List ℕ)) → ArePartitioned n gs
    → map (λ (p : LayoutPart). p.columns) parts ≡ gs
    → IsPartition n (all_columns parts)
parts-partition n parts gs are same = record {
  once = λ j there. times-all j parts ∙ ap (λ l. times_in l j) same ∙ are.once j there;
  no_other = λ j past. times-all j parts ∙ ap (λ l. times_in l j) same ∙ are.no_other j past;
}

part-columns : (n : ℕ) (parts : List LayoutPart) (gs : List (List ℕ)) → ArePartitioned n gs
    → map (λ (p : LayoutPart). p.columns) parts ≡ gs
    → (q : ℕ) → q < length parts → AreColumns n (part_at parts q).columns
part-columns n parts gs are same q there =
    subst (AreColumns n) (ap (λ l. get_or l q []) (sym same) ∙ get_or-map
    (λ (p : LayoutPart). p.columns) parts q no_part [] there)
    (are.each q (omega (arith, there, ap length same, length-map parts (λ (p : LayoutPart). p.columns))))

-- which stand in the order of their first columns
pub parts-in_order : (n : ℕ) (parts : List LayoutPart) (gs : List (List ℕ)) → ArePartitioned n gs
    → map (λ (p : LayoutPart). p.columns) parts ≡ gs
    → (q r : ℕ) → q < r → r < length parts → code_of (part_at parts q).columns 0 < code_of (part_at parts r).columns 0
parts-in_order n parts gs are same q r before there =
    let count = length-map parts (λ (p : LayoutPart). p.columns) in
    omega (
      arith,
      are.in_order q r before (omega (arith, there, ap length same, count)),
      first q
          (omega (arith, before, there)),
      first r there,
    )
  where
    first : (q : ℕ) → q < length parts → code_of (get_or gs q []) 0 ≡ code_of (part_at parts q).columns 0
    first q there = ap (λ g. code_of g 0) (ap (λ l. get_or l q []) (sym same)
        ∙ get_or-map (λ (p : LayoutPart). p.columns) parts q no_part [] there)

-- parts that are built of the groups of a cut make a whole layout
pub parts-whole : {X : Type 0} (bits : ℕ) (m : Matrix) (cells : List X) (parts : List LayoutPart) (gs : List (List ℕ))
    → IsShaped m.rows m.cols cells → ArePartitioned m.cols gs
    → map (λ (p : LayoutPart). p.columns) parts ≡ gs → AreBuilt bits m parts
    → IsWhole bits (layout_with m.rows m.cols parts)
parts-whole bits m cells parts gs shape are same built = record {
  a_row = shape.a_row;
  a_col = shape.a_col;
  few = shape.few;
  partition = parts-partition m.cols parts gs are same;
  each = λ q there. record {
    rising = (part-columns m.cols parts gs are same q there).rising;
    a_code_each = (built q there).a_code_each;
    group = (built q there).group;
  };
}

-- which stands for the matrix
pub parts-stand : (bits : ℕ) (m : Matrix) (parts : List LayoutPart) (gs : List (List ℕ)) → ArePartitioned m.cols gs
    → map (λ (p : LayoutPart). p.columns) parts ≡ gs → AreBuilt bits m parts
    → StandsFor (layout_with m.rows m.cols parts) m
parts-stand bits m parts gs are same built = record {
  rows = refl;
  cols = refl;
  partition = parts-partition m.cols parts gs are same;
  entries = λ q i c there row place. sym ((built q there).entries i c row place);
}

pub map-twice : {A B C : Type 0} (f : B → C) (h : A → B) (xs : List A) → map f (map h xs) ≡ map (λ x. f (h x)) xs
map-twice f h [] = refl
map-twice f h (x ∷ xs) = ap (λ l. f (h x) ∷ l) (map-twice f h xs)
