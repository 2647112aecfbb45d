-- The groups of a cut have columns of the matrix, in rising order.
use Rattle.std.proofs.Common.{◌≡◌, ℕ, ◌<◌, ◌≤◌, List, [], ◌∷◌, length, map, get_or, refl, sym, ap, ◌∙◌, subst, arith}
use Rattle.std.proofs.lemmas.List.{length-map}
use Rattle.cla_spec.specs.Matrix.{Matrix}
use Rattle.cla_grouping.specs.Tuples.{AreColumns}
use Rattle.cla_grouping.specs.Grouping.{CutOf, grouping_of}
use Rattle.cla_grouping.specs.Partitions.{columns_in, ArePartitioned}
use Rattle.cla_grouping.proofs.Partition.{cut-partition}
use Rattle.cla_cocode.specs.declared.cut.LayoutGroup.{LayoutGroup}
use Rattle.cla_cocode.specs.declared.cut.Cut.{Cut}
use Rattle.cla_cocode.specs.Cuts.{group_seen, cut_seen}

-- the columns that the code keeps of each group
abbrev columns_kept : List LayoutGroup → List (List ℕ)
columns_kept groups = map (λ (g : LayoutGroup). g.columns.items) groups

seen-columns : (groups : List LayoutGroup) → columns_in (map group_seen groups) ≡ columns_kept groups
seen-columns [] = refl
seen-columns (g ∷ groups) = ap (λ l. g.columns.items ∷ l) (seen-columns groups)

pub cut-columns : (m : Matrix) (cut : Cut) → 1 ≤ m.cols → cut_seen cut ≡ grouping_of m → (groups : List LayoutGroup)
    → groups ≡ cut.groups.items → (q : ℕ) → q < length groups
    → AreColumns m.cols (get_or (map (λ (g : LayoutGroup). g.columns.items) groups) q [])
cut-columns m cut some is groups same q there =
    let are : ArePartitioned m.cols (columns_kept groups) =
    subst (ArePartitioned m.cols)
    (ap (λ (c : CutOf). columns_in c.groups) (sym is) ∙ seen-columns cut.groups.items ∙ ap columns_kept (sym same))
    (cut-partition m some) in
    are.each q (omega (arith, there, length-map groups (λ (g : LayoutGroup). g.columns.items)))
