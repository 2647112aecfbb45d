-- What is told of groups, one after the other.
use Rattle.std.proofs.Common.{◌≡◌, List, [], ◌∷◌, map, refl, ap, ◌∙◌}
use Rattle.cla_spec.specs.Matrix.{Matrix}
use Rattle.cla_grouping.specs.Grouping.{CutOf, grouping_of}
use Rattle.cla_cocode.specs.declared.cut.LayoutGroup.{LayoutGroup}
use Rattle.cla_cocode.specs.declared.cut.Cut.{Cut}
use Rattle.cla_cocode.specs.Cuts.{group_seen, cut_seen}
use Rattle.cla_tables.specs.declared.stats.GroupStats.{GroupStats}
use Rattle.cla_tables.specs.Stats.{stats_of}

-- the groups of a cut
seen_told : (m : Matrix) (groups : List LayoutGroup) → map (λ x. stats_of m (group_seen x)) groups
    ≡ map (stats_of m) (map group_seen groups)
seen_told m [] = refl
seen_told m (g ∷ groups) = ap (λ (l : List GroupStats). stats_of m (group_seen g) ∷ l) (seen_told m groups)

pub cut_told : (m : Matrix) (cut : Cut) (groups : List LayoutGroup) (stats : List GroupStats)
    → cut_seen cut ≡ grouping_of m → groups ≡ cut.groups.items
    → stats ≡ map (λ x. stats_of m (group_seen x)) groups → stats ≡ map (stats_of m) (grouping_of m).groups
cut_told m cut groups stats rule same are = are
    ∙ ap (λ (gs : List LayoutGroup). map (λ x. stats_of m (group_seen x)) gs) same ∙ seen_told m cut.groups.items
    ∙ ap (λ (c : CutOf). map (stats_of m) c.groups) rule
