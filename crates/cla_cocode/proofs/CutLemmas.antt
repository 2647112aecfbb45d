-- The bytes of groups, added up one by one.
use Rattle.std.proofs.Common.{◌≡◌, ℕ, suc, ◌+◌, ◌<◌, List, length, map, drop, get_or, sym, ap, ◌∙◌, arith, drop-cons}
use Rattle.std.proofs.lemmas.List.Sums.{sum_by-cons}
use Rattle.cla_grouping.specs.Grouping.{GroupOf, bytes_in}
use Rattle.cla_cocode.specs.declared.cut.LayoutGroup.{LayoutGroup}
use Rattle.cla_cocode.specs.Cuts.{group_seen}

pub bytes_drop : (groups : List LayoutGroup) (i : ℕ) (g : LayoutGroup) → i < length groups → g ≡ get_or groups i g
    → bytes_in (map group_seen (drop i groups)) ≡ g.bytes + bytes_in (map group_seen (drop (i + 1) groups))
bytes_drop groups i g there is =
    let next : suc i ≡ i + 1 = omega arith in
    ap (λ l. bytes_in (map group_seen l)) (drop-cons groups i g there)
    ∙ sum_by-cons (λ (x : GroupOf). x.bytes) (group_seen (get_or groups i g)) (map group_seen (drop (suc i) groups))
    ∙ ap (λ (x : LayoutGroup). x.bytes + bytes_in (map group_seen (drop (suc i) groups))) (sym is)
    ∙ ap (λ n. g.bytes + bytes_in (map group_seen (drop n groups))) next
