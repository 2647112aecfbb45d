-- The end of the rule: the groups, or one plain group.
use Rattle.std.proofs.Common.{◌≡◌, ℕ, suc, ◌<◌, ◌≤◌, ◌^◌, false, cond, nat_le, List, [], ◌∷◌, All, map, get_or, refl}
use Rattle.std.proofs.Common.{sym, ap, ◌∙◌, subst, arith}
use Rattle.std.proofs.lemmas.Bool.{le-leb}
use Rattle.std.proofs.lemmas.List.{get_or-map, length-map}
use Rattle.std.proofs.lemmas.List.Elements.{All-map}
use Rattle.cla_spec.specs.Matrix.{Matrix}
use Rattle.cla_grouping.specs.Sizes.{plain_bytes, IsLeast, figures_of}
use Rattle.cla_grouping.specs.Grouping.{GroupOf, CutOf, groups_to, in_best_kind, bytes_in, one_plain, or_plain}
use Rattle.cla_grouping.specs.Grouping.{most_grouped, grouping_of}
use Rattle.cla_grouping.specs.declared.sizes.KindBytes.{KindBytes}
use Rattle.cla_cocode.specs.declared.kept.Kept.{Kept}
use Rattle.cla_cocode.specs.declared.cut.LayoutGroup.{LayoutGroup}
use Rattle.cla_cocode.specs.Cuts.{group_seen, IsLeastGroup}
use Rattle.cla_cocode.specs.Kept.{IsCounted, AreCounted, columns_of, kept_seen}

in_kind : List ℕ → KindBytes → GroupOf
in_kind columns b = record { columns = columns; kind = b.kind; bytes = b.bytes }

-- the groups that are kept are in their best kinds
kept-best : (m : Matrix) (ks : List Kept) → All (IsCounted m) ks → map kept_seen ks
    ≡ map (in_best_kind m) (columns_of ks)
unfolding in_kind
kept-best m [] all = refl
kept-best m (k ∷ ks) all =
    ap (λ b. in_kind k.columns.items b ∷ map kept_seen ks) (all 0 k (omega arith)).best
    ∙ ap (λ l. in_best_kind m k.columns.items ∷ l) (kept-best m ks (λ i d h. all (suc i) d (omega arith)))

-- and are those of the rule
pub kept-rule : (m : Matrix) (ks : List Kept) → AreCounted m m.cols ks → columns_of ks ≡ groups_to m m.cols
    → map kept_seen ks ≡ map (in_best_kind m) (groups_to m m.cols)
kept-rule m ks counted columns = kept-best m ks counted.each ∙ ap (map (in_best_kind m)) columns

-- each takes few bytes
pub kept-small : (m : Matrix) (n : ℕ) (ks : List Kept) (groups : List LayoutGroup) → AreCounted m n ks
    → map group_seen groups ≡ map kept_seen ks → All (λ g. g.bytes < 2 ^ 30) groups
kept-small m n ks groups counted same k d there =
    let small : All (λ (g : GroupOf). g.bytes < 2 ^ 30) (map group_seen groups) =
    subst (λ l. All (λ (g : GroupOf). g.bytes < 2 ^ 30) l) (sym same)
    (All-map (λ (g : GroupOf). g.bytes < 2 ^ 30) kept_seen ks (λ i e h. (counted.each i e h).fit.small)) in
    let here = small k (group_seen d) (omega (arith, there, length-map groups group_seen)) in
    omega (arith, here, ap (λ (g : GroupOf). g.bytes) (get_or-map group_seen groups k d (group_seen d) there))

-- the parts of a cut
cut : ℕ → ℕ → List GroupOf → CutOf
cut rows cols groups = record { rows = rows; cols = cols; groups = groups }

pub cut-made : (rows cols : ℕ) (groups : List GroupOf) (m : Matrix) → rows ≡ m.rows → cols ≡ m.cols → groups
    ≡ (grouping_of m).groups → record { rows = rows; cols = cols; groups = groups } ≡ grouping_of m
unfolding cut
cut-made rows cols groups m r c g = ap (λ n. cut n cols groups) r ∙ ap (λ n. cut m.rows n groups) c
    ∙ ap (cut m.rows m.cols) g

more : (a b : ℕ) → b < a → nat_le a b ≡ false
more a b h = grind arith

-- the one plain group isn't larger
pub plain-rule : (m : Matrix) → m.cols ≤ most_grouped → plain_bytes m.rows m.cols ≤ bytes_in
    (map (in_best_kind m) (groups_to m m.cols)) → one_plain m.rows m.cols ∷ [] ≡ (grouping_of m).groups
plain-rule m few less =
    let groups = map (in_best_kind m) (groups_to m m.cols) in
    ap (λ b. cond b (one_plain m.rows m.cols ∷ []) groups)
    (sym (le-leb (plain_bytes m.rows m.cols) (bytes_in groups) less))
    ∙ ap (λ b. cond b (or_plain m.rows m.cols groups) (one_plain m.rows m.cols ∷ []))
    (sym (le-leb m.cols most_grouped few))

-- it is larger
pub groups-rule : (m : Matrix) → m.cols ≤ most_grouped → bytes_in
    (map (in_best_kind m) (groups_to m m.cols)) < plain_bytes m.rows m.cols
    → map (in_best_kind m) (groups_to m m.cols) ≡ (grouping_of m).groups
groups-rule m few larger =
    let groups = map (in_best_kind m) (groups_to m m.cols) in
    ap (λ b. cond b (one_plain m.rows m.cols ∷ []) groups)
    (sym (more (plain_bytes m.rows m.cols) (bytes_in groups) larger))
    ∙ ap (λ b. cond b (or_plain m.rows m.cols groups) (one_plain m.rows m.cols ∷ []))
    (sym (le-leb m.cols most_grouped few))

-- the kinds of groups that are kept are of least size
pub kept-least : (m : Matrix) (ks : List Kept) (groups : List LayoutGroup) → All (IsCounted m) ks
    → map group_seen groups ≡ map kept_seen ks → All (IsLeastGroup m) (map group_seen groups)
kept-least m ks groups counted same =
    subst (All (IsLeastGroup m)) (sym same) (All-map (IsLeastGroup m) kept_seen ks
    (λ i d h. let is = counted i d h in subst (λ t. IsLeast (figures_of t) (get_or ks i d).best) is.tuples is.least))
