-- How many bytes a table takes at most.
use Rattle.std.proofs.Common.{◌≡◌, ◌≤◌, ◌<◌, ◌+◌, ◌^◌, ℕ, List, [], ◌∷◌, Bool, true, false}
use Rattle.std.proofs.Common.{if◌then◌else◌, nat_le, map, refl, arith}
use Rattle.std.proofs.lemmas.Bool.Decides.{nat_tests}
use Rattle.cla_spec.specs.Matrix.{Matrix, IsShaped}
use Rattle.cla_grouping.specs.Sizes.{plain_bytes}
use Rattle.cla_grouping.proofs.SizeLemmas.{times-le}
use Rattle.cla_grouping.specs.Grouping.{GroupOf, grouping_of, groups_to, in_best_kind, one_plain, bytes_in, or_plain}
use Rattle.cla_grouping.specs.Grouping.{most_grouped, packed_size}

-- one plain group takes its bytes, and what isn't replaced by it takes fewer
one_bytes : (rows cols : ℕ) → bytes_in (one_plain rows cols ∷ []) ≤ plain_bytes rows cols
one_bytes rows cols = omega arith

chosen_bytes : (rows cols : ℕ) (groups : List GroupOf) (b : Bool) → nat_le (plain_bytes rows cols) (bytes_in groups) ≡ b
    → bytes_in (if b then one_plain rows cols ∷ [] else groups) ≤ plain_bytes rows cols
chosen_bytes rows cols groups true is = one_bytes rows cols
chosen_bytes rows cols groups false is = grind (arith, nat_tests, is)

few_bytes : (rows cols : ℕ) (groups : List GroupOf) (b : Bool)
    → bytes_in (if b then or_plain rows cols groups else one_plain rows cols ∷ []) ≤ plain_bytes rows cols
few_bytes rows cols groups true = chosen_bytes rows cols groups (nat_le (plain_bytes rows cols) (bytes_in groups)) refl
few_bytes rows cols groups false = one_bytes rows cols

-- no cut takes more bytes than one plain group
pub no_larger : (m : Matrix) → packed_size (grouping_of m) ≤ 20 + plain_bytes m.rows m.cols
no_larger m =
    omega (arith, few_bytes m.rows m.cols (map (in_best_kind m) (groups_to m m.cols)) (nat_le m.cols most_grouped))

-- and that is few
pub few : {X : Type 0} (m : Matrix) (cells : List X) → IsShaped m.rows m.cols cells
    → packed_size (grouping_of m) < 2 ^ 64
few m cells shape =
    omega (arith, no_larger m, shape.few, times-le 1 m.cols m.rows m.cols shape.a_row (omega arith))
