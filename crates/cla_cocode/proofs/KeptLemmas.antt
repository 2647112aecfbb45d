-- Groups that are joined by their codes are as counted from the matrix.
use Rattle.std.proofs.Common.{◌≡◌, ℕ, suc, ◌+◌, ◌-◌, ◌*◌, ◌<◌, ◌≤◌, List, [], ◌∷◌, ◌++◌, All, map, length, refl, sym}
use Rattle.std.proofs.Common.{ap, ◌∙◌, subst, arith}
use Rattle.cla_spec.specs.Matrix.{Matrix, IsShaped, most_cells}
use Rattle.cla_grouping.specs.Tuples.{tuples_in, joined, same_tuple}
use Rattle.cla_grouping.specs.Sizes.{figures_of, best_of, best_bytes}
use Rattle.cla_grouping.specs.Grouping.{best_in, saving_by}
use Rattle.cla_grouping.proofs.TupleLemmas.{joins-agree, length-codes_by}
use Rattle.cla_grouping.proofs.Numbered.{few_cells-in}
use Rattle.cla_stats.specs.Coded.{CanJoin}
use Rattle.cla_cocode.specs.declared.kept.Kept.{Kept}
use Rattle.cla_cocode.specs.Kept.{IsCounted, IsJoined, columns_of, code_saving}

-- the tuples of a group and a column together
pub kept-joined : (m : Matrix) (c : ℕ) (single g : Kept) → IsCounted m single → single.columns.items ≡ c ∷ []
    → IsCounted m g
    → joined g.tuples single.tuples ≡ tuples_in m (g.columns.items ++ c ∷ [])
kept-joined m c single g one is many =
    ap (λ t. joined t single.tuples) many.tuples
    ∙ ap (joined (tuples_in m g.columns.items)) (one.tuples ∙ ap (tuples_in m) is)
    ∙ joins-agree m g.columns.items (c ∷ [])

-- what a group saves by its codes is what it saves counted from the matrix
pub saving-same : (m : Matrix) (c : ℕ) (single g : Kept) → IsCounted m single → single.columns.items ≡ c ∷ []
    → IsCounted m g
    → code_saving g single ≡ saving_by m c g.columns.items
saving-same m c single g one is many =
    ap (λ t. g.best.bytes + single.best.bytes - best_bytes (figures_of t)) (kept-joined m c single g one is many)
    ∙ ap (λ b. b.bytes + single.best.bytes - (best_in m (g.columns.items ++ c ∷ [])).bytes) many.best
    ∙ ap (λ b. (best_in m g.columns.items).bytes + b.bytes - (best_in m (g.columns.items ++ c ∷ [])).bytes) (one.best
    ∙ ap (best_in m) is)

pub savings-same : (m : Matrix) (c : ℕ) (single : Kept) (ks : List Kept) → IsCounted m single → single.columns.items
    ≡ c ∷ [] → All (IsCounted m) ks
    → map (λ g. code_saving g single) ks ≡ map (saving_by m c) (columns_of ks)
savings-same m c single [] one is all = refl
savings-same m c single (k ∷ ks) one is all =
    ap (λ s. s ∷ map (λ g. code_saving g single) ks) (saving-same m c single k one is (all 0 k (omega arith)))
    ∙ ap (λ l. saving_by m c k.columns.items ∷ l)
    (savings-same m c single ks one is (λ i d l. all (suc i) d (omega arith)))

-- a joined group is counted from the matrix
pub joined-counted : (m : Matrix) (c : ℕ) (single g k : Kept) → IsCounted m single → single.columns.items ≡ c ∷ []
    → IsCounted m g → IsJoined g single c k → IsCounted m k
joined-counted m c single g k one is many j =
    let tuples : k.tuples ≡ tuples_in m k.columns.items = j.tuples ∙ kept-joined m c single g one is many
    ∙ ap (tuples_in m) (sym j.columns) in
    record { tuples = tuples; best = j.best ∙ ap (λ t. best_of (figures_of t)) tuples; least = j.least; fit = j.fit }

-- a group of the columns so far can take in the next
pub can-join : (m : Matrix) (c : ℕ) (single g : Kept) → IsShaped m.rows m.cols m.cells → c < m.cols → IsCounted m single
    → single.columns.items ≡ c ∷ [] → IsCounted m g
    → length g.columns.items ≤ c → CanJoin g.tuples single.tuples
can-join m c single g shape within one is many narrow =
    let first : length g.tuples.codes ≡ m.rows = ap (λ t. length t.codes) many.tuples
    ∙ length-codes_by (same_tuple m g.columns.items) m.rows in
    let second : length single.tuples.codes ≡ m.rows = ap (λ t. length t.codes) one.tuples
    ∙ length-codes_by (same_tuple m single.columns.items) m.rows in
    let width : g.tuples.width + single.tuples.width ≡ length g.columns.items + 1 =
    ap (λ t. t.width + single.tuples.width) many.tuples ∙ ap (λ t. length g.columns.items + t.width) one.tuples
    ∙ ap (λ l. length g.columns.items + length l) is in
    let few = few_cells-in m (length g.columns.items + 1) shape (omega (arith, narrow, within)) in
    record {
      rows = second ∙ sym first;
      few_cells = subst (λ n. n * (g.tuples.width + single.tuples.width) ≤ most_cells) (sym first)
          (subst (λ w. m.rows * w ≤ most_cells) (sym width) few);
    }
