use Rattle.std.proofs.Common.{◌≡◌, ◌<◌, ◌≤◌, ◌+◌, ◌*◌, ℕ, List, [], ◌∷◌, length, take, get_or, sym, ap, ◌∙◌, arith}
use Rattle.std.proofs.Common.{subst}
use Rattle.std.proofs.lemmas.List.{take_more, take_all, length-take-le}
use Rattle.cla_spec.specs.Matrix.{Matrix, IsShaped, most_cells}
use Rattle.cla_grouping.specs.Tuples.{TuplesOf, AreColumns, AreTuples, tuples_in, joined, same_tuple}
use Rattle.cla_grouping.proofs.TupleLemmas.{joins-agree, length-codes_by}
use Rattle.cla_grouping.proofs.Numbered.{tuples_in-are, few-columns, few_cells-in}
use Rattle.cla_stats.specs.Coded.{tuples_seen, CanJoin}
use Rattle.cla_stats.proofs.coded.code_columns.Goals as goal

taken : (k : ℕ) (columns : List ℕ) → k ≤ length columns → length (take k columns) ≡ k
taken k columns within = length-take-le k columns within

-- the first columns have what tuples have
first_are : (m : Matrix) (columns : List ℕ) (k : ℕ) (t : TuplesOf) → IsShaped m.rows m.cols m.cells
    → AreColumns m.cols columns → 1 ≤ k → k ≤ length columns
    → t ≡ tuples_in m (take k columns) → AreTuples t
first_are m columns k t shape are some within e =
    let count = taken k columns within in
    subst AreTuples (sym e)
    (tuples_in-are m (take k columns) shape (omega (arith, count, some))
    (omega (arith, count, within, few-columns m.cols columns are)))

one_is : (m : Matrix) (column : ℕ) (t : TuplesOf) → IsShaped m.rows m.cols m.cells → t ≡ tuples_in m (column ∷ [])
    → AreTuples t
one_is m column t shape e = subst AreTuples (sym e) (tuples_in-are m (column ∷ []) shape (omega arith) shape.a_col)

-- the first columns and one more may be joined
can_join : (m : Matrix) (columns : List ℕ) (k column : ℕ) (a b : TuplesOf) → IsShaped m.rows m.cols m.cells
    → AreColumns m.cols columns → k < length columns
    → a ≡ tuples_in m (take k columns) → b ≡ tuples_in m (column ∷ []) → CanJoin a b
can_join m columns k column a b shape are more e f =
    let count = taken k columns (omega (arith, more)) in
    let first : length a.codes ≡ m.rows = ap (λ t. length t.codes) e
    ∙ length-codes_by (same_tuple m (take k columns)) m.rows in
    let second : length b.codes ≡ m.rows = ap (λ t. length t.codes) f
    ∙ length-codes_by (same_tuple m (column ∷ [])) m.rows in
    let width : a.width + b.width ≡ k + 1 = ap (λ t. t.width + b.width) e
    ∙ ap (λ t. length (take k columns) + t.width) f ∙ ap (λ n. n + 1) count in
    let few = few_cells-in m (k + 1) shape (omega (arith, more, few-columns m.cols columns are)) in
    record {
      rows = second ∙ sym first;
      few_cells =
          subst (λ n. n * (a.width + b.width) ≤ most_cells) (sym first)
          (subst (λ w. m.rows * w ≤ most_cells) (sym width) few);
    }

pub join_codes-requires-clause-first : goal.join_codes-requires-clause-first
join_codes-requires-clause-first g c =
    first_are c.args.m.now c.args.columns.now c.loop-k.k _ c.loop-k.invariant.shape c.requires
    (omega (arith, c.loop-k.auto.k)) (omega (arith, c.loop-k-test.true)) c.loop-k.invariant.tuples

pub join_codes-requires-clause-second : goal.join_codes-requires-clause-second
join_codes-requires-clause-second g c =
    one_is c.args.m.now
    (get_or c.args.columns.now c.loop-k.k 0) _ c.loop-k.invariant.shape c.in_ok-next.ensures.tuples

pub join_codes-requires-clause-pair : goal.join_codes-requires-clause-pair
join_codes-requires-clause-pair g c =
    can_join c.args.m.now c.args.columns.now c.loop-k.k
    (get_or c.args.columns.now c.loop-k.k 0) _ _ c.loop-k.invariant.shape c.requires c.loop-k-test.true
    c.loop-k.invariant.tuples c.in_ok-next.ensures.tuples

pub loop-k-preserved : goal.loop-k-preserved
loop-k-preserved g c =
    let m = c.args.m.now in
    let columns = c.args.columns.now in
    let k = c.loop-k.k in
    let column = get_or columns k 0 in
    record {
      tuples = c.in_ok-coded-2.ensures.tuples
          ∙ ap (λ t. joined t (tuples_seen c.in_ok-next.next)) c.loop-k.invariant.tuples
          ∙ ap (joined (tuples_in m (take k columns))) c.in_ok-next.ensures.tuples
          ∙ joins-agree m (take k columns) (column ∷ [])
          ∙ ap (tuples_in m) (sym (take_more columns k 0 c.loop-k-test.true));
      shape = c.loop-k.invariant.shape;
    }

pub returns-clause-are : goal.returns-clause-are
returns-clause-are g c =
    let columns = c.args.columns.now in
    let all = take_all c.loop-k.k columns (omega (arith, c.loop-k-test.false)) in
    first_are c.args.m.now columns (length columns) _ c.loop-k.invariant.shape c.requires c.requires.some (omega arith)
    (c.loop-k.invariant.tuples
    ∙ ap (tuples_in c.args.m.now) (all ∙ sym (take_all (length columns) columns (omega arith))))
