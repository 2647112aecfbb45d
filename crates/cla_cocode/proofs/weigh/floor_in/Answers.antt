use Rattle.std.proofs.Common.{◌≡◌, ◌+◌, ◌≤◌, length, List, ℕ, Option, sym, ap, ◌∙◌, subst, arith}
use Rattle.std.specs.List.{filter}
use Rattle.cla_spec.specs.Matrix.{most_cells}
use Rattle.cla_numbering.specs.Tables.{AreBelow}
use Rattle.cla_grouping.specs.Sizes.{AreSmall}
use Rattle.cla_grouping.specs.Tuples.{AreTuples, TuplesOf}
use Rattle.cla_grouping.specs.declared.sizes.Figures.{Figures}
use Rattle.cla_stats.specs.Coded.{CanJoin}
use Rattle.cla_cocode.specs.Listing.{either_of}
use Rattle.cla_cocode.specs.Weighing.{begins_pair, floor_of}
use Rattle.cla_cocode.proofs.Unions.{floor-small}
use Rattle.cla_cocode.proofs.Few.{either-rows, either-runs, either-below}
use Rattle.cla_cocode.proofs.weigh.floor_in.Goals as goal

few : (a b : TuplesOf) (rows : List ℕ) → AreTuples a → AreTuples b → CanJoin a b → rows ≡ either_of a b
    → length rows ≤ most_cells
few a b rows first second pair is =
    let small = floor-small a b first second pair in
    omega (arith, ap length is, either-rows a b pair, small.listed_rows, small.tall)

-- the figures of the union, by the rows that list its pairs
counted : (a b : TuplesOf) (rows : List ℕ) (width n runs : ℕ) → CanJoin a b → rows ≡ either_of a b
    → width ≡ a.width + b.width → n ≡ length a.codes
    → runs ≡ length (filter (begins_pair a.zero a.codes b.zero b.codes) rows)
    → record { width = width; rows = n; distinct = 0; listed = 0; listed_rows = length rows; listed_runs = runs }
    ≡ floor_of a b
counted a b rows width n runs pair is wide tall begins_at =
    let all : length rows ≡ (floor_of a b).listed_rows = ap length is ∙ either-rows a b pair in
    let begins = begins_pair a.zero a.codes b.zero b.codes in
    let begin : runs ≡ (floor_of a b).listed_runs =
    begins_at ∙ ap (λ l. length (filter begins l)) is ∙ either-runs a b pair in
    ap (λ w. made w n (length rows) runs) wide ∙ ap (λ m. made (a.width + b.width) m (length rows) runs) tall
    ∙ ap (λ r. made (a.width + b.width) (length a.codes) r runs) all
    ∙ ap (λ r. made (a.width + b.width) (length a.codes) (floor_of a b).listed_rows r) begin
  where
    made : ℕ → ℕ → ℕ → ℕ → Figures
    made w m r s = record { width = w; rows = m; distinct = 0; listed = 0; listed_rows = r; listed_runs = s }

pub runs_in-listed_runs-requires-clause-below : goal.runs_in-listed_runs-requires-clause-below
runs_in-listed_runs-requires-clause-below c =
    let a = c.args.a.now in
    let b = c.args.b.now in
    subst (AreBelow (length c.codes.result.now)) (sym c.requires.rows)
    (subst (λ n. AreBelow n (either_of a b)) (sym (ap length c.codes.ensures.codes)) (either-below a b c.requires.pair))

pub runs_in-listed_runs-requires-clause-few : goal.runs_in-listed_runs-requires-clause-few
runs_in-listed_runs-requires-clause-few c =
    let a = c.args.a.now in
    let b = c.args.b.now in
    few a b c.args.rows.now c.codes.ensures.are c.codes-2.ensures.are c.requires.pair c.requires.rows

pub overflow_cast-result : goal.overflow_cast-result
overflow_cast-result c =
    let a = c.args.a.now in
    let b = c.args.b.now in
    omega (arith, few a b c.args.rows.now c.codes.ensures.are c.codes-2.ensures.are c.requires.pair c.requires.rows)

-- the runs of the pairs, by what the two groups say
begun : (a b : TuplesOf) (rows xs ys : List ℕ) (first second : Option ℕ) (runs : ℕ)
    → runs ≡ length (filter (begins_pair first xs second ys) rows) → xs ≡ a.codes → ys ≡ b.codes
    → first ≡ a.zero → second ≡ b.zero → runs ≡ length (filter (begins_pair a.zero a.codes b.zero b.codes) rows)
begun a b rows xs ys first second runs is one two zero other =
    is ∙ ap (λ l. length (filter (begins_pair first l second ys) rows)) one
    ∙ ap (λ l. length (filter (begins_pair first a.codes second l) rows)) two
    ∙ ap (λ z. length (filter (begins_pair z a.codes second b.codes) rows)) zero
    ∙ ap (λ z. length (filter (begins_pair a.zero a.codes z b.codes) rows)) other

pub returns-clause-value : goal.returns-clause-value
returns-clause-value c =
    let a = c.args.a.now in
    let b = c.args.b.now in
    let rows = c.args.rows.now in
    let runs = c.runs_in-listed_runs.result in
    let width : c.width.result + c.width-2.result ≡ a.width + b.width =
    omega (arith, c.width.ensures, c.width-2.ensures) in
    counted a b rows (c.width.result + c.width-2.result) c.rows.result runs c.requires.pair c.requires.rows width
    c.rows.ensures (begun a b rows c.codes.result.now c.codes-2.result.now c.zero.result c.zero-2.result runs
    c.runs_in-listed_runs.ensures c.codes.ensures.codes c.codes-2.ensures.codes c.zero.ensures c.zero-2.ensures)

pub returns-clause-small : goal.returns-clause-small
returns-clause-small c =
    let a = c.args.a.now in
    let b = c.args.b.now in
    let rows = c.args.rows.now in
    let runs = c.runs_in-listed_runs.result in
    let width : c.width.result + c.width-2.result ≡ a.width + b.width =
    omega (arith, c.width.ensures, c.width-2.ensures) in
    subst AreSmall (sym (counted a b rows (c.width.result + c.width-2.result) c.rows.result runs c.requires.pair
    c.requires.rows width c.rows.ensures (begun a b rows c.codes.result.now c.codes-2.result.now c.zero.result
    c.zero-2.result runs c.runs_in-listed_runs.ensures c.codes.ensures.codes c.codes-2.ensures.codes c.zero.ensures
    c.zero-2.ensures))) (floor-small a b c.codes.ensures.are c.codes-2.ensures.are c.requires.pair)
