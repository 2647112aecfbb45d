use Rattle.std.proofs.Common.{◌≡◌, ◌<◌, ◌++◌, ℕ, List, Option, length, sym, ap, ◌∙◌, subst, arith}
use Rattle.std.specs.List.{filter}
use Rattle.cla_layout.specs.Groups.{code_of}
use Rattle.cla_layout.specs.Listed.{is_rest}
use Rattle.cla_layout.proofs.Listings.{rows_where_few}
use Rattle.cla_numbering.specs.Tables.{AreBelow}
use Rattle.cla_grouping.specs.Sizes.{AreSmall, IsPast, best_bytes}
use Rattle.cla_grouping.specs.Tuples.{AreTuples, TuplesOf}
use Rattle.cla_grouping.specs.declared.sizes.Figures.{Figures}
use Rattle.cla_grouping.specs.declared.sizes.KindBytes.{KindBytes}
use Rattle.cla_stats.specs.Coded.{CanJoin}
use Rattle.cla_cocode.specs.Listing.{listing_of, either_of}
use Rattle.cla_cocode.specs.Weighing.{CountGives, pairs_of, floor_of, least_of, with_distinct_of, is_listed_pair}
use Rattle.cla_cocode.proofs.FigureLemmas.{figures-small}
use Rattle.cla_cocode.proofs.Unions.{union-figures, union-small, past-with, least_with, least-small, floor-small}
use Rattle.cla_cocode.proofs.Few.{either-rows, listing-below}
use Rattle.cla_cocode.proofs.union.weigh_few.Goals as goal

-- the rows that were found are those of the two
either-are : (a b : TuplesOf) (found first second codes : List ℕ) (zero : Option ℕ)
    → found ≡ second ++ filter (λ i. is_rest zero (code_of codes i)) first → zero ≡ b.zero → codes ≡ b.codes
    → first ≡ listing_of a → second ≡ listing_of b → found ≡ either_of a b
either-are a b found first second codes zero is zeros same one two =
    is ∙ ap (λ z. second ++ filter (λ i. is_rest z (code_of codes i)) first) zeros
    ∙ ap (λ l. second ++ filter (λ i. is_rest b.zero (code_of l i)) first) same
    ∙ ap (λ l. l ++ filter (λ i. is_rest b.zero (code_of b.codes i)) first) two
    ∙ ap (λ l. listing_of b ++ filter (λ i. is_rest b.zero (code_of b.codes i)) l) one

bound : (a b : TuplesOf) (f : Figures) (rows : ℕ) → f ≡ least_of a b → rows ≡ (floor_of a b).listed_rows
    → record f { listed_rows = rows } ≡ least_with a b (floor_of a b).listed_rows
bound a b f rows is many = ap (λ (g : Figures). record g { listed_rows = rows }) is ∙ ap (least_with a b) many

bound-small : (a b : TuplesOf) → AreTuples a → AreTuples b → CanJoin a b
    → AreSmall (least_with a b (floor_of a b).listed_rows)
bound-small a b first second pair =
    let least = least-small a b first second pair in
    let floor = floor-small a b first second pair in
    record {
      wide = least.wide;
      tall = least.tall;
      cells = least.cells;
      distinct = least.distinct;
      listed = least.listed;
      listed_rows = floor.listed_rows;
      listed_runs = least.listed_runs;
    }

pub either_listed-requires : goal.either_listed-requires
either_listed-requires c =
    let a = c.args.group.now.tuples in
    let b = c.args.single.now.tuples in
    let count : length a.codes ≡ length c.codes.result.now =
    sym c.requires.pair.rows ∙ sym (ap length c.codes.ensures.codes) in
    subst (AreBelow (length c.codes.result.now)) (sym c.requires.first)
    (subst (λ n. AreBelow n (listing_of a)) count (listing-below a))

pub overflow_cast-bound : goal.overflow_cast-bound
overflow_cast-bound c =
    let a = c.args.group.now.tuples in
    let b = c.args.single.now.tuples in
    let are = either-are a b c.in_ok-rows.rows.items c.args.first.now c.args.second.now c.codes.result.now c.zero.result
    c.in_ok-rows.ensures c.zero.ensures c.codes.ensures.codes c.requires.first c.requires.second in
    let few = rows_where_few (is_listed_pair a.zero a.codes b.zero b.codes) (length a.codes) in
    let small = figures-small b c.codes.ensures.are in
    let same = c.requires.pair.rows in
    omega (arith, c.len.ensures, ap length are, either-rows a b c.requires.pair, few, small.tall, same)

pub most_tuples-requires : goal.most_tuples-requires
most_tuples-requires c =
    let a = c.args.group.now.tuples in
    let b = c.args.single.now.tuples in
    let are = either-are a b c.in_ok-rows.rows.items c.args.first.now c.args.second.now c.codes.result.now c.zero.result
    c.in_ok-rows.ensures c.zero.ensures c.codes.ensures.codes c.requires.first c.requires.second in
    let many : c.len.result ≡ (floor_of a b).listed_rows =
    omega (arith, c.len.ensures, ap length are, either-rows a b c.requires.pair) in
    subst AreSmall (sym (bound a b c.least_union.result c.len.result c.least_union.ensures.value many))
    (bound-small a b c.least_union.ensures.first c.least_union.ensures.second c.requires.pair)

pub returns-in_default : goal.returns-in_default
returns-in_default c =
    let a = c.args.group.now.tuples in
    let b = c.args.single.now.tuples in
    let are = either-are a b c.in_ok-rows.rows.items c.args.first.now c.args.second.now c.codes.result.now c.zero.result
    c.in_ok-rows.ensures c.zero.ensures c.codes.ensures.codes c.requires.first c.requires.second in
    let many : c.len.result ≡ (floor_of a b).listed_rows =
    omega (arith, c.len.ensures, ap length are, either-rows a b c.requires.pair) in
    let most = c.most_tuples.result in
    let more : most < pairs_of a b = subst (CountGives most (pairs_of a b)) c.in_default.is c.in_ok-distinct.ensures in
    let past = subst (λ f. IsPast f c.args.target most)
    (bound a b c.least_union.result c.len.result c.least_union.ensures.value many) c.most_tuples.ensures in
    past-with a b (floor_of a b).listed_rows c.args.target most c.least_union.ensures.first c.least_union.ensures.second
    c.requires.pair (omega arith) past more

pub best-union-requires : goal.best-union-requires
best-union-requires c =
    let a = c.args.group.now.tuples in
    let b = c.args.single.now.tuples in
    let most = c.most_tuples.result in
    let all = subst (CountGives most (pairs_of a b)) c.in-Some.is c.in_ok-distinct.ensures in
    let same = c.with_distinct.ensures
    ∙ ap (λ (f : Figures). with_distinct_of f c.in-Some.distinct) c.floor_in.ensures.value
    ∙ ap (with_distinct_of (floor_of a b)) all in
    subst AreSmall (sym same) (union-small a b c.floor_in.ensures.first c.floor_in.ensures.second c.requires.pair)

pub returns : goal.returns
returns c =
    let a = c.args.group.now.tuples in
    let b = c.args.single.now.tuples in
    let most = c.most_tuples.result in
    let all = subst (CountGives most (pairs_of a b)) c.in-Some.is c.in_ok-distinct.ensures in
    let same = c.with_distinct.ensures
    ∙ ap (λ (f : Figures). with_distinct_of f c.in-Some.distinct) c.floor_in.ensures.value
    ∙ ap (with_distinct_of (floor_of a b)) all ∙ sym (union-figures a b) in
    ap (λ (k : KindBytes). k.bytes) c.best-union.ensures.value ∙ ap best_bytes same
