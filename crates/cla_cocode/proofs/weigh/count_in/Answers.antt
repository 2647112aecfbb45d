use Rattle.std.proofs.Common.{◌≡◌, ◌+◌, ◌<◌, ◌≤◌, length, List, ℕ, Bool, true, false, nat_lt, refl, sym, ap, ◌∙◌, subst}
use Rattle.std.proofs.Common.{arith}
use Rattle.cla_spec.specs.Matrix.{most_cells}
use Rattle.cla_numbering.specs.Tables.{AreBelow}
use Rattle.cla_grouping.specs.Numbering.{same_pair}
use Rattle.cla_grouping.specs.Tuples.{AreTuples, TuplesOf}
use Rattle.cla_grouping.proofs.TupleLemmas.{length-codes_by}
use Rattle.cla_stats.specs.Coded.{CanJoin}
use Rattle.cla_cocode.specs.Listing.{either_of}
use Rattle.cla_cocode.specs.Weighing.{CountGives, pairs_of, pairs_in}
use Rattle.cla_cocode.proofs.Unions.{floor-small, union-are}
use Rattle.cla_cocode.proofs.Distinct.{once}
use Rattle.cla_cocode.proofs.Few.{either-rows, either-below, few-count}
use Rattle.cla_cocode.proofs.weigh.count_in.Goals as goal

byte : (b : Bool) → mir.Val.bool_byte b ≡ once b
byte true = refl
byte false = refl

-- as many pairs as all rows have
counted : (a b : TuplesOf) (rows xs ys zs : List ℕ) (wide : ℕ) → AreTuples a → AreTuples b → CanJoin a b
    → rows ≡ either_of a b → xs ≡ a.codes → ys ≡ b.codes → wide ≡ b.distinct → zs ≡ a.codes
    → pairs_in xs ys wide rows + mir.Val.bool_byte (nat_lt (length rows) (length zs)) ≡ pairs_of a b
counted a b rows xs ys zs wide are-a are-b pair is one two many same =
    let less = nat_lt (length rows) (length zs) in
    ap (λ k. pairs_in xs ys wide rows + k) (byte less)
    ∙ ap (λ l. pairs_in l ys wide rows + once less) one
    ∙ ap (λ l. pairs_in a.codes l wide rows + once less) two
    ∙ ap (λ w. pairs_in a.codes b.codes w rows + once less) many
    ∙ ap (λ l. pairs_in a.codes b.codes b.distinct rows + once (nat_lt (length rows) (length l))) same
    ∙ ap (λ l. pairs_in a.codes b.codes b.distinct l + once (nat_lt (length l) (length a.codes))) is
    ∙ few-count a b are-a are-b pair

pub count_pairs_in-requires-clause-within : goal.count_pairs_in-requires-clause-within
count_pairs_in-requires-clause-within c =
    let a = c.args.a.now in
    let b = c.args.b.now in
    subst (AreBelow (length c.codes.result.now)) (sym c.requires.rows)
    (subst (λ n. AreBelow n (either_of a b)) (sym (ap length c.codes.ensures.codes)) (either-below a b c.requires.pair))

pub count_pairs_in-requires-clause-few : goal.count_pairs_in-requires-clause-few
count_pairs_in-requires-clause-few c =
    let a = c.args.a.now in
    let b = c.args.b.now in
    let small = floor-small a b c.codes.ensures.are c.codes-2.ensures.are c.requires.pair in
    omega (arith, ap length c.requires.rows, either-rows a b c.requires.pair, small.listed_rows, small.tall)

pub returns-in_default : goal.returns-in_default
returns-in_default c =
    let a = c.args.a.now in
    let b = c.args.b.now in
    let rows = c.args.rows.now in
    let all = counted a b rows c.codes.result.now c.codes-2.result.now a.codes c.distinct-2.result
    c.codes.ensures.are c.codes-2.ensures.are c.requires.pair c.requires.rows c.codes.ensures.codes
    c.codes-2.ensures.codes c.distinct-2.ensures refl in
    let many = pairs_in c.codes.result.now c.codes-2.result.now c.distinct-2.result rows in
    let more : c.args.most < many = subst (CountGives c.args.most many) c.in_default.is c.in_ok-counted.ensures in
    omega (arith, more, all)

pub overflow_add-result : goal.overflow_add-result
overflow_add-result c =
    let a = c.args.a.now in
    let b = c.args.b.now in
    let rows = c.args.rows.now in
    let all = counted a b rows c.codes.result.now c.codes-2.result.now c.codes-3.result.now c.distinct-2.result
    c.codes.ensures.are c.codes-2.ensures.are c.requires.pair c.requires.rows c.codes.ensures.codes
    c.codes-2.ensures.codes c.distinct-2.ensures c.codes-3.ensures.codes in
    let many = pairs_in c.codes.result.now c.codes-2.result.now c.distinct-2.result rows in
    let is : c.in-Some.listed ≡ many = subst (CountGives c.args.most many) c.in-Some.is c.in_ok-counted.ensures in
    let union = union-are a b c.codes.ensures.are c.codes-2.ensures.are c.requires.pair in
    let small = floor-small a b c.codes.ensures.are c.codes-2.ensures.are c.requires.pair in
    let count = length-codes_by (same_pair a.codes b.codes) (length a.codes) in
    let few : pairs_of a b ≤ most_cells = omega (arith, union.few, small.tall, count) in
    omega (arith, is, all, few)

pub returns : goal.returns
returns c =
    let a = c.args.a.now in
    let b = c.args.b.now in
    let rows = c.args.rows.now in
    let many = pairs_in c.codes.result.now c.codes-2.result.now c.distinct-2.result rows in
    let is : c.in-Some.listed ≡ many = subst (CountGives c.args.most many) c.in-Some.is c.in_ok-counted.ensures in
    ap (λ k. k + mir.Val.bool_byte (nat_lt (length rows) (length c.codes-3.result.now))) is
    ∙ counted a b rows c.codes.result.now c.codes-2.result.now c.codes-3.result.now c.distinct-2.result
    c.codes.ensures.are c.codes-2.ensures.are c.requires.pair c.requires.rows c.codes.ensures.codes
    c.codes-2.ensures.codes c.distinct-2.ensures c.codes-3.ensures.codes
