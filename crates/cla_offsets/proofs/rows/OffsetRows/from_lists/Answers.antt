use Rattle.std.proofs.Common.{ℕ, List, refl, ap, sym, arith}
use Rattle.cla_offsets.specs.Rows.{OffsetsOf}
use Rattle.cla_offsets.proofs.ListWalks.{lists_tell_codes}
use Rattle.cla_offsets.proofs.rows.OffsetRows.from_lists.Goals as goal

abbrev rows_of_codes : ℕ → ℕ → List ℕ → OffsetsOf
rows_of_codes tuples rest codes = record { codes = codes; tuples = tuples; rest = rest }

pub invariant_of-result : goal.invariant_of-result
invariant_of-result c =
    let codes = c.requires.lists.0 in
    let lists = c.requires.lists.1 in
    let are = c.in_ok-lists.ensures codes c.args.rest c.args.first_unlisted lists in
    rw (lists_tell_codes codes c.args.rows c.args.tuples c.args.rest c.args.first_unlisted _ _ c.in_ok-lists.lists lists
    are)
    (record {
      count = sym lists.count;
      tuples_are = refl;
      rest_is = refl;
      few = lists.few;
      few_tuples = lists.few_tuples;
      in_tuples = λ i row. lists.in_tuples i (omega (arith, row, lists.count));
      lists = are;
      counted = c.in_ok-occurrences.ensures codes lists;
    })

pub returns : goal.returns
returns c = λ codes lists.
    (let are = c.in_ok-lists.ensures codes c.args.rest c.args.first_unlisted lists in
    ap (rows_of_codes c.args.tuples c.args.rest)
    (lists_tell_codes codes c.args.rows c.args.tuples c.args.rest c.args.first_unlisted _ _ c.in_ok-lists.lists lists
    are))
