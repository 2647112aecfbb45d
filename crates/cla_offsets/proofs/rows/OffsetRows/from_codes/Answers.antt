use Rattle.std.proofs.Common.{◌≡◌, ◌+◌, ◌*◌, ℕ, List, refl, length, ap, subst, arith}
use Rattle.cla_offsets.specs.Rows.{OffsetsOf}
use Rattle.cla_offsets.specs.Segments.{segment_rows, segments_of, AreLists}
use Rattle.cla_offsets.proofs.SegmentRows.{segment_row, segment_size}
use Rattle.cla_offsets.proofs.ListPlaces.{more_lists, lists_few}
use Rattle.cla_offsets.proofs.ToldCodes.{lists_tell}
use Rattle.cla_offsets.proofs.rows.OffsetRows.from_codes.Goals.{After-loop-s}
use Rattle.cla_offsets.proofs.rows.OffsetRows.from_codes.Goals as goal

abbrev rows_of_codes : ℕ → ℕ → List ℕ → OffsetsOf
rows_of_codes tuples rest codes = record { codes = codes; tuples = tuples; rest = rest }

pub loop-s-init : goal.loop-s-init
loop-s-init c = record { lists = c.in_ok-lists.ensures (rows_of_codes c.args.tuples c.args.rest c.args.codes.now) }

pub add_segment-requires-clause-below : goal.add_segment-requires-clause-below
add_segment-requires-clause-below c = rw c.segment_in.ensures (λ j there.
    (let row = segment_row c.args.codes.now c.loop-s.s j there in
    omega (arith, row.2, c.requires.below (c.loop-s.s * segment_rows + j) row.1)))

pub add_segment-requires-clause-rows : goal.add_segment-requires-clause-rows
add_segment-requires-clause-rows c = rw c.segment_in.ensures (omega (arith, segment_size c.args.codes.now c.loop-s.s))

pub add_segment-requires-clause-few : goal.add_segment-requires-clause-few
add_segment-requires-clause-few c =
    let size = ap length c.loop-s.invariant.lists.offsets in
    let few = lists_few (rows_of_codes c.args.tuples c.args.rest c.args.codes.now) c.loop-s.s in
    omega (arith, size, few, c.loop-s-test.true, c.segment_count-segments.ensures, c.requires.few)

pub loop-s-preserved : goal.loop-s-preserved
loop-s-preserved c =
    let more = rw c.segment_in.ensures at c.in_ok-add_segment.ensures in
    record { lists = more_lists c.loop-s.s _ _ _ c.loop-s.invariant.lists more }

-- all lists
lists : (c : After-loop-s) →
    AreLists (segments_of (length c.args.codes.now)) (rows_of_codes c.args.tuples c.args.rest c.args.codes.now)
    c.loop-s.lists
lists c =
    let all : c.loop-s.s ≡ segments_of (length c.args.codes.now) =
    omega (arith, c.loop-s-test.false, c.loop-s.auto.s-end, c.segment_count-segments.ensures) in
    subst (λ (n : ℕ). AreLists n (rows_of_codes c.args.tuples c.args.rest c.args.codes.now) c.loop-s.lists) all
    c.loop-s.invariant.lists

pub invariant_of-result : goal.invariant_of-result
invariant_of-result c =
    let are = lists (goal.at.invariant_of-result c).After-loop-s in
    rw (lists_tell (rows_of_codes c.args.tuples c.args.rest c.args.codes.now) c.loop-s.lists c.requires.below are)
    (record {
      count = refl;
      tuples_are = refl;
      rest_is = refl;
      few = c.requires.few;
      few_tuples = c.requires.few_tuples;
      in_tuples = c.requires.below;
      lists = are;
      counted = c.in_ok-occurrences.ensures;
    })

pub returns : goal.returns
returns c =
    let v = rows_of_codes c.args.tuples c.args.rest c.args.codes.now in
    ap (rows_of_codes c.args.tuples c.args.rest)
    (lists_tell v c.loop-s.lists c.requires.below (lists (goal.at.returns c).After-loop-s))
