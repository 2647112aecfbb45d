use Rattle.std.proofs.Common.{◌≡◌, ◌+◌, ◌*◌, ◌<◌, ℕ, List, length, drop, subst, ap, sym, ◌∙◌, arith}
use Rattle.std.proofs.lemmas.List.{take_at}
use Rattle.cla_offsets.specs.Rows.{OffsetsOf}
use Rattle.cla_offsets.specs.RowLists.{AreAtSegment}
use Rattle.cla_offsets.specs.Segments.{segment_rows, segments_of, AreLists}
use Rattle.cla_offsets.proofs.ListPlaces.{more_lists, lists_few}
use Rattle.cla_offsets.proofs.ListWalks.{at_start}
use Rattle.cla_offsets.proofs.lists.Lists.from_lists.Goals as goal

abbrev rows_of_codes : ℕ → ℕ → List ℕ → OffsetsOf
rows_of_codes tuples rest codes = record { codes = codes; tuples = tuples; rest = rest }

pub loop-s-init : goal.loop-s-init
loop-s-init c = record {
  lists = λ codes rest first_unlisted lists. (
    c.in_ok-kept.ensures (rows_of_codes c.args.tuples rest codes),
    at_start codes c.args.rows c.args.tuples rest first_unlisted _ _ _ lists
        (c.in_ok-cursors.ensures.items ∙ c.deref.ensures.value),
  );
}

pub add_listed-requires-clause-at : goal.add_listed-requires-clause-at
add_listed-requires-clause-at c =
    let codes = c.requires.0 in
    let lists = c.requires.3 in
    let so_far = c.loop-s.invariant.lists codes c.requires.1 c.requires.2 lists in
    let begins : c.loop-s.s * segment_rows < length codes =
    omega (arith, lists.count, c.loop-s-test.true, c.segment_count-segments.ensures) in
    (codes, c.requires.1, rw c.deref_mut.ensures.value so_far.1, begins)

pub add_listed-requires-clause-few : goal.add_listed-requires-clause-few
add_listed-requires-clause-few c =
    let codes = c.requires.0 in
    let lists = c.requires.3 in
    let so_far = c.loop-s.invariant.lists codes c.requires.1 c.requires.2 lists in
    omega (
      arith,
      ap (λ (xs : List ℕ). length xs) so_far.0.offsets,
      lists_few (rows_of_codes c.args.tuples c.requires.1 codes) c.loop-s.s,
      c.loop-s-test.true,
      c.segment_count-segments.ensures,
      lists.few,
    )

pub loop-s-preserved : goal.loop-s-preserved
loop-s-preserved c = record {
  lists = λ codes rest first_unlisted lists.
      (let s = c.loop-s.s in
      let so_far = c.loop-s.invariant.lists codes rest first_unlisted lists in
      let begins : s * segment_rows < length codes =
      omega (arith, lists.count, c.loop-s-test.true, c.segment_count-segments.ensures) in
      let at = subst (λ (cursors : List ℕ). AreAtSegment s codes c.args.tuples rest c.args.lists.now.starts.items
      c.args.lists.now.places.items cursors) (sym c.deref_mut.ensures.value) so_far.1 in
      let added = c.in_ok-add_listed.ensures.added codes rest at begins in
      let moved = c.in_ok-add_listed.ensures.moved codes rest at begins in
      let cursors = c.add_listed.new.cursors in
      let kept : length cursors ≡ c.loop-s.cursors.len = c.add_listed.auto.cursors ∙ c.deref_mut.ensures.len in
      let whole = take_at cursors (drop (length cursors) c.loop-s.cursors.items) c.loop-s.cursors.len kept in
      let moved_on = subst (λ (xs : List ℕ). AreAtSegment (s + 1) codes c.args.tuples rest c.args.lists.now.starts.items
      c.args.lists.now.places.items xs) (sym whole) moved in
      (more_lists s (rows_of_codes c.args.tuples rest codes) _ _ so_far.0 added, moved_on));
}

pub returns : goal.returns
returns c = λ codes rest first_unlisted lists.
    (let all : c.loop-s.s ≡ segments_of c.args.rows =
    omega (arith, c.loop-s-test.false, c.loop-s.auto.s-end, c.segment_count-segments.ensures) in
    subst (λ (n : ℕ). AreLists n (rows_of_codes c.args.tuples rest codes) c.loop-s.kept) all
    (c.loop-s.invariant.lists codes rest first_unlisted lists).0)
