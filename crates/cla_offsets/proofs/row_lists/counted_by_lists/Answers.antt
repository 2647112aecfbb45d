use Rattle.std.proofs.Common.{◌≡◌, ◌<◌, ◌+◌, ◌-◌, ℕ, List, length, slice_index_or, subst, ap, sym, ◌∙◌, arith}
use Rattle.std.proofs.lemmas.List.{get_or_read, length_push}
use Rattle.cla_offsets.specs.Segments.{listed}
use Rattle.cla_offsets.specs.RowLists.{AreRowLists, IsPlaceIn}
use Rattle.cla_offsets.proofs.CountedApart.{apart_put}
use Rattle.cla_offsets.proofs.ListCounts.{AreCountedTo, counted_push, counted_all, counted_without}
use Rattle.cla_offsets.proofs.ListWalks.{are_chained, starts_count, list_start, list_few, places_few}
use Rattle.cla_offsets.proofs.row_lists.counted_by_lists.Goals.{then-rest-tuples, else-rest-tuples}
use Rattle.cla_offsets.proofs.row_lists.counted_by_lists.Goals as goal

-- the whole list of a code
list_there : (codes : List ℕ) (rows tuples rest first_unlisted k start : ℕ) (starts places : List ℕ) →
    AreRowLists codes rows tuples rest first_unlisted starts places → k < tuples →
    start ≡ slice_index_or starts k start → IsPlaceIn (listed codes rest) tuples k 0 start
list_there codes rows tuples rest first_unlisted k start starts places lists there read =
    let chained = are_chained codes rows tuples rest first_unlisted starts places lists in
    let count = starts_count (listed codes rest) tuples starts places chained in
    list_start (listed codes rest) tuples k start starts places chained there
    (get_or_read starts k start (omega (arith, there, count)) read 0)

pub index-requires : goal.index-requires
index-requires c =
    omega (arith, starts_count _ _ _ _ (are_chained _ _ _ _ _ _ _ c.requires.1), c.loop-k-test.true)

pub list_from-list-requires : goal.list_from-list-requires
list_from-list-requires c =
    let codes = c.requires.0 in (
      listed codes c.args.rest,
      c.args.tuples,
      0,
      are_chained _ _ _ _ _ _ _ c.requires.1,
      list_there codes _ _ _ _ c.loop-k.k _ _ _ c.requires.1 c.loop-k-test.true c.index.ensures,
    )

pub overflow_cast-list : goal.overflow_cast-list
overflow_cast-list c =
    let codes = c.requires.0 in
    let lists = c.requires.1 in
    let chained = are_chained _ _ _ _ _ _ _ lists in
    let is = c.list_from-list.ensures (listed codes c.args.rest) c.args.tuples 0 chained
    (list_there codes _ _ _ _ c.loop-k.k _ _ _ lists c.loop-k-test.true c.index.ensures) in
    omega (
      arith,
      ap (λ (xs : List ℕ). length xs) is,
      list_few codes c.args.rest c.args.tuples c.loop-k.k _ _ chained c.loop-k-test.true,
      lists.count,
      lists.few,
    )

pub loop-k-preserved : goal.loop-k-preserved
loop-k-preserved c =
    let k = c.loop-k.k in
    let list = c.list_from-list.result.now in
    let so_far = c.loop-k.invariant in
    record {
      a_count_each =
          ap (λ (xs : List ℕ). length xs) c.in_ok-push.ensures.items
          ∙ length_push c.loop-k.counts.items (length list) ∙ ap (λ (n : ℕ). n + 1) so_far.a_count_each;
      a_row_each =
          ap (λ (xs : List ℕ). length xs) c.in_ok-push-2.ensures.items
          ∙ length_push c.loop-k.first_rows.items c.first_in.result ∙ ap (λ (n : ℕ). n + 1) so_far.a_row_each;
      counted = λ codes lists.
          (let is = c.list_from-list.ensures (listed codes c.args.rest) c.args.tuples 0
          (are_chained codes _ _ _ _ _ _ lists)
          (list_there codes _ _ _ _ k _ _ _ lists c.loop-k-test.true c.index.ensures) in
          rw (c.in_ok-push.ensures.items, c.in_ok-push-2.ensures.items)
          (counted_push k codes c.args.rest c.args.rows c.first_in.result list c.loop-k.counts.items
          c.loop-k.first_rows.items so_far.a_count_each so_far.a_row_each (sym lists.count) is
          c.first_in.ensures.some c.first_in.ensures.none (so_far.counted codes lists)));
    }

pub overflow_cast-len : goal.overflow_cast-len
overflow_cast-len c =
    let lists = c.requires.1 in
    omega (
      arith,
      c.len.ensures,
      places_few _ _ _ _ _ (are_chained _ _ _ _ _ _ _ lists),
      lists.count,
      lists.few,
    )

pub overflow_sub-rows : goal.overflow_sub-rows
overflow_sub-rows c =
    let lists = c.requires.1 in
    omega (arith, c.len.ensures, places_few _ _ _ _ _ (are_chained _ _ _ _ _ _ _ lists), lists.count)

pub returns : goal.returns
returns c = λ codes lists.
    (let k = c.loop-k.k in
    let counts = c.loop-k.counts.items in
    let first_rows = c.loop-k.first_rows.items in
    let so_far = c.loop-k.invariant in
    let last : k ≡ c.args.tuples = omega (arith, c.loop-k-test.false, c.loop-k.auto.k-end) in
    let a_count = so_far.a_count_each ∙ last in
    let a_row = so_far.a_row_each ∙ last in
    let counted = subst (λ (n : ℕ). AreCountedTo n codes c.args.rest counts first_rows) last
    (so_far.counted codes lists) in
    elim c.if-rest-tuples.branch [
      | then-rest-tuples w ↦
          let unlisted = c.args.rows - w.len.result in
          let left : unlisted ≡ c.args.rows - length c.args.lists.now.places.items = omega (arith, w.len.ensures) in
          let apart =
          counted_all codes c.args.rows c.args.tuples c.args.rest c.args.first_unlisted _ _ counts first_rows
          lists a_count a_row counted unlisted w.if-rest-tuples.true left in
          rw (w.counts-is, w.first_rows-is)
          (apart_put codes c.args.tuples c.args.rest counts first_rows unlisted c.args.first_unlisted
          w.if-rest-tuples.true apart)
      | else-rest-tuples w ↦ rw (w.counts-is, w.first_rows-is)
          (counted_without codes c.args.tuples c.args.rest counts first_rows w.if-rest-tuples.false a_count a_row
          counted)
    ])
