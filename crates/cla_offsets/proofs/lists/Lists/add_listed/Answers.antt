use Rattle.std.proofs.Common.{rules, ◌≡◌, ◌+◌, ◌++◌, ◌∷◌, ℕ, List, [], length, refl, ap, sym, ◌∙◌, arith}
use Rattle.std.proofs.Common.{append_assoc}
use Rattle.cla_rows.specs.Chains.{lists_to, begins_to}
use Rattle.cla_rows.proofs.Chains.{begins_more}
use Rattle.cla_layout.specs.Groups.{code_of}
use Rattle.cla_offsets.specs.RowLists.{listed_before, segment_begin}
use Rattle.cla_offsets.specs.Segments.{segment_of, listed}
use Rattle.cla_offsets.proofs.ListedSegments.{from_segment}
use Rattle.cla_offsets.proofs.ListWalks.{under_way_none, under_way_more, added_size, added_few, cursor_there}
use Rattle.cla_offsets.proofs.ListWalks.{rows_left, segment_passed}
use Rattle.cla_offsets.proofs.lists.Lists.add_listed.Goals as goal

pub loop-k-init : goal.loop-k-init
loop-k-init c = record {
  bases = search (rules, c.in_ok-push.ensures.items);
  added = λ codes rest at begins. under_way_none c.args.s codes rest c.args.self.now.starts.items
      c.args.self.now.offsets.items c.args.cursors.now;
}

pub next_start-start-requires : goal.next_start-start-requires
next_start-start-requires c =
    let codes = c.requires.at.0 in
    let rest = c.requires.at.1 in
    let are = c.loop-k.invariant.added codes rest c.requires.at.2 c.requires.at.3 in
    let size = added_size c.loop-k.k c.args.s codes rest _ _ _ _ _ _ are in
    record {
      past = omega (arith, c.len-base.ensures, size);
      few = omega (arith, c.len-base.ensures, size, added_few c.loop-k.k c.args.s codes rest);
    }

pub list_from-rows-requires : goal.list_from-rows-requires
list_from-rows-requires c =
    let codes = c.requires.at.0 in
    let rest = c.requires.at.1 in
    let at = c.requires.at.2 in
    let k = c.loop-k.k in
    let are = c.loop-k.invariant.added codes rest at c.requires.at.3 in (
      listed codes rest,
      c.args.tuples,
      length (listed_before codes rest (segment_begin codes c.args.s) k),
      at.lists,
      cursor_there k c.args.s codes c.args.tuples rest _ _ _ at _ _ _ _ _ are c.loop-k-test.true _ refl,
    )

pub push_before-requires-clause-few : goal.push_before-requires-clause-few
push_before-requires-clause-few c =
    let codes = c.requires.at.0 in
    let rest = c.requires.at.1 in
    let at = c.requires.at.2 in
    let k = c.loop-k.k in
    let are = c.loop-k.invariant.added codes rest at c.requires.at.3 in
    let place = cursor_there k c.args.s codes c.args.tuples rest _ _ _ at _ _ _ _ _ are c.loop-k-test.true
    (code_of c.loop-k.cursors k) refl in
    let rows = c.list_from-rows.ensures (listed codes rest) c.args.tuples
    (length (listed_before codes rest (segment_begin codes c.args.s) k)) at.lists place in
    omega (arith, rows_left k c.args.s codes c.args.tuples rest _ _ _ _ at c.loop-k-test.true rows, at.few)

pub push_before-requires-clause-from : goal.push_before-requires-clause-from
push_before-requires-clause-from c =
    let codes = c.requires.at.0 in
    let rest = c.requires.at.1 in
    let at = c.requires.at.2 in
    let k = c.loop-k.k in
    let are = c.loop-k.invariant.added codes rest at c.requires.at.3 in
    let place = cursor_there k c.args.s codes c.args.tuples rest _ _ _ at _ _ _ _ _ are c.loop-k-test.true
    (code_of c.loop-k.cursors k) refl in
    let rows = c.list_from-rows.ensures (listed codes rest) c.args.tuples
    (length (listed_before codes rest (segment_begin codes c.args.s) k)) at.lists place in
    from_segment codes rest k c.args.s (omega (arith, c.requires.at.3)) c.list_from-rows.result.now rows

pub overflow_add-cursors : goal.overflow_add-cursors
overflow_add-cursors c =
    let codes = c.requires.at.0 in
    let rest = c.requires.at.1 in
    let at = c.requires.at.2 in
    let k = c.loop-k.k in
    let are = c.loop-k.invariant.added codes rest at c.requires.at.3 in
    let place = cursor_there k c.args.s codes c.args.tuples rest _ _ _ at _ _ _ _ _ are c.loop-k-test.true
    (code_of c.loop-k.cursors k) refl in
    let rows = c.list_from-rows.ensures (listed codes rest) c.args.tuples
    (length (listed_before codes rest (segment_begin codes c.args.s) k)) at.lists place in
    omega (
      arith,
      rows_left k c.args.s codes c.args.tuples rest _ _ _ _ at c.loop-k-test.true rows,
      place.place_is,
      c.in_ok-cursors.ensures.within,
      at.few,
    )

pub loop-k-preserved : goal.loop-k-preserved
loop-k-preserved c = record {
  bases = c.loop-k.invariant.bases;
  added = λ codes rest at begins.
      (let k = c.loop-k.k in
      let are = c.loop-k.invariant.added codes rest at begins in
      let place = cursor_there k c.args.s codes c.args.tuples rest _ _ _ at _ _ _ _ _ are c.loop-k-test.true
      (code_of c.loop-k.cursors k) refl in
      let rows = c.list_from-rows.ensures (listed codes rest) c.args.tuples
      (length (listed_before codes rest (segment_begin codes c.args.s) k)) at.lists place in
      let start : length c.args.self.now.offsets.items + c.next_start-start.result ≡ length
      c.loop-k.self.offsets.items =
      omega (arith, c.next_start-start.ensures, c.len-base.ensures) in
      rw c.in_ok-push-2.ensures.items
      (under_way_more k c.args.s codes c.args.tuples rest _ _ c.args.cursors.now at begins c.loop-k-test.true _ _ _ _ _
      c.loop-k.cursors are c.next_start-start.result (code_of c.loop-k.cursors k) c.in_ok-cursors.field-0
      c.list_from-rows.result.now start refl rows c.in_ok-cursors.ensures));
}

pub next_start-end-requires : goal.next_start-end-requires
next_start-end-requires c =
    let codes = c.requires.at.0 in
    let rest = c.requires.at.1 in
    let are = c.loop-k.invariant.added codes rest c.requires.at.2 c.requires.at.3 in
    let size = added_size c.loop-k.k c.args.s codes rest _ _ _ _ _ _ are in
    record {
      past = omega (arith, c.len-base.ensures, size);
      few = omega (arith, c.len-base.ensures, size, added_few c.loop-k.k c.args.s codes rest);
    }

pub returns-clause-added : goal.returns-clause-added
returns-clause-added c = λ codes rest at begins.
    (let old = c.args.self.now in
    let k = c.loop-k.k in
    let list = listed (segment_of codes c.args.s) rest in
    let are = c.loop-k.invariant.added codes rest at begins in
    let last : k ≡ c.args.tuples = omega (arith, c.loop-k-test.false, c.loop-k.auto.k-end) in
    let size = added_size k c.args.s codes rest _ _ _ _ _ _ are in
    let end : c.next_start-end.result ≡ length (lists_to list k) =
    omega (arith, c.next_start-end.ensures, c.len-base.ensures, size) in
    record {
      bases = c.loop-k.invariant.bases;
      starts =
          c.in_ok-push-3.ensures.items
          ∙ ap (λ (xs : List ℕ). xs ++ c.next_start-end.result ∷ []) are.starts_are
          ∙ append_assoc old.starts.items (begins_to list k) (c.next_start-end.result ∷ [])
          ∙ ap (λ (n : ℕ). old.starts.items ++ (begins_to list k ++ n ∷ [])) end
          ∙ ap (λ (xs : List ℕ). old.starts.items ++ xs) (sym (begins_more list k))
          ∙ ap (λ (n : ℕ). old.starts.items ++ begins_to list (n + 1)) last;
      offsets = are.offsets_are ∙ ap (λ (n : ℕ). old.offsets.items ++ lists_to list n) last;
    })

pub returns-clause-moved : goal.returns-clause-moved
returns-clause-moved c = λ codes rest at begins.
    (let last : c.loop-k.k ≡ c.args.tuples = omega (arith, c.loop-k-test.false, c.loop-k.auto.k-end) in
    segment_passed c.args.s codes c.args.tuples rest _ _ _ at c.loop-k.k last _ _ _ _ _
    (c.loop-k.invariant.added codes rest at begins))
