-- The lists of rows, walked segment by segment.
use Rattle.std.proofs.Common.{◌≡◌, Bool, true, false, ℕ, ◌+◌, ◌*◌, ◌<◌, ◌≤◌, List, [], ◌∷◌, ◌++◌, length, drop, set}
use Rattle.std.proofs.Common.{cond, eqb, ap}
use Rattle.std.proofs.Common.{refl, subst, sym, ◌∙◌, append_assoc, append-nil, arith, inl, inr}
use Rattle.std.proofs.lemmas.Bool.{cases_eq}
use Rattle.std.proofs.lemmas.List.{length-append, length-set, length-drop, get_or-set_same, get_or-set_other}
use Rattle.cla_layout.specs.Groups.{code_of}
use Rattle.cla_layout.specs.Listed.{rows_where}
use Rattle.cla_rows.specs.Chains.{lists_to, begins_to}
use Rattle.cla_rows.proofs.Chains.{lists_none, lists_more, begins_count, begin_at, begins_more, list_within_all}
use Rattle.cla_offsets.specs.declared.lists.Lists.{Lists}
use Rattle.cla_offsets.specs.Rows.{OffsetsOf}
use Rattle.cla_offsets.specs.Segments.{segment_rows, segment_of, segments_of, listed, AreLists, codes_kept}
use Rattle.cla_offsets.specs.RowLists.{AreRowLists, AreChained, IsPlaceIn, listed_before, segment_begin, ArePushed}
use Rattle.cla_offsets.specs.RowLists.{cursor_of, AreAtSegment}
use Rattle.cla_offsets.proofs.ListedRows.{listed_few}
use Rattle.cla_offsets.proofs.ListedSegments.{list_passed, listed_before_few}
use Rattle.cla_offsets.proofs.SegmentRows.{segment_size}
use Rattle.cla_offsets.proofs.ToldCodes.{lists_tell}

-- lists of rows as they are chained
pub are_chained : (codes : List ℕ) (rows tuples rest first_unlisted : ℕ) (starts places : List ℕ) →
    AreRowLists codes rows tuples rest first_unlisted starts places
    → AreChained (listed codes rest) tuples starts places
are_chained codes rows tuples rest first_unlisted starts places lists = record {
  starts_are = lists.starts_are;
  places_are = lists.places_are;
}

pub starts_count : (f : ℕ → List ℕ) (count : ℕ) (starts places : List ℕ) → AreChained f count starts places →
    length starts ≡ count + 1
starts_count f count starts places are = ap (λ (xs : List ℕ). length xs) are.starts_are ∙ begins_count f (count + 1)

pub start_is : (f : ℕ → List ℕ) (count : ℕ) (starts places : List ℕ) → AreChained f count starts places → (k : ℕ) →
    k < count + 1 → code_of starts k ≡ length (lists_to f k)
start_is f count starts places are k there =
    ap (λ (xs : List ℕ). code_of xs k) are.starts_are ∙ begin_at f k (count + 1) there

-- where a whole list begins
pub list_start : (f : ℕ → List ℕ) (count k start : ℕ) (starts places : List ℕ) → AreChained f count starts places →
    k < count → start ≡ code_of starts k → IsPlaceIn f count k 0 start
list_start f count k start starts places are there is = record {
  there = there;
  within = omega arith;
  place_is = omega (arith, is, start_is f count starts places are k (omega (arith, there)));
}

-- no more rows are listed than there are
pub places_few : (codes : List ℕ) (rest tuples : ℕ) (starts places : List ℕ) →
    AreChained (listed codes rest) tuples starts places → length places ≤ length codes
places_few codes rest tuples starts places are =
    omega (arith, ap (λ (xs : List ℕ). length xs) are.places_are, listed_few codes rest tuples)

pub list_few : (codes : List ℕ) (rest tuples k : ℕ) (starts places : List ℕ) →
    AreChained (listed codes rest) tuples starts places → k < tuples →
    length (lists_to (listed codes rest) k) + length (listed codes rest k) ≤ length codes
list_few codes rest tuples k starts places are there =
    omega (arith, list_within_all (listed codes rest) k tuples there, listed_few codes rest tuples)

either_none : (b : Bool) (xs : List ℕ) → xs ≡ [] → length (cond b [] xs) ≡ 0
either_none true xs none = refl
either_none false xs none = ap (λ (ys : List ℕ). length ys) none

-- before the first segment no row is passed
none_before : (codes : List ℕ) (rest k : ℕ) → length (listed_before codes rest (segment_begin codes 0) k) ≡ 0
none_before codes rest k =
    let first : segment_begin codes 0 ≡ 0 = omega arith in
    ap (λ (i : ℕ). length (listed_before codes rest i k)) first
    ∙ either_none (eqb k rest) (rows_where (λ i. eqb (code_of codes i) k) 0) refl

pub at_start : (codes : List ℕ) (rows tuples rest first_unlisted : ℕ) (starts places cursors : List ℕ) →
    AreRowLists codes rows tuples rest first_unlisted starts places → cursors ≡ starts →
    AreAtSegment 0 codes tuples rest starts places cursors
at_start codes rows tuples rest first_unlisted starts places cursors lists are =
    let chained = are_chained codes rows tuples rest first_unlisted starts places lists in
    record {
      few = omega (arith, lists.few, lists.count);
      lists = chained;
      a_cursor_each =
          omega (
            arith,
            ap (λ (xs : List ℕ). length xs) are,
            starts_count (listed codes rest) tuples starts places chained,
          );
      cursors_are =
          λ k there. omega (
            arith,
            ap (λ (xs : List ℕ). code_of xs k) are,
            start_is (listed codes rest) tuples starts places chained k (omega (arith, there)),
            none_before codes rest k,
          );
    }

-- in segment s the lists of the codes before code k are added
pub record IsUnderWay (k s : ℕ) (codes : List ℕ) (rest : ℕ) (old_starts starts old_offsets offsets : List ℕ)
    (old_cursors cursors : List ℕ) : Type 0 where
  pub starts_are : starts ≡ old_starts ++ begins_to (listed (segment_of codes s) rest) k
  pub offsets_are : offsets ≡ old_offsets ++ lists_to (listed (segment_of codes s) rest) k
  pub same_count : length cursors ≡ length old_cursors
  pub moved : (j : ℕ) → j < k → code_of cursors j ≡ cursor_of codes rest (s + 1) j
  pub still : (j : ℕ) → k ≤ j → code_of cursors j ≡ code_of old_cursors j

pub under_way_none : (s : ℕ) (codes : List ℕ) (rest : ℕ) (starts offsets cursors : List ℕ) →
    IsUnderWay 0 s codes rest starts starts offsets offsets cursors cursors
under_way_none s codes rest starts offsets cursors =
    let list = listed (segment_of codes s) rest in
    record {
      starts_are =
          sym (ap (λ (xs : List ℕ). starts ++ xs) (lists_none (λ i. length (lists_to list i) ∷ []))
          ∙ append-nil starts);
      offsets_are = sym (ap (λ (xs : List ℕ). offsets ++ xs) (lists_none list) ∙ append-nil offsets);
      same_count = refl;
      moved = λ j there. absurd (omega (arith, there));
      still = λ j there. refl;
    }

-- how many offsets are added so far
pub added_size : (k s : ℕ) (codes : List ℕ) (rest : ℕ)
    (old_starts starts old_offsets offsets old_cursors cursors : List ℕ) →
    IsUnderWay k s codes rest old_starts starts old_offsets offsets old_cursors cursors →
    length offsets ≡ length old_offsets + length (lists_to (listed (segment_of codes s) rest) k)
added_size k s codes rest old_starts starts old_offsets offsets old_cursors cursors are =
    ap (λ (xs : List ℕ). length xs) are.offsets_are
    ∙ length-append old_offsets (lists_to (listed (segment_of codes s) rest) k)

pub added_few : (k s : ℕ) (codes : List ℕ) (rest : ℕ) →
    length (lists_to (listed (segment_of codes s) rest) k) ≤ segment_rows
added_few k s codes rest =
    omega (arith, listed_few (segment_of codes s) rest k, segment_size codes s)

-- the place of the cursor of code k
module _ (k s : ℕ) (codes : List ℕ) (tuples rest : ℕ) (starts places old_cursors : List ℕ)
    (at : AreAtSegment s codes tuples rest starts places old_cursors) where
  pub cursor_there : (kept_starts kept old_offsets offsets cursors : List ℕ) →
      IsUnderWay k s codes rest kept_starts kept old_offsets offsets old_cursors cursors → k < tuples →
      (cursor : ℕ) → cursor ≡ code_of cursors k →
      IsPlaceIn (listed codes rest) tuples k (length (listed_before codes rest (segment_begin codes s) k)) cursor
  cursor_there kept_starts kept old_offsets offsets cursors are there cursor is = record {
    there = there;
    within = listed_before_few codes rest (segment_begin codes s) k (omega arith);
    place_is = omega (arith, is, are.still k (omega arith), at.cursors_are k there);
  }

-- the list of one more code is added
pub under_way_more : (k s : ℕ) (codes : List ℕ) (tuples rest : ℕ) (starts places old_cursors : List ℕ) →
    AreAtSegment s codes tuples rest starts places old_cursors → s * segment_rows < length codes → k < tuples →
    (old_starts kept old_offsets offsets new_offsets cursors : List ℕ) →
    IsUnderWay k s codes rest old_starts kept old_offsets offsets old_cursors cursors →
    (start cursor n : ℕ) (rows : List ℕ) → length old_offsets + start ≡ length offsets → cursor ≡ code_of cursors k →
    rows ≡ drop (length (listed_before codes rest (segment_begin codes s) k)) (listed codes rest k) →
    ArePushed rows (s * segment_rows) (s * segment_rows + segment_rows) n offsets new_offsets →
    IsUnderWay (k + 1) s codes rest old_starts (kept ++ start ∷ []) old_offsets new_offsets old_cursors
    (set cursors k (cursor + n))
under_way_more k s codes tuples rest starts places old_cursors at begins there old_starts kept old_offsets offsets
    new_offsets cursors are start cursor n rows start_is cursor_is rows_are pushed =
    let list = listed (segment_of codes s) rest in
    let passed = list_passed codes rest k s (omega (arith, begins)) rows rows_are n offsets new_offsets pushed in
    let start_at : start ≡ length (lists_to list k) =
    omega (
      arith,
      start_is,
      added_size k s codes rest old_starts kept old_offsets offsets old_cursors cursors are,
    ) in
    let place : cursor + n ≡ cursor_of codes rest (s + 1) k =
    omega (arith, cursor_is, are.still k (omega arith), at.cursors_are k there, passed.moved) in
    let room : k < length cursors = omega (arith, there, at.a_cursor_each, are.same_count) in
    record {
      starts_are =
          ap (λ (xs : List ℕ). xs ++ start ∷ []) are.starts_are
          ∙ append_assoc old_starts (begins_to list k) (start ∷ [])
          ∙ ap (λ (m : ℕ). old_starts ++ (begins_to list k ++ m ∷ [])) start_at
          ∙ ap (λ (xs : List ℕ). old_starts ++ xs) (sym (begins_more list k));
      offsets_are =
          passed.appended ∙ ap (λ (xs : List ℕ). xs ++ list k) are.offsets_are
          ∙ append_assoc old_offsets (lists_to list k) (list k)
          ∙ ap (λ (xs : List ℕ). old_offsets ++ xs) (sym (lists_more list k));
      same_count = length-set cursors k (cursor + n) ∙ are.same_count;
      moved = λ j before. elim (cases_eq j k) [
        | inl same ↦
            ap (code_of (set cursors k (cursor + n))) same ∙ get_or-set_same cursors k (cursor + n) 0 room ∙ place
            ∙ ap (cursor_of codes rest (s + 1)) (sym same)
        | inr other ↦
            get_or-set_other cursors k j (cursor + n) 0 other ∙ are.moved j (omega (arith, before, other))
      ];
      still = λ j past.
          get_or-set_other cursors k j (cursor + n) 0 (λ same. absurd (omega (arith, same, past)))
          ∙ are.still j (omega (arith, past));
    }

-- all lists are added
pub segment_passed : (s : ℕ) (codes : List ℕ) (tuples rest : ℕ) (starts places old_cursors : List ℕ) →
    AreAtSegment s codes tuples rest starts places old_cursors → (k : ℕ) → k ≡ tuples →
    (old_starts kept old_offsets offsets cursors : List ℕ) →
    IsUnderWay k s codes rest old_starts kept old_offsets offsets old_cursors cursors →
    AreAtSegment (s + 1) codes tuples rest starts places cursors
segment_passed s codes tuples rest starts places old_cursors at k all old_starts kept old_offsets offsets cursors are =
    record {
      few = at.few;
      lists = at.lists;
      a_cursor_each = omega (arith, are.same_count, at.a_cursor_each);
      cursors_are = λ j there. are.moved j (omega (arith, there, all));
    }

-- how far a list goes from its cursor on
pub rows_left : (k s : ℕ) (codes : List ℕ) (tuples rest : ℕ) (starts places cursors rows : List ℕ) →
    AreAtSegment s codes tuples rest starts places cursors → k < tuples →
    rows ≡ drop (length (listed_before codes rest (segment_begin codes s) k)) (listed codes rest k) →
    length (lists_to (listed codes rest) k) + length (listed_before codes rest (segment_begin codes s) k) + length rows
    ≤ length codes
rows_left k s codes tuples rest starts places cursors rows at there are =
    let list = listed codes rest k in
    let before = length (listed_before codes rest (segment_begin codes s) k) in
    omega (
      arith,
      ap (λ (xs : List ℕ). length xs) are,
      length-drop before list,
      listed_before_few codes rest (segment_begin codes s) k (omega arith),
      list_few codes rest tuples k starts places at.lists there,
    )

-- the lists of all segments tell the codes
pub lists_tell_codes : (codes : List ℕ) (rows tuples rest first_unlisted : ℕ) (starts places : List ℕ) (kept : Lists) →
    AreRowLists codes rows tuples rest first_unlisted starts places →
    AreLists (segments_of rows) (record { codes = codes; tuples = tuples; rest = rest }) kept →
    codes_kept rows tuples rest kept ≡ codes
lists_tell_codes codes rows tuples rest first_unlisted starts places kept lists are =
    let v : OffsetsOf = record { codes = codes; tuples = tuples; rest = rest } in
    let tell = lists_tell v kept (λ i row. lists.in_tuples i (omega (arith, row, lists.count))) in
    subst (λ (n : ℕ). AreLists (segments_of n) v kept → codes_kept n tuples rest kept ≡ codes) lists.count tell are
