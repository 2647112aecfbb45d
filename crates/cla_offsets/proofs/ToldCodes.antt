-- The codes that lists tell.
use Rattle.std.proofs.Common.{◌≡◌, true, false, Bool, ℕ, zero, suc, ◌+◌, ◌/◌, ◌%◌, ◌<◌, ◌≤◌, List, length, cond, eqb}
use Rattle.std.proofs.Common.{refl, ap, subst, sym, ◌∙◌, arith, inl, inr}
use Rattle.std.specs.List.{list_any}
use Rattle.std.proofs.lemmas.Bool.{cases_eq, eq-eqb, ne_eqb}
use Rattle.std.proofs.lemmas.List.{ext_get_or}
use Rattle.std.proofs.lemmas.List.FromFn.{length-map-range_with_len, get_or-map-range_with_len}
use Rattle.cla_layout.specs.Groups.{code_of}
use Rattle.cla_offsets.specs.declared.lists.Lists.{Lists}
use Rattle.cla_offsets.specs.Rows.{OffsetsOf}
use Rattle.cla_offsets.specs.Segments.{segment_rows, segment_of, segments_of, listed, list_of, AreLists, list_kept}
use Rattle.cla_offsets.specs.Segments.{code_by, codes_kept}
use Rattle.cla_offsets.proofs.ListedRows.{list_has}
use Rattle.cla_offsets.proofs.ListPlaces.{list_is}
use Rattle.cla_offsets.proofs.SegmentRows.{segment_there, row_in_segment}

pub code_by_none : (rest : ℕ) (lists : ℕ → List ℕ) (j : ℕ) → code_by rest lists 0 j ≡ rest
unfolding code_by
code_by_none rest lists j = refl

pub code_by_more : (rest : ℕ) (lists : ℕ → List ℕ) (k j : ℕ) →
    code_by rest lists (k + 1) j ≡ cond (list_any (λ o. eqb o j) (lists k)) k (code_by rest lists k j)
unfolding code_by
code_by_more rest lists k j = let next : k + 1 ≡ suc k = omega arith in ap (λ (n : ℕ). code_by rest lists n j) next

-- one list more, which has the row or hasn't
pub told_step : (rest : ℕ) (lists : ℕ → List ℕ) (k j n : ℕ) (list : List ℕ) (b : Bool) → n ≡ k + 1 → list ≡ lists k →
    list_any (λ o. eqb o j) list ≡ b → cond b k (code_by rest lists k j) ≡ code_by rest lists n j
told_step rest lists k j n list b next is has =
    sym (ap (λ (m : ℕ). code_by rest lists m j) next ∙ code_by_more rest lists k j
    ∙ ap (λ (b : Bool). cond b k (code_by rest lists k j)) (ap (λ (xs : List ℕ). list_any (λ o. eqb o j) xs) (sym is)
    ∙ has))

none_either : (b : Bool) → cond b false false ≡ false
none_either true = refl
none_either false = refl

-- the lists of the codes below k tell those codes, and for all others the rest
record IsTold (code rest k told : ℕ) : Type 0 where
  below : code < k → told ≡ code
  above : k ≤ code → told ≡ rest

told_to : (codes : List ℕ) (rest : ℕ) (lists : ℕ → List ℕ) (j n : ℕ) → j < length codes →
    ((k : ℕ) → k < n → lists k ≡ listed codes rest k) → (k : ℕ) → k ≤ n →
    IsTold (code_of codes j) rest k (code_by rest lists k j)
told_to codes rest lists j n row are zero within = record {
  below = λ less. absurd (omega (arith, less));
  above = λ _. code_by_none rest lists j;
}
told_to codes rest lists j n row are (suc k) within =
    let c = code_of codes j in
    let next : k + 1 ≡ suc k = omega arith in
    let so_far = told_to codes rest lists j n row are k (omega (arith, within)) in
    let choose = λ (b : Bool). cond b k (code_by rest lists k j) in
    let has = ap (λ (xs : List ℕ). list_any (λ o. eqb o j) xs) (are k (omega (arith, within)))
    ∙ list_has codes rest k j row in
    let step = code_by_more rest lists k j ∙ ap choose has in
    let rest_at = λ (b : Bool). choose (cond b false (eqb c k)) in
    let is_at = λ (b : Bool). choose (cond (eqb k rest) false b) in
    subst (λ (m : ℕ). IsTold c rest m (code_by rest lists m j)) next (elim (cases_eq c k) [
      | inl same ↦ record {
        below = λ _. step ∙ (elim (cases_eq k rest) [
          | inl is_rest ↦ ap rest_at (eq-eqb k rest is_rest) ∙ so_far.above (omega (arith, same)) ∙ sym (same ∙ is_rest)
          | inr other ↦ ap rest_at (ne_eqb k rest other) ∙ ap choose (eq-eqb c k same) ∙ sym same
        ]);
        above = λ more. absurd (omega (arith, same, more));
      }
      | inr other ↦ (let kept = step ∙ ap is_at (ne_eqb c k other) ∙ ap choose (none_either (eqb k rest)) in record {
        below = λ less. kept ∙ so_far.below (omega (arith, less, other));
        above = λ more. kept ∙ so_far.above (omega (arith, more));
      })
    ])

-- the lists of all codes tell each row's code
pub code_told : (codes : List ℕ) (rest : ℕ) (lists : ℕ → List ℕ) (j n : ℕ) → j < length codes → code_of codes j < n →
    ((k : ℕ) → k < n → lists k ≡ listed codes rest k) → code_by rest lists n j ≡ code_of codes j
code_told codes rest lists j n row below are = (told_to codes rest lists j n row are n (omega arith)).below below

-- row by row
pub row_told : (v : OffsetsOf) (lists : ℕ → List ℕ) (i : ℕ) → i < length v.codes → code_of v.codes i < v.tuples →
    ((k : ℕ) → k < v.tuples → lists k ≡ list_of v (i / segment_rows) k) →
    code_by v.rest lists v.tuples (i % segment_rows) ≡ code_of v.codes i
row_told v lists i row below are =
    let here = row_in_segment v.codes i row in
    let segment = segment_of v.codes (i / segment_rows) in
    code_told segment v.rest lists (i % segment_rows) v.tuples here.0 (omega (arith, here.1, below)) are ∙ here.1

-- the lists that are kept tell all codes
pub lists_tell : (v : OffsetsOf) (l : Lists) → ((i : ℕ) → i < length v.codes → code_of v.codes i < v.tuples) →
    AreLists (segments_of (length v.codes)) v l → codes_kept (length v.codes) v.tuples v.rest l ≡ v.codes
unfolding codes_kept
lists_tell v l below are =
    let rows = length v.codes in
    let lists = λ (i : ℕ). list_kept v.tuples l (i / segment_rows) in
    let code = λ (i : ℕ). code_by v.rest (lists i) v.tuples (i % segment_rows) in
    let size = length-map-range_with_len code 0 rows in
    ext_get_or 0 (codes_kept rows v.tuples v.rest l) v.codes size
    (λ i there. (let row : i < rows = rw size at there in
    let begins : i / segment_rows < segments_of rows = segment_there rows (i / segment_rows) (omega (arith, row)) in
    get_or-map-range_with_len code 0 rows i i 0 row (omega arith)
    ∙ row_told v (lists i) i row (below i row) (λ k k_there. list_is (segments_of rows) v l are (i / segment_rows) k
    begins k_there)))
