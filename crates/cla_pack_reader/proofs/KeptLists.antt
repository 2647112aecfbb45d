-- Lists that are kept one behind the other.
use Rattle.std.proofs.Common.{◌≡◌, ℕ, zero, suc, ◌+◌, ◌<◌, ◌≤◌, Bool, true, false, eqb, List, [], ◌∷◌, ◌++◌, length}
use Rattle.std.proofs.Common.{set, replicate, refl, sym, ap, subst, ◌∙◌, append_assoc, append-nil, arith, inl, inr}
use Rattle.std.specs.Prelude.{◌||◌}
use Rattle.std.specs.List.{AllByRecursion, IsDistinct, list_any}
use Rattle.std.proofs.lemmas.Bool.{cases_eq, eq-eqb, ne_eqb, eqb-true, or_cases, or_from, or_parts, false≢true}
use Rattle.std.proofs.lemmas.List.{length_push, length-set, get_or_append_left, get_or_push}
use Rattle.std.proofs.lemmas.List.Folds.{list_any-append, list_any_at}
use Rattle.std.proofs.lemmas.Map.Steps.{length-le_from_distinct_below}
use Rattle.cla_packed.specs.Codes.{has}
use Rattle.cla_packed.specs.Lists.{named}
use Rattle.cla_packed.specs.Offsets.{fits_row, joined}
use Rattle.cla_rows.specs.Chains.{lists_to, begins_to}
use Rattle.cla_rows.proofs.Chains.{lists_none, lists_more, begins_more}
use Rattle.cla_pack_reader.proofs.OwnerLaws.{has_push, row_parts, joined-append}
use Rattle.cla_pack_reader.proofs.WalkLaws.{mark_put, none_from, state_pushed, list_pushed, no_lists}
use Rattle.cla_pack_reader.specs.declared.walk.Walk.{Walk}
use Rattle.cla_pack_reader.specs.ListedRows.{list_in}
use Rattle.cla_pack_reader.specs.Segments.{IsOffsetState}
use Rattle.cla_pack_reader.specs.Walks.{at_start, past}

-- ---- different rows

apart_push : (x y : ℕ) (xs : List ℕ) → AllByRecursion (λ z. eqb x z ≡ false) xs → eqb x y ≡ false
    → AllByRecursion (λ z. eqb x z ≡ false) (xs ++ y ∷ [])
apart_push x y [] all one = (one, tt)
apart_push x y (z ∷ xs) all one = (all.0, apart_push x y xs all.1 one)

pub distinct_push : (xs : List ℕ) (y : ℕ) → IsDistinct eqb xs → has xs y ≡ false → IsDistinct eqb (xs ++ y ∷ [])
unfolding IsDistinct
distinct_push [] y d none = (tt, tt)
distinct_push (x ∷ xs) y d none =
    let p = or_parts (eqb x y) (has xs y) none in
    (apart_push x y xs d.0 p.0, distinct_push xs y d.1 p.1)

eqb_sym : (a b : ℕ) → eqb a b ≡ eqb b a
eqb_sym a b = elim (cases_eq a b) [
  | inl same ↦ eq-eqb a b same ∙ sym (eq-eqb b a (sym same))
  | inr other ↦ ne_eqb a b other ∙ sym (ne_eqb b a (λ e. other (sym e)))
]

any_has : (xs : List ℕ) (q : ℕ) → list_any (eqb q) xs ≡ has xs q
any_has [] q = refl
any_has (x ∷ xs) q = λ i. (eqb_sym q x i || any_has xs q i)

-- different rows below a bound are at most so many
pub few_rows : (rows : List ℕ) (n : ℕ) → IsDistinct eqb rows → ((i : ℕ) → has rows i ≡ true → i < n) → length rows ≤ n
few_rows rows n once within = length-le_from_distinct_below rows n once (λ q h. within q (sym (any_has rows q) ∙ h))

-- ---- lists one behind the other

pub has_joined : (lists : List (List ℕ)) (i : ℕ) → has (joined lists) i ≡ named lists i
has_joined [] i = refl
has_joined (list ∷ lists) i = list_any-append (λ m. eqb m i) list (joined lists)
    ∙ ap (λ (b : Bool). has list i || b) (has_joined lists i)

pub old_list : (lists : List (List ℕ)) (list : List ℕ) (t : ℕ) → t < length lists
    → list_in (lists ++ list ∷ []) t ≡ list_in lists t
old_list lists list t lt = get_or_append_left lists (list ∷ []) [] t lt

pub last_list : (lists : List (List ℕ)) (list : List ℕ) (t : ℕ) → length lists ≡ t
    → list_in (lists ++ list ∷ []) t ≡ list
last_list lists list t is = get_or_push lists list [] t is

pub named_in : (lists : List (List ℕ)) (t i : ℕ) → t < length lists → has (list_in lists t) i ≡ true
    → named lists i ≡ true
named_in lists t i lt h = list_any_at (λ list. has list i) lists t [] lt h

same_lists : (f g : ℕ → List ℕ) (n : ℕ) → ((t : ℕ) → t < n → f t ≡ g t) → lists_to f n ≡ lists_to g n
unfolding lists_to
same_lists f g zero same = refl
same_lists f g (suc n) same =
    λ i. (same_lists f g n (λ t lt. same t (omega (arith, lt))) i ++ same n (omega arith) i)

-- one list more
pub places_more : (lists : List (List ℕ)) (list : List ℕ)
    → lists_to (list_in (lists ++ list ∷ [])) (length lists + 1) ≡ lists_to (list_in lists) (length lists) ++ list
places_more lists list =
    let f = list_in (lists ++ list ∷ []) in
    let n = length lists in
    lists_more f n
    ∙ (λ i. (same_lists f (list_in lists) n (old_list lists list) i ++ last_list lists list n refl i))

pub begins_more_list : (lists : List (List ℕ)) (list : List ℕ)
    → begins_to (list_in (lists ++ list ∷ [])) (length lists + 1 + 1)
    ≡ begins_to (list_in lists) (length lists + 1)
    ++ length (lists_to (list_in (lists ++ list ∷ [])) (length lists + 1)) ∷ []
begins_more_list lists list =
    let f = list_in (lists ++ list ∷ []) in
    let g = list_in lists in
    let n = length lists in
    begins_more f (n + 1)
    ∙ ap (λ (l : List ℕ). l ++ length (lists_to f (n + 1)) ∷ [])
    (same_lists (λ t. length (lists_to f t) ∷ []) (λ t. length (lists_to g t) ∷ []) (n + 1)
    (λ t lt. ap (λ (l : List ℕ). length l ∷ [])
    (same_lists f g t (λ u less. old_list lists list u (omega (arith, less, lt))))))

pub begins_none : begins_to (list_in []) 1 ≡ 0 ∷ []
begins_none = begins_more (list_in []) 0 ∙ (λ i. (lists_none (λ t. length (lists_to (list_in []) t) ∷ []) i
    ++ length (lists_none (list_in []) i) ∷ []))

-- ---- the state behind offsets

module _ (earlier : List (List ℕ)) (so_far : List ℕ) (marks : List Bool) (places : List ℕ) (walk : Walk) (floor : ℕ)
    (s : IsOffsetState earlier so_far marks places walk floor) where
  pub offset_pushed : (row : ℕ) → row < length marks → fits_row earlier so_far row ≡ true
      → IsOffsetState earlier (so_far ++ row ∷ []) (set marks row true) (places ++ row ∷ []) (past walk row (row + 1))
      floor
  offset_pushed row lt fits =
      let p = row_parts earlier so_far row fits in
      let next : walk.next ≤ row = omega (arith, p.0, s.state.next) in
      let mine = none_from earlier so_far marks walk floor s.state row next in
      let none : has places row ≡ false = ap (λ (l : List ℕ). has l row) s.kept
      ∙ list_any-append (λ m. eqb m row) (joined earlier) so_far
      ∙ or_from (has (joined earlier) row) (has so_far row) (has_joined earlier row ∙ p.1) mine in
      record {
        state = state_pushed earlier so_far marks walk floor s.state row 1 (set marks row true) (omega arith) next
            (length-set marks row true) (mark_put marks row);
        kept = ap (λ (l : List ℕ). l ++ row ∷ []) s.kept ∙ append_assoc (joined earlier) so_far (row ∷ []);
        once = distinct_push places row s.once none;
        within = λ i h.
            elim (or_cases (has places i) (eqb row i) (sym (has_push places row i) ∙ h)) [
              | inl old ↦ omega (arith, s.within i old, length-set marks row true)
              | inr here ↦ omega (arith, eqb-true row i here, lt, length-set marks row true)
            ];
      }

  pub offsets_pushed : IsOffsetState (earlier ++ so_far ∷ []) [] marks places at_start (walk.first + 1)
  offsets_pushed = record {
    state = list_pushed earlier so_far marks walk floor s.state;
    kept = s.kept ∙ sym (joined-append earlier so_far) ∙ sym (append-nil (joined (earlier ++ so_far ∷ [])));
    once = s.once;
    within = s.within;
  }

  pub few_places : length places ≤ length marks
  few_places = few_rows places (length marks) s.once s.within

-- ---- the state behind whole lists

pub no_offsets : (rows : ℕ) (marks : List Bool) → marks ≡ replicate rows false
    → IsOffsetState [] [] marks [] at_start 0
unfolding IsDistinct
no_offsets rows marks are = subst (λ (l : List Bool). IsOffsetState [] [] l [] at_start 0) (sym are) (record {
  state = no_lists rows;
  kept = refl;
  once = tt;
  within = λ i h. absurd (false≢true h);
})

-- the lists are kept as `Grouped` keeps them
pub record AreChained (lists : List (List ℕ)) (starts : List ℕ) : Type 0 where
  pub rows : joined lists ≡ lists_to (list_in lists) (length lists)
  pub begins : starts ≡ begins_to (list_in lists) (length lists + 1)

pub chained_none : AreChained [] (0 ∷ [])
chained_none = record { rows = sym (lists_none (list_in [])); begins = sym begins_none }

pub chained_more : (lists : List (List ℕ)) (list starts : List ℕ) (n : ℕ) → AreChained lists starts
    → n ≡ length (joined (lists ++ list ∷ [])) → AreChained (lists ++ list ∷ []) (starts ++ n ∷ [])
chained_more lists list starts n c n_is =
    let all = lists ++ list ∷ [] in
    let f = list_in all in
    let count : length lists + 1 ≡ length all = sym (length_push lists list) in
    let rows : joined all ≡ lists_to f (length lists + 1) = joined-append lists list
    ∙ ap (λ (l : List ℕ). l ++ list) c.rows ∙ sym (places_more lists list) in
    record {
      rows = rows ∙ ap (lists_to f) count;
      begins = (λ i. (c.begins i ++ (n_is ∙ ap (λ (l : List ℕ). length l) rows) i ∷ []))
          ∙ sym (begins_more_list lists list) ∙ ap (λ (m : ℕ). begins_to f (m + 1)) count;
    }
