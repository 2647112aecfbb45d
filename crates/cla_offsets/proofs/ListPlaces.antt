-- Where the list of each segment and code stands.
use Rattle.std.proofs.Common.{◌≡◌, ℕ, zero, suc, ◌+◌, ◌-◌, ◌*◌, ◌<◌, ◌≤◌, List, [], ◌∷◌, ◌++◌, length, take, drop}
use Rattle.std.proofs.Common.{subst, ap, sym, ◌∙◌, arith, inl, inr}
use Rattle.std.proofs.lemmas.Bool.{cases_eq}
use Rattle.std.proofs.lemmas.List.{length-append, take_all}
use Rattle.cla_layout.specs.Groups.{code_of}
use Rattle.cla_layout.proofs.Tuples.{place_within}
use Rattle.cla_offsets.specs.declared.lists.Lists.{Lists}
use Rattle.cla_offsets.specs.Rows.{OffsetsOf}
use Rattle.cla_offsets.specs.Segments.{segment_rows, segment_of, list_of, lists_of, starts_of}
use Rattle.cla_rows.specs.Chains.{lists_to, begins_to}
use Rattle.cla_offsets.specs.Segments.{AreLists, AreAdded, list_begin, begin_kept, list_kept}
use Rattle.cla_rows.proofs.Chains.{lists_none, lists_more, lists_size, list_within_all, list_part, list_item}
use Rattle.cla_rows.proofs.Chains.{begins_count, begin_at, begins_more}
use Rattle.cla_offsets.proofs.ListedRows.{listed_few}
use Rattle.cla_offsets.proofs.SegmentRows.{segment_size}

-- one more segment
pub more_lists : (s : ℕ) (v : OffsetsOf) (old new : Lists) → AreLists s v old →
    AreAdded (segment_of v.codes s) v.tuples v.rest old new → AreLists (s + 1) v new
more_lists s v old new are more =
    let f = lists_of v in
    record {
      bases =
          more.bases ∙ ap (λ (xs : List ℕ). xs ++ length old.offsets.items ∷ []) are.bases
          ∙ ap (λ (xs : List ℕ). begins_to f s ++ length xs ∷ []) are.offsets ∙ sym (begins_more f s);
      starts = more.starts ∙ ap (λ (xs : List ℕ). xs ++ starts_of v s) are.starts ∙ sym (lists_more (starts_of v) s);
      offsets = more.offsets ∙ ap (λ (xs : List ℕ). xs ++ f s) are.offsets ∙ sym (lists_more f s);
    }

-- a segment has no more offsets than rows
pub lists_few : (v : OffsetsOf) (s : ℕ) → length (lists_to (lists_of v) s) ≤ s * segment_rows
lists_few v zero = omega (arith, ap (λ (xs : List ℕ). length xs) (lists_none (lists_of v)))
lists_few v (suc s) =
    let f = lists_of v in
    let next : s + 1 ≡ suc s = omega arith in
    let more = ap (λ (xs : List ℕ). length xs) (lists_more f s) ∙ length-append (lists_to f s) (f s) in
    subst (λ (n : ℕ). length (lists_to f n) ≤ n * segment_rows) next
    (omega (arith, more, listed_few (segment_of v.codes s) v.rest v.tuples, segment_size v.codes s, lists_few v s))

-- a list ends where the next one begins
pub list_end : (v : OffsetsOf) (s k : ℕ) → list_begin v s (k + 1) ≡ list_begin v s k + length (list_of v s k)
list_end v s k =
    let g = list_of v s in
    omega (arith, ap (λ (xs : List ℕ). length xs) (lists_more g k), length-append (lists_to g k) (g k))

-- it begins among the lists of its segment, and those among all
in_segment : (v : OffsetsOf) (s k : ℕ) → k ≤ v.tuples → length (lists_to (list_of v s) k) ≤ length (lists_of v s)
in_segment v s k there =
    let g = list_of v s in
    elim (cases_eq k v.tuples) [
      | inl same ↦ omega (arith, ap (λ (n : ℕ). length (lists_to g n)) same)
      | inr other ↦ omega (arith, list_within_all g k v.tuples (omega (arith, there, other)))
    ]

pub begin_within : (v : OffsetsOf) (n s k : ℕ) → s < n → k ≤ v.tuples →
    list_begin v s k ≤ length (lists_to (lists_of v) n)
begin_within v n s k s_there there = omega (arith, in_segment v s k there, list_within_all (lists_of v) s n s_there)

-- what stands from there to where the next one begins is the list
pub list_there : (v : OffsetsOf) (n s k : ℕ) → s < n → k < v.tuples →
    take (list_begin v s (k + 1) - list_begin v s k) (drop (list_begin v s k) (lists_to (lists_of v) n)) ≡ list_of v s k
list_there v n s k s_there there =
    let f = lists_of v in
    let g = list_of v s in
    let p = length (lists_to g k) in
    let m = length (g k) in
    let size : list_begin v s (k + 1) - list_begin v s k ≡ m = omega (arith, list_end v s k) in
    let first : p + 0 ≡ p = omega arith in
    ap (λ (x : ℕ). take x (drop (list_begin v s k) (lists_to f n))) size
    ∙ list_part f s n p m s_there (list_within_all g k v.tuples there)
    ∙ ap (λ (x : ℕ). take m (drop x (lists_to g v.tuples))) (sym first)
    ∙ list_part g k v.tuples 0 m there (omega arith) ∙ take_all m (g k) (omega arith)

-- how many bases and starts are kept
starts_size : (v : OffsetsOf) (n : ℕ) → length (lists_to (starts_of v) n) ≡ n * (v.tuples + 1)
starts_size v n = lists_size (starts_of v) (v.tuples + 1) n (λ i. begins_count (list_of v i) (v.tuples + 1))

pub bases_count : (n : ℕ) (v : OffsetsOf) (l : Lists) → AreLists n v l → length l.bases.items ≡ n
bases_count n v l are = ap length are.bases ∙ begins_count (lists_of v) n

pub start_there : (n : ℕ) (v : OffsetsOf) (l : Lists) → AreLists n v l → (s k : ℕ) → s < n → k ≤ v.tuples →
    s * (v.tuples + 1) + k < length l.starts.items
start_there n v l are s k s_there there =
    omega (
      arith,
      ap length are.starts,
      starts_size v n,
      place_within (v.tuples + 1) n s k s_there (omega (arith, there)),
    )

-- what is kept is where the list begins
pub begin_is : (n : ℕ) (v : OffsetsOf) (l : Lists) → AreLists n v l → (s k : ℕ) → s < n → k ≤ v.tuples →
    begin_kept v.tuples l s k ≡ list_begin v s k
begin_is n v l are s k s_there there =
    let f = lists_of v in
    let g = list_of v s in
    let p = s * (v.tuples + 1) + k in
    let base : code_of l.bases.items s ≡ length (lists_to f s) = ap (λ (xs : List ℕ). code_of xs s) are.bases
    ∙ begin_at f s n s_there in
    let start : code_of l.starts.items p ≡ length (lists_to g k) =
    ap (λ (xs : List ℕ). code_of xs p) are.starts ∙ ap (λ (m : ℕ). code_of (lists_to (starts_of v) n) (m + k))
    (sym (starts_size v s))
    ∙ list_item (starts_of v) s n k s_there (omega (arith, begins_count g (v.tuples + 1), there))
    ∙ begin_at g k (v.tuples + 1) (omega (arith, there)) in
    omega (arith, base, start)

pub list_is : (n : ℕ) (v : OffsetsOf) (l : Lists) → AreLists n v l → (s k : ℕ) → s < n → k < v.tuples →
    list_kept v.tuples l s k ≡ list_of v s k
list_is n v l are s k s_there there =
    let begin = list_begin v s in
    let items = l.offsets.items in
    ap (λ (b : ℕ). take (begin_kept v.tuples l s (k + 1) - b) (drop b items))
    (begin_is n v l are s k s_there (omega (arith, there)))
    ∙ ap (λ (e : ℕ). take (e - begin k) (drop (begin k) items))
    (begin_is n v l are s (k + 1) s_there (omega (arith, there)))
    ∙ ap (λ (xs : List ℕ). take (begin (k + 1) - begin k) (drop (begin k) xs)) are.offsets
    ∙ list_there v n s k s_there there
