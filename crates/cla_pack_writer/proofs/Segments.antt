-- Lists of offsets, segment after segment, are the rows of a code, parted.
use Rattle.std.proofs.Common.{◌≡◌, ℕ, zero, suc, ◌+◌, ◌*◌, ◌%◌, ◌<◌, ◌≤◌, Bool, eqb, List, [], ◌∷◌, ◌++◌, length}
use Rattle.std.proofs.Common.{take, drop, refl, sym, ap, subst, ◌∙◌, arith, inl, inr}
use Rattle.std.specs.Prelude.{nat_lt}
use Rattle.std.specs.List.{flat_map, filter, range_with_len, prefix_len}
use Rattle.std.proofs.Math.Seq.{take-append_seam, drop-append_seam}
use Rattle.std.proofs.lemmas.Bool.{cases_Bool, cases_lt, lt-ltb, le-ltb}
use Rattle.std.proofs.lemmas.List.{take-append-drop, length-take, length-take-le, drop-drop}
use Rattle.std.proofs.Math.ListN.{drop_of_length-le}
use Rattle.std.proofs.lemmas.Nat.{mod-mul-add}
use Rattle.std.proofs.lemmas.List.Sums.{length-filter, count_by-le-length}
use Rattle.std.proofs.lemmas.List.FromFn.{length-range_with_len}
use Rattle.cla_layout.specs.Groups.{code_of}
use Rattle.cla_layout.specs.Listed.{rows_of}
use Rattle.cla_spec.specs.Bytes.{bytes_of}
use Rattle.cla_packed.specs.Lists.{rows_from}
use Rattle.cla_packed.specs.Offsets.{parted, segment_bytes}
use Rattle.cla_pack_writer.specs.Listed.{counted_offsets}
use Rattle.cla_pack_writer.proofs.Ranges.{pieces_moved}

-- the rows with a code, as those of a range that pass a test
rows_by : (test : ℕ → Bool) (a : ℕ) (codes : List ℕ) (k : ℕ)
    → ((i : ℕ) → i < length codes → test (a + i) ≡ eqb (code_of codes i) k)
    → filter test (range_with_len a (length codes)) ≡ rows_from a codes k
rows_by test a [] k same = refl
rows_by test a (c ∷ codes) k same =
    let z : a ≡ a + 0 = omega arith in
    let here : test a ≡ eqb c k = ap test z ∙ same 0 (omega arith) in
    let more = rows_by test (a + 1) codes k (λ i lt.
    let s : (a + 1) + i ≡ a + suc i = omega arith in
    ap test s ∙ same (suc i) (omega (arith, lt))) in
    elim (cases_Bool (eqb c k)) [
      | inl yes_it ↦ rw (here, yes_it) (ap (λ (t : List ℕ). a ∷ t) more)
      | inr not_it ↦ rw (here, not_it) more
    ]

rows_are : (codes : List ℕ) (k : ℕ) → rows_from 0 codes k ≡ rows_of codes k
rows_are codes k = sym (rows_by (λ i. eqb (code_of codes i) k) 0 codes k (λ i lt.
    let z : 0 + i ≡ i = omega arith in
    ap (λ (j : ℕ). eqb (code_of codes j) k) z))

pub rows_parts : (a : ℕ) (xs ys : List ℕ) (k : ℕ)
    → rows_from a (xs ++ ys) k ≡ rows_from a xs k ++ rows_from (a + length xs) ys k
rows_parts a [] ys k =
    let e : a ≡ a + 0 = omega arith in
    ap (λ (n : ℕ). rows_from n ys k) e
rows_parts a (x ∷ xs) ys k =
    let e : (a + 1) + length xs ≡ a + suc (length xs) = omega arith in
    let more : rows_from (a + 1) (xs ++ ys) k ≡ rows_from (a + 1) xs k ++ rows_from (a + suc (length xs)) ys k =
    rows_parts (a + 1) xs ys k ∙ ap (λ (n : ℕ). rows_from (a + 1) xs k ++ rows_from n ys k) e in
    elim (cases_Bool (eqb x k)) [
      | inl here ↦ rw here (ap (λ (t : List ℕ). a ∷ t) more)
      | inr other ↦ rw other more
    ]

abbrev pub IsPast : ℕ → List ℕ → Type 0
IsPast e [] = Unit {0}
IsPast e (i ∷ rest) = e ≤ i

pub rows_past : (e b : ℕ) (ys : List ℕ) (k : ℕ) → e ≤ b → IsPast e (rows_from b ys k)
rows_past e b [] k le = tt
rows_past e b (y ∷ ys) k le = elim (cases_Bool (eqb y k)) [
  | inl here ↦ rw here le
  | inr other ↦ rw other (rows_past e (b + 1) ys k (omega (arith, le)))
]

none_front : (e : ℕ) (rest : List ℕ) → IsPast e rest → prefix_len (λ i. nat_lt i e) rest ≡ 0
none_front e [] past = refl
none_front e (i ∷ rest) past = rw (le-ltb i e past) refl

-- the rows below an end stand in front
front_size : (e a : ℕ) (xs : List ℕ) (k : ℕ) (rest : List ℕ) → a + length xs ≤ e → IsPast e rest
    → prefix_len (λ i. nat_lt i e) (rows_from a xs k ++ rest) ≡ length (rows_from a xs k)
front_size e a [] k rest le past = none_front e rest past
front_size e a (x ∷ xs) k rest le past =
    let more = front_size e (a + 1) xs k rest (omega (arith, le)) past in
    elim (cases_Bool (eqb x k)) [
      | inl here ↦ rw here (rw (lt-ltb a e (omega (arith, le)), more) (omega arith))
      | inr other ↦ rw other more
    ]

-- rows counted from the first row of a segment
offsets_from : (size m j : ℕ) (xs : List ℕ) (k : ℕ) → j + length xs ≤ size
    → (length (rows_from (m * size + j) xs k) ≡ length (rows_from j xs k))
    × (flat_map (λ i. bytes_of 2 (i % size)) (rows_from (m * size + j) xs k) ≡ flat_map (bytes_of 2) (rows_from j xs k))
offsets_from size m j [] k few = (refl, refl)
offsets_from size m j (x ∷ xs) k few =
    let next : m * size + (j + 1) ≡ (m * size + j) + 1 = omega arith in
    let more = subst (λ (n : ℕ). (length (rows_from n xs k) ≡ length (rows_from (j + 1) xs k))
    × (flat_map (λ i. bytes_of 2 (i % size)) (rows_from n xs k) ≡ flat_map (bytes_of 2) (rows_from (j + 1) xs k)))
    next (offsets_from size m (j + 1) xs k (omega (arith, few))) in
    let here : (m * size + j) % size ≡ j = mod-mul-add m size j (omega (arith, few)) in
    elim (cases_Bool (eqb x k)) [
      | inl here_it ↦ rw here_it (omega (arith, more.0), rw (here, more.1) refl)
      | inr other ↦ rw other more
    ]

abbrev segment_in : ℕ → List ℕ → ℕ → List ℕ
segment_in size codes s = take size (drop (s * size) codes)

-- the first segment, and the rows behind it
first_segment : (size a : ℕ) (codes : List ℕ) (k : ℕ) → rows_from a codes k
    ≡ rows_from a (take size codes) k ++ rows_from (a + size) (drop size codes) k
first_segment size a codes k =
    let xs = take size codes in
    let ys = drop size codes in
    ap (λ (t : List ℕ). rows_from a t k) (sym (take-append-drop size codes)) ∙ rows_parts a xs ys k
    ∙ elim (cases_lt (length codes) size) [
      | inl short ↦ ap (λ (t : List ℕ). rows_from a xs k ++ t)
          (ap (λ (t : List ℕ). rows_from (a + length xs) t k)
          (drop_of_length-le codes {i = size} (omega (arith, short)))
          ∙ ap (λ (t : List ℕ). rows_from (a + size) t k)
          (sym (drop_of_length-le codes {i = size} (omega (arith, short)))))
      | inr long ↦ ap (λ (n : ℕ). rows_from a xs k ++ rows_from (a + n) ys k) (length-take-le size codes long)
    ]

-- rows of a code, parted: the first segment and the others
parted_more : (size e n : ℕ) (front rest : List ℕ) → prefix_len (λ i. nat_lt i e) (front ++ rest) ≡ length front
    → parted size e (suc n) (front ++ rest) ≡ front ∷ parted size (e + size) n rest
parted_more size e n front rest size_is =
    rw size_is (rw (take-append_seam front rest, drop-append_seam front rest) refl)

segment_put : (size m : ℕ) (xs : List ℕ) (k : ℕ) → length xs ≤ size
    → segment_bytes size (rows_from (m * size) xs k) ≡ counted_offsets (rows_of xs k)
segment_put size m xs k few =
    let base : m * size ≡ m * size + 0 = omega arith in
    let both = offsets_from size m 0 xs k (omega (arith, few)) in
    ap (λ (n : ℕ). segment_bytes size (rows_from n xs k)) base
    ∙ ap (λ (n : ℕ). bytes_of 2 n ++ flat_map (λ i. bytes_of 2 (i % size)) (rows_from (m * size + 0) xs k)) both.0
    ∙ ap (λ (t : List ℕ). bytes_of 2 (length (rows_from 0 xs k)) ++ t) both.1
    ∙ ap counted_offsets (rows_are xs k)

pub segments_put : (size m n : ℕ) (codes : List ℕ) (k : ℕ) → 0 < size
    → flat_map (segment_bytes size) (parted size (m * size + size) n (rows_from (m * size) codes k))
    ≡ flat_map (λ s. counted_offsets (rows_of (segment_in size codes s) k)) (range_with_len 0 n)
segments_put size m zero codes k some = refl
segments_put size m (suc n) codes k some =
    let base = m * size in
    let xs = take size codes in
    let ys = drop size codes in
    let front = rows_from base xs k in
    let rest = rows_from (base + size) ys k in
    let few : length xs ≤ size = omega (arith, length-take size codes) in
    let past = rows_past (base + size) (base + size) ys k (omega arith) in
    let cut = parted_more size (base + size) n front rest
    (front_size (base + size) base xs k rest (omega (arith, few)) past) in
    let next : base + size ≡ (m + 1) * size = omega arith in
    let none : 0 ≡ 0 * size = omega arith in
    let of_segment = λ (s : ℕ). counted_offsets (rows_of (segment_in size codes s) k) in
    let moved = λ (s : ℕ). ap (λ (t : List ℕ). counted_offsets (rows_of (take size t) k))
    (drop-drop (s * size) size codes) in
    let others = ap (λ (b : ℕ). flat_map (segment_bytes size) (parted size (b + size) n (rows_from b ys k))) next
    ∙ segments_put size (m + 1) n ys k some
    ∙ pieces_moved (λ s. counted_offsets (rows_of (segment_in size ys s) k))
    (λ s. counted_offsets (rows_of (segment_in size codes s) k)) 0 1 n
    (λ s lt.
    let at : size + (0 + s) * size ≡ (1 + s) * size = omega arith in
    moved (0 + s) ∙ ap (λ (d : ℕ). counted_offsets (rows_of (take size (drop d codes)) k)) at) in
    ap (λ (t : List ℕ). flat_map (segment_bytes size) (parted size (base + size) (suc n) t))
    (first_segment size base codes k)
    ∙ ap (flat_map (segment_bytes size)) cut
    ∙ ap (λ (t : List ℕ). t ++ flat_map (segment_bytes size) (parted size ((base + size) + size) n rest))
    (segment_put size m xs k few)
    ∙ ap (λ (t : List ℕ). counted_offsets (rows_of xs k) ++ t) others
    ∙ ap (λ (d : ℕ). counted_offsets (rows_of (take size (drop d codes)) k) ++ flat_map of_segment
    (range_with_len 1 n)) none

-- a list of offsets is no longer than its segment
pub offsets_few : (codes : List ℕ) (k size s : ℕ) → length (rows_of (segment_in size codes s) k) ≤ size
offsets_few codes k size s =
    let segment = segment_in size codes s in
    let test = λ (i : ℕ). eqb (code_of segment i) k in
    let all = range_with_len 0 (length segment) in
    omega (
      arith,
      length-filter test all,
      count_by-le-length test all,
      length-range_with_len 0
          (length segment),
      length-take size (drop (s * size) codes),
    )
