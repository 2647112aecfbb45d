-- Marks as bits of words.
use Rattle.std.proofs.Common.{◌≡◌, ℕ, ◌+◌, ◌-◌, ◌*◌, ◌/◌, ◌%◌, ◌^◌, ◌<◌, ◌≤◌, min, max, Bool, true, false, ◌==◌, List}
use Rattle.std.proofs.Common.{length, set, get_or, replicate, sym, ap, ◌∙◌, arith, inl, inr}
use Rattle.std.specs.Prelude.{◌||◌, ◌&&◌, nat_le, nat_lt}
use Rattle.std.specs.Int.{bit_at}
use Rattle.std.proofs.lemmas.Bool.{cases_eq, cases_lt, eq-eqb, ne_eqb, lt-ltb, le-ltb, le-leb, lt-leb, and_from}
use Rattle.std.proofs.lemmas.Bool.{and_left, and_right}
use Rattle.std.proofs.lemmas.Grind.{get_or-set_at}
use Rattle.std.proofs.lemmas.List.{ext_get_or, length-set, length-replicate, get_or-set_other, get_or-replicate}
use Rattle.std.proofs.lemmas.List.FromFn.{length-map-range_with_len, get_or-map-range_with_len}
use Rattle.std.proofs.lemmas.Nat.Bits.{bit_at-zero, bit_at_mask_inside, bit_at_mask_below, bit_at_ones}
use Rattle.std.proofs.lemmas.Nat.Bits.{bit_at_ones_above}
use Rattle.cla_pack_reader.specs.Bits.{mark_in, marks_in}

-- the mark of a word's bit
abbrev pub marked : ℕ → ℕ → Bool
marked word k = bit_at word k == 1

pub marks_count : (words : List ℕ) (n : ℕ) → length (marks_in words n) ≡ n
marks_count words n = length-map-range_with_len (mark_in words) 0 n

pub mark_at : (words : List ℕ) (n c : ℕ) → c < n → get_or (marks_in words n) c false ≡ mark_in words c
mark_at words n c lt = get_or-map-range_with_len (mark_in words) 0 n c c false lt (omega arith)

-- words of zeros have no marks
pub none_marked : (k n : ℕ) → n ≤ 64 * k → marks_in (replicate k 0) n ≡ replicate n false
none_marked k n room =
    let count = marks_count (replicate k 0) n in
    ext_get_or false (marks_in (replicate k 0) n) (replicate n false) (count ∙ sym (length-replicate n false))
    (λ c lt.
    let there : c < n = omega (arith, lt, count) in
    let word : c / 64 < k = omega (arith, there, room) in
    mark_at (replicate k 0) n c there
    ∙ ap (λ (w : ℕ). marked w (c % 64)) (get_or-replicate k (c / 64) 0 0 word)
    ∙ ap (λ (b : ℕ). b == 1) (bit_at-zero (c % 64))
    ∙ sym (get_or-replicate n c false false there))

-- one bit more is one mark more
pub one_marked : (words : List ℕ) (n c word : ℕ) → n ≤ 64 * length words → c < n → bit_at word (c % 64) ≡ 1
    → ((i : ℕ) → (i ≡ c % 64 → ⊥) → bit_at word i ≡ bit_at (get_or words (c / 64) 0) i)
    → marks_in (set words (c / 64) word) n ≡ set (marks_in words n) c true
one_marked words n c word room lt is others =
    let after = set words (c / 64) word in
    let count = marks_count after n in
    let place : c / 64 < length words = omega (arith, lt, room) in
    ext_get_or false (marks_in after n) (set (marks_in words n) c true)
    (count ∙ sym (length-set (marks_in words n) c true ∙ marks_count words n))
    (λ i there.
    let here : i < n = omega (arith, there, count) in
    mark_at after n i here ∙ elim (cases_eq i c) [
      | inl same ↦
          let at : get_or after (i / 64) 0 ≡ word =
          get_or-set_at words (c / 64) (i / 64) word 0 (ap (λ (j : ℕ). j / 64) same) place in
          ap (λ (w : ℕ). marked w (i % 64)) at ∙ ap (λ (j : ℕ). marked word (j % 64)) same
          ∙ ap (λ (b : ℕ). b == 1) is
          ∙ sym (get_or-set_at (marks_in words n) c i true false same (omega (arith, lt, marks_count words n)))
      | inr other ↦
          let kept : get_or (set (marks_in words n) c true) i false ≡ mark_in words i =
          get_or-set_other (marks_in words n) c i true false other ∙ mark_at words n i here in
          elim (cases_eq (i / 64) (c / 64)) [
            | inl near ↦
                let at : get_or after (i / 64) 0 ≡ word = get_or-set_at words (c / 64) (i / 64) word 0 near place in
                ap (λ (w : ℕ). marked w (i % 64)) at
                ∙ ap (λ (b : ℕ). b == 1) (others (i % 64) (λ e. other (omega (arith, near, e))))
                ∙ ap (λ (j : ℕ). marked (get_or words j 0) (i % 64)) (sym near)
            | inr far ↦
                ap (λ (w : ℕ). marked w (i % 64)) (get_or-set_other words (c / 64) (i / 64) word 0 far)
          ] ∙ sym kept
    ])

-- ---- several bits

none_meets : (b : ℕ) → (min 0 b == 1) ≡ false
none_meets b = let none : min 0 b ≡ 0 = omega arith in ap (λ (m : ℕ). m == 1) none

-- bits from `low` on and bits below `high`
pub bits_meet : (begin end place low high k : ℕ) → low ≡ begin - place * 64 → high ≡ min (end - place * 64) 64
    → begin / 64 ≤ place → k < 64
    → (min (bit_at (2 ^ 64 - 2 ^ low) k) (bit_at (2 ^ high - 1) k) == 1)
    ≡ (nat_le begin (64 * place + k) && nat_lt (64 * place + k) end)
bits_meet begin end place low high k low_is high_is before lt = elim (cases_lt k low) [
  | inl below ↦ ap (λ (b : ℕ). min b (bit_at (2 ^ high - 1) k) == 1) (bit_at_mask_below low 64 k below)
      ∙ none_meets (bit_at (2 ^ high - 1) k)
      ∙ sym (and_left (nat_le begin (64 * place + k)) (nat_lt (64 * place + k) end)
      (lt-leb begin (64 * place + k) (omega (arith, below, low_is))))
  | inr from ↦ elim (cases_lt k high) [
    | inl inside ↦
        (λ i. (min (bit_at_mask_inside low 64 k from lt i) (bit_at_ones high k inside i) == 1))
        ∙ sym (and_from (nat_le begin (64 * place + k)) (nat_lt (64 * place + k) end)
        (le-leb begin (64 * place + k) (omega (arith, from, low_is)))
        (lt-ltb (64 * place + k) end (omega (arith, inside, high_is))))
    | inr above ↦
        (λ i. (min (bit_at_mask_inside low 64 k from lt i) (bit_at_ones_above high k above i) == 1))
        ∙ sym (and_right (nat_le begin (64 * place + k)) (nat_lt (64 * place + k) end)
        (le-ltb (64 * place + k) end (omega (arith, above, high_is, lt))))
  ]
]

pub either_bit : (a b : ℕ) → a < 2 → b < 2 → (max a b == 1) ≡ (a == 1 || b == 1)
either_bit a b la lb = elim (cases_eq a 1) [
  | inl one ↦ eq-eqb (max a b) 1 (omega (arith, one, lb)) ∙ sym (ap (λ (x : Bool). x || b == 1) (eq-eqb a 1 one))
  | inr none ↦ ap (λ (m : ℕ). m == 1) (let b_is : max a b ≡ b = omega (arith, none, la) in b_is)
      ∙ sym (ap (λ (x : Bool). x || b == 1) (ne_eqb a 1 none))
]

-- ---- marks of items by words

-- an item is bit k of word w
pub mark_of : (words : List ℕ) (w k : ℕ) → k < 64 → mark_in words (64 * w + k) ≡ marked (get_or words w 0) k
mark_of words w k lt =
    let word : (64 * w + k) / 64 ≡ w = omega (arith, lt) in
    let bit : (64 * w + k) % 64 ≡ k = omega (arith, lt) in
    λ i. marked (get_or words (word i) 0) (bit i)

pub item_is : (i : ℕ) → i ≡ 64 * (i / 64) + i % 64
item_is i = omega arith
