-- Lines that are written, one after the other.
use Rattle.std.proofs.Common.{◌≡◌, ℕ, ℤ, pos, suc, ◌+◌, ◌-◌, ◌*◌, ◌<◌, ◌≤◌, List, ◌++◌, length, map, take, drop, set}
use Rattle.std.proofs.Common.{ap, sym, ◌∙◌, arith, inl, inr, length-append, length-drop}
use Rattle.std.proofs.Math.Nat.{mul-le-mul_right}
use Rattle.std.proofs.lemmas.Bool.{cases_eq}
use Rattle.std.proofs.lemmas.List.{length-take-le, get_or-take, get_or-drop, get_or_append_left, get_or-append_right}
use Rattle.std.proofs.lemmas.List.{get_or-set_same, get_or-set_other, map-append, take-map, drop-map}
use borrow.Rule.Slice.PartMut.{put_mid, post_of}
use Rattle.cla_spec.proofs.Entries.{cell_within}
use Rattle.cla_layout.specs.Groups.{at}

-- what a write to a part leaves before it, puts into it, and leaves behind it
pub put_below : (a k i : ℕ) (xs ys : List ℤ) → i < a → a ≤ length xs → at (put_mid a k xs ys) i ≡ at xs i
put_below a k i xs ys lt within =
    get_or_append_left (take a xs) (ys ++ post_of a k xs) (pos 0) i (omega (arith, length-take-le a xs within, lt))
    ∙ get_or-take a xs i (pos 0) lt

pub put_here : (a k i : ℕ) (xs ys : List ℤ) → i < length ys → a ≤ length xs → at (put_mid a k xs ys) (a + i) ≡ at ys i
put_here a k i xs ys lt within =
    let same : a + i - a ≡ i = omega arith in
    get_or-append_right (take a xs) (ys ++ post_of a k xs) a (a + i) (pos 0) (length-take-le a xs within) (omega arith)
    ∙ ap (at (ys ++ post_of a k xs)) same ∙ get_or_append_left ys (post_of a k xs) (pos 0) i lt

put_behind : (a k i : ℕ) (xs ys : List ℤ) → a + k ≤ i → a ≤ length xs → length ys ≡ k → at (put_mid a k xs ys) i
    ≡ at xs i
put_behind a k i xs ys past within long =
    let whole : a + (k + (i - a - k)) ≡ i = omega (arith, past) in
    get_or-append_right (take a xs) (ys ++ post_of a k xs) a i (pos 0) (length-take-le a xs within)
    (omega (arith, past))
    ∙ get_or-append_right ys (post_of a k xs) k (i - a) (pos 0) long (omega (arith, past))
    ∙ get_or-drop k (drop a xs) (i - a - k) (pos 0) ∙ get_or-drop a xs (k + (i - a - k)) (pos 0) ∙ ap (at xs) whole

pub put_length : {X : Type 0} (a k : ℕ) (xs ys : List X) → a + k ≤ length xs → length ys ≡ k → length
    (put_mid a k xs ys) ≡ length xs
put_length a k xs ys within same =
    omega (
      arith,
      same,
      length-append (take a xs) (ys ++ post_of a k xs),
      length-append ys (post_of a k xs),
      length-take-le a xs (omega (arith, within)),
      length-drop k (drop a xs),
      length-drop a xs,
    )

-- the first l lines of so many items have these items
abbrev pub AreWritten : ℕ → ℕ → (ℕ → ℕ → ℤ) → List ℤ → Type 0
AreWritten l width item cells = (d i : ℕ) → d < l → i < width → at cells (d * width + i) ≡ item d i

-- one more line is written
pub line_step : (l count width n : ℕ) (item : ℕ → ℕ → ℤ) (old line : List ℤ) → l < count → length old
    ≡ count * width → n ≡ width
    → length line ≡ width
    → ((i : ℕ) → i < width → at line i ≡ item l i) → AreWritten l width item old
    → AreWritten (l + 1) width item (put_mid (l * width) n old line)
line_step l count width n item old line there long is size here before d i lt col =
    let up_to : suc l * width ≤ count * width = mul-le-mul_right width there in
    let within : l * width ≤ length old = omega (arith, long, up_to) in
    elim (cases_eq d l) [
      | inl same ↦
          ap (λ (p : ℕ). at (put_mid (l * width) n old line) (p * width + i)) same
          ∙ put_here (l * width) n i old line (omega (arith, size, col)) within ∙ here i col ∙ ap
          (λ (p : ℕ). item p i) (sym same)
      | inr other ↦
          let early : d < l = grind (arith, lt, other) in
          put_below (l * width) n (d * width + i) old line (cell_within l width d i early col) within
          ∙ before d i early col
    ]

-- the places behind it hold what they held
pub behind_line : (l count width n p : ℕ) (old line : List ℤ) → l < count → length old ≡ count * width → n ≡ width
    → length line ≡ width
    → (l + 1) * width ≤ p → at (put_mid (l * width) n old line) p ≡ at old p
behind_line l count width n p old line there long is size past =
    let up_to : suc l * width ≤ count * width = mul-le-mul_right width there in
    put_behind (l * width) n p old line (omega (arith, past, is)) (omega (arith, long, up_to)) (omega (arith, size, is))

-- values of a list that was written to
pub values_put : {X : Type 0} (f : X → ℤ) (a k : ℕ) (xs ys : List X) → map f (put_mid a k xs ys) ≡ put_mid a k
    (map f xs) (map f ys)
values_put f a k xs ys =
    map-append f (take a xs) (ys ++ post_of a k xs)
    ∙ ap (λ (zs : List ℤ). zs ++ map f (ys ++ post_of a k xs)) (sym (take-map f a xs))
    ∙ ap (λ (zs : List ℤ). take a (map f xs) ++ zs) (map-append f ys (post_of a k xs)
    ∙ ap (λ (zs : List ℤ). map f ys ++ zs) (sym (drop-map f k (drop a xs)) ∙ ap (drop k) (sym (drop-map f a xs))))

-- one more item is written
pub item_step : (i : ℕ) (item : ℕ → ℤ) (now : List ℤ) (v : ℤ) → i < length now → v ≡ item i →
    ((r : ℕ) → r < i → at now r ≡ item r)
    → (r : ℕ) → r < i + 1 → at (set now i v) r ≡ item r
item_step i item now v there is before r lt = elim (cases_eq r i) [
  | inl same ↦ ap (at (set now i v)) same ∙ get_or-set_same now i v (pos 0) there ∙ is ∙ ap item (sym same)
  | inr other ↦ get_or-set_other now i r v (pos 0) other ∙ before r (grind (arith, lt, other))
]
