-- Values of tuples that are kept in some places alone.
use Rattle.std.proofs.Common.{◌≡◌, ℕ, ℤ, pos, zero, suc, ◌+◌, ◌-◌, ◌<◌, ◌≤◌, List, length, map, take, drop, ap, sym}
use Rattle.std.proofs.Common.{◌∙◌, arith}
use Rattle.std.proofs.lemmas.List.{get_or-take, get_or-drop, take-map, drop-map}
use Rattle.cla_layout.specs.Groups.{at, code_of}
use Rattle.cla_group.specs.Rows.{ArePlaces}

place_from : (width : ℕ) (places : List ℕ) → ArePlaces width places → (c : ℕ) → c < length places → c ≤ code_of places c
place_from width places are zero there = omega arith
place_from width places are (suc c) there =
    omega (arith, place_from width places are c (omega (arith, there)), are.rising c (suc c) (omega arith) there)

-- there are no more places than columns
pub places_few : (width : ℕ) (places : List ℕ) → ArePlaces width places → length places ≤ width
places_few width places are =
    let last : length places - 1 < length places = omega (arith, are.some) in
    omega (arith, place_from width places are (length places - 1) last, are.within (length places - 1) last)

-- an item of a stretch of numbers
pub stretch_item : {N : Type 0} (value : N → ℤ) (numbers : List N) (from n d : ℕ) → d < n
    → at (map value (take n (drop from numbers))) d ≡ at (map value numbers) (from + d)
stretch_item value numbers from n d within =
    ap (λ (xs : List ℤ). at xs d) (sym (take-map value n (drop from numbers)))
    ∙ get_or-take n (map value (drop from numbers)) d (pos 0) within
    ∙ ap (λ (xs : List ℤ). at xs d) (sym (drop-map value from numbers))
    ∙ get_or-drop from (map value numbers) d (pos 0)
