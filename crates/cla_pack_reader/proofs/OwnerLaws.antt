-- Lists of rows, row by row.
use Rattle.std.proofs.Common.{◌≡◌, ℕ, ◌+◌, ◌<◌, ◌≤◌, Bool, true, false, eqb, List, [], ◌∷◌, ◌++◌, length, get_or, map}
use Rattle.std.proofs.Common.{refl, sym, ap, ◌∙◌, append_assoc, append-nil, arith}
use Rattle.std.specs.Prelude.{nat_lt, nat_le, ◌&&◌, ◌||◌, not}
use Rattle.std.proofs.lemmas.Bool.{leb-true, and_parts, not-true}
use Rattle.std.specs.List.{range_with_len}
use Rattle.std.proofs.lemmas.List.Folds.{list_any-append}
use Rattle.std.proofs.lemmas.List.FromFn.{get_or-map-range_with_len}
use Rattle.cla_packed.specs.Codes.{has}
use Rattle.cla_packed.specs.Lists.{next_from, named, floor_of}
use Rattle.cla_packed.specs.Offsets.{fits_row, joined}

pub or_false : (b : Bool) → (b || false) ≡ b
or_false true = refl
or_false false = refl

pub has_push : (ks : List ℕ) (k j : ℕ) → has (ks ++ k ∷ []) j ≡ (has ks j || eqb k j)
has_push ks k j = list_any-append (λ m. eqb m j) ks (k ∷ []) ∙ ap (λ (b : Bool). has ks j || b) (or_false (eqb k j))

pub next_push : (a i : ℕ) (list : List ℕ) → next_from a (list ++ i ∷ []) ≡ i + 1
next_push a i [] = refl
next_push a i (j ∷ list) = next_push (j + 1) i list

pub row_parts : (earlier : List (List ℕ)) (so_far : List ℕ) (i : ℕ) → fits_row earlier so_far i ≡ true
    → (next_from 0 so_far ≤ i) × (named earlier i ≡ false)
    × ((nat_lt 0 (length so_far) || nat_le (floor_of earlier) i) ≡ true)
row_parts earlier so_far i h =
    let a = and_parts (nat_le (next_from 0 so_far) i && not (named earlier i)) (nat_lt 0 (length so_far)
    || nat_le (floor_of earlier) i) h in
    let b = and_parts (nat_le (next_from 0 so_far) i) (not (named earlier i)) a.0 in
    (leb-true (next_from 0 so_far) i b.0, not-true (named earlier i) b.1, a.1)

pub joined-append : (before : List (List ℕ)) (segment : List ℕ)
    → joined (before ++ segment ∷ []) ≡ joined before ++ segment
joined-append [] segment = append-nil segment
joined-append (list ∷ before) segment = ap (λ (l : List ℕ). list ++ l) (joined-append before segment)
    ∙ sym (append_assoc list (joined before) segment)

pub in_map : {X : Type 0} (f : ℕ → X) (n i : ℕ) (d : X) → i < n → get_or (map f (range_with_len 0 n)) i d ≡ f i
in_map f n i d lt = get_or-map-range_with_len f 0 n i i d lt (omega arith)
