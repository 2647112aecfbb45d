-- One more value, one more tuple, one more part.
use Rattle.std.proofs.Common.{◌≡◌, ◌⊎◌, Bool, true, false, ℕ, ℤ, zero, suc, ◌+◌, ◌*◌, ◌/◌, ◌%◌, ◌<◌, ◌≤◌, List, [], ◌∷◌}
use Rattle.std.proofs.Common.{◌++◌, length, map, take, Option, Some, None, refl, ap, subst, sym, ◌∙◌, arith, inl, inr}
use Rattle.std.proofs.Common.{cond}
use Rattle.std.proofs.lemmas.Bool.{cases_eq}
use Rattle.std.proofs.lemmas.List.{map-append}
use Rattle.std.proofs.lemmas.List.FromFn.{map-range_with_len_more}
use Rattle.std.proofs.lemmas.Nat.{div-mul-add, mod-mul-add}
use Rattle.cla_spec.specs.Matrix.{most_cells}
use Rattle.cla_num.specs.Counts.{Counts}
use Rattle.cla_num.specs.declared.fault.What.{What}
use Rattle.cla_layout.specs.Groups.{value_of}
use Rattle.cla_layout.specs.Layouts.{LayoutPart, part_at}
use Rattle.cla_map.specs.declared.misfit.Stop.{Stop}
use Rattle.cla_map.specs.declared.misfit.Misfit.{Misfit}
use Rattle.cla_meaning.specs.Counts.{AreRaised, HasMapsUpTo}
use Rattle.cla_layout.specs.Values.{values_of}
use Rattle.std.proofs.lemmas.List.Sums.{sum_by-cons}
use Rattle.cla_map.specs.Stops.{misfit_of, lesser_of, mapped_values}
use Rattle.cla_map.specs.Answers.{IsPlaced}
use Rattle.cla_map.specs.FirstStops.{StopsIn, Tells, StopsInPart, StopsInParts}
use Rattle.cla_map.proofs.Told.{tells_one, tells_both}

placed_misfit : (stop : Option Stop) (place : ℕ) → place < most_cells → IsPlaced (misfit_of stop place)
placed_misfit None place small = tt
placed_misfit (Some s) place small = small

last_or_before : (q k : ℕ) → k < q + 1 → (k ≡ q) ⊎ (k < q)
last_or_before q k lt = elim (cases_eq k q) [
  | inl same ↦ inl same
  | inr other ↦ inr (grind (arith, lt, other))
]

value_split : (stop : ℕ → ℤ → Option Stop) (place : ℕ → ℕ) (value : ℕ → ℤ) (n key : ℕ) (what : What)
    → StopsIn stop 1 (n + 1) (λ i c. place c) (λ i c. value c) key what
    → StopsIn stop 1 n (λ i c. place c) (λ i c. value c) key what ⊎ StopsIn (λ c. stop n) 1 1 (λ i c. place n)
    (λ i c. value n) key what
value_split stop place value n key what (i, c, op, row, col, stops, is) = elim (last_or_before n c col) [
  | inl same ↦ inr (
    zero,
    zero,
    op,
    omega arith,
    omega arith,
    ap (λ (d : ℕ). stop d (value d)) (sym same) ∙ stops,
    is
        ∙ ap (λ (d : ℕ). op * most_cells + place d) same,
  )
  | inr before ↦ inl (i, c, op, row, before, stops, is)
]

value_before : (stop : ℕ → ℤ → Option Stop) (place : ℕ → ℕ) (value : ℕ → ℤ) (n key : ℕ) (what : What)
    → StopsIn stop 1 n (λ i c. place c) (λ i c. value c) key what
    → StopsIn stop 1 (n + 1) (λ i c. place c) (λ i c. value c) key what
value_before stop place value n key what (i, c, op, row, col, stops, is) =
    (i, c, op, row, omega (arith, col), stops, is)

value_last : (stop : ℕ → ℤ → Option Stop) (place : ℕ → ℕ) (value : ℕ → ℤ) (n key : ℕ) (what : What)
    → StopsIn (λ c. stop n) 1 1 (λ i c. place n) (λ i c. value n) key what
    → StopsIn stop 1 (n + 1) (λ i c. place c) (λ i c. value c) key what
value_last stop place value n key what (i, c, op, row, col, stops, is) =
    (zero, n, op, omega arith, omega arith, stops, is)

-- one more value of a tuple
pub tells_value : (stop : ℕ → ℤ → Option Stop) (place : ℕ → ℕ) (value : ℕ → ℤ) (n : ℕ) (first : Option Misfit)
    → place n < most_cells → IsPlaced first → Tells (StopsIn stop 1 n (λ i c. place c) (λ i c. value c)) first
    → Tells (StopsIn stop 1 (n + 1) (λ i c. place c) (λ i c. value c))
    (lesser_of first (misfit_of (stop n (value n)) (place n)))
    × IsPlaced (lesser_of first (misfit_of (stop n (value n)) (place n)))
tells_value stop place value n first small placed tells =
    tells_both (StopsIn stop 1 n (λ i c. place c) (λ i c. value c))
    (StopsIn (λ c. stop n) 1 1 (λ i c. place n) (λ i c. value n))
    (StopsIn stop 1 (n + 1) (λ i c. place c) (λ i c. value c)) first (misfit_of (stop n (value n)) (place n))
    placed (placed_misfit (stop n (value n)) (place n) small) (value_before stop place value n)
    (value_last stop place value n) (value_split stop place value n) tells (tells_one (stop n) (place n) (value n))

tuple_split : (stop : ℕ → ℤ → Option Stop) (w : ℕ) (place : ℕ → ℕ → ℕ) (value : ℕ → ℕ → ℤ) (n key : ℕ) (what : What)
    → StopsIn stop (n + 1) w place value key what
    → StopsIn stop n w place value key what ⊎ StopsIn stop 1 w (λ i c. place n c) (λ i c. value n c) key what
tuple_split stop w place value n key what (i, c, op, row, col, stops, is) = elim (last_or_before n i row) [
  | inl same ↦ inr (
    zero,
    c,
    op,
    omega arith,
    col,
    ap (λ (d : ℕ). stop c (value d c)) (sym same) ∙ stops,
    is
        ∙ ap (λ (d : ℕ). op * most_cells + place d c) same,
  )
  | inr before ↦ inl (i, c, op, before, col, stops, is)
]

tuple_before : (stop : ℕ → ℤ → Option Stop) (w : ℕ) (place : ℕ → ℕ → ℕ) (value : ℕ → ℕ → ℤ) (n key : ℕ) (what : What)
    → StopsIn stop n w place value key what → StopsIn stop (n + 1) w place value key what
tuple_before stop w place value n key what (i, c, op, row, col, stops, is) =
    (i, c, op, omega (arith, row), col, stops, is)

tuple_last : (stop : ℕ → ℤ → Option Stop) (w : ℕ) (place : ℕ → ℕ → ℕ) (value : ℕ → ℕ → ℤ) (n key : ℕ) (what : What)
    → StopsIn stop 1 w (λ i c. place n c) (λ i c. value n c) key what → StopsIn stop (n + 1) w place value key what
tuple_last stop w place value n key what (i, c, op, row, col, stops, is) = (n, c, op, omega arith, col, stops, is)

-- one more tuple
pub tells_tuple : (stop : ℕ → ℤ → Option Stop) (w : ℕ) (place : ℕ → ℕ → ℕ) (value : ℕ → ℕ → ℤ) (n : ℕ)
    (first other : Option Misfit) → IsPlaced first → IsPlaced other
    → Tells (StopsIn stop n w place value) first → Tells (StopsIn stop 1 w (λ i c. place n c) (λ i c. value n c)) other
    → Tells (StopsIn stop (n + 1) w place value) (lesser_of first other) × IsPlaced (lesser_of first other)
tells_tuple stop w place value n first other placed also tells tell =
    tells_both (StopsIn stop n w place value) (StopsIn stop 1 w (λ i c. place n c) (λ i c. value n c))
    (StopsIn stop (n + 1) w place value) first other placed also (tuple_before stop w place value n)
    (tuple_last stop w place value n) (tuple_split stop w place value n) tells tell

part_split : (stop : ℕ → ℤ → Option Stop) (place : ℕ → ℕ → ℕ) (parts : List LayoutPart) (n key : ℕ) (what : What)
    → StopsInParts stop place parts (n + 1) key what
    → StopsInParts stop place parts n key what ⊎ StopsInPart stop place (part_at parts n) key what
part_split stop place parts n key what (q, there, stops) = elim (last_or_before n q there) [
  | inl same ↦ inr (subst (λ (d : ℕ). StopsInPart stop place (part_at parts d) key what) same stops)
  | inr before ↦ inl (q, before, stops)
]

part_before : (stop : ℕ → ℤ → Option Stop) (place : ℕ → ℕ → ℕ) (parts : List LayoutPart) (n key : ℕ) (what : What)
    → StopsInParts stop place parts n key what → StopsInParts stop place parts (n + 1) key what
part_before stop place parts n key what (q, there, stops) = (q, omega (arith, there), stops)

part_last : (stop : ℕ → ℤ → Option Stop) (place : ℕ → ℕ → ℕ) (parts : List LayoutPart) (n key : ℕ) (what : What)
    → StopsInPart stop place (part_at parts n) key what → StopsInParts stop place parts (n + 1) key what
part_last stop place parts n key what stops = (n, omega arith, stops)

-- one more part
pub tells_part : (stop : ℕ → ℤ → Option Stop) (place : ℕ → ℕ → ℕ) (parts : List LayoutPart) (n : ℕ)
    (first other : Option Misfit) → IsPlaced first → IsPlaced other
    → Tells (StopsInParts stop place parts n) first → Tells (StopsInPart stop place (part_at parts n)) other
    → Tells (StopsInParts stop place parts (n + 1)) (lesser_of first other) × IsPlaced (lesser_of first other)
tells_part stop place parts n first other placed also tells tell =
    tells_both (StopsInParts stop place parts n) (StopsInPart stop place (part_at parts n))
    (StopsInParts stop place parts (n + 1)) first other placed also (part_before stop place parts n)
    (part_last stop place parts n) (part_split stop place parts n) tells tell

-- counts
no_some : {A : Type 0} {P : Type 0} (x : A) → Some x ≡ None → P
no_some x same = cc

either_some : (a b : Misfit) (t : Bool) {P : Type 0} → cond t (Some b) (Some a) ≡ None → P
either_some a b true same = no_some b same
either_some a b false same = no_some a same

neither : (first other : Option Misfit) → lesser_of first other ≡ None → (first ≡ None) × (other ≡ None)
neither None other same = (refl, same)
neither (Some a) None same = no_some a same
neither (Some a) (Some b) same = either_some a b _ same

pub raised_more : (m n : ℕ) (first other : Option Misfit) (before now later : Counts) → AreRaised m first before now
    → AreRaised n other now later → AreRaised (m + n) (lesser_of first other) before later
raised_more m n first other before now later are also = record {
  mults = also.mults ∙ are.mults;
  least = omega (arith, are.least, also.least);
  most = omega (arith, are.most, also.most);
  all = λ none. (let both = neither first other none in omega (arith, are.all both.0, also.all both.1));
}

no_stop : (stop : Option Stop) (place : ℕ) → misfit_of stop place ≡ None → stop ≡ None
no_stop None place none = refl
no_stop (Some s) place none = no_some _ none

pub raised_placed : (n : ℕ) (stop : Option Stop) (place : ℕ) (before now : Counts) → AreRaised n stop before now
    → AreRaised n (misfit_of stop place) before now
raised_placed n stop place before now are =
    record { mults = are.mults; least = are.least; most = are.most; all = λ none. are.all (no_stop stop place none) }

pub raised_as : {X : Type 0} (m n : ℕ) (first : Option X) (before now : Counts) → m ≡ n → AreRaised m first before now
    → AreRaised n first before now
raised_as {X} m n first before now same are = subst (λ (k : ℕ). AreRaised k first before now) same are

-- one more value is appended
pub value_more : {N : Type 0} (value : N → ℤ) (h : ℕ → ℤ → ℤ) (w : ℕ) (tuples : List (List ℤ)) (t c : ℕ) (done : List N)
    (next : N) → c < w → value next ≡ h c (value_of tuples t c)
    → map value done ≡ mapped_values h w tuples (t * w + c)
    → map value (done ++ next ∷ []) ≡ mapped_values h w tuples (t * w + (c + 1))
value_more value h w tuples t c done next col is so_far =
    let f = λ (p : ℕ). h (p % w) (value_of tuples (p / w) (p % w)) in
    let more : t * w + (c + 1) ≡ t * w + c + 1 = omega arith in
    let here : value next ≡ f (t * w + c) = rw (div-mul-add t w c col, mod-mul-add t w c col) is in
    map-append value done (next ∷ []) ∙ ap (λ (xs : List ℤ). xs ++ value next ∷ []) so_far
    ∙ ap (λ (z : ℤ). mapped_values h w tuples (t * w + c) ++ z ∷ []) here
    ∙ sym (map-range_with_len_more f 0 (t * w + c) (t * w + c) (omega arith)) ∙ ap (mapped_values h w tuples) (sym more)

-- no more than all were made
pub up_to : {X : Type 0} (m n : ℕ) (first : Option X) (before now : Counts) → m ≤ n → AreRaised m first before now
    → HasMapsUpTo n before now
up_to m n first before now few are =
    record { mults = are.mults; least = are.least; most = omega (arith, are.most, few) }

pub up_to_more : {X : Type 0} (m k n : ℕ) (first : Option X) (before now later : Counts) → m + k ≤ n
    → AreRaised m first before now → HasMapsUpTo k now later → HasMapsUpTo n before later
up_to_more m k n first before now later few are also = record {
  mults = also.mults ∙ are.mults;
  least = omega (arith, are.least, also.least);
  most = omega (arith, are.most, also.most, few);
}

abbrev values_in : LayoutPart → ℕ
values_in part = length part.tuples * length part.columns

-- the values of the first parts are among all
pub values_within : (parts : List LayoutPart) (n : ℕ) → values_of (take n parts) ≤ values_of parts
values_within [] zero = omega arith
values_within [] (suc n) = omega arith
values_within (part ∷ parts) zero = omega arith
values_within (part ∷ parts) (suc n) =
    let some : values_of (take (suc n) (part ∷ parts)) ≡ values_in part + values_of (take n parts) =
    sum_by-cons values_in part (take n parts) in
    let all : values_of (part ∷ parts) ≡ values_in part + values_of parts = sum_by-cons values_in part parts in
    omega (arith, some, all, values_within parts n)
