-- Bodies of listed tuples, part by part.
use Rattle.std.proofs.Common.{◌≡◌, ℕ, ℤ, ◌+◌, ◌-◌, ◌<◌, List, [], ◌++◌, length, take, drop, map, Option, None, Some}
use Rattle.std.proofs.Common.{sym, ap, ◌∙◌, append_assoc, arith, inl, inr}
use Rattle.std.specs.List.{flat_map, range_with_len, position_or_len}
use Rattle.std.proofs.lemmas.Bool.{cases_lt, lt-ltb, le-ltb}
use Rattle.std.proofs.lemmas.List.{append-nil}
use Rattle.std.proofs.lemmas.List.Concat.{flat_map-append}
use Rattle.std.proofs.lemmas.List.Folds.{flat_map-map}
use Rattle.cla_spec.specs.Bytes.{bytes_of}
use Rattle.cla_packed.specs.Values.{tuple_bytes}
use Rattle.cla_packed.specs.Lists.{rows_from, lists_of}
use Rattle.cla_layout.specs.Listed.{rest_of, is_zero}
use Rattle.cla_packed.specs.Rests.{without_rest, parts_by, parts_bytes, listed_bytes}
use Rattle.cla_pack_writer.specs.Listed.{body_with, head_bytes, lists_from, lists_bytes}
use Rattle.cla_pack_writer.proofs.Listings.{lists_without}

-- four parts, however they are joined
joined : (a b c d : List ℕ) → (a ++ (b ++ c)) ++ d ≡ a ++ (b ++ (c ++ (d ++ [])))
joined a b c d =
    append_assoc a (b ++ c) d ∙ ap (λ (t : List ℕ). a ++ t) (append_assoc b c d)
    ∙ ap (λ (t : List ℕ). a ++ (b ++ (c ++ t))) (sym (append-nil d))

-- the rest is a tuple, if there is one
abbrev pub IsTupleOf : Option ℕ → ℕ → Type 0
IsTupleOf None n = Unit {0}
IsTupleOf (Some r) n = r < n

pub body_put : (bytes : List ℕ → List ℕ) (rest : Option ℕ) (codes : List ℕ) (tuples : List (List ℤ))
    → IsTupleOf rest (length tuples)
    → head_bytes rest tuples ++ lists_bytes bytes rest codes (length tuples) ≡ parts_bytes bytes 8
    (parts_by rest (body_with codes tuples))
body_put bytes None codes tuples there =
    let a = bytes_of 4 (length tuples) in
    let b = bytes_of 1 0 in
    let c = flat_map (tuple_bytes 8) tuples in
    joined a b c (lists_from bytes codes 0 (length tuples))
    ∙ ap (λ (t : List ℕ). a ++ (b ++ (c ++ (t ++ []))))
    (sym (flat_map-map bytes (rows_from 0 codes) (range_with_len 0 (length tuples))))
body_put bytes (Some r) codes tuples there =
    let d = length tuples - 1 in
    let a = bytes_of 4 d in
    let b = bytes_of 1 1 in
    let c = flat_map (tuple_bytes 8) (take r tuples) ++ flat_map (tuple_bytes 8) (drop (r + 1) tuples) in
    let lists = flat_map bytes (lists_of d (map (without_rest d r) codes)) in
    let size : length tuples - (r + 1) ≡ d - r = omega arith in
    joined a b c (lists_bytes bytes (Some r) codes (length tuples))
    ∙ ap (λ (n : ℕ). a ++ (b ++ (c ++ ((lists_from bytes codes 0 r ++ lists_from bytes codes (r + 1) n) ++ [])))) size
    ∙ ap (λ (t : List ℕ). a ++ (b ++ (c ++ (t ++ [])))) (sym (lists_without bytes d r codes (omega (arith, there))))
    ∙ ap (λ (t : List ℕ). a ++ (b ++ (t ++ (lists ++ []))))
    (sym (flat_map-append (tuple_bytes 8) (take r tuples) (drop (r + 1) tuples)))

-- the rest is that of the codes and tuples
pub listed_put : (bytes : List ℕ → List ℕ) (rest : Option ℕ) (codes : List ℕ) (tuples : List (List ℤ))
    → rest ≡ rest_of codes tuples → IsTupleOf rest (length tuples)
    → head_bytes rest tuples ++ lists_bytes bytes rest codes (length tuples) ≡ listed_bytes bytes 8
    (body_with codes tuples)
listed_put bytes rest codes tuples same there = body_put bytes rest codes tuples there
    ∙ ap (λ (r : Option ℕ). parts_bytes bytes 8 (parts_by r (body_with codes tuples))) same

-- the rest is one of the tuples
pub rest_there : (codes : List ℕ) (tuples : List (List ℤ)) (r : ℕ) → rest_of codes tuples ≡ Some r → r < length tuples
rest_there codes tuples r same =
    let k = position_or_len is_zero tuples in
    elim (cases_lt k (length tuples)) [
      | inl lt ↦ let it = rw (lt-ltb k (length tuples) lt) at same in let e : k ≡ r = cc in omega (arith, e, lt)
      | inr le ↦ let it = rw (le-ltb k (length tuples) le) at same in cc
    ]
