-- Tuples and their hashes.
use Rattle.std.proofs.Common.{◌≡◌, ℕ, ℤ, pos, suc, ◌+◌, ◌*◌, ◌<◌, ◌≤◌, Bool, true, false, List, [], ◌∷◌, ◌++◌, length}
use Rattle.std.proofs.Common.{map}
use Rattle.std.proofs.Common.{take, drop, refl, sym, ap, ◌∙◌, arith, inl, inr, get_or}
use Rattle.std.specs.Prelude.{◌%◌, slice_index_or}
use Rattle.std.specs.List.{flat_map, fold}
use Rattle.std.specs.Ordering.{int_eq}
use Rattle.std.specs.Cmp.Lexicographic.{pointwise}
use Rattle.std.specs.Hash.FoldHasher as folding
use Rattle.std.proofs.Math.Nat.{mul-le-mul}
use Rattle.std.proofs.Math.Seq.{get_or-append_seam, drop-append_seam, take-length}
use Rattle.std.proofs.lemmas.Cmp.{int_eq_equiv}
use Rattle.std.proofs.lemmas.Bool.{and_parts, and_from, cases_Bool, false≢true, cases_eq}
use Rattle.std.proofs.lemmas.List.{length-map, length-append, get_or-take, get_or-drop, take-map, drop-map}
use Rattle.std.proofs.lemmas.List.{ext_get_or, take-append-le, drop-append-le, length-take-le, length-drop}
use Rattle.std.proofs.lemmas.List.{get_or_append_left}
use Rattle.std.proofs.lemmas.List.Folds.{list_any_at, list_any_none}
use Rattle.std.proofs.lemmas.List.Elements.{All-from_get_or}
use Rattle.std.proofs.lemmas.List.FromFn.{length-map-range_with_len, get_or-map-range_with_len}
use Rattle.cla_layout.specs.Groups.{at}
use Rattle.cla_layout.specs.Tuples.{tuple_at, tuples_of}
use Rattle.cla_layout.proofs.Tuples.{tuple_is, tuples_count}
use Rattle.cla_packed.specs.Values.{is_among}
use Rattle.cla_pack_reader.specs.Hashes.{tuple_hash, items_at, AreHashed}
use Rattle.cla_pack_reader.proofs.TupleLaws.{pointwise_same}

-- a tuple lies within the values
within : (n width k : ℕ) → k < n → k * width + width ≤ n * width
within n width k there =
    let more : suc k * width ≤ n * width =
    mul-le-mul {n₁ = suc k} {m₁ = width} {n₂ = n} {m₂ = width} (omega (arith, there)) (omega arith) in
    omega (arith, more)

-- the integers of tuple k
items_are : {N : Type 0} (value : N → ℤ) (width : ℕ) (items : List N) (k : ℕ) → k * width + width ≤ length items
    → map value (items_at width items k) ≡ tuple_at width (map value items) k
items_are value width items k fits =
    let from = k * width in
    let vs = map value items in
    let far : width ≤ length (drop from vs) = omega (arith, fits, length-drop from vs, length-map items value) in
    let size : length (take width (drop from vs)) ≡ width = length-take-le width (drop from vs) far in
    sym (take-map value width (drop from items)) ∙ ap (take width) (sym (drop-map value from items))
    ∙ ext_get_or (pos 0) (take width (drop from vs)) (tuple_at width vs k)
    (size ∙ sym (length-map-range_with_len (λ c. at vs (from + c)) 0 width)) (λ c there.
    let less : c < width = omega (arith, there, size) in
    get_or-take width (drop from vs) c (pos 0) less ∙ get_or-drop from vs c (pos 0)
    ∙ sym (get_or-map-range_with_len (λ c. at vs (from + c)) 0 width c c (pos 0) less (omega arith)))

own_tuple : (vs : List ℤ) → pointwise int_eq vs vs ≡ true
own_tuple [] = refl
own_tuple (v ∷ vs) = and_from (int_eq v v) (pointwise int_eq vs vs) (int_eq_equiv.refl v) (own_tuple vs)

module _ {N : Type 0} (input : N → List (List ℕ)) (eq : N → N → Bool)
    (alike : (x y : N) → eq x y ≡ true → input x ≡ input y) where
  fed_alike : (xs ys : List N) → pointwise eq xs ys ≡ true → flat_map input xs ≡ flat_map input ys
  fed_alike [] [] same = refl
  fed_alike [] (y ∷ ys) same = elim (false≢true same) [ ]
  fed_alike (x ∷ xs) [] same = elim (false≢true same) [ ]
  fed_alike (x ∷ xs) (y ∷ ys) same =
      let parts = and_parts (eq x y) (pointwise eq xs ys) same in
      rw (alike x y parts.0, fed_alike xs ys parts.1) refl

  -- equal tuples have one hash
  hash_alike : (xs ys : List N) → pointwise eq xs ys ≡ true → tuple_hash input xs ≡ tuple_hash input ys
  hash_alike xs ys same =
      ap (λ (ws : List (List ℕ)). folding.finish (fold folding.write folding.initial ws) % 4294967296)
      (fed_alike xs ys same)

  -- numbers of the same values have the same hashes
  pub hashed_same : (value : N → ℤ) → ((x y : N) → eq x y ≡ int_eq (value x) (value y)) → (width : ℕ) (xs ys : List N)
      (hashes : List ℕ) → map value ys ≡ map value xs → AreHashed input width xs hashes
      → AreHashed input width ys hashes
  hashed_same value equality width xs ys hashes same hashed = record {
    whole = sym (length-map ys value) ∙ ap (λ (vs : List ℤ). length vs) same ∙ length-map xs value ∙ hashed.whole;
    each = λ k there.
        let a = items_at width xs k in
        let b = items_at width ys k in
        let values : map value b ≡ map value a =
        sym (take-map value width (drop (k * width) ys)) ∙ ap (take width) (sym (drop-map value (k * width) ys))
        ∙ ap (λ (vs : List ℤ). take width (drop (k * width) vs)) same
        ∙ ap (take width) (drop-map value (k * width) xs) ∙ take-map value width (drop (k * width) xs) in
        hashed.each k there ∙ hash_alike a b (pointwise_same value eq equality a b
        ∙ ap (pointwise int_eq (map value a)) values ∙ own_tuple (map value a));
  }

  module _ (value : N → ℤ) (equality : (x y : N) → eq x y ≡ int_eq (value x) (value y)) (items tuple : List N)
      (hashes : List ℕ) (hash : ℕ) (hashed : AreHashed input (length tuple) items hashes)
      (is : hash ≡ tuple_hash input tuple) where
    abbrev test : List ℤ → Bool
    test = pointwise int_eq (map value tuple)

    abbrev tuples : List (List ℤ)
    tuples = tuples_of (length tuple) (length hashes) (map value items)

    -- the test of one of the tuples
    tested : (k : ℕ) → k < length hashes
        → test (get_or tuples k []) ≡ pointwise eq tuple (items_at (length tuple) items k)
    tested k there =
        let width = length tuple in
        let fits : k * width + width ≤ length items =
        omega (arith, within (length hashes) width k there, hashed.whole) in
        ap test (tuple_is width (length hashes) (map value items) k there ∙ sym (items_are value width items k fits))
        ∙ sym (pointwise_same value eq equality tuple (items_at width items k))

    -- what an index of the hashes tells
    pub seen_among : (result : Bool)
        → (result ≡ true → (k : ℕ) × (k < length hashes) × (slice_index_or hashes k 0 ≡ hash)
        × (true ≡ pointwise eq tuple (items_at (length tuple) items k)))
        → (result ≡ false → (k : ℕ) → k < length hashes → slice_index_or hashes k 0 ≡ hash
        → false ≡ pointwise eq tuple (items_at (length tuple) items k))
        → result ≡ is_among tuples (map value tuple)
    seen_among true found absent =
        let here = found refl in
        sym (list_any_at test tuples here.0 []
        (omega (arith, here.1, tuples_count (length tuple) (length hashes) (map value items)))
        (tested here.0 here.1 ∙ sym here.3))
    seen_among false found absent =
        sym (list_any_none test tuples (All-from_get_or (λ t. test t ≡ false) tuples [] (λ k there.
        let lt : k < length hashes =
        omega (arith, there, tuples_count (length tuple) (length hashes) (map value items)) in
        let other = items_at (length tuple) items k in
        elim (cases_Bool (pointwise eq tuple other)) [
          | inl same ↦ (
              let hash_is = hashed.each k lt ∙ sym (hash_alike tuple other same) ∙ sym is in
              elim (false≢true (absent refl k lt hash_is ∙ same)) [ ]
              )
          | inr differs ↦ tested k lt ∙ differs
        ])))

-- one tuple more
pub hashed_more : {N : Type 0} (input : N → List (List ℕ)) (items tuple : List N) (hashes more : List ℕ) (hash : ℕ)
    → AreHashed input (length tuple) items hashes → hash ≡ tuple_hash input tuple → more ≡ hashes ++ hash ∷ []
    → AreHashed input (length tuple) (items ++ tuple) more
hashed_more input items tuple hashes more hash hashed is pushed =
    let width = length tuple in
    let n = length hashes in
    let one : length more ≡ n + 1 = ap (λ (hs : List ℕ). length hs) pushed ∙ length-append hashes (hash ∷ []) in
    record {
      whole =
          let product : length more * width ≡ (n + 1) * width = ap (λ (m : ℕ). m * width) one in
          omega (arith, product, hashed.whole, length-append items tuple);
      each = λ k there. elim (cases_eq k n) [
        | inl last ↦ (
            let place : k * width ≡ length items = ap (λ (j : ℕ). j * width) last ∙ sym hashed.whole in
            let own : items_at width (items ++ tuple) k ≡ tuple =
            ap (λ (p : ℕ). take width (drop p (items ++ tuple))) place ∙ ap (take width) (drop-append_seam items tuple)
            ∙ take-length tuple in
            ap (λ (hs : List ℕ). slice_index_or hs k 0) pushed
            ∙ ap (λ (j : ℕ). slice_index_or (hashes ++ hash ∷ []) j 0) last
            ∙ get_or-append_seam hashes hash [] 0 ∙ is ∙ ap (tuple_hash input) (sym own)
            )
        | inr other ↦ (
            let less : k < n = grind (arith, there, one, other) in
            let fits : k * width + width ≤ length items = omega (arith, within n width k less, hashed.whole) in
            let from = k * width in
            let same : items_at width (items ++ tuple) k ≡ items_at width items k =
            ap (take width) (drop-append-le from items tuple (omega (arith, fits)))
            ∙ take-append-le width (drop from items) tuple (omega (arith, fits, length-drop from items)) in
            ap (λ (hs : List ℕ). slice_index_or hs k 0) pushed ∙ get_or_append_left hashes (hash ∷ []) 0 k less
            ∙ hashed.each k less ∙ ap (tuple_hash input) (sym same)
            )
      ];
    }
