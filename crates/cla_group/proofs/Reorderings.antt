-- Values of tuples in another order.
use Rattle.std.proofs.Common.{◌≡◌, ℕ, ℤ, pos, ◌+◌, ◌*◌, ◌<◌, ◌≤◌, List, ◌++◌, length, map, take, drop, ap, sym, ◌∙◌}
use Rattle.std.proofs.Common.{arith, inl, inr}
use Rattle.std.proofs.lemmas.Bool.{cases_eq}
use Rattle.std.proofs.lemmas.List.{get_or_append_left, get_or-append-add, length-map, length-drop, length-take-le}
use Rattle.cla_layout.specs.Groups.{at, code_of}
use Rattle.cla_layout.proofs.Tuples.{place_within}
use Rattle.cla_group.proofs.Projections.{stretch_item}

-- the values of one tuple
pub record IsTuple (width code : ℕ) (values piece : List ℤ) : Type 0 where
  pub size : length piece ≡ width
  pub same : (c : ℕ) → c < width → at piece c ≡ at values (code * width + c)

pub tuple_read : {N : Type 0} (value : N → ℤ) (width code n : ℕ) (values : List N) → n ≡ width →
    (code + 1) * width ≤ length values
    → IsTuple width code (map value values) (map value (take n (drop (code * width) values)))
tuple_read value width code n values whole within =
    let piece = take n (drop (code * width) values) in
    let size =
    length-take-le n (drop (code * width) values) (omega (arith, length-drop (code * width) values, whole, within))
    in
    record {
      size = length-map piece value ∙ size ∙ whole;
      same = λ c place. stretch_item value values (code * width) n c (omega (arith, place, whole));
    }

-- the values of one more tuple stand behind those of the first i
pub in_order_more : (width i : ℕ) (order : List ℕ) (values kept piece : List ℤ) → length kept ≡ i * width
    → IsTuple width (code_of order i) values piece →
    ((k c : ℕ) → k < i → c < width → at kept (k * width + c) ≡ at values (code_of order k * width + c)) →
    (k c : ℕ) → k < i + 1 → c < width → at (kept ++ piece) (k * width + c) ≡ at values (code_of order k * width + c)
in_order_more width i order values kept piece count is so_far k c there place = elim (cases_eq k i) [
  | inl same ↦
      let begin : k * width + c ≡ length kept + c = omega (arith, ap (λ (n : ℕ). n * width) same, count) in
      ap (at (kept ++ piece)) begin ∙ get_or-append-add kept piece c (pos 0) ∙ is.same c place
      ∙ ap (λ (n : ℕ). at values (code_of order n * width + c)) (sym same)
  | inr other ↦
      let before : k < i = grind (arith, there, other) in
      let within : k * width + c < length kept = rw count (place_within width i k c before place) in
      get_or_append_left kept piece (pos 0) (k * width + c) within ∙ so_far k c before place
]
