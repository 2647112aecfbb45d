-- Steps of walks over rows, stretch by stretch.
use Rattle.std.proofs.Common.{◌≡◌, ℕ, ℤ, pos, zero, suc, ◌+◌, ◌-◌, ◌<◌, ◌≤◌, List, length, set, max, min, ap, sym}
use Rattle.std.proofs.Common.{◌∙◌, arith, inl, inr}
use Rattle.std.proofs.lemmas.Bool.{cases_eq, cases_lt}
use Rattle.std.proofs.lemmas.List.{get_or-set_same, get_or-set_other, length-set}
use Rattle.cla_layout.specs.Groups.{at, code_of, gathered_to}
use Rattle.cla_group.proofs.Gathered.{gathered_elsewhere}
use Rattle.cla_rows.specs.RunBounds.{IsStretch}
use Rattle.cla_runs.specs.Walks.{AreJoinedTo, AreGatheredTo, AreCodedTo}

-- the rows of the next stretch can be joined with the part of its code
pub fits_on : (can_join : ℤ → ℤ → Type 0) {a b k : ℕ} {join : ℤ → ℤ → ℤ} {codes : List ℕ} {parts old new : List ℤ}
    {part : ℤ} →
    IsStretch codes k a b → AreJoinedTo a join codes parts old new → part ≡ at parts k → length old ≡ length codes →
    ((i : ℕ) → i < length old → can_join (at old i) (at parts (code_of codes i))) → (i : ℕ) → a ≤ i → i < b →
    can_join (at new i) part
fits_on can_join {parts = parts} {part = part} stretch so_far is size fits i from before =
    let here : part ≡ at parts (code_of _ i) = is ∙ ap (at parts) (sym (stretch.same i from before)) in
    rw (so_far.left i from, here) (fits i (omega (arith, before, stretch.within, size)))

-- rows with another code add nothing
still_on : (codes : List ℕ) (items : List ℤ) (k a d : ℕ) → ((i : ℕ) → a ≤ i → i < a + d → code_of codes i ≡ k → ⊥) →
    gathered_to codes items k (a + d) ≡ gathered_to codes items k a
still_on codes items k a zero none = let e : a + 0 ≡ a = omega arith in ap (gathered_to codes items k) e
still_on codes items k a (suc d) none =
    let e : a + suc d ≡ a + d + 1 = omega arith in
    ap (gathered_to codes items k) e
    ∙ gathered_elsewhere codes items k (a + d) (none (a + d) (omega arith) (omega arith))
    ∙ still_on codes items k a d (λ i from to. none i from (omega (arith, to)))

pub gathered_still : {codes : List ℕ} {key a b : ℕ} (items : List ℤ) (k : ℕ) → IsStretch codes key a b → (k ≡ key → ⊥) →
    gathered_to codes items k b ≡ gathered_to codes items k a
gathered_still {codes} {key} {a} {b} items k stretch other =
    let e : a + (b - a) ≡ b = omega (arith, stretch.order) in
    ap (gathered_to codes items k) (sym e)
    ∙ still_on codes items k a (b - a)
    (λ i from to equal. other (sym equal ∙ stretch.same i from (omega (arith, to, e))))

-- the rows of the next stretch are gathered
pub gathered_on : {codes : List ℕ} {key a b : ℕ} {items sums : List ℤ} (v : ℤ) → AreGatheredTo a codes items sums →
    IsStretch codes key a b → key < length sums → v ≡ gathered_to codes items key b →
    AreGatheredTo b codes items (set sums key v)
gathered_on {codes} {key} {b = b} {items = items} {sums = sums} v so_far stretch there is = record {
  sum = λ k k_there. elim (cases_eq k key) [
    | inl same ↦ ap (at (set sums key v)) same ∙ get_or-set_same sums key v (pos 0) there ∙ is
        ∙ ap (λ (x : ℕ). gathered_to codes items x b) (sym same)
    | inr other ↦ get_or-set_other sums key k v (pos 0) other ∙ so_far.sum k (rw length-set at k_there)
        ∙ sym (gathered_still items k stretch other)
  ];
}

-- the rows of the next stretch have their code: of the rows from row a to before row b, those from its begin to
-- before its end
pub coded_on : {codes : List ℕ} {k from to a : ℕ} {made : List ℕ} (b begin end : ℕ) (new : List ℕ) →
    IsStretch codes k from to →
    AreCodedTo from codes a made → length new ≡ length made → a + length made ≡ b →
    begin ≡ max from a → end ≡ max (min to b) begin → ((j : ℕ) → begin - a ≤ j → j < end - a → code_of new j ≡ k) →
    ((j : ℕ) → j < begin - a → code_of new j ≡ code_of made j) → AreCodedTo to codes a new
coded_on {from = from} {a = a} b begin end new stretch so_far size all begin_is end_is given before = record {
  done = λ j there ended. elim (cases_lt (a + j) from) [
    | inl done ↦ before j (omega (arith, done, begin_is)) ∙ so_far.done j (omega (arith, there, size)) done
    | inr here ↦ given j (omega (arith, here, begin_is)) (omega (arith, ended, end_is, begin_is, there, size, all))
        ∙ sym (stretch.same (a + j) here ended)
  ];
}
