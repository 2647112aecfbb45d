-- Counts that grow row by row.
use Rattle.std.proofs.Common.{◌≡◌, ℕ, ◌+◌, ◌<◌, ◌≤◌, Bool, true, false, cond, ◌&&◌, eqb, List, length, set, refl, sym}
use Rattle.std.proofs.Common.{ap, ◌∙◌, arith, inl, inr, replicate}
use Rattle.std.proofs.lemmas.Bool.{cases_eq, cases_Bool, ne_eqb, eq-eqb}
use Rattle.std.proofs.lemmas.List.{length-set, get_or-set_same, get_or-set_other, length_push, length-replicate}
use Rattle.std.proofs.lemmas.List.{get_or-replicate}
use Rattle.cla_layout.specs.Groups.{code_of}
use Rattle.cla_layout.specs.Listed.{rows_where, begins_run}
use Rattle.cla_layout.proofs.Listings.{rows_where_yes, rows_where_no, rows_where_few}
use Rattle.cla_stats.specs.Coded.{AreTallied, has_code}

-- no row is counted yet
pub tallied_none : (test : ℕ → ℕ → Bool) (n : ℕ) (counts : List ℕ) → counts ≡ replicate n 0 → AreTallied test 0 n counts
tallied_none test n counts e = record {
  a_count_each = ap length e ∙ length-replicate n 0;
  count = λ k there. ap (λ (l : List ℕ). code_of l k) e ∙ get_or-replicate n k 0 0 there;
}

-- a row that passes for code c alone is counted there
pub tallied_yes : (test : ℕ → ℕ → Bool) (i n c : ℕ) (counts new : List ℕ) → AreTallied test i n counts → c < n
    → test c i ≡ true → ((k : ℕ) → (k ≡ c → ⊥) → test k i ≡ false)
    → new ≡ set counts c (code_of counts c + 1) → AreTallied test (i + 1) n new
tallied_yes test i n c counts new are there holds fails e = record {
  a_count_each = ap length e ∙ length-set counts c (code_of counts c + 1) ∙ are.a_count_each;
  count = λ k below. elim (cases_eq k c) [
    | inl same ↦
        ap (λ (l : List ℕ). code_of l k) e ∙ ap (code_of (set counts c (code_of counts c + 1))) same
        ∙ get_or-set_same counts c (code_of counts c + 1) 0 (omega (arith, there, are.a_count_each))
        ∙ ap (λ m. m + 1) (are.count c there)
        ∙ sym (length_push (rows_where (test c) i) i)
        ∙ ap length (sym (rows_where_yes (test c) i holds))
        ∙ ap (λ j. length (rows_where (test j) (i + 1))) (sym same)
    | inr other ↦
        ap (λ (l : List ℕ). code_of l k) e ∙ get_or-set_other counts c k (code_of counts c + 1) 0 other
        ∙ are.count k below ∙ ap length (sym (rows_where_no (test k) i (fails k other)))
  ];
}

-- no count is above the number of rows
pub tallied_few : (test : ℕ → ℕ → Bool) (i n c : ℕ) (counts : List ℕ) → AreTallied test i n counts → c < n
    → code_of counts c ≤ i
tallied_few test i n c counts are there = omega (arith, are.count c there, rows_where_few (test c) i)

-- a row that can pass for code c alone
pub tallied_more : (test : ℕ → ℕ → Bool) (i n c : ℕ) (counts new : List ℕ) → AreTallied test i n counts → c < n
    → ((k : ℕ) → (k ≡ c → ⊥) → test k i ≡ false)
    → new ≡ set counts c (code_of counts c + cond (test c i) 1 0) → AreTallied test (i + 1) n new
tallied_more test i n c counts new are there fails e = elim (cases_Bool (test c i)) [
  | inl holds ↦ tallied_yes test i n c counts new are there holds fails
      (e ∙ ap (λ b. set counts c (code_of counts c + cond b 1 0)) holds)
  | inr not_here ↦ record {
    a_count_each = ap length e ∙ length-set counts c (code_of counts c + cond (test c i) 1 0) ∙ are.a_count_each;
    count = λ k below. elim (cases_eq k c) [
      | inl same ↦
          ap (λ (l : List ℕ). code_of l k) e ∙ ap (code_of (set counts c (code_of counts c + cond (test c i) 1 0))) same
          ∙ get_or-set_same counts c (code_of counts c + cond (test c i) 1 0) 0 (omega (arith, there, are.a_count_each))
          ∙ ap (λ b. code_of counts c + cond b 1 0) not_here
          ∙ omega arith
          ∙ are.count c there
          ∙ ap length (sym (rows_where_no (test c) i not_here))
          ∙ ap (λ j. length (rows_where (test j) (i + 1))) (sym same)
      | inr other ↦
          ap (λ (l : List ℕ). code_of l k) e
          ∙ get_or-set_other counts c k (code_of counts c + cond (test c i) 1 0) 0 other
          ∙ are.count k below ∙ ap length (sym (rows_where_no (test k) i (fails k other)))
    ];
  }
]

-- a row has its own code alone
pub own_code : (codes : List ℕ) (i : ℕ) → has_code codes (code_of codes i) i ≡ true
own_code codes i = eq-eqb (code_of codes i) (code_of codes i) refl

pub no_other_code : (codes : List ℕ) (i k : ℕ) → (k ≡ code_of codes i → ⊥) → has_code codes k i ≡ false
no_other_code codes i k other = ne_eqb (code_of codes i) k (λ e. other (sym e))

pub no_other_run : (codes : List ℕ) (i k : ℕ) → (k ≡ code_of codes i → ⊥) → begins_run codes k i ≡ false
no_other_run codes i k other = and_false (eqb (code_of codes i) k) _ (no_other_code codes i k other)
  where
    and_false : (a b : Bool) → a ≡ false → (a && b) ≡ false
    and_false true b h = absurd (cc)
    and_false false b h = refl
