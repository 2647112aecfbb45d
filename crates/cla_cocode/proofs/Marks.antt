-- Numbers that are counted through a table of marks.
use Rattle.std.proofs.Common.{◌≡◌, ℕ, zero, suc, ◌+◌, ◌<◌, ◌≤◌, Bool, true, false, cond, ◌||◌, nat_eq, List, [], ◌∷◌}
use Rattle.std.proofs.Common.{◌++◌}
use Rattle.std.proofs.Common.{length, get_or, set, refl, sym, ap, ◌∙◌, arith, eq-eqb, eqb-true, length-append}
use Rattle.std.proofs.Common.{replicate, inl, inr}
use Rattle.std.specs.List.{list_any}
use Rattle.std.proofs.lemmas.Bool.{cases_Bool}
use Rattle.std.proofs.lemmas.List.{get_or-set_same, get_or-set_other}
use Rattle.std.proofs.lemmas.List.Folds.{list_any-append}
use Rattle.cla_grouping.specs.Numbering.{with_item, firsts_from}
use Rattle.cla_numbering.proofs.TableLemmas.{firsts-more}

known : (x y : Bool) → (x ≡ true → y ≡ true) → y ≡ (x || y)
known true y h = h refl
known false y h = refl

swapped : (x y : Bool) → (x || (y || false)) ≡ (y || x)
swapped true true = refl
swapped true false = refl
swapped false true = refl
swapped false false = refl

-- with one more item are those from before, and this one
pub any-with : (seen : List ℕ) (p r : ℕ) → list_any (nat_eq r) (with_item nat_eq seen p)
    ≡ (nat_eq r p || list_any (nat_eq r) seen)
any-with seen p r = by (list_any (nat_eq p) seen) refl
  where
    by : (b : Bool) → list_any (nat_eq p) seen ≡ b
        → list_any (nat_eq r) (cond b seen (seen ++ p ∷ [])) ≡ (nat_eq r p || list_any (nat_eq r) seen)
    by true e = known (nat_eq r p) (list_any (nat_eq r) seen)
        (λ same. ap (λ q. list_any (nat_eq q) seen) (eqb-true r p same) ∙ e)
    by false e = list_any-append (nat_eq r) seen (p ∷ []) ∙ swapped (list_any (nat_eq r) seen) (nat_eq r p)

pub length-with : (seen : List ℕ) (p : ℕ) → length (with_item nat_eq seen p)
    ≡ length seen + cond (list_any (nat_eq p) seen) 0 1
length-with seen p = by (list_any (nat_eq p) seen)
  where
    by : (b : Bool) → length (cond b seen (seen ++ p ∷ [])) ≡ length seen + cond b 0 1
    by true = omega arith
    by false = length-append seen (p ∷ [])

-- the marks are at the numbers that were seen, which are so many, and what is left gives the others
pub record AreMarked (marks : List Bool) (count : ℕ) (left all : List ℕ) : Type 0 where
  pub seen : List ℕ
  pub holds : (p : ℕ) → get_or marks p false ≡ list_any (nat_eq p) seen
  pub as_many : count ≡ length seen
  pub firsts : firsts_from nat_eq seen left ≡ firsts_from nat_eq [] all

-- nothing is seen yet
pub marked-none : (many : ℕ) (all : List ℕ) → AreMarked (replicate many false) 0 all all
marked-none many all = record { seen = []; holds = at many; as_many = refl; firsts = refl }
  where
    at : (n r : ℕ) → get_or (replicate n false) r false ≡ false
    at zero r = refl
    at (suc n) zero = refl
    at (suc n) (suc r) = at n r

-- one more number
marks-more : (marks : List Bool) (p r : ℕ) → p < length marks
    → get_or (set marks p true) r false ≡ (nat_eq r p || get_or marks r false)
marks-more marks p r within = elim (cases_Bool (nat_eq r p)) [
  | inl same ↦
      ap (λ q. get_or (set marks p true) q false) (eqb-true r p same) ∙ get_or-set_same marks p true false within
      ∙ ap (λ b. b || get_or marks r false) (sym same)
  | inr other ↦
      get_or-set_other marks p r true false (λ s. absurd (cc (other, eq-eqb r p s)))
      ∙ ap (λ b. b || get_or marks r false) (sym other)
]

pub marked-next : (marks new_marks : List Bool) (count new_count p : ℕ) (rest left all : List ℕ)
    → AreMarked marks count left all → left ≡ p ∷ rest → p < length marks → new_marks ≡ set marks p true
    → new_count ≡ count + cond (get_or marks p false) 0 1 → AreMarked new_marks new_count rest all
marked-next marks new_marks count new_count p rest left all s is within put more = record {
  seen = with_item nat_eq s.seen p;
  holds = λ r. ap (λ l. get_or l r false) put ∙ marks-more marks p r within
      ∙ ap (λ b. nat_eq r p || b) (s.holds r) ∙ sym (any-with s.seen p r);
  as_many = more ∙ ap (λ n. n + cond (get_or marks p false) 0 1) s.as_many
      ∙ ap (λ b. length s.seen + cond b 0 1) (s.holds p) ∙ sym (length-with s.seen p);
  firsts = ap (firsts_from nat_eq s.seen) (sym is) ∙ s.firsts;
}

-- no fewer are seen in the end
pub marked-most : (marks : List Bool) (count : ℕ) (left all : List ℕ) → AreMarked marks count left all
    → count ≤ length (firsts_from nat_eq [] all)
marked-most marks count left all s = omega (arith, s.as_many, firsts-more s.seen left, ap length s.firsts)

-- nothing is left
pub marked-whole : (marks : List Bool) (count : ℕ) (left all : List ℕ) → left ≡ [] → AreMarked marks count left all
    → count ≡ length (firsts_from nat_eq [] all)
marked-whole marks count left all is s =
    s.as_many ∙ ap (λ l. length (firsts_from nat_eq s.seen l)) (sym is) ∙ ap length s.firsts
