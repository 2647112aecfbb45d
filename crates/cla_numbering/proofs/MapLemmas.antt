-- Numbering through a map that keeps its keys in the order in which they came.
use Rattle.std.proofs.Common.{◌≡◌, refl, ℕ, List, [], ◌∷◌, ◌++◌, nat_eq, sym, ap, ◌∙◌, append_assoc, ◌+◌, ◌≤◌, length}
use Rattle.std.proofs.Common.{Bool, true, false, cond, subst, arith, length-append}
use Rattle.std.specs.List.{position_or_len, list_any}
use Rattle.cla_grouping.specs.Numbering.{with_item, codes_from, firsts_from}

-- one more item
pub codes_next : (codes new_codes seen new_seen : List ℕ) (code p : ℕ) (left rest all : List ℕ)
    → codes ++ codes_from nat_eq seen left ≡ codes_from nat_eq [] all
    → left ≡ p ∷ rest → code ≡ position_or_len (nat_eq p) seen → new_seen ≡ with_item nat_eq seen p
    → new_codes ≡ codes ++ code ∷ []
    → new_codes ++ codes_from nat_eq new_seen rest ≡ codes_from nat_eq [] all
codes_next codes new_codes seen new_seen code p left rest all h is at put push =
    ap (λ l. l ++ codes_from nat_eq new_seen rest) push
    ∙ append_assoc codes (code ∷ []) (codes_from nat_eq new_seen rest)
    ∙ ap (λ k. codes ++ k ∷ codes_from nat_eq new_seen rest) at
    ∙ ap (λ s. codes ++ position_or_len (nat_eq p) seen ∷ codes_from nat_eq s rest) put
    ∙ ap (λ l. codes ++ codes_from nat_eq seen l) (sym is) ∙ h

pub firsts_next : (seen new_seen : List ℕ) (p : ℕ) (left rest all : List ℕ)
    → firsts_from nat_eq seen left ≡ firsts_from nat_eq [] all
    → left ≡ p ∷ rest → new_seen ≡ with_item nat_eq seen p
    → firsts_from nat_eq new_seen rest ≡ firsts_from nat_eq [] all
firsts_next seen new_seen p left rest all h is put = ap (λ s. firsts_from nat_eq s rest) put
    ∙ ap (firsts_from nat_eq seen) (sym is) ∙ h

append-none : (xs : List ℕ) → xs ++ [] ≡ xs
append-none [] = refl
append-none (x ∷ xs) = ap (λ l. x ∷ l) (append-none xs)

-- no item is left
pub codes_whole : (codes seen left all : List ℕ) → left ≡ []
    → codes ++ codes_from nat_eq seen left ≡ codes_from nat_eq [] all → codes ≡ codes_from nat_eq [] all
codes_whole codes seen left all is h = sym (append-none codes) ∙ ap (λ l. codes ++ codes_from nat_eq seen l) (sym is)
    ∙ h

pub firsts_whole : (seen left all : List ℕ) → left ≡ [] → firsts_from nat_eq seen left ≡ firsts_from nat_eq [] all
    → seen ≡ firsts_from nat_eq [] all
firsts_whole seen left all is h = ap (firsts_from nat_eq seen) (sym is) ∙ h

-- at most one more item is seen
pub with_item-few : (seen new_seen : List ℕ) (p i : ℕ) → length seen ≤ i → new_seen ≡ with_item nat_eq seen p
    → length new_seen ≤ i + 1
with_item-few seen new_seen p i few put = subst (λ l. length l ≤ i + 1) (sym put) (by (list_any (nat_eq p) seen))
  where
    by : (b : Bool) → length (cond b seen (seen ++ p ∷ [])) ≤ i + 1
    by true = omega (arith, few)
    by false = omega (arith, few, length-append seen (p ∷ []))
