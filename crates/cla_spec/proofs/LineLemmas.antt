-- Laws of the lines of a text.
use Rattle.std.proofs.Common.{◌≡◌, ℕ, suc, ◌+◌, ◌<◌, ◌≤◌, List, [], ◌∷◌, length, take, drop, Bool, refl, ap, sym, ◌∙◌}
use Rattle.std.proofs.Common.{arith, inl, inr, ne_eqb, length-drop, length-take}
use Rattle.std.proofs.lemmas.Bool.{cases_Bool}
use Rattle.std.proofs.lemmas.List.{drop-drop}
use Rattle.std.specs.List.{slice_split, position_or_len, before_first}
use Rattle.cla_spec.specs.Lines.{is_lf, without_cr, ended_lines, lines_of, first_line, after_line}

one_more : (k : ℕ) → 1 + k ≡ suc k
one_more k = omega arith

-- the pieces after the first
abbrev later : (ℕ → Bool) → List ℕ → List (List ℕ)
later p [] = []
later p (b ∷ bs) = slice_split p bs

split_head : (p : ℕ → Bool) (s : List ℕ) → slice_split p s ≡ take (position_or_len p s) s
    ∷ later p (drop (position_or_len p s) s)
split_head p [] = refl
split_head p (b ∷ bs) = elim (cases_Bool (p b)) [
  | inl ends ↦ rw ends refl
  | inr goes ↦ rw (goes, one_more, split_head p bs) refl
]

cut : (piece r : List ℕ) → (length r ≡ 0 → 0 < length piece) → ended_lines (piece ∷ later is_lf r) ≡ without_cr piece
    ∷ ended_lines (slice_split is_lf (drop 1 r))
cut piece [] h = rw (ne_eqb (length piece) 0 (λ e. omega (arith, e, h refl))) refl
cut piece (b ∷ bs) h = rw (split_head is_lf bs) refl

first_some : (s : List ℕ) → 0 < length s → length (drop (position_or_len is_lf s) s) ≡ 0 →
    0 < length (before_first is_lf s)
first_some s h none = omega (arith, length-drop (position_or_len is_lf s) s, length-take (position_or_len is_lf s) s)

-- a text of no bytes has no lines
pub lines_of-nil : lines_of [] ≡ []
unfolding lines_of
lines_of-nil = refl

-- the lines of a text are its first line and those of what stands behind it
pub lines_of-cons : (s : List ℕ) → 0 < length s → lines_of s ≡ first_line s ∷ lines_of (after_line s)
unfolding lines_of first_line after_line
lines_of-cons s h =
    ap ended_lines (split_head is_lf s) ∙ cut (before_first is_lf s) (drop (position_or_len is_lf s) s) (first_some s h)
    ∙ ap (λ (r : List ℕ). without_cr (before_first is_lf s) ∷ ended_lines (slice_split is_lf r))
    (drop-drop 1 (position_or_len is_lf s) s)

-- what stands behind the first line is no longer than the text
pub after_line_shorter : (s : List ℕ) → length (after_line s) ≤ length s
unfolding after_line
after_line_shorter s = omega (arith, length-drop (position_or_len is_lf s + 1) s)

-- a text that has no lines has no bytes
pub lines_of-empty : (text : List ℕ) → lines_of text ≡ [] → text ≡ []
lines_of-empty [] e = refl
lines_of-empty (b ∷ bs) e = let some : 0 < length (b ∷ bs) = omega arith in let first =
    sym (lines_of-cons (b ∷ bs) some) ∙ e in absurd (cc)
