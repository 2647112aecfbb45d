-- The first line of a text, with the place behind its end.
use Rattle.std.proofs.Common.{◌≡◌, ℕ, ◌+◌, ◌-◌, ◌<◌, List, [], ◌∷◌, length, take, drop, refl, ap, ◌∙◌, arith, ne_eqb}
use Rattle.std.proofs.Common.{length-drop, length-take}
use Rattle.std.proofs.lemmas.List.{drop-drop}
use Rattle.std.specs.List.{slice_split, position_or_len, before_first}
use Rattle.cla_spec.specs.Lines.{is_lf, without_cr, first_line, after_line}
use Rattle.cla_text.proofs.WordLaws.{later, split_head}
use Rattle.cla_io.specs.Lines.{line_width}
use Rattle.cla_market.specs.Texts.{ends_from, placed_lines}

cut : (at w : ℕ) (piece r : List ℕ) → (length r ≡ 0 → (0 < length piece) × (w ≡ length piece))
    → (0 < length r → w ≡ length piece + 1)
    → ends_from at (piece ∷ later is_lf r) ≡ (without_cr piece, at + w) ∷ ends_from (at + w)
    (slice_split is_lf (drop 1 r))
cut at w piece [] last more =
    rw ((last refl).1, ne_eqb (length piece) 0 (λ e. omega (arith, e, (last refl).0))) refl
cut at w piece (b ∷ bs) last more = rw (more (omega arith), split_head is_lf bs) refl

-- a text that isn't empty begins with its first line
pub placed_cons : (at : ℕ) (s : List ℕ) → 0 < length s
    → placed_lines at s ≡ (first_line s, at + line_width s) ∷ placed_lines (at + line_width s) (after_line s)
unfolding placed_lines first_line after_line
placed_cons at s some =
    let k = position_or_len is_lf s in
    let rest = drop k s in
    let width = length s - length (drop (k + 1) s) in
    let front : length (take k s) + length rest ≡ length s = omega (arith, length-take k s, length-drop k s) in
    let behind = length-drop (k + 1) s in
    ap (ends_from at) (split_head is_lf s)
    ∙ cut at width (before_first is_lf s) rest
    (λ none. (omega (arith, front, none, some), omega (arith, front, none, length-drop k s, behind)))
    (λ more. omega (arith, front, more, length-drop k s, behind))
    ∙ ap (λ (r : List ℕ). (without_cr (before_first is_lf s), at + width) ∷ ends_from (at + width)
    (slice_split is_lf r)) (drop-drop 1 k s)

pub placed_nil : (at : ℕ) → placed_lines at [] ≡ []
unfolding placed_lines
placed_nil at = refl
