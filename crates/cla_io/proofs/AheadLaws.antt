-- Lines that are taken at once.
use Rattle.std.proofs.Common.{◌≡◌, ℕ, zero, suc, ◌+◌, ◌-◌, ◌≤◌, List, length, take, drop, Some, refl, sym, subst, ap}
use Rattle.std.proofs.Common.{◌∙◌, arith, length-drop, length-take}
use Rattle.cla_io.specs.Lines.{Progress, IsLfPlace}
use Rattle.cla_io.specs.Ahead.{AreLines, ahead_in_limit}

-- lines stand within their bytes, and each of them has a byte
pub lines_fit : (bytes : List ℕ) (count width : ℕ) → AreLines bytes count width
    → (width ≤ length bytes) × (count ≤ width)
lines_fit bytes zero width h = (omega (arith, h), omega arith)
lines_fit bytes (suc count) width h =
    let before = lines_fit bytes count h.0 h.2 in
    (omega (arith, h.3.0, h.4, length-drop h.0 bytes), omega (arith, before.1, h.4))

-- one line more
pub one_line_more : (bytes here : List ℕ) (count width place : ℕ) → here ≡ drop width bytes → AreLines bytes count width
    → IsLfPlace here (Some place) → AreLines bytes (count + 1) (width + (place + 1))
one_line_more bytes here count width place is so_far lf =
    let next : suc count ≡ count + 1 = omega arith in
    subst (λ (n : ℕ). AreLines bytes n (width + (place + 1))) next
    (width, place, so_far, subst (λ (b : List ℕ). IsLfPlace b (Some place)) is lf, refl)

-- lines of the bytes that are held
pub held_lines : (p : Progress) (count width : ℕ) → AreLines (ahead_in_limit p) count width → (width ≤ length p.ahead)
    × (count ≤ width) × (width ≤ p.limit - p.at)
held_lines p count width lines =
    let fit = lines_fit (ahead_in_limit p) count width lines in
    let long = length-take (p.limit - p.at) p.ahead in
    (omega (arith, fit.0, long), fit.1, omega (arith, fit.0, long))
