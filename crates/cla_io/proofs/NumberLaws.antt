-- The bytes of a buffer after a read behind its end, and a number of the bytes that are held.
use Rattle.std.proofs.Common.{◌≡◌, ℕ, ◌+◌, ◌-◌, ◌≤◌, List, [], ◌∷◌, ◌++◌, length, get_or, take, drop, slice_range}
use Rattle.std.proofs.Common.{Option, Some, None, refl, ap, ◌∙◌, arith, append_assoc}
use Rattle.std.proofs.lemmas.List.{take_at, drop_at, take-append-le, drop-append-le, drop-take, length-take-le}
use Rattle.std.proofs.lemmas.List.{length-drop, length-append, take-append-drop}
use Rattle.std.specs.Int.{w64, from_le_bytes}
use Rattle.cla_spec.specs.Bytes.{number_of}
use borrow.Rule.Slice.PartMut.{put_mid, post_of}
use lib.Seq.{take-add}
use Rattle.cla_spec.specs.Files.{Told}
use Rattle.cla_io.specs.State.{Reading, left_in, left_where_told}
use Rattle.cla_io.specs.Reads.{Takes}
use Rattle.cla_io.specs.Lines.{SameBytes}

pub grown : (xs ys : List ℕ) (start end k n : ℕ) → start ≤ end → end ≤ length xs → n ≤ length ys
    → slice_range (put_mid end k xs ys) start (end + n) ≡ slice_range xs start end ++ take n ys
grown xs ys start end k n ordered within fits =
    let front = length-take-le end xs within in
    let held = drop start (take end xs) in
    let len : length held ≡ end - start = omega (arith, length-drop start (take end xs)) in
    let sum : end + n - start ≡ (end - start) + n = omega arith in
    let parts : end ≡ start + (end - start) = omega arith in
    let same : held ≡ take (end - start) (drop start xs) = ap (λ j. drop start (take j xs)) parts
    ∙ drop-take start (end - start) xs in
    let after = ys ++ post_of end k xs in
    ap (take (end + n - start)) (drop-append-le start (take end xs) after (omega arith))
    ∙ ap (λ j. take j (held ++ after)) sum ∙ take-add (end - start) n (held ++ after)
    ∙ (rw (take_at held after _ len, drop_at held after _ len, take-append-le n ys (post_of end k xs) fits, same) refl)

-- what was read stands behind what was held
pub read_behind : (told told' : Option Told) (r r' : Option Reading) (held mid held' into : List ℕ) (n : ℕ)
    → told' ≡ told → mid ≡ held → held' ≡ mid ++ take n into
    → Takes (left_where_told told r) into n (left_where_told told' r')
    → SameBytes held (left_where_told told r) held' (left_where_told told' r')
read_behind None told' r r' held mid held' into n same middle grew t = rw same refl
read_behind (Some b) told' r r' held mid held' into n same middle grew t =
    rw (t.0, grew, middle, t.1) (append_assoc held (take n (left_in b r)) (drop n (left_in b r))
    ∙ ap (λ (x : List ℕ). held ++ x) (take-append-drop n (left_in b r)))

-- a write over all that stands behind a place keeps the length
pub put_length : (xs ys : List ℕ) (end : ℕ) → end ≤ length xs → length ys ≡ length xs - end
    → length (put_mid end (length xs - end) xs ys) ≡ length xs
put_length xs ys end within same =
    let rest = post_of end (length xs - end) xs in
    omega (
      arith,
      same,
      length-append (take end xs) (ys ++ rest),
      length-append ys rest,
      length-take-le end xs within,
      length-drop (length xs - end) (drop end xs),
      length-drop end xs,
    )

-- ---- numbers of bytes

pub eight_bytes : (bytes : List ℕ) → length bytes ≡ 8
    → number_of bytes ≡ from_le_bytes w64 (get_or bytes 0 0 ∷ get_or bytes 1 0 ∷ get_or bytes 2 0 ∷ get_or bytes 3 0
    ∷ get_or bytes 4 0 ∷ get_or bytes 5 0 ∷ get_or bytes 6 0 ∷ get_or bytes 7 0 ∷ [])
eight_bytes [] h = absurd (omega (arith, h))
eight_bytes (a ∷ []) h = absurd (omega (arith, h))
eight_bytes (a ∷ b ∷ []) h = absurd (omega (arith, h))
eight_bytes (a ∷ b ∷ c ∷ []) h = absurd (omega (arith, h))
eight_bytes (a ∷ b ∷ c ∷ d ∷ []) h = absurd (omega (arith, h))
eight_bytes (a ∷ b ∷ c ∷ d ∷ e ∷ []) h = absurd (omega (arith, h))
eight_bytes (a ∷ b ∷ c ∷ d ∷ e ∷ f ∷ []) h = absurd (omega (arith, h))
eight_bytes (a ∷ b ∷ c ∷ d ∷ e ∷ f ∷ g ∷ []) h = absurd (omega (arith, h))
eight_bytes (a ∷ b ∷ c ∷ d ∷ e ∷ f ∷ g ∷ i ∷ []) h = omega arith
eight_bytes (a ∷ b ∷ c ∷ d ∷ e ∷ f ∷ g ∷ i ∷ j ∷ more) h = absurd (omega (arith, h))
