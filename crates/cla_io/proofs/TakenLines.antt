-- The end of a line among bytes, and a line that is taken of those that are held.
use Rattle.std.proofs.Common.{◌≡◌, ℕ, not, ◌+◌, ◌-◌, ◌<◌, ◌≤◌, List, ◌++◌, length, take, drop, take-take, slice_range}
use Rattle.std.proofs.Common.{Option, Some, None, Bool, true, false, Result, Ok, Err, refl, ap, sym, ◌∙◌, arith}
use Rattle.std.proofs.Common.{length-drop, length-append, length-take}
use Rattle.std.proofs.lemmas.Bool.{false_from_ne_true, ne_eqb}
use Rattle.std.proofs.lemmas.List.{nil_from_length, drop-append-le, take-append-le, length-take-le}
use Rattle.std.proofs.lemmas.List.Folds.{prefix_len-append}
use Rattle.std.proofs.lemmas.List.Sums.{position_or_len_is}
use Rattle.std.specs.List.{position_or_len}
use Rattle.memchr.specs.Find.{IsFirstByte, is_byte}
use Rattle.cla_spec.specs.Lines.{is_lf, without_cr, first_line, after_line}
use Rattle.cla_io.specs.declared.stop.InFault.{InFault}
use Rattle.cla_io.specs.declared.stop.InFault.TheVariants.{Read, TooLong, Memory}
use Rattle.cla_io.specs.Lines.{Progress, IsLfPlace, EndsAt, TakesLine, TakesLineWhereTold, ahead_of}

-- what a search for LF finds is the place of the next one
pub lf_found : (bytes : List ℕ) (r : Option ℕ) → IsFirstByte (is_byte 10) bytes r → IsLfPlace bytes r
lf_found bytes None h =
    position_or_len_is is_lf bytes (length bytes) 0 (omega arith) (λ k lt. false_from_ne_true _ (h k (omega arith) lt))
    (λ lt. absurd (omega arith))
lf_found bytes (Some k) h = (
  h.0.high,
  position_or_len_is is_lf bytes k 0 (omega (arith, h.0.high))
      (λ j lt. false_from_ne_true _ (h.0.before j (omega arith) lt)) (λ lt. h.1),
)

line_at : (bytes : List ℕ) (k : ℕ) → position_or_len is_lf bytes ≡ k → first_line bytes ≡ without_cr (take k bytes)
unfolding first_line
line_at bytes k h = rw h refl

pub rest_at : (bytes : List ℕ) (k : ℕ) → position_or_len is_lf bytes ≡ k → after_line bytes ≡ drop (k + 1) bytes
unfolding after_line
rest_at bytes k h = rw h refl

past_end : (bytes : List ℕ) → drop (length bytes + 1) bytes ≡ drop (length bytes) bytes
past_end bytes = nil_from_length _ (omega (arith, length-drop (length bytes + 1) bytes))
    ∙ sym (nil_from_length _ (omega (arith, length-drop (length bytes) bytes)))

-- a line that ends at an LF
pub ends_at_lf : (bytes : List ℕ) (k : ℕ) → k < length bytes → position_or_len is_lf bytes ≡ k → EndsAt bytes k (k + 1)
ends_at_lf bytes k lt h = record {
  in_width = omega arith;
  within = omega arith;
  line = line_at bytes k h;
  rest = rest_at bytes k h;
  is_width = rw (rest_at bytes k h) (omega (arith, length-drop (k + 1) bytes));
  all = λ e. absurd (omega (arith, e));
}

-- a line that ends with its file
pub ends_at_end : (bytes : List ℕ) → position_or_len is_lf bytes ≡ length bytes →
    EndsAt bytes (length bytes) (length bytes)
ends_at_end bytes h = record {
  in_width = omega arith;
  within = omega arith;
  line = line_at bytes (length bytes) h;
  rest = rest_at bytes (length bytes) h ∙ past_end bytes;
  is_width = rw (rest_at bytes (length bytes) h) (omega (arith, length-drop (length bytes + 1) bytes));
  all = λ e. nil_from_length bytes e;
}

-- the first bytes of the first bytes
take_fewer : (r k : ℕ) (xs : List ℕ) → r ≤ k → take r (take k xs) ≡ take r xs
take_fewer r k xs le = rw take-take (ap (λ (n : ℕ). take n xs) (omega arith))

-- an LF among the first bytes is the next one of all of them
found_on : (xs ys : List ℕ) (k : ℕ) → k < length xs → position_or_len is_lf xs ≡ k → position_or_len is_lf (xs ++ ys)
    ≡ k
found_on xs ys k lt place = prefix_len-append (λ b. not (is_lf b)) xs ys
    ∙ rw (ne_eqb (position_or_len is_lf xs) (length xs) (λ e. omega (arith, e, lt, place))) place

-- a line that is held is the next line of the file
held_whole : (old new : Progress) (xs rest ys : List ℕ) (k : ℕ) (result : Result Bool InFault) → k < length xs →
    position_or_len is_lf xs ≡ k → TakesLine old new xs rest result → TakesLine old new (xs ++ ys) (rest ++ ys) result
held_whole old new xs rest ys k (Ok true) lt place t =
    let whole = ends_at_lf (xs ++ ys) k (omega (arith, length-append xs ys)) (found_on xs ys k lt place) in
    let part = ends_at_lf xs k lt place in
    let later : k + 1 ≤ length xs = omega arith in (
      omega (arith, length-append xs ys),
      t.1 ∙ part.line ∙ ap without_cr (sym (take-append-le k xs ys (omega arith)))
          ∙ sym whole.line,
      ap (λ (r : List ℕ). r ++ ys) (t.2 ∙ part.rest) ∙ sym (drop-append-le (k + 1) xs ys later)
          ∙ sym whole.rest,
      t.3 ∙ omega (arith, part.is_width, whole.is_width),
      t.4,
    )
held_whole old new xs rest ys k (Ok false) lt place t = absurd (omega (arith, lt, ap (λ (r : List ℕ). length r) t.0))
held_whole old new xs rest ys k (Err TooLong) lt place t =
    let whole = ends_at_lf (xs ++ ys) k (omega (arith, length-append xs ys)) (found_on xs ys k lt place) in
    let part = ends_at_lf xs k lt place in
    omega (arith, t, part.is_width, whole.is_width)
held_whole old new xs rest ys k (Err Read) lt place t = tt
held_whole old new xs rest ys k (Err Memory) lt place t = tt

pub takes_held : (old new : Progress) (left : Option (List ℕ)) (k : ℕ) (result : Result Bool InFault) →
    IsLfPlace old.ahead (Some k) → TakesLine old new old.ahead new.ahead result →
    TakesLineWhereTold old new (ahead_of old left) (ahead_of new left) result
takes_held old new None k result place t = refl
takes_held old new (Some ys) k result place t = held_whole old new old.ahead new.ahead ys k result place.0 place.1 t

-- the line among the bytes that are held
pub line_held : (bytes : List ℕ) (start end k r : ℕ) → k < length (slice_range bytes start end) →
    position_or_len is_lf (slice_range bytes start end) ≡ k
    → take r (take k (slice_range bytes start end)) ≡ without_cr (take k (slice_range bytes start end)) →
    r ≤ length (take k (slice_range bytes start end))
    → take (start + r - start) (drop start bytes) ≡ first_line (slice_range bytes start end)
line_held bytes start end k r lt place is within =
    let held = slice_range bytes start end in
    let few : r ≤ k = omega (arith, length-take-le k held (omega (arith, lt))) in
    let wide : r ≤ end - start = omega (arith, few, lt, length-take (end - start) (drop start bytes)) in
    let width : start + r - start ≡ r = omega arith in
    let e = ends_at_lf held k lt place in
    rw width (sym (take_fewer r (end - start) (drop start bytes) wide) ∙ sym (take_fewer r k held few) ∙ is
    ∙ sym e.line)
