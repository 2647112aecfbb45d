-- A line that is gathered is the next line of the file.
use Rattle.std.proofs.Common.{◌≡◌, ℕ, not, ◌+◌, ◌<◌, ◌≤◌, List, [], ◌++◌, length, take, drop, Option, Some, None, Ok}
use Rattle.std.proofs.Common.{Err, refl, ap, sym, ◌∙◌, arith, length-drop, length-append, append_assoc}
use Rattle.std.proofs.lemmas.Bool.{ne_eqb, eq-eqb}
use Rattle.std.proofs.lemmas.List.{append-nil, nil_from_length, drop-append-le, take-append-le, length-take-le}
use Rattle.std.proofs.lemmas.List.Folds.{prefix_len-append}
use Rattle.std.specs.List.{position_or_len}
use Rattle.std.proofs.Math.Seq.{take-append-add, drop-append-add, take-length}
use Rattle.cla_spec.specs.Lines.{is_lf}
use Rattle.cla_io.specs.declared.stop.InFault.TheVariants.{TooLong}
use Rattle.cla_io.proofs.TakenLines.{ends_at_lf, ends_at_end, rest_at}
use Rattle.cla_io.specs.Lines.{IsLfPlace, IsAllRead, HasNoLf, SameBytes, GathersWhereTold, with_left, line_width}

-- behind bytes with no LF the place counts on
place_on : (xs ys : List ℕ) → HasNoLf xs → position_or_len is_lf (xs ++ ys) ≡ length xs + position_or_len is_lf ys
place_on xs ys none = prefix_len-append (λ b. not (is_lf b)) xs ys
    ∙ rw (eq-eqb (position_or_len is_lf xs) (length xs) none) refl

place_in : (xs ys : List ℕ) → position_or_len is_lf xs < length xs → position_or_len is_lf (xs ++ ys)
    ≡ position_or_len is_lf xs
place_in xs ys h = prefix_len-append (λ b. not (is_lf b)) xs ys
    ∙ rw (ne_eqb (position_or_len is_lf xs) (length xs) (λ e. omega (arith, e, h))) refl

pub no_lf_on : (xs ys : List ℕ) → HasNoLf xs → HasNoLf ys → HasNoLf (xs ++ ys)
no_lf_on xs ys a b = place_on xs ys a ∙ omega (arith, b, length-append xs ys)

pub same_start : (held : List ℕ) (left : Option (List ℕ)) → SameBytes held left held left
same_start held None = refl
same_start held (Some bytes) = refl

-- what was read on, and then moved
pub same_on : (held long more : List ℕ) (l0 l1 l2 : Option (List ℕ)) → SameBytes held l0 long l1 →
    SameBytes [] l1 more l2 → SameBytes held l0 (long ++ more) l2
same_on held long more None l1 l2 a b = rw a at b
same_on held long more (Some x) None l2 a b = absurd a
same_on held long more (Some x) (Some y) None a b = absurd b
same_on held long more (Some x) (Some y) (Some z) a b = append_assoc long more z ∙ ap (λ (r : List ℕ). long ++ r) b ∙ a

-- the line ends with its file
pub at_end : (room : ℕ) (held long items : List ℕ) (l0 l1 : Option (List ℕ)) → SameBytes held l0 long l1 →
    IsAllRead l1 → HasNoLf long → items ≡ []
    → GathersWhereTold room long (with_left held l0) (with_left items l1) (Ok (length long))
at_end room held long items None l1 same all none empty = rw same refl
at_end room held long items (Some x) None same all none empty = absurd same
at_end room held long items (Some x) (Some y) same all none empty =
    let e : long ≡ held ++ x = sym (append-nil long) ∙ ap (λ (r : List ℕ). long ++ r) (sym all) ∙ same in
    rw (← e) (
      ends_at_end long none,
      sym (take-length long),
      rw (empty, all)
          (sym (nil_from_length (drop (length long) long) (omega (arith, length-drop (length long) long)))),
    )

-- the line ends at an LF among the bytes that came last
pub at_lf : (room k : ℕ) (held long more long' items : List ℕ) (l0 l1 l2 : Option (List ℕ)) → SameBytes held l0 long l1
    → SameBytes [] l1 more l2 → HasNoLf long
    → IsLfPlace more (Some k) → long' ≡ long ++ take k more → items ≡ drop (k + 1) more
    → GathersWhereTold room long' (with_left held l0) (with_left items l2) (Ok (length long + k + 1))
at_lf room k held long more long' items None l1 l2 same next none lf grew rest = let e = rw same at next in rw e refl
at_lf room k held long more long' items (Some x) None l2 same next none lf grew rest = absurd same
at_lf room k held long more long' items (Some x) (Some y) None same next none lf grew rest = absurd next
at_lf room k held long more long' items (Some x) (Some y) (Some z) same next none lf grew rest =
    let whole : long ++ (more ++ z) ≡ held ++ x = ap (λ (r : List ℕ). long ++ r) next ∙ same in
    let len : length long' ≡ length long + k =
    rw grew (omega (arith, length-append long (take k more), length-take-le k more (omega (arith, lf.0)))) in
    let found : position_or_len is_lf (more ++ z) ≡ k = place_in more z (omega (arith, lf.0, lf.1)) ∙ lf.1 in
    let place : position_or_len is_lf (long ++ (more ++ z)) ≡ length long' = place_on long (more ++ z) none
    ∙ omega (arith, found, len) in
    let sum : length long + k + 1 ≡ length long' + 1 = omega (arith, len) in
    let rest_on : items ++ z ≡ drop (length long' + 1) (long ++ (more ++ z)) =
    ap (λ (r : List ℕ). r ++ z) rest ∙ sym (drop-append-le (k + 1) more z (omega (arith, lf.0)))
    ∙ sym (drop-append-add long (more ++ z) (k + 1))
    ∙ ap (λ (n : ℕ). drop n (long ++ (more ++ z))) (omega (arith, len)) in
    rw (← whole, sum) (
      ends_at_lf (long ++ (more ++ z)) (length long')
          (omega (arith, len, lf.0, length-append long (more ++ z), length-append more z)) place,
      grew
          ∙ sym
          (rw len (take-append-add long (more ++ z) k
          ∙ ap (λ (r : List ℕ). long ++ r) (take-append-le k more z (omega (arith, lf.0))))),
      rest_on,
    )

-- where the first bytes have no LF, the first line takes them all
width_behind : (xs ys : List ℕ) → HasNoLf xs → length xs ≤ line_width (xs ++ ys)
width_behind xs ys h =
    rw (rest_at (xs ++ ys) (length xs + position_or_len is_lf ys) (place_on xs ys h))
    (omega (arith, length-drop (length xs + position_or_len is_lf ys + 1) (xs ++ ys), length-append xs ys))

-- a line that is longer than there is room for
pub too_long_held : (room : ℕ) (held long items : List ℕ) (l0 l1 : Option (List ℕ)) → SameBytes held l0 long l1 →
    HasNoLf long → room < length long
    → GathersWhereTold room long (with_left held l0) (with_left items l1) (Err TooLong)
too_long_held room held long items None l1 same none past = rw same refl
too_long_held room held long items (Some x) None same none past = absurd same
too_long_held room held long items (Some x) (Some y) same none past =
    rw (← same) (omega (arith, past, width_behind long y none))

pub too_long_lf : (room k : ℕ) (held long more items : List ℕ) (l0 l1 l2 : Option (List ℕ)) → SameBytes held l0 long l1
    → SameBytes [] l1 more l2 → HasNoLf long
    → IsLfPlace more (Some k) → room < length long + k + 1
    → GathersWhereTold room long (with_left held l0) (with_left items l2) (Err TooLong)
too_long_lf room k held long more items None l1 l2 same next none lf past = let e = rw same at next in rw e refl
too_long_lf room k held long more items (Some x) None l2 same next none lf past = absurd same
too_long_lf room k held long more items (Some x) (Some y) None same next none lf past = absurd next
too_long_lf room k held long more items (Some x) (Some y) (Some z) same next none lf past =
    let whole : long ++ (more ++ z) ≡ held ++ x = ap (λ (r : List ℕ). long ++ r) next ∙ same in
    let found : position_or_len is_lf (more ++ z) ≡ k = place_in more z (omega (arith, lf.0, lf.1)) ∙ lf.1 in
    let place : position_or_len is_lf (long ++ (more ++ z)) ≡ length long + k = place_on long (more ++ z) none
    ∙ omega (arith, found) in
    let e =
    ends_at_lf (long ++ (more ++ z)) (length long + k)
    (omega (arith, lf.0, length-append long (more ++ z), length-append more z)) place in
    rw (← whole) (omega (arith, e.is_width, past))
