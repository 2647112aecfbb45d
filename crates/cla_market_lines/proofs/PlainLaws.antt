-- Plain words and lines.
use Rattle.std.proofs.Common.{◌≡◌, ℕ, ℤ, pos, suc, zero, neg_ℤ, subst, ◌^◌, drop-cons, ◌+◌, ◌-◌, ◌<◌, ◌==◌, List, []}
use Rattle.std.proofs.Common.{◌∷◌, ◌++◌, length, take, drop, get_or, true, false, Bool, Ok, sym, ◌∙◌, refl, ap, arith}
use Rattle.std.proofs.Common.{rules, length-append, append_assoc}
use Rattle.std.proofs.lemmas.List.{take_at, take-append-drop, length-take-le}
use Rattle.std.proofs.lemmas.Bool.{and_parts, lt-ltb}
use Rattle.std.proofs.lemmas.Bool.Decides.{nat_tests}
use Rattle.std.specs.List.{list_all, position_or_len}
use Rattle.std.specs.Char.{is_ascii_digit, digit_value}
use Rattle.std.specs.Str.Parse.{digits_value, without_leading_sign, signed_digits_value}
use Rattle.cla_spec.specs.Lines.{is_lf, without_cr, first_line}
use Rattle.cla_text.specs.Integers.{are_digits, fits_128, int_of}
use Rattle.cla_text.proofs.IntWords.{int_ok, word_is, fits_from}
use Rattle.cla_text.specs.Words.{is_blank, pieces_of}
use Rattle.cla_market.proofs.PlainWords.{NonePasses, none_on, none_of, place_plain, first_word, last_word, is_cr}
use Rattle.cla_market.proofs.PlainWords.{keeps_all}
use Rattle.cla_market_lines.specs.Plain.{is_plain, WordThen, DigitsThen, IsEndAt, IsPlain}

no_blank : (b : ℕ) → is_plain b ≡ true → is_blank b ≡ false
no_blank b h = grind (arith, nat_tests)

no_lf : (b : ℕ) → is_plain b ≡ true → is_lf b ≡ false
no_lf b h = grind (arith, nat_tests)

no_cr : (b : ℕ) → is_plain b ≡ true → is_cr b ≡ false
no_cr b h = grind (arith, nat_tests)

-- a line with no LF and no CR, and then an LF
line_is : (bytes line rest : List ℕ) → bytes ≡ line ++ 10 ∷ rest → NonePasses is_lf line → NonePasses is_cr line
    → IsEndAt bytes (length line) × (first_line bytes ≡ line)
unfolding first_line
line_is bytes line rest split lf cr =
    let place : position_or_len is_lf bytes ≡ length line = rw split (place_plain is_lf line rest 10 lf refl) in
    let lt : length line < length bytes = rw split (omega (arith, length-append line (10 ∷ rest))) in
    let front : take (length line) bytes ≡ line = rw split (take_at line (10 ∷ rest) (length line) refl) in
    ((lt, place), ap without_cr (ap (λ (k : ℕ). take k bytes) place ∙ front) ∙ keeps_all line cr)

-- how far a line's LF stands
far : (bytes line rest : List ℕ) → bytes ≡ line ++ 10 ∷ rest → length bytes - length rest - 1 ≡ length line
far bytes line rest split = rw split (omega (arith, length-append line (10 ∷ rest)))

pub one_is : (bytes rest : List ℕ) (v : ℤ) → WordThen 10 bytes v rest
    → IsPlain bytes (Ok v ∷ []) (length bytes - length rest - 1)
one_is bytes rest v w =
    let l = line_is bytes w.word rest w.split (none_of is_lf is_plain no_lf w.word w.plain)
    (none_of is_cr is_plain no_cr w.word w.plain) in
    let words = last_word is_blank w.word (none_of is_blank is_plain no_blank w.word w.plain) w.some in
    rw (far bytes w.word rest w.split) record { end = l.0; values_are = rw (l.1, words, w.is) refl }

pub three_is : (bytes more last rest : List ℕ) (x y v : ℤ) → WordThen 32 bytes x more → WordThen 32 more y last
    → WordThen 10 last v rest → IsPlain bytes (Ok x ∷ Ok y ∷ Ok v ∷ []) (length bytes - length rest - 1)
three_is bytes more last rest x y v a b c =
    let line = a.word ++ 32 ∷ (b.word ++ 32 ∷ c.word) in
    let split : bytes ≡ line ++ 10 ∷ rest = a.split
    ∙ rw (b.split, c.split)
    (sym (append_assoc a.word (32 ∷ (b.word ++ 32 ∷ c.word)) (10 ∷ rest)
    ∙ ap (λ (r : List ℕ). a.word ++ 32 ∷ r) (append_assoc b.word (32 ∷ c.word) (10 ∷ rest)))) in
    let none_in : (p : ℕ → Bool) → ((u : ℕ) → is_plain u ≡ true → p u ≡ false) → p 32 ≡ false → NonePasses p line
    = λ p apart blank. none_on p a.word (32 ∷ (b.word ++ 32 ∷ c.word)) (none_of p is_plain apart a.word a.plain) (
      blank,
      none_on p b.word (32 ∷ c.word) (none_of p is_plain apart b.word b.plain)
          (blank, none_of p is_plain apart c.word c.plain),
    ) in
    let l = line_is bytes line rest split (none_in is_lf no_lf refl) (none_in is_cr no_cr refl) in
    let third = last_word is_blank c.word (none_of is_blank is_plain no_blank c.word c.plain) c.some in
    let second = first_word is_blank b.word c.word 32 (none_of is_blank is_plain no_blank b.word b.plain) refl
    b.some in
    let first = first_word is_blank a.word (b.word ++ 32 ∷ c.word) 32
    (none_of is_blank is_plain no_blank a.word a.plain) refl a.some in
    rw (far bytes line rest split) record
    { end = l.0; values_are = rw (l.1, first, second, third, a.is, b.is, c.is) refl }

-- digits are a plain word
digit_plain : (b : ℕ) → is_ascii_digit b ≡ true → is_plain b ≡ true
digit_plain b h = rw h refl

plain_of : (ds : List ℕ) → list_all is_ascii_digit ds ≡ true → list_all is_plain ds ≡ true
plain_of [] h = refl
plain_of (b ∷ bs) h = let parts = and_parts (is_ascii_digit b)
    (list_all is_ascii_digit bs) h in rw (parts.0, plain_of bs parts.1) refl

not_sign : (b k : ℕ) → is_ascii_digit b ≡ true → k < 48 → (b == k) ≡ false
not_sign b k h lt = grind (arith, nat_tests)

no_sign : (ds : List ℕ) → 0 < length ds → list_all is_ascii_digit ds ≡ true → (without_leading_sign ds ≡ ds)
    × (signed_digits_value 10 ds ≡ pos (digits_value 10 ds))
no_sign [] some all = absurd (omega (arith, some))
no_sign (b ∷ bs) some all =
    let first = (and_parts (is_ascii_digit b) (list_all is_ascii_digit bs) all).0 in
    let minus = not_sign b 45 first (omega arith) in
    let plus = not_sign b 43 first (omega arith) in
    (rw (minus, plus) refl, rw (minus, plus) refl)

neg_fits : (n : ℕ) → n < 2 ^ 64 → fits_128 (neg_ℤ (pos n)) ≡ true
neg_fits zero lt = lt-ltb 0 (2 ^ 127) (omega arith)
neg_fits (suc n) lt = lt-ltb n (2 ^ 127) (omega (arith, lt))

are : (ds : List ℕ) → 0 < length ds → list_all is_ascii_digit ds ≡ true → are_digits ds ≡ true
are ds some all = rw (lt-ltb 0 (length ds) some, all) refl

digits_int : (ds : List ℕ) (v : ℕ) → 0 < length ds → list_all is_ascii_digit ds ≡ true → v ≡ digits_value 10 ds
    → v < 2 ^ 64 → int_of ds ≡ Ok (pos v)
digits_int ds v some all value small =
    let s = no_sign ds some all in
    let fits : fits_128 (pos (digits_value 10 ds)) ≡ true = lt-ltb _ _ (omega (arith, value, small)) in
    int_ok ds (pos v) (word_is ds (subst (λ (w : List ℕ). are_digits w ≡ true) (sym s.0) (are ds some all)))
    (fits_from _ (subst (λ (z : ℤ). fits_128 z ≡ true) (sym s.1) fits)) (ap pos value ∙ sym s.1)

minus_int : (ds : List ℕ) (v : ℕ) → 0 < length ds → list_all is_ascii_digit ds ≡ true → v ≡ digits_value 10 ds
    → v < 2 ^ 64 → int_of (45 ∷ ds) ≡ Ok (neg_ℤ (pos v))
minus_int ds v some all value small =
    int_ok (45 ∷ ds) (neg_ℤ (pos v)) (word_is (45 ∷ ds) (are ds some all))
    (fits_from _ (neg_fits (digits_value 10 ds) (omega (arith, value, small))))
    (ap (λ (n : ℕ). neg_ℤ (pos n)) value)

pub plain_then : (stop v : ℕ) (bytes rest : List ℕ) → DigitsThen stop bytes v rest → WordThen stop bytes (pos v) rest
plain_then stop v bytes rest d
    = record {
      word = d.word;
      some = d.some;
      plain = plain_of d.word d.digits;
      is = digits_int d.word v d.some
          d.digits d.is d.small;
      split = d.split;
    }

-- a minus before digits
pub minus_then : (stop v : ℕ) (bytes more rest : List ℕ) → bytes ≡ 45 ∷ more → DigitsThen stop more v rest
    → WordThen stop bytes (neg_ℤ (pos v)) rest
minus_then stop v bytes more rest is d
    = record {
      word = 45 ∷ d.word;
      some = omega arith;
      plain = plain_of d.word d.digits;
      is = minus_int d.word v
          d.some d.digits d.is d.small;
      split = is ∙ ap (λ (r : List ℕ). 45 ∷ r) d.split;
    }

split_here : (xs : List ℕ) (i x : ℕ) → i < length xs → get_or xs i 0 ≡ x → xs ≡ take i xs ++ x ∷ drop (i + 1) xs
split_here xs i x lt is =
    let next : suc i ≡ i + 1 = omega arith in
    sym (take-append-drop i xs) ∙ ap (λ (r : List ℕ). take i xs ++ r) (drop-cons xs i 0 lt ∙ rw (is, next) refl)

pub found : (stop v i : ℕ) (bytes rest : List ℕ) → 0 < i → i < length bytes → get_or bytes i 0 ≡ stop
    → list_all is_ascii_digit (take i bytes) ≡ true → v ≡ digits_value 10 (take i bytes) → v < 2 ^ 64
    → rest ≡ drop (i + 1) bytes → DigitsThen stop bytes v rest
found stop v i bytes rest some lt is all value small behind =
    record {
      word = take i bytes;
      some = omega (arith, some, length-take-le i bytes (omega arith));
      digits = all;
      is
          = value;
      small = small;
      split = rw behind (split_here bytes i stop lt is);
    }

pub digit_is : (c : ℕ) → is_ascii_digit c ≡ true → digit_value c ≡ c - 48
digit_is c h = grind (arith, nat_tests)

pub minus_front : (bytes : List ℕ) → 0 < length bytes → get_or bytes 0 0 ≡ 45 → bytes ≡ 45 ∷ drop 1 bytes
minus_front bytes lt is = split_here bytes 0 45 lt is
