-- The statements of a text are at most twice its bytes.
use Rattle.std.proofs.Common.{◌≡◌, ℕ, zero, suc, ◌+◌, ◌-◌, ◌*◌, ◌<◌, ◌≤◌, List, [], ◌∷◌, ◌++◌, length, take, refl, ap}
use Rattle.std.proofs.Common.{inl}
use Rattle.std.proofs.Common.{inr, arith}
use Rattle.std.proofs.Common.{Result, Ok, Err, length-drop, length-take}
use Rattle.std.proofs.lemmas.Bool.{cases_Bool}
use Rattle.std.specs.Prelude.{nat_lt, slice_index, ◌==◌, ◌&&◌}
use Rattle.std.specs.List.{position_or_len, before_first}
use Rattle.cla_grammar.specs.declared.place.Place.{Place}
use Rattle.cla_grammar.specs.Tokens.{Placed}
use Rattle.cla_grammar.specs.Tree.{Statement}
use Rattle.cla_grammar.specs.Faults.{Item, Tok, BadByte, BadText, End, Fault, with_ended, statements_from, AllRead}
use Rattle.cla_grammar.specs.Reader.{Reading, read_script}
use Rattle.cla_grammar.specs.Laws.{Answers}
use Rattle.cla_grammar.proofs.FirstRefused.{script_read}
use Rattle.cla_spec.specs.Lines.{is_lf, without_cr, lines_of, first_line, after_line}
use Rattle.cla_spec.proofs.LineLemmas.{lines_of-cons, lines_of-nil}
use Rattle.cla_tokens.specs.Pieces as piece
use Rattle.cla_tokens.specs.Pieces.{Piece, LineEnd, Blank, Semicolon, Found, piece_at}
use Rattle.cla_tokens.specs.Items.{items_of, after_first, items_from, line_items, items_of_lines, items_of_text}
use Rattle.cla_tokens.specs.Items.{place_at}
use Rattle.cla_tokens.specs.Scripts.{script_in, statements_read}

abbrev ends_in : List Item → ℕ
ends_in [] = 0
ends_in (Tok k ∷ items) = ends_in items
ends_in (BadByte p ∷ items) = ends_in items
ends_in (BadText p ∷ items) = ends_in items
ends_in (End p ∷ items) = ends_in items + 1

one_ended : (done : List Placed) (more : List (List Placed)) → length (with_ended done more) ≤ length more + 1
one_ended [] more = omega arith
one_ended (k ∷ ks) more = omega arith

few_ended : (done : List Placed) (items : List Item) → length (statements_from done items) ≤ ends_in items
few_ended done [] = omega arith
few_ended done (Tok k ∷ items) = few_ended (done ++ k ∷ []) items
few_ended done (BadByte p ∷ items) = few_ended [] items
few_ended done (BadText p ∷ items) = few_ended [] items
few_ended done (End p ∷ items) = omega (arith, one_ended done (statements_from [] items), few_ended [] items)

read_len : (ts : List (List Placed)) (xs : List Statement) → AllRead ts xs → length xs ≡ length ts
read_len [] [] h = refl
read_len [] (x ∷ xs) h = absurd h
read_len (t ∷ ts) [] h = absurd h
read_len (t ∷ ts) (x ∷ xs) h = omega (arith, read_len ts xs h.1)

ends_append : (a b : List Item) → ends_in (a ++ b) ≡ ends_in a + ends_in b
ends_append [] b = omega arith
ends_append (Tok k ∷ a) b = ends_append a b
ends_append (BadByte p ∷ a) b = ends_append a b
ends_append (BadText p ∷ a) b = ends_append a b
ends_append (End p ∷ a) b = omega (arith, ends_append a b)

one_more_end : (p : Piece) (q : Place) (more : List Item) → ends_in (items_of p q more) ≤ ends_in more + 1
one_more_end LineEnd q more = omega arith
one_more_end Blank q more = omega arith
one_more_end Semicolon q more = omega arith
one_more_end (Found k n) q more = omega arith
one_more_end piece.BadByte q more = omega arith
one_more_end piece.BadText q more = omega arith

ends_from : (line skip col : ℕ) (bs : List ℕ) → ends_in (items_from line skip col bs) ≤ length bs
ends_from line skip col [] = omega arith
ends_from line (suc skip) col (b ∷ bs) = omega (arith, ends_from line skip (col + 1) bs)
ends_from line zero col (b ∷ bs) =
    omega (
      arith,
      one_more_end (piece_at (b ∷ bs)) (place_at line col)
          (items_from line (after_first (piece_at (b ∷ bs))) (col + 1) bs),
      ends_from line (after_first (piece_at (b ∷ bs))) (col + 1) bs,
    )

abbrev total : List (List ℕ) → ℕ
total [] = 0
total (line ∷ lines) = length line + 1 + total lines

ends_lines : (n : ℕ) (lines : List (List ℕ)) → ends_in (items_of_lines n lines) ≤ total lines
ends_lines n [] = omega arith
ends_lines n (line ∷ lines) =
    omega (
      arith,
      ends_append (line_items n line) (items_of_lines (n + 1) lines),
      ends_append (items_from n 0 1 line)
          (End (place_at n (length line + 1)) ∷ []),
      ends_from n 0 1 line,
      ends_lines (n + 1) lines,
    )

cr_len : (line : List ℕ) → length (without_cr line) ≤ length line
cr_len line = elim (cases_Bool (nat_lt 0 (length line) && (slice_index line (length line - 1) == 13))) [
  | inl is ↦ rw is
      (let a : length (take (length line - 1) line) ≤ length line =
      omega (arith, length-take (length line - 1) line) in a)
  | inr other ↦ rw other (let a : length line ≤ length line = omega arith in a)
]

parts_len : (s : List ℕ) → length (first_line s) + length (after_line s) ≤ length s
unfolding first_line after_line
parts_len s =
    omega (
      arith,
      cr_len (before_first is_lf s),
      length-take (position_or_len is_lf s) s,
      length-drop (position_or_len is_lf s + 1) s,
    )

after_len : (s : List ℕ) → 0 < length s → length (after_line s) < length s
unfolding after_line
after_len s h = omega (arith, length-drop (position_or_len is_lf s + 1) s)

few_lines : (fuel : ℕ) (s : List ℕ) → length s ≤ fuel → total (lines_of s) ≤ 2 * length s
few_lines fuel [] h = let none = ap total lines_of-nil in omega (arith, none)
few_lines zero (b ∷ bs) h = absurd (omega arith)
few_lines (suc fuel) (b ∷ bs) h =
    let some : 0 < length (b ∷ bs) = omega arith in
    let cut = ap total (lines_of-cons (b ∷ bs) some) in
    let shorter = after_len (b ∷ bs) some in
    omega (arith, cut, shorter, parts_len (b ∷ bs), few_lines fuel (after_line (b ∷ bs)) (omega arith))

few_read : (bits : ℕ) (items : List Item) (res : Result Reading Fault) (xs : List Statement) → Answers bits items res
    → statements_read res ≡ Ok xs → length xs ≤ ends_in items
few_read bits items (Ok r) xs a e =
    let same : r.statements ≡ xs = cc in
    let len = ap (λ (l : List Statement). length l) same in
    omega (arith, len, read_len (statements_from [] items) r.statements a.reads, few_ended [] items)
few_read bits items (Err f) xs a e = let no : ⊥ = cc in absurd no

pub script_few : (bits : ℕ) (text : List ℕ) (xs : List Statement) → script_in bits text ≡ Ok xs
    → length xs ≤ 2 * length text
script_few bits text xs e =
    omega (
      arith,
      few_read bits (items_of_text text) (read_script bits (items_of_text text)) xs
          (script_read bits (items_of_text text)) e,
      ends_lines 1 (lines_of text),
      few_lines (length text) text (omega arith),
    )
