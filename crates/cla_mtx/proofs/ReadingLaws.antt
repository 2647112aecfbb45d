-- How reading goes on, line by line.
use Rattle.std.proofs.Common.{◌≡◌, ℕ, ◌+◌, ◌<◌, ◌≤◌, List, [], length, true, false, Option, Some, None, Result, Ok}
use Rattle.std.proofs.Common.{Err, refl, sym, ap, ◌∙◌, arith}
use Rattle.std.proofs.lemmas.Bool.{lt-ltb, le-ltb}
use Rattle.cla_spec.specs.Lines.{first_line, after_line}
use Rattle.cla_spec.specs.Matrix.{Matrix}
use Rattle.cla_text.specs.Words.{words_of}
use Rattle.cla_io.specs.Lines.{Progress, TakesLineWhereTold, CountsLine, line_number_of, line_width}
use Rattle.cla_io.specs.declared.stop.InFault.TheVariants as inputs
use Rattle.cla_market.specs.declared.fault.MtxFault.{MtxFault}
use Rattle.cla_market.specs.declared.fault.MtxFault.TheVariants as faults
use Rattle.cla_market.specs.Results.{◌>>=◌}
use Rattle.cla_market.specs.Texts.{Reading, with_line, at_end, placed_lines, read_from, matrix_in, fault_in}
use Rattle.cla_mtx.specs.declared.entries.Entries.{Entries}
use Rattle.cla_mtx.specs.declared.phase.Phase.{Phase}
use Rattle.cla_mtx.specs.declared.phase.Phase.TheVariants as phases
use Rattle.cla_mtx.specs.Reading.{ReadsTextWhereTold}
use Rattle.cla_mtx.specs.Phases.{HasRead, reading_of, TakesLine, EndsAs, LeftDecides}
use Rattle.cla_mtx.proofs.PlacedLaws.{placed_cons, placed_nil}

-- the next line within the limit
in_limit : (bits limit at n : ℕ) (reading : Reading) (bytes : List ℕ) → 0 < length bytes
    → at + line_width bytes ≤ limit
    → read_from bits limit n reading (placed_lines at bytes)
    ≡ (with_line bits n reading (words_of (first_line bytes)) >>= λ next. read_from bits limit (n + 1) next
    (placed_lines (at + line_width bytes) (after_line bytes)))
unfolding read_from
in_limit bits limit at n reading bytes some fits =
    rw (placed_cons at bytes some, le-ltb limit (at + line_width bytes) fits) refl

past_limit : (bits limit at n : ℕ) (reading : Reading) (bytes : List ℕ) → 0 < length bytes
    → limit < at + line_width bytes → read_from bits limit n reading (placed_lines at bytes) ≡ Err faults.TooLong
unfolding read_from
past_limit bits limit at n reading bytes some past =
    rw (placed_cons at bytes some, lt-ltb limit (at + line_width bytes) past) refl

ended : (bits limit at n : ℕ) (reading : Reading)
    → read_from bits limit n reading (placed_lines at []) ≡ at_end n reading
unfolding read_from
ended bits limit at n reading = rw (placed_nil at) refl

abbrev Line : ℕ → ℕ → Phase (Entries Matrix) → List ℕ → Result (Unit {0}) MtxFault → Phase (Entries Matrix) → Type 0
Line bits n phase line result next = (ts : _) → HasRead phase ts
    → TakesLine result next (with_line bits n (reading_of phase ts) (words_of line))

-- the beginning
pub begins : (bits limit at lines : ℕ) (whole : Option (List ℕ)) → at ≡ 0 → lines ≤ at
    → LeftDecides bits limit at (lines + 1) phases.Banner whole whole
begins bits limit at lines None start few = refl
begins bits limit at lines (Some text) start few =
    let none : lines ≡ 0 = omega (arith, start, few) in
    rw (start, none) (omega arith, ([], tt, refl))

module _ (bits limit n : ℕ) (p q : Progress) (same : q.limit ≡ limit) where
  -- a line that was taken
  pub goes_on : (phase next : Phase (Entries Matrix)) (b a w : Option (List ℕ))
      → LeftDecides bits limit p.at n phase b w → TakesLineWhereTold p q b a (Ok true)
      → Line bits n phase q.line (Ok tt) next → LeftDecides bits limit q.at (n + 1) next a w
  goes_on phase next None a w so t takes = rw t so
  goes_on phase next (Some b) None w so t takes = absurd t
  goes_on phase next (Some b) (Some a) None so t takes = so
  goes_on phase next (Some b) (Some a) (Some w) so t takes =
      let read = takes so.1.0 so.1.1 in
      let good : with_line bits n (reading_of phase so.1.0) (words_of (first_line b)) ≡ Ok (reading_of next read.0)
      = rw (← t.1) read.1 in
      let here = in_limit bits limit p.at n (reading_of phase so.1.0) b t.0 (omega (arith, t.3, t.4, same)) in
      (omega (arith, t.4, same), (read.0, read.2, rw (t.2, t.3) (sym (here ∙ rw good refl) ∙ so.1.2)))

  -- a line that is refused
  pub stops : (phase next : Phase (Entries Matrix)) (fault : MtxFault) (b a w : Option (List ℕ))
      → LeftDecides bits limit p.at n phase b w → TakesLineWhereTold p q b a (Ok true)
      → Line bits n phase q.line (Err fault) next → ReadsTextWhereTold bits limit w a (Err fault)
  stops phase next fault None a w so t takes = rw so t
  stops phase next fault (Some b) None w so t takes = absurd t
  stops phase next fault (Some b) (Some a) None so t takes = absurd so
  stops phase next fault (Some b) (Some a) (Some w) so t takes = λ of_text. (
      let bad : with_line bits n (reading_of phase so.1.0) (words_of (first_line b)) ≡ Err fault = rw (← t.1)
      (takes so.1.0 so.1.1 of_text) in
      let here = in_limit bits limit p.at n (reading_of phase so.1.0) b t.0 (omega (arith, t.3, t.4, same)) in
      let whole : matrix_in bits limit w ≡ Err fault = sym so.1.2 ∙ here ∙ rw bad refl in
      ap fault_in whole)

  -- the end
  pub ends : (phase : Phase (Entries Matrix)) (result : Result Matrix MtxFault) (b a w : Option (List ℕ))
      → LeftDecides bits limit p.at n phase b w → TakesLineWhereTold p q b a (Ok false)
      → ((ts : _) → HasRead phase ts → EndsAs result (at_end n (reading_of phase ts)))
      → ReadsTextWhereTold bits limit w a result
  ends phase result None a w so t is = rw so t
  ends phase result (Some b) None w so t is = absurd t
  ends phase result (Some b) (Some a) None so t is = absurd so
  ends phase (Ok m) (Some b) (Some a) (Some w) so t is =
      (sym so.1.2 ∙ rw t.0 (ended bits limit p.at n (reading_of phase so.1.0)) ∙ is so.1.0 so.1.1, t.1)
  ends phase (Err fault) (Some b) (Some a) (Some w) so t is = λ of_text. ap fault_in
      (sym so.1.2 ∙ rw t.0 (ended bits limit p.at n (reading_of phase so.1.0)) ∙ is so.1.0 so.1.1 of_text)

  -- a line past the limit
  pub too_long : (phase : Phase (Entries Matrix)) (b a w : Option (List ℕ))
      → LeftDecides bits limit p.at n phase b w → TakesLineWhereTold p q b a (Err inputs.TooLong)
      → ReadsTextWhereTold bits limit w a (Err faults.TooLong)
  too_long phase None a w so t = rw so t
  too_long phase (Some b) None w so t = absurd t
  too_long phase (Some b) (Some a) None so t = absurd so
  too_long phase (Some b) (Some a) (Some w) so t = λ of_text. (
      let past : limit < p.at + line_width b = omega (arith, t, same) in
      let some : 0 < length b = omega (arith, past, so.0) in
      ap fault_in (sym so.1.2 ∙ past_limit bits limit p.at n (reading_of phase so.1.0) b some past))

-- the number of the line that was taken last
pub counted : (p q : Progress) (k : ℕ) → k ≡ line_number_of q → CountsLine p q (Ok true) → k ≡ p.lines + 1
counted p q k is c = is ∙ rw (c.0, c.1) (omega arith)

pub counted_at_end : (p q : Progress) (k : ℕ) → k ≡ line_number_of q → CountsLine p q (Ok false) → k ≡ p.lines + 1
counted_at_end p q k is c = is ∙ rw (c.0, c.1) refl

pub line_at : (bits k n : ℕ) (phase next : Phase (Entries Matrix)) (line line' : List ℕ)
    (r : Result (Unit {0}) MtxFault) → k ≡ n → line ≡ line' → Line bits k phase line r next
    → Line bits n phase line' r next
line_at bits k n phase next line line' r e f h = rw (← e, ← f) h

pub end_at : (bits k n : ℕ) (phase : Phase (Entries Matrix)) (r : Result Matrix MtxFault) → k ≡ n
    → ((ts : _) → HasRead phase ts → EndsAs r (at_end k (reading_of phase ts)))
    → (ts : _) → HasRead phase ts → EndsAs r (at_end n (reading_of phase ts))
end_at bits k n phase r e h = rw (← e) h

pub later : (bits limit n : ℕ) (q : Progress) (phase : Phase (Entries Matrix)) (b w : Option (List ℕ)) → q.lines ≡ n
    → LeftDecides bits limit q.at (n + 1) phase b w → LeftDecides bits limit q.at (q.lines + 1) phase b w
later bits limit n q phase b w e h = rw e h
