-- A run that was read is one more run of its tuple.
use Rattle.std.proofs.Common.{◌≡◌, ℕ, ◌+◌, ◌<◌, ◌≤◌, Bool, true, false, cond, List, [], ◌∷◌, ◌++◌, length, get_or}
use Rattle.std.proofs.Common.{refl, sym, ap, subst, ◌∙◌, append_assoc, append-nil, arith, inl, inr}
use Rattle.std.specs.Prelude.{nat_lt, nat_le, ◌&&◌, ◌||◌, ◌==◌, not}
use Rattle.std.specs.List.{range_with_len}
use Rattle.std.proofs.lemmas.Bool.{cases_Bool, cases_lt, lt-ltb, le-ltb, ltb-true, eq-eqb, ne_eqb, and_left}
use Rattle.std.proofs.lemmas.Bool.{and_right, not-true, not_from_false, false≢true, false_from_ne_true}
use Rattle.std.proofs.lemmas.List.{length-append}
use Rattle.cla_packed.specs.declared.fault.FieldName.TheVariants.{Gap, Length, Runs}
use Rattle.cla_packed.specs.declared.fault.PackFault.{PackFault}
use Rattle.cla_packed.specs.declared.fault.PackFault.TheVariants.{Field}
use Rattle.cla_packed.specs.Fields.{Place, Read, number_at, field_at, then_at, list_at}
use Rattle.cla_packed.specs.Lists.{named, floor_of}
use Rattle.cla_packed.specs.Runs.{Run, end_of, rows_of_runs, fits_gap, fits_length, run_at, fits_runs, runs_at}
use Rattle.cla_packed_laws.proofs.Columns.{all_range, range_all}
use Rattle.cla_runs.specs.declared.run_list.KeyedRun.{KeyedRun}
use Rattle.cla_pack_reader.specs.declared.walk.Walk.{Walk}
use Rattle.cla_pack_reader.specs.ListedRows.{AreRunsOf}
use Rattle.cla_pack_reader.specs.Runs.{AreNamedFrom, IsRunState, IsNextRun, are_apart}
use Rattle.cla_pack_reader.specs.Places.{Places, Took, Refused}
use Rattle.cla_pack_reader.specs.Ranges.{within}
use Rattle.cla_pack_reader.specs.Walks.{IsState, past}
use Rattle.cla_pack_reader.proofs.KeptRuns.{run_kept}
use Rattle.cla_pack_reader.proofs.Steps.{Follows, took_field, refused_field, unfit_field, took_view, refused_view}
use Rattle.cla_pack_reader.proofs.Steps.{took_then, refused_first, refused_second}
use Rattle.cla_pack_reader.proofs.WalkLaws.{in_range, named_from, state_pushed}

-- ---- rows that no earlier tuple names

module _ (first n : ℕ) (earlier : List (List ℕ)) (marks : List Bool) (named_from : AreNamedFrom first earlier marks)
    (within : first + n ≤ length marks) where
  pub apart_if_none : ((i : ℕ) → first ≤ i → i < first + n → get_or marks i false ≡ false)
      → are_apart earlier (range_with_len first n) ≡ true
  apart_if_none none = range_all (λ i. not (named earlier i)) first n (λ i ge lt.
      not_from_false (named earlier i) (sym (named_from i ge (omega (arith, lt, within))) ∙ none i ge lt))

  pub not_apart : (i : ℕ) → first ≤ i → i < first + n → get_or marks i false ≡ true
      → are_apart earlier (range_with_len first n) ≡ false
  not_apart i ge lt there = false_from_ne_true (are_apart earlier (range_with_len first n)) (λ all.
      let new = not-true (named earlier i) (all_range (λ i. not (named earlier i)) first n i all ge lt) in
      false≢true (sym new ∙ sym (named_from i ge (omega (arith, lt, within))) ∙ there))

-- ---- one run more

rows_push : (a : ℕ) (runs : List Run) (run : Run)
    → rows_of_runs a (runs ++ run ∷ []) ≡ rows_of_runs a runs ++ range_with_len (end_of a runs + run.0) run.1
rows_push a [] run = append-nil (range_with_len (a + run.0) run.1)
rows_push a (r ∷ runs) run =
    let b = a + r.0 + r.1 in
    let front = range_with_len (a + r.0) r.1 in
    ap (λ (l : List ℕ). front ++ l) (rows_push b runs run)
    ∙ sym (append_assoc front (rows_of_runs b runs) (range_with_len (end_of b runs + run.0) run.1))

end_push : (a : ℕ) (runs : List Run) (run : Run) → end_of a (runs ++ run ∷ []) ≡ end_of a runs + run.0 + run.1
end_push a [] run = refl
end_push a (r ∷ runs) run = end_push (a + r.0 + r.1) runs run

pub no_runs : (earlier : List (List ℕ)) (marks : List Bool) (walk : Walk) (floor : ℕ)
    → IsState earlier [] marks walk floor → IsRunState earlier [] marks walk floor
no_runs earlier marks walk floor s = record { state = s; end_is = refl; some_is = refl }

module _ (t : ℕ) (earlier : List (List ℕ)) (so_far : List Run) (marks : List Bool) (walk : Walk) (floor : ℕ)
    (s : IsRunState earlier so_far marks walk floor) (read : Run) (run : KeyedRun)
    (next : IsNextRun t earlier so_far read run) (order : run.begin < run.end) where
  behind : walk.next ≤ run.begin
  behind = omega (arith, s.state.next, s.end_is, next.begin)

  pub run_pushed : (marks' : List Bool) → length marks' ≡ length marks
      → ((i : ℕ) → i < length marks → get_or marks' i false ≡ (get_or marks i false || in_range run.begin run.end i))
      → IsRunState earlier (so_far ++ read ∷ []) marks' (past walk run.begin run.end) floor
  run_pushed marks' size put =
      let first = end_of 0 so_far + read.0 in
      let rows = rows_of_runs 0 so_far in
      let front = range_with_len first read.1 in
      let some : 0 < read.1 = omega (arith, order, next.end) in
      let same : rows_of_runs 0 (so_far ++ read ∷ []) ≡ rows ++ range_with_len run.begin read.1 =
      rows_push 0 so_far read ∙ ap (λ (i : ℕ). rows ++ range_with_len i read.1) (sym next.begin) in
      let more : length (so_far ++ read ∷ []) ≡ length so_far + 1 = length-append so_far (read ∷ []) in
      let pushed = state_pushed earlier rows marks walk floor s.state run.begin read.1 marks' some behind size
      (λ i lt. put i lt ∙ ap (λ (e : ℕ). get_or marks i false || in_range run.begin e i) next.end) in
      let state = subst (λ (e : ℕ). IsState earlier (rows ++ range_with_len run.begin read.1) marks'
      (past walk run.begin e) floor) (sym next.end) pushed in
      let state' =
      subst (λ (l : List ℕ). IsState earlier l marks' (past walk run.begin run.end) floor) (sym same) state in
      let started : nat_lt 0 (length (rows_of_runs 0 (so_far ++ read ∷ []))) ≡ true = sym state'.started in
      record {
        state = state';
        end_is = sym state'.next ∙ next.end ∙ ap (λ (m : ℕ). m + read.1) next.begin ∙ sym (end_push 0 so_far read);
        some_is = started ∙ sym (lt-ltb 0 (length (so_far ++ read ∷ [])) (omega (arith, more)));
      }

  pub run_is_kept : (rows : ℕ) (kept : List KeyedRun) → t ≡ length earlier → run.end ≤ rows
      → AreRunsOf rows (earlier ++ rows_of_runs 0 so_far ∷ []) kept
      → AreRunsOf rows (earlier ++ rows_of_runs 0 (so_far ++ read ∷ []) ∷ []) (kept ++ run ∷ [])
  run_is_kept rows kept is within r =
      let list = rows_of_runs 0 so_far in
      let some : 0 < read.1 = omega (arith, order, next.end) in
      let same : rows_of_runs 0 (so_far ++ read ∷ []) ≡ list ++ range_with_len run.begin read.1 =
      rows_push 0 so_far read ∙ ap (λ (i : ℕ). list ++ range_with_len i read.1) (sym next.begin) in
      let gap = λ (h : 0 < length list).
      (let there : 0 < length so_far =
      ltb-true 0 (length so_far) (sym s.some_is ∙ lt-ltb 0 (length list) h) in
      let apart : 0 < read.0 = next.gap there in
      let far : walk.next < run.begin = omega (arith, apart, s.state.next, s.end_is, next.begin) in
      far) in
      let new = not-true (named earlier run.begin) (all_range (λ i. not (named earlier i)) run.begin read.1 run.begin
      next.apart (omega arith) (omega (arith, some))) in
      subst (λ (l : List ℕ). AreRunsOf rows (earlier ++ l ∷ []) (kept ++ run ∷ [])) (sym same)
      (run_kept rows earlier kept list walk.next s.state.below run read.1
      (next.key ∙ is) next.end some within behind gap
      new r)

-- ---- a run's fields

pub named_behind : (earlier : List (List ℕ)) (so_far : List Run) (marks : List Bool) (walk : Walk) (floor : ℕ)
    → IsRunState earlier so_far marks walk floor → (first : ℕ) → walk.next ≤ first → AreNamedFrom first earlier marks
named_behind earlier so_far marks walk floor s first le i ge lt =
    named_from earlier (rows_of_runs 0 so_far) marks walk floor s.state i (omega (arith, le, ge)) lt

pub gap_apart : (so_far : List Run) (gap : ℕ) (started : Bool) (floor first : ℕ)
    → started ≡ nat_lt 0 (length so_far) → cond started (nat_lt 0 gap) (nat_le floor first) ≡ true
    → 0 < length so_far → 0 < gap
gap_apart so_far gap started floor first is fits some =
    ltb-true 0 gap (sym (ap (λ (b : Bool). cond b (nat_lt 0 gap) (nat_le floor first))
    (is ∙ lt-ltb 0 (length so_far) some)) ∙ fits)

module _ (rows : ℕ) (earlier : List (List ℕ)) (so_far : List Run) (gap first : ℕ)
    (first_is : first ≡ end_of 0 so_far + gap) where
  pub gap_over : rows ≤ first → fits_gap rows earlier so_far gap ≡ false
  gap_over le =
      let apart = nat_lt 0 gap || (length so_far == 0) in
      let below = nat_lt (end_of 0 so_far + gap) rows in
      and_left (apart && below) (nat_lt 0 (length so_far) || nat_le (floor_of earlier) (end_of 0 so_far + gap))
      (and_right apart below (le-ltb (end_of 0 so_far + gap) rows (omega (arith, le, first_is))))

  gap_behind : first < rows → 0 < length so_far → fits_gap rows earlier so_far gap ≡ nat_lt 0 gap
  gap_behind lt some =
      let below = lt-ltb (end_of 0 so_far + gap) rows (omega (arith, lt, first_is)) in
      let later = lt-ltb 0 (length so_far) some in
      let full = ne_eqb (length so_far) 0 (λ e. omega (arith, e, some)) in
      elim (cases_Bool (nat_lt 0 gap)) [
        | inl apart ↦ rw (apart, below, later) refl
        | inr joined ↦ rw (joined, full) refl
      ]

  gap_before : first < rows → length so_far ≡ 0
      → fits_gap rows earlier so_far gap ≡ nat_le (floor_of earlier) (end_of 0 so_far + gap)
  gap_before lt none =
      let below = lt-ltb (end_of 0 so_far + gap) rows (omega (arith, lt, first_is)) in
      let empty = eq-eqb (length so_far) 0 none in
      let fresh = le-ltb 0 (length so_far) (omega (arith, none)) in
      elim (cases_Bool (nat_lt 0 gap)) [
        | inl apart ↦ rw (apart, below, fresh) refl
        | inr joined ↦ rw (joined, empty, below, fresh) refl
      ]

  pub gap_is : (started : Bool) (floor : ℕ) → first < rows → started ≡ nat_lt 0 (length so_far)
      → floor ≡ floor_of earlier → fits_gap rows earlier so_far gap ≡ cond started (nat_lt 0 gap) (nat_le floor first)
  gap_is started floor lt started_is floor_is = elim (cases_lt 0 (length so_far)) [
    | inl some ↦ gap_behind lt some ∙ sym (ap (λ (b : Bool). cond b (nat_lt 0 gap) (nat_le floor first))
        (started_is ∙ lt-ltb 0 (length so_far) some))
    | inr none ↦ gap_before lt (omega (arith, none))
        ∙ sym (ap (λ (b : Bool). cond b (nat_lt 0 gap) (nat_le floor first))
        (started_is ∙ le-ltb 0 (length so_far) none) ∙ ap (λ (m : ℕ). nat_le m first) floor_is
        ∙ ap (nat_le (floor_of earlier)) first_is)
  ]

module _ (rows group : ℕ) (earlier : List (List ℕ)) (so_far : List Run) (b m r : Places) where
  gap_at : Place → Read ℕ
  gap_at = field_at 4 (fits_gap rows earlier so_far) group Gap

  length_at : ℕ → Place → Read ℕ
  length_at gap = field_at 4 (fits_length rows earlier so_far gap) group Length

  pub gap_ends : (e : PackFault) → Refused b (number_at 4 group Gap) e → Refused b (run_at rows group earlier so_far) e
  unfolding gap_at length_at
  gap_ends e bad = refused_first gap_at length_at b b b e
      (refused_field 4 group Gap (fits_gap rows earlier so_far) b b e bad)

  module _ (gap : ℕ) (f : Follows b m) (took : Took b m (number_at 4 group Gap) gap) where
    pub gap_refused : (at : ℕ) → ((p : Place) → b true p → p.offset ≡ at) → fits_gap rows earlier so_far gap ≡ false
        → Refused b (run_at rows group earlier so_far) (Field group Gap at)
    unfolding gap_at length_at
    gap_refused at here bad = refused_first gap_at length_at b b b (Field group Gap at)
        (unfit_field 4 group Gap (fits_gap rows earlier so_far) b m gap at f took bad here)

    pub run_reads : (n : ℕ) → fits_gap rows earlier so_far gap ≡ true
        → Took m r (field_at 4 (fits_length rows earlier so_far gap) group Length) n
        → Took b r (run_at rows group earlier so_far) (gap, n)
    unfolding gap_at length_at
    run_reads n good more = took_then gap_at length_at b m r gap n
        (took_field 4 group Gap (fits_gap rows earlier so_far) b m gap took good) more

    pub length_refused : (e : PackFault) → fits_gap rows earlier so_far gap ≡ true
        → Refused m (field_at 4 (fits_length rows earlier so_far gap) group Length) e
        → Refused b (run_at rows group earlier so_far) e
    unfolding gap_at length_at
    length_refused e good bad = refused_second gap_at length_at b m r gap e f
        (took_field 4 group Gap (fits_gap rows earlier so_far) b m gap took good) bad

-- ---- the runs of a tuple

runs_test : (rows n : ℕ) → within 1 rows n ≡ fits_runs rows n
runs_test rows n = refl

module _ (rows group : ℕ) (earlier : List (List ℕ)) (b m r : Places) where
  count_at : Place → Read ℕ
  count_at = field_at 4 (fits_runs rows) group Runs

  runs_behind : ℕ → Place → Read (List Run)
  runs_behind n = list_at (λ left so_far. run_at rows group earlier so_far) n []

  pub count_ends : (e : PackFault) → Refused b (field_at 4 (within 1 rows) group Runs) e
      → Refused b (runs_at rows group earlier) e
  unfolding count_at runs_behind
  count_ends e bad = refused_view (λ (x : ℕ × List Run). rows_of_runs 0 x.1) (then_at count_at runs_behind) b b e
      (refused_first count_at runs_behind b b b e bad)

  module _ (n : ℕ) (took : Took b m (field_at 4 (within 1 rows) group Runs) n) where
    pub runs_end : (e : PackFault) → Follows b m
        → Refused m (list_at (λ left so_far. run_at rows group earlier so_far) n []) e
        → Refused b (runs_at rows group earlier) e
    unfolding count_at runs_behind
    runs_end e f bad = refused_view (λ (x : ℕ × List Run). rows_of_runs 0 x.1) (then_at count_at runs_behind) b b e
        (refused_second count_at runs_behind b m r n e f took bad)

    pub runs_read : (runs : List Run) → Took m r (list_at (λ left so_far. run_at rows group earlier so_far) n []) runs
        → Took b r (runs_at rows group earlier) (rows_of_runs 0 runs)
    unfolding count_at runs_behind
    runs_read runs more =
        took_view (λ (x : ℕ × List Run). rows_of_runs 0 x.1) (then_at count_at runs_behind) b r (n, runs)
        (took_then count_at runs_behind b m r n runs took more)
