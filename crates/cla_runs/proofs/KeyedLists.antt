-- The runs of a list, each with its code.
use Rattle.std.proofs.Common.{◌≡◌, ℕ, ◌+◌, ◌-◌, ◌<◌, ◌≤◌, List, [], ◌∷◌, ◌++◌, length}
use Rattle.std.proofs.Common.{ap, sym, ◌∙◌, subst, arith, inl, inr}
use Rattle.std.specs.Prelude.{nat_eq}
use Rattle.std.specs.List.Sorted.{IsPermutation}
use Rattle.std.proofs.lemmas.Bool.{cases_eq, cases_lt}
use Rattle.std.proofs.lemmas.Bool.Decides.{Decides-eqb, nat_tests}
use Rattle.std.proofs.lemmas.List.{get_or-map, get_or_default, get_or_push, get_or_append_left, length-map, length_push}
use Rattle.std.proofs.lemmas.List.Sorted.{Contains-permutation, IsPermutation-sym, IsPermutation-map}
use Rattle.std.proofs.lemmas.Map.Keys.{IsDistinct-IsPermutation}
use Rattle.std.proofs.lemmas.Map.Made.{IsDistinct-from_AllPairs}
use Rattle.cla_spec.specs.Matrix.{most_cells}
use Rattle.cla_layout.specs.Groups.{code_of}
use Rattle.cla_rows.specs.RunBounds.{AreRuns, ended_by}
use Rattle.cla_rows.proofs.RunBounds.{ends_rise, run_stretch, run_there, at_run, code_in_gap}
use Rattle.cla_runs.specs.KeyedRuns.{IsKeyedRun, AreKeyedRuns, begins_of, run_at}
use Rattle.cla_runs.specs.declared.run_list.KeyedRun.{KeyedRun}

-- runs that change places
pub keyed_moved : {codes : List ℕ} {rows tuples rest : ℕ} (runs moved : List KeyedRun) → IsPermutation runs moved →
    AreKeyedRuns codes rows tuples rest runs → AreKeyedRuns codes rows tuples rest moved
keyed_moved runs moved moves are = record {
  count = are.count;
  few = are.few;
  in_tuples = are.in_tuples;
  each = λ run there. are.each run (Contains-permutation moved runs run (IsPermutation-sym runs moved moves) there);
  all = λ i row other. (let found = are.all i row other in
      (found.0, Contains-permutation runs moved found.0 moves found.1, found.2, found.3));
  once =
      IsDistinct-IsPermutation nat_eq (λ x y. grind (arith, nat_tests)) (begins_of runs) (begins_of moved)
      (IsPermutation-map (λ (run : KeyedRun). run.begin) runs moved moves) are.once;
}

-- run n of a list
abbrev pub run_in : List ℕ → List ℕ → List ℕ → ℕ → KeyedRun
run_in begins ends keys n = record { begin = code_of begins n; end = code_of ends (n + 1); key = code_of keys n }

-- these are the first n runs of a list
pub record AreFirst (n : ℕ) (begins ends keys : List ℕ) (runs : List KeyedRun) : Type 0 where
  pub count : length runs ≡ n
  pub same : (m : ℕ) → m < n → run_at runs m ≡ run_in begins ends keys m

pub first_more : (n : ℕ) (begins ends keys : List ℕ) (runs : List KeyedRun) → AreFirst n begins ends keys runs →
    AreFirst (n + 1) begins ends keys (runs ++ run_in begins ends keys n ∷ [])
first_more n begins ends keys runs are =
    let none : KeyedRun = record { begin = 0; end = 0; key = 0 } in
    let run = run_in begins ends keys n in
    record {
      count = omega (arith, length_push runs run, are.count);
      same = λ m there. elim (cases_lt m n) [
        | inl before ↦ get_or_append_left runs (run ∷ []) none m (omega (arith, before, are.count)) ∙ are.same m before
        | inr past ↦
            let e : m ≡ n = omega (arith, past, there) in
            get_or_push runs run none m (omega (arith, e, are.count)) ∙ ap (run_in begins ends keys) (sym e)
      ];
    }

module _ {rows : ℕ} {codes : List ℕ} {rest : ℕ} {begins ends keys : List ℕ}
    (are : AreRuns rows codes rest begins ends keys) where
  -- the row after a run has another code, if there is one
  run_last : (n : ℕ) → n < length keys → code_of ends (n + 1) < rows
      → code_of codes (code_of ends (n + 1)) ≡ code_of keys n →
      ⊥
  run_last n there more same =
      let end = code_of ends (n + 1) in
      elim (cases_lt end (code_of begins (n + 1))) [
        | inl gap ↦ are.listed n there (sym same ∙ are.in_gap (n + 1) end (omega (arith, there)) (omega arith) gap)
        | inr none ↦
            let touch : end ≡ code_of begins (n + 1) = omega (arith, none, are.rising (n + 1) (omega (arith, there))) in
            let next : n + 1 < length keys =
            run_there are (n + 1) rows (omega (arith, there)) (omega (arith, touch, more))
            (omega arith) in
            are.apart n next touch (sym same ∙ are.in_run (n + 1) end next (omega (arith, touch))
            (omega (arith, touch, are.not_empty (n + 1) next)))
      ]

  -- and so has the row before it
  run_first : (n : ℕ) → n < length keys → 0 < code_of begins n → code_of codes (code_of begins n - 1) ≡ code_of keys n
      → ⊥
  run_first n there some same =
      let begin = code_of begins n in
      elim (cases_lt (code_of ends n) begin) [
        | inl gap ↦
            are.listed n there (sym same ∙ are.in_gap n (begin - 1) (omega (arith, there)) (omega (arith, gap))
            (omega (arith, some)))
        | inr none ↦
            let touch : code_of ends n ≡ begin = omega (arith, none, are.rising n (omega (arith, there))) in
            elim (cases_eq n 0) [
              | inl zeroth ↦ absurd (omega (arith, touch, some, ap (code_of ends) zeroth, are.first))
              | inr later ↦
                  let p = n - 1 in
                  let next : p + 1 ≡ n = grind (arith, later) in
                  let old : p < length keys = omega (arith, next, there) in
                  let end : code_of ends (p + 1) ≡ begin = ap (code_of ends) next ∙ touch in
                  let before : code_of codes (begin - 1) ≡ code_of keys p =
                  are.in_run p (begin - 1) old (omega (arith, end, are.not_empty p old)) (omega (arith, end, some)) in
                  are.apart p (omega (arith, next, there)) (end ∙ ap (code_of begins) (sym next))
                  (sym before ∙ same ∙ ap (code_of keys) (sym next))
            ]
      ]

  run_keyed : rows ≡ length codes → (n : ℕ) → n < length keys → IsKeyedRun codes rest (run_in begins ends keys n)
  run_keyed count n there = record {
    maximal = record {
      not_empty = are.not_empty n there;
      within = (run_stretch are (omega (arith, count)) n there).within;
      same = λ i from to. are.in_run n i there from to;
      last = λ more same. run_last n there (omega (arith, more, count)) same;
    };
    begins = λ some same. run_first n there some same;
    listed = are.listed n there;
  }

  begins_rise : (m n : ℕ) → m < n → n < length keys → code_of begins m < code_of begins n
  begins_rise m n before there = omega (
    arith,
    are.not_empty m (omega (arith, before, there)),
    ends_rise are (m + 1) n (omega (arith, before)) (omega (arith, there)),
    are.rising n (omega (arith, there)),
  )

  -- all runs of a list are those of the rows
  pub list_keyed : {tuples : ℕ} (runs : List KeyedRun) → rows ≡ length codes → rows ≤ most_cells →
      ((i : ℕ) → i < length codes → code_of codes i < tuples) →
      AreFirst (length keys) begins ends keys runs → AreKeyedRuns codes rows tuples rest runs
  list_keyed runs count few below first =
      let none : KeyedRun = record { begin = 0; end = 0; key = 0 } in
      let begin = λ (n : ℕ) (there : n < length keys). get_or-map (λ (run : KeyedRun). run.begin) runs n none 0
      (omega (arith, there, first.count)) ∙ ap (λ (run : KeyedRun). run.begin) (first.same n there) in
      let size : length (begins_of runs) ≡ length runs = length-map runs (λ (run : KeyedRun). run.begin) in
      record {
        count = sym count;
        few = few;
        in_tuples = λ i row. below i (omega (arith, row, count));
        each = λ run there. (let at : there.0 < length keys = omega (arith, there.1, first.count) in
            subst (IsKeyedRun codes rest) (sym (first.same there.0 at)
            ∙ get_or_default runs there.0 none run there.1 ∙ there.2) (run_keyed count there.0 at));
        all = λ i row other. (let n = ended_by ends i in
            let is = at_run are i in
            elim (cases_lt i (code_of begins n)) [
              | inl gap ↦ absurd (other (code_in_gap are i n is gap))
              | inr run ↦
                  let there : n < length keys =
                  run_there are n (i + 1) is.there (omega (arith, run)) (omega (arith, row)) in (
                    run_in begins ends keys n,
                    (
                      n,
                      omega (arith, there, first.count),
                      get_or_default runs n (run_in begins ends keys n) none
                          (omega (arith, there, first.count)) ∙ first.same n there,
                    ),
                    omega (arith, run),
                    is.before there,
                  )
            ]);
        once = IsDistinct-from_AllPairs Decides-eqb (begins_of runs) (λ i j d before there same.
            (let here : j < length keys = omega (arith, there, size, first.count) in
            omega (
              arith,
              begins_rise i j before here,
              sym (get_or_default (begins_of runs) i d 0 (omega (arith, before, there))
                  ∙ begin i (omega (arith, before, here)))
                  ∙ same ∙ get_or_default (begins_of runs) j d 0 there ∙ begin j here,
            )));
      }
