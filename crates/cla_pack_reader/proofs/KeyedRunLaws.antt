-- Runs of the rows of lists, as the runs of the codes that they are.
use Rattle.std.proofs.Common.{◌≡◌, ℕ, ◌-◌, ◌<◌, ◌≤◌, false, eqb, List, [], ◌∷◌, length, get_or, map, refl, sym, ap}
use Rattle.std.proofs.Common.{subst, ◌∙◌, arith}
use Rattle.std.specs.List.{Contains, IsDistinct}
use Rattle.std.proofs.lemmas.Bool.{eq-eqb, eqb-true, false≢true}
use Rattle.std.proofs.lemmas.List.{get_or-map, get_or_default, length-map}
use Rattle.cla_spec.specs.Matrix.{most_cells}
use Rattle.cla_layout.specs.Groups.{code_of}
use Rattle.cla_layout.specs.Listed.{rows_of}
use Rattle.cla_layout.proofs.Listings.{row_listed}
use Rattle.cla_packed.specs.Codes.{has}
use Rattle.cla_packed.specs.Lists.{AreOwners}
use Rattle.cla_runs.specs.declared.run_list.KeyedRun.{KeyedRun}
use Rattle.cla_runs.specs.KeyedRuns.{IsKeyedRun, AreKeyedRuns}
use Rattle.cla_pack_reader.specs.Keys.{keyed}
use Rattle.cla_pack_reader.specs.ListedRows.{list_in, IsListRun, AreRunsOf}
use Rattle.cla_pack_reader.proofs.Renumbered.{AreRenumbered, code_test}

begins_keyed : (f : ℕ → ℕ) (runs : List KeyedRun)
    → map (λ run. run.begin) (map (keyed f) runs) ≡ map (λ run. run.begin) runs
begins_keyed f [] = refl
begins_keyed f (run ∷ runs) = ap (λ (l : List ℕ). run.begin ∷ l) (begins_keyed f runs)

contains_keyed : (f : ℕ → ℕ) (runs : List KeyedRun) (run : KeyedRun) → Contains runs run
    → Contains (map (keyed f) runs) (keyed f run)
contains_keyed f runs run there = (
  there.0,
  omega (arith, there.1, length-map runs (keyed f)),
  get_or-map (keyed f) runs there.0 run (keyed f run) there.1 ∙ ap (keyed f) there.2,
)

-- each of the runs with new keys is one of those
keyed_of : (f : ℕ → ℕ) (runs : List KeyedRun) (new : KeyedRun) → Contains (map (keyed f) runs) new
    → (run : KeyedRun) × Contains runs run × (keyed f run ≡ new)
keyed_of f runs new there =
    let lt : there.0 < length runs = omega (arith, there.1, length-map runs (keyed f)) in
    let run = get_or runs there.0 new in (
      run,
      (there.0, lt, get_or_default runs there.0 run new lt),
      sym (get_or-map (keyed f) runs there.0 new new lt) ∙ there.2,
    )

module _ (rows d tuples : ℕ) (f : ℕ → ℕ) (owners codes : List ℕ) (o : AreOwners rows d owners)
    (s : AreRenumbered d f owners codes) (lists : List (List ℕ)) (count : length lists ≡ d)
    (are : (t : ℕ) → t < d → list_in lists t ≡ rows_of owners t) (runs : List KeyedRun)
    (runs_are : AreRunsOf rows lists runs) where
  -- whether a list has a row, by the row's code
  list_test : (t i : ℕ) → t < d → i < rows → has (list_in lists t) i ≡ eqb (code_of codes i) (f t)
  list_test t i lt row =
      let there : i < length owners = omega (arith, row, o.count) in
      ap (λ (l : List ℕ). has l i) (are t lt) ∙ row_listed (λ j. eqb (code_of owners j) t) (length owners) i there
      ∙ sym (code_test d f owners codes s i t there (omega (arith, lt)))

  apart_from : (t i : ℕ) → t < d → i < rows → has (list_in lists t) i ≡ false → code_of codes i ≡ f t → ⊥
  apart_from t i lt row none same =
      false≢true (sym none ∙ list_test t i lt row ∙ eq-eqb (code_of codes i) (f t) same)

  one_run : (run : KeyedRun) → run.key < length lists → IsListRun rows (list_in lists run.key) run
      → IsKeyedRun codes (f d) (keyed f run)
  one_run run key h =
      let lt : run.key < d = omega (arith, key, count) in
      let size : length codes ≡ rows = s.count ∙ o.count in
      record {
        maximal = record {
          not_empty = h.not_empty;
          within = omega (arith, h.within, size);
          same = λ i from to. eqb-true (code_of codes i) (f run.key)
              (sym (list_test run.key i lt (omega (arith, to, h.within))) ∙ h.same i from to);
          last = λ more. apart_from run.key run.end lt (omega (arith, more, size)) h.behind;
        };
        begins = λ some. apart_from run.key (run.begin - 1) lt (omega (arith, h.not_empty, h.within))
            (h.before (run.begin - 1) (omega (arith, some)));
        listed = λ same. omega (arith, lt, s.apart run.key d (omega (arith, lt)) (omega arith) same);
      }

  pub keyed_runs : rows ≤ most_cells → ((i : ℕ) → i < rows → code_of codes i < tuples)
      → AreKeyedRuns codes rows tuples (f d) (map (keyed f) runs)
  keyed_runs few in_tuples = record {
    count = s.count ∙ o.count;
    few = few;
    in_tuples = in_tuples;
    each = λ new there.
        let run = keyed_of f runs new there in
        let e = runs_are.each run.0 run.1 in
        subst (IsKeyedRun codes (f d)) run.2 (one_run run.0 e.0 e.1);
    all = λ i row other.
        let there : i < length owners = omega (arith, row, o.count) in
        let t = code_of owners i in
        let le : t ≤ d = o.each i row in
        let not_rest : t ≡ d → ⊥ = λ e. other (s.is i there ∙ ap f e) in
        let lt : t < d = omega (arith, le, not_rest) in
        let run = runs_are.all t i (omega (arith, lt, count))
        (list_test t i lt row ∙ eq-eqb (code_of codes i) (f t) (s.is i there)) in
        (keyed f run.0, contains_keyed f runs run.0 run.1, run.3, run.4);
    once = subst (λ (l : List ℕ). IsDistinct eqb l) (sym (begins_keyed f runs)) runs_are.once;
  }
