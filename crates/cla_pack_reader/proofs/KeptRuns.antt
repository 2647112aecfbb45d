-- Lists that are kept as runs.
use Rattle.std.proofs.Common.{◌≡◌, ℕ, suc, ◌+◌, ◌<◌, ◌≤◌, Bool, true, false, eqb, List, [], ◌∷◌, ◌++◌, length, map}
use Rattle.std.proofs.Common.{refl, sym, ap, subst, ◌∙◌, arith, ◌⊎◌, inl, inr}
use Rattle.std.specs.Prelude.{◌||◌}
use Rattle.std.specs.List.{Contains, IsDistinct, range_with_len}
use Rattle.std.proofs.lemmas.Bool.{cases_lt, eqb-true, or_cases, or_left, or_right, or_from, false≢true}
use Rattle.std.proofs.lemmas.Bool.{false_from_ne_true}
use Rattle.std.proofs.lemmas.List.{length_push, map-append}
use Rattle.std.proofs.lemmas.List.Elements.{Contains-append_left, Contains-push, Contains-push_cases}
use Rattle.std.proofs.lemmas.List.Folds.{list_any-append}
use Rattle.cla_packed.specs.Codes.{has}
use Rattle.cla_packed.specs.Lists.{named}
use Rattle.cla_runs.specs.declared.run_list.KeyedRun.{KeyedRun}
use Rattle.cla_pack_reader.proofs.KeptLists.{distinct_push, old_list, last_list, named_in}
use Rattle.cla_pack_reader.proofs.WalkLaws.{in_range, inside, left_of, right_of, range_parts, has_range, has_some}
use Rattle.cla_pack_reader.specs.ListedRows.{list_in, IsListRun, AreRunsOf}

abbrev begin_of : KeyedRun → ℕ
begin_of run = run.begin

-- a list has what one of its runs begins with
from_begins : (runs : List KeyedRun) (i : ℕ) → has (map begin_of runs) i ≡ true
    → (run : KeyedRun) × Contains runs run × (run.begin ≡ i)
from_begins [] i h = absurd (false≢true h)
from_begins (run ∷ runs) i h = elim (or_cases (eqb run.begin i) (has (map begin_of runs) i) h) [
  | inl here ↦ (run, (0, omega arith, refl), eqb-true run.begin i here)
  | inr more ↦
      let r = from_begins runs i more in
      let at = r.1 in
      (r.0, (suc at.0, omega (arith, at.1), at.2), r.2)
]

pub no_runs_of : (rows : ℕ) → AreRunsOf rows [] []
unfolding IsDistinct
no_runs_of rows = record {
  each = λ run c. absurd (omega (arith, c.1));
  all = λ t i lt h. absurd (omega (arith, lt));
  once = tt;
}

module _ (rows : ℕ) (earlier : List (List ℕ)) (kept : List KeyedRun) where
  -- a tuple begins with no row
  pub tuple_begun : AreRunsOf rows earlier kept → AreRunsOf rows (earlier ++ [] ∷ []) kept
  tuple_begun r = record {
    each = λ run c.
        let e = r.each run c in (
          omega (arith, e.0, length_push earlier []),
          subst (λ (l : List ℕ). IsListRun rows l run) (sym (old_list earlier [] run.key e.0)) e.1,
        );
    all = λ t i lt h. elim (cases_lt t (length earlier)) [
      | inl old ↦ r.all t i old (sym (ap (λ (l : List ℕ). has l i) (old_list earlier [] t old)) ∙ h)
      | inr new ↦
          let is : length earlier ≡ t = omega (arith, new, lt, length_push earlier []) in
          absurd (false≢true (sym (ap (λ (l : List ℕ). has l i) (last_list earlier [] t is)) ∙ h))
    ];
    once = r.once;
  }

  -- one run more
  module _ (so_far : List ℕ) (next : ℕ) (below : (i : ℕ) → has so_far i ≡ true → i < next) (run : KeyedRun) (n : ℕ)
      (key : run.key ≡ length earlier) (end : run.end ≡ run.begin + n) (some : 0 < n) (in_rows : run.end ≤ rows)
      (behind : next ≤ run.begin) (gap : 0 < length so_far → next < run.begin)
      (new : named earlier run.begin ≡ false) (r : AreRunsOf rows (earlier ++ so_far ∷ []) kept) where
    abbrev list : List ℕ
    list = so_far ++ range_with_len run.begin n

    abbrev old : List (List ℕ)
    old = earlier ++ so_far ∷ []

    has_list : (i : ℕ) → has list i ≡ (has so_far i || in_range run.begin run.end i)
    has_list i = list_any-append (λ m. eqb m i) so_far (range_with_len run.begin n)
        ∙ ap (λ (b : Bool). has so_far i || b) (has_range run.begin n i
        ∙ ap (λ (m : ℕ). in_range run.begin m i) (sym end))

    -- what isn't there yet and lies before or behind the run isn't there now
    none_in_list : (i : ℕ) → has so_far i ≡ false → in_range run.begin run.end i ≡ false → has list i ≡ false
    none_in_list i a b = has_list i ∙ or_from (has so_far i) (in_range run.begin run.end i) a b

    older : (r : KeyedRun) → IsListRun rows so_far r → IsListRun rows list r
    older o i =
        let first = i.same o.begin (omega arith) i.not_empty in
        let far : next < run.begin = gap (has_some so_far o.begin first) in
        let last : o.end ≤ next = elim (cases_lt next o.end) [
          | inl lt ↦ absurd (omega (arith, lt, below next (i.same next (omega (arith, below o.begin first)) lt)))
          | inr ge ↦ ge
        ] in
        record {
          not_empty = i.not_empty;
          within = i.within;
          same = λ j ge lt. has_list j ∙ or_left (has so_far j) (in_range run.begin run.end j) (i.same j ge lt);
          before = λ j is. none_in_list j (i.before j is)
              (left_of run.begin run.end j (omega (arith, is, below o.begin first, far)));
          behind = none_in_list o.end i.behind (left_of run.begin run.end o.end (omega (arith, last, far)));
        }

    newer : IsListRun rows list run
    newer = record {
      not_empty = omega (arith, end, some);
      within = in_rows;
      same = λ i ge lt. has_list i
          ∙ or_right (has so_far i) (in_range run.begin run.end i) (inside run.begin run.end i ge lt);
      before = λ i is. none_in_list i (false_from_ne_true (has so_far i) (λ h.
          omega (arith, below i h, gap (has_some so_far i h), is)))
          (left_of run.begin run.end i (omega (arith, is)));
      behind = none_in_list run.end (false_from_ne_true (has so_far run.end) (λ h.
          omega (arith, below run.end h, behind, end))) (right_of run.begin run.end run.end (omega arith));
    }

    at_last : (t : ℕ) → t ≡ length earlier → list_in (earlier ++ list ∷ []) t ≡ list
    at_last t is = last_list earlier list t (sym is)

    was_last : (t : ℕ) → t ≡ length earlier → list_in old t ≡ so_far
    was_last t is = last_list earlier so_far t (sym is)

    as_before : (t : ℕ) → t < length earlier → list_in (earlier ++ list ∷ []) t ≡ list_in old t
    as_before t lt = old_list earlier list t lt ∙ sym (old_list earlier so_far t lt)

    in_lists : (t : ℕ) → t < length earlier + 1 → (t < length earlier) ⊎ (t ≡ length earlier)
    in_lists t lt = elim (cases_lt t (length earlier)) [
      | inl less ↦ inl less
      | inr ge ↦ inr (omega (arith, lt, ge))
    ]

    each_run : (o : KeyedRun) → Contains (kept ++ run ∷ []) o
        → (o.key < length (earlier ++ list ∷ [])) × IsListRun rows (list_in (earlier ++ list ∷ []) o.key) o
    each_run o c = elim (Contains-push_cases kept run o c) [
      | inl before ↦
          let e = r.each o before in
          let lt : o.key < length earlier + 1 = omega (arith, e.0, length_push earlier so_far) in (
            omega (arith, lt, length_push earlier list),
            elim (in_lists o.key lt) [
              | inl less ↦ subst (λ (l : List ℕ). IsListRun rows l o) (sym (as_before o.key less)) e.1
              | inr last ↦ subst (λ (l : List ℕ). IsListRun rows l o) (sym (at_last o.key last))
                  (older o (subst (λ (l : List ℕ). IsListRun rows l o) (was_last o.key last) e.1))
            ],
          )
      | inr same ↦ subst (λ (x : KeyedRun). (x.key < length (earlier ++ list ∷ []))
          × IsListRun rows (list_in (earlier ++ list ∷ []) x.key) x) same (
            omega (arith, key, length_push earlier list),
            subst (λ (l : List ℕ). IsListRun rows l run) (sym (at_last run.key key)) newer,
          )
    ]

    all_rows : (t i : ℕ) → t < length (earlier ++ list ∷ []) → has (list_in (earlier ++ list ∷ []) t) i ≡ true
        → (o : KeyedRun) × Contains (kept ++ run ∷ []) o × (o.key ≡ t) × (o.begin ≤ i) × (i < o.end)
    all_rows t i lt h =
        let there : t < length earlier + 1 = omega (arith, lt, length_push earlier list) in
        let known : t < length (earlier ++ so_far ∷ []) = omega (arith, there, length_push earlier so_far) in
        let keep : ((o : KeyedRun) × Contains kept o × (o.key ≡ t) × (o.begin ≤ i) × (i < o.end))
        → (o : KeyedRun) × Contains (kept ++ run ∷ []) o × (o.key ≡ t) × (o.begin ≤ i) × (i < o.end) =
        (λ f. (f.0, Contains-append_left kept (run ∷ []) f.0 f.1, f.2, f.3, f.4)) in
        elim (in_lists t there) [
          | inl less ↦ keep (r.all t i known (sym (ap (λ (l : List ℕ). has l i) (as_before t less)) ∙ h))
          | inr last ↦ elim (or_cases (has so_far i) (in_range run.begin run.end i)
              (sym (has_list i) ∙ sym (ap (λ (l : List ℕ). has l i) (at_last t last)) ∙ h)) [
                | inl before ↦ keep (r.all t i known (ap (λ (l : List ℕ). has l i) (was_last t last) ∙ before))
                | inr here ↦
                    let p = range_parts run.begin run.end i here in
                    (run, Contains-push kept run, key ∙ sym last, p.0, p.1)
              ]
        ]

    new_begin : has (map begin_of kept) run.begin ≡ false
    new_begin = false_from_ne_true (has (map begin_of kept) run.begin) (λ h.
        let o = from_begins kept run.begin h in
        let e = r.each o.0 o.1 in
        let lt : o.0.key < length earlier + 1 = omega (arith, e.0, length_push earlier so_far) in
        let there = ap (has (list_in old o.0.key)) (sym o.2)
        ∙ e.1.same o.0.begin (omega arith) e.1.not_empty in
        elim (in_lists o.0.key lt) [
          | inl less ↦ false≢true (sym new ∙ named_in earlier o.0.key run.begin less
              (sym (ap (λ (l : List ℕ). has l run.begin) (old_list earlier so_far o.0.key less)) ∙ there))
          | inr last ↦ omega (
            arith,
            behind,
            below run.begin
                (sym (ap (λ (l : List ℕ). has l run.begin) (was_last o.0.key last)) ∙ there),
          )
        ])

    pub run_kept : AreRunsOf rows (earlier ++ (so_far ++ range_with_len run.begin n) ∷ []) (kept ++ run ∷ [])
    run_kept = record {
      each = each_run;
      all = all_rows;
      once = subst (IsDistinct eqb) (sym (map-append begin_of kept (run ∷ [])))
          (distinct_push (map begin_of kept) run.begin r.once new_begin);
    }
