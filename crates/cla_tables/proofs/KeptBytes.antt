-- The bytes of a group that is kept, by its figures.
use Rattle.std.proofs.Common.{◌≡◌, ℕ, ◌+◌, ◌*◌, ◌<◌, ◌≤◌, Bool, true, false, Option, Some, None, List, length, refl}
use Rattle.std.proofs.Common.{sym}
use Rattle.std.proofs.Common.{ap, subst, ◌∙◌, zero, suc, cond, not, ◌&&◌, ◌++◌, [], ◌∷◌, ◌==◌, nat_lt, arith}
use Rattle.std.proofs.Common.{mul-le-mul_right, mul-le-mul_left}
use Rattle.std.specs.List.{range_with_len}
use Rattle.std.specs.declared.cmp.Ord as ord
use Rattle.std.specs.declared.cmp.PartialEq as partial_eq
use Rattle.std.specs.declared.cmp.PartialOrd as partial_ord
use Rattle.std.specs.declared.hash.Hash as hash
use Rattle.std.proofs.lemmas.Bool.Decides.{nat_tests}
use Rattle.std.proofs.lemmas.List.Filters.{length-filter_both}
use Rattle.cla_num.specs.declared.number.Number as number
use Rattle.cla_spec.specs.Matrix.{most_cells}
use Rattle.cla_layout.specs.declared.kind.Kind.{Kind}
use Rattle.cla_layout.specs.declared.kind.Kind.TheVariants as kinds
use Rattle.cla_layout.specs.Groups.{code_of, occurrences_of, IsGroup}
use Rattle.cla_layout.specs.Layouts.{LayoutPart}
use Rattle.cla_layout.specs.Listed.{is_rest, rest_of, rows_where, begins_run}
use Rattle.cla_layout.proofs.Counting.{rows_count}
use Rattle.cla_layout.proofs.Counts.{used_few}
use Rattle.cla_layout.proofs.Listings.{rows_where_more, rows_where_none, rows_where_few, rows_of_count}
use Rattle.cla_grouping.specs.declared.sizes.Figures.{Figures}
use Rattle.cla_grouping.specs.Sizes.{AreSmall, figures_of, bytes_of}
use Rattle.cla_grouping.specs.Sizes.{runs_bytes}
use Rattle.cla_grouping.specs.Sizes.{is_listed, begins_listed, listed_of, listed_rows_of, listed_runs_of}
use Rattle.cla_rows.specs.CodeRuns.{listed_begins}
use Rattle.cla_runs.specs.declared.runs.Runs as runs
use Rattle.cla_runs.specs.Members.{runs_rest}
use Rattle.cla_runs.specs.Rows.{RowsOf, rest_in}
use Rattle.cla_coded.specs.declared.any_group.AnyGroup.{AnyGroup}
use Rattle.cla_coded.specs.declared.any_group.AnyGroup.TheVariants.{Runs}
use Rattle.cla_coded.specs.declared.part.Part.{Part}
use Rattle.cla_coded.specs.AnyGroups.{FormOf, any_codes, any_dictionary, any_form}
use Rattle.cla_pack_reader.specs.Kept.{HasForm, HasItsForm}
use Rattle.cla_tables.specs.KeptStats.{tuples_kept}

-- ---- figures

-- figures of so many columns, rows and tuples
pub record AreFigures (part : LayoutPart) (f : Figures) : Type 0 where
  pub width : f.width ≡ length part.columns
  pub rows : f.rows ≡ length part.codes
  pub distinct : f.distinct ≡ length part.tuples

-- those of a group are small
pub figures_small : (bits : ℕ) (part : LayoutPart) (f : Figures)
    → IsGroup bits (length part.columns) part.codes part.tuples → AreFigures part f → f.listed ≤ f.distinct
    → f.listed_rows ≤ f.rows → f.listed_runs ≤ f.rows → AreSmall f
figures_small bits part f is are listed rows runs =
    let few : f.rows * f.width ≤ most_cells =
    subst (λ (n : ℕ). n * f.width ≤ most_cells) (sym are.rows)
    (subst (λ (n : ℕ). length part.codes * n ≤ most_cells) (sym are.width) is.few_cells) in
    let a_row : 1 ≤ f.rows = omega (arith, is.a_row, are.rows) in
    let a_column : 1 ≤ f.width = omega (arith, is.a_column, are.width) in
    record {
      wide = omega (arith, mul-le-mul_right f.width a_row, few);
      tall = omega (arith, mul-le-mul_left f.rows a_column, few);
      cells = few;
      distinct = omega (arith, used_few part.codes (length part.tuples) is.used, are.distinct, are.rows);
      listed = listed;
      listed_rows = rows;
      listed_runs = runs;
    }

pub listed_few : (rest : Option ℕ) (tuples : ℕ) → listed_of rest tuples ≤ tuples
listed_few None tuples = omega arith
listed_few (Some k) tuples = omega arith

pub listed_rows_few : (rest : Option ℕ) (codes : List ℕ) → listed_rows_of rest codes ≤ length codes
listed_rows_few rest codes = rows_where_few (is_listed rest codes) (length codes)

pub listed_runs_few : (rest : Option ℕ) (codes : List ℕ) → listed_runs_of rest codes ≤ length codes
listed_runs_few rest codes = rows_where_few (begins_listed rest codes) (length codes)

-- ---- bytes

abbrev kept_bytes : Kind → LayoutPart → ℕ
kept_bytes k part = bytes_of k (figures_of (tuples_kept part))

pub runs_told : (k : Kind) (part : LayoutPart) (f : Figures) (bytes : ℕ) → kinds.Runs ≡ k → AreFigures part f
    → f.listed ≡ listed_of (rest_of part.codes part.tuples) (length part.tuples)
    → f.listed_runs ≡ listed_runs_of (rest_of part.codes part.tuples) part.codes → bytes ≡ runs_bytes f
    → bytes ≡ bytes_of k (figures_of (tuples_kept part))
runs_told k part f bytes is are listed runs size =
    let same : runs_bytes f ≡ runs_bytes (figures_of (tuples_kept part)) =
    λ i. runs_bytes (record f { width = are.width i; listed = listed i; listed_runs = runs i }) in
    size ∙ same ∙ ap (λ (l : Kind). kept_bytes l part) is

-- ---- what is listed

-- where there is no rest, each row is listed
pub all_rows_listed : (codes : List ℕ) → listed_rows_of None codes ≡ length codes
all_rows_listed codes =
    let n = length codes in
    let none : List ℕ = rows_where (λ _. false) n in
    let no_row : length none ≡ 0 =
    ap (λ (rows : List ℕ). length rows) (rows_where_none (λ _. false) n (λ i lt. refl)) in
    omega (
      arith,
      length-filter_both (is_listed None codes) (λ _. false) (λ i. refl) (range_with_len 0 n),
      no_row,
      rows_count n,
    )

-- and else all but those of the rest
pub other_rows_listed : (codes : List ℕ) (k : ℕ)
    → listed_rows_of (Some k) codes + occurrences_of codes k ≡ length codes
other_rows_listed codes k = omega (
  arith,
  length-filter_both (λ i. code_of codes i == k) (is_listed (Some k) codes) (λ i. refl)
      (range_with_len 0 (length codes)),
  rows_count (length codes),
  rows_of_count codes k,
)

rows_where_same : (p q : ℕ → Bool) (n : ℕ) → ((i : ℕ) → i < n → p i ≡ q i) → rows_where p n ≡ rows_where q n
rows_where_same p q zero same = refl
rows_where_same p q (suc n) same =
    let next : suc n ≡ n + 1 = omega arith in
    ap (rows_where p) next ∙ rows_where_more p n
    ∙ ap (λ (l : List ℕ). l ++ cond (p n) (n ∷ []) []) (rows_where_same p q n (λ i lt. same i (omega (arith, lt))))
    ∙ ap (λ (b : Bool). rows_where q n ++ cond b (n ∷ []) []) (same n (omega arith))
    ∙ sym (ap (rows_where q) next ∙ rows_where_more q n)

-- a code is the rest exactly where it is the code that has no runs
rest_tests : (n rest code : ℕ) → code < n → (code == rest) ≡ is_rest (cond (nat_lt rest n) (Some rest) None) code
rest_tests n rest code below = by (nat_lt rest n) refl
  where
    by : (b : Bool) → nat_lt rest n ≡ b → (code == rest) ≡ is_rest (cond b (Some rest) None) code
    by true h = refl
    by false h = grind (arith, nat_tests, h, below)

-- the runs of all codes but one that has none
pub runs_counted : (rows : RowsOf) → ((i : ℕ) → i < length rows.codes → code_of rows.codes i < rows.tuples)
    → length (listed_begins rows.codes rows.rest) ≡ listed_runs_of (rest_in rows) rows.codes
runs_counted rows below = ap (λ (l : List ℕ). length l) (rows_where_same
    (λ i. not (code_of rows.codes i == rows.rest) && begins_run rows.codes (code_of rows.codes i) i)
    (begins_listed (rest_in rows) rows.codes) (length rows.codes)
    (λ i lt. ap (λ (b : Bool). not b && begins_run rows.codes (code_of rows.codes i) i)
    (rest_tests rows.tuples rows.rest (code_of rows.codes i) (below i lt))))

module _ {N : Type 0} {n : number.Ghosts N} {o : ord.Ghosts N} {e : partial_eq.Ghosts N} {p : partial_ord.Ghosts N}
    {h : hash.Ghosts N} where
  -- the rest of a group of runs that is kept in the form of its kind
  pub runs_rest_is : (part : Part (AnyGroup N n o e p h)) (g : runs.Runs N n o e p h) → part.group ≡ Runs g
      → HasItsForm part → runs_rest g ≡ rest_of (any_codes part.group) (any_dictionary part.group)
  runs_rest_is part g is form =
      let of : HasForm kinds.Runs (Runs g) =
      subst (λ (x : AnyGroup N n o e p h). HasForm (any_form x).kind x) is form in
      ap (λ (f : FormOf). f.rest) of
      ∙ ap (λ (x : AnyGroup N n o e p h). rest_of (any_codes x) (any_dictionary x)) (sym is)

  -- the runs of a group of them
  pub runs_in : (part : Part (AnyGroup N n o e p h)) (g : runs.Runs N n o e p h) → part.group ≡ Runs g
      → HasItsForm part → length (listed_begins g.rows.value.codes g.rows.value.rest)
      ≡ listed_runs_of (rest_of (any_codes part.group) (any_dictionary part.group)) (any_codes part.group)
  runs_in part g is form =
      let codes = g.rows.value.codes in
      runs_counted g.rows.value (λ i lt. omega (arith, g.is.in_tuples i lt, g.all))
      ∙ ap (λ (rest : Option ℕ). listed_runs_of rest codes) (runs_rest_is part g is form)
      ∙ ap (λ (x : AnyGroup N n o e p h). listed_runs_of
      (rest_of (any_codes part.group) (any_dictionary part.group)) (any_codes x)) (sym is)
