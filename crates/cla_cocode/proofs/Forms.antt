-- Groups that are built are in the one form of their kind.
use Rattle.std.proofs.Common.{◌≡◌, ℕ, ℤ, suc, ◌+◌, ◌*◌, ◌<◌, Bool, true, false, ◌&&◌, eqb-true, List, [], ◌∷◌, ◌++◌}
use Rattle.std.proofs.Common.{map, length, refl, sym, ap, ◌∙◌, subst, arith, length-append, inl, inr}
use Rattle.std.specs.List.{range_with_len}
use Rattle.std.specs.Ordering.{int_eq}
use Rattle.std.proofs.lemmas.Bool.{cases_lt}
use Rattle.std.proofs.lemmas.Bool.Decides.{Decides-int_eq}
use Rattle.std.proofs.lemmas.List.{length-map, get_or-map, get_or_append_left, get_or_push}
use Rattle.cla_spec.specs.Matrix.{Matrix, entry}
use Rattle.cla_layout.specs.Canonical.{AreDistinct, HasKind, IsCanonical}
use Rattle.cla_layout.specs.Groups.{at, code_of, value_of, IsGroup, AreNumbered, first_row_of}
use Rattle.cla_layout.specs.Layouts.{LayoutPart, IsWhole, layout_with, part_at, no_part, column_at}
use Rattle.cla_layout.specs.Tuples.{tuples_of}
use Rattle.cla_layout.specs.declared.kind.Kind.{Kind}
use Rattle.cla_layout.specs.declared.kind.Kind.TheVariants as kind
use Rattle.cla_layout.proofs.Counting.{rows_count, code_is, first_row_is}
use Rattle.cla_layout.proofs.Regroup.{first_row_there, code_of_first_row}
use Rattle.cla_layout.proofs.Tuples.{tuple_value, tuples_count}
use Rattle.cla_rows.specs.Counted.{AreCounted}
use Rattle.cla_coded.specs.AnyGroups.{FormOf, plain_form, form_of, IsGroupFrom}
use Rattle.cla_grouping.specs.Tuples.{tuples_in, same_tuple}
use Rattle.cla_grouping.proofs.JoinLemmas.{same-code}
use Rattle.cla_grouping.proofs.TupleLemmas.{same_tuple-equiv}
use Rattle.cla_cocode.specs.Built.{values_in_rows, form_at, IsInForm, AreInForm, AreOwnForms}
use Rattle.cla_cocode.proofs.PartLemmas.{used, values-at, first_rows-within}

and_true : (a b : Bool) → a ≡ true → b ≡ true → (a && b) ≡ true
and_true true b h k = k
and_true false b h k = absurd (cc)

-- rows with the same entries have the same tuple
entries-same : (m : Matrix) (columns : List ℕ) (i j : ℕ)
    → ((c : ℕ) → c < length columns → entry m i (code_of columns c) ≡ entry m j (code_of columns c))
    → same_tuple m columns i j ≡ true
entries-same m [] i j h = refl
entries-same m (column ∷ columns) i j h =
    and_true (int_eq (entry m i column) (entry m j column)) (same_tuple m columns i j)
    ((Decides-int_eq (entry m i column) (entry m j column)).1 (h 0 (omega arith)))
    (entries-same m columns i j (λ c there. h (suc c) (omega (arith, there))))

-- the tuples of first rows are distinct
pub tuples-distinct : (m : Matrix) (columns counts rows : List ℕ) (n : ℕ) (values : List ℤ)
    → AreCounted (tuples_in m columns).codes (tuples_in m columns).distinct counts rows → values
    ≡ values_in_rows m columns rows
    → n ≡ (tuples_in m columns).distinct → AreDistinct (tuples_of (length columns) n values)
tuples-distinct m columns counts rows n values counted is count k l k_there l_there same =
    let k_in : k < n = omega (arith, k_there, tuples_count (length columns) n values) in
    let l_in : l < n = omega (arith, l_there, tuples_count (length columns) n values) in
    let k_row = row k k_in in
    let l_row = row l l_in in
    let alike : same_tuple m columns (code_of rows k) (code_of rows l) ≡ true =
    entries-same m columns (code_of rows k) (code_of rows l) (λ c place.
    (sym (value k c k_in place) ∙ ap (λ (t : List ℤ). at t c) same ∙ value l c l_in place)) in
    let equal : code_of codes (code_of rows k) ≡ code_of codes (code_of rows l) =
    eqb-true _ _ (same-code (same_tuple m columns) (same_tuple-equiv m columns) m.rows (code_of rows k)
    (code_of rows l) k_row.0 l_row.0 ∙ alike) in
    sym k_row.1 ∙ equal ∙ l_row.1
  where
    codes : List ℕ
    codes = (tuples_in m columns).codes

    value : (k c : ℕ) → k < n → c < length columns → value_of (tuples_of (length columns) n values) k c
        ≡ entry m (code_of rows k) (code_of columns c)
    value k c there place =
        tuple_value (length columns) n values k c there place
        ∙ ap (λ v. at v (k * length columns + c)) is
        ∙ values-at m columns rows k c (omega (arith, there, count, counted.a_row_each)) place

    row : (k : ℕ) → k < n → (code_of rows k < m.rows) × (code_of codes (code_of rows k) ≡ k)
    row k there =
        let lt : k < (tuples_in m columns).distinct = omega (arith, there, count) in (
          first_rows-within m columns counts rows counted k (omega (arith, lt, counted.a_row_each)),
          ap (code_of codes) (counted.first_row k lt) ∙ code_of_first_row codes k (used m columns k lt),
        )

-- a code of its own for each row is numbered by first row
plain-numbered : (bits width : ℕ) (codes : List ℕ) (tuples : List (List ℤ)) → IsGroup bits width codes tuples
    → codes ≡ range_with_len 0 (length codes) → AreNumbered codes (length tuples)
plain-numbered bits width codes tuples is own k there =
    let some = is.used (k + 1) there in
    let row = first_row_there codes (k + 1) some in
    let first = first_row_of codes (k + 1) in
    let told : first ≡ k + 1 = sym (code_is (length codes) first row) ∙ ap (λ cs. code_of cs first) (sym own)
    ∙ code_of_first_row codes (k + 1) some in
    let before : first_row_of codes k ≡ k = ap (λ cs. first_row_of cs k) own
    ∙ first_row_is (length codes) k (omega (arith, told, row)) in
    omega (arith, told, before)

own_form : (k : Kind) (codes codes' : List ℕ) (tuples tuples' : List (List ℤ)) → codes' ≡ codes → tuples' ≡ tuples
    → form_of k codes tuples ≡ form_of k codes' tuples'
own_form k codes codes' tuples tuples' h g = ap (λ cs. form_of k cs tuples) (sym h) ∙ ap (form_of k codes') (sym g)

kept-numbered : (codes codes' : List ℕ) (tuples tuples' : List (List ℤ)) → AreNumbered codes (length tuples) → codes'
    ≡ codes → tuples' ≡ tuples
    → AreNumbered codes' (length tuples')
kept-numbered codes codes' tuples tuples' are h g =
    subst (λ cs. AreNumbered cs (length tuples')) (sym h) (subst (λ ts. AreNumbered codes (length ts)) (sym g) are)

-- a group of distinct tuples that are numbered by first row is in the one form of its kind
pub in-form : (k : Kind) (bits width wide columns : ℕ) (codes : List ℕ) (tuples : List (List ℤ)) (form : FormOf)
    (part : LayoutPart)
    → AreNumbered codes (length tuples) → AreDistinct tuples → IsGroup bits wide part.codes part.tuples
    → IsGroupFrom k width codes tuples form columns part.codes part.tuples → IsInForm form part
in-form kind.Plain bits width wide columns codes tuples form part numbered distinct group is =
    let own : part.codes ≡ range_with_len 0 (length part.codes) =
    is.has.0 ∙ ap (range_with_len 0) (sym (ap length is.has.0 ∙ rows_count (length codes))) in
    subst (λ f. IsInForm f part) (sym is.form_is)
    (record { numbered = plain-numbered bits wide part.codes part.tuples group own; has_kind = own; own = refl })
in-form kind.Codes bits width wide columns codes tuples form part numbered distinct group is =
    subst (λ f. IsInForm f part) (sym is.form_is)
    (record {
      numbered = kept-numbered codes part.codes tuples part.tuples numbered is.has.0 is.has.1;
      has_kind = subst AreDistinct (sym is.has.1) distinct;
      own = own_form kind.Codes codes part.codes tuples part.tuples is.has.0 is.has.1;
    })
in-form kind.Offsets bits width wide columns codes tuples form part numbered distinct group is =
    subst (λ f. IsInForm f part) (sym is.form_is)
    (record {
      numbered = kept-numbered codes part.codes tuples part.tuples numbered is.has.0 is.has.1;
      has_kind = subst AreDistinct (sym is.has.1) distinct;
      own = own_form kind.Offsets codes part.codes tuples part.tuples is.has.0 is.has.1;
    })
in-form kind.Runs bits width wide columns codes tuples form part numbered distinct group is =
    subst (λ f. IsInForm f part) (sym is.form_is)
    (record {
      numbered = kept-numbered codes part.codes tuples part.tuples numbered is.has.0 is.has.1;
      has_kind = subst AreDistinct (sym is.has.1) distinct;
      own = own_form kind.Runs codes part.codes tuples part.tuples is.has.0 is.has.1;
    })

-- one more part
pub form-push : (forms : List FormOf) (parts : List LayoutPart) (f : FormOf) (p : LayoutPart) → length forms
    ≡ length parts → AreInForm forms parts
    → IsInForm f p → AreInForm (forms ++ f ∷ []) (parts ++ p ∷ [])
form-push forms parts f p same each last q there = elim (cases_lt q (length parts)) [
  | inl inner ↦
      subst (λ x. IsInForm (form_at (forms ++ f ∷ []) q) x) (sym (get_or_append_left parts (p ∷ []) no_part q inner))
      (subst (λ x. IsInForm x (part_at parts q))
      (sym (get_or_append_left forms (f ∷ []) plain_form q (omega (arith, inner, same)))) (each q inner))
  | inr past ↦
      let end : length parts ≡ q = omega (arith, there, past, length-append parts (p ∷ [])) in
      subst (λ x. IsInForm (form_at (forms ++ f ∷ []) q) x) (sym (get_or_push parts p no_part q end))
      (subst (λ x. IsInForm x p) (sym (get_or_push forms f plain_form q (same ∙ end))) last)
]

-- parts that are in the form of their kinds, in the order of their first columns, make a canonical layout
pub parts-canonical : (bits rows cols : ℕ) (parts : List LayoutPart) (forms : List FormOf) → length forms ≡ length parts
    → IsWhole bits (layout_with rows cols parts)
    → ((q r : ℕ) → q < r → r < length parts → column_at (part_at parts q).columns 0 < column_at
    (part_at parts r).columns 0)
    → AreInForm forms parts → IsCanonical bits (layout_with rows cols parts) (map (λ (f : FormOf). f.kind) forms)
parts-canonical bits rows cols parts forms same whole in_order are = record {
  whole = whole;
  a_kind_each = length-map forms (λ (f : FormOf). f.kind) ∙ same;
  in_order = in_order;
  numbered = λ q there. (are q there).numbered;
  kinds_are = λ q there.
      subst (λ k. HasKind k (part_at parts q))
      (sym (get_or-map (λ (f : FormOf). f.kind) forms q plain_form kind.Plain (omega (arith, there, same))))
      (are q there).has_kind;
}

pub own-forms : (parts : List LayoutPart) (forms : List FormOf) → AreInForm forms parts → AreOwnForms forms parts
own-forms parts forms are q there = (are q there).own
