-- A column that is placed by codes is placed as by the matrix.
use Rattle.std.proofs.Common.{◌≡◌, ℕ, ◌<◌, ◌≤◌, Bool, true, false, cond, nat_lt, lt-ltb, List, [], ◌∷◌, ◌++◌, map}
use Rattle.std.proofs.Common.{length, get_or, set, refl, sym, ap, ◌∙◌, subst}
use Rattle.std.proofs.lemmas.List.{map-set, map-append, get_or-map}
use Rattle.cla_spec.specs.Matrix.{Matrix}
use Rattle.cla_grouping.specs.Grouping.{Choice, choice_of, saving_by, placed_by, with_column}
use Rattle.cla_cocode.specs.declared.kept.Kept.{Kept}
use Rattle.cla_cocode.specs.declared.choice.Chosen.{Chosen}
use Rattle.cla_cocode.specs.Kept.{IsCounted, IsJoined, AreCounted, IsChosen, columns_of, code_saving}
use Rattle.cla_cocode.proofs.KeptLemmas.{savings-same}

-- the choice by codes is the choice by the matrix
chosen-same : (m : Matrix) (c : ℕ) (single : Kept) (ks : List Kept) (b : Chosen) → IsCounted m single
    → single.columns.items ≡ c ∷ [] → AreCounted m c ks
    → IsChosen (length ks) (map (λ g. code_saving g single) ks) b
    → IsChosen (length ks) (map (saving_by m c) (columns_of ks)) b
chosen-same m c single ks b one is all chosen = subst (λ s. IsChosen (length ks) s b)
    (savings-same m c single ks one is all.each) chosen

-- where nothing is saved the column stands alone
pub placed-alone : (m : Matrix) (c : ℕ) (single : Kept) (ks new : List Kept) (b : Chosen) → IsCounted m single
    → single.columns.items ≡ c ∷ [] → AreCounted m c ks
    → IsChosen (length ks) (map (λ g. code_saving g single) ks) b → b.saving ≡ 0 → new ≡ ks ++ single ∷ []
    → columns_of new ≡ with_column m (columns_of ks) c
placed-alone m c single ks new b one is all chosen none e =
    let choice : Choice = choice_of (map (saving_by m c) (columns_of ks)) in
    let same = chosen-same m c single ks b one is all chosen in
    ap columns_of e ∙ map-append (λ (k : Kept). k.columns.items) ks (single ∷ [])
    ∙ ap (λ cs. columns_of ks ++ cs ∷ []) is
    ∙ ap (λ t. cond (nat_lt 0 t) (set (columns_of ks) choice.place (get_or (columns_of ks) choice.place [] ++ c ∷ []))
    (columns_of ks ++ (c ∷ []) ∷ [])) (sym none ∙ same.saving)

-- where the choice saves, the chosen group takes the column in
pub placed-taken : (m : Matrix) (c : ℕ) (single k d : Kept) (ks : List Kept) (b : Chosen) → IsCounted m single
    → single.columns.items ≡ c ∷ [] → AreCounted m c ks
    → IsChosen (length ks) (map (λ g. code_saving g single) ks) b → 0 < b.saving
    → IsJoined (get_or ks b.place d) single c k
    → columns_of (set ks b.place k) ≡ with_column m (columns_of ks) c
placed-taken m c single k d ks b one is all chosen more j =
    let same = chosen-same m c single ks b one is all chosen in
    map-set (λ (k : Kept). k.columns.items) ks b.place k
    ∙ ap (set (columns_of ks) b.place)
    (j.columns ∙ ap (λ cs. cs ++ c ∷ [])
    (sym (get_or-map (λ (k : Kept). k.columns.items) ks b.place d [] (same.within more))))
    ∙ sym (taken (nat_lt 0 b.saving) (lt-ltb _ _ more) _ _)
    ∙ ap (λ t. placed_by (made b.place t) (columns_of ks) c) same.saving
    ∙ ap (λ t. placed_by (made t (choice_of (map (saving_by m c) (columns_of ks))).saving) (columns_of ks) c)
    (same.place more)
  where
    made : ℕ → ℕ → Choice
    made place saving = record { place = place; saving = saving }

    taken : (b : Bool) → b ≡ true → (x y : List (List ℕ)) → cond b x y ≡ x
    taken true h x y = refl
    taken false h x y = absurd (cc)

-- the group at a place is one of all
pub at_place : (m : Matrix) (c place : ℕ) (k : Kept) (ks : List Kept) → AreCounted m c ks → place < length ks → k
    ≡ get_or ks place k → IsCounted m k × (length k.columns.items ≤ c)
at_place m c place k ks all h is =
    let P : Kept → Type 0 = λ x. IsCounted m x × (length x.columns.items ≤ c) in
    subst P (sym is) (all.each place k h, all.narrow place k h)
