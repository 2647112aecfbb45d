-- The greatest of savings and the first place where it stands, found one by one.
use Rattle.std.proofs.Common.{◌≡◌, ℕ, ◌+◌, ◌-◌, ◌<◌, ◌≤◌, false, cond, not, eqb, eq-eqb, nat_lt, lt-ltb, max, List, []}
use Rattle.std.proofs.Common.{◌∷◌, drop, length, refl, sym, ap, ◌∙◌, subst, arith, inl, inr}
use Rattle.std.specs.List.{position_or_len}
use Rattle.std.proofs.lemmas.Bool.{cases_lt, ne_eqb}
use Rattle.cla_grouping.specs.Grouping.{greatest, window}
use Rattle.cla_cocode.specs.declared.choice.Chosen.{Chosen}
use Rattle.cla_cocode.specs.Kept.{better, IsChosen}

-- the best so far, and then these savings, from a place on
abbrev pub choice_from : ℕ → List ℕ → Chosen → Chosen
choice_from at [] best = best
choice_from at (s ∷ ss) best = choice_from (at + 1) ss (better at s best)

abbrev pub first_place : List ℕ → ℕ → ℕ
first_place savings s = position_or_len (λ x. eqb x s) savings

not_less : (a b : ℕ) → b ≤ a → nat_lt a b ≡ false
not_less a b h = grind arith

max_right : (a b : ℕ) → a ≤ b → max a b ≡ b
max_right a b h = omega (arith, h)

max_left : (a b : ℕ) → b ≤ a → max a b ≡ a
max_left a b h = omega (arith, h)

-- where nothing is above the best so far, it stays
pub choice_stays : (at : ℕ) (ss : List ℕ) (best : Chosen) → greatest ss ≤ best.saving → choice_from at ss best ≡ best
choice_stays at [] best h = refl
choice_stays at (s ∷ ss) best h =
    ap (λ b. choice_from (at + 1) ss (cond b (record {
      place = at;
      saving =
          s;
    }) best)) (not_less best.saving s (omega (arith, h)))
    ∙ choice_stays (at + 1) ss best (omega (arith, h))

-- the first place of the greatest, where it is not the first saving
pub later : (s : ℕ) (ss : List ℕ) (at : ℕ) → s < greatest ss → (max s (greatest ss) ≡ greatest ss)
    × (at + 1 + first_place ss (greatest ss) ≡ at + first_place (s ∷ ss) (max s (greatest ss)))
later s ss at h =
    let most : max s (greatest ss) ≡ greatest ss = max_right s (greatest ss) (omega (arith, h)) in
    let other : eqb s (greatest ss) ≡ false = ne_eqb s (greatest ss) (λ e. omega (arith, e, h)) in
    let place : first_place (s ∷ ss) (max s (greatest ss)) ≡ 1 + first_place ss (greatest ss) =
    ap (first_place (s ∷ ss)) most ∙ ap (λ b. cond (not b) (1 + first_place ss (greatest ss)) 0) other in
    (most, omega (arith, place))

-- the first saving is the greatest
pub first : (s : ℕ) (ss : List ℕ) (at : ℕ) → greatest ss ≤ s → (max s (greatest ss) ≡ s)
    × (at ≡ at + first_place (s ∷ ss) (max s (greatest ss)))
first s ss at h =
    let most : max s (greatest ss) ≡ s = max_left s (greatest ss) h in
    let place : first_place (s ∷ ss) (max s (greatest ss)) ≡ 0 =
    ap (first_place (s ∷ ss)) most ∙ ap (λ b. cond (not b) (1 + first_place ss s) 0) (eq-eqb s s refl) in
    (most, omega (arith, place))

abbrev IsMoved : ℕ → List ℕ → Chosen → Type 0
IsMoved at ss c = (c.saving ≡ greatest ss) × (c.place ≡ at + first_place ss (greatest ss))

-- else it is the greatest, at its first place
pub choice_moves : (at : ℕ) (ss : List ℕ) (best : Chosen) → best.saving < greatest ss
    → IsMoved at ss (choice_from at ss best)
choice_moves at [] best h = absurd (omega (arith, h))
choice_moves at (s ∷ ss) best h = elim (cases_lt best.saving s) [
  | inl rises ↦
      let now : Chosen = record { place = at; saving = s } in
      let here : better at s best ≡ now = ap (λ b. cond b now best) (lt-ltb best.saving s rises) in
      subst (λ b. IsMoved at (s ∷ ss) (choice_from (at + 1) ss b)) (sym here) (elim (cases_lt s (greatest ss)) [
        | inl more ↦
            let next = choice_moves (at + 1) ss now more in
            let rest = later s ss at more in
            (next.0 ∙ sym rest.0, next.1 ∙ rest.1)
        | inr most ↦
            let stays = choice_stays (at + 1) ss now most in
            let rest = first s ss at most in
            (ap (λ (c : Chosen). c.saving) stays ∙ sym rest.0, ap (λ (c : Chosen). c.place) stays ∙ rest.1)
      ])
  | inr stays ↦
      let now : Chosen = record { place = at; saving = s } in
      let here : better at s best ≡ best = ap (λ b. cond b now best) (not_less best.saving s stays) in
      let more : best.saving < greatest ss = omega (arith, h, stays) in
      let next = choice_moves (at + 1) ss best more in
      let rest = later s ss at (omega (arith, more, stays)) in
      subst (λ b. IsMoved at (s ∷ ss) (choice_from (at + 1) ss b)) (sym here) (next.0 ∙ sym rest.0, next.1 ∙ rest.1)
]

-- the choice among the last groups
pub chosen : (savings : List ℕ) (groups : ℕ) (c : Chosen) → length savings ≡ groups → (0 < c.saving → c.place < groups)
    → c ≡ choice_from (groups - window) (drop (groups - window) savings) (record { place = 0; saving = 0 })
    → IsChosen groups savings c
chosen savings groups c count within is = subst (λ n. IsChosen n savings c) count (elim (cases_lt 0 (greatest last)) [
  | inl some ↦
      let moved = choice_moves from last none some in
      record {
        saving = ap (λ (x : Chosen). x.saving) same ∙ moved.0;
        place = λ _. ap (λ (x : Chosen). x.place) same
            ∙ moved.1;
        within = fits;
      }
  | inr nothing ↦
      let stays = choice_stays from last none nothing in
      let zero_is : c.saving ≡ 0 = ap (λ (x : Chosen). x.saving) same ∙ ap (λ (x : Chosen). x.saving) stays in
      record {
        saving = omega (arith, zero_is, nothing);
        place = λ h. absurd (omega (arith, h, zero_is));
        within =
            fits;
      }
])
  where
    from : ℕ
    from = length savings - window

    last : List ℕ
    last = drop from savings

    none : Chosen
    none = record { place = 0; saving = 0 }

    same : c ≡ choice_from from last none
    same = is ∙ ap (λ n. choice_from (n - window) (drop (n - window) savings) none) (sym count)

    fits : 0 < c.saving → c.place < length savings
    fits h = omega (arith, within h, count)
