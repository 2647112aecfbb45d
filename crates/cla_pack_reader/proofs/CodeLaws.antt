-- Codes by how many tuples have occurred, and by the codes so far.
use Rattle.std.proofs.Common.{◌≡◌, ℕ, ◌+◌, ◌-◌, ◌<◌, ◌≤◌, max, Bool, eqb, List, ◌∷◌, [], ◌++◌, refl, sym, ap, subst}
use Rattle.std.proofs.Common.{◌∙◌, arith, inl, inr}
use Rattle.std.specs.Prelude.{nat_lt, nat_le, ◌&&◌, ◌||◌, not}
use Rattle.std.proofs.lemmas.Bool.{cases_lt, lt-ltb, le-ltb, lt-leb, eq-eqb, ne_eqb, and_left, and_right}
use Rattle.std.specs.Prelude.{true}
use Rattle.std.proofs.lemmas.Bool.Decides.{nat_tests}
use Rattle.cla_io.specs.Numbers.{is_number_width}
use Rattle.cla_codes.specs.Widths.{is_code_width}
use Rattle.cla_packed.specs.declared.fault.FieldName.{FieldName}
use Rattle.cla_packed.specs.declared.fault.PackFault.{PackFault}
use Rattle.cla_packed.specs.Codes.{different, fits_code}
use Rattle.cla_packed.specs.Fields.{field_at}
use Rattle.cla_packed_laws.proofs.Codes.{AreThoseBelow, none_below, different_push}
use Rattle.cla_pack_reader.specs.Places.{Places, Took, Refused}
use Rattle.cla_pack_reader.specs.Seen.{seen_with, fits_seen}

-- as many bytes as a code takes, a number can take
pub number_width : (k : ℕ) → is_code_width k ≡ true → is_number_width k ≡ true
number_width k is = grind (arith, nat_tests)

-- tests that agree make the same field
pub took_same : (k group : ℕ) (name : FieldName) (f g : ℕ → Bool) (b a : Places) (n : ℕ) → ((m : ℕ) → f m ≡ g m)
    → Took b a (field_at k f group name) n → Took b a (field_at k g group name) n
took_same k group name f g b a n same = subst (λ (test : ℕ → Bool). Took b a (field_at k test group name) n)
    (λ i m. same m i)

pub refused_same : (k group : ℕ) (name : FieldName) (f g : ℕ → Bool) (b : Places) (e : PackFault)
    → ((m : ℕ) → f m ≡ g m) → Refused b (field_at k f group name) e → Refused b (field_at k g group name) e
refused_same k group name f g b e same = subst (λ (test : ℕ → Bool). Refused b (field_at k test group name) e)
    (λ i m. same m i)

pub last_row : (left n i : ℕ) → i < n → left ≡ n - 1 - i → not (eqb (i + 1) n) ≡ nat_lt 0 left
last_row left n i lt is = elim (cases_lt 0 left) [
  | inl more ↦ ap not (ne_eqb (i + 1) n (λ e. omega (arith, e, is, more))) ∙ sym (lt-ltb 0 left more)
  | inr none ↦ ap not (eq-eqb (i + 1) n (omega (arith, lt, is, none))) ∙ sym (le-ltb 0 left none)
]

module _ (so_far : List ℕ) (all : AreThoseBelow (different so_far) so_far) where
  pub seen_more : (code : ℕ) → code ≤ different so_far
      → different (so_far ++ code ∷ []) ≡ seen_with (different so_far) code
  seen_more code le = different_push so_far code ∙ elim (cases_lt code (different so_far)) [
    | inl old ↦ rw (
      all code,
      lt-ltb code (different so_far) old,
      ne_eqb code (different so_far) (λ e.
          omega (arith, e, old)),
    ) (omega arith)
    | inr new ↦ rw (
      all code,
      le-ltb code (different so_far) new,
      eq-eqb code (different so_far) (omega (
        arith,
        le,
        new,
      )),
    ) refl
  ]

  pub seen_test : (d left code : ℕ) (last : Bool) → not last ≡ nat_lt 0 left
      → fits_seen d (different so_far) last code ≡ fits_code d left so_far code
  seen_test d left code last is = elim (cases_lt (different so_far) code) [
    | inl over ↦
        let far = lt-leb code (different so_far) over in
        let x = nat_lt code d in
        and_left (x && nat_le code (different so_far)) (not last || eqb (seen_with (different so_far) code) d)
        (and_right x (nat_le code (different so_far)) far)
        ∙ sym (and_left (x && nat_le code (different so_far)) (nat_lt 0 left || eqb (different (so_far ++ code ∷ [])) d)
        (and_right x (nat_le code (different so_far)) far))
    | inr near ↦ rw (seen_more code near, is) refl
  ]

pub seen_max : (seen code : ℕ) → code ≤ seen → max seen (code + 1) ≡ seen_with seen code
seen_max seen code le = elim (cases_lt code seen) [
  | inl old ↦ rw (ne_eqb code seen (λ e. omega (arith, e, old))) (omega (arith, old))
  | inr new ↦ rw (eq-eqb code seen (omega (arith, le, new))) (omega (arith, le, new))
]

pub none_different : 0 ≡ different []
unfolding different
none_different = refl

pub none_seen : AreThoseBelow (different []) []
unfolding different
none_seen = none_below
