-- The fields before the groups, one after the other.
use Rattle.std.proofs.Common.{◌≡◌, ℕ, ◌*◌, ◌^◌, ◌<◌, ◌≤◌, List, [], Bool, true, Ok, Err, refl, sym, ap, subst, ◌∙◌}
use Rattle.std.proofs.Common.{arith, inl, inr}
use Rattle.std.specs.Prelude.{nat_le, ◌&&◌, ◌==◌}
use Rattle.std.proofs.lemmas.Bool.{cases_lt, lt-ltb, le-ltb, le-leb, lt-leb, eq-eqb, ne_eqb}
use Rattle.cla_packed.specs.declared.fault.FieldName.{FieldName}
use Rattle.cla_packed.specs.declared.fault.FieldName.TheVariants as names
use Rattle.cla_packed.specs.declared.fault.PackFault.{PackFault}
use Rattle.cla_packed.specs.declared.fault.PackFault.TheVariants.{TooLarge}
use Rattle.cla_packed.specs.Fields.{Place, Read, Fails, field_at, refused_at, then_at, as_at, list_at, ◌>>=◌}
use Rattle.cla_packed.specs.Files.{PackedGroup, PackedLayout, Header as Parts, magic, fits_size, file_at, group_at}
use Rattle.cla_packed.specs.Files.{layout_of}
use Rattle.cla_pack_reader.specs.Ranges.{within}
use Rattle.cla_pack_reader.specs.Headers.{layout_with}
use Rattle.cla_pack_reader.specs.Places.{Places, Took, Refused}
use Rattle.cla_pack_reader.proofs.Steps.{Follows, reads_on}
use Rattle.cla_pack_reader.proofs.Loops.{fails_again}

size_test : (n : ℕ) → within 1 2147483647 n ≡ fits_size n
size_test n = ap (λ (b : Bool). nat_le 1 n && b) (elim (cases_lt n (2 ^ 31)) [
  | inl lt ↦ le-leb n 2147483647 (omega (arith, lt)) ∙ sym (lt-ltb n (2 ^ 31) lt)
  | inr ge ↦ lt-leb n 2147483647 (omega (arith, ge)) ∙ sym (le-ltb n (2 ^ 31) ge)
])

-- the field of a number of rows or columns
pub size_field : (name : FieldName) (p : Place)
    → field_at 4 (within 1 2147483647) 0 name p ≡ field_at 4 fits_size 0 name p
size_field name p i = field_at 4 (λ n. size_test n i) 0 name p

one_test : (m n : ℕ) → within m m n ≡ (n == m)
one_test m n = elim (cases_lt n m) [
  | inl lt ↦ rw (lt-leb m n lt, ne_eqb n m (λ e. omega (arith, e, lt))) refl
  | inr ge ↦ elim (cases_lt m n) [
    | inl more ↦ rw (le-leb m n ge, lt-leb n m more, ne_eqb n m (λ e. omega (arith, e, more))) refl
    | inr le ↦
        let same : n ≡ m = omega (arith, ge, le) in
        rw (le-leb m n ge, le-leb n m le, eq-eqb n m same) refl
  ]
]

-- the field that tells the form of a file
pub magic_field : (p : Place)
    → field_at 8 (within magic magic) 0 names.Magic p ≡ field_at 8 (λ n. n == magic) 0 names.Magic p
magic_field p i = field_at 8 (λ n. one_test magic n i) 0 names.Magic p

pub magic_read : (n : ℕ) (p q : Place) → magic ≤ n → n ≤ magic
    → field_at 8 (within magic magic) 0 names.Magic p ≡ Ok (n, q)
    → field_at 8 (λ n. n == magic) 0 names.Magic p ≡ Ok (magic, q)
magic_read n p q low high h =
    let is : n ≡ magic = omega (arith, low, high) in
    sym (magic_field p) ∙ h ∙ ap (λ (m : ℕ). Ok (m, q)) is

-- something before what was read
abbrev behind : {A B : Type 0} → A → Read B → Read (A × B)
behind a r = r >>= λ b. Ok ((a, b.0), b.1)

abbrev as_layout : Read Parts → Read PackedLayout
as_layout r = r >>= λ a. Ok (layout_of a.0, a.1)

-- what stands around the groups is taken off
in_layout : (rows cols n : ℕ) (groups : Read (List PackedGroup))
    → as_layout (behind magic (behind rows (behind cols (behind {A = Unit {0}} tt (behind n groups)))))
    ≡ layout_with rows cols groups
in_layout rows cols n (Ok x) = refl
in_layout rows cols n (Err e) = refl

module _ (k bits : ℕ) (p : Place) where
  pub magic_ends : (e : PackFault) → Fails e (field_at 8 (λ n. n == magic) 0 names.Magic p) → Fails e (file_at k bits p)
  unfolding as_at then_at
  magic_ends e h = fails_again e (field_at 8 (λ n. n == magic) 0 names.Magic p) (file_at k bits p)
      (λ f bad. rw bad refl) h

  module _ (p1 : Place) (m : field_at 8 (λ n. n == magic) 0 names.Magic p ≡ Ok (magic, p1)) where
    pub rows_end : (e : PackFault) → Fails e (field_at 4 fits_size 0 names.Rows p1) → Fails e (file_at k bits p)
    unfolding as_at then_at
    rows_end e h = fails_again e (field_at 4 fits_size 0 names.Rows p1) (file_at k bits p) (λ f bad. rw m (rw bad refl))
        h

    module _ (rows : ℕ) (p2 : Place) (r : field_at 4 fits_size 0 names.Rows p1 ≡ Ok (rows, p2)) where
      pub columns_end : (e : PackFault) → Fails e (field_at 4 fits_size 0 names.Columns p2) → Fails e (file_at k bits p)
      unfolding as_at then_at
      columns_end e h = fails_again e (field_at 4 fits_size 0 names.Columns p2) (file_at k bits p)
          (λ f bad. rw m (rw r (rw bad refl))) h

      module _ (cols : ℕ) (p3 : Place) (c : field_at 4 fits_size 0 names.Columns p2 ≡ Ok (cols, p3)) where
        pub too_large : 2 ^ 26 < rows * cols → file_at k bits p ≡ Err (TooLarge rows cols)
        unfolding as_at then_at refused_at
        too_large h = rw m (rw r (rw c (rw (lt-leb (rows * cols) (2 ^ 26) h) refl)))

        module _ (few : rows * cols ≤ 2 ^ 26) where
          pub groups_end : (e : PackFault) → Fails e (field_at 4 (within 1 cols) 0 names.Groups p3) →
              Fails e (file_at k bits p)
          unfolding as_at then_at refused_at
          groups_end e h = fails_again e (field_at 4 (within 1 cols) 0 names.Groups p3) (file_at k bits p)
              (λ f bad. rw m (rw r (rw c (rw (le-leb (rows * cols) (2 ^ 26) few) (rw bad refl))))) h

          pub header_read : (n : ℕ) (q : Place) → field_at 4 (within 1 cols) 0 names.Groups p3 ≡ Ok (n, q)
              → file_at k bits p ≡ layout_with rows cols (list_at (group_at k bits rows cols) n [] q)
          unfolding as_at then_at refused_at
          header_read n q h = rw m (rw r (rw c (rw (le-leb (rows * cols) (2 ^ 26) few)
              (rw h (in_layout rows cols n (list_at (group_at k bits rows cols) n [] q))))))

-- ---- what was read

pub size_took : (name : FieldName) (b a : Places) (n : ℕ) → Took b a (field_at 4 (within 1 2147483647) 0 name) n
    → Took b a (field_at 4 fits_size 0 name) n
size_took name b a n took told q h =
    let t = took told q h in
    (t.0, t.1, sym (size_field name t.0) ∙ t.2)

pub size_refused : (name : FieldName) (b : Places) (e : PackFault)
    → Refused b (field_at 4 (within 1 2147483647) 0 name) e → Refused b (field_at 4 fits_size 0 name) e
size_refused name b e bad p h = subst (λ (r : Read ℕ). Fails e r) (size_field name p) (bad p h)

pub no_magic : (bits : ℕ) (b : Places) (e : PackFault) → Refused b (field_at 8 (within magic magic) 0 names.Magic) e
    → Refused b (file_at 8 bits) e
no_magic bits b e bad p h = magic_ends 8 bits p e (subst (λ (r : Read ℕ). Fails e r) (magic_field p) (bad p h))

module _ (bits : ℕ) (b one : Places) (n : ℕ) (low : magic ≤ n) (high : n ≤ magic)
    (magic_took : Took b one (field_at 8 (within magic magic) 0 names.Magic) n) where
  first : Follows b one → (p : Place) → b true p
      → (q : Place) × one true q × (field_at 8 (λ n. n == magic) 0 names.Magic p ≡ Ok (magic, q))
  first f p h =
      let x = reads_on b one (field_at 8 (within magic magic) 0 names.Magic) n f magic_took p h in
      (x.0, x.1, magic_read n p x.0 low high x.2)

  pub no_rows : (e : PackFault) → Follows b one → Refused one (field_at 4 fits_size 0 names.Rows) e
      → Refused b (file_at 8 bits) e
  no_rows e f bad p h = (let x = first f p h in rows_end 8 bits p x.0 x.2 e (bad x.0 x.1))

  module _ (two : Places) (rows : ℕ) (rows_took : Took one two (field_at 4 fits_size 0 names.Rows) rows) where
    pub no_columns : (e : PackFault) → Follows b one → Follows one two
        → Refused two (field_at 4 fits_size 0 names.Columns) e → Refused b (file_at 8 bits) e
    no_columns e f g bad p h =
        let x = first f p h in
        let y = reads_on one two (field_at 4 fits_size 0 names.Rows) rows g rows_took x.0 x.1 in
        columns_end 8 bits p x.0 x.2 rows y.0 y.2 e (bad y.0 y.1)

    module _ (three : Places) (cols : ℕ) (cols_took : Took two three (field_at 4 fits_size 0 names.Columns) cols) where
      pub over : Follows b one → Follows one two → Follows two three → 2 ^ 26 < rows * cols
          → Refused b (file_at 8 bits) (TooLarge rows cols)
      over f g k more p h =
          let x = first f p h in
          let y = reads_on one two (field_at 4 fits_size 0 names.Rows) rows g rows_took x.0 x.1 in
          let z = reads_on two three (field_at 4 fits_size 0 names.Columns) cols k cols_took y.0 y.1 in
          too_large 8 bits p x.0 x.2 rows y.0 y.2 cols z.0 z.2 more

      pub no_groups : (e : PackFault) → Follows b one → Follows one two → Follows two three → rows * cols ≤ 2 ^ 26
          → Refused three (field_at 4 (within 1 cols) 0 names.Groups) e → Refused b (file_at 8 bits) e
      no_groups e f g k few bad p h =
          let x = first f p h in
          let y = reads_on one two (field_at 4 fits_size 0 names.Rows) rows g rows_took x.0 x.1 in
          let z = reads_on two three (field_at 4 fits_size 0 names.Columns) cols k cols_took y.0 y.1 in
          groups_end 8 bits p x.0 x.2 rows y.0 y.2 cols z.0 z.2 few e (bad z.0 z.1)

      pub header_took : (after : Places) (m : ℕ) → rows * cols ≤ 2 ^ 26
          → Took three after (field_at 4 (within 1 cols) 0 names.Groups) m → (told : Bool) (q : Place) → after told q
          → (p : Place) × b told p
          × (file_at 8 bits p ≡ layout_with rows cols (list_at (group_at 8 bits rows cols) m [] q))
      header_took after m few took told q h =
          let z = took told q h in
          let y = cols_took told z.0 z.1 in
          let x = rows_took told y.0 y.1 in
          let p = magic_took told x.0 x.1 in (
            p.0,
            p.1,
            header_read 8 bits p.0 x.0 (magic_read n p.0 x.0 low high p.2) rows y.0 x.2 cols z.0 y.2 few m q z.2,
          )
