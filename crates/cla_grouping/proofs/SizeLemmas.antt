-- Columns that are no fewer, with no fewer tuples, rows and runs, take no fewer bytes.
use Rattle.std.proofs.Common.{◌≡◌, ℕ, ◌+◌, ◌*◌, ◌<◌, ◌≤◌, min, sym, ap, ◌∙◌, arith, subst}
use Rattle.std.proofs.lemmas.Grind.{common_steps}
use Rattle.cla_grouping.specs.declared.sizes.Figures.{Figures}
use Rattle.cla_grouping.specs.declared.sizes.KindBytes.{KindBytes}
use Rattle.cla_layout.specs.declared.kind.Kind.TheVariants as kind
use Rattle.cla_grouping.specs.Sizes.{code_bytes_of, segments_of, plain_bytes, codes_bytes, offsets_bytes, runs_bytes}
use Rattle.cla_grouping.specs.Sizes.{lesser_of, best_bytes, AreNoLess, with_tuples_of}

pub times-le : (a b c d : ℕ) → a ≤ c → b ≤ d → a * b ≤ c * d
times-le a b c d h k = grind (arith, common_steps)

pub code_bytes_of-le : (a b : ℕ) → a ≤ b → code_bytes_of a ≤ code_bytes_of b
code_bytes_of-le a b h = grind arith

lesser-bytes : (a b : KindBytes) → (lesser_of a b).bytes ≡ min a.bytes b.bytes
lesser-bytes a b = grind arith

pub best-least : (f : Figures)
    → best_bytes f ≡ min (min (min (plain_bytes f.rows f.width) (codes_bytes f)) (offsets_bytes f)) (runs_bytes f)
best-least f =
    let plain : KindBytes = record { kind = kind.Plain; bytes = plain_bytes f.rows f.width } in
    let codes : KindBytes = record { kind = kind.Codes; bytes = codes_bytes f } in
    let offsets : KindBytes = record { kind = kind.Offsets; bytes = offsets_bytes f } in
    let runs : KindBytes = record { kind = kind.Runs; bytes = runs_bytes f } in
    lesser-bytes (lesser_of (lesser_of plain codes) offsets) runs
    ∙ ap (λ m. min m (runs_bytes f))
    (lesser-bytes (lesser_of plain codes) offsets ∙ ap (λ m. min m (offsets_bytes f)) (lesser-bytes plain codes))

-- no fewer tuples, rows and runs weigh no less
pub plain-le : (f g : Figures) → AreNoLess f g → plain_bytes f.rows f.width ≤ plain_bytes g.rows g.width
plain-le f g h =
    let cells = times-le f.rows f.width g.rows g.width (omega (arith, h.rows)) h.width in
    let width = h.width in
    omega (arith, cells, width)

pub codes-le : (f g : Figures) → AreNoLess f g → codes_bytes f ≤ codes_bytes g
codes-le f g h =
    let values = times-le f.distinct f.width g.distinct g.width h.distinct h.width in
    let codes =
    times-le f.rows (code_bytes_of f.distinct) g.rows (code_bytes_of g.distinct) (omega (arith, h.rows))
    (code_bytes_of-le f.distinct g.distinct h.distinct) in
    let width = h.width in
    sum (f.distinct * f.width) (f.rows * code_bytes_of f.distinct) (g.distinct * g.width)
    (g.rows * code_bytes_of g.distinct) width values codes
  where
    sum : (a b c d : ℕ) → f.width ≤ g.width → a ≤ c → b ≤ d
        → 5 + 4 * f.width + 4 + 8 * a + b ≤ 5 + 4 * g.width + 4 + 8 * c + d
    sum a b c d w h k = omega arith

pub offsets-le : (f g : Figures) → AreNoLess f g → offsets_bytes f ≤ offsets_bytes g
offsets-le f g h =
    let values = times-le f.listed f.width g.listed g.width h.listed h.width in
    let lists =
    times-le (segments_of f.rows) f.listed (segments_of g.rows) g.listed (same (f.rows) (g.rows) h.rows) h.listed in
    sum (f.listed * f.width) (segments_of f.rows * f.listed) f.listed_rows (g.listed * g.width)
    (segments_of g.rows * g.listed) g.listed_rows h.width values lists h.listed_rows
  where
    same : (m n : ℕ) → m ≡ n → segments_of m ≤ segments_of n
    same m n e = omega (arith, ap segments_of e)

    sum : (a b s c d t : ℕ) → f.width ≤ g.width → a ≤ c → b ≤ d → s ≤ t
        → 5 + 4 * f.width + 5 + 8 * a + (2 * b + 2 * s) ≤ 5 + 4 * g.width + 5 + 8 * c + (2 * d + 2 * t)
    sum a b s c d t w h k l = omega arith

pub runs-le : (f g : Figures) → AreNoLess f g → runs_bytes f ≤ runs_bytes g
runs-le f g h =
    let values = times-le f.listed f.width g.listed g.width h.listed h.width in
    let width = h.width in
    let listed = h.listed in
    let runs = h.listed_runs in
    omega (arith, values, width, listed, runs)

pub best-le : (f g : Figures) → AreNoLess f g → best_bytes f ≤ best_bytes g
best-le f g h =
    let plain = plain-le f g h in
    let codes = codes-le f g h in
    let offsets = offsets-le f g h in
    let runs = runs-le f g h in
    subst (λ m. best_bytes f ≤ m) (sym (best-least g))
    (subst (λ m. m ≤ least g) (sym (best-least f)) (mins _ _ _ _ _ _ _ _ plain codes offsets runs))
  where
    least : Figures → ℕ
    least f = min (min (min (plain_bytes f.rows f.width) (codes_bytes f)) (offsets_bytes f)) (runs_bytes f)

    mins : (a b c d p q r s : ℕ) → a ≤ p → b ≤ q → c ≤ r → d ≤ s → min (min (min a b) c) d ≤ min (min (min p q) r) s
    mins a b c d p q r s h k l m = omega arith

-- a group of more tuples is no smaller than one of so many
pub past-most : (f g : Figures) (most target : ℕ) → AreNoLess f g → g.distinct ≤ g.listed + 1 → most < g.distinct
    → target ≤ best_bytes (with_tuples_of f (most + 1)) → target ≤ best_bytes g
past-most f g most target h l d t = trans t (best-le (with_tuples_of f (most + 1)) g (record {
  width = h.width;
  rows = h.rows;
  distinct = omega (arith, h.distinct, d);
  listed = omega (arith, h.listed, d, l);
  listed_rows = h.listed_rows;
  listed_runs = h.listed_runs;
}))
  where
    trans : {a b c : ℕ} → a ≤ b → b ≤ c → a ≤ c
    trans h k = omega (arith, h, k)
