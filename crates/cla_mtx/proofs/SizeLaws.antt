-- What a size line says of the shape.
use Rattle.std.proofs.Common.{◌≡◌, ℕ, ◌*◌, List, true, Option, Some, None, Result, Ok, Err, IfOk, inl, inr, nat_le}
use Rattle.std.proofs.Common.{refl, sym, subst}
use Rattle.std.proofs.lemmas.Bool.{cases_Bool}
use Rattle.cla_spec.specs.Matrix.{most_cells}
use Rattle.cla_market.specs.declared.banner.Banner.{Banner}
use Rattle.cla_market.specs.declared.banner.Format.{Format}
use Rattle.cla_market.specs.declared.banner.Format.TheVariants.{Coordinate, Array}
use Rattle.cla_market.specs.declared.banner.Symmetry.{Symmetry}
use Rattle.cla_market.specs.declared.fault.LineFault.{LineFault}
use Rattle.cla_market.specs.declared.size.Size.{Size}
use Rattle.cla_market.specs.Results.{◌>>=◌, two_of, three_of}
use Rattle.cla_market.specs.Sizes.{is_square, array_entries, shape_in, count_in, coordinate_size, array_size}
use Rattle.cla_market.specs.Sizes.{size_from, size_in}

-- the shape is square where it has to be, and an array file has an entry for each of its cells
pub record Fits (format : Format) (mirroring : Symmetry) (size : Size) : Type 0 where
  pub square : is_square mirroring size.rows size.cols ≡ true
  pub array : format ≡ Array → size.entries ≡ array_entries mirroring size.rows size.cols

after_step : {A B : Type 0} (P : B → Type 0) (r : Result A LineFault) (f : A → Result B LineFault)
    → ((x : A) → IfOk (f x) P) → IfOk (r >>= f) P
after_step P (Ok x) f then = then x
after_step P (Err e) f then = tt

after_shape : {B : Type 0} (P : B → Type 0) (mirroring : Symmetry) (rows cols : ℕ)
    (f : Unit {0} → Result B LineFault)
    → (is_square mirroring rows cols ≡ true → IfOk (f tt) P) → IfOk (shape_in mirroring rows cols >>= f) P
after_shape P mirroring rows cols f then = elim (cases_Bool (is_square mirroring rows cols)) [
  | inl square ↦ elim (cases_Bool (nat_le (rows * cols) most_cells)) [
    | inl few ↦ rw (square, few) (then square)
    | inr many ↦ rw (square, many) tt
  ]
  | inr other ↦ rw other tt
]

abbrev IsCoordinate : Format → Type 0
IsCoordinate Coordinate = Unit {0}
IsCoordinate Array = ⊥

coordinate_fits : (mirroring : Symmetry) (words : Option (List ℕ × List ℕ × List ℕ))
    → IfOk (coordinate_size mirroring words) (Fits Coordinate mirroring)
coordinate_fits mirroring None = tt
coordinate_fits mirroring (Some w) =
    after_step _ (count_in 1 w.0) _ (λ rows. after_step _ (count_in 1 w.1) _ (λ cols. after_step _ (count_in 0 w.2) _
    (λ entries. after_shape _ mirroring rows cols _
    (λ square. record { square = square; array = λ other. absurd (subst IsCoordinate other tt) }))))

array_fits : (mirroring : Symmetry) (words : Option (List ℕ × List ℕ))
    → IfOk (array_size mirroring words) (Fits Array mirroring)
array_fits mirroring None = tt
array_fits mirroring (Some w) =
    after_step _ (count_in 1 w.0) _ (λ rows. after_step _ (count_in 1 w.1) _
    (λ cols. after_shape _ mirroring rows cols _ (λ square. record { square = square; array = λ e. refl })))

size_fits : (format : Format) (mirroring : Symmetry) (words : List (List ℕ))
    → IfOk (size_from format mirroring words) (Fits format mirroring)
size_fits Coordinate mirroring words = coordinate_fits mirroring (three_of words)
size_fits Array mirroring words = array_fits mirroring (two_of words)

-- a size line that was read
pub fits : (banner : Banner) (words : List (List ℕ)) (size : Size) → Ok size ≡ size_in banner words
    → Fits banner.format banner.symmetry size
unfolding size_in
fits banner words size is = subst (λ (r : Result Size LineFault). IfOk r (Fits banner.format banner.symmetry))
    (sym is) (size_fits banner.format banner.symmetry words)
