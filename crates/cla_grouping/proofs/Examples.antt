-- Worked examples of the definitions.
use Rattle.std.proofs.Common.{◌≡◌, ℕ, pos, List, [], ◌∷◌, refl, Some}
use Rattle.cla_spec.specs.Matrix.{Matrix}
use Rattle.cla_layout.specs.declared.kind.Kind.TheVariants as kind
use Rattle.cla_grouping.specs.declared.sizes.Figures.{Figures}
use Rattle.cla_grouping.specs.Tuples.{tuples_in, distinct_tuples}
use Rattle.cla_grouping.specs.Sizes.{figures_of, sizes_of}
use Rattle.cla_grouping.specs.Grouping.{CutOf, grouping_of, packed_size, choice_of}

-- three rows of 5
abbrev fives : Matrix
fives = record { rows = 3; cols = 1; cells = pos 5 ∷ pos 5 ∷ pos 5 ∷ [] }

pub fives_sizes : sizes_of (figures_of (tuples_in fives (0 ∷ []))) ≡ 33 ∷ 24 ∷ 30 ∷ 34 ∷ []
fives_sizes = refl

pub fives_packed : packed_size (grouping_of fives) ≡ 44
fives_packed = refl

-- rows (0, 0), (1, 2), (1, 2), (0, 0)
abbrev twins : Matrix
twins = record { rows = 4; cols = 2; cells = pos 0 ∷ pos 0 ∷ pos 1 ∷ pos 2 ∷ pos 1 ∷ pos 2 ∷ pos 0 ∷ pos 0 ∷ [] }

abbrev both : List ℕ
both = 0 ∷ 1 ∷ []

pub twins_tuples : distinct_tuples twins both ≡ (pos 0 ∷ pos 0 ∷ []) ∷ (pos 1 ∷ pos 2 ∷ []) ∷ []
twins_tuples = refl

pub twins_codes : (tuples_in twins both).codes ≡ 0 ∷ 1 ∷ 1 ∷ 0 ∷ []
twins_codes = refl

pub twins_zero : (tuples_in twins both).zero ≡ Some 0
twins_zero = refl

abbrev twins_figures_are : Figures
twins_figures_are = record { width = 2; rows = 4; distinct = 2; listed = 1; listed_rows = 2; listed_runs = 1 }

pub twins_figures : figures_of (tuples_in twins both) ≡ twins_figures_are
twins_figures = refl

pub twins_sizes : sizes_of (figures_of (tuples_in twins both)) ≡ 77 ∷ 53 ∷ 40 ∷ 46 ∷ []
twins_sizes = refl

-- two columns as one group save what the second would take alone
abbrev twins_cut : CutOf
twins_cut = record { rows = 4; cols = 2; groups = record { columns = both; kind = kind.Offsets; bytes = 40 } ∷ [] }

pub twins_grouping : grouping_of twins ≡ twins_cut
twins_grouping = refl

-- one row is one plain group, however many columns it has
abbrev row : Matrix
row = record { rows = 1; cols = 2; cells = pos 7 ∷ pos 7 ∷ [] }

abbrev row_cut : CutOf
row_cut = record { rows = 1; cols = 2; groups = record { columns = both; kind = kind.Plain; bytes = 29 } ∷ [] }

pub row_grouping : grouping_of row ≡ row_cut
row_grouping = refl

-- the earliest of the greatest savings is chosen, and only among the last 16
pub earliest_chosen : (choice_of (3 ∷ 9 ∷ 9 ∷ [])).place ≡ 1
earliest_chosen = refl

pub last_sixteen : (choice_of (9 ∷ 1 ∷ 1 ∷ 1 ∷ 1 ∷ 1 ∷ 1 ∷ 1 ∷ 1 ∷ 1 ∷ 1 ∷ 1 ∷ 1 ∷ 1 ∷ 1 ∷ 2 ∷ 1 ∷ [])).place ≡ 15
last_sixteen = refl
