-- Items that are numbered by the first place at which they stand.
use Rattle.std.specs.Prelude.{ℕ, Bool, List, [], ◌∷◌, ◌++◌, ◌==◌, ◌&&◌, if◌then◌else◌}
use Rattle.std.specs.List.{position_or_len, list_any, range_with_len}
use Rattle.cla_layout.specs.Groups.{code_of}

-- the first of equal items, with one more item
abbrev pub with_item : {A : Type 0} → (A → A → Bool) → List A → A → List A
with_item eq seen x = if list_any (eq x) seen then seen else seen ++ x ∷ []

-- the codes of these items, where those in seen have been numbered
abbrev pub codes_from : {A : Type 0} → (A → A → Bool) → List A → List A → List ℕ
codes_from eq seen [] = []
codes_from eq seen (x ∷ xs) = position_or_len (eq x) seen ∷ codes_from eq (with_item eq seen x) xs

-- the first of equal items, in order
abbrev pub firsts_from : {A : Type 0} → (A → A → Bool) → List A → List A → List A
firsts_from eq seen [] = seen
firsts_from eq seen (x ∷ xs) = firsts_from eq (with_item eq seen x) xs

-- the codes of n rows, numbered by the first row that is the same
abbrev pub codes_by : (ℕ → ℕ → Bool) → ℕ → List ℕ
codes_by same n = codes_from same [] (range_with_len 0 n)

-- the rows that are the first of the same rows, of n
abbrev pub first_rows_by : (ℕ → ℕ → Bool) → ℕ → List ℕ
first_rows_by same n = firsts_from same [] (range_with_len 0 n)

-- two rows agree in both codes
abbrev pub same_pair : List ℕ → List ℕ → ℕ → ℕ → Bool
same_pair a b i j = (code_of a i == code_of a j) && (code_of b i == code_of b j)
