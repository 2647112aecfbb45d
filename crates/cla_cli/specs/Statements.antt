-- The statements that run today: what they print, what they count, and which files they read.
use Rattle.std.specs.Prelude.{ℕ, ℤ, pos, ◌+◌, ◌*◌, List, [], ◌∷◌, ◌++◌, Option, Some, None, Bool, true, false, ◌&&◌}
use Rattle.std.specs.Prelude.{Result, Ok, Err}
use Rattle.std.specs.Prelude.{nat_eq, if◌then◌else◌}
use Rattle.std.specs.List.{list_all}
use Rattle.std.specs.Option.{option_map}
use Rattle.std.specs.Cmp.Lexicographic.{pointwise}
use Rattle.cla_spec.specs.Effects.{Effect, Out, File}
use Rattle.cla_spec.specs.Matrix.{Matrix, entry, exact_sum, scaled_entry, scaled}
use Rattle.cla_num.specs.Counts.{Counts, zero_counts}
use Rattle.cla_num.specs.Fault.{fault_of, exactly, scalar_fault}
use Rattle.cla_num.specs.declared.fault.OpFault.{OpFault}
use Rattle.cla_num.specs.declared.cell_op.CellOp.TheVariants.{Mul}
use Rattle.cla_grammar.specs.declared.place.Place.{Place}
use Rattle.cla_grammar.specs.declared.words.BinOp.{BinOp}
use Rattle.cla_grammar.specs.declared.words.BinOp.TheVariants.{Cell}
use Rattle.cla_grammar.specs.declared.words.Call.{Call}
use Rattle.cla_grammar.specs.declared.words.Call.TheVariants as call
use Rattle.cla_grammar.specs.Tree.{Tree, Constant, Named, Binary, Apply, Statement, ReadOf, LetOf, PrintOf, SaveOf}
use Rattle.cla_print.specs.Texts.{Value, Scalar, Table, printed}

-- names and the matrices that they were given, the last one last
abbrev pub Assigned : Type 0
Assigned = List (List ℕ × Matrix)

abbrev pub with_name : Assigned → List ℕ → Matrix → Assigned
with_name names n m = names ++ (n, m) ∷ []

-- what the last of them that has this name says, or else what is held
abbrev pub latest : Option Matrix → Assigned → List ℕ → Option Matrix
latest held [] n = held
latest held (one ∷ names) n = latest (if pointwise nat_eq one.0 n then Some one.1 else held) names n

-- the matrix that a name was given last
abbrev pub matrix_of : Assigned → List ℕ → Option Matrix
matrix_of names n = latest None names n

-- a value, or the operator that fails
abbrev pub Valued : Type 0
Valued = Result Value (Place × OpFault)

abbrev pub or_fault : Place → Option OpFault → Valued → Valued
or_fault place None value = value
or_fault place (Some fault) value = Err (place, fault)

-- an exact number that the operator at this place gives
abbrev pub exact_number : ℕ → Place → ℤ → Valued
exact_number bits place exact = or_fault place (scalar_fault bits (Some exact)) (Ok (Scalar exact))

-- the first fault of a matrix times an integer
abbrev pub product_fault : ℕ → Matrix → ℤ → Option OpFault
product_fault bits m k = fault_of bits m.rows m.cols (exactly (scaled_entry (entry m) k))

-- the sum of a matrix, and of its product with a number
abbrev pub sum_of : ℕ → Place → Matrix → Valued
sum_of bits place m = exact_number bits place (exact_sum m)

abbrev pub product_sum_of : ℕ → Place → Place → ℤ → Matrix → Valued
product_sum_of bits sum times k m = or_fault times (product_fault bits m k) (sum_of bits sum (scaled m k))

-- the matrix of a name, and the number of a constant
abbrev pub matrix_at : Assigned → Tree → Option Matrix
matrix_at names (Named q n) = matrix_of names n
matrix_at names e = None

abbrev pub number_at : Tree → Option ℤ
number_at (Constant k) = Some k
number_at e = None

abbrev pub is_product : BinOp → Bool
is_product (Cell Mul) = true
is_product o = false

-- The value of an expression that runs today. There is none where the expression doesn't run, nor where a name has no
-- matrix: a script of either kind is refused before its first statement.
abbrev pub product_summed : ℕ → Place → Place → Option Matrix → Option ℤ → Option Valued
product_summed bits sum times (Some m) (Some k) = Some (product_sum_of bits sum times k m)
product_summed bits sum times m k = None

abbrev pub summed : ℕ → Assigned → Place → Tree → Option Valued
summed bits names p (Named q n) = option_map (sum_of bits p) (matrix_of names n)
summed bits names p (Binary q o a b) = if is_product o then product_summed bits p q (matrix_at names a) (number_at b)
    else None
summed bits names p e = None

abbrev pub counted : ℕ → Place → (Matrix → ℕ) → Option Matrix → Option Valued
counted bits p count m = option_map (λ x. exact_number bits p (pos (count x))) m

abbrev pub called : ℕ → Assigned → Place → Call → Tree → Option Valued
called bits names p call.Sum e = summed bits names p e
called bits names p call.Nrow e = counted bits p (λ m. m.rows) (matrix_at names e)
called bits names p call.Ncol e = counted bits p (λ m. m.cols) (matrix_at names e)
called bits names p f e = None

abbrev pub value_of : ℕ → Assigned → Tree → Option Valued
value_of bits names (Constant v) = Some (Ok (Scalar v))
value_of bits names (Named p n) = option_map (λ m. Ok (Table m)) (matrix_of names n)
value_of bits names (Apply p f e) = called bits names p f e
value_of bits names e = None

-- whether an expression runs today: a number, a table's name, and the calls sum(N), sum(N * K), nrow(N) and ncol(N) of
-- a name N and a number K
abbrev pub is_name : Tree → Bool
is_name (Named q n) = true
is_name e = false

abbrev pub is_number : Tree → Bool
is_number (Constant k) = true
is_number e = false

abbrev pub is_summand : Tree → Bool
is_summand (Named q n) = true
is_summand (Binary q o a b) = is_product o && (is_name a && is_number b)
is_summand e = false

abbrev pub is_call_built : Call → Tree → Bool
is_call_built call.Sum e = is_summand e
is_call_built call.Nrow e = is_name e
is_call_built call.Ncol e = is_name e
is_call_built f e = false

abbrev pub is_built : Tree → Bool
is_built (Constant v) = true
is_built (Named p n) = true
is_built (Apply p f e) = is_call_built f e
is_built e = false

-- whether a statement runs today, and whether all do
abbrev pub does_run : Statement → Bool
does_run (ReadOf n f) = true
does_run (LetOf n e) = false
does_run (PrintOf e) = is_built e
does_run (SaveOf w p e q f) = false

abbrev pub are_built : List Statement → Bool
are_built xs = list_all does_run xs

-- The counts of an expression's operators, where a table is kept as one plain group: a sum multiplies once for each
-- cell, and a product maps each cell.
abbrev pub sum_counts : Matrix → Counts
sum_counts m = record { mults = m.rows * m.cols; maps = 0 }

abbrev pub product_sum_counts : Matrix → Counts
product_sum_counts m = record { mults = m.rows * m.cols; maps = m.rows * m.cols }

abbrev pub counts_over : (Matrix → Counts) → Option Matrix → Counts
counts_over counts None = zero_counts
counts_over counts (Some m) = counts m

abbrev pub product_sum_work : Option Matrix → Option ℤ → Counts
product_sum_work (Some m) (Some k) = product_sum_counts m
product_sum_work m k = zero_counts

abbrev pub sum_work : Assigned → Tree → Counts
sum_work names (Named q n) = counts_over sum_counts (matrix_of names n)
sum_work names (Binary q o a b) = if is_product o then product_sum_work (matrix_at names a) (number_at b) else
    zero_counts
sum_work names e = zero_counts

abbrev pub call_work : Assigned → Call → Tree → Counts
call_work names call.Sum e = sum_work names e
call_work names f e = zero_counts

abbrev pub work_of : Assigned → Tree → Counts
work_of names (Apply p f e) = call_work names f e
work_of names e = zero_counts

abbrev pub both_counts : Counts → Counts → Counts
both_counts a b = record { mults = a.mults + b.mults; maps = a.maps + b.maps }

-- What the statements of a script come to: their effects, and the operator that fails after these, if one does.
pub record Trace : Type 0 where
  pub effects : List Effect
  pub fault : Option (Place × OpFault)

abbrev pub nothing_done : Trace
nothing_done = record { effects = []; fault = None }

-- a text that is all that a command prints
abbrev pub printing : List ℕ → Trace
printing text = record { effects = Out text ∷ []; fault = None }

-- a file that is all that a command writes
abbrev pub replacing : List ℕ → List ℕ → Trace
replacing name bytes = record { effects = File name bytes ∷ []; fault = None }

-- a statement prints its value before the rest, or its operator fails
abbrev pub then_prints : Option Valued → Trace → Trace
then_prints None rest = rest
then_prints (Some (Ok value)) rest = record rest { effects = Out (printed value) ∷ rest.effects }
then_prints (Some (Err fault)) rest = record { effects = []; fault = Some fault }

-- what statements come to, over the tables that are still to be read
abbrev pub trace_of : ℕ → Assigned → List Statement → List Matrix → Trace
trace_of bits names [] tables = nothing_done
trace_of bits names (ReadOf n f ∷ xs) [] = trace_of bits names xs []
trace_of bits names (ReadOf n f ∷ xs) (m ∷ ms) = trace_of bits (with_name names n m) xs ms
trace_of bits names (LetOf n e ∷ xs) tables = trace_of bits names xs tables
trace_of bits names (PrintOf e ∷ xs) tables = then_prints (value_of bits names e) (trace_of bits names xs tables)
trace_of bits names (SaveOf w p e q f ∷ xs) tables = trace_of bits names xs tables

-- the counts of all their operators
abbrev pub script_work : Assigned → List Statement → List Matrix → Counts
script_work names [] tables = zero_counts
script_work names (ReadOf n f ∷ xs) [] = script_work names xs []
script_work names (ReadOf n f ∷ xs) (m ∷ ms) = script_work (with_name names n m) xs ms
script_work names (LetOf n e ∷ xs) tables = script_work names xs tables
script_work names (PrintOf e ∷ xs) tables = both_counts (work_of names e) (script_work names xs tables)
script_work names (SaveOf w p e q f ∷ xs) tables = script_work names xs tables

-- the files that a script reads, in order
abbrev pub files_read : List Statement → List (List ℕ)
files_read [] = []
files_read (ReadOf n f ∷ xs) = f ∷ files_read xs
files_read (LetOf n e ∷ xs) = files_read xs
files_read (PrintOf e ∷ xs) = files_read xs
files_read (SaveOf w p e q f ∷ xs) = files_read xs
