-- What the functions on lines answer, in the words of the definitions.
use Rattle.std.specs.Prelude.{ℕ, ℤ, List, Option, Result, Ok, Err}
use Rattle.std.specs.Borrow.{Bor}
use Rattle.cla_market.specs.declared.fault.LineFault.{LineFault}
use Rattle.cla_market.specs.Entries.{Triple}
use Rattle.cla_market_lines.specs.declared.entry.Entry.{Entry}

abbrev pub two_views : Bor (List ℕ) × Bor (List ℕ) → List ℕ × List ℕ
two_views w = (w.0.now, w.1.now)

abbrev pub three_views : Bor (List ℕ) × Bor (List ℕ) × Bor (List ℕ) → List ℕ × List ℕ × List ℕ
three_views w = (w.0.now, w.1.now, w.2.now)

abbrev pub five_views : Bor (List ℕ) × Bor (List ℕ) × Bor (List ℕ) × Bor (List ℕ) × Bor (List ℕ)
    → List ℕ × List ℕ × List ℕ × List ℕ × List ℕ
five_views w = (w.0.now, w.1.now, w.2.now, w.3.now, w.4.now)

abbrev pub map_ok : {A B E : Type 0} → (A → B) → Result A E → Result B E
map_ok f (Ok x) = Ok (f x)
map_ok f (Err e) = Err e

-- the triple of an entry
abbrev pub triple_of : {N : Type 0} → (N → ℤ) → Entry N → Triple
triple_of value entry = record { row = entry.row; col = entry.col; value = value entry.value }
