-- The first file that is written and that some statement reads.
use Rattle.std.specs.Prelude.{◌≡◌, ℕ, Bool, false, ◌||◌, if◌then◌else◌, nat_eq, List, [], ◌∷◌, Option, Some}
use Rattle.std.specs.Prelude.{None, Result, Ok, Err}
use Rattle.std.specs.Cmp.Lexicographic.{pointwise}
use Rattle.cla_grammar.specs.declared.place.Place.{Place}
use Rattle.cla_grammar.specs.Tree.{Statement, ReadOf, LetOf, PrintOf, SaveOf}
use Rattle.cla_grammar.specs.declared.words.ScriptKind.TheVariants.{Clash}
use Rattle.cla_script.specs.declared.fault.ScriptFault.{ScriptFault}
use Rattle.cla_script.specs.declared.fault.ScriptFault.TheVariants.{At, Memory}

-- whether one of the statements reads the file
abbrev pub reads_file : List Statement → List ℕ → Bool
reads_file [] file = false
reads_file (ReadOf n f ∷ xs) file = pointwise nat_eq f file || reads_file xs file
reads_file (LetOf n e ∷ xs) file = reads_file xs file
reads_file (PrintOf e ∷ xs) file = reads_file xs file
reads_file (SaveOf k p e q f ∷ xs) file = reads_file xs file

-- the place of the first file that these statements write and that one of all reads
abbrev pub clash_from : List Statement → List Statement → Option Place
clash_from all [] = None
clash_from all (ReadOf n f ∷ xs) = clash_from all xs
clash_from all (LetOf n e ∷ xs) = clash_from all xs
clash_from all (PrintOf e ∷ xs) = clash_from all xs
clash_from all (SaveOf k p e q f ∷ xs) = if reads_file all f then Some q else clash_from all xs

-- the place of the first file that is written and that some statement of the script reads
abbrev pub first_clash : List Statement → Option Place
first_clash xs = clash_from xs xs

-- what the test for clashes answers
abbrev pub Clashes : Result Unit ScriptFault → Option Place → Type 0
Clashes (Ok u) c = c ≡ None
Clashes (Err Memory) c = ⊥
Clashes (Err (At p k)) c = (k ≡ Clash) × (c ≡ Some p)
