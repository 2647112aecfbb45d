-- What holds of the signs, and of the script of a text.
use Rattle.std.specs.Prelude.{◌≡◌, ℕ, ◌*◌, ◌≤◌, List, [], ◌∷◌, length, Ok, Bool, false, ◌&&◌, ◌||◌, nat_lt}
use Rattle.cla_grammar.specs.Tokens.{Token}
use Rattle.cla_grammar.specs.Tree.{Statement}
use Rattle.cla_tokens.specs.Formed.{AllFormed}
use Rattle.cla_tokens.specs.Pieces.{Found, begins, signs, sign_at}
use Rattle.cla_tokens.specs.Scripts.{script_in}

-- a sign of the table that is longer than this begins the bytes
abbrev pub begins_longer : ℕ → List ℕ → List (List ℕ × Token) → Bool
begins_longer n bs [] = false
begins_longer n bs (s ∷ rest) = (begins s.0 bs && nat_lt n (length s.0)) || begins_longer n bs rest

-- the longest sign is taken
abbrev pub LongestSignIsTaken : Type 0
LongestSignIsTaken = (bs : List ℕ) (k : Token) (n : ℕ) → sign_at bs ≡ Found k n → begins_longer n bs signs ≡ false

-- the statements of a text are formed, and there are at most two for each of its bytes
pub record ScriptsAreFormed : Type 0 where
  pub formed : (bits : ℕ) (text : List ℕ) (xs : List Statement) → script_in bits text ≡ Ok xs → AllFormed xs
  pub few : (bits : ℕ) (text : List ℕ) (xs : List Statement) → script_in bits text ≡ Ok xs → length xs ≤ 2 * length text
