-- What a reader of Matrix Market files answers.
use Rattle.std.specs.Prelude.{◌≡◌, ℕ, List, [], Option, Some, None, Result, Ok, Err}
use Rattle.cla_spec.specs.Matrix.{Matrix}
use Rattle.cla_io.specs.Counts.{Rose}
use Rattle.cla_market.specs.declared.fault.MtxFault.{MtxFault}
use Rattle.cla_market.specs.declared.fault.MtxFault.TheVariants.{Banner, Unsupported, Size, Entry, Index, Diagonal}
use Rattle.cla_market.specs.declared.fault.MtxFault.TheVariants.{Range, TooFew, TooMany, TooLarge, TooLong, Read}
use Rattle.cla_market.specs.declared.fault.MtxFault.TheVariants.{Memory}
use Rattle.cla_market.specs.Texts.{Spells, first_bad_line}

-- a fault that a text has; the others are met while it is read, and say nothing of it
abbrev pub IsOfText : MtxFault → Type 0
IsOfText (Banner n) = Unit {0}
IsOfText (Unsupported place) = Unit {0}
IsOfText (Size n) = Unit {0}
IsOfText (Entry n) = Unit {0}
IsOfText (Index n) = Unit {0}
IsOfText (Diagonal n) = Unit {0}
IsOfText (Range n) = Unit {0}
IsOfText (TooFew n) = Unit {0}
IsOfText (TooMany n) = Unit {0}
IsOfText (TooLarge rows cols) = Unit {0}
IsOfText TooLong = Unit {0}
IsOfText Read = ⊥
IsOfText Memory = ⊥

-- the matrix that the text spells, all of which was read, or the text's first fault
abbrev pub ReadsText : ℕ → ℕ → List ℕ → List ℕ → Result Matrix MtxFault → Type 0
ReadsText bits limit text after (Ok m) = Spells bits limit text m × (after ≡ [])
ReadsText bits limit text after (Err fault) = IsOfText fault → first_bad_line bits limit text ≡ Some fault

-- the same, where the file tells its text
abbrev pub ReadsTextWhereTold : ℕ → ℕ → Option (List ℕ) → Option (List ℕ) → Result Matrix MtxFault → Type 0
ReadsTextWhereTold bits limit None after result = after ≡ None
ReadsTextWhereTold bits limit (Some text) None result = ⊥
ReadsTextWhereTold bits limit (Some text) (Some after) result = ReadsText bits limit text after result

-- a fault of reading comes only where a count of them rose, and the count stays with every other fault
abbrev pub HasFaultCause : ℕ → ℕ → MtxFault → Type 0
HasFaultCause before now Read = Rose before now
HasFaultCause before now (Banner n) = now ≡ before
HasFaultCause before now (Unsupported place) = now ≡ before
HasFaultCause before now (Size n) = now ≡ before
HasFaultCause before now (Entry n) = now ≡ before
HasFaultCause before now (Index n) = now ≡ before
HasFaultCause before now (Diagonal n) = now ≡ before
HasFaultCause before now (Range n) = now ≡ before
HasFaultCause before now (TooFew n) = now ≡ before
HasFaultCause before now (TooMany n) = now ≡ before
HasFaultCause before now (TooLarge rows cols) = now ≡ before
HasFaultCause before now TooLong = now ≡ before
HasFaultCause before now Memory = now ≡ before

abbrev pub HasReadCause : {T : Type 0} → ℕ → ℕ → Result T MtxFault → Type 0
HasReadCause before now (Ok x) = now ≡ before
HasReadCause before now (Err fault) = HasFaultCause before now fault
