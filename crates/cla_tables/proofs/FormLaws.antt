-- What the readers of both forms answer, as the table that the bytes hold.
use Rattle.std.proofs.Common.{◌≡◌, ◌≢◌, ℕ, Bool, true, false, if◌then◌else◌, List, length, take, Option, Some, None}
use Rattle.std.proofs.Common.{Result, Ok, Err, refl, sym, ap, subst, ◌∙◌, inl, inr}
use Rattle.std.specs.Prelude.{nat_eq}
use Rattle.std.specs.Option.{ForSome}
use Rattle.std.specs.Cmp.{unsigned_Decides}
use Rattle.std.specs.Cmp.Lexicographic.{pointwise_decides}
use Rattle.std.proofs.lemmas.Bool.{cases_Bool}
use Rattle.cla_spec.specs.Bytes as numbers
use Rattle.cla_spec.specs.Matrix.{Matrix}
use Rattle.cla_io.specs.Numbers.{BeginsWhereTold}
use Rattle.cla_market.specs.declared.fault.MtxFault.{MtxFault}
use Rattle.cla_market.specs.Texts as market
use Rattle.cla_mtx.specs.Reading.{ReadsTextWhereTold, IsOfText}
use Rattle.cla_packed.specs.declared.fault.PackFault.{PackFault}
use Rattle.cla_packed.specs.declared.fault.PackFault.TheVariants.{Field, Trailing, TooLarge, TooLong, Memory}
use Rattle.cla_packed.specs.declared.fault.PackFault.TheVariants as faults
use Rattle.cla_packed.specs.Fields.{Fails, whole_at}
use Rattle.cla_packed.specs.Files.{PackedLayout, magic, file_at}
use Rattle.cla_pack_reader.specs.Reading.{GivesFileWhereTold, HasLengthWhereTold}
use Rattle.cla_tables.specs.declared.fault.FileFault.{FileFault}
use Rattle.cla_tables.specs.declared.fault.FileFault.TheVariants.{Mtx, Pack}
use Rattle.cla_tables.specs.TableFiles.{TableFile, of_matrix, of_layout, begins_packed, text_or_fault}
use Rattle.cla_tables.specs.TableFiles.{packed_or_fault, table_in}
use Rattle.cla_tables.specs.Reading.{IsOfPacked, ReadsAs}

-- ---- a text

text_is : (bits limit : ℕ) (text : List ℕ) (after : Option (List ℕ)) (m : Matrix)
    → ReadsTextWhereTold bits limit (Some text) after (Ok m) → market.matrix_in bits limit text ≡ Ok m
text_is bits limit text None m h = absurd h
text_is bits limit text (Some after) m h = h.0

the_fault : (r : Result Matrix MtxFault) (fault : MtxFault) → market.fault_in r ≡ Some fault → r ≡ Err fault
the_fault (Ok m) fault is = absurd cc
the_fault (Err e) fault is = cc

text_is_none : (bits limit : ℕ) (text : List ℕ) (after : Option (List ℕ)) (fault : MtxFault)
    → ReadsTextWhereTold bits limit (Some text) after (Err fault) → IsOfText fault
    → market.matrix_in bits limit text ≡ Err fault
text_is_none bits limit text None fault h of = absurd h
text_is_none bits limit text (Some after) fault h of = the_fault (market.matrix_in bits limit text) fault (h of)

module _ (bits limit : ℕ) (before after : Option (List ℕ)) where
  pub text_read : (m : Matrix) → ReadsTextWhereTold bits limit before after (Ok m)
      → ForSome before (λ text. ReadsAs (text_or_fault (market.matrix_in bits limit text)) (Ok (of_matrix m)))
  text_read m h text is = ap text_or_fault (text_is bits limit text after m (rw is at h))

  pub text_refused : (fault : MtxFault) → ReadsTextWhereTold bits limit before after (Err fault)
      → ForSome before (λ text. ReadsAs (text_or_fault (market.matrix_in bits limit text)) (Err (Mtx fault)))
  text_refused fault h text is =
      λ of. ap text_or_fault (text_is_none bits limit text after fault (rw is at h) of)

-- ---- a packed file

failed : {Y : Type 0} (e : PackFault) (read : Result Y PackFault) → Fails e read → IsOfPacked e → read ≡ Err e
failed Memory read h of = absurd of
failed faults.Read read h of = absurd of
failed TooLong read h of = h
failed (Field g f a) read h of = h
failed (Trailing a) read h of = h
failed (TooLarge r c) read h of = h

module _ {X : Type 0} (view : X → PackedLayout) (bits limit : ℕ) (told : Option (List ℕ)) where
  pub packed_read : (n : ℕ) (x : X) → GivesFileWhereTold view bits limit told (Ok x) → HasLengthWhereTold told n
      → ForSome told (λ bytes. ReadsAs (packed_or_fault (length bytes) (whole_at (file_at 8 bits) limit bytes))
      (Ok (of_layout n (view x))))
  packed_read n x gives whole bytes is =
      let read : whole_at (file_at 8 bits) limit bytes ≡ Ok (view x) = rw is at gives in
      let count : n ≡ length bytes = rw is at whole in
      ap (packed_or_fault (length bytes)) read
      ∙ ap (λ (k : ℕ). packed_or_fault k (Ok (view x))) (sym count)

  pub packed_refused : (fault : PackFault) → GivesFileWhereTold view bits limit told (Err fault)
      → ForSome told (λ bytes. ReadsAs (packed_or_fault (length bytes) (whole_at (file_at 8 bits) limit bytes))
      (Err (Pack fault)))
  packed_refused fault gives bytes is =
      λ of. ap (packed_or_fault (length bytes))
      (failed fault (whole_at (file_at 8 bits) limit bytes) (rw is at gives) of)

-- ---- which form it is

decided : (bytes : List ℕ)
    → (begins_packed bytes ≡ true → numbers.bytes_of 8 magic ≡ take (length (numbers.bytes_of 8 magic)) bytes)
    × (numbers.bytes_of 8 magic ≡ take (length (numbers.bytes_of 8 magic)) bytes → begins_packed bytes ≡ true)
decided bytes =
    pointwise_decides {E = nat_eq} unsigned_Decides (numbers.bytes_of 8 magic)
    (take (length (numbers.bytes_of 8 magic)) bytes)

begins : (m bytes : List ℕ) → m ≡ numbers.bytes_of 8 magic → take (length m) bytes ≡ m → begins_packed bytes ≡ true
begins m bytes is h =
    (decided bytes).1 (subst (λ (x : List ℕ). x ≡ take (length x) bytes) is (sym h))

begins_not : (m bytes : List ℕ) → m ≡ numbers.bytes_of 8 magic → take (length m) bytes ≢ m
    → begins_packed bytes ≡ false
begins_not m bytes is h = elim (cases_Bool (begins_packed bytes)) [
  | inl shown ↦ absurd (h (sym (subst (λ (x : List ℕ). x ≡ take (length x) bytes) (sym is) ((decided bytes).0 shown))))
  | inr other ↦ other
]

-- nothing was taken, and these bytes are ahead still
packed_ahead : (P : List ℕ → Type 0) (m bytes : List ℕ) (mid : Option (List ℕ)) → m ≡ numbers.bytes_of 8 magic
    → BeginsWhereTold m (Some bytes) mid (Ok true) → ForSome mid P → (begins_packed bytes ≡ true) × P bytes
packed_ahead P m bytes None is h each = absurd h
packed_ahead P m bytes (Some after) is h each = (begins m bytes is h.1, subst P h.0 (each after refl))

text_ahead : (P : List ℕ → Type 0) (m bytes : List ℕ) (mid : Option (List ℕ)) → m ≡ numbers.bytes_of 8 magic
    → BeginsWhereTold m (Some bytes) mid (Ok false) → ForSome mid P → (begins_packed bytes ≡ false) × P bytes
text_ahead P m bytes None is h each = absurd h
text_ahead P m bytes (Some after) is h each = (begins_not m bytes is h.1, subst P h.0 (each after refl))

module _ (bits limit limit' : ℕ) (m : List ℕ) (before mid : Option (List ℕ)) (result : Result TableFile FileFault)
    (magic_is : m ≡ numbers.bytes_of 8 magic) (same : limit' ≡ limit) where
  pub is_packed : BeginsWhereTold m before mid (Ok true)
      → ForSome mid (λ bytes. ReadsAs (packed_or_fault (length bytes) (whole_at (file_at 8 bits) limit' bytes)) result)
      → ForSome before (λ bytes. ReadsAs (table_in bits limit bytes) result)
  is_packed start reads bytes is =
      let t = packed_ahead
      (λ bytes. ReadsAs (packed_or_fault (length bytes) (whole_at (file_at 8 bits) limit' bytes)) result)
      m bytes mid magic_is (rw is at start) reads in
      let read = subst (λ (l : ℕ). ReadsAs (packed_or_fault (length bytes) (whole_at (file_at 8 bits) l bytes)) result)
      same t.1 in
      subst (λ (b : Bool). ReadsAs (if b then packed_or_fault (length bytes) (whole_at (file_at 8 bits) limit bytes)
      else text_or_fault (market.matrix_in bits limit bytes)) result) (sym t.0) read

  pub is_text : BeginsWhereTold m before mid (Ok false)
      → ForSome mid (λ bytes. ReadsAs (text_or_fault (market.matrix_in bits limit' bytes)) result)
      → ForSome before (λ bytes. ReadsAs (table_in bits limit bytes) result)
  is_text start reads bytes is =
      let t = text_ahead (λ bytes. ReadsAs (text_or_fault (market.matrix_in bits limit' bytes)) result) m bytes mid
      magic_is (rw is at start) reads in
      let read = subst (λ (l : ℕ). ReadsAs (text_or_fault (market.matrix_in bits l bytes)) result) same t.1 in
      subst (λ (b : Bool). ReadsAs (if b then packed_or_fault (length bytes) (whole_at (file_at 8 bits) limit bytes)
      else text_or_fault (market.matrix_in bits limit bytes)) result) (sym t.0) read
