-- What a reader answers of a file that was opened.
use Rattle.std.proofs.Common.{false, ◌≡◌, ℕ, ◌<◌, ◌≤◌, List, [], length, Option, Some, None, Ok, Err, Vec, Global}
use Rattle.std.proofs.Common.{refl, ap, ◌∙◌}
use Rattle.std.specs.FinMap as fin
use Rattle.std.specs.Option.{ForSome}
use Rattle.cla_spec.specs.Files.{Told}
use Rattle.cla_io.specs.State.{State, Reading, left_where_told}
use Rattle.cla_io.specs.Lines.{Progress, ahead_of, TakesWholeWhereTold}
use Rattle.cla_io.specs.declared.stop.InFault.TheVariants as input
use Rattle.cla_market.specs.declared.fault.MtxFault.TheVariants as mtx
use Rattle.cla_packed.specs.declared.fault.PackFault.TheVariants as pack
use Rattle.cla_tables.specs.declared.fault.FileFault.{FileFault}
use Rattle.cla_tables.specs.declared.fault.FileFault.TheVariants as file
use Rattle.cla_tables.specs.TableFiles.{TableFile, table_in}
use Rattle.cla_tables.specs.Reading.{ReadsAs, HasReadCause}
use Rattle.cla_cli.specs.declared.unread.Unread.{Unread}
use Rattle.cla_cli.specs.declared.unread.Unread.TheVariants.{Refused}
use Rattle.cla_cli.specs.declared.unread.TooLong.{TooLong}
use Rattle.cla_cli.specs.Limits.{script_limit, table_limit}
use Rattle.cla_cli.specs.Needed.{HasUnreadCause, Opens, IsText, ReadsText, ReadsTable, unread_by}

-- an input that was just made of an opened file
abbrev pub fresh : ℕ → Progress
fresh limit = record { ahead = []; at = 0; limit = limit; line = []; lines = 0; ended = false }

-- it has the whole file ahead
fresh_ahead : (told : Told) (told' : Option Told) (reading : Option Reading) (name text : List ℕ) (limit : ℕ) →
    told' ≡ Some told
    → reading ≡ Some (record { name = name; place = 0 }) → fin.get told name ≡ Some text
    → ahead_of (fresh limit) (left_where_told told' reading) ≡ Some text
fresh_ahead told told' reading name text limit e f h = rw (e, f, h) refl

is_text : (text : List ℕ) (q : Progress) (bytes : Vec ℕ Global) (o2 : Option (List ℕ)) →
    length bytes.items ≤ script_limit
    → TakesWholeWhereTold (fresh script_limit) q (Some text) o2 (Ok bytes) → IsText text bytes
is_text text q bytes None short h = absurd h
is_text text q bytes (Some after) short h = (h.0, rw h.0 at short)

-- a script's text that was read
pub text_read : (told told' : Option Told) (reading : Option Reading) (name : List ℕ) (bytes : Vec ℕ Global)
    (p q : Progress)
    (o2 : Option (List ℕ)) → told' ≡ told → Opens {R = TooLong} told name reading (Ok tt) → p ≡ fresh script_limit
    → length bytes.items ≤ script_limit → TakesWholeWhereTold p q (ahead_of p (left_where_told told' reading)) o2
    (Ok bytes)
    → ReadsText told name (Ok bytes)
text_read None told' reading name bytes p q o2 same opens start short takes = tt
text_read (Some t) told' reading name bytes p q o2 same opens start short takes =
    let ahead = fresh_ahead t told' reading name opens.1.0 script_limit same opens.0 opens.1.1 in
    (opens.1.0, opens.1.1, is_text opens.1.0 q bytes o2 short (rw (start, ahead) at takes))

is_too_long : (text : List ℕ) (q : Progress) (o2 : Option (List ℕ)) → q.limit ≡ script_limit
    → TakesWholeWhereTold (fresh script_limit) q (Some text) o2 (Err input.TooLong) → script_limit < length text
is_too_long text q None same h = absurd h
is_too_long text q (Some after) same h = rw same at h

-- one that is too long
pub text_too_long : (told told' : Option Told) (reading : Option Reading) (name : List ℕ) (p q : Progress)
    (o2 : Option (List ℕ))
    (fault : TooLong)
    → told' ≡ told → Opens {R = TooLong} told name reading (Ok tt) → p ≡ fresh script_limit
    → q.limit ≡ p.limit → TakesWholeWhereTold p q (ahead_of p (left_where_told told' reading)) o2 (Err input.TooLong)
    → ReadsText told name (Err (Refused fault))
text_too_long None told' reading name p q o2 fault same opens start limit takes = tt
text_too_long (Some t) told' reading name p q o2 fault same opens start limit takes =
    let ahead = fresh_ahead t told' reading name opens.1.0 script_limit same opens.0 opens.1.1 in
    let size : q.limit ≡ script_limit = limit ∙ ap (λ (x : Progress). x.limit) start in
    (opens.1.0, opens.1.1, is_too_long opens.1.0 q o2 size (rw (start, ahead) at takes))

-- a table that was read
pub table_read : (bits : ℕ) (told told' : Option Told) (reading : Option Reading) (name : List ℕ) (t : TableFile)
    (p : Progress) → told' ≡ told → Opens {R = FileFault} told name reading (Ok tt) → p ≡ fresh table_limit
    → ForSome (ahead_of p (left_where_told told' reading)) (λ bytes. ReadsAs (table_in bits p.limit bytes) (Ok t))
    → ReadsTable bits told name (Ok t)
table_read bits None told' reading name t p same opens start reads = tt
table_read bits (Some told) told' reading name t p same opens start reads =
    let ahead = fresh_ahead told told' reading name opens.1.0 table_limit same opens.0 opens.1.1 in
    (opens.1.0, opens.1.1, (rw start at reads) opens.1.0 ahead)

-- one of no form, or that could not be read on
refused_by : (bits : ℕ) (told : Told) (name bytes : List ℕ) (fault : FileFault) → fin.get told name ≡ Some bytes
    → ReadsAs (table_in bits table_limit bytes) (Err fault) → ReadsTable bits (Some told) name (Err (unread_by fault))
refused_by bits told name bytes (file.Mtx mtx.Read) there reads = tt
refused_by bits told name bytes (file.Mtx mtx.Memory) there reads = tt
refused_by bits told name bytes (file.Pack pack.Read) there reads = tt
refused_by bits told name bytes (file.Pack pack.Memory) there reads = tt
refused_by bits told name bytes fault there reads = (bytes, there, reads tt)

pub table_refused : (bits : ℕ) (told told' : Option Told) (reading : Option Reading) (name : List ℕ) (fault : FileFault)
    (u : Unread FileFault) (p : Progress) → told' ≡ told → Opens {R = FileFault} told name reading (Ok tt)
    → p ≡ fresh table_limit
    → ForSome (ahead_of p (left_where_told told' reading)) (λ bytes. ReadsAs (table_in bits p.limit bytes) (Err fault))
    → u ≡ unread_by fault → ReadsTable bits told name (Err u)
table_refused bits None told' reading name fault u p same opens start reads is = tt
table_refused bits (Some told) told' reading name fault u p same opens start reads is =
    let ahead = fresh_ahead told told' reading name opens.1.0 table_limit same opens.0 opens.1.1 in
    rw is (refused_by bits told name opens.1.0 fault opens.1.1 ((rw start at reads) opens.1.0 ahead))

-- and which counts tell of it
pub table_cause : (old mid new : State) (fault : FileFault) (u : Unread FileFault) → mid.read_faults ≡ old.read_faults
    → mid.misses ≡ old.misses → new.misses ≡ mid.misses
    → HasReadCause {T = TableFile} mid.read_faults new.read_faults (Err fault) → u ≡ unread_by fault
    → HasUnreadCause {T = TableFile} old new (Err u)
table_cause old mid new (file.Mtx mtx.Read) u faults missed misses cause is =
    rw is (misses ∙ missed, (rw faults at cause))
table_cause old mid new (file.Pack pack.Read) u faults missed misses cause is =
    rw is (misses ∙ missed, (rw faults at cause))
table_cause old mid new fault u faults missed misses cause is = rw is (misses ∙ missed, cause ∙ faults)
