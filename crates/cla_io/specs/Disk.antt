-- What the calls on a real file do to the bytes that std knows of it.
use Rattle.std.specs.Prelude.{ℕ, List, take, Option, Some, None, Result, Ok, Err}
use Rattle.std.specs.Io.KnownBytes.{Keeps, Consumes, Appends}
use Rattle.cla_io.specs.declared.disk.Opened.{Opened}
use Rattle.cla_io.specs.declared.disk.Written.{Written}
use Rattle.cla_io.specs.declared.stop.Stop.{Stop}

-- the bytes that were read are the next ones of the file, of what `left` knows of it
abbrev pub ReadsFile : {H : Type 0} → (H → Option (List ℕ)) → Option (Opened H) → Option (Opened H) → List ℕ →
    Result ℕ Stop → Type 0
ReadsFile left None new into result = ⊥
ReadsFile left (Some old) None into result = ⊥
ReadsFile left (Some old) (Some new) into (Ok n) = Consumes (left old.file) (left new.file) (take n into)
ReadsFile left (Some old) (Some new) into (Err e) = Keeps (left old.file) (left new.file)

-- the bytes that were written stand behind those of the file, of what `held` knows of it
abbrev pub WritesFile : {H : Type 0} → (H → Option (List ℕ)) → Option (Written H) → Option (Written H) → List ℕ →
    Result ℕ Stop → Type 0
WritesFile held None new piece result = ⊥
WritesFile held (Some old) None piece result = ⊥
WritesFile held (Some old) (Some new) piece (Ok n) = Appends (held old.file) (held new.file) (take n piece)
WritesFile held (Some old) (Some new) piece (Err e) = Unit {0}
