-- How sinks grow, piece by piece.
use Rattle.std.proofs.Common.{◌≡◌, ℕ, ◌+◌, ◌-◌, Bool, true, false, cond, List, [], ◌++◌, length, take, drop, Option}
use Rattle.std.proofs.Common.{Some, None, Result, Ok, Err, append_assoc, ap, sym, subst, refl, ◌∙◌}
use Rattle.std.specs.Prelude.{IsSome, OnOk, OnErr, unwrap_or}
use Rattle.std.specs.Ordering.{nat_cmp, eq_by_cmp}
use Rattle.std.specs.Cmp.{eq_by_cmp_equiv}
use Rattle.std.specs.Cmp.Lexicographic.{slice_cmp, nat_list_cmp_total}
use Rattle.std.specs.FinMap as fin
use Rattle.cla_spec.specs.Files.{Told, bytes_at}
use Rattle.cla_io.specs.State.{State, IsThere, WritingIsThere}
use Rattle.cla_io.specs.Writes.{Writes, held, appended, with_bytes}
use Rattle.cla_io.specs.Kept.{SameBut, KeptFiles, same_but_itself}
use Rattle.cla_io.specs.declared.stop.Stop.{Stop}
use Rattle.cla_io.proofs.MemMap.{name_equal, ties_equal}
use Rattle.std.proofs.Math.Seq.{take-add}
use Rattle.std.proofs.lemmas.List.{take_rest}
use Rattle.cla_io.specs.Sinks.{Grows, SinkWrites, PutsAll}

-- the first bytes, and then some of the others
front_on : (piece : List ℕ) (d n : ℕ) → take d piece ++ take n (take (length piece - d) (drop d piece))
    ≡ take (d + n) piece
front_on piece d n = rw (take_rest piece d) (sym (take-add d n piece))

-- a piece that is written on from where it stood
pub grows_on : (a b c : Option (List ℕ)) (piece : List ℕ) (d n : ℕ) → Grows a b (take d piece) →
    Grows b c (take n (take (length piece - d) (drop d piece))) → Grows a c (take (d + n) piece)
grows_on None b c piece d n first next = rw first at next
grows_on (Some a) b c piece d n first next = (rw first at next)
    ∙ ap Some (append_assoc a (take d piece) (take n (take (length piece - d) (drop d piece)))
    ∙ ap (λ (xs : List ℕ). a ++ xs) (front_on piece d n))

-- what stands at a name, after its bytes were put there
get_put : (told : Told) (name bytes : List ℕ) → fin.get (fin.insert told name bytes) name ≡ Some bytes
get_put told name bytes = fin.get-insert nat_list_cmp_total told name bytes name
    ∙ ap (λ (b : Bool). cond b (Some bytes) (fin.get told name)) ((eq_by_cmp_equiv nat_list_cmp_total).refl name)

pub there_after : (told told' : Told) (name bytes : List ℕ) → told' ≡ fin.insert told name bytes →
    IsSome (fin.get told' name)
there_after told told' name bytes is = rw (is, get_put told name bytes) refl

pub there_still : {E : Type 0} (told told' : Told) (name bytes : List ℕ) (result : Result (Unit {0}) E) →
    OnOk result (told' ≡ fin.insert told name bytes) → OnErr result (told' ≡ told) → IsSome (fin.get told name) →
    IsSome (fin.get told' name)
there_still told told' name bytes (Ok u) good bad there = there_after told told' name bytes good
there_still told told' name bytes (Err e) good bad there = rw bad there

-- and at another one
get_other : (told : Told) (name bytes other : List ℕ) → (other ≡ name → ⊥) → fin.get (fin.insert told name bytes) other
    ≡ fin.get told other
get_other told name bytes other apart = fin.get-insert nat_list_cmp_total told name bytes other
    ∙ (elim (eq_by_cmp (slice_cmp nat_cmp) other name) as (λ (b : Bool). eq_by_cmp (slice_cmp nat_cmp) other name ≡ b →
    cond b (Some bytes) (fin.get told other) ≡ fin.get told other) [
      | true ↦ λ e. absurd (apart (name_equal other name e))
      | false ↦ λ e. refl
    ]) refl

-- a file that is being written grows as its files do
grows_held : (told told' : Option Told) (writing writing' : Option (List ℕ)) (piece : List ℕ) → writing' ≡ writing →
    IsSome writing → told' ≡ appended told writing piece → Grows (held told writing) (held told' writing') piece
grows_held told told' None writing' piece same is_open is = absurd (let e : false ≡ true = is_open in cc)
grows_held None told' (Some name) writing' piece same is_open is = rw is refl
grows_held (Some t) told' (Some name) writing' piece same is_open is =
    rw (is, same) (ap (λ (found : Option (List ℕ)). Some (unwrap_or found []))
    (get_put t name (bytes_at t name ++ piece)))

pub sink_writes : (piece : List ℕ) (old new : State) (result : Result ℕ Stop) → new.writing ≡ old.writing →
    IsSome old.writing → Writes piece old new result →
    SinkWrites piece (held old.told old.writing) (held new.told new.writing) result
sink_writes piece old new (Ok n) same is_open w =
    (w.0, w.1, grows_held old.told new.told old.writing new.writing (take n piece) same is_open w.2)
sink_writes piece old new (Err e) same is_open w = rw (w, same) refl

-- only the file that is being written changes
same_but_appended : (told told' : Option Told) (writing : Option (List ℕ)) (piece : List ℕ) →
    told' ≡ appended told writing piece → SameBut writing told told'
same_but_appended None told' None piece is = is
same_but_appended None told' (Some name) piece is = is
same_but_appended (Some t) told' None piece is = rw is refl
same_but_appended (Some t) told' (Some name) piece is =
    rw is (λ other apart. get_other t name (bytes_at t name ++ piece) other apart)

pub same_but_written : (piece : List ℕ) (old new : State) (result : Result ℕ Stop) → Writes piece old new result →
    SameBut old.writing old.told new.told
same_but_written piece old new (Ok n) w = same_but_appended old.told new.told old.writing (take n piece) w.2
same_but_written piece old new (Err e) w = subst (λ (told : Option Told). SameBut old.writing old.told told) (sym w)
    (same_but_itself old.writing old.told)

-- what stands at a name that is there
got : (found : Option (List ℕ)) (bytes : List ℕ) → IsSome found → unwrap_or found [] ≡ bytes → found ≡ Some bytes
got None bytes there is = absurd (let e : false ≡ true = there in cc)
got (Some x) bytes there is = ap Some is

-- files that tell the same but at one name, where this one holds these bytes
put_at : (told told' : Told) (name bytes : List ℕ) →
    ((other : List ℕ) → (other ≡ name → ⊥) → fin.get told' other ≡ fin.get told other) → fin.get told' name ≡ Some bytes
    → told' ≡ fin.insert told name bytes
put_at told told' name bytes same is = fin.same_map nat_list_cmp_total ties_equal told' (fin.insert told name bytes)
    (λ q.
    (elim (eq_by_cmp (slice_cmp nat_cmp) q name) as (λ (b : Bool). eq_by_cmp (slice_cmp nat_cmp) q name ≡ b →
    fin.get told' q ≡ cond b (Some bytes) (fin.get told q)) [
      | true ↦ λ e. ap (fin.get told') (name_equal q name e) ∙ is
      | false ↦ λ e. same q
          (λ at. absurd (let f : false ≡ true = sym e ∙ ap (λ (x : List ℕ). eq_by_cmp (slice_cmp nat_cmp) x name) at
          ∙ (eq_by_cmp_equiv nat_list_cmp_total).refl name in cc))
    ]) refl ∙ sym (fin.get-insert nat_list_cmp_total told name bytes q))

-- what a sink over the file that is being written grew by, its files grew by
appended_from : (told told' : Option Told) (writing writing' : Option (List ℕ)) (piece : List ℕ)
    → writing' ≡ writing → IsSome writing → IsThere told' writing' → SameBut writing told told' →
    Grows (held told writing) (held told' writing') piece
    → told' ≡ appended told writing piece
appended_from None told' None writing' piece same is_open there kept grew = kept
appended_from None told' (Some name) writing' piece same is_open there kept grew = kept
appended_from (Some t) told' None writing' piece same is_open there kept grew =
    absurd (let e : false ≡ true = is_open in cc)
appended_from (Some t) None (Some name) writing' piece same is_open there kept grew = absurd kept
appended_from (Some t) (Some t') (Some name) writing' piece same is_open there kept grew =
    let at : IsSome (fin.get t' name) = (rw same at there) name refl in
    let bytes : bytes_at t' name ≡ bytes_at t name ++ piece =
    ap (λ (o : Option (List ℕ)). unwrap_or o []) (rw same at grew) in
    ap Some (put_at t t' name (bytes_at t name ++ piece) kept (got (fin.get t' name) _ at bytes))

pub appended_by_sink : {U : Type 0} (old new : State) (piece : List ℕ) (result : Result U Stop) → IsSome old.writing →
    WritingIsThere new → KeptFiles old new
    → PutsAll piece (held old.told old.writing) (held new.told new.writing) result →
    OnOk result (new.told ≡ appended old.told old.writing piece)
appended_by_sink old new piece (Ok u) is_open there kept puts =
    appended_from old.told new.told old.writing new.writing piece kept.writing is_open there kept.told puts
appended_by_sink old new piece (Err e) is_open there kept puts = tt

-- a file that was begun anew holds what was appended to it
pub written_whole : (told : Option Told) (name bytes : List ℕ) → appended (with_bytes told name []) (Some name) bytes
    ≡ with_bytes told name bytes
written_whole None name bytes = refl
written_whole (Some t) name bytes =
    ap Some (put_at t (fin.insert (fin.insert t name []) name (bytes_at (fin.insert t name []) name ++ bytes)) name
    bytes
    (λ other apart. get_other (fin.insert t name []) name _ other apart ∙ get_other t name [] other apart)
    (get_put (fin.insert t name []) name _ ∙ ap (λ (found : Option (List ℕ)). Some (unwrap_or found [] ++ bytes))
    (get_put t name [])))
