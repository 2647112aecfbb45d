use Rattle.std.proofs.Common.{◌≡◌, ◌∙◌, sym, ap, List, ℕ, Option, []}
use Rattle.std.specs.Prelude.{unwrap_or}
use Rattle.cla_io.specs.MemTold.{told_of}
use Rattle.cla_io.proofs.Growth.{there_after}
use Rattle.cla_io.proofs.mem_files.MemFilesFiles.begin_write.Goals as goal

pub invariant_of-self-2-clause-written : goal.invariant_of-self-2-clause-written
invariant_of-self-2-clause-written c = λ x is.
    let key : x ≡ c.in_ok-key.key = sym (ap (λ (o : Option (List ℕ)). unwrap_or o x) is) ∙ c.in_ok-writing.ensures
    ∙ sym c.in_ok-key.ensures in
    rw key (there_after (told_of c.args.self.now.files.entries) (told_of c.make_empty.new.files.entries) c.in_ok-key.key
    [] c.in_ok-make_empty.ensures.told)
