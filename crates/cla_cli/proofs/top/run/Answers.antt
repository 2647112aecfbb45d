use Rattle.std.proofs.Common.{map, Global, sym}
use Rattle.std.specs.Prelude.{string_bytes}
use Rattle.cla_words.specs.Asked.{asked}
use Rattle.cla_cli.specs.Run.{written}
use Rattle.cla_cli.proofs.EndLaws.{usage_ends, words_unread, completes_by, unfinished_ends, unfinished_counts}
use Rattle.cla_cli.proofs.EndLaws.{unfinished_faults, reads_only_needed}
use Rattle.cla_cli.proofs.top.run.Goals as goal

pub returns-in_default-clause-ends : goal.returns-in_default-clause-ends
returns-in_default-clause-ends g c =
    let old = g.F.Files.state c.args.files.now in
    words_unread g.N.Number.BITS (map (string_bytes {Z = Global}) c.args.words.now) old.told old
    (written (g.O.Sink.told c.args.out.now) (g.O.Sink.faults c.args.out.now))
    (written (g.E.Sink.told c.args.err.now) (g.E.Sink.faults c.args.err.now))
    (written (g.E.Sink.told c.tell.new.err) (g.E.Sink.faults c.tell.new.err)) c.tell.result c.tell.ensures.tells

pub returns-in_default-command-clause-ends : goal.returns-in_default-command-clause-ends
returns-in_default-command-clause-ends g c =
    let old = g.F.Files.state c.args.files.now in
    let none = sym (rw c.in_default-command.is at c.in-Ok.ensures) in
    usage_ends g.N.Number.BITS (map (string_bytes {Z = Global}) c.args.words.now) old.told old
    (written (g.O.Sink.told c.args.out.now) (g.O.Sink.faults c.args.out.now))
    (written (g.E.Sink.told c.args.err.now) (g.E.Sink.faults c.args.err.now))
    (written (g.E.Sink.told c.tell_line.new.err) (g.E.Sink.faults c.tell_line.new.err)) c.tell_line.result none
    c.tell_line.ensures.tells

pub returns-in-Err-clause-ends : goal.returns-in-Err-clause-ends
returns-in-Err-clause-ends g c =
    let bits = g.N.Number.BITS in
    let words = map (string_bytes {Z = Global}) c.args.words.now in
    let command = asked c.in-Some.command in
    let accepted = sym (rw c.in-Some.is at c.in-Ok.ensures) in
    let old = g.F.Files.state c.args.files.now in
    let new = g.F.Files.state c.run_command.new.files in
    let out = written (g.O.Sink.told c.args.out.now) (g.O.Sink.faults c.args.out.now) in
    let out' = written (g.O.Sink.told c.run_command.new.out) (g.O.Sink.faults c.run_command.new.out) in
    let err = written (g.E.Sink.told c.args.err.now) (g.E.Sink.faults c.args.err.now) in
    let err' = written (g.E.Sink.told c.tell-in-Err.new.err) (g.E.Sink.faults c.tell-in-Err.new.err) in
    unfinished_ends bits words command old.told new.told old new out out' err err' c.in-Err.unfinished
    c.tell-in-Err.result accepted c.in-Err.ensures.comes c.in-Err.ensures.ending c.tell-in-Err.ensures.tells

pub returns-in-Err-clause-counts : goal.returns-in-Err-clause-counts
returns-in-Err-clause-counts g c =
    let bits = g.N.Number.BITS in
    let words = map (string_bytes {Z = Global}) c.args.words.now in
    let command = asked c.in-Some.command in
    let accepted = sym (rw c.in-Some.is at c.in-Ok.ensures) in
    let old = g.F.Files.state c.args.files.now in
    let new = g.F.Files.state c.run_command.new.files in
    let out = written (g.O.Sink.told c.args.out.now) (g.O.Sink.faults c.args.out.now) in
    let out' = written (g.O.Sink.told c.run_command.new.out) (g.O.Sink.faults c.run_command.new.out) in
    let err = written (g.E.Sink.told c.args.err.now) (g.E.Sink.faults c.args.err.now) in
    let err' = written (g.E.Sink.told c.tell-in-Err.new.err) (g.E.Sink.faults c.tell-in-Err.new.err) in
    unfinished_counts bits words command old.told c.args.meter.now c.run_command.new.meter old new out.faults
    out'.faults err err' c.in-Err.unfinished c.tell-in-Err.result accepted c.in-Err.ensures.counts
    c.in-Err.ensures.ending c.tell-in-Err.ensures.tells

pub returns-in-Err-clause-completes : goal.returns-in-Err-clause-completes
returns-in-Err-clause-completes g c =
    let bits = g.N.Number.BITS in
    let words = map (string_bytes {Z = Global}) c.args.words.now in
    let command = asked c.in-Some.command in
    let accepted = sym (rw c.in-Some.is at c.in-Ok.ensures) in
    let old = g.F.Files.state c.args.files.now in
    let new = g.F.Files.state c.run_command.new.files in
    let out = written (g.O.Sink.told c.args.out.now) (g.O.Sink.faults c.args.out.now) in
    let out' = written (g.O.Sink.told c.run_command.new.out) (g.O.Sink.faults c.run_command.new.out) in
    let err = written (g.E.Sink.told c.args.err.now) (g.E.Sink.faults c.args.err.now) in
    let err' = written (g.E.Sink.told c.tell-in-Err.new.err) (g.E.Sink.faults c.tell-in-Err.new.err) in
    completes_by bits words old.told new.told old new out out' err err' c.tell-in-Err.result
    (unfinished_ends bits words command old.told new.told old new out out' err err' c.in-Err.unfinished
    c.tell-in-Err.result accepted c.in-Err.ensures.comes c.in-Err.ensures.ending c.tell-in-Err.ensures.tells)
    (unfinished_faults old new out.faults out'.faults err err' c.in-Err.unfinished c.tell-in-Err.result
    c.in-Err.ensures.ending c.tell-in-Err.ensures.tells)

pub returns-in-Err-clause-only_needed : goal.returns-in-Err-clause-only_needed
returns-in-Err-clause-only_needed g c =
    let bits = g.N.Number.BITS in
    let words = map (string_bytes {Z = Global}) c.args.words.now in
    let command = asked c.in-Some.command in
    let accepted = sym (rw c.in-Some.is at c.in-Ok.ensures) in
    let old = g.F.Files.state c.args.files.now in
    let new = g.F.Files.state c.run_command.new.files in
    reads_only_needed bits words command old.told old.reading new.reading accepted c.in-Err.ensures.needed
