use Rattle.std.proofs.Common.{refl}
use Rattle.cla_io.proofs.Growth.{sink_writes, same_but_written}
use Rattle.cla_io.proofs.file_sink.FileSinkSink.write.Goals as goal

pub returns-clause-writes : goal.returns-clause-writes
returns-clause-writes g c =
    let old = g.F.Files.state c.args.self.now.files.now in
    let new = g.F.Files.state c.write.new.self in
    sink_writes c.args.piece.now old new c.write.result c.write.ensures.writing c.args.self.now.open
    c.write.ensures.writes

pub returns-clause-kept : goal.returns-clause-kept
returns-clause-kept g c =
    let old = g.F.Files.state c.args.self.now.files.now in
    let new = g.F.Files.state c.write.new.self in
    let w = c.write.ensures in (
      refl,
      record {
        told = same_but_written c.args.piece.now old new c.write.result w.writes;
        reading = w.reading;
        writing = w.writing;
        steady = w.frame.steady;
        read_faults = w.frame.read_faults;
        write_faults = w.frame.write_faults;
        misses = w.frame.misses;
      },
    )
