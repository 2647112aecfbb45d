use Rattle.cla_pack_writer.proofs.Sending.{all_put}
use Rattle.cla_pack_writer.proofs.writer.put_table.Goals as goal

pub returns-clause-puts : goal.returns-clause-puts
returns-clause-puts g c =
    (all_put g.met.O.Sink.kept_on (rw c.in_ok-outgoing.ensures at c.put_file.ensures) c.end.ensures).puts

pub returns-clause-later : goal.returns-clause-later
returns-clause-later g c =
    (all_put g.met.O.Sink.kept_on (rw c.in_ok-outgoing.ensures at c.put_file.ensures) c.end.ensures).later

pub returns-clause-steady : goal.returns-clause-steady
returns-clause-steady g c =
    (all_put g.met.O.Sink.kept_on (rw c.in_ok-outgoing.ensures at c.put_file.ensures) c.end.ensures).steady_on

pub returns-clause-kept : goal.returns-clause-kept
returns-clause-kept g c =
    (all_put g.met.O.Sink.kept_on (rw c.in_ok-outgoing.ensures at c.put_file.ensures) c.end.ensures).kept_on

pub returns-clause-cause : goal.returns-clause-cause
returns-clause-cause g c =
    (all_put g.met.O.Sink.kept_on (rw c.in_ok-outgoing.ensures at c.put_file.ensures) c.end.ensures).cause
