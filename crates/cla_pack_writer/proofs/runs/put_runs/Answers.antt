use Rattle.std.proofs.Common.{◌≡◌, ◌-◌, ◌+◌, ℕ, length, Option, Some, None, ap, sym, ◌∙◌, arith}
use Rattle.cla_layout.specs.Listed.{rest_of}
use Rattle.cla_runs.specs.Members.{runs_codes, runs_dictionary}
use Rattle.cla_runs.specs.Rows.{RowsOf}
use Rattle.cla_packed.specs.Rests as rests
use Rattle.cla_packed.specs.Runs.{runs_bytes}
use Rattle.cla_pack_writer.specs.Listed.{body_with, head_bytes, lists_from}
use Rattle.cla_pack_writer.proofs.Bodies.{listed_put, rest_there}
use Rattle.cla_pack_writer.proofs.Sending.{sent_as, sent_on, sent_wanting}
use Rattle.cla_pack_writer.proofs.runs.put_runs.Goals as goal

pub returns-in-Err : goal.returns-in-Err
returns-in-Err g c =
    rw c.give_up.ensures
    (sent_wanting (rests.listed_bytes runs_bytes 8 (body_with (runs_codes c.args.g.now) (runs_dictionary c.args.g.now)))
    c.args.outgoing.now c.args.out.now (g.met.O.Sink.kept_itself c.args.out.now))

pub returns-in-None : goal.returns-in-None
returns-in-None g c =
    let on = g.met.O.Sink.kept_on in
    let codes = runs_codes c.args.g.now in
    let tuples = runs_dictionary c.args.g.now in
    let n = c.tuples-tuples.result in
    let size : n - 0 ≡ length tuples = omega (arith, c.tuples-tuples.ensures) in
    let same : None ≡ rest_of codes tuples = sym c.in-None.is ∙ c.rest-rest.ensures.rest ∙ c.requires.rest in
    sent_as (listed_put runs_bytes None codes tuples same tt)
    (sent_on on (sent_as (ap (λ (r : Option ℕ). head_bytes r tuples) c.in-None.is) c.put_head.ensures)
    (sent_as (ap (λ (rows : RowsOf). lists_from runs_bytes rows.codes 0 (n - 0)) c.run_rows-rows.ensures
    ∙ ap (lists_from runs_bytes codes 0) size) c.put_lists.ensures))

pub returns : goal.returns
returns g c =
    let on = g.met.O.Sink.kept_on in
    let codes = runs_codes c.args.g.now in
    let tuples = runs_dictionary c.args.g.now in
    let n = c.tuples-tuples.result in
    let r = c.in-Some.rest in
    let front : r - 0 ≡ r = omega arith in
    let back : n - (r + 1) ≡ length tuples - (r + 1) = ap (λ (m : ℕ). m - (r + 1)) c.tuples-tuples.ensures in
    let same : Some r ≡ rest_of codes tuples = sym c.in-Some.is ∙ c.rest-rest.ensures.rest ∙ c.requires.rest in
    sent_as (listed_put runs_bytes (Some r) codes tuples same (rest_there codes tuples r (sym same)))
    (sent_on on (sent_as (ap (λ (r : Option ℕ). head_bytes r tuples) c.in-Some.is) c.put_head.ensures)
    (sent_on on (sent_as (ap (λ (rows : RowsOf). lists_from runs_bytes rows.codes 0 (r - 0)) c.run_rows-rows.ensures
    ∙ ap (lists_from runs_bytes codes 0) front) c.put_lists-in-Some.ensures)
    (sent_as (ap (λ (rows : RowsOf). lists_from runs_bytes rows.codes (r + 1) (n - (r + 1))) c.run_rows-rows.ensures
    ∙ ap (lists_from runs_bytes codes (r + 1)) back) c.put_lists-in-Some-2.ensures)))
