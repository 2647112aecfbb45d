use Rattle.std.proofs.Common.{◌≡◌, ◌≤◌, ◌∙◌, ◌++◌, ◌-◌, ℕ, List, [], ◌∷◌, length, map, ap, sym, subst, arith}
use Rattle.std.specs.List.{flat_map}
use Rattle.std.proofs.lemmas.List.{append-nil, flat_map_more}
use Rattle.cla_layout.specs.Groups.{code_of}
use Rattle.cla_rows.specs.CodeRuns.{listed_begins, IsMaximalRun}
use Rattle.cla_packed.specs.Runs.{Run, run_bytes}
use Rattle.cla_spec.specs.Bytes.{bytes_of}
use Rattle.cla_pack_writer.proofs.CodeRuns.{at_start, at_first, at_next, at_end, number_there, numbers_few}
use Rattle.cla_pack_writer.proofs.Sending.{sent_as, sent_on}
use Rattle.cla_pack_writer.proofs.runs.put_list.Goals as goal

pub overflow_cast-numbers : goal.overflow_cast-numbers
overflow_cast-numbers g c =
    let k = c.requires.numbers.0 in
    omega (arith, numbers_few c.args.rows.now k c.args.numbers.now c.requires.numbers.1, c.requires.few)

pub loop-number-init : goal.loop-number-init
loop-number-init g c = λ k is. (
  [],
  at_start c.args.rows.now.codes (listed_begins c.args.rows.now.codes c.args.rows.now.rest) c.args.numbers.now k
      (is.runs k is.listed ∙ ap (map (code_of (listed_begins c.args.rows.now.codes c.args.rows.now.rest)))
      (sym is.numbers_are)),
  sent_as (sym (append-nil (bytes_of 4 (length c.args.numbers.now)))) c.put_number.ensures,
)

pub begin-begin-requires : goal.begin-begin-requires
begin-begin-requires g c =
    number_there c.args.rows.now c.requires.numbers.0 c.loop-number.number-index c.args.numbers.now c.requires.numbers.1
    c.loop-number-test.true

pub overflow_sub-begin : goal.overflow_sub-begin
overflow_sub-begin g c =
    let rows = c.args.rows.now in
    let k = c.requires.numbers.0 in
    let h = c.loop-number.invariant k c.requires.numbers.1 in
    let first = at_first rows.codes (listed_begins rows.codes rows.rest) c.args.numbers.now k c.loop-number.number-index
    c.loop-number.end h.0 h.1 c.loop-number-test.true in
    omega (arith, first.from, c.begin-begin.ensures)

pub end-end-requires : goal.end-end-requires
end-end-requires g c =
    number_there c.args.rows.now c.requires.numbers.0 c.loop-number.number-index c.args.numbers.now c.requires.numbers.1
    c.loop-number-test.true

pub loop-number-preserved : goal.loop-number-preserved
loop-number-preserved g c = λ k is.
    let on = g.met.O.Sink.kept_on in
    let rows = c.args.rows.now in
    let numbers = c.args.numbers.now in
    let begins = listed_begins rows.codes rows.rest in
    let n = c.loop-number.number-index in
    let e = c.loop-number.end in
    let t = c.end-end.result in
    let b = code_of begins (code_of numbers n) in
    let h = c.loop-number.invariant k is in
    let done = h.0 in
    let first = at_first rows.codes begins numbers k n e done h.1 c.loop-number-test.true in
    let run = subst (λ (key : ℕ). IsMaximalRun rows.codes key b t) first.same c.end-end.ensures in (
      done ++ (b - e, t - b) ∷ [],
      at_next rows.codes begins numbers k n e t done h.1 c.loop-number-test.true run,
      sent_as (flat_map_more run_bytes (bytes_of 4 (length numbers)) done (b - e, t - b))
          (sent_on on h.2 (sent_on on
          (sent_as (ap (λ (m : ℕ). bytes_of 4 (m - e)) c.begin-begin.ensures) c.put_number-in-loop-number.ensures)
          (sent_as (ap (λ (m : ℕ). bytes_of 4 (t - m)) c.begin-begin.ensures) c.put_number-in-loop-number-2.ensures))),
    )

pub returns : goal.returns
returns g c = λ k is.
    let h = c.loop-number.invariant k is in
    let n = c.loop-number.number-index in
    let done = h.0 in
    let begins = listed_begins c.args.rows.now.codes c.args.rows.now.rest in
    let over : length c.args.numbers.now ≤ n = omega (arith, c.loop-number-test.false) in
    let few = h.1.few in
    let count = h.1.count in
    let size : length c.args.numbers.now ≡ length done = omega (arith, over, few, count) in
    let runs = at_end c.args.rows.now.codes begins c.args.numbers.now k n c.loop-number.end done h.1 over in
    sent_as (ap (λ (m : ℕ). bytes_of 4 m ++ flat_map run_bytes done) size
    ∙ ap (λ (l : List Run). bytes_of 4 (length l) ++ flat_map run_bytes l) (sym runs)) h.2
