use Rattle.std.proofs.Common.{◌≡◌, ◌≢◌, ◌<◌, ◌≤◌, ◌+◌, ◌∙◌, ℕ, List, length, take, drop, arith, sym, below_more}
use Rattle.std.proofs.Common.{get_or-set_other, get_or-set_same}
use Rattle.std.proofs.lemmas.List.{ext_get_or, length-take-le, length-drop, get_or-take, get_or-drop}
use Rattle.cla_layout.specs.Groups.{code_of}
use Rattle.cla_codes.specs.Bytes.{codes_in}
use Rattle.cla_codes.proofs.CodeBytes.{codes_count, code_in, bytes_within}
use Rattle.cla_codes.proofs.byte_codes.ByteCodes.read.Goals as goal

-- the row that is read is there
row : (w first i n rows : ℕ) (bytes : List ℕ) → first + n ≤ length (codes_in w bytes rows) → i < n → first + i < rows
row w first i n rows bytes within there = omega (arith, within, codes_count w bytes rows, there)

pub overflow_cast-count : goal.overflow_cast-count
overflow_cast-count g c =
    let r = c.self.inside in
    let within : c.args.first + length c.args.into.now ≤ length (codes_in g.row.W r.bytes.items r.rows) =
    rw (← c.self.view_is) at c.requires.within in
    omega (arith, within, codes_count g.row.W r.bytes.items r.rows, c.self.invariant.few)

pub overflow_add-first : goal.overflow_add-first
overflow_add-first g c =
    let r = c.self.inside in
    let within : c.args.first + length c.args.into.now ≤ length (codes_in g.row.W r.bytes.items r.rows) =
    rw (← c.self.view_is) at c.requires.within in
    omega (
      arith,
      row g.row.W c.args.first c.loop-i.i _ r.rows r.bytes.items within c.loop-i-test.true,
      c.self.invariant.few,
    )

pub read_code-requires-clause-within : goal.read_code-requires-clause-within
read_code-requires-clause-within g c =
    let r = c.self.inside in
    let within : c.args.first + length c.args.into.now ≤ length (codes_in g.row.W r.bytes.items r.rows) =
    rw (← c.self.view_is) at c.requires.within in
    rw c.as_slice-bytes.ensures.value
    (bytes_within g.row.W r.rows (c.args.first + c.loop-i.i) (length r.bytes.items)
    (row g.row.W c.args.first c.loop-i.i _ r.rows r.bytes.items within c.loop-i-test.true) c.self.invariant.size)

pub loop-i-preserved : goal.loop-i-preserved
loop-i-preserved g c =
    let r = c.self.inside in
    let i = c.loop-i.i in
    let within : c.args.first + length c.args.into.now ≤ length (codes_in g.row.W r.bytes.items r.rows) =
    rw (← c.self.view_is) at c.requires.within in
    let there : i < length c.loop-i.into = omega (arith, c.loop-i-test.true, c.loop-i.auto.into) in
    let read : c.read_code.result ≡ code_of c.args.self.now (c.args.first + i) =
    rw (← c.self.view_is) (rw c.as_slice-bytes.ensures.value at c.read_code.ensures ∙ sym
    (code_in g.row.W r.bytes.items r.rows (c.args.first + i)
    (row g.row.W c.args.first i _ r.rows r.bytes.items within c.loop-i-test.true))) in
    below_more _ _
    (λ j before. let other : j ≢ i = omega arith in rw get_or-set_other (c.loop-i.invariant j before))
    (rw get_or-set_same read)

pub returns : goal.returns
returns g c =
    let first = c.args.first in
    let n = length c.args.into.now in
    let codes = c.args.self.now in
    let enough : n ≤ length (drop first codes) = omega (arith, length-drop first codes, c.requires.within) in
    ext_get_or 0 c.loop-i.into (take n (drop first codes)) (c.loop-i.auto.into
    ∙ sym (length-take-le n (drop first codes) enough))
    (λ j there. (let within : j < n = omega (arith, there, c.loop-i.auto.into) in
    c.loop-i.invariant j (omega (arith, within, c.loop-i-test.false))
    ∙ sym (get_or-take n (drop first codes) j 0 within ∙ get_or-drop first codes j 0)))
