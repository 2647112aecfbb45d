use Rattle.std.proofs.Common.{rules, ◌≡◌, true, ap, ◌∙◌, arith, length-drop}
use Rattle.std.proofs.lemmas.List.{take_rest}
use Rattle.cla_market.specs.declared.banner.Banner.{Banner}
use Rattle.cla_io.proofs.AheadLaws.{one_line_more}
use Rattle.cla_text.specs.Words.{words_of}
use Rattle.cla_spec.specs.Lines.{first_line}
use Rattle.cla_mtx.proofs.HeldLaws.{line_more}
use Rattle.cla_mtx.proofs.dense.add_lines.Goals as goal

pub plain-preserved : goal.plain-preserved
plain-preserved g c =
    let before = c.plain.invariant in
    let bytes = c.args.bytes.now in
    let count = c.plain.lines.count in
    let width = c.plain.lines.width in
    let place = c.in-Some.place in
    let entry = c.in-Some.ensures in
    let put = c.put_general.ensures in
    let ok : c.put_general.result ≡ true = search rules in
    let is = take_rest bytes width in
    record {
      ready = put.ready ok;
      general = ap (λ (b : Banner). b.symmetry) put.banner ∙ before.general;
      lines = one_line_more bytes _ count width place is before.lines entry.end;
      within = omega (arith, entry.end.0, is, length-drop width bytes, before.within);
      few = omega (arith, before.few);
      over = line_more g.N.Number.BITS c.args.entries c.plain.entries c.put_general.new.entries bytes _ count width
          place is before.within entry.end
          (λ number ts has. put.takes ok number (words_of (first_line _)) entry.some entry.exact ts has) before.over;
    }
