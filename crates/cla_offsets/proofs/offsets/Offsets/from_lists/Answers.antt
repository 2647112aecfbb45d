use Rattle.std.proofs.Common.{◌≡◌, ℕ, length, subst, ap, sym, ◌∙◌}
use Rattle.cla_layout.specs.Groups.{IsGroup}
use Rattle.cla_group.specs.Dictionaries.{DictionaryOf}
use Rattle.cla_offsets.specs.Rows.{OffsetsOf}
use Rattle.cla_offsets.specs.RowLists.{AreRowLists}
use Rattle.cla_offsets.proofs.offsets.Offsets.from_lists.Goals as goal

pub invariant_of-result-2 : goal.invariant_of-result-2
invariant_of-result-2 g c =
    let codes = c.requires.lists.0 in
    let lists = subst (λ (n : ℕ). AreRowLists codes c.args.rows n c.args.rest c.args.first_unlisted
    c.args.lists.now.starts.items c.args.lists.now.places.items) (sym c.len-tuples.ensures.count) c.requires.lists.3 in
    let rows = c.in_ok-new.ensures.ok ∙ c.in_ok-rows.ensures codes lists in
    let view_is = sym c.dictionary.view_is in
    rw rows (record {
      is = subst (λ (d : DictionaryOf). IsGroup g.N.Number.BITS d.width codes d.tuples) view_is c.requires.lists.1;
      counted = subst (λ (d : DictionaryOf). c.len-tuples.result ≡ length d.tuples) view_is c.len-tuples.ensures.count;
    })

pub returns-clause-codes : goal.returns-clause-codes
returns-clause-codes g c = λ codes lists.
    (let same = subst (λ (n : ℕ). AreRowLists codes c.args.rows n c.args.rest c.args.first_unlisted
    c.args.lists.now.starts.items c.args.lists.now.places.items) (sym c.len-tuples.ensures.count) lists in
    ap (λ (v : OffsetsOf). v.codes) (c.in_ok-new.ensures.ok ∙ c.in_ok-rows.ensures codes same))
