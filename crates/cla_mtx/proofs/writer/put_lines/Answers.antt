use Rattle.std.proofs.Common.{[], ◌∷◌, ◌++◌, ◌∙◌, List, ℕ, pos, length, refl, ap, subst}
use Rattle.std.proofs.lemmas.Result.{err_from_is_err_and}
use Rattle.cla_market.specs.Texts.{nonzeros, number_line}
use Rattle.cla_print.specs.Parting.{HasFront, Parts}
use Rattle.cla_print.specs.Pieces.{pieces}
use Rattle.cla_mtx.specs.Texts.{column_text}
use Rattle.cla_mtx.proofs.PartLaws.{first_fails, front_behind, put_behind}
use Rattle.cla_mtx.proofs.TextLaws.{banner_line, whole_text}
use Rattle.cla_mtx.proofs.writer.put_lines.Goals as goal

pub returns-in_err-push-clause-parts : goal.returns-in_err-push-clause-parts
returns-in_err-push-clause-parts g c =
    let m = c.args.m.now in
    let told = g.O.Sink.told in
    let size = number_line (pos m.rows) (pos m.cols) (pos (length (nonzeros m))) ++ 10 ∷ [] in
    rw (err_from_is_err_and c.from_residual.result c.from_residual.ensures.1).1
    (subst (λ (t : List ℕ). HasFront (c.args.buffer.now ++ t) (told c.args.out.now) (told c.push.new.out))
    (whole_text m (pos m.rows) (pos m.cols) (pos (length (nonzeros m))) refl refl refl)
    (first_fails c.args.buffer.now banner_line (size ++ pieces (column_text m) m.cols) (told c.args.out.now)
    (told c.push.new.out) c.in_err-push.ensures.parts))

pub returns-in_err-put_numbers-clause-parts : goal.returns-in_err-put_numbers-clause-parts
returns-in_err-put_numbers-clause-parts g c =
    let m = c.args.m.now in
    let told = g.O.Sink.told in
    let size = number_line c.count-rows.result c.count-cols.result c.count_nonzeros.result ++ 10 ∷ [] in
    let others = pieces (column_text m) m.cols in
    let r = c.from_residual-in_err-put_numbers.result in
    rw (err_from_is_err_and r c.from_residual-in_err-put_numbers.ensures.1).1
    (subst (λ (t : List ℕ). HasFront (c.args.buffer.now ++ t) (told c.args.out.now) (told c.put_numbers.new.out))
    (whole_text m c.count-rows.result c.count-cols.result c.count_nonzeros.result (c.count-rows.ensures
    ∙ ap pos c.rows.ensures) (c.count-cols.ensures ∙ ap pos c.cols.ensures) c.count_nonzeros.ensures)
    (front_behind c.args.buffer.now banner_line (size ++ others) (told c.args.out.now) (told c.push.new.out)
    (told c.put_numbers.new.out) c.push.new.self c.in_ok-push.ensures.parts
    (first_fails c.push.new.self size others (told c.push.new.out) (told c.put_numbers.new.out)
    c.in_err-put_numbers.ensures.parts)))

pub returns-clause-parts : goal.returns-clause-parts
returns-clause-parts g c =
    let m = c.args.m.now in
    let told = g.O.Sink.told in
    let size = number_line c.count-rows.result c.count-cols.result c.count_nonzeros.result ++ 10 ∷ [] in
    let others = pieces (column_text m) m.cols in
    subst (λ (t : List ℕ). Parts (c.args.buffer.now ++ t) (told c.args.out.now) (told c.put_columns.new.out)
    c.put_columns.new.buffer c.put_columns.result)
    (whole_text m c.count-rows.result c.count-cols.result c.count_nonzeros.result (c.count-rows.ensures
    ∙ ap pos c.rows.ensures) (c.count-cols.ensures ∙ ap pos c.cols.ensures) c.count_nonzeros.ensures)
    (put_behind c.args.buffer.now banner_line (size ++ others) (told c.args.out.now) (told c.push.new.out)
    (told c.put_columns.new.out) c.push.new.self c.put_columns.new.buffer c.put_columns.result
    c.in_ok-push.ensures.parts
    (put_behind c.push.new.self size others (told c.push.new.out) (told c.put_numbers.new.out)
    (told c.put_columns.new.out) c.put_numbers.new.buffer c.put_columns.new.buffer c.put_columns.result
    c.in_ok-put_numbers.ensures.parts c.put_columns.ensures.parts))
