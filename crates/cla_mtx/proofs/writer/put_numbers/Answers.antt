use Rattle.std.proofs.Common.{[], ◌∷◌, ◌++◌}
use Rattle.std.proofs.lemmas.Result.{err_from_is_err_and}
use Rattle.cla_spec.specs.Numbers.{decimal_of}
use Rattle.cla_mtx.proofs.PartLaws.{first_fails, front_behind, put_behind}
use Rattle.cla_mtx.proofs.TextLaws.{words_text}
use Rattle.cla_mtx.proofs.writer.put_numbers.Goals as goal

pub returns-in_err-put_number-clause-parts : goal.returns-in_err-put_number-clause-parts
returns-in_err-put_number-clause-parts g c =
    let told = g.O.Sink.told in
    let a = decimal_of c.args.first in
    let b = decimal_of c.args.second in
    let d = decimal_of c.args.third in
    rw ((err_from_is_err_and c.from_residual.result c.from_residual.ensures.1).1, words_text a b d)
    (first_fails c.args.buffer.now (a ++ 32 ∷ []) ((b ++ 32 ∷ []) ++ (d ++ 10 ∷ [])) (told c.args.out.now)
    (told c.put_number.new.out) c.in_err-put_number.ensures.parts)

pub returns-in_err-put_number-2-clause-parts : goal.returns-in_err-put_number-2-clause-parts
returns-in_err-put_number-2-clause-parts g c =
    let told = g.O.Sink.told in
    let a = decimal_of c.args.first in
    let b = decimal_of c.args.second in
    let d = decimal_of c.args.third in
    let r = c.from_residual-in_err-put_number-2.result in
    let e = (err_from_is_err_and r c.from_residual-in_err-put_number-2.ensures.1) in
    rw (e.1, words_text a b d)
    (front_behind c.args.buffer.now (a ++ 32 ∷ []) ((b ++ 32 ∷ []) ++ (d ++ 10 ∷ [])) (told c.args.out.now)
    (told c.put_number.new.out) (told c.put_number-2.new.out) c.put_number.new.buffer c.in_ok-put_number.ensures.parts
    (first_fails c.put_number.new.buffer (b ++ 32 ∷ []) (d ++ 10 ∷ []) (told c.put_number.new.out)
    (told c.put_number-2.new.out) c.in_err-put_number-2.ensures.parts))

pub returns-clause-parts : goal.returns-clause-parts
returns-clause-parts g c =
    let told = g.O.Sink.told in
    let a = decimal_of c.args.first in
    let b = decimal_of c.args.second in
    let d = decimal_of c.args.third in
    let last = put_behind c.put_number.new.buffer (b ++ 32 ∷ []) (d ++ 10 ∷ []) (told c.put_number.new.out)
    (told c.put_number-2.new.out) (told c.put_number-3.new.out) c.put_number-2.new.buffer c.put_number-3.new.buffer
    c.put_number-3.result c.in_ok-put_number-2.ensures.parts c.put_number-3.ensures.parts in
    rw (words_text a b d)
    (put_behind c.args.buffer.now (a ++ 32 ∷ []) ((b ++ 32 ∷ []) ++ (d ++ 10 ∷ [])) (told c.args.out.now)
    (told c.put_number.new.out) (told c.put_number-3.new.out) c.put_number.new.buffer c.put_number-3.new.buffer
    c.put_number-3.result c.in_ok-put_number.ensures.parts last)
