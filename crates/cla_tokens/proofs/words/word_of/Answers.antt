use Rattle.std.proofs.Common.{sym}
use Rattle.cla_tokens.specs.Words.{words, word_of}
use Rattle.cla_tokens.proofs.WordTable.{none_found}
use Rattle.cla_tokens.proofs.words.word_of.Goals as goal

pub returns-in_default : goal.returns-in_default
unfolding word_of
returns-in_default c =
    let d = c.in_default in
    sym (none_found words c.args.word.now (
      d.not-read,
      (
        d.not-print,
        (
          d.not-write,
          (
            d.not-pack,
            (
              d.not-t,
              (
                d.not-sum,
                (
                  d.not-rowSums,
                  (
                    d.not-colSums,
                    (
                      d.not-min,
                      (
                        d.not-max,
                        (
                          d.not-rowMins,
                          (
                            d.not-rowMaxs,
                            (
                              d.not-colMins,
                              (
                                d.not-colMaxs,
                                (
                                  d.not-nrow,
                                  (
                                    d.not-ncol,
                                    (
                                      d.not-cbind,
                                      (
                                        d.not-rbind,
                                        (
                                          d.not-for,
                                          (
                                            d.not-in,
                                            (
                                              d.not-if,
                                              (
                                                d.not-else,
                                                (
                                                  d.not-while,
                                                  (
                                                    d.not-function,
                                                    (
                                                      d.not-table,
                                                      (
                                                        d.not-groupSums,
                                                        (d.not-frame, (d.not-decode, (d.not-append, tt))),
                                                      ),
                                                    ),
                                                  ),
                                                ),
                                              ),
                                            ),
                                          ),
                                        ),
                                      ),
                                    ),
                                  ),
                                ),
                              ),
                            ),
                          ),
                        ),
                      ),
                    ),
                  ),
                ),
              ),
            ),
          ),
        ),
      ),
    ))
