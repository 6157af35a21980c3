use Rattle.hv_program.specs.Results.{ReadsTo, ReadsFurther}
use Rattle.hv_program.proofs.Ends.{done-opens, cut-opens, stopped-opens, failed-opens, lacked-opens}
use Rattle.hv_program.proofs.laws.opens_again.Goals as goal

pub returns-clause-done : goal.returns-clause-done
returns-clause-done c = done-opens

pub returns-clause-cut : goal.returns-clause-cut
returns-clause-cut c = cut-opens

pub returns-clause-stopped : goal.returns-clause-stopped
returns-clause-stopped c = λ low high start actions written now store is. stopped-opens low high start actions written now store (ReadsFurther store.journal) is

pub returns-clause-ran_out : goal.returns-clause-ran_out
returns-clause-ran_out c = λ low high start actions written now store is. stopped-opens low high start actions written now store (ReadsTo store.journal) is

pub returns-clause-failed : goal.returns-clause-failed
returns-clause-failed c = failed-opens

pub returns-clause-lacked : goal.returns-clause-lacked
returns-clause-lacked c = lacked-opens
