use Rattle.hv_recovery.proofs.Books as books
use Rattle.hv_recovery.proofs.laws.reads_or_is_bad.Goals as goal

pub returns-clause-one_book : goal.returns-clause-one_book
returns-clause-one_book c = books.one_book

pub returns-clause-one_place : goal.returns-clause-one_place
returns-clause-one_place c = books.one_place

pub returns-clause-not_both : goal.returns-clause-not_both
returns-clause-not_both c = books.not_both

pub returns-clause-not_neither : goal.returns-clause-not_neither
returns-clause-not_neither c = books.not_neither
