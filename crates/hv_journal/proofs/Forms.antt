-- No record begins another, and a journal reads to one book.
use Rattle.std.proofs.Common.{◌≡◌, ℕ, List, ◌++◌, sym, ap, ◌∙◌}
use Rattle.hv_bytes.proofs.Only.{read_one}
use Rattle.hv_history.specs.declared.entry.Entry.{Entry}
use Rattle.hv_history.specs.Spelling.{entry_spelling, HasSpelling}
use Rattle.hv_history.specs.Journal.{record_of, HasRecord}
use Rattle.hv_journal.specs.Reading.{entry_at, record_at}
use Rattle.hv_journal.proofs.Again.{entry_again, record_again}

pub one_spelling : (e d : Entry) (x y : List ℕ) → HasSpelling e → HasSpelling d → entry_spelling e ++ x ≡ entry_spelling d ++ y → (e ≡ d) × (x ≡ y)
one_spelling e d x y he hd same = read_one e d x y (sym (entry_again e x he) ∙ ap entry_at same ∙ entry_again d y hd)

pub one_record : (e d : Entry) (x y : List ℕ) → HasRecord e → HasRecord d → record_of e ++ x ≡ record_of d ++ y → (e ≡ d) × (x ≡ y)
one_record e d x y he hd same = read_one e d x y (sym (record_again e x he) ∙ ap record_at same ∙ record_again d y hd)
