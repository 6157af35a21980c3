use Rattle.std.proofs.Common.{◌≡◌, drop, filter, fold}
use Rattle.hv_tallies.specs.Jobs.{is_asked_of, no_survey, surveyed}
use Rattle.hv_tallies.proofs.survey.survey_of.Given as goal

abbrev pub invariant-loop-note : goal.invariant-loop-note
invariant-loop-note l =
    fold surveyed l.survey (filter (is_asked_of l.book.entries l.table l.partition) (drop l.note-index l.notes))
    ≡ fold surveyed no_survey (filter (is_asked_of l.book.entries l.table l.partition) l.notes)
