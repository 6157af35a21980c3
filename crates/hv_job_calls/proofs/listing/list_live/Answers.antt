use Rattle.std.proofs.Common.{List, sym, ap, ◌∙◌, subst}
use Rattle.std.specs.Prelude.{IsSome, option_map}
use Rattle.hv_history.specs.declared.entry.Entry.{Entry}
use Rattle.hv_history.specs.State.{state_of, numbered}
use Rattle.hv_book.specs.Briefs.{brief_job}
use Rattle.hv_telling.specs.hv_house.specs.House.{entries_of}
use Rattle.hv_job_calls.proofs.Forgets.{tells-more}
use Rattle.hv_job_calls.proofs.ListedJobs.{is-noted, noted-in, note-is, list-of-job, files-of-job}
use Rattle.hv_job_calls.proofs.OnOk.{ok-weaker}
use Rattle.hv_job_calls.proofs.listing.list_live.Goals as goal

pub noted-note-requires : goal.noted-note-requires
noted-note-requires g c =
    subst (λ (book : List Entry). IsSome (option_map brief_job (numbered (state_of book).jobs c.args.job.0))) (sym c.book.ensures.entries)
    (is-noted (state_of (entries_of c.args.house.now)) c.args.job.0 c.requires.works)

pub list_noted-requires-clause-noted : goal.list_noted-requires-clause-noted
list_noted-requires-clause-noted g c =
    noted-in (state_of (entries_of c.args.house.now)) c.args.job.0 c.noted-note.result c.requires.works
    (c.noted-note.ensures ∙ ap (λ (book : List Entry). option_map brief_job (numbered (state_of book).jobs c.args.job.0)) c.book.ensures.entries)

pub returns-clause-list : goal.returns-clause-list
returns-clause-list g c =
    ok-weaker c.list_noted.result _ _
    (λ listing is j at.
    list-of-job (entries_of c.args.house.now) c.noted-note.result listing j
    (note-is (state_of (entries_of c.args.house.now)) c.args.job.0 c.noted-note.result
    (c.noted-note.ensures ∙ ap (λ (book : List Entry). option_map brief_job (numbered (state_of book).jobs c.args.job.0)) c.book.ensures.entries) j at) is)
    c.list_noted.ensures.list

pub returns-clause-files : goal.returns-clause-files
returns-clause-files g c =
    ok-weaker c.list_noted.result _ _
    (λ listing is j at.
    tells-more (g.D.Shelf.told c.args.house.now.shelf) _ _
    (files-of-job (entries_of c.args.house.now) c.args.job.0 c.noted-note.result listing j at
    (note-is (state_of (entries_of c.args.house.now)) c.args.job.0 c.noted-note.result
    (c.noted-note.ensures ∙ ap (λ (book : List Entry). option_map brief_job (numbered (state_of book).jobs c.args.job.0)) c.book.ensures.entries) j at)) is)
    c.list_noted.ensures.listing
