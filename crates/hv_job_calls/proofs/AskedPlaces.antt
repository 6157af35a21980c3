-- A job's place by its note: its Asked has the partition.
use Rattle.std.proofs.Common.{◌≡◌, ℕ, Option, Some, List, map, sym, ap, ◌∙◌}
use Rattle.hv_shelf.specs.declared.place.Place.{Place}
use Rattle.hv_dirs.specs.declared.names.DirName.{DirName}
use Rattle.hv_history.specs.declared.entry.Entry.{Entry}
use Rattle.hv_history.specs.State.{Job, numbered, state_of}
use Rattle.hv_book.specs.declared.jobs.JobNote.{JobNote}
use Rattle.hv_book.specs.Briefs.{brief_job}
use Rattle.hv_tallies.specs.Jobs.{asked_at}
use Rattle.hv_tallies.proofs.AskedLemmas.{IsAskedThere, all-asked}
use Rattle.hv_stands.proofs.Soundness.{all-numbered}
use Rattle.hv_job_calls.specs.Staging.{place_by, staged_by, staged_in}
use Rattle.hv_job_calls.proofs.Notes.{note-of, one-job}

pub asked-there : (entries : List Entry) (n : ℕ) (j : Job) → numbered (state_of entries).jobs n ≡ Some j → asked_at entries j.asked ≡ Some j.partition
asked-there entries n j at = (all-numbered (IsAskedThere entries) (state_of entries).jobs n j at (all-asked entries)).there

pub place-noted : (entries : List Entry) (n : ℕ) (note : JobNote) (name : DirName) (bucket : ℕ) (place : Option Place)
    → Some note ≡ numbered (map brief_job (state_of entries).jobs) n → place ≡ place_by n note name bucket (asked_at entries note.asked)
    → (j : Job) → numbered (state_of entries).jobs n ≡ Some j → place ≡ Some (staged_in (state_of entries) n name bucket)
place-noted entries n note name bucket place e is j at =
    let there = note-of (state_of entries).jobs n note e in
    let one : there.0 ≡ j = one-job (numbered (state_of entries).jobs n) there.0 j there.1 at in
    let same : note ≡ brief_job j = there.2 ∙ ap brief_job one in
    is ∙ ap (λ (x : JobNote). place_by n x name bucket (asked_at entries x.asked)) same
    ∙ ap (place_by n (brief_job j) name bucket) (asked-there entries n j at)
    ∙ sym (ap (λ o. Some (staged_by n name bucket o)) at)
