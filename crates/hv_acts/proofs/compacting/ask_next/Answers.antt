use Rattle.std.proofs.Common.{◌≡◌, Ok, Err, sym, subst}
use Rattle.hv_history.specs.declared.entry.Entry.{Entry}
use Rattle.hv_history.specs.declared.entry.Entry.TheVariants as entry
use Rattle.hv_history.specs.declared.entry.JobKind.{JobKind}
use Rattle.hv_history.specs.JobsTrue.{kind_of}
use Rattle.hv_trail.specs.Kept.{trail_of}
use Rattle.hv_telling.specs.hv_house.specs.House.{entries_of}
use Rattle.hv_telling.specs.Telling.{IsTrueNow}
use Rattle.hv_acts.specs.Answers.{own_entry, EntryStep}
use Rattle.hv_acts.specs.Compacting.{next_job}
use Rattle.hv_acts.proofs.Shorts.{short_asked}
use Rattle.hv_acts.proofs.Truths.{true-house, job-true}
use Rattle.hv_acts.proofs.Compactions.{job-next, entry-is, ask-done, ask-refused}
use Rattle.hv_acts.proofs.compacting.ask_next.Goals as goal

pub note_fitting-requires-clause-small : goal.note_fitting-requires-clause-small
note_fitting-requires-clause-small g c =
    short_asked c.next_job-job.result c.args.asked.table c.args.asked.partition c.kind_of-sort.result c.args.asked.by.0 c.requires.short

pub note_fitting-requires-clause-truly : goal.note_fitting-requires-clause-truly
note_fitting-requires-clause-truly g c told fits =
    let trail = trail_of c.args.house.now.trail in
    subst (λ (k : JobKind). IsTrueNow (entries_of c.args.house.now) trail (entry.Asked c.next_job-job.result c.args.asked.table c.args.asked.partition k c.args.asked.by.0))
    (sym c.kind_of-sort.ensures)
    (true-house c.args.house.now
    (entry.Asked c.next_job-job.result c.args.asked.table c.args.asked.partition (kind_of c.args.asked.kind) c.args.asked.by.0)
    (job-true trail c.args.asked c.requires.runs.0 (c.requires.truly told) c.requires.idle))

pub returns-in-Ok : goal.returns-in-Ok
returns-in-Ok g c =
    let next = job-next c.args.house.now c.next_job-job.result c.next_job-job.ensures.next in
    record {
      asked =
          ask-done g.D.Shelf.told g.D.Shelf.faults c.args.asked c.next_job-job.result c.args.house.now c.note_fitting.new.house c.requires.idle c.requires.runs next
          (subst (λ (e : Entry). EntryStep {T = Unit {0}} g.D.Shelf.told g.D.Shelf.faults (own_entry c.args.asked.by e) c.args.house.now c.note_fitting.new.house (Ok tt))
          (entry-is c.args.asked c.next_job-job.result (next_job (trail_of c.args.house.now.trail)) c.kind_of-sort.result next c.kind_of-sort.ensures)
          c.in-Ok.ensures.noted);
      hard = c.note_fitting.ensures.hard;
    }

pub returns-in-Err : goal.returns-in-Err
returns-in-Err g c =
    let next = job-next c.args.house.now c.next_job-job.result c.next_job-job.ensures.next in
    record {
      asked =
          ask-refused g.D.Shelf.told g.D.Shelf.faults c.args.asked c.in-Err.fault c.args.house.now c.note_fitting.new.house c.requires.runs c.requires.room
          (subst (λ (e : Entry). EntryStep {T = Unit {0}} g.D.Shelf.told g.D.Shelf.faults (own_entry c.args.asked.by e) c.args.house.now c.note_fitting.new.house (Err c.in-Err.fault))
          (entry-is c.args.asked c.next_job-job.result (next_job (trail_of c.args.house.now.trail)) c.kind_of-sort.result next c.kind_of-sort.ensures)
          c.in-Err.ensures.noted);
      hard = c.note_fitting.ensures.hard;
    }
