-- A put of a file that a job at work stages.
use Rattle.std.proofs.Common.{ℕ, ◌+◌, ◌<◌, true, Option, Some, List, [], ◌∷◌, ◌++◌, sym, subst}
use Rattle.hv_base.specs.declared.ids.JobId.{JobId}
use Rattle.hv_shelf.specs.declared.place.Place.{Place}
use Rattle.hv_shelf.specs.Disk.{Store, HasFile, TornFile}
use Rattle.hv_dirs.specs.Names.{write_end}
use Rattle.hv_history.specs.declared.entry.Entry.{Entry}
use Rattle.hv_history.specs.State.{state_of}
use Rattle.hv_history.specs.Legal.{profile}
use Rattle.hv_stands.specs.Statements.{AllFitting}
use Rattle.hv_house.specs.hv_finals.specs.hv_law_made.specs.Entries.{IsSoundBook}
use Rattle.hv_house.specs.hv_finals.specs.hv_law_made.proofs.BookLemmas.{books-are-sound}
use Rattle.hv_trail.specs.declared.trail.Mark.{Mark}
use Rattle.hv_trail.specs.declared.trail.Mark.TheVariants.{Wrote, Broke}
use Rattle.hv_trail.specs.declared.trail.TrailItem.{TrailItem}
use Rattle.hv_trail.specs.declared.trail.TrailItem.TheVariants.{Marked}
use Rattle.hv_trail.specs.Trail.{book_of, state_at}
use Rattle.hv_trail.specs.Kept.{trail_of}
use Rattle.hv_law_work.specs.Work.{by_job, IsStagedFile}
use Rattle.hv_law_work.specs.Marks.{JobMarksStand}
use Rattle.hv_law_work.specs.Laws.{IsShort}
use Rattle.hv_law_work.proofs.Puts.{staged-puts-stand}
use Rattle.hv_law_work.proofs.TxnMarks.{others-keep-marks, staged-keeps-changes}
use Rattle.hv_law_work.proofs.JobMarks.{put-job-marks, broken-job-marks}
use Rattle.hv_house.specs.declared.house.House.{House}
use Rattle.hv_house.specs.House.{entries_of, IsFaithful}
use Rattle.hv_telling.specs.Telling.{IsToldHouse, StandsByMarks, IsWhole}
use Rattle.hv_telling.proofs.Few.{few-entries, is-short}
use Rattle.hv_telling.proofs.Told.{house-book}
use Rattle.hv_telling.proofs.Puts.{marked-book, KeepsElsewhere, put-elsewhere, torn-elsewhere, PutsTruly}

module _ (trail : List TrailItem) (number : ℕ) (place : Place) (bytes : List ℕ) (fit : AllFitting (book_of trail))
    (is : IsStagedFile (state_at trail) number place bytes) where
  abbrev book : List Entry
  book = book_of trail

  short : IsShort profile trail
  short = is-short trail fit

  sound : IsSoundBook (state_at trail)
  sound = books-are-sound profile book fit

  few : (state_at trail).entries + 1 < write_end
  few = few-entries book fit

  elsewhere-faithful : (before now : Store) → KeepsElsewhere place before now → IsFaithful book before → IsFaithful book now
  elsewhere-faithful before now keeps faithful = record {
    stands = staged-puts-stand (state_at trail) number place bytes before.tree now.tree few sound is keeps faithful.stands;
    legal = faithful.legal;
  }

  torn-faithful : (before now : Store) → TornFile place before now → IsFaithful book before → IsFaithful book now
  torn-faithful before now torn faithful = elsewhere-faithful before now (torn-elsewhere place before now torn) faithful

  put-true : (before now : Store) → HasFile place bytes before now → StandsByMarks trail book before
      → StandsByMarks (trail ++ Marked (Wrote (by_job number) place) ∷ []) (book_of (trail ++ Marked (Wrote (by_job number) place) ∷ [])) now
  put-true before now has true_ =
      let mark : Mark = Wrote (by_job number) place in
      let keeps : KeepsElsewhere place before now = put-elsewhere place bytes before now has in
      record {
        faithful = subst (λ (entries : List Entry). IsFaithful entries now) (sym (marked-book trail mark))
            (elsewhere-faithful before now keeps true_.faithful);
        marks = others-keep-marks trail (Marked mark) before.tree now.tree tt
            (staged-keeps-changes (state_at trail) number place bytes before.tree now.tree few sound is keeps) true_.marks;
        jobs = subst (JobMarksStand (trail ++ Marked mark ∷ [])) (sym has.tree_is)
            (put-job-marks profile trail before.tree number place bytes short is true_.jobs);
      }

  torn-true : (count : ℕ) (before now : Store) → TornFile place before now → StandsByMarks trail book before
      → StandsByMarks (trail ++ Marked (Broke (Some (by_job number)) true count) ∷ []) (book_of (trail ++ Marked (Broke (Some (by_job number)) true count) ∷ [])) now
  torn-true count before now torn true_ =
      let mark : Mark = Broke (Some (by_job number)) true count in
      let keeps : KeepsElsewhere place before now = torn-elsewhere place before now torn in
      record {
        faithful = subst (λ (entries : List Entry). IsFaithful entries now) (sym (marked-book trail mark))
            (elsewhere-faithful before now keeps true_.faithful);
        marks = others-keep-marks trail (Marked mark) before.tree now.tree tt
            (staged-keeps-changes (state_at trail) number place bytes before.tree now.tree few sound is keeps) true_.marks;
        jobs = broken-job-marks profile trail before.tree now.tree number place bytes count short is keeps true_.jobs;
      }

  pub puts-truly : PutsTruly trail (by_job number) place bytes
  puts-truly = record { put = put-true; torn = torn-true; faithful = torn-faithful }

-- ---- in a house

pub staged-puts : {D : Type 0} (told : D → Option Store) (job : JobId) (place : Place) (bytes : List ℕ) (before : House D) → IsWhole told before
    → (IsToldHouse told before → IsStagedFile (state_of (entries_of before)) job.0 place bytes)
    → IsToldHouse told before → PutsTruly (trail_of before.trail) (by_job job.0) place bytes
staged-puts told job place bytes before whole staged is =
    puts-truly (trail_of before.trail) job.0 place bytes (subst AllFitting (sym (house-book before)) whole.ready.fit)
    (subst (λ (book : List Entry). IsStagedFile (state_of book) job.0 place bytes) (sym (house-book before)) (staged is))
