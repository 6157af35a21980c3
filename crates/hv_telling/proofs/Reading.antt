-- A house behind a call that only read.
use Rattle.std.proofs.Common.{◌≡◌, ℕ, false, Option, List, [], ◌++◌, sym, ap, ◌∙◌, subst, append-nil}
use Rattle.hv_shelf.specs.Disk.{Store}
use Rattle.hv_history.specs.declared.entry.Entry.{Entry}
use Rattle.hv_history.specs.Journal.{Reads}
use Rattle.hv_journal.specs.Appending.{Holds}
use Rattle.hv_trail.specs.declared.trail.Reader.{Reader}
use Rattle.hv_trail.specs.declared.trail.Mark.TheVariants.{Broke}
use Rattle.hv_trail.specs.declared.trail.TrailItem.{TrailItem}
use Rattle.hv_trail.specs.Trail.{book_of}
use Rattle.hv_trail.specs.Kept.{trail_of}
use Rattle.hv_trail.specs.Steps.{Read, Outcome, Done, Conflict, Failed, Closed, Starved, Refused, gains, Step}
use Rattle.hv_law_work.specs.hv_law_marks.proofs.Standing.{unread-marks-stand}
use Rattle.hv_law_work.proofs.JobMarks.{unread-job-marks}
use Rattle.hv_house.specs.declared.house.House.{House}
use Rattle.hv_house.specs.House.{entries_of, IsFaithful}
use Rattle.hv_house.specs.Steps.{seen_of}
use Rattle.hv_telling.specs.Telling.{IsToldHouse, StandsByMarks, HoldsTrue, IsWhole}
use Rattle.hv_telling.specs.Laws.{ReadsKeepWhole, ReadsStillOpen}
use Rattle.hv_telling.proofs.Told.{moved-told, moved-some, house-book, holds-told, told-holds, true-shown, told-stays}
use Rattle.hv_telling.proofs.Opens.{held-opens}
use Rattle.hv_telling.proofs.Puts.{marked-book}

-- what it adds to the trail is no entry
no-entry : (trail : List TrailItem) (by : Option Reader) (outcome : Outcome) → book_of (trail ++ gains (Read by) outcome) ≡ book_of trail
no-entry trail by (Failed count) = marked-book trail (Broke by false count)
no-entry trail by Done = ap book_of (append-nil trail)
no-entry trail by (Conflict with_ table partition) = ap book_of (append-nil trail)
no-entry trail by Closed = ap book_of (append-nil trail)
no-entry trail by Starved = ap book_of (append-nil trail)
no-entry trail by Refused = ap book_of (append-nil trail)

-- and no file is put
none-added : (trail : List TrailItem) (store : Store) → StandsByMarks trail (book_of trail) store → StandsByMarks (trail ++ []) (book_of (trail ++ [])) store
none-added trail store true_ = subst (λ (items : List TrailItem). StandsByMarks items (book_of items) store) (sym (append-nil trail)) true_

read-true : (trail : List TrailItem) (by : Option Reader) (outcome : Outcome) (store : Store) → StandsByMarks trail (book_of trail) store
    → StandsByMarks (trail ++ gains (Read by) outcome) (book_of (trail ++ gains (Read by) outcome)) store
read-true trail by (Failed count) store true_ = record {
  faithful = subst (λ (book : List Entry). IsFaithful book store) (sym (marked-book trail (Broke by false count))) true_.faithful;
  marks = unread-marks-stand trail store.tree by false count true_.marks;
  jobs = unread-job-marks trail store.tree by false count true_.jobs;
}
read-true trail by Done store true_ = none-added trail store true_
read-true trail by (Conflict with_ table partition) store true_ = none-added trail store true_
read-true trail by Closed store true_ = none-added trail store true_
read-true trail by Starved store true_ = none-added trail store true_
read-true trail by Refused store true_ = none-added trail store true_

module _ {D : Type 0} (told : D → Option Store) (faults : D → ℕ) (by : Option Reader) (outcome : Outcome) (before now : House D) (whole : IsWhole told before)
    (step : Step told faults (Read by) outcome (seen_of before) (seen_of now)) where
  abbrev trail : List TrailItem
  trail = trail_of before.trail

  told-before : IsToldHouse told now → IsToldHouse told before
  told-before is = told-stays told now before (λ i. record { marker = before.start.marker; value = sym step.rest.start i }) is

  read-holds : IsToldHouse told before → HoldsTrue told now
  read-holds is =
      told-holds told now (trail ++ gains (Read by) outcome) step.trail
      (moved-some (λ x y. y ≡ x) (StandsByMarks trail (book_of trail)) _ (told before.shelf) (told now.shelf) step.store
      (λ x y same true_. subst (StandsByMarks (trail ++ gains (Read by) outcome) (book_of (trail ++ gains (Read by) outcome))) (sym same)
      (read-true trail by outcome x true_))
      (holds-told told before (whole.truly is)))

  same-entries : entries_of now ≡ entries_of before
  same-entries = sym (house-book now) ∙ ap book_of step.trail ∙ no-entry trail by outcome ∙ house-book before

  holds-now : Holds (told now.shelf) (entries_of now)
  holds-now =
      moved-told (λ x y. y ≡ x) (λ (s : Store). Reads (entries_of before) s.journal) (λ (s : Store). Reads (entries_of now) s.journal)
      (told before.shelf) (told now.shelf) step.store
      (λ x y same reads. subst (λ (book : List Entry). Reads book y.journal) (sym same-entries)
      (subst (λ (s : Store). Reads (entries_of before) s.journal) (sym same) reads))
      whole.ready.kept.reads

pub reads-keep-whole : {D : Type 0} → ReadsKeepWhole D
reads-keep-whole told faults by outcome before now whole step ready = record {
  ready = ready;
  truly = λ is. read-holds told faults by outcome before now whole step (told-before told faults by outcome before now whole step is);
}

pub reads-still-open : {D : Type 0} → ReadsStillOpen D
reads-still-open told faults by outcome before now whole step is =
    held-opens told now (holds-now told faults by outcome before now whole step)
    (true-shown told now (read-holds told faults by outcome before now whole step is))
