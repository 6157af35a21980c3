-- A file that a job gets.
use Rattle.std.proofs.Common.{◌≡◌, ℕ, Bool, Option, Some, None, Ok, Err, List, sym, ◌∙◌, subst}
use Rattle.std.specs.FinMap as tree
use Rattle.hv_base.specs.Told.{Tells}
use Rattle.hv_shelf.specs.declared.place.Place.{Place}
use Rattle.hv_shelf.specs.Disk.{Store}
use Rattle.hv_rowfile.specs.declared.record.Rec.{Rec}
use Rattle.hv_history.specs.State.{state_of}
use Rattle.hv_stands.proofs.Numbers.{one_value}
use Rattle.hv_law_made.specs.Standing.{IsEncodingOf}
use Rattle.hv_trail.specs.declared.trail.Reader.{Reader}
use Rattle.hv_trail.specs.Steps.{Read, Done, Step}
use Rattle.hv_telling.specs.hv_house.specs.declared.house.House.{House}
use Rattle.hv_telling.specs.hv_house.specs.House.{entries_of, IsReady}
use Rattle.hv_telling.specs.hv_house.specs.Steps.{seen_of}
use Rattle.hv_telling.specs.Telling.{IsToldHouse, IsWhole}
use Rattle.hv_telling.proofs.Reading.{reads-keep-whole, reads-still-open}
use Rattle.hv_telling.proofs.Told.{whole-shown}
use Rattle.hv_job_calls.specs.declared.fault.JobFault.TheVariants as fault
use Rattle.hv_job_calls.specs.Refusals.{IsStandingAt}
use Rattle.hv_job_calls.specs.Steps.{JobStep}
use Rattle.hv_job_calls.proofs.Steps.{housed-ok, read-start}

module _ {D T : Type 0} (told : D → Option Store) (faults : D → ℕ) (by : Option Reader) (before now : House D) (whole : IsWhole told before)
    (step : Step told faults (Read by) Done (seen_of before) (seen_of now)) (ready : IsReady told now) where
  -- it was read
  pub read-done : (x : T) → JobStep told faults (Read by) before now (Ok x)
  read-done x =
      housed-ok told faults (Read by) before now x (reads-keep-whole told faults by Done before now whole step ready)
      (read-start told faults by Done before now step) step

  -- nothing stood there
  pub read-none : JobStep {T = T} told faults (Read by) before now (Err fault.NotFound)
  read-none = record {
    whole = tt;
    stays = reads-keep-whole told faults by Done before now whole step ready;
    same = tt;
    opens = reads-still-open told faults by Done before now whole step;
    start = read-start told faults by Done before now step;
    step = step;
    later = step.counts;
    failed = tt;
  }

-- ---- where the book makes a file

module _ {D : Type 0} (told : D → Option Store) (house : House D) (whole : IsWhole told house) (is : IsToldHouse told house)
    (place : Place) (deletes : Bool) (recs : List Rec) (standing : IsStandingAt (state_of (entries_of house)) place deletes recs) where
  pub made-read : (bytes : List ℕ) → Tells (told house.shelf) (λ s. tree.get s.tree place ≡ Some bytes) → IsEncodingOf deletes place.bucket recs bytes
  made-read bytes tells =
      let at = whole-shown told house whole is in
      let file = at.2.stands.made place deletes recs standing.live standing.kept standing.made in
      let here : tree.get at.0.tree place ≡ Some bytes = subst (λ (o : Option Store). Tells o (λ s. tree.get s.tree place ≡ Some bytes)) at.1 tells in
      subst (IsEncodingOf deletes place.bucket recs) (one_value file.bytes bytes (sym file.is ∙ here)) file.encodes

  pub not-missed : Tells (told house.shelf) (λ s. tree.get s.tree place ≡ None) → ⊥
  not-missed tells =
      let at = whole-shown told house whole is in
      let file = at.2.stands.made place deletes recs standing.live standing.kept standing.made in
      let here : tree.get at.0.tree place ≡ None = subst (λ (o : Option Store). Tells o (λ s. tree.get s.tree place ≡ None)) at.1 tells in
      let never : Some file.bytes ≡ None = sym file.is ∙ here in
      cc
