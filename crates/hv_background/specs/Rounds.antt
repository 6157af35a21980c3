-- What a compactor and a cleaner add, over any number of rounds: items of their kinds alone.
-- Source: Hive Transactions, compactor (initiator, worker, cleaner).
use Rattle.std.specs.Prelude.{◌≡◌, ◌==◌, not, Bool, true, false, Some, None, List, Result, Ok, Err}
use Rattle.std.specs.List.{AllByRecursion}
use Rattle.hv_history.specs.declared.entry.Entry.TheVariants as entry
use Rattle.hv_trail.specs.declared.trail.Reader.TheVariants as reader
use Rattle.hv_trail.specs.declared.trail.TrailItem.{TrailItem}
use Rattle.hv_trail.specs.declared.trail.TrailItem.TheVariants.{Noted, Marked}
use Rattle.hv_trail.specs.declared.trail.Mark.TheVariants.{Wrote, Broke, Went}
use Rattle.hv_actor.specs.Acting.{Setting, Moment}
use Rattle.hv_clean.specs.hv_job_acts.specs.hv_acts.specs.declared.told.ToldHouse.{ToldHouse}
use Rattle.hv_clean.specs.hv_job_acts.specs.Going.{AddsItems}

-- a compaction that nobody's statement asked for, an entry of a job at work, or a job's mark
abbrev pub is_compactors : TrailItem → Bool
is_compactors (Noted (entry.Asked job table partition kind by)) = by == 0
is_compactors (Noted (entry.Picked job watermark)) = true
is_compactors (Noted (entry.Published job low high mark)) = true
is_compactors (Noted (entry.Empty job)) = true
is_compactors (Noted (entry.Failed job why)) = true
is_compactors (Marked (Wrote (reader.Job job) place)) = true
is_compactors (Marked (Broke (Some (reader.Job job)) put count)) = true
is_compactors item = false

-- a job was cleaned, an id was forgotten, a directory went, or a call of nobody's failed that put no file
abbrev pub is_cleaners : TrailItem → Bool
is_cleaners (Noted (entry.Cleaned job)) = true
is_cleaners (Noted (entry.Forgot table write)) = true
is_cleaners (Marked (Went dir)) = true
is_cleaners (Marked (Broke None put count)) = not put
is_cleaners item = false

-- one's own acts added items that pass this test
pub record AddsTested {D : Type 0} (setting : Setting D (ToldHouse D)) (test : TrailItem → Bool)
    (before now : Moment (ToldHouse D)) : Type 0 where
  pub items : List TrailItem
  pub adds : AddsItems setting.faults setting.between before now items
  pub each : AllByRecursion (λ (item : TrailItem). test item ≡ true) items

-- the run has ended
abbrev pub has_stopped : {E : Type 0} → Result (Unit {0}) E → Bool
has_stopped (Ok done) = false
has_stopped (Err why) = true
