-- What a pass of a cleaner adds to the book where nobody else adds anything and no call on files fails.
use Rattle.std.specs.Prelude.{◌≡◌, ◌⊎◌, ℕ, Bool, false, Option, Some, None, List, [], ◌∷◌, ◌++◌, map, filter}
use Rattle.hv_shelf.specs.Disk.{Store}
use Rattle.hv_base.specs.declared.ids.JobId.{JobId}
use Rattle.hv_history.specs.declared.entry.Entry.{Entry}
use Rattle.hv_history.specs.declared.entry.Entry.TheVariants as entry
use Rattle.hv_history.specs.State.{State, Job, numbered, state_of}
use Rattle.hv_history.specs.Jobs.{is_past}
use Rattle.hv_trail.specs.declared.trail.TrailItem.{TrailItem}
use Rattle.hv_actor.specs.Acting.{Moment, among}
use Rattle.hv_job_acts.specs.hv_acts.specs.declared.told.ToldHouse.{ToldHouse}
use Rattle.hv_job_acts.specs.hv_acts.specs.Told.{book_in}
use Rattle.hv_job_acts.specs.declared.asking.LostId.{LostId}
use Rattle.hv_job_acts.specs.Work.{ready_in, lost_in}
use Rattle.hv_clean.specs.declared.fault.Swept.{Swept}
use Rattle.hv_clean.specs.Passing.{Passes}

-- others add nothing between
abbrev pub AddsNothing : (List TrailItem → Type 0) → Type 0
AddsNothing between = (xs : List TrailItem) → between xs → xs ≡ []

-- ---- each ready job of a live table below whose mark nobody is open, then each aborted id

abbrev pub is_free_one : State → Option Job → Bool
is_free_one state None = false
is_free_one state (Some job) = is_past state job

abbrev pub is_free : State → JobId → Bool
is_free state job = is_free_one state (numbered state.jobs job.0)

abbrev pub cleaned_entries : State → List Entry
cleaned_entries state = map entry.Cleaned (filter (is_free state) (ready_in state))

abbrev pub forgot_entry : LostId → Entry
forgot_entry id = entry.Forgot id.table id.write

abbrev pub cleaned_up : List Entry → List Entry
cleaned_up book = book ++ cleaned_entries (state_of book) ++ map forgot_entry (lost_in (state_of book))

-- some of these, in their order
abbrev pub AreSome : {T : Type 0} → List T → List T → Type 0
AreSome [] all = Unit {0}
AreSome (x ∷ some) [] = ⊥
AreSome (x ∷ some) (y ∷ all) = ((x ≡ y) × AreSome some all) ⊎ AreSome (x ∷ some) all

-- the jobs of live tables that are ready, and below whose mark no transaction is open
abbrev pub free_in : List Entry → List JobId
free_in book = filter (is_free (state_of book)) (ready_in (state_of book))

abbrev pub swept_with : List Entry → List JobId → List LostId → List Entry
swept_with book jobs ids = book ++ (map entry.Cleaned jobs ++ map forgot_entry ids)

-- whatever failed or was listed still: some of the free jobs were noted as cleaned, and then some of the aborted ids as forgotten
pub record SweepsSome (before now : List Entry) : Type 0 where
  pub jobs : List JobId
  pub ids : List LostId
  pub are_free : AreSome jobs (free_in before)
  pub are_lost : AreSome ids (lost_in (state_of before))
  pub goes : now ≡ swept_with before jobs ids

-- where no call on files failed, and no directory of an aborted id was listed still
abbrev pub PassesAlone : {D : Type 0} → (D → Option Store) → (D → ℕ) → (List TrailItem → Type 0)
    → (ToldHouse D → ToldHouse D → Type 0) → Type 0
PassesAlone {D = D} told faults between meanwhile =
    (before now : Moment (ToldHouse D)) (swept : Swept) → Passes (among told faults between meanwhile) before now swept
    → swept.faults ≡ 0 → swept.listed ≡ 0 → book_in now.house ≡ cleaned_up (book_in before.house)
