-- What a job reads: the files of its partition, up to its watermark.
use Rattle.std.specs.Prelude.{◌≡◌, ◌≤◌, ℕ, nat_eq, nat_le, min, Bool, true, Option, Some, None, List, length, map, filter, All, Result, Ok, Err}
use Rattle.std.specs.List.Sorted.{IsStrictlyIncreasing}
use Rattle.hv_base.specs.declared.failure.NoMemory.{NoMemory}
use Rattle.std.specs.Cmp.Lexicographic.{pointwise}
use Rattle.hv_shelf.specs.declared.place.Place.{Place}
use Rattle.hv_shelf.specs.Disk.{Tree, places_of}
use Rattle.hv_wids.specs.declared.list.Exception.{Exception}
use Rattle.hv_wids.specs.WriteIds.{WriteIds, ids_of}
use Rattle.hv_history.specs.declared.entry.Entry.{Entry}
use Rattle.hv_history.specs.State.{State, Job, numbered}
use Rattle.hv_history.specs.Legal.{is_working}
use Rattle.hv_book.specs.declared.jobs.JobNote.{JobNote}
use Rattle.hv_book.specs.Briefs.{brief_job}
use Rattle.hv_tallies.specs.Jobs.{asked_at}
use Rattle.hv_history.specs.Jobs.{mark_by}
use Rattle.hv_earlier.specs.Lists.{list_at}
use Rattle.hv_law_visible.specs.Snapshots.{list_up_to}
use Rattle.hv_telling.specs.hv_house.specs.declared.fault.HouseFault.TheVariants as house
use Rattle.hv_telling.specs.hv_house.specs.Listing.{AreTakenOf}
use Rattle.hv_telling.specs.hv_house.specs.declared.listing.Listing.{Listing}
use Rattle.hv_job_calls.specs.declared.fault.JobFault.{JobFault}
use Rattle.hv_job_calls.specs.declared.fault.JobFault.TheVariants as fault

abbrev pub is_part : List ℕ → Place → Bool
is_part partition place = pointwise nat_eq place.partition partition

-- the list of its table at the end of the book, up to its watermark
abbrev pub job_list : List Entry → Job → WriteIds
job_list book job = list_up_to (mark_by job.watermark) (list_at book (length book) job.table)

-- ids up to a mark, as aborted ones
abbrev pub lost_at : ℕ → Exception
lost_at write = record { write = record { 0 = write }; aborted = true }

abbrev pub is_lost_to : ℕ → ℕ → Bool
is_lost_to mark write = nat_le write mark

abbrev pub lost_up_to : ℕ → List ℕ → List Exception
lost_up_to mark lost = map lost_at (filter (is_lost_to mark) lost)

-- a list of so many ids that ends at the mark
abbrev pub lost_of : ℕ → ℕ → List ℕ → WriteIds
lost_of mark given lost = record { high = record { 0 = min mark given }; exceptions = lost_up_to mark lost }

abbrev pub RisesLost : ℕ → List ℕ → Type 0
RisesLost mark lost = IsStrictlyIncreasing (ids_of (lost_up_to mark lost))

abbrev pub WithinLost : ℕ → ℕ → List ℕ → Type 0
WithinLost mark given lost = All (λ (exception : Exception). exception.write.0 ≤ min mark given) (lost_up_to mark lost)

-- what is kept is of a job of the book that is at work
abbrev pub IsNotedIn : State → JobNote → Type 0
IsNotedIn state note =
    (number : ℕ) × (j : Job) × (numbered state.jobs number ≡ Some j) × (is_working j ≡ true) × (note ≡ brief_job j)

-- by what is kept of the job
abbrev pub IsListOf : List Entry → JobNote → WriteIds → Type 0
IsListOf book note list = list ≡ list_up_to (mark_by note.watermark) (list_at book (length book) note.table)

abbrev pub IsListingBy : List Entry → JobNote → List Place → Option (List ℕ) → Listing → Type 0
IsListingBy book note places None listing = ⊥
IsListingBy book note places (Some partition) listing =
    IsListOf book note listing.list
    × AreTakenOf (filter (is_part partition) places) listing.list listing.inserts.items listing.deletes.items

-- its Asked stands, so that there is one
abbrev pub IsListingOf : List Entry → JobNote → List Place → Option Listing → Type 0
IsListingOf book note places None = ⊥
IsListingOf book note places (Some listing) = IsListingBy book note places (asked_at book note.asked) listing

abbrev pub list_read : Result Listing NoMemory → Result Listing JobFault
list_read (Ok listing) = Ok listing
list_read (Err why) = Err (fault.House house.NoMemory)

-- the files of its partition that are taken under a list
abbrev pub AreTakenFor : Job → Listing → Tree → Type 0
AreTakenFor job listing files =
    AreTakenOf (filter (is_part job.partition) (places_of (record { 0 = job.table }) files)) listing.list
    listing.inserts.items listing.deletes.items
