-- What a call's outcome on files is to its caller, and what it does to the counts.
-- Source: this project's profile.

use Rattle.std.specs.Prelude.{Result, Ok, Err, ◌==◌, if◌then◌else◌}
use Rattle.hv_base.specs.declared.failure.Failed.{Failed}
use Rattle.hv_base.specs.Faults.{one_more}
use Rattle.hv_shelf.specs.Causes.{last_count}
use Rattle.hv_shelf.specs.declared.fault.ShelfFault.{ShelfFault}
use Rattle.hv_shelf.specs.declared.fault.ShelfFault.TheVariants as shelf
use Rattle.hv_files.specs.declared.counts.Counts.{Counts}
use Rattle.hv_paths.specs.declared.fault.FileFault.{FileFault}
use Rattle.hv_paths.specs.declared.fault.FileFault.TheVariants.{Device, NoMemory}

abbrev pub shelf_fault_of : FileFault → ShelfFault
shelf_fault_of (Device cause) = shelf.Failed
shelf_fault_of NoMemory = shelf.NoMemory

abbrev pub answer_of : {T : Type 0} → Result T FileFault → Result T ShelfFault
answer_of (Ok value) = Ok value
answer_of (Err fault) = Err (shelf_fault_of fault)

-- the same where want of memory has no answer of its own
abbrev pub device_answer_of : {T : Type 0} → Result T FileFault → Result T Failed
device_answer_of (Ok value) = Ok value
device_answer_of (Err fault) = Err (record {})

-- one more fault, which is a hard one only where the count of faults ends
abbrev pub counted_soft : Counts → Counts
counted_soft counts =
    let faults = one_more counts.faults in
    record counts {
      faults = faults;
      hard = if faults == last_count then one_more counts.hard else counts.hard;
    }

-- one more fault, which is a hard one
abbrev pub counted_hard : Counts → Counts
counted_hard counts =
    record counts { faults = one_more counts.faults; hard = one_more counts.hard }
