-- The faults of reading a file part by part.
use Rattle.std.specs.Prelude.{◌≡◌, ◌≢◌, ℕ, ◌+◌, ◌<◌, ◌≤◌, ◌⊎◌, Bool, List, [], Option, None, length}
use Rattle.std.specs.List.{flat_map}
use Rattle.hv_base.specs.declared.ids.RowId.{RowId}
use Rattle.hv_rowfile.specs.declared.record.Rec.{Rec}
use Rattle.hv_rowfile.specs.declared.fault.FileFault.{FileFault}
use Rattle.hv_rowfile.specs.declared.fault.FileFault.TheVariants as fault
use Rattle.hv_rowfile.specs.Layout.{rec_spelling, Leads, last_id, HasNoNext, IsBadMark, IsBadKind, IsBadBucket, IsBadCount, IsDamagedAt}

-- a file's fault is true of these bytes
abbrev pub IsFaultIn : List ℕ → FileFault → Type 0
IsFaultIn bytes (fault.Damaged at) = IsDamagedAt bytes at
IsFaultIn bytes fault.NoMemory = Unit {0}

-- the head is wrong
abbrev pub IsHeadFault : List ℕ → FileFault → Type 0
IsHeadFault bytes (fault.Damaged at) =
    ((at ≡ 0) × IsBadMark bytes)
    ⊎ (((at ≡ 4) × IsBadKind bytes)
    ⊎ (((at ≡ 5) × IsBadBucket bytes)
    ⊎ ((at ≡ 9) × IsBadCount bytes)))
IsHeadFault bytes fault.NoMemory = ⊥

-- the next record is wrong
abbrev pub IsNextFault : Bool → ℕ → Option RowId → List ℕ → ℕ → FileFault → Type 0
IsNextFault deletes bucket before rest at (fault.Damaged found) =
    (found ≡ at) × HasNoNext deletes bucket before rest
IsNextFault deletes bucket before rest at fault.NoMemory = Unit {0}

-- behind the head the bytes are not so many records
pub record IsBadBody (deletes : Bool) (bucket count : ℕ) (body : List ℕ) (recs : List Rec) : Type 0 where
  pub rest : List ℕ
  pub leads : Leads deletes bucket None recs body rest
  pub within : length recs ≤ count
  pub wrong : ((length recs < count) × HasNoNext deletes bucket (last_id None recs) rest)
      ⊎ ((length recs ≡ count) × (rest ≢ []))

abbrev pub IsBodyFault : Bool → ℕ → ℕ → List ℕ → FileFault → Type 0
IsBodyFault deletes bucket count body (fault.Damaged at) =
    (recs : List Rec) × (at ≡ 17 + length (flat_map rec_spelling recs)) × IsBadBody deletes bucket count body recs
IsBodyFault deletes bucket count body fault.NoMemory = Unit {0}
