-- The names of directories. Source: Hive Transactions, base and delta directories; that numbers have exactly
-- seven digits, and statements four, is this project's profile, and so is the staging directory.
use Rattle.std.specs.Prelude.{◌≡◌, ℕ, ◌^◌, ◌≤◌, ◌<◌, Bool, true, false, List, [], ◌++◌, codes}
use Rattle.hv_table.specs.Decimal.{fixed_digits}
use Rattle.hv_dirs.specs.declared.names.DirName.{DirName}
use Rattle.hv_dirs.specs.declared.names.DirName.TheVariants.{Base, Own, Wide, Staged}

-- the least number that has no name, and the least such statement
abbrev pub write_end : ℕ
write_end = 10 ^ 7

abbrev pub statement_end : ℕ
statement_end = 10 ^ 4

-- the own delta of a statement under a write id: what it inserted
unfoldable pub own_name : ℕ → ℕ → List ℕ
own_name write statement =
    codes "delta_" ++ fixed_digits 7 write ++ codes "_" ++ fixed_digits 7 write ++ codes "_" ++ fixed_digits 4 statement

-- the delta that takes the place of the deltas of a range of write ids
unfoldable pub wide_name : ℕ → ℕ → List ℕ
wide_name low high = codes "delta_" ++ (fixed_digits 7 low ++ (codes "_" ++ fixed_digits 7 high))

-- the rows that are left of the write ids up to a number
unfoldable pub base_name : ℕ → List ℕ
base_name high = codes "base_" ++ fixed_digits 7 high

-- a directory that job is at work on
unfoldable pub staged_name : ℕ → List ℕ → List ℕ
staged_name job name = codes ".stage_" ++ (fixed_digits 7 job ++ (codes "_" ++ name))

-- a delete delta is named as a delta, behind this
abbrev pub kind_mark : Bool → List ℕ
kind_mark true = codes "delete_"
kind_mark false = []

abbrev pub text_of : DirName → List ℕ
text_of (Base high) = base_name high.0
text_of (Own deletes write statement) = kind_mark deletes ++ own_name write.0 statement
text_of (Wide deletes low high) = kind_mark deletes ++ wide_name low.0 high.0
text_of (Staged job name) = staged_name job.0 name

-- a write id or a job that has a name: they are counted from 1
abbrev pub IsNumber : ℕ → Type 0
IsNumber number = (1 ≤ number) × (number < write_end)

-- a range of write ids that has a name
abbrev pub IsRange : ℕ → ℕ → Type 0
IsRange low high = (1 ≤ low) × (low ≤ high) × (high < write_end)

-- what a compaction makes: a base, or a delta of a range
abbrev pub is_compacted : DirName → Bool
is_compacted (Base high) = true
is_compacted (Own deletes write statement) = false
is_compacted (Wide deletes low high) = true
is_compacted (Staged job name) = false

-- the names of directories that aren't staged
abbrev pub IsPlain : DirName → Type 0
IsPlain (Base high) = IsNumber high.0
IsPlain (Own deletes write statement) = IsNumber write.0 × (statement < statement_end)
IsPlain (Wide deletes low high) = IsRange low.0 high.0
IsPlain (Staged job name) = ⊥

-- a job may stage what a compaction makes
abbrev pub IsStagedAs : ℕ → List ℕ → Type 0
IsStagedAs job name = IsNumber job × ((made : DirName) × IsPlain made × (is_compacted made ≡ true) × (name ≡ text_of made))

-- the names that there are
abbrev pub IsName : DirName → Type 0
IsName (Base high) = IsNumber high.0
IsName (Own deletes write statement) = IsNumber write.0 × (statement < statement_end)
IsName (Wide deletes low high) = IsRange low.0 high.0
IsName (Staged job name) = IsStagedAs job.0 name

-- the deltas of a kind
abbrev pub IsDelta : Bool → DirName → Type 0
IsDelta deletes (Base high) = ⊥
IsDelta deletes (Own kind write statement) = (kind ≡ deletes) × IsNumber write.0 × (statement < statement_end)
IsDelta deletes (Wide kind low high) = (kind ≡ deletes) × IsRange low.0 high.0
IsDelta deletes (Staged job name) = ⊥
