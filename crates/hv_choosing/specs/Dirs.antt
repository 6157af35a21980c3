-- The directories that a reader may take, their names, and under which write ids their records are.
-- Source: Hive Transactions, base and delta directories.
use Rattle.std.specs.Prelude.{◌≡◌, Option, Some, None, List, ℕ}
use Rattle.hv_dirs.specs.declared.names.DirName.{DirName}
use Rattle.hv_dirs.specs.declared.names.DirName.TheVariants as name
use Rattle.hv_dirs.specs.Names.{IsName, text_of}
use Rattle.hv_choosing.specs.declared.dir.Dir.{Dir}
use Rattle.hv_choosing.specs.declared.dir.Dir.TheVariants.{Base, Own, Wide}
use Rattle.hv_choosing.specs.declared.dir.Span.{Span}

abbrev pub name_of : Dir → DirName
name_of (Base high) = name.Base high
name_of (Own deletes write statement) = name.Own deletes write statement
name_of (Wide deletes low high) = name.Wide deletes low high

abbrev pub dir_named : DirName → Option Dir
dir_named (name.Base high) = Some (Base high)
dir_named (name.Own deletes write statement) = Some (Own deletes write statement)
dir_named (name.Wide deletes low high) = Some (Wide deletes low high)
dir_named (name.Staged job text) = None

-- the write ids of its records: of a base up to its number, of a delta those of its range
abbrev pub span_of : Dir → Span
span_of (Base high) = record { low = 1; high = high.0 }
span_of (Own deletes write statement) = record { low = write.0; high = write.0 }
span_of (Wide deletes low high) = record { low = low.0; high = high.0 }

-- the text is its name
abbrev pub IsAt : List ℕ → Dir → Type 0
IsAt text dir = IsName (name_of dir) × (text_of (name_of dir) ≡ text)

-- it is the one of that name; None where there is none
abbrev pub IsFoundAt : List ℕ → Option Dir → Type 0
IsFoundAt text None = (dir : Dir) → IsAt text dir → ⊥
IsFoundAt text (Some dir) = IsAt text dir
