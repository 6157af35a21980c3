-- The refusals of statements: the number and the name that a refused statement prints. Source:
-- this project's profile.
use Rattle.std.specs.Prelude.{◌≡◌, ◌↔◌, ℕ, List, Option, Some, codes}
use Rattle.hv_base.specs.declared.refusal.Refusal.{Refusal}
use Rattle.hv_base.specs.declared.refusal.Refusal.TheVariants as refusal

pub record Row : Type 0 where
  pub number : ℕ
  pub name : List ℕ

abbrev pub row : Refusal → Row
row refusal.BadCharacter = record { number = 1; name = codes "BadCharacter" }
row refusal.OpenString = record { number = 2; name = codes "OpenString" }
row refusal.WideNumber = record { number = 3; name = codes "WideNumber" }
row refusal.Syntax = record { number = 4; name = codes "Syntax" }
row refusal.Nesting = record { number = 5; name = codes "Nesting" }
row refusal.NoTable = record { number = 10; name = codes "NoTable" }
row refusal.NoColumn = record { number = 11; name = codes "NoColumn" }
row refusal.Ambiguous = record { number = 12; name = codes "Ambiguous" }
row refusal.BadType = record { number = 13; name = codes "BadType" }
row refusal.BadCount = record { number = 14; name = codes "BadCount" }
row refusal.NotGrouped = record { number = 15; name = codes "NotGrouped" }
row refusal.FixedColumn = record { number = 16; name = codes "FixedColumn" }
row refusal.MergeClauses = record { number = 17; name = codes "MergeClauses" }
row refusal.TableExists = record { number = 18; name = codes "TableExists" }
row refusal.Limit = record { number = 19; name = codes "Limit" }
row refusal.ViewForm = record { number = 22; name = codes "ViewForm" }
row refusal.IsView = record { number = 23; name = codes "IsView" }
row refusal.NotView = record { number = 24; name = codes "NotView" }
row refusal.WindowPlace = record { number = 25; name = codes "WindowPlace" }
row refusal.Conflict = record { number = 30; name = codes "Conflict" }
row refusal.Aborted = record { number = 31; name = codes "Aborted" }
row refusal.JournalFull = record { number = 32; name = codes "JournalFull" }
row refusal.MergeTwice = record { number = 36; name = codes "MergeTwice" }
row refusal.Blocked = record { number = 37; name = codes "Blocked" }
row refusal.ReadFault = record { number = 38; name = codes "ReadFault" }
row refusal.WriteFault = record { number = 39; name = codes "WriteFault" }
row refusal.NoMemory = record { number = 40; name = codes "NoMemory" }
row refusal.RowLimit = record { number = 41; name = codes "RowLimit" }
row refusal.PartitionLimit = record { number = 42; name = codes "PartitionLimit" }
row refusal.Damaged = record { number = 43; name = codes "Damaged" }
row refusal.TransactionOver = record { number = 44; name = codes "TransactionOver" }
row refusal.NotInTransaction = record { number = 45; name = codes "NotInTransaction" }
row refusal.NoTransaction = record { number = 46; name = codes "NoTransaction" }

abbrev pub number : Refusal → ℕ
number refusal = (row refusal).number

abbrev pub name : Refusal → List ℕ
name refusal = (row refusal).name

-- the refusal, if there is one, is that of the number
abbrev pub IsNumbered : Option Refusal → ℕ → Type 0
IsNumbered found n = (refusal : Refusal) → (found ≡ Some refusal) ↔ (number refusal ≡ n)
