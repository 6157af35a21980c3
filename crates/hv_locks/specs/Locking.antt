-- Table locks, as Hive's lock manager for transactions gives them (Hive Transactions, DbTxnManager).
use Rattle.std.specs.Prelude.{Bool, ◌&&◌, ◌||◌}
use Rattle.std.specs.Str.{bytes_eq}
use Rattle.hv_locks.specs.declared.table.Lock.{Lock}

-- two locks conflict where they are on one name and one of them is exclusive
abbrev pub conflict : Lock → Lock → Bool
conflict left right = bytes_eq left.name right.name && (left.exclusive || right.exclusive)
