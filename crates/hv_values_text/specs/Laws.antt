-- Some of the texts that are known.
use Rattle.std.specs.Prelude.{◌≡◌, true, false, codes}
use Rattle.hv_values_text.specs.Ways.{is_insert_of_values}

abbrev pub OneRow : Type 0
OneRow = is_insert_of_values (codes "INSERT INTO t VALUES (1)") ≡ true

abbrev pub TwoRows : Type 0
TwoRows = is_insert_of_values (codes "insert into table t (a, b) values (-1, NULL), ( 2 , true ) ") ≡ true

abbrev pub OnePartition : Type 0
OnePartition = is_insert_of_values (codes "INSERT INTO t PARTITION (k = 5) VALUES (9223372036854775807)") ≡ true

-- a comma must have a row after it
abbrev pub NoRow : Type 0
NoRow = is_insert_of_values (codes "INSERT INTO t VALUES (1),") ≡ false
