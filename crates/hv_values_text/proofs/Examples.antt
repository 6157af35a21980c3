-- Some of the texts that are known.
use Rattle.std.proofs.Common.{refl}
use Rattle.hv_grammar.specs.Kinds.{same_kind, words, reserved, placed}
use Rattle.hv_values_text.specs.Laws.{OneRow, TwoRows, OnePartition, NoRow}
use Rattle.hv_values_text.specs.Ways.{mark, single, word, name, number, quoted, negative, null, date, truth, literal, more, separated, values, row, rows, names, column_names, item_value, item, items, partition, into, insertion, is_insert_of_values}

pub one_row : OneRow
unfolding mark single word name number quoted negative null date truth literal more separated values row rows names column_names item_value item items partition into insertion is_insert_of_values same_kind words reserved placed
one_row = refl

pub two_rows : TwoRows
unfolding mark single word name number quoted negative null date truth literal more separated values row rows names column_names item_value item items partition into insertion is_insert_of_values same_kind words reserved placed
two_rows = refl

pub one_partition : OnePartition
unfolding mark single word name number quoted negative null date truth literal more separated values row rows names column_names item_value item items partition into insertion is_insert_of_values same_kind words reserved placed
one_partition = refl

pub no_row : NoRow
unfolding mark single word name number quoted negative null date truth literal more separated values row rows names column_names item_value item items partition into insertion is_insert_of_values same_kind words reserved placed
no_row = refl
