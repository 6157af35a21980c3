use Rattle.hv_values_text.proofs.Known.{insert_part}
use Rattle.hv_values_text.proofs.Without.{insert_there}
use Rattle.hv_values_text.proofs.skims.insertion_over.Goals as goal

pub returns-clause-part : goal.returns-clause-part
returns-clause-part c =
    insert_there _ c.empty.ensures
    (insert_part c.in_ok-expect_word.ensures.front c.in_ok-into.ensures.part c.in_ok-table.ensures.front c.in_ok-partition.ensures.part
    c.in_ok-columns.ensures.part c.in_ok-expect_word-2.ensures.front c.in_ok-rows_over.ensures.part.part)

pub returns-clause-word : goal.returns-clause-word
returns-clause-word c = c.in_ok-expect_word.ensures.front.0
