use Rattle.hv_values_text.proofs.Known.{insert_part}
use Rattle.hv_values_text.proofs.insert.insertion.Goals as goal

pub returns-clause-part : goal.returns-clause-part
returns-clause-part c =
    insert_part c.in_ok-expect_word.ensures.front c.in_ok-into.ensures.part c.in_ok-table.ensures.front c.in_ok-partition.ensures.part
    c.in_ok-columns.ensures.part c.in_ok-expect_word-2.ensures.front c.in_ok-rows.ensures.part

pub returns-clause-word : goal.returns-clause-word
returns-clause-word c = c.in_ok-expect_word.ensures.front.0
