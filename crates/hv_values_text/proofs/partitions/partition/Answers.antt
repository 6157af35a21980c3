use Rattle.std.proofs.Common.{sym, ◌∙◌}
use Rattle.hv_values_text.proofs.Joined.{part_same}
use Rattle.hv_values_text.proofs.Known.{partition_part, no_partition}
use Rattle.hv_values_text.proofs.partitions.partition.Goals as goal

pub returns-then-not-sees_word-clause-part : goal.returns-then-not-sees_word-clause-part
returns-then-not-sees_word-clause-part c = part_same (no_partition c.args.cursor.now) c.empty.ensures

pub returns-clause-part : goal.returns-clause-part
returns-clause-part c =
    partition_part (sym c.sees_word.ensures ∙ c.if-not-sees_word.false, c.pass_word.ensures)
    c.in_ok-expect.ensures.front c.in_ok-found.ensures.part c.in_ok-expect-2.ensures.front
