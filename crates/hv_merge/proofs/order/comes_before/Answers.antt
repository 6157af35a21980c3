use Rattle.hv_merge.proofs.Parts.{write-first, statement-first, bucket-first, row-first}
use Rattle.hv_merge.proofs.order.comes_before.Goals as goal

pub returns-then-id-other : goal.returns-then-id-other
returns-then-id-other c = write-first c.args.id c.args.other c.if-id-other.true

pub returns-then-id-other-2 : goal.returns-then-id-other-2
returns-then-id-other-2 c = statement-first c.args.id c.args.other c.if-id-other.false c.if-id-other-2.true

pub returns-then-id-other-3 : goal.returns-then-id-other-3
returns-then-id-other-3 c = bucket-first c.args.id c.args.other c.if-id-other.false c.if-id-other-2.false c.if-id-other-3.true

pub returns : goal.returns
returns c = row-first c.args.id c.args.other c.if-id-other.false c.if-id-other-2.false c.if-id-other-3.false
