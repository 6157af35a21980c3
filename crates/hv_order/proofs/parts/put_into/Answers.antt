use Rattle.std.proofs.Common.{◌<◌, arith, length, length-set}
use Rattle.hv_order.proofs.Seams.{put_more}
use Rattle.hv_order.proofs.parts.put_into.Goals as goal

pub returns-clause-moves : goal.returns-clause-moves
returns-clause-moves c =
    let lists = c.args.lists.now in
    let within : c.min-within.result < length lists.items = omega (arith, c.requires, c.min-within.ensures, c.len.ensures, lists.ok) in
    put_more lists.items c.min-within.result c.index_mut.result.now c.push.new.self c.args.row within (search c.index_mut.ensures.value) c.in_ok-push.ensures.items

pub returns-clause-count : goal.returns-clause-count
returns-clause-count c = length-set c.args.lists.now.items c.min-within.result c.push.new.self
