use Rattle.std.proofs.Common.{length, sym, ap, subst, arith}
use Rattle.std.specs.List.{AllByRecursion}
use Rattle.hv_ids.specs.Ids.{is_of_other}
use Rattle.hv_book.specs.Past.{ended_of, IsTableThere}
use Rattle.hv_book.proofs.IdLaws.{over-length, all-filtered}
use Rattle.hv_book.proofs.past.go_over.Goals as goal

pub returns-clause-less : goal.returns-clause-less
returns-clause-less c =
    let kept = ap length c.take_out.ensures.ids in
    let split = over-length c.args.txn c.args.at c.args.ids.now.ids in
    omega (arith, kept, split)

pub returns-clause-room : goal.returns-clause-room
returns-clause-room c =
    let kept = ap length c.take_out.ensures.ids in
    let same = ap (λ ids. length (ended_of c.args.txn c.args.at ids)) c.as_slice.ensures.ids in
    let split = over-length c.args.txn c.args.at c.args.ids.now.ids in
    omega (arith, kept, same, split, c.end_ids.ensures.room)

pub returns-clause-there : goal.returns-clause-there
returns-clause-there c =
    subst (AllByRecursion (IsTableThere c.args.ended.now.tables)) (sym c.take_out.ensures.ids)
    (all-filtered (IsTableThere c.args.ended.now.tables) (is_of_other c.args.txn) c.args.ids.now.ids c.requires.there)
