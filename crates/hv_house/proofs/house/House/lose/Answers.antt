use Rattle.std.proofs.lemmas.Result.{err_from_is_err_and}
use Rattle.std.proofs.Common.{◌≡◌, slice_index_or}
use Rattle.hv_house.proofs.Lengths.{short_lost}
use Rattle.hv_house.proofs.Boots.{lose-halts, index-same}
use Rattle.hv_house.proofs.Hards.{noting_cause}
use Rattle.hv_house.proofs.house.House.lose.Goals as goal

pub add-requires-clause-short : goal.add-requires-clause-short
add-requires-clause-short g c = short_lost (record { 0 = slice_index_or c.args.unended.now c.loop-i.i 0 })

pub returns-in_err-add-clause-halted : goal.returns-in_err-add-clause-halted
returns-in_err-add-clause-halted g c =
    let left = err_from_is_err_and c.from_residual.result c.from_residual.ensures.1 in
    let same : left.0 ≡ c.in_err-add.field-0.0 = cc (left.2) in
    lose-halts g.D.Shelf.told g.D.Shelf.faults g.D.Shelf.hard c.args.self.now c.loop-i.self c.args.unended.now c.add.new.self c.loop-i.i (slice_index_or c.args.unended.now c.loop-i.i 0)
    c.in_err-add.field-0.0 left.0 c.from_residual.result left.1 same
    (record {
      kept = c.loop-i.invariant.kept;
      entries = c.loop-i.invariant.entries;
      tree = c.loop-i.invariant.tree;
      later = c.loop-i.invariant.later;
      hard_later = c.loop-i.invariant.hard_later;
      marks = c.loop-i.invariant.marks;
    })
    c.loop-i-test.true (index-same c.args.unended.now c.loop-i.i 0 _ c.loop-i-test.true) c.in_err-add.ensures.halted

pub returns-in_err-add-clause-hard : goal.returns-in_err-add-clause-hard
returns-in_err-add-clause-hard g c =
    let left = err_from_is_err_and c.from_residual.result c.from_residual.ensures.1 in
    let same : left.0 ≡ c.in_err-add.field-0.0 = cc (left.2) in
    noting_cause c.in_err-add.field-0.0 left.0 c.from_residual.result left.1 same (g.D.Shelf.hard c.args.self.now.shelf) (g.D.Shelf.hard c.loop-i.self.shelf)
    (g.D.Shelf.hard c.add.new.self.shelf) c.loop-i.self.trail.closed c.add.new.self.trail.closed c.loop-i.invariant.hard_later c.in_err-add.ensures.hard
    c.loop-i.invariant.kept.running c.in_err-add.ensures.closed c.in_err-add.ensures.ends
