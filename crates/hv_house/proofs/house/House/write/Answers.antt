use Rattle.std.proofs.Common.{◌∷◌, Err, ap, ◌∙◌, arith}
use Rattle.hv_house.proofs.Journals.{reached, few_bytes, can_put}
use Rattle.hv_shelf.specs.declared.fault.ShelfFault.{ShelfFault}
use Rattle.hv_house.proofs.Hards.{hard_step, fine_hard, still_step, left_step}
use Rattle.hv_house.proofs.house.House.write.Goals as goal

pub reserve_for-requires : goal.reserve_for-requires
reserve_for-requires g c = record { few = omega (arith, c.requires.room) }

pub records_length-requires-clause-short : goal.records_length-requires-clause-short
records_length-requires-clause-short g c = omega (arith, few_bytes (c.args.first.now ∷ c.args.more.now) c.requires.small, c.requires.room)

pub records_length-requires-clause-can : goal.records_length-requires-clause-can
records_length-requires-clause-can g c = can_put (c.args.first.now ∷ c.args.more.now) c.requires.small

pub append-requires-clause-can : goal.append-requires-clause-can
append-requires-clause-can g c = can_put (c.args.first.now ∷ c.args.more.now) c.requires.small

pub append-requires-clause-below : goal.append-requires-clause-below
append-requires-clause-below g c =
    omega (arith, few_bytes (c.args.first.now ∷ c.args.more.now) c.requires.small, c.requires.room, c.requires.kept.near, c.requires.kept.few)

pub append-requires-clause-reached : goal.append-requires-clause-reached
append-requires-clause-reached g c =
    reached (g.D.Shelf.told c.args.self.now.shelf) c.args.self.now.trail.entries c.args.self.now.place c.requires.kept.reads c.requires.kept.place

pub returns-in_err-reserve-clause-hard : goal.returns-in_err-reserve-clause-hard
returns-in_err-reserve-clause-hard g c = still_step (g.D.Shelf.hard c.args.self.now.shelf) c.args.self.now.trail.closed

pub returns-in_err-reserve_for-clause-hard : goal.returns-in_err-reserve_for-clause-hard
returns-in_err-reserve_for-clause-hard g c = left_step (g.D.Shelf.hard c.args.self.now.shelf) _ _ c.reserve_for.ensures.closed

pub returns-in-Ok-clause-hard : goal.returns-in-Ok-clause-hard
returns-in-Ok-clause-hard g c = fine_hard _ _ _ _ _ _ _ c.reserve_for.ensures.closed c.append.ensures.cause

pub returns-in-Err-Failed-clause-hard : goal.returns-in-Err-Failed-clause-hard
returns-in-Err-Failed-clause-hard g c =
    hard_step _ _ _ _ _ _ _ c.append.ensures.cause (λ was is. c.in-Err-Failed.is ∙ ap (λ (f : ShelfFault). Err f) c.in-Err-Failed.field-0-is)

pub returns-in-Err-NoMemory-clause-hard : goal.returns-in-Err-NoMemory-clause-hard
returns-in-Err-NoMemory-clause-hard g c = fine_hard _ _ _ _ _ _ _ c.reserve_for.ensures.closed c.append.ensures.cause
