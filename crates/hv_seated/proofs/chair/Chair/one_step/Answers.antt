use Rattle.std.proofs.Common.{ap, ◌∙◌, le_trans}
use Rattle.hv_actor.proofs.Weaving.{added-is}
use Rattle.hv_seated.specs.Sharing.{IsSharedLater}
use Rattle.hv_seated.proofs.Sitting.{few-behind, took-behind, reached-from, seated-behind, held-behind, went-behind}
use Rattle.hv_seated.proofs.chair.Chair.one_step.Goals as goal

pub enter-held-requires-clause-turn : goal.enter-held-requires-clause-turn
enter-held-requires-clause-turn g c = c.requires.seated.of_it

pub enter-held-requires-clause-free : goal.enter-held-requires-clause-free
enter-held-requires-clause-free g c = c.requires.seated.free

pub act-answer-requires-clause-keeps : goal.act-answer-requires-clause-keeps
act-answer-requires-clause-keeps g c = c.enter-held.ensures.keeps.0

pub act-answer-requires-clause-shuts : goal.act-answer-requires-clause-shuts
act-answer-requires-clause-shuts g c = c.enter-held.ensures.keeps.1

pub act-answer-requires-clause-can : goal.act-answer-requires-clause-can
act-answer-requires-clause-can g c =
    c.requires.can c.enter-held.result.value.house c.enter-held.ensures.keeps.0
    (reached-from (IsSharedLater g.D.Shelf.faults g.H.Housed.seen) c.args.self.now.seat.saw c.args.self.now.seen.value c.enter-held.result.value
    c.requires.seated.saw c.enter-held.ensures.later)

pub leave-requires-clause-turn : goal.leave-requires-clause-turn
leave-requires-clause-turn g c = ap (λ t. t.turn) c.enter-held.ensures.seat ∙ c.requires.seated.of_it

pub leave-requires-clause-has : goal.leave-requires-clause-has
leave-requires-clause-has g c = ap (λ t. t.has_turn) c.enter-held.ensures.seat

pub leave-requires-clause-history : goal.leave-requires-clause-history
leave-requires-clause-history g c =
    few-behind c.args.self.now.seat c.enter-held.new.seat c.enter-held.result.value (g.H.Housed.seen c.enter-held.result.value.house).trail
    (g.H.Housed.seen c.act-answer.new.house).trail (g.A.Act.adds c.args.act c.act-answer.result) c.enter-held.ensures.seat
    (added-is _ _ _ _ c.act-answer.ensures.step.trail c.act-answer.ensures.adds)
    (le_trans (g.met.A.Act.few c.args.act c.act-answer.result) c.requires.few)

pub leave-requires-clause-keeps : goal.leave-requires-clause-keeps
leave-requires-clause-keeps g c = (c.act-answer.ensures.keeps, c.act-answer.ensures.shuts)

pub leave-requires-clause-later : goal.leave-requires-clause-later
leave-requires-clause-later g c =
    took-behind (IsSharedLater g.D.Shelf.faults g.H.Housed.seen) c.args.self.now.seat c.enter-held.new.seat c.enter-held.result.value _
    (g.H.Housed.seen c.enter-held.result.value.house).trail c.enter-held.ensures.seat
    (g.met.A.Act.goes_on c.args.act c.act-answer.result (g.H.Housed.seen c.enter-held.result.value.house) (g.H.Housed.seen c.act-answer.new.house)
    c.act-answer.ensures.step c.act-answer.ensures.does)

pub returns-clause-seated : goal.returns-clause-seated
returns-clause-seated g c =
    seated-behind c.args.self.now.turn.now c.args.self.now.seat c.enter-held.new.seat c.leave.new.seat c.enter-held.result.value _ c.of-seen.result.value
    (g.H.Housed.seen c.enter-held.result.value.house).trail (g.H.Housed.seen c.act-answer.new.house).trail g.H.Housed.keeps g.H.Housed.shuts g.K.SeatKey.fixed
    c.requires.seated.of_it c.requires.seated.same c.enter-held.ensures.seat c.leave.ensures c.of-seen.ensures
    c.act-answer.ensures.keeps c.act-answer.ensures.shuts

pub returns-clause-held : goal.returns-clause-held
returns-clause-held g c =
    held-behind g.D.Shelf.told g.D.Shelf.faults g.H.Housed.seen g.H.Housed.keeps c.args.self.now.seen.value.house c.enter-held.result.value _
    c.of-seen.result.value (λ seen. g.A.Act.call c.args.act seen c.act-answer.result) (g.A.Act.outcome c.args.act c.act-answer.result)
    (λ before now. g.A.Act.does c.args.act before now c.act-answer.result) c.of-seen.ensures
    (reached-from (IsSharedLater g.D.Shelf.faults g.H.Housed.seen) c.args.self.now.seat.saw c.args.self.now.seen.value c.enter-held.result.value
    c.requires.seated.saw c.enter-held.ensures.later)
    c.enter-held.ensures.keeps.0 c.act-answer.ensures.step c.act-answer.ensures.does

pub returns-clause-went : goal.returns-clause-went
returns-clause-went g c =
    went-behind g.D.Shelf.faults g.H.Housed.seen c.args.self.now.seat c.enter-held.new.seat c.leave.new.seat c.args.self.now.seen.value
    c.enter-held.result.value _ c.of-seen.result.value (g.A.Act.adds c.args.act c.act-answer.result)
    c.enter-held.ensures.seat c.leave.ensures c.of-seen.ensures
    (reached-from (IsSharedLater g.D.Shelf.faults g.H.Housed.seen) c.args.self.now.seat.saw c.args.self.now.seen.value c.enter-held.result.value
    c.requires.seated.saw c.enter-held.ensures.later)
    (added-is _ _ _ _ c.act-answer.ensures.step.trail c.act-answer.ensures.adds)
