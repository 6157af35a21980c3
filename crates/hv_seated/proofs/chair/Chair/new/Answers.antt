use Rattle.std.proofs.Common.{ap, ◌∙◌}
use Rattle.hv_seated.specs.Sharing.{IsSharedLater, shared_itself}
use Rattle.hv_seated.proofs.Sitting.{same-behind, took-behind, goes-as, seated-behind, own-same}
use Rattle.hv_seated.proofs.chair.Chair.new.Goals as goal

pub enter-held-requires-clause-turn : goal.enter-held-requires-clause-turn
enter-held-requires-clause-turn g c = c.requires.turn

pub enter-held-requires-clause-free : goal.enter-held-requires-clause-free
enter-held-requires-clause-free g c = c.requires.free

pub leave-requires-clause-turn : goal.leave-requires-clause-turn
leave-requires-clause-turn g c = ap (λ t. t.turn) c.enter-held.ensures.seat ∙ c.requires.turn

pub leave-requires-clause-has : goal.leave-requires-clause-has
leave-requires-clause-has g c = ap (λ t. t.has_turn) c.enter-held.ensures.seat

pub leave-requires-clause-history : goal.leave-requires-clause-history
leave-requires-clause-history g c =
    same-behind c.args.seat c.enter-held.new.seat c.enter-held.result.value (g.H.Housed.seen c.enter-held.result.value.house).trail
    c.enter-held.ensures.seat

pub leave-requires-clause-keeps : goal.leave-requires-clause-keeps
leave-requires-clause-keeps g c = c.enter-held.ensures.keeps

pub leave-requires-clause-later : goal.leave-requires-clause-later
leave-requires-clause-later g c =
    took-behind (IsSharedLater g.D.Shelf.faults g.H.Housed.seen) c.args.seat c.enter-held.new.seat c.enter-held.result.value c.enter-held.result.value
    (g.H.Housed.seen c.enter-held.result.value.house).trail c.enter-held.ensures.seat
    (shared_itself g.D.Shelf.faults g.H.Housed.seen c.enter-held.result.value)

pub returns-clause-seated : goal.returns-clause-seated
returns-clause-seated g c =
    seated-behind c.args.turn.now c.args.seat c.enter-held.new.seat c.leave.new.seat c.enter-held.result.value c.enter-held.result.value c.of-seen.result.value
    (g.H.Housed.seen c.enter-held.result.value.house).trail (g.H.Housed.seen c.enter-held.result.value.house).trail
    g.H.Housed.keeps g.H.Housed.shuts g.K.SeatKey.fixed
    c.requires.turn c.requires.fixed c.enter-held.ensures.seat c.leave.ensures c.of-seen.ensures
    c.enter-held.ensures.keeps.0 c.enter-held.ensures.keeps.1

pub returns-clause-own : goal.returns-clause-own
returns-clause-own g c =
    own-same c.args.seat c.enter-held.new.seat c.leave.new.seat c.enter-held.result.value c.enter-held.result.value
    (g.H.Housed.seen c.enter-held.result.value.house).trail c.enter-held.ensures.seat c.leave.ensures

pub returns-clause-later : goal.returns-clause-later
returns-clause-later g c =
    goes-as (IsSharedLater g.D.Shelf.faults g.H.Housed.seen) c.args.seat.saw c.enter-held.result.value c.of-seen.result.value
    c.of-seen.ensures c.enter-held.ensures.later
