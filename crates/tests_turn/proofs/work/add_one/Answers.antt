use Rattle.std.proofs.Common.{ap, sym, subst}
use Rattle.hv_turn.specs.Tokens.{IsSameOrOneMore}
use Rattle.hv_turn.proofs.TokenLemmas.{more_begins}
use Rattle.tests_turn.proofs.Laters.{had_turn}
use Rattle.tests_turn.proofs.work.add_one.Goals as goal

pub leave-requires-clause-history : goal.leave-requires-clause-history
leave-requires-clause-history g c =
    subst (λ stood. IsSameOrOneMore stood c.count_added-added.new.self.items.items) (sym (ap (λ t. t.stood) c.enter-held.ensures.seat)) c.count_added-added.ensures.history

pub leave-requires-clause-later : goal.leave-requires-clause-later
leave-requires-clause-later g c = (
  c.enter-held.result.value,
  ap (λ t. t.took) c.enter-held.ensures.seat,
  (more_begins _ _ c.count_added-added.ensures.history, sym c.count_added-added.ensures.room),
)

pub returns-clause-seat : goal.returns-clause-seat
returns-clause-seat g c =
    had_turn c.count_added-added.result c.args.seat.now c.enter-held.new.seat c.leave.new.seat c.enter-held.result.value.items.items
    c.count_added-added.new.self.items.items _ _ c.enter-held.ensures.seat c.leave.ensures c.enter-held.ensures.begins c.count_added-added.ensures.history
    c.count_added-added.ensures.count
