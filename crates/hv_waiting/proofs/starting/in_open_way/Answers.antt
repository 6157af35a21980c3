use Rattle.std.proofs.Common.{◌≡◌, false, sym, ◌∙◌, true≢false}
use Rattle.hv_session.specs.hv_beginning.specs.hv_steps.specs.hv_table_reader.specs.hv_acts.specs.Told.{trail_in}
use Rattle.hv_waiting.proofs.Waits.{found-way, none-way, so-some}
use Rattle.hv_waiting.proofs.starting.in_open_way.Goals as goal

pub returns-then-is_closed-clause-free : goal.returns-then-is_closed-clause-free
returns-then-is_closed-clause-free g c = λ none running. absurd (true≢false (sym c.if-is_closed.true ∙ c.is_closed.ensures.closed ∙ running))

pub in_way-requires : goal.in_way-requires
in_way-requires g c = record { ready = (c.requires.keeps.whole (sym c.is_closed.ensures.closed ∙ c.if-is_closed.false)).ready }

pub returns-else-is_closed-clause-running : goal.returns-else-is_closed-clause-running
returns-else-is_closed-clause-running g c =
    so-some c.in_way.result (c.args.house.now.house.trail.closed ≡ false) (sym c.is_closed.ensures.closed ∙ c.if-is_closed.false)

pub returns-else-is_closed-clause-held : goal.returns-else-is_closed-clause-held
returns-else-is_closed-clause-held g c = found-way (trail_in c.args.house.now) c.args.txn c.in_way.result c.in_way.ensures.way

pub returns-else-is_closed-clause-free : goal.returns-else-is_closed-clause-free
returns-else-is_closed-clause-free g c = λ none running. none-way (trail_in c.args.house.now) c.args.txn c.in_way.result c.in_way.ensures.way none
