use Rattle.std.proofs.Common.{◌≡◌, ◌+◌, ◌∙◌, ap, subst, length}
use Rattle.std.proofs.lemmas.Result.{err_from_is_err_and}
use Rattle.hv_base.specs.declared.ids.TxnId.{TxnId}
use Rattle.hv_history.specs.State.{state_of}
use Rattle.hv_trail.specs.Steps.{Begin, begun, Step, Done}
use Rattle.hv_stands.specs.Running.{Asking, next_number}
use Rattle.hv_house.specs.House.{entries_of, AreNoted}
use Rattle.hv_house.specs.Steps.{seen_of, outcome_of}
use Rattle.hv_house.proofs.Lengths.{short_opened}
use Rattle.hv_house.proofs.Steps.{noting-begun, step-noted, step-halted, step-passed, same-trail}
use Rattle.hv_house.proofs.Ready.{room-begin, begun-ready}
use Rattle.hv_house.proofs.house.House.begin.Goals as goal

pub add_with_start-requires-clause-short : goal.add_with_start-requires-clause-short
add_with_start-requires-clause-short g c =
    short_opened c.next_txn-txn.result c.args.session c.args.number c.args.text c.requires.1.1.1.1.0 c.requires.1.1.1.0

pub add_with_start-requires-clause-room : goal.add_with_start-requires-clause-room
add_with_start-requires-clause-room g c =
    room-begin g.limits (entries_of c.args.self.now) (record { session = c.args.session; number = c.args.number; text = c.args.text }) c.requires.1.0.within
    c.requires.1.0.fit c.requires.1.1.1.1.1

pub returns-clause-ready : goal.returns-clause-ready
returns-clause-ready g c =
    let asking : Asking = record { session = c.args.session; number = c.args.number; text = c.args.text } in
    let same : c.next_txn-txn.result ≡ record { 0 = next_number (entries_of c.args.self.now) } =
    λ i. record { 0 = (c.next_txn-txn.ensures.next ∙ ap (λ b. length (state_of b).transactions + 1) c.book-book.ensures.entries) i } in
    begun-ready g.limits g.D.Shelf.told c.args.self.now c.add_with_start.new.self asking
    (subst (λ (t : TxnId). AreNoted g.D.Shelf.told (begun t c.args.session c.args.number c.args.text) c.args.self.now c.add_with_start.new.self) same
    c.in_ok-add_with_start.ensures.noted)
    c.in_ok-add_with_start.ensures.marks.limits c.requires.1.1.1.1.1 c.requires.1.0

pub returns-clause-step : goal.returns-clause-step
returns-clause-step g c =
    let txn : TxnId = c.next_txn-txn.result in
    let same : c.next_txn-txn.result ≡ record { 0 = next_number (entries_of c.args.self.now) } =
    λ i. record { 0 = (c.next_txn-txn.ensures.next ∙ ap (λ b. length (state_of b).transactions + 1) c.book-book.ensures.entries) i } in
    subst (λ (t : TxnId). Step g.D.Shelf.told g.D.Shelf.faults (Begin t c.args.session c.args.number c.args.text) Done (seen_of c.args.self.now) (seen_of c.add_with_start.new.self)) same
    (step-noted g.D.Shelf.told g.D.Shelf.faults (Begin txn c.args.session c.args.number c.args.text) (begun txn c.args.session c.args.number c.args.text)
    (noting-begun txn c.args.session c.args.number c.args.text) c.args.self.now c.add_with_start.new.self c.requires.1.0.kept.running
    c.in_ok-add_with_start.ensures.marks.start c.in_ok-add_with_start.ensures.marks.left c.in_ok-add_with_start.ensures.marks.limits
    c.in_ok-add_with_start.ensures.marks.starved c.in_ok-add_with_start.ensures.noted.tree
    c.in_ok-add_with_start.ensures.cause.later c.in_ok-add_with_start.ensures.noted c.in_ok-add_with_start.ensures.trail
    c.in_ok-add_with_start.ensures.running)

pub returns-in_err-add_with_start-clause-step : goal.returns-in_err-add_with_start-clause-step
returns-in_err-add_with_start-clause-step g c =
    let txn : TxnId = c.next_txn-txn.result in
    let same : c.next_txn-txn.result ≡ record { 0 = next_number (entries_of c.args.self.now) } =
    λ i. record { 0 = (c.next_txn-txn.ensures.next ∙ ap (λ b. length (state_of b).transactions + 1) c.book-book.ensures.entries) i } in
    let left = err_from_is_err_and c.from_residual.result c.from_residual.ensures.1 in
    let fault : left.0 ≡ c.in_err-add_with_start.field-0.0 = cc (left.2) in
    subst (λ (t : TxnId). Step g.D.Shelf.told g.D.Shelf.faults (Begin t c.args.session c.args.number c.args.text) (outcome_of c.from_residual.result) (seen_of c.args.self.now) (seen_of c.add_with_start.new.self)) same
    (step-passed g.D.Shelf.told g.D.Shelf.faults (Begin txn c.args.session c.args.number c.args.text) c.from_residual.result c.in_err-add_with_start.field-0.0
    left.0 c.args.self.now c.add_with_start.new.self left.1 fault
    (step-halted g.D.Shelf.told g.D.Shelf.faults (Begin txn c.args.session c.args.number c.args.text) (begun txn c.args.session c.args.number c.args.text)
    (noting-begun txn c.args.session c.args.number c.args.text) c.args.self.now c.add_with_start.new.self c.requires.1.0.kept.running
    c.in_err-add_with_start.ensures.marks.start c.in_err-add_with_start.ensures.marks.left c.in_err-add_with_start.ensures.marks.limits
    c.in_err-add_with_start.ensures.marks.starved c.in_err-add_with_start.ensures.halted.tree
    c.in_err-add_with_start.ensures.cause.later c.in_err-add_with_start.field-0.0
    (same-trail c.args.self.now c.add_with_start.new.self c.in_err-add_with_start.ensures.halted.entries c.in_err-add_with_start.ensures.marks.marks)
    c.in_err-add_with_start.ensures.closed c.in_err-add_with_start.ensures.halted.leaves))
