use Rattle.std.proofs.Common.{rules, ◌≡◌, ◌+◌, ◌∙◌, Ok, Err, sym, ap, subst, length}
use Rattle.hv_base.specs.declared.ids.TxnId.{TxnId}
use Rattle.hv_history.specs.declared.entry.Entry.TheVariants as entry
use Rattle.hv_history.specs.State.{state_of}
use Rattle.hv_stands.specs.Running.{next_number}
use Rattle.hv_house.specs.declared.calls.EntryFault.TheVariants as fault
use Rattle.hv_house.specs.House.{entries_of}
use Rattle.hv_house.specs.Calls.{EntryStepWithin}
use Rattle.hv_house.proofs.Lengths.{short_opened}
use Rattle.hv_house.proofs.Naming.{opening-fits, entry-done, entry-failed}
use Rattle.hv_house.proofs.house.House.note_opened.Goals as goal

pub note-requires : goal.note-requires
note-requires g c κs within =
    let small = short_opened c.next_txn-txn.result c.args.session c.args.number c.args.text c.requires.1.1.1.1.0 c.requires.1.1.1.0 in
    let fits =
    opening-fits g.limits (entries_of c.args.self.now) c.next_txn-txn.result.0 c.args.text c.args.tree
    (c.next_txn-txn.ensures.next ∙ ap (λ b. length (state_of b).transactions + 1) c.book.ensures.entries) c.requires.1.1.0 c.requires.1.1.1.1.1
    in
    (search rules, (c.requires.1.0, (sym c.requires.1.1.0.read, (small, (fits, tt)))))

pub returns-in-Ok-clause-step : goal.returns-in-Ok-clause-step
returns-in-Ok-clause-step g c =
    let same : c.next_txn-txn.result ≡ record { 0 = next_number (entries_of c.args.self.now) } =
    λ i. record { 0 = (c.next_txn-txn.ensures.next ∙ ap (λ b. length (state_of b).transactions + 1) c.book.ensures.entries) i } in
    subst (λ (t : TxnId). EntryStepWithin g.limits g.D.Shelf.told g.D.Shelf.faults (entry.Opened t c.args.session c.args.number c.args.text) c.args.self.now c.note.new.self (Ok c.next_txn-txn.result)) same
    (entry-done g.limits g.D.Shelf.told g.D.Shelf.faults (entry.Opened c.next_txn-txn.result c.args.session c.args.number c.args.text) c.args.self.now c.note.new.self c.next_txn-txn.result
    c.in-Ok.ensures.ready c.in-Ok.ensures.noted c.in-Ok.ensures.tree_kept c.in-Ok.ensures.tells c.in-Ok.ensures.step c.in-Ok.ensures.cause.later)

pub returns-in-Err-clause-step : goal.returns-in-Err-clause-step
returns-in-Err-clause-step g c =
    let same : c.next_txn-txn.result ≡ record { 0 = next_number (entries_of c.args.self.now) } =
    λ i. record { 0 = (c.next_txn-txn.ensures.next ∙ ap (λ b. length (state_of b).transactions + 1) c.book.ensures.entries) i } in
    subst (λ (t : TxnId). EntryStepWithin {T = TxnId} g.limits g.D.Shelf.told g.D.Shelf.faults (entry.Opened t c.args.session c.args.number c.args.text) c.args.self.now c.note.new.self (Err (fault.House c.in-Err.fault))) same
    (entry-failed g.limits g.D.Shelf.told g.D.Shelf.faults (entry.Opened c.next_txn-txn.result c.args.session c.args.number c.args.text) c.args.self.now c.note.new.self c.in-Err.fault
    c.in-Err.ensures.stays c.in-Err.ensures.halted c.in-Err.ensures.ends c.in-Err.ensures.tree_kept c.in-Err.ensures.tells c.in-Err.ensures.step c.in-Err.ensures.cause.later c.in-Err.ensures.cause.failed)
