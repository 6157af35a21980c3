use Rattle.std.proofs.Common.{false, None, length, sym, ap, ◌∙◌, subst}
use Rattle.hv_base.specs.Told.{Tells}
use Rattle.hv_acts.specs.Told.{seen_in}
use Rattle.hv_table_reader.specs.Counting.{CountsUpTo, dues_if, TellsKind}
use Rattle.hv_table_reader.proofs.Counts.{kind-counted, kind-told, err-up}
use Rattle.hv_table_reader.proofs.Moments.{none-steady}
use Rattle.hv_table_reader.proofs.reading.left_counted.Goals as goal

pub check_counts-requires : goal.check_counts-requires
check_counts-requires g c =
    let counts = c.in_ok-rows.ensures.counts None (none-steady g.D.Shelf.told c.args.by (seen_in (g.W.Actor.house c.args.actor.now)) c.args.taken.now) in
    ap length c.deref.ensures.value ∙ counts.many

pub returns-in_err-check_counts-clause-damage : goal.returns-in_err-check_counts-clause-damage
returns-in_err-check_counts-clause-damage g c = λ o steady.
    let why = c.in_err-check_counts.field-0.0 in
    err-up (λ w. Tells o (λ s. TellsKind false c.args.info.now.table.0 s.tree c.args.taken.now (dues_if c.args.asked c.args.dues.now) w)) c.from_residual-in_err-check_counts.result why
    c.from_residual-in_err-check_counts.ensures.1
    (kind-told o false c.args.info.now.table.0 c.args.taken.now c.args.asked c.deref.result.now c.args.dues.now why
    (subst (CountsUpTo o false c.args.taken.now) (sym c.deref.ensures.value) (c.in_ok-rows.ensures.counts o steady)) c.in_err-check_counts.ensures.told c.in_err-check_counts.ensures.asks)

pub returns-clause-counted : goal.returns-clause-counted
returns-clause-counted g c = λ o steady.
    kind-counted o false c.args.taken.now c.args.asked c.deref.result.now c.args.dues.now
    (subst (CountsUpTo o false c.args.taken.now) (sym c.deref.ensures.value) (c.in_ok-rows.ensures.counts o steady)) c.in_ok-check_counts.ensures.counted
