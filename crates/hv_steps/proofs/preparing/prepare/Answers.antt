use Rattle.std.proofs.Common.{◌≡◌, refl, sym, ap, ◌∙◌, subst, arith}
use Rattle.hv_history.specs.declared.entry.Cause.{Cause}
use Rattle.hv_history.specs.declared.entry.Cause.TheVariants as cause
use Rattle.hv_history.specs.Answers.{listing, ok_line}
use Rattle.hv_logic.specs.declared.meaning.Meaning.{Meaning}
use Rattle.hv_logic.specs.declared.meaning.Meaning.TheVariants as meaning
use Rattle.hv_effect.specs.Touches.{touches_in}
use Rattle.hv_table_reader.specs.hv_acts.specs.Told.{trail_in}
use Rattle.hv_table_reader.specs.hv_acts.specs.Passing.{HasPassedAll}
use Rattle.hv_steps.specs.declared.ready.End.TheVariants as end
use Rattle.hv_steps.proofs.Shorts.{short_refused, short_limit, short_many, short_twice}
use Rattle.hv_steps.specs.Going.{faults_in, Goes}
use Rattle.hv_steps.specs.Phases.{Prepares}
use Rattle.hv_steps.proofs.Joining.{on-way-opened}
use Rattle.hv_steps.proofs.Ids.{comes-means, comes-asked, comes-change, comes-job, comes-short}
use Rattle.hv_steps.proofs.Parts.{idle-prepares, idle-concludes, meant-prepares, ends-can, made-prepares, made-can, idle-can, make-can, drop-can}
use Rattle.hv_actor.specs.Acting.{among, known}
use Rattle.hv_steps.proofs.preparing.prepare.Goals as goal

pub made_ready-requires-clause-was : goal.made_ready-requires-clause-was
made_ready-requires-clause-was g c =
    on-way-opened (trail_in (g.W.Actor.house c.args.actor.now)) c.requires.was.0 c.args.way c.requires.was.1 c.requires.was.2

pub returns-in-Listing-clause-goes : goal.returns-in-Listing-clause-goes
returns-in-Listing-clause-goes g c =
    let a = g.W.Actor.house c.args.actor.now in
    let b = g.W.Actor.house c.made_ready.new.actor in
    let own = g.W.Actor.own c.args.actor.now in
    let own' = g.W.Actor.own c.made_ready.new.actor in
    let low = faults_in g.D.Shelf.faults a in
    idle-prepares g.D.Shelf.told g.D.Shelf.faults g.W.Actor.between g.met.W.Actor.rows g.W.Actor.meanwhile c.args.way.txn.0 low own own' a b c.args.meaning (meaning.Listing c.in-Listing.names c.in-Listing.rows) c.nothing.result (listing c.as_slice.result.now c.as_slice-in-Listing.result.now) c.made_ready.result (sym c.meaning.view_is ∙ c.in-Listing.is) c.nothing.ensures
    (λ ready is. (refl, (is.0, is.1 ∙ (λ i. listing (c.as_slice.ensures i) (c.as_slice-in-Listing.ensures i))))) (c.made_ready.ensures.goes (listing c.as_slice.result.now c.as_slice-in-Listing.result.now) c.listing-text.ensures)

pub returns-in-Listing-clause-can : goal.returns-in-Listing-clause-can
returns-in-Listing-clause-can g c =
    let a = g.W.Actor.house c.args.actor.now in
    let b = g.W.Actor.house c.made_ready.new.actor in
    let own = g.W.Actor.own c.args.actor.now in
    let own' = g.W.Actor.own c.made_ready.new.actor in
    let low = faults_in g.D.Shelf.faults a in
    idle-concludes g.D.Shelf.told g.D.Shelf.faults g.W.Actor.between g.met.W.Actor.rows g.W.Actor.meanwhile c.args.way.txn.0 low own own' a b c.args.way c.nothing.result (listing c.as_slice.result.now c.as_slice-in-Listing.result.now) c.made_ready.result c.nothing.ensures
    (idle-can g.D.Shelf.told a c.args.way (meaning.Listing c.in-Listing.names c.in-Listing.rows) (listing c.as_slice.result.now c.as_slice-in-Listing.result.now) refl (λ i. listing (c.as_slice.ensures i) (c.as_slice-in-Listing.ensures i)) (λ is. (comes-means g.D.Shelf.told a c.requires.was.0 c.args.way c.requires.was.1 c.args.meaning (meaning.Listing c.in-Listing.names c.in-Listing.rows) c.requires.was.2 c.requires.was.3 (sym c.meaning.view_is ∙ c.in-Listing.is) is, tt)))
    (c.made_ready.ensures.goes (listing c.as_slice.result.now c.as_slice-in-Listing.result.now) c.listing-text.ensures)

pub prepare_change-requires-clause-comes : goal.prepare_change-requires-clause-comes
prepare_change-requires-clause-comes g c =
    comes-change g.D.Shelf.told (g.W.Actor.house c.args.actor.now) c.requires.was.0 c.args.way c.requires.was.1 c.args.meaning c.in-Change.info c.in-Change.effect c.requires.was.2 c.requires.was.3 (sym c.meaning.view_is ∙ c.in-Change.is)

pub prepare_change-requires-clause-wrote : goal.prepare_change-requires-clause-wrote
prepare_change-requires-clause-wrote g c = c.meaning.invariant ∙ ap touches_in c.in-Change.is

pub returns-in-Change-clause-goes : goal.returns-in-Change-clause-goes
returns-in-Change-clause-goes g c =
    let a = g.W.Actor.house c.args.actor.now in
    let b = g.W.Actor.house c.prepare_change.new.actor in
    let own = g.W.Actor.own c.args.actor.now in
    let own' = g.W.Actor.own c.prepare_change.new.actor in
    let low = faults_in g.D.Shelf.faults a in
    subst (λ (m : Meaning). Goes (among g.D.Shelf.told g.D.Shelf.faults g.W.Actor.between g.W.Actor.meanwhile) low c.args.way.txn.0 (known own a) (known own' b)
    (Prepares c.args.way.txn.0 b m) c.prepare_change.result)
    (sym (sym c.meaning.view_is ∙ c.in-Change.is)) c.prepare_change.ensures.goes

pub made_ready-requires-in-Make-clause-was : goal.made_ready-requires-in-Make-clause-was
made_ready-requires-in-Make-clause-was g c =
    on-way-opened (trail_in (g.W.Actor.house c.args.actor.now)) c.requires.was.0 c.args.way c.requires.was.1 c.requires.was.2

pub returns-in-Make-clause-goes : goal.returns-in-Make-clause-goes
returns-in-Make-clause-goes g c =
    let a = g.W.Actor.house c.args.actor.now in
    let b = g.W.Actor.house c.made_ready-in-Make.new.actor in
    let own = g.W.Actor.own c.args.actor.now in
    let own' = g.W.Actor.own c.made_ready-in-Make.new.actor in
    let low = faults_in g.D.Shelf.faults a in
    subst (λ (m : Meaning). Goes (among g.D.Shelf.told g.D.Shelf.faults g.W.Actor.between g.W.Actor.meanwhile) low c.args.way.txn.0 (known own a) (known own' b)
    (Prepares c.args.way.txn.0 b m) c.made_ready-in-Make.result)
    (sym (sym c.meaning.view_is ∙ c.in-Make.is))
    (made-prepares g.D.Shelf.told g.D.Shelf.faults g.W.Actor.between g.met.W.Actor.rows g.W.Actor.meanwhile c.args.way.txn.0 low own own' a b (meaning.Make c.in-Make.field-0) end.Create ok_line c.made_ready-in-Make.result (λ ready is. (refl, is)) (c.made_ready-in-Make.ensures.goes ok_line c.ok_line.ensures))

pub returns-in-Make-clause-can : goal.returns-in-Make-clause-can
returns-in-Make-clause-can g c =
    let a = g.W.Actor.house c.args.actor.now in
    let b = g.W.Actor.house c.made_ready-in-Make.new.actor in
    let own = g.W.Actor.own c.args.actor.now in
    let own' = g.W.Actor.own c.made_ready-in-Make.new.actor in
    let low = faults_in g.D.Shelf.faults a in
    made-can g.D.Shelf.told g.D.Shelf.faults g.W.Actor.between g.met.W.Actor.rows g.W.Actor.meanwhile c.args.way.txn.0 low own own' a b c.args.way end.Create ok_line c.made_ready-in-Make.result
    (make-can g.D.Shelf.told a c.args.way c.in-Make.field-0 (λ is. comes-means g.D.Shelf.told a c.requires.was.0 c.args.way c.requires.was.1 c.args.meaning (meaning.Make c.in-Make.field-0) c.requires.was.2 c.requires.was.3 (sym c.meaning.view_is ∙ c.in-Make.is) is))
    (c.made_ready-in-Make.ensures.goes ok_line c.ok_line.ensures)

pub made_ready-requires-in-Unmake-clause-was : goal.made_ready-requires-in-Unmake-clause-was
made_ready-requires-in-Unmake-clause-was g c =
    on-way-opened (trail_in (g.W.Actor.house c.args.actor.now)) c.requires.was.0 c.args.way c.requires.was.1 c.requires.was.2

pub returns-in-Unmake-clause-goes : goal.returns-in-Unmake-clause-goes
returns-in-Unmake-clause-goes g c =
    let a = g.W.Actor.house c.args.actor.now in
    let b = g.W.Actor.house c.made_ready-in-Unmake.new.actor in
    let own = g.W.Actor.own c.args.actor.now in
    let own' = g.W.Actor.own c.made_ready-in-Unmake.new.actor in
    let low = faults_in g.D.Shelf.faults a in
    subst (λ (m : Meaning). Goes (among g.D.Shelf.told g.D.Shelf.faults g.W.Actor.between g.W.Actor.meanwhile) low c.args.way.txn.0 (known own a) (known own' b)
    (Prepares c.args.way.txn.0 b m) c.made_ready-in-Unmake.result)
    (sym (sym c.meaning.view_is ∙ c.in-Unmake.is))
    (made-prepares g.D.Shelf.told g.D.Shelf.faults g.W.Actor.between g.met.W.Actor.rows g.W.Actor.meanwhile c.args.way.txn.0 low own own' a b (meaning.Unmake c.in-Unmake.table) (end.Drop c.in-Unmake.table) ok_line c.made_ready-in-Unmake.result (λ ready is. (refl, is)) (c.made_ready-in-Unmake.ensures.goes ok_line c.ok_line-in-Unmake.ensures))

pub returns-in-Unmake-clause-can : goal.returns-in-Unmake-clause-can
returns-in-Unmake-clause-can g c =
    let a = g.W.Actor.house c.args.actor.now in
    let b = g.W.Actor.house c.made_ready-in-Unmake.new.actor in
    let own = g.W.Actor.own c.args.actor.now in
    let own' = g.W.Actor.own c.made_ready-in-Unmake.new.actor in
    let low = faults_in g.D.Shelf.faults a in
    made-can g.D.Shelf.told g.D.Shelf.faults g.W.Actor.between g.met.W.Actor.rows g.W.Actor.meanwhile c.args.way.txn.0 low own own' a b c.args.way (end.Drop c.in-Unmake.table) ok_line c.made_ready-in-Unmake.result
    (drop-can g.D.Shelf.told a c.args.way c.in-Unmake.table (λ is. comes-means g.D.Shelf.told a c.requires.was.0 c.args.way c.requires.was.1 c.args.meaning (meaning.Unmake c.in-Unmake.table) c.requires.was.2 c.requires.was.3 (sym c.meaning.view_is ∙ c.in-Unmake.is) is))
    (c.made_ready-in-Unmake.ensures.goes ok_line c.ok_line-in-Unmake.ensures)

pub prepare_job-requires-clause-comes : goal.prepare_job-requires-clause-comes
prepare_job-requires-clause-comes g c =
    comes-job g.D.Shelf.told (g.W.Actor.house c.args.actor.now) c.requires.was.0 c.args.way c.requires.was.1 c.args.meaning c.in-Ask.table c.in-Ask.partition c.in-Ask.kind c.requires.was.2 c.requires.was.3 (sym c.meaning.view_is ∙ c.in-Ask.is)

pub returns-in-Ask-clause-goes : goal.returns-in-Ask-clause-goes
returns-in-Ask-clause-goes g c =
    let a = g.W.Actor.house c.args.actor.now in
    let b = g.W.Actor.house c.prepare_job.new.actor in
    let own = g.W.Actor.own c.args.actor.now in
    let own' = g.W.Actor.own c.prepare_job.new.actor in
    let low = faults_in g.D.Shelf.faults a in
    subst (λ (m : Meaning). Goes (among g.D.Shelf.told g.D.Shelf.faults g.W.Actor.between g.W.Actor.meanwhile) low c.args.way.txn.0 (known own a) (known own' b)
    (Prepares c.args.way.txn.0 b m) c.prepare_job.result)
    (sym (sym c.meaning.view_is ∙ c.in-Ask.is)) c.prepare_job.ensures.goes

pub withdraw-requires-clause-small : goal.withdraw-requires-clause-small
withdraw-requires-clause-small g c =
    short_refused c.args.way.txn.0 c.number-number.result

pub withdraw-requires-clause-was : goal.withdraw-requires-clause-was
withdraw-requires-clause-was g c =
    on-way-opened (trail_in (g.W.Actor.house c.args.actor.now)) c.requires.was.0 c.args.way c.requires.was.1 c.requires.was.2

pub withdraw-requires-clause-due : goal.withdraw-requires-clause-due
withdraw-requires-clause-due g c = λ is.
    (c.in-Refused.refusal, c.number-number.ensures, comes-means g.D.Shelf.told (g.W.Actor.house c.args.actor.now) c.requires.was.0 c.args.way c.requires.was.1 c.args.meaning (meaning.Refused c.in-Refused.refusal) c.requires.was.2 c.requires.was.3 (sym c.meaning.view_is ∙ c.in-Refused.is) is)

pub returns-in-Refused-clause-goes : goal.returns-in-Refused-clause-goes
returns-in-Refused-clause-goes g c =
    let a = g.W.Actor.house c.args.actor.now in
    let b = g.W.Actor.house c.withdraw.new.actor in
    let own = g.W.Actor.own c.args.actor.now in
    let own' = g.W.Actor.own c.withdraw.new.actor in
    let low = faults_in g.D.Shelf.faults a in
    meant-prepares g.D.Shelf.told g.D.Shelf.faults g.W.Actor.between g.met.W.Actor.rows g.W.Actor.meanwhile c.args.way.txn.0 low own own' a b c.args.meaning (meaning.Refused c.in-Refused.refusal) (cause.Refused c.number-number.result) c.withdraw.result (sym c.meaning.view_is ∙ c.in-Refused.is) c.number-number.ensures (c.withdraw.ensures.goes low (omega arith) tt)

pub returns-in-Refused-clause-can : goal.returns-in-Refused-clause-can
returns-in-Refused-clause-can g c =
    let a = g.W.Actor.house c.args.actor.now in
    let b = g.W.Actor.house c.withdraw.new.actor in
    let own = g.W.Actor.own c.args.actor.now in
    let own' = g.W.Actor.own c.withdraw.new.actor in
    let low = faults_in g.D.Shelf.faults a in
    ends-can g.D.Shelf.told g.D.Shelf.faults g.W.Actor.between g.met.W.Actor.rows g.W.Actor.meanwhile c.args.way.txn.0 low own own' a b c.args.way (λ (why : Cause). why ≡ cause.Refused c.number-number.result) c.withdraw.result (c.withdraw.ensures.goes low (omega arith) tt)

pub withdraw-requires-in-Twice-clause-small : goal.withdraw-requires-in-Twice-clause-small
withdraw-requires-in-Twice-clause-small g c =
    short_twice c.args.way.txn.0 c.in-Twice.partition c.in-Twice.row
    (comes-short g.D.Shelf.told (g.W.Actor.house c.args.actor.now) c.args.way c.requires.was.1 c.args.meaning c.in-Twice.partition c.in-Twice.row c.requires.was.3
    (sym c.meaning.view_is ∙ c.in-Twice.is))

pub withdraw-requires-in-Twice-clause-was : goal.withdraw-requires-in-Twice-clause-was
withdraw-requires-in-Twice-clause-was g c =
    on-way-opened (trail_in (g.W.Actor.house c.args.actor.now)) c.requires.was.0 c.args.way c.requires.was.1 c.requires.was.2

pub withdraw-requires-in-Twice-clause-due : goal.withdraw-requires-in-Twice-clause-due
withdraw-requires-in-Twice-clause-due g c = λ is.
    comes-means g.D.Shelf.told (g.W.Actor.house c.args.actor.now) c.requires.was.0 c.args.way c.requires.was.1 c.args.meaning (meaning.Twice c.in-Twice.partition c.in-Twice.row) c.requires.was.2 c.requires.was.3 (sym c.meaning.view_is ∙ c.in-Twice.is) is

pub returns-in-Twice-clause-goes : goal.returns-in-Twice-clause-goes
returns-in-Twice-clause-goes g c =
    let a = g.W.Actor.house c.args.actor.now in
    let b = g.W.Actor.house c.withdraw-in-Twice.new.actor in
    let own = g.W.Actor.own c.args.actor.now in
    let own' = g.W.Actor.own c.withdraw-in-Twice.new.actor in
    let low = faults_in g.D.Shelf.faults a in
    meant-prepares g.D.Shelf.told g.D.Shelf.faults g.W.Actor.between g.met.W.Actor.rows g.W.Actor.meanwhile c.args.way.txn.0 low own own' a b c.args.meaning (meaning.Twice c.in-Twice.partition c.in-Twice.row) (cause.Twice c.in-Twice.partition c.in-Twice.row) c.withdraw-in-Twice.result (sym c.meaning.view_is ∙ c.in-Twice.is) (refl, refl) (c.withdraw-in-Twice.ensures.goes low (omega arith) tt)

pub returns-in-Twice-clause-can : goal.returns-in-Twice-clause-can
returns-in-Twice-clause-can g c =
    let a = g.W.Actor.house c.args.actor.now in
    let b = g.W.Actor.house c.withdraw-in-Twice.new.actor in
    let own = g.W.Actor.own c.args.actor.now in
    let own' = g.W.Actor.own c.withdraw-in-Twice.new.actor in
    let low = faults_in g.D.Shelf.faults a in
    ends-can g.D.Shelf.told g.D.Shelf.faults g.W.Actor.between g.met.W.Actor.rows g.W.Actor.meanwhile c.args.way.txn.0 low own own' a b c.args.way (λ (why : Cause). why ≡ cause.Twice c.in-Twice.partition c.in-Twice.row) c.withdraw-in-Twice.result (c.withdraw-in-Twice.ensures.goes low (omega arith) tt)

pub withdraw-requires-in-RowLimit-clause-small : goal.withdraw-requires-in-RowLimit-clause-small
withdraw-requires-in-RowLimit-clause-small g c =
    short_limit c.args.way.txn.0

pub withdraw-requires-in-RowLimit-clause-was : goal.withdraw-requires-in-RowLimit-clause-was
withdraw-requires-in-RowLimit-clause-was g c =
    on-way-opened (trail_in (g.W.Actor.house c.args.actor.now)) c.requires.was.0 c.args.way c.requires.was.1 c.requires.was.2

pub withdraw-requires-in-RowLimit-clause-due : goal.withdraw-requires-in-RowLimit-clause-due
withdraw-requires-in-RowLimit-clause-due g c = λ is.
    comes-means g.D.Shelf.told (g.W.Actor.house c.args.actor.now) c.requires.was.0 c.args.way c.requires.was.1 c.args.meaning (meaning.RowLimit) c.requires.was.2 c.requires.was.3 (sym c.meaning.view_is ∙ c.in-RowLimit.is) is

pub returns-in-RowLimit-clause-goes : goal.returns-in-RowLimit-clause-goes
returns-in-RowLimit-clause-goes g c =
    let a = g.W.Actor.house c.args.actor.now in
    let b = g.W.Actor.house c.withdraw-in-RowLimit.new.actor in
    let own = g.W.Actor.own c.args.actor.now in
    let own' = g.W.Actor.own c.withdraw-in-RowLimit.new.actor in
    let low = faults_in g.D.Shelf.faults a in
    meant-prepares g.D.Shelf.told g.D.Shelf.faults g.W.Actor.between g.met.W.Actor.rows g.W.Actor.meanwhile c.args.way.txn.0 low own own' a b c.args.meaning (meaning.RowLimit) (cause.RowLimit) c.withdraw-in-RowLimit.result (sym c.meaning.view_is ∙ c.in-RowLimit.is) tt (c.withdraw-in-RowLimit.ensures.goes low (omega arith) tt)

pub returns-in-RowLimit-clause-can : goal.returns-in-RowLimit-clause-can
returns-in-RowLimit-clause-can g c =
    let a = g.W.Actor.house c.args.actor.now in
    let b = g.W.Actor.house c.withdraw-in-RowLimit.new.actor in
    let own = g.W.Actor.own c.args.actor.now in
    let own' = g.W.Actor.own c.withdraw-in-RowLimit.new.actor in
    let low = faults_in g.D.Shelf.faults a in
    ends-can g.D.Shelf.told g.D.Shelf.faults g.W.Actor.between g.met.W.Actor.rows g.W.Actor.meanwhile c.args.way.txn.0 low own own' a b c.args.way (λ (why : Cause). why ≡ cause.RowLimit) c.withdraw-in-RowLimit.result (c.withdraw-in-RowLimit.ensures.goes low (omega arith) tt)

pub withdraw-requires-in-PartitionLimit-clause-small : goal.withdraw-requires-in-PartitionLimit-clause-small
withdraw-requires-in-PartitionLimit-clause-small g c =
    short_many c.args.way.txn.0

pub withdraw-requires-in-PartitionLimit-clause-was : goal.withdraw-requires-in-PartitionLimit-clause-was
withdraw-requires-in-PartitionLimit-clause-was g c =
    on-way-opened (trail_in (g.W.Actor.house c.args.actor.now)) c.requires.was.0 c.args.way c.requires.was.1 c.requires.was.2

pub withdraw-requires-in-PartitionLimit-clause-due : goal.withdraw-requires-in-PartitionLimit-clause-due
withdraw-requires-in-PartitionLimit-clause-due g c = λ is.
    comes-means g.D.Shelf.told (g.W.Actor.house c.args.actor.now) c.requires.was.0 c.args.way c.requires.was.1 c.args.meaning (meaning.PartitionLimit) c.requires.was.2 c.requires.was.3 (sym c.meaning.view_is ∙ c.in-PartitionLimit.is) is

pub returns-in-PartitionLimit-clause-goes : goal.returns-in-PartitionLimit-clause-goes
returns-in-PartitionLimit-clause-goes g c =
    let a = g.W.Actor.house c.args.actor.now in
    let b = g.W.Actor.house c.withdraw-in-PartitionLimit.new.actor in
    let own = g.W.Actor.own c.args.actor.now in
    let own' = g.W.Actor.own c.withdraw-in-PartitionLimit.new.actor in
    let low = faults_in g.D.Shelf.faults a in
    meant-prepares g.D.Shelf.told g.D.Shelf.faults g.W.Actor.between g.met.W.Actor.rows g.W.Actor.meanwhile c.args.way.txn.0 low own own' a b c.args.meaning (meaning.PartitionLimit) (cause.PartitionLimit) c.withdraw-in-PartitionLimit.result (sym c.meaning.view_is ∙ c.in-PartitionLimit.is) tt (c.withdraw-in-PartitionLimit.ensures.goes low (omega arith) tt)

pub returns-in-PartitionLimit-clause-can : goal.returns-in-PartitionLimit-clause-can
returns-in-PartitionLimit-clause-can g c =
    let a = g.W.Actor.house c.args.actor.now in
    let b = g.W.Actor.house c.withdraw-in-PartitionLimit.new.actor in
    let own = g.W.Actor.own c.args.actor.now in
    let own' = g.W.Actor.own c.withdraw-in-PartitionLimit.new.actor in
    let low = faults_in g.D.Shelf.faults a in
    ends-can g.D.Shelf.told g.D.Shelf.faults g.W.Actor.between g.met.W.Actor.rows g.W.Actor.meanwhile c.args.way.txn.0 low own own' a b c.args.way (λ (why : Cause). why ≡ cause.PartitionLimit) c.withdraw-in-PartitionLimit.result (c.withdraw-in-PartitionLimit.ensures.goes low (omega arith) tt)

pub made_ready-requires-in-Plain-clause-was : goal.made_ready-requires-in-Plain-clause-was
made_ready-requires-in-Plain-clause-was g c =
    on-way-opened (trail_in (g.W.Actor.house c.args.actor.now)) c.requires.was.0 c.args.way c.requires.was.1 c.requires.was.2

pub returns-clause-goes : goal.returns-clause-goes
returns-clause-goes g c =
    let a = g.W.Actor.house c.args.actor.now in
    let b = g.W.Actor.house c.made_ready-in-Plain.new.actor in
    let own = g.W.Actor.own c.args.actor.now in
    let own' = g.W.Actor.own c.made_ready-in-Plain.new.actor in
    let low = faults_in g.D.Shelf.faults a in
    idle-prepares g.D.Shelf.told g.D.Shelf.faults g.W.Actor.between g.met.W.Actor.rows g.W.Actor.meanwhile c.args.way.txn.0 low own own' a b c.args.meaning meaning.Plain c.nothing-in-Plain.result ok_line c.made_ready-in-Plain.result (sym c.meaning.view_is ∙ c.in-Plain.is) c.nothing-in-Plain.ensures
    (λ ready is. (refl, is)) (c.made_ready-in-Plain.ensures.goes ok_line c.ok_line-in-Plain.ensures)

pub returns-clause-can : goal.returns-clause-can
returns-clause-can g c =
    let a = g.W.Actor.house c.args.actor.now in
    let b = g.W.Actor.house c.made_ready-in-Plain.new.actor in
    let own = g.W.Actor.own c.args.actor.now in
    let own' = g.W.Actor.own c.made_ready-in-Plain.new.actor in
    let low = faults_in g.D.Shelf.faults a in
    idle-concludes g.D.Shelf.told g.D.Shelf.faults g.W.Actor.between g.met.W.Actor.rows g.W.Actor.meanwhile c.args.way.txn.0 low own own' a b c.args.way c.nothing-in-Plain.result ok_line c.made_ready-in-Plain.result c.nothing-in-Plain.ensures
    (idle-can g.D.Shelf.told a c.args.way meaning.Plain ok_line refl refl (comes-asked g.D.Shelf.told a c.requires.was.0 c.args.way c.requires.was.1 c.args.meaning (meaning.Plain) c.requires.was.2 c.requires.was.3 (sym c.meaning.view_is ∙ c.in-Plain.is)
    (subst (HasPassedAll (trail_in a) c.args.way.txn c.args.way.place c.requires.was.1) (sym c.meaning.view_is ∙ c.in-Plain.is) c.requires.was.4)))
    (c.made_ready-in-Plain.ensures.goes ok_line c.ok_line-in-Plain.ensures)
