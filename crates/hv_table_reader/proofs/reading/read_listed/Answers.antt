use Rattle.std.proofs.Common.{true, false, [], Ok, List, IsPermutation, sym, subst}
use Rattle.hv_base.specs.Told.{Tells}
use Rattle.hv_choosing.specs.declared.listing.DirFile.{DirFile}
use Rattle.hv_law_dues.specs.hv_counts.specs.declared.due.Due.{Due}
use Rattle.hv_table_rows.specs.Reading.{Reads, deleted_in, left_in}
use Rattle.hv_table_reader.specs.Damage.{IsDamage}
use Rattle.hv_acts.specs.Told.{seen_in}
use Rattle.hv_table_reader.specs.Counting.{dues_if, TellsKind, IsAmissOf}
use Rattle.hv_table_reader.proofs.Counts.{err-up, amiss-so}
use Rattle.hv_table_reader.specs.Steady.{AreSteady}
use Rattle.hv_table_reader.proofs.TableLooks.{looked, looks-then, looks-up, looks-on, looks-lacks}
use Rattle.hv_table_reader.proofs.Moments.{behind-adds, all-steady-on}
use Rattle.hv_table_reader.proofs.Sheets.{rows-taken}
use Rattle.hv_table_reader.proofs.reading.read_listed.Goals as goal

pub returns-clause-rows : goal.returns-clause-rows
returns-clause-rows g c = λ o wants files.
    let before = g.W.Actor.house c.args.actor.now in
    let then_ = g.W.Actor.house c.deleted_counted.new.actor in
    let wanted = c.args.wanted.now in
    let listing = wanted.listing in
    let next =
    behind-adds g.D.Shelf.faults g.W.Actor.between (g.W.Actor.own c.args.actor.now) (g.W.Actor.own c.deleted_counted.new.actor) before then_ [] c.in_ok-gone.ensures.looks.adds in
    rows-taken wants c.args.info.now wanted o files.taken c.in_ok-gone.gone.items c.deref-4.result.now c.in_ok-rows.rows.items c.in_ok-once.field-0.items
    (subst (IsPermutation c.in_ok-gone.gone.items) (sym c.deref-4.ensures.value) c.in_ok-gone-2.ensures.same)
    (subst (λ (taken : List DirFile). Tells o (λ s. Reads true s.tree taken (deleted_in listing.list) c.in_ok-gone.gone.items)) c.deref.ensures.value
    (c.in_ok-gone.ensures.rows o (subst (AreSteady g.D.Shelf.told o c.args.by (seen_in before)) (sym c.deref.ensures.value) files.deletes)))
    (subst (λ (taken : List DirFile). Tells o (λ s. Reads false s.tree taken (left_in listing.list c.deref-4.result.now c.args.info.now.shape) c.in_ok-rows.rows.items)) c.deref-3.ensures.value
    (c.in_ok-rows.ensures.rows o
    (subst (AreSteady g.D.Shelf.told o c.args.by (seen_in then_)) (sym c.deref-3.ensures.value)
    (all-steady-on g.D.Shelf.told o c.args.by (seen_in before) (seen_in then_) listing.inserts.items next files.inserts))))
    c.in_ok-once.ensures

pub returns-in_err-gone-clause-damage : goal.returns-in_err-gone-clause-damage
returns-in_err-gone-clause-damage g c = λ o wants others files same.
    let before = g.W.Actor.house c.args.actor.now in
    let wanted = c.args.wanted.now in
    let info = c.args.info.now in
    let why = c.in_err-gone.field-0.0 in
    err-up (λ w. IsDamage w → Tells o (λ s. IsAmissOf wants info wanted.listing.list s.tree others)) c.from_residual.result why c.from_residual.ensures.1
    (amiss-so wants info wanted o true others why same files.taken
    (subst (λ (taken : List DirFile). Tells o (λ s. TellsKind true info.table.0 s.tree taken (dues_if wanted.counts_deletes wanted.dues.items) why)) c.deref.ensures.value
    (subst (λ (dues : List Due). Tells o (λ s. TellsKind true info.table.0 s.tree c.deref.result.now (dues_if wanted.counts_deletes dues) why)) c.deref-2.ensures.value
    (c.in_err-gone.ensures.damage o (subst (AreSteady g.D.Shelf.told o c.args.by (seen_in before)) (sym c.deref.ensures.value) files.deletes)))))

pub returns-in_err-rows-clause-damage : goal.returns-in_err-rows-clause-damage
returns-in_err-rows-clause-damage g c = λ o wants others files same.
    let before = g.W.Actor.house c.args.actor.now in
    let then_ = g.W.Actor.house c.deleted_counted.new.actor in
    let wanted = c.args.wanted.now in
    let info = c.args.info.now in
    let why = c.in_err-rows.field-0.0 in
    let next =
    behind-adds g.D.Shelf.faults g.W.Actor.between (g.W.Actor.own c.args.actor.now) (g.W.Actor.own c.deleted_counted.new.actor) before then_ [] c.in_ok-gone.ensures.looks.adds in
    err-up (λ w. IsDamage w → Tells o (λ s. IsAmissOf wants info wanted.listing.list s.tree others)) c.from_residual-in_err-rows.result why c.from_residual-in_err-rows.ensures.1
    (amiss-so wants info wanted o false others why same files.taken
    (subst (λ (taken : List DirFile). Tells o (λ s. TellsKind false info.table.0 s.tree taken (dues_if wanted.counts_rows wanted.dues.items) why)) c.deref-3.ensures.value
    (subst (λ (dues : List Due). Tells o (λ s. TellsKind false info.table.0 s.tree c.deref-3.result.now (dues_if wanted.counts_rows dues) why)) c.deref-5.ensures.value
    (c.in_err-rows.ensures.damage o
    (subst (AreSteady g.D.Shelf.told o c.args.by (seen_in then_)) (sym c.deref-3.ensures.value)
    (all-steady-on g.D.Shelf.told o c.args.by (seen_in before) (seen_in then_) wanted.listing.inserts.items next files.inserts))))))

pub returns-clause-looks : goal.returns-clause-looks
returns-clause-looks g c =
    let own = g.W.Actor.own c.args.actor.now in
    let own' = g.W.Actor.own c.deleted_counted.new.actor in
    let own'' = g.W.Actor.own c.left_counted.new.actor in
    let before = g.W.Actor.house c.args.actor.now in
    let then_ = g.W.Actor.house c.deleted_counted.new.actor in
    let now = g.W.Actor.house c.left_counted.new.actor in
    looks-on g.D.Shelf.told g.D.Shelf.faults g.W.Actor.between g.W.Actor.meanwhile c.args.by own own'' before now (Ok _)
    (looks-then g.D.Shelf.told g.D.Shelf.faults g.W.Actor.between g.W.Actor.meanwhile c.args.by g.met.W.Actor.rows own own' own'' before then_ now (Ok tt)
    (looked g.D.Shelf.told g.D.Shelf.faults g.W.Actor.between g.W.Actor.meanwhile c.args.by own own' before then_ c.in_ok-gone.gone c.in_ok-gone.ensures.looks)
    (looked g.D.Shelf.told g.D.Shelf.faults g.W.Actor.between g.W.Actor.meanwhile c.args.by own' own'' then_ now c.in_ok-rows.rows c.in_ok-rows.ensures.looks)) tt

pub returns-in_err-rows-clause-looks : goal.returns-in_err-rows-clause-looks
returns-in_err-rows-clause-looks g c =
    let own = g.W.Actor.own c.args.actor.now in
    let own' = g.W.Actor.own c.deleted_counted.new.actor in
    let own'' = g.W.Actor.own c.left_counted.new.actor in
    let before = g.W.Actor.house c.args.actor.now in
    let then_ = g.W.Actor.house c.deleted_counted.new.actor in
    let now = g.W.Actor.house c.left_counted.new.actor in
    looks-then g.D.Shelf.told g.D.Shelf.faults g.W.Actor.between g.W.Actor.meanwhile c.args.by g.met.W.Actor.rows own own' own'' before then_ now c.from_residual-in_err-rows.result
    (looked g.D.Shelf.told g.D.Shelf.faults g.W.Actor.between g.W.Actor.meanwhile c.args.by own own' before then_ c.in_ok-gone.gone c.in_ok-gone.ensures.looks)
    (looks-up g.D.Shelf.told g.D.Shelf.faults g.W.Actor.between g.W.Actor.meanwhile c.args.by own' own'' then_ now c.in_err-rows.field-0.0 c.from_residual-in_err-rows.result
    c.from_residual-in_err-rows.ensures.1 c.in_err-rows.ensures.looks)

pub returns-in_err-once-clause-looks : goal.returns-in_err-once-clause-looks
returns-in_err-once-clause-looks g c =
    let own = g.W.Actor.own c.args.actor.now in
    let own' = g.W.Actor.own c.deleted_counted.new.actor in
    let own'' = g.W.Actor.own c.left_counted.new.actor in
    let before = g.W.Actor.house c.args.actor.now in
    let then_ = g.W.Actor.house c.deleted_counted.new.actor in
    let now = g.W.Actor.house c.left_counted.new.actor in
    looks-lacks g.D.Shelf.told g.D.Shelf.faults g.W.Actor.between g.W.Actor.meanwhile c.args.by own own'' before now c.from_residual-in_err-once.result
    (looks-then g.D.Shelf.told g.D.Shelf.faults g.W.Actor.between g.W.Actor.meanwhile c.args.by g.met.W.Actor.rows own own' own'' before then_ now (Ok tt)
    (looked g.D.Shelf.told g.D.Shelf.faults g.W.Actor.between g.W.Actor.meanwhile c.args.by own own' before then_ c.in_ok-gone.gone c.in_ok-gone.ensures.looks)
    (looked g.D.Shelf.told g.D.Shelf.faults g.W.Actor.between g.W.Actor.meanwhile c.args.by own' own'' then_ now c.in_ok-rows.rows c.in_ok-rows.ensures.looks))
    c.from_residual-in_err-once.ensures.1
