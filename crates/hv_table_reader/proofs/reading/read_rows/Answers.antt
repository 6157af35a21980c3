use Rattle.std.proofs.Common.{[], Ok, Some, List, sym, subst, take}
use Rattle.hv_law_dues.specs.hv_counts.specs.declared.due.Due.{Due}
use Rattle.hv_law_dues.specs.hv_counts.specs.Counts.{dues_in, dues_wanted}
use Rattle.hv_law_dues.specs.hv_counts.proofs.Wanting.{wanted-totals}
use Rattle.hv_history.specs.State.{state_of}
use Rattle.hv_acts.specs.Counting.{AreAsMany}
use Rattle.hv_acts.specs.Told.{seen_in, trail_in, book_in}
use Rattle.hv_acts.proofs.Readings.{place-lasts}
use Rattle.hv_table_reader.specs.Counting.{IsAmissOf}
use Rattle.hv_table_reader.proofs.TableLooks.{looked, looks-then, looks-up, looks-lacks}
use Rattle.hv_table_reader.proofs.Moments.{behind-adds, behind-more, listed-on, book-front, front-more, dues-at}
use Rattle.hv_table_reader.proofs.TableRows.{all-rows-then, never-amiss, wanted-steady, undamaged}
use Rattle.hv_table_reader.proofs.reading.read_rows.Goals as goal

pub count_dues-requires-clause-place : goal.count_dues-requires-clause-place
count_dues-requires-clause-place g c =
    let before = g.W.Actor.house c.args.actor.now in
    let now = g.W.Actor.house c.list_table.new.actor in
    place-lasts (trail_in before) (trail_in now)
    (behind-adds g.D.Shelf.faults g.W.Actor.between (g.W.Actor.own c.args.actor.now) (g.W.Actor.own c.list_table.new.actor) before now []
    c.in_ok-listing.ensures.looks.adds).front c.args.place c.requires.reads.reader.has

pub read_listed-requires-clause-running : goal.read_listed-requires-clause-running
read_listed-requires-clause-running g c = (c.in_ok-dues.ensures.looks c.args.by).running

pub returns-clause-looks : goal.returns-clause-looks
returns-clause-looks g c =
    let own = g.W.Actor.own c.args.actor.now in
    let own' = g.W.Actor.own c.list_table.new.actor in
    let own'' = g.W.Actor.own c.count_dues.new.actor in
    let before = g.W.Actor.house c.args.actor.now in
    let listed = g.W.Actor.house c.list_table.new.actor in
    let counted = g.W.Actor.house c.count_dues.new.actor in
    looks-then g.D.Shelf.told g.D.Shelf.faults g.W.Actor.between g.W.Actor.meanwhile c.args.by g.met.W.Actor.rows own own'' (g.W.Actor.own c.read_listed.new.actor) before counted
    (g.W.Actor.house c.read_listed.new.actor) c.read_listed.result
    (looks-then g.D.Shelf.told g.D.Shelf.faults g.W.Actor.between g.W.Actor.meanwhile c.args.by g.met.W.Actor.rows own own' own'' before listed counted (Ok tt)
    (looked g.D.Shelf.told g.D.Shelf.faults g.W.Actor.between g.W.Actor.meanwhile c.args.by own own' before listed c.in_ok-listing.listing c.in_ok-listing.ensures.looks)
    (looked g.D.Shelf.told g.D.Shelf.faults g.W.Actor.between g.W.Actor.meanwhile c.args.by own' own'' listed counted c.in_ok-dues.dues (c.in_ok-dues.ensures.looks c.args.by)))
    c.read_listed.ensures.looks

pub returns-clause-rows : goal.returns-clause-rows
returns-clause-rows g c = λ told.
    let before = g.W.Actor.house c.args.actor.now in
    let listed = g.W.Actor.house c.list_table.new.actor in
    let counted = g.W.Actor.house c.count_dues.new.actor in
    let now = g.W.Actor.house c.read_listed.new.actor in
    let is = c.in_ok-listing.ensures.listed told in
    let next =
    behind-adds g.D.Shelf.faults g.W.Actor.between (g.W.Actor.own c.list_table.new.actor) (g.W.Actor.own c.count_dues.new.actor) listed counted []
    (c.in_ok-dues.ensures.looks c.args.by).adds in
    let last =
    behind-adds g.D.Shelf.faults g.W.Actor.between (g.W.Actor.own c.count_dues.new.actor) (g.W.Actor.own c.read_listed.new.actor) counted now [] c.read_listed.ensures.looks.adds in
    let wants = g.P.Wants.picks c.args.wants.now in
    let narrow = c.in_ok-wanted.ensures in
    all-rows-then g.D.Shelf.told listed c.args.by c.args.place c.args.info.now c.in_ok-listing.listing is wants (book_in now)
    (book-front (trail_in listed) (trail_in now) (behind-more (seen_in listed) (seen_in counted) (seen_in now) next last).front) c.in_ok-wanted.wanted.listing.list narrow.list
    c.read_listed.result
    (c.read_listed.ensures.rows (Some is.store) wants
    (wanted-steady wants c.args.info.now c.in_ok-listing.listing c.in_ok-wanted.wanted narrow.list narrow.inserts narrow.deletes narrow.counts_rows narrow.counts_deletes
    g.D.Shelf.told (Some is.store) c.args.by (seen_in counted)
    (listed-on g.D.Shelf.told (Some is.store) c.args.by (seen_in listed) (seen_in counted) c.args.info.now c.in_ok-listing.listing next is.files)))

pub returns-clause-undamaged : goal.returns-clause-undamaged
returns-clause-undamaged g c = λ told.
    let listed = g.W.Actor.house c.list_table.new.actor in
    let counted = g.W.Actor.house c.count_dues.new.actor in
    let listing = c.in_ok-listing.listing in
    let info = c.args.info.now in
    let place = c.args.place in
    let is = c.in_ok-listing.ensures.listed told in
    let others : List Due = dues_in (state_of (take place is.book)) info.table.0 in
    let next =
    behind-adds g.D.Shelf.faults g.W.Actor.between (g.W.Actor.own c.list_table.new.actor) (g.W.Actor.own c.count_dues.new.actor) listed counted []
    (c.in_ok-dues.ensures.looks c.args.by).adds in
    let wants = g.P.Wants.picks c.args.wants.now in
    let narrow = c.in_ok-wanted.ensures in
    let wanted = c.in_ok-wanted.wanted in
    undamaged (IsAmissOf wants info wanted.listing.list is.store.tree others) c.read_listed.result
    (c.read_listed.ensures.damage (Some is.store) wants others
    (wanted-steady wants info listing wanted narrow.list narrow.inserts narrow.deletes narrow.counts_rows narrow.counts_deletes g.D.Shelf.told (Some is.store) c.args.by
    (seen_in counted) (listed-on g.D.Shelf.told (Some is.store) c.args.by (seen_in listed) (seen_in counted) info listing next is.files))
    (subst (λ (dues : List Due). AreAsMany dues (dues_wanted wants others)) (sym narrow.dues)
    (wanted-totals wants c.in_ok-dues.dues.items others
    (dues-at (trail_in counted) is.book place info.table c.in_ok-dues.dues.items
    (front-more is.book (book_in listed) (book_in counted) is.front (book-front (trail_in listed) (trail_in counted) next.front)) is.has c.in_ok-dues.ensures.dues))))
    (never-amiss g.D.Shelf.told listed c.args.by place info listing is wants wanted.listing.list narrow.list)

pub returns-in_err-wanted-clause-looks : goal.returns-in_err-wanted-clause-looks
returns-in_err-wanted-clause-looks g c =
    let own = g.W.Actor.own c.args.actor.now in
    let own' = g.W.Actor.own c.list_table.new.actor in
    let own'' = g.W.Actor.own c.count_dues.new.actor in
    let before = g.W.Actor.house c.args.actor.now in
    let listed = g.W.Actor.house c.list_table.new.actor in
    let counted = g.W.Actor.house c.count_dues.new.actor in
    looks-lacks g.D.Shelf.told g.D.Shelf.faults g.W.Actor.between g.W.Actor.meanwhile c.args.by own own'' before counted c.from_residual-in_err-wanted.result
    (looks-then g.D.Shelf.told g.D.Shelf.faults g.W.Actor.between g.W.Actor.meanwhile c.args.by g.met.W.Actor.rows own own' own'' before listed counted (Ok tt)
    (looked g.D.Shelf.told g.D.Shelf.faults g.W.Actor.between g.W.Actor.meanwhile c.args.by own own' before listed c.in_ok-listing.listing c.in_ok-listing.ensures.looks)
    (looked g.D.Shelf.told g.D.Shelf.faults g.W.Actor.between g.W.Actor.meanwhile c.args.by own' own'' listed counted c.in_ok-dues.dues (c.in_ok-dues.ensures.looks c.args.by)))
    c.from_residual-in_err-wanted.ensures.1

pub returns-in_err-dues-clause-looks : goal.returns-in_err-dues-clause-looks
returns-in_err-dues-clause-looks g c =
    let own = g.W.Actor.own c.args.actor.now in
    let own' = g.W.Actor.own c.list_table.new.actor in
    let own'' = g.W.Actor.own c.count_dues.new.actor in
    let before = g.W.Actor.house c.args.actor.now in
    let listed = g.W.Actor.house c.list_table.new.actor in
    let counted = g.W.Actor.house c.count_dues.new.actor in
    looks-then g.D.Shelf.told g.D.Shelf.faults g.W.Actor.between g.W.Actor.meanwhile c.args.by g.met.W.Actor.rows own own' own'' before listed counted c.from_residual-in_err-dues.result
    (looked g.D.Shelf.told g.D.Shelf.faults g.W.Actor.between g.W.Actor.meanwhile c.args.by own own' before listed c.in_ok-listing.listing c.in_ok-listing.ensures.looks)
    (looks-up g.D.Shelf.told g.D.Shelf.faults g.W.Actor.between g.W.Actor.meanwhile c.args.by own' own'' listed counted c.in_err-dues.field-0.0 c.from_residual-in_err-dues.result
    c.from_residual-in_err-dues.ensures.1 (c.in_err-dues.ensures.looks c.args.by))
