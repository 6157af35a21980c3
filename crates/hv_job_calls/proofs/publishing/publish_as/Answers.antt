use Rattle.std.proofs.Common.{refl, sym, subst}
use Rattle.hv_history.specs.declared.entry.Entry.{Entry}
use Rattle.hv_history.specs.Book.{tree_of_entry}
use Rattle.hv_history.specs.Legal.{Fits, profile}
use Rattle.hv_history.specs.State.{state_of}
use Rattle.std.specs.Prelude.{◌≡◌, None}
use Rattle.hv_telling.specs.hv_house.specs.House.{entries_of, IsSmall}
use Rattle.hv_telling.specs.hv_house.specs.Steps.{IsMarked}
use Rattle.hv_telling.specs.hv_house.proofs.Lengths.{short_published}
use Rattle.hv_job_calls.proofs.Published.{live-at-work, entry-there, entry-is, its-fits, publication, published-ok, published-err, is-publishing}
use Rattle.hv_job_calls.proofs.publishing.publish_as.Goals as goal

pub publish-requires-clause-textless : goal.publish-requires-clause-textless
publish-requires-clause-textless g c =
    let state = state_of (entries_of c.args.house.now) in
    subst (λ (e : Entry). tree_of_entry e ≡ None) (sym (entry-is (entries_of c.args.house.now) c.args.job (live-at-work state c.args.job.0 c.requires.works c.requires.live c.requires.some) c.publishing-entry.result
    (entry-there c.book-2.result.now.entries (entries_of c.args.house.now) c.args.job c.publishing-entry.result c.book-2.ensures.entries
    c.publishing-entry.ensures.entry))) refl

pub publish-requires-clause-small : goal.publish-requires-clause-small
publish-requires-clause-small g c =
    let state = state_of (entries_of c.args.house.now) in
    subst IsSmall (sym (entry-is (entries_of c.args.house.now) c.args.job (live-at-work state c.args.job.0 c.requires.works c.requires.live c.requires.some) c.publishing-entry.result
    (entry-there c.book-2.result.now.entries (entries_of c.args.house.now) c.args.job c.publishing-entry.result c.book-2.ensures.entries
    c.publishing-entry.ensures.entry))) (short_published _ _ _ _)

pub publish-requires-clause-fits : goal.publish-requires-clause-fits
publish-requires-clause-fits g c =
    let state = state_of (entries_of c.args.house.now) in
    subst (Fits profile state) (sym (entry-is (entries_of c.args.house.now) c.args.job (live-at-work state c.args.job.0 c.requires.works c.requires.live c.requires.some) c.publishing-entry.result
    (entry-there c.book-2.result.now.entries (entries_of c.args.house.now) c.args.job c.publishing-entry.result c.book-2.ensures.entries
    c.publishing-entry.ensures.entry))) (its-fits (entries_of c.args.house.now) c.args.job (live-at-work state c.args.job.0 c.requires.works c.requires.live c.requires.some))

pub publish-requires-clause-marked : goal.publish-requires-clause-marked
publish-requires-clause-marked g c =
    let state = state_of (entries_of c.args.house.now) in
    subst (IsMarked c.args.house.now) (sym (entry-is (entries_of c.args.house.now) c.args.job (live-at-work state c.args.job.0 c.requires.works c.requires.live c.requires.some) c.publishing-entry.result
    (entry-there c.book-2.result.now.entries (entries_of c.args.house.now) c.args.job c.publishing-entry.result c.book-2.ensures.entries
    c.publishing-entry.ensures.entry))) tt

pub publish-requires-clause-truly : goal.publish-requires-clause-truly
publish-requires-clause-truly g c = λ told.
    let state = state_of (entries_of c.args.house.now) in
    publication (entries_of c.args.house.now) c.args.job (live-at-work state c.args.job.0 c.requires.works c.requires.live c.requires.some) g.D.Shelf.told c.args.house.now refl c.requires.whole told c.requires.unbroken
    (c.requires.staged told) c.args.renamings.now c.requires.renamings c.publishing-entry.result (entry-is (entries_of c.args.house.now) c.args.job (live-at-work state c.args.job.0 c.requires.works c.requires.live c.requires.some) c.publishing-entry.result
    (entry-there c.book-2.result.now.entries (entries_of c.args.house.now) c.args.job c.publishing-entry.result c.book-2.ensures.entries
    c.publishing-entry.ensures.entry))

pub returns-in-Ok-clause-step : goal.returns-in-Ok-clause-step
returns-in-Ok-clause-step g c =
    let state = state_of (entries_of c.args.house.now) in
    let at = live-at-work state c.args.job.0 c.requires.works c.requires.live c.requires.some in
    published-ok g.D.Shelf.told g.D.Shelf.faults c.args.renamings.now _ c.publishing-entry.result _ c.requires.renamings
    (entry-there c.book-2.result.now.entries (entries_of c.args.house.now) c.args.job c.publishing-entry.result c.book-2.ensures.entries
    c.publishing-entry.ensures.entry at.job at.is) c.args.house.now c.publish.new.house
    c.next_txn-mark.result c.in-Ok.ensures.whole c.publish.ensures.start c.in-Ok.ensures.published

pub returns-in-Err-clause-step : goal.returns-in-Err-clause-step
returns-in-Err-clause-step g c =
    let state = state_of (entries_of c.args.house.now) in
    let at = live-at-work state c.args.job.0 c.requires.works c.requires.live c.requires.some in
    published-err g.D.Shelf.told g.D.Shelf.faults c.args.renamings.now _ c.publishing-entry.result _ c.requires.renamings
    (entry-there c.book-2.result.now.entries (entries_of c.args.house.now) c.args.job c.publishing-entry.result c.book-2.ensures.entries
    c.publishing-entry.ensures.entry at.job at.is) c.args.house.now c.publish.new.house
    c.in-Err.why c.publish_fault.result c.publish_fault.ensures c.in-Err.ensures.stays c.in-Err.ensures.opens c.publish.ensures.start c.in-Err.ensures.published

pub returns-in-Err-clause-failed : goal.returns-in-Err-clause-failed
returns-in-Err-clause-failed g c = is-publishing c.in-Err.why c.publish_fault.result c.publish_fault.ensures
