-- What each entry changes, whatever stands: what was made stays, and what is new is at places that the entry asks of.
use Rattle.std.proofs.Common.{refl, inl, inr}
use Rattle.hv_shelf.specs.declared.place.Place.{Place}
use Rattle.hv_stands.specs.hv_history.specs.declared.entry.Entry.{Entry}
use Rattle.hv_stands.specs.hv_history.specs.declared.entry.Entry.TheVariants as entry
use Rattle.hv_stands.specs.hv_history.specs.State.{State, numbered, after}
use Rattle.hv_stands.specs.hv_history.specs.Legal.{CreateFits, DropFits}
use Rattle.hv_stands.specs.hv_history.specs.JobsFit.{PickedFits, PublishedFits, EmptyFits, FailedFits, CleanedFits, ForgotFits}
use Rattle.hv_stands.specs.Files.{IsOwn}
use Rattle.hv_stands.proofs.Numbers.{found}
use Rattle.hv_stands.proofs.Keeping.{still-open}
use Rattle.hv_law_made.specs.Laws.{IsFinalOf, IsOwnOf, IsCoveredBy, AsksAt, ChangesAt, IsQuiet}
use Rattle.hv_law_made.specs.Entries.{EntriesChange}
use Rattle.hv_law_made.proofs.QuietLemmas as quietly
use Rattle.hv_law_made.proofs.StepStands.{nowhere, IsUnasked, job-steps, asked-steps, clean-changes}
use Rattle.hv_law_made.proofs.PublishStands.{published-changes}
use Rattle.hv_law_made.proofs.TableStands.{given-changes, forgotten-changes}
use Rattle.hv_law_made.proofs.EndStands.{dropped-changes, created-changes}
use Rattle.hv_law_made.proofs.CommitStands.{committed-changes}
use Rattle.hv_law_made.proofs.OpenStands.{opened-quiet, quiet-entry}
use Rattle.hv_law_made.proofs.NewNames.{to-publish}
use Rattle.hv_law_made.proofs.EntryStands.{unended-as, is-committing, is-to-forget, all-marked, named, names}

-- the same, where more is asked of
more-asked : (state now : State) (Asked More : Place → Type 0) → ((place : Place) → Asked place → More place) → ChangesAt state now Asked → ChangesAt state now More
more-asked state now Asked More widen changes = record {
  stays = changes.stays;
  anew = λ place file e. elim (changes.anew place file e) [ inl was ↦ inl was | inr it ↦ inr (widen place it) ];
  held = λ place may. elim (changes.held place may) [ inl still ↦ inl still | inr it ↦ inr (widen place it) ];
  spared = changes.spared;
  emptied = λ place live e. elim (changes.emptied place live e) [ inl was ↦ inl was | inr it ↦ inr (widen place it) ];
  live = changes.live;
  tables = changes.tables;
}

by-quiet : (state : State) (event : Entry) → IsQuiet state (after state event) → ChangesAt state (after state event) (AsksAt event state)
by-quiet state event quiet =
    more-asked state (after state event) (quietly.nowhere state (after state event) quiet) (AsksAt event state) (λ place none. absurd none)
    (quietly.quiet-changes state (after state event) quiet)

by-none : (state : State) (event : Entry) → ChangesAt state (after state event) nowhere → ChangesAt state (after state event) (AsksAt event state)
by-none state event changes = more-asked state (after state event) nowhere (AsksAt event state) (λ place none. absurd none) changes

by-step : (state : State) (event : Entry) → IsUnasked state event → ChangesAt state (after state event) (AsksAt event state)
by-step state event step = by-none state event step.changes

pub entries-change : EntriesChange
entries-change limits state (entry.Boot run) fits few sound = by-quiet state (entry.Boot run) (quiet-entry state (entry.Boot run) refl)
entries-change limits state (entry.Opened txn session number text) fits few sound =
    by-quiet state (entry.Opened txn session number text) (opened-quiet state txn session number text (all-marked state sound))
entries-change limits state (entry.Start txn statement) fits few sound = by-quiet state (entry.Start txn statement) (quiet-entry state (entry.Start txn statement) refl)
entries-change limits state (entry.Given txn table write) fits few sound =
    by-none state (entry.Given txn table write) (given-changes state txn table write (named limits state (entry.Given txn table write) fits few sound))
entries-change limits state (entry.Commit txn wrote) fits few sound =
    more-asked state (after state (entry.Commit txn wrote)) (λ place. IsOwn state.tables txn.0 place) (AsksAt (entry.Commit txn wrote) state) (λ place own. own)
    (committed-changes state txn wrote (is-committing state txn wrote sound fits) (names limits state (entry.Commit txn wrote) fits few sound))
entries-change limits state (entry.Abort txn cause) fits few sound = by-quiet state (entry.Abort txn cause) (quiet-entry state (entry.Abort txn cause) refl)
entries-change limits state (entry.Create txn table) fits few sound =
    let here = found (CreateFits state table.0) (numbered state.transactions txn.0) fits in
    more-asked state (after state (entry.Create txn table)) (λ place. IsOwn state.tables txn.0 place) (AsksAt (entry.Create txn table) state) (λ place own. own)
    (created-changes state txn table (unended-as state txn here.0 here.1 (still-open here.0 here.2.running.unended))
    (named limits state (entry.Create txn table) fits few sound))
entries-change limits state (entry.Drop txn table) fits few sound =
    let here = found (DropFits state table.0) (numbered state.transactions txn.0) fits in
    more-asked state (after state (entry.Drop txn table)) (λ place. IsOwn state.tables txn.0 place) (AsksAt (entry.Drop txn table) state) (λ place own. own)
    (dropped-changes state txn table (unended-as state txn here.0 here.1 (still-open here.0 here.2.running.unended))
    (named limits state (entry.Drop txn table) fits few sound))
entries-change limits state (entry.Asked job table partition kind by) fits few sound =
    by-step state (entry.Asked job table partition kind by)
    (asked-steps state job table partition kind by (names limits state (entry.Asked job table partition kind by) fits few sound))
entries-change limits state (entry.Picked job mark) fits few sound =
    let here = found (PickedFits limits state job.0 mark.0) (numbered state.jobs job.0) fits in
    by-step state (entry.Picked job mark)
    (job-steps state (entry.Picked job mark) job.0 here.0 refl here.1 (names limits state (entry.Picked job mark) fits few sound))
entries-change limits state (entry.Published job low high mark) fits few sound =
    let here = found (PublishedFits state low.0 high.0 mark.0) (numbered state.jobs job.0) fits in
    more-asked state (after state (entry.Published job low high mark)) (λ place. IsFinalOf state job.0 low.0 high.0 place)
    (AsksAt (entry.Published job low high mark) state) (λ place at. at)
    (published-changes state job low high mark here.0 (to-publish state job.0 low.0 high.0 mark.0 here.0 sound.jobs here.1 here.2)
    (names limits state (entry.Published job low high mark) fits few sound))
entries-change limits state (entry.Empty job) fits few sound =
    let here = found (EmptyFits state) (numbered state.jobs job.0) fits in
    by-step state (entry.Empty job) (job-steps state (entry.Empty job) job.0 here.0 refl here.1 (names limits state (entry.Empty job) fits few sound))
entries-change limits state (entry.Cleaned job) fits few sound =
    let here = found (CleanedFits limits state) (numbered state.jobs job.0) fits in
    more-asked state (after state (entry.Cleaned job)) (λ place. IsCoveredBy state job.0 place) (AsksAt (entry.Cleaned job) state) (λ place at. at)
    (clean-changes state job here.0 here.1 here.2.past (names limits state (entry.Cleaned job) fits few sound))
entries-change limits state (entry.Failed job cause) fits few sound =
    let here = found (FailedFits state cause) (numbered state.jobs job.0) fits in
    by-step state (entry.Failed job cause) (job-steps state (entry.Failed job cause) job.0 here.0 refl here.1 (names limits state (entry.Failed job cause) fits few sound))
entries-change limits state (entry.Forgot table write) fits few sound =
    let here = found (ForgotFits limits state write.0) (numbered state.tables table.0) fits in
    more-asked state (after state (entry.Forgot table write)) (λ place. IsOwnOf table.0 write.0 place) (AsksAt (entry.Forgot table write) state) (λ place at. at)
    (forgotten-changes state table write here.0 (is-to-forget limits state table.0 write.0 here.0 here.1 here.2)
    (named limits state (entry.Forgot table write) fits few sound))
entries-change limits state (entry.Next txn statement number text) fits few sound = absurd fits
entries-change limits state (entry.Did txn statement wrote) fits few sound = absurd fits
entries-change limits state (entry.Alter txn table) fits few sound = absurd fits
