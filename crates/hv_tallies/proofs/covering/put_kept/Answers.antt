use Rattle.std.proofs.Common.{map, ap, arith}
use Rattle.std.specs.List.{flat_map}
use Rattle.hv_jobs.specs.hv_history.specs.State.{state_of}
use Rattle.hv_jobs.specs.hv_history.specs.Jobs.{events_in}
use Rattle.hv_earlier.specs.hv_meta.specs.hv_book.specs.Briefs.{brief_job}
use Rattle.hv_earlier.specs.hv_meta.specs.hv_book.specs.Past.{total, past_in}
use Rattle.hv_earlier.specs.hv_meta.specs.hv_book.proofs.IdLaws.{total-append}
use Rattle.hv_tallies.specs.Covered.{own_kept, names_at, made_kept, names_weight}
use Rattle.hv_tallies.proofs.CoveredLemmas.{put-total, all-own}
use Rattle.hv_tallies.proofs.covering.put_kept.Goals as goal

pub returns : goal.returns
returns c = λ weight.
    let entries = c.args.book.now.entries in
    let state = state_of entries in
    let table = c.args.table in
    let partition = c.args.partition.now in
    let note = c.args.note.now in
    let past = past_in c.past-past.result.now in
    let pending = put-total weight c.args.names.now.items _ (flat_map (names_at state table partition note) c.of_table-pending.result.now) c.in_ok-put_ids.ensures in
    let those = ap (λ ids. total weight (flat_map (names_at state table partition note) ids)) c.of_table-pending.ensures.ids in
    let aborted = c.in_ok-put_ended.ensures weight in
    let committed = c.in_ok-put_ended-2.ensures weight in
    let made = put-total weight c.put_ended-2.new.names.items _ (flat_map (made_kept entries table partition note) c.jobs-notes.result.now) c.in_ok-put_all_made.ensures in
    let jobs = ap (λ notes. total weight (flat_map (made_kept entries table partition note) notes)) c.jobs-notes.ensures.jobs in
    let all = all-own state table partition note weight past (c.past-past.ensures.past.ids table (names_weight state table partition note weight)) in
    let split = total-append weight (flat_map (own_kept note) (events_in state table partition)) (flat_map (made_kept entries table partition note) (map brief_job state.jobs)) in
    omega (arith, pending, those, aborted, committed, made, jobs, all, split)
