-- What is read of a bucket, put together.
use Rattle.std.proofs.Common.{◌≡◌, ℕ, Bool, false, None, List, map, Result, Ok, Err, sym, ap, ◌∙◌, subst}
use Rattle.std.specs.Prelude.{IfOk}
use Rattle.std.specs.Global.{Vec}
use Rattle.hv_wids.specs.WriteIds.{WriteIds}
use Rattle.hv_rowfile.specs.declared.record.Rec.{Rec}
use Rattle.hv_rowfile.specs.Layout.{RisesFrom, CanWrite}
use Rattle.hv_merge.specs.Gathering.{gathered}
use Rattle.hv_merge.specs.Merging.{merged}
use Rattle.hv_choosing.specs.declared.listing.DirFile.{DirFile}
use Rattle.hv_history.specs.declared.entry.JobKind.{JobKind}
use Rattle.hv_history.specs.declared.entry.JobKind.TheVariants as kind
use Rattle.hv_job_acts.specs.hv_acts.specs.hv_telling.specs.hv_house.specs.declared.listing.Listing.{Listing}
use Rattle.hv_compact.specs.declared.fault.Stop.{Stop}
use Rattle.hv_compact.specs.declared.task.Task.{Task}
use Rattle.hv_compact.specs.Gathering.{inserted, taken_in, major_recs}
use Rattle.hv_compact.specs.Reading.{AreFilesOf}
use Rattle.hv_compact.proofs.Buckets.{gathered-written, merged-written}

pub written-if : (deletes : Bool) (bucket low high : ℕ) (files : List (List Rec)) (result : Result (Vec Rec) Stop) → AreFilesOf deletes bucket files
    → IfOk result (λ recs. recs.items ≡ gathered low high files) → IfOk result (λ recs. RisesFrom None recs.items)
    → IfOk result (λ recs. CanWrite deletes bucket recs.items)
written-if deletes bucket low high files (Ok recs) are is rising =
    subst (CanWrite deletes bucket) (sym is) (gathered-written deletes bucket low high files are (subst (RisesFrom None) is rising))
written-if deletes bucket low high files (Err why) are is rising = tt

pub gathered-if : (low high : ℕ) (files others : List (List Rec)) (result : Result (Vec Rec) Stop) → files ≡ others
    → IfOk result (λ recs. recs.items ≡ gathered low high files) → IfOk result (λ recs. recs.items ≡ gathered low high others)
gathered-if low high files others (Ok recs) same is = is ∙ ap (gathered low high) same
gathered-if low high files others (Err why) same is = tt

pub left-if : (bucket : ℕ) (list : WriteIds) (files deletes : List (List Rec)) (result : Result (Vec Rec) Stop) → AreFilesOf false bucket files
    → IfOk result (λ recs. recs.items ≡ map inserted (merged list files deletes)) → IfOk result (λ recs. CanWrite false bucket recs.items)
left-if bucket list files deletes (Ok recs) are is = subst (CanWrite false bucket) (sym is) (merged-written bucket list files deletes are)
left-if bucket list files deletes (Err why) are is = tt

pub merged-if : (list : WriteIds) (files others deletes gone : List (List Rec)) (result : Result (Vec Rec) Stop) → files ≡ others → deletes ≡ gone
    → IfOk result (λ recs. recs.items ≡ map inserted (merged list files deletes))
    → IfOk result (λ recs. recs.items ≡ map inserted (merged list others gone))
merged-if list files others deletes gone (Ok recs) same also is = is ∙ (λ i. map inserted (merged list (same i) (also i)))
merged-if list files others deletes gone (Err why) same also is = tt

pub same-if : (recs others : List Rec) (result : Result (Vec Rec) Stop) → recs ≡ others → IfOk result (λ found. found.items ≡ recs)
    → IfOk result (λ found. found.items ≡ others)
same-if recs others (Ok found) same is = is ∙ same
same-if recs others (Err why) same is = tt

-- of a major job
pub left-so : (recs_of : DirFile → List Rec) (task : Task) (bucket : ℕ) (listing : Listing) (deletes : List (List Rec)) (result : Result (Vec Rec) Stop)
    → task.kind ≡ kind.Major → deletes ≡ map recs_of (taken_in task.kind bucket listing.deletes.items)
    → IfOk result (λ recs. recs.items ≡ map inserted (merged listing.list (map recs_of (taken_in task.kind bucket listing.inserts.items)) deletes))
    → IfOk result (λ recs. recs.items ≡ major_recs recs_of bucket listing)
left-so recs_of task bucket listing deletes (Ok recs) is same left =
    left
    ∙ ap (λ (gone : List (List Rec)). map inserted (merged listing.list (map recs_of (taken_in task.kind bucket listing.inserts.items)) gone)) same
    ∙ ap (λ (k : JobKind). map inserted (merged listing.list (map recs_of (taken_in k bucket listing.inserts.items))
    (map recs_of (taken_in k bucket listing.deletes.items)))) is
left-so recs_of task bucket listing deletes (Err why) is same left = tt
