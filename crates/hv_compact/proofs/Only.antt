-- A job makes the directories of its range and no others.
use Rattle.std.proofs.Common.{◌≡◌, inl, inr, ℕ, Bool, true, false, List, sym, ◌∙◌, subst}
use Rattle.hv_dirs.specs.declared.names.DirName.{DirName}
use Rattle.hv_dirs.specs.declared.names.DirName.TheVariants as name
use Rattle.hv_history.specs.declared.entry.JobKind.{JobKind}
use Rattle.hv_history.specs.declared.entry.JobKind.TheVariants as kind
use Rattle.hv_history.specs.State.{State, Job, numbered}
use Rattle.hv_history.specs.Jobs.{pieces_for}
use Rattle.hv_stands.proofs.Numbers.{same_one}
use Rattle.hv_jobs.specs.Covers.{range_names}
use Rattle.hv_law_made.specs.Made.{is_made}
use Rattle.hv_law_made.specs.Entries.{IsAtWork}
use Rattle.hv_law_visible.specs.Members.{IsIn}
use Rattle.hv_law_visible.proofs.MemberLemmas.{from-filter}
use Rattle.hv_law_work.specs.Marks.{WasPicked}
use Rattle.hv_trail.specs.declared.trail.TrailItem.{TrailItem}
use Rattle.hv_trail.specs.Trail.{state_at}
use Rattle.hv_compact.specs.declared.task.Task.{Task}
use Rattle.hv_compact.specs.Ending.{IsPicked}
use Rattle.hv_compact.specs.Gathering.{Whenever, MakesOnly, IsWide, IsBase, wide_of, base_of}
use Rattle.hv_compact.proofs.Adds.{front-more}
use Rattle.hv_compact.proofs.Wants.{only-whenever}

module _ (trail : List TrailItem) (task : Task) (p : IsPicked trail task) where
  abbrev s : State
  s = state_at p.then_

  abbrev low : ℕ
  low = (pieces_for s p.job).low

  abbrev high : ℕ
  high = (pieces_for s p.job).high

  pub was-taken : WasPicked s task.job.0
  was-taken = record { job = p.job; is = p.is; picked = p.taken }

  only-these : (Is : DirName → Type 0) → ((made : DirName) → IsIn made (range_names p.job.kind low high) → Is made) → Whenever trail task.job (MakesOnly Is)
  only-these Is each =
      λ now front book j work. only-whenever p.then_ task.job Is was-taken has now (front-more p.then_ trail now p.front front) book j work
    where
      has : (j : Job) (work : IsAtWork s task.job.0 j) → MakesOnly Is s j work.table
      has j work made among =
          let one : j ≡ p.job = same_one (numbered s.jobs task.job.0) j p.job work.is p.is in
          let kept = from-filter (is_made work.table.writes j.partition) made (range_names j.kind (pieces_for s j).low (pieces_for s j).high) among in
          each made (subst (λ (k : Job). IsIn made (range_names k.kind (pieces_for s k).low (pieces_for s k).high)) one kept.0)

  wide-is : (deletes : Bool) → name.Wide deletes (record { 0 = low }) (record { 0 = high }) ≡ wide_of task deletes
  wide-is deletes = λ i. name.Wide deletes (record { 0 = sym p.low i }) (record { 0 = sym p.high i })

  base-is : name.Base (record { 0 = high }) ≡ base_of task
  base-is = λ i. name.Base (record { 0 = sym p.high i })

  pub minor-only : task.kind ≡ kind.Minor → Whenever trail task.job (MakesOnly (IsWide task))
  minor-only minor =
      only-these (IsWide task)
      (λ made among. by made (subst (λ (k : JobKind). IsIn made (range_names k low high)) (sym p.kind ∙ minor) among))
    where
      by : (made : DirName) → IsIn made (range_names kind.Minor low high) → IsWide task made
      by made (inl e) = (false, sym e ∙ wide-is false)
      by made (inr (inl e)) = (true, sym e ∙ wide-is true)
      by made (inr (inr never)) = absurd never

  pub major-only : task.kind ≡ kind.Major → Whenever trail task.job (MakesOnly (IsBase task))
  major-only major =
      only-these (IsBase task)
      (λ made among. by made (subst (λ (k : JobKind). IsIn made (range_names k low high)) (sym p.kind ∙ major) among))
    where
      by : (made : DirName) → IsIn made (range_names kind.Major low high) → IsBase task made
      by made (inl e) = sym e ∙ base-is
      by made (inr never) = absurd never
