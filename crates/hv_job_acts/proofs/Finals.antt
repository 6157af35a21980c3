-- A directory of whose name the tests say that the job is to make it, it is to make.
use Rattle.std.proofs.Common.{◌≡◌, ◌==◌, inl, inr, ℕ, Bool, true, false, true≢false, Some, List, ◌++◌, refl, sym, ap, ◌∙◌, subst, eqb-true}
use Rattle.std.specs.Prelude.{◌&&◌}
use Rattle.hv_dirs.specs.declared.names.DirName.{DirName}
use Rattle.hv_dirs.specs.declared.names.DirName.TheVariants as dir
use Rattle.hv_history.specs.declared.entry.Entry.{Entry}
use Rattle.hv_history.specs.declared.entry.JobKind.{JobKind}
use Rattle.hv_history.specs.declared.entry.JobKind.TheVariants as kind
use Rattle.hv_history.specs.State.{State, Job, numbered, state_of}
use Rattle.hv_history.specs.Jobs.{Events, events_in, pieces_for, is_empty_of}
use Rattle.hv_jobs.specs.Covered.{wide, has_within}
use Rattle.hv_jobs.specs.Finals.{final_if, final_names, unless_bare, finals_of}
use Rattle.hv_law_visible.specs.Members.{IsIn}
use Rattle.hv_finals.specs.declared.merging.Merge.{Merge}
use Rattle.hv_finals.specs.Finals.{merge_in}
use Rattle.hv_meta.proofs.FactLemmas.{and-left, and-right}
use Rattle.hv_job_calls.proofs.AskedPlaces.{asked-there}
use Rattle.hv_job_acts.specs.Staging.{is_final_by, is_final_for, is_final_in}
use Rattle.hv_job_acts.proofs.Publications.{not-empty, its-merge}

-- ---- a name among those that are to be made

first-in : (b : Bool) (x : DirName) (rest : List DirName) → b ≡ true → IsIn x (final_if b x ++ rest)
first-in true x rest e = inl refl
first-in false x rest e = absurd (true≢false (sym e))

rest-in : (b : Bool) (x y : DirName) (rest : List DirName) → IsIn x rest → IsIn x (final_if b y ++ rest)
rest-in true x y rest is = inr is
rest-in false x y rest is = is

last-in : (b : Bool) (x : DirName) → b ≡ true → IsIn x (final_if b x)
last-in true x e = inl refl
last-in false x e = absurd (true≢false (sym e))

wide-in : (ids : List Events) (deletes : Bool) (low high : ℕ) → has_within deletes low high ids ≡ true
    → IsIn (wide deletes low high) (final_names ids kind.Minor low high)
wide-in ids false low high is =
    first-in (has_within false low high ids) (wide false low high) (final_if (has_within true low high ids) (wide true low high)) is
wide-in ids true low high is =
    rest-in (has_within false low high ids) (wide true low high) (wide false low high) (final_if (has_within true low high ids) (wide true low high))
    (last-in (has_within true low high ids) (wide true low high) is)

final-by : (ids : List Events) (which : JobKind) (merge : Merge) (name : DirName) → is_final_by ids which merge name ≡ true
    → IsIn name (final_names ids which merge.low merge.high)
final-by ids kind.Minor merge (dir.Wide deletes low high) so =
    let both = and-left ((low.0 == merge.low) && (high.0 == merge.high)) (has_within deletes merge.low merge.high ids) so in
    let some = and-right ((low.0 == merge.low) && (high.0 == merge.high)) (has_within deletes merge.low merge.high ids) so in
    let lows : low.0 ≡ merge.low = eqb-true low.0 merge.low (and-left (low.0 == merge.low) (high.0 == merge.high) both) in
    let highs : high.0 ≡ merge.high = eqb-true high.0 merge.high (and-right (low.0 == merge.low) (high.0 == merge.high) both) in
    let same : wide deletes merge.low merge.high ≡ dir.Wide deletes low high =
    λ i. dir.Wide deletes (record { 0 = sym lows i }) (record { 0 = sym highs i }) in
    subst (λ (name : DirName). IsIn name (final_names ids kind.Minor merge.low merge.high)) same (wide-in ids deletes merge.low merge.high some)
final-by ids kind.Minor merge (dir.Base high) so = absurd (true≢false (sym so))
final-by ids kind.Minor merge (dir.Own deletes write statement) so = absurd (true≢false (sym so))
final-by ids kind.Minor merge (dir.Staged job name) so = absurd (true≢false (sym so))
final-by ids kind.Major merge (dir.Base high) so =
    let highs : high.0 ≡ merge.high = eqb-true high.0 merge.high so in
    inl (λ i. dir.Base (record { 0 = sym highs i }))
final-by ids kind.Major merge (dir.Wide deletes low high) so = absurd (true≢false (sym so))
final-by ids kind.Major merge (dir.Own deletes write statement) so = absurd (true≢false (sym so))
final-by ids kind.Major merge (dir.Staged job name) so = absurd (true≢false (sym so))

-- ---- of a job that is there

module _ (entries : List Entry) (n : ℕ) (j : Job) (at : numbered (state_of entries).jobs n ≡ Some j) where
  abbrev Its : State
  Its = state_of entries

  abbrev made : Merge
  made = record { table = j.table; asked = j.asked; kind = j.kind; low = (pieces_for Its j).low; high = (pieces_for Its j).high }

  pub final-in : (merge : Merge) (name : DirName) → Some merge ≡ merge_in Its j → is_final_in entries merge name ≡ true → IsIn name (finals_of Its j)
  final-in merge name is so =
      let bare = not-empty (is_empty_of j.kind (pieces_for Its j)) made merge (sym is) in
      let same : made ≡ merge = its-merge (is_empty_of j.kind (pieces_for Its j)) made merge (sym is) in
      let here : is_final_in entries made name ≡ true = subst (λ (m : Merge). is_final_in entries m name ≡ true) (sym same) so in
      let there : is_final_for Its made name (Some j.partition) ≡ true =
      ap (is_final_for Its made name) (sym (asked-there entries n j at)) ∙ here in
      let among = final-by (events_in Its j.table j.partition) j.kind made name there in
      subst (λ (b : Bool). IsIn name (unless_bare b (final_names (events_in Its j.table j.partition) j.kind made.low made.high))) (sym bare) among
