-- An own place of an open transaction is in no directory that nobody writes any more.
use Rattle.std.proofs.Common.{◌≡◌, inl, inr, ℕ, ◌<◌, Bool, true, false, true≢false, Option, Some, None, map, refl, sym, ap, ◌∙◌, subst, arith, leb-true}
use Rattle.std.specs.Prelude.{◌&&◌, nat_le}
use Rattle.std.proofs.lemmas.Bool.{false_from_ne_true}
use Rattle.hv_shelf.specs.declared.place.DirAt.{DirAt}
use Rattle.hv_shelf.specs.declared.place.Place.{Place}
use Rattle.hv_shelf.specs.Places.{is_in}
use Rattle.hv_dirs.specs.declared.names.DirName.{DirName}
use Rattle.hv_dirs.specs.declared.names.DirName.TheVariants as dir_name
use Rattle.hv_dirs.specs.Names.{write_end}
use Rattle.hv_history.specs.declared.entry.JobKind.{JobKind}
use Rattle.hv_history.specs.declared.entry.JobKind.TheVariants as kind
use Rattle.hv_history.specs.declared.state.Table.{Table}
use Rattle.hv_history.specs.State.{State, numbered}
use Rattle.hv_stands.specs.Files.{ending_of, own_dir}
use Rattle.hv_stands.proofs.Numbers.{same_one}
use Rattle.hv_stands.proofs.Soundness.{all-numbered}
use Rattle.hv_jobs.specs.Covers.{covers_by}
use Rattle.hv_law_marks.specs.hv_law_filed.specs.hv_law_made.specs.Named.{HasNames, AllHaveNames}
use Rattle.hv_law_marks.specs.hv_law_filed.specs.hv_law_made.specs.Laws.{IsBelow}
use Rattle.hv_law_marks.specs.hv_law_filed.specs.hv_law_made.specs.Entries.{IsAbortedEnd, IsSoundBook}
use Rattle.hv_law_marks.specs.hv_law_filed.specs.hv_law_made.proofs.EntryStands.{above-published}
use Rattle.hv_law_marks.specs.hv_law_filed.specs.hv_law_made.proofs.NameBounds.{all-named}
use Rattle.hv_law_marks.specs.hv_law_filed.specs.hv_law_made.proofs.RenameStands.{job-there}
use Rattle.hv_law_marks.specs.hv_law_filed.specs.hv_law_made.proofs.UnmadeLemmas.{IsOwnName, own-name}
use Rattle.hv_law_marks.specs.Marked.{IsOwnPlace}
use Rattle.hv_law_work.specs.Marks.{IsCovered, IsLost, IsLeft}
use Rattle.hv_law_work.specs.Laws.{IsOpenIn}
use Rattle.hv_law_work.proofs.Places.{within-parts, own-write}

over-false : (a b : Bool) → b ≡ false → a && b ≡ false
over-false true b e = e
over-false false b e = refl

over : (n high : ℕ) → high < n → nat_le n high ≡ false
over n high below = false_from_ne_true (nat_le n high) (λ e. let le = leb-true n high e in omega (arith, below, le))

-- a job covers no own directory of a later write id
range-spares : (k : JobKind) (o : Option (ℕ × ℕ × ℕ)) (name : DirName) (write : ℕ) → IsOwnName write name → IsBelow o write → covers_by k o name ≡ false
range-spares k None name write own below = refl
range-spares k (Some range) (dir_name.Base high) write own below = absurd own
range-spares kind.Minor (Some range) (dir_name.Own deletes id statement) write own below =
    over-false (nat_le range.0 id.0) (nat_le id.0 range.1) (over id.0 range.1 (subst (λ n. range.1 < n) (sym own) below))
range-spares kind.Major (Some range) (dir_name.Own deletes id statement) write own below = over id.0 range.1 (subst (λ n. range.1 < n) (sym own) below)
range-spares k (Some range) (dir_name.Wide deletes low high) write own below = absurd own
range-spares k (Some range) (dir_name.Staged job name) write own below = absurd own

module _ (state : State) (near : state.entries < write_end) (sound : IsSoundBook state) (txn : ℕ) (place : Place) (its : IsOwnPlace state.tables txn place)
    (unended : IsOpenIn state txn) (dir : DirAt) (within : is_in dir place ≡ true) where
  named : AllHaveNames state
  named = all-named state near sound

  small : its.write < write_end
  small = (all-numbered (HasNames state) state.tables place.table.0 its.table its.named named.tables).ids its.write txn its.owner

  parts : (place.table.0 ≡ dir.table.0) × ((place.partition ≡ dir.partition) × (place.dir ≡ dir.dir))
  parts = within-parts dir place within

  own-text-here : own_dir its.own.deletes its.write its.own.statement ≡ dir.dir
  own-text-here = sym its.own.dir ∙ parts.1.1

  -- no published job covers it
  not-covered : IsCovered state dir → ⊥
  not-covered covered =
      let own : IsOwnName its.write covered.name =
      own-name covered.name its.own.deletes its.write its.own.statement covered.named small (sym covered.text ∙ sym own-text-here) in
      let table_is : covered.job.table ≡ place.table.0 =
      sym (job-there covered.job (record { table = dir.table; partition = dir.partition; dir = dir.dir; bucket = 0 }) covered.here).0 ∙ sym parts.0 in
      let below : IsBelow covered.job.published its.write =
      above-published state (record { 0 = txn }) sound unended place.table.0 its.table its.write its.named its.owner covered.number covered.job covered.is table_is in
      true≢false (sym covered.covered ∙ range-spares covered.job.kind covered.job.published covered.name its.write own below)

  -- nor was its write id's transaction aborted
  not-lost : IsLost state dir → ⊥
  not-lost lost =
      let here : numbered state.tables place.table.0 ≡ Some lost.table = ap (numbered state.tables) parts.0 ∙ lost.table_is in
      let one : lost.table ≡ its.table = same_one (numbered state.tables place.table.0) lost.table its.table here its.named in
      let low : lost.write < write_end =
      (all-numbered (HasNames state) state.tables place.table.0 lost.table here named.tables).ids lost.write lost.txn lost.owner in
      let same : lost.write ≡ its.write =
      own-write lost.deletes lost.write lost.statement its.own.deletes its.write its.own.statement low small (sym lost.text ∙ sym own-text-here) in
      let owner : numbered its.table.owners its.write ≡ Some lost.txn =
      subst (λ (w : ℕ). numbered its.table.owners w ≡ Some lost.txn) same (subst (λ (t : Table). numbered t.owners lost.write ≡ Some lost.txn) one lost.owner) in
      let who : lost.txn ≡ txn = same_one (numbered its.table.owners its.write) lost.txn txn owner its.owner in
      subst IsAbortedEnd (ap (numbered (map ending_of state.transactions)) who ∙ unended) lost.aborted

  pub own-not-left : IsLeft state dir → ⊥
  own-not-left (inl covered) = not-covered covered
  own-not-left (inr lost) = not-lost lost
