-- The book makes nothing where writes and jobs put: own directories of write ids that aren't committed, and staged ones.
use Rattle.std.proofs.Common.{refl, ◌≡◌, inl, inr, ℕ, ◌<◌, Bool, Option, Some, None, List, map, sym, ap, ◌∙◌, subst}
use Rattle.std.specs.List.{flat_map}
use Rattle.std.proofs.lemmas.Bool.{false_from_ne_true}
use Rattle.hv_shelf.specs.declared.place.Place.{Place}
use Rattle.hv_rowfile.specs.declared.record.Rec.{Rec}
use Rattle.hv_dirs.specs.declared.names.DirName.{DirName}
use Rattle.hv_dirs.specs.declared.names.DirName.TheVariants as dir
use Rattle.hv_dirs.specs.Names.{IsName, text_of, write_end}
use Rattle.hv_dirs.proofs.NameLemmas as texts
use Rattle.hv_dirs.proofs.OwnNames.{behind}
use Rattle.hv_stands.specs.hv_history.specs.declared.entry.JobKind.{JobKind}
use Rattle.hv_stands.specs.hv_history.specs.declared.entry.JobKind.TheVariants as kind
use Rattle.hv_stands.specs.hv_history.specs.declared.state.Ending.{Ending}
use Rattle.hv_stands.specs.hv_history.specs.declared.state.Ending.TheVariants as ending
use Rattle.hv_stands.specs.hv_history.specs.declared.state.Table.{Table}
use Rattle.hv_stands.specs.hv_history.specs.declared.state.Written.{Written}
use Rattle.hv_stands.specs.hv_history.specs.State.{State, Job, numbered}
use Rattle.hv_stands.specs.Files as stands
use Rattle.hv_stands.specs.Files.{ending_of, own_dir}
use Rattle.hv_stands.specs.Sound.{IsDone, IsOfCommitted}
use Rattle.hv_stands.proofs.Numbers.{same_one}
use Rattle.hv_stands.proofs.Soundness.{all-numbered}
use Rattle.hv_stands.specs.hv_history.specs.Jobs.{is_job_of}
use Rattle.hv_jobs.specs.Covers.{names_by, job_names}
use Rattle.hv_law_made.specs.Made.{write_names, names_in, jobs_at, recs_in, made_recs, is_spare_in, is_spare, is_gone_in, is_gone}
use Rattle.hv_law_made.specs.Named.{HasNames}
use Rattle.hv_law_made.specs.Standing.{IsStagedAt}
use Rattle.hv_law_made.specs.Laws.{IsUnmade, PutsAreUnmade}
use Rattle.hv_law_made.proofs.NamedLemmas.{file-from, names-are, recs-are, spare-by, gone-by}
use Rattle.hv_law_visible.specs.Members.{IsIn}
use Rattle.hv_law_visible.proofs.MemberLemmas.{in-either, from-flat, from-filter}
use Rattle.hv_law_visible.proofs.TakenLemmas.{all-in}

-- ---- a name whose text is an own one of a write id, of any statement

abbrev write_in : DirName → ℕ
write_in (dir.Base high) = 0
write_in (dir.Own deletes write statement) = write.0
write_in (dir.Wide deletes low high) = 0
write_in (dir.Staged job name) = 0

-- the name is an own one of that write id
abbrev pub IsOwnName : ℕ → DirName → Type 0
IsOwnName write (dir.Base high) = ⊥
IsOwnName write (dir.Own deletes other statement) = other.0 ≡ write
IsOwnName write (dir.Wide deletes low high) = ⊥
IsOwnName write (dir.Staged job name) = ⊥

own-rest : (write other statement last : ℕ) → write < write_end → other < write_end → texts.own_rest write statement ≡ texts.own_rest other last → write ≡ other
own-rest write other statement last few small e = (texts.fixed-parts 7 write other (behind write statement) (behind other last) few small e).0

pub own-name : (name : DirName) (deletes : Bool) (write statement : ℕ) → IsName name → write < write_end → text_of name ≡ own_dir deletes write statement → IsOwnName write name
own-name (dir.Base high) deletes write statement is few e =
    texts.apart (text_of (dir.Base high)) (own_dir deletes write statement) 98 100 (texts.base-first high.0) (texts.own-first deletes write statement) texts.base-delta e
own-name (dir.Own other id last) deletes write statement is few e =
    let same = texts.kind-same other deletes (texts.own_rest id.0 last) (texts.own_rest write statement)
    (sym (texts.own-text other id.0 last) ∙ e ∙ texts.own-text deletes write statement) in
    own-rest id.0 write last statement is.0.1 few same.1
own-name (dir.Wide other low high) deletes write statement is few e =
    let same = texts.kind-same deletes other (texts.own_rest write statement) (texts.wide_rest low.0 high.0)
    (sym (texts.own-text deletes write statement) ∙ sym e ∙ texts.wide-text other low.0 high.0) in
    texts.own-not-wide write statement low.0 high.0 few (texts.low-fits low.0 high.0 is) is.2 same.1
own-name (dir.Staged job name) deletes write statement is few e =
    texts.apart (own_dir deletes write statement) (text_of (dir.Staged job name)) 100 46 (texts.own-first deletes write statement) (texts.staged-first job.0 name) texts.delta-staged (sym e)

-- ---- which names are own ones, and which are staged

-- an own name among those that are made is one of a write
pub own-made : (write : ℕ) (k : JobKind) (o : Option (ℕ × ℕ × ℕ)) (name : DirName) → IsOwnName write name → IsIn name (names_by k o) → ⊥
own-made write k None name own at = at
own-made write kind.Minor (Some range) name own (inl e) = subst (IsOwnName write) (sym e) own
own-made write kind.Minor (Some range) name own (inr (inl e)) = subst (IsOwnName write) (sym e) own
own-made write kind.Minor (Some range) name own (inr (inr at)) = at
own-made write kind.Major (Some range) name own (inl e) = subst (IsOwnName write) (sym e) own
own-made write kind.Major (Some range) name own (inr at) = at

pub own-written : (write : ℕ) (w : Written) (name : DirName) → IsOwnName write name → IsIn name (write_names w) → w.write ≡ write
own-written write w name own (inl e) = subst (IsOwnName write) (sym e) own
own-written write w name own (inr (inl e)) = subst (IsOwnName write) (sym e) own
own-written write w name own (inr (inr at)) = absurd at

pub own-among : (writes : List Written) (jobs : List Job) (write : ℕ) (name : DirName) → IsOwnName write name → IsIn name (names_in writes jobs)
    → (w : Written) × IsIn w writes × (w.write ≡ write)
own-among writes jobs write name own at = elim (in-either name (flat_map write_names writes) (flat_map job_names jobs) at) [
  | inl here ↦ let of = from-flat write_names name writes here in (of.0, of.1, own-written write of.0 name own of.2)
  | inr made ↦ let of = from-flat job_names name jobs made in absurd (own-made write of.0.kind of.0.published name own of.2)
]

abbrev pub IsStagedName : DirName → Type 0
IsStagedName (dir.Base high) = ⊥
IsStagedName (dir.Own deletes other statement) = ⊥
IsStagedName (dir.Wide deletes low high) = ⊥
IsStagedName (dir.Staged job name) = Unit {0}

staged-made : (k : JobKind) (o : Option (ℕ × ℕ × ℕ)) (name : DirName) → IsStagedName name → IsIn name (names_by k o) → ⊥
staged-made k None name staged at = at
staged-made kind.Minor (Some range) name staged (inl e) = subst IsStagedName (sym e) staged
staged-made kind.Minor (Some range) name staged (inr (inl e)) = subst IsStagedName (sym e) staged
staged-made kind.Minor (Some range) name staged (inr (inr at)) = at
staged-made kind.Major (Some range) name staged (inl e) = subst IsStagedName (sym e) staged
staged-made kind.Major (Some range) name staged (inr at) = at

staged-written : (w : Written) (name : DirName) → IsStagedName name → IsIn name (write_names w) → ⊥
staged-written w name staged (inl e) = subst IsStagedName (sym e) staged
staged-written w name staged (inr (inl e)) = subst IsStagedName (sym e) staged
staged-written w name staged (inr (inr at)) = at

pub staged-among : (writes : List Written) (jobs : List Job) (name : DirName) → IsStagedName name → IsIn name (names_in writes jobs) → ⊥
staged-among writes jobs name staged at = elim (in-either name (flat_map write_names writes) (flat_map job_names jobs) at) [
  | inl here ↦ let of = from-flat write_names name writes here in staged-written of.0 name staged of.2
  | inr made ↦ let of = from-flat job_names name jobs made in staged-made of.0.kind of.0.published name staged of.2
]

-- ---- no transaction has committed and hasn't

pub done-undone : (o : Option (Option Ending)) → IsDone o → stands.IsUndone o → ⊥
done-undone None done undone = done
done-undone (Some None) done undone = done
done-undone (Some (Some (ending.Committed place wrote))) done undone = undone
done-undone (Some (Some (ending.Aborted place cause))) done undone = done
done-undone (Some (Some (ending.Made place table))) done undone = done
done-undone (Some (Some (ending.Dropped place table))) done undone = done

-- ---- at such a place

module _ (state : State) (place : Place) (table : Table) (here : numbered state.tables place.table.0 ≡ Some table) (has : HasNames state table) where
  pub names-here : (name : DirName) → IsIn name (names_in table.writes (jobs_at state place)) → IsName name
  names-here =
      names-are table state.jobs (jobs_at state place) (λ job at. (from-filter (is_job_of place.table.0 place.partition) job state.jobs at).0) has.writes has.jobs

  -- no directory that the book makes has its name
  abbrev IsUnnamed : Type 0
  IsUnnamed = (name : DirName) → IsIn name (names_in table.writes (jobs_at state place)) → place.dir ≡ text_of name → ⊥

  loose-unnamed : (loose : stands.IsLoose state place) → IsUnnamed
  loose-unnamed loose name at dir_is =
      let own = loose.own in
      let same : own.table ≡ table = same_one (numbered state.tables place.table.0) own.table table own.is here in
      let owner : numbered table.owners own.write ≡ Some loose.txn = subst (λ (t : Table). numbered t.owners own.write ≡ Some loose.txn) same own.owner in
      let is_own = own-name name own.deletes own.write own.statement (names-here name at) (has.ids own.write loose.txn owner) (sym dir_is ∙ own.dir) in
      let of = own-among table.writes (jobs_at state place) own.write name is_own at in
      let by = all-in (IsOfCommitted (map ending_of state.transactions) table.owners) table.writes of.0 has.committed of.1 in
      let txn : by.0 ≡ loose.txn = same_one (numbered table.owners own.write) by.0 loose.txn (ap (numbered table.owners) (sym of.2) ∙ by.1) owner in
      done-undone (numbered (map ending_of state.transactions) loose.txn)
      (subst (λ n. IsDone (numbered (map ending_of state.transactions) n)) txn by.2) loose.undone

  staged-unnamed : IsStagedAt state place → IsUnnamed
  staged-unnamed staged name at dir_is =
      let one : name ≡ dir.Staged (record { 0 = staged.number }) staged.name =
      texts.text-same name (dir.Staged (record { 0 = staged.number }) staged.name) (names-here name at) staged.named (sym dir_is ∙ staged.dir) in
      staged-among table.writes (jobs_at state place) name (subst IsStagedName (sym one) tt) at

  pub unnamed-unmade : IsUnnamed → IsUnmade state place
  unnamed-unmade unnamed = record {
    recs = by (made_recs state place) refl;
    spare = false_from_ne_true (is_spare state place) (λ e. let spare = spare-by state place table here e in unnamed spare.name spare.among spare.dir_is);
    gone = false_from_ne_true (is_gone state place) (λ e. let gone = gone-by state place table here e in unnamed gone.name gone.among gone.dir_is);
  }
    where
      by : (o : Option (Bool × List Rec)) → made_recs state place ≡ o → o ≡ None
      by None e = refl
      by (Some file) e =
          let of = file-from table.info.shape table.writes place (names_in table.writes (jobs_at state place)) file (sym (recs-are state place table here) ∙ e) in
          absurd (unnamed of.name of.among of.dir_is)

-- a place of no table has nothing of the book
untabled : (state : State) (place : Place) → numbered state.tables place.table.0 ≡ None → IsUnmade state place
unfolding made_recs is_spare is_gone
untabled state place none = record {
  recs = ap (recs_in state place) none;
  spare = ap (is_spare_in state place) none;
  gone = ap (is_gone_in state place) none;
}

pub puts-unmade : PutsAreUnmade
puts-unmade state place has come = by (numbered state.tables place.table.0) refl
  where
    by : (o : Option Table) → numbered state.tables place.table.0 ≡ o → IsUnmade state place
    by None e = untabled state place e
    by (Some table) e =
        let names = all-numbered (HasNames state) state.tables place.table.0 table e has.tables in
        unnamed-unmade state place table e names (elim come [
          | inl loose ↦ loose-unnamed state place table e names loose
          | inr staged ↦ staged-unnamed state place table e names staged
        ])
