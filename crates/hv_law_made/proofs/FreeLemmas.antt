-- Under a name that no job of the partition has given yet no file stands.
use Rattle.std.proofs.Common.{refl, ◌≡◌, inl, inr, ℕ, true, is_some, Option, Some, None, List, sym, ap, ◌∙◌, subst, true≢false}
use Rattle.std.specs.FinMap as finmap
use Rattle.hv_shelf.specs.declared.place.Place.{Place}
use Rattle.hv_shelf.specs.Disk.{Tree}
use Rattle.hv_dirs.specs.declared.names.DirName.{DirName}
use Rattle.hv_dirs.specs.declared.names.DirName.TheVariants as dir
use Rattle.hv_dirs.specs.Names.{is_compacted}
use Rattle.hv_dirs.proofs.NameLemmas as texts
use Rattle.hv_stands.specs.hv_history.specs.declared.state.Table.{Table}
use Rattle.hv_stands.specs.hv_history.specs.State.{State, numbered}
use Rattle.hv_stands.proofs.Numbers.{same_one}
use Rattle.hv_stands.proofs.Soundness.{all-numbered}
use Rattle.hv_law_made.specs.Made.{names_in, jobs_at}
use Rattle.hv_law_made.specs.Named.{HasNames, AllHaveNames}
use Rattle.hv_law_made.specs.Standing.{MayHold, is_live_at, Standing}
use Rattle.hv_law_made.specs.Laws.{IsUnmade, IsNewName, NewNamesAreFree}
use Rattle.hv_law_made.proofs.UnmadeLemmas.{IsOwnName, own-name, IsStagedName, names-here, unnamed-unmade}
use Rattle.hv_law_visible.specs.Members.{IsIn}

-- a compaction's name is no own one and no staged one
not-own : (name : DirName) (write : ℕ) → is_compacted name ≡ true → IsOwnName write name → ⊥
not-own (dir.Base high) write e own = own
not-own (dir.Own deletes other statement) write e own = true≢false (sym e)
not-own (dir.Wide deletes low high) write e own = own
not-own (dir.Staged job name) write e own = own

not-staged : (name : DirName) → is_compacted name ≡ true → IsStagedName name → ⊥
not-staged (dir.Base high) e staged = staged
not-staged (dir.Own deletes other statement) e staged = staged
not-staged (dir.Wide deletes low high) e staged = staged
not-staged (dir.Staged job name) e staged = true≢false (sym e)

-- no file is of a table that wasn't made
no-table : (state : State) (files : Tree) (place : Place) → Standing state files → numbered state.tables place.table.0 ≡ None
    → (o : Option (List ℕ)) → finmap.get files place ≡ o → o ≡ None
no-table state files place standing none None e = refl
no-table state files place standing none (Some bytes) e = absurd (true≢false (sym (standing.tables place bytes e) ∙ ap is_some none))

module _ (state : State) (files : Tree) (place : Place) (name : DirName) (has : AllHaveNames state) (standing : Standing state files)
    (live : is_live_at state place ≡ true) (new : IsNewName state place name) (table : Table) (here : numbered state.tables place.table.0 ≡ Some table) where
  names : HasNames state table
  names = all-numbered (HasNames state) state.tables place.table.0 table here has.tables

  unmade : IsUnmade state place
  unmade =
      unnamed-unmade state place table here names (λ other at dir_is.
      new.new table here (subst (λ n. IsIn n (names_in table.writes (jobs_at state place)))
      (texts.text-same other name (names-here state place table here names other at) new.named (sym dir_is ∙ new.dir)) at))

  never-held : MayHold state place → ⊥
  never-held (inl loose) =
      let own = loose.own in
      let same : own.table ≡ table = same_one (numbered state.tables place.table.0) own.table table own.is here in
      let owner : numbered table.owners own.write ≡ Some loose.txn = subst (λ (t : Table). numbered t.owners own.write ≡ Some loose.txn) same own.owner in
      not-own name own.write new.compacted
      (own-name name own.deletes own.write own.statement new.named (names.ids own.write loose.txn owner) (sym new.dir ∙ own.dir))
  never-held (inr (inl spare)) = true≢false (sym spare ∙ unmade.spare)
  never-held (inr (inr (inl staged))) =
      let one : name ≡ dir.Staged (record { 0 = staged.number }) staged.name =
      texts.text-same name (dir.Staged (record { 0 = staged.number }) staged.name) new.named staged.named (sym new.dir ∙ staged.dir) in
      not-staged name new.compacted (subst IsStagedName (sym one) tt)
  never-held (inr (inr (inr dead))) = true≢false (sym live ∙ dead)

  free-here : finmap.get files place ≡ None
  free-here = by (finmap.get files place) refl
    where
      by : (o : Option (List ℕ)) → finmap.get files place ≡ o → o ≡ None
      by None e = refl
      by (Some bytes) e = absurd (never-held (standing.other place bytes e unmade.recs))

pub new-free : NewNamesAreFree
new-free state files place name has standing live new = by (numbered state.tables place.table.0) refl
  where
    by : (o : Option Table) → numbered state.tables place.table.0 ≡ o → finmap.get files place ≡ None
    by None e = no-table state files place standing e (finmap.get files place) refl
    by (Some table) e = free-here state files place name has standing live new table e
