-- The write id that a live table gives next has no file yet.
use Rattle.std.proofs.Common.{refl, ◌≡◌, inl, inr, ℕ, ◌+◌, ◌<◌, Bool, true, Option, Some, None, List, length, map, sym, ap, ◌∙◌, subst, arith, true≢false}
use Rattle.std.specs.FinMap as tree
use Rattle.hv_shelf.specs.declared.place.Place.{Place}
use Rattle.hv_shelf.specs.Disk.{Tree}
use Rattle.hv_dirs.specs.declared.names.DirName.{DirName}
use Rattle.hv_dirs.specs.declared.names.DirName.TheVariants.{Staged}
use Rattle.hv_dirs.specs.Names.{text_of, write_end}
use Rattle.hv_dirs.proofs.NameLemmas as texts
use Rattle.hv_history.specs.declared.state.Table.{Table}
use Rattle.hv_history.specs.State.{State, numbered}
use Rattle.hv_stands.specs.Files.{ending_of, own_dir}
use Rattle.hv_stands.specs.Sound.{HasFewOwners, IsOfCommitted}
use Rattle.hv_stands.proofs.Numbers.{same_one, numbered-within}
use Rattle.hv_stands.proofs.Soundness.{all-numbered}
use Rattle.hv_stands.proofs.MadeFiles.{own_dir-same}
use Rattle.hv_law_made.specs.Made.{names_in, jobs_at}
use Rattle.hv_law_made.specs.Named.{HasNames}
use Rattle.hv_law_made.specs.Standing.{MayHold, is_live_table, is_live_at, Standing}
use Rattle.hv_law_made.specs.Laws.{IsUnmade}
use Rattle.hv_law_made.proofs.UnmadeLemmas.{own-name, own-among, names-here, unnamed-unmade}
use Rattle.hv_law_made.proofs.NameBounds.{all-named}
use Rattle.hv_law_visible.specs.Members.{IsIn}
use Rattle.hv_law_visible.proofs.TakenLemmas.{all-in}
use Rattle.hv_law_filed.specs.Filed.{NewIdsHaveNoFile}

module _ (state : State) (files : Tree) (place : Place) (table : Table) (here : numbered state.tables place.table.0 ≡ Some table) (has : HasNames state table)
    (standing : Standing state files) (live : is_live_at state place ≡ true) (deletes : Bool) (statement : ℕ) (few : length table.owners + 1 < write_end)
    (dir_is : place.dir ≡ own_dir deletes (length table.owners + 1) statement) where
  abbrev new : ℕ
  new = length table.owners + 1

  not-given : (write txn : ℕ) → numbered table.owners write ≡ Some txn → write ≡ new → ⊥
  not-given write txn owner same = let within = numbered-within table.owners write txn owner in omega (arith, within.1, same)

  unnamed : (name : DirName) → IsIn name (names_in table.writes (jobs_at state place)) → place.dir ≡ text_of name → ⊥
  unnamed name at is =
      let own = own-name name deletes new statement (names-here state place table here has name at) few (sym is ∙ dir_is) in
      let of = own-among table.writes (jobs_at state place) new name own at in
      let by = all-in (IsOfCommitted (map ending_of state.transactions) table.owners) table.writes of.0 has.committed of.1 in
      not-given of.0.write by.0 by.1 of.2

  unmade : IsUnmade state place
  unmade = unnamed-unmade state place table here has unnamed

  never-held : MayHold state place → ⊥
  never-held (inl loose) =
      let own = loose.own in
      let same : own.table ≡ table = same_one (numbered state.tables place.table.0) own.table table own.is here in
      let owner : numbered table.owners own.write ≡ Some loose.txn = subst (λ (t : Table). numbered t.owners own.write ≡ Some loose.txn) same own.owner in
      let ids = own_dir-same own.deletes deletes own.write own.statement new statement (has.ids own.write loose.txn owner) few (sym own.dir ∙ dir_is) in
      not-given own.write loose.txn owner ids.1
  never-held (inr (inl spare)) = true≢false (sym spare ∙ unmade.spare)
  never-held (inr (inr (inl staged))) =
      texts.apart (own_dir deletes new statement) (text_of (Staged (record { 0 = staged.number }) staged.name)) 100 46 (texts.own-first deletes new statement)
      (texts.staged-first staged.number staged.name) texts.delta-staged (sym dir_is ∙ staged.dir)
  never-held (inr (inr (inr dead))) = true≢false (sym live ∙ dead)

  pub new-bare : tree.get files place ≡ None
  new-bare = by (tree.get files place) refl
    where
      by : (o : Option (List ℕ)) → tree.get files place ≡ o → o ≡ None
      by None e = refl
      by (Some bytes) e = absurd (never-held (standing.other place bytes e unmade.recs))

pub new-ids-bare : NewIdsHaveNoFile
new-ids-bare state files place table deletes statement sound room standing at live dir_is =
    let names = all-named state (omega (arith, room)) sound in
    let few = all-numbered (HasFewOwners state.entries) state.tables place.table.0 table at sound.base.tables.few in
    new-bare state files place table at (all-numbered (HasNames state) state.tables place.table.0 table at names.tables) standing (ap is_live_table at ∙ live)
    deletes statement (omega (arith, few, room)) dir_is
