-- Each step keeps what always holds of a partition, and what is shown under each open list.
use Rattle.std.proofs.Common.{refl, ◌≡◌, ◌≢◌, inl, inr, ℕ, zero, suc, ◌≤◌, Option, Some, None, List, sym, ap, ◌∙◌, subst, arith}
use Rattle.std.proofs.lemmas.Bool.{cases_eq}
use Rattle.hv_base.specs.declared.ids.RowId.{RowId}
use Rattle.hv_wids.specs.WriteIds.{WriteIds}
use Rattle.hv_dirs.specs.Choice.{sight_of}
use Rattle.hv_law_visible.specs.Members.{IsIn}
use Rattle.hv_law_visible.specs.History.{content_of}
use Rattle.hv_law_visible.specs.Visible.{writes_shown}
use Rattle.hv_law_visible.specs.Stands.{Fits}
use Rattle.hv_law_visible.specs.Snapshots.{Fate, Open, Committed, Aborted, Forgotten, fate_of, list_at, GoesTo, IsUndone, IsSince}
use Rattle.hv_law_visible.specs.Readers.{IsPast}
use Rattle.hv_law_visible.specs.Laws.{ShowsRows}
use Rattle.hv_law_visible.proofs.ContentLemmas.{shows-rows}
use Rattle.hv_law_visible.proofs.ListLemmas.{says-up-to}
use Rattle.hv_law_visible.proofs.ReaderLemmas.{reader-fits, end-fits}
use Rattle.hv_law_visible.proofs.SnapshotLemmas.{cut-fits}
use Rattle.hv_law_published.specs.State.{State, IsKept, IsOpenList}
use Rattle.hv_law_published.specs.Laws.{ShowsAlike, Keeps}

-- ---- each open list fits

pub list-fits : {Found : Type 0} (id_of : Found → RowId) (state : State Found) (list : WriteIds) → IsKept id_of state → IsOpenList state list
    → Fits (sight_of list) (IsPast state.open_txns) (IsUndone state.fates) state.writes state.jobs
list-fits {Found = Found} id_of state list kept (inl is) =
    let reader = is.0 in
    let seen = kept.seen reader is.1 in
    subst (λ l. Fits (sight_of l) (IsPast state.open_txns) (IsUndone state.fates) state.writes state.jobs) is.2
    (subst (λ ws. Fits (sight_of (list_at reader.before)) (IsPast state.open_txns) (IsUndone state.fates) ws state.jobs) (sym seen.2)
    (reader-fits state.fates state.jobs state.next state.open_txns state.readers reader seen.0 seen.1 kept.knows is.1 seen.3
    (λ w at. kept.sound.from_one w (subst (IsIn w) (sym seen.2) at))))
list-fits id_of state list kept (inr (inl is)) =
    subst (λ l. Fits (sight_of l) (IsPast state.open_txns) (IsUndone state.fates) state.writes state.jobs) is
    (end-fits state.fates state.jobs state.next state.open_txns state.readers state.writes kept.knows kept.committed kept.sound.from_one)
list-fits id_of state list kept (inr (inr is)) =
    subst (λ l. Fits (sight_of l) (IsPast state.open_txns) (IsUndone state.fates) state.writes state.jobs) is.2
    (cut-fits is.0 (list_at state.fates) (Rattle.hv_law_visible.specs.Snapshots.list_up_to is.0 (list_at state.fates)) (IsPast state.open_txns) (IsUndone state.fates)
    state.writes state.jobs (says-up-to is.0 (list_at state.fates))
    (end-fits state.fates state.jobs state.next state.open_txns state.readers state.writes kept.knows kept.committed kept.sound.from_one) is.1)

pub list-shows : {Found : Type 0} (id_of : Found → RowId) (state : State Found) (list : WriteIds) → IsKept id_of state → IsOpenList state list
    → ShowsRows id_of (sight_of list) state.tree (content_of id_of (writes_shown (sight_of list) state.writes))
list-shows id_of state list kept is =
    shows-rows id_of kept.most (sight_of list) (IsPast state.open_txns) (IsUndone state.fates) state.writes state.jobs state.tree
    kept.sound kept.distinct (list-fits id_of state list kept is) kept.stands

-- where the writes are the same, what is shown is the same
pub same-writes : {Found : Type 0} (id_of : Found → RowId) (state now : State Found) → IsKept id_of state → now.writes ≡ state.writes → IsKept id_of now → Keeps id_of state now
same-writes id_of state now before same kept = record {
  kept = kept;
  alike = λ list is is_now.
      let a = list-shows id_of state list before is in
      let b = subst (λ ws. ShowsRows id_of (sight_of list) now.tree (content_of id_of (writes_shown (sight_of list) ws))) same
      (list-shows id_of now list kept is_now) in
      record {
        each = λ found. (λ at. (b.each found).1 ((a.each found).0 at), λ at. (a.each found).1 ((b.each found).0 at));
        whole = a.whole ∙ sym b.whole;
      };
}

-- where the tree is the same, too
pub same-tree : {Found : Type 0} (id_of : Found → RowId) (state now : State Found) → now.tree ≡ state.tree → IsKept id_of now → Keeps id_of state now
same-tree id_of state now same kept = record {
  kept = kept;
  alike = λ list is is_now. subst (λ tree. ShowsAlike id_of (sight_of list) state.tree tree) (sym same)
      (record { each = λ found. (λ at. at, λ at. at); whole = refl });
}

-- ---- how fates go on

pub goes-on-itself : (o : Option Fate) → GoesTo o o
goes-on-itself None = tt
goes-on-itself (Some Open) = tt
goes-on-itself (Some Committed) = refl
goes-on-itself (Some Aborted) = inl refl
goes-on-itself (Some Forgotten) = refl

pub goes-where-open : (id : ℕ) (before now : List Fate) → fate_of before id ≡ Some Open
    → ((write : ℕ) → write ≢ id → fate_of now write ≡ fate_of before write) → (write : ℕ) → GoesTo (fate_of before write) (fate_of now write)
goes-where-open id before now was others write = elim (cases_eq write id) [
  | inl e ↦ subst (λ o. GoesTo o (fate_of now write)) (sym (ap (fate_of before) e ∙ was)) tt
  | inr apart ↦ subst (λ o. GoesTo (fate_of before write) o) (sym (others write apart)) (goes-on-itself (fate_of before write))
]

pub open-from-one : (fates : List Fate) (id : ℕ) → fate_of fates id ≡ Some Open → 1 ≤ id
open-from-one fates zero is = cc
open-from-one fates (suc n) is = omega arith

pub open-not-committed : (o : Option Fate) → o ≡ Some Open → o ≡ Some Committed → ⊥
open-not-committed o e f = absurd-fates (sym e ∙ f)
  where
    absurd-fates : Some Open ≡ Some Committed → ⊥
    absurd-fates e = cc

pub aborted-not-committed : (o : Option Fate) → o ≡ Some Aborted → o ≡ Some Committed → ⊥
aborted-not-committed o e f = absurd-fates (sym e ∙ f)
  where
    absurd-fates : Some Aborted ≡ Some Committed → ⊥
    absurd-fates e = cc
