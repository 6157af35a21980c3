-- What keeps the directories standing where some of them change.
use Rattle.std.proofs.Common.{◌≡◌, ◌≢◌, ◌⊎◌, inl, inr, ℕ, true, false, Bool, List, sym, ap, subst, true≢false}
use Rattle.std.proofs.lemmas.Bool.{cases_eq}
use Rattle.hv_dirs.specs.Choice.{Delta, Own, Wide, low_of, high_of, is_own, statement_of}
use Rattle.hv_law_visible.specs.Members.{IsIn}
use Rattle.hv_base.specs.declared.ids.RowId.{RowId}
use Rattle.hv_law_visible.specs.History.{Write, Compaction, inserts_in, deletes_in, rows_in, IsMade, IsMadeBase}
use Rattle.hv_law_visible.specs.Visible.{Tree}
use Rattle.hv_law_visible.specs.Stands.{IsLoose, IsLooseBase, IsForeign, Stand, Stands}
use Rattle.hv_law_published.specs.Directories.{Directory, BaseDir, DeltaDir, DeleteDir, ChangesAt, IsOwnOf}

-- ---- two names are one or two

own-cases : (a b c d : ℕ) → (Own a b ≡ Own c d) ⊎ (Own a b ≢ Own c d)
own-cases a b c d = elim (cases_eq a c) [
  | inr other ↦ inr (λ e. other (ap low_of e))
  | inl e ↦ elim (cases_eq b d) [ inl f ↦ inl (λ i. Own (e i) (f i)) | inr other ↦ inr (λ g. other (ap statement_of g)) ]
]

wide-cases : (a b c d : ℕ) → (Wide a b ≡ Wide c d) ⊎ (Wide a b ≢ Wide c d)
wide-cases a b c d = elim (cases_eq a c) [
  | inr other ↦ inr (λ e. other (ap low_of e))
  | inl e ↦ elim (cases_eq b d) [ inl f ↦ inl (λ i. Wide (e i) (f i)) | inr other ↦ inr (λ g. other (ap high_of g)) ]
]

pub name-cases : (c d : Delta) → (c ≡ d) ⊎ (c ≢ d)
name-cases (Own a b) (Own c d) = own-cases a b c d
name-cases (Wide a b) (Wide c d) = wide-cases a b c d
name-cases (Own a b) (Wide c d) = inr (λ e. true≢false (ap is_own e))
name-cases (Wide a b) (Own c d) = inr (λ e. true≢false (sym (ap is_own e)))

base_named : Directory → ℕ
base_named (BaseDir base) = base
base_named (DeltaDir d) = 0
base_named (DeleteDir d) = 0

delta_named : Directory → Delta
delta_named (BaseDir base) = Own 0 0
delta_named (DeltaDir d) = d
delta_named (DeleteDir d) = d

is_base : Directory → Bool
is_base (BaseDir base) = true
is_base (DeltaDir d) = false
is_base (DeleteDir d) = false

is_delta : Directory → Bool
is_delta (BaseDir base) = false
is_delta (DeltaDir d) = true
is_delta (DeleteDir d) = false

pub dir-cases : (c d : Directory) → (c ≡ d) ⊎ (c ≢ d)
unfolding base_named delta_named is_base is_delta
dir-cases (BaseDir a) (BaseDir b) = elim (cases_eq a b) [ inl e ↦ inl (ap BaseDir e) | inr other ↦ inr (λ e. other (ap base_named e)) ]
dir-cases (DeltaDir a) (DeltaDir b) = elim (name-cases a b) [ inl e ↦ inl (ap DeltaDir e) | inr other ↦ inr (λ e. other (ap delta_named e)) ]
dir-cases (DeleteDir a) (DeleteDir b) = elim (name-cases a b) [ inl e ↦ inl (ap DeleteDir e) | inr other ↦ inr (λ e. other (ap delta_named e)) ]
dir-cases (BaseDir a) (DeltaDir b) = inr (λ e. true≢false (ap is_base e))
dir-cases (BaseDir a) (DeleteDir b) = inr (λ e. true≢false (ap is_base e))
dir-cases (DeltaDir a) (BaseDir b) = inr (λ e. true≢false (ap is_delta e))
dir-cases (DeltaDir a) (DeleteDir b) = inr (λ e. true≢false (ap is_delta e))
dir-cases (DeleteDir a) (BaseDir b) = inr (λ e. true≢false (sym (ap is_base e)))
dir-cases (DeleteDir a) (DeltaDir b) = inr (λ e. true≢false (sym (ap is_delta e)))

pub own-delta-cases : (id : ℕ) (d : Delta) → IsOwnOf id (DeltaDir d) ⊎ (IsOwnOf id (DeltaDir d) → ⊥)
own-delta-cases id (Own write statement) = cases_eq write id
own-delta-cases id (Wide first last) = inr (λ e. e)

pub own-delete-cases : (id : ℕ) (d : Delta) → IsOwnOf id (DeleteDir d) ⊎ (IsOwnOf id (DeleteDir d) → ⊥)
own-delete-cases id (Own write statement) = cases_eq write id
own-delete-cases id (Wide first last) = inr (λ e. e)

-- ---- some directories of one kind change

-- what is to be known of each that does
pub record IsRight {Record : Type 0} (past : Compaction → Type 0) (foreign : ℕ → Type 0) (jobs : List Compaction) (made : Delta → List Record)
    (names : List Delta) (files : Delta → List Record) (d : Delta) : Type 0 where
  pub each : (r : Record) → IsMade jobs d → IsIn r (made d)
      → IsLoose past jobs d ⊎ (IsIn d names × ((s : Record) → IsIn s (made d) → IsIn s (files d)))
  pub only : IsIn d names
      → (IsMade jobs d × ((r : Record) × IsIn r (made d)) × (IsLoose past jobs d ⊎ ((r : Record) → IsIn r (files d) → IsIn r (made d))))
      ⊎ IsForeign foreign d

pub stand-changed : {Record : Type 0} (past : Compaction → Type 0) (foreign : ℕ → Type 0) (jobs jobs_now : List Compaction) (made : Delta → List Record)
    (at : Delta → Type 0) (names now : List Delta) (files then : Delta → List Record)
    → Stand past foreign jobs made names files → ((d : Delta) → at d ⊎ (at d → ⊥)) → ChangesAt at names now files then
    → ((d : Delta) → IsLoose past jobs d → IsLoose past jobs_now d)
    → ((d : Delta) → (at d → ⊥) → IsMade jobs_now d → IsMade jobs d) → ((d : Delta) → IsMade jobs d → IsMade jobs_now d)
    → ((d : Delta) → at d → IsRight past foreign jobs_now made now then d)
    → Stand past foreign jobs_now made now then
stand-changed past foreign jobs jobs_now made at names now files then stand decide change loose was is here = record {
  each = λ d r is_made has. elim (decide d) [
    | inl it ↦ (here d it).each r is_made has
    | inr apart ↦ elim (stand.each d r (was d apart is_made) has) [
      | inl gone ↦ inl (loose d gone)
      | inr whole ↦ inr (change.stay d apart whole.0, λ s s_in. subst (λ xs. IsIn s xs) (sym (change.same d apart)) (whole.1 s s_in))
    ]
  ];
  only = λ d there. elim (decide d) [
    | inl it ↦ (here d it).only there
    | inr apart ↦ elim (stand.only d (change.only d apart there)) [
      | inl m ↦ inl (
        is d m.0,
        m.1,
        elim m.2 [
          | inl gone ↦ inl (loose d gone)
          | inr own ↦ inr (λ r has. own r (subst (λ xs. IsIn r xs) (change.same d apart) has))
        ],
      )
      | inr anything ↦ inr anything
    ]
  ];
}

-- transactions end: more may be gone, and an id that is done is no longer anything
pub stand-weaker : {Record : Type 0} (past past_now : Compaction → Type 0) (foreign foreign_now : ℕ → Type 0) (jobs : List Compaction) (made : Delta → List Record)
    (names : List Delta) (files : Delta → List Record)
    → Stand past foreign jobs made names files → ((job : Compaction) → IsIn job jobs → past job → past_now job) → ((write : ℕ) → foreign write → foreign_now write)
    → Stand past_now foreign_now jobs made names files
stand-weaker past past_now foreign foreign_now jobs made names files stand grows opens = record {
  each = λ d r is at. elim (stand.each d r is at) [
    | inl loose ↦ inl (loose.0, loose.1, grows loose.0 loose.1 loose.2, loose.3)
    | inr whole ↦ inr whole
  ];
  only = λ d at. elim (stand.only d at) [
    | inl m ↦ inl (m.0, m.1, elim m.2 [ inl gone ↦ inl (gone.0, gone.1, grows gone.0 gone.1 gone.2, gone.3) | inr own ↦ inr own ])
    | inr is ↦ inr (is.0, is.1, is.2, opens is.0 is.3)
  ];
}

-- ---- bases

pub record BasesStand {Found : Type 0} (past : Compaction → Type 0) (jobs : List Compaction) (made : ℕ → List Found) (names : List ℕ) (rows : ℕ → List Found) : Type 0 where
  pub each : (base : ℕ) → IsMadeBase jobs base
      → IsLooseBase past jobs base ⊎ (IsIn base names × ((found : Found) → IsIn found (made base) → IsIn found (rows base)))
  pub only : (base : ℕ) → IsIn base names
      → IsMadeBase jobs base × (IsLooseBase past jobs base ⊎ ((found : Found) → IsIn found (rows base) → IsIn found (made base)))

pub bases-of : {Found : Type 0} (id_of : Found → RowId) (past : Compaction → Type 0) (foreign : ℕ → Type 0) (writes : List (Write Found)) (jobs : List Compaction) (tree : Tree Found)
    → Stands id_of past foreign writes jobs tree → BasesStand past jobs (rows_in id_of writes) tree.bases tree.rows
bases-of id_of past foreign writes jobs tree stands = record { each = stands.bases; only = stands.only_bases }

pub with-bases : {Found : Type 0} (id_of : Found → RowId) (past : Compaction → Type 0) (foreign : ℕ → Type 0) (writes : List (Write Found)) (jobs : List Compaction) (tree : Tree Found)
    → Stand past foreign jobs (inserts_in writes) tree.deltas tree.inserts → Stand past foreign jobs (deletes_in writes) tree.delete_deltas tree.deletes
    → BasesStand past jobs (rows_in id_of writes) tree.bases tree.rows
    → Stands id_of past foreign writes jobs tree
with-bases id_of past foreign writes jobs tree deltas deletes stand = record { deltas = deltas; delete_deltas = deletes; bases = stand.each; only_bases = stand.only }

-- what is to be known of each that changes
pub record IsRightBase {Found : Type 0} (past : Compaction → Type 0) (jobs : List Compaction) (made : ℕ → List Found) (names : List ℕ) (rows : ℕ → List Found) (base : ℕ) : Type 0 where
  pub each : IsMadeBase jobs base
      → IsLooseBase past jobs base ⊎ (IsIn base names × ((found : Found) → IsIn found (made base) → IsIn found (rows base)))
  pub only : IsIn base names
      → IsMadeBase jobs base × (IsLooseBase past jobs base ⊎ ((found : Found) → IsIn found (rows base) → IsIn found (made base)))

pub bases-changed : {Found : Type 0} (past : Compaction → Type 0) (jobs jobs_now : List Compaction) (made : ℕ → List Found) (at : ℕ → Type 0)
    (names now : List ℕ) (rows then : ℕ → List Found)
    → BasesStand past jobs made names rows → ((base : ℕ) → at base ⊎ (at base → ⊥)) → ChangesAt at names now rows then
    → ((base : ℕ) → IsLooseBase past jobs base → IsLooseBase past jobs_now base)
    → ((base : ℕ) → (at base → ⊥) → IsMadeBase jobs_now base → IsMadeBase jobs base) → ((base : ℕ) → IsMadeBase jobs base → IsMadeBase jobs_now base)
    → ((base : ℕ) → at base → IsRightBase past jobs_now made now then base)
    → BasesStand past jobs_now made now then
bases-changed past jobs jobs_now made at names now rows then stand decide change loose was is here = record {
  each = λ base is_made. elim (decide base) [
    | inl it ↦ (here base it).each is_made
    | inr apart ↦ elim (stand.each base (was base apart is_made)) [
      | inl gone ↦ inl (loose base gone)
      | inr whole ↦ inr (change.stay base apart whole.0, λ f f_in. subst (λ xs. IsIn f xs) (sym (change.same base apart)) (whole.1 f f_in))
    ]
  ];
  only = λ base there. elim (decide base) [
    | inl it ↦ (here base it).only there
    | inr apart ↦
        let o = stand.only base (change.only base apart there) in (
          is base o.0,
          elim o.1 [
            | inl gone ↦ inl (loose base gone)
            | inr own ↦ inr (λ f has. own f (subst (λ xs. IsIn f xs) (change.same base apart) has))
          ],
        )
  ];
}
