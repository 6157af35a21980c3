-- Entries and changes of files keep the files of a book standing.
use Rattle.std.proofs.Common.{refl, ◌≡◌, ◌⊎◌, inl, inr, ℕ, ◌==◌, nat_eq, Bool, true, false, is_some, IsSome, Option, Some, None, List, sym, ap, ◌∙◌, subst, eqb-true, true≢false}
use Rattle.std.specs.FinMap as finmap
use Rattle.std.specs.Cmp.Lexicographic.{pointwise}
use Rattle.std.proofs.lemmas.Bool.{and_parts}
use Rattle.hv_shelf.specs.declared.place.Place.{Place}
use Rattle.hv_shelf.specs.Disk.{Tree}
use Rattle.hv_rowfile.specs.declared.record.Rec.{Rec}
use Rattle.hv_stands.specs.hv_history.specs.State.{State, numbered}
use Rattle.hv_stands.proofs.Numbers.{none_is}
use Rattle.hv_stands.proofs.Soundness.{all-numbered}
use Rattle.hv_law_made.specs.Made.{made_recs, is_spare, is_gone}
use Rattle.hv_law_made.specs.Named.{AllHaveNames, IsOfTable}
use Rattle.hv_law_made.specs.Standing.{HasFile, MayHold, is_live_at, Standing}
use Rattle.hv_law_made.specs.Laws.{MayCome, MayTurn, ChangesStand, Holds, ChangesAt, IsAsked, AreButFor}
use Rattle.hv_law_made.proofs.UnmadeLemmas.{puts-unmade}

some-is : {A : Type 0} (o : Option A) (x : A) → o ≡ Some x → IsSome o
some-is o x e = ap is_some e

-- ---- files come and go

module _ (state : State) (before now : Tree) (has : AllHaveNames state)
    (turns : (place : Place) → (finmap.get now place ≡ finmap.get before place) ⊎ MayTurn state place (finmap.get now place)) (standing : Standing state before) where
  table-there : (place : Place) → MayCome state place → IsSome (numbered state.tables place.table.0)
  table-there place (inl loose) = some-is (numbered state.tables place.table.0) loose.own.table loose.own.is
  table-there place (inr staged) =
      let both = and_parts (staged.job.table == place.table.0) (pointwise nat_eq staged.job.partition place.partition) staged.here in
      subst (λ n. IsSome (numbered state.tables n)) (eqb-true staged.job.table place.table.0 both.0)
      (all-numbered (IsOfTable state) state.jobs staged.number staged.job staged.is has.jobs)

  -- what stands now stood, or a write or a job put it
  came : (place : Place) (bytes : List ℕ) → finmap.get now place ≡ Some bytes → (finmap.get before place ≡ Some bytes) ⊎ MayCome state place
  came place bytes is = elim (turns place) [
    | inl same ↦ inl (sym same ∙ is)
    | inr turn ↦ inr (subst (MayTurn state place) is turn)
  ]

  -- what has to stand stands still
  kept : (place : Place) (deletes : Bool) (recs : List Rec) → is_live_at state place ≡ true → is_spare state place ≡ false
      → made_recs state place ≡ Some (deletes, recs) → HasFile deletes place.bucket recs (finmap.get now place)
  kept place deletes recs live needed e = elim (turns place) [
    | inl same ↦ subst (HasFile deletes place.bucket recs) (sym same) (standing.made place deletes recs live needed e)
    | inr turn ↦ by (finmap.get now place) turn
  ]
    where
      by : (o : Option (List ℕ)) → MayTurn state place o → HasFile deletes place.bucket recs o
      by None (inl none) = absurd (none_is (made_recs state place) (deletes, recs) none e)
      by None (inr (inl spare)) = absurd (true≢false (sym spare ∙ needed))
      by None (inr (inr dead)) = absurd (true≢false (sym live ∙ dead))
      by (Some bytes) come = absurd (none_is (made_recs state place) (deletes, recs) (puts-unmade state place has come).recs e)

  gone-still : (place : Place) → is_live_at state place ≡ true → is_gone state place ≡ true → finmap.get now place ≡ None
  gone-still place live e = by (finmap.get now place) refl
    where
      by : (o : Option (List ℕ)) → finmap.get now place ≡ o → o ≡ None
      by None is = refl
      by (Some bytes) is = elim (came place bytes is) [
        | inl stood ↦ absurd (none_is (finmap.get before place) bytes (standing.gone place live e) stood)
        | inr come ↦ absurd (true≢false (sym e ∙ (puts-unmade state place has come).gone))
      ]

  changed-files : Standing state now
  changed-files = record {
    made = kept;
    other = λ place bytes is none. elim (came place bytes is) [
      | inl stood ↦ standing.other place bytes stood none
      | inr come ↦ elim come [ inl loose ↦ inl loose | inr staged ↦ inr (inr (inl staged)) ]
    ];
    tables = λ place bytes is. elim (came place bytes is) [
      | inl stood ↦ standing.tables place bytes stood
      | inr come ↦ table-there place come
    ];
    gone = gone-still;
    encoded = standing.encoded;
  }

pub changes-stand : ChangesStand
changes-stand state before now has turns standing = changed-files state before now has turns standing

-- ---- an entry

module _ (state now : State) (Asked : Place → Type 0) (before files : Tree) (changes : ChangesAt state now Asked)
    (same : AreButFor Asked before files) (asked : IsAsked now Asked files) (standing : Standing state before) where
  made-as-was : (place : Place) (deletes : Bool) (recs : List Rec) → is_live_at now place ≡ true → is_spare now place ≡ false
      → made_recs now place ≡ Some (deletes, recs) → (b : Bool) → is_spare state place ≡ b → made_recs state place ≡ Some (deletes, recs)
      → HasFile deletes place.bucket recs (finmap.get before place)
  made-as-was place deletes recs live needed e true spare was =
      absurd (true≢false (sym (changes.spared place (deletes, recs) was spare) ∙ needed))
  made-as-was place deletes recs live needed e false was_needed was = standing.made place deletes recs (changes.live place live) was_needed was

  made-asked : (place : Place) (deletes : Bool) (recs : List Rec) → is_live_at now place ≡ true → is_spare now place ≡ false
      → made_recs now place ≡ Some (deletes, recs) → Asked place → HasFile deletes place.bucket recs (finmap.get files place)
  made-asked place deletes recs live needed e it = subst (λ o. Holds o place.bucket (finmap.get files place)) e (asked.whole place it live needed)

  made-then : (place : Place) (deletes : Bool) (recs : List Rec) → is_live_at now place ≡ true → is_spare now place ≡ false
      → made_recs now place ≡ Some (deletes, recs) → HasFile deletes place.bucket recs (finmap.get files place)
  made-then place deletes recs live needed e = elim (same place) [
    | inl as_was ↦ elim (changes.anew place (deletes, recs) e) [
      | inl was ↦ subst (HasFile deletes place.bucket recs) (sym as_was) (made-as-was place deletes recs live needed e (is_spare state place) refl was)
      | inr it ↦ made-asked place deletes recs live needed e it
    ]
    | inr it ↦ made-asked place deletes recs live needed e it
  ]

  other-was : (place : Place) (bytes : List ℕ) → finmap.get files place ≡ Some bytes → finmap.get before place ≡ Some bytes → made_recs now place ≡ None
      → (o : Option (Bool × List Rec)) → made_recs state place ≡ o → MayHold now place
  other-was place bytes is was none (Some file) e = absurd (none_is (made_recs now place) file none (changes.stays place file e))
  other-was place bytes is was none None e = elim (changes.held place (standing.other place bytes was e)) [
    | inl still ↦ still
    | inr it ↦ absurd (none_is (finmap.get files place) bytes (asked.bare place it none) is)
  ]

  other-then : (place : Place) (bytes : List ℕ) → finmap.get files place ≡ Some bytes → made_recs now place ≡ None → MayHold now place
  other-then place bytes is none = elim (same place) [
    | inl as_was ↦ other-was place bytes is (sym as_was ∙ is) none (made_recs state place) refl
    | inr it ↦ absurd (none_is (finmap.get files place) bytes (asked.bare place it none) is)
  ]

  gone-then : (place : Place) → is_live_at now place ≡ true → is_gone now place ≡ true → finmap.get files place ≡ None
  gone-then place live e = elim (same place) [
    | inl as_was ↦ elim (changes.emptied place live e) [
      | inl was ↦ as_was ∙ standing.gone place (changes.live place live) was
      | inr it ↦ asked.gone place it live e
    ]
    | inr it ↦ asked.gone place it live e
  ]

  tables-then : (place : Place) (bytes : List ℕ) → finmap.get files place ≡ Some bytes → IsSome (numbered now.tables place.table.0)
  tables-then place bytes is = elim (same place) [
    | inl as_was ↦ changes.tables place (standing.tables place bytes (sym as_was ∙ is))
    | inr it ↦ asked.tables place it
  ]

  entry-stands : Standing now files
  entry-stands = record {
    made = made-then;
    other = other-then;
    tables = tables-then;
    gone = gone-then;
    encoded = asked.encoded;
  }

-- the frame of the law on entries
pub changed-stands : (state now : State) (Asked : Place → Type 0) (before files : Tree)
    → ChangesAt state now Asked → AreButFor Asked before files → IsAsked now Asked files → Standing state before → Standing now files
changed-stands state now Asked before files changes same asked standing = entry-stands state now Asked before files changes same asked standing
