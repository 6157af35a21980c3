-- What jobs and cleaners do touches no file of an open transaction that is changing rows, so that its marks stand.
use Rattle.std.proofs.Common.{◌≡◌, ◌⊎◌, inl, inr, ℕ, ◌+◌, ◌<◌, Bool, true, false, true≢false, None, List, [], ◌∷◌, ◌++◌, refl, sym, ap, ◌∙◌, subst, arith}
use Rattle.std.specs.Prelude.{◌||◌, IsSomeAnd}
use Rattle.std.specs.FinMap as tree
use Rattle.hv_base.specs.declared.ids.Limits.{Limits}
use Rattle.hv_shelf.specs.declared.place.DirAt.{DirAt}
use Rattle.hv_shelf.specs.declared.place.Place.{Place}
use Rattle.hv_shelf.specs.Disk.{Tree}
use Rattle.hv_shelf.specs.Places.{is_in}
use Rattle.hv_logic.specs.declared.catalog.TableInfo.{TableInfo}
use Rattle.hv_logic.specs.declared.effect.Effect.{Effect}
use Rattle.hv_dirs.specs.declared.names.DirName.{DirName}
use Rattle.hv_dirs.specs.declared.names.DirName.TheVariants as dir_name
use Rattle.hv_dirs.specs.Names.{is_compacted, text_of, write_end}
use Rattle.hv_history.specs.State.{State, Job, numbered, acted, after}
use Rattle.hv_stands.specs.Files.{own_dir}
use Rattle.hv_stands.specs.Running.{IsOfId}
use Rattle.hv_stands.specs.Sound.{IsSound}
use Rattle.hv_stands.proofs.Behind.{entries-are}
use Rattle.hv_stands.proofs.Numbers.{either}
use Rattle.hv_stands.proofs.Soundness.{all-numbered}
use Rattle.hv_law_marks.specs.hv_law_filed.specs.hv_law_made.specs.Named.{HasNames, AllHaveNames}
use Rattle.hv_law_marks.specs.hv_law_filed.specs.hv_law_made.specs.Entries.{IsSoundBook, publishing, finals, dir_of, staged_text}
use Rattle.hv_law_marks.specs.hv_law_filed.specs.hv_law_made.specs.Opening.{is_in_any}
use Rattle.hv_law_marks.specs.hv_law_filed.specs.hv_law_made.proofs.BookLemmas.{books-are-sound}
use Rattle.hv_law_marks.specs.hv_law_filed.specs.hv_law_made.proofs.EntryStands.{unended-as}
use Rattle.hv_law_marks.specs.hv_law_filed.specs.hv_law_made.proofs.NameBounds.{all-named}
use Rattle.hv_law_marks.specs.hv_law_filed.specs.hv_law_made.proofs.RenameStands.{IsMadeName}
use Rattle.hv_law_marks.specs.hv_law_filed.specs.hv_law_made.proofs.UnmadeLemmas.{IsOwnName, own-name}
use Rattle.hv_trail.specs.declared.trail.Mark.TheVariants.{Wrote}
use Rattle.hv_trail.specs.declared.trail.TrailItem.{TrailItem}
use Rattle.hv_trail.specs.declared.trail.TrailItem.TheVariants.{Noted, Marked}
use Rattle.hv_trail.specs.Trail.{book_of, state_at, broken}
use Rattle.hv_trail.proofs.LastingLaws.{state-append}
use Rattle.hv_law_marks.specs.Marked.{by_txn, ChangesBy, IsChanging, IsOwnPlace, file_wanted, IsMarkedAt, MarksStandIn, MarksStand}
use Rattle.hv_law_marks.proofs.Marks.{written-before, entry-unwritten, unbroken-was}
use Rattle.hv_law_marks.proofs.ItsFiles.{sound-of, the-one, of-changing, owner-stays}
use Rattle.hv_law_work.specs.Marks.{IsLeft, MayGoNow}
use Rattle.hv_law_work.specs.Laws.{IsShort, IsNoPut, IsOpenIn, OthersKeepMarks, StagedKeepsChanges, GoneKeepsChanges, PublishedKeepsMarks}
use Rattle.hv_law_work.proofs.OwnPlaces.{own-not-left}
use Rattle.hv_law_work.proofs.Places.{within-parts, own-not-staged, its-made}
use Rattle.hv_law_work.proofs.Renames.{renamed-others}

-- ---- an item that isn't a mark of a transaction's file

unmarked : (item : TrailItem) (txn : ℕ) (place : Place) → IsNoPut item → item ≡ Marked (Wrote (by_txn txn) place) → ⊥
unmarked item txn place none e = subst IsNoPut e none

-- where its files are as they were
still-marked : (trail : List TrailItem) (item : TrailItem) (before now : Tree) → ((txn : ℕ) (place : Place) → item ≡ Marked (Wrote (by_txn txn) place) → ⊥)
    → MarksStand trail before → (txn : ℕ) (info : TableInfo) (effect : Effect) (write : ℕ) → IsChanging (state_at trail) txn info effect write
    → broken (by_txn txn) (trail ++ item ∷ []) ≡ None → (place : Place) → IsOfId info.table.0 write place → tree.get now place ≡ tree.get before place
    → IsMarkedAt (trail ++ item ∷ []) txn place (file_wanted info effect write place) (tree.get now place)
still-marked trail item before now other marks txn info effect write changing unbroken place of same =
    by (marks.each txn info effect write changing (unbroken-was trail (item ∷ []) (by_txn txn) unbroken) place of)
  where
    by : IsMarkedAt trail txn place (file_wanted info effect write place) (tree.get before place)
        → IsMarkedAt (trail ++ item ∷ []) txn place (file_wanted info effect write place) (tree.get now place)
    by (inl found) = inl (same ∙ found)
    by (inr none) = inr ((λ has. none.0 (written-before trail item (by_txn txn) place (other txn place) has)), same ∙ none.1)

pub others-keep-marks : OthersKeepMarks
others-keep-marks trail (Noted event) before now none keeps marks = absurd none
others-keep-marks trail (Marked mark) before now none keeps marks =
    subst (λ (state : State). MarksStandIn state (trail ++ Marked mark ∷ []) now) (sym (state-append trail (Marked mark ∷ []))) (record {
      each = λ txn info effect write changing unbroken place of.
          still-marked trail (Marked mark) before now (λ other there. unmarked (Marked mark) other there none) marks txn info effect write changing unbroken place of
          (keeps txn info effect write changing place of);
      own = λ txn place has.
          marks.own txn place (written-before trail (Marked mark) (by_txn txn) place (unmarked (Marked mark) txn place none) has);
    })

-- ---- a file of a job

pub staged-keeps-changes : StagedKeepsChanges
staged-keeps-changes state number place bytes before now few sound is others txn info effect write changing there of =
    others there
    (λ same.
    own-not-staged of.deletes write of.statement number (text_of is.name)
    (sym of.dir ∙ ap (λ (p : Place). p.dir) same ∙ ap (λ (p : Place). p.dir) is.place_is))

-- ---- a directory that goes

module _ (limits : Limits) (trail : List TrailItem) (short : IsShort limits trail) (txn : ℕ) (info : TableInfo) (effect : Effect) (write : ℕ)
    (changing : IsChanging (state_at trail) txn info effect write) (place : Place) (of : IsOfId info.table.0 write place) where
  abbrev state : State
  state = state_at trail

  firm : IsSound state
  firm = sound-of limits (book_of trail) short.fit

  near : state.entries < write_end
  near = omega (arith, short.few, entries-are (book_of trail))

  sound : IsSoundBook state
  sound = books-are-sound limits (book_of trail) short.fit

  named : AllHaveNames state
  named = all-named state near sound

  its : IsOwnPlace state.tables txn place
  its = of-changing state firm near txn info effect write changing place of

  unended : IsOpenIn state txn
  unended =
      let one = the-one state firm near txn info effect write changing in
      unended-as state (record { 0 = txn }) one.0 one.1 one.2.unended

  small : its.write < write_end
  small = (all-numbered (HasNames state) state.tables place.table.0 its.table its.named named.tables).ids its.write txn its.owner

  module _ (dir : DirAt) (within : is_in dir place ≡ true) where
    parts : (place.table.0 ≡ dir.table.0) × ((place.partition ≡ dir.partition) × (place.dir ≡ dir.dir))
    parts = within-parts dir place within

    own-text-here : own_dir its.own.deletes its.write its.own.statement ≡ dir.dir
    own-text-here = sym its.own.dir ∙ parts.1.1

    not-left : IsLeft state dir → ⊥
    not-left = own-not-left state near sound txn place its unended dir within

    stays-here : MayGoNow state dir → ⊥
    stays-here (inl freed) = not-left (inl freed.covered)
    stays-here (inr (inl lost)) = not-left (inr lost)
    stays-here (inr (inr (inl idle))) =
        own-not-staged its.own.deletes its.write its.own.statement idle.stage.number idle.stage.name (own-text-here ∙ idle.stage.text)
    stays-here (inr (inr (inr dead))) = dead.quiet txn info effect write changing (sym of.table_is ∙ parts.0)

or-false : (a : Bool) → a || false ≡ a
or-false true = refl
or-false false = refl

pub gone-keeps-changes : GoneKeepsChanges
gone-keeps-changes limits trail dir before now short may some txn info effect write changing place of = by (either (is_in_any (dir ∷ []) place))
  where
    by : (is_in_any (dir ∷ []) place ≡ true) ⊎ (is_in_any (dir ∷ []) place ≡ false) → tree.get now place ≡ tree.get before place
    by (inr outside) = some.same place outside
    by (inl within) =
        absurd (stays-here limits trail short txn info effect write changing place of dir (sym (or-false (is_in dir place)) ∙ within) may)

-- ---- a publication

-- what compactions make has no own name
not-own : (name : DirName) (write : ℕ) → IsOwnName write name → is_compacted name ≡ true → ⊥
not-own (dir_name.Base high) write own compacted = own
not-own (dir_name.Own deletes id statement) write own compacted = true≢false (sym compacted)
not-own (dir_name.Wide deletes low high) write own compacted = own
not-own (dir_name.Staged job name) write own compacted = own

-- it changes no transaction, and no table
published-transactions : (state : State) (number : ℕ) (job : Job) → (after state (publishing state number job)).transactions ≡ state.transactions
unfolding acted
published-transactions state number job = refl

pub published-keeps-marks : PublishedKeepsMarks
published-keeps-marks limits trail number job work before now short renamed marks =
    subst (λ (s : State). MarksStandIn s (trail ++ Noted (publishing (state_at trail) number job) ∷ []) now.tree) (sym (state-append trail (Noted (publishing (state_at trail) number job) ∷ []))) (record {
      each = λ txn info effect write changing unbroken place of.
          let was : IsChanging (state_at trail) txn info effect write =
          subst (λ ts. IsSomeAnd (numbered ts txn) (ChangesBy info effect write)) (published-transactions (state_at trail) number job) changing in
          still-marked trail (Noted (publishing (state_at trail) number job)) before.tree now.tree (λ other there. entry-unwritten (publishing (state_at trail) number job) (by_txn other) there) marks txn info effect write was unbroken place
          of (same txn info effect write was place of);
      own = λ txn place has.
          owner-stays (state_at trail) (publishing (state_at trail) number job) txn place
          (marks.own txn place (written-before trail (Noted (publishing (state_at trail) number job)) (by_txn txn) place (entry-unwritten (publishing (state_at trail) number job) (by_txn txn) place) has));
    })
  where
    few : (state_at trail).entries + 1 < write_end
    few = omega (arith, short.few, entries-are (book_of trail))

    sound : IsSoundBook (state_at trail)
    sound = books-are-sound limits (book_of trail) short.fit

    -- neither a directory that it makes nor one that it stages is an own one
    same : (txn : ℕ) (info : TableInfo) (effect : Effect) (write : ℕ) → IsChanging (state_at trail) txn info effect write → (place : Place)
        → IsOfId info.table.0 write place → tree.get now.tree place ≡ tree.get before.tree place
    same txn info effect write changing place of =
        renamed-others number job (finals (state_at trail) job work.table.writes) before now renamed place
        (λ name among e.
        let made : IsMadeName name = its-made (state_at trail) few sound number job work name among in
        let dir_is = (within-parts (dir_of job (text_of name)) place e).1.1 in
        let own_is = its limits trail short txn info effect write changing place of in
        not-own name own_is.write
        (own-name name own_is.own.deletes own_is.write own_is.own.statement made.named (small limits trail short txn info effect write changing place of)
        (sym dir_is ∙ own_is.own.dir))
        made.compacted)
        (λ name among e.
        let dir_is = (within-parts (dir_of job (staged_text number name)) place e).1.1 in
        own-not-staged of.deletes write of.statement number (text_of name) (sym of.dir ∙ dir_is))
