-- A commit with the files of its change keeps all standing, and behind the put of a change's files just these stand in its directories.
use Rattle.std.proofs.Common.{refl, ◌≡◌, ◌⊎◌, inl, inr, nat_eq, ℕ, ◌+◌, ◌<◌, Bool, true, false, cond, Option, Some, None, List, [], ◌∷◌, length, take, map, sym, ap, ◌∙◌, subst, arith, true≢false}
use Rattle.std.specs.Cmp.Lexicographic.{pointwise}
use Rattle.std.specs.FinMap as tree
use Rattle.std.specs.List.{AllByRecursion}
use Rattle.std.specs.Option.{option_map, option_to_list}
use Rattle.std.proofs.lemmas.List.{append-nil}
use Rattle.hv_base.specs.declared.ids.Touch.{Touch}
use Rattle.hv_shelf.specs.declared.place.Place.{Place}
use Rattle.hv_shelf.specs.Disk.{Tree}
use Rattle.hv_ast.specs.declared.statement.Stmt.{Stmt}
use Rattle.hv_logic.specs.declared.catalog.Shape.{Shape}
use Rattle.hv_logic.specs.declared.catalog.TableInfo.{TableInfo}
use Rattle.hv_logic.specs.declared.effect.Effect.{Effect}
use Rattle.hv_logic.specs.declared.meaning.Meaning.{Meaning}
use Rattle.hv_logic.specs.declared.meaning.Meaning.TheVariants.{Change}
use Rattle.hv_dirs.specs.Names.{write_end}
use Rattle.hv_history.specs.declared.entry.Entry.{Entry}
use Rattle.hv_history.specs.declared.entry.Entry.TheVariants as entry
use Rattle.hv_history.specs.declared.state.Written.{Written}
use Rattle.hv_history.specs.declared.state.Table.{Table}
use Rattle.hv_history.specs.declared.state.Transaction.{Transaction}
use Rattle.hv_history.specs.State.{State, numbered, changed, written_by, written_to, writes_of, commits, tables_behind, after, state_of}
use Rattle.hv_history.specs.Legal.{Fits, profile}
use Rattle.hv_stands.specs.Files.{records_of, commit_file, file_at, own_dir, ending_of, IsOwn, IsUndone, IsEncoded, AreEncoded}
use Rattle.hv_stands.specs.Sound.{HasFewOwners, IsDone, IsOfCommitted}
use Rattle.hv_stands.specs.Running.{Asking, meant, IsUnderWay, HasPut}
use Rattle.hv_stands.specs.Statements.{AllFitting}
use Rattle.hv_stands.proofs.Numbers.{same_one, either, changed-here}
use Rattle.hv_stands.proofs.Soundness.{all-numbered, all-more, all-changed}
use Rattle.hv_stands.proofs.MadeFiles.{same-dir, dir-tied, made-own}
use Rattle.hv_stands.proofs.Written.{of-tables, effect-encoded}
use Rattle.hv_stands.proofs.Behind.{entries-are}
use Rattle.hv_stands.proofs.Fitting.{fitting-sound, fronts-fit, room-within}
use Rattle.hv_stands.proofs.SeeingEnough.{changed-table-stood, tables-stay}
use Rattle.hv_stands.proofs.PutFiles.{files-at}
use Rattle.hv_stands.proofs.OwnFiles.{found-given, IsIdOf, is-id-of, own-of-id}
use Rattle.hv_law_made.specs.Made.{made_recs}
use Rattle.hv_law_made.specs.Named.{HasNames}
use Rattle.hv_law_made.specs.Standing.{Standing}
use Rattle.hv_law_made.specs.Laws.{Holds, IsFiledFor}
use Rattle.hv_law_made.specs.Entries.{IsSoundBook}
use Rattle.hv_law_made.proofs.UnmadeLemmas.{done-undone}
use Rattle.hv_law_made.proofs.NameBounds.{all-named}
use Rattle.hv_law_made.proofs.BookLemmas.{books-are-sound, books-go-on}
use Rattle.hv_law_visible.specs.Members.{IsIn}
use Rattle.hv_law_visible.proofs.TakenLemmas.{all-in}
use Rattle.hv_law_filed.specs.Filed.{FilesArePut, CommitsStand}
use Rattle.hv_law_filed.proofs.NewIds.{new-ids-bare}
use Rattle.hv_law_filed.proofs.OwnChanges.{way_of, ending-none}
use Rattle.hv_law_filed.proofs.QuietEntries.{stands-behind, tables-committed}
use Rattle.hv_law_filed.proofs.OwnRecords.{holds-of, made-here, made-nowhere}

-- ---- the put

pub files-put : FilesArePut
files-put book place said info effect table files fit room standing means at live each held =
    let s : State = state_of book in
    let whole = books-are-sound profile book fit in
    let early = fitting-sound (take place book) (fronts-fit book place fit) in
    let few = all-numbered (HasFewOwners s.entries) s.tables info.table.0 table at whole.base.tables.few in
    let count = entries-are book in
    record {
      own = λ where_ of.
          files-at info.table.0 (length table.owners + 1) info.shape effect files (omega (arith, few, count, room))
          (of-tables (state_of (take place book)) said info effect early means).gone.up
          (λ other is. new-ids-bare s files other table is.deletes is.statement whole (omega (arith, count, room)) standing
          (ap (numbered s.tables) is.table_is ∙ at) live is.dir)
          where_ of;
      encoded = effect-encoded (state_of (take place book)) said info effect (length table.owners + 1) early means each held;
    }

-- ---- the commit

module _ (book : List Entry) (asking : Asking) (txn place : ℕ) (said : Stmt) (info : TableInfo) (effect : Effect) (w : ℕ) (wrote : List Touch) (files : Tree)
    (fit : AllFitting book) (room : length book < write_end) (fits : Fits profile (state_of book) (entry.Commit (record { 0 = txn }) wrote))
    (way : IsUnderWay book asking txn place said ((info.table.0, w) ∷ [])) (means : meant (take place book) said ≡ Some (Change info effect))
    (put : HasPut files info w effect) (standing : Standing (state_of book) files) where
  abbrev s : State
  s = state_of book

  abbrev k : ℕ
  k = info.table.0

  abbrev t : Transaction
  t = way_of book asking place said ((k, w) ∷ [])

  abbrev written : Written
  written = written_by info.shape w 0 effect

  abbrev event : Entry
  event = entry.Commit (record { 0 = txn }) wrote

  abbrev now : State
  now = after s event

  abbrev tables_now : List Table
  tables_now = changed (written_to written) s.tables k

  sound : IsSoundBook s
  sound = books-are-sound profile book fit

  id : IsIdOf s txn k w
  id = is-id-of s txn k w t sound.base way.here refl

  abbrev table : Table
  table = written_to written id.table

  -- the table is of the description by which the change was routed
  same-shape : id.table.info.shape ≡ info.shape
  same-shape =
      let stood = changed-table-stood (take place book) said info effect (fronts-fit book place fit) means in
      let later = tables-stay book place k stood.0 fit stood.1 in
      let is : id.table ≡ later.0 = same_one (numbered s.tables k) id.table later.0 id.here later.1 in
      ap (λ (x : Table). x.info.shape) is ∙ ap (λ (i : TableInfo). i.shape) (later.2 ∙ stood.2)

  writes-it : commits (Some t) ≡ (k, written) ∷ []
  writes-it =
      append-nil (writes_of (meant (take place book) said) 0 ((k, w) ∷ []))
      ∙ ap (λ (m : Option Meaning). writes_of m 0 ((k, w) ∷ [])) means
      ∙ ap (λ (o : Option ℕ). option_to_list (option_map (λ (x : ℕ). (k, written_by info.shape x 0 effect)) o)) (found-given k w)

  tables-are : now.tables ≡ tables_now
  tables-are = tables-committed s txn wrote t way.here ∙ ap (λ (ws : List (ℕ × Written)). tables_behind ws s.tables) writes-it

  -- its id has a name, before and behind
  few : s.entries + 1 < write_end
  few = let full : length book < 131072 = room-within profile book event fit fits in omega (arith, full, entries-are book)

  has-before : HasNames s id.table
  has-before = all-numbered (HasNames s) s.tables k id.table id.here (all-named s (omega (arith, few)) sound).tables

  here : (where_ : Place) → where_.table.0 ≡ k → numbered now.tables where_.table.0 ≡ Some table
  here where_ of =
      ap (numbered now.tables) of ∙ ap (λ (ts : List Table). numbered ts k) tables-are ∙ changed-here (written_to written) s.tables k id.table id.here

  has-now : (where_ : Place) → where_.table.0 ≡ k → HasNames now table
  has-now where_ of =
      all-numbered (HasNames now) now.tables where_.table.0 table (here where_ of) (all-named now few (books-go-on profile s event fits sound)).tables

  -- no committed write is of it
  apart : (v : Written) → IsIn v id.table.writes → v.write ≡ w → ⊥
  apart v at same =
      let by = all-in (IsOfCommitted (map ending_of s.transactions) id.table.owners) id.table.writes v has-before.committed at in
      let txn_is : by.0 ≡ txn = same_one (numbered id.table.owners v.write) by.0 txn by.1 (ap (numbered id.table.owners) same ∙ id.owner) in
      done-undone (numbered (map ending_of s.transactions) txn)
      (subst (λ n. IsDone (numbered (map ending_of s.transactions) n)) txn_is by.2)
      (subst IsUndone (sym (ending-none s sound txn k w t way.here refl id)) tt)

  module _ (where_ : Place) (of : where_.table.0 ≡ k) where
    abbrev Held : Option (List ℕ) → Type 0
    Held found = Holds (made_recs now where_) where_.bucket found

    own-held : (deletes : Bool) → where_.dir ≡ own_dir deletes w 0 → Held (file_at info.shape written where_)
    unfolding commit_file
    own-held deletes dir_is =
        let made = made-here now where_ id.table info.shape written (here where_ of) (has-now where_ of) same-shape (has-before.ids w txn id.owner) apart
        (λ kind. put.encoded.files kind where_.partition where_.bucket) deletes dir_is in
        subst Held (sym (made-own info.shape written deletes where_ (has-before.ids w txn id.owner) dir_is))
        (subst (λ m. Holds m where_.bucket (commit_file info.shape deletes where_.partition where_.bucket written)) (sym made)
        (holds-of deletes where_.bucket (records_of info.shape deletes where_.partition where_.bucket written)
        (put.encoded.files deletes where_.partition where_.bucket)))

    none-held : pointwise nat_eq (own_dir false w 0) where_.dir ≡ false → pointwise nat_eq (own_dir true w 0) where_.dir ≡ false → made_recs now where_ ≡ None
        → Held (file_at info.shape written where_)
    none-held no_insert no_delete none =
        subst (λ m. Holds m where_.bucket (file_at info.shape written where_)) (sym none)
        (λ i. cond (no_insert i) (commit_file info.shape false where_.partition where_.bucket written)
        (cond (no_delete i) (commit_file info.shape true where_.partition where_.bucket written) None))

    own-by : (deletes : Bool) (statement : ℕ) → where_.dir ≡ own_dir deletes w statement
        → (pointwise nat_eq (own_dir false w 0) where_.dir ≡ true) ⊎ (pointwise nat_eq (own_dir false w 0) where_.dir ≡ false)
        → (pointwise nat_eq (own_dir true w 0) where_.dir ≡ true) ⊎ (pointwise nat_eq (own_dir true w 0) where_.dir ≡ false)
        → Held (file_at info.shape written where_)
    own-by deletes statement dir_is (inl is) second = own-held false (same-dir false w where_.dir is)
    own-by deletes statement dir_is (inr no_insert) (inl is) = own-held true (same-dir true w where_.dir is)
    own-by deletes statement dir_is (inr no_insert) (inr no_delete) =
        none-held no_insert no_delete
        (made-nowhere now where_ id.table info.shape written (here where_ of) (has-now where_ of) same-shape (has-before.ids w txn id.owner) apart
        (λ kind. put.encoded.files kind where_.partition where_.bucket) not-own deletes statement dir_is)
      where
        not-own : (kind : Bool) → where_.dir ≡ own_dir kind w 0 → ⊥
        not-own false is = true≢false (sym (dir-tied false w) ∙ ap (pointwise nat_eq (own_dir false w 0)) (sym is) ∙ no_insert)
        not-own true is = true≢false (sym (dir-tied true w) ∙ ap (pointwise nat_eq (own_dir true w 0)) (sym is) ∙ no_delete)

  whole : (where_ : Place) → IsOwn s.tables txn where_ → Holds (made_recs now where_) where_.bucket (tree.get files where_)
  whole where_ own =
      let of = own-of-id s txn k w t sound.base way.here refl where_ own in
      subst (Held where_ of.table_is) (sym (put.own where_ of))
      (own-by where_ of.table_is of.deletes of.statement of.dir (either (pointwise nat_eq (own_dir false w 0) where_.dir))
      (either (pointwise nat_eq (own_dir true w 0) where_.dir)))

  encoded : AllByRecursion AreEncoded tables_now
  encoded =
      all-changed AreEncoded AreEncoded (written_to written) s.tables k id.table id.here (λ x h. h)
      (λ h. all-more (IsEncoded id.table.info.shape) id.table.writes written h
      (subst (λ (shape : Shape). IsEncoded shape written) (sym same-shape) put.encoded)) standing.encoded

  filed : IsFiledFor event s files
  filed = record { at = whole; encoded = subst (λ (ts : List Table). AllByRecursion AreEncoded ts) (sym tables-are) encoded }

pub commits-stand : CommitsStand
commits-stand book asking txn place said info effect write wrote files fit room fits way means put standing =
    stands-behind book (entry.Commit (record { 0 = txn }) wrote) files fit fits
    (filed book asking txn place said info effect write wrote files fit room fits way means put standing) standing
