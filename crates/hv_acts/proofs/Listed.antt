-- What was listed for a transaction stands behind others' steps as it stood, while the transaction is open.
use Rattle.std.proofs.Common.{◌≡◌, ℕ, Bool, true, false, is_some, Option, Some, None, List, ◌++◌, length, take, refl, sym, ap, ◌∙◌, subst, arith}
use Rattle.std.specs.Prelude.{IsSomeAnd}
use Rattle.std.specs.FinMap as tree
use Rattle.hv_base.specs.Told.{Tells}
use Rattle.hv_base.specs.declared.ids.TxnId.{TxnId}
use Rattle.hv_shelf.specs.Disk.{Tree, Store, places_of}
use Rattle.hv_rowfile.specs.declared.record.Rec.{Rec}
use Rattle.hv_rowfile.specs.Layout.{file_spelling}
use Rattle.hv_wids.specs.WriteIds.{WriteIds}
use Rattle.hv_history.specs.declared.entry.Entry.{Entry}
use Rattle.hv_history.specs.declared.state.Table.{Table}
use Rattle.hv_history.specs.State.{State, state_of, numbered}
use Rattle.hv_history.specs.Jobs.{is_live_one}
use Rattle.hv_history.specs.Legal.{profile}
use Rattle.hv_stands.specs.Statements.{AllFitting}
use Rattle.hv_choosing.specs.declared.listing.DirFile.{DirFile}
use Rattle.hv_choosing.specs.Listing.{AreListed}
use Rattle.hv_choosing.specs.Taken.{files_taken}
use Rattle.hv_choosing.proofs.Listed.{listed-place}
use Rattle.hv_table_rows.proofs.TakenFiles.{there-place}
use Rattle.hv_law_visible.specs.Members.{IsIn}
use Rattle.hv_telling.specs.hv_house.specs.hv_finals.specs.hv_law_made.specs.Standing.{Standing, HasFile, is_live_table, is_live_at}
use Rattle.hv_telling.specs.hv_house.specs.hv_finals.specs.hv_law_made.proofs.BookLemmas.{books-are-sound}
use Rattle.hv_telling.specs.hv_house.specs.hv_law_read.specs.Needs.{IsNeededBy}
use Rattle.hv_telling.specs.hv_house.specs.hv_law_read.specs.Reading.{ReadsAt, IsTakenFor}
use Rattle.hv_telling.specs.hv_house.specs.hv_law_read.proofs.NeedLemmas.{needed-stands, needs-last}
use Rattle.hv_telling.specs.hv_house.specs.hv_law_read.proofs.TakenLemmas.{in-run, later, read-by, listed-now, list-now, taken-is-needed}
use Rattle.hv_trail.specs.declared.trail.TrailItem.{TrailItem}
use Rattle.hv_trail.specs.Trail.{book_of, state_at}
use Rattle.hv_trail.specs.Steps.{HouseSeen}
use Rattle.hv_trail.proofs.LastingLaws.{goes-on-front}
use Rattle.hv_telling.specs.hv_house.specs.declared.listing.Listing.{Listing}
use Rattle.hv_telling.specs.hv_house.specs.Listing.{AreTaken}
use Rattle.hv_telling.specs.hv_house.specs.Seeing.{ids_in}
use Rattle.hv_telling.specs.Telling.{IsTold}
use Rattle.hv_acts.specs.Reading.{state_then, HasFittingBook, FilesStand, IsUnended, table_at, ReadsOn, HasListed, StandsStill, AllStandStill, ReadsOnTold, IsGotStill, AllGotStill}
use Rattle.hv_acts.proofs.Readings.{book-more, then-same, front-book, table-lasts, unended-before, reads-at}

-- ---- one file that a transaction takes

live-table : (o : Option Table) → is_live_one o ≡ true → is_live_table o ≡ true
live-table None live = refl
live-table (Some table) live = live

module _ (book : List Entry) (txn place : ℕ) (table : Table) (files : Tree) (at : ReadsAt book txn place table files) where
  -- what it needs of the table stands
  needed-file : (file : DirFile) (kind : Bool) (recs : List Rec) → file.place.table.0 ≡ table.info.table.0 → IsNeededBy (state_of book) txn file.place kind recs
      → HasFile kind file.place.bucket recs (tree.get files file.place)
  needed-file file kind recs same needed =
      let live : is_live_at (state_of book) file.place ≡ true =
      ap (λ n. is_live_table (numbered (state_of book).tables n)) same ∙ live-table (numbered (state_of book).tables table.info.table.0) at.live in
      needed-stands (state_of book) files txn at.transaction file.place kind recs (books-are-sound profile book at.fit) at.stands at.here at.unended live needed

  -- and what it takes is of the table
  taken-there : (kind : Bool) (named : List DirFile) → AreListed (places_of table.info.table files) named → (file : DirFile)
      → IsIn file (files_taken kind (ids_in (state_of (take place book)) table.info.table.0) named) → file.place.table.0 ≡ table.info.table.0
  taken-there kind named listed file taken =
      let now : Table = (later book txn place table files at).0 in
      let among = in-run book now files txn (read-by book txn place table files at) named (listed-now book txn place table files at named listed) kind file
      (subst (λ (l : WriteIds). IsIn file (files_taken kind l named)) (list-now book txn place table files at) taken) in
      (there-place table.info.table files file.place (listed-place (places_of table.info.table files) named listed file among)).0

-- ---- over two trees in which the files of two books stand

module _ (before now : List TrailItem) (files files' : Tree) (by : TxnId) (place : ℕ) (table : Table)
    (on : ReadsOn before now files files' (table_at by place table)) where
  abbrev number : ℕ
  number = table.info.table.0

  abbrev list : WriteIds
  list = ids_in (state_then before place) number

  reads-then : ReadsAt (book_of before) by.0 place table files
  reads-then =
      reads-at before by place (front-book before now on.front on.book)
      (unended-before before now by.0 (goes-on-front before now on.front) on.running_now) table files on.reads on.here on.stood

  reads-now : ReadsAt (book_of now) by.0 place table files'
  reads-now =
      reads-at now by place on.book on.running_now table files' (table-lasts before now on.front by place number on.reads)
      (ap (λ (s : State). numbered s.tables number) (then-same before now on.front place on.reads.reader.has) ∙ on.here) on.stand

  -- what it needed it needs
  needed-on : (file : DirFile) (kind : Bool) (recs : List Rec) → IsNeededBy (state_at before) by.0 file.place kind recs
      → IsNeededBy (state_at now) by.0 file.place kind recs
  needed-on file kind recs needed =
      let more : book_of now ≡ book_of before ++ book_of on.front.more = book-more before now on.front in
      let count : length (book_of now) ≡ length (book_of before ++ book_of on.front.more) = ap length more in
      let few = on.book.few in
      subst (λ (book : List Entry). IsNeededBy (state_of book) by.0 file.place kind recs) (sym more)
      (needs-last (book_of before) (book_of on.front.more) by.0 file.place kind recs (subst AllFitting more on.book.fit) (omega (arith, few, count))
      (ap is_some reads-then.here) needed)

  stands-still : (kind : Bool) (named : List DirFile) → AreListed (places_of table.info.table files) named → (file : DirFile)
      → IsIn file (files_taken kind list named) → StandsStill files files' file
  stands-still kind named listed file taken =
      let same = taken-there (book_of before) by.0 place table files reads-then kind named listed file taken in
      let needed : IsTakenFor (book_of before) by.0 kind file = taken-is-needed (book_of before) by.0 place table files kind named file reads-then listed taken in
      let then_ = needed-file (book_of before) by.0 place table files reads-then file kind needed.recs same needed.needed in
      let now_ = needed-file (book_of now) by.0 place table files' reads-now file kind needed.recs same (needed-on file kind needed.recs needed.needed) in record {
        bytes = file_spelling kind file.place.bucket needed.recs;
        stood = then_.is ∙ ap Some then_.encodes.bytes_are;
        stands = now_.is ∙ ap Some now_.encodes.bytes_are;
      }

  pub all-stand : (inserts deletes : List DirFile) → AreTaken table.info.table list files inserts deletes → AllStandStill files files' inserts × AllStandStill files files' deletes
  all-stand inserts deletes taken = (
    λ file h. stands-still false taken.named taken.listed file (subst (IsIn file) taken.inserts_are h),
    λ file h. stands-still true taken.named taken.listed file (subst (IsIn file) taken.deletes_are h),
  )

-- ---- over a told house

in-both : {A : Type 0} (o p : Option A) (P Q : A → Type 0) (R : A → A → Type 0) → IsSomeAnd o P → IsSomeAnd p Q → ((x y : A) → o ≡ Some x → p ≡ Some y → P x → Q y → R x y)
    → IsSomeAnd o (λ x. IsSomeAnd p (R x))
in-both None p P Q R is also f = absurd is
in-both (Some x) None P Q R is also f = absurd also
in-both (Some x) (Some y) P Q R is also f = f x y refl refl is also

told-at : (o : Option Store) (s : Store) (P : Store → Type 0) → o ≡ Some s → Tells o P → P s
told-at o s P is tells = subst (λ (p : Option Store). Tells p P) is tells

module _ {D : Type 0} (told : D → Option Store) (before now : HouseSeen D) (by : TxnId) (place : ℕ) (table : Table)
    (on : ReadsOnTold told before now by place table) where
  told-now : IsTold told now.start
  told-now = subst (IsTold told) (sym on.start) on.is_told

  -- the files of both books stand
  reads-on : (s t : Store) → HasFittingBook now.trail → IsUnended now.trail by → Standing (state_at before.trail) s.tree → Standing (state_at now.trail) t.tree
      → ReadsOn before.trail now.trail s.tree t.tree (table_at by place table)
  reads-on s t book unended stood stand =
      record { front = on.front; book = book; stood = stood; stand = stand; reads = on.reads; here = on.here; running_now = unended }

  taken-at : (listing : Listing) (s : Store) → told before.shelf ≡ Some s → HasListed told before by place table.info.table listing
      → AreTaken table.info.table (ids_in (state_then before.trail place) table.info.table.0) s.tree listing.inserts.items listing.deletes.items
  taken-at listing s is has =
      subst (λ (ids : WriteIds). AreTaken table.info.table ids s.tree listing.inserts.items listing.deletes.items) has.list
      (told-at (told before.shelf) s (λ t. AreTaken table.info.table listing.list t.tree listing.inserts.items listing.deletes.items) is has.files)

  -- what was listed stands still, of either kind
  abbrev BothStand : Listing → Store → Store → Type 0
  BothStand listing s t = AllStandStill s.tree t.tree listing.inserts.items × AllStandStill s.tree t.tree listing.deletes.items

  listed-stand : (listing : Listing) → HasListed told before by place table.info.table listing → HasFittingBook now.trail → IsUnended now.trail by → FilesStand told now
      → IsSomeAnd (told before.shelf) (λ s. IsSomeAnd (told now.shelf) (BothStand listing s))
  listed-stand listing has book unended stand =
      in-both (told before.shelf) (told now.shelf) (λ (s : Store). Standing (state_at before.trail) s.tree) (λ (t : Store). Standing (state_at now.trail) t.tree)
      (BothStand listing) (has.stand on.is_told) (stand told-now)
      (λ s t is then_ stood stands. all-stand before.trail now.trail s.tree t.tree by place table (reads-on s t book unended stood stands)
      listing.inserts.items listing.deletes.items (taken-at listing s is has))

  -- a file that is got later
  file-got : (file : DirFile) (o p : Option Store) (found : List ℕ) → IsSomeAnd o (λ s. IsSomeAnd p (λ t. StandsStill s.tree t.tree file))
      → Tells p (λ t. tree.get t.tree file.place ≡ Some found) → IsSomeAnd o (λ s. tree.get s.tree file.place ≡ Some found)
  file-got file None p found still bytes = absurd still
  file-got file (Some s) None found still bytes = absurd still
  file-got file (Some s) (Some t) found still bytes = still.stood ∙ sym still.stands ∙ bytes

  file-there : (file : DirFile) (o p : Option Store) → IsSomeAnd o (λ s. IsSomeAnd p (λ t. StandsStill s.tree t.tree file))
      → Tells p (λ t. tree.get t.tree file.place ≡ None) → ⊥
  file-there file None p still none = absurd still
  file-there file (Some s) None still none = absurd still
  file-there file (Some s) (Some t) still none = let never : Some still.bytes ≡ None = sym still.stands ∙ none in cc

  one-still : (file : DirFile) (o p : Option Store) (P : Store → Store → Type 0) → ((s t : Store) → P s t → StandsStill s.tree t.tree file)
      → IsSomeAnd o (λ s. IsSomeAnd p (P s)) → IsSomeAnd o (λ s. IsSomeAnd p (λ t. StandsStill s.tree t.tree file))
  one-still file None p P f still = absurd still
  one-still file (Some s) None P f still = absurd still
  one-still file (Some s) (Some t) P f still = f s t still

  got-still : (listing : Listing) (file : DirFile) → HasListed told before by place table.info.table listing
      → ((s t : Store) → BothStand listing s t → StandsStill s.tree t.tree file) → IsGotStill told before now by file
  got-still listing file has one = record {
    got = λ found is. file-got file (told before.shelf) (told now.shelf) found
        (one-still file (told before.shelf) (told now.shelf) (BothStand listing) one (listed-stand listing has is.book is.unended is.stand)) is.bytes;
    never_missed = λ is. file-there file (told before.shelf) (told now.shelf)
        (one-still file (told before.shelf) (told now.shelf) (BothStand listing) one (listed-stand listing has is.book is.unended is.stand)) is.none;
  }

  pub all-got : (listing : Listing) → HasListed told before by place table.info.table listing
      → AllGotStill told before now by listing.inserts.items × AllGotStill told before now by listing.deletes.items
  all-got listing has = (
    λ file h. got-still listing file has (λ s t both. both.0 file h),
    λ file h. got-still listing file has (λ s t both. both.1 file h),
  )
