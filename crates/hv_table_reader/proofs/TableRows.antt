-- The rows of a table that was listed at a moment, in the partitions that are wanted.
use Rattle.std.proofs.Common.{◌≡◌, ◌&&◌, ℕ, Bool, true, false, Option, Some, None, Result, Ok, Err, List, take, refl, sym, ◌∙◌, ap, subst}
use Rattle.std.specs.Prelude.{IfOk, IfErr}
use Rattle.std.specs.Global.{Vec}
use Rattle.std.specs.List.{list_all}
use Rattle.hv_base.specs.Told.{Tells}
use Rattle.hv_base.specs.declared.ids.TxnId.{TxnId}
use Rattle.hv_shelf.specs.Disk.{Store, Tree}
use Rattle.hv_logic.specs.declared.catalog.TableInfo.{TableInfo}
use Rattle.hv_logic.specs.declared.effect.Found.{Found}
use Rattle.hv_choosing.specs.declared.listing.DirFile.{DirFile}
use Rattle.hv_choosing.specs.Taken.{files_taken}
use Rattle.hv_law_visible.specs.Members.{IsIn}
use Rattle.hv_law_visible.proofs.MemberLemmas.{from-filter}
use Rattle.hv_law_dues.specs.hv_counts.specs.Counts.{AreOwn, dues_in}
use Rattle.hv_law_dues.specs.hv_counts.specs.Miscounts.{is_own_file}
use Rattle.hv_law_dues.specs.hv_counts.proofs.Told.{own-all}
use Rattle.hv_history.specs.declared.entry.Entry.{Entry}
use Rattle.hv_history.specs.State.{State, state_of, numbered}
use Rattle.hv_history.specs.Lasting.{IsFront}
use Rattle.hv_wids.specs.WriteIds.{WriteIds}
use Rattle.hv_table_rows.specs.Reading.{is_file_wanted, files_wanted, AreRows}
use Rattle.hv_trail.specs.Steps.{HouseSeen}
use Rattle.hv_table_reader.specs.declared.fault.RowFault.{RowFault}
use Rattle.hv_table_reader.specs.declared.wanting.Wanted.{Wanted}
use Rattle.hv_acts.specs.hv_telling.specs.hv_house.specs.declared.listing.Listing.{Listing}
use Rattle.hv_table_reader.specs.Damage.{IsDamage}
use Rattle.hv_acts.specs.hv_telling.specs.hv_house.specs.Listing.{AreTaken}
use Rattle.hv_acts.specs.hv_telling.specs.hv_house.specs.Seeing.{ids_in}
use Rattle.hv_acts.specs.declared.told.ToldHouse.{ToldHouse}
use Rattle.hv_acts.specs.Told.{book_in}
use Rattle.hv_table_reader.specs.Counting.{IsAmissOf}
use Rattle.hv_table_reader.proofs.Stood.{rows-content, none-amiss}
use Rattle.hv_table_reader.specs.Steady.{AreSteady, AreListedSteady, is_asked, AreWanted, as_seen_by, AreWantedSteady, IsListing, HasRowsThen}
use Rattle.hv_table_reader.proofs.Moments.{front-more, take-front}

module _ {D : Type 0} (told : D → Option Store) (now : ToldHouse D) (by : TxnId) (place : ℕ) (info : TableInfo) (listing : Listing)
    (is : IsListing told now by place info listing) (wants : List ℕ → Bool) where
  -- the rows that its files showed are those that stood in the partitions that are wanted
  rows-then : (later : List Entry) → IsFront (book_in now) later → (rows : List Found) → AreRows wants info listing.list is.store.tree rows
      → HasRowsThen later place wants info rows
  rows-then later front rows are = record {
    table = is.table;
    here = ap (λ (entries : List Entry). numbered (state_of entries).tables is.table.info.table.0)
        (take-front is.book later place (front-more is.book (book_in now) later is.front front) is.has) ∙ is.reads.stood;
    info_is = is.info_is;
    rows_are = rows-content is.book by.0 place is.table is.store.tree wants rows is.reads
        (subst (λ (i : TableInfo). AreRows wants i (ids_in (state_of (take place is.book)) i.table.0) is.store.tree rows) (sym is.info_is)
        (subst (λ (list : WriteIds). AreRows wants info list is.store.tree rows) is.list are));
  }

  pub all-rows-then : (later : List Entry) → IsFront (book_in now) later → (list : WriteIds) → list ≡ listing.list → (result : Result (Vec Found) RowFault)
      → IfOk result (λ rows. AreRows wants info list is.store.tree rows.items) → IfOk result (λ rows. HasRowsThen later place wants info rows.items)
  all-rows-then later front list same (Ok rows) are =
      rows-then later front rows.items (subst (λ (l : WriteIds). AreRows wants info l is.store.tree rows.items) same are)
  all-rows-then later front list same (Err why) are = tt

  -- files that stand as they were listed are not amiss
  pub never-amiss : (list : WriteIds) → list ≡ listing.list → IsAmissOf wants info list is.store.tree (dues_in (state_of (take place is.book)) info.table.0) → ⊥
  never-amiss list same spoils =
      let state : State = state_of (take place is.book) in
      none-amiss is.book by.0 place is.table is.store.tree wants is.legal is.reads
      (subst (λ (i : TableInfo). IsAmissOf wants i (ids_in state i.table.0) is.store.tree (dues_in state i.table.0)) (sym is.info_is)
      (subst (λ (l : WriteIds). IsAmissOf wants info l is.store.tree (dues_in state info.table.0)) (same ∙ is.list) spoils))

-- ---- those of the files that were listed that are wanted

both-true : (a b : Bool) → (a && b) ≡ true → (a ≡ true) × (b ≡ true)
both-true true b e = (refl, e)
both-true false b e = cc

module _ (wants : List ℕ → Bool) (info : TableInfo) (listing : Listing) (wanted : Wanted) (list : wanted.listing.list ≡ listing.list)
    (inserts : wanted.listing.inserts.items ≡ files_wanted wants listing.inserts.items) (deletes : wanted.listing.deletes.items ≡ files_wanted wants listing.deletes.items)
    (rows : wanted.counts_rows ≡ (list_all is_own_file listing.inserts.items && list_all is_own_file listing.inserts.items))
    (gone : wanted.counts_deletes ≡ (list_all is_own_file listing.inserts.items && list_all is_own_file listing.deletes.items)) where
  module _ (files : Tree) (taken : AreTaken info.table listing.list files listing.inserts.items listing.deletes.items) where
    same-list : (kind : Bool) → files_taken kind listing.list taken.named ≡ files_taken kind wanted.listing.list taken.named
    same-list kind = ap (λ (l : WriteIds). files_taken kind l taken.named) (sym list)

    own-rows : list_all is_own_file listing.inserts.items ≡ true → AreOwn (files_taken false wanted.listing.list taken.named)
    own-rows all = subst AreOwn (taken.inserts_are ∙ same-list false) (own-all listing.inserts.items all)

    own-deletes : list_all is_own_file listing.deletes.items ≡ true → AreOwn (files_taken true wanted.listing.list taken.named)
    own-deletes all = subst AreOwn (taken.deletes_are ∙ same-list true) (own-all listing.deletes.items all)

    asks-own : (kind : Bool) → is_asked wanted kind ≡ true
        → AreOwn (files_taken kind wanted.listing.list taken.named) × AreOwn (files_taken false wanted.listing.list taken.named)
    asks-own true e =
        let all = both-true (list_all is_own_file listing.inserts.items) (list_all is_own_file listing.deletes.items) (sym gone ∙ e) in
        (own-deletes all.1, own-rows all.0)
    asks-own false e =
        let all = both-true (list_all is_own_file listing.inserts.items) (list_all is_own_file listing.inserts.items) (sym rows ∙ e) in
        (own-rows all.0, own-rows all.0)

    are-wanted : AreWanted wants info files wanted
    are-wanted = record {
      named = taken.named;
      listed = taken.listed;
      inserts_are = inserts ∙ ap (files_wanted wants) (taken.inserts_are ∙ same-list false);
      deletes_are = deletes ∙ ap (files_wanted wants) (taken.deletes_are ∙ same-list true);
      asks = asks-own;
    }

  told-wanted : (o : Option Store) → Tells o (λ s. AreTaken info.table listing.list s.tree listing.inserts.items listing.deletes.items)
      → Tells o (λ s. AreWanted wants info s.tree wanted)
  told-wanted None taken = tt
  told-wanted (Some s) taken = are-wanted s.tree taken

  some-steady : {D : Type 0} (told : D → Option Store) (o : Option Store) (by : TxnId) (before : HouseSeen D) (all some : List DirFile) → some ≡ files_wanted wants all
      → AreSteady told o by before all → AreSteady told o by before some
  some-steady told o by before all some is steady =
      λ file among. steady file (from-filter (is_file_wanted wants) file all (subst (IsIn file) is among)).0

  pub wanted-steady : {D : Type 0} (told : D → Option Store) (o : Option Store) (by : TxnId) (before : HouseSeen D)
      → AreListedSteady told o by before info listing → AreWantedSteady told o (as_seen_by by before) wants info wanted
  wanted-steady told o by before files = record {
    taken = told-wanted o files.taken;
    inserts = some-steady told o by before listing.inserts.items wanted.listing.inserts.items inserts files.inserts;
    deletes = some-steady told o by before listing.deletes.items wanted.listing.deletes.items deletes files.deletes;
  }

-- ---- faults

pub undamaged : {T : Type 0} (A : Type 0) (result : Result T RowFault) → IfErr result (λ why. IsDamage why → A) → (A → ⊥) → IfErr result (λ why. IsDamage why → ⊥)
undamaged A (Ok x) amiss never = tt
undamaged A (Err why) amiss never = λ damage. never (amiss damage)
