-- Files that are read by several acts: of a told house each has, whenever it is got for an open transaction, the bytes that it had when it was
-- listed; and so their rows are those that stood in the table.
use Rattle.std.specs.Prelude.{◌≡◌, ℕ, ◌≤◌, Bool, true, false, Option, Some, List, length, take}
use Rattle.std.specs.Global.{Vec}
use Rattle.std.specs.Option.{option_map}
use Rattle.std.specs.FinMap as tree
use Rattle.hv_base.specs.Told.{Tells}
use Rattle.hv_base.specs.declared.ids.TxnId.{TxnId}
use Rattle.hv_shelf.specs.declared.place.Place.{Place}
use Rattle.hv_shelf.specs.Disk.{Store, Tree, places_of}
use Rattle.hv_logic.specs.declared.catalog.TableInfo.{TableInfo}
use Rattle.hv_logic.specs.declared.effect.Found.{Found}
use Rattle.hv_choosing.specs.declared.listing.DirFile.{DirFile}
use Rattle.hv_choosing.specs.Listing.{AreListed}
use Rattle.hv_choosing.specs.Taken.{files_taken}
use Rattle.hv_law_visible.specs.Members.{IsIn}
use Rattle.hv_table_rows.specs.Reading.{files_wanted}
use Rattle.hv_law_dues.specs.hv_counts.specs.Counts.{AreOwn}
use Rattle.hv_acts.specs.hv_telling.specs.hv_house.specs.hv_law_read.specs.Reading.{ReadsAt}
use Rattle.hv_history.specs.hv_meaning.specs.Needs.{rows_wanted}
use Rattle.hv_history.specs.declared.entry.Entry.{Entry}
use Rattle.hv_history.specs.declared.state.Table.{Table}
use Rattle.hv_history.specs.State.{state_of, numbered, content_of}
use Rattle.hv_history.specs.Legal.{profile, IsLegal}
use Rattle.hv_history.specs.Lasting.{IsFront}
use Rattle.hv_trail.specs.declared.trail.TrailItem.{TrailItem}
use Rattle.hv_trail.specs.Steps.{HouseSeen}
use Rattle.hv_acts.specs.hv_telling.specs.hv_house.specs.declared.listing.Listing.{Listing}
use Rattle.hv_acts.specs.hv_telling.specs.hv_house.specs.Listing.{AreTaken}
use Rattle.hv_acts.specs.hv_telling.specs.hv_house.specs.Seeing.{ids_in}
use Rattle.hv_acts.specs.declared.told.ToldHouse.{ToldHouse}
use Rattle.hv_acts.specs.Told.{seen_in, book_in}
use Rattle.hv_acts.specs.Reading.{HasGot, HasMissed, info_then}
use Rattle.hv_table_reader.specs.declared.wanting.Wanted.{Wanted}

-- ---- a house that goes on

pub record GoesBehind {D : Type 0} (before now : HouseSeen D) : Type 0 where
  pub start : now.start ≡ before.start
  pub front : IsFront before.trail now.trail

-- Behind that house, where the file at this place is got for the transaction it has the bytes that it has in this store, where one is told, and
-- it is never missed.
pub record IsSteady {D : Type 0} (told : D → Option Store) (o : Option Store) (by : TxnId) (before : HouseSeen D)
    (place : Place) : Type 0 where
  pub got : (now : HouseSeen D) (bytes : List ℕ) → GoesBehind before now → HasGot told now by place bytes
      → Tells o (λ s. tree.get s.tree place ≡ Some bytes)
  pub unmissed : (now : HouseSeen D) → GoesBehind before now → HasMissed told now by place → Tells o (λ s. ⊥)

abbrev pub AreSteady : {D : Type 0} → (D → Option Store) → Option Store → TxnId → HouseSeen D → List DirFile → Type 0
AreSteady told o by before taken = (file : DirFile) → IsIn file taken → IsSteady told o by before file.place

-- the bytes that were got
abbrev pub bytes_got : Option (Vec ℕ) → Option (List ℕ)
bytes_got found = option_map (λ (bytes : Vec ℕ). bytes.items) found

-- ---- files that were listed

-- a table of that name was there at the place, with this description
pub record IsNamedThen (trail : List TrailItem) (place : ℕ) (info : TableInfo) : Type 0 where
  pub name : List ℕ
  pub named : Some info ≡ info_then trail place name

-- these of its files are taken in this store, where one is told, and are got with the bytes that they have in it
pub record AreListedSteady {D : Type 0} (told : D → Option Store) (o : Option Store) (by : TxnId) (before : HouseSeen D)
    (info : TableInfo) (listing : Listing) : Type 0 where
  pub taken : Tells o (λ s. AreTaken info.table listing.list s.tree listing.inserts.items listing.deletes.items)
  pub inserts : AreSteady told o by before listing.inserts.items
  pub deletes : AreSteady told o by before listing.deletes.items

-- ---- those of them that are read

-- whether files of a kind are counted
abbrev pub is_asked : Wanted → Bool → Bool
is_asked wanted true = wanted.counts_deletes
is_asked wanted false = wanted.counts_rows

-- These of a table's files that are taken stand in the partitions that are wanted. Those of a kind are counted where all of the table's, and
-- all of its rows', stand in own directories.
pub record AreWanted (wants : List ℕ → Bool) (info : TableInfo) (files : Tree) (wanted : Wanted) : Type 0 where
  pub named : List DirFile
  pub listed : AreListed (places_of info.table files) named
  pub inserts_are : wanted.listing.inserts.items ≡ files_wanted wants (files_taken false wanted.listing.list named)
  pub deletes_are : wanted.listing.deletes.items ≡ files_wanted wants (files_taken true wanted.listing.list named)
  pub asks : (kind : Bool) → is_asked wanted kind ≡ true
      → AreOwn (files_taken kind wanted.listing.list named) × AreOwn (files_taken false wanted.listing.list named)

-- who reads, and the house as it was seen before
pub record SeenBy (D : Type 0) : Type 0 where
  pub by : TxnId
  pub before : HouseSeen D

abbrev pub as_seen_by : {D : Type 0} → TxnId → HouseSeen D → SeenBy D
as_seen_by by before = record { by = by; before = before }

-- they are got with the bytes that they have in this store, where one is told
pub record AreWantedSteady {D : Type 0} (told : D → Option Store) (o : Option Store) (seen : SeenBy D)
    (wants : List ℕ → Bool) (info : TableInfo) (wanted : Wanted) : Type 0 where
  pub taken : Tells o (λ s. AreWanted wants info s.tree wanted)
  pub inserts : AreSteady told o seen.by seen.before wanted.listing.inserts.items
  pub deletes : AreSteady told o seen.by seen.before wanted.listing.deletes.items

-- ---- files that were listed at some moment

-- At some moment the house's book was this one, which is legal and had that place, its files stood in this store, and the transaction read the
-- table. The table's files were listed then, and are got with the bytes that they had.
pub record IsListing {D : Type 0} (told : D → Option Store) (now : ToldHouse D) (by : TxnId) (place : ℕ)
    (info : TableInfo) (listing : Listing) : Type 0 where
  pub book : List Entry
  pub store : Store
  pub legal : IsLegal profile book
  pub front : IsFront book (book_in now)
  pub has : place ≤ length book
  pub table : Table
  pub info_is : table.info ≡ info
  pub reads : ReadsAt book by.0 place table store.tree
  pub list : listing.list ≡ ids_in (state_of (take place book)) info.table.0
  pub files : AreListedSteady told (Some store) by (seen_in now) info listing

-- ---- rows

-- they are those that stood in the partitions that are wanted, in the one of these tables that has this description
pub record HasRowsIn (tables : List Table) (wants : List ℕ → Bool) (info : TableInfo) (rows : List Found) : Type 0 where
  pub table : Table
  pub here : numbered tables table.info.table.0 ≡ Some table
  pub info_is : table.info ≡ info
  pub rows_are : rows ≡ rows_wanted wants (content_of table.writes)

-- in that table, as it stood at the place
abbrev pub HasRowsThen : List Entry → ℕ → (List ℕ → Bool) → TableInfo → List Found → Type 0
HasRowsThen now place wants info rows = HasRowsIn (state_of (take place now)).tables wants info rows
