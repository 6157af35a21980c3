-- Calls that read: what is found, and the bytes of a file that an open transaction needs.
use Rattle.std.proofs.Common.{◌≡◌, ℕ, Bool, Option, Some, None, Result, Ok, Err, List, take, option_map, sym, ap, ◌∙◌, subst}
use Rattle.std.specs.Prelude.{IsTrue, IfOk}
use Rattle.std.specs.FinMap as tree
use Rattle.hv_base.specs.Told.{Tells}
use Rattle.hv_base.specs.declared.ids.Limits.{Limits}
use Rattle.hv_base.specs.declared.ids.TxnId.{TxnId}
use Rattle.hv_shelf.specs.declared.place.Place.{Place}
use Rattle.hv_shelf.specs.Disk.{Store}
use Rattle.hv_logic.specs.declared.catalog.TableInfo.{TableInfo}
use Rattle.hv_rowfile.specs.declared.record.Rec.{Rec}
use Rattle.hv_history.specs.declared.entry.Entry.{Entry}
use Rattle.hv_history.specs.declared.state.Transaction.{Transaction}
use Rattle.hv_history.specs.State.{state_of, numbered}
use Rattle.hv_history.specs.Legal.{is_open}
use Rattle.hv_earlier.specs.Lists.{catalog_at, info_of_name}
use Rattle.hv_stands.specs.Reading.{table_of_name}
use Rattle.hv_stands.proofs.Numbers.{found}
use Rattle.hv_finals.specs.hv_law_made.specs.Standing.{Standing, HasFile, IsEncodingOf}
use Rattle.hv_finals.specs.hv_law_made.proofs.BookLemmas.{books-are-sound}
use Rattle.hv_law_read.proofs.NeedLemmas.{needed-stands}
use Rattle.hv_house.specs.declared.house.House.{House}
use Rattle.hv_house.specs.House.{entries_of, IsReadyWithin}
use Rattle.hv_house.specs.Listing.{IsNeeded, info_in}
use Rattle.hv_house.proofs.Past.{infos-named}

-- ---- what is found

pub on-found : {T E : Type 0} (r : Result T E) (P Q : T → Type 0) → ((x : T) → P x → Q x) → IfOk r P → IfOk r Q
on-found (Ok x) P Q f p = f x p
on-found (Err e) P Q f p = tt

pub found-named : (book : List Entry) (place : ℕ) (entries : List Entry) → entries ≡ book → (name : List ℕ)
    → (found : Option TableInfo) → found ≡ info_of_name name (catalog_at entries place)
    → found ≡ option_map info_in (table_of_name name (state_of (take place book)).tables)
found-named book place entries is name found named =
    named ∙ ap (λ b. info_of_name name (catalog_at b place)) is ∙ infos-named name (state_of (take place book)).tables

-- ---- the bytes of a file

some-same : (x y : List ℕ) → Some x ≡ Some y → x ≡ y
some-same x y e = cc

module _ {D : Type 0} (limits : Limits) (told : D → Option Store) (house : House D) (by : TxnId) (place : Place) (deletes : Bool) (recs : List Rec)
    (ready : IsReadyWithin limits told house) (is : IsNeeded told house by place deletes recs) where
  abbrev Stands : Store → Type 0
  Stands s = HasFile deletes place.bucket recs (tree.get s.tree place)

  -- what the transaction needs stands in this store
  file-stands : (s : Store) → Standing (state_of (entries_of house)) s.tree → Stands s
  file-stands s standing =
      let reader = found (λ (t : Transaction). IsTrue (is_open t)) (numbered (state_of (entries_of house)).transactions by.0) is.unended in
      needed-stands (state_of (entries_of house)) s.tree by.0 reader.0 place deletes recs (books-are-sound limits (entries_of house) ready.fit) standing
      reader.1 reader.2 is.live is.needed

  file-told : Tells (told house.shelf) Stands
  file-told = of (told house.shelf) is.stands
    where
      of : (o : Option Store) → Tells o (λ s. Standing (state_of (entries_of house)) s.tree) → Tells o Stands
      of None standing = tt
      of (Some s) standing = file-stands s standing

  -- so these are its bytes
  pub needed-got : {V : Type 0} (items : V → List ℕ) (file : Option V) (got : V) → file ≡ Some got
      → Tells (told house.shelf) (λ s. option_map items file ≡ tree.get s.tree place)
      → Tells (told house.shelf) (λ _. IsEncodingOf deletes place.bucket recs (items got))
  needed-got items file got same at = of (told house.shelf) file-told at
    where
      of : (o : Option Store) → Tells o Stands → Tells o (λ s. option_map items file ≡ tree.get s.tree place)
          → Tells o (λ _. IsEncodingOf deletes place.bucket recs (items got))
      of None stands here = tt
      of (Some s) stands here =
          let bytes_are : items got ≡ stands.bytes = some-same (items got) stands.bytes (sym (ap (option_map items) same) ∙ here ∙ stands.is) in
          subst (IsEncodingOf deletes place.bucket recs) (sym bytes_are) stands.encodes

  -- and it isn't missed
  pub needed-found : {V : Type 0} (items : V → List ℕ) (file : Option V) → file ≡ None
      → Tells (told house.shelf) (λ s. option_map items file ≡ tree.get s.tree place) → Tells (told house.shelf) (λ _. ⊥)
  needed-found items file same at = of (told house.shelf) file-told at
    where
      of : (o : Option Store) → Tells o Stands → Tells o (λ s. option_map items file ≡ tree.get s.tree place) → Tells o (λ _. ⊥)
      of None stands here = tt
      of (Some s) stands here = let never : None ≡ Some stands.bytes = sym (ap (option_map items) same) ∙ here ∙ stands.is in cc
