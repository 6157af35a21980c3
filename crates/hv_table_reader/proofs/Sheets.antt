-- Files that were read, one after another.
use Rattle.std.proofs.Common.{◌≡◌, ℕ, ◌+◌, ◌<◌, inr, Bool, true, false, not, Option, Some, None, List, [], ◌∷◌, ◌++◌, map, length, get_or, take, refl, sym, ap, ◌∙◌, subst, append-nil, IsPermutation, IfErr, Result, Err}
use Rattle.std.specs.FinMap as tree
use Rattle.std.specs.Ordering.{is_eq}
use Rattle.std.specs.List.{flat_map, Contains}
use Rattle.std.proofs.lemmas.List.{take_more}
use Rattle.std.proofs.lemmas.List.Elements.{filter-append, Contains-get_or}
use Rattle.std.proofs.lemmas.List.Concat.{flat_map-cons}
use Rattle.std.proofs.lemmas.Grind.{flat_map-append}
use Rattle.std.proofs.lemmas.List.Sorted.{list_any-IsPermutation}
use Rattle.hv_base.specs.Told.{Tells}
use Rattle.hv_shelf.specs.declared.place.Place.{Place}
use Rattle.hv_shelf.specs.Disk.{Store, Tree, places_of}
use Rattle.hv_logic.specs.declared.catalog.TableInfo.{TableInfo}
use Rattle.hv_logic.specs.declared.effect.Found.{Found}
use Rattle.hv_logic.specs.Rows.{found_cmp}
use Rattle.hv_wids.specs.WriteIds.{WriteIds}
use Rattle.hv_choosing.specs.declared.dir.Span.{Span}
use Rattle.hv_choosing.specs.declared.listing.DirFile.{DirFile}
use Rattle.hv_choosing.specs.Dirs.{span_of}
use Rattle.hv_choosing.specs.Listing.{AreListed}
use Rattle.hv_choosing.specs.Taken.{files_taken}
use Rattle.hv_rowfile.specs.declared.record.Rec.{Rec}
use Rattle.hv_rowfile.specs.Layout.{IsFile, file_spelling}
use Rattle.hv_rowfile.proofs.Books.{file_one}
use Rattle.hv_history.specs.declared.entry.FilePlace.{FilePlace}
use Rattle.hv_table_rows.specs.declared.row_at.RowAt.{RowAt}
use Rattle.hv_table_rows.specs.Orders.{row_at_cmp}
use Rattle.hv_table_rows.specs.Reading.{HoldsAt, LacksAt, Sheet, sheet_file, IsSheet, Reads, founds_in, deleted_in, at_of, is_gone, left_of, left_in, files_wanted, AreOnce, AreRows, IsSpoiled}
use Rattle.hv_table_rows.specs.Amiss.{first_amiss}
use Rattle.hv_table_rows.specs.Damage.{IsWrongAt, told_place, IsOneDamaged, IsOneSpoiled}
use Rattle.hv_table_rows.proofs.Names.{all-append}
use Rattle.hv_choosing.proofs.Texts.{one, filter-agree}
use Rattle.hv_table_rows.proofs.Fronts.{none-amiss, own-none}
use Rattle.hv_table_reader.specs.declared.fault.RowFault.{RowFault}
use Rattle.hv_table_reader.specs.declared.fault.RowFault.TheVariants as fault
use Rattle.hv_table_reader.specs.Damage.{IsDamage, TellsPlace, TellsFile, TellsOne}
use Rattle.hv_table_reader.specs.declared.wanting.Wanted.{Wanted}
use Rattle.hv_table_reader.specs.Steady.{AreWanted}

-- ---- one file

pub holds : (o : Option Store) (place : Place) (deletes : Bool) (span : Span) (kind : Bool) (other : ℕ) (bytes : List ℕ) (recs : List Rec)
    → Tells o (λ s. Some bytes ≡ tree.get s.tree place) → IsFile kind other recs → bytes ≡ file_spelling kind other recs
    → None ≡ first_amiss deletes place.bucket span kind other recs → Tells o (λ s. HoldsAt s.tree place deletes span recs)
holds None place deletes span kind other bytes recs got file spelled none = tt
holds (Some s) place deletes span kind other bytes recs got file spelled none =
    let meant = none-amiss deletes place.bucket span kind other recs (sym none) in record {
      file = subst (λ k. IsFile k place.bucket recs) (sym meant.0) (subst (λ b. IsFile kind b recs) meant.1 file);
      own = meant.2;
      bytes = sym got ∙ ap Some (spelled ∙ (λ i. file_spelling (sym meant.0 i) (meant.1 i) recs));
    }

pub spelled-so : (deletes : Bool) (bucket : ℕ) (span : Span) (kind : Bool) (other : ℕ) (bytes : List ℕ) (recs : List Rec) → bytes ≡ file_spelling kind other recs
    → None ≡ first_amiss deletes bucket span kind other recs → bytes ≡ file_spelling deletes bucket recs
spelled-so deletes bucket span kind other bytes recs spelled none =
    let meant = none-amiss deletes bucket span kind other recs (sym none) in spelled ∙ (λ i. file_spelling (sym meant.0 i) (meant.1 i) recs)

pub turned : (o : Option Store) (place : Place) (file : Option (List ℕ)) → Tells o (λ s. tree.get s.tree place ≡ file) → Tells o (λ s. file ≡ tree.get s.tree place)
turned None place file got = tt
turned (Some s) place file got = sym got

-- what is told of a file: nothing stands there, or what is no file, or another file
file-told : (files : Tree) (place : Place) (deletes : Bool) (span : Span) (at : ℕ) (why : RowFault) → TellsPlace place at why
    → IsWrongAt deletes place.bucket span (tree.get files place) at → LacksAt files place deletes span → TellsFile files place deletes span why
file-told files place deletes span at (fault.Damaged told) is wrong none = record {
  place_is = is ∙ ap (told_place place) (sym (ap (λ (p : FilePlace). p.at) is));
  wrong = subst (IsWrongAt deletes place.bucket span (tree.get files place)) (sym (ap (λ (p : FilePlace). p.at) is)) wrong;
  lacks = none;
}
file-told files place deletes span at (fault.House cause) is wrong none = tt

pub tells-other : (o : Option Store) (place : Place) (deletes : Bool) (span : Span) (at : ℕ) (kind : Bool) (other : ℕ) (bytes : List ℕ) (recs : List Rec) (why : RowFault)
    → TellsPlace place at why → Tells o (λ s. Some bytes ≡ tree.get s.tree place) → IsFile kind other recs → bytes ≡ file_spelling kind other recs
    → Some at ≡ first_amiss deletes place.bucket span kind other recs → Tells o (λ s. TellsFile s.tree place deletes span why)
tells-other None place deletes span at kind other bytes recs why is got file spelled some = tt
tells-other (Some s) place deletes span at kind other bytes recs why is got file spelled some =
    file-told s.tree place deletes span at why is
    (subst (λ (o : Option (List ℕ)). IsWrongAt deletes place.bucket span o at) got
    (inr (record { kind = kind; other = other; recs = recs; file = file; bytes_are = spelled; at_is = some })))
    (λ others held.
    let same = file_one kind deletes other place.bucket recs others [] file held.file (append-nil (file_spelling kind other recs) ∙ sym spelled ∙ one (got ∙ held.bytes)) in
    let never : Some at ≡ None =
    some ∙ (λ i. first_amiss deletes place.bucket span (same.1 i) (same.2 i) (same.3 i)) ∙ own-none deletes place.bucket span others held.own in cc)

-- ---- files, one after another

pub reads-none : {X : Type 0} (deletes : Bool) (files : Tree) (pick : Sheet → List X) → Reads deletes files [] pick []
reads-none deletes files pick = record { sheets = []; files_are = refl; each = tt; items_are = refl }

map-append : {A B : Type 0} (f : A → B) (xs ys : List A) → map f (xs ++ ys) ≡ map f xs ++ map f ys
map-append f [] ys = refl
map-append f (x ∷ xs) ys = ap (λ (z : List _). f x ∷ z) (map-append f xs ys)

module _ {X : Type 0} (deletes : Bool) (pick : Sheet → List X) where
  reads-one : (files : Tree) (taken : List DirFile) (file : DirFile) (items more : List X) (recs : List Rec) → Reads deletes files taken pick items
      → HoldsAt files file.place deletes (span_of file.dir) recs → more ≡ pick (record { file = file; recs = recs })
      → Reads deletes files (taken ++ file ∷ []) pick (items ++ more)
  reads-one files taken file items more recs reads held picked =
      let sheet : Sheet = record { file = file; recs = recs } in
      record {
        sheets = reads.sheets ++ sheet ∷ [];
        files_are = map-append sheet_file reads.sheets (sheet ∷ []) ∙ ap (λ (fs : List DirFile). fs ++ file ∷ []) reads.files_are;
        each = all-append (IsSheet deletes files) reads.sheets (sheet ∷ []) reads.each (held, tt);
        items_are = (λ i. reads.items_are i ++ picked i) ∙ ap (λ (xs : List X). flat_map pick reads.sheets ++ xs) (sym (append-nil (pick sheet)) ∙ sym (flat_map-cons pick sheet []))
            ∙ sym (flat_map-append pick reads.sheets (sheet ∷ []));
      }

  pub reads-more : (o : Option Store) (taken : List DirFile) (file : DirFile) (items more : List X) (recs : List Rec) → Tells o (λ s. Reads deletes s.tree taken pick items)
      → Tells o (λ s. HoldsAt s.tree file.place deletes (span_of file.dir) recs) → more ≡ pick (record { file = file; recs = recs })
      → Tells o (λ s. Reads deletes s.tree (taken ++ file ∷ []) pick (items ++ more))
  reads-more None taken file items more recs reads held picked = tt
  reads-more (Some s) taken file items more recs reads held picked = reads-one s.tree taken file items more recs reads held picked

pub one-told : (o : Option Store) (deletes : Bool) (taken : List DirFile) (file : DirFile) (why : RowFault) → Contains taken file
    → Tells o (λ s. TellsFile s.tree file.place deletes (span_of file.dir) why) → Tells o (λ s. TellsOne deletes s.tree taken why)
one-told None deletes taken file why among told = tt
one-told (Some s) deletes taken file (fault.Damaged place) among told = record { one = file; among = among; file = told }
one-told (Some s) deletes taken file (fault.House cause) among told = tt

-- what is passed up of a file that is damaged
pub err-told : {T : Type 0} (first before : Option Store) (deletes : Bool) (taken : List DirFile) (i : ℕ) (file : DirFile) (result : Result T RowFault) (why same : RowFault)
    → result ≡ Err same → same ≡ why → i < length taken → file ≡ get_or taken i file → before ≡ first
    → Tells before (λ s. TellsFile s.tree file.place deletes (span_of file.dir) why)
    → IfErr result (λ w. Tells first (λ s. TellsOne deletes s.tree taken w))
err-told {T = T} first before deletes taken i file result why same is e low at told given =
    subst (λ (r : Result T RowFault). IfErr r (λ w. Tells first (λ s. TellsOne deletes s.tree taken w))) (sym is)
    (subst (λ (w : RowFault). Tells first (λ s. TellsOne deletes s.tree taken w)) (sym e)
    (one-told first deletes taken file why (subst (Contains taken) (sym at) (Contains-get_or taken i file low))
    (subst (λ (o : Option Store). Tells o (λ s. TellsFile s.tree file.place deletes (span_of file.dir) why)) told given)))

-- of so many files, one more was read
pub reads-next : {X : Type 0} (first before : Option Store) (deletes : Bool) (taken : List DirFile) (i : ℕ) (file : DirFile) (pick : Sheet → List X) (items more all : List X) (recs : List Rec)
    → i < length taken → file ≡ get_or taken i file → before ≡ first → Tells first (λ s. Reads deletes s.tree (take i taken) pick items)
    → Tells before (λ s. HoldsAt s.tree file.place deletes (span_of file.dir) recs) → more ≡ pick (record { file = file; recs = recs }) → all ≡ items ++ more
    → Tells first (λ s. Reads deletes s.tree (take (i + 1) taken) pick all)
reads-next first before deletes taken i file pick items more all recs low at same reads held picked added =
    subst (λ (fs : List DirFile). Tells first (λ s. Reads deletes s.tree fs pick all)) (sym (take_more taken i file low ∙ ap (λ (f : DirFile). take i taken ++ f ∷ []) (sym at)))
    (subst (λ (xs : List _). Tells first (λ s. Reads deletes s.tree (take i taken ++ file ∷ []) pick xs)) (sym added)
    (reads-more deletes pick first (take i taken) file items more recs reads
    (subst (λ (o : Option Store). Tells o (λ s. HoldsAt s.tree file.place deletes (span_of file.dir) recs)) same held) picked))

-- ---- rows

left-same : (gone others : List RowAt) → IsPermutation gone others → (rows : List Found) → left_of others rows ≡ left_of gone rows
left-same gone others permuted rows =
    filter-agree (λ (found : Found). not (is_gone others (at_of found))) (λ (found : Found). not (is_gone gone (at_of found)))
    (λ found. ap not (sym (list_any-IsPermutation (λ (other : RowAt). is_eq (row_at_cmp other (at_of found))) gone others permuted))) rows

left-all : (gone : List RowAt) (f : Sheet → List Found) (sheets : List Sheet) → flat_map (λ sheet. left_of gone (f sheet)) sheets ≡ left_of gone (flat_map f sheets)
left-all gone f [] = refl
left-all gone f (sheet ∷ sheets) =
    flat_map-cons (λ (s : Sheet). left_of gone (f s)) sheet sheets
    ∙ ap (λ (xs : List Found). left_of gone (f sheet) ++ xs) (left-all gone f sheets)
    ∙ sym (filter-append (λ (found : Found). not (is_gone gone (at_of found))) (f sheet) (flat_map f sheets))
    ∙ ap (left_of gone) (sym (flat_map-cons f sheet sheets))

module _ (info : TableInfo) (list : WriteIds) where
  rows-one : (wants : List ℕ → Bool) (s : Store) (places : List Place) (named inserted deleted : List DirFile) (gone others : List RowAt) (rows once : List Found) → places ≡ places_of info.table s.tree
      → AreListed places named → deleted ≡ files_wanted wants (files_taken true list named)
      → inserted ≡ files_wanted wants (files_taken false list named) → IsPermutation gone others
      → Reads true s.tree deleted (deleted_in list) gone → Reads false s.tree inserted (left_in list others info.shape) rows → AreOnce found_cmp rows once
      → AreRows wants info list s.tree once
  rows-one wants s places named inserted deleted gone others rows once are listed dare iare permuted deletes inserts risen = record {
    named = named;
    listed = subst (λ (ps : List Place). AreListed ps named) are listed;
    gone = gone;
    inserted = flat_map (founds_in list info.shape) inserts.sheets;
    deletes = subst (λ (fs : List DirFile). Reads true s.tree fs (deleted_in list) gone) dare deletes;
    inserts = subst (λ (fs : List DirFile). Reads false s.tree fs (founds_in list info.shape) (flat_map (founds_in list info.shape) inserts.sheets)) iare
        (record { sheets = inserts.sheets; files_are = inserts.files_are; each = inserts.each; items_are = refl });
    rows_are = subst (λ (xs : List Found). AreOnce found_cmp xs once)
        (inserts.items_are ∙ left-all others (founds_in list info.shape) inserts.sheets
        ∙ left-same gone others permuted (flat_map (founds_in list info.shape) inserts.sheets)) risen;
  }

  spoiled-one : (s : Store) (places : List Place) (named : List DirFile) (deletes : Bool) (taken : List DirFile) (told : FilePlace) → places ≡ places_of info.table s.tree
      → AreListed places named → taken ≡ files_taken deletes list named → IsOneDamaged deletes s.tree taken told → IsOneSpoiled info list s.tree told
  spoiled-one s places named deletes taken told are listed tare one = record {
    deletes = deletes;
    named = named;
    listed = subst (λ (ps : List Place). AreListed ps named) are listed;
    one = subst (λ (fs : List DirFile). IsOneDamaged deletes s.tree fs told) tare one;
  }

  pub spoiled-told : (o : Option Store) (places : List Place) (named : List DirFile) (deletes : Bool) (taken : List DirFile) (why : RowFault) → Tells o (λ s. places ≡ places_of info.table s.tree)
      → AreListed places named → taken ≡ files_taken deletes list named → Tells o (λ s. TellsOne deletes s.tree taken why) → IsDamage why → Tells o (λ s. IsSpoiled info list s.tree)
  unfolding spoiled-one
  spoiled-told None places named deletes taken why are listed tare one damage = tt
  spoiled-told (Some s) places named deletes taken (fault.Damaged told) are listed tare one damage =
      let file = spoiled-one s places named deletes taken told are listed tare one in record {
        deletes = deletes;
        named = named;
        listed = file.listed;
        lacks = record { one = file.one.one; among = file.one.among; lacks = file.one.file.lacks };
      }
  spoiled-told (Some s) places named deletes taken (fault.House cause) are listed tare one damage = absurd damage

-- ---- of the files that are wanted

module _ (wants : List ℕ → Bool) (info : TableInfo) (wanted : Wanted) where
  pub rows-taken : (o : Option Store) → Tells o (λ s. AreWanted wants info s.tree wanted) → (gone others : List RowAt) (rows once : List Found) → IsPermutation gone others
      → Tells o (λ s. Reads true s.tree wanted.listing.deletes.items (deleted_in wanted.listing.list) gone)
      → Tells o (λ s. Reads false s.tree wanted.listing.inserts.items (left_in wanted.listing.list others info.shape) rows) → AreOnce found_cmp rows once
      → Tells o (λ s. AreRows wants info wanted.listing.list s.tree once)
  rows-taken None are gone others rows once permuted ds is risen = tt
  rows-taken (Some s) are gone others rows once permuted ds is risen =
      rows-one info wanted.listing.list wants s (places_of info.table s.tree) are.named wanted.listing.inserts.items wanted.listing.deletes.items gone others rows once refl
      are.listed are.deletes_are are.inserts_are permuted ds is risen
