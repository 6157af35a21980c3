-- Whether the files that were read have as many records as commits say: from one file to all of a table.
use Rattle.std.proofs.Common.{◌≡◌, ℕ, zero, suc, ◌+◌, ◌<◌, inl, inr, Bool, true, false, cond, filter, Option, Some, None, Result, Ok, Err, List, [], ◌∷◌, ◌++◌, length, map, take, get_or, refl, sym, ap, ◌∙◌, subst, arith, length-append, length-take}
use Rattle.std.specs.Prelude.{IfErr, IsErrAnd}
use Rattle.std.specs.List.{flat_map, Contains}
use Rattle.std.proofs.lemmas.List.Concat.{flat_map-cons}
use Rattle.hv_base.specs.Told.{Tells}
use Rattle.hv_shelf.specs.declared.place.Place.{Place}
use Rattle.hv_shelf.specs.Disk.{Store, Tree, places_of}
use Rattle.hv_logic.specs.declared.catalog.TableInfo.{TableInfo}
use Rattle.hv_wids.specs.WriteIds.{WriteIds}
use Rattle.hv_choosing.specs.declared.listing.DirFile.{DirFile}
use Rattle.hv_choosing.specs.Dirs.{span_of}
use Rattle.hv_choosing.specs.Taken.{files_taken}
use Rattle.hv_rowfile.specs.declared.record.Rec.{Rec}
use Rattle.hv_history.specs.declared.entry.FilePlace.{FilePlace}
use Rattle.hv_table_rows.specs.Reading.{HoldsAt, Sheet, is_file_wanted, files_wanted, Reads}
use Rattle.hv_table_rows.specs.Damage.{IsOneDamaged}
use Rattle.hv_law_dues.specs.hv_counts.specs.declared.counted.Counted.{Counted}
use Rattle.hv_law_dues.specs.hv_counts.specs.declared.due.Due.{Due}
use Rattle.hv_law_dues.specs.hv_counts.specs.Counts.{AreOwn, IsCounted, due_at, dues_wanted}
use Rattle.hv_law_dues.specs.hv_counts.specs.Miscounts.{counted_of, AreCounted, IsMiscounted}
use Rattle.hv_law_dues.specs.hv_counts.specs.Files.{IsUncounted, IsToldUncounted}
use Rattle.hv_table_reader.specs.declared.fault.RowFault.{RowFault}
use Rattle.hv_table_reader.specs.declared.fault.RowFault.TheVariants as fault
use Rattle.hv_table_reader.specs.Damage.{IsDamage}
use Rattle.hv_acts.specs.Counting.{AreAsMany}
use Rattle.hv_table_reader.specs.Counting.{counted_at, counted_in, CountsUpTo, TellsUncounted, HasKindCounts, dues_if, IsKindUncounted, IsOfAsked, TellsKind, IsAmissOf}
use Rattle.hv_table_reader.specs.declared.wanting.Wanted.{Wanted}
use Rattle.hv_table_reader.specs.Steady.{is_asked, AreWanted}
use Rattle.hv_table_reader.proofs.Sheets.{reads-none, reads-next, spoiled-told}

-- ---- what was counted

pub counts-none : (o : Option Store) (deletes : Bool) (counts : List Counted) → counts ≡ [] → CountsUpTo o deletes [] counts
counts-none o deletes counts none = subst (CountsUpTo o deletes []) (sym none) (record { many = refl; reads = by o })
  where
    by : (o : Option Store) → Tells o (λ s. Reads deletes s.tree [] (counted_in deletes) [])
    by None = tt
    by (Some s) = reads-none deletes s.tree (counted_in deletes)

-- of so many files, one more was counted
pub counts-next : (first before : Option Store) (deletes : Bool) (taken : List DirFile) (i : ℕ) (file : DirFile) (counts all : List Counted) (recs : List Rec)
    → i < length taken → file ≡ get_or taken i file → before ≡ first → CountsUpTo first deletes (take i taken) counts
    → Tells before (λ s. HoldsAt s.tree file.place deletes (span_of file.dir) recs) → all ≡ counts ++ counted_at deletes file.place recs ∷ []
    → CountsUpTo first deletes (take (i + 1) taken) all
counts-next first before deletes taken i file counts all recs low at same done held added = record {
  many =
      (let grown : length all ≡ length counts + 1 = ap length added ∙ length-append counts (counted_at deletes file.place recs ∷ []) in
      let many = done.many in
      omega (arith, grown, many, low, length-take i taken, length-take (i + 1) taken));
  reads = reads-next first before deletes taken i file (counted_in deletes) counts (counted_at deletes file.place recs ∷ []) all recs low at same done.reads held refl added;
}

each-one : {A B : Type 0} (f : A → B) (xs : List A) → flat_map (λ x. f x ∷ []) xs ≡ map f xs
each-one f [] = refl
each-one f (x ∷ xs) = flat_map-cons (λ y. f y ∷ []) x xs ∙ ap (λ ys. f x ∷ ys) (each-one f xs)

are-counted : (deletes : Bool) (files : Tree) (taken : List DirFile) (counts : List Counted) (reads : Reads deletes files taken (counted_in deletes) counts)
    → AreCounted deletes taken counts reads.sheets
are-counted deletes files taken counts reads = record {
  files_are = reads.files_are;
  counts_are = sym (reads.items_are ∙ each-one (counted_of deletes) reads.sheets);
}

-- ---- the files of a kind

pub kind-counted : (o : Option Store) (deletes : Bool) (taken : List DirFile) (asked : Bool) (counts : List Counted) (dues : List Due) → CountsUpTo o deletes taken counts
    → ((sheets : List Sheet) → AreCounted deletes taken counts sheets → AreOwn taken → asked ≡ true → IsCounted deletes dues sheets)
    → Tells o (λ s. HasKindCounts deletes s.tree taken asked dues)
kind-counted None deletes taken asked counts dues done all = tt
kind-counted (Some s) deletes taken asked counts dues done all =
    let reads = done.reads in
    record {
      sheets = reads.sheets;
      files_are = reads.files_are;
      each = reads.each;
      counted = all reads.sheets (are-counted deletes s.tree taken counts reads);
    }

pub kind-told : (o : Option Store) (deletes : Bool) (table : ℕ) (taken : List DirFile) (asked : Bool) (counts : List Counted) (dues : List Due) (why : RowFault)
    → CountsUpTo o deletes taken counts
    → ((sheets : List Sheet) → AreCounted deletes taken counts sheets → TellsUncounted deletes table dues sheets why) → IsOfAsked asked why
    → Tells o (λ s. TellsKind deletes table s.tree taken (dues_if asked dues) why)
kind-told None deletes table taken asked counts dues why done all own = tt
kind-told (Some s) deletes table taken asked counts dues (fault.Damaged told) done all own =
    let reads = done.reads in
    let is = all reads.sheets (are-counted deletes s.tree taken counts reads) in
    inr (record { sheets = reads.sheets; files_are = reads.files_are; each = reads.each; asks = own; place = is.0; place_is = is.1; miscounted = is.2 })
kind-told (Some s) deletes table taken asked counts dues (fault.House why) done all own = tt

pub of-asked : (asked : Bool) (why : RowFault) → asked ≡ true → IsOfAsked asked why
of-asked asked (fault.Damaged told) is = is
of-asked asked (fault.House why) is = tt

-- what is passed up
pub err-up : {T : Type 0} (P : RowFault → Type 0) (result : Result T RowFault) (why : RowFault) → IsErrAnd result (λ w. w ≡ why) → P why → IfErr result P
err-up P (Ok x) why left given = absurd left
err-up P (Err w) why left given = subst P (sym left) given

-- ---- the files of a table

miscounted-as : (deletes : Bool) (table : ℕ) (dues others : List Due) (sheets : List Sheet) (place : Place) (at : ℕ) → AreAsMany dues others
    → IsMiscounted deletes table dues sheets place at → IsMiscounted deletes table others sheets place at
miscounted-as deletes table dues others sheets place at same is = record {
  own = is.own;
  write = is.write;
  differ = λ e. is.differ (e ∙ sym (same (due_at deletes is.write place.partition)));
  told = is.told;
}

-- what is kept of a list is in it
kept-contained : {X : Type 0} (p : X → Bool) (xs : List X) (x : X) → Contains (filter p xs) x → Contains xs x
kept-contained p [] x among = among
kept-contained p (y ∷ xs) x among = by (p y) among (kept-contained p xs x)
  where
    more : Contains xs x → Contains (y ∷ xs) x
    more h = let low = h.1 in (suc h.0, omega (arith, low), h.2)

    at : (i : ℕ) → i < length (y ∷ filter p xs) → get_or (y ∷ filter p xs) i x ≡ x → (Contains (filter p xs) x → Contains xs x) → Contains (y ∷ xs) x
    at zero low e rest = (zero, omega arith, e)
    at (suc i) low e rest = more (rest (i, omega (arith, low), e))

    by : (b : Bool) → Contains (cond b (y ∷ filter p xs) (filter p xs)) x → (Contains (filter p xs) x → Contains xs x) → Contains (y ∷ xs) x
    by true h rest = at h.0 h.1 h.2 rest
    by false h rest = more (rest h)

module _ (wants : List ℕ → Bool) (info : TableInfo) (wanted : Wanted) where
  abbrev list : WriteIds
  list = wanted.listing.list

  abbrev pub of_kind : Bool → List DirFile
  of_kind true = wanted.listing.deletes.items
  of_kind false = wanted.listing.inserts.items

  kind-is : (kind : Bool) (files : Tree) (taken : AreWanted wants info files wanted) → of_kind kind ≡ files_wanted wants (files_taken kind list taken.named)
  kind-is true files taken = taken.deletes_are
  kind-is false files taken = taken.inserts_are

  told-one : (s : Store) (kind : Bool) (others : List Due) (told : FilePlace) → AreAsMany wanted.dues.items (dues_wanted wants others) → AreWanted wants info s.tree wanted
      → IsKindUncounted kind info.table.0 s.tree (of_kind kind) (dues_if (is_asked wanted kind) wanted.dues.items) told → IsToldUncounted wants info list s.tree others told
  told-one s kind others told same taken is =
      let own = taken.asks kind is.asks in
      record {
        deletes = kind;
        sheets = is.sheets;
        read = record { named = taken.named; listed = taken.listed; files_are = is.files_are ∙ kind-is kind s.tree taken; each = is.each };
        own = own.0;
        beside = own.1;
        place = is.place;
        place_is = is.place_is;
        miscounted = miscounted-as kind info.table.0 wanted.dues.items (dues_wanted wants others) is.sheets is.place told.at same is.miscounted;
      }

  uncounted-one : (files : Tree) (dues : List Due) (told : FilePlace) → IsToldUncounted wants info list files dues told → IsUncounted wants info list files dues
  uncounted-one files dues told is = record {
    deletes = is.deletes;
    sheets = is.sheets;
    read = is.read;
    own = is.own;
    beside = is.beside;
    differ = λ counted. is.miscounted.differ (counted is.miscounted.write is.place.partition);
  }

  -- a file that is wanted is one of those that are taken
  damaged-one : (s : Store) (kind : Bool) (told : FilePlace) (taken : AreWanted wants info s.tree wanted) → IsOneDamaged kind s.tree (of_kind kind) told
      → IsOneDamaged kind s.tree (files_taken kind list taken.named) told
  damaged-one s kind told taken is = record {
    one = is.one;
    among = kept-contained (is_file_wanted wants) (files_taken kind list taken.named) is.one
        (subst (λ (files : List DirFile). Contains files is.one) (kind-is kind s.tree taken) is.among);
    file = is.file;
  }

  pub amiss-so : (o : Option Store) (kind : Bool) (others : List Due) (why : RowFault) → AreAsMany wanted.dues.items (dues_wanted wants others)
      → Tells o (λ s. AreWanted wants info s.tree wanted)
      → Tells o (λ s. TellsKind kind info.table.0 s.tree (of_kind kind) (dues_if (is_asked wanted kind) wanted.dues.items) why) → IsDamage why
      → Tells o (λ s. IsAmissOf wants info list s.tree others)
  amiss-so None kind others why same taken told damage = tt
  amiss-so (Some s) kind others (fault.House why) same taken told damage = absurd damage
  amiss-so (Some s) kind others (fault.Damaged place) same taken (inl one) damage =
      inl (spoiled-told info list (Some s) (places_of info.table s.tree) taken.named kind (files_taken kind list taken.named) (fault.Damaged place) refl taken.listed refl
      (damaged-one s kind place taken one) tt)
  amiss-so (Some s) kind others (fault.Damaged place) same taken (inr is) damage = inr (uncounted-one s.tree others place (told-one s kind others place same taken is))
