-- The files that are taken in a partition are those of the directories that are chosen among its own.
use Rattle.std.proofs.Common.{refl, ◌≡◌, ◌⊎◌, inl, inr, ℕ, zero, suc, Bool, true, false, Some, List, map, filter, length, sym, ap, ◌∙◌, subst, arith, true≢false}
use Rattle.std.specs.FinMap as finmap
use Rattle.std.specs.Ordering.{is_eq, nat_cmp}
use Rattle.std.specs.Cmp.Lexicographic.{slice_cmp}
use Rattle.std.specs.List.{AllByRecursion}
use Rattle.hv_shelf.specs.declared.place.Place.{Place}
use Rattle.hv_shelf.specs.Disk as disk
use Rattle.hv_shelf.specs.Disk.{places_of}
use Rattle.hv_logic.specs.declared.catalog.TableInfo.{TableInfo}
use Rattle.hv_rowfile.specs.declared.record.Rec.{Rec}
use Rattle.hv_rowfile.specs.Layout.{file_spelling}
use Rattle.hv_wids.specs.WriteIds.{WriteIds}
use Rattle.hv_dirs.specs.declared.names.DirName.{DirName}
use Rattle.hv_dirs.specs.Names.{IsName, text_of}
use Rattle.hv_dirs.specs.Choice.{sight_of, Delta, chosen_above, bases_in, deltas_in, delta_cmp}
use Rattle.hv_base.specs.Sorting.{sorted_by}
use Rattle.hv_choosing.specs.declared.dir.Dir.{Dir}
use Rattle.hv_choosing.specs.declared.dir.Dir.TheVariants as dir
use Rattle.hv_choosing.specs.declared.dir.Span.{Span}
use Rattle.hv_choosing.specs.declared.listing.DirFile.{DirFile}
use Rattle.hv_choosing.specs.Dirs.{name_of, IsAt, span_of}
use Rattle.hv_choosing.specs.Listing.{AreListed}
use Rattle.hv_choosing.specs.Taken.{names_of, delta_name, base_text, base_in, delta_text, chosen_texts, is_in_one, run_taken, files_taken, runs}
use Rattle.hv_choosing.proofs.Listed.{listed-place, place-listed}
use Rattle.hv_choosing.proofs.Partitions.{in-run}
use Rattle.hv_choosing.proofs.Searching.{same-text, text-tied}
use Rattle.hv_law_visible.specs.Members.{IsIn}
use Rattle.hv_law_visible.proofs.MemberLemmas.{in-left, in-right, in-either, in-flat, from-flat, in-filter, from-filter, in-map, from-map, any-in, in-any}
use Rattle.hv_law_visible.proofs.ReachedLemmas.{base-is}
use Rattle.hv_law_visible.proofs.SortingLemmas.{from-sorted}
use Rattle.hv_law_visible.proofs.TakenLemmas.{all-in, is-taken}
use Rattle.hv_table_rows.specs.Reading.{HoldsAt, Sheet, sheet_file, files_wanted, partition_in, IsSheet}
use Rattle.hv_table_rows.proofs.Names.{text-same}
use Rattle.hv_choosing.proofs.Texts.{one}
use Rattle.hv_table_rows.proofs.Names as names
use Rattle.hv_table_rows.proofs.TakenFiles.{place-there, there-place}
use Rattle.hv_law_directories.specs.Reading.{Reading, IsReading}
use Rattle.hv_law_directories.specs.Directories.{dir_of, IsThere, base_name, recs_in, is_of, names_in}
use Rattle.hv_law_directories.proofs.DirLemmas.{delta_dir, delta-dir-name, from-recs, to-recs}
use Rattle.hv_law_directories.proofs.GroupLemmas.{listed-rise, runs-are}
use Rattle.hv_law_directories.proofs.ListedLemmas.{base-there, delta-there}

-- what is read of a file that was read is its records
held-read : (read : Reading) → IsReading read → (kind : Bool) (files : disk.Tree) (place other : Place) (span : Span) (bytes : List ℕ) (recs : List Rec)
    → other ≡ place → finmap.get files place ≡ Some bytes → HoldsAt files other kind span recs → read kind place.bucket bytes ≡ recs
held-read read reads kind files place other span bytes recs same is held =
    let bytes_are : bytes ≡ file_spelling kind other.bucket recs = one (sym is ∙ ap (finmap.get files) (sym same) ∙ held.bytes) in
    (λ i. read kind ((sym same i).bucket) (bytes_are i)) ∙ reads kind other.bucket recs held.file

module _ (info : TableInfo) (list : WriteIds) (partition : List ℕ) (files : disk.Tree) (named : List DirFile) (listed : AreListed (places_of info.table files) named) where
  abbrev run : List DirFile
  run = filter (is_of partition) named

  abbrev top : ℕ
  top = base_in (sight_of list) (names_in partition named)

  abbrev chosen : Bool → List Delta
  chosen kind = chosen_above (sight_of list) top (deltas_in kind (names_in partition named))

  -- ---- the names that are chosen

  abbrev IsBaseName : Bool → DirName → Type 0
  IsBaseName true n = ⊥
  IsBaseName false n = (m : ℕ) × (top ≡ suc m) × (base_name (suc m) ≡ n)

  abbrev IsDeltaName : Bool → DirName → Type 0
  IsDeltaName kind n = (d : Delta) × IsIn d (chosen kind) × (delta_name kind d ≡ n)

  abbrev pub IsChosenName : Bool → DirName → Type 0
  IsChosenName kind n = IsBaseName kind n ⊎ IsDeltaName kind n

  abbrev IsTextOf : Bool → List ℕ → Type 0
  IsTextOf kind text = (n : DirName) × IsChosenName kind n × (text_of n ≡ text)

  base-in-text : (b : ℕ) → top ≡ b → (text : List ℕ) → IsIn text (base_text b) → IsTextOf false text
  base-in-text zero is text h = absurd h
  base-in-text (suc m) is text (inl e) = (base_name (suc m), inl (m, is, refl), e)
  base-in-text (suc m) is text (inr none) = absurd none

  delta-in-text : (kind : Bool) (text : List ℕ) → IsIn text (map (delta_text kind) (chosen kind)) → IsTextOf kind text
  delta-in-text kind text h =
      let at = from-map (delta_text kind) text (chosen kind) h in (delta_name kind at.0, inr (at.0, at.1, refl), at.2)

  pub text-in : (kind : Bool) (text : List ℕ) → IsIn text (chosen_texts kind (sight_of list) (names_in partition named)) → IsTextOf kind text
  text-in true text h = delta-in-text true text h
  text-in false text h = elim (in-either text (base_text top) (map (delta_text false) (chosen false)) h) [
    | inl base ↦ base-in-text top refl text base
    | inr delta ↦ delta-in-text false text delta
  ]

  in-base : (b m : ℕ) → b ≡ suc m → IsIn (text_of (base_name (suc m))) (base_text b)
  in-base zero m e = absurd (omega (arith, e))
  in-base (suc k) m e = inl (ap (λ j. text_of (base_name j)) e)

  in-deltas : (kind : Bool) (n : DirName) → IsDeltaName kind n → IsIn (text_of n) (map (delta_text kind) (chosen kind))
  in-deltas kind n (d, at, is) =
      subst (λ m. IsIn (text_of m) (map (delta_text kind) (chosen kind))) is (in-map (delta_text kind) d (chosen kind) at)

  in-text : (kind : Bool) (n : DirName) → IsChosenName kind n → IsIn (text_of n) (chosen_texts kind (sight_of list) (names_in partition named))
  in-text true n (inl base) = absurd base
  in-text true n (inr delta) = in-deltas true n delta
  in-text false n (inl (m, is, same)) =
      subst (λ k. IsIn (text_of k) (chosen_texts false (sight_of list) (names_in partition named))) same
      (in-left (text_of (base_name (suc m))) (base_text top) (map (delta_text false) (chosen false)) (in-base top m is))
  in-text false n (inr delta) = in-right (text_of n) (base_text top) (map (delta_text false) (chosen false)) (in-deltas false n delta)

  -- ---- each is the name of a directory that is there

  pub record IsStanding (n : DirName) : Type 0 where
    pub there : IsThere info partition files n
    pub dir : Dir
    pub name_is : name_of dir ≡ n

  base-stands : (m : ℕ) → top ≡ suc m → IsThere info partition files (base_name (suc m))
  base-stands m is = elim (base-is (sight_of list) (bases_in (names_in partition named))) [
    | inl none ↦ absurd (omega (arith, none, is))
    | inr base ↦ base-there info partition files named listed (suc m) (subst (λ b. IsIn b (bases_in (names_in partition named))) is base.stands)
  ]

  chosen-among : (kind : Bool) (d : Delta) → IsIn d (chosen kind) → IsIn d (deltas_in kind (names_in partition named))
  unfolding chosen_above
  chosen-among kind d h =
      let deltas = deltas_in kind (names_in partition named) in
      from-sorted delta_cmp d deltas
      (is-taken (sight_of list) top top false d (sorted_by delta_cmp deltas) (omega arith) (λ e. absurd (true≢false (sym e))) h).stands

  delta-stands : (kind : Bool) (n : DirName) → IsDeltaName kind n → IsStanding n
  delta-stands kind n (d, at, is) =
      subst IsStanding is (record {
        there = delta-there info partition files named listed kind d (chosen-among kind d at);
        dir = delta_dir kind d;
        name_is = delta-dir-name kind d;
      })

  pub stands : (kind : Bool) (n : DirName) → IsChosenName kind n → IsStanding n
  stands true n (inl base) = absurd base
  stands true n (inr delta) = delta-stands true n delta
  stands false n (inl (m, is, same)) =
      subst IsStanding same (record { there = base-stands m is; dir = dir.Base (record { 0 = suc m }); name_is = refl })
  stands false n (inr delta) = delta-stands false n delta

  -- ---- the files that are taken

  abbrev IsTaken : Bool → DirFile → Type 0
  IsTaken kind file = is_in_one (chosen_texts kind (sight_of list) (names_in partition named)) file ≡ true

  pub taken-here : (kind : Bool) (file : DirFile) → IsIn file (files_taken kind list named) → file.place.partition ≡ partition → IsIn file run × IsTaken kind file
  unfolding files_taken run_taken
  taken-here kind file h here =
      let at = from-flat (run_taken kind (sight_of list)) file (runs (length named) named) h in
      let kept = from-filter (is_in_one (chosen_texts kind (sight_of list) (names_of at.0))) file at.0 at.2 in
      let is : at.0 ≡ run =
      runs-are (length named) named at.0 file (listed-rise info.table files named listed) at.1 kept.0 ∙ ap (λ p. filter (is_of p) named) here in (
        subst (IsIn file) is kept.0,
        ap (λ r. is_in_one (chosen_texts kind (sight_of list) (names_of r)) file) (sym is) ∙ kept.1,
      )

  here-taken : (kind : Bool) (file : DirFile) → IsIn file run → IsTaken kind file → IsIn file (files_taken kind list named)
  unfolding files_taken run_taken
  here-taken kind file h taken =
      let kept = from-filter (is_of partition) file named h in
      let at = in-run (length named) named file (omega arith) kept.0 in
      let is : at.0 ≡ run =
      runs-are (length named) named at.0 file (listed-rise info.table files named listed) at.1 at.2
      ∙ ap (λ p. filter (is_of p) named) (names.same-text file.place.partition partition kept.1) in
      in-flat (run_taken kind (sight_of list)) at.0 file (runs (length named) named) at.1
      (in-filter (is_in_one (chosen_texts kind (sight_of list) (names_of at.0))) file at.0 at.2
      (ap (λ r. is_in_one (chosen_texts kind (sight_of list) (names_of r)) file) is ∙ taken))

  -- a file of a directory that is chosen is taken, under that directory's name
  pub record IsTakenThere (kind : Bool) (n : DirName) (place : Place) : Type 0 where
    pub dir : Dir
    pub name_is : name_of dir ≡ n
    pub taken : IsIn (record { place = place; dir = dir }) (files_taken kind list named)

  pub there-taken : (kind : Bool) (n : DirName) → IsChosenName kind n → (place : Place) (bytes : List ℕ) → place.table.0 ≡ info.table.0
      → place.partition ≡ partition → place.dir ≡ text_of n → finmap.get files place ≡ Some bytes → IsTakenThere kind n place
  there-taken kind n is place bytes table_is partition_is dir_is stands_there =
      let standing = stands kind n is in
      let named_at : IsAt place.dir standing.dir =
      (subst IsName (sym standing.name_is) standing.there.0, ap text_of standing.name_is ∙ sym dir_is) in
      let file : DirFile = record { place = place; dir = standing.dir } in
      let among_named = place-listed (places_of info.table files) named listed place standing.dir
      (place-there info.table files place bytes table_is stands_there) named_at in
      let among_run = in-filter (is_of partition) file named among_named (text-same place.partition partition partition_is) in
      let taken = any-in (λ text. is_eq (slice_cmp nat_cmp text place.dir)) (text_of n) (chosen_texts kind (sight_of list) (names_in partition named))
      (in-text kind n is) (text-tied (text_of n) place.dir (sym dir_is)) in
      record { dir = standing.dir; name_is = standing.name_is; taken = here-taken kind file among_run taken }

  -- ---- and their records

  module _ (wants : List ℕ → Bool) (wanted : wants partition ≡ true) (read : Reading) (reads : IsReading read) (kind : Bool) (sheets : List Sheet)
      (are : map sheet_file sheets ≡ files_wanted wants (files_taken kind list named)) (each : AllByRecursion (IsSheet kind files) sheets) where
    abbrev is_wanted : DirFile → Bool
    is_wanted file = wants file.place.partition

    pub record IsRecOf (r : Rec) : Type 0 where
      pub name : DirName
      pub is_chosen : IsChosenName kind name
      pub among : IsIn r (recs_in read kind files (dir_of info partition name))

    pub sheet-rec : (sheet : Sheet) → IsIn sheet sheets → partition_in sheet ≡ partition → (r : Rec) → IsIn r sheet.recs → IsRecOf r
    sheet-rec sheet h here r g =
        let file : DirFile = sheet.file in
        let held = all-in (IsSheet kind files) sheets sheet each h in
        let of_kind = from-filter is_wanted file (files_taken kind list named) (subst (IsIn file) are (in-map sheet_file sheet sheets h)) in
        let taken = taken-here kind file of_kind.0 here in
        let kept = from-filter (is_of partition) file named taken.0 in
        let text = in-any (λ text. is_eq (slice_cmp nat_cmp text file.place.dir)) (chosen_texts kind (sight_of list) (names_in partition named)) taken.1 in
        let n = text-in kind text.0 text.1 in
        let there = there-place info.table files file.place (listed-place (places_of info.table files) named listed file kept.0) in
        record {
          name = n.0;
          is_chosen = n.1;
          among = to-recs read kind files (dir_of info partition n.0) r (record {
            place = file.place;
            within = record { table_is = there.0; partition_is = here; dir_is = sym (n.2 ∙ same-text text.0 file.place.dir text.2) };
            bytes = file_spelling kind file.place.bucket sheet.recs;
            is = held.bytes;
            among = subst (IsIn r) (sym (reads kind file.place.bucket sheet.recs held.file)) g;
          });
        }

    pub record IsSheetRec (r : Rec) : Type 0 where
      pub sheet : Sheet
      pub among : IsIn sheet sheets
      pub here : partition_in sheet ≡ partition
      pub it : IsIn r sheet.recs

    pub rec-sheet : (n : DirName) → IsChosenName kind n → (r : Rec) → IsIn r (recs_in read kind files (dir_of info partition n)) → IsSheetRec r
    rec-sheet n is r h =
        let at = from-recs read kind files (dir_of info partition n) r h in
        let there = there-taken kind n is at.place at.bytes at.within.table_is at.within.partition_is at.within.dir_is at.is in
        let file : DirFile = record { place = at.place; dir = there.dir } in
        let sheet = from-map sheet_file file sheets
        (subst (IsIn file) (sym are) (in-filter is_wanted file (files_taken kind list named) there.taken (ap wants at.within.partition_is ∙ wanted))) in
        let held = all-in (IsSheet kind files) sheets sheet.0 each sheet.1 in
        let place_is : sheet.0.file.place ≡ at.place = ap (λ (f : DirFile). f.place) sheet.2 in
        let recs_are : read kind at.place.bucket at.bytes ≡ sheet.0.recs =
        held-read read reads kind files at.place sheet.0.file.place (span_of sheet.0.file.dir) at.bytes sheet.0.recs place_is at.is held in
        record {
          sheet = sheet.0;
          among = sheet.1;
          here = ap (λ (p : Place). p.partition) place_is ∙ at.within.partition_is;
          it = subst (IsIn r) recs_are at.among;
        }
