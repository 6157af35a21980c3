-- The files that are worked out by hand.
use Rattle.std.proofs.Common.{refl, ◌≡◌, ℕ, ◌<◌, ◌≤◌, Bool, true, false, Some, List, [], ◌∷◌, ◌++◌, filter, map, sym, ap, ◌∙◌, subst, arith}
use Rattle.std.specs.List.{flat_map}
use Rattle.std.specs.FinMap as finmap
use Rattle.hv_base.specs.declared.ids.RowId.{RowId}
use Rattle.hv_base.specs.Identifiers.{row_id_cmp}
use Rattle.hv_shelf.specs.declared.place.Place.{Place}
use Rattle.hv_shelf.specs.declared.place.DirAt.{DirAt}
use Rattle.hv_shelf.specs.Places.{place_cmp, is_in, is_of}
use Rattle.hv_shelf.specs.Disk.{places_of}
use Rattle.hv_logic.specs.declared.effect.Found.{Found}
use Rattle.hv_rowfile.specs.declared.record.Rec.{Rec}
use Rattle.hv_rowfile.specs.Layout.{file_spelling, IsFile}
use Rattle.hv_table.specs.Decimal.{fixed_digits}
use Rattle.hv_dirs.specs.Names.{own_name, write_end, statement_end}
use Rattle.hv_dirs.specs.Choice.{Own, chosen_above, sight_of}
use Rattle.hv_base.specs.Sorting.{rising_by}
use Rattle.hv_choosing.specs.declared.listing.DirFile.{DirFile}
use Rattle.hv_choosing.specs.Taken.{delta_name}
use Rattle.hv_choosing.specs.Listing.{AreListed}
use Rattle.hv_stands.specs.Files.{own_dir}
use Rattle.hv_law_visible.specs.Visible.{is_visible, by_id}
use Rattle.hv_law_visible.specs.Snapshots.{Fate, Open, Committed, list_at}
use Rattle.hv_law_partitions.specs.Partitions.{id_of}
use Rattle.hv_law_directories.specs.Reading.{Reading, IsReading}
use Rattle.hv_law_directories.specs.Directories.{dir_of, read_by, recs_in, inserted_by, deleted_by}
use Rattle.hv_law_directories.specs.Worked.{north, south, info, id, found, inserted, deleted, deleted_north, first_north, second_north, broken_north, first_south, files, tree_of_files, in_own, listing, directories, shown, DirectoriesByHand}

-- ---- each record can be written

insert-file : (bucket : ℕ) → bucket < 4294967296 → IsFile false bucket (inserted bucket)
insert-file bucket small = record {
  can_write = record {
    each = ((refl, record { bucket_same = refl; written = omega arith }, record { count = omega arith; short = omega arith; values = tt }), tt);
    rising = (tt, tt);
  };
  fits = ((record { write = omega arith; statement = omega arith; row = omega arith }, tt), tt);
  bucket_fits = omega (arith, small);
  count_fits = omega arith;
}

delete-file : IsFile true 0 deleted
delete-file = record {
  can_write = record { each = ((refl, record { bucket_same = refl; written = omega arith }, omega arith), tt); rising = (tt, tt) };
  fits = ((record { write = omega arith; statement = omega arith; row = omega arith }, omega arith), tt);
  bucket_fits = omega arith;
  count_fits = omega arith;
}

-- ---- the names of its directories

-- one more file, in an own directory
next : (place : Place) (deletes : Bool) (write : ℕ) (places : List Place) (rest : List DirFile) → 1 ≤ write → write < write_end → own_dir deletes write 0 ≡ place.dir
    → AreListed places rest → AreListed (place ∷ places) (in_own place deletes write ∷ rest)
next place deletes write places rest first last is more =
    let least : 0 < statement_end = omega arith in
    (Some (in_own place deletes write), rest, (refl, (((first, last), least), is)), refl, more)

abbrev keys_of : List (Place × List ℕ) → List Place
keys_of es = map (λ (e : Place × List ℕ). e.0) es

later-listed : AreListed (second_north ∷ broken_north ∷ first_south ∷ []) (in_own second_north false 1 ∷ in_own broken_north false 3 ∷ in_own first_south false 1 ∷ [])
later-listed =
    next second_north false 1 (broken_north ∷ first_south ∷ []) (in_own broken_north false 3 ∷ in_own first_south false 1 ∷ []) (omega arith) (omega arith) refl
    (next broken_north false 3 (first_south ∷ []) (in_own first_south false 1 ∷ []) (omega arith) (omega arith) refl
    (next first_south false 1 [] [] (omega arith) (omega arith) refl refl))

listed-by-hand : AreListed (places_of info.table tree_of_files) listing
unfolding place_cmp own_name fixed_digits
listed-by-hand =
    subst (λ (ps : List Place). AreListed (filter (is_of info.table) ps) listing) (sym (ap keys_of (finmap.entries-from_sorted place_cmp files tt)))
    (next deleted_north true 2 (first_north ∷ second_north ∷ broken_north ∷ first_south ∷ [])
    (in_own first_north false 1 ∷ in_own second_north false 1 ∷ in_own broken_north false 3 ∷ in_own first_south false 1 ∷ []) (omega arith) (omega arith) refl
    (next first_north false 1 (second_north ∷ broken_north ∷ first_south ∷ []) (in_own second_north false 1 ∷ in_own broken_north false 3 ∷ in_own first_south false 1 ∷ [])
    (omega arith) (omega arith) refl later-listed))

-- ---- what they hold

module _ (read : Reading) (reads : IsReading read) where
  abbrev recs_among : Bool → DirAt → List Rec
  recs_among deletes dir =
      flat_map (λ (place : Place). read_by (read deletes place.bucket) (finmap.find place_cmp place files))
      (filter (is_in dir) (filter (is_of dir.table) (keys_of files)))

  recs-same : (deletes : Bool) (dir : DirAt) → recs_in read deletes tree_of_files dir ≡ recs_among deletes dir
  unfolding place_cmp own_name fixed_digits
  recs-same deletes dir = λ i.
      flat_map (λ (place : Place). read_by (read deletes place.bucket) (finmap.get-from_sorted place_cmp files place tt i))
      (filter (is_in dir) (filter (is_of dir.table) (keys_of (finmap.entries-from_sorted place_cmp files tt i))))

  north-inserts : (directories read north).inserts (Own 1 0) ≡ found north 0 ∷ found north 1 ∷ []
  unfolding place_cmp own_name fixed_digits
  north-inserts =
      let first : read false 0 (file_spelling false 0 (inserted 0)) ≡ inserted 0 = reads false 0 (inserted 0) (insert-file 0 (omega arith)) in
      let second : read false 1 (file_spelling false 1 (inserted 1)) ≡ inserted 1 = reads false 1 (inserted 1) (insert-file 1 (omega arith)) in
      ap (flat_map (inserted_by info.shape north)) (recs-same false (dir_of info north (delta_name false (Own 1 0))))
      ∙ (λ i. flat_map (inserted_by info.shape north) (first i ++ (second i ++ [])))

  south-inserts : (directories read south).inserts (Own 1 0) ≡ found south 0 ∷ []
  unfolding place_cmp own_name fixed_digits
  south-inserts =
      let first : read false 0 (file_spelling false 0 (inserted 0)) ≡ inserted 0 = reads false 0 (inserted 0) (insert-file 0 (omega arith)) in
      ap (flat_map (inserted_by info.shape south)) (recs-same false (dir_of info south (delta_name false (Own 1 0))))
      ∙ (λ i. flat_map (inserted_by info.shape south) (first i ++ []))

  north-deletes : (directories read north).deletes (Own 2 0) ≡ (id 0, 2) ∷ []
  unfolding place_cmp own_name fixed_digits
  north-deletes =
      let first : read true 0 (file_spelling true 0 deleted) ≡ deleted = reads true 0 deleted delete-file in
      ap (flat_map deleted_by) (recs-same true (dir_of info north (delta_name true (Own 2 0))))
      ∙ (λ i. flat_map deleted_by (first i ++ []))

  -- ---- what they show

  abbrev shown_of : List Fate → List (RowId × ℕ) → List Found → List Found
  shown_of fates deletes rows = rising_by (by_id id_of) (filter (λ (f : Found). is_visible (sight_of (list_at fates)) deletes (id_of f)) rows)

  shown-before : shown read (Committed ∷ Open ∷ Open ∷ []) north ≡ found north 0 ∷ found north 1 ∷ []
  unfolding chosen_above row_id_cmp
  shown-before = λ i. shown_of (Committed ∷ Open ∷ Open ∷ []) [] (north-inserts i ++ (north-inserts i ++ []))

  shown-after : shown read (Committed ∷ Committed ∷ Open ∷ []) north ≡ found north 1 ∷ []
  unfolding chosen_above row_id_cmp
  shown-after = λ i. shown_of (Committed ∷ Committed ∷ Open ∷ []) (north-deletes i ++ []) (north-inserts i ++ (north-inserts i ++ []))

  shown-south : shown read (Committed ∷ Committed ∷ Open ∷ []) south ≡ found south 0 ∷ []
  unfolding chosen_above row_id_cmp
  shown-south = λ i. shown_of (Committed ∷ Committed ∷ Open ∷ []) [] (south-inserts i ++ [])

pub directories-by-hand : DirectoriesByHand
directories-by-hand read reads = record {
  listed = listed-by-hand;
  deltas = refl;
  delete_deltas = refl;
  bases = refl;
  inserts = north-inserts read reads;
  deletes = north-deletes read reads;
  others = south-inserts read reads;
  no_deletes = refl;
  before = shown-before read reads;
  after = shown-after read reads;
  after_south = shown-south read reads;
}
