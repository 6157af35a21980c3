-- Which files of a table a reader takes: of each partition those in the directories that are chosen there under its list.
-- Source: Hive Transactions, base and delta directories.
use Rattle.std.specs.Prelude.{ℕ, zero, suc, nat_eq, Bool, true, false, Option, Some, None, List, [], ◌∷◌, ◌++◌, map, filter, take, drop, length, slice_get}
use Rattle.std.specs.List.{flat_map, list_any, prefix_len}
use Rattle.std.specs.Ordering.{is_eq, nat_cmp}
use Rattle.std.specs.Cmp.Lexicographic.{slice_cmp, pointwise}
use Rattle.hv_wids.specs.WriteIds.{WriteIds}
use Rattle.hv_dirs.specs.declared.names.DirName.{DirName}
use Rattle.hv_dirs.specs.declared.names.DirName.TheVariants as name
use Rattle.hv_dirs.specs.Names.{base_name, text_of}
use Rattle.hv_dirs.specs.Choice.{Sight, sight_of, Delta, Own, Wide, base_of, chosen_above, bases_in, deltas_in}
use Rattle.hv_choosing.specs.declared.listing.DirFile.{DirFile}
use Rattle.hv_choosing.specs.Dirs.{name_of}

-- ---- the files of a partition, which stand one behind another

abbrev pub is_beside : DirFile → DirFile → Bool
is_beside first file = pointwise nat_eq file.place.partition first.place.partition

-- how many at the front are of one partition
abbrev pub run_length : List DirFile → ℕ
run_length [] = 0
run_length (first ∷ files) = prefix_len (is_beside first) (first ∷ files)

-- so many times the files of one partition, each behind those of the one before
abbrev pub runs : ℕ → List DirFile → List (List DirFile)
runs zero files = []
runs (suc n) files = take (run_length files) files ∷ runs n (drop (run_length files) files)

-- ---- the names of the directories that are chosen in a partition

abbrev pub names_of : List DirFile → List DirName
names_of run = map (λ (file : DirFile). name_of file.dir) run

abbrev pub delta_name : Bool → Delta → DirName
delta_name deletes (Own write statement) = name.Own deletes (record { 0 = write }) statement
delta_name deletes (Wide low high) = name.Wide deletes (record { 0 = low }) (record { 0 = high })

abbrev pub base_text : ℕ → List (List ℕ)
base_text zero = []
base_text (suc n) = base_name (suc n) ∷ []

abbrev pub base_in : Sight → List DirName → ℕ
base_in sight names = base_of sight (bases_in names)

abbrev pub delta_text : Bool → Delta → List ℕ
delta_text deletes d = text_of (delta_name deletes d)

abbrev pub delta_texts : Bool → Sight → List DirName → List (List ℕ)
delta_texts deletes sight names = map (delta_text deletes) (chosen_above sight (base_in sight names) (deltas_in deletes names))

-- of deltas with the base, of delete deltas alone
abbrev pub chosen_texts : Bool → Sight → List DirName → List (List ℕ)
chosen_texts true sight names = delta_texts true sight names
chosen_texts false sight names = base_text (base_in sight names) ++ delta_texts false sight names

-- ---- the files that are taken

-- its directory has one of these names
abbrev pub is_in_one : List (List ℕ) → DirFile → Bool
is_in_one texts file = list_any (λ text. is_eq (slice_cmp nat_cmp text file.place.dir)) texts

-- of the files of a partition
unfoldable pub run_taken : Bool → Sight → List DirFile → List DirFile
run_taken deletes sight run = filter (is_in_one (chosen_texts deletes sight (names_of run))) run

-- of those of a table, whose partitions follow one another
unfoldable pub files_taken : Bool → WriteIds → List DirFile → List DirFile
files_taken deletes list files = flat_map (run_taken deletes (sight_of list)) (runs (length files) files)

-- ---- by places in a run

abbrev pub text_there : Option DirFile → List (List ℕ)
text_there None = []
text_there (Some file) = file.place.dir ∷ []

abbrev pub text_at : List DirFile → ℕ → List (List ℕ)
text_at run place = text_there (slice_get run place)

abbrev pub base_at : List DirFile → Option ℕ → List (List ℕ)
base_at run None = []
base_at run (Some place) = text_at run place

abbrev pub texts_at : List DirFile → Option ℕ → List ℕ → List (List ℕ)
texts_at run base places = base_at run base ++ flat_map (text_at run) places
