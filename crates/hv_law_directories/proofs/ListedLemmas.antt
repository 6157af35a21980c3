-- A listing of a table's files says which directories each partition has.
use Rattle.std.proofs.Common.{refl, ◌≡◌, ℕ, Bool, true, false, Some, List, [], ◌∷◌, filter, sym, ap, ◌∙◌, subst}
use Rattle.std.specs.List.{filter_map}
use Rattle.hv_shelf.specs.Disk as disk
use Rattle.hv_shelf.specs.Disk.{places_of}
use Rattle.hv_logic.specs.declared.catalog.TableInfo.{TableInfo}
use Rattle.hv_dirs.specs.declared.names.DirName.{DirName}
use Rattle.hv_dirs.specs.declared.names.DirName.TheVariants as name
use Rattle.hv_dirs.specs.Names.{IsName, text_of}
use Rattle.hv_dirs.specs.Choice.{Delta, base_named, delta_named}
use Rattle.hv_choosing.specs.declared.dir.Dir.{Dir}
use Rattle.hv_choosing.specs.declared.dir.Dir.TheVariants as dir
use Rattle.hv_choosing.specs.declared.listing.DirFile.{DirFile}
use Rattle.hv_choosing.specs.Dirs.{name_of, IsAt}
use Rattle.hv_choosing.specs.Listing.{IsNamed, AreListed}
use Rattle.hv_choosing.specs.Taken.{delta_name}
use Rattle.hv_choosing.proofs.Listed.{listed-named, listed-place, place-listed}
use Rattle.hv_choosing.proofs.Texts.{delta-named}
use Rattle.hv_law_visible.specs.Members.{IsIn}
use Rattle.hv_law_visible.proofs.MemberLemmas.{in-map, from-map, in-filter, from-filter}
use Rattle.hv_law_visible.proofs.TakenLemmas.{all-in}
use Rattle.hv_table_rows.proofs.Names.{same-text, text-same}
use Rattle.hv_choosing.proofs.Texts.{one}
use Rattle.hv_table_rows.proofs.TakenFiles.{place-there, there-place}
use Rattle.hv_choosing.proofs.OwnChoice.{from-option, in-option}
use Rattle.hv_law_directories.specs.Directories.{dir_of, IsThere, base_name, is_of, names_in}
use Rattle.hv_law_directories.specs.Laws.{ListedAreDirectories}
use Rattle.hv_law_directories.proofs.DirLemmas.{delta_dir, delta-dir-name, in-dir, dir-in, delta-back}

base-named : (n : DirName) (base : ℕ) → base_named n ≡ Some base → n ≡ base_name base
base-named (name.Base high) base e = ap base_name (one e)
base-named (name.Own kind write statement) base e = cc
base-named (name.Wide kind low high) base e = cc
base-named (name.Staged job text) base e = cc

dir-named : (n : DirName) → (d : Dir) → name_of d ≡ n → IsName n → (text : List ℕ) → text_of n ≡ text → IsAt text d
dir-named n d is named text at = (subst IsName (sym is) named, ap text_of is ∙ at)

module _ (info : TableInfo) (partition : List ℕ) (files : disk.Tree) (named : List DirFile) (listed : AreListed (places_of info.table files) named) where
  -- a name among the partition's is one of a directory that is there
  there : (n : DirName) → IsIn n (names_in partition named) → IsThere info partition files n
  there n h =
      let at = from-map (λ (file : DirFile). name_of file.dir) n (filter (is_of partition) named) h in
      let file : DirFile = at.0 in
      let kept = from-filter (is_of partition) file named at.1 in
      let stands = there-place info.table files file.place (listed-place (places_of info.table files) named listed file kept.0) in
      let named_at : IsAt file.place.dir file.dir = all-in IsNamed named file (listed-named (places_of info.table files) named listed) kept.0 in (
        subst IsName at.2 named_at.0,
        record {
          place = file.place;
          within = dir-in (dir_of info partition n) file.place (record {
            table_is = stands.0;
            partition_is = same-text file.place.partition partition kept.1;
            dir_is = sym named_at.1 ∙ ap text_of at.2;
          });
          bytes = stands.1.0;
          is = stands.1.1;
        },
      )

  -- and one that is there is among them
  among : (n : DirName) (d : Dir) → name_of d ≡ n → IsThere info partition files n → IsIn n (names_in partition named)
  among n d is is_there =
      let stands = is_there.1 in
      let within = in-dir (dir_of info partition n) stands.place stands.within in
      let file : DirFile = record { place = stands.place; dir = d } in
      let at = dir-named n d is is_there.0 stands.place.dir (sym within.dir_is) in
      let listed_file = place-listed (places_of info.table files) named listed stands.place d
      (place-there info.table files stands.place stands.bytes within.table_is stands.is) at in
      let kept = in-filter (is_of partition) file named listed_file (text-same stands.place.partition partition within.partition_is) in
      subst (λ m. IsIn m (names_in partition named)) is (in-map (λ (f : DirFile). name_of f.dir) file (filter (is_of partition) named) kept)

  pub base-there : (base : ℕ) → IsIn base (filter_map base_named (names_in partition named)) → IsThere info partition files (base_name base)
  base-there base h =
      let at = from-option base_named base (names_in partition named) h in
      subst (IsThere info partition files) (base-named at.0 base at.2) (there at.0 at.1)

  pub there-base : (base : ℕ) → IsThere info partition files (base_name base) → IsIn base (filter_map base_named (names_in partition named))
  there-base base h =
      in-option base_named (base_name base) base (names_in partition named) (among (base_name base) (dir.Base (record { 0 = base })) refl h) refl

  pub delta-there : (kind : Bool) (d : Delta) → IsIn d (filter_map (delta_named kind) (names_in partition named)) → IsThere info partition files (delta_name kind d)
  delta-there kind d h =
      let at = from-option (delta_named kind) d (names_in partition named) h in
      subst (IsThere info partition files) (delta-named kind at.0 d at.2) (there at.0 at.1)

  pub there-delta : (kind : Bool) (d : Delta) → IsThere info partition files (delta_name kind d) → IsIn d (filter_map (delta_named kind) (names_in partition named))
  there-delta kind d h =
      in-option (delta_named kind) (delta_name kind d) d (names_in partition named)
      (among (delta_name kind d) (delta_dir kind d) (delta-dir-name kind d) h) (delta-back kind d)

pub listed-directories : ListedAreDirectories
listed-directories read info partition files named listed = record {
  bases = λ base. (base-there info partition files named listed base, there-base info partition files named listed base);
  deltas = λ d. (delta-there info partition files named listed false d, there-delta info partition files named listed false d);
  delete_deltas = λ d. (delta-there info partition files named listed true d, there-delta info partition files named listed true d);
  rows = λ base. refl;
  inserts = λ d. refl;
  deletes = λ d. refl;
}
