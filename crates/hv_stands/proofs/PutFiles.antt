-- The files of a change, put one after another in the own directories of a write id that had none.
use Rattle.std.proofs.Common.{refl, ◌≡◌, ℕ, ◌<◌, ◌⊎◌, inl, inr, nat_eq, Bool, true, false, cond, Some, None, List, [], ◌∷◌, length, sym, ap, ◌∙◌, arith}
use Rattle.std.specs.Ordering.{eq_by_cmp}
use Rattle.std.specs.Cmp.Lexicographic.{pointwise}
use Rattle.std.specs.List.{AllByRecursion}
use Rattle.std.specs.List.Sorted.{IsStrictlySortedBy}
use Rattle.std.specs.declared.cmp.Ordering.TheVariants.{Less}
use Rattle.std.specs.FinMap as tree
use Rattle.hv_shelf.specs.declared.place.Place.{Place}
use Rattle.hv_shelf.specs.Disk.{Tree}
use Rattle.hv_shelf.specs.Places.{place_cmp, place_total}
use Rattle.hv_history.specs.hv_meaning.specs.hv_typing.specs.hv_logic.specs.Rows.{found_cmp}
use Rattle.hv_history.specs.hv_meaning.specs.hv_typing.specs.hv_logic.specs.declared.catalog.Shape.{Shape}
use Rattle.hv_history.specs.hv_meaning.specs.hv_typing.specs.hv_logic.specs.declared.effect.Effect.{Effect}
use Rattle.hv_history.specs.declared.state.Written.{Written}
use Rattle.hv_history.specs.State.{written_by}
use Rattle.hv_dirs.specs.Names.{write_end}
use Rattle.hv_history.specs.hv_meaning.specs.hv_route.specs.hv_rowfile.specs.declared.record.Rec.{Rec}
use Rattle.hv_history.specs.hv_meaning.specs.hv_route.specs.hv_rowfile.specs.Layout.{file_spelling}
use Rattle.hv_history.specs.hv_meaning.specs.hv_route.specs.Routes.{files_of}
use Rattle.hv_history.specs.hv_meaning.specs.hv_route.specs.Rising.{file_cmp}
use Rattle.hv_history.specs.hv_meaning.specs.hv_route.specs.Standing.{is_file_of, recs_at}
use Rattle.hv_history.specs.hv_meaning.specs.hv_route.specs.declared.files.OutFile.{OutFile}
use Rattle.hv_history.specs.hv_meaning.specs.hv_route.proofs.RisingLemmas.{all-files-rise}
use Rattle.hv_history.specs.hv_meaning.specs.hv_route.proofs.StandingLemmas.{files-have-rows, files-have-records}
use Rattle.hv_stands.specs.Files.{commit_file, file_of, own_dir, own_place, file_at, place_of_file, with_file, with_files}
use Rattle.hv_stands.specs.Running.{IsOfId}
use Rattle.hv_stands.proofs.Numbers.{either}
use Rattle.hv_stands.proofs.Places.{same-place, place-tied}
use Rattle.hv_stands.proofs.FileRecords.{IsKeyOf, file-key, key-file, less-other}
use Rattle.hv_stands.proofs.MadeFiles.{own_dir-same, same-dir, dir-tied, made-own}

-- ---- files that are put

put-others : (old : Tree) (place : Place) (bytes : List ℕ) (other : Place) → (other ≡ place → ⊥) → tree.get (tree.insert old place bytes) other ≡ tree.get old other
put-others old place bytes other apart =
    tree.get-insert place_total old place bytes other ∙ by (either (eq_by_cmp place_cmp other place))
  where
    by : (eq_by_cmp place_cmp other place ≡ true) ⊎ (eq_by_cmp place_cmp other place ≡ false)
        → cond (eq_by_cmp place_cmp other place) (Some bytes) (tree.get old other) ≡ tree.get old other
    by (inl same) = absurd (apart (same-place other place same))
    by (inr apart) = ap (λ b. cond b (Some bytes) (tree.get old other)) apart

put-here : (old : Tree) (place : Place) (bytes : List ℕ) → tree.get (tree.insert old place bytes) place ≡ Some bytes
put-here old place bytes =
    tree.get-insert place_total old place bytes place ∙ ap (λ b. cond b (Some bytes) (tree.get old place)) (place-tied place)

module _ (k w : ℕ) where
  -- none of these files is put there
  abbrev IsElsewhere : Place → OutFile → Type 0
  IsElsewhere place file = place ≡ place_of_file k w file → ⊥

  all-others : (old : Tree) (outs : List OutFile) (place : Place) → AllByRecursion (IsElsewhere place) outs → tree.get (with_files old k w outs) place ≡ tree.get old place
  all-others old [] place apart = refl
  all-others old (file ∷ outs) place apart =
      all-others (with_file k w old file) outs place apart.1
      ∙ put-others old (place_of_file k w file) (file_spelling file.deletes file.bucket file.recs) place apart.0

  module _ (small : w < write_end) (deletes : Bool) (partition : List ℕ) (bucket : ℕ) where
    abbrev key_place : Place
    key_place = own_place k partition deletes w bucket

    same-key : (file : OutFile) → key_place ≡ place_of_file k w file → IsKeyOf deletes partition bucket file
    same-key file same =
        let kinds = own_dir-same file.deletes deletes w 0 w 0 small small (ap (λ (p : Place). p.dir) (sym same)) in
        record {
          of_kind = kinds.0;
          of_part = ap (λ (p : Place). p.partition) (sym same);
          of_bucket = ap (λ (p : Place). p.bucket) (sym same);
        }

    apart-key : (file : OutFile) → is_file_of deletes partition bucket file ≡ false → IsElsewhere key_place file
    apart-key file apart same =
        let never : true ≡ false = sym (key-file deletes partition bucket file (same-key file same)) ∙ apart in cc

    -- files behind one of that key
    behind-key : (first : OutFile) (outs : List OutFile) → is_file_of deletes partition bucket first ≡ true → AllByRecursion (λ file. file_cmp first file ≡ Less) outs
        → AllByRecursion (IsElsewhere key_place) outs
    behind-key first [] is less = tt
    behind-key first (file ∷ outs) is less = (
      λ same.
          let key = file-key deletes partition bucket first is in
          let own = same-key file same in
          let still : is_file_of file.deletes file.partition file.bucket first ≡ true =
          key-file file.deletes file.partition file.bucket first
          (record { of_kind = key.of_kind ∙ sym own.of_kind; of_part = key.of_part ∙ sym own.of_part; of_bucket = key.of_bucket ∙ sym own.of_bucket }) in
          let never : true ≡ false = sym still ∙ less-other first file less.0 in cc,
      behind-key first outs is less.1,
    )

    some-file : (recs : List Rec) → 0 < length recs → file_of deletes bucket recs ≡ Some (file_spelling deletes bucket recs)
    some-file [] some = absurd (omega (arith, some))
    some-file (r ∷ recs) some = refl

    -- what stands there then has the records of that key
    all-here : (outs : List OutFile) (old : Tree) → IsStrictlySortedBy file_cmp outs → AllByRecursion (λ (file : OutFile). 0 < length file.recs) outs
        → tree.get old key_place ≡ None → tree.get (with_files old k w outs) key_place ≡ file_of deletes bucket (recs_at outs deletes partition bucket)
    unfolding IsStrictlySortedBy
    all-here [] old up some bare = bare
    all-here (file ∷ outs) old up some bare = by (either (is_file_of deletes partition bucket file)) (λ none. all-here outs (with_file k w old file) up.1 some.1 none)
      where
        by : (is_file_of deletes partition bucket file ≡ true) ⊎ (is_file_of deletes partition bucket file ≡ false)
            → (tree.get (with_file k w old file) key_place ≡ None
            → tree.get (with_files (with_file k w old file) k w outs) key_place ≡ file_of deletes bucket (recs_at outs deletes partition bucket))
            → tree.get (with_files old k w (file ∷ outs)) key_place
            ≡ file_of deletes bucket (cond (is_file_of deletes partition bucket file) file.recs (recs_at outs deletes partition bucket))
        by (inl is) rest =
            let key = file-key deletes partition bucket file is in
            let there : key_place ≡ place_of_file k w file = λ i. own_place k (sym key.of_part i) (sym key.of_kind i) w (sym key.of_bucket i) in
            all-others (with_file k w old file) outs key_place (behind-key file outs is up.0)
            ∙ ap (tree.get (with_file k w old file)) there
            ∙ put-here old (place_of_file k w file) (file_spelling file.deletes file.bucket file.recs)
            ∙ (λ i. Some (file_spelling (key.of_kind i) (key.of_bucket i) file.recs))
            ∙ sym (some-file file.recs some.0)
            ∙ sym (ap (λ b. file_of deletes bucket (cond b file.recs (recs_at outs deletes partition bucket))) is)
        by (inr apart) rest =
            rest (put-others old (place_of_file k w file) (file_spelling file.deletes file.bucket file.recs) key_place (apart-key file apart) ∙ bare)
            ∙ sym (ap (λ b. file_of deletes bucket (cond b file.recs (recs_at outs deletes partition bucket))) apart)

-- ---- a change

module _ (k w : ℕ) (shape : Shape) (effect : Effect) (old : Tree) (small : w < write_end) (up : IsStrictlySortedBy found_cmp effect.deletes)
    (bare : (place : Place) → IsOfId k w place → tree.get old place ≡ None) where
  abbrev written : Written
  written = written_by shape w 0 effect

  abbrev outs : List OutFile
  outs = files_of shape w 0 effect

  abbrev new : Tree
  new = with_files old k w outs

  -- in the own directories of the one statement stands what it wrote there
  put-own : (deletes : Bool) (place : Place) → place.table.0 ≡ k → place.dir ≡ own_dir deletes w 0 → tree.get new place ≡ file_at shape written place
  unfolding commit_file
  put-own deletes place of dir =
      let same : place ≡ own_place k place.partition deletes w place.bucket =
      λ i. record { table = record { 0 = of i }; partition = place.partition; dir = dir i; bucket = place.bucket } in
      ap (tree.get new) same
      ∙ all-here k w small deletes place.partition place.bucket outs old (all-files-rise shape w 0 effect) (files-have-records shape w 0 effect)
      (bare (own_place k place.partition deletes w place.bucket) (record { table_is = refl; deletes = deletes; statement = 0; dir = refl }))
      ∙ ap (file_of deletes place.bucket) (files-have-rows shape w 0 effect deletes place.partition place.bucket up)
      ∙ sym (made-own shape written deletes place small dir)

  elsewhere : (place : Place) → ((deletes : Bool) → place.dir ≡ own_dir deletes w 0 → ⊥) → (more : List OutFile) → AllByRecursion (IsElsewhere k w place) more
  elsewhere place apart [] = tt
  elsewhere place apart (file ∷ more) = (λ same. apart file.deletes (ap (λ (p : Place). p.dir) same), elsewhere place apart more)

  differs : (kind : Bool) (place : Place) → pointwise nat_eq (own_dir kind w 0) place.dir ≡ false → place.dir ≡ own_dir kind w 0 → ⊥
  differs kind place none same =
      let never : true ≡ false = sym (dir-tied kind w) ∙ ap (pointwise nat_eq (own_dir kind w 0)) (sym same) ∙ none in cc

  -- in those of other statements none
  put-other : (place : Place) → IsOfId k w place → pointwise nat_eq (own_dir false w 0) place.dir ≡ false → pointwise nat_eq (own_dir true w 0) place.dir ≡ false
      → tree.get new place ≡ file_at shape written place
  put-other place of first second =
      all-others k w old outs place (elsewhere place apart outs)
      ∙ bare place of
      ∙ sym (λ i. cond (first i) (commit_file shape false place.partition place.bucket written)
      (cond (second i) (commit_file shape true place.partition place.bucket written) None))
    where
      apart : (kind : Bool) → place.dir ≡ own_dir kind w 0 → ⊥
      apart false same = differs false place first same
      apart true same = differs true place second same

  pub files-at : (place : Place) → IsOfId k w place → tree.get new place ≡ file_at shape written place
  files-at place of = by (either (pointwise nat_eq (own_dir false w 0) place.dir)) (either (pointwise nat_eq (own_dir true w 0) place.dir))
    where
      by : (pointwise nat_eq (own_dir false w 0) place.dir ≡ true) ⊎ (pointwise nat_eq (own_dir false w 0) place.dir ≡ false)
          → (pointwise nat_eq (own_dir true w 0) place.dir ≡ true) ⊎ (pointwise nat_eq (own_dir true w 0) place.dir ≡ false)
          → tree.get new place ≡ file_at shape written place
      by (inl same) second = put-own false place of.table_is (same-dir false w place.dir same)
      by (inr first) (inl same) = put-own true place of.table_is (same-dir true w place.dir same)
      by (inr first) (inr second) = put-other place of first second
