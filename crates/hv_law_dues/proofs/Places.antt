-- Of the files of a table that are taken, no two stand at one place.
use Rattle.std.proofs.Common.{ℕ, zero, suc, ◌+◌, ◌≤◌, Bool, Option, Some, None, List, [], ◌∷◌, take, drop, length, ap, arith}
use Rattle.std.specs.List.{flat_map, cons_option}
use Rattle.std.specs.FinMap as tree
use Rattle.hv_base.specs.declared.ids.TableId.{TableId}
use Rattle.hv_shelf.specs.declared.place.Place.{Place}
use Rattle.hv_shelf.specs.Places.{is_of}
use Rattle.hv_shelf.specs.Disk.{Tree, places_of}
use Rattle.hv_wids.specs.WriteIds.{WriteIds}
use Rattle.hv_dirs.specs.Choice.{Sight, sight_of}
use Rattle.hv_choosing.specs.declared.listing.DirFile.{DirFile}
use Rattle.hv_choosing.specs.Listing.{IsListed, AreListed}
use Rattle.hv_choosing.specs.Taken.{is_in_one, names_of, chosen_texts, run_length, runs, run_taken, files_taken}
use Rattle.hv_book.specs.Past.{total}
use Rattle.hv_law_dues.proofs.Totals.{total-append}
use Rattle.hv_law_dues.proofs.Counts.{total-kept, total-parts, at_place, one-key}

module _ (f : Place → ℕ) where
  abbrev of_file : DirFile → ℕ
  of_file file = f file.place

  first-listed : (place : Place) (o : Option DirFile) (rest : List DirFile) (places : List Place) → IsListed place o → total of_file rest ≤ total f places
      → total of_file (cons_option o rest) ≤ f place + total f places
  first-listed place None rest places is h = omega (arith, h)
  first-listed place (Some file) rest places is h = let same = ap f is.0 in omega (arith, h, same)

  listed-most : (places : List Place) (files : List DirFile) → AreListed places files → total of_file files ≤ total f places
  listed-most [] files is = let none = ap (total of_file) is in omega (arith, none)
  listed-most (place ∷ places) files is =
      let rest = listed-most places is.1 is.4 in
      let all = first-listed place is.0 is.1 places is.2 rest in
      let same = ap (total of_file) is.3 in
      omega (arith, all, same)

  run-most : (deletes : Bool) (sight : Sight) (run : List DirFile) → total of_file (run_taken deletes sight run) ≤ total of_file run
  unfolding run_taken
  run-most deletes sight run = total-kept of_file (is_in_one (chosen_texts deletes sight (names_of run))) run

  runs-most : (deletes : Bool) (sight : Sight) (n : ℕ) (files : List DirFile) → total of_file (flat_map (run_taken deletes sight) (runs n files)) ≤ total of_file files
  runs-most deletes sight zero files = omega arith
  runs-most deletes sight (suc n) files =
      let first = run-most deletes sight (take (run_length files) files) in
      let rest = runs-most deletes sight n (drop (run_length files) files) in
      let both = total-append of_file (run_taken deletes sight (take (run_length files) files)) (flat_map (run_taken deletes sight) (runs n (drop (run_length files) files))) in
      let whole = total-parts of_file (run_length files) files in
      omega (arith, first, rest, both, whole)

  taken-most : (deletes : Bool) (list : WriteIds) (files : List DirFile) → total of_file (files_taken deletes list files) ≤ total of_file files
  unfolding files_taken
  taken-most deletes list files = runs-most deletes (sight_of list) (length files) files

pub one-taken : (table : TableId) (files : Tree) (deletes : Bool) (list : WriteIds) (named : List DirFile) (place : Place) → AreListed (places_of table files) named
    → total (λ (file : DirFile). at_place place file.place) (files_taken deletes list named) ≤ 1
one-taken table files deletes list named place listed =
    let taken = taken-most (at_place place) deletes list named in
    let all = listed-most (at_place place) (places_of table files) named listed in
    let kept = total-kept (at_place place) (is_of table) (tree.keys files) in
    let one = one-key place files in
    omega (arith, taken, all, kept, one)
