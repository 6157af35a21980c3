-- The places of a directory, the names of directories, and which of them are own ones.
use Rattle.std.proofs.Common.{refl, ◌≡◌, ℕ, ◌==◌, ◌&&◌, ◌<◌, Bool, true, false, Some, None, List, sym, ap, ◌∙◌, subst, arith, eqb-true}
use Rattle.std.specs.Prelude.{nat_eq}
use Rattle.std.specs.Cmp.Lexicographic.{pointwise}
use Rattle.std.specs.FinMap as finmap
use Rattle.std.proofs.lemmas.Bool.{and_parts, and_from}
use Rattle.std.proofs.lemmas.Bool.Decides.{nat_tests}
use Rattle.hv_shelf.specs.declared.place.Place.{Place}
use Rattle.hv_shelf.specs.declared.place.DirAt.{DirAt}
use Rattle.hv_shelf.specs.Places.{is_in}
use Rattle.hv_shelf.specs.Disk as disk
use Rattle.hv_shelf.specs.Disk.{places_of}
use Rattle.hv_rowfile.specs.declared.record.Rec.{Rec}
use Rattle.hv_dirs.specs.declared.names.DirName.TheVariants as name
use Rattle.hv_dirs.specs.Names.{IsName, text_of, write_end}
use Rattle.hv_dirs.specs.Choice.{Delta, Own, Wide, delta_named, base_named}
use Rattle.hv_choosing.specs.declared.dir.Dir.{Dir}
use Rattle.hv_choosing.specs.declared.dir.Dir.TheVariants as dir
use Rattle.hv_choosing.specs.Dirs.{name_of, IsAt}
use Rattle.hv_choosing.specs.Taken.{delta_name}
use Rattle.hv_stands.specs.Files.{own_dir}
use Rattle.hv_law_visible.specs.Members.{IsIn}
use Rattle.hv_law_visible.proofs.MemberLemmas.{in-flat, from-flat, in-filter, from-filter}
use Rattle.hv_table_rows.proofs.Names.{same-text, text-same}
use Rattle.hv_choosing.proofs.Texts.{one}
use Rattle.hv_table_rows.proofs.OwnDirs.{own-named}
use Rattle.hv_table_rows.proofs.TakenFiles.{place-there, there-place}
use Rattle.hv_law_directories.specs.Reading.{Reading}
use Rattle.hv_law_directories.specs.Directories.{base_name, read_by, recs_at, places_in, recs_in}

-- ---- places

pub record IsInDir (dir : DirAt) (place : Place) : Type 0 where
  pub table_is : place.table.0 ≡ dir.table.0
  pub partition_is : place.partition ≡ dir.partition
  pub dir_is : place.dir ≡ dir.dir

pub in-dir : (dir : DirAt) (place : Place) → is_in dir place ≡ true → IsInDir dir place
in-dir dir place e =
    let first = and_parts (place.table.0 == dir.table.0) (pointwise nat_eq place.partition dir.partition && pointwise nat_eq place.dir dir.dir) e in
    let second = and_parts (pointwise nat_eq place.partition dir.partition) (pointwise nat_eq place.dir dir.dir) first.1 in
    record {
      table_is = eqb-true place.table.0 dir.table.0 first.0;
      partition_is = same-text place.partition dir.partition second.0;
      dir_is = same-text place.dir dir.dir second.1;
    }

pub number-same : (n : ℕ) → (n == n) ≡ true
number-same n = grind (arith, nat_tests)

pub dir-in : (dir : DirAt) (place : Place) → IsInDir dir place → is_in dir place ≡ true
dir-in dir place is =
    and_from (place.table.0 == dir.table.0) (pointwise nat_eq place.partition dir.partition && pointwise nat_eq place.dir dir.dir)
    (ap (λ n. n == dir.table.0) is.table_is ∙ number-same dir.table.0)
    (and_from (pointwise nat_eq place.partition dir.partition) (pointwise nat_eq place.dir dir.dir)
    (text-same place.partition dir.partition is.partition_is) (text-same place.dir dir.dir is.dir_is))

-- ---- records

-- a record of a file of the directory
pub record IsRecIn (read : Reading) (deletes : Bool) (files : disk.Tree) (dir : DirAt) (r : Rec) : Type 0 where
  pub place : Place
  pub within : IsInDir dir place
  pub bytes : List ℕ
  pub is : finmap.get files place ≡ Some bytes
  pub among : IsIn r (read deletes place.bucket bytes)

pub from-recs : (read : Reading) (deletes : Bool) (files : disk.Tree) (dir : DirAt) (r : Rec) → IsIn r (recs_in read deletes files dir) → IsRecIn read deletes files dir r
from-recs read deletes files dir r h =
    let at = from-flat (recs_at read deletes files) r (places_in dir files) h in
    let kept = from-filter (is_in dir) at.0 (places_of dir.table files) at.1 in
    let there = there-place dir.table files at.0 kept.0 in
    record {
      place = at.0;
      within = in-dir dir at.0 kept.1;
      bytes = there.1.0;
      is = there.1.1;
      among = subst (λ o. IsIn r (read_by (read deletes at.0.bucket) o)) there.1.1 at.2;
    }

pub to-recs : (read : Reading) (deletes : Bool) (files : disk.Tree) (dir : DirAt) (r : Rec) → IsRecIn read deletes files dir r → IsIn r (recs_in read deletes files dir)
to-recs read deletes files dir r is =
    in-flat (recs_at read deletes files) is.place r (places_in dir files)
    (in-filter (is_in dir) is.place (places_of dir.table files)
    (place-there dir.table files is.place is.bytes is.within.table_is is.is) (dir-in dir is.place is.within))
    (subst (λ o. IsIn r (read_by (read deletes is.place.bucket) o)) (sym is.is) is.among)

-- ---- names

pub delta-back : (kind : Bool) (d : Delta) → delta_named kind (delta_name kind d) ≡ Some d
delta-back true (Own write statement) = refl
delta-back false (Own write statement) = refl
delta-back true (Wide low high) = refl
delta-back false (Wide low high) = refl

own-back : (kind deletes : Bool) (d : Delta) (write statement : ℕ) → Some d ≡ delta_named kind (name.Own deletes (record { 0 = write }) statement)
    → (d ≡ Own write statement) × (kind ≡ deletes)
own-back true true d write statement e = (one e, refl)
own-back true false d write statement e = cc
own-back false true d write statement e = cc
own-back false false d write statement e = (one e, refl)

pub own-delta : (kind deletes : Bool) (d : Delta) (write statement : ℕ) → delta_name kind d ≡ name.Own deletes (record { 0 = write }) statement
    → (d ≡ Own write statement) × (kind ≡ deletes)
own-delta kind deletes d write statement e =
    own-back kind deletes d write statement (sym (delta-back kind d) ∙ ap (delta_named kind) e)

-- the directory of a delta
abbrev pub delta_dir : Bool → Delta → Dir
delta_dir kind (Own write statement) = dir.Own kind (record { 0 = write }) statement
delta_dir kind (Wide low high) = dir.Wide kind (record { 0 = low }) (record { 0 = high })

pub delta-dir-name : (kind : Bool) (d : Delta) → name_of (delta_dir kind d) ≡ delta_name kind d
delta-dir-name kind (Own write statement) = refl
delta-dir-name kind (Wide low high) = refl

-- a delta of that text is the own one of the write id
pub delta-owned : (kind deletes : Bool) (d : Delta) (write statement : ℕ) (text : List ℕ) → IsName (delta_name kind d) → text ≡ text_of (delta_name kind d)
    → text ≡ own_dir deletes write statement → write < write_end → (last : ℕ) × (d ≡ Own write last) × (kind ≡ deletes)
delta-owned kind deletes d write statement text named is own few =
    let same = delta-dir-name kind d in
    let at : IsAt text (delta_dir kind d) = (subst IsName (sym same) named, ap text_of same ∙ sym is) in
    let found = own-named text (delta_dir kind d) deletes write statement at own few in
    let both = own-delta kind deletes d write found.0 (sym same ∙ ap name_of found.1) in
    (found.0, both.0, both.1)

-- and no base has it
pub base-not-owned : (base : ℕ) (deletes : Bool) (write statement : ℕ) (text : List ℕ) → IsName (base_name base) → text ≡ text_of (base_name base)
    → text ≡ own_dir deletes write statement → write < write_end → ⊥
base-not-owned base deletes write statement text named is own few =
    let found = own-named text (dir.Base (record { 0 = base })) deletes write statement (named, sym is) own few in
    let never : Some base ≡ None = ap (λ d. base_named (name_of d)) found.1 in
    cc
