-- The records of a partition and bucket can be written as a file, and the files of a change have just these records.
use Rattle.std.proofs.Common.{◌≡◌, ℕ, ◌≤◌, ◌==◌, ◌&&◌, ◌⊎◌, inl, inr, nat_eq, Bool, true, false, cond, Some, None, List, [], ◌∷◌, map, filter, refl, sym, ap, ◌∙◌, subst, eqb-true, eq-eqb}
use Rattle.std.specs.declared.cmp.Ordering.{Ordering}
use Rattle.std.specs.declared.cmp.Ordering.TheVariants.{Less, Equal, Greater}
use Rattle.std.specs.Ordering.{bool_cmp, nat_cmp, eq_by_cmp, ordering_then, ordering_reverse}
use Rattle.std.specs.Cmp.{nat_cmp_total}
use Rattle.std.specs.Cmp.Lexicographic.{pointwise, slice_cmp, bytes_decides, nat_list_cmp_total}
use Rattle.std.proofs.lemmas.Bool.{and_parts}
use Rattle.std.proofs.lemmas.List.{append-nil}
use Rattle.std.specs.List.{AllByRecursion}
use Rattle.std.specs.List.Sorted.{IsStrictlySortedBy}
use Rattle.hv_base.specs.Identifiers.{row_id_cmp}
use Rattle.hv_value.specs.declared.row.Row.{Row}
use Rattle.hv_history.specs.hv_meaning.specs.hv_typing.specs.hv_logic.specs.Rows.{found_cmp}
use Rattle.hv_history.specs.hv_meaning.specs.hv_typing.specs.hv_logic.specs.declared.catalog.Shape.{Shape}
use Rattle.hv_history.specs.hv_meaning.specs.hv_typing.specs.hv_logic.specs.declared.effect.Effect.{Effect}
use Rattle.hv_history.specs.hv_meaning.specs.hv_typing.specs.hv_logic.specs.declared.effect.Found.{Found}
use Rattle.hv_history.specs.hv_meaning.specs.hv_route.specs.hv_rowfile.specs.declared.record.Rec.{Rec}
use Rattle.hv_history.specs.hv_meaning.specs.hv_route.specs.hv_rowfile.specs.Layout.{RowIsTaken, RecIsTaken, RisesFrom, id_of, CanWrite, IsFile}
use Rattle.hv_base.specs.Sorting.{sorted_by}
use Rattle.hv_base.specs.declared.ids.RowId.{RowId}
use Rattle.hv_history.specs.hv_meaning.specs.hv_route.specs.declared.runs.Run.{Run}
use Rattle.hv_history.specs.hv_meaning.specs.hv_route.specs.Placing.{placed_cmp, runs_of}
use Rattle.hv_history.specs.hv_meaning.specs.hv_route.specs.Routes.{stored, numbered_rows, place_of_deleted, file_of_deletes, insert_files, delete_files, files_of}
use Rattle.hv_history.specs.hv_meaning.specs.hv_route.specs.Rising.{file_cmp}
use Rattle.hv_history.specs.hv_meaning.specs.hv_route.specs.Standing.{insert_record, delete_record, stands_in, records_in_place, is_file_of, recs_at}
use Rattle.hv_history.specs.hv_meaning.specs.hv_route.specs.declared.files.OutFile.{OutFile}
use Rattle.hv_history.specs.hv_meaning.specs.hv_route.proofs.RisingLemmas.{all-files-rise}
use Rattle.hv_history.specs.hv_meaning.specs.hv_route.proofs.NumberedLemmas.{numbered-all, rows-are-numbered}
use Rattle.hv_history.specs.hv_meaning.specs.hv_route.proofs.StandingLemmas.{files-have-rows}
use Rattle.hv_history.specs.hv_meaning.specs.Laws.{SaysParts}
use Rattle.hv_stands.specs.Files.{CanStand, IsEncoded}
use Rattle.hv_stands.specs.Laws.{CanBeFile, HasFile}
use Rattle.hv_history.specs.State.{written_by}
use Rattle.hv_stands.proofs.Numbers.{either}
use Rattle.hv_stands.proofs.Soundness.{all-mapped}
use Rattle.hv_stands.proofs.Ordered.{IsBefore, all-kept, all-joined, rises-kept}
use Rattle.hv_stands.proofs.StandingRows.{IsBy, numbered-by, HasId, AreStanding}

-- ---- the rows of one partition and bucket

-- the row is of that partition and bucket
record IsThere (partition : List ℕ) (bucket : ℕ) (found : Found) : Type 0 where
  part : found.partition ≡ partition
  of_bucket : found.id.bucket ≡ bucket

is-there : (partition : List ℕ) (bucket : ℕ) (found : Found) → stands_in partition bucket found ≡ true → IsThere partition bucket found
is-there partition bucket found e =
    let both = and_parts (pointwise nat_eq found.partition partition) (found.id.bucket == bucket) e in
    record { part = (bytes_decides found.partition partition).0 both.0; of_bucket = eqb-true found.id.bucket bucket both.1 }

all-there : (partition : List ℕ) (bucket : ℕ) (rows : List Found) → AllByRecursion (IsThere partition bucket) (filter (stands_in partition bucket) rows)
all-there partition bucket [] = tt
all-there partition bucket (found ∷ rows) = by (stands_in partition bucket found) refl (all-there partition bucket rows)
  where
    by : (b : Bool) → stands_in partition bucket found ≡ b → AllByRecursion (IsThere partition bucket) (filter (stands_in partition bucket) rows)
        → AllByRecursion (IsThere partition bucket) (cond b (found ∷ filter (stands_in partition bucket) rows) (filter (stands_in partition bucket) rows))
    by true is rest = (is-there partition bucket found is, rest)
    by false is rest = rest

pub tied : (o : Ordering) → o ≡ ordering_reverse o → o ≡ Equal
tied Less e = cc
tied Equal e = refl
tied Greater e = cc

same-number : (n : ℕ) → nat_cmp n n ≡ Equal
same-number n = tied (nat_cmp n n) (nat_cmp_total.antisymm n n)

same-text : (text : List ℕ) → slice_cmp nat_cmp text text ≡ Equal
same-text text = tied (slice_cmp nat_cmp text text) (nat_list_cmp_total.antisymm text text)

-- in one partition rows stand by their identifiers
pub by-id : (x y : Found) → x.partition ≡ y.partition → found_cmp x y ≡ row_id_cmp x.id y.id
by-id x y same =
    ap (λ o. ordering_then o (row_id_cmp x.id y.id)) (ap (λ p. slice_cmp nat_cmp p y.partition) same ∙ same-text y.partition)

-- ---- their records rise

module _ (partition : List ℕ) (bucket : ℕ) (f : Found → Rec) (same : (found : Found) → id_of (f found) ≡ found.id) where
  rises-behind : (before : Found) (rows : List Found) → IsThere partition bucket before → AllByRecursion (IsThere partition bucket) rows
      → IsBefore found_cmp before rows → IsStrictlySortedBy found_cmp rows → RisesFrom (Some before.id) (map f rows)
  unfolding IsStrictlySortedBy
  rises-behind before [] own each less up = tt
  rises-behind before (found ∷ rows) own each less up = (
    ap (row_id_cmp before.id) (same found) ∙ sym (by-id before found (own.part ∙ sym each.0.part)) ∙ less.0,
    subst (λ id. RisesFrom (Some id) (map f rows)) (sym (same found)) (rises-behind found rows each.0 each.1 up.0 up.1),
  )

  rises-first : (rows : List Found) → AllByRecursion (IsThere partition bucket) rows → IsStrictlySortedBy found_cmp rows → RisesFrom None (map f rows)
  unfolding IsStrictlySortedBy
  rises-first [] each up = tt
  rises-first (found ∷ rows) each up =
      (tt, subst (λ id. RisesFrom (Some id) (map f rows)) (sym (same found)) (rises-behind found rows each.0 each.1 up.0 up.1))

  can-write : (deletes : Bool) (P : Found → Type 0) → ((found : Found) → IsThere partition bucket found → P found → RecIsTaken deletes bucket (f found))
      → (rows : List Found) → AllByRecursion P rows → IsStrictlySortedBy found_cmp rows
      → CanWrite deletes bucket (map f (filter (stands_in partition bucket) rows))
  can-write deletes P taken rows each up =
      let kept : List Found = filter (stands_in partition bucket) rows in
      record {
        each = both kept (all-there partition bucket rows) (all-kept P (stands_in partition bucket) rows each);
        rising = rises-first kept (all-there partition bucket rows) (rises-kept found_cmp (stands_in partition bucket) rows up);
      }
    where
      both : (kept : List Found) → AllByRecursion (IsThere partition bucket) kept → AllByRecursion P kept → AllByRecursion (RecIsTaken deletes bucket) (map f kept)
      both [] there each = tt
      both (found ∷ kept) there each = (taken found there.0 each.0, both kept there.1 each.1)

-- ---- of what is inserted and deleted under a write id

module _ (shape : Shape) (write : ℕ) (some : 1 ≤ write) (effect : Effect) (taken : AllByRecursion (λ (row : Row). RowIsTaken (stored shape row)) effect.inserts)
    (stand : AreStanding effect.deletes) where
  abbrev IsInserted : Found → Type 0
  IsInserted found = IsBy write found × RowIsTaken (stored shape found.row)

  both-of : (rows : List Found) → AllByRecursion (IsBy write) rows → AllByRecursion (λ (found : Found). RowIsTaken (stored shape found.row)) rows → AllByRecursion IsInserted rows
  both-of [] a b = tt
  both-of (found ∷ rows) a b = ((a.0, b.0), both-of rows a.1 b.1)

  place-written : (deletes : Bool) (partition : List ℕ) (bucket : ℕ)
      → CanWrite deletes bucket (records_in_place shape write deletes partition bucket (numbered_rows shape write 0 effect.inserts) effect.deletes)
  place-written false partition bucket =
      can-write partition bucket (insert_record shape) (λ found. refl) false IsInserted
      (λ found there is. (refl, record { bucket_same = there.of_bucket; written = subst (λ n. 1 ≤ n) (sym is.0) some }, is.1))
      (numbered_rows shape write 0 effect.inserts)
      (both-of (numbered_rows shape write 0 effect.inserts) (numbered-by shape write 0 effect.inserts)
      (numbered-all (λ (p : List ℕ) (b : ℕ) (row : Row). RowIsTaken (stored shape row)) shape write 0 effect.inserts taken))
      (rows-are-numbered shape write 0 effect.inserts).rise
  place-written true partition bucket =
      can-write partition bucket (delete_record write) (λ found. refl) true HasId
      (λ found there is. (refl, record { bucket_same = there.of_bucket; written = is }, some)) effect.deletes stand.each stand.up

-- ---- the files

pub record IsKeyOf (deletes : Bool) (partition : List ℕ) (bucket : ℕ) (file : OutFile) : Type 0 where
  pub of_kind : file.deletes ≡ deletes
  pub of_part : file.partition ≡ partition
  pub of_bucket : file.bucket ≡ bucket

same-kind : (a b : Bool) → eq_by_cmp bool_cmp a b ≡ true → a ≡ b
same-kind true true e = refl
same-kind false false e = refl
same-kind true false e = cc
same-kind false true e = cc

kind-tied : (a : Bool) → eq_by_cmp bool_cmp a a ≡ true
kind-tied true = refl
kind-tied false = refl

pub file-key : (deletes : Bool) (partition : List ℕ) (bucket : ℕ) (file : OutFile) → is_file_of deletes partition bucket file ≡ true → IsKeyOf deletes partition bucket file
file-key deletes partition bucket file e =
    let first = and_parts (eq_by_cmp bool_cmp file.deletes deletes) (pointwise nat_eq file.partition partition && (file.bucket == bucket)) e in
    let second = and_parts (pointwise nat_eq file.partition partition) (file.bucket == bucket) first.1 in
    record {
      of_kind = same-kind file.deletes deletes first.0;
      of_part = (bytes_decides file.partition partition).0 second.0;
      of_bucket = eqb-true file.bucket bucket second.1;
    }

own-key : (file : OutFile) → is_file_of file.deletes file.partition file.bucket file ≡ true
own-key file =
    λ i. kind-tied file.deletes i && ((bytes_decides file.partition file.partition).1 refl i && eq-eqb file.bucket file.bucket refl i)

pub key-file : (deletes : Bool) (partition : List ℕ) (bucket : ℕ) (file : OutFile) → IsKeyOf deletes partition bucket file → is_file_of deletes partition bucket file ≡ true
key-file deletes partition bucket file key =
    (λ i. is_file_of (sym key.of_kind i) (sym key.of_part i) (sym key.of_bucket i) file) ∙ own-key file

kind-same : (a : Bool) → bool_cmp a a ≡ Equal
kind-same true = refl
kind-same false = refl

-- files of one key tie
keys-tie : (file other : OutFile) → IsKeyOf other.deletes other.partition other.bucket file → file_cmp file other ≡ Equal
keys-tie file other key =
    (λ i. ordering_then (bool_cmp (key.of_kind i) other.deletes) (ordering_then (slice_cmp nat_cmp (key.of_part i) other.partition) (nat_cmp (key.of_bucket i) other.bucket)))
    ∙ (λ i. ordering_then (kind-same other.deletes i) (ordering_then (same-text other.partition i) (same-number other.bucket i)))

-- one that comes before another isn't of its key
pub less-other : (file other : OutFile) → file_cmp file other ≡ Less → is_file_of other.deletes other.partition other.bucket file ≡ false
less-other file other less = by (either (is_file_of other.deletes other.partition other.bucket file))
  where
    by : (is_file_of other.deletes other.partition other.bucket file ≡ true) ⊎ (is_file_of other.deletes other.partition other.bucket file ≡ false)
        → is_file_of other.deletes other.partition other.bucket file ≡ false
    by (inl same) =
        let never : Less ≡ Equal = sym less ∙ keys-tie file other (file-key other.deletes other.partition other.bucket file same) in cc
    by (inr apart) = apart

-- the records at the key of a file are its own
abbrev IsFoundIn : List OutFile → OutFile → Type 0
IsFoundIn files file = recs_at files file.deletes file.partition file.bucket ≡ file.recs

found-behind : (first : OutFile) (files later : List OutFile) → IsBefore file_cmp first later → AllByRecursion (IsFoundIn files) later
    → AllByRecursion (IsFoundIn (first ∷ files)) later
found-behind first files [] less h = tt
found-behind first files (file ∷ later) less h = (
  ap (λ b. cond b first.recs (recs_at files file.deletes file.partition file.bucket)) (less-other first file less.0) ∙ h.0,
  found-behind first files later less.1 h.1,
)

all-found : (files : List OutFile) → IsStrictlySortedBy file_cmp files → AllByRecursion (IsFoundIn files) files
unfolding IsStrictlySortedBy
all-found [] up = tt
all-found (first ∷ files) up = (
  ap (λ b. cond b first.recs (recs_at files first.deletes first.partition first.bucket)) (own-key first),
  found-behind first files files up.0 (all-found files up.1),
)

-- ---- each file can be written

pub files-written : (shape : Shape) (write : ℕ) → 1 ≤ write → (effect : Effect) → AllByRecursion (λ (row : Row). RowIsTaken (stored shape row)) effect.inserts
    → AreStanding effect.deletes → AllByRecursion CanBeFile (files_of shape write 0 effect)
files-written shape write some effect taken stand =
    all-mapped (IsFoundIn (files_of shape write 0 effect)) CanBeFile
    (λ file found. subst (CanWrite file.deletes file.bucket) (sym (files-have-rows shape write 0 effect file.deletes file.partition file.bucket stand.up) ∙ found)
    (place-written shape write some effect taken stand file.deletes file.partition file.bucket))
    (files_of shape write 0 effect) (all-found (files_of shape write 0 effect) (all-files-rise shape write 0 effect))

-- whatever is deleted, what is inserted can be
abbrev CanBeInserted : OutFile → Type 0
CanBeInserted file = file.deletes ≡ false → CanWrite false file.bucket file.recs

inserted-alone : (shape : Shape) (write : ℕ) (rows : List Row) → AllByRecursion CanBeFile (files_of shape write 0 (record { inserts = rows; deletes = [] }))
    → AllByRecursion CanBeInserted (insert_files shape write 0 rows)
unfolding files_of
inserted-alone shape write rows h =
    all-mapped CanBeFile CanBeInserted (λ file can kind. subst (λ (d : Bool). CanWrite d file.bucket file.recs) kind can) (insert_files shape write 0 rows)
    (subst (AllByRecursion CanBeFile) (append-nil (insert_files shape write 0 rows)) h)

deletes-aside : (write : ℕ) (runs : List (Run RowId)) → AllByRecursion CanBeInserted (map (file_of_deletes write) runs)
deletes-aside write [] = tt
deletes-aside write (run ∷ runs) = ((λ kind. let never : true ≡ false = kind in cc), deletes-aside write runs)

pub inserts-can-be-put : (shape : Shape) (write : ℕ) → 1 ≤ write → (effect : Effect) → AllByRecursion (λ (row : Row). RowIsTaken (stored shape row)) effect.inserts
    → AllByRecursion (λ (file : OutFile). file.deletes ≡ false → CanWrite false file.bucket file.recs) (files_of shape write 0 effect)
unfolding files_of IsStrictlySortedBy
inserts-can-be-put shape write some effect taken =
    all-joined CanBeInserted (insert_files shape write 0 effect.inserts) (delete_files write effect.deletes)
    (inserted-alone shape write effect.inserts
    (files-written shape write some (record { inserts = effect.inserts; deletes = [] }) taken (record { each = tt; up = tt })))
    (deletes-aside write (runs_of (sorted_by (placed_cmp row_id_cmp) (map place_of_deleted effect.deletes))))

-- ---- and read again

can-stand : (deletes : Bool) (bucket : ℕ) (recs : List Rec) → IsFile deletes bucket recs → CanStand deletes bucket recs
can-stand deletes bucket [] is = tt
can-stand deletes bucket (r ∷ recs) is = is

stand-at : (files : List OutFile) (deletes : Bool) (partition : List ℕ) (bucket : ℕ) → AllByRecursion HasFile files
    → CanStand deletes bucket (recs_at files deletes partition bucket)
stand-at [] deletes partition bucket each = tt
stand-at (file ∷ files) deletes partition bucket each = by (is_file_of deletes partition bucket file) refl (stand-at files deletes partition bucket each.1)
  where
    by : (b : Bool) → is_file_of deletes partition bucket file ≡ b → CanStand deletes bucket (recs_at files deletes partition bucket)
        → CanStand deletes bucket (cond b file.recs (recs_at files deletes partition bucket))
    by true is rest =
        let key = file-key deletes partition bucket file is in
        subst (λ (d : Bool). CanStand d bucket file.recs) key.of_kind
        (subst (λ (n : ℕ). CanStand file.deletes n file.recs) key.of_bucket (can-stand file.deletes file.bucket file.recs each.0))
    by false is rest = rest

pub files-encoded : (shape : Shape) (write : ℕ) (effect : Effect) → IsStrictlySortedBy found_cmp effect.deletes
    → AllByRecursion HasFile (files_of shape write 0 effect) → AllByRecursion (SaysParts shape) effect.inserts
    → IsEncoded shape (written_by shape write 0 effect)
files-encoded shape write effect up each said = record {
  files = λ deletes partition bucket. subst (CanStand deletes bucket) (files-have-rows shape write 0 effect deletes partition bucket up)
      (stand-at (files_of shape write 0 effect) deletes partition bucket each);
  said = numbered-all (λ (p : List ℕ) (b : ℕ) (row : Row). SaysParts shape row) shape write 0 effect.inserts said;
}
