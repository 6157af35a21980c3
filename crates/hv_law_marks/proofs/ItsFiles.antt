-- Whose an own directory is, and the files of a change by their places.
use Rattle.std.proofs.Common.{◌≡◌, ℕ, ◌<◌, Some, List, [], ◌∷◌, ◌++◌, length, map, option_map, refl, sym, ap, ◌∙◌, subst, arith, Bool, true, false, cond}
use Rattle.std.specs.List.{slice_get, AllByRecursion, Contains}
use Rattle.std.specs.List.Sorted.{IsStrictlySortedBy}
use Rattle.std.specs.declared.cmp.Ordering.TheVariants.{Less}
use Rattle.std.proofs.lemmas.List.Elements.{All-contains, All-from_recursion}
use Rattle.hv_base.specs.declared.ids.Limits.{Limits}
use Rattle.hv_shelf.specs.declared.place.Place.{Place}
use Rattle.hv_logic.specs.declared.catalog.TableInfo.{TableInfo}
use Rattle.hv_logic.specs.declared.effect.Effect.{Effect}
use Rattle.hv_logic.specs.declared.meaning.Meaning.TheVariants.{Change}
use Rattle.hv_logic.specs.Rows.{found_cmp}
use Rattle.hv_route.specs.declared.files.OutFile.{OutFile}
use Rattle.hv_route.specs.Routes.{files_of}
use Rattle.hv_route.specs.Rising.{file_cmp}
use Rattle.hv_route.specs.Standing.{is_file_of, recs_at}
use Rattle.hv_route.proofs.RisingLemmas.{all-files-rise}
use Rattle.hv_route.proofs.StandingLemmas.{files-have-rows, files-have-records}
use Rattle.hv_rowfile.specs.declared.record.Rec.{Rec}
use Rattle.hv_rowfile.specs.Layout.{file_spelling}
use Rattle.hv_history.specs.declared.entry.Entry.{Entry}
use Rattle.hv_history.specs.declared.state.Table.{Table}
use Rattle.hv_history.specs.declared.state.Transaction.{Transaction}
use Rattle.hv_history.specs.declared.state.Statement.{Statement}
use Rattle.hv_history.specs.declared.state.Written.{Written}
use Rattle.hv_history.specs.State.{State, nothing_yet, numbered, given_in, statement_meaning, after, state_of, written_by}
use Rattle.hv_history.specs.Legal.{AllFit}
use Rattle.hv_history.specs.Lasting.{TableLater}
use Rattle.hv_history.proofs.LastingLaws.{goes-on, kept-more}
use Rattle.hv_dirs.specs.Names.{write_end}
use Rattle.hv_stands.specs.Files.{own_dir, commit_file, file_of, place_of_file}
use Rattle.hv_stands.specs.Sound.{HasFewOwners, info_in, given_of, owners_of, given_among, IsRoutedChange, ChangesAmong, IsSingle, IsSound}
use Rattle.hv_stands.specs.Running.{IsOfId}
use Rattle.hv_stands.proofs.Numbers.{same_one, found, numbered-within, numbered-map}
use Rattle.hv_stands.proofs.Soundness.{all-numbered}
use Rattle.hv_stands.proofs.MadeFiles.{own_dir-same, made-by, made-own}
use Rattle.hv_stands.proofs.Keeping.{owner-table, sound-all, nothing-sound}
use Rattle.hv_stands.proofs.Behind.{entries-are}
use Rattle.hv_stands.proofs.OwnFiles.{found-given}
use Rattle.hv_stands.proofs.FileRecords.{IsKeyOf, file-key, key-file, less-other}
use Rattle.hv_trail.specs.declared.trail.TrailItem.{TrailItem}
use Rattle.hv_trail.specs.Trail.{book_of, state_at}
use Rattle.hv_law_marks.specs.Marked.{ChangesBy, IsChanging, IsOwnPlace, file_wanted, IsFileOf}
use Rattle.hv_law_marks.specs.Laws.{IsFitting}

-- ---- files that rise by kind, partition and bucket

abbrev ItsRecords : List OutFile → OutFile → Type 0
ItsRecords files file = recs_at files file.deletes file.partition file.bucket ≡ file.recs

found-behind : (first : OutFile) (files later : List OutFile) → AllByRecursion (λ (file : OutFile). file_cmp first file ≡ Less) later
    → AllByRecursion (ItsRecords files) later → AllByRecursion (ItsRecords (first ∷ files)) later
found-behind first files [] less each = tt
found-behind first files (file ∷ later) less each = (
  ap (λ b. cond b first.recs (recs_at files file.deletes file.partition file.bucket)) (less-other first file less.0) ∙ each.0,
  found-behind first files later less.1 each.1,
)

own-key : (file : OutFile) → is_file_of file.deletes file.partition file.bucket file ≡ true
own-key file = key-file file.deletes file.partition file.bucket file (record { of_kind = refl; of_part = refl; of_bucket = refl })

all-found : (files : List OutFile) → IsStrictlySortedBy file_cmp files → AllByRecursion (ItsRecords files) files
unfolding IsStrictlySortedBy
all-found [] up = tt
all-found (first ∷ files) up = (
  ap (λ b. cond b first.recs (recs_at files first.deletes first.partition first.bucket)) (own-key first),
  found-behind first files files up.0 (all-found files up.1),
)

some-file : (deletes : Bool) (bucket : ℕ) (recs : List Rec) → 0 < length recs → file_of deletes bucket recs ≡ Some (file_spelling deletes bucket recs)
some-file deletes bucket [] some = absurd (omega (arith, some))
some-file deletes bucket (r ∷ recs) some = refl

-- records that make a file are those of one of these
one-of-key : (P : OutFile → Type 0) (files : List OutFile) (deletes : Bool) (partition : List ℕ) (bucket : ℕ) (bytes : List ℕ)
    → file_of deletes bucket (recs_at files deletes partition bucket) ≡ Some bytes → AllByRecursion P files
    → (file : OutFile) × IsKeyOf deletes partition bucket file × P file
one-of-key P [] deletes partition bucket bytes e each = cc
one-of-key P (file ∷ files) deletes partition bucket bytes e each =
    by (is_file_of deletes partition bucket file) refl (λ h. one-of-key P files deletes partition bucket bytes h each.1) e
  where
    by : (b : Bool) → is_file_of deletes partition bucket file ≡ b
        → (file_of deletes bucket (recs_at files deletes partition bucket) ≡ Some bytes → (one : OutFile) × IsKeyOf deletes partition bucket one × P one)
        → file_of deletes bucket (cond b file.recs (recs_at files deletes partition bucket)) ≡ Some bytes → (one : OutFile) × IsKeyOf deletes partition bucket one × P one
    by true is rest e = (file, file-key deletes partition bucket file is, each.0)
    by false is rest e = rest e

-- ---- those of a change

of-its-id : (info : TableInfo) (effect : Effect) (write : ℕ) (place : Place) (bytes : List ℕ) → IsFileOf info effect write place bytes → IsOfId info.table.0 write place
of-its-id info effect write place bytes file = record {
  table_is = ap (λ (p : Place). p.table.0) file.place_is;
  deletes = file.file.deletes;
  statement = 0;
  dir = ap (λ (p : Place). p.dir) file.place_is;
}

module _ (info : TableInfo) (effect : Effect) (write : ℕ) (up : IsStrictlySortedBy found_cmp effect.deletes) (small : write < write_end) where
  abbrev written : Written
  written = written_by info.shape write 0 effect

  abbrev outs : List OutFile
  outs = files_of info.shape write 0 effect

  its : (P : OutFile → Type 0) (file : OutFile) → Contains outs file → AllByRecursion P outs → P file
  its P file among each = All-contains P outs file (All-from_recursion P outs each) among

  commit-is : (deletes : Bool) (partition : List ℕ) (bucket : ℕ)
      → commit_file info.shape deletes partition bucket written ≡ file_of deletes bucket (recs_at outs deletes partition bucket)
  unfolding commit_file
  commit-is deletes partition bucket = ap (file_of deletes bucket) (sym (files-have-rows info.shape write 0 effect deletes partition bucket up))

  -- a file of the change is wanted at its place
  file-wanted : (place : Place) (bytes : List ℕ) → IsFileOf info effect write place bytes → file_wanted info effect write place ≡ Some bytes
  file-wanted place bytes of =
      let file = of.file in
      ap (file_wanted info effect write) of.place_is
      ∙ made-own info.shape written file.deletes (place_of_file info.table.0 write file) small refl
      ∙ commit-is file.deletes file.partition file.bucket
      ∙ ap (file_of file.deletes file.bucket) (its (ItsRecords outs) file of.among (all-found outs (all-files-rise info.shape write 0 effect)))
      ∙ some-file file.deletes file.bucket file.recs (its (λ (one : OutFile). 0 < length one.recs) file of.among (files-have-records info.shape write 0 effect))
      ∙ ap (λ (bs : List ℕ). Some bs) (sym of.bytes_are)

  -- what is wanted at a place of its own table is one of its files
  wanted-file : (P : OutFile → Type 0) (place : Place) (bytes : List ℕ) → place.table.0 ≡ info.table.0 → file_wanted info effect write place ≡ Some bytes
      → AllByRecursion P outs → (file : OutFile) × (place ≡ place_of_file info.table.0 write file) × P file
  wanted-file P place bytes of wanted each =
      let made = made-by info.shape written place bytes wanted in
      let one = one-of-key P outs made.deletes place.partition place.bucket bytes
      (sym (commit-is made.deletes place.partition place.bucket) ∙ made.file) each in (
        one.0,
        λ i. record {
          table = record { 0 = of i };
          partition = sym one.1.of_part i;
          dir = (made.dir_is ∙ ap (λ (d : Bool). own_dir d write 0) (sym one.1.of_kind)) i;
          bucket = sym one.1.of_bucket i;
        },
        one.2,
      )

-- a book that fits
pub sound-of : (limits : Limits) (book : List Entry) → AllFit limits nothing_yet book → IsSound (state_of book)
sound-of limits book fit = sound-all limits nothing_yet book fit nothing-sound

pub near-of : (limits : Limits) (trail : List TrailItem) → IsFitting limits trail → (state_at trail).entries < write_end
near-of limits trail fitting = omega (arith, fitting.few, entries-are (book_of trail))

-- ---- over a sound state

id-owner : (s : State) → IsSound s → (txn k w : ℕ) (t : Transaction) → numbered s.transactions txn ≡ Some t → given_in k t.given ≡ Some w
    → (table : Table) × (numbered s.tables k ≡ Some table) × (numbered table.owners w ≡ Some txn)
id-owner s sound txn k w t at given =
    owner-table (map owners_of s.tables) s.tables k w txn refl
    (sound.given.has_owner txn k w (ap (λ o. given_among o k) (numbered-map given_of s.transactions txn ∙ ap (option_map given_of) at) ∙ given))

pub given-place : (s : State) → IsSound s → (txn k w : ℕ) (t : Transaction) → numbered s.transactions txn ≡ Some t → given_in k t.given ≡ Some w
    → (place : Place) → IsOfId k w place → IsOwnPlace s.tables txn place
given-place s sound txn k w t at given place of =
    let id = id-owner s sound txn k w t at given in
    record {
      table = id.0;
      named = ap (numbered s.tables) of.table_is ∙ id.1;
      write = w;
      owner = id.2;
      own = record { table_is = refl; deletes = of.deletes; statement = of.statement; dir = of.dir };
    }

module _ (s : State) (sound : IsSound s) (room : s.entries < write_end) where
  few-ids : (k w txn : ℕ) (table : Table) → numbered s.tables k ≡ Some table → numbered table.owners w ≡ Some txn → w < write_end
  few-ids k w txn table at owner =
      let few = all-numbered (HasFewOwners s.entries) s.tables k table at sound.tables.few in
      let within = numbered-within table.owners w txn owner in
      omega (arith, few, within.1, room)

  -- a place has one owner
  pub one-owner : (place : Place) (txn other : ℕ) → IsOwnPlace s.tables txn place → IsOwnPlace s.tables other place → txn ≡ other
  one-owner place txn other a b =
      let same : a.table ≡ b.table = same_one (numbered s.tables place.table.0) a.table b.table a.named b.named in
      let names = own_dir-same a.own.deletes b.own.deletes a.write a.own.statement b.write b.own.statement
      (few-ids place.table.0 a.write txn a.table a.named a.owner) (few-ids place.table.0 b.write other b.table b.named b.owner)
      (sym a.own.dir ∙ b.own.dir) in
      same_one (numbered b.table.owners b.write) txn other
      (subst (λ (w : ℕ). numbered b.table.owners w ≡ Some txn) names.1 (subst (λ (table : Table). numbered table.owners a.write ≡ Some txn) same a.owner)) b.owner

  module _ (txn : ℕ) (info : TableInfo) (effect : Effect) (write : ℕ) (changing : IsChanging s txn info effect write) where
    pub the-one : (t : Transaction) × (numbered s.transactions txn ≡ Some t) × ChangesBy info effect write t
    the-one = found (ChangesBy info effect write) (numbered s.transactions txn) changing

    given : given_in info.table.0 the-one.0.given ≡ Some write
    given = ap (given_in info.table.0) the-one.2.given_is ∙ found-given info.table.0 write

    small : write < write_end
    small =
        let id = id-owner s sound txn info.table.0 write the-one.0 the-one.1 given in
        few-ids info.table.0 write txn id.0 id.1 id.2

    pub of-changing : (place : Place) → IsOfId info.table.0 write place → IsOwnPlace s.tables txn place
    of-changing place of = given-place s sound txn info.table.0 write the-one.0 the-one.1 given place of

    pub own-place : (place : Place) (bytes : List ℕ) → IsFileOf info effect write place bytes → IsOwnPlace s.tables txn place
    own-place place bytes file = of-changing place (of-its-id info effect write place bytes file)

    -- its deletes rise
    up : IsStrictlySortedBy found_cmp effect.deletes
    up =
        let single = all-numbered (IsSingle (map info_in s.tables)) s.transactions txn the-one.0 the-one.1 sound.single in
        let means : single.statement.meaning ≡ Some (Change info effect) =
        ap (λ (statements : List Statement). statement_meaning (slice_get statements 0)) (sym single.one) ∙ the-one.2.means_it in
        let routed : IsRoutedChange (map info_in s.tables) info effect = subst (ChangesAmong (map info_in s.tables)) means single.changes in
        routed.deletes

    -- each of its files is wanted at its place, and there alone something is
    pub wanted-here : (place : Place) (bytes : List ℕ) → IsFileOf info effect write place bytes → file_wanted info effect write place ≡ Some bytes
    wanted-here place bytes file = file-wanted info effect write up small place bytes file

    pub one-wanted : (P : OutFile → Type 0) (place : Place) (bytes : List ℕ) → IsOfId info.table.0 write place → file_wanted info effect write place ≡ Some bytes
        → AllByRecursion P (files_of info.shape write 0 effect) → (file : OutFile) × (place ≡ place_of_file info.table.0 write file) × P file
    one-wanted P place bytes of wanted each = wanted-file info effect write up small P place bytes of.table_is wanted each

-- ---- owners stay

numbered-front : {A : Type 0} (xs ys : List A) (n : ℕ) (x : A) → numbered xs n ≡ Some x → numbered (xs ++ ys) n ≡ Some x
numbered-front {A = A} xs ys n x at =
    let there = found (λ (y : A). y ≡ x) (numbered (xs ++ ys) n) (kept-more (λ (a b : A). b ≡ a) (λ (a : A). refl) xs ys n x at) in
    there.1 ∙ ap (λ (y : A). Some y) there.2

pub owner-stays : (s : State) (event : Entry) (txn : ℕ) (place : Place) → IsOwnPlace s.tables txn place → IsOwnPlace (after s event).tables txn place
owner-stays s event txn place of =
    let later = found (TableLater of.table) (numbered (after s event).tables place.table.0) ((goes-on s event).tables place.table.0 of.table of.named) in
    record {
      table = later.0;
      named = later.1;
      write = of.write;
      owner = ap (λ (owners : List ℕ). numbered owners of.write) later.2.owners.is
          ∙ numbered-front of.table.owners later.2.owners.more of.write txn of.owner;
      own = of.own;
    }
