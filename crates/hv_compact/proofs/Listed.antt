-- The files of a job were listed: what it has of them in each bucket is what it is to stage there.
use Rattle.std.proofs.Common.{◌≡◌, inl, inr, ℕ, ◌==◌, nat_eq, Bool, true, false, true≢false, is_some, Option, Some, None, List, [], ◌∷◌, filter, map, refl, sym, ap, ◌∙◌, subst, eqb-true}
use Rattle.std.specs.Prelude.{if◌then◌else◌}
use Rattle.std.specs.Cmp.Lexicographic.{pointwise}
use Rattle.std.specs.List.{flat_map}
use Rattle.std.proofs.lemmas.Bool.{and_parts, and_from, false_from_ne_true}
use Rattle.hv_base.specs.declared.ids.TableId.{TableId}
use Rattle.hv_shelf.specs.Disk.{Tree, places_of}
use Rattle.hv_logic.specs.declared.catalog.Shape.{Shape}
use Rattle.hv_rowfile.specs.declared.record.Rec.{Rec}
use Rattle.hv_route.specs.Standing.{insert_record, delete_record, stands_in}
use Rattle.hv_wids.specs.WriteIds.{WriteIds}
use Rattle.hv_dirs.specs.declared.names.DirName.TheVariants as name
use Rattle.hv_dirs.specs.Choice.{Wide}
use Rattle.hv_merge.specs.Gathering.{gathered}
use Rattle.hv_merge.specs.Merging.{merged}
use Rattle.hv_history.specs.declared.entry.JobKind.{JobKind}
use Rattle.hv_history.specs.declared.entry.JobKind.TheVariants as kind
use Rattle.hv_history.specs.declared.state.Table.{Table}
use Rattle.hv_history.specs.declared.state.Written.{Written}
use Rattle.hv_history.specs.State.{State, Job, numbered, state_of}
use Rattle.hv_history.specs.Legal.{profile}
use Rattle.hv_history.specs.Jobs.{Pieces, pieces_for, mark_by}
use Rattle.hv_earlier.specs.Lists as lists
use Rattle.hv_stands.specs.Files.{records_of}
use Rattle.hv_stands.proofs.Numbers.{same_one}
use Rattle.hv_stands.proofs.Behind.{entries-are}
use Rattle.hv_jobs.specs.Covers.{range_names}
use Rattle.hv_choosing.specs.declared.listing.DirFile.{DirFile}
use Rattle.hv_choosing.specs.Listing.{AreListed}
use Rattle.hv_choosing.specs.Taken.{files_taken}
use Rattle.hv_law_jobs.proofs.OrderLemmas.{job-of-from}
use Rattle.hv_law_made.specs.Made.{has_written, rec_cmp, delta_recs, rows_up_to, base_recs, in_partition, has_rows, has_events, if_bare, some_or, name_file, is_made}
use Rattle.hv_law_made.specs.Entries.{IsSoundBook, IsAtWork}
use Rattle.hv_law_made.proofs.BookLemmas.{books-are-sound}
use Rattle.hv_law_visible.specs.Members.{IsIn}
use Rattle.hv_law_visible.specs.Snapshots.{list_up_to}
use Rattle.hv_law_visible.proofs.MemberLemmas.{from-flat, in-map, from-map, in-filter, from-filter, any-in, none-any}
use Rattle.hv_law_visible.proofs.SortingLemmas.{from-sorted}
use Rattle.hv_law_work.specs.Marks.{WasPicked}
use Rattle.hv_trail.specs.declared.trail.TrailItem.{TrailItem}
use Rattle.hv_trail.specs.Trail.{book_of, state_at}
use Rattle.hv_job_acts.specs.hv_acts.specs.hv_telling.specs.hv_house.specs.hv_law_read.specs.hv_law_whole.specs.hv_law_directories.proofs.DirLemmas.{number-same}
use Rattle.hv_job_acts.specs.hv_acts.specs.hv_telling.specs.hv_house.specs.declared.listing.Listing.{Listing}
use Rattle.hv_job_acts.specs.hv_job_calls.specs.Listing.{is_part}
use Rattle.hv_compact.specs.declared.task.Task.{Task}
use Rattle.hv_compact.specs.Ending.{IsPicked}
use Rattle.hv_compact.specs.Gathering.{taken_in, inserted, wide_of, base_of, files_in, minor_recs, major_recs, IsToHave, HasNoFile, ListsMinor, ListsMajor, ListsJob}
use Rattle.hv_compact.proofs.Wants.{was-so, due-whenever, none-whenever}
use Rattle.hv_compact.proofs.Only.{was-taken, minor-only, major-only}
use Rattle.hv_compact.proofs.Naming.{all-listed}
use Rattle.hv_compact.proofs.Taken.{IsWorkOf}
use Rattle.hv_compact.proofs.Shown.{number-of, recs_then, IsListing, listed-stands}
use Rattle.hv_compact.proofs.Minor.{minor-gathers}
use Rattle.hv_compact.proofs.Major.{major-merges}

-- ---- a directory that has records is made

has-event : (shape : Shape) (partition : List ℕ) (bucket : ℕ) (deletes : Bool) (w : Written) (r : Rec) → IsIn r (records_of shape deletes partition bucket w)
    → has_events deletes partition w ≡ true
has-event shape partition bucket false w r at =
    let row = from-map (insert_record shape) r (filter (stands_in partition bucket) w.inserts) at in
    let kept = from-filter (stands_in partition bucket) row.0 w.inserts row.1 in
    any-in (in_partition partition) row.0 w.inserts kept.0 (and_parts (pointwise nat_eq row.0.partition partition) (row.0.id.bucket == bucket) kept.1).0
has-event shape partition bucket true w r at =
    let row = from-map (delete_record w.write) r (filter (stands_in partition bucket) w.deletes) at in
    let kept = from-filter (stands_in partition bucket) row.0 w.deletes row.1 in
    any-in (in_partition partition) row.0 w.deletes kept.0 (and_parts (pointwise nat_eq row.0.partition partition) (row.0.id.bucket == bucket) kept.1).0

wide-made : (shape : Shape) (writes : List Written) (partition : List ℕ) (deletes : Bool) (low high bucket : ℕ) (r : Rec)
    → IsIn r (delta_recs shape writes partition deletes (Wide low high) bucket)
    → is_made writes partition (name.Wide deletes (record { 0 = low }) (record { 0 = high })) ≡ true
unfolding delta_recs
wide-made shape writes partition deletes low high bucket r at =
    let w = from-flat (records_of shape deletes partition bucket) r (filter (has_written (Wide low high)) writes)
    (from-sorted rec_cmp r (flat_map (records_of shape deletes partition bucket) (filter (has_written (Wide low high)) writes)) at) in
    any-in (has_events deletes partition) w.0 (filter (has_written (Wide low high)) writes) w.1 (has-event shape partition bucket deletes w.0 r w.2)

wide-in : (deletes : Bool) (low high : ℕ) → IsIn (name.Wide deletes (record { 0 = low }) (record { 0 = high })) (range_names kind.Minor low high)
wide-in false low high = inl refl
wide-in true low high = inr (inl refl)

wide-file : (shape : Shape) (writes : List Written) (partition : List ℕ) (deletes : Bool) (low high bucket : ℕ)
    → name_file shape writes partition (name.Wide deletes (record { 0 = low }) (record { 0 = high })) bucket
    ≡ some_or deletes (delta_recs shape writes partition deletes (Wide low high) bucket) None
unfolding name_file
wide-file shape writes partition deletes low high bucket = refl

base-file : (shape : Shape) (writes : List Written) (partition : List ℕ) (high bucket : ℕ)
    → name_file shape writes partition (name.Base (record { 0 = high })) bucket
    ≡ some_or false (base_recs shape writes partition high bucket) (if_bare (has_rows writes partition high) bucket)
unfolding name_file
base-file shape writes partition high bucket = refl

-- ---- whether a base has rows

rows-some : (shape : Shape) (writes : List Written) (partition : List ℕ) (high bucket : ℕ) (r : Rec) → IsIn r (base_recs shape writes partition high bucket)
    → has_rows writes partition high ≡ true
unfolding base_recs
rows-some shape writes partition high bucket r at =
    let row = from-map (insert_record shape) r (filter (stands_in partition bucket) (rows_up_to writes high)) at in
    let kept = from-filter (stands_in partition bucket) row.0 (rows_up_to writes high) row.1 in
    any-in (in_partition partition) row.0 (rows_up_to writes high) kept.0
    (and_parts (pointwise nat_eq row.0.partition partition) (row.0.id.bucket == bucket) kept.1).0

rows-none : (shape : Shape) (writes : List Written) (partition : List ℕ) (high : ℕ) → ((bucket : ℕ) → base_recs shape writes partition high bucket ≡ [])
    → has_rows writes partition high ≡ false
unfolding base_recs
rows-none shape writes partition high none =
    none-any (in_partition partition) (rows_up_to writes high)
    (λ row at is.
    subst (IsIn (insert_record shape row)) (none row.id.bucket)
    (in-map (insert_record shape) row (filter (stands_in partition row.id.bucket) (rows_up_to writes high))
    (in-filter (stands_in partition row.id.bucket) row (rows_up_to writes high) at
    (and_from (pointwise nat_eq row.partition partition) (row.id.bucket == row.id.bucket) is (number-same row.id.bucket)))))

first-of : (recs : List Rec) → (recs ≡ [] → ⊥) → (r : Rec) × IsIn r recs
first-of [] some = absurd (some refl)
first-of (r ∷ recs) some = (r, inl refl)

bare-none : (rows : Bool) (bucket : ℕ) → rows ≡ true → if_bare rows bucket ≡ None
bare-none true bucket e = refl
bare-none false bucket e = absurd (true≢false (sym e))

bare-first : (rows : Bool) → rows ≡ false → if_bare rows 0 ≡ Some (false, [])
bare-first true e = absurd (true≢false e)
bare-first false e = refl

bare-other : (rows : Bool) (bucket : ℕ) → rows ≡ false → (bucket ≡ 0 → ⊥) → if_bare rows bucket ≡ None
bare-other true bucket e other = absurd (true≢false e)
bare-other false bucket e other = by (bucket == 0) (Some (false, [])) (false_from_ne_true (bucket == 0) (λ is. other (eqb-true bucket 0 is)))
  where
    by : (b : Bool) (o : Option (Bool × List Rec)) → b ≡ false → (if b then o else None) ≡ None
    by true o is = absurd (true≢false is)
    by false o is = refl

-- ---- a job at work whose files were listed

module _ (trail : List TrailItem) (task : Task) (p : IsPicked trail task) (files : Tree) (listing : Listing)
    (it : IsListing trail task.job.0 files listing.list listing.inserts.items listing.deletes.items) where
  abbrev s : State
  s = state_at trail

  sound : IsSoundBook (state_of (book_of trail))
  sound = books-are-sound profile (book_of trail) it.book.fit

  was : WasPicked s task.job.0
  was = record { job = it.job; is = it.at; picked = ap (λ (o : Option ℕ). is_some o) it.picked }

  module _ (j : Job) (work : IsAtWork (state_at trail) task.job.0 j) where
    abbrev table : Table
    table = work.table

    one : it.job ≡ j
    one = same_one (numbered s.jobs task.job.0) it.job j it.at work.is

    -- it is the one that was picked, with that range
    then_so : (numbered (state_at p.then_).jobs task.job.0 ≡ Some j) × (pieces_for s j ≡ pieces_for (state_at p.then_) j)
    then_so = was-so p.then_ trail p.front it.book task.job.0 (was-taken trail task p) j work

    then-one : p.job ≡ j
    then-one = same_one (numbered (state_at p.then_).jobs task.job.0) p.job j p.is then_so.0

    kind-is : j.kind ≡ task.kind
    kind-is = ap (λ (k : Job). k.kind) (sym then-one) ∙ sym p.kind

    low-is : (pieces_for s j).low ≡ task.low
    low-is = ap (λ (x : Pieces). x.low) then_so.1 ∙ ap (λ (k : Job). (pieces_for (state_at p.then_) k).low) (sym then-one) ∙ sym p.low

    high-is : (pieces_for s j).high ≡ task.high
    high-is = ap (λ (x : Pieces). x.high) then_so.1 ∙ ap (λ (k : Job). (pieces_for (state_at p.then_) k).high) (sym then-one) ∙ sym p.high

    number-is : table.info.table.0 ≡ j.table
    number-is = number-of s.tables sound.base.tables.in_order j.table table work.table_is

    abbrev its-work : IsWorkOf (book_of trail) table files task.job.0 it.mark
    its-work = record {
      fit = it.book.fit;
      few = it.short;
      standing = it.standing;
      here = ap (numbered s.tables) number-is ∙ work.table_is;
      live = work.live;
      job = j;
      at = work.is;
      working = work.working;
      mine = job-of-from table.info.table.0 j.partition j (sym number-is) refl;
      picked = subst (λ (k : Job). k.watermark ≡ Some it.mark) one it.picked;
    }

    named : (all : List DirFile) × AreListed (places_of table.info.table files) all
    named = all-listed (places_of table.info.table files)

    abbrev mark_list : WriteIds
    mark_list = list_up_to it.mark (lists.list_at (book_of trail) (state_of (book_of trail)).entries table.info.table.0)

    list-is : listing.list ≡ mark_list
    list-is =
        let number : table.info.table.0 ≡ it.job.table = number-is ∙ ap (λ (k : Job). k.table) (sym one) in
        it.list_is ∙ (λ i. list_up_to (mark_by (it.picked i)) (lists.list_at (book_of trail) (sym (entries-are (book_of trail)) i) (sym number i)))

    abbrev its-table : TableId
    its-table = record { 0 = j.table }

    table-same : its-table ≡ table.info.table
    table-same = λ i. record { 0 = sym number-is i }

    its : AreListed (filter (is_part j.partition) (places_of table.info.table files)) it.taken.named
    its =
        subst (λ (t : TableId). AreListed (filter (is_part j.partition) (places_of t files)) it.taken.named) table-same
        (subst (λ (k : Job). AreListed (filter (is_part k.partition) (places_of (record { 0 = k.table }) files)) it.taken.named) one it.taken.listed)

    files-are : (deletes : Bool) → files_in deletes listing ≡ files_taken deletes mark_list it.taken.named
    files-are false = it.taken.inserts_are ∙ ap (λ (l : WriteIds). files_taken false l it.taken.named) list-is
    files-are true = it.taken.deletes_are ∙ ap (λ (l : WriteIds). files_taken true l it.taken.named) list-is

    -- ---- a minor one

    minor-is : task.kind ≡ kind.Minor → (deletes : Bool) (bucket : ℕ)
        → minor_recs (recs_then trail) task deletes bucket listing
        ≡ delta_recs table.info.shape table.writes j.partition deletes (Wide task.low task.high) bucket
    minor-is is deletes bucket =
        (λ i. gathered (sym low-is i) (sym high-is i) (map (recs_then trail) (taken_in kind.Minor bucket (files-are deletes i))))
        ∙ minor-gathers (book_of trail) table files task.job.0 it.mark its-work named.0 named.1 it.taken.named its it.truth work (kind-is ∙ is) deletes bucket
        ∙ (λ i. delta_recs table.info.shape table.writes j.partition deletes (Wide (low-is i) (high-is i)) bucket)

    wide-there : task.kind ≡ kind.Minor → (deletes : Bool)
        → IsIn (wide_of task deletes) (range_names j.kind (pieces_for s j).low (pieces_for s j).high)
    wide-there is deletes =
        subst (λ (k : JobKind). IsIn (wide_of task deletes) (range_names k (pieces_for s j).low (pieces_for s j).high)) (sym (kind-is ∙ is))
        (subst (λ (l : ℕ). IsIn (wide_of task deletes) (range_names kind.Minor l (pieces_for s j).high)) (sym low-is)
        (subst (λ (h : ℕ). IsIn (wide_of task deletes) (range_names kind.Minor task.low h)) (sym high-is) (wide-in deletes task.low task.high)))

    minor-some : task.kind ≡ kind.Minor → (deletes : Bool) (bucket : ℕ) (r : Rec) (rest : List Rec)
        → minor_recs (recs_then trail) task deletes bucket listing ≡ r ∷ rest
        → IsToHave (wide_of task deletes) deletes bucket (r ∷ rest) s j table
    minor-some is deletes bucket r rest e =
        let recs = minor-is is deletes bucket in (
          in-filter (is_made table.writes j.partition) (wide_of task deletes) (range_names j.kind (pieces_for s j).low (pieces_for s j).high)
              (wide-there is deletes)
              (wide-made table.info.shape table.writes j.partition deletes task.low task.high bucket r (subst (IsIn r) (sym e ∙ recs) (inl refl))),
          wide-file table.info.shape table.writes j.partition deletes task.low task.high bucket
              ∙ ap (λ (rs : List Rec). some_or deletes rs None) (sym recs ∙ e),
        )

    minor-none : task.kind ≡ kind.Minor → (deletes : Bool) (bucket : ℕ) → minor_recs (recs_then trail) task deletes bucket listing ≡ []
        → HasNoFile (wide_of task deletes) bucket s j table
    minor-none is deletes bucket e among =
        wide-file table.info.shape table.writes j.partition deletes task.low task.high bucket
        ∙ ap (λ (rs : List Rec). some_or deletes rs None) (sym (minor-is is deletes bucket) ∙ e)

    -- ---- a major one

    major-is : (bucket : ℕ) → major_recs (recs_then trail) bucket listing ≡ base_recs table.info.shape table.writes j.partition task.high bucket
    major-is bucket =
        (λ i. map inserted (merged (list-is i) (map (recs_then trail) (taken_in kind.Major bucket (files-are false i)))
        (map (recs_then trail) (taken_in kind.Major bucket (files-are true i)))))
        ∙ major-merges (book_of trail) table files task.job.0 it.mark its-work named.0 named.1 it.taken.named its bucket it.truth
        ∙ ap (λ (h : ℕ). base_recs table.info.shape table.writes j.partition h bucket) high-is

    base-there : task.kind ≡ kind.Major → IsIn (base_of task) (range_names j.kind (pieces_for s j).low (pieces_for s j).high)
    base-there is =
        subst (λ (k : JobKind). IsIn (base_of task) (range_names k (pieces_for s j).low (pieces_for s j).high)) (sym (kind-is ∙ is))
        (subst (λ (h : ℕ). IsIn (base_of task) (range_names kind.Major (pieces_for s j).low h)) (sym high-is) (inl refl))

    base-among : task.kind ≡ kind.Major
        → IsIn (base_of task) (filter (is_made table.writes j.partition) (range_names j.kind (pieces_for s j).low (pieces_for s j).high))
    base-among is =
        in-filter (is_made table.writes j.partition) (base_of task) (range_names j.kind (pieces_for s j).low (pieces_for s j).high) (base-there is) refl

    major-file : (bucket : ℕ) (recs : List Rec) → major_recs (recs_then trail) bucket listing ≡ recs
        → name_file table.info.shape table.writes j.partition (base_of task) bucket
        ≡ some_or false recs (if_bare (has_rows table.writes j.partition task.high) bucket)
    major-file bucket recs e =
        base-file table.info.shape table.writes j.partition task.high bucket
        ∙ ap (λ (rs : List Rec). some_or false rs (if_bare (has_rows table.writes j.partition task.high) bucket)) (sym (major-is bucket) ∙ e)

    no-rows : ((bucket : ℕ) → major_recs (recs_then trail) bucket listing ≡ []) → has_rows table.writes j.partition task.high ≡ false
    no-rows none = rows-none table.info.shape table.writes j.partition task.high (λ bucket. sym (major-is bucket) ∙ none bucket)

    major-some : task.kind ≡ kind.Major → (bucket : ℕ) (r : Rec) (rest : List Rec) → major_recs (recs_then trail) bucket listing ≡ r ∷ rest
        → IsToHave (base_of task) false bucket (r ∷ rest) s j table
    major-some is bucket r rest e = (base-among is, major-file bucket (r ∷ rest) e)

    major-none : (bucket other : ℕ) → major_recs (recs_then trail) bucket listing ≡ [] → (major_recs (recs_then trail) other listing ≡ [] → ⊥)
        → HasNoFile (base_of task) bucket s j table
    major-none bucket other e some among =
        let first = first-of (major_recs (recs_then trail) other listing) some in
        let rows = rows-some table.info.shape table.writes j.partition task.high other first.0 (subst (IsIn first.0) (major-is other) first.1) in
        major-file bucket [] e ∙ bare-none (has_rows table.writes j.partition task.high) bucket rows

    major-bare : task.kind ≡ kind.Major → ((bucket : ℕ) → major_recs (recs_then trail) bucket listing ≡ []) → IsToHave (base_of task) false 0 [] s j table
    major-bare is none = (base-among is, major-file 0 [] (none 0) ∙ bare-first (has_rows table.writes j.partition task.high) (no-rows none))

    major-rest : ((bucket : ℕ) → major_recs (recs_then trail) bucket listing ≡ []) → (bucket : ℕ) → (bucket ≡ 0 → ⊥)
        → HasNoFile (base_of task) bucket s j table
    major-rest none bucket later among =
        major-file bucket [] (none bucket) ∙ bare-other (has_rows table.writes j.partition task.high) bucket (no-rows none) later

  -- ---- so it is whenever it works

  lists-minor : task.kind ≡ kind.Minor → ListsMinor trail task (recs_then trail) listing
  lists-minor is = record {
    some = λ deletes bucket r rest e.
        due-whenever trail task.job (wide_of task deletes) deletes bucket (r ∷ rest) was (λ j work. minor-some j work is deletes bucket r rest e);
    none = λ deletes bucket e.
        none-whenever trail task.job (wide_of task deletes) bucket was (λ j work. minor-none j work is deletes bucket e);
    only = minor-only trail task p is;
  }

  lists-major : task.kind ≡ kind.Major → ListsMajor trail task (recs_then trail) listing
  lists-major is = record {
    some = λ bucket r rest e.
        due-whenever trail task.job (base_of task) false bucket (r ∷ rest) was (λ j work. major-some j work is bucket r rest e);
    none = λ bucket other e some.
        none-whenever trail task.job (base_of task) bucket was (λ j work. major-none j work bucket other e some);
    bare = λ none. due-whenever trail task.job (base_of task) false 0 [] was (λ j work. major-bare j work is none);
    rest = λ none bucket other. none-whenever trail task.job (base_of task) bucket was (λ j work. major-rest j work none bucket other);
    only = major-only trail task p is;
  }

  pub lists-job : ListsJob trail task listing
  lists-job = record {
    recs_of = recs_then trail;
    inserts = λ file among.
        listed-stands trail task.job files listing.list listing.inserts.items listing.deletes.items it false file (subst (IsIn file) it.taken.inserts_are among);
    deletes = λ file among.
        listed-stands trail task.job files listing.list listing.inserts.items listing.deletes.items it true file (subst (IsIn file) it.taken.deletes_are among);
    minor = lists-minor;
    major = lists-major;
  }
