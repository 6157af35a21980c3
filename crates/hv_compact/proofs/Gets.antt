-- Files of a job that are read, one after another.
use Rattle.std.proofs.Common.{◌≡◌, ◌<◌, ◌+◌, inl, inr, ℕ, zero, suc, arith, Bool, true, false, Option, Some, None, List, [], ◌∷◌, ◌++◌, map, take, get_or, length, Result, Ok, Err, refl, sym, ap, ◌∙◌, subst, append-nil, eqb-true}
use Rattle.std.specs.Prelude.{IfOk, IfErr, ◌==◌, if◌then◌else◌}
use Rattle.std.specs.List.{AllByRecursion}
use Rattle.std.specs.Global.{Vec}
use Rattle.std.proofs.lemmas.List.{take_more, map-append}
use Rattle.std.proofs.lemmas.List.Elements.{filter-append}
use Rattle.hv_base.specs.declared.ids.JobId.{JobId}
use Rattle.hv_shelf.specs.declared.place.Place.{Place}
use Rattle.hv_shelf.specs.Disk.{Store}
use Rattle.hv_rowfile.specs.declared.record.Rec.{Rec}
use Rattle.hv_rowfile.specs.Layout.{IsFile, file_spelling}
use Rattle.hv_rowfile.proofs.Books.{file_one}
use Rattle.hv_choosing.specs.declared.listing.DirFile.{DirFile}
use Rattle.hv_choosing.specs.declared.dir.Span.{Span}
use Rattle.hv_history.specs.declared.entry.JobKind.{JobKind}
use Rattle.hv_history.specs.declared.entry.JobCause.TheVariants as cause
use Rattle.hv_history.specs.Lasting.{IsFront}
use Rattle.hv_law_made.specs.Standing.{IsEncodingOf}
use Rattle.hv_law_visible.specs.Members.{IsIn}
use Rattle.hv_table_rows.specs.Amiss.{first_amiss}
use Rattle.hv_table_rows.proofs.Fronts.{none-amiss}
use Rattle.hv_table_rows.proofs.Names.{all-append}
use Rattle.hv_trail.specs.declared.trail.Reader.TheVariants as reader
use Rattle.hv_trail.specs.declared.trail.TrailItem.{TrailItem}
use Rattle.hv_trail.specs.Steps.{HouseSeen, Call, Read}
use Rattle.hv_trail.proofs.Asked.{both}
use Rattle.hv_actor.specs.Acting.{IsLater, Went, Moment, AreRows, among}
use Rattle.hv_job_acts.specs.hv_acts.specs.declared.told.ToldHouse.{ToldHouse}
use Rattle.hv_job_acts.specs.hv_acts.specs.Told.{seen_in, trail_in}
use Rattle.hv_job_acts.specs.hv_acts.specs.Going.{IsOpenHouse}
use Rattle.hv_job_acts.specs.hv_acts.proofs.ReadSteps.{fitting-book}
use Rattle.hv_job_acts.specs.hv_acts.specs.hv_telling.specs.Telling.{IsTold, IsToldHouse}
use Rattle.hv_job_acts.specs.hv_job_calls.specs.Tests.{IsGoneOrHouse}
use Rattle.hv_job_acts.specs.declared.fault.JobActFault.{JobActFault}
use Rattle.hv_job_acts.specs.Answers.{answer_call, adds_by, WhyLeaves}
use Rattle.hv_job_acts.specs.Doing.{GetsSo, IsMadeOf, IfCallOrUnfit}
use Rattle.hv_job_acts.specs.Going.{AddsItems}
use Rattle.hv_compact.specs.declared.fault.Stop.{Stop}
use Rattle.hv_compact.specs.declared.fault.Stop.TheVariants as stop
use Rattle.hv_compact.specs.Stopping.{act_stop, StopsSo}
use Rattle.hv_compact.specs.Compacting.{IsMarkOf, IsWroteOf, Works}
use Rattle.hv_compact.specs.Gathering.{takes, is_taken, taken_in, StandsWhile}
use Rattle.hv_compact.specs.Reading.{lacking, IsSpoilt, AreFilesOf, ReadsOne, ReadsEach}
use Rattle.hv_compact.proofs.Short.{short_damaged}
use Rattle.hv_compact.proofs.Adds.{front-more, adds-none, adds-more, adds-front, adds-told}
use Rattle.hv_compact.proofs.Stops.{may-memory}
use Rattle.hv_compact.proofs.Held.{HeldOf, read-marks, reached-front, held-as, adds-of, done-open, done-answers, refused-stops, works-ok, works-err}

-- ---- the bytes of a file

-- a file that isn't amiss is one of the kind and the bucket that are meant
pub is-meant : (deletes : Bool) (bucket : ℕ) (span : Span) (kind : Bool) (other : ℕ) (recs : List Rec) → IsFile kind other recs
    → None ≡ first_amiss deletes bucket span kind other recs → IsFile deletes bucket recs
is-meant deletes bucket span kind other recs file none =
    let meant = none-amiss deletes bucket span kind other recs (sym none) in
    subst (λ (k : Bool). IsFile k bucket recs) (sym meant.0) (subst (λ (b : ℕ). IsFile kind b recs) meant.1 file)

pub meant-if : (deletes : Bool) (bucket : ℕ) (span : Span) (kind : Bool) (other : ℕ) (recs : List Rec) (amiss : Option ℕ) (result : Result (Vec Rec) Stop)
    → IsFile kind other recs → amiss ≡ first_amiss deletes bucket span kind other recs → IfOk result (λ found. amiss ≡ None)
    → IfOk result (λ found. found.items ≡ recs) → IfOk result (λ found. IsFile deletes bucket found.items)
meant-if deletes bucket span kind other recs amiss (Ok found) file is none same =
    subst (IsFile deletes bucket) (sym same) (is-meant deletes bucket span kind other recs file (sym none ∙ is))
meant-if deletes bucket span kind other recs amiss (Err why) file is none same = tt

-- two files that are spelled alike have the same records
pub same-records : (deletes kind : Bool) (bucket other : ℕ) (recs others : List Rec) (bytes : List ℕ) → IsEncodingOf deletes bucket recs bytes
    → IsFile kind other others → bytes ≡ file_spelling kind other others → others ≡ recs
same-records deletes kind bucket other recs others bytes encodes file spelled =
    (file_one kind deletes other bucket others recs [] file encodes.file
    (append-nil (file_spelling kind other others) ∙ sym spelled ∙ encodes.bytes_are)).3

pub records-same : (result : Result (Vec Rec) Stop) (recs others : List Rec) → IfOk result (λ found. found.items ≡ others) → others ≡ recs
    → IfOk result (λ found. found.items ≡ recs)
records-same (Ok found) recs others same is = same ∙ is
records-same (Err why) recs others same is = tt

-- ---- which files are taken

pub taken-bucket : (kind : JobKind) (bucket : ℕ) (file : DirFile) → is_taken kind bucket file ≡ true → file.place.bucket ≡ bucket
taken-bucket kind bucket file taken =
    eqb-true file.place.bucket bucket (both (file.place.bucket == bucket) (takes kind file.dir) taken).0

pub taken-one : (kind : JobKind) (bucket : ℕ) (file : DirFile) → is_taken kind bucket file ≡ true → taken_in kind bucket (file ∷ []) ≡ file ∷ []
taken-one kind bucket file taken = ap (λ (b : Bool). if b then file ∷ [] else []) taken

pub taken-none : (kind : JobKind) (bucket : ℕ) (file : DirFile) → is_taken kind bucket file ≡ false → taken_in kind bucket (file ∷ []) ≡ []
taken-none kind bucket file left = ap (λ (b : Bool). if b then file ∷ [] else []) left

-- ---- records that are kept

abbrev pub items_in : List (Vec Rec) → List (List Rec)
items_in read = map (λ (one : Vec Rec). one.items) read

pub kept-more : (before now : List (Vec Rec)) (one : Vec Rec) (recs : List Rec) → now ≡ before ++ one ∷ [] → one.items ≡ recs
    → items_in now ≡ items_in before ++ recs ∷ []
kept-more before now one recs kept is =
    ap items_in kept ∙ map-append (λ (v : Vec Rec). v.items) before (one ∷ []) ∙ ap (λ (r : List Rec). items_in before ++ r ∷ []) is

pub files-more : (deletes : Bool) (bucket : ℕ) (before now : List (Vec Rec)) → ReadsOne deletes bucket before now
    → AreFilesOf deletes bucket (items_in before) → AreFilesOf deletes bucket (items_in now)
files-more deletes bucket before now reads are =
    subst (AreFilesOf deletes bucket) (sym (kept-more before now reads.recs reads.recs.items reads.kept refl))
    (all-append (IsFile deletes bucket) (items_in before) (reads.recs.items ∷ []) are (reads.file, tt))

-- of so many files, one more
pub taken-more : (kind : JobKind) (bucket : ℕ) (recs_of : DirFile → List Rec) (files : List DirFile) (i : ℕ) (file : DirFile) (before now : List (List Rec))
    → i < length files → file ≡ get_or files i file → before ≡ map recs_of (taken_in kind bucket (take i files))
    → now ≡ before ++ map recs_of (taken_in kind bucket (file ∷ [])) → now ≡ map recs_of (taken_in kind bucket (take (i + 1) files))
taken-more kind bucket recs_of files i file before now low at is kept =
    kept ∙ ap (λ (rs : List (List Rec)). rs ++ map recs_of (taken_in kind bucket (file ∷ []))) is
    ∙ sym (map-append recs_of (taken_in kind bucket (take i files)) (taken_in kind bucket (file ∷ [])))
    ∙ ap (map recs_of) (sym (filter-append (is_taken kind bucket) (take i files) (file ∷ [])))
    ∙ ap (λ (fs : List DirFile). map recs_of (taken_in kind bucket fs))
    (ap (λ (f : DirFile). take i files ++ f ∷ []) at ∙ sym (take_more files i file low))

-- ---- files that stand while a job works

item-in : {A : Type 0} (xs : List A) (i : ℕ) (x : A) → i < length xs → x ≡ get_or xs i x → IsIn x xs
item-in [] i x low at = absurd (omega (arith, low))
item-in (y ∷ ys) zero x low at = inl (sym at)
item-in (y ∷ ys) (suc i) x low at = inr (item-in ys i x (omega (arith, low)) at)

pub stands-later : (before now : List TrailItem) (job : JobId) (place : Place) (deletes : Bool) (recs : List Rec) → IsFront before now
    → StandsWhile before job place deletes recs → StandsWhile now job place deletes recs
stands-later before now job place deletes recs front stands = λ then_ more book works live.
    stands then_ (front-more before now then_ front more) book works live

pub each-later : (before now : List TrailItem) (job : JobId) (deletes : Bool) (recs_of : DirFile → List Rec) (files : List DirFile) → IsFront before now
    → ReadsEach before job deletes recs_of files → ReadsEach now job deletes recs_of files
each-later before now job deletes recs_of files front each = λ file among.
    stands-later before now job file.place deletes (recs_of file) front (each file among)

pub each-one : (trail : List TrailItem) (job : JobId) (deletes : Bool) (recs_of : DirFile → List Rec) (files : List DirFile) (i : ℕ) (file : DirFile)
    → i < length files → file ≡ get_or files i file → ReadsEach trail job deletes recs_of files
    → StandsWhile trail job file.place deletes (recs_of file)
each-one trail job deletes recs_of files i file low at each = each file (item-in files i file low at)

wrote-more : {U : Type 0} (job : JobId) (xs ys : List TrailItem) (r : Result U Stop) → AllByRecursion (IsWroteOf job) xs
    → IfOk r (λ y. AllByRecursion (IsWroteOf job) ys) → IfOk r (λ y. AllByRecursion (IsWroteOf job) (xs ++ ys))
wrote-more job xs ys (Ok y) first more = all-append (IsWroteOf job) xs ys first more
wrote-more job xs ys (Err why) first more = tt

module _ {D : Type 0} (told : D → Option Store) (faults : D → ℕ) (between : List TrailItem → Type 0)
    (meanwhile : ToldHouse D → ToldHouse D → Type 0) (job : JobId) where
  -- ---- what acts of a job come to, one behind another

  abbrev WorksOf : {T : Type 0} → Moment (ToldHouse D) → Moment (ToldHouse D) → Result T Stop → Type 0
  WorksOf a b result = Works (among told faults between meanwhile) job a b result

  pub works-none : AreRows between → (m : Moment (ToldHouse D)) → IsOpenHouse m.house → WorksOf {T = Unit {0}} m m (Ok tt)
  works-none rows m running = works-ok told faults between meanwhile job m m tt [] (adds-none faults between rows m) tt tt running

  -- the same, of another answer
  pub works-done : {T U : Type 0} (a b : Moment (ToldHouse D)) (x : T) (y : U) → WorksOf a b (Ok x) → WorksOf a b (Ok y)
  works-done a b x y works = record {
    items = works.items;
    adds = works.adds;
    marks = works.marks;
    wrote = works.wrote;
    running = works.running;
    stops = tt;
  }

  pub works-up : {T U : Type 0} (a b : Moment (ToldHouse D)) (why : Stop) → WorksOf {T = T} a b (Err why) → WorksOf {T = U} a b (Err why)
  works-up a b why works = record {
    items = works.items;
    adds = works.adds;
    marks = works.marks;
    wrote = tt;
    running = tt;
    stops = works.stops;
  }

  -- and then no call failed, though memory may have lacked
  pub works-lacking : {T U : Type 0} (a b : Moment (ToldHouse D)) (x : T) (why : Stop) → WorksOf a b (Ok x) → why ≡ lacking → WorksOf {T = U} a b (Err why)
  works-lacking a b x why works is = record {
    items = works.items;
    adds = works.adds;
    marks = works.marks;
    wrote = tt;
    running = tt;
    stops =
        subst (λ (w : Stop). StopsSo (among told faults between meanwhile) job b.house w) (sym is) (may-memory b.house job works.running);
  }

  pub works-or-lacking : {T U : Type 0} (a b : Moment (ToldHouse D)) (x : T) (result : Result U Stop) → WorksOf a b (Ok x)
      → IfErr result (λ why. why ≡ lacking) → WorksOf a b result
  works-or-lacking a b x (Ok y) works is = works-done a b x y works
  works-or-lacking a b x (Err why) works is = works-lacking a b x why works is

  pub works-then : AreRows between → {T U : Type 0} (a b c : Moment (ToldHouse D)) (x : T) (result : Result U Stop) → WorksOf a b (Ok x)
      → WorksOf b c result → WorksOf a c result
  works-then rows a b c x result first next = record {
    items = first.items ++ next.items;
    adds = adds-more faults between rows a b c first.items next.items first.adds next.adds;
    marks = all-append (IsMarkOf job) first.items next.items first.marks next.marks;
    wrote = wrote-more job first.items next.items result first.wrote next.wrote;
    running = next.running;
    stops = next.stops;
  }

  pub works-front : {T : Type 0} (a b : Moment (ToldHouse D)) (result : Result T Stop) → WorksOf a b result
      → IsFront (trail_in a.house) (trail_in b.house)
  works-front a b result works = adds-front faults between a b works.items works.adds

  pub works-told : {T : Type 0} (a b : Moment (ToldHouse D)) (result : Result T Stop) → WorksOf a b result → IsToldHouse told a.house.house
      → IsToldHouse told b.house.house
  works-told a b result works is = adds-told faults between told a b works.items works.adds is

  pub works-untold : {T : Type 0} (a b : Moment (ToldHouse D)) (result : Result T Stop) → WorksOf a b result → IsToldHouse told b.house.house
      → IsToldHouse told a.house.house
  works-untold a b result works is = subst (IsTold told) works.adds.later.rest.start is

  -- ---- a file that was got

  spoilt-stops : (now : ToldHouse D) (place : Place) (why : Stop) → IsOpenHouse now → IsSpoilt place why
      → StopsSo (among told faults between meanwhile) job now why
  spoilt-stops now place (stop.GiveUp (cause.ReadFault count)) running spoilt = absurd spoilt
  spoilt-stops now place (stop.GiveUp (cause.WriteFault count)) running spoilt = absurd spoilt
  spoilt-stops now place (stop.GiveUp (cause.Damaged found)) running spoilt =
      record { running = running; small = short_damaged job found spoilt.0; marked = tt }
  spoilt-stops now place (stop.GiveUp cause.Memory) running spoilt = may-memory now job running
  spoilt-stops now place (stop.GiveUp cause.Lost) running spoilt = absurd spoilt
  spoilt-stops now place (stop.GiveUp cause.Gone) running spoilt = absurd spoilt
  spoilt-stops now place (stop.Run why) running spoilt = absurd spoilt

  works-read : {T : Type 0} (a b : Moment (ToldHouse D)) (place : Place) (result : Result T Stop) → AddsItems faults between a b []
      → IsOpenHouse b.house → IfErr result (IsSpoilt place) → WorksOf a b result
  works-read a b place (Ok x) adds running spoilt = works-ok told faults between meanwhile job a b x [] adds tt tt running
  works-read a b place (Err why) adds running spoilt =
      works-err told faults between meanwhile job a b why [] adds tt (spoilt-stops b.house place why running spoilt)

  module _ (goes_on : (before now : ToldHouse D) → meanwhile before now → IsLater faults (seen_in before) (seen_in now))
      (a b : Moment (ToldHouse D)) (was : IsOpenHouse a.house) (place : Place) where
    abbrev GetOf : HouseSeen D → Result (Option (Vec ℕ)) JobActFault → Call
    GetOf seen r = answer_call (Read (Some (reader.Job job))) r

    abbrev GotOf : HouseSeen D → HouseSeen D → Result (Option (Vec ℕ)) JobActFault → Type 0
    GotOf x y r = GetsSo told x job place r

    module _ (result : Result (Option (Vec ℕ)) JobActFault) (held : HeldOf told faults meanwhile a b GetOf GotOf result)
        (went : Went between (adds_by (Read (Some (reader.Job job))) result) a.own b.own (trail_in a.house) (trail_in b.house)) where
      pub got-works : {T : Type 0} (found : Option (Vec ℕ)) (read : Result T Stop) → result ≡ Ok found → IfErr read (IsSpoilt place)
          → WorksOf a b read
      got-works found read is spoilt =
          works-read a b place read
          (adds-of told faults between meanwhile goes_on a b GetOf GotOf (adds_by (Read (Some (reader.Job job)))) result held went (Ok found) is)
          (done-open told faults between meanwhile goes_on a b GetOf GotOf found
          (held-as told faults between meanwhile goes_on a b GetOf GotOf (adds_by (Read (Some (reader.Job job)))) result held went (Ok found) is))
          spoilt

      pub ungot-works : {T : Type 0} (why : JobActFault) → result ≡ Err why → WorksOf {T = T} a b (Err (act_stop false why))
      ungot-works why is =
          let now = held-as told faults between meanwhile goes_on a b GetOf GotOf (adds_by (Read (Some (reader.Job job)))) result held went (Err why) is in
          works-err told faults between meanwhile job a b (act_stop false why) (adds_by {T = Option (Vec ℕ)} (Read (Some (reader.Job job))) (Err why))
          (adds-of told faults between meanwhile goes_on a b GetOf GotOf (adds_by (Read (Some (reader.Job job)))) result held went (Err why) is)
          (read-marks job why)
          (refused-stops told faults between meanwhile goes_on a b GetOf GotOf was (λ seen. Read (Some (reader.Job job))) (λ seen w. refl) why now job false
          refl (λ count may. refl)
          (λ broke count same.
          absurd (subst (IfCallOrUnfit IsGoneOrHouse) same
          (now.does_it.answers (subst (WhyLeaves faults (seen_in now.house) (seen_in b.house)) same now.does_it.leaves)).others)))

      -- where it stands with its records, these are its bytes
      pub got-made : (deletes : Bool) (recs : List Rec) (found : Option (Vec ℕ)) → result ≡ Ok found → IsToldHouse told a.house.house
          → StandsWhile (trail_in a.house) job place deletes recs → IsMadeOf deletes recs place found
      got-made deletes recs found is was_told stands =
          let now = held-as told faults between meanwhile goes_on a b GetOf GotOf (adds_by (Read (Some (reader.Job job)))) result held went (Ok found) is in
          let answers = done-answers told faults between meanwhile goes_on a b GetOf GotOf found now in
          answers.made deletes recs (subst (IsTold told) (sym (goes_on a.house now.house now.reached).rest.start) was_told)
          (stands (trail_in now.house) (reached-front told faults between meanwhile goes_on a.house now.house now.reached)
          (fitting-book told now.house.house (now.kept.whole now.does_it.leaves).ready) answers.works answers.live)
