-- The act that puts a file of a change: what it asks, and what it leaves.
use Rattle.std.proofs.Common.{◌≡◌, ℕ, zero, suc, ◌<◌, true, Option, Some, List, [], ◌∷◌, ◌++◌, refl, sym, ap, ◌∙◌, subst, arith, Ok, Err, Result}
use Rattle.std.specs.Prelude.{IfOk, IfErr, Contains}
use Rattle.std.specs.List.{AllByRecursion}
use Rattle.std.proofs.lemmas.List.{map-append}
use Rattle.std.proofs.lemmas.List.Elements.{Contains-append_right}
use Rattle.hv_base.specs.declared.ids.TxnId.{TxnId}
use Rattle.hv_shelf.specs.declared.place.Place.{Place}
use Rattle.hv_shelf.specs.Disk.{Store}
use Rattle.hv_logic.specs.declared.catalog.TableInfo.{TableInfo}
use Rattle.hv_logic.specs.declared.effect.Effect.{Effect}
use Rattle.hv_logic.specs.declared.meaning.Meaning.TheVariants.{Change}
use Rattle.hv_route.specs.Routes.{files_of}
use Rattle.hv_route.specs.declared.files.OutFile.{OutFile}
use Rattle.hv_table_rows.specs.Putting.{CanPut, IsEncoded, bytes_of}
use Rattle.hv_table_rows.proofs.Names.{all-append, all-parts}
use Rattle.hv_history.specs.Lasting.{IsFront}
use Rattle.hv_stands.specs.Files.{place_of_file}
use Rattle.hv_stands.specs.Laws.{HasFile}
use Rattle.hv_trail.specs.declared.trail.Reader.TheVariants.{Txn}
use Rattle.hv_trail.specs.declared.trail.Mark.TheVariants.{Broke}
use Rattle.hv_trail.specs.declared.trail.TrailItem.{TrailItem}
use Rattle.hv_trail.specs.declared.trail.TrailItem.TheVariants.{Marked}
use Rattle.hv_trail.specs.Trail.{book_of}
use Rattle.hv_trail.specs.Steps.{HouseSeen, Put}
use Rattle.hv_actor.specs.Acting.{IsLater, Went, AreRows, known, Moment, Held}
use Rattle.hv_table_reader.specs.hv_acts.specs.hv_telling.specs.hv_house.specs.declared.fault.HouseFault.TheVariants as fault
use Rattle.hv_table_reader.specs.hv_acts.specs.hv_telling.specs.Telling.{IsTold}
use Rattle.hv_table_reader.specs.hv_acts.specs.declared.told.ToldHouse.{ToldHouse}
use Rattle.hv_table_reader.specs.hv_acts.specs.declared.fault.ActFault.{ActFault}
use Rattle.hv_table_reader.specs.hv_acts.specs.declared.fault.ActFault.TheVariants as act
use Rattle.hv_table_reader.specs.hv_acts.specs.Told.{seen_in, trail_in, told_sight}
use Rattle.hv_table_reader.specs.hv_acts.specs.Answers.{answer_call, answer_outcome, NoTest, Answers, AnswerLeaves, WhyRises}
use Rattle.hv_table_reader.specs.hv_acts.specs.Putting.{HasIdFor, adds_file}
use Rattle.hv_table_reader.specs.hv_acts.specs.Meant.{RunsWith, IsFileMeant}
use Rattle.hv_table_reader.specs.hv_acts.proofs.Mine.{file-mine}
use Rattle.hv_steps.specs.Going.{faults_in, IsOpenHouse, AddsOwn}
use Rattle.hv_steps.specs.Leaving.{IsLeft}
use Rattle.hv_steps.specs.Preparing.{with_place, FileFailed, IsRefusal, HasItsId, IsFileDue, AreFilesDue, ArePutUpTo}
use Rattle.hv_steps.proofs.Joining.{RisesBy, answers-name, act-left, act-risen, held-adds, found-told, adds-none, adds-more, adds-front, told-earlier}
use Rattle.hv_steps.proofs.Ids.{meant-lasts, given-lasts}

-- ---- what lasts

pub file-lasts : (before now : List TrailItem) → IsFront before now → (by : TxnId) (place : Place) (file : OutFile) → IsFileMeant before by place file → IsFileMeant now by place file
file-lasts before now front by place file is = record {
  info = is.info;
  effect = is.effect;
  write = is.write;
  change = meant-lasts before now front by ((is.info.table.0, is.write) ∷ []) (Change is.info is.effect) is.change;
  is_one = is.is_one;
  place_is = is.place_is;
}

-- ---- its answer

pub file-book : (by : TxnId) (place : Place) (result : Result (Unit {0}) ActFault) → book_of (adds_file by place result) ≡ []
file-book by place (Ok done) = refl
file-book by place (Err (act.Ended at)) = refl
file-book by place (Err (act.Full entries)) = refl
file-book by place (Err (act.Held holder)) = refl
file-book by place (Err (act.Broken put count)) = refl
file-book by place (Err act.Unfit) = refl
file-book by place (Err (act.House fault.Store)) = refl
file-book by place (Err (act.House fault.NoMemory)) = refl
file-book by place (Err (act.House (fault.Failed count))) = refl

module _ {D : Type 0} (told : D → Option Store) (faults : D → ℕ) (meanwhile : ToldHouse D → ToldHouse D → Type 0)
    (goes : (before now : ToldHouse D) → meanwhile before now → IsLater faults (seen_in before) (seen_in now)) (before now : ToldHouse D)
    (txn : TxnId) (place : Place) (file : OutFile) where
  -- what it asks
  pub can-put : CanPut file → IsFileDue told before txn place file → (house : ToldHouse D) → meanwhile before house
      → CanPut file × HasIdFor (trail_in house) txn place file × (IsTold told house.house.start.value → IsFileMeant (trail_in house) txn place file)
  can-put can due house reached =
      let later = goes before house reached in
      let front : IsFront (trail_in before) (trail_in house) = record { more = later.added; is = later.trail } in (
        can,
        record {
          table = due.table;
          write = due.write;
          given = given-lasts (trail_in before) (trail_in house) front txn.0 due.table due.write due.given;
          place_is = due.place_is;
        },
        λ is. file-lasts (trail_in before) (trail_in house) front txn place file (due.means (found-told told faults meanwhile goes before now house reached is)),
      )

  abbrev PutHeld : Result (Unit {0}) ActFault → Type 0
  PutHeld result =
      Held (told_sight told faults) meanwhile before now (λ (seen : HouseSeen D). answer_call (Put (Txn txn) place (bytes_of file)) result)
      (answer_outcome result)
      (λ (a : HouseSeen D) (b : HouseSeen D). Answers NoTest a.trail txn (RunsWith a.trail txn 1) (λ done. IsEncoded file) result
      × AnswerLeaves told faults txn.0 a b result × IfErr result (WhyRises faults a))

  put-rises : (result : Result (Unit {0}) ActFault) (held : PutHeld result) → RisesBy (answer_outcome result) (faults_in faults held.house) (faults_in faults now)
  put-rises (Ok done) held = tt
  put-rises (Err (act.Ended at)) held = tt
  put-rises (Err (act.Full entries)) held = tt
  put-rises (Err (act.Held holder)) held = tt
  put-rises (Err (act.Broken put count)) held = tt
  put-rises (Err act.Unfit) held = tt
  put-rises (Err (act.House fault.Store)) held = tt
  put-rises (Err (act.House fault.NoMemory)) held = tt
  put-rises (Err (act.House (fault.Failed count))) held =
      let rises : faults_in faults held.house < count = held.does_it.2 in
      omega (arith, rises, held.step.counts.0)

  pub put-adds : (B : List TrailItem → Type 0) (own own' : List ℕ) (result : Result (Unit {0}) ActFault) → PutHeld result
      → Went B (adds_file txn place result) own own' (trail_in before) (trail_in now) → AddsOwn faults B txn.0 (known own before) (known own' now) []
  put-adds B own own' result held went =
      held-adds told faults meanwhile goes before now B (λ (seen : HouseSeen D). answer_call (Put (Txn txn) place (bytes_of file)) result) (answer_outcome result)
      (λ (a : HouseSeen D) (b : HouseSeen D). Answers NoTest a.trail txn (RunsWith a.trail txn 1) (λ done. IsEncoded file) result
      × AnswerLeaves told faults txn.0 a b result × IfErr result (WhyRises faults a))
      (adds_file txn place result) [] own own' held went (file-book txn place result) (put-rises result held)
      (act-risen told faults meanwhile goes before now (λ (seen : HouseSeen D). answer_call (Put (Txn txn) place (bytes_of file)) result) result
      (λ (a : HouseSeen D) (b : HouseSeen D). Answers NoTest a.trail txn (RunsWith a.trail txn 1) (λ done. IsEncoded file) result
      × AnswerLeaves told faults txn.0 a b result × IfErr result (WhyRises faults a)) txn.0 held held.does_it.1)
      (file-mine txn place result)

  pub put-left : (result : Result (Unit {0}) ActFault) → PutHeld result → IsOpenHouse before → IsLeft told meanwhile txn.0 now result
  put-left result held running =
      act-left told faults meanwhile goes before now (λ (seen : HouseSeen D). answer_call (Put (Txn txn) place (bytes_of file)) result) result
      (λ (a : HouseSeen D) (b : HouseSeen D). Answers NoTest a.trail txn (RunsWith a.trail txn 1) (λ done. IsEncoded file) result
      × AnswerLeaves told faults txn.0 a b result × IfErr result (WhyRises faults a)) txn.0
      held running (answers-name NoTest (trail_in held.house) txn (RunsWith (trail_in held.house) txn 1) (λ done. IsEncoded file) result held.does_it.0) held.does_it.1

  pub put-encoded : (result : Result (Unit {0}) ActFault) → PutHeld result → IfOk result (λ _. HasFile file)
  put-encoded (Ok done) held = held.does_it.0.1
  put-encoded (Err why) held = tt

  file-failed : (count : ℕ) → PutHeld (Err (act.House (fault.Failed count))) → FileFailed faults (faults_in faults before) txn now (act.House (fault.Failed count))
  file-failed count held =
      let later = goes before held.house held.reached in
      let rises : faults_in faults held.house < count = held.does_it.2 in
      let mark : TrailItem = Marked (Broke (Some (Txn txn)) true count) in
      record {
        marked = subst (λ (trail : List TrailItem). Contains trail mark) (sym held.step.trail)
            (Contains-append_right (trail_in held.house) (mark ∷ []) mark (zero, omega arith, refl));
        above = omega (arith, later.count, rises);
        upto = omega (arith, held.step.counts.0);
      }

  put-file : (why : ActFault) → PutHeld (Err why) → FileFailed faults (faults_in faults before) txn now why
  put-file (act.Ended at) held = tt
  put-file (act.Full entries) held = tt
  put-file (act.Held holder) held = tt
  put-file (act.Broken put count) held = tt
  put-file act.Unfit held = tt
  put-file (act.House fault.Store) held = tt
  put-file (act.House fault.NoMemory) held = tt
  put-file (act.House (fault.Failed count)) held = file-failed count held

  pub put-refused : (result : Result (Unit {0}) ActFault) → PutHeld result → IsOpenHouse before
      → IfErr result (IsRefusal told faults meanwhile (faults_in faults before) txn now)
  put-refused (Ok done) held running = tt
  put-refused (Err why) held running = record { left = put-left (Err why) held running; file = put-file why held }

-- ---- its place, where it was put

pub with-ok : (P : Type 0) (place : Place) (done : Result (Unit {0}) ActFault) → IfOk done (λ _. P) → IfOk (with_place place done) (λ _. P)
with-ok P place (Ok x) is = is
with-ok P place (Err why) is = tt

pub with-is : (at place : Place) (done : Result (Unit {0}) ActFault) → place ≡ at → IfOk (with_place place done) (λ p. p ≡ at)
with-is at place (Ok x) is = is
with-is at place (Err why) is = tt

pub with-err : (Q : ActFault → Type 0) (place : Place) (done : Result (Unit {0}) ActFault) → IfErr done Q → IfErr (with_place place done) Q
with-err Q place (Ok x) is = tt
with-err Q place (Err why) is = is

-- ---- files one after another

-- memory lacked, and nothing was done
pub refused-lacking : {D : Type 0} (told : D → Option Store) (faults : D → ℕ) (meanwhile : ToldHouse D → ToldHouse D → Type 0) (low : ℕ) (txn : TxnId) (now : ToldHouse D)
    → IsOpenHouse now → IsRefusal told faults meanwhile low txn now (act.House fault.NoMemory)
refused-lacking told faults meanwhile low txn now running = record { left = running; file = tt }

-- the first so many of these files were put by one's own acts, at these places
pub record PutsUpTo {D : Type 0} (faults : D → ℕ) (B : List TrailItem → Type 0) (by : ℕ) (first now : Moment (ToldHouse D)) (Is : Type 0) : Type 0 where
  pub adds : AddsOwn faults B by first now []
  pub running : IsOpenHouse now.house
  pub put : Is

module _ {D : Type 0} (told : D → Option Store) (faults : D → ℕ) (B : List TrailItem → Type 0) (rows : AreRows B) where
  pub puts-none : {by : ℕ} (own : List ℕ) (house : ToldHouse D) (table write : ℕ) (places : List Place) → IsOpenHouse house → places ≡ []
      → PutsUpTo faults B by (known own house) (known own house) (ArePutUpTo table write [] places)
  puts-none own house table write places running none =
      record { adds = adds-none faults B rows own house; running = running; put = record { places_are = none; encoded = tt } }

  pub puts-more : {by : ℕ} (own own' own'' : List ℕ) (first mid now : ToldHouse D) (table write : ℕ) (files : List OutFile) (file : OutFile)
      (places places' : List Place)
      → PutsUpTo faults B by (known own first) (known own' mid) (ArePutUpTo table write files places)
      → AddsOwn faults B by (known own' mid) (known own'' now) [] → IsOpenHouse now → HasFile file
      → places' ≡ places ++ place_of_file table write file ∷ [] → PutsUpTo faults B by (known own first) (known own'' now)
      (ArePutUpTo table write (files ++ file ∷ []) places')
  puts-more own own' own'' first mid now table write files file places places' done adds running has is = record {
    adds = adds-more faults B rows own own' own'' first mid now [] [] done.adds adds;
    running = running;
    put = record {
      places_are = is ∙ ap (λ (ps : List Place). ps ++ place_of_file table write file ∷ []) done.put.places_are
          ∙ sym (map-append (place_of_file table write) files (file ∷ []));
      encoded = all-append HasFile files (file ∷ []) done.put.encoded (has, tt);
    };
  }

  -- each of the files is due still
  pub due-still : (own own' : List ℕ) (first mid : ToldHouse D) (txn : TxnId) (table write : ℕ) (files : List OutFile) (file : OutFile)
      → AddsOwn faults B txn.0 (known own first) (known own' mid) [] → AreFilesDue told first txn table write files
      → ((P : OutFile → Type 0) → AllByRecursion P files → P file) → IsFileDue told mid txn (place_of_file table write file) file
  due-still own own' first mid txn table write files file adds due one = record {
    table = table;
    write = write;
    given = given-lasts (trail_in first) (trail_in mid) (adds-front faults B rows own own' first mid [] adds) txn.0 table write due.given;
    place_is = refl;
    means = λ is.
        file-lasts (trail_in first) (trail_in mid) (adds-front faults B rows own own' first mid [] adds) txn (place_of_file table write file) file
        (one (λ (f : OutFile). IsFileMeant (trail_in first) txn (place_of_file table write f) f)
        (due.mean (told-earlier faults B rows told own own' first mid [] adds is)));
  }

-- what is so of all is so of the one between these
pub one-among : {X : Type 0} (P : X → Type 0) (first rest xs : List X) (x : X) → first ++ x ∷ rest ≡ xs → AllByRecursion P xs → P x
one-among P first rest xs x are all = (all-parts P first (x ∷ rest) (subst (AllByRecursion P) (sym are) all)).1.0

-- ---- the files of a change are due

all-contained : {X : Type 0} (P : X → Type 0) (xs : List X) → ((x : X) → Contains xs x → P x) → AllByRecursion P xs
all-contained P [] each = tt
all-contained P (x ∷ xs) each = (each x (zero, omega arith, refl), all-contained P xs (λ y at. each y (suc at.0, omega (arith, at.1), at.2)))

pub all-due : {D : Type 0} (told : D → Option Store) (now : ToldHouse D) (txn : TxnId) (info : TableInfo) (effect : Effect) (write : ℕ)
    → HasItsId told now txn info effect write → AreFilesDue told now txn info.table.0 write (files_of info.shape write 0 effect)
all-due told now txn info effect write id = record {
  given = id.given;
  mean = λ is. all-contained (λ (file : OutFile). IsFileMeant (trail_in now) txn (place_of_file info.table.0 write file) file) (files_of info.shape write 0 effect)
      (λ file is_one. record { info = info; effect = effect; write = write; change = id.means is; is_one = is_one; place_is = refl });
}
