-- What a job reads, by what is kept of it.
use Rattle.std.proofs.Common.{◌≡◌, ℕ, ◌+◌, ◌<◌, Bool, true, false, cond, Option, Some, None, Result, Ok, Err, List, [], ◌∷◌, ◌++◌, length, get_or, map, filter, take, refl, sym, ap, ◌∙◌, subst, arith, append-nil}
use Rattle.std.specs.Prelude.{nat_le, IfOk, IfErr, OnOk, IsTrue, IsSome, IsSomeAnd, option_map}
use Rattle.std.proofs.Math.Seq.{take-length}
use Rattle.std.proofs.lemmas.List.{take_more, map-append}
use Rattle.hv_base.specs.declared.failure.NoMemory.{NoMemory}
use Rattle.hv_shelf.specs.declared.place.Place.{Place}
use Rattle.hv_shelf.specs.Disk.{Store, places_of}
use Rattle.hv_wids.specs.declared.list.Exception.{Exception}
use Rattle.hv_history.specs.declared.entry.Entry.{Entry}
use Rattle.hv_history.specs.State.{State, Job, numbered, state_of}
use Rattle.hv_history.specs.Legal.{is_working}
use Rattle.hv_book.specs.declared.jobs.JobNote.{JobNote}
use Rattle.hv_book.specs.Briefs.{brief_job}
use Rattle.hv_tallies.specs.Jobs.{asked_at}
use Rattle.hv_trail.specs.declared.trail.Reader.{Reader}
use Rattle.hv_trail.specs.Steps.{Read, Done, Step}
use Rattle.hv_telling.specs.hv_house.specs.declared.house.House.{House}
use Rattle.hv_telling.specs.hv_house.specs.declared.listing.Listing.{Listing}
use Rattle.hv_telling.specs.hv_house.specs.House.{IsReady}
use Rattle.hv_telling.specs.hv_house.specs.Steps.{seen_of}
use Rattle.hv_telling.specs.Telling.{IsWhole}
use Rattle.hv_telling.proofs.Reading.{reads-keep-whole}
use Rattle.hv_telling.proofs.Told.{told-stays}
use Rattle.hv_job_calls.specs.Listing.{is_part, job_list, lost_at, is_lost_to, lost_up_to, IsNotedIn, IsListOf, IsListingBy, IsListingOf, list_read, AreTakenFor}
use Rattle.hv_job_calls.specs.Refusals.{WorksAt}
use Rattle.hv_job_calls.specs.Steps.{job_call, JobStep}
use Rattle.hv_job_calls.specs.Tests.{IsHouse}
use Rattle.hv_job_calls.proofs.Getting.{read-done}
use Rattle.hv_job_calls.proofs.AskedPlaces.{asked-there}
use Rattle.hv_job_calls.proofs.Steps.{lacked-behind, read-start}

-- ---- one id behind others

filtered-both : (mark : ℕ) (xs ys : List ℕ) → filter (is_lost_to mark) (xs ++ ys) ≡ filter (is_lost_to mark) xs ++ filter (is_lost_to mark) ys
filtered-both mark [] ys = refl
filtered-both mark (x ∷ xs) ys = by (is_lost_to mark x) (filtered-both mark xs ys)
  where
    by : (b : Bool) → filter (is_lost_to mark) (xs ++ ys) ≡ filter (is_lost_to mark) xs ++ filter (is_lost_to mark) ys
        → cond b (x ∷ filter (is_lost_to mark) (xs ++ ys)) (filter (is_lost_to mark) (xs ++ ys))
        ≡ cond b (x ∷ filter (is_lost_to mark) xs) (filter (is_lost_to mark) xs) ++ filter (is_lost_to mark) ys
    by true rest = ap (λ (ns : List ℕ). x ∷ ns) rest
    by false rest = rest

pub lost-next : (mark : ℕ) (lost : List ℕ) (i : ℕ) (before now : List Exception) → i < length lost
    → before ≡ lost_up_to mark (take i lost) → now ≡ before ++ lost_up_to mark (get_or lost i 0 ∷ []) → now ≡ lost_up_to mark (take (i + 1) lost)
lost-next mark lost i before now within so_far pushed =
    let write : ℕ = get_or lost i 0 in
    let next : take (i + 1) lost ≡ take i lost ++ write ∷ [] = take_more lost i 0 within in
    pushed
    ∙ ap (λ (es : List Exception). es ++ lost_up_to mark (write ∷ [])) so_far
    ∙ sym (map-append lost_at (filter (is_lost_to mark) (take i lost)) (filter (is_lost_to mark) (write ∷ [])))
    ∙ ap (map lost_at) (sym (filtered-both mark (take i lost) (write ∷ [])))
    ∙ sym (ap (lost_up_to mark) next)

pub lost-all : (mark : ℕ) (lost : List ℕ) (i : ℕ) (es : List Exception) → i ≡ length lost → es ≡ lost_up_to mark (take i lost) → es ≡ lost_up_to mark lost
lost-all mark lost i es end so_far =
    let whole : take i lost ≡ lost = ap (λ (n : ℕ). take n lost) end ∙ take-length lost in
    so_far ∙ ap (lost_up_to mark) whole

pub lost-one : (mark write : ℕ) → nat_le write mark ≡ true → lost_up_to mark (write ∷ []) ≡ lost_at write ∷ []
lost-one mark write low = ap (λ (b : Bool). map lost_at (cond b (write ∷ []) [])) low

pub lost-none : (mark write : ℕ) → nat_le write mark ≡ false → lost_up_to mark (write ∷ []) ≡ []
lost-none mark write high = ap (λ (b : Bool). map lost_at (cond b (write ∷ []) [])) high

-- ---- by what is kept of a job

pub is-noted : (state : State) (number : ℕ) → WorksAt state number → IsSome (option_map brief_job (numbered state.jobs number))
is-noted state number works = by (numbered state.jobs number) works
  where
    by : (o : Option Job) → IsSomeAnd o (λ (j : Job). IsTrue (is_working j)) → IsSome (option_map brief_job o)
    by None works = absurd works
    by (Some j) works = refl

pub noted-in : (state : State) (number : ℕ) (note : JobNote) → WorksAt state number → Some note ≡ option_map brief_job (numbered state.jobs number) → IsNotedIn state note
noted-in state number note works is = by (numbered state.jobs number) refl works is
  where
    by : (o : Option Job) → numbered state.jobs number ≡ o → IsSomeAnd o (λ (j : Job). IsTrue (is_working j)) → Some note ≡ option_map brief_job o → IsNotedIn state note
    by None e works is = absurd works
    by (Some j) e works is = let same : note ≡ brief_job j = cc in (number, j, e, works, same)

pub note-is : (state : State) (number : ℕ) (note : JobNote) → Some note ≡ option_map brief_job (numbered state.jobs number) → (j : Job) → numbered state.jobs number ≡ Some j
    → note ≡ brief_job j
note-is state number note is j at =
    let some : Some note ≡ Some (brief_job j) = is ∙ ap (λ (o : Option Job). option_map brief_job o) at in
    cc

-- its Asked stands
pub asked-stands : {A : Type 0} (entries : List Entry) (note : JobNote) → IsNotedIn (state_of entries) note → None ≡ asked_at entries note.asked → A
asked-stands entries note noted none =
    let there = asked-there entries noted.0 noted.1 noted.2 in
    let same : asked_at entries note.asked ≡ asked_at entries noted.1.asked = ap (λ (n : JobNote). asked_at entries n.asked) noted.4 in
    let never : None ≡ Some noted.1.partition = none ∙ same ∙ there in
    cc

-- the list, and the files
pub list-known : (entries : List Entry) (note : JobNote) (places : List Place) (listing : Listing) → IsListingOf entries note places (Some listing) → IsListOf entries note listing.list
list-known entries note places listing is = by (asked_at entries note.asked) is
  where
    by : (o : Option (List ℕ)) → IsListingBy entries note places o listing → IsListOf entries note listing.list
    by None is = absurd is
    by (Some partition) is = is.0

pub list-of-job : (entries : List Entry) (note : JobNote) (listing : Listing) (j : Job) → note ≡ brief_job j → IsListOf entries note listing.list
    → listing.list ≡ job_list entries j
list-of-job entries note listing j same is = subst (λ (n : JobNote). IsListOf entries n listing.list) same is

pub files-of-job : (entries : List Entry) (number : ℕ) (note : JobNote) (listing : Listing) (j : Job) → numbered (state_of entries).jobs number ≡ Some j → note ≡ brief_job j
    → (s : Store) → IsListingOf entries note (places_of (record { 0 = note.table }) s.tree) (Some listing) → AreTakenFor j listing s.tree
files-of-job entries number note listing j at same s is =
    (subst (λ o. IsListingBy entries (brief_job j) (places_of (record { 0 = j.table }) s.tree) o listing) (asked-there entries number j at)
    (subst (λ (n : JobNote). IsListingBy entries n (places_of (record { 0 = n.table }) s.tree) (asked_at entries n.asked) listing) same is)).1

-- ---- a listing behind the call that read

pub ok-read : (r : Result Listing NoMemory) (P : Listing → Type 0) → IfOk r P → IfOk (list_read r) P
ok-read (Ok listing) P is = is
ok-read (Err why) P is = tt

pub read-house : (r : Result Listing NoMemory) → IfErr (list_read r) IsHouse
read-house (Ok listing) = tt
read-house (Err why) = tt

module _ {D : Type 0} (told : D → Option Store) (faults : D → ℕ) (by : Option Reader) (before mid : House D) (whole : IsWhole told before)
    (read : Step told faults (Read by) Done (seen_of before) (seen_of mid)) (ready : IsReady told mid) (same : told mid.shelf ≡ told before.shelf) where
  pub listed-step : (r : Result Listing NoMemory) → JobStep told faults (job_call (Read by) (list_read r)) before mid (list_read r)
  listed-step (Ok listing) = read-done told faults by before mid whole read ready listing
  listed-step (Err why) =
      let start = read-start told faults by Done before mid read in
      lacked-behind told faults by before mid read same (Read by) tt refl (λ s. refl) start (told-stays told before mid start)
      (reads-keep-whole told faults by Done before mid whole read ready)

-- ---- places of a partition

empty : {X : Type 0} (n : ℕ) (xs : List X) → n ≡ length xs → n ≡ 0 → xs ≡ []
empty n [] is none = refl
empty n (x ∷ xs) is none = absurd (omega (arith, is, none))

pub parted : (partition : List ℕ) (n : ℕ) (places rest kept : List Place) → n ≡ length rest → n ≡ 0
    → ((more : List Place) → more ≡ filter (is_part partition) rest → filter (is_part partition) places ≡ kept ++ more) → kept ≡ filter (is_part partition) places
parted partition n places rest kept is none goes =
    sym (goes [] (sym (ap (filter (is_part partition)) (empty n rest is none))) ∙ append-nil kept)

-- an id that was put behind others
pub pushed-one : (r : Result (Unit {0}) NoMemory) (before now : List Exception) (mark write : ℕ) → nat_le write mark ≡ true
    → OnOk r (now ≡ before ++ lost_at write ∷ []) → OnOk r (now ≡ before ++ lost_up_to mark (write ∷ []))
pushed-one (Ok done) before now mark write low is = is ∙ ap (λ (es : List Exception). before ++ es) (sym (lost-one mark write low))
pushed-one (Err why) before now mark write low is = tt
