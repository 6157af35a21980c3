-- One job makes a step by which it is at work no more. The other jobs at work are in other partitions, so that nothing of them changes: what
-- they would merge, what stands where they make their directories, and whether these are whole.
use Rattle.std.proofs.Common.{refl, ◌≡◌, ◌⊎◌, inl, inr, ℕ, zero, suc, ◌+◌, ◌==◌, Bool, true, false, cond, Option, Some, None, List, [], ◌∷◌, ◌++◌, filter, length, sym, ap, ◌∙◌, subst, eqb-true, eq-eqb, true≢false}
use Rattle.std.specs.FinMap as finmap
use Rattle.std.specs.List.{flat_map, slice_get}
use Rattle.std.proofs.lemmas.Bool.{false_from_ne_true}
use Rattle.hv_shelf.specs.declared.place.Place.{Place}
use Rattle.hv_shelf.specs.Disk.{Tree}
use Rattle.hv_shelf.specs.Places.{is_in}
use Rattle.hv_dirs.specs.declared.names.DirName.{DirName}
use Rattle.hv_dirs.specs.Names.{text_of}
use Rattle.hv_stands.specs.hv_history.specs.declared.state.Table.{Table}
use Rattle.hv_stands.specs.hv_history.specs.State.{State, Job, Openings, numbered, changed, changed_at, first_of, published_at, acted, after}
use Rattle.hv_stands.specs.hv_history.specs.Legal.{is_working}
use Rattle.hv_stands.specs.hv_history.specs.Jobs.{Pieces, is_job_of, events_in, is_up_to, mark_by, pieces_among, pieces_for, is_empty_of}
use Rattle.hv_stands.proofs.Numbers.{same_one, numbered-changed, changed-here}
use Rattle.hv_jobs.specs.Covers.{range_names, names_by, job_names}
use Rattle.hv_law_made.specs.Made.{write_names, file_among, is_made, jobs_at, recs_in, made_recs}
use Rattle.hv_law_made.specs.Laws.{Holds, IsFinalOf, IsFiledFor}
use Rattle.hv_law_made.specs.Entries.{IsSoundBook, publishing, dir_of, IsAtWork, IsFinalAt, HasBareFinal}
use Rattle.hv_law_made.specs.Opening.{IsWholeOrBare}
use Rattle.hv_law_made.proofs.RenameStands.{in-from, job-there, publishing-tables}
use Rattle.hv_law_made.proofs.RecoverStands.{two-partitions}
use Rattle.hv_law_visible.specs.Members.{IsIn}

-- ---- lists where one is changed

-- of one that doesn't pass, before and behind
skips_at : {A : Type 0} (p : A → Bool) (f : A → A) (xs : List A) (n : ℕ) (x : A) → slice_get xs n ≡ Some x → p x ≡ false → p (f x) ≡ false
    → filter p (changed_at f xs n) ≡ filter p xs
skips_at p f [] n x at fails never = cc
skips_at p f (y ∷ ys) zero x at fails never =
    let same : y ≡ x = cc in
    ap (λ b. cond b (f y ∷ filter p ys) (filter p ys)) (ap (λ z. p (f z)) same ∙ never) ∙ sym (ap (λ b. cond b (y ∷ filter p ys) (filter p ys)) (ap p same ∙ fails))
skips_at p f (y ∷ ys) (suc n) x at fails never = ap (λ zs. cond (p y) (y ∷ zs) zs) (skips_at p f ys n x at fails never)

skips : {A : Type 0} (p : A → Bool) (f : A → A) (xs : List A) (n : ℕ) (x : A) → numbered xs n ≡ Some x → p x ≡ false → p (f x) ≡ false
    → filter p (changed f xs n) ≡ filter p xs
skips p f xs zero x at fails never = cc
skips p f xs (suc n) x at fails never = skips_at p f xs n x at fails never

-- two changes of two
swapped_at : {A : Type 0} (f g : A → A) (xs : List A) (m n : ℕ) → (m ≡ n → ⊥) → changed_at g (changed_at f xs m) n ≡ changed_at f (changed_at g xs n) m
swapped_at f g [] m n other = refl
swapped_at f g (x ∷ xs) zero zero other = absurd (other refl)
swapped_at f g (x ∷ xs) zero (suc n) other = refl
swapped_at f g (x ∷ xs) (suc m) zero other = refl
swapped_at f g (x ∷ xs) (suc m) (suc n) other = ap (λ ys. x ∷ ys) (swapped_at f g xs m n (λ same. other (ap suc same)))

swapped : {A : Type 0} (f g : A → A) (xs : List A) (m n : ℕ) → (m ≡ n → ⊥) → changed g (changed f xs m) n ≡ changed f (changed g xs n) m
swapped f g xs zero n other = refl
swapped f g xs (suc m) zero other = refl
swapped f g xs (suc m) (suc n) other = swapped_at f g xs m n (λ same. other (ap suc same))

-- two changes by which one passes alike and makes the same names
module _ (p : Job → Bool) (f g : Job → Job) where
  abbrev names_of : Bool → Job → List Job → List DirName
  names_of b j js = flat_map job_names (cond b (j ∷ filter p js) (filter p js))

  alike_by : (b : Bool) (x y : Job) (js : List Job) → job_names x ≡ job_names y → names_of b x js ≡ names_of b y js
  alike_by true x y js names = ap (λ ns. ns ++ flat_map job_names (filter p js)) names
  alike_by false x y js names = refl

  more_by : (b : Bool) (j : Job) (js ks : List Job) → flat_map job_names (filter p js) ≡ flat_map job_names (filter p ks) → names_of b j js ≡ names_of b j ks
  more_by true j js ks same = ap (λ ns. job_names j ++ ns) same
  more_by false j js ks same = same

  named_at : (xs : List Job) (n : ℕ) (x : Job) → slice_get xs n ≡ Some x → p (f x) ≡ p (g x) → job_names (f x) ≡ job_names (g x)
      → flat_map job_names (filter p (changed_at f xs n)) ≡ flat_map job_names (filter p (changed_at g xs n))
  named_at [] n x at pass names = cc
  named_at (y ∷ ys) zero x at pass names =
      let same : y ≡ x = cc in
      ap (λ b. names_of b (f y) ys) (ap (λ z. p (f z)) same ∙ pass ∙ ap (λ z. p (g z)) (sym same))
      ∙ alike_by (p (g y)) (f y) (g y) ys (ap (λ z. job_names (f z)) same ∙ names ∙ ap (λ z. job_names (g z)) (sym same))
  named_at (y ∷ ys) (suc n) x at pass names = more_by (p y) y (changed_at f ys n) (changed_at g ys n) (named_at ys n x at pass names)

  pub named : (xs : List Job) (n : ℕ) (x : Job) → numbered xs n ≡ Some x → p (f x) ≡ p (g x) → job_names (f x) ≡ job_names (g x)
      → flat_map job_names (filter p (changed f xs n)) ≡ flat_map job_names (filter p (changed g xs n))
  named xs zero x at pass names = cc
  named xs (suc n) x at pass names = named_at xs n x at pass names

-- what is made at a place hangs on the tables and on the names that jobs make there
pub made-by-names : (s t : State) (place : Place) → s.tables ≡ t.tables → flat_map job_names (jobs_at s place) ≡ flat_map job_names (jobs_at t place)
    → made_recs s place ≡ made_recs t place
unfolding made_recs
made-by-names s t place tables names = ap (recs_in s place) (ap (λ ts. numbered ts place.table.0) tables) ∙ by (numbered t.tables place.table.0)
  where
    by : (o : Option Table) → recs_in s place o ≡ recs_in t place o
    by None = refl
    by (Some table) = ap (λ ns. file_among table.info.shape table.writes place (flat_map write_names table.writes ++ ns)) names

-- ---- a place of a final directory

abbrev pub InDir : Job → ℕ → ℕ → Place → Type 0
InDir j low high place = (name : DirName) × IsIn name (range_names j.kind low high) × (is_in (dir_of j (text_of name)) place ≡ true)

pub in-dir : (state : State) (n : ℕ) (j : Job) → numbered state.jobs n ≡ Some j → (low high : ℕ) (place : Place) → IsFinalOf state n low high place → InDir j low high place
in-dir state n j is low high place asks =
    let same : asks.job ≡ j = same_one (numbered state.jobs n) asks.job j asks.is is in
    let there = job-there j place (subst (λ (x : Job). is_job_of place.table.0 place.partition x ≡ true) same asks.here) in (
      asks.name,
      subst (λ (x : Job). IsIn asks.name (range_names x.kind low high)) same asks.among,
      in-from j (text_of asks.name) place there.0 there.1 asks.dir,
    )

-- the same of another state in which that job is there, and of a range that is the same
pub final-as : (s t : State) (n : ℕ) (j : Job) → numbered s.jobs n ≡ Some j → numbered t.jobs n ≡ Some j → (a b : Pieces) → a ≡ b → (place : Place)
    → IsFinalOf s n a.low a.high place → IsFinalOf t n b.low b.high place
final-as s t n j at_s at_t a b same place asks =
    let one : asks.job ≡ j = same_one (numbered s.jobs n) asks.job j asks.is at_s in
    record {
      job = j;
      is = at_t;
      here = subst (λ (x : Job). is_job_of place.table.0 place.partition x ≡ true) one asks.here;
      name = asks.name;
      among = subst (λ (ps : Pieces). IsIn asks.name (range_names j.kind ps.low ps.high)) same
          (subst (λ (x : Job). IsIn asks.name (range_names x.kind a.low a.high)) one asks.among);
      dir = asks.dir;
    }

-- ---- the step

pub turned-eq : (m n : ℕ) → (m == n) ≡ false → (n == m) ≡ false
turned-eq m n other = false_from_ne_true (n == m) (λ e. true≢false (sym (eq-eqb m n (sym (eqb-true n m e))) ∙ other))

module _ (state : State) (number : ℕ) (job : Job) (is : numbered state.jobs number ≡ Some job) (working : is_working job ≡ true) (sound : IsSoundBook state)
    (step : Job → Job) (opens : Openings) (over : is_working (step job) ≡ false)
    (stays : (table : ℕ) (partition : List ℕ) → is_job_of table partition (step job) ≡ is_job_of table partition job) where
  abbrev pub stepped : State
  stepped = record state { jobs = changed step state.jobs number; entries = state.entries + 1; openings = opens }

  -- a job at work behind it is another one
  pub other-than : (n : ℕ) (j : Job) → numbered stepped.jobs n ≡ Some j → is_working j ≡ true → (number == n) ≡ false
  other-than n j at works =
      false_from_ne_true (number == n)
      (λ e.
      let same : number ≡ n = eqb-true number n e in
      let here : numbered (changed step state.jobs number) n ≡ Some (step job) =
      subst (λ k. numbered (changed step state.jobs number) k ≡ Some (step job)) same (changed-here step state.jobs number job is) in
      let one : j ≡ step job = same_one (numbered (changed step state.jobs number) n) j (step job) at here in
      true≢false (sym works ∙ ap (λ (x : Job). is_working x) one ∙ over))

  pub number-same : (n : ℕ) → (number == n) ≡ false → numbered stepped.jobs n ≡ numbered state.jobs n
  number-same n other =
      numbered-changed step state.jobs number n job is ∙ ap (λ b. cond b (Some (step job)) (numbered state.jobs n)) (turned-eq number n other)

  module _ (n : ℕ) (j : Job) (was : numbered state.jobs n ≡ Some j) (works : is_working j ≡ true) (other : (number == n) ≡ false) where
    elsewhere : is_job_of j.table j.partition job ≡ false
    elsewhere =
        false_from_ne_true (is_job_of j.table j.partition job)
        (λ e. two-partitions state sound n number j job was works is working (turned-eq number n other) e)

    there-now : numbered stepped.jobs n ≡ Some j
    there-now = number-same n other ∙ was

    -- what it would merge is the same
    pub pieces-same : pieces_for stepped j ≡ pieces_for state j
    pieces-same =
        ap (λ js. pieces_among j.kind js (filter (is_up_to (mark_by j.watermark)) (events_in state j.table j.partition)))
        (skips (is_job_of j.table j.partition) step state.jobs number job is elsewhere (stays j.table j.partition ∙ elsewhere))

    abbrev its_step : State → ℕ → Job → Job
    its_step s places = published_at places ((pieces_for s j).low, (pieces_for s j).high, length s.transactions + 1)

    abbrev told : State
    told = after state (publishing state n j)

    abbrev told_next : State
    told_next = after stepped (publishing stepped n j)

    steps-alike : job_names (its_step stepped stepped.entries j) ≡ job_names (its_step state state.entries j)
    steps-alike = λ i. names_by j.kind (first_of j.published ((pieces-same i).low, (pieces-same i).high, length state.transactions + 1))

    -- at its places the book makes the same behind its own entry
    names-alike : (place : Place) → is_job_of place.table.0 place.partition j ≡ true → is_job_of place.table.0 place.partition job ≡ false
        → flat_map job_names (jobs_at told_next place) ≡ flat_map job_names (jobs_at told place)
    unfolding acted
    names-alike place here apart =
        let p = is_job_of place.table.0 place.partition in
        named p (its_step stepped stepped.entries) (its_step state state.entries) stepped.jobs n j there-now refl steps-alike
        ∙ ap (λ js. flat_map job_names (filter p js))
        (swapped step (its_step state state.entries) state.jobs number n (λ same. true≢false (sym (eq-eqb number n same) ∙ other)))
        ∙ ap (flat_map job_names)
        (skips p step (changed (its_step state state.entries) state.jobs n) number job
        (numbered-changed (its_step state state.entries) state.jobs n number j was
        ∙ ap (λ b. cond b (Some (its_step state state.entries j)) (numbered state.jobs number)) other ∙ is)
        apart (stays place.table.0 place.partition ∙ apart))

    told-same : (place : Place) → is_job_of place.table.0 place.partition j ≡ true → is_job_of place.table.0 place.partition job ≡ false
        → made_recs told_next place ≡ made_recs told place
    told-same place here apart =
        made-by-names told_next told place (publishing-tables stepped n j ∙ sym (publishing-tables state n j)) (names-alike place here apart)

    not-here : (place : Place) → is_job_of place.table.0 place.partition j ≡ true → is_job_of place.table.0 place.partition job ≡ false
    not-here place here =
        let there = job-there j place here in
        subst (λ t. is_job_of t place.partition job ≡ false) (sym there.0) (subst (λ q. is_job_of j.table q job ≡ false) (sym there.1) elsewhere)

    abbrev pub was-work : (w : IsAtWork stepped n j) → IsAtWork state n j
    was-work w = record {
      is = was;
      working = works;
      table = w.table;
      table_is = w.table_is;
      live = w.live;
      some = subst (λ (ps : Pieces). is_empty_of j.kind ps ≡ false) pieces-same w.some;
    }

    abbrev still-work : (w : IsAtWork state n j) → IsAtWork stepped n j
    still-work w = record {
      is = there-now;
      working = works;
      table = w.table;
      table_is = w.table_is;
      live = w.live;
      some = subst (λ (ps : Pieces). is_empty_of j.kind ps ≡ false) (sym pieces-same) w.some;
    }

    pub still-final : (w : IsAtWork state n j) (place : Place) → IsFinalOf state n (pieces_for state j).low (pieces_for state j).high place → IsFinalAt stepped place
    still-final w place asks = record {
      number = n;
      job = j;
      work = still-work w;
      final = final-as state stepped n j was there-now (pieces_for state j) (pieces_for stepped j) (sym pieces-same) place asks;
    }

    still-filed : (files : Tree) → IsFiledFor (publishing state n j) state files → IsFiledFor (publishing stepped n j) stepped files
    still-filed files its_files = record {
      at = λ place asks.
          let asked = final-as stepped state n j there-now was (pieces_for stepped j) (pieces_for state j) pieces-same place asks in
          let one : asks.job ≡ j = same_one (numbered stepped.jobs n) asks.job j asks.is there-now in
          let here : is_job_of place.table.0 place.partition j ≡ true = subst (λ (x : Job). is_job_of place.table.0 place.partition x ≡ true) one asks.here in
          subst (λ o. Holds o place.bucket (finmap.get files place)) (sym (told-same place here (not-here place here))) (its_files.at place asked);
      encoded = tt;
    }

    still-bare : (files : Tree) (w : IsAtWork stepped n j) → HasBareFinal state j w.table.writes files → HasBareFinal stepped j w.table.writes files
    still-bare files w bare = record {
      name = bare.name;
      among = subst (λ (ps : Pieces). IsIn bare.name (filter (is_made w.table.writes j.partition) (range_names j.kind ps.low ps.high))) (sym pieces-same) bare.among;
      bare = bare.bare;
    }

    pub still-either : (files : Tree) (w : IsAtWork stepped n j) → IsFiledFor (publishing state n j) state files ⊎ HasBareFinal state j (was-work w).table.writes files
        → IsFiledFor (publishing stepped n j) stepped files ⊎ HasBareFinal stepped j w.table.writes files
    still-either files w (inl its_files) = inl (still-filed files its_files)
    still-either files w (inr bare) = inr (still-bare files w bare)

    pub still-whole : (files : Tree) (whole : Bool) (w : IsAtWork stepped n j) → IsWholeOrBare whole state n j (was-work w).table.writes files
        → IsWholeOrBare whole stepped n j w.table.writes files
    still-whole files true w its_files = still-filed files its_files
    still-whole files false w bare = still-bare files w bare
