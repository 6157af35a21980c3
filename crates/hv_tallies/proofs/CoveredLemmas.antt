-- What is put for the directories that a job covers is what the definition has, each as often.
use Rattle.std.proofs.Common.{◌≡◌, ℕ, suc, ◌+◌, ◌-◌, Bool, true, false, Option, Some, None, Result, List, [], ◌∷◌, ◌++◌, map, filter, take, fold, refl, sym, ap, ◌∙◌, arith, true≢false}
use Rattle.std.specs.Prelude.{◌==◌, ◌&&◌, ◌||◌, if◌then◌else◌, nat_lt, nat_le, OnOk}
use Rattle.std.specs.Option.{option_map}
use Rattle.std.specs.List.{list_any, flat_map, slice_get, AllByRecursion}
use Rattle.std.proofs.lemmas.Bool.{and_parts}
use Rattle.std.proofs.lemmas.List.{append-nil}
use Rattle.std.proofs.lemmas.Result.{on_ok_weaker}
use Rattle.hv_base.specs.declared.ids.Touch.{Touch}
use Rattle.hv_dirs.specs.declared.names.DirName.{DirName}
use Rattle.hv_jobs.specs.hv_history.specs.declared.entry.Entry.{Entry}
use Rattle.hv_jobs.specs.hv_history.specs.declared.entry.JobKind.{JobKind}
use Rattle.hv_jobs.specs.hv_history.specs.declared.entry.JobKind.TheVariants as kind
use Rattle.hv_jobs.specs.hv_history.specs.State.{State, Job, numbered, state_of}
use Rattle.hv_jobs.specs.hv_history.specs.Jobs.{Events, inserts, deletes, is_up_to, is_between, is_job_of, events_of, events_if, events_at, events_from, events_in, ids_of}
use Rattle.hv_ids.specs.declared.notes.IdNote.{IdNote}
use Rattle.hv_ids.specs.declared.notes.PlacedId.{PlacedId}
use Rattle.hv_ids.specs.Ids.{table_of, is_in}
use Rattle.hv_links.specs.Links.{last_of, before_of}
use Rattle.hv_earlier.specs.hv_meta.specs.hv_book.specs.declared.jobs.JobNote.{JobNote}
use Rattle.hv_earlier.specs.hv_meta.specs.hv_book.specs.declared.jobs.JobRange.{JobRange}
use Rattle.hv_earlier.specs.hv_meta.specs.hv_book.specs.Briefs.{brief_job, brief_range}
use Rattle.hv_earlier.specs.hv_meta.specs.hv_book.specs.Commits.{wrote_in}
use Rattle.hv_earlier.specs.hv_meta.specs.hv_book.specs.Past.{Past, total, total_from, only_if, weight_in, ended_weight, owners_in}
use Rattle.hv_earlier.specs.hv_meta.specs.hv_book.proofs.IdLaws.{total-append}
use Rattle.hv_earlier.proofs.WalkLaws.{walk-start, walk-step}
use Rattle.hv_jobs.specs.Covered.{own, wide, base, has_within, covered_if, own_covered, published_covered, made_covered, covered_names}
use Rattle.hv_tallies.specs.declared.tally.Tally.{Tally}
use Rattle.hv_tallies.specs.Tallies.{touch_in, no_tally}
use Rattle.hv_tallies.specs.Walks.{IsTally}
use Rattle.hv_tallies.specs.Covered.{kept_if, own_kept, touch_names, names_of, names_at, names_weight, reach_within, published_kept, made_kept, kept_names}
use Rattle.hv_tallies.proofs.WalkLemmas.{other-none, own-weight}
use Rattle.hv_tallies.proofs.EventLemmas.{events-wrote, gathered, owners-same, seen-same, stepped, open-leaves, projected}
use Rattle.hv_tallies.proofs.TallyLemmas.{counts, any_step, any-exact, any-filtered, merged}
use Rattle.hv_tallies.proofs.AskedLemmas.{IsAskedThere, all-asked, note-of}
use Rattle.hv_tallies.proofs.NoteLemmas.{covers-same}

-- ---- what is put behind a list

pub then-ok : {T E P Q : Type 0} (r : Result T E) → OnOk r P → (P → Q) → OnOk r Q
then-ok r holds step = on_ok_weaker r step holds

pub put-as : (old new xs ys : List DirName) → new ≡ old ++ xs → xs ≡ ys → new ≡ old ++ ys
put-as old new xs ys put same = put ∙ ap (λ zs. old ++ zs) same

pub put-none : (old ys : List DirName) → [] ≡ ys → old ≡ old ++ ys
put-none old ys none = sym (append-nil old) ∙ ap (λ zs. old ++ zs) none

pub put-total : (weight : DirName → ℕ) (old new ys : List DirName) → new ≡ old ++ ys → total weight new ≡ total weight old + total weight ys
put-total weight old new ys put = ap (total weight) put ∙ total-append weight old ys

pub no-partition : {A : Type 0} (partition : List ℕ) → None ≡ Some partition → A
no-partition partition e = cc

pub partition-is : (found partition : List ℕ) → Some found ≡ Some partition → found ≡ partition
partition-is found partition e = cc

-- ---- own deltas

pub names-some : (state : State) (table : ℕ) (partition text : List ℕ) (note : JobNote) (id : IdNote) (touch : Touch) → text ≡ partition
    → Some touch ≡ touch_in table text (wrote_in (numbered state.transactions id.txn)) → own_kept note (events_of id.write touch) ≡ names_at state table partition note id
unfolding names_of
names-some state table partition text note id touch same is =
    ap (touch_names note id.write) (is ∙ ap (λ p. touch_in table p (wrote_in (numbered state.transactions id.txn))) same)

pub names-none : (state : State) (table : ℕ) (partition text : List ℕ) (note : JobNote) (id : IdNote) → text ≡ partition
    → None ≡ touch_in table text (wrote_in (numbered state.transactions id.txn)) → [] ≡ names_at state table partition note id
unfolding names_of
names-none state table partition text note id same is =
    ap (touch_names note id.write) (is ∙ ap (λ p. touch_in table p (wrote_in (numbered state.transactions id.txn))) same)

module _ (state : State) (table : ℕ) (partition : List ℕ) (note : JobNote) (weight : DirName → ℕ) where
  abbrev own_weight : Events → ℕ
  own_weight e = total weight (own_kept note e)

  flat-total : (es : List Events) → total weight (flat_map (own_kept note) es) ≡ total own_weight es
  flat-total [] = refl
  flat-total (e ∷ es) = total-append weight (own_kept note e) (flat_map (own_kept note) es) ∙ ap (λ n. total weight (own_kept note e) + n) (flat-total es)

  touch-total : (write : ℕ) (o : Option Touch) → total weight (touch_names note write o) ≡ total own_weight (events_if write o)
  touch-total write None = refl
  touch-total write (Some touch) = omega arith

  id-total : (write txn : ℕ) → names_weight state table partition note weight write txn ≡ total own_weight (events_at table partition write (numbered state.transactions txn))
  unfolding names_of
  id-total write txn =
      touch-total write (touch_in table partition (wrote_in (numbered state.transactions txn)))
      ∙ ap (total own_weight) (sym (events-wrote table partition write (numbered state.transactions txn)))

  abbrev pub weigh : ℕ → ℕ → ℕ
  weigh = names_weight state table partition note weight

  from-total : (write : ℕ) (owners : List ℕ) → total_from weigh write owners ≡ total own_weight (events_from state.transactions table partition write owners)
  from-total write [] = refl
  from-total write (txn ∷ owners) =
      let first = id-total write txn in
      let rest = from-total (write + 1) owners in
      let split = total-append own_weight (events_at table partition write (numbered state.transactions txn)) (events_from state.transactions table partition (write + 1) owners) in
      omega (arith, first, rest, split)

  pending-total : (xs : List IdNote) → total weight (flat_map (names_at state table partition note) (filter (is_in table) xs)) ≡ total (weight_in table weigh) xs
  pending-total [] = refl
  pending-total (x ∷ xs) = by (x.table == table) (pending-total xs)
    where
      by : (b : Bool) → total weight (flat_map (names_at state table partition note) (filter (is_in table) xs)) ≡ total (weight_in table weigh) xs
          → total weight (flat_map (names_at state table partition note) (if b then x ∷ filter (is_in table) xs else filter (is_in table) xs))
          ≡ only_if b (weigh x.write x.txn) + total (weight_in table weigh) xs
      by true rest =
          total-append weight (names_at state table partition note x) (flat_map (names_at state table partition note) (filter (is_in table) xs))
          ∙ ap (λ n. weigh x.write x.txn + n) rest
      by false rest = omega (arith, rest)

  -- those of all write ids of the table
  pub all-own : (past : Past) → total_from weigh 1 (owners_in (numbered state.tables table))
      ≡ total (weight_in table weigh) past.pending + total (ended_weight table weigh) past.aborted + total (ended_weight table weigh) past.committed
      → total weight (flat_map (names_at state table partition note) (filter (is_in table) past.pending)) + total (ended_weight table weigh) past.aborted
      + total (ended_weight table weigh) past.committed
      ≡ total weight (flat_map (own_kept note) (events_in state table partition))
  all-own past whole =
      let pending = pending-total past.pending in
      let owners = ap (total_from weigh 1) (owners-same (numbered state.tables table)) in
      let from = from-total 1 (ids_of (numbered state.tables table)) in
      let flat = flat-total (events_in state table partition) in
      omega (arith, pending, whole, owners, from, flat)

  -- going back over those that have ended
  pub back-start : (ids : List PlacedId) → total (ended_weight table weigh) (take (last_of table (map table_of ids)) ids) ≡ total (ended_weight table weigh) ids
  back-start ids = walk-start (ended_weight table weigh) table (other-none table weigh) ids

  pub back-step : (ids : List PlacedId) (at : ℕ) (x : PlacedId) → slice_get ids at ≡ Some x → x.id.table ≡ table
      → total (ended_weight table weigh) (take (suc at) ids)
      ≡ total (ended_weight table weigh) (take (before_of (suc at) (map table_of ids)) ids) + total weight (names_at state table partition note x.id)
  back-step ids at x got same =
      walk-step (ended_weight table weigh) table (other-none table weigh) ids at x got same
      ∙ ap (λ n. total (ended_weight table weigh) (take (before_of (suc at) (map table_of ids)) ids) + n) (own-weight table weigh x same)

-- ---- whether something is in a range

any-within : (p q : Events → Bool) → ((e : Events) → p e ≡ true → q e ≡ true) → (es : List Events) → list_any p (filter q es) ≡ list_any p es
any-within p q up [] = refl
any-within p q up (e ∷ es) = by (p e) (q e) (up e) (any-within p q up es) refl
  where
    by : (c d : Bool) → (c ≡ true → d ≡ true) → list_any p (filter q es) ≡ list_any p es → p e ≡ c
        → list_any p (if d then e ∷ filter q es else filter q es) ≡ (c || list_any p es)
    by c true gives rest is = (λ i. is i || rest i)
    by true false gives rest is = absurd (true≢false (sym (gives refl)))
    by false false gives rest is = rest

module _ (state : State) (table : ℕ) (partition : List ℕ) (range : JobRange) (tally : Tally) (is : IsTally state table partition (reach_within range) tally) where
  abbrev seen : List Events
  seen = gathered state table partition is.seen

  abbrev all : List Events
  all = events_in state table partition

  abbrev within : (Events → Bool) → Events → Bool
  within test = merged (range.low - 1) range.high test

  up : (test : Events → Bool) (e : Events) → within test e ≡ true → is_up_to range.high e ≡ true
  up test e passes =
      (and_parts (nat_lt (range.low - 1) e.write) (nat_le e.write range.high) (and_parts (is_between (range.low - 1) range.high e) (test e) passes).0).1

  found : (test : Events → Bool) (b : Bool) → b ≡ fold (stepped (any_step (within test)) (reach_within range)) false seen → b ≡ list_any (within test) all
  found test b b_is =
      b_is ∙ any-exact (reach_within range) (within test) seen ∙ ap (nat_lt 0) (seen-same state table partition (reach_within range) tally is (counts range.high (within test)))
      ∙ sym (any-filtered range.high (within test) all) ∙ any-within (within test) (is_up_to range.high) (up test) all

  pub inserted-is : tally.merged_ins ≡ has_within false range.low range.high all
  inserted-is =
      found inserts tally.merged_ins
      (ap (λ (t : Tally). t.merged_ins) is.is
      ∙ projected (λ (t : Tally). t.merged_ins) (any_step (within inserts)) (reach_within range) (λ t e. refl) (open-leaves (λ (t : Tally). t.merged_ins) (λ t o. refl))
      state table partition is.seen no_tally)

  pub deleted-is : tally.merged_del ≡ has_within true range.low range.high all
  deleted-is =
      found deletes tally.merged_del
      (ap (λ (t : Tally). t.merged_del) is.is
      ∙ projected (λ (t : Tally). t.merged_del) (any_step (within deletes)) (reach_within range) (λ t e. refl) (open-leaves (λ (t : Tally). t.merged_del) (λ t o. refl))
      state table partition is.seen no_tally)

-- ---- by notes, and by jobs

kept-same : (j : Job) (made : Bool) (name : DirName) → kept_if (brief_job j) made name ≡ covered_if j made name
kept-same j made name = ap (λ c. if made && c then name ∷ [] else []) (covers-same j name)

own-same : (j : Job) (e : Events) → own_kept (brief_job j) e ≡ own_covered j e
own-same j e = λ i. kept-same j (inserts e) (own false e.write) i ++ kept-same j (deletes e) (own true e.write) i

published-same : (ids : List Events) (j : Job) (k : JobKind) (o : Option (ℕ × ℕ × ℕ)) → published_kept ids (brief_job j) k (option_map brief_range o) ≡ published_covered ids j k o
published-same ids j k None = refl
published-same ids j kind.Minor (Some range) =
    λ i. kept-same j (has_within false range.0 range.1 ids) (wide false range.0 range.1) i ++ kept-same j (has_within true range.0 range.1 ids) (wide true range.0 range.1) i
published-same ids j kind.Major (Some range) = kept-same j true (base range.1)

made-same : (entries : List Entry) (table : ℕ) (partition : List ℕ) (j : Job) (jobs : List Job) → AllByRecursion (IsAskedThere entries) jobs
    → flat_map (made_kept entries table partition (brief_job j)) (map brief_job jobs)
    ≡ flat_map (made_covered (events_in (state_of entries) table partition) j) (filter (is_job_of table partition) jobs)
made-same entries table partition j [] all = refl
made-same entries table partition j (k ∷ jobs) all =
    ap (λ b. (if b then published_kept ids (brief_job j) k.kind (option_map brief_range k.published) else [])
    ++ flat_map (made_kept entries table partition (brief_job j)) (map brief_job jobs)) (note-of entries table partition k all.0)
    ∙ by (is_job_of table partition k) (made-same entries table partition j jobs all.1)
  where
    ids : List Events
    ids = events_in (state_of entries) table partition

    by : (b : Bool) → flat_map (made_kept entries table partition (brief_job j)) (map brief_job jobs) ≡ flat_map (made_covered ids j) (filter (is_job_of table partition) jobs)
        → ((if b then published_kept ids (brief_job j) k.kind (option_map brief_range k.published) else [])
        ++ flat_map (made_kept entries table partition (brief_job j)) (map brief_job jobs))
        ≡ flat_map (made_covered ids j) (if b then k ∷ filter (is_job_of table partition) jobs else filter (is_job_of table partition) jobs)
    by true rest = λ i. published-same ids j k.kind k.published i ++ rest i
    by false rest = rest

pub kept-covered : (entries : List Entry) (j : Job) (note : JobNote) (partition : List ℕ) → note ≡ brief_job j → partition ≡ j.partition
    → kept_names entries note.table partition note ≡ covered_names (state_of entries) j
kept-covered entries j note partition same is =
    (λ i. kept_names entries (same i).table (is i) (same i))
    ∙ (λ i. flat_map (λ (e : Events). own-same j e i) (events_in (state_of entries) j.table j.partition)
    ++ made-same entries j.table j.partition j (state_of entries).jobs (all-asked entries) i)
