-- Runs that do nothing, and when they come.
use Rattle.std.proofs.Common.{◌≡◌, ℕ, ◌+◌, ◌≤◌, ◌==◌, ◌||◌, Bool, true, false, cond, nat_lt, Result, Ok, Err, IfErr, IsTrue, IsSome, is_some, not, codes, Option, Some, None, List, [], ◌∷◌, ◌++◌, length, refl, sym, ap, ◌∙◌, subst, arith, ◌⊎◌, inl, inr}
use Rattle.std.specs.Prelude.{count_by}
use Rattle.std.proofs.lemmas.List.{append-nil, length-append, take-append-le}
use Rattle.std.proofs.lemmas.Bool.{ltb-true, ltb-false, lt-ltb, eqb-true}
use Rattle.hv_base.specs.Told.{Tells, Moves}
use Rattle.hv_base.specs.Sink.{Gains, GainsPart}
use Rattle.hv_shelf.specs.Disk.{Store}
use Rattle.hv_script.specs.Words.{run_of}
use Rattle.hv_script.specs.declared.words.Command.{Command}
use Rattle.hv_script.specs.Items.{items_of}
use Rattle.hv_script.specs.declared.script.ScriptFault.{ScriptFault}
use Rattle.hv_script.specs.declared.script.ScriptFault.TheVariants.{Refused}
use Rattle.hv_script.specs.Script.{broken_line, earlier, front, limit_line, line_at}
use Rattle.hv_script.specs.declared.actions.Action.{Action}
use Rattle.hv_script.specs.Actions.{IsReading, least, refused_at}
use Rattle.hv_script.specs.Standing.{fault_lines, first_standing}
use Rattle.hv_program.specs.declared.stop.Stop.{Stop}
use Rattle.hv_program.specs.declared.stop.Stop.TheVariants as stop
use Rattle.hv_program.specs.Stops.{status_of_stop}
use Rattle.hv_program.specs.Change.{from_to}
use Rattle.hv_program.specs.Reading.{TakesUpTo}
use Rattle.hv_program.specs.Headline.{Outside}
use Rattle.hv_program.specs.Serving.{ran_status, IsSaid, IsSaidOrNot, IsClosed, IsFilled, Opens}
use Rattle.hv_program.specs.Lines.{words_line, script_line, journal_line, full_line}
use Rattle.hv_history.specs.declared.entry.Entry.{Entry}
use Rattle.hv_history.specs.Legal.{profile}
use Rattle.hv_session.specs.hv_beginning.specs.hv_steps.specs.hv_table_reader.specs.hv_acts.specs.hv_telling.specs.hv_house.specs.hv_recovery.specs.Recovery.{IsJournalOf, IsBadJournalAt}
use Rattle.hv_session.specs.hv_beginning.specs.hv_steps.specs.hv_table_reader.specs.hv_acts.specs.hv_telling.specs.hv_house.specs.declared.boot.BootFault.{BootFault}
use Rattle.hv_session.specs.hv_beginning.specs.hv_steps.specs.hv_table_reader.specs.hv_acts.specs.hv_telling.specs.hv_house.specs.declared.boot.BootFault.TheVariants as boot
use Rattle.hv_session.specs.hv_beginning.specs.hv_steps.specs.hv_table_reader.specs.hv_acts.specs.hv_telling.specs.hv_house.specs.Booting.{CanOpen, IsFullAt, HasFullBook, HasNoBook, IsBootFault}
use Rattle.hv_session.specs.hv_beginning.specs.hv_steps.specs.hv_table_reader.specs.hv_acts.specs.hv_telling.specs.hv_house.specs.Booting as boots
use Rattle.hv_program.specs.Refused.{is_one_of, IsBadWords, IsRefusedScript, IsBadJournal, IsFullJournal, CutsLine, IsServing, DoesNothing, Refuses}

-- ---- one of some statuses

pub more : (b rest : Bool) → rest ≡ true → b || rest ≡ true
more true rest h = refl
more false rest h = h

pub keep : (b rest wider : Bool) → (rest ≡ true → wider ≡ true) → b || rest ≡ true → b || wider ≡ true
keep true rest wider f h = refl
keep false rest wider f h = f h

pub split : (b rest : Bool) → b || rest ≡ true → (b ≡ true) ⊎ (rest ≡ true)
split true rest h = inl refl
split false rest h = inr h

-- ---- serving

tells-then : {A : Type 0} (P Q : A → Type 0) (o : Option A) → ((x : A) → P x → Q x) → Tells o P → Tells o Q
tells-then P Q None f p = tt
tells-then P Q (Some x) f p = f x p

-- the store of a run that was opened could be opened
pub could-open : (told : Option Store) (now : List Entry) → boots.Opens profile told now → Tells told (CanOpen profile)
could-open told now is =
    tells-then (λ s. IsJournalOf profile is.0 s.journal) (CanOpen profile) told (λ s reads. (is.0, record { reads = reads; room = is.1.room })) is.1.reads

none-of-two : (n : ℕ) → (n ≡ 0 → ⊥) → (n ≡ 1 → ⊥) → (Goal : Type 0) → IsTrue (is_one_of (0 ∷ 1 ∷ []) n) → Goal
none-of-two n not_zero not_one Goal h = first (split (0 == n) ((1 == n) || false) h)
  where
    second : ((1 == n) ≡ true) ⊎ (false ≡ true) → Goal
    second (inl e) = absurd (not_one (sym (eqb-true 1 n e)))
    second (inr e) = absurd (let wrong : false ≡ true = e in cc)

    first : ((0 == n) ≡ true) ⊎ ((1 == n) || false ≡ true) → Goal
    first (inl e) = absurd (not_zero (sym (eqb-true 0 n e)))
    first (inr e) = second (split (1 == n) false e)

opens-well : (n : ℕ) (sink sink' : Option (List ℕ)) (told told' : Option Store) → (n ≡ 6 → ⊥) → (n ≡ 9 → ⊥) → Tells told (CanOpen profile)
    → IsTrue (is_one_of (0 ∷ 1 ∷ 4 ∷ 5 ∷ 6 ∷ 7 ∷ 9 ∷ []) n) → Opens sink sink' told told' n
opens-well n sink sink' told told' six nine can only = record { bad = λ e. absurd (six e); full = λ e. absurd (nine e); cut = λ e. inr (inr can); opened = λ h. can; only = only }

pub opens-ran : (ran : Result Bool Stop) (sink sink' : Option (List ℕ)) (told told' : Option Store) → Tells told (CanOpen profile)
    → IfErr ran (λ why. IsTrue (is_one_of (4 ∷ 5 ∷ 7 ∷ []) (status_of_stop why))) → Opens sink sink' told told' (ran_status ran)
opens-ran (Ok false) sink sink' told told' can why = opens-well 0 sink sink' told told' (λ e. omega (arith, e)) (λ e. omega (arith, e)) can refl
opens-ran (Ok true) sink sink' told told' can why = opens-well 1 sink sink' told told' (λ e. omega (arith, e)) (λ e. omega (arith, e)) can refl
opens-ran (Err stop.Source) sink sink' told told' can why = cc
opens-ran (Err stop.Sink) sink sink' told told' can why = opens-well 4 sink sink' told told' (λ e. omega (arith, e)) (λ e. omega (arith, e)) can refl
opens-ran (Err stop.Store) sink sink' told told' can why = opens-well 5 sink sink' told told' (λ e. omega (arith, e)) (λ e. omega (arith, e)) can refl
opens-ran (Err stop.NoMemory) sink sink' told told' can why = opens-well 7 sink sink' told told' (λ e. omega (arith, e)) (λ e. omega (arith, e)) can refl

pub opens-run : (ran : Result Bool Stop) (status : ℕ) (sink sink' : Option (List ℕ)) (told told' : Option Store) (now : List Entry) → status ≡ ran_status ran
    → boots.Opens profile told now
    → IfErr ran (λ why. IsTrue (is_one_of (4 ∷ 5 ∷ 7 ∷ []) (status_of_stop why))) → Opens sink sink' told told' status
opens-run ran status sink sink' told told' now is opened why =
    subst (Opens sink sink' told told') (sym is) (opens-ran ran sink sink' told told' (could-open told now opened) why)

-- a run that did no statement, and wrote nothing
opens-none : (n : ℕ) (sink sink' : Option (List ℕ)) (told told' : Option Store) → (n ≡ 4 → ⊥) → (n ≡ 6 → ⊥) → (n ≡ 9 → ⊥) → (n ≡ 0 → ⊥) → (n ≡ 1 → ⊥)
    → IsTrue (is_one_of (0 ∷ 1 ∷ 4 ∷ 5 ∷ 6 ∷ 7 ∷ 9 ∷ []) n) → Opens sink sink' told told' n
opens-none n sink sink' told told' four six nine not_zero not_one only = record {
  bad = λ e. absurd (six e);
  full = λ e. absurd (nine e);
  cut = λ e. absurd (four e);
  opened = none-of-two n not_zero not_one _;
  only = only;
}

pub opens-store : (status : ℕ) (sink sink' : Option (List ℕ)) (told told' : Option Store) → status ≡ 5 → Opens sink sink' told told' status
opens-store status sink sink' told told' is =
    subst (Opens sink sink' told told') (sym is)
    (opens-none 5 sink sink' told told' (λ e. omega (arith, e)) (λ e. omega (arith, e)) (λ e. omega (arith, e)) (λ e. omega (arith, e)) (λ e. omega (arith, e)) refl)

pub opens-memory : (status : ℕ) (sink sink' : Option (List ℕ)) (told told' : Option Store) → status ≡ 7 → Opens sink sink' told told' status
opens-memory status sink sink' told told' is =
    subst (Opens sink sink' told told') (sym is)
    (opens-none 7 sink sink' told told' (λ e. omega (arith, e)) (λ e. omega (arith, e)) (λ e. omega (arith, e)) (λ e. omega (arith, e)) (λ e. omega (arith, e)) refl)

-- ---- a journal that is bad, and one that is full

pub full-found : (told told' : Option Store) (why : BootFault) (entries : ℕ) → why ≡ boot.Full entries → IsBootFault profile told told' why
    → (told' ≡ told) × Tells told (λ s. IsFullAt profile entries s.journal) × Tells told (HasFullBook profile)
full-found told told' why entries is h = subst (IsBootFault profile told told') is h

pub bad-found : (told told' : Option Store) (why : BootFault) (at : ℕ) → why ≡ boot.BadJournal at → IsBootFault profile told told' why
    → (told' ≡ told) × Tells told (λ s. IsBadJournalAt profile s.journal at) × Tells told (HasNoBook profile)
bad-found told told' why at is h = subst (IsBootFault profile told told') is h

module _ (sink sink' : Option (List ℕ)) (told told' : Option Store) where
  -- its line was written
  opens-six : IsClosed Gains sink sink' told told' → Opens sink sink' told told' 6
  opens-six closed = record {
    bad = λ e. closed;
    full = λ e. absurd (omega (arith, e));
    cut = λ e. absurd (omega (arith, e));
    opened = none-of-two 6 (λ e. omega (arith, e)) (λ e. omega (arith, e)) _;
    only = refl;
  }

  opens-nine : IsFilled Gains sink sink' told told' → Opens sink sink' told told' 9
  opens-nine filled = record {
    bad = λ e. absurd (omega (arith, e));
    full = λ e. filled;
    cut = λ e. absurd (omega (arith, e));
    opened = none-of-two 9 (λ e. omega (arith, e)) (λ e. omega (arith, e)) _;
    only = refl;
  }

  -- a front of it was
  opens-cut : IsClosed GainsPart sink sink' told told' ⊎ IsFilled GainsPart sink sink' told told' ⊎ Tells told (CanOpen profile) → Opens sink sink' told told' 4
  opens-cut cut = record {
    bad = λ e. absurd (omega (arith, e));
    full = λ e. absurd (omega (arith, e));
    cut = λ e. cut;
    opened = none-of-two 4 (λ e. omega (arith, e)) (λ e. omega (arith, e)) _;
    only = refl;
  }

  pub opens-bad : (faults faults' status at : ℕ) (why : BootFault) → why ≡ boot.BadJournal at → IsBootFault profile told told' why
      → IsSaidOrNot 6 (journal_line at) (from_to sink sink') (from_to faults faults') status → Opens sink sink' told told' status
  opens-bad faults faults' status at why is fault said = by said
    where
      found : (told' ≡ told) × Tells told (λ s. IsBadJournalAt profile s.journal at) × Tells told (HasNoBook profile)
      found = bad-found told told' why at is fault

      by : IsSaidOrNot 6 (journal_line at) (from_to sink sink') (from_to faults faults') status → Opens sink sink' told told' status
      by (inl (inl whole)) =
          subst (Opens sink sink' told told') (sym whole.0)
          (opens-six (record { at = at; journal = found.1; shut = found.2; same = found.0; wrote = whole.1.wrote }))
      by (inl (inr cut)) =
          subst (Opens sink sink' told told') (sym cut.0)
          (opens-cut (inl (record { at = at; journal = found.1; shut = found.2; same = found.0; wrote = cut.1.wrote })))
      by (inr unsaid) = opens-memory status sink sink' told told' unsaid.0

  pub opens-full : (faults faults' status entries : ℕ) (why : BootFault) → why ≡ boot.Full entries → IsBootFault profile told told' why
      → IsSaid 9 full_line (from_to sink sink') (from_to faults faults') status → Opens sink sink' told told' status
  opens-full faults faults' status entries why is fault said = by said
    where
      found : (told' ≡ told) × Tells told (λ s. IsFullAt profile entries s.journal) × Tells told (HasFullBook profile)
      found = full-found told told' why entries is fault

      by : IsSaid 9 full_line (from_to sink sink') (from_to faults faults') status → Opens sink sink' told told' status
      by (inl whole) =
          subst (Opens sink sink' told told') (sym whole.0)
          (opens-nine (record { entries = entries; journal = found.1; shut = found.2; same = found.0; wrote = whole.1.wrote }))
      by (inr cut) =
          subst (Opens sink sink' told told') (sym cut.0)
          (opens-cut (inr (inl (record { entries = entries; journal = found.1; shut = found.2; same = found.0; wrote = cut.1.wrote }))))

-- ---- the whole

module _ (words : List (List ℕ)) (before after : Outside) where
  some-not-none : IsSome (run_of words) → run_of words ≡ None → (Goal : Type 0) → Goal
  some-not-none some none Goal = absurd (by (run_of words) some none)
    where
      by : (o : Option Command) → IsSome o → o ≡ None → ⊥
      by None is e = cc
      by (Some command) is e = cc

  none-not-some : run_of words ≡ None → IsSome (run_of words) → (Goal : Type 0) → Goal
  none-not-some none some Goal = some-not-none some none Goal

  -- words that are no command
  refuses-two : run_of words ≡ None → IsBadWords Gains words before after → Refuses words before after 2
  refuses-two none bad = record {
    bad_words = λ e. bad;
    bad_journal = λ e. absurd (omega (arith, e));
    refused_script = λ e. absurd (omega (arith, e));
    at_words = λ e. refl;
    at_script = λ some. none-not-some none some _;
    at_journal = none-of-two 2 (λ e. omega (arith, e)) (λ e. omega (arith, e)) _;
    full_journal = λ e. absurd (omega (arith, e));
    source_failed = λ e. absurd (omega (arith, e));
    sink_failed = λ e. absurd (omega (arith, e));
    only = refl;
  }

  refuses-four : run_of words ≡ None → IsBadWords GainsPart words before after → Refuses words before after 4
  refuses-four none bad = record {
    bad_words = λ e. absurd (omega (arith, e));
    bad_journal = λ e. absurd (omega (arith, e));
    refused_script = λ e. absurd (omega (arith, e));
    at_words = λ e. refl;
    at_script = λ some. none-not-some none some _;
    at_journal = none-of-two 4 (λ e. omega (arith, e)) (λ e. omega (arith, e)) _;
    full_journal = λ e. absurd (omega (arith, e));
    source_failed = λ e. absurd (omega (arith, e));
    sink_failed = λ e. inl (inl bad);
    only = refl;
  }

  pub refuses-words : (status : ℕ) → run_of words ≡ None → after.source ≡ before.source → after.store ≡ before.store
      → (faults faults' : ℕ) → IsSaid 2 words_line (from_to before.sink after.sink) (from_to faults faults') status → Refuses words before after status
  refuses-words status none source store faults faults' (inl said) =
      subst (Refuses words before after) (sym said.0)
      (refuses-two none (record { words_are = none; source_same = source; says = record { wrote = said.1.wrote; store_same = store } }))
  refuses-words status none source store faults faults' (inr cut) =
      subst (Refuses words before after) (sym cut.0)
      (refuses-four none (record { words_are = none; source_same = source; says = record { wrote = cut.1.wrote; store_same = store } }))

  -- a device failed, or memory ran out, before the store was opened
  all-lines : (n : ℕ) → IsTrue (is_one_of (3 ∷ 4 ∷ 7 ∷ 8 ∷ []) n) → (source : Option (List ℕ))
      → Tells source (λ script. (line : ℕ) → refused_at script ≡ Some line → IsTrue (is_one_of (3 ∷ 4 ∷ 7 ∷ 8 ∷ []) n))
  all-lines n h None = tt
  all-lines n h (Some script) = λ line e. h

  refuses-quiet : (n : ℕ) → IsSome (run_of words) → (n ≡ 0 → ⊥) → (n ≡ 1 → ⊥) → (n ≡ 2 → ⊥) → (n ≡ 6 → ⊥) → (n ≡ 8 → ⊥) → (n ≡ 9 → ⊥)
      → IsTrue (is_one_of (3 ∷ 4 ∷ 7 ∷ 8 ∷ []) n)
      → (n ≡ 3 → DoesNothing before after) → (n ≡ 4 → CutsLine words before after ⊎ IsServing words before)
      → IsTrue (is_one_of (0 ∷ 1 ∷ 2 ∷ 3 ∷ 4 ∷ 5 ∷ 6 ∷ 7 ∷ 8 ∷ 9 ∷ []) n) → Refuses words before after n
  refuses-quiet n some not_zero not_one two six eight nine lines three four all = record {
    bad_words = λ e. absurd (two e);
    bad_journal = λ e. absurd (six e);
    refused_script = λ e. absurd (eight e);
    at_words = λ none. some-not-none some none _;
    at_script = λ is. all-lines n lines before.source;
    at_journal = none-of-two n not_zero not_one _;
    full_journal = λ e. absurd (nine e);
    source_failed = three;
    sink_failed = four;
    only = all;
  }

  refuses-three : IsSome (run_of words) → DoesNothing before after → Refuses words before after 3
  refuses-three some nothing = refuses-quiet 3 some (λ e. omega (arith, e)) (λ e. omega (arith, e)) (λ e. omega (arith, e)) (λ e. omega (arith, e)) (λ e. omega (arith, e)) (λ e. omega (arith, e)) refl (λ e. nothing) (λ e. absurd (omega (arith, e))) refl

  refuses-sink : IsSome (run_of words) → CutsLine words before after → Refuses words before after 4
  refuses-sink some cut = refuses-quiet 4 some (λ e. omega (arith, e)) (λ e. omega (arith, e)) (λ e. omega (arith, e)) (λ e. omega (arith, e)) (λ e. omega (arith, e)) (λ e. omega (arith, e)) refl (λ e. absurd (omega (arith, e))) (λ e. inl cut) refl

  refuses-seven : IsSome (run_of words) → Refuses words before after 7
  refuses-seven some = refuses-quiet 7 some (λ e. omega (arith, e)) (λ e. omega (arith, e)) (λ e. omega (arith, e)) (λ e. omega (arith, e)) (λ e. omega (arith, e)) (λ e. omega (arith, e)) refl (λ e. absurd (omega (arith, e))) (λ e. absurd (omega (arith, e))) refl

  pub refuses-memory : (status : ℕ) → IsSome (run_of words) → status ≡ 7 → Refuses words before after status
  refuses-memory status some e = subst (Refuses words before after) (sym e) (refuses-seven some)

  pub refuses-read : (status : ℕ) (why : Stop) → IsSome (run_of words) → status ≡ status_of_stop why
      → after.sink ≡ before.sink → after.store ≡ before.store
      → IsTrue (is_one_of (3 ∷ 7 ∷ []) (status_of_stop why)) → Refuses words before after status
  refuses-read status stop.Source some e sink store h =
      subst (Refuses words before after) (sym e) (refuses-three some (record { sink_same = sink; store_same = store }))
  refuses-read status stop.Sink some e sink store h = cc
  refuses-read status stop.Store some e sink store h = cc
  refuses-read status stop.NoMemory some e sink store h = refuses-memory status some e

  -- a script that is refused
  refuses-eight : IsRefusedScript Gains words before after → Refuses words before after 8
  refuses-eight refused = record {
    bad_words = λ e. absurd (omega (arith, e));
    bad_journal = λ e. absurd (omega (arith, e));
    refused_script = λ e. refused;
    at_words = λ none. some-not-none refused.words_are none _;
    at_script = λ is. all-lines 8 refl before.source;
    at_journal = none-of-two 8 (λ e. omega (arith, e)) (λ e. omega (arith, e)) _;
    full_journal = λ e. absurd (omega (arith, e));
    source_failed = λ e. absurd (omega (arith, e));
    sink_failed = λ e. absurd (omega (arith, e));
    only = refl;
  }

  pub refuses-script : (status line : ℕ) → IsSome (run_of words) → Tells before.source (λ script. refused_at script ≡ Some line)
      → after.store ≡ before.store → (faults faults' : ℕ) → IsSaidOrNot 8 (script_line line) (from_to before.sink after.sink) (from_to faults faults') status → Refuses words before after status
  refuses-script status line some refused store faults faults' (inl (inl said)) =
      subst (Refuses words before after) (sym said.0)
      (refuses-eight (record { words_are = some; line = line; refused = refused; says = record { wrote = said.1.wrote; store_same = store } }))
  refuses-script status line some refused store faults faults' (inl (inr cut)) =
      subst (Refuses words before after) (sym cut.0)
      (refuses-sink some (inr (inl (record { words_are = some; line = line; refused = refused; says = record { wrote = cut.1.wrote; store_same = store } }))))
  refuses-script status line some refused store faults faults' (inr unsaid) = refuses-memory status some unsaid.0

  -- a script that is served
  wider : (n : ℕ) → IsTrue (is_one_of (0 ∷ 1 ∷ 4 ∷ 5 ∷ 6 ∷ 7 ∷ 9 ∷ []) n) → IsTrue (is_one_of (0 ∷ 1 ∷ 2 ∷ 3 ∷ 4 ∷ 5 ∷ 6 ∷ 7 ∷ 8 ∷ 9 ∷ []) n)
  wider n h = keep (0 == n) (is_one_of (1 ∷ 4 ∷ 5 ∷ 6 ∷ 7 ∷ 9 ∷ []) n) (is_one_of (1 ∷ 2 ∷ 3 ∷ 4 ∷ 5 ∷ 6 ∷ 7 ∷ 8 ∷ 9 ∷ []) n) (λ h0. keep (1 == n) (is_one_of (4 ∷ 5 ∷ 6 ∷ 7 ∷ 9 ∷ []) n) (is_one_of (2 ∷ 3 ∷ 4 ∷ 5 ∷ 6 ∷ 7 ∷ 8 ∷ 9 ∷ []) n) (λ h1. more (2 == n) (is_one_of (3 ∷ 4 ∷ 5 ∷ 6 ∷ 7 ∷ 8 ∷ 9 ∷ []) n) (more (3 == n) (is_one_of (4 ∷ 5 ∷ 6 ∷ 7 ∷ 8 ∷ 9 ∷ []) n) (keep (4 == n) (is_one_of (5 ∷ 6 ∷ 7 ∷ 9 ∷ []) n) (is_one_of (5 ∷ 6 ∷ 7 ∷ 8 ∷ 9 ∷ []) n) (λ h4. keep (5 == n) (is_one_of (6 ∷ 7 ∷ 9 ∷ []) n) (is_one_of (6 ∷ 7 ∷ 8 ∷ 9 ∷ []) n) (λ h5. keep (6 == n) (is_one_of (7 ∷ 9 ∷ []) n) (is_one_of (7 ∷ 8 ∷ 9 ∷ []) n) (λ h6. keep (7 == n) (is_one_of (9 ∷ []) n) (is_one_of (8 ∷ 9 ∷ []) n) (λ h7. more (8 == n) (is_one_of (9 ∷ []) n) (keep (9 == n) false false (λ h9. h9) h7)) h6) h5) h4) h1))) h0) h

  -- a line in place of the replies was cut, or the actions were done
  cut-line : IsSome (run_of words) → Tells before.source (λ script. refused_at script ≡ None)
      → IsClosed GainsPart before.sink after.sink before.store after.store ⊎ IsFilled GainsPart before.sink after.sink before.store after.store ⊎ Tells before.store (CanOpen profile)
      → CutsLine words before after ⊎ IsServing words before
  cut-line some fine (inl closed) = inl (inr (inr (inl (record {
    words_are = some;
    unrefused = fine;
    at = closed.at;
    journal = closed.journal;
    shut = closed.shut;
    says = record { wrote = closed.wrote; store_same = closed.same };
  }))))
  cut-line some fine (inr (inl filled)) = inl (inr (inr (inr (record {
    words_are = some;
    unrefused = fine;
    entries = filled.entries;
    journal = filled.journal;
    shut = filled.shut;
    says = record { wrote = filled.wrote; store_same = filled.same };
  }))))
  cut-line some fine (inr (inr opens)) = inr (record { words_are = some; unrefused = fine; opens = opens })

  pub refuses-served : (status : ℕ) → IsSome (run_of words) → Tells before.source (λ script. refused_at script ≡ None)
      → Opens before.sink after.sink before.store after.store status → Refuses words before after status
  refuses-served status some fine opens = record {
    bad_words = λ e. absurd (let wrong : IsTrue (is_one_of (0 ∷ 1 ∷ 4 ∷ 5 ∷ 6 ∷ 7 ∷ 9 ∷ []) 2) = subst (λ (n : ℕ). IsTrue (is_one_of (0 ∷ 1 ∷ 4 ∷ 5 ∷ 6 ∷ 7 ∷ 9 ∷ []) n)) e opens.only in cc);
    bad_journal = λ e. let closed = opens.bad e in record {
      words_are = some;
      unrefused = fine;
      at = closed.at;
      journal = closed.journal;
      shut = closed.shut;
      says = record { wrote = closed.wrote; store_same = closed.same };
    };
    refused_script = λ e. absurd (let wrong : IsTrue (is_one_of (0 ∷ 1 ∷ 4 ∷ 5 ∷ 6 ∷ 7 ∷ 9 ∷ []) 8) = subst (λ (n : ℕ). IsTrue (is_one_of (0 ∷ 1 ∷ 4 ∷ 5 ∷ 6 ∷ 7 ∷ 9 ∷ []) n)) e opens.only in cc);
    at_words = λ none. some-not-none some none _;
    at_script = λ is. tells-then (λ script. refused_at script ≡ None)
        (λ script. (line : ℕ) → refused_at script ≡ Some line → IsTrue (is_one_of (3 ∷ 4 ∷ 7 ∷ 8 ∷ []) status))
        before.source (λ script none line e. absurd (let no_line : None ≡ Some line = sym none ∙ e in cc)) fine;
    at_journal = opens.opened;
    full_journal = λ e. let filled = opens.full e in record {
      words_are = some;
      unrefused = fine;
      entries = filled.entries;
      journal = filled.journal;
      shut = filled.shut;
      says = record { wrote = filled.wrote; store_same = filled.same };
    };
    source_failed = λ e. absurd (let wrong : IsTrue (is_one_of (0 ∷ 1 ∷ 4 ∷ 5 ∷ 6 ∷ 7 ∷ 9 ∷ []) 3) = subst (λ (n : ℕ). IsTrue (is_one_of (0 ∷ 1 ∷ 4 ∷ 5 ∷ 6 ∷ 7 ∷ 9 ∷ []) n)) e opens.only in cc);
    sink_failed = λ e. cut-line some fine (opens.cut e);
    only = wider status opens.only;
  }

-- ---- what was read of a script tells whether it is refused

limit-by : (b : Bool) (line other : ℕ) → b ≡ true → line ≡ other → cond b (Some line) None ≡ Some other
limit-by true line other e same = ap Some same
limit-by false line other e same = cc

long-limit : (script : List ℕ) → 16777217 ≤ length script → limit_line script ≡ Some (line_at 16777216 script)
long-limit script long = limit-by (nat_lt 16777216 (length script)) (line_at 16777216 script) (line_at 16777216 script) (lt-ltb 16777216 (length script) (omega arith)) refl

refused-front : (bytes left : List ℕ) → 16777217 ≤ length bytes → refused_at (bytes ++ left) ≡ refused_at bytes
refused-front bytes left long =
    let same : front (bytes ++ left) ≡ front bytes = take-append-le 16777216 bytes left (omega arith) in
    let more_long : 16777217 ≤ length (bytes ++ left) = omega (arith, length-append bytes left) in
    let limit : limit_line (bytes ++ left) ≡ limit_line bytes =
    long-limit (bytes ++ left) more_long
    ∙ ap (λ (t : List ℕ). Some (1 + count_by (λ b. b == 10) t)) same ∙ sym (long-limit bytes long) in
    ap (λ (o : Option ℕ). earlier (earlier (broken_line (front (bytes ++ left))) o) (least (fault_lines first_standing (items_of (front (bytes ++ left)))))) limit
    ∙ ap (λ (t : List ℕ). earlier (earlier (broken_line t) (limit_line bytes)) (least (fault_lines first_standing (items_of t)))) same

refused-same : (bytes script left : List ℕ) → TakesUpTo 16777217 bytes script left → refused_at script ≡ refused_at bytes
refused-same bytes script left takes = by (nat_lt (length bytes) 16777217) refl
  where
    by : (b : Bool) → nat_lt (length bytes) 16777217 ≡ b → refused_at script ≡ refused_at bytes
    by true e =
        let at_end : left ≡ [] = takes.ended (ltb-true (length bytes) 16777217 e) in
        ap refused_at (takes.taken ∙ ap (λ (t : List ℕ). bytes ++ t) at_end ∙ append-nil bytes)
    by false e = ap refused_at takes.taken ∙ refused-front bytes left (ltb-false (length bytes) 16777217 e)

pub tells-refused : (bytes given : List ℕ) (line : Option ℕ) (source source' : Option (List ℕ)) → given ≡ bytes
    → Moves (TakesUpTo 16777217 bytes) source source' → refused_at given ≡ line → Tells source (λ script. refused_at script ≡ line)
tells-refused bytes given line None source' same read e = tt
tells-refused bytes given line (Some script) None same read e = absurd read
tells-refused bytes given line (Some script) (Some left) same read e = refused-same bytes script left read ∙ ap refused_at (sym same) ∙ e

-- ---- the words

pub no-command : (result o : Option Command) (b : Bool) → result ≡ o → is_some result ≡ not b → b ≡ true → o ≡ None
no-command None o b same e true_ = sym same
no-command (Some command) o b same e true_ = let wrong : true ≡ false = e ∙ ap not true_ in cc

pub a-command : (result o : Option Command) (b : Bool) → result ≡ o → is_some result ≡ not b → b ≡ false → IsSome o
a-command None o b same e false_ = let wrong : false ≡ true = e ∙ ap not false_ in cc
a-command (Some command) o b same e false_ = subst IsSome same refl

pub said-words : (sink sink' : Option (List ℕ)) (faults faults' status : ℕ) → IsSaid 2 (codes "hive: bad words\n") (from_to sink sink') (from_to faults faults') status
    → IsSaid 2 words_line (from_to sink sink') (from_to faults faults') status
unfolding words_line
said-words sink sink' faults faults' status said = said

pub refused-line : (script : List ℕ) (actions : List Action) (fault : ScriptFault) (line : ℕ) → fault ≡ Refused line
    → IsReading (refused_at script) actions (Err fault) → refused_at script ≡ Some line
refused-line script actions fault line is reading = subst (λ (f : ScriptFault). IsReading (refused_at script) actions (Err f)) is reading

pub said-line : (wanted : ℕ) (line written : List ℕ) (sink sink' : Option (List ℕ)) (faults faults' status : ℕ) → written ≡ line
    → IsSaid wanted written (from_to sink sink') (from_to faults faults') status → IsSaidOrNot wanted line (from_to sink sink') (from_to faults faults') status
said-line wanted line written sink sink' faults faults' status same said =
    inl (subst (λ (bytes : List ℕ). IsSaid wanted bytes (from_to sink sink') (from_to faults faults') status) same said)
