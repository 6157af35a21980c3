-- Why a run ends with a fault, and that it ends well where there is none.
use Rattle.std.proofs.Common.{◌≡◌, ◌⊎◌, ℕ, ◌≤◌, ◌==◌, ◌||◌, Bool, false, true, IsTrue, IsSome, Result, Ok, Err, IfErr, IsErrAnd, Option, Some, None, List, [], ◌∷◌, refl, sym, ap, ◌∙◌, subst, arith, inl, inr}
use Rattle.std.proofs.lemmas.Bool.{eqb-true}
use Rattle.hv_base.specs.Faults.{Rose}
use Rattle.hv_shelf.specs.Disk.{Store}
use Rattle.hv_script.specs.Words.{run_of}
use Rattle.hv_script.specs.Actions.{refused_at}
use Rattle.hv_script.specs.declared.words.Command.{Command}
use Rattle.hv_history.specs.Legal.{profile}
use Rattle.hv_session.specs.hv_beginning.specs.hv_steps.specs.hv_table_reader.specs.hv_acts.specs.declared.told.ToldHouse.{ToldHouse}
use Rattle.hv_session.specs.hv_beginning.specs.hv_steps.specs.hv_table_reader.specs.hv_acts.specs.Told.{seen_in}
use Rattle.hv_session.specs.hv_beginning.specs.hv_steps.specs.hv_table_reader.specs.hv_acts.specs.hv_telling.specs.hv_house.specs.declared.house.House.{House}
use Rattle.hv_session.specs.hv_beginning.specs.hv_steps.specs.hv_table_reader.specs.hv_acts.specs.hv_telling.specs.hv_house.specs.declared.fault.HouseFault.{HouseFault}
use Rattle.hv_session.specs.hv_beginning.specs.hv_steps.specs.hv_table_reader.specs.hv_acts.specs.hv_telling.specs.hv_house.specs.Faults.{EndsRun}
use Rattle.hv_session.specs.hv_beginning.specs.hv_steps.specs.hv_table_reader.specs.hv_acts.specs.hv_telling.specs.hv_house.specs.Housed.{ShutsHard}
use Rattle.hv_session.specs.hv_beginning.specs.hv_steps.specs.hv_table_reader.specs.hv_acts.specs.hv_telling.specs.hv_house.specs.Steps.{IsOpenedOver}
use Rattle.hv_session.specs.hv_beginning.specs.hv_steps.specs.hv_table_reader.specs.hv_acts.specs.hv_telling.specs.hv_house.specs.Booting.{IsBootStore, CanOpen}
use Rattle.hv_session.specs.hv_beginning.specs.hv_steps.specs.hv_table_reader.specs.hv_acts.specs.hv_telling.specs.hv_house.specs.declared.boot.BootFault.{BootFault}
use Rattle.hv_session.specs.hv_beginning.specs.hv_steps.specs.hv_table_reader.specs.hv_acts.specs.hv_telling.specs.hv_house.specs.declared.boot.BootFault.TheVariants as boot
use Rattle.hv_program.specs.declared.stop.Stop.{Stop}
use Rattle.hv_program.specs.declared.stop.Stop.TheVariants as stop
use Rattle.hv_session.specs.hv_beginning.specs.hv_steps.specs.hv_table_reader.specs.hv_acts.specs.hv_telling.specs.hv_house.specs.declared.fault.HouseFault.TheVariants as fault
use Rattle.hv_program.specs.Stops.{stop_of, status_of_stop, Blames, IsShutFor, ShutsFor}
use Rattle.hv_program.specs.Headline.{Outside}
use Rattle.hv_program.specs.Refused.{is_one_of, Refuses}
use Rattle.hv_program.specs.Serving.{ran_status, BlamesOf, IsSaid, IsSaidOrNot}
use Rattle.hv_program.specs.Causes.{Counts, FailsStore, HasCauses, IsFaultless, Completes}
use Rattle.hv_program.specs.Change.{Change, from_to}
use Rattle.hv_program.proofs.Refusing.{keep, split}

-- ---- a count that rose

pub Rose-later : (a b c : ℕ) → a ≤ b → Rose b c → Rose a c
Rose-later a b c le rose = omega (arith, le, rose)

-- ---- the actions of a script

pub passed_up : {T E : Type 0} (r : Result T E) (e : E) (P : E → Type 0) → IsErrAnd r (λ y. y ≡ e) → P e → IfErr r P
passed_up (Ok x) e P is p = tt
passed_up (Err d) e P is p = subst P (sym is) p

-- ---- serving

blames-none : (n sink sink' store store' : ℕ) → (n ≡ 4 → ⊥) → (n ≡ 5 → ⊥) → BlamesOf n sink sink' store store'
blames-none n sink sink' store store' four five = record { sink_failed = λ e. absurd (four e); store_failed = λ e. absurd (five e) }

blames-ran : (ran : Result Bool Stop) (sink sink' store store' : ℕ) → IfErr ran (λ why. Blames why sink sink' store store')
    → BlamesOf (ran_status ran) sink sink' store store'
blames-ran (Ok false) sink sink' store store' h = blames-none 0 sink sink' store store' (λ e. omega (arith, e)) (λ e. omega (arith, e))
blames-ran (Ok true) sink sink' store store' h = blames-none 1 sink sink' store store' (λ e. omega (arith, e)) (λ e. omega (arith, e))
blames-ran (Err stop.Source) sink sink' store store' h = absurd h
blames-ran (Err stop.Sink) sink sink' store store' h = record { sink_failed = λ e. h; store_failed = λ e. absurd (omega (arith, e)) }
blames-ran (Err stop.Store) sink sink' store store' h = record { sink_failed = λ e. absurd (omega (arith, e)); store_failed = λ e. h }
blames-ran (Err stop.NoMemory) sink sink' store store' h = blames-none 7 sink sink' store store' (λ e. omega (arith, e)) (λ e. omega (arith, e))

pub blames-run : (ran : Result Bool Stop) (status sink sink' first store store' closed : ℕ) → status ≡ ran_status ran → first ≤ store → closed ≡ store'
    → IfErr ran (λ why. Blames why sink sink' store store') → BlamesOf status sink sink' first closed
blames-run ran status sink sink' first store store' closed is le same h =
    let there : BlamesOf status sink sink' store store' = subst (λ n. BlamesOf n sink sink' store store') (sym is) (blames-ran ran sink sink' store store' h) in
    record { sink_failed = there.sink_failed; store_failed = λ e. subst (Rose first) (sym same) (Rose-later first store store' le (there.store_failed e)) }

pub blames-store : (status sink store store' : ℕ) (why : BootFault) → status ≡ 5 → why ≡ boot.Store → (IsBootStore why → Rose store store') → BlamesOf status sink sink store store'
blames-store status sink store store' why is same rose = record { sink_failed = λ e. absurd (omega (arith, is, e)); store_failed = λ e. rose (subst IsBootStore (sym same) tt) }

pub blames-memory : (status sink store store' : ℕ) → status ≡ 7 → BlamesOf status sink sink store store'
blames-memory status sink store store' is = blames-none status sink sink store store' (λ e. omega (arith, is, e)) (λ e. omega (arith, is, e))

-- ---- the hard count

-- an action stopped the run
pub shut-passed : {D : Type 0} (now : ToldHouse D) (why : HouseFault) (r : Result Bool Stop) → IsErrAnd r (λ e. e ≡ stop_of why) → EndsRun why → IsShutFor now why
    → IfErr r (ShutsFor now)
shut-passed now fault.Store r err ends shut = passed_up r stop.Store (ShutsFor now) err shut
shut-passed now fault.NoMemory r err ends shut = passed_up r stop.NoMemory (ShutsFor now) err tt
shut-passed now (fault.Failed count) r err ends shut = absurd ends

hard-ran : {D : Type 0} (hard : D → ℕ) (now : ToldHouse D) (ran : Result Bool Stop) → IfErr ran (ShutsFor now) → ShutsHard hard (seen_in now) → ran_status ran ≡ 5
    → Rose (hard now.house.start.value) (hard now.house.shelf)
hard-ran hard now (Ok false) shut kept e = let never : 0 ≡ 5 = e in absurd (omega (arith, never))
hard-ran hard now (Ok true) shut kept e = let never : 1 ≡ 5 = e in absurd (omega (arith, never))
hard-ran hard now (Err stop.Source) shut kept e = let never : 3 ≡ 5 = e in absurd (omega (arith, never))
hard-ran hard now (Err stop.Sink) shut kept e = let never : 4 ≡ 5 = e in absurd (omega (arith, never))
hard-ran hard now (Err stop.Store) shut kept e = kept.rose shut.0 shut.1
hard-ran hard now (Err stop.NoMemory) shut kept e = let never : 7 ≡ 5 = e in absurd (omega (arith, never))

pub hard-run : {D : Type 0} (hard : D → ℕ) (shelf : D) (house : House D) (now : ToldHouse D) (ran : Result Bool Stop) (status last : ℕ) → status ≡ ran_status ran
    → last ≡ hard now.house.shelf → IsOpenedOver shelf house → now.house.start ≡ house.start → IfErr ran (ShutsFor now) → ShutsHard hard (seen_in now)
    → status ≡ 5 → Rose (hard shelf) last
hard-run {D = D} hard shelf house now ran status last status_is last_is over start shut kept e =
    let opened : now.house.start.value ≡ shelf = ap (λ s. s.value) start ∙ over.start in
    subst (Rose (hard shelf)) (sym last_is)
    (subst (λ (d : D). Rose (hard d) (hard now.house.shelf)) opened (hard-ran hard now ran shut kept (sym status_is ∙ e)))

-- an opening did
pub hard-store : (status first last : ℕ) (told told' : Option Store) (why : BootFault) → why ≡ boot.Store
    → (IsBootStore why → FailsStore first last (from_to told told')) → status ≡ 5 → FailsStore first last (from_to told told')
hard-store status first last told told' why same fails e = fails (subst IsBootStore (sym same) tt)

pub hard-memory : (status first last : ℕ) (told told' : Option Store) → status ≡ 7 → status ≡ 5 → FailsStore first last (from_to told told')
hard-memory status first last told told' is e = absurd (omega (arith, is, e))

pub hard-said : (status wanted first last : ℕ) (told told' : Option Store) (line : List ℕ) (a b : Option (List ℕ)) (sink sink' : ℕ) → (wanted ≡ 5 → ⊥)
    → IsSaid wanted line (from_to a b) (from_to sink sink') status → status ≡ 5 → FailsStore first last (from_to told told')
hard-said status wanted first last told told' line a b sink sink' not_it (inl said) e = absurd (not_it (sym said.0 ∙ e))
hard-said status wanted first last told told' line a b sink sink' not_it (inr cut) e = absurd (omega (arith, cut.0, e))

pub hard-said-or-not : (status wanted first last : ℕ) (told told' : Option Store) (line : List ℕ) (a b : Option (List ℕ)) (sink sink' : ℕ) → (wanted ≡ 5 → ⊥)
    → IsSaidOrNot wanted line (from_to a b) (from_to sink sink') status → status ≡ 5 → FailsStore first last (from_to told told')
hard-said-or-not status wanted first last told told' line a b sink sink' not_it (inl said) e =
    hard-said status wanted first last told told' line a b sink sink' not_it said e
hard-said-or-not status wanted first last told told' line a b sink sink' not_it (inr unsaid) e = absurd (omega (arith, unsaid.0, e))

-- ---- the whole

causes-none : (before now : Counts) (stores : Change (Option Store)) (n : ℕ) → (n ≡ 3 → ⊥) → (n ≡ 4 → ⊥) → (n ≡ 5 → ⊥) → HasCauses before now stores n
causes-none before now stores n three four five = record { source = λ e. absurd (three e); sink = λ e. absurd (four e); store = λ e. absurd (five e); hard = λ e. absurd (five e) }

causes-cut : (before now : Counts) (stores : Change (Option Store)) (n : ℕ) → n ≡ 4 → Rose before.sink now.sink → HasCauses before now stores n
causes-cut before now stores n is rose = record {
  source = λ e. absurd (omega (arith, is, e));
  sink = λ e. rose;
  store = λ e. absurd (omega (arith, is, e));
  hard = λ e. absurd (omega (arith, is, e));
}

pub causes-said : (before now : Counts) (stores : Change (Option Store)) (status wanted : ℕ) (line : List ℕ) (a b : Option (List ℕ)) → (wanted ≡ 3 → ⊥) → (wanted ≡ 4 → ⊥) → (wanted ≡ 5 → ⊥)
    → IsSaid wanted line (from_to a b) (from_to before.sink now.sink) status → HasCauses before now stores status
causes-said before now stores status wanted line a b three four five (inl said) =
    causes-none before now stores status (λ e. three (sym said.0 ∙ e)) (λ e. four (sym said.0 ∙ e)) (λ e. five (sym said.0 ∙ e))
causes-said before now stores status wanted line a b three four five (inr cut) = causes-cut before now stores status cut.0 cut.1.cause

pub causes-memory : (before now : Counts) (stores : Change (Option Store)) (status : ℕ) → status ≡ 7 → HasCauses before now stores status
causes-memory before now stores status is = causes-none before now stores status (λ e. omega (arith, is, e)) (λ e. omega (arith, is, e)) (λ e. omega (arith, is, e))

pub causes-words : (before now : Counts) (stores : Change (Option Store)) (status : ℕ) (line : List ℕ) (a b : Option (List ℕ)) → IsSaid 2 line (from_to a b) (from_to before.sink now.sink) status → HasCauses before now stores status
causes-words before now stores status line a b said = causes-said before now stores status 2 line a b (λ e. omega (arith, e)) (λ e. omega (arith, e)) (λ e. omega (arith, e)) said

pub causes-script : (before now : Counts) (stores : Change (Option Store)) (status : ℕ) (line : List ℕ) (a b : Option (List ℕ)) → IsSaidOrNot 8 line (from_to a b) (from_to before.sink now.sink) status → HasCauses before now stores status
causes-script before now stores status line a b (inl said) = causes-said before now stores status 8 line a b (λ e. omega (arith, e)) (λ e. omega (arith, e)) (λ e. omega (arith, e)) said
causes-script before now stores status line a b (inr unsaid) = causes-memory before now stores status unsaid.0

pub causes-read : (before now : Counts) (stores : Change (Option Store)) (status : ℕ) (why : Stop) → status ≡ status_of_stop why → IsTrue (is_one_of (3 ∷ 7 ∷ []) (status_of_stop why))
    → (why ≡ stop.Source → Rose before.source now.source) → HasCauses before now stores status
causes-read before now stores status stop.Source is h rose = record {
  source = λ e. rose refl;
  sink = λ e. absurd (omega (arith, is, e));
  store = λ e. absurd (omega (arith, is, e));
  hard = λ e. absurd (omega (arith, is, e));
}
causes-read before now stores status stop.Sink is h rose = cc
causes-read before now stores status stop.Store is h rose = cc
causes-read before now stores status stop.NoMemory is h rose = causes-memory before now stores status is

pub causes-served : (before now : Counts) (told told' : Option Store) (status : ℕ) → IsTrue (is_one_of (0 ∷ 1 ∷ 4 ∷ 5 ∷ 6 ∷ 7 ∷ 9 ∷ []) status)
    → BlamesOf status before.sink now.sink before.store now.store
    → (status ≡ 5 → FailsStore before.hard now.hard (from_to told told')) → HasCauses before now (from_to told told') status
causes-served before now told told' status only h hard = record {
  source = λ e. absurd (let wrong : IsTrue (is_one_of (0 ∷ 1 ∷ 4 ∷ 5 ∷ 6 ∷ 7 ∷ 9 ∷ []) 3) = subst (λ n. IsTrue (is_one_of (0 ∷ 1 ∷ 4 ∷ 5 ∷ 6 ∷ 7 ∷ 9 ∷ []) n)) e only in cc);
  sink = h.sink_failed;
  store = h.store_failed;
  hard = hard;
}

-- ---- where no device failed

other : (k n : ℕ) (rest : Bool) → (n ≡ k → ⊥) → (k == n) || rest ≡ true → rest ≡ true
other k n rest not_this h = by (split (k == n) rest h)
  where
    by : ((k == n) ≡ true) ⊎ (rest ≡ true) → rest ≡ true
    by (inl e) = absurd (not_this (sym (eqb-true k n e)))
    by (inr e) = e

the-rest : (n : ℕ) → (n ≡ 2 → ⊥) → (n ≡ 3 → ⊥) → (n ≡ 4 → ⊥) → (n ≡ 5 → ⊥) → (n ≡ 6 → ⊥) → (n ≡ 8 → ⊥) → (n ≡ 9 → ⊥)
    → IsTrue (is_one_of (0 ∷ 1 ∷ 2 ∷ 3 ∷ 4 ∷ 5 ∷ 6 ∷ 7 ∷ 8 ∷ 9 ∷ []) n) → IsTrue (is_one_of (0 ∷ 1 ∷ 7 ∷ []) n)
the-rest n two three four five six eight nine h =
    keep (0 == n) (is_one_of (1 ∷ 2 ∷ 3 ∷ 4 ∷ 5 ∷ 6 ∷ 7 ∷ 8 ∷ 9 ∷ []) n) (is_one_of (1 ∷ 7 ∷ []) n)
    (keep (1 == n) (is_one_of (2 ∷ 3 ∷ 4 ∷ 5 ∷ 6 ∷ 7 ∷ 8 ∷ 9 ∷ []) n) (is_one_of (7 ∷ []) n)
    (λ h2.
    let h3 = other 2 n (is_one_of (3 ∷ 4 ∷ 5 ∷ 6 ∷ 7 ∷ 8 ∷ 9 ∷ []) n) two h2 in
    let h4 = other 3 n (is_one_of (4 ∷ 5 ∷ 6 ∷ 7 ∷ 8 ∷ 9 ∷ []) n) three h3 in
    let h5 = other 4 n (is_one_of (5 ∷ 6 ∷ 7 ∷ 8 ∷ 9 ∷ []) n) four h4 in
    let h6 = other 5 n (is_one_of (6 ∷ 7 ∷ 8 ∷ 9 ∷ []) n) five h5 in
    let h7 = other 6 n (is_one_of (7 ∷ 8 ∷ 9 ∷ []) n) six h6 in
    keep (7 == n) (is_one_of (8 ∷ 9 ∷ []) n) false (λ h8. other 9 n false nine (other 8 n (is_one_of (9 ∷ []) n) eight h8)) h7)) h

some-none : (o : Option Command) → IsSome o → o ≡ None → ⊥
some-none None is e = cc
some-none (Some command) is e = cc

not-both : (o : Option ℕ) (line : ℕ) → o ≡ None → o ≡ Some line → ⊥
not-both o line none some = let wrong : None ≡ Some line = sym none ∙ some in cc

completes-told : (words : List (List ℕ)) (script : List ℕ) (sink : Option (List ℕ)) (s : Store) (after : Outside) (counts counts' : Counts) (stores : Change (Option Store)) (status : ℕ)
    → Refuses words (record { source = Some script; sink = sink; store = Some s }) after status → HasCauses counts counts' stores status
    → IsSome (run_of words) → IsFaultless counts counts' → refused_at script ≡ None → CanOpen profile s
    → IsTrue (is_one_of (0 ∷ 1 ∷ 7 ∷ []) status)
completes-told words script sink s after counts counts' stores status h causes some ok fine small =
    the-rest status (λ e. some-none (run_of words) some (h.bad_words e).words_are) (λ e. ok.source (causes.source e)) (λ e. ok.sink (causes.sink e)) (λ e. ok.store (causes.store e))
    (λ e. (h.bad_journal e).shut small.0 small.1.reads) (λ e. not-both (refused_at script) (h.refused_script e).line fine (h.refused_script e).refused)
    (λ e. omega (arith, (h.full_journal e).shut small.0 small.1.reads, small.1.room)) h.only

pub completes : (words : List (List ℕ)) (source sink : Option (List ℕ)) (told : Option Store) (after : Outside) (counts counts' : Counts) (stores : Change (Option Store)) (status : ℕ)
    → Refuses words (record { source = source; sink = sink; store = told }) after status → HasCauses counts counts' stores status
    → Completes words (record { source = source; sink = sink; store = told }) counts counts' status
completes words None sink told after counts counts' stores status h causes = λ some ok. tt
completes words (Some script) sink None after counts counts' stores status h causes = λ some ok fine. tt
completes words (Some script) sink (Some s) after counts counts' stores status h causes = λ some ok fine small.
    completes-told words script sink s after counts counts' stores status h causes some ok fine small
