-- What the program promises of a script, from what it promises of its actions.
use Rattle.std.proofs.Common.{◌≡◌, ℕ, ◌≤◌, Bool, true, false, cond, nat_lt, IsTrue, IsSome, Option, Some, None, List, [], ◌∷◌, ◌++◌, length, refl, sym, ap, ◌∙◌, subst, arith, ◌⊎◌, inl, inr}
use Rattle.std.proofs.lemmas.List.{append-nil}
use Rattle.std.proofs.lemmas.Bool.{ltb-false}
use Rattle.hv_base.proofs.ToldLemmas.{stays_same}
use Rattle.hv_base.specs.Told.{Moves, StaysTold}
use Rattle.hv_shelf.specs.Disk.{Store}
use Rattle.hv_script.specs.Items.{items_of}
use Rattle.hv_script.specs.Script.{broken_line, bytes_line, front, limit_line}
use Rattle.hv_script.specs.declared.actions.Action.{Action}
use Rattle.hv_script.specs.Actions.{actions_of, least, refused_at}
use Rattle.hv_script.specs.Standing.{fault_lines, first_standing}
use Rattle.hv_base.specs.Sink.{GainsPart}
use Rattle.hv_base.specs.Told.{Tells}
use Rattle.hv_script.specs.Words.{run_of}
use Rattle.hv_program.specs.declared.stop.Stop.{Stop}
use Rattle.hv_program.specs.declared.stop.Stop.TheVariants as stop
use Rattle.hv_program.specs.Change.{from_to}
use Rattle.hv_program.specs.Stops.{status_of_stop}
use Rattle.hv_program.specs.Reading.{TakesUpTo}
use Rattle.hv_program.specs.Lines.{words_line, script_line, full_line}
use Rattle.hv_program.specs.Refused.{is_one_of}
use Rattle.hv_history.specs.declared.entry.Entry.{Entry}
use Rattle.hv_session.specs.hv_beginning.specs.hv_steps.specs.hv_table_reader.specs.hv_acts.specs.hv_telling.specs.hv_house.specs.Booting.{OpensTo, opening_of}
use Rattle.hv_program.specs.Results.{IsServed, IsCutOff}
use Rattle.hv_program.specs.Headline.{IsWhole, IsAllDone, IsLineOf, IsCutLine, IsUnread, IsAfter, Headline}
use Rattle.hv_program.specs.Serving.{ServedOf, Serves, IsCutFull, IsSaid, IsSaidOrNot}
use Rattle.hv_program.proofs.Ends.{tells-still}
use Rattle.hv_program.proofs.Settled.{settled, in-turn, earlier-none}

-- ---- a script that isn't refused

unless : (b : Bool) (x : ℕ) → cond b (Some x) None ≡ None → b ≡ false
unless true x e = cc
unless false x e = refl

limit : (script : List ℕ) → limit_line script ≡ None → length script ≤ 16777216
limit script e = ltb-false 16777216 (length script) (unless (nat_lt 16777216 (length script)) _ e)

-- it is read whole
pub short-script : (script : List ℕ) → refused_at script ≡ None → length script ≤ 16777216
short-script script e =
    let outer = earlier-none (bytes_line script) (least (fault_lines first_standing (items_of (front script)))) e in
    limit script (earlier-none (broken_line (front script)) (limit_line script) outer.0).1

-- ---- the whole, from what each device tells

-- where the store opened to a book, it tells behind the run
abbrev LeavesStore : Option (List ℕ) → Option Store → Option Store → Type 0
LeavesStore sink told told' =
    (written : List ℕ) (store : Store) (book : List Entry) → sink ≡ Some written → told ≡ Some store → OpensTo book store → (now : Store) × (told' ≡ Some now)

-- it is as it was
leaves-same : (sink : Option (List ℕ)) (told : Option Store) → LeavesStore sink told told
leaves-same sink told = λ written store book at_sink at_store opens. (store, at_store)

pub Headline-by : (low high : ℕ) (words : List (List ℕ)) (source source' sink sink' : Option (List ℕ)) (told told' : Option Store) (status : ℕ)
    → StaysTold source source' → StaysTold sink sink' → LeavesStore sink told told'
    → ((script left written now : List ℕ) (store store' : Store) (book : List Entry) → source ≡ Some script → source' ≡ Some left
    → sink ≡ Some written → sink' ≡ Some now → told ≡ Some store → told' ≡ Some store' → OpensTo book store
    → IsAfter (from_to low high) words book status (from_to script left) (from_to written now) (from_to store store'))
    → Headline words (record { source = source; sink = sink; store = told }) (record { source = source'; sink = sink'; store = told' }) low high status
Headline-by low high words source source' sink sink' told told' status read heard stays by = λ script written store book at_source at_sink at_store opens.
    let left = tells-still source source' script read at_source in
    let now = tells-still sink sink' written heard at_sink in
    let after = stays written store book at_sink at_store opens in
    record {
      left = left.0;
      now = now.0;
      store = after.0;
      source_tells = left.1;
      sink_tells = now.1;
      store_tells = after.1;
      is_after = by script left.0 written now.0 store after.0 book at_source left.1 at_sink now.1 at_store after.1 opens;
    }

-- what a move made of a content that was told
between : {A : Type 0} (P : A → A → Type 0) (a b : Option A) (x y : A) → a ≡ Some x → b ≡ Some y → Moves P a b → P x y
between P a b x y e f moves =
    let there : Moves P (Some x) b = subst (λ o. Moves P o b) e moves in
    subst (λ o. Moves P (Some x) o) f there

one_content : {A : Type 0} (a : Option A) (x y : A) → a ≡ Some x → a ≡ Some y → y ≡ x
one_content a x y e f = let same : Some y ≡ Some x = sym f ∙ e in cc

still : {A : Type 0} (a b : Option A) (x y : A) → b ≡ a → a ≡ Some x → b ≡ Some y → y ≡ x
still a b x y same e f = one_content a x y e (sym same ∙ f)

-- ---- the statuses of runs that do nothing

three-or-seven : (why : Stop) (status : ℕ) → IsTrue (is_one_of (3 ∷ 7 ∷ []) (status_of_stop why)) → status ≡ status_of_stop why → (status ≡ 3) ⊎ (status ≡ 7)
three-or-seven stop.Source status h e = inl e
three-or-seven stop.Sink status h e = cc
three-or-seven stop.Store status h e = cc
three-or-seven stop.NoMemory status h e = inr e

module _ (low high : ℕ) (words : List (List ℕ)) (book : List Entry) (script left written now : List ℕ) (before after : Store) where
  quiet : (n : ℕ) → (n ≡ 0 → ⊥) → (n ≡ 1 → ⊥) → (n ≡ 3 → ⊥) → (n ≡ 4 → ⊥) → (n ≡ 5 → ⊥) → (n ≡ 7 → ⊥) → IsAfter (from_to low high) words book n (from_to script left) (from_to written now) (from_to before after)
  quiet n zero_ one three four five seven = record {
    accepted = λ e. absurd (zero_ e);
    refused = λ e. absurd (one e);
    source_failed = λ e. absurd (three e);
    sink_failed = λ e. absurd (four e);
    store_failed = λ e. absurd (five e);
    no_memory = λ e. absurd (seven e);
  }

  after-two : IsAfter (from_to low high) words book 2 (from_to script left) (from_to written now) (from_to before after)
  after-two = quiet 2 (λ e. omega (arith, e)) (λ e. omega (arith, e)) (λ e. omega (arith, e)) (λ e. omega (arith, e)) (λ e. omega (arith, e)) (λ e. omega (arith, e))

  after-eight : IsAfter (from_to low high) words book 8 (from_to script left) (from_to written now) (from_to before after)
  after-eight = quiet 8 (λ e. omega (arith, e)) (λ e. omega (arith, e)) (λ e. omega (arith, e)) (λ e. omega (arith, e)) (λ e. omega (arith, e)) (λ e. omega (arith, e))

  after-three : IsUnread (from_to written now) (from_to before after) → IsAfter (from_to low high) words book 3 (from_to script left) (from_to written now) (from_to before after)
  after-three h = record {
    accepted = λ e. absurd (omega (arith, e));
    refused = λ e. absurd (omega (arith, e));
    source_failed = λ e. h;
    sink_failed = λ e. absurd (omega (arith, e));
    store_failed = λ e. absurd (omega (arith, e));
    no_memory = λ e. absurd (omega (arith, e));
  }

  after-four : IsCutLine words book script (from_to written now) (from_to before after) → IsAfter (from_to low high) words book 4 (from_to script left) (from_to written now) (from_to before after)
  after-four h = record {
    accepted = λ e. absurd (omega (arith, e));
    refused = λ e. absurd (omega (arith, e));
    source_failed = λ e. absurd (omega (arith, e));
    sink_failed = λ e. inr h;
    store_failed = λ e. absurd (omega (arith, e));
    no_memory = λ e. absurd (omega (arith, e));
  }

  after-seven : IsUnread (from_to written now) (from_to before after) → IsAfter (from_to low high) words book 7 (from_to script left) (from_to written now) (from_to before after)
  after-seven h = record {
    accepted = λ e. absurd (omega (arith, e));
    refused = λ e. absurd (omega (arith, e));
    source_failed = λ e. absurd (omega (arith, e));
    sink_failed = λ e. absurd (omega (arith, e));
    store_failed = λ e. absurd (omega (arith, e));
    no_memory = λ e. inr h;
  }

  after-line : (status wanted : ℕ) (line : List ℕ) (sink sink' : Option (List ℕ)) (faults faults' : ℕ) → IsLineOf words book script line → IsAfter (from_to low high) words book wanted (from_to script left) (from_to written now) (from_to before after)
      → after ≡ before → sink ≡ Some written → sink' ≡ Some now → IsSaid wanted line (from_to sink sink') (from_to faults faults') status
      → IsAfter (from_to low high) words book status (from_to script left) (from_to written now) (from_to before after)
  after-line status wanted line sink sink' faults faults' is well same at_sink at_now (inl said) =
      subst (λ n. IsAfter (from_to low high) words book n (from_to script left) (from_to written now) (from_to before after)) (sym said.0) well
  after-line status wanted line sink sink' faults faults' is well same at_sink at_now (inr cut) =
      subst (λ n. IsAfter (from_to low high) words book n (from_to script left) (from_to written now) (from_to before after)) (sym cut.0)
      (after-four (record { line = line; is_line = is; wrote = between (GainsPart line) sink sink' written now at_sink at_now cut.1.wrote; store_same = same }))

  after-said : (status wanted : ℕ) (line : List ℕ) (sink sink' : Option (List ℕ)) (faults faults' : ℕ) → IsLineOf words book script line → IsAfter (from_to low high) words book wanted (from_to script left) (from_to written now) (from_to before after)
      → after ≡ before → sink ≡ Some written → sink' ≡ Some now → IsSaidOrNot wanted line (from_to sink sink') (from_to faults faults') status
      → IsAfter (from_to low high) words book status (from_to script left) (from_to written now) (from_to before after)
  after-said status wanted line sink sink' faults faults' is well same at_sink at_now (inl said) = after-line status wanted line sink sink' faults faults' is well same at_sink at_now said
  after-said status wanted line sink sink' faults faults' is well same at_sink at_now (inr unsaid) =
      subst (λ n. IsAfter (from_to low high) words book n (from_to script left) (from_to written now) (from_to before after)) (sym unsaid.0)
      (after-seven (record { wrote = still sink sink' written now unsaid.1 at_sink at_now; store_same = same }))

  after-unread : (status : ℕ) → (status ≡ 3) ⊎ (status ≡ 7) → IsUnread (from_to written now) (from_to before after) → IsAfter (from_to low high) words book status (from_to script left) (from_to written now) (from_to before after)
  after-unread status (inl e) unread = subst (λ n. IsAfter (from_to low high) words book n (from_to script left) (from_to written now) (from_to before after)) (sym e) (after-three unread)
  after-unread status (inr e) unread = subst (λ n. IsAfter (from_to low high) words book n (from_to script left) (from_to written now) (from_to before after)) (sym e) (after-seven unread)

  after-memory : (status : ℕ) → status ≡ 7 → IsUnread (from_to written now) (from_to before after) → IsAfter (from_to low high) words book status (from_to script left) (from_to written now) (from_to before after)
  after-memory status e unread = subst (λ n. IsAfter (from_to low high) words book n (from_to script left) (from_to written now) (from_to before after)) (sym e) (after-seven unread)

  cut-by : IsWhole script left → (IsCutOff (from_to low high) (opening_of before.tree book) (actions_of script) (from_to written now) after ⊎ IsCutFull book (from_to written now) (from_to before after))
      → (IsWhole script left × IsCutOff (from_to low high) (opening_of before.tree book) (actions_of script) (from_to written now) after) ⊎ IsCutLine words book script (from_to written now) (from_to before after)
  cut-by whole (inl cut) = inl (whole, cut)
  cut-by whole (inr full) = inr (record { line = full_line; is_line = inr (inr (whole.unrefused, full.full, refl)); wrote = full.wrote; store_same = full.store_same })

  all-done : IsWhole script left → (refused : Bool) → IsServed (from_to low high) (opening_of before.tree book) (actions_of script) (from_to written now) after refused
      → IsAllDone (from_to low high) book (from_to script left) (from_to written now) (from_to before after) refused
  all-done whole refused served = record {
    whole = whole;
    served = served;
    in_turn = in-turn script (opening_of before.tree book) served.last.book served.last served.output refused whole.unrefused served.are_done;
    settled = settled script (opening_of before.tree book) served.last.book served.last served.output refused whole.unrefused served.are_done;
  }

  after-served : (status : ℕ) (actions : List Action) → IsWhole script left → actions ≡ actions_of script → ServedOf status (from_to low high) book actions (from_to written now) (from_to before after)
      → IsAfter (from_to low high) words book status (from_to script left) (from_to written now) (from_to before after)
  after-served status actions whole same h =
      let served : ServedOf status (from_to low high) book (actions_of script) (from_to written now) (from_to before after) =
      subst (λ t. ServedOf status (from_to low high) book t (from_to written now) (from_to before after)) same h in
      record {
        accepted = λ e. all-done whole false (served.accepted e);
        refused = λ e. all-done whole true (served.refused e);
        source_failed = λ e. absurd (served.source e);
        sink_failed = λ e. cut-by whole (served.sink e);
        store_failed = λ e. (whole, served.store e);
        no_memory = λ e. inl (whole, served.memory e);
      }

-- ---- the cases of a run

pub Headline-words : (low high : ℕ) (words : List (List ℕ)) (source sink sink' : Option (List ℕ)) (told : Option Store) (faults faults' status : ℕ)
    → run_of words ≡ None → StaysTold sink sink' → IsSaid 2 words_line (from_to sink sink') (from_to faults faults') status
    → Headline words (record { source = source; sink = sink; store = told }) (record { source = source; sink = sink'; store = told }) low high status
Headline-words low high words source sink sink' told faults faults' status none heard said =
    Headline-by low high words source source sink sink' told told status (stays_same source) heard (leaves-same sink told)
    (λ script left written now store store' book at_source at_left at_sink at_now at_store at_after opens.
    after-line low high words book script left written now store store' status 2 words_line sink sink' faults faults' (inl (none, refl))
    (after-two low high words book script left written now store store') (one_content told store store' at_store at_after) at_sink at_now said)

pub Headline-unread : (low high : ℕ) (words : List (List ℕ)) (source source' sink : Option (List ℕ)) (told : Option Store) (status : ℕ) (why : Stop)
    → StaysTold source source' → status ≡ status_of_stop why → IsTrue (is_one_of (3 ∷ 7 ∷ []) (status_of_stop why))
    → Headline words (record { source = source; sink = sink; store = told }) (record { source = source'; sink = sink; store = told }) low high status
Headline-unread low high words source source' sink told status why read e h =
    Headline-by low high words source source' sink sink told told status read (stays_same sink) (leaves-same sink told)
    (λ script left written now store store' book at_source at_left at_sink at_now at_store at_after opens.
    after-unread low high words book script left written now store store' status (three-or-seven why status h e)
    (record { wrote = one_content sink written now at_sink at_now; store_same = one_content told store store' at_store at_after }))

pub Headline-memory : (low high : ℕ) (words : List (List ℕ)) (source source' sink : Option (List ℕ)) (told : Option Store) (status : ℕ)
    → StaysTold source source' → status ≡ 7
    → Headline words (record { source = source; sink = sink; store = told }) (record { source = source'; sink = sink; store = told }) low high status
Headline-memory low high words source source' sink told status read e =
    Headline-by low high words source source' sink sink told told status read (stays_same sink) (leaves-same sink told)
    (λ script left written now store store' book at_source at_left at_sink at_now at_store at_after opens.
    after-memory low high words book script left written now store store' status e
    (record { wrote = one_content sink written now at_sink at_now; store_same = one_content told store store' at_store at_after }))

tells-here : {A : Type 0} (P : A → Type 0) (o : Option A) (x : A) → o ≡ Some x → Tells o P → P x
tells-here P o x e h = subst (λ w. Tells w P) e h

pub Headline-refused : (low high : ℕ) (words : List (List ℕ)) (source source' sink sink' : Option (List ℕ)) (told : Option Store) (faults faults' status line : ℕ)
    → IsSome (run_of words) → Tells source (λ script. refused_at script ≡ Some line)
    → StaysTold source source' → StaysTold sink sink' → IsSaidOrNot 8 (script_line line) (from_to sink sink') (from_to faults faults') status
    → Headline words (record { source = source; sink = sink; store = told }) (record { source = source'; sink = sink'; store = told }) low high status
Headline-refused low high words source source' sink sink' told faults faults' status line some refused read heard said =
    Headline-by low high words source source' sink sink' told told status read heard (leaves-same sink told)
    (λ script left written now store store' book at_source at_left at_sink at_now at_store at_after opens.
    after-said low high words book script left written now store store' status 8 (script_line line) sink sink' faults faults'
    (inr (inl (some, (line, tells-here (λ s. refused_at s ≡ Some line) source script at_source refused, refl))))
    (after-eight low high words book script left written now store store') (one_content told store store' at_store at_after) at_sink at_now said)

is-whole : (bytes script left : List ℕ) → TakesUpTo 16777217 bytes script left → refused_at bytes ≡ None → (bytes ≡ script) × IsWhole script left
is-whole bytes script left read fine =
    let within : length bytes ≤ 16777216 = short-script bytes fine in
    let at_end : left ≡ [] = read.ended (omega arith) in
    let is_script : bytes ≡ script = sym (read.taken ∙ ap (λ t. bytes ++ t) at_end ∙ append-nil bytes) in
    (is_script, record { unrefused = subst (λ (b : List ℕ). refused_at b ≡ None) is_script fine; at_end = at_end })

serves-store : (status low high : ℕ) (actions : List Action) (sink sink' : Option (List ℕ)) (told told' : Option Store) → Serves status (from_to low high) actions (from_to sink sink') (from_to told told')
    → LeavesStore sink told told'
serves-store status low high actions sink sink' told told' serves = λ written store book at_sink at_store opens.
    let served = serves written store book at_sink at_store opens in
    (served.store, served.store_tells)

pub Headline-served : (low high : ℕ) (words : List (List ℕ)) (bytes given : List ℕ) (actions : List Action) (source source' sink sink' : Option (List ℕ)) (told told' : Option Store) (status : ℕ)
    → given ≡ bytes → Moves (TakesUpTo 16777217 bytes) source source' → refused_at given ≡ None → actions ≡ actions_of given
    → StaysTold source source' → StaysTold sink sink' → Serves status (from_to low high) actions (from_to sink sink') (from_to told told')
    → Headline words (record { source = source; sink = sink; store = told }) (record { source = source'; sink = sink'; store = told' }) low high status
Headline-served low high words bytes given actions source source' sink sink' told told' status given_is moves fine same read heard serves =
    Headline-by low high words source source' sink sink' told told' status read heard (serves-store status low high actions sink sink' told told' serves)
    (λ script left written now store store' book at_source at_left at_sink at_now at_store at_after opens.
    let takes : TakesUpTo 16777217 given script left =
    between (TakesUpTo 16777217 given) source source' script left at_source at_left
    (subst (λ b. Moves (TakesUpTo 16777217 b) source source') (sym given_is) moves) in
    let whole = is-whole given script left takes fine in
    let served = serves written store book at_sink at_store opens in
    let here : ServedOf status (from_to low high) book actions (from_to written now) (from_to store store') =
    subst (λ x. ServedOf status (from_to low high) book actions (from_to written now) (from_to store x)) (one_content told' store' served.store at_after served.store_tells)
    (subst (λ x. ServedOf status (from_to low high) book actions (from_to written x) (from_to store served.store)) (one_content sink' now served.now at_now served.sink_tells) served.served) in
    after-served low high words book script left written now store store' status actions whole.1 (same ∙ ap actions_of whole.0) here)
