-- A session's own items: whose statements they open, which counts of faults they keep, and that they block nobody.
use Rattle.std.proofs.Common.{◌≡◌, ◌⊎◌, inl, inr, ℕ, zero, suc, ◌+◌, ◌≤◌, ◌==◌, Bool, true, false, Option, Some, List, [], ◌∷◌, ◌++◌, length, refl, sym, ap, ◌∙◌, subst, append-nil, append_assoc, eqb-true, eq-eqb, arith}
use Rattle.std.specs.Prelude.{sum_by, if◌then◌else◌, is_some}
use Rattle.std.specs.List.{AllByRecursion}
use Rattle.std.proofs.lemmas.List.Sums.{sum_by-append, sum_by-cons}
use Rattle.hv_ast.specs.declared.statement.Stmt.{Stmt}
use Rattle.hv_base.specs.declared.ids.Limits.{Limits}
use Rattle.hv_base.specs.declared.ids.TxnId.{TxnId}
use Rattle.hv_shelf.specs.Disk.{Store}
use Rattle.hv_history.specs.declared.entry.Entry.{Entry}
use Rattle.hv_history.specs.declared.entry.Entry.TheVariants as entry
use Rattle.hv_history.specs.declared.entry.Cause.TheVariants as cause
use Rattle.hv_history.specs.declared.state.Ending.TheVariants.{Aborted, Made, Dropped}
use Rattle.hv_history.specs.State.{State, nothing_yet, changed, changed_at, while_open, opened, started, given_id, committed, ended, acted, after}
use Rattle.hv_history.specs.Legal.{AllFit, profile}
use Rattle.hv_stands.specs.Running.{Asking, AreOf}
use Rattle.hv_trail.specs.declared.trail.TrailItem.{TrailItem}
use Rattle.hv_trail.specs.declared.trail.TrailItem.TheVariants.{Noted, Marked}
use Rattle.hv_trail.specs.Trail.{book_of}
use Rattle.hv_trail.proofs.LastingLaws.{book-append}
use Rattle.hv_actor.specs.Acting.{AreRows, IsLater, Setting, Moment, Went, Woven, among, items_of}
use Rattle.hv_actor.specs.Rows.{later_itself}
use Rattle.hv_actor.proofs.Weaving.{length-append, went-more, went-itself, later-further}
use Rattle.hv_session.specs.hv_beginning.specs.hv_steps.specs.Ending.{KeepsCount, IsUndamaged}
use Rattle.hv_session.specs.hv_beginning.specs.hv_steps.specs.hv_table_reader.specs.hv_acts.specs.Answers.{OpensNone}
use Rattle.hv_session.specs.hv_beginning.specs.hv_steps.specs.hv_table_reader.specs.hv_acts.specs.Meant.{IsNoEnd}
use Rattle.hv_session.specs.hv_beginning.specs.hv_steps.specs.Phases.{AnswersTruly, BegunBy, EndsBehind, HaltsBeginning}
use Rattle.hv_session.specs.hv_beginning.specs.hv_steps.specs.Going.{faults_in, AddsOwn}
use Rattle.hv_session.specs.hv_beginning.specs.hv_steps.specs.declared.ready.Reply.{Reply}
use Rattle.hv_session.specs.hv_beginning.specs.hv_steps.specs.declared.reply.Done.{Done}
use Rattle.hv_session.specs.hv_beginning.specs.hv_steps.specs.declared.reply.Done.TheVariants as done
use Rattle.hv_session.specs.Doing.{reply_from}
use Rattle.hv_session.specs.hv_beginning.specs.hv_steps.specs.hv_table_reader.specs.hv_acts.specs.hv_telling.specs.hv_house.specs.declared.fault.HouseFault.{HouseFault}
use Rattle.hv_session.specs.hv_beginning.specs.hv_steps.specs.hv_table_reader.specs.hv_acts.specs.hv_telling.specs.Telling.{IsTold, IsToldHouse}
use Rattle.hv_session.specs.hv_beginning.specs.hv_steps.specs.hv_table_reader.specs.hv_acts.specs.declared.told.ToldHouse.{ToldHouse}
use Rattle.hv_session.specs.hv_beginning.specs.hv_steps.specs.hv_table_reader.specs.hv_acts.specs.Told.{seen_in, trail_in, book_in}
use Rattle.hv_waiting.specs.Kinds.{NeverBlocks, IsPlain, ArePlain, RepliesPlainly, StopsPlainly}
use Rattle.hv_waiting.specs.declared.passed.Passed.{Passed}
use Rattle.hv_waiting.specs.declared.passed.Passed.TheVariants as passed
use Rattle.hv_waiting.specs.Beginnings.{EndedUnstarted, StopsUnstarted}
use Rattle.hv_waiting.specs.Doing.{WentInTurn, PassesInTurn, IsSaidTo, RepliesInTurn}
use Rattle.hv_saying.specs.Saying.{SaysOne}
use Rattle.hv_saying.specs.Owning.{openings_of, opened_in, IsPartOf, IsOfRun, OwnsPlainly, blocks_none, GoesOnTo, HasOwned, OwningIsPlain, StoppingIsPlain}

-- ---- lists

number-same : (n m : ℕ) → Some n ≡ Some m → n ≡ m
number-same n m e = cc

pub all-append : {A : Type 0} (P : A → Type 0) (xs ys : List A) → AllByRecursion P xs → AllByRecursion P ys → AllByRecursion P (xs ++ ys)
all-append P [] ys ps qs = qs
all-append P (x ∷ xs) ys ps qs = (ps.0, all-append P xs ys ps.1 qs)

nil-of : {A : Type 0} (xs : List A) → length xs ≤ 0 → xs ≡ []
nil-of [] none = refl
nil-of (x ∷ xs) none = absurd (omega (arith, none))

-- ---- items put together

pub openings-append : (xs ys : List TrailItem) → openings_of (xs ++ ys) ≡ openings_of xs ++ openings_of ys
openings-append [] ys = refl
openings-append (Noted (entry.Opened txn session number text) ∷ xs) ys =
    ap (λ (rest : List Asking). record { session = session; number = number; text = text } ∷ rest) (openings-append xs ys)
openings-append (item ∷ xs) ys = openings-append xs ys

keeps-wide : (low low' high high' : ℕ) → low ≤ low' → high' ≤ high → (event : Entry) → KeepsCount low' high' event → KeepsCount low high event
keeps-wide low low' high high' down up (entry.Abort txn (cause.ReadFault count)) keeps =
    let above = keeps.0 in
    let below = keeps.1 in (omega (arith, down, above), omega (arith, up, below))
keeps-wide low low' high high' down up (entry.Abort txn (cause.WriteFault count)) keeps =
    let above = keeps.0 in
    let below = keeps.1 in (omega (arith, down, above), omega (arith, up, below))
keeps-wide low low' high high' down up event keeps = tt

run-wide : (low low' high high' : ℕ) → low ≤ low' → high' ≤ high → (item : TrailItem) → IsOfRun low' high' item → IsOfRun low high item
run-wide low low' high high' down up (Noted event) is = (keeps-wide low low' high high' down up event is.0, is.1)
run-wide low low' high high' down up (Marked mark) is = tt

all-wide : (low low' high high' : ℕ) → low ≤ low' → high' ≤ high → (items : List TrailItem) → AllByRecursion (IsOfRun low' high') items
    → AllByRecursion (IsOfRun low high) items
all-wide low low' high high' down up [] all = tt
all-wide low low' high high' down up (item ∷ items) all = (run-wide low low' high high' down up item all.0, all-wide low low' high high' down up items all.1)

pub owns-none : (low high : ℕ) (askings : List Asking) → OwnsPlainly low high askings []
owns-none low high askings = record { opened = λ weight. omega arith; unblocked = tt; of_run = tt }

pub owns-more : (low low' low'' high high' high'' : ℕ) (as_ bs : List Asking) (xs ys : List TrailItem) → low ≤ low' → low ≤ low'' → high' ≤ high → high'' ≤ high
    → OwnsPlainly low' high' as_ xs → OwnsPlainly low'' high'' bs ys → OwnsPlainly low high (as_ ++ bs) (xs ++ ys)
owns-more low low' low'' high high' high'' as_ bs xs ys down down' up up' f g = record {
  opened = λ weight.
      let first = f.opened weight in
      let next = g.opened weight in
      let parts = ap (sum_by weight) (openings-append xs ys) in
      let both = sum_by-append weight (openings_of xs) (openings_of ys) in
      let all = sum_by-append weight as_ bs in
      omega (arith, first, next, parts, both, all);
  unblocked = all-append (λ (item : TrailItem). blocks_none item ≡ true) xs ys f.unblocked g.unblocked;
  of_run = all-append (IsOfRun low high) xs ys (all-wide low low' high high' down up xs f.of_run) (all-wide low low'' high high'' down' up' ys g.of_run);
}

pub owns-wide : (low low' high high' : ℕ) (askings : List Asking) (items : List TrailItem) → low ≤ low' → high' ≤ high → OwnsPlainly low' high' askings items
    → OwnsPlainly low high askings items
owns-wide low low' high high' askings items down up f = record {
  opened = f.opened;
  unblocked = f.unblocked;
  of_run = all-wide low low' high high' down up items f.of_run;
}

-- fewer of them
pub owns-fewer : (low high : ℕ) (as_ bs : List Asking) (items : List TrailItem) → IsPartOf as_ bs → OwnsPlainly low high as_ items → OwnsPlainly low high bs items
owns-fewer low high as_ bs items part f = record {
  opened = λ weight.
      let first = f.opened weight in
      let next = part weight in omega (arith, first, next);
  unblocked = f.unblocked;
  of_run = f.of_run;
}

-- ---- items by their entries

abbrev pub opened_by_entries : List Entry → List Asking
opened_by_entries [] = []
opened_by_entries (entry.Opened txn session number text ∷ events) =
    record { session = session; number = number; text = text } ∷ opened_by_entries events
opened_by_entries (event ∷ events) = opened_by_entries events

pub openings-book : (items : List TrailItem) → openings_of items ≡ opened_by_entries (book_of items)
openings-book [] = refl
openings-book (Noted (entry.Opened txn session number text) ∷ items) =
    ap (λ (rest : List Asking). record { session = session; number = number; text = text } ∷ rest) (openings-book items)
openings-book (Noted event ∷ items) = openings-book items
openings-book (Marked mark ∷ items) = openings-book items

unblocked-book : (items : List TrailItem) → AllByRecursion NeverBlocks (book_of items) → AllByRecursion (λ (item : TrailItem). blocks_none item ≡ true) items
unblocked-book [] all = tt
unblocked-book (Noted event ∷ items) all = (all.0, unblocked-book items all.1)
unblocked-book (Marked mark ∷ items) all = (refl, unblocked-book items all)

-- a count that is kept is one of this run's, and no file is said to be damaged
abbrev pub RunsFor : ℕ → ℕ → Entry → Type 0
RunsFor low high event = KeepsCount low high event × IsUndamaged event

run-book : (low high : ℕ) (items : List TrailItem) → AllByRecursion (RunsFor low high) (book_of items) → AllByRecursion (IsOfRun low high) items
run-book low high [] all = tt
run-book low high (Noted event ∷ items) all = (all.0, run-book low high items all.1)
run-book low high (Marked mark ∷ items) all = (tt, run-book low high items all)

pub owns-by : (low high : ℕ) (askings : List Asking) (items : List TrailItem) (added : List Entry) → book_of items ≡ added
    → IsPartOf (opened_by_entries added) askings → AllByRecursion NeverBlocks added → AllByRecursion (RunsFor low high) added → OwnsPlainly low high askings items
owns-by low high askings items added entries part unblocked runs = record {
  opened = λ weight.
      let same = ap (sum_by weight) (openings-book items ∙ ap opened_by_entries entries) in
      let few = part weight in omega (arith, same, few);
  unblocked = unblocked-book items (subst (AllByRecursion NeverBlocks) (sym entries) unblocked);
  of_run = run-book low high items (subst (AllByRecursion (RunsFor low high)) (sym entries) runs);
}

-- ---- which statement they open

-- its own, or none
abbrev pub OpensItself : Asking → List Entry → Type 0
OpensItself asking added = (opened_by_entries added ≡ []) ⊎ (opened_by_entries added ≡ asking ∷ [])

abbrev as_asking : List ℕ → ℕ → List ℕ → Asking
as_asking session number text = record { session = session; number = number; text = text }

same-asking : (asking : Asking) (session : List ℕ) (number : ℕ) (text : List ℕ) → session ≡ asking.session → number ≡ asking.number → text ≡ asking.text
    → record { session = session; number = number; text = text } ≡ asking
same-asking asking session number text s n t =
    ap (λ (x : List ℕ). as_asking x number text) s ∙ ap (λ (x : ℕ). as_asking asking.session x text) n
    ∙ ap (λ (x : List ℕ). as_asking asking.session asking.number x) t

opens-none : (events : List Entry) → AllByRecursion OpensNone events → opened_by_entries events ≡ []
opens-none [] all = refl
opens-none (entry.Opened txn session number text ∷ events) all = absurd all.0
opens-none (event ∷ events) all = opens-none events all.1

-- the first is its Opened, and no other is one
pub begun-alone : (asking : Asking) (event : Entry) (more : List Entry) → BegunBy asking (event ∷ more) → AllByRecursion OpensNone more
    → opened_by_entries (event ∷ more) ≡ asking ∷ []
begun-alone asking (entry.Opened txn session number text) more begun all =
    ap (λ (rest : List Asking). record { session = session; number = number; text = text } ∷ rest) (opens-none more all)
    ∙ ap (λ (first : Asking). first ∷ []) (same-asking asking session number text begun.0 begun.1 begun.2)
begun-alone asking event more begun all = absurd begun

-- or there aren't two
pub begun-few : (asking : Asking) (added : List Entry) → BegunBy asking added → length (opened_by_entries added) ≤ 1 → OpensItself asking added
begun-few asking [] begun few = inl refl
begun-few asking (entry.Opened txn session number text ∷ more) begun few =
    inr (ap (λ (rest : List Asking). record { session = session; number = number; text = text } ∷ rest) (nil-of (opened_by_entries more) (omega (arith, few)))
    ∙ ap (λ (first : Asking). first ∷ []) (same-asking asking session number text begun.0 begun.1 begun.2))
begun-few asking (event ∷ more) begun few = absurd begun

pub itself-part : (asking : Asking) (added : List Entry) → OpensItself asking added → IsPartOf (opened_by_entries added) (asking ∷ [])
itself-part asking added (inl none) = λ weight.
    let same = ap (sum_by weight) none in omega (arith, same)
itself-part asking added (inr one) = λ weight.
    let same = ap (sum_by weight) one in omega (arith, same)

-- ---- a book that fits opens no transaction twice

abbrev pub one_if : Bool → ℕ
one_if b = if b then 1 else 0

abbrev pub opens_as : ℕ → Entry → ℕ
opens_as txn (entry.Opened other session number text) = one_if (other.0 == txn)
opens_as txn event = 0

abbrev pub times_opened : ℕ → List Entry → ℕ
times_opened txn [] = 0
times_opened txn (event ∷ events) = opens_as txn event + times_opened txn events

pub times-append : (txn : ℕ) (xs ys : List Entry) → times_opened txn (xs ++ ys) ≡ times_opened txn xs + times_opened txn ys
times-append txn [] ys = omega arith
times-append txn (x ∷ xs) ys = let rest = times-append txn xs ys in omega (arith, rest)

length-changed_at : {A : Type 0} (f : A → A) (xs : List A) (n : ℕ) → length (changed_at f xs n) ≡ length xs
length-changed_at f [] n = refl
length-changed_at f (x ∷ xs) zero = refl
length-changed_at f (x ∷ xs) (suc n) = let rest = length-changed_at f xs n in omega (arith, rest)

length-changed : {A : Type 0} (f : A → A) (xs : List A) (n : ℕ) → length (changed f xs n) ≡ length xs
length-changed f xs zero = refl
length-changed f xs (suc n) = length-changed_at f xs n

-- no transaction goes
grown : (s : State) (event : Entry) → length s.transactions ≤ length (after s event).transactions
unfolding acted
grown s (entry.Opened txn session number text) = let more = length-append s.transactions (opened session number text ∷ []) in omega (arith, more)
grown s (entry.Start txn statement) = let same = length-changed (while_open (started s statement)) s.transactions txn.0 in omega (arith, same)
grown s (entry.Given txn table write) = let same = length-changed (while_open (given_id table.0 write.0)) s.transactions txn.0 in omega (arith, same)
grown s (entry.Commit txn wrote) = let same = length-changed (while_open (committed s.entries wrote)) s.transactions txn.0 in omega (arith, same)
grown s (entry.Abort txn why) = let same = length-changed (while_open (ended (Aborted s.entries why))) s.transactions txn.0 in omega (arith, same)
grown s (entry.Create txn table) = let same = length-changed (while_open (ended (Made s.entries table.0))) s.transactions txn.0 in omega (arith, same)
grown s (entry.Drop txn table) = let same = length-changed (while_open (ended (Dropped s.entries table.0))) s.transactions txn.0 in omega (arith, same)
grown s (entry.Boot run) = omega arith
grown s (entry.Asked job table partition kind by_) = omega arith
grown s (entry.Picked job watermark) = omega arith
grown s (entry.Published job low high mark) = omega arith
grown s (entry.Empty job) = omega arith
grown s (entry.Cleaned job) = omega arith
grown s (entry.Failed job why) = omega arith
grown s (entry.Forgot table write) = omega arith
grown s (entry.Next txn statement number text) = omega arith
grown s (entry.Did txn statement wrote) = omega arith
grown s (entry.Alter txn table) = omega arith

grown-one : (s : State) (txn : TxnId) (session : List ℕ) (number : ℕ) (text : List ℕ)
    → length (after s (entry.Opened txn session number text)).transactions ≡ length s.transactions + 1
unfolding acted
grown-one s txn session number text = let more = length-append s.transactions (opened session number text ∷ []) in omega (arith, more)

not-there : (b : Bool) (n m there rest : ℕ) → (n == m) ≡ b → n ≡ there + 1 → m ≤ there → rest ≡ 0 → one_if b + rest ≡ 0
not-there true n m there rest is next within none = let same = eqb-true n m is in absurd (omega (arith, same, next, within))
not-there false n m there rest is next within none = omega (arith, none)

-- one of a number that is there already isn't opened
pub none-again : (limits : Limits) (s : State) (book : List Entry) (txn : ℕ) → AllFit limits s book → txn ≤ length s.transactions → times_opened txn book ≡ 0
none-again limits s [] txn fit there = refl
none-again limits s (entry.Opened other session number text ∷ book) txn fit there =
    let up = grown s (entry.Opened other session number text) in
    not-there (other.0 == txn) other.0 txn (length s.transactions) (times_opened txn book) refl fit.0.next there
    (none-again limits (after s (entry.Opened other session number text)) book txn fit.1 (omega (arith, up, there)))
none-again limits s (event ∷ book) txn fit there =
    let up = grown s event in
    let rest = none-again limits (after s event) book txn fit.1 (omega (arith, up, there)) in omega (arith, rest)

one-there : (b : Bool) (n m there rest : ℕ) → (n == m) ≡ b → n ≡ there + 1 → (m ≤ there + 1 → rest ≡ 0) → rest ≤ 1 → one_if b + rest ≤ 1
one-there true n m there rest is next none few =
    let same = eqb-true n m is in
    let zero_ = none (omega (arith, same, next)) in omega (arith, zero_)
one-there false n m there rest is next none few = omega (arith, few)

once-opened : (limits : Limits) (s : State) (book : List Entry) (txn : ℕ) → AllFit limits s book → times_opened txn book ≤ 1
once-opened limits s [] txn fit = omega arith
once-opened limits s (entry.Opened other session number text ∷ book) txn fit =
    let one = grown-one s other session number text in
    one-there (other.0 == txn) other.0 txn (length s.transactions) (times_opened txn book) refl fit.0.next
    (λ within.
    none-again limits (after s (entry.Opened other session number text)) book txn fit.1 (omega (arith, one, within)))
    (once-opened limits (after s (entry.Opened other session number text)) book txn fit.1)
once-opened limits s (event ∷ book) txn fit =
    let rest = once-opened limits (after s event) book txn fit.1 in omega (arith, rest)

-- ---- own items among all

abbrev times_in : ℕ → List TrailItem → ℕ
times_in txn items = times_opened txn (book_of items)

times-items : (txn : ℕ) (xs ys : List TrailItem) → times_in txn (xs ++ ys) ≡ times_in txn xs + times_in txn ys
times-items txn xs ys = ap (times_opened txn) (book-append xs ys) ∙ times-append txn (book_of xs) (book_of ys)

times-more : (txn : ℕ) (item : TrailItem) (xs ys : List TrailItem) → times_in txn xs ≤ times_in txn ys → times_in txn (item ∷ xs) ≤ times_in txn (item ∷ ys)
times-more txn (Noted event) xs ys fewer = omega (arith, fewer)
times-more txn (Marked mark) xs ys fewer = fewer

woven-times : (B : List TrailItem → Type 0) (at : ℕ) (own : List (ℕ × TrailItem)) (added : List TrailItem) (txn : ℕ) → Woven B at own added
    → times_in txn (items_of own) ≤ times_in txn added
woven-times B at [] added txn w = omega arith
woven-times B at (x ∷ own) added txn w =
    let rest = woven-times B (x.0 + 1) own w.1 txn w.5 in
    let more = times-more txn x.1 (items_of own) w.1 rest in
    let whole = ap (times_in txn) w.2 in
    let parts = times-items txn w.0 (x.1 ∷ w.1) in omega (arith, more, whole, parts)

-- the Openeds that own acts added are among those of each book that goes on from there
pub went-times : (B : List TrailItem → Type 0) (gained : List TrailItem) (own own' : List ℕ) (before now : List TrailItem) (more book : List Entry) (txn : ℕ)
    → Went B gained own own' before now → book ≡ book_of now ++ more → AllFit profile nothing_yet book → times_in txn gained ≤ 1
went-times B gained own own' before now more book txn w is fit =
    let mine = woven-times B (length before) w.placed w.added txn w.woven in
    let items = ap (times_in txn) w.items in
    let seen = ap (times_in txn) w.seen ∙ times-items txn before w.added in
    let whole = ap (times_opened txn) is ∙ times-append txn (book_of now) more in
    let once = once-opened profile nothing_yet book txn fit in omega (arith, mine, items, seen, whole, once)

-- all of one transaction
few-opened : (txn : ℕ) (events : List Entry) → AreOf txn events → length (opened_by_entries events) ≤ times_opened txn events
few-opened txn [] all = omega arith
few-opened txn (entry.Opened other session number text ∷ events) all =
    let same : other.0 ≡ txn = number-same other.0 txn all.0 in
    let counts : one_if (other.0 == txn) ≡ 1 = ap one_if (eq-eqb other.0 txn same) in
    let rest = few-opened txn events all.1 in omega (arith, counts, rest)
few-opened txn (event ∷ events) all = let rest = few-opened txn events all.1 in omega (arith, rest)

-- what was added until the run stopped: its Opened alone, or none
pub halted-itself : (B : List TrailItem → Type 0) (items : List TrailItem) (own own' : List ℕ) (before now : List TrailItem) (more book : List Entry) (txn : ℕ)
    (asking : Asking) (added : List Entry) → Went B items own own' before now → book_of items ≡ added → AreOf txn added → BegunBy asking added
    → book ≡ book_of now ++ more → AllFit profile nothing_yet book → OpensItself asking added
halted-itself B items own own' before now more book txn asking added w entries of begun is fit =
    let once = went-times B items own own' before now more book txn w is fit in
    let same = ap (times_opened txn) entries in
    let few = few-opened txn added of in begun-few asking added begun (omega (arith, once, same, few))

-- ---- one statement behind another

module _ {D : Type 0} (told : D → Option Store) (faults : D → ℕ) (B : List TrailItem → Type 0) (rows : AreRows B) (meanwhile : ToldHouse D → ToldHouse D → Type 0) where
  abbrev S : Setting D (ToldHouse D)
  S = among told faults B meanwhile

  abbrev M : Type 0
  M = Moment (ToldHouse D)

  pub owned-none : (a : M) (askings : List Asking) → HasOwned S a a askings
  owned-none a askings = record {
    items = [];
    adds = record {
      went = went-itself B rows (trail_in a.house) (trail_in a.house) [] a.own a.own (sym (append-nil (trail_in a.house))) (sym (append-nil a.own));
      later = later_itself faults (seen_in a.house);
    };
    plainly = λ book is goes. owns-none (faults_in faults a.house) (faults_in faults a.house) askings;
  }

  pub told-there : (a b : ToldHouse D) → IsLater faults (seen_in a) (seen_in b) → IsToldHouse told b.house → IsToldHouse told a.house
  told-there a b later is = subst (IsTold told) later.rest.start is

  pub goes-there : (a b : ToldHouse D) (book : List Entry) → IsLater faults (seen_in a) (seen_in b) → GoesOnTo (book_in b) book → GoesOnTo (book_in a) book
  goes-there a b book later goes =
      let grew : trail_in b ≡ trail_in a ++ later.added = later.trail in
      let books : book_in b ≡ book_in a ++ book_of later.added = ap book_of grew ∙ book-append (trail_in a) later.added in
      record {
        front = record {
          more = book_of later.added ++ goes.front.more;
          is = goes.front.is ∙ ap (λ (xs : List Entry). xs ++ goes.front.more) books ∙ append_assoc (book_in a) (book_of later.added) goes.front.more;
        };
        fits = goes.fits;
      }

  pub owned-more : (a b c : M) (as_ bs : List Asking) → HasOwned S a b as_ → HasOwned S b c bs → HasOwned S a c (as_ ++ bs)
  owned-more a b c as_ bs f g =
      let early = f.adds.later in
      let late = g.adds.later in
      let low = early.count in
      let high = late.count in
      record {
        items = f.items ++ g.items;
        adds = record {
          went = went-more B rows f.items g.items a.own b.own c.own (trail_in a.house) (trail_in b.house) (trail_in c.house) f.adds.went g.adds.went;
          later = later-further faults (seen_in a.house) (seen_in b.house) (seen_in c.house) early late;
        };
        plainly = λ book is goes.
            owns-more (faults_in faults a.house) (faults_in faults a.house) (faults_in faults b.house) (faults_in faults c.house)
            (faults_in faults b.house) (faults_in faults c.house) as_ bs f.items g.items (omega arith) low high (omega arith)
            (f.plainly book (told-there b.house c.house late is) (goes-there b.house c.house book late goes)) (g.plainly book is goes);
      }

  pub owned-fewer : (a b : M) (as_ bs : List Asking) → IsPartOf as_ bs → HasOwned S a b as_ → HasOwned S a b bs
  owned-fewer a b as_ bs part f = record {
    items = f.items;
    adds = f.adds;
    plainly = λ book is goes.
        owns-fewer (faults_in faults a.house) (faults_in faults b.house) as_ bs f.items part (f.plainly book is goes);
  }

  -- entries of one transaction
  pub owned-by : (a b : M) (txn : ℕ) (added : List Entry) (askings : List Asking) → AddsOwn faults B txn a b added
      → ((book : List Entry) → IsToldHouse told b.house.house → GoesOnTo (book_in b.house) book
      → IsPartOf (opened_by_entries added) askings × AllByRecursion NeverBlocks added
      × AllByRecursion (RunsFor (faults_in faults a.house) (faults_in faults b.house)) added) → HasOwned S a b askings
  owned-by a b txn added askings adds plain = record {
    items = adds.items;
    adds = record { went = adds.went; later = adds.later };
    plainly = λ book is goes.
        let found = plain book is goes in
        owns-by (faults_in faults a.house) (faults_in faults b.house) askings adds.items added adds.entries found.0 found.1 found.2;
  }

  -- ---- of a statement that has its reply

  runs-more : (low high : ℕ) (now : ToldHouse D) (events : List Entry) → IsToldHouse told now.house → AllByRecursion (KeepsCount low high) events
      → AllByRecursion (IsPlain told now) events → AllByRecursion (RunsFor low high) events
  runs-more low high now [] is counts plain = tt
  runs-more low high now (event ∷ events) is counts plain =
      ((counts.0, plain.0.undamaged is), runs-more low high now events is counts.1 plain.1)

  unopened-more : (now : ToldHouse D) (events : List Entry) → AllByRecursion (IsPlain told now) events → AllByRecursion OpensNone events
  unopened-more now [] plain = tt
  unopened-more now (event ∷ events) plain = (plain.0.unopened, unopened-more now events plain.1)

  unblocked-more : (now : ToldHouse D) (events : List Entry) → AllByRecursion (IsPlain told now) events → AllByRecursion NeverBlocks events
  unblocked-more now [] plain = tt
  unblocked-more now (event ∷ events) plain = (plain.0.unblocked, unblocked-more now events plain.1)

  -- its Opened blocks nobody, and says of no file that it is damaged
  begun-plain : (asking : Asking) (event : Entry) (more : List Entry) → BegunBy asking (event ∷ more) → NeverBlocks event × IsUndamaged event
  begun-plain asking (entry.Opened txn session number text) more begun = (refl, tt)
  begun-plain asking event more begun = absurd begun

  pub plain-itself : (now : ToldHouse D) (asking : Asking) (added : List Entry) → ArePlain told now asking added → OpensItself asking added
  plain-itself now asking [] plain = inl refl
  plain-itself now asking (event ∷ more) plain = inr (begun-alone asking event more plain.0 (unopened-more now more plain.1))

  plain-unblocked : (now : ToldHouse D) (asking : Asking) (added : List Entry) → ArePlain told now asking added → AllByRecursion NeverBlocks added
  plain-unblocked now asking [] plain = tt
  plain-unblocked now asking (event ∷ more) plain =
      let first = begun-plain asking event more plain.0 in (first.0, unblocked-more now more plain.1)

  plain-runs : (low high : ℕ) (now : ToldHouse D) (asking : Asking) (added : List Entry) → IsToldHouse told now.house → AllByRecursion (KeepsCount low high) added
      → ArePlain told now asking added → AllByRecursion (RunsFor low high) added
  plain-runs low high now asking [] is counts plain = tt
  plain-runs low high now asking (event ∷ more) is counts plain =
      let first = begun-plain asking event more plain.0 in
      ((counts.0, first.1), runs-more low high now more is counts.1 plain.1)

  -- who was opened has an end that the reply names
  ended-done : (book : List Entry) (found : Done) (txn : ℕ) (now : ToldHouse D) → AnswersTruly txn now found → is_some (reply_from found).ended ≡ true
  ended-done book (done.Replied reply) txn now truly = ap (λ (o : Option ℕ). is_some o) truly.ended_at.place
  ended-done book (done.Gone reply) txn now gone = ap (λ (r : Reply). is_some r.ended) gone.told

  ended-behind : (txn : ℕ) (now : ToldHouse D) (first : List Entry) (Is : Entry → Reply → Type 0) (found : Done) (added : List Entry) → EndsBehind txn now first Is found added
      → is_some (reply_from found).ended ≡ true
  ended-behind txn now first Is (done.Replied reply) added ends = ap (λ (o : Option ℕ). is_some o) ends.3.place
  ended-behind txn now first Is (done.Gone reply) added ends = ap (λ (r : Reply). is_some r.ended) ends.1.told

  ended-reply : (reply : Reply) (found : Done) → reply ≡ reply_from found → is_some (reply_from found).ended ≡ true → is_some reply.ended ≡ true
  ended-reply reply found same is = ap (λ (r : Reply). is_some r.ended) same ∙ is

  replies-ended : (before now : ToldHouse D) (asking : Asking) (said : Stmt) (found : Done) (added : List Entry) → IsToldHouse told now.house
      → WentInTurn told before now asking said found added ⊎ EndedUnstarted before now asking said found added → is_some (reply_from found).ended ≡ true
  replies-ended before now asking said found added is (inl went) = ended-done (book_in now) found went.way.txn.0 now (went.truly is)
  replies-ended before now asking said found added is (inr ended_) =
      ended-behind ended_.txn now (ended_.event ∷ []) (StopsUnstarted before now ended_.txn) found added ended_.ends

  one-part : (asking : Asking) (reply : Reply) (added : List Entry) → OpensItself asking added → is_some reply.ended ≡ true
      → IsPartOf (opened_by_entries added) (opened_in (asking ∷ []) (reply ∷ []))
  one-part asking reply added itself is =
      subst (λ (b : Bool). IsPartOf (opened_by_entries added) (if b then asking ∷ [] else [])) (sym is) (itself-part asking added itself)

  none-part : (added : List Entry) (askings : List Asking) → added ≡ [] → IsPartOf (opened_by_entries added) askings
  none-part added askings none = λ weight.
      let same = ap (λ (events : List Entry). sum_by weight (opened_by_entries events)) none in omega (arith, same)

  replied-part : (before now : ToldHouse D) (asking : Asking) (reply : Reply) (added : List Entry) → IsToldHouse told now.house → ArePlain told now asking added
      → RepliesInTurn told before now asking reply added → IsPartOf (opened_by_entries added) (opened_in (asking ∷ []) (reply ∷ []))
  replied-part before now asking reply added is plain (inl text) = none-part added (opened_in (asking ∷ []) (reply ∷ [])) text.0
  replied-part before now asking reply added is plain (inr replies) = by replies.1 replies.3 replies.4
    where
      by : (found : Passed) → PassesInTurn told before now asking replies.0 found added → IsSaidTo found reply
          → IsPartOf (opened_by_entries added) (opened_in (asking ∷ []) (reply ∷ []))
      by (passed.Ended found) passes said_to =
          one-part asking reply added (plain-itself now asking added plain)
          (ended-reply reply found said_to (replies-ended before now asking replies.0 found added is passes))
      by (passed.Full entries) passes said_to = none-part added (opened_in (asking ∷ []) (reply ∷ [])) passes.0
      by passed.NoMemory passes said_to = none-part added (opened_in (asking ∷ []) (reply ∷ [])) passes

  owned-one : RepliesPlainly told → (a b : M) (asking : Asking) (reply : Reply) → SaysOne S a b asking reply → HasOwned S a b (opened_in (asking ∷ []) (reply ∷ []))
  owned-one plainly a b asking reply one =
      let gains = one.1 in
      let plain = plainly a.house b.house asking reply gains.added gains.is in
      owned-by a b one.0 gains.added (opened_in (asking ∷ []) (reply ∷ [])) gains.adds
      (λ book is goes. (
        replied-part a.house b.house asking reply gains.added is plain gains.is,
        plain-unblocked b.house asking gains.added plain,
        plain-runs (faults_in faults a.house) (faults_in faults b.house) b.house asking gains.added is gains.counts plain,
      ))

  opened-both : (asking : Asking) (reply : Reply) (askings : List Asking) (replies : List Reply)
      → opened_in (asking ∷ askings) (reply ∷ replies) ≡ opened_in (asking ∷ []) (reply ∷ []) ++ opened_in askings replies
  opened-both asking reply askings replies = by (is_some reply.ended)
    where
      by : (b : Bool) → (if b then asking ∷ opened_in askings replies else opened_in askings replies) ≡ (if b then asking ∷ [] else []) ++ opened_in askings replies
      by true = refl
      by false = refl

  pub owned-all : RepliesPlainly told → OwningIsPlain S
  owned-all plainly before now [] [] says = subst (λ (m : M). HasOwned S before m []) (sym says) (owned-none before [])
  owned-all plainly before now (asking ∷ askings) (reply ∷ replies) says =
      subst (HasOwned S before now) (sym (opened-both asking reply askings replies))
      (owned-more before says.0 now (opened_in (asking ∷ []) (reply ∷ [])) (opened_in askings replies)
      (owned-one plainly before says.0 asking reply says.1) (owned-all plainly says.0 now askings replies says.2))
  owned-all plainly before now [] (reply ∷ replies) says = absurd says
  owned-all plainly before now (asking ∷ askings) [] says = absurd says

  -- ---- of one in which the run stopped

  no-end-runs : (txn low high : ℕ) (event : Entry) → IsNoEnd txn event → RunsFor low high event
  no-end-runs txn low high (entry.Abort other (cause.Request by_)) is = (tt, tt)
  no-end-runs txn low high (entry.Abort other why) is = absurd is
  no-end-runs txn low high event is = (tt, tt)

  no-ends-run : (txn low high : ℕ) (events : List Entry) → AllByRecursion (IsNoEnd txn) events → AllByRecursion (RunsFor low high) events
  no-ends-run txn low high [] all = tt
  no-ends-run txn low high (event ∷ events) all = (no-end-runs txn low high event all.0, no-ends-run txn low high events all.1)

  one-more : (asking : Asking) (askings : List Asking) → IsPartOf (asking ∷ []) (asking ∷ askings)
  one-more asking askings = λ weight.
      let one = sum_by-cons weight asking [] in
      let all = sum_by-cons weight asking askings in omega (arith, one, all)

  owned-halted : StopsPlainly → (a b : M) (asking : Asking) (why : HouseFault) → HaltsBeginning S asking a b why → HasOwned S a b (asking ∷ [])
  owned-halted plainly a b asking why (inl halts) =
      let stop = halts.2.stop in
      owned-by a b halts.0 stop.added (asking ∷ []) stop.adds
      (λ book is goes. (
        itself-part asking stop.added
            (halted-itself B stop.adds.items a.own b.own (trail_in a.house) (trail_in b.house) goes.front.more book halts.0 asking stop.added
            stop.adds.went stop.adds.entries stop.of_it halts.2.begun_by goes.front.is goes.fits),
        plainly halts.0 stop.added stop.unended,
        no-ends-run halts.0 (faults_in faults a.house) (faults_in faults b.house) stop.added stop.unended,
      ))
  owned-halted plainly a b asking why (inr (inl halts)) =
      owned-by a b 0 [] (asking ∷ []) (halts.1 0) (λ book is goes. (none-part [] (asking ∷ []) refl, tt, tt))
  owned-halted plainly a b asking why (inr (inr halts)) =
      owned-by a b 0 [] (asking ∷ []) (halts.1 0) (λ book is goes. (none-part [] (asking ∷ []) refl, tt, tt))

  opened-part : (asking : Asking) (reply : Reply) → IsPartOf (opened_in (asking ∷ []) (reply ∷ [])) (asking ∷ [])
  opened-part asking reply = by (is_some reply.ended)
    where
      by : (b : Bool) → IsPartOf (if b then asking ∷ [] else []) (asking ∷ [])
      by true = λ weight. omega arith
      by false = λ weight. omega arith

  pub owned-stopped : RepliesPlainly told → StopsPlainly → StoppingIsPlain S
  owned-stopped replied stopped before now [] replies why stops = absurd stops
  owned-stopped replied stopped before now (asking ∷ askings) [] why stops =
      owned-fewer before now (asking ∷ []) (asking ∷ askings) (one-more asking askings) (owned-halted stopped before now asking why stops)
  owned-stopped replied stopped before now (asking ∷ askings) (reply ∷ replies) why stops =
      owned-more before stops.0 now (asking ∷ []) askings
      (owned-fewer before stops.0 (opened_in (asking ∷ []) (reply ∷ [])) (asking ∷ []) (opened-part asking reply)
      (owned-one replied before stops.0 asking reply stops.1))
      (owned-stopped replied stopped stops.0 now askings replies why stops.2)
