-- The places of the commits go with the state: each transaction's ending is what the entry at its place says, and the
-- places are those of the endings by commit, rising.
use Rattle.std.proofs.Common.{◌≡◌, ℕ, zero, suc, ◌<◌, Option, Some, None, List, [], ◌∷◌, ◌++◌, length, map, refl, sym, ap, ◌∙◌, subst, arith}
use Rattle.std.specs.Prelude.{Bool, true, false, ◌&&◌, ◌||◌, option_and_then}
use Rattle.std.specs.Option.{option_map}
use Rattle.std.specs.List.{slice_get, list_any, AllByRecursion}
use Rattle.std.proofs.lemmas.List.Folds.{list_any-append}
use Rattle.hv_base.specs.declared.ids.Touch.{Touch}
use Rattle.hv_history.specs.declared.entry.Entry.{Entry}
use Rattle.hv_history.specs.declared.entry.Entry.TheVariants as entry
use Rattle.hv_history.specs.declared.state.Transaction.{Transaction}
use Rattle.hv_history.specs.declared.state.Ending.{Ending}
use Rattle.hv_history.specs.declared.state.Ending.TheVariants.{Committed, Aborted, Made, Dropped}
use Rattle.hv_history.specs.State.{State, numbered, changed, changed_at, while_open, unless_ended, started, given_id, committed, ended, opened, acted, after}
use Rattle.hv_book.specs.Notes.{Notes, noted, ending, is_open_note, is_open_in, add_if}
use Rattle.hv_book.specs.Briefs.{brief, end_of}
use Rattle.hv_book.specs.Commits.{touches_of_entry, touches_at, wrote_by, is_committed, commits_so, pass, passes_at, IsRising}
use Rattle.hv_book.proofs.TextLaws.{get-front, get-last, all-below, all-snoc, length-snoc}

-- ---- what stands at a place of a longer list

touches-front : (done more : List Entry) (p : ℕ) → p < length done → touches_at (done ++ more) p ≡ touches_at done p
touches-front done more p below = ap (option_and_then touches_of_entry) (get-front done more p below)

any-front : (passes : ℕ → List Touch → Bool) (done more : List Entry) (ps : List ℕ) → AllByRecursion (λ (p : ℕ). p < length done) ps
    → list_any (passes_at passes (done ++ more)) ps ≡ list_any (passes_at passes done) ps
any-front passes done more [] h = refl
any-front passes done more (p ∷ ps) h =
    ap (λ o. pass (passes p) o || list_any (passes_at passes (done ++ more)) ps) (touches-front done more p h.0)
    ∙ ap (λ b. passes_at passes done p || b) (any-front passes done more ps h.1)

-- the entry at the place of this ending says what the ending says
abbrev pub IsTold : List Entry → Option Ending → Type 0
IsTold done None = Unit {0}
IsTold done (Some e) = ((end_of e).at < length done) × (touches_at done (end_of e).at ≡ wrote_by (Some e))

abbrev pub EndIsTold : List Entry → Transaction → Type 0
EndIsTold done transaction = IsTold done transaction.ending

told-front : (done : List Entry) (event : Entry) (o : Option Ending) → IsTold done o → IsTold (done ++ event ∷ []) o
told-front done event None h = tt
told-front done event (Some e) h =
    let more = length-snoc done event in
    let below : (end_of e).at < length done = h.0 in
    (omega (arith, more, below), touches-front done (event ∷ []) (end_of e).at below ∙ h.1)

all-told : (done : List Entry) (event : Entry) (ts : List Transaction) → AllByRecursion (EndIsTold done) ts → AllByRecursion (EndIsTold (done ++ event ∷ [])) ts
all-told done event [] h = tt
all-told done event (t ∷ ts) h = (told-front done event t.ending h.0, all-told done event ts h.1)

-- ---- all and any over what is changed

module _ {A : Type 0} (P Q : A → Type 0) (f : A → A) (stays : (x : A) → P x → Q x) (goes : (x : A) → P x → Q (f x)) where
  all-stay : (xs : List A) → AllByRecursion P xs → AllByRecursion Q xs
  all-stay [] h = tt
  all-stay (x ∷ xs) h = (stays x h.0, all-stay xs h.1)

  all-changed_at : (xs : List A) (n : ℕ) → AllByRecursion P xs → AllByRecursion Q (changed_at f xs n)
  all-changed_at [] n h = tt
  all-changed_at (x ∷ xs) zero h = (goes x h.0, all-stay xs h.1)
  all-changed_at (x ∷ xs) (suc n) h = (stays x h.0, all-changed_at xs n h.1)

  pub all-changed : (xs : List A) (n : ℕ) → AllByRecursion P xs → AllByRecursion Q (changed f xs n)
  all-changed xs zero h = all-stay xs h
  all-changed xs (suc n) h = all-changed_at xs n h

module _ {A : Type 0} (p : A → Bool) (f : A → A) (same : (x : A) → p (f x) ≡ p x) where
  any-same_at : (xs : List A) (n : ℕ) → list_any p (changed_at f xs n) ≡ list_any p xs
  any-same_at [] n = refl
  any-same_at (x ∷ xs) zero = ap (λ b. b || list_any p xs) (same x)
  any-same_at (x ∷ xs) (suc n) = ap (λ b. p x || b) (any-same_at xs n)

  pub any-same : (xs : List A) (n : ℕ) → list_any p (changed f xs n) ≡ list_any p xs
  any-same xs zero = refl
  any-same xs (suc n) = any-same_at xs n

or-nothing : (a : Bool) → a ≡ (a || false)
or-nothing true = refl
or-nothing false = refl

or-swap : (a b : Bool) → (a || b) ≡ (b || a)
or-swap true true = refl
or-swap true false = refl
or-swap false true = refl
or-swap false false = refl

or-three : (a b c : Bool) → (a || (b || c)) ≡ ((a || b) || c)
or-three true b c = refl
or-three false b c = refl

module _ (passes : ℕ → List Touch → Bool) where
  -- an ending that is no commit passes no test
  other-end : (e : Ending) → is_committed passes (Some e) ≡ false → (t : Transaction) → commits_so passes (while_open (ended e) t) ≡ commits_so passes t
  other-end e fails t = by t.ending refl
    where
      by : (o : Option Ending) → t.ending ≡ o → is_committed passes (unless_ended o t (ended e t)).ending ≡ is_committed passes t.ending
      by None is = fails ∙ ap (is_committed passes) (sym is)
      by (Some x) is = refl

  same-end : (f : Transaction → Transaction) → ((t : Transaction) → (f t).ending ≡ t.ending) → (t : Transaction)
      → commits_so passes (while_open f t) ≡ commits_so passes t
  same-end f same t = by t.ending
    where
      by : (o : Option Ending) → is_committed passes (unless_ended o t (f t)).ending ≡ is_committed passes t.ending
      by None = ap (is_committed passes) (same t)
      by (Some x) = refl

  module _ (place : ℕ) (wrote : List Touch) where
    commit-first : (t : Transaction) (rest : Bool)
        → (commits_so passes (while_open (committed place wrote) t) || rest) ≡ ((commits_so passes t || rest) || (is_open_note (Some (brief t)) && passes place wrote))
    commit-first t rest = by t.ending refl
      where
        by : (o : Option Ending) → t.ending ≡ o
            → (is_committed passes (unless_ended o t (committed place wrote t)).ending || rest)
            ≡ ((is_committed passes t.ending || rest) || (is_open_note (Some (brief t)) && passes place wrote))
        by None is =
            or-swap (passes place wrote) rest
            ∙ ap (λ (x : Option Ending). (is_committed passes x || rest) || (is_open_note (Some (record { started = None; ending = option_map end_of x })) && passes place wrote)) (sym is)
        by (Some e) is =
            or-nothing (is_committed passes t.ending || rest)
            ∙ ap (λ (x : Option Ending). (is_committed passes t.ending || rest) || (is_open_note (Some (record { started = None; ending = option_map end_of x })) && passes place wrote)) (sym is)

    any-commit_at : (ts : List Transaction) (n : ℕ) → list_any (commits_so passes) (changed_at (while_open (committed place wrote)) ts n)
        ≡ (list_any (commits_so passes) ts || (is_open_note (slice_get (map brief ts) n) && passes place wrote))
    any-commit_at [] zero = refl
    any-commit_at [] (suc n) = refl
    any-commit_at (t ∷ ts) zero = commit-first t (list_any (commits_so passes) ts)
    any-commit_at (t ∷ ts) (suc n) =
        ap (λ b. commits_so passes t || b) (any-commit_at ts n)
        ∙ or-three (commits_so passes t) (list_any (commits_so passes) ts) (is_open_note (slice_get (map brief ts) n) && passes place wrote)

    any-commit : (ts : List Transaction) (n : ℕ) → list_any (commits_so passes) (changed (while_open (committed place wrote)) ts n)
        ≡ (list_any (commits_so passes) ts || (is_open_note (numbered (map brief ts) n) && passes place wrote))
    any-commit ts zero = or-nothing (list_any (commits_so passes) ts)
    any-commit ts (suc n) = any-commit_at ts n

any-add : {A : Type 0} (p : A → Bool) (b : Bool) (x : A) (xs : List A) → list_any p (add_if b x xs) ≡ (list_any p xs || (b && p x))
any-add p true x xs = list_any-append p xs (x ∷ []) ∙ ap (λ b. list_any p xs || b) (sym (or-nothing (p x)))
any-add p false x xs = or-nothing (list_any p xs)

-- ---- rising

rising-snoc : (ps : List ℕ) (p : ℕ) → IsRising ps → AllByRecursion (λ (other : ℕ). other < p) ps → IsRising (ps ++ p ∷ [])
rising-snoc [] p h below = (tt, tt)
rising-snoc (first ∷ ps) p h below = (all-snoc (λ (other : ℕ). first < other) ps p h.0 below.0, rising-snoc ps p h.1 below.1)

rising-add : (b : Bool) (ps : List ℕ) (p : ℕ) → IsRising ps → AllByRecursion (λ (other : ℕ). other < p) ps → IsRising (add_if b p ps)
rising-add true ps p h below = rising-snoc ps p h below
rising-add false ps p h below = h

below-add : (b : Bool) (ps : List ℕ) (p limit : ℕ) → p < limit → AllByRecursion (λ (other : ℕ). other < limit) ps → AllByRecursion (λ (other : ℕ). other < limit) (add_if b p ps)
below-add true ps p limit le below = all-snoc (λ (other : ℕ). other < limit) ps p below le
below-add false ps p limit le below = below

-- ---- the law

pub record AreCommits (done : List Entry) (ts : List Transaction) (ps : List ℕ) : Type 0 where
  pub told : AllByRecursion (EndIsTold done) ts
  pub below : AllByRecursion (λ (p : ℕ). p < length done) ps
  pub rising : IsRising ps
  pub same : (passes : ℕ → List Touch → Bool) → list_any (commits_so passes) ts ≡ list_any (passes_at passes done) ps

stay : (done : List Entry) (event : Entry) (ts : List Transaction) (ps : List ℕ) → AreCommits done ts ps → AreCommits (done ++ event ∷ []) ts ps
stay done event ts ps h =
    let more = length-snoc done event in
    record {
      told = all-told done event ts h.told;
      below = all-below ps (length done) (length (done ++ event ∷ [])) (omega (arith, more)) h.below;
      rising = h.rising;
      same = λ passes. h.same passes ∙ sym (any-front passes done (event ∷ []) ps h.below);
    }

module _ (done : List Entry) (event : Entry) (ts : List Transaction) (ps : List ℕ) (h : AreCommits done ts ps) where
  same-told : (f : Transaction → Transaction) → ((t : Transaction) → (f t).ending ≡ t.ending) → (t : Transaction) → EndIsTold done t → EndIsTold (done ++ event ∷ []) (while_open f t)
  same-told f same t told = by t.ending
    where
      by : (o : Option Ending) → IsTold (done ++ event ∷ []) (unless_ended o t (f t)).ending
      by None = subst (IsTold (done ++ event ∷ [])) (sym (same t)) (told-front done event t.ending told)
      by (Some x) = told-front done event t.ending told

  -- an entry that changes a transaction, and ends none
  changing : (f : Transaction → Transaction) → ((t : Transaction) → (f t).ending ≡ t.ending) → (n : ℕ) → AreCommits (done ++ event ∷ []) (changed (while_open f) ts n) ps
  changing f same n =
      let before = stay done event ts ps h in
      record {
        told = all-changed (EndIsTold done) (EndIsTold (done ++ event ∷ [])) (while_open f) (λ t told. told-front done event t.ending told) (same-told f same) ts n h.told;
        below = before.below;
        rising = before.rising;
        same = λ passes. any-same (commits_so passes) (while_open f) (same-end passes f same) ts n ∙ before.same passes;
      }

  end-told : (e : Ending) (f : Transaction → Transaction) → ((t : Transaction) → (f t).ending ≡ Some e) → (end_of e).at ≡ length done → touches_of_entry event ≡ wrote_by (Some e)
      → (t : Transaction) → EndIsTold done t → EndIsTold (done ++ event ∷ []) (while_open f t)
  end-told e f ends at says t told = by t.ending
    where
      here : IsTold (done ++ event ∷ []) (Some e)
      here =
          let more = length-snoc done event in
          (omega (arith, more, at), ap (touches_at (done ++ event ∷ [])) at ∙ ap (option_and_then touches_of_entry) (get-last done event) ∙ says)

      by : (o : Option Ending) → IsTold (done ++ event ∷ []) (unless_ended o t (f t)).ending
      by None = subst (IsTold (done ++ event ∷ [])) (sym (ends t)) here
      by (Some x) = told-front done event t.ending told

  -- an entry that ends a transaction, and not by a commit
  ending_by : (e : Ending) → (end_of e).at ≡ length done → touches_of_entry event ≡ wrote_by (Some e)
      → ((passes : ℕ → List Touch → Bool) → is_committed passes (Some e) ≡ false) → (n : ℕ) → AreCommits (done ++ event ∷ []) (changed (while_open (ended e)) ts n) ps
  ending_by e at says fails n =
      let before = stay done event ts ps h in
      record {
        told = all-changed (EndIsTold done) (EndIsTold (done ++ event ∷ [])) (while_open (ended e)) (λ t told. told-front done event t.ending told) (end-told e (ended e) (λ t. refl) at says) ts n h.told;
        below = before.below;
        rising = before.rising;
        same = λ passes. any-same (commits_so passes) (while_open (ended e)) (other-end passes e (fails passes)) ts n ∙ before.same passes;
      }

  committing : (place : ℕ) (wrote : List Touch) → place ≡ length done → touches_of_entry event ≡ Some wrote → (n : ℕ) (b : Bool) → b ≡ is_open_note (numbered (map brief ts) n)
      → AreCommits (done ++ event ∷ []) (changed (while_open (committed place wrote)) ts n) (add_if b place ps)
  committing place wrote at says n b was =
      let before = stay done event ts ps h in
      let more = length-snoc done event in
      let here : touches_at (done ++ event ∷ []) place ≡ Some wrote = ap (touches_at (done ++ event ∷ [])) at ∙ ap (option_and_then touches_of_entry) (get-last done event) ∙ says in
      record {
        told = all-changed (EndIsTold done) (EndIsTold (done ++ event ∷ [])) (while_open (committed place wrote)) (λ t told. told-front done event t.ending told)
            (end-told (Committed place wrote) (committed place wrote) (λ t. refl) at says) ts n h.told;
        below = below-add b ps place (length (done ++ event ∷ [])) (omega (arith, more, at)) before.below;
        rising = rising-add b ps place h.rising (subst (λ k. AllByRecursion (λ (other : ℕ). other < k) ps) (sym at) h.below);
        same = λ passes.
            any-commit passes place wrote ts n
            ∙ ap (λ c. list_any (commits_so passes) ts || (c && passes place wrote)) (sym was)
            ∙ ap (λ c. c || (b && passes place wrote)) (before.same passes)
            ∙ ap (λ o. list_any (passes_at passes (done ++ event ∷ [])) ps || (b && pass (passes place) o)) (sym here)
            ∙ sym (any-add (passes_at passes (done ++ event ∷ [])) b place ps);
      }

  opening : (session : List ℕ) (number : ℕ) (text : List ℕ) → AreCommits (done ++ event ∷ []) (ts ++ opened session number text ∷ []) ps
  opening session number text =
      let before = stay done event ts ps h in
      record {
        told = all-snoc (EndIsTold (done ++ event ∷ [])) ts (opened session number text) before.told tt;
        below = before.below;
        rising = before.rising;
        same = λ passes. list_any-append (commits_so passes) ts (opened session number text ∷ []) ∙ sym (or-nothing (list_any (commits_so passes) ts)) ∙ before.same passes;
      }

pub commits-next : (done : List Entry) (state : State) (notes : Notes) (event : Entry) → state.entries ≡ length done → notes.transactions ≡ map brief state.transactions
    → AreCommits done state.transactions notes.commits → AreCommits (done ++ event ∷ []) (after state event).transactions (noted state.entries event notes).commits
unfolding acted ending
commits-next done state notes (entry.Opened txn session number text) at same h =
    opening done (entry.Opened txn session number text) state.transactions notes.commits h session number text
commits-next done state notes (entry.Start txn statement) at same h =
    changing done (entry.Start txn statement) state.transactions notes.commits h (started state statement) (λ t. refl) txn.0
commits-next done state notes (entry.Given txn table write) at same h =
    changing done (entry.Given txn table write) state.transactions notes.commits h (given_id table.0 write.0) (λ t. refl) txn.0
commits-next done state notes (entry.Commit txn wrote) at same h =
    committing done (entry.Commit txn wrote) state.transactions notes.commits h state.entries wrote at refl txn.0 (is_open_in notes txn.0)
    (ap (λ ts. is_open_note (numbered ts txn.0)) same)
commits-next done state notes (entry.Abort txn cause) at same h =
    ending_by done (entry.Abort txn cause) state.transactions notes.commits h (Aborted state.entries cause) at refl (λ passes. refl) txn.0
commits-next done state notes (entry.Create txn table) at same h =
    ending_by done (entry.Create txn table) state.transactions notes.commits h (Made state.entries table.0) at refl (λ passes. refl) txn.0
commits-next done state notes (entry.Drop txn table) at same h =
    ending_by done (entry.Drop txn table) state.transactions notes.commits h (Dropped state.entries table.0) at refl (λ passes. refl) txn.0
commits-next done state notes (entry.Boot run) at same h = stay done (entry.Boot run) state.transactions notes.commits h
commits-next done state notes (entry.Asked job table partition kind by) at same h = stay done (entry.Asked job table partition kind by) state.transactions notes.commits h
commits-next done state notes (entry.Picked job watermark) at same h = stay done (entry.Picked job watermark) state.transactions notes.commits h
commits-next done state notes (entry.Published job low high mark) at same h = stay done (entry.Published job low high mark) state.transactions notes.commits h
commits-next done state notes (entry.Empty job) at same h = stay done (entry.Empty job) state.transactions notes.commits h
commits-next done state notes (entry.Cleaned job) at same h = stay done (entry.Cleaned job) state.transactions notes.commits h
commits-next done state notes (entry.Next txn statement number text) at same h = stay done (entry.Next txn statement number text) state.transactions notes.commits h
commits-next done state notes (entry.Did txn statement wrote) at same h = stay done (entry.Did txn statement wrote) state.transactions notes.commits h
commits-next done state notes (entry.Alter txn table) at same h = stay done (entry.Alter txn table) state.transactions notes.commits h
commits-next done state notes (entry.Failed job cause) at same h = stay done (entry.Failed job cause) state.transactions notes.commits h
commits-next done state notes (entry.Forgot table write) at same h = stay done (entry.Forgot table write) state.transactions notes.commits h

-- ---- one transaction

told-at : (done : List Entry) (ts : List Transaction) (n : ℕ) (t : Transaction) → AllByRecursion (EndIsTold done) ts → slice_get ts n ≡ Some t → EndIsTold done t
told-at done [] n t h e = cc
told-at done (x ∷ ts) zero t h e = let same : x ≡ t = cc in subst (EndIsTold done) same h.0
told-at done (x ∷ ts) (suc n) t h e = told-at done ts n t h.1 e

pub told-of : (done : List Entry) (ts : List Transaction) (n : ℕ) (t : Transaction) → AllByRecursion (EndIsTold done) ts → numbered ts n ≡ Some t → EndIsTold done t
told-of done ts zero t h e = cc
told-of done ts (suc n) t h e = told-at done ts n t h e
