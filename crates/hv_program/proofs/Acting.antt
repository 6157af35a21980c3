-- One action, from what a session answers.
use Rattle.std.proofs.Common.{◌≡◌, ◌⊎◌, ℕ, ◌≤◌, Bool, true, false, cond, Option, Some, None, Result, Ok, Err, IfOk, IfErr, IsErrAnd, List, [], ◌∷◌, ◌++◌, length, map, fold, inl, inr, refl, sym, ap, ◌∙◌, subst, arith}
use Rattle.std.specs.List.{AllByRecursion, Contains}
use Rattle.std.specs.Option.{option_map}
use Rattle.std.proofs.lemmas.List.{append-nil, append_cancel_left}
use Rattle.std.proofs.lemmas.List.Elements.{Contains-append_right}
use Rattle.hv_base.specs.declared.gate.Stage.{Stage}
use Rattle.hv_base.specs.declared.gate.Stage.TheVariants as stage
use Rattle.hv_shelf.specs.Disk.{Store}
use Rattle.hv_history.specs.declared.entry.Entry.{Entry}
use Rattle.hv_history.specs.declared.entry.Entry.TheVariants as entry
use Rattle.hv_history.specs.State.{State, state_of, after}
use Rattle.hv_history.specs.Legal.{Fits, profile}
use Rattle.hv_journal.specs.Appending.{Holds}
use Rattle.hv_script.specs.declared.actions.Action.{Action}
use Rattle.hv_script.specs.declared.actions.Action.TheVariants as action
use Rattle.hv_script.specs.declared.actions.Session.{Session}
use Rattle.hv_script.specs.declared.actions.Statement.{Statement}
use Rattle.hv_stands.specs.Running.{Asking, next_number, opening, starting, IsOf, AreOf}
use Rattle.hv_stands.specs.Statements.{AllFitting}
use Rattle.hv_stands.proofs.Numbers.{numbered-within}
use Rattle.hv_session.specs.hv_beginning.specs.hv_steps.specs.hv_table_reader.specs.hv_acts.specs.hv_telling.specs.hv_house.specs.declared.fault.HouseFault.{HouseFault}
use Rattle.hv_session.specs.hv_beginning.specs.hv_steps.specs.hv_table_reader.specs.hv_acts.specs.hv_telling.specs.hv_house.specs.declared.fault.HouseFault.TheVariants as fault
use Rattle.hv_session.specs.hv_beginning.specs.hv_steps.specs.hv_table_reader.specs.hv_acts.specs.hv_telling.specs.hv_house.specs.declared.house.House.{House}
use Rattle.hv_session.specs.hv_beginning.specs.hv_steps.specs.hv_table_reader.specs.hv_acts.specs.hv_telling.specs.hv_house.specs.House.{entries_of, BeginFits, beginning_of, Leaves}
use Rattle.hv_session.specs.hv_beginning.specs.hv_steps.specs.hv_table_reader.specs.hv_acts.specs.hv_telling.specs.Telling.{IsWhole, IsToldHouse, StillOpens}
use Rattle.hv_session.specs.hv_beginning.specs.hv_steps.specs.hv_table_reader.specs.hv_acts.specs.hv_telling.proofs.Told.{told-stays}
use Rattle.hv_session.specs.hv_beginning.specs.hv_steps.specs.hv_table_reader.specs.hv_acts.specs.hv_telling.proofs.Opens.{whole-opens}
use Rattle.hv_session.specs.hv_beginning.specs.hv_steps.specs.Ending.{AddsOf, HasStopped, KeepsCount, IsUndamaged, IsAskBy, AddsNoneOrOne, HasReplied}
use Rattle.hv_session.specs.hv_beginning.specs.hv_steps.specs.hv_table_reader.specs.hv_acts.specs.Answers.{OpensNone}
use Rattle.hv_session.specs.hv_beginning.specs.hv_steps.specs.hv_table_reader.specs.hv_acts.specs.Meant.{IsNoEnd}
use Rattle.hv_session.specs.hv_beginning.specs.hv_steps.specs.declared.ready.Reply.{Reply}
use Rattle.hv_session.specs.declared.paused.Paused.{Paused}
use Rattle.hv_session.specs.declared.paused.Taken.{Taken}
use Rattle.hv_session.specs.declared.paused.Taken.TheVariants as taken
use Rattle.hv_session.specs.Taking.{IsHeld, HoldsAt, HasReadied, IsReplied, WentThrough, IsKept, IsKeptIn, IsTakenAs, IsFinished}
use Rattle.hv_session.specs.Ways.{StopsTaken}
use Rattle.hv_program.specs.declared.held.Held.{Held}
use Rattle.hv_program.specs.Change.{from_to}
use Rattle.hv_program.specs.Doing.{Waiting, Standing, is_session, waiting_in, asking_of, ReleasesOne}
use Rattle.hv_program.specs.Own.{Grows, IsOfRun}
use Rattle.hv_program.specs.Keeping.{waiting_of, paused_in, held_without, IsHeldIn, standing_of, AreHeld, StandsTruly, IsTrulyHeldIn, AreTrulyHeld}
use Rattle.hv_program.specs.Running.{IsLater, Acts, txn_of_waiting, number_of, AreOfSome, AreNoEnds, IsOpenedFor, Stops, OpensOf}
use Rattle.hv_program.proofs.HeldStay.{all-stay, all-true, held-within}
use Rattle.hv_program.proofs.HeldLists.{found-waits, none-waits, waits-without, waits-last, none-left, all-without, all-found, all-last, all-map, order-without, order-last, found-apart, IsApart, IsBelow}
use Rattle.hv_program.proofs.OwnEntries.{all-append, unlost-all, unlost-or-none, not-lost, state-of, more-fits, of-run, grows-none}
use Rattle.hv_program.proofs.Counted.{grown-transactions}

-- ---- the others that are held

apart-next : (before : List Entry) (held : Held) → IsHeldIn before held → IsApart (next_number before) held
apart-next before held is = λ e. absurd (omega (arith, held-within before held is, e))

below-next : (before : List Entry) (txn : ℕ) → txn ≡ next_number before → (held : Held) → IsHeldIn before held → IsBelow txn held
below-next before txn at held is = omega (arith, held-within before held is, at)

pub next-apart : (before : List Entry) (helds : List Held) → AreHeld before helds → AllByRecursion (IsApart (next_number before)) helds
next-apart before helds h = all-map (IsHeldIn before) (IsApart (next_number before)) helds (apart-next before) h.each

begun-after : (before now : List Entry) (helds : List Held) (txn low high : ℕ) → AddsOf txn low high before now
    → (helds ≡ []) ⊎ ((state_of before).openings.only_lost ≡ false) → (helds ≡ []) ⊎ ((state_of now).openings.only_lost ≡ false)
begun-after before now helds txn low high adds (inl none) = inl none
begun-after before now helds txn low high adds (inr unlost) =
    inr (ap (λ (s : State). s.openings.only_lost) (state-of before adds.added now adds.book) ∙ unlost-all (state_of before) txn adds.added unlost adds.of_it)

pub held-after : (before now : List Entry) (helds : List Held) (txn low high : ℕ) → AllFitting now → AddsOf txn low high before now
    → AllByRecursion (IsApart txn) helds → AreHeld before helds → AreHeld now helds
held-after before now helds txn low high fit adds apart h = record {
  each = subst (λ (book : List Entry). AllByRecursion (IsHeldIn book) helds) (sym adds.book)
      (all-stay before adds.added txn helds (subst AllFitting adds.book fit) adds.of_it apart h.each);
  apart = h.apart;
  begun = begun-after before now helds txn low high adds h.begun;
}

truly-after : (before now : List Entry) (helds : List Held) (txn low high : ℕ) → AllFitting now → AddsOf txn low high before now → AllByRecursion (IsApart txn) helds
    → AllByRecursion (IsTrulyHeldIn before) helds → AllByRecursion (IsTrulyHeldIn now) helds
truly-after before now helds txn low high fits adds apart truly =
    subst (λ (book : List Entry). AllByRecursion (IsTrulyHeldIn book) helds) (sym adds.book)
    (all-true before adds.added txn helds (subst AllFitting adds.book fits) adds.of_it apart truly)

-- ---- one more that is held

begun-here : (before now : List Entry) (asking : Asking) (paused : Paused) (low high : ℕ) → AddsOf (next_number before) low high before now
    → paused.way.txn.0 ≡ next_number before → IsHeld now asking paused → (state_of now).openings.only_lost ≡ false
begun-here before now asking paused low high adds at h =
    by (unlost-or-none (state_of before) (next_number before) adds.added adds.of_it)
  where
    behind : state_of now ≡ fold after (state_of before) adds.added
    behind = state-of before adds.added now adds.book

    by : ((fold after (state_of before) adds.added).openings.only_lost ≡ false)
        ⊎ (length (fold after (state_of before) adds.added).transactions ≤ length (state_of before).transactions)
        → (state_of now).openings.only_lost ≡ false
    by (inl unlost) = ap (λ (s : State). s.openings.only_lost) behind ∙ unlost
    by (inr few) =
        let within = numbered-within (state_of now).transactions paused.way.txn.0 _ h.under_way.here in
        absurd (omega (arith, few, within.1, at, ap (λ (s : State). length s.transactions) behind))

pub held-one-more : (before now : List Entry) (helds : List Held) (held : Held) (asking : Asking) (low high : ℕ) → AllFitting now
    → AddsOf (next_number before) low high before now → AreHeld before helds
    → (held.paused.way.txn.0 ≡ next_number before) × IsHeld now asking held.paused → AreHeld now (helds ++ held ∷ [])
held-one-more before now helds held asking low high fit adds h kept =
    let all = held-after before now helds (next_number before) low high fit adds (next-apart before helds h) h in
    record {
      each = all-last (IsHeldIn now) helds held all.each (inl (asking, kept.1));
      apart = order-last helds held h.apart
          (all-map (IsHeldIn before) (IsBelow held.paused.way.txn.0) helds (below-next before held.paused.way.txn.0 kept.0) h.each);
      begun = inr (begun-here before now asking held.paused low high adds kept.0 kept.1);
    }

-- ---- one that is let go

let-go-begun : (before : List Entry) (name : List ℕ) (helds : List Held) → (helds ≡ []) ⊎ ((state_of before).openings.only_lost ≡ false)
    → (held_without name helds ≡ []) ⊎ ((state_of before).openings.only_lost ≡ false)
let-go-begun before name helds (inl none) = inl (ap (held_without name) none)
let-go-begun before name helds (inr unlost) = inr unlost

pub let-go-held : (before : List Entry) (name : List ℕ) (helds : List Held) → AreHeld before helds → AreHeld before (held_without name helds)
let-go-held before name helds h = record {
  each = all-without (IsHeldIn before) name helds h.each;
  apart = order-without name helds h.apart;
  begun = let-go-begun before name helds h.begun;
}

pub let-go-true : (before : List Entry) (name : List ℕ) (helds : List Held) (paused : Paused) → paused_in name helds ≡ Some paused
    → AllByRecursion (IsTrulyHeldIn before) helds → StandsTruly before paused
let-go-true before name helds paused found truly = all-found (StandsTruly before) name helds paused truly found

-- one is held, so that no transaction is lost any more
some-begun : (before : List Entry) (name : List ℕ) (helds : List Held) (paused : Paused) → paused_in name helds ≡ Some paused
    → (helds ≡ []) ⊎ ((state_of before).openings.only_lost ≡ false) → (state_of before).openings.only_lost ≡ false
some-begun before name helds paused found (inl none) =
    let wrong : None ≡ Some paused = sym (ap (paused_in name) none) ∙ found in cc
some-begun before name helds paused found (inr unlost) = unlost

-- ---- what was added, twice told

pub same-added : (before now these those : List Entry) → now ≡ before ++ these → now ≡ before ++ those → these ≡ those
same-added before now these those one other = append_cancel_left before these those (sym one ∙ other)

-- the entries of a statement that was taken up
opened-of-run : (before now added : List Entry) (asking : Asking) (low high : ℕ) → AllFitting now → AddsOf (next_number before) low high before now
    → now ≡ before ++ opening before asking ∷ added → AreOf (next_number before) added → AllByRecursion IsUndamaged added
    → AllByRecursion (IsOfRun low high) (opening before asking ∷ added)
opened-of-run before now added asking low high fit adds is of_it undamaged =
    let all = opening before asking ∷ added in
    let counts : AllByRecursion (KeepsCount low high) all =
    subst (AllByRecursion (KeepsCount low high)) (same-added before now adds.added all adds.book is) adds.counts in
    let fits = more-fits before all now is fit in
    of-run low high all counts (tt, undamaged)
    (tt, not-lost (after (state_of before) (opening before asking)) (next_number before) added refl of_it fits.1)

opens-it : (before now added : List Entry) (asking : Asking) → now ≡ before ++ opening before asking ∷ added → Contains now (opening before asking)
opens-it before now added asking is =
    subst (λ (book : List Entry). Contains book (opening before asking)) (sym is) (Contains-append_right before _ _ (0, omega arith, refl))

same-grows : (low high : ℕ) (before now : List Entry) → now ≡ before → Grows low high before now
same-grows low high before now same = subst (Grows low high before) (sym same) (grows-none low high before)

-- ---- a statement that was taken up

module _ (low high : ℕ) (before now : List Entry) (waiting : List Waiting) (statement : Statement) where
  abbrev standing : Standing
  standing = record { book = before; waiting = waiting }

  abbrev standing-now : Standing
  standing-now = record { book = now; waiting = waiting }

  went-through : (reply : List ℕ) (refused : Bool) (ended : Option ℕ) → AllFitting now → AddsOf (next_number before) low high before now
      → WentThrough before now (asking_of statement) statement.hold reply refused ended → Acts (from_to low high) standing standing-now (action.Run statement) reply refused
  went-through reply refused ended fit adds w = record {
    grows = record {
      more = opening before (asking_of statement) ∷ w.added;
      book_is = w.book;
      of_run = opened-of-run before now w.added (asking_of statement) low high fit adds w.book w.of_it w.undamaged;
    };
    done = λ start behind. inl (record {
      goes = inl (record {
        added = w.added;
        goes = w.book;
        tree = w.tree;
        runs = w.runs;
        starts = w.starts;
        of_it = w.of_it;
        in_time = w.in_time;
        is_answer = record {
          own = grown-transactions start before behind.grown.0 behind.grown.1;
          was_opened = opens-it before now w.added (asking_of statement) w.book;
          ended = ended;
          answered = w.answered;
        };
        answered_then = w.answered;
        in_order = w.in_order;
      });
      waiting_same = refl;
    });
  }

  pub acts-replied : (reply : List ℕ) (refused : Bool) (ended : Option ℕ) → AllFitting now → AddsOf (next_number before) low high before now
      → IsReplied before now (asking_of statement) statement.hold reply refused ended → Acts (from_to low high) standing standing-now (action.Run statement) reply refused
  acts-replied reply refused ended fit adds (inl w) = went-through reply refused ended fit adds w
  acts-replied reply refused ended fit adds (inr (inl n)) = record {
    grows = same-grows low high before now n.book;
    done = λ start behind. inl (record {
      goes = inr (inl (n.book, (n.fault.fault, n.fault.found), record { fault = n.fault; refusal = n.is_refused }));
      waiting_same = refl;
    });
  }
  acts-replied reply refused ended fit adds (inr (inr (inl f))) = record {
    grows = same-grows low high before now f.book;
    done = λ start behind. inl (record {
      goes = inr (inr (inl (f.book, f.lacks, record { line_is = f.line; refusal = f.is_refused })));
      waiting_same = refl;
    });
  }
  acts-replied reply refused ended fit adds (inr (inr (inr m))) = record {
    grows = same-grows low high before now m.book;
    done = λ start behind. inl (record {
      goes = inr (inr (inr (m.book, record { line_is = m.line; refusal = m.is_refused })));
      waiting_same = refl;
    });
  }

-- ---- one that is held from then on

-- what stands behind the opening of one that is held
record IsQuiet (txn : ℕ) (added : List Entry) : Type 0 where
  of_it : AreOf txn added
  undamaged : AllByRecursion IsUndamaged added

quiet-start : (txn : ℕ) (added : List Entry) → added ≡ starting txn ∷ [] → IsQuiet txn added
quiet-start txn added is = subst (IsQuiet txn) (sym is) (record { of_it = (refl, tt); undamaged = (tt, tt) })

-- the aborts that it asks for are its own entries
asks-quiet : (txn : ℕ) (asks : List Entry) → AllByRecursion (IsAskBy txn) asks → IsQuiet txn asks
asks-quiet txn [] all = record { of_it = tt; undamaged = tt }
asks-quiet txn (event ∷ asks) all =
    let rest : IsQuiet txn asks = asks-quiet txn asks all.1 in
    record {
      of_it = (subst (IsOf txn) (sym all.0.event_is) refl, rest.of_it);
      undamaged = (subst IsUndamaged (sym all.0.event_is) tt, rest.undamaged);
    }

id-quiet : (txn : ℕ) (ids : List Entry) → AddsNoneOrOne txn ids → IsQuiet txn ids
id-quiet txn ids (inl none) = subst (IsQuiet txn) (sym none) (record { of_it = tt; undamaged = tt })
id-quiet txn ids (inr (inl id)) = subst (IsQuiet txn) (sym id.2) (record { of_it = (refl, tt); undamaged = (tt, tt) })
id-quiet txn ids (inr (inr job)) = subst (IsQuiet txn) (sym job.4) (record { of_it = (refl, tt); undamaged = (tt, tt) })

quiet-ready : (txn : ℕ) (added : List Entry) → HasReadied txn added → IsQuiet txn added
quiet-ready txn added h =
    let asks : IsQuiet txn h.0 = asks-quiet txn h.0 h.2 in
    let ids : IsQuiet txn h.1 = id-quiet txn h.1 h.3 in
    subst (IsQuiet txn) (sym h.4) (record {
      of_it = (refl, all-append (IsOf txn) h.0 h.1 asks.of_it ids.of_it);
      undamaged = (tt, all-append IsUndamaged h.0 h.1 asks.undamaged ids.undamaged);
    })

quiet : (hold : Option Stage) (txn : ℕ) (added : List Entry) → HoldsAt hold txn added → IsQuiet txn added
quiet None txn added h = absurd h
quiet (Some stage.Start) txn added h = quiet-start txn added h
quiet (Some stage.Read) txn added h = quiet-start txn added h
quiet (Some stage.Commit) txn added h = quiet-ready txn added h
quiet (Some stage.Taken) txn added h = absurd h
quiet (Some stage.Replied) txn added h = absurd h

pub acts-kept : (low high : ℕ) (before now : List Entry) (helds : List Held) (statement : Statement) (held : Held)
    → AllFitting now → AddsOf (next_number before) low high before now → held.session ≡ statement.session.name
    → IsKept before now (asking_of statement) statement.hold held.paused
    → Acts (from_to low high) (record { book = before; waiting = map waiting_of helds }) (record { book = now; waiting = map waiting_of (helds ++ held ∷ []) })
    (action.Run statement) [] false
acts-kept low high before now helds statement held fit adds named k =
    let is = quiet statement.hold (next_number before) k.added k.at_hold in
    let one : waiting_of held ≡ record { session = statement.session.name; txn = next_number before } =
    ap (λ session. record { session = session; txn = held.paused.way.txn.0 }) named
    ∙ ap (λ txn. record { session = statement.session.name; txn = txn }) k.txn_is in
    record {
      grows = record {
        more = opening before (asking_of statement) ∷ k.added;
        book_is = k.book;
        of_run = opened-of-run before now k.added (asking_of statement) low high fit adds k.book is.of_it is.undamaged;
      };
      done = λ start behind. inr (record {
        goes = record {
          added = k.added;
          goes = k.book;
          tree = held.paused.tree;
          runs = k.runs;
          can = k.can;
          at_hold = k.at_hold;
          own = grown-transactions start before behind.grown.0 behind.grown.1;
          was_opened = opens-it before now k.added (asking_of statement) k.book;
          in_order = k.in_order;
          up_to_hold = k.up_to_hold;
        };
        waits = waits-last helds held ∙ ap (λ (w : Waiting). map waiting_of helds ++ w ∷ []) one;
        nothing = refl;
        accepted = refl;
      });
    }

-- ---- a release

waiting-same : (x y : Waiting) → Some x ≡ Some y → x ≡ y
waiting-same x y e = cc

waiting-by : (P : Waiting → Type 0) (b : Bool) (first : Waiting) (rest : Option Waiting) (w : Waiting) → P first → (rest ≡ Some w → P w)
    → cond b (Some first) rest ≡ Some w → P w
waiting-by P true first rest w here next e = subst P (waiting-same first w e) here
waiting-by P false first rest w here next e = next e

all-waiting : (P : Waiting → Type 0) (name : List ℕ) (ws : List Waiting) (w : Waiting) → AllByRecursion P ws → waiting_in name ws ≡ Some w → P w
all-waiting P name [] w all e = cc
all-waiting P name (first ∷ ws) w all e = waiting-by P (is_session name first) first (waiting_in name ws) w all.0 (all-waiting P name ws w all.1) e

pub acts-finished : (low high : ℕ) (before now : List Entry) (helds : List Held) (session : Session) (paused : Paused) (reply : List ℕ) (refused : Bool) (ended : Option ℕ)
    → AllFitting now → AreHeld before helds → paused_in session.name helds ≡ Some paused → AddsOf paused.way.txn.0 low high before now
    → IsFinished before now paused.way.txn.0 reply refused ended
    → Acts (from_to low high) (record { book = before; waiting = map waiting_of helds }) (record { book = now; waiting = map waiting_of (held_without session.name helds) })
    (action.Release session) reply refused
acts-finished low high before now helds session paused reply refused ended fit h found adds f =
    let name = session.name in
    let waits = found-waits name helds paused found in
    let unlost = some-begun before name helds paused found h.begun in
    let counts = subst (AllByRecursion (KeepsCount low high)) (same-added before now adds.added f.added adds.book f.book) adds.counts in
    record {
      grows = record {
        more = f.added;
        book_is = f.book;
        of_run = of-run low high f.added counts f.undamaged
            (not-lost (state_of before) paused.way.txn.0 f.added unlost f.of_it (more-fits before f.added now f.book fit));
      };
      done = λ start behind.
          subst (λ (o : Option Waiting). ReleasesOne (from_to start now) (record { book = before; waiting = map waiting_of helds })
          (record { book = now; waiting = map waiting_of (held_without name helds) }) name o reply refused) (sym waits.is) (
            record {
              added = f.added;
              goes = f.book;
              of_it = subst (λ (txn : ℕ). AreOf txn f.added) (sym waits.txn_is) f.of_it;
              own = all-waiting (IsLater start) name (map waiting_of helds) waits.waiting behind.later waits.is;
              ended = ended;
              answered = subst (λ (txn : ℕ). HasReplied now txn reply refused ended) (sym waits.txn_is) f.answered;
              answered_then = subst (λ (txn : ℕ). HasReplied now txn reply refused ended) (sym waits.txn_is) f.answered;
              in_order = f.in_order;
            },
            waits-without name helds,
          );
    }

-- nothing is held there
pub acts-nothing : (low high : ℕ) (book : List Entry) (helds : List Held) (session : Session) → paused_in session.name helds ≡ None
    → Acts (from_to low high) (record { book = book; waiting = map waiting_of helds }) (record { book = book; waiting = map waiting_of (held_without session.name helds) })
    (action.Release session) [] false
acts-nothing low high book helds session none = record {
  grows = grows-none low high book;
  done = λ start behind.
      subst (λ (o : Option Waiting). ReleasesOne (from_to start book) (record { book = book; waiting = map waiting_of helds })
      (record { book = book; waiting = map waiting_of (held_without session.name helds) }) session.name o [] false) (sym (none-waits session.name helds none))
      (ap (λ (hs : List Held). record { book = book; waiting = map waiting_of hs }) (none-left session.name helds none), refl, refl);
}

-- a barrier is nothing to a run
pub acts-barrier : (low high : ℕ) (book : List Entry) (helds : List Held) (reply : Reply) → reply ≡ record { text = []; refused = false; ended = None }
    → Acts (from_to low high) (record { book = book; waiting = map waiting_of helds }) (record { book = book; waiting = map waiting_of helds })
    action.Barrier reply.text reply.refused
acts-barrier low high book helds reply said = record {
  grows = grows-none low high book;
  done = λ start behind. (refl, ap (λ (r : Reply). r.text) said, ap (λ (r : Reply). r.refused) said);
}

-- ---- where the run stops

none-of : (number : Option ℕ) → AreOfSome number []
none-of None = refl
none-of (Some txn) = tt

opens-none : (act : Action) → OpensOf act []
opens-none (action.Announce session) = tt
opens-none action.Barrier = tt
opens-none (action.Run statement) = tt
opens-none (action.Release session) = tt
opens-none action.Compact = tt
opens-none action.Clean = tt

no-ends : (number : Option ℕ) → AreNoEnds number []
no-ends None = tt
no-ends (Some txn) = tt

-- before anything was done
pub stops-before : {Told : Type 0} (told : Option Store) (before : Standing) (act : Action) → Holds told before.book → Stops Told fault.NoMemory told before act before.book
stops-before told before act holds = record {
  halfway = record {
    added = [];
    book = sym (append-nil before.book);
    of_it = inl (none-of (number_of before act));
    fits = tt;
    legal = λ is. record { fit = tt; truthful = tt };
    unended = no-ends (number_of before act);
    opens = opens-none act;
  };
  leaves = ([], inl (record { of_it = none-of (number_of before act); opens = tt; few = omega arith; fit = tt }), holds);
}

some-of : (number : Option ℕ) (txn : ℕ) (events : List Entry) → number ≡ Some txn → AreOf txn events → AreOfSome number events
some-of number txn events is of_it = subst (λ (o : Option ℕ). AreOfSome o events) (sym is) of_it

some-ends : (number : Option ℕ) (txn : ℕ) (events : List Entry) → number ≡ Some txn → AllByRecursion (IsNoEnd txn) events → AreNoEnds number events
some-ends number txn events is unended = subst (λ (o : Option ℕ). AreNoEnds o events) (sym is) unended

-- what opens none opens none but the action's
none-opened : (act : Action) (event : Entry) → OpensNone event → IsOpenedFor act event
none-opened act (entry.Opened txn session number text) none = absurd none
none-opened act event none = tt

all-opened : (act : Action) (events : List Entry) → AllByRecursion OpensNone events → AllByRecursion (IsOpenedFor act) events
all-opened act [] none = tt
all-opened act (event ∷ events) none = (none-opened act event none.0, all-opened act events none.1)

-- in a statement
pub stops-in : {D : Type 0} (told : D → Option Store) (txn : ℕ) (why : HouseFault) (before now : House D) (waiting : List Waiting) (act : Action)
    → number_of (record { book = entries_of before; waiting = waiting }) act ≡ Some txn → (h : HasStopped told txn why before now) → OpensOf act h.added
    → Stops (IsToldHouse told before) why (told now.shelf) (record { book = entries_of before; waiting = waiting }) act (entries_of now)
stops-in told txn why before now waiting act is h opens = record {
  halfway = record {
    added = h.added;
    book = h.book;
    of_it = inl (some-of _ txn h.added is h.of_it);
    fits = h.fits;
    legal = h.legal;
    unended = some-ends _ txn h.added is h.unended;
    opens = opens;
  };
  leaves = (
    h.further,
    inl (record {
      of_it = some-of _ txn h.further is h.further_of_it;
      opens = all-opened act h.further h.unopened;
      few = h.few;
      fit = h.fit;
    }),
    h.leaves,
  );
}

-- or where it was to begin
begins-none : {Told : Type 0} (why : HouseFault) (told : Option Store) (statement : Statement) (standing : Standing) (now : List Entry) → now ≡ standing.book
    → BeginFits standing.book (asking_of statement) → Leaves why (beginning_of standing.book (asking_of statement)) told now
    → Stops Told why told standing (action.Run statement) now
begins-none why told statement standing now same fits leaves = record {
  halfway = record {
    added = [];
    book = same ∙ sym (append-nil standing.book);
    of_it = inl tt;
    fits = tt;
    legal = λ is. record { fit = tt; truthful = tt };
    unended = tt;
    opens = tt;
  };
  leaves = (beginning_of standing.book (asking_of statement), inr (record { same = same; fits = fits; further_is = refl }), leaves);
}

-- or where it was to be opened alone
opening-none : {Told : Type 0} (why : HouseFault) (told : Option Store) (statement : Statement) (book : List Entry) (waiting : List Waiting) (now : List Entry) → now ≡ book
    → Fits profile (state_of book) (opening book (asking_of statement)) → Leaves why (opening book (asking_of statement) ∷ []) told now
    → Stops Told why told (record { book = book; waiting = waiting }) (action.Run statement) now
opening-none why told statement book waiting now same fits leaves = record {
  halfway = record {
    added = [];
    book = same ∙ sym (append-nil book);
    of_it = inl tt;
    fits = tt;
    legal = λ is. record { fit = tt; truthful = tt };
    unended = tt;
    opens = tt;
  };
  leaves = (
    opening book (asking_of statement) ∷ [],
    inl (record {
      of_it = (refl, tt);
      opens = ((refl, refl, refl), tt);
      few = omega arith;
      fit = (subst (λ (b : List Entry). Fits profile (state_of b) (opening book (asking_of statement))) (sym same) fits, tt);
    }),
    leaves,
  );
}

pub stops-taken : {D T : Type 0} (told : D → Option Store) (before now : House D) (waiting : List Waiting) (statement : Statement) (result : Result T HouseFault)
    → IfErr result (λ why. StopsTaken told (asking_of statement) why before now)
    → IfErr result (λ why. Stops (IsToldHouse told before) why (told now.shelf) (record { book = entries_of before; waiting = waiting }) (action.Run statement) (entries_of now))
stops-taken told before now waiting statement (Ok x) stops = tt
stops-taken told before now waiting statement (Err why) (inl stopped) = stops-in told (next_number (entries_of before)) why before now waiting (action.Run statement) refl stopped.0 stopped.1
stops-taken told before now waiting statement (Err why) (inr (inr opens)) =
    opening-none why (told now.shelf) statement (entries_of before) waiting (entries_of now) opens.book opens.fits opens.leaves
stops-taken told before now waiting statement (Err why) (inr (inl begins)) =
    begins-none why (told now.shelf) statement (record { book = entries_of before; waiting = waiting }) (entries_of now) begins.book begins.fits begins.leaves

-- what a call that failed leaves is what is handed on
pub stops-residual : {D T : Type 0} (told : D → Option Store) (before now : House D) (waiting : List Waiting) (statement : Statement) (why : HouseFault) (result : Result T HouseFault)
    → IsErrAnd result (λ e. e ≡ why) → StopsTaken told (asking_of statement) why before now
    → IfErr result (λ w. Stops (IsToldHouse told before) w (told now.shelf) (record { book = entries_of before; waiting = waiting }) (action.Run statement) (entries_of now))
stops-residual told before now waiting statement why (Ok x) left stops = tt
stops-residual {T = T} told before now waiting statement why (Err w) left stops =
    subst (λ (e : HouseFault). Stops (IsToldHouse told before) e (told now.shelf) (record { book = entries_of before; waiting = waiting }) (action.Run statement) (entries_of now)) (sym left)
    (stops-taken {T = T} told before now waiting statement (Err why) stops)

pub number-found : (book : List Entry) (helds : List Held) (session : Session) (paused : Paused) → paused_in session.name helds ≡ Some paused
    → number_of (record { book = book; waiting = map waiting_of helds }) (action.Release session) ≡ Some paused.way.txn.0
number-found book helds session paused found =
    let waits = found-waits session.name helds paused found in
    ap (option_map txn_of_waiting) waits.is ∙ ap Some waits.txn_is

-- memory lacked before that
pub stops-first : {D T : Type 0} (told : D → Option Store) (house : House D) (waiting : List Waiting) (act : Action) (result : Result T HouseFault)
    → IsErrAnd result (λ e. e ≡ fault.NoMemory) → Holds (told house.shelf) (entries_of house)
    → IfErr result (λ why. Stops (IsToldHouse told house) why (told house.shelf) (record { book = entries_of house; waiting = waiting }) act (entries_of house))
stops-first told house waiting act (Ok x) is holds = tt
stops-first told house waiting act (Err why) is holds =
    subst (λ (e : HouseFault). Stops (IsToldHouse told house) e (told house.shelf) (record { book = entries_of house; waiting = waiting }) act (entries_of house)) (sym is)
    (stops-before (told house.shelf) (record { book = entries_of house; waiting = waiting }) act holds)

pub err-always : {T : Type 0} (result : Result T HouseFault) (P : Type 0) → P → IfErr result (λ _. P)
err-always (Ok x) P p = tt
err-always (Err why) P p = p

-- the store opens as it stands
pub opens-first : {D T : Type 0} (told : D → Option Store) (house : House D) (result : Result T HouseFault) → IsWhole told house
    → IsToldHouse told house → IfErr result (λ _. StillOpens told house)
opens-first told house result whole is = err-always result (StillOpens told house) (whole-opens told house whole is)

-- ---- what taking up a statement leaves

pub replied-held : (before now : List Entry) (helds helds' : List Held) (low high : ℕ) → helds' ≡ helds → AllFitting now
    → AddsOf (next_number before) low high before now → AreHeld before helds → AreHeld now helds'
replied-held before now helds helds' low high same fit adds h =
    subst (AreHeld now) (sym same) (held-after before now helds (next_number before) low high fit adds (next-apart before helds h) h)

pub replied-truly : {D : Type 0} (told : D → Option Store) (before now : House D) (helds helds' : List Held) (low high : ℕ) → helds' ≡ helds → now.start ≡ before.start
    → AllFitting (entries_of now) → AddsOf (next_number (entries_of before)) low high (entries_of before) (entries_of now) → AreHeld (entries_of before) helds
    → AreTrulyHeld told before helds → AreTrulyHeld told now helds'
replied-truly told before now helds helds' low high same start fits adds h truly is =
    subst (AllByRecursion (IsTrulyHeldIn (entries_of now))) (sym same)
    (truly-after (entries_of before) (entries_of now) helds (next_number (entries_of before)) low high fits adds (next-apart (entries_of before) helds h)
    (truly (told-stays told now before (sym start) is)))

pub replied-acts : (before now : List Entry) (helds helds' : List Held) (low high : ℕ) (statement : Statement) (found : Taken) (reply : Reply)
    → helds' ≡ helds → found ≡ taken.Replied reply → AllFitting now → AddsOf (next_number before) low high before now
    → IsTakenAs before now (asking_of statement) statement.hold found
    → Acts (from_to low high) (record { book = before; waiting = map waiting_of helds }) (record { book = now; waiting = map waiting_of helds' })
    (action.Run statement) reply.text reply.refused
replied-acts before now helds helds' low high statement found reply same is fit adds taken_as =
    subst (λ (hs : List Held). Acts (from_to low high) (record { book = before; waiting = map waiting_of helds }) (record { book = now; waiting = map waiting_of hs })
    (action.Run statement) reply.text reply.refused) (sym same)
    (acts-replied low high before now (map waiting_of helds) statement reply.text reply.refused reply.ended fit adds
    (subst (IsTakenAs before now (asking_of statement) statement.hold) is taken_as))

pub kept-held : (before now : List Entry) (helds helds' helds'' : List Held) (held : Held) (asking : Asking) (low high : ℕ) (found : Taken) → helds' ≡ helds
    → helds'' ≡ helds' ++ held ∷ [] → found ≡ taken.Kept held.paused → AllFitting now → AddsOf (next_number before) low high before now → AreHeld before helds
    → IsKeptIn before now asking found → AreHeld now helds''
kept-held before now helds helds' helds'' held asking low high found same one is fit adds h kept =
    subst (AreHeld now) (sym (one ∙ ap (λ (hs : List Held). hs ++ held ∷ []) same))
    (held-one-more before now helds held asking low high fit adds h (subst (IsKeptIn before now asking) is kept))

pub kept-truly : {D : Type 0} (told : D → Option Store) (before now : House D) (helds helds' helds'' : List Held) (held : Held) (low high : ℕ) (statement : Statement) (found : Taken)
    → helds' ≡ helds → helds'' ≡ helds' ++ held ∷ [] → found ≡ taken.Kept held.paused → now.start ≡ before.start
    → AllFitting (entries_of now) → AddsOf (next_number (entries_of before)) low high (entries_of before) (entries_of now) → AreHeld (entries_of before) helds
    → (IsToldHouse told before → IsTakenAs (entries_of before) (entries_of now) (asking_of statement) statement.hold found)
    → AreTrulyHeld told before helds → AreTrulyHeld told now helds''
kept-truly told before now helds helds' helds'' held low high statement found same one found_is start fits adds h takes truly is =
    let told_before = told-stays told now before (sym start) is in
    let others = truly-after (entries_of before) (entries_of now) helds (next_number (entries_of before)) low high fits adds (next-apart (entries_of before) helds h) (truly told_before) in
    subst (AllByRecursion (IsTrulyHeldIn (entries_of now))) (sym (one ∙ ap (λ (hs : List Held). hs ++ held ∷ []) same))
    (all-last (IsTrulyHeldIn (entries_of now)) helds held others
    (inl (subst (IsTakenAs (entries_of before) (entries_of now) (asking_of statement) statement.hold) found_is (takes told_before)).truly))

pub kept-acts : (before now : List Entry) (helds helds' helds'' : List Held) (held : Held) (low high : ℕ) (statement : Statement) (found : Taken) (reply : Reply)
    → helds' ≡ helds → helds'' ≡ helds' ++ held ∷ [] → found ≡ taken.Kept held.paused → held.session ≡ statement.session.name → reply ≡ record { text = []; refused = false; ended = None }
    → AllFitting now → AddsOf (next_number before) low high before now
    → IsTakenAs before now (asking_of statement) statement.hold found
    → Acts (from_to low high) (record { book = before; waiting = map waiting_of helds }) (record { book = now; waiting = map waiting_of helds'' })
    (action.Run statement) reply.text reply.refused
kept-acts before now helds helds' helds'' held low high statement found reply same one is named said fit adds taken_as =
    subst (λ (r : Reply). Acts (from_to low high) (record { book = before; waiting = map waiting_of helds }) (record { book = now; waiting = map waiting_of helds'' })
    (action.Run statement) r.text r.refused) (sym said)
    (subst (λ (hs : List Held). Acts (from_to low high) (record { book = before; waiting = map waiting_of helds }) (record { book = now; waiting = map waiting_of hs })
    (action.Run statement) [] false) (sym (one ∙ ap (λ (hs : List Held). hs ++ held ∷ []) same))
    (acts-kept low high before now helds statement held fit adds named (subst (IsTakenAs before now (asking_of statement) statement.hold) is taken_as)))

-- ---- and what a release leaves

ok-both : {T : Type 0} (r : Result T HouseFault) (P Q : Type 0) (R : T → Type 0) → (P → Q → (x : T) → R x) → IfOk r (λ _. P) → IfOk r (λ _. Q) → IfOk r R
ok-both (Ok x) P Q R f p q = f p q x
ok-both (Err why) P Q R f p q = tt

ok-three : {T : Type 0} (r : Result T HouseFault) (P Q : Type 0) (S R : T → Type 0) → (P → Q → (x : T) → S x → R x) → IfOk r (λ _. P) → IfOk r (λ _. Q) → IfOk r S → IfOk r R
ok-three (Ok x) P Q S R f p q s = f p q x s
ok-three (Err why) P Q S R f p q s = tt

module _ {D : Type 0} (told : D → Option Store) (r : Result Reply HouseFault) (before now : House D) (helds helds' : List Held) (session : Session) (paused : Paused) (low high : ℕ)
    (found : paused_in session.name helds ≡ Some paused) (left : helds' ≡ held_without session.name helds) (h : AreHeld (entries_of before) helds)
    (whole : IfOk r (λ _. IsWhole told now)) (adds : IfOk r (λ _. AddsOf paused.way.txn.0 low high (entries_of before) (entries_of now))) where
  pub released-held : IfOk r (λ _. AreHeld (entries_of now) helds')
  released-held =
      ok-both r (IsWhole told now) (AddsOf paused.way.txn.0 low high (entries_of before) (entries_of now)) (λ _. AreHeld (entries_of now) helds')
      (λ is added reply.
      subst (AreHeld (entries_of now)) (sym left)
      (held-after (entries_of before) (entries_of now) (held_without session.name helds) paused.way.txn.0 low high is.ready.fit added (found-apart session.name helds paused h.apart found)
      (let-go-held (entries_of before) session.name helds h)))
      whole adds

  pub released-truly : now.start ≡ before.start → AreTrulyHeld told before helds → IfOk r (λ _. AreTrulyHeld told now helds')
  released-truly start truly =
      ok-both r (IsWhole told now) (AddsOf paused.way.txn.0 low high (entries_of before) (entries_of now)) (λ _. AreTrulyHeld told now helds')
      (λ is added reply told_now.
      subst (AllByRecursion (IsTrulyHeldIn (entries_of now))) (sym left)
      (truly-after (entries_of before) (entries_of now) (held_without session.name helds) paused.way.txn.0 low high is.ready.fit added (found-apart session.name helds paused h.apart found)
      (all-without (IsTrulyHeldIn (entries_of before)) session.name helds (truly (told-stays told now before (sym start) told_now)))))
      whole adds

  pub released-acts : IfOk r (λ reply. IsFinished (entries_of before) (entries_of now) paused.way.txn.0 reply.text reply.refused reply.ended)
      → IfOk r (λ reply. Acts (from_to low high) (standing_of before helds) (standing_of now helds') (action.Release session) reply.text reply.refused)
  released-acts finished =
      ok-three r (IsWhole told now) (AddsOf paused.way.txn.0 low high (entries_of before) (entries_of now))
      (λ reply. IsFinished (entries_of before) (entries_of now) paused.way.txn.0 reply.text reply.refused reply.ended)
      (λ reply. Acts (from_to low high) (standing_of before helds) (standing_of now helds') (action.Release session) reply.text reply.refused)
      (λ is added reply f.
      subst (λ (hs : List Held). Acts (from_to low high) (standing_of before helds) (standing_of now hs) (action.Release session) reply.text reply.refused) (sym left)
      (acts-finished low high (entries_of before) (entries_of now) helds session paused reply.text reply.refused reply.ended is.ready.fit h found added f))
      whole adds finished

err-map : {T : Type 0} (r : Result T HouseFault) (P Q : HouseFault → Type 0) → ((why : HouseFault) → P why → Q why) → IfErr r P → IfErr r Q
err-map (Ok x) P Q f p = tt
err-map (Err why) P Q f p = f why p

pub released-stops : {D : Type 0} (told : D → Option Store) (r : Result Reply HouseFault) (before now : House D) (helds : List Held) (session : Session) (paused : Paused)
    → paused_in session.name helds ≡ Some paused → IfErr r (λ why. HasStopped told paused.way.txn.0 why before now)
    → IfErr r (λ why. Stops (IsToldHouse told before) why (told now.shelf) (standing_of before helds) (action.Release session) (entries_of now))
released-stops told r before now helds session paused found stopped =
    err-map r (λ why. HasStopped told paused.way.txn.0 why before now) (λ why. Stops (IsToldHouse told before) why (told now.shelf) (standing_of before helds) (action.Release session) (entries_of now))
    (λ why h. stops-in told paused.way.txn.0 why before now (map waiting_of helds) (action.Release session) (number-found (entries_of before) helds session paused found) h tt) stopped

-- ---- where none is held in the session

pub none-held : (book : List Entry) (helds helds' : List Held) (name : List ℕ) → paused_in name helds ≡ None → helds' ≡ held_without name helds
    → AreHeld book helds → AreHeld book helds'
none-held book helds helds' name none left h = subst (AreHeld book) (sym (left ∙ none-left name helds none)) h

pub none-truly : {D : Type 0} (told : D → Option Store) (house : House D) (helds helds' : List Held) (name : List ℕ) → paused_in name helds ≡ None → helds' ≡ held_without name helds
    → AreTrulyHeld told house helds → AreTrulyHeld told house helds'
none-truly told house helds helds' name none left truly = subst (AreTrulyHeld told house) (sym (left ∙ none-left name helds none)) truly

pub none-acts : (count : ℕ) (book : List Entry) (helds helds' : List Held) (session : Session) (reply : Reply) → paused_in session.name helds ≡ None
    → helds' ≡ held_without session.name helds → reply ≡ record { text = []; refused = false; ended = None }
    → Acts (from_to count count) (record { book = book; waiting = map waiting_of helds }) (record { book = book; waiting = map waiting_of helds' })
    (action.Release session) reply.text reply.refused
none-acts count book helds helds' session reply none left said =
    subst (λ (r : Reply). Acts (from_to count count) (record { book = book; waiting = map waiting_of helds }) (record { book = book; waiting = map waiting_of helds' })
    (action.Release session) r.text r.refused) (sym said)
    (subst (λ (hs : List Held). Acts (from_to count count) (record { book = book; waiting = map waiting_of helds }) (record { book = book; waiting = map waiting_of hs })
    (action.Release session) [] false) (sym left) (acts-nothing count count book helds session none))
