-- What was done stays done as the book goes on, and one more action.
use Rattle.std.proofs.Common.{ℕ, Bool, true, false, ◌||◌, cond, Option, Some, None, List, [], ◌∷◌, ◌++◌, inl, inr, refl, sym, ap, ◌∙◌, subst, append_assoc}
use Rattle.std.specs.List.{AllByRecursion}
use Rattle.std.proofs.Math.Bool.{or_assoc, or-false}
use Rattle.std.proofs.lemmas.List.{append-nil}
use Rattle.std.proofs.lemmas.List.Elements.{Contains-append_left}
use Rattle.hv_base.specs.declared.gate.Stage.{Stage}
use Rattle.hv_history.specs.declared.entry.Entry.{Entry}
use Rattle.hv_script.specs.declared.actions.Action.{Action}
use Rattle.hv_script.specs.declared.actions.Action.TheVariants as action
use Rattle.hv_stands.specs.Running.{Asking, next_number}
use Rattle.hv_session.specs.hv_beginning.specs.hv_steps.proofs.Replied.{replies-stay}
use Rattle.hv_program.specs.Change.{from_to}
use Rattle.hv_program.specs.Doing.{Waiting, Standing, is_session, waiting_in, without, asking_of, IsAnswerIn, RepliesAtOnce, IsHeldNow, ReleasesOne, IsDone, AreDone}
use Rattle.hv_program.specs.Running.{IsLater}

-- ---- as the book goes on

answer-more : (start book more : List Entry) (asking : Asking) (txn : ℕ) (reply : List ℕ) (refused : Bool)
    → IsAnswerIn (from_to start book) asking txn reply refused → IsAnswerIn (from_to start (book ++ more)) asking txn reply refused
answer-more start book more asking txn reply refused h = record {
  own = h.own;
  was_opened = Contains-append_left book more _ h.was_opened;
  ended = h.ended;
  answered = replies-stay book more txn reply refused h.ended h.answered;
}

at-once-more : (start book more before now : List Entry) (asking : Asking) (hold : Option Stage) (reply : List ℕ) (refused : Bool)
    → RepliesAtOnce (from_to start book) (from_to before now) asking hold reply refused
    → RepliesAtOnce (from_to start (book ++ more)) (from_to before now) asking hold reply refused
unfolding answer-more
at-once-more start book more before now asking hold reply refused (inl h) = inl (record {
  added = h.added;
  goes = h.goes;
  tree = h.tree;
  runs = h.runs;
  starts = h.starts;
  of_it = h.of_it;
  in_time = h.in_time;
  is_answer = answer-more start book more asking (next_number before) reply refused h.is_answer;
  answered_then = h.answered_then;
  in_order = h.in_order;
})
at-once-more start book more before now asking hold reply refused (inr h) = inr h

held-more : (start book more before now : List Entry) (asking : Asking) (hold : Option Stage)
    → IsHeldNow (from_to start book) before now asking hold → IsHeldNow (from_to start (book ++ more)) before now asking hold
held-more start book more before now asking hold h = record {
  added = h.added;
  goes = h.goes;
  tree = h.tree;
  runs = h.runs;
  can = h.can;
  at_hold = h.at_hold;
  own = h.own;
  was_opened = Contains-append_left book more _ h.was_opened;
  in_order = h.in_order;
  up_to_hold = h.up_to_hold;
}

released-more : (start book more : List Entry) (before now : Standing) (name : List ℕ) (found : Option Waiting) (output : List ℕ) (refused : Bool)
    → ReleasesOne (from_to start book) before now name found output refused → ReleasesOne (from_to start (book ++ more)) before now name found output refused
released-more start book more before now name None output refused h = h
released-more start book more before now name (Some waiting) output refused h = (
  record {
    added = h.0.added;
    goes = h.0.goes;
    of_it = h.0.of_it;
    own = h.0.own;
    ended = h.0.ended;
    answered = replies-stay book more waiting.txn output refused h.0.ended h.0.answered;
    answered_then = h.0.answered_then;
    in_order = h.0.in_order;
  },
  h.1,
)

done-more : (start book more : List Entry) (before now : Standing) (act : Action) (output : List ℕ) (refused : Bool)
    → IsDone (from_to start book) before now act output refused → IsDone (from_to start (book ++ more)) before now act output refused
done-more start book more before now (action.Announce session) output refused h = h
done-more start book more before now action.Barrier output refused h = h
done-more start book more before now (action.Run statement) output refused (inl h) = inl (record {
  goes = at-once-more start book more before.book now.book (asking_of statement) statement.hold output refused h.goes;
  waiting_same = h.waiting_same;
})
done-more start book more before now (action.Run statement) output refused (inr h) = inr (record {
  goes = held-more start book more before.book now.book (asking_of statement) statement.hold h.goes;
  waits = h.waits;
  nothing = h.nothing;
  accepted = h.accepted;
})
done-more start book more before now (action.Release session) output refused h =
    released-more start book more before now session.name (waiting_in session.name before.waiting) output refused h
done-more start book more before now action.Compact output refused h = h
done-more start book more before now action.Clean output refused h = h

pub are-done-more : (start book more : List Entry) (before now : Standing) (actions : List Action) (output : List ℕ) (refused : Bool)
    → AreDone (from_to start book) before now actions output refused → AreDone (from_to start (book ++ more)) before now actions output refused
are-done-more start book more before now [] output refused h = h
are-done-more start book more before now (act ∷ actions) output refused h =
    (h.0, h.1, h.2, h.3, h.4, done-more start book more before h.0 act h.1 h.3 h.5, are-done-more start book more h.0 now actions h.2 h.4 h.6, h.7, h.8)

-- ---- one action more

pub are-done-then : (start book : List Entry) (a b c : Standing) (actions : List Action) (output : List ℕ) (refused : Bool) (act : Action) (reply : List ℕ) (this : Bool)
    → AreDone (from_to start book) a b actions output refused → IsDone (from_to start book) b c act reply this
    → AreDone (from_to start book) a c (actions ++ act ∷ []) (output ++ reply) (refused || this)
are-done-then start book a b c [] output refused act reply this h d =
    let here : IsDone (from_to start book) a c act reply this = subst (λ (x : Standing). IsDone (from_to start book) x c act reply this) h.0 d in
    (c, reply, [], this, false, here, (refl, refl, refl), ap (λ o. o ++ reply) h.1 ∙ sym (append-nil reply), ap (λ x. x || this) h.2 ∙ sym (or-false this))
are-done-then start book a b c (first ∷ actions) output refused act reply this h d = (
  h.0,
  h.1,
  h.2 ++ reply,
  h.3,
  h.4 || this,
  h.5,
  are-done-then start book h.0 b c actions h.2 h.4 act reply this h.6 d,
  ap (λ o. o ++ reply) h.7 ∙ append_assoc h.1 h.2 reply,
  ap (λ x. x || this) h.8 ∙ or_assoc h.3 h.4 this,
)

-- ---- those that wait came behind the book that the run began with

pub all-last : (P : Waiting → Type 0) (ws : List Waiting) (w : Waiting) → AllByRecursion P ws → P w → AllByRecursion P (ws ++ w ∷ [])
all-last P [] w all p = (p, tt)
all-last P (first ∷ ws) w all p = (all.0, all-last P ws w all.1 p)

pub kept-by : (P : Waiting → Type 0) (b : Bool) (first : Waiting) (ws rest : List Waiting) → AllByRecursion P ws → P first → AllByRecursion P rest
    → AllByRecursion P (cond b ws (first ∷ rest))
kept-by P true first ws rest all here more = all
kept-by P false first ws rest all here more = (here, more)

pub all-without : (P : Waiting → Type 0) (name : List ℕ) (ws : List Waiting) → AllByRecursion P ws → AllByRecursion P (without name ws)
all-without P name [] all = tt
all-without P name (first ∷ ws) all = kept-by P (is_session name first) first ws (without name ws) all.1 all.0 (all-without P name ws all.1)

later-released : (start book : List Entry) (before now : Standing) (name : List ℕ) (found : Option Waiting) (output : List ℕ) (refused : Bool)
    → AllByRecursion (IsLater start) before.waiting → ReleasesOne (from_to start book) before now name found output refused
    → AllByRecursion (IsLater start) now.waiting
later-released start book before now name None output refused all h = subst (λ (s : Standing). AllByRecursion (IsLater start) s.waiting) (sym h.0) all
later-released start book before now name (Some waiting) output refused all h =
    subst (AllByRecursion (IsLater start)) (sym h.1) (all-without (IsLater start) name before.waiting all)

pub later-done : (start book : List Entry) (before now : Standing) (act : Action) (output : List ℕ) (refused : Bool)
    → AllByRecursion (IsLater start) before.waiting → IsDone (from_to start book) before now act output refused
    → AllByRecursion (IsLater start) now.waiting
later-done start book before now (action.Announce session) output refused all h = subst (λ (s : Standing). AllByRecursion (IsLater start) s.waiting) (sym h.0) all
later-done start book before now action.Barrier output refused all h = subst (λ (s : Standing). AllByRecursion (IsLater start) s.waiting) (sym h.0) all
later-done start book before now (action.Run statement) output refused all (inl h) = subst (AllByRecursion (IsLater start)) (sym h.waiting_same) all
later-done start book before now (action.Run statement) output refused all (inr h) =
    subst (AllByRecursion (IsLater start)) (sym h.waits) (all-last (IsLater start) before.waiting _ all h.goes.own)
later-done start book before now (action.Release session) output refused all h =
    later-released start book before now session.name (waiting_in session.name before.waiting) output refused all h
later-done start book before now action.Compact output refused all h = subst (AllByRecursion (IsLater start)) (sym h.waiting_same) all
later-done start book before now action.Clean output refused all h = subst (AllByRecursion (IsLater start)) (sym h.waiting_same) all
