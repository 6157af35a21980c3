-- What was said stands in a longer book: from what it is of each statement, and of one that was never opened.
use Rattle.std.proofs.Common.{◌≡◌, inl, inr, ℕ, ◌≤◌, Option, Some, None, List, [], ◌∷◌, ◌++◌, length, refl, sym, ap, ◌∙◌, subst, append_assoc, eq-eqb, arith}
use Rattle.std.specs.Prelude.{option_and_then, slice_get, take}
use Rattle.std.proofs.lemmas.List.{take_all, take-append-le}
use Rattle.hv_ast.specs.declared.statement.Stmt.{Stmt}
use Rattle.hv_shelf.specs.Disk.{Store}
use Rattle.hv_history.specs.declared.entry.Entry.{Entry}
use Rattle.hv_history.specs.declared.entry.Entry.TheVariants as entry
use Rattle.hv_history.specs.declared.entry.Cause.TheVariants as cause
use Rattle.hv_history.specs.Answers.{cause_text}
use Rattle.hv_history.specs.State.{nothing_yet, state_of}
use Rattle.hv_history.specs.Legal.{AllFit, HasRoom, profile}
use Rattle.hv_stands.specs.Running.{Asking, starting}
use Rattle.hv_meta.specs.declared.facts.TxnState.TheVariants as standing
use Rattle.hv_meta.specs.States.{state_in}
use Rattle.hv_trail.specs.declared.trail.TrailItem.{TrailItem}
use Rattle.hv_trail.specs.Trail.{book_of}
use Rattle.hv_trail.proofs.LastingLaws.{book-append}
use Rattle.hv_actor.specs.Acting.{AreRows, IsLater, Moment, Setting, Went, among}
use Rattle.hv_actor.specs.Rows.{later_itself}
use Rattle.hv_actor.proofs.Weaving.{length-append, later-further}
use Rattle.hv_session.specs.hv_beginning.specs.hv_steps.specs.Ending.{HasReplied}
use Rattle.hv_session.specs.hv_beginning.specs.hv_steps.specs.Going.{IsGoneSo, end_reply}
use Rattle.hv_session.specs.hv_beginning.specs.hv_steps.specs.Phases.{AnswersTruly, EndsBehind, OpensAt}
use Rattle.hv_session.specs.hv_beginning.specs.hv_steps.specs.declared.ready.Reply.{Reply}
use Rattle.hv_session.specs.hv_beginning.specs.hv_steps.specs.declared.reply.Done.{Done}
use Rattle.hv_session.specs.hv_beginning.specs.hv_steps.specs.declared.reply.Done.TheVariants as done
use Rattle.hv_session.specs.hv_beginning.specs.hv_steps.specs.hv_table_reader.specs.hv_acts.specs.Ending.{cause_of_entry, told_so}
use Rattle.hv_session.specs.hv_beginning.specs.hv_steps.specs.hv_table_reader.specs.hv_acts.specs.hv_telling.specs.Telling.{IsToldHouse}
use Rattle.hv_session.specs.hv_beginning.specs.hv_steps.specs.hv_table_reader.specs.hv_acts.specs.declared.told.ToldHouse.{ToldHouse}
use Rattle.hv_session.specs.hv_beginning.specs.hv_steps.specs.hv_table_reader.specs.hv_acts.specs.Told.{seen_in, trail_in, book_in}
use Rattle.hv_session.specs.Doing.{reply_from}
use Rattle.hv_session.specs.Lines.{IsLine, IsTextLine, IsFullLine}
use Rattle.hv_waiting.specs.declared.passed.Passed.{Passed}
use Rattle.hv_waiting.specs.declared.passed.Passed.TheVariants as passed
use Rattle.hv_waiting.specs.Beginnings.{StopsUnstarted}
use Rattle.hv_waiting.specs.Doing.{PassesInTurn, IsSaidTo, RepliesInTurn}
use Rattle.hv_saying.specs.Saying.{SaysOne, SaysAll}
use Rattle.hv_saying.specs.Owning.{GoesOnTo}
use Rattle.hv_saying.specs.Spans.{IsSaid, SaidStays, WasUnopened}
use Rattle.hv_saying.proofs.Owned.{one_if, opens_as, told-there, goes-there}
use Rattle.hv_saying.proofs.Gones.{gone-stands, gone-lasts}
use Rattle.hv_saying.proofs.Placed.{StandsAt, went-first, get-at, end-behind, replied-longer}

-- ---- one that was never opened

-- the beginning that a book had is a front of it
front-taken : (before book : List Entry) → GoesOnTo before book → take (length before) book ≡ before
front-taken before book goes =
    ap (take (length before)) goes.front.is ∙ take-append-le (length before) before goes.front.more (omega arith)
    ∙ take_all (length before) before (omega arith)

text-unopened : (high : ℕ) (book : List Entry) (asking : Asking) (reply : Reply) → IsTextLine asking.text reply → WasUnopened high book asking reply
text-unopened high book asking reply (inl line) = record { unended = line.unended; refusal = line.refusal; why = inl line.fault }
text-unopened high book asking reply (inr line) = record { unended = line.unended; refusal = line.refusal; why = inr (inr line.line_is) }

pub memory-unopened : (high : ℕ) (book : List Entry) (asking : Asking) (reply : Reply) → IsLine (cause_text None cause.Memory) reply → WasUnopened high book asking reply
memory-unopened high book asking reply line = record { unended = line.unended; refusal = line.refusal; why = inr (inr line.line_is) }

pub full-unopened : (before book : List Entry) (asking : Asking) (reply : Reply) → GoesOnTo before book → (HasRoom profile (state_of before) 2 → ⊥) → IsFullLine reply
    → WasUnopened (length before) book asking reply
full-unopened before book asking reply goes none (inl line) = record {
  unended = line.unended;
  refusal = line.refusal;
  why = inr (inl (subst (λ (b : List Entry). HasRoom profile (state_of b) 2 → ⊥) (sym (front-taken before book goes)) none, line.line_is));
}
full-unopened before book asking reply goes none (inr line) = memory-unopened (length before) book asking reply line

pub text-said : (low high : ℕ) (book : List Entry) (asking : Asking) (reply : Reply) → IsTextLine asking.text reply → IsSaid low high book asking reply
text-said low high book asking reply line = inr (inr (text-unopened high book asking reply line))

-- ---- one that was opened and has its answer

module _ {D : Type 0} where
  own-there : (B : List TrailItem → Type 0) (items : List TrailItem) (own own' : List ℕ) (a b : ToldHouse D) (book others : List Entry) (event : Entry)
      → Went B items own own' (trail_in a) (trail_in b) → book_of items ≡ event ∷ others → GoesOnTo (book_in b) book → StandsAt (length (book_in a)) book event
  own-there B items own own' a b book others event went first goes =
      went-first B items own own' (trail_in a) (trail_in b) goes.front.more book event others went first goes.front.is

opens-itself : (txn : ℕ) (asking : Asking) → opens_as txn (entry.Opened (record { 0 = txn }) asking.session asking.number asking.text) ≡ 1
opens-itself txn asking = ap one_if (eq-eqb txn txn refl)

pub answered-said : (low : ℕ) (before book : List Entry) (asking : Asking) (reply : Reply) (txn : ℕ)
    → StandsAt low book (entry.Opened (record { 0 = txn }) asking.session asking.number asking.text) → GoesOnTo before book
    → HasReplied before txn reply.text reply.refused reply.ended → IsSaid low (length before) book asking reply
answered-said low before book asking reply txn there goes replied =
    let event : Entry = entry.Opened (record { 0 = txn }) asking.session asking.number asking.text in
    let has = replied.ended_at in
    let all : book ≡ has.front ++ has.event ∷ (has.rest ++ goes.front.more) =
    goes.front.is ∙ ap (λ (xs : List Entry). xs ++ goes.front.more) has.book_is ∙ append_assoc has.front (has.event ∷ has.rest) goes.front.more in
    let same : there.front ++ event ∷ there.rest ≡ has.front ++ has.event ∷ (has.rest ++ goes.front.more) = sym there.is ∙ all in
    let fit : AllFit profile nothing_yet (there.front ++ event ∷ there.rest) = subst (λ (xs : List Entry). AllFit profile nothing_yet xs) there.is goes.fits in
    let count = ap (λ (xs : List Entry). length xs) has.book_is in
    let both = length-append has.front (has.event ∷ has.rest) in
    let longer = replied-longer before goes.front.more txn reply.text reply.refused reply.ended replied in
    let here = subst (λ (xs : List Entry). HasReplied xs txn reply.text reply.refused reply.ended) (sym goes.front.is) longer in
    inl (record {
      txn = txn;
      end = length has.front;
      within = record {
        place = length there.front;
        behind = there.behind;
        opened = ap (λ (xs : List Entry). slice_get xs (length there.front)) there.is ∙ get-at there.front there.rest event;
        early = end-behind profile nothing_yet there.front has.front there.rest (has.rest ++ goes.front.more) event has.event txn same fit (opens-itself txn asking) has.ends;
        before = omega (arith, count, both);
      };
      ended = has.place;
      answered = subst (λ (o : Option ℕ). HasReplied book txn reply.text reply.refused o) has.place here;
    })

-- ---- one that others have ended

entry-there : (book front rest : List Entry) (event : Entry) (at : ℕ) → book ≡ front ++ event ∷ rest → length front ≡ at → slice_get book at ≡ Some event
entry-there book front rest event at is place =
    ap (λ (n : ℕ). slice_get book n) (sym place) ∙ ap (λ (xs : List Entry). slice_get xs (length front)) is ∙ get-at front rest event

-- the place of their entry stands behind its Opened, and what is told of it stays
pub gone-said : (low : ℕ) (before book : List Entry) (asking : Asking) (reply : Reply) (txn at : ℕ)
    → StandsAt low book (entry.Opened (record { 0 = txn }) asking.session asking.number asking.text) → GoesOnTo before book
    → state_in (state_of before) txn ≡ standing.Ended at → reply ≡ end_reply (told_so at (option_and_then cause_of_entry (slice_get before at)))
    → IsSaid low (length before) book asking reply
gone-said low before book asking reply txn at there goes gone told =
    let event : Entry = entry.Opened (record { 0 = txn }) asking.session asking.number asking.text in
    let end = gone-stands before txn at gone in
    let all : book ≡ end.front ++ end.event ∷ (end.rest ++ goes.front.more) =
    goes.front.is ∙ ap (λ (xs : List Entry). xs ++ goes.front.more) end.is ∙ append_assoc end.front (end.event ∷ end.rest) goes.front.more in
    let fit : AllFit profile nothing_yet (there.front ++ event ∷ there.rest) = subst (λ (xs : List Entry). AllFit profile nothing_yet xs) there.is goes.fits in
    let behind =
    end-behind profile nothing_yet there.front end.front there.rest (end.rest ++ goes.front.more) event end.event txn (sym there.is ∙ all) fit (opens-itself txn asking) end.ends in
    let spot = end.place in
    let place : length end.front ≡ at = omega (arith, spot) in
    let count = ap (λ (xs : List Entry). length xs) end.is in
    let both = length-append end.front (end.event ∷ end.rest) in
    let then_ = entry-there before end.front end.rest end.event at end.is place in
    let now = entry-there book end.front (end.rest ++ goes.front.more) end.event at all place in
    inr (inl (record {
      txn = txn;
      end = at;
      within = record {
        place = length there.front;
        behind = there.behind;
        opened = ap (λ (xs : List Entry). slice_get xs (length there.front)) there.is ∙ get-at there.front there.rest event;
        early = omega (arith, behind, place);
        before = omega (arith, count, both, place);
      };
      gone = subst (λ (xs : List Entry). state_in (state_of xs) txn ≡ standing.Ended at) (sym goes.front.is) (gone-lasts before goes.front.more txn at gone);
      told = told ∙ ap (λ (o : Option Entry). end_reply (told_so at (option_and_then cause_of_entry o))) (then_ ∙ sym now);
    }))

-- ---- several

module _ {D : Type 0} (told : D → Option Store) (faults : D → ℕ) (B : List TrailItem → Type 0) (rows : AreRows B) (meanwhile : ToldHouse D → ToldHouse D → Type 0) where
  abbrev S : Setting D (ToldHouse D)
  S = among told faults B meanwhile

  abbrev M : Type 0
  M = Moment (ToldHouse D)

  -- it is so of each statement by itself
  abbrev pub OneStays : Type 0
  OneStays =
      (before now : M) (asking : Asking) (reply : Reply) (book : List Entry) → SaysOne S before now asking reply → IsToldHouse told now.house.house
      → GoesOnTo (book_in now.house) book → IsSaid (length (book_in before.house)) (length (book_in now.house)) book asking reply

  all-later : (askings : List Asking) (replies : List Reply) (before now : M) → SaysAll S before now askings replies
      → IsLater faults (seen_in before.house) (seen_in now.house)
  all-later [] [] before now says =
      subst (λ (m : M). IsLater faults (seen_in before.house) (seen_in m.house)) (sym says) (later_itself faults (seen_in before.house))
  all-later (asking ∷ askings) (reply ∷ replies) before now says =
      later-further faults (seen_in before.house) (seen_in says.0.house) (seen_in now.house) says.1.1.adds.later (all-later askings replies says.0 now says.2)
  all-later [] (reply ∷ replies) before now says = absurd says
  all-later (asking ∷ askings) [] before now says = absurd says

  longer : (a b : ToldHouse D) → IsLater faults (seen_in a) (seen_in b) → length (book_in a) ≤ length (book_in b)
  longer a b later =
      let grew : trail_in b ≡ trail_in a ++ later.added = later.trail in
      let count = ap (λ (xs : List Entry). length xs) (ap book_of grew ∙ book-append (trail_in a) later.added) in
      let both = length-append (book_in a) (book_of later.added) in omega (arith, count, both)

  pub all-stay : OneStays → SaidStays S
  all-stay one before now [] [] book says is goes =
      let same = ap (λ (m : M). length (book_in m.house)) says in omega (arith, same)
  all-stay one before now (asking ∷ askings) (reply ∷ replies) book says is goes =
      let later = all-later askings replies says.0 now says.2 in
      let here = told-there told faults B rows meanwhile says.0.house now.house later is in
      let front = goes-there told faults B rows meanwhile says.0.house now.house book later goes in (
        length (book_in says.0.house),
        longer before.house says.0.house says.1.1.adds.later,
        one before says.0 asking reply book says.1 here front,
        all-stay one says.0 now askings replies book says.2 is goes,
      )
  all-stay one before now [] (reply ∷ replies) book says is goes = absurd says
  all-stay one before now (asking ∷ askings) [] book says is goes = absurd says

  -- ---- one of them

  gone-stays : (low : ℕ) (now : ToldHouse D) (asking : Asking) (reply : Reply) (txn : ℕ) (book : List Entry)
      → StandsAt low book (entry.Opened (record { 0 = txn }) asking.session asking.number asking.text) → GoesOnTo (book_in now) book
      → IsGoneSo (trail_in now) txn reply → IsSaid low (length (book_in now)) book asking reply
  gone-stays low now asking reply txn book there goes gone = gone-said low (book_in now) book asking reply txn gone.at there goes gone.gone gone.told

  event-as : (trail : List TrailItem) (asking : Asking) (txn : ℕ) (event : Entry) → OpensAt asking txn event trail
      → event ≡ entry.Opened (record { 0 = txn }) asking.session asking.number asking.text
  event-as trail asking txn event opens =
      opens.event_is ∙ ap (λ (n : ℕ). entry.Opened (record { 0 = n }) asking.session asking.number asking.text) (sym opens.txn_is)

  ended-said : (low : ℕ) (now : ToldHouse D) (asking : Asking) (reply : Reply) (found : Done) (txn : ℕ) (book : List Entry)
      → StandsAt low book (entry.Opened (record { 0 = txn }) asking.session asking.number asking.text) → GoesOnTo (book_in now) book → reply ≡ reply_from found
      → AnswersTruly txn now found → IsSaid low (length (book_in now)) book asking reply
  ended-said low now asking reply (done.Replied other) txn book there goes same truly =
      subst (λ (r : Reply). IsSaid low (length (book_in now)) book asking r) (sym same) (answered-said low (book_in now) book asking other txn there goes truly)
  ended-said low now asking reply (done.Gone other) txn book there goes same truly =
      subst (λ (r : Reply). IsSaid low (length (book_in now)) book asking r) (sym same) (gone-stays low now asking other txn book there goes truly)

  -- one that ended before its Start
  unstarted-truly : (before now : ToldHouse D) (txn : ℕ) (event : Entry) (found : Done) (added : List Entry)
      → EndsBehind txn now (event ∷ []) (StopsUnstarted before now txn) found added → AnswersTruly txn now found
  unstarted-truly before now txn event (done.Replied reply) added ends = ends.2.answered
  unstarted-truly before now txn event (done.Gone reply) added ends = ends.1

  unstarted-first : (before now : ToldHouse D) (txn : ℕ) (event : Entry) (found : Done) (added : List Entry)
      → EndsBehind txn now (event ∷ []) (StopsUnstarted before now txn) found added → (others : List Entry) × (added ≡ event ∷ others)
  unstarted-first before now txn event (done.Replied reply) added ends = (ends.0 ∷ [], ends.1)
  unstarted-first before now txn event (done.Gone reply) added ends = ([], ends.0)

  pub one-stays : OneStays
  one-stays before now asking reply book one is goes = by one.1.is
    where
      low : ℕ
      low = length (book_in before.house)

      high : ℕ
      high = length (book_in now.house)

      stands : (txn : ℕ) (event : Entry) (others : List Entry) (trail : List TrailItem) → OpensAt asking txn event trail → one.1.added ≡ event ∷ others
          → StandsAt low book (entry.Opened (record { 0 = txn }) asking.session asking.number asking.text)
      stands txn event others trail opens first =
          subst (λ (e : Entry). StandsAt low book e) (event-as trail asking txn event opens)
          (own-there B one.1.adds.items before.own now.own before.house now.house book others event one.1.adds.went (one.1.adds.entries ∙ first) goes)

      passed-by : (said : Stmt) (found : Passed) → PassesInTurn told before.house now.house asking said found one.1.added → IsSaidTo found reply
          → IsSaid low high book asking reply
      passed-by said (passed.Ended found) (inl went) said_to =
          ended-said low now.house asking reply found went.way.txn.0 book
          (stands went.way.txn.0 went.begun.event (starting went.way.txn.0 ∷ went.rest) went.begun.was_opened.trail went.begun.was_opened.was
          (went.added_is ∙ ap (λ (xs : List Entry). xs ++ went.rest) went.begun.added_is))
          goes said_to (went.truly is)
      passed-by said (passed.Ended found) (inr ended) said_to =
          let first = unstarted-first before.house now.house ended.txn ended.event found one.1.added ended.ends in
          ended-said low now.house asking reply found ended.txn book
          (stands ended.txn ended.event first.0 ended.was_opened.trail ended.was_opened.was first.1) goes said_to
          (unstarted-truly before.house now.house ended.txn ended.event found one.1.added ended.ends)
      passed-by said (passed.Full entries) passes said_to = inr (inr (full-unopened (book_in now.house) book asking reply goes passes.2 said_to))
      passed-by said passed.NoMemory passes said_to = inr (inr (memory-unopened high book asking reply said_to))

      by : RepliesInTurn told before.house now.house asking reply one.1.added → IsSaid low high book asking reply
      by (inl text) = text-said low high book asking reply text.1
      by (inr replies) = passed-by replies.0 replies.1 replies.3 replies.4
