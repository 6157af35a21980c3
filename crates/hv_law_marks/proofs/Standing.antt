-- What each item that a trail gains leaves of its marks and files, and what they are for.
use Rattle.std.proofs.Common.{◌≡◌, ◌⊎◌, inl, inr, ℕ, ◌+◌, ◌<◌, Option, Some, None, List, [], ◌∷◌, ◌++◌, length, map, refl, sym, ap, ◌∙◌, subst, arith, Bool, true, false, cond}
use Rattle.std.specs.FinMap as tree
use Rattle.std.specs.Ordering.{eq_by_cmp}
use Rattle.std.proofs.lemmas.List.Elements.{Contains-append_left}
use Rattle.hv_base.specs.declared.ids.Limits.{Limits}
use Rattle.hv_shelf.specs.declared.place.Place.{Place}
use Rattle.hv_shelf.specs.Disk.{Tree}
use Rattle.hv_shelf.specs.Places.{place_cmp, place_total}
use Rattle.hv_logic.specs.declared.catalog.TableInfo.{TableInfo}
use Rattle.hv_logic.specs.declared.effect.Effect.{Effect}
use Rattle.hv_logic.specs.declared.meaning.Meaning.TheVariants.{Change}
use Rattle.hv_route.specs.declared.files.OutFile.{OutFile}
use Rattle.hv_route.specs.Routes.{files_of}
use Rattle.hv_history.specs.declared.entry.Entry.{Entry}
use Rattle.hv_history.specs.declared.state.Transaction.{Transaction}
use Rattle.hv_history.specs.State.{State, nothing_yet, numbered, after, state_of}
use Rattle.hv_history.specs.Legal.{Fits, AllFit}
use Rattle.hv_dirs.specs.Names.{write_end}
use Rattle.hv_stands.specs.Files.{own_dir, place_of_file}
use Rattle.hv_stands.specs.Sound.{IsSound}
use Rattle.hv_stands.specs.Running.{IsOfId}
use Rattle.hv_stands.proofs.Numbers.{found, same_one, either}
use Rattle.hv_stands.proofs.Soundness.{all-mapped, all-numbered}
use Rattle.hv_stands.proofs.Places.{same-place, place-tied, other-place}
use Rattle.hv_stands.proofs.Behind.{entries-are}
use Rattle.hv_stands.proofs.OwnFiles.{unowned-id}
use Rattle.hv_law_filed.specs.hv_law_made.specs.Standing.{Standing}
use Rattle.hv_law_filed.specs.hv_law_made.proofs.BookLemmas.{books-are-sound}
use Rattle.hv_law_filed.proofs.NewIds.{new-ids-bare}
use Rattle.hv_trail.specs.declared.trail.TrailItem.{TrailItem}
use Rattle.hv_trail.specs.declared.trail.TrailItem.TheVariants.{Noted, Marked}
use Rattle.hv_trail.specs.declared.trail.Mark.{Mark}
use Rattle.hv_trail.specs.declared.trail.Mark.TheVariants.{Wrote, Broke}
use Rattle.hv_trail.specs.Trail.{book_of, state_at, HasWritten, broken}
use Rattle.hv_trail.specs.Lasting.{IsGiven}
use Rattle.hv_trail.proofs.LastingLaws.{state-append}
use Rattle.hv_trail.proofs.MarkLaws.{whole-book}
use Rattle.hv_trail.proofs.OwnLaws.{others-leave}
use Rattle.hv_law_marks.specs.Marked.{by_txn, ChangesBy, IsChanging, IsOwnPlace, file_wanted, IsMarkedAt, MarksStandIn, MarksStand, IsFileOf, HasAllMarks}
use Rattle.hv_law_marks.specs.Laws.{IsFitting, PutStays, OpenedMarksStand, NotedMarksStand, PutMarksStand, BrokenMarksStand, UnreadMarksStand, ChangesAreOpen, GivenPlacesAreOwn, MarksGiveFiles}
use Rattle.hv_law_marks.proofs.Marks.{unbroken-stays, written-cases, written-before, entry-unwritten, fault-unwritten, same-written, same-txn, entries-unwritten, unbroken-was, broke-it}
use Rattle.hv_law_marks.proofs.Books.{IsSettled, all-settled, is-there, IsJustGiven, was-changing}
use Rattle.hv_law_marks.proofs.ItsFiles.{given-place, sound-of, near-of, one-owner, the-one, of-changing, own-place, wanted-here, one-wanted, owner-stays}

-- ---- a house just opened

pub opened-marks-stand : OpenedMarksStand
opened-marks-stand book files ended = record {
  each = λ txn info effect write changing unbroken place of. absurd (none txn info effect write changing);
  own = λ txn place has. absurd (entries-unwritten book (by_txn txn) place has);
}
  where
    none : (txn : ℕ) (info : TableInfo) (effect : Effect) (write : ℕ) → IsChanging (state_at (map Noted book)) txn info effect write → ⊥
    none txn info effect write changing =
        let there = found (ChangesBy info effect write) (numbered (state_of book).transactions txn)
        (subst (λ (entries : List Entry). IsChanging (state_of entries) txn info effect write) (whole-book book) changing) in
        ended txn there.0 there.1 there.2.unended

-- ---- one item more

module _ (trail : List TrailItem) (item : TrailItem) (before now : Tree) (marks : MarksStand trail before) where
  -- a place that is as it was, and got no mark
  still : (txn : ℕ) (info : TableInfo) (effect : Effect) (write : ℕ) → IsChanging (state_at trail) txn info effect write
      → broken (by_txn txn) (trail ++ item ∷ []) ≡ None → (place : Place) → IsOfId info.table.0 write place
      → (item ≡ Marked (Wrote (by_txn txn) place) → ⊥) → tree.get now place ≡ tree.get before place
      → IsMarkedAt (trail ++ item ∷ []) txn place (file_wanted info effect write place) (tree.get now place)
  still txn info effect write changing unbroken place of other same =
      by (marks.each txn info effect write changing (unbroken-was trail (item ∷ []) (by_txn txn) unbroken) place of)
    where
      by : IsMarkedAt trail txn place (file_wanted info effect write place) (tree.get before place)
          → IsMarkedAt (trail ++ item ∷ []) txn place (file_wanted info effect write place) (tree.get now place)
      by (inl found) = inl (same ∙ found)
      by (inr none) = inr ((λ has. none.0 (written-before trail item (by_txn txn) place other has)), same ∙ none.1)

-- ---- an entry

module _ (limits : Limits) (trail : List TrailItem) (event : Entry) (files : Tree) (fit : AllFit limits nothing_yet (book_of trail))
    (room : length (book_of trail) + 1 < write_end) (fits : Fits limits (state_at trail) event) (stands : Standing (state_at trail) files) (marks : MarksStand trail files) where
  abbrev s : State
  s = state_at trail

  abbrev longer : List TrailItem
  longer = trail ++ Noted event ∷ []

  sound : IsSound s
  sound = sound-of limits (book_of trail) fit

  was-written : (txn : ℕ) (place : Place) → HasWritten longer (by_txn txn) place → HasWritten trail (by_txn txn) place
  was-written txn place has = written-before trail (Noted event) (by_txn txn) place (entry-unwritten event (by_txn txn) place) has

  -- one without write ids made no mark
  unmarked : (txn k w : ℕ) → IsJustGiven s txn k w → (place : Place) → HasWritten longer (by_txn txn) place → ⊥
  unmarked txn k w given place has =
      let of = marks.own txn place (was-written txn place has) in
      unowned-id s txn given.transaction sound given.at given.none place.table.0 of.write of.table of.named of.owner

  -- and a new write id has no file
  unfiled : (txn k w : ℕ) → IsJustGiven s txn k w → (place : Place) → IsOfId k w place → tree.get files place ≡ None
  unfiled txn k w given place of =
      new-ids-bare s files place given.table of.deletes of.statement (books-are-sound limits (book_of trail) fit)
      (omega (arith, room, entries-are (book_of trail))) stands (ap (numbered s.tables) of.table_is ∙ given.here) given.live (of.dir ∙ ap (λ (x : ℕ). own_dir of.deletes x of.statement) given.next)

  noted-each : (txn : ℕ) (info : TableInfo) (effect : Effect) (write : ℕ) → broken (by_txn txn) longer ≡ None
      → IsChanging s txn info effect write ⊎ IsJustGiven s txn info.table.0 write → (place : Place) → IsOfId info.table.0 write place
      → IsMarkedAt longer txn place (file_wanted info effect write place) (tree.get files place)
  noted-each txn info effect write unbroken (inl changing) place of =
      still trail (Noted event) files files marks txn info effect write changing unbroken place of (entry-unwritten event (by_txn txn) place) refl
  noted-each txn info effect write unbroken (inr given) place of =
      inr (unmarked txn info.table.0 write given place, unfiled txn info.table.0 write given place of)

  noted-marks : MarksStandIn (after s event) longer files
  noted-marks = record {
    each = λ txn info effect write changing unbroken place of.
        noted-each txn info effect write unbroken (was-changing limits s (all-settled limits (book_of trail) fit) txn info effect write event fits changing) place of;
    own = λ txn place has. owner-stays s event txn place (marks.own txn place (was-written txn place has));
  }

pub noted-marks-stand : NotedMarksStand
noted-marks-stand limits trail event files fit room fits stands marks =
    subst (λ (state : State). MarksStandIn state (trail ++ Noted event ∷ []) files) (sym (state-append trail (Noted event ∷ [])))
    (noted-marks limits trail event files fit room fits stands marks)

-- ---- a place and all others

same-or-other : (place other : Place) → (other ≡ place) ⊎ (other ≡ place → ⊥)
same-or-other place other = by (either (eq_by_cmp place_cmp other place))
  where
    by : (eq_by_cmp place_cmp other place ≡ true) ⊎ (eq_by_cmp place_cmp other place ≡ false) → (other ≡ place) ⊎ (other ≡ place → ⊥)
    by (inl same) = inl (same-place other place same)
    by (inr apart) = inr (other-place other place apart)

put-here : (files : Tree) (place : Place) (bytes : List ℕ) → tree.get (tree.insert files place bytes) place ≡ Some bytes
put-here files place bytes =
    tree.get-insert place_total files place bytes place ∙ ap (λ b. cond b (Some bytes) (tree.get files place)) (place-tied place)

put-others : (files : Tree) (place : Place) (bytes : List ℕ) (other : Place) → (other ≡ place → ⊥) → tree.get (tree.insert files place bytes) other ≡ tree.get files other
put-others files place bytes other apart =
    tree.get-insert place_total files place bytes other ∙ by (either (eq_by_cmp place_cmp other place))
  where
    by : (eq_by_cmp place_cmp other place ≡ true) ⊎ (eq_by_cmp place_cmp other place ≡ false)
        → cond (eq_by_cmp place_cmp other place) (Some bytes) (tree.get files other) ≡ tree.get files other
    by (inl same) = absurd (apart (same-place other place same))
    by (inr differ) = ap (λ b. cond b (Some bytes) (tree.get files other)) differ

-- ---- calls on files

-- a mark leaves the state
on-marks : (trail : List TrailItem) (mark : Mark) (files : Tree) → MarksStandIn (state_at trail) (trail ++ Marked mark ∷ []) files
    → MarksStand (trail ++ Marked mark ∷ []) files
on-marks trail mark files marks =
    subst (λ (state : State). MarksStandIn state (trail ++ Marked mark ∷ []) files) (sym (state-append trail (Marked mark ∷ []))) marks

pub unread-marks-stand : UnreadMarksStand
unread-marks-stand trail files who is_put count marks =
    on-marks trail (Broke who is_put count) files (record {
      each = λ txn info effect write changing unbroken place of.
          still trail (Marked (Broke who is_put count)) files files marks txn info effect write changing unbroken place of
          (fault-unwritten who is_put count (by_txn txn) place) refl;
      own = λ txn place has.
          marks.own txn place (written-before trail (Marked (Broke who is_put count)) (by_txn txn) place (fault-unwritten who is_put count (by_txn txn) place) has);
    })

-- a transaction changes by one change alone
same-head : {A : Type 0} (x y : A) (xs ys : List A) → x ∷ xs ≡ y ∷ ys → x ≡ y
same-head x y xs ys e = cc

one-change : (info other : TableInfo) (effect last : Effect) (write id : ℕ) (t : Transaction) → ChangesBy info effect write t → ChangesBy other last id t
    → (info ≡ other) × (effect ≡ last) × (write ≡ id)
one-change info other effect last write id t a b =
    let both : Some (Change info effect) ≡ Some (Change other last) = sym a.means_it ∙ b.means_it in
    let first : info ≡ other = cc in
    let second : effect ≡ last = cc in
    (first, second, ap (λ (given : ℕ × ℕ). given.1) (same-head (info.table.0, write) (other.table.0, id) [] [] (sym a.given_is ∙ b.given_is)))

module _ (limits : Limits) (trail : List TrailItem) (fitting : IsFitting limits trail) (before : Tree) (marks : MarksStand trail before)
    (txn : ℕ) (place : Place) where
  abbrev state : State
  state = state_at trail

  firm : IsSound state
  firm = sound-of limits (book_of trail) fitting.fit

  near : state.entries < write_end
  near = near-of limits trail fitting

  -- who is changing at an own place of a transaction is that one
  same-owner : IsOwnPlace state.tables txn place → (other : ℕ) (info : TableInfo) (effect : Effect) (write : ℕ) → IsChanging state other info effect write
      → (there : Place) → IsOfId info.table.0 write there → there ≡ place → other ≡ txn
  same-owner own other info effect write changing there of same =
      one-owner state firm near place other txn (of-changing state firm near other info effect write changing place (subst (IsOfId info.table.0 write) same of)) own

  -- a put that failed
  broken-marks : (now : Tree) (is_put : Bool) (count : ℕ) → IsOwnPlace state.tables txn place
      → ((other : Place) → (other ≡ place → ⊥) → tree.get now other ≡ tree.get before other)
      → MarksStand (trail ++ Marked (Broke (Some (by_txn txn)) is_put count) ∷ []) now
  broken-marks now is_put count own others =
      on-marks trail mark now (record {
        each = λ other info effect write changing unbroken there of. by other info effect write changing unbroken there of (same-or-other place there);
        own = λ other there has. marks.own other there (written-before trail (Marked mark) (by_txn other) there (unwritten other there) has);
      })
    where
      mark : Mark
      mark = Broke (Some (by_txn txn)) is_put count

      unwritten : (other : ℕ) (there : Place) → Marked mark ≡ Marked (Wrote (by_txn other) there) → ⊥
      unwritten other there = fault-unwritten (Some (by_txn txn)) is_put count (by_txn other) there

      by : (other : ℕ) (info : TableInfo) (effect : Effect) (write : ℕ) → IsChanging state other info effect write
          → broken (by_txn other) (trail ++ Marked mark ∷ []) ≡ None
          → (there : Place) → IsOfId info.table.0 write there → (there ≡ place) ⊎ (there ≡ place → ⊥)
          → IsMarkedAt (trail ++ Marked mark ∷ []) other there (file_wanted info effect write there) (tree.get now there)
      by other info effect write changing unbroken there of (inl same) =
          absurd (broke-it trail txn is_put count
          (subst (λ (n : ℕ). broken (by_txn n) (trail ++ Marked mark ∷ []) ≡ None) (same-owner own other info effect write changing there of same) unbroken))
      by other info effect write changing unbroken there of (inr apart) =
          still trail (Marked mark) before now marks other info effect write changing unbroken there of (unwritten other there) (others there apart)

  -- a put of a file of its change
  module _ (info : TableInfo) (effect : Effect) (write : ℕ) (bytes : List ℕ) (changing : IsChanging state txn info effect write)
      (file : IsFileOf info effect write place bytes) where
    abbrev now : Tree
    now = tree.insert before place bytes

    abbrev marked : List TrailItem
    marked = trail ++ Marked (Wrote (by_txn txn) place) ∷ []

    its-own : IsOwnPlace state.tables txn place
    its-own = own-place state firm near txn info effect write changing place bytes file

    -- it is what is wanted there, whoever asks
    wanted-anyway : (other : ℕ) (of : TableInfo) (last : Effect) (id : ℕ) → IsChanging state other of last id → other ≡ txn
        → file_wanted of last id place ≡ Some bytes
    wanted-anyway other of last id changes same =
        let a = the-one state firm near txn info effect write changing in
        let b = the-one state firm near other of last id changes in
        let t : a.0 ≡ b.0 = same_one (numbered state.transactions txn) a.0 b.0 a.1 (ap (numbered state.transactions) (sym same) ∙ b.1) in
        let both = one-change info of effect last write id b.0 (subst (ChangesBy info effect write) t a.2) b.2 in
        (λ i. file_wanted (sym both.0 i) (sym both.1 i) (sym both.2 i) place)
        ∙ wanted-here state firm near txn info effect write changing place bytes file

    put-each : (other : ℕ) (of : TableInfo) (last : Effect) (id : ℕ) → IsChanging state other of last id → broken (by_txn other) marked ≡ None
        → (there : Place) → IsOfId of.table.0 id there → (there ≡ place) ⊎ (there ≡ place → ⊥)
        → IsMarkedAt marked other there (file_wanted of last id there) (tree.get now there)
    put-each other of last id changes unbroken there is (inl same) =
        inl (ap (tree.get now) same ∙ put-here before place bytes
        ∙ sym (ap (file_wanted of last id) same ∙ wanted-anyway other of last id changes (same-owner its-own other of last id changes there is same)))
    put-each other of last id changes unbroken there is (inr apart) =
        still trail (Marked (Wrote (by_txn txn) place)) before now marks other of last id changes unbroken there is
        (λ e. apart (sym (same-written (by_txn txn) (by_txn other) place there e).1)) (put-others before place bytes there apart)

    put-own : (other : ℕ) (there : Place) → HasWritten trail (by_txn other) there ⊎ (Marked (Wrote (by_txn txn) place) ≡ Marked (Wrote (by_txn other) there))
        → IsOwnPlace state.tables other there
    put-own other there (inl has) = marks.own other there has
    put-own other there (inr e) =
        let same = same-written (by_txn txn) (by_txn other) place there e in
        subst (IsOwnPlace state.tables other) same.1 (subst (λ (n : ℕ). IsOwnPlace state.tables n place) (same-txn txn other same.0) its-own)

    put-marks : MarksStand marked now
    put-marks = on-marks trail (Wrote (by_txn txn) place) now (record {
      each = λ other of last id changes unbroken there is. put-each other of last id changes unbroken there is (same-or-other place there);
      own = λ other there has. put-own other there (written-cases trail (Marked (Wrote (by_txn txn) place)) (by_txn other) there has);
    })

pub put-marks-stand : PutMarksStand
put-marks-stand limits trail files txn info effect write place bytes fitting changing file marks =
    put-marks limits trail fitting files marks txn place info effect write bytes changing file

pub broken-marks-stand : BrokenMarksStand
broken-marks-stand limits trail before now txn place is_put count fitting own others marks =
    broken-marks limits trail fitting before marks txn place now is_put count own others

-- ---- what they are for

pub changes-are-open : ChangesAreOpen
changes-are-open book asking txn place said info effect write way means =
    is-there (ChangesBy info effect write) (numbered (state_of book).transactions txn) _ way.here (record { unended = refl; means_it = means; given_is = refl })

pub given-places-own : GivenPlacesAreOwn
given-places-own limits trail txn table write place fit given of =
    let there = found (IsGiven table write) (numbered (state_at trail).transactions txn) given in
    given-place (state_at trail) (sound-of limits (book_of trail) fit) txn table write there.0 there.1 there.2 place of

pub put-stays : PutStays
put-stays trail more txn info effect write spare apart put =
    let there = found (ChangesBy info effect write) (numbered (state_at trail).transactions txn) put.changing in
    record {
      changing = is-there (ChangesBy info effect write) (numbered (state_at (trail ++ more)).transactions txn) there.0
          (others-leave trail more txn there.0 spare there.1) there.2;
      unbroken = unbroken-stays trail more (by_txn txn) apart put.unbroken;
      marks = all-mapped (λ (file : OutFile). HasWritten trail (by_txn txn) (place_of_file info.table.0 write file))
          (λ (file : OutFile). HasWritten (trail ++ more) (by_txn txn) (place_of_file info.table.0 write file))
          (λ file has. Contains-append_left trail more (Marked (Wrote (by_txn txn) (place_of_file info.table.0 write file))) has) (files_of info.shape write 0 effect) put.marks;
    }

module _ (limits : Limits) (trail : List TrailItem) (fitting : IsFitting limits trail) (txn : ℕ) (info : TableInfo) (effect : Effect) (write : ℕ)
    (changing : IsChanging (state_at trail) txn info effect write) (all : HasAllMarks trail txn info effect write) where
  -- where there is no mark, nothing is wanted
  nothing-wanted : (place : Place) → IsOfId info.table.0 write place → (HasWritten trail (by_txn txn) place → ⊥)
      → (o : Option (List ℕ)) → file_wanted info effect write place ≡ o → file_wanted info effect write place ≡ None
  nothing-wanted place of unmarked None is = is
  nothing-wanted place of unmarked (Some bytes) is =
      let file = one-wanted (state_at trail) (sound-of limits (book_of trail) fitting.fit) (near-of limits trail fitting) txn info effect write changing
      (λ (file : OutFile). HasWritten trail (by_txn txn) (place_of_file info.table.0 write file)) place bytes of is all in
      absurd (unmarked (subst (HasWritten trail (by_txn txn)) (sym file.1) file.2))

  whole-there : (place : Place) → IsOfId info.table.0 write place → (found : Option (List ℕ)) → IsMarkedAt trail txn place (file_wanted info effect write place) found
      → found ≡ file_wanted info effect write place
  whole-there place of found (inl same) = same
  whole-there place of found (inr none) = none.1 ∙ sym (nothing-wanted place of none.0 (file_wanted info effect write place) refl)

pub marks-give-files : MarksGiveFiles
marks-give-files limits trail files txn info effect write fitting marks put readable held =
    let there = found (ChangesBy info effect write) (numbered (state_at trail).transactions txn) put.changing in
    let settled = all-numbered IsSettled (state_at trail).transactions txn there.0 there.1 (all-settled limits (book_of trail) fitting.fit) in
    record {
      own = λ place of.
          whole-there limits trail fitting txn info effect write put.changing put.marks place of (tree.get files place)
          (marks.each txn info effect write put.changing put.unbroken place of);
      encoded = (settled.readable info effect there.2.means_it).encoded write readable held;
    }
