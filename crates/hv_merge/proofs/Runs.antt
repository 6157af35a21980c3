-- The rows that move out in one turn are those that come next.
use Rattle.std.proofs.Common.{refl, ◌≡◌, Bool, true, false, cond, not, true≢false, Option, Some, None, List, [], ◌∷◌, ◌++◌, map, fold, sym, ap, ◌∙◌, subst, append_assoc}
use Rattle.std.specs.declared.cmp.Ordering.{Ordering}
use Rattle.std.specs.declared.cmp.Ordering.TheVariants.{Less, Equal, Greater}
use Rattle.std.specs.Ordering.{is_lt, is_eq}
use Rattle.std.specs.List.{cons_option, AllByRecursion}
use Rattle.std.proofs.lemmas.Bool.{cond-true, cond-false}
use Rattle.std.proofs.lemmas.Option.{same_Some, none-some}
use Rattle.std.proofs.lemmas.Grind.{flat_map-append}
use Rattle.std.proofs.lemmas.List.{map-append}
use Rattle.std.proofs.lemmas.List.Elements.{filter_map-append}
use Rattle.hv_base.specs.declared.ids.RowId.{RowId}
use Rattle.hv_base.specs.Identifiers.{row_id_cmp, row_id_eq, row_id_total, row_id_ties}
use Rattle.hv_wids.specs.WriteIds.{WriteIds, is_valid}
use Rattle.hv_base.specs.Sorting.{rising_by}
use Rattle.hv_law_visible.proofs.SortingLemmas.{Below, Rises}
use Rattle.hv_rowfile.specs.declared.record.Rec.{Rec}
use Rattle.hv_rowfile.specs.declared.record.Rec.TheVariants as rec
use Rattle.hv_rowfile.specs.Layout.{RisesFrom}
use Rattle.hv_rowfile.specs.Layout.{id_of as record_id}
use Rattle.hv_merge.specs.declared.shown.Shown.{Shown}
use Rattle.hv_merge.specs.declared.turns.Turn.{Turn}
use Rattle.hv_merge.specs.Steps.{valid_row, valid_rows, is_before, taken_before, left_before, run_of, rest_of, front_at, behind_at, later, later_at, last_at, gone_from, kept_front, kept_run, gone_after}
use Rattle.hv_merge.proofs.Fronts.{cmp, all_rows, Over, NotBelow, turned, tied_id, not_tied, put_all, rising-append, put-below, put-front, below-over, over-below, over-merge, front_of, behind_of, last_of, left_of, later-none, later-later}
use Rattle.hv_merge.proofs.RisingLemmas.{lt-is}
use Rattle.hv_merge.proofs.Kept.{is_in, kept, coming, IdsRise, AllAbove, above, rises-file, rises-files, starts, rises-gone, kept-later, one-step}
use Rattle.hv_merge.proofs.Looks.{all-append, all-front, all-behind, never, isnt, lt-step, lt-trans, Starts, IsTurn, starts-all}

-- ---- the first row of a file whose rows come before the others'

flat-parts : (before : List (List Shown)) (file : List Shown) (after : List (List Shown)) → all_rows (before ++ file ∷ after) ≡ all_rows before ++ (file ++ all_rows after)
flat-parts before file after = flat_map-append (λ (f : List Shown). f) before (file ∷ after)

over-rising : (m : RowId) (rows : List Shown) → Over m rows → Over m (rising_by cmp rows)
over-rising m [] h = tt
over-rising m (x ∷ rows) h = over-merge m x (rising_by cmp rows) h.0 (over-rising m rows h.1)

over-append : (m : RowId) (xs ys : List Shown) → Over m xs → Over m ys → Over m (xs ++ ys)
over-append m [] ys h more = more
over-append m (x ∷ xs) ys h more = (h.0, over-append m xs ys h.1 more)

front-first : (before : List (List Shown)) (x : Shown) (xs : List Shown) (after : List (List Shown)) → Over x.id (all_rows before) → Over x.id (all_rows after) → Below cmp x xs
    → rising_by cmp (all_rows (before ++ (x ∷ xs) ∷ after)) ≡ x ∷ rising_by cmp (all_rows (before ++ xs ∷ after))
front-first before x xs after ahead behind below =
    let B = all_rows before in
    let A = all_rows after in
    let Y = rising_by cmp (xs ++ A) in
    let over : Over x.id (xs ++ A) = over-append x.id xs A (below-over x xs below) behind in
    ap (rising_by cmp) (flat-parts before (x ∷ xs) after)
    ∙ rising-append B (x ∷ (xs ++ A))
    ∙ ap (put_all B) (put-below x Y (over-below x Y (over-rising x.id (xs ++ A) over)))
    ∙ put-front B x Y ahead
    ∙ ap (λ (z : List Shown). x ∷ z) (sym (rising-append B (xs ++ A)) ∙ sym (ap (rising_by cmp) (flat-parts before xs after)))

over-left : (before : List (List Shown)) (m : RowId) (xs : List Shown) (after : List (List Shown)) → Over m (all_rows before) → Over m (all_rows after) → Over m xs
    → Over m (rising_by cmp (all_rows (before ++ xs ∷ after)))
over-left before m xs after ahead behind over =
    over-rising m (all_rows (before ++ xs ∷ after))
    (subst (Over m) (sym (flat-parts before xs after)) (over-append m (all_rows before) (xs ++ all_rows after) ahead (over-append m xs (all_rows after) over behind)))

kept-by : (b : Bool) (x : Shown) (rows : List Shown) → cond (not b) (x ∷ rows) rows ≡ cond b [] (x ∷ []) ++ rows
kept-by true x rows = refl
kept-by false x rows = refl

one-row : (gone : List RowId) (before : List (List Shown)) (x : Shown) (xs : List Shown) (after : List (List Shown)) → IdsRise gone → Over x.id (all_rows before) → Over x.id (all_rows after) → Below cmp x xs
    → coming gone (before ++ (x ∷ xs) ∷ after) ≡ kept_front (gone_from x.id gone) x.id (Some x) ++ coming (gone_from x.id gone) (before ++ xs ∷ after)
one-row gone before x xs after up ahead behind below =
    let rest = rising_by cmp (all_rows (before ++ xs ∷ after)) in
    let still = gone_from x.id gone in
    ap (kept gone) (front-first before x xs after ahead behind below)
    ∙ ap (λ (z : List Shown). cond (not (is_in x.id gone)) (x ∷ z) z) (kept-later x.id gone rest (over-left before x.id xs after ahead behind (below-over x xs below)))
    ∙ kept-by (is_in x.id gone) x (kept still rest)
    ∙ ap (λ b. cond b [] (x ∷ []) ++ kept still rest) (sym (starts x.id gone up))

whole-run : (gone : List RowId) (before : List (List Shown)) (run rest : List Shown) (after : List (List Shown)) → IdsRise gone → Rises cmp (run ++ rest)
    → AllByRecursion (λ (x : Shown). Over x.id (all_rows before)) run → AllByRecursion (λ (x : Shown). Over x.id (all_rows after)) run
    → coming gone (before ++ (run ++ rest) ∷ after) ≡ kept_run gone run ++ coming (gone_after gone run) (before ++ rest ∷ after)
whole-run gone before [] rest after up rise ahead behind = refl
whole-run gone before (x ∷ run) rest after up rise ahead behind =
    let still = gone_from x.id gone in
    one-row gone before x (run ++ rest) after up ahead.0 behind.0 rise.0
    ∙ ap (λ (z : List Shown). kept_front still x.id (Some x) ++ z) (whole-run still before run rest after (rises-gone x.id gone up) rise.1 ahead.1 behind.1)
    ∙ sym (append_assoc (kept_front still x.id (Some x)) (kept_run still run) (coming (gone_after still run) (before ++ rest ∷ after)))

pub rises-after : (gone : List RowId) (run : List Shown) → IdsRise gone → IdsRise (gone_after gone run)
rises-after gone [] up = up
rises-after gone (x ∷ run) up = rises-after (gone_from x.id gone) run (rises-gone x.id gone up)

-- ---- the rows of records

option-all : (P : Shown → Type 0) (b : Bool) (x : Shown) (rows : List Shown) → P x → AllByRecursion P rows → AllByRecursion P (cons_option (cond b (Some x) None) rows)
option-all P true x rows p h = (p, h)
option-all P false x rows p h = h

abbrev IsAfter : Option RowId → Shown → Type 0
IsAfter others x = is_before x.id others ≡ false

after-by : (others : Option RowId) (a b : RowId) → row_id_cmp a b ≡ Less → is_before a others ≡ false → is_before b others ≡ false
after-by None a b e f = f
after-by (Some other) a b e f =
    isnt (is_lt (row_id_cmp b other)) (λ h. never (is_lt (row_id_cmp a other)) (lt-trans a b other (ap is_lt e) h) f)

after-all : (others : Option RowId) (a : RowId) (rows : List Shown) → is_before a others ≡ false → AllAbove a rows → AllByRecursion (IsAfter others) rows
after-all others a [] e h = tt
after-all others a (x ∷ rows) e h = (after-by others a x.id h.0 e, after-all others a rows e h.1)

module _ (list : WriteIds) where
  after-file : (others : Option RowId) (file : List Rec) → RisesFrom None file → Starts others file → AllByRecursion (IsAfter others) (valid_rows list file)
  after-file others [] up start = tt
  after-file others (rec.Insert id row ∷ recs) up start =
      option-all (IsAfter others) (is_valid list id.write.0) (record { id = id; row = row }) (valid_rows list recs) start
      (after-all others id (valid_rows list recs) start (above list id recs up.1))
  after-file others (rec.Delete id by ∷ recs) up start = after-all others id (valid_rows list recs) start (above list id recs up.1)

  after-files : (others : Option RowId) (files : List (List Rec)) → AllByRecursion (RisesFrom None) files → AllByRecursion (Starts others) files
      → AllByRecursion (IsAfter others) (all_rows (map (valid_rows list) files))
  after-files others [] up start = tt
  after-files others (file ∷ files) up start =
      all-append (IsAfter others) (valid_rows list file) (all_rows (map (valid_rows list) files)) (after-file others file up.0 start.0) (after-files others files up.1 start.1)

  over-id : (others : Option RowId) (id y : RowId) → is_before id others ≡ true → is_before y others ≡ false → row_id_cmp y id ≡ Greater
  over-id None id y e f = absurd (true≢false f)
  over-id (Some other) id y e f = turned id y Less (lt-is (row_id_cmp id y) (lt-step id other y e f))

  over-rows : (others : Option RowId) (id : RowId) (rows : List Shown) → is_before id others ≡ true → AllByRecursion (IsAfter others) rows → Over id rows
  over-rows others id [] e h = tt
  over-rows others id (y ∷ rows) e h = (over-id others id y.id e h.0, over-rows others id rows e h.1)

  abbrev IsFirst : Option RowId → Shown → Type 0
  IsFirst others x = is_before x.id others ≡ true

  over-run : (others : Option RowId) (run rows : List Shown) → AllByRecursion (IsFirst others) run → AllByRecursion (IsAfter others) rows
      → AllByRecursion (λ (x : Shown). Over x.id rows) run
  over-run others [] rows h after = tt
  over-run others (x ∷ run) rows h after = (over-rows others x.id rows h.0 after, over-run others run rows h.1 after)

  first-by : (b : Bool) (others : Option RowId) (r : Rec) (recs : List Rec) → is_before (record_id r) others ≡ b → AllByRecursion (IsFirst others) (valid_rows list recs)
      → AllByRecursion (IsFirst others) (valid_rows list (cond b (r ∷ recs) []))
  first-by false others r recs e h = tt
  first-by true others (rec.Insert id row) recs e h =
      option-all (IsFirst others) (is_valid list id.write.0) (record { id = id; row = row }) (valid_rows list recs) e h
  first-by true others (rec.Delete id by) recs e h = h

  run-first : (others : Option RowId) (recs : List Rec) → AllByRecursion (IsFirst others) (valid_rows list (run_of others recs))
  run-first others [] = tt
  run-first others (r ∷ recs) = first-by (is_before (record_id r) others) others r (run_of others recs) refl (run-first others recs)

  run-rest-by : (b : Bool) (r : Rec) (recs run rest : List Rec) → run ++ rest ≡ recs → cond b (r ∷ run) [] ++ cond b rest (r ∷ recs) ≡ r ∷ recs
  run-rest-by true r recs run rest e = ap (λ (z : List Rec). r ∷ z) e
  run-rest-by false r recs run rest e = refl

  run-rest : (others : Option RowId) (recs : List Rec) → run_of others recs ++ rest_of others recs ≡ recs
  run-rest others [] = refl
  run-rest others (r ∷ recs) = run-rest-by (is_before (record_id r) others) r recs (run_of others recs) (rest_of others recs) (run-rest others recs)

  rows-parts : (others : Option RowId) (recs : List Rec) → valid_rows list recs ≡ valid_rows list (run_of others recs) ++ valid_rows list (rest_of others recs)
  rows-parts others recs =
      ap (valid_rows list) (sym (run-rest others recs)) ∙ filter_map-append (valid_row list) (run_of others recs) (rest_of others recs)

  -- a turn of one file
  pub run-next : (gone : List RowId) (files : List (List Rec)) (turn : Turn) (t : IsTurn files turn) → IdsRise gone → AllByRecursion (RisesFrom None) files
      → coming gone (map (valid_rows list) files)
      ≡ kept_run gone (valid_rows list (run_of turn.others (t.first ∷ t.rest)))
      ++ coming (gone_after gone (valid_rows list (run_of turn.others (t.first ∷ t.rest)))) (map (valid_rows list) (t.before ++ rest_of turn.others (t.first ∷ t.rest) ∷ t.after))
  run-next gone files turn t up rise =
      let f = valid_rows list in
      let head = t.first ∷ t.rest in
      let run = f (run_of turn.others head) in
      let rest = f (rest_of turn.others head) in
      let rises : AllByRecursion (RisesFrom None) (t.before ++ head ∷ t.after) = subst (AllByRecursion (RisesFrom None)) t.parts rise in
      let tail = all-behind (RisesFrom None) t.before (head ∷ t.after) rises in
      let first = run-first turn.others head in
      ap (λ z. coming gone (map f z)) t.parts
      ∙ ap (coming gone) (map-append f t.before (head ∷ t.after))
      ∙ ap (λ (z : List Shown). coming gone (map f t.before ++ z ∷ map f t.after)) (rows-parts turn.others head)
      ∙ whole-run gone (map f t.before) run rest (map f t.after) up (subst (Rises cmp) (rows-parts turn.others head) (rises-file list None head tail.0))
      (over-run turn.others run (all_rows (map f t.before)) first (after-files turn.others t.before (all-front (RisesFrom None) t.before (head ∷ t.after) rises) t.ahead))
      (over-run turn.others run (all_rows (map f t.after)) first (after-files turn.others t.after tail.1 t.behind))
      ∙ ap (λ (z : List (List Shown)). kept_run gone run ++ coming (gone_after gone run) z) (sym (map-append f t.before (rest_of turn.others head ∷ t.after)))

  pub run-step : (gone still : List RowId) (files left : List (List Rec)) (turn : Turn) (t : IsTurn files turn) (rows grown whole : List Shown)
      → IdsRise gone → AllByRecursion (RisesFrom None) files
      → still ≡ gone_after gone (valid_rows list (run_of turn.others (t.first ∷ t.rest)))
      → left ≡ t.before ++ rest_of turn.others (t.first ∷ t.rest) ∷ t.after
      → grown ≡ rows ++ kept_run gone (valid_rows list (run_of turn.others (t.first ∷ t.rest)))
      → rows ++ coming gone (map (valid_rows list) files) ≡ whole → grown ++ coming still (map (valid_rows list) left) ≡ whole
  run-step gone still files left turn t rows grown whole up rise es el eg before =
      let more = kept_run gone (valid_rows list (run_of turn.others (t.first ∷ t.rest))) in
      (λ i. eg i ++ coming (es i) (map (valid_rows list) (el i)))
      ∙ append_assoc rows more (coming (gone_after gone (valid_rows list (run_of turn.others (t.first ∷ t.rest)))) (map (valid_rows list) (t.before ++ rest_of turn.others (t.first ∷ t.rest) ∷ t.after)))
      ∙ ap (λ (z : List Shown). rows ++ z) (sym (run-next gone files turn t up rise))
      ∙ before

  -- ---- a turn of several files

  over-front : (m : RowId) (rows : List Shown) → Over m rows → (None ≡ front_of m rows) × (rows ≡ behind_of m rows)
  over-front m [] h = (refl, refl)
  over-front m (x ∷ rows) h =
      let is : row_id_eq x.id m ≡ false = not_tied x.id m Greater h.0 refl in
      (sym (cond-false _ _ _ is), sym (cond-false _ _ _ is))

  over-above : (m : RowId) (rows : List Shown) → AllAbove m rows → Over m rows
  over-above m [] h = tt
  over-above m (x ∷ rows) h = (turned m x.id Less h.0, over-above m rows h.1)

  far-above : (a m : RowId) (rows : List Shown) → row_id_cmp a m ≡ Greater → AllAbove a rows → AllAbove m rows
  far-above a m [] e h = tt
  far-above a m (x ∷ rows) e h = (row_id_total.trans m a x.id (turned a m Greater e) h.0, far-above a m rows e h.1)

  -- the first record has the identifier
  tied-option : (b : Bool) (m : RowId) (x : Shown) (rows : List Shown) → x.id ≡ m → Over m rows
      → (cond b (Some x) None ≡ front_of m (cons_option (cond b (Some x) None) rows)) × (rows ≡ behind_of m (cons_option (cond b (Some x) None) rows))
  tied-option true m x rows e over =
      let is : row_id_eq x.id m ≡ true = row_id_ties x.id m ∙ ap is_eq (ap (λ a. row_id_cmp a m) e ∙ Rattle.std.specs.Cmp.tied_itself row_id_total m) in
      (sym (cond-true _ _ _ is), sym (cond-true _ _ _ is))
  tied-option false m x rows e over = over-front m rows over

  tied-file : (m : RowId) (r : Rec) (recs : List Rec) → record_id r ≡ m → RisesFrom None (r ∷ recs)
      → (valid_row list r ≡ front_of m (valid_rows list (r ∷ recs))) × (valid_rows list recs ≡ behind_of m (valid_rows list (r ∷ recs)))
  tied-file m (rec.Insert id row) recs e up =
      tied-option (is_valid list id.write.0) m (record { id = id; row = row }) (valid_rows list recs) e
      (over-above m (valid_rows list recs) (subst (λ a. AllAbove a (valid_rows list recs)) e (above list id recs up.1)))
  tied-file m (rec.Delete id by) recs e up =
      over-front m (valid_rows list recs) (over-above m (valid_rows list recs) (subst (λ a. AllAbove a (valid_rows list recs)) e (above list id recs up.1)))

  above-option : (b : Bool) (m : RowId) (x : Shown) (rows : List Shown) → row_id_cmp x.id m ≡ Greater → Over m rows → Over m (cons_option (cond b (Some x) None) rows)
  above-option true m x rows e h = (e, h)
  above-option false m x rows e h = h

  -- the first record comes behind the identifier
  over-file : (m : RowId) (r : Rec) (recs : List Rec) → row_id_cmp (record_id r) m ≡ Greater → RisesFrom None (r ∷ recs) → Over m (valid_rows list (r ∷ recs))
  over-file m (rec.Insert id row) recs e up =
      above-option (is_valid list id.write.0) m (record { id = id; row = row }) (valid_rows list recs) e
      (over-above m (valid_rows list recs) (far-above id m (valid_rows list recs) e (above list id recs up.1)))
  over-file m (rec.Delete id by) recs e up = over-above m (valid_rows list recs) (far-above id m (valid_rows list recs) e (above list id recs up.1))

  front-by : (o : Ordering) (m : RowId) (r : Rec) (recs : List Rec) → row_id_cmp (record_id r) m ≡ o → is_lt o ≡ false → RisesFrom None (r ∷ recs)
      → (front_at list m (r ∷ recs) ≡ front_of m (valid_rows list (r ∷ recs))) × (valid_rows list (behind_at m (r ∷ recs)) ≡ behind_of m (valid_rows list (r ∷ recs)))
  front-by Less m r recs e not up = absurd (true≢false not)
  front-by Equal m r recs e not up =
      let is : row_id_eq (record_id r) m ≡ true = row_id_ties (record_id r) m ∙ ap is_eq e in
      let h = tied-file m r recs (tied_id (record_id r) m e) up in
      (cond-true _ _ _ is ∙ h.0, ap (valid_rows list) (cond-true _ _ _ is) ∙ h.1)
  front-by Greater m r recs e not up =
      let is : row_id_eq (record_id r) m ≡ false = not_tied (record_id r) m Greater e refl in
      let h = over-front m (valid_rows list (r ∷ recs)) (over-file m r recs e up) in
      (cond-false _ _ _ is ∙ h.0, ap (valid_rows list) (cond-false _ _ _ is) ∙ h.1)

  front-file : (m : RowId) (file : List Rec) → RisesFrom None file → Starts (Some m) file
      → (front_at list m file ≡ front_of m (valid_rows list file)) × (valid_rows list (behind_at m file) ≡ behind_of m (valid_rows list file))
  front-file m [] up start = (refl, refl)
  front-file m (r ∷ recs) up start = front-by (row_id_cmp (record_id r) m) m r recs refl start up

  behind-files : (m : RowId) (files : List (List Rec)) → AllByRecursion (RisesFrom None) files → AllByRecursion (Starts (Some m)) files
      → map (valid_rows list) (map (behind_at m) files) ≡ left_of m (map (valid_rows list) files)
  behind-files m [] up start = refl
  behind-files m (file ∷ files) up start = λ i. (front-file m file up.0 start.0).1 i ∷ behind-files m files up.1 start.1 i

  last-fold : (m : RowId) (found : Option Shown) (files : List (List Rec)) → AllByRecursion (RisesFrom None) files → AllByRecursion (Starts (Some m)) files
      → fold (later_at list m) found files ≡ later found (last_of m (map (valid_rows list) files))
  last-fold m found [] up start = refl
  last-fold m found (file ∷ files) up start =
      last-fold m (later found (front_at list m file)) files up.1 start.1
      ∙ later-later found (front_at list m file) (last_of m (map (valid_rows list) files))
      ∙ ap (λ (z : Option Shown). later found (later z (last_of m (map (valid_rows list) files)))) (front-file m file up.0 start.0).0

  last-files : (m : RowId) (files : List (List Rec)) → AllByRecursion (RisesFrom None) files → AllByRecursion (Starts (Some m)) files
      → last_at list m files ≡ last_of m (map (valid_rows list) files)
  last-files m files up start = last-fold m None files up start ∙ later-none (last_of m (map (valid_rows list) files))

  not-below : (m : RowId) (rows : List Shown) → AllByRecursion (IsAfter (Some m)) rows → NotBelow m rows
  not-below m [] h = tt
  not-below m (x ∷ rows) h = λ less. never (is_lt (row_id_cmp x.id m)) (ap is_lt less) h.0

  not-below-files : (m : RowId) (files : List (List Rec)) → AllByRecursion (RisesFrom None) files → AllByRecursion (Starts (Some m)) files
      → AllByRecursion (NotBelow m) (map (valid_rows list) files)
  not-below-files m [] up start = tt
  not-below-files m (file ∷ files) up start = (not-below m (valid_rows list file) (after-file (Some m) file up.0 start.0), not-below-files m files up.1 start.1)

  pub tie-step : (gone still : List RowId) (files left : List (List Rec)) (turn : Turn) → IsTurn files turn → (rows grown whole : List Shown) (found : Option Shown)
      → IdsRise gone → AllByRecursion (RisesFrom None) files
      → still ≡ gone_from turn.least gone → left ≡ map (behind_at turn.least) files → found ≡ last_at list turn.least files → grown ≡ rows ++ kept_front still turn.least found
      → rows ++ coming gone (map (valid_rows list) files) ≡ whole → grown ++ coming still (map (valid_rows list) left) ≡ whole
  tie-step gone still files left turn t rows grown whole found up rise es el ef eg before =
      let start = starts-all files turn t in
      one-step turn.least gone still (map (valid_rows list) files) (map (valid_rows list) left) rows grown whole found up (rises-files list files rise)
      (not-below-files turn.least files rise start) es
      (ap (map (valid_rows list)) el ∙ behind-files turn.least files rise start) (ef ∙ last-files turn.least files rise start) eg before

-- ---- one row of a run

valid-id-by : (b : Bool) (id : RowId) (x s : Shown) → x.id ≡ id → cond b (Some x) None ≡ Some s → id ≡ s.id
valid-id-by true id x s is e = sym is ∙ ap (λ (y : Shown). y.id) (same_Some x s e)
valid-id-by false id x s is e = absurd (none-some s e)

valid-id : (list : WriteIds) (r : Rec) (s : Shown) → valid_row list r ≡ Some s → record_id r ≡ s.id
valid-id list (rec.Insert id row) s e = valid-id-by (is_valid list id.write.0) id (record { id = id; row = row }) s refl e
valid-id list (rec.Delete id by) s e = absurd (none-some s e)

taken-by : (b : Bool) (others : Option RowId) (x r : Rec) (recs : List Rec) → cond b (Some x) None ≡ Some r
    → (cond b (x ∷ run_of others recs) [] ≡ r ∷ run_of others (cond b recs (x ∷ recs))) × (cond b (rest_of others recs) (x ∷ recs) ≡ rest_of others (cond b recs (x ∷ recs)))
taken-by true others x r recs e = (ap (λ (z : Rec). z ∷ run_of others recs) (same_Some x r e), refl)
taken-by false others x r recs e = absurd (none-some r e)

taken : (others : Option RowId) (head : List Rec) (r : Rec) → taken_before others head ≡ Some r
    → (run_of others head ≡ r ∷ run_of others (left_before others head)) × (rest_of others head ≡ rest_of others (left_before others head))
taken others [] r e = absurd (none-some r e)
taken others (x ∷ recs) r e = taken-by (is_before (record_id x) others) others x r recs e

pub record IsMoved (list : WriteIds) (others : Option RowId) (head left : List Rec) (r : Rec) (s : Shown) : Type 0 where
  pub run : valid_rows list (run_of others head) ≡ s ∷ valid_rows list (run_of others left)
  pub rest : rest_of others head ≡ rest_of others left
  pub id : record_id r ≡ s.id

pub moved : (list : WriteIds) (others : Option RowId) (head left : List Rec) (r : Rec) (s : Shown) → taken_before others head ≡ Some r → left ≡ left_before others head
    → valid_row list r ≡ Some s → IsMoved list others head left r s
moved list others head left r s et el ev =
    let h = taken others head r et in
    record {
      run = ap (valid_rows list) (h.0 ∙ ap (λ (z : List Rec). r ∷ run_of others z) (sym el)) ∙ ap (λ (o : Option Shown). cons_option o (valid_rows list (run_of others left))) ev;
      rest = h.1 ∙ ap (rest_of others) (sym el);
      id = valid-id list r s ev;
    }

pub run-more : (gone still : List RowId) (id : RowId) (s : Shown) (rows grown whole seen left : List Shown) → id ≡ s.id → still ≡ gone_from id gone
    → grown ≡ rows ++ kept_front still id (Some s) → seen ≡ s ∷ left → rows ++ kept_run gone seen ≡ whole → grown ++ kept_run still left ≡ whole
run-more gone still id s rows grown whole seen left ei es eg ev before =
    let same : still ≡ gone_from s.id gone = es ∙ ap (λ a. gone_from a gone) ei in
    ap (λ (z : List Shown). z ++ kept_run still left) eg
    ∙ append_assoc rows (kept_front still id (Some s)) (kept_run still left)
    ∙ ap (λ (z : List Shown). rows ++ z) (λ i. kept_front (same i) (ei i) (Some s) ++ kept_run (same i) left)
    ∙ ap (λ (z : List Shown). rows ++ kept_run gone z) (sym ev)
    ∙ before

pub gone-more : (gone still : List RowId) (id : RowId) (s : Shown) (seen left : List Shown) (whole : List RowId) → id ≡ s.id → still ≡ gone_from id gone → seen ≡ s ∷ left
    → gone_after gone seen ≡ whole → gone_after still left ≡ whole
gone-more gone still id s seen left whole ei es ev before =
    ap (λ g. gone_after g left) (es ∙ ap (λ a. gone_from a gone) ei) ∙ ap (gone_after gone) (sym ev) ∙ before

-- ---- what is left of a file rises

rises-none : (before : Option RowId) (recs : List Rec) → RisesFrom before recs → RisesFrom None recs
rises-none before [] up = tt
rises-none before (r ∷ recs) up = (tt, up.1)

rest-rises-by : (b : Bool) (r : Rec) (recs rest : List Rec) → RisesFrom None (r ∷ recs) → RisesFrom None rest → RisesFrom None (cond b rest (r ∷ recs))
rest-rises-by true r recs rest up h = h
rest-rises-by false r recs rest up h = up

rest-rises : (others : Option RowId) (recs : List Rec) → RisesFrom None recs → RisesFrom None (rest_of others recs)
rest-rises others [] up = tt
rest-rises others (r ∷ recs) up =
    rest-rises-by (is_before (record_id r) others) r recs (rest_of others recs) up (rest-rises others recs (rises-none (Some (record_id r)) recs up.1))

pub run-rises : (files left : List (List Rec)) (turn : Turn) (t : IsTurn files turn) → left ≡ t.before ++ rest_of turn.others (t.first ∷ t.rest) ∷ t.after
    → AllByRecursion (RisesFrom None) files → AllByRecursion (RisesFrom None) left
run-rises files left turn t e rise =
    let head = t.first ∷ t.rest in
    let rises : AllByRecursion (RisesFrom None) (t.before ++ head ∷ t.after) = subst (AllByRecursion (RisesFrom None)) t.parts rise in
    let tail = all-behind (RisesFrom None) t.before (head ∷ t.after) rises in
    subst (AllByRecursion (RisesFrom None)) (sym e)
    (all-append (RisesFrom None) t.before (rest_of turn.others head ∷ t.after) (all-front (RisesFrom None) t.before (head ∷ t.after) rises)
    (rest-rises turn.others head tail.0, tail.1))

behind-rises-by : (b : Bool) (r : Rec) (recs : List Rec) → RisesFrom None (r ∷ recs) → RisesFrom None (cond b recs (r ∷ recs))
behind-rises-by true r recs up = rises-none (Some (record_id r)) recs up.1
behind-rises-by false r recs up = up

behind-rises : (m : RowId) (file : List Rec) → RisesFrom None file → RisesFrom None (behind_at m file)
behind-rises m [] up = tt
behind-rises m (r ∷ recs) up = behind-rises-by (row_id_eq (record_id r) m) r recs up

pub tie-rises : (m : RowId) (files : List (List Rec)) → AllByRecursion (RisesFrom None) files → AllByRecursion (RisesFrom None) (map (behind_at m) files)
tie-rises m [] up = tt
tie-rises m (file ∷ files) up = (behind-rises m file up.0, tie-rises m files up.1)

-- ---- without a turn no row is left

pub no-rows : (list : WriteIds) (files : List (List Rec)) → AllByRecursion Rattle.hv_merge.proofs.Looks.IsEmpty files → all_rows (map (valid_rows list) files) ≡ []
no-rows list [] h = refl
no-rows list ([] ∷ files) h = no-rows list files h.1
no-rows list ((r ∷ recs) ∷ files) h = absurd h.0
