-- What a look at the first records tells of the files.
use Rattle.std.proofs.Common.{refl, ◌≡◌, ℕ, ◌+◌, ◌<◌, ◌≤◌, Bool, true, false, cond, true≢false, Option, Some, None, List, [], ◌∷◌, ◌++◌, map, length, sym, ap, ◌∙◌, subst, arith, append_assoc, get_or}
use Rattle.std.specs.Prelude.{slice_set}
use Rattle.std.proofs.Math.Seq.{set-append_seam, get_or-append_seam}
use Rattle.std.specs.declared.cmp.Ordering.{Ordering}
use Rattle.std.specs.declared.cmp.Ordering.TheVariants.{Less, Equal, Greater}
use Rattle.std.specs.Ordering.{is_lt, is_eq}
use Rattle.std.specs.Cmp.{tied_itself}
use Rattle.std.specs.List.{flat_map, AllByRecursion}
use Rattle.std.proofs.lemmas.Bool.{cond-true}
use Rattle.std.proofs.lemmas.List.{append-nil, length-append, length-map, map-set, get_or-map}
use Rattle.hv_base.specs.declared.ids.RowId.{RowId}
use Rattle.hv_base.specs.Identifiers.{row_id_cmp, row_id_eq, row_id_total, row_id_ties}
use Rattle.hv_rowfile.specs.declared.record.Rec.{Rec}
use Rattle.hv_rowfile.specs.Layout.{id_of}
use Rattle.hv_merge.specs.declared.turns.Turn.{Turn}
use Rattle.hv_merge.specs.Steps.{is_below, is_before, seen_at, turn_from, turn_of, is_least, is_tied, rest_of, behind_at}
use Rattle.hv_merge.proofs.Fronts.{turned, tied_id}
use Rattle.hv_merge.proofs.RisingLemmas.{lt-is}

pub all-append : {A : Type 0} (P : A → Type 0) (xs ys : List A) → AllByRecursion P xs → AllByRecursion P ys → AllByRecursion P (xs ++ ys)
all-append P [] ys h more = more
all-append P (x ∷ xs) ys h more = (h.0, all-append P xs ys h.1 more)

pub all-front : {A : Type 0} (P : A → Type 0) (xs ys : List A) → AllByRecursion P (xs ++ ys) → AllByRecursion P xs
all-front P [] ys h = tt
all-front P (x ∷ xs) ys h = (h.0, all-front P xs ys h.1)

pub all-behind : {A : Type 0} (P : A → Type 0) (xs ys : List A) → AllByRecursion P (xs ++ ys) → AllByRecursion P ys
all-behind P [] ys h = h
all-behind P (x ∷ xs) ys h = all-behind P xs ys h.1

-- ---- identifiers before one another

pub isnt : (b : Bool) → (b ≡ true → ⊥) → b ≡ false
isnt true h = absurd (h refl)
isnt false h = refl

pub never : (b : Bool) → b ≡ true → b ≡ false → ⊥
never b e f = true≢false (sym e ∙ f)

pub lt-trans : (a b c : RowId) → is_lt (row_id_cmp a b) ≡ true → is_lt (row_id_cmp b c) ≡ true → is_lt (row_id_cmp a c) ≡ true
lt-trans a b c e f = ap is_lt (row_id_total.trans a b c (lt-is (row_id_cmp a b) e) (lt-is (row_id_cmp b c) f))

lt-step-by : (o : Ordering) (a b c : RowId) → row_id_cmp c b ≡ o → is_lt (row_id_cmp a b) ≡ true → is_lt o ≡ false → is_lt (row_id_cmp a c) ≡ true
lt-step-by Less a b c e f g = absurd (true≢false g)
lt-step-by Equal a b c e f g = ap (λ d. is_lt (row_id_cmp a d)) (tied_id c b e) ∙ f
lt-step-by Greater a b c e f g = lt-trans a b c f (ap is_lt (turned c b Greater e))

-- a is below b, and c is not
pub lt-step : (a b c : RowId) → is_lt (row_id_cmp a b) ≡ true → is_lt (row_id_cmp c b) ≡ false → is_lt (row_id_cmp a c) ≡ true
lt-step a b c = lt-step-by (row_id_cmp c b) a b c refl

-- a is not below b, and c is: a is not below c
pub lt-not : (a b c : RowId) → is_lt (row_id_cmp a b) ≡ false → is_lt (row_id_cmp c b) ≡ true → is_lt (row_id_cmp a c) ≡ false
lt-not a b c e f = isnt (is_lt (row_id_cmp a c)) (λ h. never (is_lt (row_id_cmp a b)) (lt-trans a c b h f) e)

lt-itself : (a : RowId) → is_lt (row_id_cmp a a) ≡ false
lt-itself a = ap is_lt (tied_itself row_id_total a)

lt-turned-by : (o : Ordering) (a b : RowId) → row_id_cmp a b ≡ o → is_lt o ≡ true → is_lt (row_id_cmp b a) ≡ false
lt-turned-by Less a b e f = ap is_lt (turned a b Less e)
lt-turned-by Equal a b e f = absurd (true≢false (sym f))
lt-turned-by Greater a b e f = absurd (true≢false (sym f))

lt-turned : (a b : RowId) → is_lt (row_id_cmp a b) ≡ true → is_lt (row_id_cmp b a) ≡ false
lt-turned a b e = lt-turned-by (row_id_cmp a b) a b refl e

-- ---- files that begin with no identifier before the others' least

abbrev pub Starts : Option RowId → List Rec → Type 0
Starts others [] = Unit {0}
Starts others (r ∷ recs) = is_before (id_of r) others ≡ false

abbrev pub Above : RowId → Option RowId → Type 0
Above least None = Unit {0}
Above least (Some other) = is_lt (row_id_cmp other least) ≡ false

abbrev pub IsEmpty : List Rec → Type 0
IsEmpty [] = Unit {0}
IsEmpty (r ∷ recs) = ⊥

nearer-id : (others : Option RowId) (y id : RowId) → is_before y others ≡ false → is_before id others ≡ true → is_lt (row_id_cmp y id) ≡ false
nearer-id None y id e f = absurd (true≢false e)
nearer-id (Some other) y id e f = lt-not y other id e f

nearer : (others : Option RowId) (id : RowId) → is_before id others ≡ true → (files : List (List Rec)) → AllByRecursion (Starts others) files
    → AllByRecursion (Starts (Some id)) files
nearer others id e [] h = tt
nearer others id e ([] ∷ files) h = (tt, nearer others id e files h.1)
nearer others id e ((r ∷ recs) ∷ files) h = (nearer-id others (id_of r) id h.0 e, nearer others id e files h.1)

least-id : (others : Option RowId) (y least : RowId) → is_before y others ≡ false → Above least others → is_lt (row_id_cmp y least) ≡ false
least-id None y least e above = absurd (true≢false e)
least-id (Some other) y least e above =
    isnt (is_lt (row_id_cmp y least)) (λ h. never (is_lt (row_id_cmp y other)) (lt-step y least other h above) e)

pub over-least : (others : Option RowId) (least : RowId) → Above least others → (files : List (List Rec)) → AllByRecursion (Starts others) files
    → AllByRecursion (Starts (Some least)) files
over-least others least above [] h = tt
over-least others least above ([] ∷ files) h = (tt, over-least others least above files h.1)
over-least others least above ((r ∷ recs) ∷ files) h = (least-id others (id_of r) least h.0 above, over-least others least above files h.1)

empty-starts : (files : List (List Rec)) → AllByRecursion IsEmpty files → AllByRecursion (Starts None) files
empty-starts [] h = tt
empty-starts ([] ∷ files) h = (tt, empty-starts files h.1)
empty-starts ((r ∷ recs) ∷ files) h = absurd h.0

-- ---- what is known behind a look

pub record IsTurn (files : List (List Rec)) (turn : Turn) : Type 0 where
  pub before : List (List Rec)
  pub first : Rec
  pub rest : List Rec
  pub after : List (List Rec)
  pub parts : files ≡ before ++ ((first ∷ rest) ∷ after)
  pub place : length before ≡ turn.place
  pub least : id_of first ≡ turn.least
  pub above : Above turn.least turn.others
  pub ahead : AllByRecursion (Starts turn.others) before
  pub behind : AllByRecursion (Starts turn.others) after

abbrev pub IsSeen : List (List Rec) → Option Turn → Type 0
IsSeen files None = AllByRecursion IsEmpty files
IsSeen files (Some turn) = IsTurn files turn

abbrev one_more : Turn → RowId → ℕ → Bool → Bool → Turn
one_more turn id place b c =
    cond b (cond c (record { place = turn.place; least = turn.least; others = Some id }) (record { place = place; least = id; others = Some turn.least })) turn

grown : (done : List (List Rec)) (turn : Turn) (file : List Rec) → IsTurn done turn → Starts turn.others file → IsTurn (done ++ file ∷ []) turn
grown done turn file h start = record {
  before = h.before;
  first = h.first;
  rest = h.rest;
  after = h.after ++ file ∷ [];
  parts = ap (λ z. z ++ file ∷ []) h.parts ∙ append_assoc h.before ((h.first ∷ h.rest) ∷ h.after) (file ∷ []);
  place = h.place;
  least = h.least;
  above = h.above;
  ahead = h.ahead;
  behind = all-append (Starts turn.others) h.after (file ∷ []) h.behind (start, tt);
}

one-by : (b c : Bool) (done : List (List Rec)) (turn : Turn) (r : Rec) (recs : List Rec) → IsTurn done turn
    → is_before (id_of r) turn.others ≡ b → is_below (id_of r) turn.least ≡ c
    → IsTurn (done ++ (r ∷ recs) ∷ []) (one_more turn (id_of r) (length done) b c)
one-by false c done turn r recs h e f = grown done turn (r ∷ recs) h e
one-by true true done turn r recs h e f = record {
  before = h.before;
  first = h.first;
  rest = h.rest;
  after = h.after ++ (r ∷ recs) ∷ [];
  parts = ap (λ z. z ++ (r ∷ recs) ∷ []) h.parts ∙ append_assoc h.before ((h.first ∷ h.rest) ∷ h.after) ((r ∷ recs) ∷ []);
  place = h.place;
  least = h.least;
  above = lt-turned turn.least (id_of r) f;
  ahead = nearer turn.others (id_of r) e h.before h.ahead;
  behind = all-append (Starts (Some (id_of r))) h.after ((r ∷ recs) ∷ []) (nearer turn.others (id_of r) e h.after h.behind) (lt-itself (id_of r), tt);
}
one-by true false done turn r recs h e f = record {
  before = done;
  first = r;
  rest = recs;
  after = [];
  parts = refl;
  place = refl;
  least = refl;
  above = f;
  ahead = subst (AllByRecursion (Starts (Some turn.least))) (sym h.parts)
      (all-append (Starts (Some turn.least)) h.before ((h.first ∷ h.rest) ∷ h.after) (over-least turn.others turn.least h.above h.before h.ahead)
      (ap (λ a. is_lt (row_id_cmp a turn.least)) h.least ∙ lt-itself turn.least, over-least turn.others turn.least h.above h.after h.behind));
  behind = tt;
}

one-file : (done : List (List Rec)) (found : Option Turn) (file : List Rec) → IsSeen done found → IsSeen (done ++ file ∷ []) (seen_at found (length done) file)
one-file done None [] h = all-append IsEmpty done ([] ∷ []) h (tt, tt)
one-file done None (r ∷ recs) h = record {
  before = done;
  first = r;
  rest = recs;
  after = [];
  parts = refl;
  place = refl;
  least = refl;
  above = tt;
  ahead = empty-starts done h;
  behind = tt;
}
one-file done (Some turn) [] h = grown done turn [] h tt
one-file done (Some turn) (r ∷ recs) h =
    one-by (is_before (id_of r) turn.others) (is_below (id_of r) turn.least) done turn r recs h refl refl

seen-from : (done files : List (List Rec)) (found : Option Turn) → IsSeen done found → IsSeen (done ++ files) (turn_from (length done) found files)
seen-from done [] found h = subst (λ z. IsSeen z found) (sym (append-nil done)) h
seen-from done (file ∷ files) found h =
    let more = seen_at found (length done) file in
    subst (λ z. IsSeen z (turn_from (length done + 1) more files)) (append_assoc done (file ∷ []) files)
    (subst (λ n. IsSeen ((done ++ file ∷ []) ++ files) (turn_from n more files)) (length-append done (file ∷ []))
    (seen-from (done ++ file ∷ []) files more (one-file done found file h)))

pub seen : (files : List (List Rec)) → IsSeen files (turn_of files)
seen files = seen-from [] files None tt

-- ---- the first record comes before the others' unless it is tied with one

first-by : (o : Ordering) (other least : RowId) → row_id_cmp other least ≡ o → is_lt o ≡ false → row_id_eq other least ≡ false → is_lt (row_id_cmp least other) ≡ true
first-by Less other least e above free = absurd (true≢false above)
first-by Equal other least e above free = absurd (never (row_id_eq other least) (row_id_ties other least ∙ ap is_eq e) free)
first-by Greater other least e above free = ap is_lt (turned other least Greater e)

first-before : (others : Option RowId) (least : RowId) → Above least others → is_least least others ≡ false → is_before least others ≡ true
first-before None least above free = refl
first-before (Some other) least above free = first-by (row_id_cmp other least) other least refl above free

pub begins : (files : List (List Rec)) (turn : Turn) (t : IsTurn files turn) → is_tied turn ≡ false → is_before (id_of t.first) turn.others ≡ true
begins files turn t free = ap (λ a. is_before a turn.others) t.least ∙ first-before turn.others turn.least t.above free

-- no file begins below the least
pub starts-all : (files : List (List Rec)) (turn : Turn) → IsTurn files turn → AllByRecursion (Starts (Some turn.least)) files
starts-all files turn t =
    subst (AllByRecursion (Starts (Some turn.least))) (sym t.parts)
    (all-append (Starts (Some turn.least)) t.before ((t.first ∷ t.rest) ∷ t.after) (over-least turn.others turn.least t.above t.before t.ahead)
    (ap (λ a. is_lt (row_id_cmp a turn.least)) t.least ∙ lt-itself turn.least, over-least turn.others turn.least t.above t.after t.behind))

-- ---- fewer records are left

abbrev pub count_recs : List (List Rec) → ℕ
count_recs files = length (flat_map (λ (file : List Rec). file) files)

count-at : (before : List (List Rec)) (file : List Rec) (after : List (List Rec)) → count_recs (before ++ file ∷ after) ≡ count_recs before + (length file + count_recs after)
count-at [] file after = omega (arith, length-append file (flat_map (λ (f : List Rec). f) after))
count-at (one ∷ before) file after =
    omega (arith, length-append one (flat_map (λ (f : List Rec). f) (before ++ file ∷ after)), length-append one (flat_map (λ (f : List Rec). f) before), count-at before file after)

rest-fewer-by : (b : Bool) (r : Rec) (recs rest : List Rec) → length rest ≤ length recs → length (cond b rest (r ∷ recs)) ≤ length (r ∷ recs)
rest-fewer-by true r recs rest e = omega (arith, e)
rest-fewer-by false r recs rest e = omega arith

rest-fewer : (others : Option RowId) (recs : List Rec) → length (rest_of others recs) ≤ length recs
rest-fewer others [] = omega arith
rest-fewer others (r ∷ recs) = rest-fewer-by (is_before (id_of r) others) r recs (rest_of others recs) (rest-fewer others recs)

pub run-fewer : (files : List (List Rec)) (turn : Turn) (t : IsTurn files turn) → is_tied turn ≡ false
    → count_recs (t.before ++ rest_of turn.others (t.first ∷ t.rest) ∷ t.after) < count_recs files
run-fewer files turn t free =
    let is : rest_of turn.others (t.first ∷ t.rest) ≡ rest_of turn.others t.rest = cond-true _ _ _ (begins files turn t free) in
    omega (arith, ap count_recs t.parts, count-at t.before (t.first ∷ t.rest) t.after, count-at t.before (rest_of turn.others (t.first ∷ t.rest)) t.after, ap length is, rest-fewer turn.others t.rest)

behind-fewer-by : (b : Bool) (r : Rec) (recs : List Rec) → length (cond b recs (r ∷ recs)) ≤ length (r ∷ recs)
behind-fewer-by true r recs = omega arith
behind-fewer-by false r recs = omega arith

behind-fewer : (m : RowId) (file : List Rec) → length (behind_at m file) ≤ length file
behind-fewer m [] = omega arith
behind-fewer m (r ∷ recs) = behind-fewer-by (row_id_eq (id_of r) m) r recs

all-fewer : (m : RowId) (files : List (List Rec)) → count_recs (map (behind_at m) files) ≤ count_recs files
all-fewer m [] = omega arith
all-fewer m (file ∷ files) =
    omega (arith, length-append file (flat_map (λ (f : List Rec). f) files), length-append (behind_at m file) (flat_map (λ (f : List Rec). f) (map (behind_at m) files)), behind-fewer m file, all-fewer m files)

same-id : (a m : RowId) → a ≡ m → row_id_eq a m ≡ true
same-id a m e = row_id_ties a m ∙ ap is_eq (ap (λ b. row_id_cmp b m) e ∙ tied_itself row_id_total m)

left-fewer : (m : RowId) (before : List (List Rec)) (r : Rec) (recs : List Rec) (after : List (List Rec)) → id_of r ≡ m
    → count_recs (map (behind_at m) (before ++ (r ∷ recs) ∷ after)) < count_recs (before ++ (r ∷ recs) ∷ after)
left-fewer m [] r recs after e =
    let is : behind_at m (r ∷ recs) ≡ recs = cond-true _ _ _ (same-id (id_of r) m e) in
    omega (arith, length-append (r ∷ recs) (flat_map (λ (f : List Rec). f) after), length-append (behind_at m (r ∷ recs)) (flat_map (λ (f : List Rec). f) (map (behind_at m) after)), ap length is, all-fewer m after)
left-fewer m (file ∷ before) r recs after e =
    omega (arith, length-append file (flat_map (λ (f : List Rec). f) (before ++ (r ∷ recs) ∷ after)), length-append (behind_at m file) (flat_map (λ (f : List Rec). f) (map (behind_at m) (before ++ (r ∷ recs) ∷ after))), behind-fewer m file, left-fewer m before r recs after e)

pub tie-fewer : (files : List (List Rec)) (turn : Turn) → IsTurn files turn → count_recs (map (behind_at turn.least) files) < count_recs files
tie-fewer files turn t =
    subst (λ z. count_recs (map (behind_at turn.least) z) < count_recs z) (sym t.parts) (left-fewer turn.least t.before t.first t.rest t.after t.least)

-- ---- the file of the turn among the files

within : (files : List (List Rec)) (turn : Turn) → IsTurn files turn → turn.place < length files
within files turn t = omega (arith, t.place, ap length t.parts, length-append t.before ((t.first ∷ t.rest) ∷ t.after))

module _ {A : Type 0} (rows_of : A → List Rec) (heads : List A) (turn : Turn) (t : IsTurn (map rows_of heads) turn) where
  pub within-heads : turn.place < length heads
  within-heads = omega (arith, within (map rows_of heads) turn t, length-map heads rows_of)

  pub part-at : (d : A) → rows_of (get_or heads turn.place d) ≡ t.first ∷ t.rest
  part-at d =
      sym (get_or-map rows_of heads turn.place d [] within-heads)
      ∙ (λ i. get_or (t.parts i) (sym t.place i) [])
      ∙ get_or-append_seam t.before (t.first ∷ t.rest) t.after []

  pub part-set : (changed : A) (z : List Rec) → rows_of changed ≡ z → map rows_of (slice_set heads turn.place changed) ≡ t.before ++ z ∷ t.after
  part-set changed z e =
      map-set rows_of heads turn.place changed
      ∙ (λ i. slice_set (t.parts i) (sym t.place i) (e i))
      ∙ set-append_seam t.before (t.first ∷ t.rest) t.after z
