-- Where a script isn't refused, each statement that it holds is released, so that none waits behind its last action; and none
-- waits of a session where a statement of that session is opened.
use Rattle.std.proofs.Common.{◌≡◌, ℕ, Bool, true, false, not, ◌&&◌, ◌||◌, cond, nat_eq, nat_lt, nat_le, ◌⊎◌, Option, Some, None, List, [], ◌∷◌, ◌++◌, length, map, inl, inr, refl, sym, ap, ◌∙◌, subst, eq-eqb}
use Rattle.std.specs.List.{AllByRecursion, filter}
use Rattle.std.specs.Cmp.Lexicographic.{pointwise, same_text as equal-text}
use Rattle.std.specs.Option.{option_map, option_to_list}
use Rattle.std.proofs.lemmas.Bool.{or_parts}
use Rattle.hv_script.specs.declared.items.Item.{Item}
use Rattle.hv_script.specs.Items.{items_of}
use Rattle.hv_script.specs.Script.{bytes_line, earlier, front}
use Rattle.hv_history.specs.declared.entry.Entry.{Entry}
use Rattle.hv_script.specs.declared.actions.Action.{Action}
use Rattle.hv_script.specs.declared.kinds.Kind.{Kind}
use Rattle.hv_script.specs.declared.kinds.Kind.TheVariants.{Statement, Session, Hold, Go, Compact, Clean, Barrier, Unknown}
use Rattle.hv_script.specs.declared.standing.Pending.{Pending}
use Rattle.hv_script.specs.declared.standing.Held.{Held as Keeps}
use Rattle.hv_script.specs.Kinds.{kind_of}
use Rattle.hv_script.specs.Standing.{Standing as Place, first_standing, holds, is_held, is_other, is_faulty, after, with_held, fault_lines, line_of_pending, line_of_held}
use Rattle.hv_script.specs.Actions.{action_for, actions_from, actions_of, least, refused_at, stage_of_pending, statement_in}
use Rattle.hv_session.specs.Taking.{HoldsAt}
use Rattle.hv_program.proofs.Doings.{all-last, all-without}
use Rattle.hv_program.specs.Change.{from_to}
use Rattle.hv_program.specs.Doing.{Waiting, Standing, is_session, waiting_in, without, ReleasesOne, AreDone, AreInTurn, IsPutOff, Replies, asking_of}
use Rattle.hv_program.specs.Running.{beginning}

-- ---- texts

both : (a b : Bool) → a ≡ true → b ≡ true → a && b ≡ true
both a b e f = ap (λ (x : Bool). x && b) e ∙ f

text-same : (text : List ℕ) → pointwise nat_eq text text ≡ true
text-same [] = refl
text-same (x ∷ text) = both (nat_eq x x) (pointwise nat_eq text text) (eq-eqb x x refl) (text-same text)

text-equal : (a b : List ℕ) → pointwise nat_eq a b ≡ true → a ≡ b
text-equal a b e = equal-text a b (sym e)

wrong : (b : Bool) → b ≡ true → b ≡ false → ⊥
wrong b yes_ no_ = let e : true ≡ false = sym yes_ ∙ no_ in cc

-- a test that leads to a contradiction where it is met
unless-met : (b : Bool) → (b ≡ true → ⊥) → b ≡ false
unless-met true h = absurd (h refl)
unless-met false h = refl

-- ---- those that are held by the script

more-held : (name : List ℕ) (held more : List Keeps) → is_held name held ≡ true → is_held name (held ++ more) ≡ true
more-held name [] more e = let no_ : false ≡ true = e in cc
more-held name (first ∷ held) more e = by (holds name first) (is_held name held) e (more-held name held more)
  where
    by : (b rest : Bool) → b || rest ≡ true → (rest ≡ true → is_held name (held ++ more) ≡ true) → b || is_held name (held ++ more) ≡ true
    by true rest e next = refl
    by false rest e next = next e

last-held : (held : List Keeps) (one : Keeps) → is_held one.session (held ++ one ∷ []) ≡ true
last-held [] one = ap (λ (b : Bool). b || false) (text-same one.session)
last-held (first ∷ held) one = by (holds one.session first) (last-held held one)
  where
    by : (b : Bool) → is_held one.session (held ++ one ∷ []) ≡ true → b || is_held one.session (held ++ one ∷ []) ≡ true
    by true e = refl
    by false e = e

-- another one than that of a session is held without it
filter-by : (other name : List ℕ) (first : Keeps) (held : List Keeps) (b keeps : Bool) → holds other first ≡ b → is_other name first ≡ keeps → (b ≡ true → keeps ≡ true)
    → b || is_held other held ≡ true → (is_held other held ≡ true → is_held other (filter (is_other name) held) ≡ true)
    → is_held other (cond keeps (first ∷ filter (is_other name) held) (filter (is_other name) held)) ≡ true
filter-by other name first held true true is kept ok e next = ap (λ (x : Bool). x || is_held other (filter (is_other name) held)) is
filter-by other name first held true false is kept ok e next = let no_ : false ≡ true = ok refl in cc
filter-by other name first held false true is kept ok e next = ap (λ (x : Bool). x || is_held other (filter (is_other name) held)) is ∙ next e
filter-by other name first held false false is kept ok e next = next e

still-held : (other name : List ℕ) (held : List Keeps) → pointwise nat_eq other name ≡ false → is_held other held ≡ true
    → is_held other (filter (is_other name) held) ≡ true
still-held other name [] apart e = let no_ : false ≡ true = e in cc
still-held other name (first ∷ held) apart e =
    filter-by other name first held (holds other first) (is_other name first) refl refl
    (λ is. ap (λ (text : List ℕ). not (pointwise nat_eq text name)) (text-equal first.session other is) ∙ ap not apart)
    e (still-held other name held apart)

-- ---- and those that wait

-- no other one is of that session
abbrev IsElse : List ℕ → Waiting → Type 0
IsElse name waiting = is_session name waiting ≡ false

abbrev AreElse : List ℕ → List Waiting → Type 0
AreElse name ws = AllByRecursion (IsElse name) ws

abbrev AreApart : List Waiting → Type 0
AreApart [] = Unit {0}
AreApart (w ∷ ws) = AreElse w.session ws × AreApart ws

abbrev IsKnown : List Keeps → Waiting → Type 0
IsKnown held waiting = is_held waiting.session held ≡ true

record Settles (held : List Keeps) (ws : List Waiting) : Type 0 where
  known : AllByRecursion (IsKnown held) ws
  apart : AreApart ws

all-map : (P Q : Waiting → Type 0) (ws : List Waiting) → ((w : Waiting) → P w → Q w) → AllByRecursion P ws → AllByRecursion Q ws
all-map P Q [] f all = tt
all-map P Q (w ∷ ws) f all = (f w all.0, all-map P Q ws f all.1)

apart-last : (ws : List Waiting) (w : Waiting) → AreApart ws → AllByRecursion (λ (other : Waiting). IsElse other.session w) ws → AreApart (ws ++ w ∷ [])
apart-last [] w apart else_ = (tt, tt)
apart-last (first ∷ ws) w apart else_ = (all-last (IsElse first.session) ws w apart.0 else_.0, apart-last ws w apart.1 else_.1)

apart-by : (b : Bool) (first : Waiting) (ws rest : List Waiting) → AreApart ws → AreElse first.session rest → AreApart rest → AreApart (cond b ws (first ∷ rest))
apart-by true first ws rest apart else_ more = apart
apart-by false first ws rest apart else_ more = (else_, more)

apart-without : (name : List ℕ) (ws : List Waiting) → AreApart ws → AreApart (without name ws)
apart-without name [] apart = tt
apart-without name (first ∷ ws) apart =
    apart-by (is_session name first) first ws (without name ws) apart.1 (all-without (IsElse first.session) name ws apart.0) (apart-without name ws apart.1)

else-by : (name : List ℕ) (b : Bool) (first : Waiting) (ws rest : List Waiting) → is_session name first ≡ b → AreElse first.session ws → AreElse name rest
    → AreElse name (cond b ws (first ∷ rest))
else-by name true first ws rest is else_ more = subst (λ (text : List ℕ). AreElse text ws) (text-equal first.session name is) else_
else-by name false first ws rest is else_ more = (is, more)

else-without : (name : List ℕ) (ws : List Waiting) → AreApart ws → AreElse name (without name ws)
else-without name [] apart = tt
else-without name (first ∷ ws) apart = else-by name (is_session name first) first ws (without name ws) refl apart.0 (else-without name ws apart.1)

none-by : (name : List ℕ) (b : Bool) (first : Waiting) (ws : List Waiting) → is_session name first ≡ b → cond b (Some first) (waiting_in name ws) ≡ None
    → (waiting_in name ws ≡ None → AreElse name ws) → AreElse name (first ∷ ws)
none-by name true first ws is e next = let no_ : Some first ≡ None = e in cc
none-by name false first ws is e next = (is, next e)

else-none : (name : List ℕ) (ws : List Waiting) → waiting_in name ws ≡ None → AreElse name ws
else-none name [] e = tt
else-none name (first ∷ ws) e = none-by name (is_session name first) first ws refl e (else-none name ws)

-- nobody waits of a session of which none is held
none-waits-by : (name : List ℕ) (b : Bool) (first : Waiting) (ws : List Waiting) → b ≡ false → waiting_in name ws ≡ None → cond b (Some first) (waiting_in name ws) ≡ None
none-waits-by name true first ws apart e = let no_ : true ≡ false = apart in cc
none-waits-by name false first ws apart e = e

nobody-waits : (name : List ℕ) (held : List Keeps) (ws : List Waiting) → is_held name held ≡ false → AllByRecursion (IsKnown held) ws → waiting_in name ws ≡ None
nobody-waits name held [] free known = refl
nobody-waits name held (w ∷ ws) free known =
    none-waits-by name (is_session name w) w ws
    (unless-met (is_session name w)
    (λ same. wrong (is_held name held) (subst (λ (text : List ℕ). is_held text held ≡ true) (text-equal w.session name same) known.0) free))
    (nobody-waits name held ws free known.1)

-- ---- one action

abbrev Behind : Place → Item → Kind → Standing → Type 0
Behind place item kind between = Settles (after place item kind).held between.waiting

more-settles : (held more : List Keeps) (ws : List Waiting) → Settles held ws → Settles (held ++ more) ws
more-settles held more ws h = record {
  known = all-map (IsKnown held) (IsKnown (held ++ more)) ws (λ w e. more-held w.session held more e) h.known;
  apart = h.apart;
}

with-settles : (name : List ℕ) (pending : Option Pending) (held : List Keeps) (ws : List Waiting) → Settles held ws → Settles (with_held name pending held) ws
with-settles name None held ws h = h
with-settles name (Some pending) held ws h = more-settles held _ ws h

one-settles : (name : List ℕ) (held : List Keeps) (one : Keeps) (txn : ℕ) (ws : List Waiting) → one.session ≡ name → is_held name held ≡ false → Settles held ws
    → Settles (held ++ one ∷ []) (ws ++ record { session = name; txn = txn } ∷ [])
one-settles name held one txn ws named free h =
    let more = more-settles held (one ∷ []) ws h in
    record {
      known = all-last (IsKnown (held ++ one ∷ [])) ws (record { session = name; txn = txn }) more.known
          (subst (λ (text : List ℕ). is_held text (held ++ one ∷ []) ≡ true) named (last-held held one));
      apart = apart-last ws (record { session = name; txn = txn }) h.apart
          (all-map (IsKnown held) (λ (other : Waiting). IsElse other.session (record { session = name; txn = txn })) ws
          (λ w is. unless-met (pointwise nat_eq name w.session)
          (λ same. wrong (is_held name held) (subst (λ (text : List ℕ). is_held text held ≡ true) (sym (text-equal name w.session same)) is) free)) h.known);
    }

put-off : (name : List ℕ) (pending : Option Pending) (held : List Keeps) (txn bound : ℕ) (added : List Entry) (ws : List Waiting) → is_held name held ≡ false
    → HoldsAt (option_map stage_of_pending pending) bound added → Settles held ws
    → Settles (with_held name pending held) (ws ++ record { session = name; txn = txn } ∷ [])
put-off name None held txn bound added ws free at h = absurd at
put-off name (Some pending) held txn bound added ws free at h = one-settles name held _ txn ws refl free h

both-all : (P Q R : Waiting → Type 0) (ws : List Waiting) → ((w : Waiting) → P w → Q w → R w) → AllByRecursion P ws → AllByRecursion Q ws → AllByRecursion R ws
both-all P Q R [] f p q = tt
both-all P Q R (w ∷ ws) f p q = (f w p.0 q.0, both-all P Q R ws f p.1 q.1)

-- those that wait behind a release are of other sessions
others-settle : (name : List ℕ) (held : List Keeps) (ws : List Waiting) → Settles held ws → AreElse name ws → Settles (filter (is_other name) held) ws
others-settle name held ws h else_ = record {
  known = both-all (IsKnown held) (IsElse name) (IsKnown (filter (is_other name) held)) ws (λ w is apart. still-held w.session name held apart is) h.known else_;
  apart = h.apart;
}

released : (start book : List Entry) (before now : Standing) (name : List ℕ) (held : List Keeps) (found : Option Waiting) (output : List ℕ) (refused : Bool)
    → waiting_in name before.waiting ≡ found → ReleasesOne (from_to start book) before now name found output refused → Settles held before.waiting
    → Settles (filter (is_other name) held) now.waiting
released start book before now name held None output refused is done h =
    subst (λ (s : Standing). Settles (filter (is_other name) held) s.waiting) (sym done.0)
    (others-settle name held before.waiting h (else-none name before.waiting is))
released start book before now name held (Some waiting) output refused is done h =
    subst (Settles (filter (is_other name) held)) (sym done.1)
    (others-settle name held (without name before.waiting)
    (record { known = all-without (IsKnown held) name before.waiting h.known; apart = apart-without name before.waiting h.apart })
    (else-without name before.waiting h.apart))

run-settles : (start book : List Entry) (before now : Standing) (place : Place) (item : Item) (output : List ℕ) (refused : Bool) → is_held place.current place.held ≡ false
    → Replies (from_to start book) (from_to before now) (asking_of (statement_in place item)) (statement_in place item).hold output refused
    ⊎ IsPutOff (from_to start book) (from_to before now) (asking_of (statement_in place item)) (statement_in place item).hold output refused
    → Settles place.held before.waiting → Settles (with_held place.current place.pending place.held) now.waiting
run-settles start book before now place item output refused free (inl done) h =
    subst (Settles (with_held place.current place.pending place.held)) (sym done.waiting_same) (with-settles place.current place.pending place.held before.waiting h)
run-settles start book before now place item output refused free (inr done) h =
    subst (Settles (with_held place.current place.pending place.held)) (sym done.waits)
    (put-off place.current place.pending place.held _ _ done.goes.added before.waiting free done.goes.at_hold h)

-- what is left to be done behind an item
record GoesOn (start book : List Entry) (now : Standing) (rest : List Action) (held : List Keeps) : Type 0 where
  between : Standing
  output : List ℕ
  refused : Bool
  are_done : AreDone (from_to start book) between now rest output refused
  settles : Settles held between.waiting

item-settles : (start book : List Entry) (before now : Standing) (place : Place) (item : Item) (kind : Kind) (rest : List Action) (output : List ℕ) (refused : Bool)
    → is_faulty place item kind ≡ false → AreDone (from_to start book) before now (option_to_list (action_for place item kind) ++ rest) output refused
    → Settles place.held before.waiting → GoesOn start book now rest (after place item kind).held
item-settles start book before now place item Statement rest output refused ok done h =
    let free = (or_parts (nat_lt 32768 (length item.bytes) || nat_le 10000 place.statements) (is_held place.current place.held) ok).1 in
    record { between = done.0; output = done.2; refused = done.4; are_done = done.6; settles = run-settles start book before done.0 place item done.1 done.3 free done.5 h }
item-settles start book before now place item (Session name) rest output refused ok done h =
    record { between = done.0; output = done.2; refused = done.4; are_done = done.6; settles = subst (λ (s : Standing). Settles place.held s.waiting) (sym done.5.0) h }
item-settles start book before now place item Barrier rest output refused ok done h =
    record { between = done.0; output = done.2; refused = done.4; are_done = done.6; settles = subst (λ (s : Standing). Settles place.held s.waiting) (sym done.5.0) h }
item-settles start book before now place item (Hold stage) rest output refused ok done h =
    record { between = before; output = output; refused = refused; are_done = done; settles = h }
item-settles start book before now place item (Go name) rest output refused ok done h =
    record { between = done.0; output = done.2; refused = done.4; are_done = done.6; settles = released start book before done.0 name place.held _ done.1 done.3 refl done.5 h }
item-settles start book before now place item Compact rest output refused ok done h =
    record { between = done.0; output = done.2; refused = done.4; are_done = done.6; settles = subst (Settles place.held) (sym done.5.waiting_same) h }
item-settles start book before now place item Clean rest output refused ok done h =
    record { between = done.0; output = done.2; refused = done.4; are_done = done.6; settles = subst (Settles place.held) (sym done.5.waiting_same) h }
item-settles start book before now place item Unknown rest output refused ok done h = let no_ : true ≡ false = ok in cc

-- an item's action is in turn, where those behind it are
item-in-turn : (start book : List Entry) (before now : Standing) (place : Place) (item : Item) (kind : Kind) (rest : List Action) (output : List ℕ) (refused : Bool)
    → is_faulty place item kind ≡ false → (done : AreDone (from_to start book) before now (option_to_list (action_for place item kind) ++ rest) output refused)
    → Settles place.held before.waiting
    → ((between : Standing) (more : List ℕ) (later : Bool) (those : AreDone (from_to start book) between now rest more later) → Settles (after place item kind).held between.waiting
    → AreInTurn (from_to start book) between now rest more later those)
    → AreInTurn (from_to start book) before now (option_to_list (action_for place item kind) ++ rest) output refused done
item-in-turn start book before now place item Statement rest output refused ok done h next =
    let free = (or_parts (nat_lt 32768 (length item.bytes) || nat_le 10000 place.statements) (is_held place.current place.held) ok).1 in (
      nobody-waits place.current place.held before.waiting free h.known,
      next done.0 done.2 done.4 done.6 (run-settles start book before done.0 place item done.1 done.3 free done.5 h),
    )
item-in-turn start book before now place item (Session name) rest output refused ok done h next =
    (tt, next done.0 done.2 done.4 done.6 (subst (λ (s : Standing). Settles place.held s.waiting) (sym done.5.0) h))
item-in-turn start book before now place item Barrier rest output refused ok done h next =
    (tt, next done.0 done.2 done.4 done.6 (subst (λ (s : Standing). Settles place.held s.waiting) (sym done.5.0) h))
item-in-turn start book before now place item (Hold stage) rest output refused ok done h next = next before output refused done h
item-in-turn start book before now place item (Go name) rest output refused ok done h next =
    (tt, next done.0 done.2 done.4 done.6 (released start book before done.0 name place.held _ done.1 done.3 refl done.5 h))
item-in-turn start book before now place item Compact rest output refused ok done h next =
    (tt, next done.0 done.2 done.4 done.6 (subst (Settles place.held) (sym done.5.waiting_same) h))
item-in-turn start book before now place item Clean rest output refused ok done h next =
    (tt, next done.0 done.2 done.4 done.6 (subst (Settles place.held) (sym done.5.waiting_same) h))
item-in-turn start book before now place item Unknown rest output refused ok done h next = let no_ : true ≡ false = ok in cc

-- ---- all of them

none-line : (line : ℕ) (lines : List ℕ) → line ∷ lines ≡ [] → ⊥
none-line line lines e = cc

no-held : (pending : List ℕ) (held : List Keeps) → pending ++ map line_of_held held ≡ [] → held ≡ []
no-held [] [] e = refl
no-held [] (one ∷ held) e = absurd (none-line one.line (map line_of_held held) e)
no-held (line ∷ pending) held e = absurd (none-line line (pending ++ map line_of_held held) e)

none-waits : (ws : List Waiting) (held : List Keeps) → held ≡ [] → Settles held ws → ws ≡ []
none-waits [] held none h = refl
none-waits (w ∷ ws) held none h =
    let no_ : false ≡ true = sym (ap (is_held w.session) none) ∙ h.known.0 in cc

faultless : (b : Bool) (line : ℕ) (these those : List ℕ) → cond b (line ∷ these) those ≡ [] → (b ≡ false) × (those ≡ [])
faultless true line these those e = absurd (none-line line these e)
faultless false line these those e = (refl, e)

settled-from : (start book : List Entry) (before now : Standing) (place : Place) (items : List Item) (output : List ℕ) (refused : Bool) → fault_lines place items ≡ []
    → AreDone (from_to start book) before now (actions_from place items) output refused → Settles place.held before.waiting → now.waiting ≡ []
settled-from start book before now place [] output refused ok done h =
    subst (λ (s : Standing). s.waiting ≡ []) (sym done.0) (none-waits before.waiting place.held (no-held (option_to_list (option_map line_of_pending place.pending)) place.held ok) h)
settled-from start book before now place (item ∷ items) output refused ok done h =
    let kind = kind_of item.bytes in
    let parts = faultless (is_faulty place item kind) item.line (fault_lines place items) (fault_lines (after place item kind) items) ok in
    let here = subst (λ (b : Bool). AreDone (from_to start book) before now (cond b (actions_from place items)
    (option_to_list (action_for place item kind) ++ actions_from (after place item kind) items)) output refused) parts.0 done in
    let on = item-settles start book before now place item kind (actions_from (after place item kind) items) output refused parts.0 here h in
    settled-from start book on.between now (after place item kind) items on.output on.refused parts.1 on.are_done on.settles

pub earlier-none : (a b : Option ℕ) → earlier a b ≡ None → (a ≡ None) × (b ≡ None)
earlier-none None b e = (refl, e)
earlier-none (Some x) None e = cc
earlier-none (Some x) (Some y) e = cc

none-least : (lines : List ℕ) → least lines ≡ None → lines ≡ []
none-least [] e = refl
none-least (line ∷ lines) e = let no_ : Some line ≡ None = (earlier-none (Some line) (least lines) e).0 in cc

pub settled : (script : List ℕ) (start book : List Entry) (now : Standing) (output : List ℕ) (refused : Bool) → refused_at script ≡ None
    → AreDone (from_to start book) (beginning start) now (actions_of script) output refused → now.waiting ≡ []
settled script start book now output refused ok done =
    let lines = (earlier-none (bytes_line script) (least (fault_lines first_standing (items_of (front script)))) ok).1 in
    settled-from start book (beginning start) now first_standing (items_of (front script)) output refused
    (none-least (fault_lines first_standing (items_of (front script))) lines) done (record { known = tt; apart = tt })

-- what holds of the actions behind a test that isn't met
in-turn-by : (start book : List Entry) (before now : Standing) (b : Bool) (met unmet : List Action) (output : List ℕ) (refused : Bool) → b ≡ false
    → (done : AreDone (from_to start book) before now (cond b met unmet) output refused)
    → ((those : AreDone (from_to start book) before now unmet output refused) → AreInTurn (from_to start book) before now unmet output refused those)
    → AreInTurn (from_to start book) before now (cond b met unmet) output refused done
in-turn-by start book before now true met unmet output refused is done next = let no_ : true ≡ false = is in cc
in-turn-by start book before now false met unmet output refused is done next = next done

in-turn-from : (start book : List Entry) (before now : Standing) (place : Place) (items : List Item) (output : List ℕ) (refused : Bool) → fault_lines place items ≡ []
    → (done : AreDone (from_to start book) before now (actions_from place items) output refused) → Settles place.held before.waiting
    → AreInTurn (from_to start book) before now (actions_from place items) output refused done
in-turn-from start book before now place [] output refused ok done h = tt
in-turn-from start book before now place (item ∷ items) output refused ok done h =
    let kind = kind_of item.bytes in
    let parts = faultless (is_faulty place item kind) item.line (fault_lines place items) (fault_lines (after place item kind) items) ok in
    in-turn-by start book before now (is_faulty place item kind) (actions_from place items)
    (option_to_list (action_for place item kind) ++ actions_from (after place item kind) items) output refused parts.0 done
    (λ those. item-in-turn start book before now place item kind (actions_from (after place item kind) items) output refused parts.0 those h
    (λ between more later rest on. in-turn-from start book between now (after place item kind) items more later parts.1 rest on))

pub in-turn : (script : List ℕ) (start book : List Entry) (now : Standing) (output : List ℕ) (refused : Bool) → refused_at script ≡ None
    → (done : AreDone (from_to start book) (beginning start) now (actions_of script) output refused)
    → AreInTurn (from_to start book) (beginning start) now (actions_of script) output refused done
in-turn script start book now output refused ok done =
    let lines = (earlier-none (bytes_line script) (least (fault_lines first_standing (items_of (front script)))) ok).1 in
    in-turn-from start book (beginning start) now first_standing (items_of (front script)) output refused
    (none-least (fault_lines first_standing (items_of (front script))) lines) done (record { known = tt; apart = tt })
