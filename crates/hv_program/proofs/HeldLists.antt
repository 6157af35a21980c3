-- The list of statements that are held: the first of a session, those without it, and one more.
use Rattle.std.proofs.Common.{◌≡◌, ℕ, ◌+◌, ◌<◌, Bool, true, false, cond, Option, Some, None, List, [], ◌∷◌, ◌++◌, length, get_or, take, drop, map, refl, sym, ap, ◌∙◌, subst, arith}
use Rattle.std.specs.List.{AllByRecursion}
use Rattle.std.proofs.lemmas.List.{drop_more}
use Rattle.hv_session.specs.declared.paused.Paused.{Paused}
use Rattle.hv_program.specs.declared.held.Held.{Held}
use Rattle.hv_program.specs.Doing.{Waiting, waiting_in, without}
use Rattle.hv_program.specs.Keeping.{waiting_of, is_of_session, paused_in, held_without, ComesBefore, AreInOrder}

some-same : {A : Type 0} (x y : A) → Some x ≡ Some y → x ≡ y
some-same x y e = cc

-- ---- what stands of them between two actions

-- a statement waits, of this transaction
pub record WaitsAs (found : Option Waiting) (txn : ℕ) : Type 0 where
  pub waiting : Waiting
  pub is : found ≡ Some waiting
  pub txn_is : waiting.txn ≡ txn

waits-by : (b : Bool) (first : Held) (rest : Option Paused) (more : Option Waiting) (paused : Paused) → (rest ≡ Some paused → WaitsAs more paused.way.txn.0)
    → cond b (Some first.paused) rest ≡ Some paused → WaitsAs (cond b (Some (waiting_of first)) more) paused.way.txn.0
waits-by true first rest more paused next e =
    record { waiting = waiting_of first; is = refl; txn_is = ap (λ (p : Paused). p.way.txn.0) (some-same first.paused paused e) }
waits-by false first rest more paused next e = next e

pub found-waits : (name : List ℕ) (helds : List Held) (paused : Paused) → paused_in name helds ≡ Some paused
    → WaitsAs (waiting_in name (map waiting_of helds)) paused.way.txn.0
found-waits name [] paused e = cc
found-waits name (first ∷ helds) paused e =
    waits-by (is_of_session name first) first (paused_in name helds) (waiting_in name (map waiting_of helds)) paused (found-waits name helds paused) e

none-by : (b : Bool) (first : Held) (rest : Option Paused) (more : Option Waiting) → (rest ≡ None → more ≡ None)
    → cond b (Some first.paused) rest ≡ None → cond b (Some (waiting_of first)) more ≡ None
none-by true first rest more next e = cc
none-by false first rest more next e = next e

pub none-waits : (name : List ℕ) (helds : List Held) → paused_in name helds ≡ None → waiting_in name (map waiting_of helds) ≡ None
none-waits name [] e = refl
none-waits name (first ∷ helds) e =
    none-by (is_of_session name first) first (paused_in name helds) (waiting_in name (map waiting_of helds)) (none-waits name helds) e

without-by : (b : Bool) (first : Held) (helds rest : List Held) (more : List Waiting) → map waiting_of rest ≡ more
    → map waiting_of (cond b helds (first ∷ rest)) ≡ cond b (map waiting_of helds) (waiting_of first ∷ more)
without-by true first helds rest more e = refl
without-by false first helds rest more e = ap (λ ws. waiting_of first ∷ ws) e

pub waits-without : (name : List ℕ) (helds : List Held) → map waiting_of (held_without name helds) ≡ without name (map waiting_of helds)
waits-without name [] = refl
waits-without name (first ∷ helds) =
    without-by (is_of_session name first) first helds (held_without name helds) (without name (map waiting_of helds)) (waits-without name helds)

pub waits-last : (helds : List Held) (held : Held) → map waiting_of (helds ++ held ∷ []) ≡ map waiting_of helds ++ waiting_of held ∷ []
waits-last [] held = refl
waits-last (first ∷ helds) held = ap (λ ws. waiting_of first ∷ ws) (waits-last helds held)

-- where none is in the session, all are left
left-by : (b : Bool) (first : Held) (rest : Option Paused) (helds more : List Held) → (rest ≡ None → more ≡ helds)
    → cond b (Some first.paused) rest ≡ None → cond b helds (first ∷ more) ≡ first ∷ helds
left-by true first rest helds more next e = cc
left-by false first rest helds more next e = ap (λ hs. first ∷ hs) (next e)

pub none-left : (name : List ℕ) (helds : List Held) → paused_in name helds ≡ None → held_without name helds ≡ helds
none-left name [] e = refl
none-left name (first ∷ helds) e =
    left-by (is_of_session name first) first (paused_in name helds) helds (held_without name helds) (none-left name helds) e

-- ---- facts on all of them

kept-by : (P : Held → Type 0) (b : Bool) (first : Held) (helds rest : List Held) → AllByRecursion P helds → P first → AllByRecursion P rest
    → AllByRecursion P (cond b helds (first ∷ rest))
kept-by P true first helds rest all here more = all
kept-by P false first helds rest all here more = (here, more)

pub all-without : (P : Held → Type 0) (name : List ℕ) (helds : List Held) → AllByRecursion P helds → AllByRecursion P (held_without name helds)
all-without P name [] all = tt
all-without P name (first ∷ helds) all =
    kept-by P (is_of_session name first) first helds (held_without name helds) all.1 all.0 (all-without P name helds all.1)

found-by : (P : Paused → Type 0) (b : Bool) (first : Held) (rest : Option Paused) (paused : Paused) → P first.paused → (rest ≡ Some paused → P paused)
    → cond b (Some first.paused) rest ≡ Some paused → P paused
found-by P true first rest paused here next e = subst P (some-same first.paused paused e) here
found-by P false first rest paused here next e = next e

pub all-found : (P : Paused → Type 0) (name : List ℕ) (helds : List Held) (paused : Paused) → AllByRecursion (λ (held : Held). P held.paused) helds
    → paused_in name helds ≡ Some paused → P paused
all-found P name [] paused all e = cc
all-found P name (first ∷ helds) paused all e =
    found-by P (is_of_session name first) first (paused_in name helds) paused all.0 (all-found P name helds paused all.1) e

pub all-last : (P : Held → Type 0) (helds : List Held) (held : Held) → AllByRecursion P helds → P held → AllByRecursion P (helds ++ held ∷ [])
all-last P [] held all p = (p, tt)
all-last P (first ∷ helds) held all p = (all.0, all-last P helds held all.1 p)

pub all-map : (P Q : Held → Type 0) (helds : List Held) → ((held : Held) → P held → Q held) → AllByRecursion P helds → AllByRecursion Q helds
all-map P Q [] f all = tt
all-map P Q (first ∷ helds) f all = (f first all.0, all-map P Q helds f all.1)

-- ---- their order

order-by : (b : Bool) (first : Held) (helds rest : List Held) → AreInOrder helds → AllByRecursion (ComesBefore first) rest → AreInOrder rest
    → AreInOrder (cond b helds (first ∷ rest))
order-by true first helds rest order before more = order
order-by false first helds rest order before more = (before, more)

pub order-without : (name : List ℕ) (helds : List Held) → AreInOrder helds → AreInOrder (held_without name helds)
order-without name [] order = tt
order-without name (first ∷ helds) order =
    order-by (is_of_session name first) first helds (held_without name helds) order.1 (all-without (ComesBefore first) name helds order.0)
    (order-without name helds order.1)

abbrev pub IsBelow : ℕ → Held → Type 0
IsBelow txn held = held.paused.way.txn.0 < txn

pub order-last : (helds : List Held) (held : Held) → AreInOrder helds → AllByRecursion (IsBelow held.paused.way.txn.0) helds → AreInOrder (helds ++ held ∷ [])
order-last [] held order below = (tt, tt)
order-last (first ∷ helds) held order below =
    (all-last (ComesBefore first) helds held order.0 below.0, order-last helds held order.1 below.1)

-- the one that is let go has a transaction of its own
abbrev pub IsApart : ℕ → Held → Type 0
IsApart txn held = txn ≡ held.paused.way.txn.0 → ⊥

less-apart : (first : Held) (paused : Paused) → first.paused ≡ paused → (held : Held) → ComesBefore first held → IsApart paused.way.txn.0 held
less-apart first paused same held less = λ e. absurd (omega (arith, less, ap (λ (p : Paused). p.way.txn.0) same, e))

apart-by : (b : Bool) (first : Held) (rest : Option Paused) (helds more : List Held) (paused : Paused)
    → AllByRecursion (ComesBefore first) helds → (rest ≡ Some paused → first.paused.way.txn.0 < paused.way.txn.0)
    → (rest ≡ Some paused → AllByRecursion (IsApart paused.way.txn.0) more)
    → cond b (Some first.paused) rest ≡ Some paused → AllByRecursion (IsApart paused.way.txn.0) (cond b helds (first ∷ more))
apart-by true first rest helds more paused before less next e =
    all-map (ComesBefore first) (IsApart paused.way.txn.0) helds (less-apart first paused (some-same first.paused paused e)) before
apart-by false first rest helds more paused before less next e =
    let below : first.paused.way.txn.0 < paused.way.txn.0 = less e in
    ((λ same. absurd (omega (arith, below, same))), next e)

pub found-apart : (name : List ℕ) (helds : List Held) (paused : Paused) → AreInOrder helds → paused_in name helds ≡ Some paused
    → AllByRecursion (IsApart paused.way.txn.0) (held_without name helds)
found-apart name [] paused order e = cc
found-apart name (first ∷ helds) paused order e =
    apart-by (is_of_session name first) first (paused_in name helds) helds (held_without name helds) paused order.0
    (all-found (λ (p : Paused). first.paused.way.txn.0 < p.way.txn.0) name helds paused order.0) (found-apart name helds paused order.1) e

-- ---- the place of the first of a session

-- the one at a place, read twice
at-place : (helds : List Held) (place : ℕ) (first one : Held) → place < length helds → first ≡ get_or helds place first → one ≡ get_or helds place one
    → (drop place helds ≡ one ∷ drop (place + 1) helds) × (first ≡ one)
at-place helds place first one inside is also =
    let here : drop place helds ≡ one ∷ drop (place + 1) helds = drop_more helds place one inside ∙ ap (λ (x : Held). x ∷ drop (place + 1) helds) (sym also) in
    let there : drop place helds ≡ first ∷ drop (place + 1) helds = drop_more helds place first inside ∙ ap (λ (x : Held). x ∷ drop (place + 1) helds) (sym is) in
    (here, same-first first one (drop (place + 1) helds) (sym there ∙ here))
  where
    same-first : (x y : Held) (rest : List Held) → x ∷ rest ≡ y ∷ rest → x ≡ y
    same-first x y rest e = cc

pub found-at : (name : List ℕ) (helds all : List Held) (place : ℕ) (first one : Held) → place < length helds → first ≡ get_or helds place first → one ≡ get_or helds place one
    → true ≡ is_of_session name first → paused_in name (drop place helds) ≡ paused_in name all → Some one.paused ≡ paused_in name all
found-at name helds all place first one inside is also named kept =
    let both = at-place helds place first one inside is also in
    let here : is_of_session name one ≡ true = sym (ap (is_of_session name) both.1) ∙ sym named in
    sym (ap (λ (b : Bool). cond b (Some one.paused) (paused_in name (drop (place + 1) helds))) here) ∙ sym (ap (paused_in name) both.0) ∙ kept

pub left-at : (name : List ℕ) (helds all now : List Held) (place : ℕ) (first one : Held) → place < length helds → first ≡ get_or helds place first → one ≡ get_or helds place one
    → true ≡ is_of_session name first → take place helds ++ held_without name (drop place helds) ≡ held_without name all
    → now ≡ take place helds ++ drop (place + 1) helds → now ≡ held_without name all
left-at name helds all now place first one inside is also named kept cut =
    let both = at-place helds place first one inside is also in
    let here : is_of_session name one ≡ true = sym (ap (is_of_session name) both.1) ∙ sym named in
    let rest : held_without name (drop place helds) ≡ drop (place + 1) helds =
    ap (held_without name) both.0 ∙ ap (λ (b : Bool). cond b (drop (place + 1) helds) (one ∷ held_without name (drop (place + 1) helds))) here in
    cut ∙ sym (ap (λ (hs : List Held). take place helds ++ hs) rest) ∙ kept
