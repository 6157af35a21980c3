-- The conflict that a legal abort names is the one that is met first, and a legal commit meets none.
use Rattle.std.proofs.Common.{◌≡◌, ℕ, zero, suc, ◌+◌, ◌<◌, ◌≤◌, Option, Some, None, List, [], ◌∷◌, refl, sym, ap, ◌∙◌, subst, arith}
use Rattle.std.specs.Prelude.{if◌then◌else◌, Bool, true, false, ◌&&◌, ◌||◌, nat_lt}
use Rattle.std.specs.Option.{option_map}
use Rattle.std.specs.List.{slice_get, list_any}
use Rattle.std.proofs.lemmas.Bool.{ltb-false, le-ltb, lt-ltb}
use Rattle.std.proofs.Math.Arith.{lt_of_le-ne}
use Rattle.hv_base.specs.declared.ids.Touch.{Touch}
use Rattle.hv_history.specs.declared.entry.Entry.{Entry}
use Rattle.hv_history.specs.declared.state.Transaction.{Transaction}
use Rattle.hv_history.specs.declared.state.Ending.{Ending}
use Rattle.hv_history.specs.declared.state.Ending.TheVariants.{Committed, Aborted, Made, Dropped}
use Rattle.hv_history.specs.State.{numbered, state_of}
use Rattle.hv_history.specs.Legal.{IsFirstConflict, first_shared, commits_against, commits_before, touch_conflicts, touches_conflict}
use Rattle.hv_conflicts.proofs.CommitterLaws.{committer_at, committed-by}
use Rattle.hv_conflicts.proofs.ClashLemmas.{or-right}
use Rattle.hv_law_next.specs.Next.{Meeting, meeting, met, earlier_one, first_met}

-- ---- tests

or-left : (a b : Bool) → (a || b) ≡ false → a ≡ false
or-left true b e = cc
or-left false b e = refl

-- ---- the first touch that both share

shared-none : (wrote those : List Touch) → touches_conflict wrote those ≡ false → first_shared wrote those ≡ None
shared-none [] those e = refl
shared-none (touch ∷ wrote) those e =
    let here : list_any (touch_conflicts touch) those ≡ false = or-left (list_any (touch_conflicts touch) those) (touches_conflict wrote those) e in
    let later : touches_conflict wrote those ≡ false = or-right (list_any (touch_conflicts touch) those) (touches_conflict wrote those) e in
    ap (λ b. if b then Some touch else first_shared wrote those) here ∙ shared-none wrote those later

shared-some : (wrote those : List Touch) (shared : Touch) → first_shared wrote those ≡ Some shared → touches_conflict wrote those ≡ true
shared-some [] those shared e = cc
shared-some (touch ∷ wrote) those shared e = by (shared-some wrote those shared) (list_any (touch_conflicts touch) those) refl e
  where
    by : (first_shared wrote those ≡ Some shared → touches_conflict wrote those ≡ true)
        → (b : Bool) → list_any (touch_conflicts touch) those ≡ b → (if b then Some touch else first_shared wrote those) ≡ Some shared
        → (list_any (touch_conflicts touch) those || touches_conflict wrote those) ≡ true
    by rest true is e = ap (λ b. b || touches_conflict wrote those) is
    by rest false is e = ap (λ b. b || touches_conflict wrote those) is ∙ rest e

-- ---- none is met

none-met_by : (place : ℕ) (wrote : List Touch) (number : ℕ) (o : Option Ending) → commits_against place wrote o ≡ false → met place wrote number o ≡ None
none-met_by place wrote number None e = refl
none-met_by place wrote number (Some (Committed at those)) e = by (nat_lt place at) refl
  where
    by : (b : Bool) → nat_lt place at ≡ b → (if nat_lt place at then option_map (meeting at number) (first_shared wrote those) else None) ≡ None
    by false is = ap (λ c. if c then option_map (meeting at number) (first_shared wrote those) else None) is
    by true is =
        let apart : touches_conflict wrote those ≡ false = sym (ap (λ c. c && touches_conflict wrote those) is) ∙ e in
        ap (λ c. if c then option_map (meeting at number) (first_shared wrote those) else None) is
        ∙ ap (option_map (meeting at number)) (shared-none wrote those apart)
none-met_by place wrote number (Some (Aborted at cause)) e = refl
none-met_by place wrote number (Some (Made at table)) e = refl
none-met_by place wrote number (Some (Dropped at table)) e = refl

pub none-met : (place : ℕ) (wrote : List Touch) (number : ℕ) (ts : List Transaction)
    → list_any (λ (other : Transaction). commits_against place wrote other.ending) ts ≡ false → first_met place wrote number ts ≡ None
none-met place wrote number [] e = refl
none-met place wrote number (t ∷ ts) e =
    let here : commits_against place wrote t.ending ≡ false =
    or-left (commits_against place wrote t.ending) (list_any (λ (other : Transaction). commits_against place wrote other.ending) ts) e in
    let later : list_any (λ (other : Transaction). commits_against place wrote other.ending) ts ≡ false =
    or-right (commits_against place wrote t.ending) (list_any (λ (other : Transaction). commits_against place wrote other.ending) ts) e in
    ap (λ o. earlier_one o (first_met place wrote (number + 1) ts)) (none-met_by place wrote number t.ending here)
    ∙ none-met place wrote (number + 1) ts later

-- ---- one is met before all others

module _ (place : ℕ) (wrote : List Touch) (me : Meeting) where
  abbrev IsLater : Option Meeting → Type 0
  IsLater None = Unit {0}
  IsLater (Some other) = me.at < other.at

  -- what the others meet from there on is later
  abbrev AreLater : ℕ → List Transaction → Type 0
  AreLater first ts = (k : ℕ) (t : Transaction) → slice_get ts k ≡ Some t → (number : ℕ) → number ≡ first + k → (number ≡ me.by → ⊥) → IsLater (met place wrote number t.ending)

  next-later : (first : ℕ) (t : Transaction) (ts : List Transaction) → AreLater first (t ∷ ts) → AreLater (first + 1) ts
  next-later first t ts later k other e number is apart = later (suc k) other e number (omega (arith, is)) apart

  both-later : (o p : Option Meeting) → IsLater o → IsLater p → IsLater (earlier_one o p)
  both-later None p h later = later
  both-later (Some one) None h later = h
  both-later (Some one) (Some other) h later = by (nat_lt other.at one.at)
    where
      by : (b : Bool) → IsLater (if b then Some other else Some one)
      by true = later
      by false = h

  all-later : (first : ℕ) (ts : List Transaction) → me.by < first → AreLater first ts → IsLater (first_met place wrote first ts)
  all-later first [] below later = tt
  all-later first (t ∷ ts) below later =
      both-later (met place wrote first t.ending) (first_met place wrote (first + 1) ts)
      (later zero t refl first (omega arith) (λ same. absurd (omega (arith, below, same))))
      (all-later (first + 1) ts (omega (arith, below)) (next-later first t ts later))

  keeps-one : (o : Option Meeting) → IsLater o → earlier_one (Some me) o ≡ Some me
  keeps-one None later = refl
  keeps-one (Some other) later = ap (λ b. if b then Some other else Some me) (le-ltb other.at me.at (omega (arith, later)))

  takes-one : (o : Option Meeting) → IsLater o → earlier_one o (Some me) ≡ Some me
  takes-one None later = refl
  takes-one (Some other) later = ap (λ b. if b then Some me else Some other) (lt-ltb me.at other.at later)

  met-first : (first : ℕ) (ts : List Transaction) → AreLater first ts → (k : ℕ) (t : Transaction) → slice_get ts k ≡ Some t → me.by ≡ first + k
      → met place wrote me.by t.ending ≡ Some me → first_met place wrote first ts ≡ Some me
  met-first first [] later k t e is meets = cc
  met-first first (x ∷ ts) later zero t e is meets =
      let same : x ≡ t = cc in
      let number : me.by ≡ first = omega (arith, is) in
      ap (λ o. earlier_one o (first_met place wrote (first + 1) ts))
      (ap (λ n. met place wrote n x.ending) (sym number) ∙ ap (λ (y : Transaction). met place wrote me.by y.ending) same ∙ meets)
      ∙ keeps-one (first_met place wrote (first + 1) ts) (all-later (first + 1) ts (omega (arith, is)) (next-later first x ts later))
  met-first first (x ∷ ts) later (suc k) t e is meets =
      ap (earlier_one (met place wrote first x.ending)) (met-first (first + 1) ts (next-later first x ts later) k t e (omega (arith, is)) meets)
      ∙ takes-one (met place wrote first x.ending) (later zero x refl first (omega arith) (λ same. absurd (omega (arith, same, is))))

-- ---- the first conflict of a book

any-false : (test : Transaction → Bool) (ts : List Transaction) (k : ℕ) (t : Transaction) → list_any test ts ≡ false → slice_get ts k ≡ Some t → test t ≡ false
any-false test [] k t none e = cc
any-false test (x ∷ ts) zero t none e =
    let same : x ≡ t = cc in ap test (sym same) ∙ or-left (test x) (list_any test ts) none
any-false test (x ∷ ts) (suc k) t none e = any-false test ts k t (or-right (test x) (list_any test ts) none) e

module _ (book : List Entry) (place : ℕ) (wrote : List Touch) (by_ table : ℕ) (partition : List ℕ)
    (h : IsFirstConflict (state_of book) place wrote by_ table partition) where
  abbrev ts : List Transaction
  ts = (state_of book).transactions

  abbrev pub the_one : Meeting
  the_one = meeting h.at by_ h.shared

  meets-it : met place wrote by_ h.other.ending ≡ Some the_one
  meets-it =
      ap (met place wrote by_) h.commit
      ∙ ap (λ b. if b then option_map (meeting h.at by_) (first_shared wrote h.those) else None) (lt-ltb place h.at h.behind)
      ∙ ap (option_map (meeting h.at by_)) h.is_first

  later-by : (number : ℕ) (t : Transaction) (o : Option Ending) → numbered ts number ≡ Some t → t.ending ≡ o → (number ≡ by_ → ⊥)
      → commits_before place h.at wrote o ≡ false → IsLater place wrote the_one (met place wrote number o)
  later-by number t None there is apart none = tt
  later-by number t (Some (Aborted at cause)) there is apart none = tt
  later-by number t (Some (Made at made)) there is apart none = tt
  later-by number t (Some (Dropped at gone)) there is apart none = tt
  later-by number t (Some (Committed at those)) there is apart none = by_test (nat_lt place at) refl (first_shared wrote those) refl
    where
      other-place : at ≡ h.at → ⊥
      other-place same =
          let mine = committed-by book by_ h.other h.at h.those h.named h.commit in
          let its = committed-by book number t at those there is in
          let both : Some number ≡ Some by_ = sym its ∙ ap (committer_at book) same ∙ mine in
          let equal : number ≡ by_ = cc in
          apart equal

      by_test : (b : Bool) → nat_lt place at ≡ b → (o : Option Touch) → first_shared wrote those ≡ o
          → IsLater place wrote the_one (if nat_lt place at then option_map (meeting at number) (first_shared wrote those) else None)
      by_test false test o shares = subst (λ c. IsLater place wrote the_one (if c then option_map (meeting at number) (first_shared wrote those) else None)) (sym test) tt
      by_test true test None shares =
          subst (λ c. IsLater place wrote the_one (if c then option_map (meeting at number) (first_shared wrote those) else None)) (sym test)
          (subst (λ o. IsLater place wrote the_one (option_map (meeting at number) o)) (sym shares) tt)
      by_test true test (Some shared) shares =
          let conflicts = shared-some wrote those shared shares in
          let left : (nat_lt at h.at && touches_conflict wrote those) ≡ false = sym (ap (λ c. c && (nat_lt at h.at && touches_conflict wrote those)) test) ∙ none in
          let early : nat_lt at h.at ≡ false = sym (and-true (nat_lt at h.at) (touches_conflict wrote those) conflicts) ∙ left in
          let not_before = ltb-false at h.at early in
          subst (λ c. IsLater place wrote the_one (if c then option_map (meeting at number) (first_shared wrote those) else None)) (sym test)
          (subst (λ o. IsLater place wrote the_one (option_map (meeting at number) o)) (sym shares) (strictly not_before))
        where
          and-true : (a b : Bool) → b ≡ true → (a && b) ≡ a
          and-true true b e = e
          and-true false b e = refl

          strictly : h.at ≤ at → h.at < at
          strictly le = lt_of_le-ne le (λ same. other-place (sym same))

  all-others : AreLater place wrote the_one 1 ts
  all-others k t e number is apart =
      later-by number t t.ending (there number (omega (arith, is))) refl apart
      (any-false (λ (x : Transaction). commits_before place h.at wrote x.ending) ts k t h.earliest e)
    where
      there : (n : ℕ) → n ≡ suc k → numbered ts n ≡ Some t
      there n same = ap (numbered ts) same ∙ e

  met-at : (n : ℕ) → n ≡ by_ → numbered ts n ≡ Some h.other → first_met place wrote 1 ts ≡ Some the_one
  met-at zero same there = cc
  met-at (suc k) same there = met-first place wrote the_one 1 ts all-others k h.other there (omega (arith, same)) meets-it

  pub first-is-met : first_met place wrote 1 ts ≡ Some the_one
  first-is-met = met-at by_ refl h.named
