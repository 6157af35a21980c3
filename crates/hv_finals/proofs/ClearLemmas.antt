-- Directories that are taken away one after another: so many are gone, and of one that fails some files may be.
use Rattle.std.proofs.Common.{◌≡◌, ℕ, ◌+◌, ◌<◌, ◌≤◌, inl, inr, Bool, true, false, true≢false, ◌||◌, cond, Option, Some, None, List, [], Result, Ok, Err, length, take, drop, get_or, refl, sym, ap, ◌∙◌, subst, arith, take-append-drop}
use Rattle.std.specs.Prelude.{OnErr}
use Rattle.std.specs.FinMap as tree
use Rattle.std.proofs.lemmas.List.Folds.{list_any-append, list_any_more}
use Rattle.std.proofs.Math.Seq.{take-length}
use Rattle.hv_base.specs.Told.{Moves}
use Rattle.hv_base.proofs.ToldLemmas.{Moves-then, Moves-same}
use Rattle.hv_shelf.specs.declared.place.DirAt.{DirAt}
use Rattle.hv_shelf.specs.declared.place.Place.{Place}
use Rattle.hv_shelf.specs.Causes.{SoftCause}
use Rattle.hv_shelf.specs.Disk.{Store, IsRemoved, TornRemove}
use Rattle.hv_shelf.specs.Laws.{get-IsRemoved, get-RemovesSome}
use Rattle.hv_shelf.specs.Places.{is_in}
use Rattle.hv_law_made.specs.Opening.{is_in_any, AllGo}
use Rattle.hv_finals.specs.Finals.{CallsCause, DirsGo, SomeDirsGo}
use Rattle.hv_finals.proofs.CallLemmas.{calls-none, calls-one, calls-more}

-- ---- results

pub on-err : {T E : Type 0} (r : Result T E) (P : Type 0) → P → OnErr r P
on-err (Ok x) P p = tt
on-err (Err e) P p = p

-- ---- the two parts of a test

or-left : (x y : Bool) → y ≡ false → (x || y) ≡ true → x ≡ true
or-left true y e is = refl
or-left false y e is = absurd (true≢false (sym is ∙ e))

or-none : (x y : Bool) → (x || y) ≡ false → (x ≡ false) × (y ≡ false)
or-none true y is = absurd (true≢false is)
or-none false y is = (refl, is)

-- ---- so many of them

any-front : (dirs : List DirAt) (n : ℕ) (place : Place) → is_in_any dirs place ≡ false → is_in_any (take n dirs) place ≡ false
any-front dirs n place none =
    let parts = or-none (is_in_any (take n dirs) place) (is_in_any (drop n dirs) place)
    (sym (list_any-append (λ (d : DirAt). is_in d place) (take n dirs) (drop n dirs))
    ∙ ap (λ (ds : List DirAt). is_in_any ds place) (take-append-drop n dirs)
    ∙ none)
    in parts.0

-- where all are gone, some are
gone-less : (dirs : List DirAt) (a b : Store) (place : Place) (bytes : List ℕ) → AllGo dirs a.tree b.tree → tree.get b.tree place ≡ Some bytes
    → tree.get a.tree place ≡ Some bytes
gone-less dirs a b place bytes gone is = by (is_in_any dirs place) refl
  where
    by : (k : Bool) → is_in_any dirs place ≡ k → tree.get a.tree place ≡ Some bytes
    by true e = let none : None ≡ Some bytes = sym (gone.bare place e) ∙ is in cc
    by false e = sym (gone.same place e) ∙ is

module _ (dirs : List DirAt) (i : ℕ) (dir : DirAt) (low : i < length dirs) (at : dir ≡ get_or dirs i dir) where
  any-next : (place : Place) → is_in_any (take (i + 1) dirs) place ≡ (is_in_any (take i dirs) place || is_in dir place)
  any-next place =
      list_any_more (λ (d : DirAt). is_in d place) dirs i dir low ∙ ap (λ (d : DirAt). is_in_any (take i dirs) place || is_in d place) (sym at)

  module _ (a b c : Store) (gone : DirsGo (take i dirs) a b) where
    all-next : IsRemoved dir b c → DirsGo (take (i + 1) dirs) a c
    all-next removed = record {
      gone = record { bare = λ place within. bare place within (is_in dir place) refl; same = same };
      journal_is = removed.journal_is ∙ gone.journal_is;
    }
      where
        now-is : (place : Place) (k : Bool) → is_in dir place ≡ k → tree.get c.tree place ≡ cond k None (tree.get b.tree place)
        now-is place k e = get-IsRemoved dir b c removed place ∙ ap (λ k. cond k None (tree.get b.tree place)) e

        bare : (place : Place) → is_in_any (take (i + 1) dirs) place ≡ true → (k : Bool) → is_in dir place ≡ k → tree.get c.tree place ≡ None
        bare place within true e = now-is place true e
        bare place within false e =
            now-is place false e ∙ gone.gone.bare place (or-left (is_in_any (take i dirs) place) (is_in dir place) e (sym (any-next place) ∙ within))

        same : (place : Place) → is_in_any (take (i + 1) dirs) place ≡ false → tree.get c.tree place ≡ tree.get a.tree place
        same place without =
            let parts = or-none (is_in_any (take i dirs) place) (is_in dir place) (sym (any-next place) ∙ without) in
            now-is place false parts.1 ∙ gone.gone.same place parts.0

    some-stayed : (place : Place) → is_in_any dirs place ≡ false → (is_in_any (take i dirs) place ≡ false) × (is_in dir place ≡ false)
    some-stayed place without =
        or-none (is_in_any (take i dirs) place) (is_in dir place) (sym (any-next place) ∙ any-front dirs (i + 1) place without)

    -- where the next one failed
    some-next : TornRemove dir b c → SomeDirsGo dirs a c
    some-next (inl left) = record {
      gone = record {
        less = λ place bytes is.
            gone-less (take i dirs) a b place bytes gone.gone (sym (ap (λ (s : Store). tree.get s.tree place) left) ∙ is);
        same = λ place without.
            let parts = some-stayed place without in
            ap (λ (s : Store). tree.get s.tree place) left ∙ gone.gone.same place parts.0;
      };
      journal_is = ap (λ (s : Store). s.journal) left ∙ gone.journal_is;
    }
    some-next (inr some) = record {
      gone = record {
        less = λ place bytes is. gone-less (take i dirs) a b place bytes gone.gone (kept place bytes is (some.keeps place) refl);
        same = λ place without.
            let parts = some-stayed place without in
            now-is place true (some.others place parts.1) ∙ gone.gone.same place parts.0;
      };
      journal_is = some.journal_is ∙ gone.journal_is;
    }
      where
        now-is : (place : Place) (k : Bool) → some.keeps place ≡ k → tree.get c.tree place ≡ cond k (tree.get b.tree place) None
        now-is place k e = get-RemovesSome dir b c some place ∙ ap (λ k. cond k (tree.get b.tree place) None) e

        kept : (place : Place) (bytes : List ℕ) → tree.get c.tree place ≡ Some bytes → (k : Bool) → some.keeps place ≡ k → tree.get b.tree place ≡ Some bytes
        kept place bytes is true e = sym (now-is place true e) ∙ is
        kept place bytes is false e = let none : None ≡ Some bytes = sym (now-is place false e) ∙ is in cc

-- ---- over a store that tells

pub record IsClearing {D : Type 0} (told : D → Option Store) (faults hard : D → ℕ) (dirs : List DirAt) (before now : D) : Type 0 where
  pub gone : Moves (DirsGo dirs) (told before) (told now)
  pub cause : CallsCause ⊥ (faults before) (faults now) (hard before) (hard now)

none-gone : (s : Store) → DirsGo [] s s
none-gone s = record { gone = record { bare = λ place within. absurd (true≢false (sym within)); same = λ place without. refl }; journal_is = refl }

module _ {D : Type 0} (told : D → Option Store) (faults hard : D → ℕ) (dirs : List DirAt) (before : D) where
  pub clearing-init : IsClearing told faults hard [] before before
  clearing-init = record {
    gone = Moves-same (DirsGo []) none-gone (told before);
    cause = calls-none ⊥ (faults before) (hard before) (λ e. e);
  }

  module _ (mid now : D) (i : ℕ) (dir : DirAt) (low : i < length dirs) (at : dir ≡ get_or dirs i dir)
      (so_far : IsClearing told faults hard (take i dirs) before mid) where
    pub cleared-cause : (F G : Type 0) → SoftCause F (faults mid) (faults now) (hard mid) (hard now) → (G → F)
        → CallsCause G (faults before) (faults now) (hard before) (hard now)
    cleared-cause F G cause also =
        calls-more ⊥ F G (faults before) (faults mid) (faults now) (hard before) (hard mid) (hard now) also so_far.cause
        (calls-one F F (faults mid) (faults now) (hard mid) (hard now) (λ f. f) cause)

    pub clearing-next : (F : Type 0) → Moves (IsRemoved dir) (told mid) (told now) → SoftCause F (faults mid) (faults now) (hard mid) (hard now)
        → IsClearing told faults hard (take (i + 1) dirs) before now
    clearing-next F removed cause = record {
      gone =
          Moves-then (DirsGo (take i dirs)) (IsRemoved dir) (DirsGo (take (i + 1) dirs)) (λ x y z gone next. all-next dirs i dir low at x y z gone next)
          (told before) (told mid) (told now) so_far.gone removed;
      cause = cleared-cause F ⊥ cause (λ e. absurd e);
    }

    pub clearing-stops : Moves (TornRemove dir) (told mid) (told now) → Moves (SomeDirsGo dirs) (told before) (told now)
    clearing-stops torn =
        Moves-then (DirsGo (take i dirs)) (TornRemove dir) (SomeDirsGo dirs) (λ x y z gone next. some-next dirs i dir low at x y z gone next)
        (told before) (told mid) (told now) so_far.gone torn

  pub clearing-done : (now : D) (i : ℕ) → length dirs ≤ i → i ≤ length dirs → IsClearing told faults hard (take i dirs) before now
      → Moves (DirsGo dirs) (told before) (told now)
  clearing-done now i high low so_far =
      let end : i ≡ length dirs = omega (arith, high, low) in
      subst (λ (ds : List DirAt). Moves (DirsGo ds) (told before) (told now)) (ap (λ n. take n dirs) end ∙ take-length dirs) so_far.gone
