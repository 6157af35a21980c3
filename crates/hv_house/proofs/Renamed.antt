-- Directories that get their names one after another: so many have theirs.
use Rattle.std.proofs.Common.{◌≡◌, inl, inr, ℕ, ◌+◌, ◌<◌, ◌≤◌, Bool, true, false, true≢false, Option, Result, Ok, Err, List, [], ◌∷◌, ◌++◌, length, take, drop, get_or, refl, sym, ap, ◌∙◌, subst, arith, take-append-drop}
use Rattle.std.specs.Prelude.{IsErrOf}
use Rattle.std.proofs.lemmas.List.{take_more}
use Rattle.std.proofs.Math.Seq.{take-length}
use Rattle.hv_base.specs.Told.{Moves}
use Rattle.hv_base.proofs.ToldLemmas.{Moves-then, Moves-weaken, Moves-same}
use Rattle.hv_shelf.specs.declared.fault.ShelfFault.{ShelfFault}
use Rattle.hv_shelf.specs.declared.fault.ShelfFault.TheVariants as shelf
use Rattle.hv_shelf.specs.Causes.{HardCause}
use Rattle.hv_shelf.specs.Disk.{Store, IsRenamed, TornRename}
use Rattle.hv_trail.specs.declared.trail.Renaming.{Renaming}
use Rattle.hv_trail.specs.Steps.{AreMoved}
use Rattle.hv_house.specs.Publishing.{IsFrontMoved, IsUntouched, CutsBy, RenamesCause, IsFailed}

-- one more
moved-more : (xs : List Renaming) (x : Renaming) (a b c : Store) → AreMoved xs a b → IsRenamed x.from x.to b c → AreMoved (xs ++ x ∷ []) a c
moved-more [] x a b c same renamed = (c, subst (λ (s : Store). IsRenamed x.from x.to s c) same renamed, refl)
moved-more (y ∷ xs) x a b c moved renamed = (moved.0, moved.1, moved-more xs x moved.0 b c moved.2 renamed)

pub moved-journal : (xs : List Renaming) (a b : Store) → AreMoved xs a b → b.journal ≡ a.journal
moved-journal [] a b same = ap (λ (s : Store). s.journal) same
moved-journal (x ∷ xs) a b moved = moved-journal xs moved.0 b moved.2 ∙ moved.1.journal_is

-- ---- over a store that tells

pub record IsRenaming {D : Type 0} (told : D → Option Store) (faults hard : D → ℕ) (front : List Renaming) (begun : Bool) (before now : D) : Type 0 where
  pub moved : Moves (AreMoved front) (told before) (told now)
  pub begun_is : begun ≡ false → front ≡ []
  pub later : faults before ≤ faults now
  pub hard_later : hard before ≤ hard now

module _ {D : Type 0} (told : D → Option Store) (faults hard : D → ℕ) (renamings : List Renaming) (before : D) where
  pub renaming-init : IsRenaming told faults hard [] false before before
  renaming-init = record {
    moved = Moves-same (AreMoved []) (λ s. refl) (told before);
    begun_is = λ e. refl;
    later = omega arith;
    hard_later = omega arith;
  }

  module _ (mid now : D) (i : ℕ) (renaming : Renaming) (begun : Bool) (low : i < length renamings) (at : renaming ≡ get_or renamings i renaming)
      (so_far : IsRenaming told faults hard (take i renamings) begun before mid) where
    front-next : take (i + 1) renamings ≡ take i renamings ++ renaming ∷ []
    front-next = take_more renamings i renaming low ∙ ap (λ (r : Renaming). take i renamings ++ r ∷ []) (sym at)

    next-moved : (a b c : Store) → AreMoved (take i renamings) a b → IsRenamed renaming.from renaming.to b c → AreMoved (take (i + 1) renamings) a c
    next-moved a b c moved renamed =
        subst (λ (front : List Renaming). AreMoved front a c) (sym front-next) (moved-more (take i renamings) renaming a b c moved renamed)

    pub renaming-next : (F : Type 0) → Moves (IsRenamed renaming.from renaming.to) (told mid) (told now)
        → HardCause F (faults mid) (faults now) (hard mid) (hard now) → IsRenaming told faults hard (take (i + 1) renamings) true before now
    renaming-next F renamed cause = record {
      moved =
          Moves-then (AreMoved (take i renamings)) (IsRenamed renaming.from renaming.to) (AreMoved (take (i + 1) renamings)) next-moved
          (told before) (told mid) (told now) so_far.moved renamed;
      begun_is = λ e. absurd (true≢false e);
      later = (let more = cause.later in let had = so_far.later in omega (arith, more, had));
      hard_later = (let more = cause.hard_later in let had = so_far.hard_later in omega (arith, more, had));
    }

    -- where it failed the ones before it have their names, and it may have its own
    failed-front : (a b c : Store) → AreMoved (take i renamings) a b → TornRename renaming.from renaming.to b c → IsFrontMoved renamings a c
    failed-front a b c moved (inl same) = record {
      front = take i renamings;
      rest = drop i renamings;
      parts = sym (take-append-drop i renamings);
      moved = subst (AreMoved (take i renamings) a) (sym same) moved;
    }
    failed-front a b c moved (inr renamed) = record {
      front = take (i + 1) renamings;
      rest = drop (i + 1) renamings;
      parts = sym (take-append-drop (i + 1) renamings);
      moved = next-moved a b c moved renamed;
    }

    -- where memory lacked it doesn't
    lacked-front : (a b : Store) → AreMoved (take i renamings) a b → IsFrontMoved renamings a b
    lacked-front a b moved = record { front = take i renamings; rest = drop i renamings; parts = sym (take-append-drop i renamings); moved = moved }

    untouched : (a b : Store) → begun ≡ false → AreMoved (take i renamings) a b → IsUntouched a b
    untouched a b e moved = subst (λ (front : List Renaming). AreMoved front a b) (so_far.begun_is e) moved

    cut-by : (why : ShelfFault) → (IsErrOf {T = Unit {0}} (Err why) shelf.Failed → Moves (TornRename renaming.from renaming.to) (told mid) (told now))
        → (IsErrOf {T = Unit {0}} (Err why) shelf.NoMemory → told now ≡ told mid)
        → Moves (CutsBy renamings (record { begun = begun; why = why })) (told before) (told now)
    cut-by shelf.Failed torn same =
        Moves-then (AreMoved (take i renamings)) (TornRename renaming.from renaming.to) (CutsBy renamings (record { begun = begun; why = shelf.Failed }))
        (λ a b c moved tears. (failed-front a b c moved tears, λ e. cc)) (told before) (told mid) (told now) so_far.moved (torn refl)
    cut-by shelf.NoMemory torn same =
        subst (λ (o : Option Store). Moves (CutsBy renamings (record { begun = begun; why = shelf.NoMemory })) (told before) o) (sym (same refl))
        (Moves-weaken (AreMoved (take i renamings)) (CutsBy renamings (record { begun = begun; why = shelf.NoMemory }))
        (λ a b moved. (lacked-front a b moved, λ e none. untouched a b none moved)) (told before) (told mid) so_far.moved)

    pub renaming-cut : (r : Result (Unit {0}) ShelfFault) (why : ShelfFault) → r ≡ Err why
        → (IsErrOf r shelf.Failed → Moves (TornRename renaming.from renaming.to) (told mid) (told now)) → (IsErrOf r shelf.NoMemory → told now ≡ told mid)
        → Moves (CutsBy renamings (record { begun = begun; why = why })) (told before) (told now)
    renaming-cut r why is torn same =
        cut-by why (λ e. torn (is ∙ e)) (λ e. same (is ∙ e))

    pub renaming-cause : (r : Result (Unit {0}) ShelfFault) (why : ShelfFault) → r ≡ Err why
        → HardCause (IsErrOf r shelf.Failed) (faults mid) (faults now) (hard mid) (hard now)
        → RenamesCause (IsFailed {T = Unit {0}} (Err (record { begun = begun; why = why }))) (faults before) (faults now) (hard before) (hard now)
    renaming-cause r why is cause = record {
      later = (let more = cause.later in let had = so_far.later in omega (arith, more, had));
      hard_later = (let more = cause.hard_later in let had = so_far.hard_later in omega (arith, more, had));
      failed = λ e. (let rose = cause.failed (is ∙ ap (λ (w : ShelfFault). Err w) e) in let had = so_far.later in omega (arith, rose, had));
      failed_hard = λ e. (let rose = cause.failed_hard (is ∙ ap (λ (w : ShelfFault). Err w) e) in let had = so_far.hard_later in omega (arith, rose, had));
    }

  pub renaming-done : (now : D) (i : ℕ) (begun : Bool) → length renamings ≤ i → i ≤ length renamings
      → IsRenaming told faults hard (take i renamings) begun before now → Moves (AreMoved renamings) (told before) (told now)
  renaming-done now i begun high low so_far =
      let end : i ≡ length renamings = omega (arith, high, low) in
      subst (λ (front : List Renaming). Moves (AreMoved front) (told before) (told now)) (ap (λ n. take n renamings) end ∙ take-length renamings) so_far.moved

  pub renaming-fine : (now : D) (front : List Renaming) (begun : Bool) (x : Unit {0}) → IsRenaming told faults hard front begun before now
      → RenamesCause (IsFailed (Ok x)) (faults before) (faults now) (hard before) (hard now)
  renaming-fine now front begun x so_far = record {
    later = so_far.later;
    hard_later = so_far.hard_later;
    failed = λ e. absurd e;
    failed_hard = λ e. absurd e;
  }
