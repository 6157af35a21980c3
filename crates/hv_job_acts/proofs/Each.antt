-- One more of what each number gives, and the end of them.
use Rattle.std.proofs.Common.{◌≡◌, ℕ, zero, suc, ◌+◌, ◌≤◌, Bool, true, false, Option, None, List, [], ◌∷◌, ◌++◌, length, drop, refl, sym, ap, ◌∙◌, append_assoc, arith}
use Rattle.std.specs.List.{slice_get}
use Rattle.std.proofs.Math.Seq.{drop-nil}
use Rattle.std.proofs.lemmas.List.{append-nil, drop_all}
use Rattle.hv_history.specs.State.{State, Job, numbered, state_of}
use Rattle.hv_history.specs.declared.entry.Entry.{Entry}
use Rattle.hv_history.specs.declared.state.Table.{Table}
use Rattle.hv_history.specs.Jobs.{is_live_one, ids_of}
use Rattle.std.specs.Prelude.{if◌then◌else◌, map}
use Rattle.hv_base.specs.declared.ids.JobId.{JobId}
use Rattle.hv_job_acts.specs.declared.asking.PartAt.{PartAt}
use Rattle.hv_job_acts.specs.Work.{each_of, one_of, part_at, parts_at, texts_of, is_live_at_number, is_ready_in, ready_at, lost_at, lost_of}

module _ {X Y : Type 0} (f : ℕ → List X) where
  each-at : (ys : List Y) (i n : ℕ) → (slice_get ys i ≡ None → f n ≡ [])
      → each_of f n (length (drop i ys)) ≡ f n ++ each_of f (n + 1) (length (drop (i + 1) ys))
  each-at [] i n none =
      ap (λ (zs : List Y). each_of f n (length zs)) (drop-nil i)
      ∙ ap (λ (zs : List Y). each_of f (n + 1) (length zs)) (sym (drop-nil (i + 1)))
      ∙ ap (λ (xs : List X). xs ++ each_of f (n + 1) (length (drop {A = Y} (i + 1) []))) (sym (none refl))
  each-at (y ∷ ys) zero n none = refl
  each-at (y ∷ ys) (suc i) n none =
      each-at ys i n none
      ∙ ap (λ k. f n ++ each_of f (n + 1) (length (drop k (y ∷ ys)))) (let at : suc (i + 1) ≡ suc i + 1 = omega arith in at)

  -- at first there is nothing
  pub each-init : (ys : List Y) (xs : List X) → xs ≡ [] → xs ++ each_of f (0 + 1) (length (drop 0 ys)) ≡ each_of f 1 (length ys)
  each-init ys xs none = ap (λ (zs : List X). zs ++ each_of f 1 (length ys)) none

  -- what one more gives
  pub each-next : (ys : List Y) (i : ℕ) (xs next all : List X) → (slice_get ys i ≡ None → f (i + 1) ≡ []) → next ≡ xs ++ f (i + 1)
      → xs ++ each_of f (i + 1) (length (drop i ys)) ≡ all → next ++ each_of f (i + 1 + 1) (length (drop (i + 1) ys)) ≡ all
  each-next ys i xs next all none put before =
      ap (λ (zs : List X). zs ++ each_of f (i + 1 + 1) (length (drop (i + 1) ys))) put
      ∙ append_assoc xs (f (i + 1)) (each_of f (i + 1 + 1) (length (drop (i + 1) ys)))
      ∙ ap (λ (zs : List X). xs ++ zs) (sym (each-at ys i (i + 1) none))
      ∙ before

  -- those of all
  pub each-end : (ys : List Y) (i : ℕ) (xs all : List X) → length ys ≤ i → xs ++ each_of f (i + 1) (length (drop i ys)) ≡ all → xs ≡ all
  each-end ys i xs all past kept =
      sym (append-nil xs) ∙ ap (λ (zs : List Y). xs ++ each_of f (i + 1) (length zs)) (sym (drop_all i ys past)) ∙ kept

none-at : {Y : Type 0} (ys : List Y) (i : ℕ) → slice_get ys i ≡ None → numbered ys (i + 1) ≡ None
none-at ys i e = let next : suc i ≡ i + 1 = omega arith in ap (λ n. numbered ys n) (sym next) ∙ e

-- ---- behind the last one there is nothing

pub no-parts : (book : List Entry) (i : ℕ) → slice_get (state_of book).tables i ≡ None → parts_at book (i + 1) ≡ []
no-parts book i e =
    ap (λ (o : Option Table). if is_live_one o then map (part_at (i + 1)) (texts_of book (i + 1)) else []) (none-at (state_of book).tables i e)

pub no-ready : (state : State) (i : ℕ) → slice_get state.jobs i ≡ None → ready_at state (i + 1) ≡ []
no-ready state i e = ap (λ (o : Option Job). one_of {X = JobId} (is_ready_in state o) (record { 0 = i + 1 })) (none-at state.jobs i e)

pub no-lost : (state : State) (i : ℕ) → slice_get state.tables i ≡ None → lost_of state (i + 1) ≡ []
no-lost state i e = ap (λ (o : Option Table). each_of (lost_at state (i + 1)) 1 (length (ids_of o))) (none-at state.tables i e)

-- ---- what is given where a test holds, and where it doesn't

module _ {X : Type 0} (given test : Bool) (x : X) (old : List X) (is : given ≡ test) where
  pub one-more : (new : List X) → given ≡ true → new ≡ old ++ x ∷ [] → new ≡ old ++ one_of test x
  one-more new so put = put ∙ ap (λ b. old ++ one_of b x) (sym so ∙ is)

  pub none-more : given ≡ false → old ≡ old ++ one_of test x
  none-more so = sym (append-nil old) ∙ ap (λ b. old ++ one_of b x) (sym so ∙ is)

-- ---- where a table is live, or isn't

module _ (book : List Entry) (table : ℕ) (live : Bool) (old : List PartAt) where
  abbrev with_parts : Bool → List PartAt
  with_parts b = old ++ (if b then map (part_at table) (texts_of book table) else [])

  pub parts-live : (new : List PartAt) → live ≡ is_live_at_number (state_of book) table → live ≡ true → new ≡ old ++ map (part_at table) (texts_of book table)
      → new ≡ old ++ parts_at book table
  parts-live new is so put = put ∙ ap with_parts (sym so ∙ is)

  pub parts-dead : live ≡ is_live_at_number (state_of book) table → live ≡ false → old ≡ old ++ parts_at book table
  parts-dead is so = sym (append-nil old) ∙ ap with_parts (sym so ∙ is)
