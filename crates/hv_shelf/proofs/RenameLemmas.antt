use Rattle.std.proofs.Common.{◌≡◌, ℕ, Bool, true, false, cond, ◌&&◌, nat_eq, List, [], ◌∷◌, map, Option, Some, None, T, refl, sym, ◌∙◌, ap}
use Rattle.std.specs.declared.cmp.Ordering.{Ordering}
use Rattle.std.specs.declared.cmp.Ordering.TheVariants.{Less, Equal, Greater}
use Rattle.std.specs.Bool.{Decides}
use Rattle.std.specs.Ordering.{eq_by_cmp, is_eq}
use Rattle.std.specs.BTreeMap.{is_at}
use Rattle.std.specs.Map.{lookup, keys_of, update_all}
use Rattle.std.specs.Cmp.{eq_by_cmp_equiv, unsigned_Decides, first_so, second_so}
use Rattle.std.specs.Cmp.Lexicographic.{pointwise}
use Rattle.std.specs.List.Sorted.{IsStrictlySortedBy}
use Rattle.std.proofs.lemmas.Slice.Eq.{bytes_eq-Decides}
use Rattle.std.proofs.lemmas.Map.Keys.{IsDistinct-from_sorted}
use Rattle.std.proofs.lemmas.Map.Made.{update_all_none}
use Rattle.std.specs.FinMap as tree
use Rattle.hv_shelf.specs.declared.place.Place.{Place}
use Rattle.hv_shelf.specs.declared.place.DirAt.{DirAt}
use Rattle.hv_shelf.specs.Disk.{IsFree, renamed_get}
use Rattle.hv_shelf.specs.Places.{place_cmp, place_total, place_antisymmetric, is_in, place_named, dir_named, renamed_place}
use Rattle.hv_shelf.proofs.TreeLemmas.{Files, get-files}

-- ## One place is another

abbrev pub here : Place → Place → Bool
here = eq_by_cmp place_cmp

true_or_false : (b : Bool) → (¬ (b ≡ true)) → b ≡ false
true_or_false true h = absurd (h refl)
true_or_false false h = refl

same_bool : (a b : Bool) → (a ≡ true → b ≡ true) → (b ≡ true → a ≡ true) → a ≡ b
same_bool true b p q = sym (p refl)
same_bool false true p q = q refl
same_bool false false p q = refl

tied : (r : Ordering) → is_eq r ≡ true → r ≡ Equal
tied Less e = absurd (cc)
tied Equal e = refl
tied Greater e = absurd (cc)

here-true : (x y : Place) → here x y ≡ true → x ≡ y
here-true x y e = place_antisymmetric x y (tied (place_cmp x y) e)

so : (b : Bool) → T b → b ≡ true
so true h = refl
so false h = absurd h

here-self : (x : Place) → here x x ≡ true
here-self x = (eq_by_cmp_equiv place_total).refl x

here-same : (x y : Place) → x ≡ y → here x y ≡ true
here-same x y e = ap (here x) (sym e) ∙ here-self x

here-apart : (x y : Place) → ¬ (x ≡ y) → here x y ≡ false
here-apart x y apart = true_or_false (here x y) (λ e. apart (here-true x y e))

-- ## A place is in a directory

texts : (xs ys : List ℕ) → Decides (pointwise nat_eq xs ys) (xs ≡ ys)
texts = bytes_eq-Decides

pub record Within (dir : DirAt) (place : Place) : Type 0 where
  pub table : place.table.0 ≡ dir.table.0
  pub partition : place.partition ≡ dir.partition
  pub dir_is : place.dir ≡ dir.dir

within : (dir : DirAt) (place : Place) → is_in dir place ≡ true → Within dir place
within dir place e =
    let rest = second_so _ _ e
    in record {
      table = (unsigned_Decides place.table.0 dir.table.0).0 (first_so _ _ e);
      partition = (texts place.partition dir.partition).0 (first_so _ _ rest);
      dir_is = (texts place.dir dir.dir).0 (second_so _ _ rest);
    }

all_true : (a b c : Bool) → a ≡ true → b ≡ true → c ≡ true → (a && (b && c)) ≡ true
all_true a b c p q r = λ i. p i && (q i && r i)

is_within : (dir : DirAt) (place : Place) → Within dir place → is_in dir place ≡ true
is_within dir place w =
    all_true _ _ _ ((unsigned_Decides place.table.0 dir.table.0).1 w.table) ((texts place.partition dir.partition).1 w.partition)
    ((texts place.dir dir.dir).1 w.dir_is)

apart : (dir : DirAt) (x y : Place) → is_in dir x ≡ true → is_in dir y ≡ false → ¬ (x ≡ y)
apart dir x y p q e = let clash : true ≡ false = sym p ∙ ap (is_in dir) e ∙ q in cc

apart' : (dir : DirAt) (x y : Place) → is_in dir x ≡ false → is_in dir y ≡ true → ¬ (x ≡ y)
apart' dir x y p q e = apart dir y x q p (sym e)

none_behind : (b : Bool) (x : List ℕ) (o : Option (List ℕ)) → cond b (Some x) o ≡ None → o ≡ None
none_behind true x o e = absurd (cc)
none_behind false x o e = e

-- ## Where a file stands after a rename

abbrev pub renamed_file : DirAt → List ℕ → Place × List ℕ → Place × List ℕ
renamed_file from to file = (renamed_place from to file.0, file.1)

module _ (from : DirAt) (to : List ℕ) where
  into : (place : Place) → is_in from place ≡ true → is_in (dir_named from to) (place_named place to) ≡ true
  into place e = let w = within from place e in is_within (dir_named from to) (place_named place to) (record { table = w.table; partition = w.partition; dir_is = refl })

  back : (place : Place) → is_in (dir_named from to) place ≡ true → is_in from (place_named place from.dir) ≡ true
  back place e = let w = within (dir_named from to) place e in is_within from (place_named place from.dir) (record { table = w.table; partition = w.partition; dir_is = refl })

  -- at a place in neither directory
  others_here : (p q : Place) → is_in from q ≡ false → is_in (dir_named from to) q ≡ false → (b : Bool) → is_in from p ≡ b →
      here (cond b (place_named p to) p) q ≡ here p q
  others_here p q a b true e =
      here-apart (place_named p to) q (apart (dir_named from to) (place_named p to) q (into p e) b) ∙ sym (here-apart p q (apart from p q e a))
  others_here p q a b false e = refl

  -- at a place in the target, from a file that isn't in it
  moved_here : (p q : Place) → is_in (dir_named from to) q ≡ true → is_in (dir_named from to) p ≡ false → (b : Bool) → is_in from p ≡ b →
      here (cond b (place_named p to) p) q ≡ here p (place_named q from.dir)
  moved_here p q inside free true e =
      let source : p ≡ place_named p from.dir = λ i. record p { dir = (within from p e).dir_is i }
      in let goal_dir : q ≡ place_named q to = λ i. record q { dir = (within (dir_named from to) q inside).dir_is i }
      in same_bool _ _
      (λ h. here-same p (place_named q from.dir) (source ∙ ap (λ x. place_named x from.dir) (here-true (place_named p to) q h)))
      (λ h. here-same (place_named p to) q (ap (λ x. place_named x to) (here-true p (place_named q from.dir) h) ∙ sym goal_dir))
  moved_here p q inside free false e =
      here-apart p q (apart' (dir_named from to) p q free inside) ∙ sym (here-apart p (place_named q from.dir) (apart' from p (place_named q from.dir) e (back q inside)))

  -- at a place in the source alone
  gone_here : (p q : Place) → is_in from q ≡ true → is_in (dir_named from to) q ≡ false → (b : Bool) → is_in from p ≡ b →
      here (cond b (place_named p to) p) q ≡ false
  gone_here p q a b true e = here-apart (place_named p to) q (apart (dir_named from to) (place_named p to) q (into p e) b)
  gone_here p q a b false e = here-apart p q (apart' from p q e a)

  -- ## What the files put in turn show

  others_all : (q : Place) → is_in from q ≡ false → is_in (dir_named from to) q ≡ false → (es : Files) (f g : Place → Option (List ℕ)) → f q ≡ g q →
      update_all here f (map (renamed_file from to) es) q ≡ update_all here g es q
  others_all q a b [] f g same = same
  others_all q a b (e ∷ es) f g same =
      others_all q a b es _ _ (λ i. cond (others_here e.0 q a b (is_in from e.0) refl i) (Some e.1) (same i))

  -- no file of these stands in the target
  abbrev Free : Files → Type 0
  Free es = (place : Place) → is_in (dir_named from to) place ≡ true → lookup (is_at (place_cmp place)) es ≡ None

  free_rest : (e : Place × List ℕ) (es : Files) → Free (e ∷ es) → Free es
  free_rest e es free place inside = none_behind (here place e.0) e.1 _ (free place inside)

  free_first : (e : Place × List ℕ) (es : Files) → Free (e ∷ es) → is_in (dir_named from to) e.0 ≡ false
  free_first e es free =
      true_or_false _ (λ inside. let found : Some e.1 ≡ None = ap (λ b. cond b (Some e.1) (lookup (is_at (place_cmp e.0)) es)) (sym (here-self e.0)) ∙ free e.0 inside in cc)

  moved_all : (q : Place) → is_in (dir_named from to) q ≡ true → (es : Files) (f g : Place → Option (List ℕ)) → Free es → f q ≡ g (place_named q from.dir) →
      update_all here f (map (renamed_file from to) es) q ≡ update_all here g es (place_named q from.dir)
  moved_all q inside [] f g free same = same
  moved_all q inside (e ∷ es) f g free same =
      moved_all q inside es _ _ (free_rest e es free)
      (λ i. cond (moved_here e.0 q inside (free_first e es free) (is_in from e.0) refl i) (Some e.1) (same i))

  gone_all : (q : Place) → is_in from q ≡ true → is_in (dir_named from to) q ≡ false → (es : Files) (f : Place → Option (List ℕ)) →
      update_all here f (map (renamed_file from to) es) q ≡ f q
  gone_all q a b [] f = refl
  gone_all q a b (e ∷ es) f =
      gone_all q a b es _ ∙ ap (λ t. cond t (Some e.1) (f q)) (gone_here e.0 q a b (is_in from e.0) refl)

  nothing : Place → Option (List ℕ)
  nothing place = None

  -- the files put in turn are the tree's
  put_all : (es : Files) (q : Place) → IsStrictlySortedBy place_cmp (keys_of es) → update_all here (λ _. None) es q ≡ lookup (is_at (place_cmp q)) es
  put_all es q rising =
      update_all_none (eq_by_cmp_equiv place_total) here (λ x y. refl) es q (IsDistinct-from_sorted place_cmp (keys_of es) rising)

  -- one more file is put
  pub put-step : (items rest : Files) (place key : Place) (bytes value : List ℕ) (f g : Place → Option (List ℕ)) (whole : Place → Option (List ℕ)) →
      items ≡ (place, bytes) ∷ rest → key ≡ renamed_place from to place → value ≡ bytes →
      ((q : Place) → g q ≡ cond (here key q) (Some value) (f q)) →
      ((q : Place) → update_all here f (map (renamed_file from to) items) q ≡ whole q) →
      (q : Place) → update_all here g (map (renamed_file from to) rest) q ≡ whole q
  put-step items rest place key bytes value f g whole are is same puts before q =
      let put : g ≡ (λ p. cond (here (renamed_place from to place) p) (Some bytes) (f p)) =
      λ i p. (puts p ∙ ap (λ k. cond (here k p) (Some value) (f p)) is ∙ ap (λ v. cond (here (renamed_place from to place) p) (Some v) (f p)) same) i
      in ap (λ h. update_all here h (map (renamed_file from to) rest) q) put
      ∙ sym (ap (λ es. update_all here f (map (renamed_file from to) es) q) are) ∙ before q

  -- all files are put
  module _ (es es' : Files) (rising : IsStrictlySortedBy place_cmp (keys_of es))
      (shown : (q : Place) → lookup (is_at (place_cmp q)) es' ≡ update_all here (λ _. None) (map (renamed_file from to) es) q) where
    others_case : (q : Place) → is_in from q ≡ false → is_in (dir_named from to) q ≡ false → lookup (is_at (place_cmp q)) es' ≡ lookup (is_at (place_cmp q)) es
    others_case q a b = shown q ∙ others_all q a b es _ _ refl ∙ put_all es q rising

    pub renamed-others : (q : Place) → is_in from q ≡ false → is_in (dir_named from to) q ≡ false →
        tree.get (tree.from_entries {R = place_cmp} es') q ≡ tree.get (tree.from_entries {R = place_cmp} es) q
    renamed-others q a b = get-files es' q ∙ others_case q a b ∙ sym (get-files es q)

    cases : (q : Place) → Free es → (inside source : Bool) → is_in (dir_named from to) q ≡ inside → is_in from q ≡ source →
        lookup (is_at (place_cmp q)) es' ≡ cond inside (lookup (is_at (place_cmp (place_named q from.dir))) es) (cond source None (lookup (is_at (place_cmp q)) es))
    cases q free true source a b = shown q ∙ moved_all q a es _ (λ _. None) free refl ∙ put_all es (place_named q from.dir) rising
    cases q free false true a b = shown q ∙ gone_all q b a es (λ _. None)
    cases q free false false a b = others_case q b a

    pub renamed-moved : IsFree (dir_named from to) (tree.from_entries {R = place_cmp} es) → (q : Place) →
        tree.get (tree.from_entries {R = place_cmp} es') q ≡ renamed_get from to (tree.from_entries es) q
    renamed-moved free q =
        get-files es' q ∙ cases q (λ place inside. sym (get-files es place) ∙ free place inside) _ _ refl refl
        ∙ (λ i. cond (is_in (dir_named from to) q) (sym (get-files es (place_named q from.dir)) i) (cond (is_in from q) None (sym (get-files es q) i)))

  pub shown-end : (items first es : Files) (f : Place → Option (List ℕ)) → items ≡ [] → first ≡ es →
      ((q : Place) → update_all here f (map (renamed_file from to) items) q ≡ update_all here (λ _. None) (map (renamed_file from to) first) q) →
      (q : Place) → f q ≡ update_all here (λ _. None) (map (renamed_file from to) es) q
  shown-end items first es f ended began shown q =
      sym (ap (λ l. update_all here f (map (renamed_file from to) l) q) ended) ∙ shown q ∙ ap (λ l. update_all here (λ _. None) (map (renamed_file from to) l) q) began
