-- Steps of printing: one text behind another, and one item of a loop more.
use Rattle.std.proofs.Common.{◌≡◌, ℕ, ◌+◌, ◌<◌, ◌==◌, map, List, [], ◌∷◌, ◌++◌, length, take, drop, get_or, sym, ap, ◌∙◌, subst, arith, append_assoc}
use Rattle.std.specs.List.{flat_map}
use Rattle.std.proofs.lemmas.List.{take_more, drop_more, take-append-drop, append-nil, map-append, length-map, length-take-le}
use Rattle.std.proofs.lemmas.List.Concat.{flat_map-cons}
use Rattle.std.proofs.lemmas.Grind.{flat_map-append}
use lib.Dec.{eqb-suc-zero}
use Rattle.std.specs.Prelude.{Result, Ok, Err, IsErr}
use Rattle.hv_value.specs.declared.value.Value.{Value}
use Rattle.hv_value.specs.Bytes.{comma}
use Rattle.hv_value.specs.Printing.{AppendsPrefix, Prints, items_text, item_text, separator, placed_item}

-- a prefix of the first text is one of both
pub cut_first : (a b old new : List ℕ) → AppendsPrefix a old new → AppendsPrefix (a ++ b) old new
cut_first a b old new h =
    record { added = h.added; rest = h.rest ++ b; begins = ap (λ xs. xs ++ b) h.begins ∙ append_assoc h.added h.rest b; appended = h.appended }

-- a prefix of the second behind all of the first
pub cut_second : (a b old mid new : List ℕ) → mid ≡ old ++ a → AppendsPrefix b mid new → AppendsPrefix (a ++ b) old new
cut_second a b old mid new e h =
    record {
      added = a ++ h.added;
      rest = h.rest;
      begins = ap (λ xs. a ++ xs) h.begins ∙ sym (append_assoc a h.added h.rest);
      appended = h.appended ∙ ap (λ xs. xs ++ h.added) e ∙ append_assoc old a h.added;
    }

pub cut_same : (a b old new : List ℕ) → a ≡ b → AppendsPrefix a old new → AppendsPrefix b old new
cut_same a b old new e h = subst (λ text. AppendsPrefix text old new) e h

module _ {E : Type 0} where
  pub prints_same : (a b old new : List ℕ) (r : Result (Unit {0}) E) → a ≡ b → Prints a old r new → Prints b old r new
  prints_same a b old new r e h = subst (λ text. Prints text old r new) e h

  -- memory ran out
  pub prints_part : (text old new : List ℕ) (r : Result (Unit {0}) E) → IsErr r → AppendsPrefix text old new → Prints text old r new
  prints_part text old new (Ok u) e h = cc
  prints_part text old new (Err d) e h = h

  -- one text behind another
  pub prints_then : (a b old mid new : List ℕ) (r : Result (Unit {0}) E) → mid ≡ old ++ a → Prints b mid r new → Prints (a ++ b) old r new
  prints_then a b old mid new (Ok u) e h = h ∙ ap (λ xs. xs ++ b) e ∙ append_assoc old a b
  prints_then a b old mid new (Err d) e h = cut_second a b old mid new e h

module _ {X : Type 0} (f : X → List ℕ) where
  -- what a loop will have printed, cut at one item
  parted : (xs : List X) (i : ℕ) (x d : X) → i < length xs → x ≡ get_or xs i d
      → flat_map f xs ≡ flat_map f (take i xs) ++ (f x ++ flat_map f (drop (i + 1) xs))
  parted xs i x d p at =
      ap (flat_map f) (sym (take-append-drop i xs) ∙ ap (λ ys. take i xs ++ ys) (drop_more xs i d p ∙ ap (λ y. y ∷ drop (i + 1) xs) (sym at)))
      ∙ flat_map-append f (take i xs) (x ∷ drop (i + 1) xs)
      ∙ ap (λ bs. flat_map f (take i xs) ++ bs) (flat_map-cons f x (drop (i + 1) xs))

  -- memory ran out within an item
  pub loop_cut : (xs : List X) (i : ℕ) (x d : X) (old mid new : List ℕ) → i < length xs → x ≡ get_or xs i d
      → mid ≡ old ++ flat_map f (take i xs) → AppendsPrefix (f x) mid new → AppendsPrefix (flat_map f xs) old new
  loop_cut xs i x d old mid new p at e h =
      subst (λ text. AppendsPrefix text old new) (sym (parted xs i x d p at))
      (cut_second (flat_map f (take i xs)) (f x ++ flat_map f (drop (i + 1) xs)) old mid new e
      (cut_first (f x) (flat_map f (drop (i + 1) xs)) mid new h))

-- ---- the items of an array

-- an array's items as the first and the others, each behind its separator
further : List (List ℕ) → List ℕ
further texts = flat_map (λ text. comma ∷ text) texts

items_text-cons : (x : List ℕ) (xs : List (List ℕ)) → items_text (x ∷ xs) ≡ x ++ further xs
unfolding further
items_text-cons x [] = sym (append-nil x)
items_text-cons x (y ∷ ys) =
    ap (λ bs. x ++ (comma ∷ bs)) (items_text-cons y ys) ∙ ap (λ bs. x ++ bs) (sym (flat_map-cons (λ z. comma ∷ z) y ys))

-- the items up to one, that one, and the others
items_text-parted : (xs : List (List ℕ)) (y : List ℕ) (ys : List (List ℕ))
    → items_text (xs ++ y ∷ ys) ≡ items_text xs ++ ((separator (length xs == 0) ++ y) ++ further ys)
unfolding further
items_text-parted [] y ys = items_text-cons y ys
items_text-parted (x ∷ xs) y ys =
    items_text-cons x (xs ++ y ∷ ys)
    ∙ ap (λ bs. x ++ bs) (flat_map-append (λ z. comma ∷ z) xs (y ∷ ys))
    ∙ sym (append_assoc x (further xs) (further (y ∷ ys)))
    ∙ ap (λ bs. bs ++ further (y ∷ ys)) (sym (items_text-cons x xs))
    ∙ ap (λ bs. items_text (x ∷ xs) ++ bs) (flat_map-cons (λ z. comma ∷ z) y ys)
    ∙ ap (λ b. items_text (x ∷ xs) ++ ((separator b ++ y) ++ further ys)) (sym (eqb-suc-zero (length xs)))

texts-parted : (xs : List Value) (i : ℕ) (x : Value) → i < length xs → x ≡ get_or xs i x
    → map item_text xs ≡ map item_text (take i xs) ++ item_text x ∷ map item_text (drop (i + 1) xs)
texts-parted xs i x p at =
    ap (map item_text) (sym (take-append-drop i xs) ∙ ap (λ ys. take i xs ++ ys) (drop_more xs i x p ∙ ap (λ y. y ∷ drop (i + 1) xs) (sym at)))
    ∙ map-append item_text (take i xs) (x ∷ drop (i + 1) xs)

no_items : (xs : List Value) (i : ℕ) → i < length xs → (length (map item_text (take i xs)) == 0) ≡ (i == 0)
no_items xs i p = ap (λ n. n == 0) (length-map (take i xs) item_text ∙ length-take-le i xs (omega arith))

-- one item more
pub items_step : (xs : List Value) (i : ℕ) (x : Value) (old mid new : List ℕ) → i < length xs → x ≡ get_or xs i x
    → mid ≡ old ++ items_text (map item_text (take i xs)) → new ≡ mid ++ placed_item (i == 0) x
    → new ≡ old ++ items_text (map item_text (take (i + 1) xs))
unfolding further
items_step xs i x old mid new p at e n =
    let before = map item_text (take i xs) in
    let placed = items_text-parted before (item_text x) [] ∙ ap (λ bs. items_text before ++ bs) (append-nil _)
    ∙ ap (λ b. items_text before ++ (separator b ++ item_text x)) (no_items xs i p) in
    let more : map item_text (take (i + 1) xs) ≡ before ++ item_text x ∷ [] =
    ap (map item_text) (take_more xs i x p ∙ ap (λ y. take i xs ++ y ∷ []) (sym at)) ∙ map-append item_text (take i xs) (x ∷ []) in
    n ∙ ap (λ bs. bs ++ placed_item (i == 0) x) e ∙ append_assoc old (items_text before) (placed_item (i == 0) x)
    ∙ ap (λ bs. old ++ bs) (sym placed ∙ ap items_text (sym more))

-- memory ran out within an item
pub items_cut : (xs : List Value) (i : ℕ) (x : Value) (old mid new : List ℕ) → i < length xs → x ≡ get_or xs i x
    → mid ≡ old ++ items_text (map item_text (take i xs)) → AppendsPrefix (placed_item (i == 0) x) mid new
    → AppendsPrefix (items_text (map item_text xs)) old new
unfolding further
items_cut xs i x old mid new p at e h =
    let before = map item_text (take i xs) in
    let others = map item_text (drop (i + 1) xs) in
    let parted = ap items_text (texts-parted xs i x p at) ∙ items_text-parted before (item_text x) others
    ∙ ap (λ b. items_text before ++ ((separator b ++ item_text x) ++ further others)) (no_items xs i p) in
    cut_same _ _ old new (sym parted)
    (cut_second (items_text before) (placed_item (i == 0) x ++ further others) old mid new e
    (cut_first (placed_item (i == 0) x) (further others) mid new h))
