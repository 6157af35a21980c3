-- Lists whose items all have something, and filters of them.
use Rattle.std.proofs.Common.{◌≡◌, Bool, true, false, cond, ◌&&◌, ◌||◌, List, [], ◌∷◌, ◌++◌, map, filter, refl, sym, ap, ◌∙◌, true≢false}
use Rattle.std.specs.List.{list_all, list_any, flat_map}
use Rattle.std.proofs.lemmas.List.{map-append}
use Rattle.std.proofs.lemmas.List.Elements.{filter-append}

abbrev pub Each : {X : Type 0} → (X → Type 0) → List X → Type 0
Each P [] = Unit {0}
Each P (x ∷ xs) = P x × Each P xs

pub each-every : {X : Type 0} (P : X → Type 0) → ((x : X) → P x) → (xs : List X) → Each P xs
each-every P h [] = tt
each-every P h (x ∷ xs) = (h x, each-every P h xs)

pub each-more : {X : Type 0} (P Q : X → Type 0) → ((x : X) → P x → Q x) → (xs : List X) → Each P xs → Each Q xs
each-more P Q h [] e = tt
each-more P Q h (x ∷ xs) e = (h x e.0, each-more P Q h xs e.1)

pub each-both : {X : Type 0} (P Q R : X → Type 0) → ((x : X) → P x → Q x → R x) → (xs : List X) → Each P xs → Each Q xs → Each R xs
each-both P Q R h [] e f = tt
each-both P Q R h (x ∷ xs) e f = (h x e.0 f.0, each-both P Q R h xs e.1 f.1)

pub each-append : {X : Type 0} (P : X → Type 0) (xs ys : List X) → Each P xs → Each P ys → Each P (xs ++ ys)
each-append P [] ys e f = f
each-append P (x ∷ xs) ys e f = (e.0, each-append P xs ys e.1 f)

pub each-front : {X : Type 0} (P : X → Type 0) (xs ys : List X) → Each P (xs ++ ys) → Each P xs
each-front P [] ys e = tt
each-front P (x ∷ xs) ys e = (e.0, each-front P xs ys e.1)

pub each-behind : {X : Type 0} (P : X → Type 0) (xs ys : List X) → Each P (xs ++ ys) → Each P ys
each-behind P [] ys e = e
each-behind P (x ∷ xs) ys e = each-behind P xs ys e.1

pub each-map : {X Y : Type 0} (P : Y → Type 0) (f : X → Y) (xs : List X) → Each (λ x. P (f x)) xs → Each P (map f xs)
each-map P f [] e = tt
each-map P f (x ∷ xs) e = (e.0, each-map P f xs e.1)

pub each-flat : {X Y : Type 0} (P : Y → Type 0) (f : X → List Y) (xs : List X) → Each (λ x. Each P (f x)) xs → Each P (flat_map f xs)
each-flat P f [] e = tt
each-flat P f (x ∷ xs) e = each-append P (f x) (flat_map f xs) e.0 (each-flat P f xs e.1)

pub each-of-flat : {X Y : Type 0} (P : Y → Type 0) (f : X → List Y) (xs : List X) → Each P (flat_map f xs) → Each (λ x. Each P (f x)) xs
each-of-flat P f [] e = tt
each-of-flat P f (x ∷ xs) e = (each-front P (f x) (flat_map f xs) e, each-of-flat P f xs (each-behind P (f x) (flat_map f xs) e))

one-filtered : {X : Type 0} (P : X → Type 0) (b : Bool) (x : X) (xs : List X) → P x → Each P xs → Each P (cond b (x ∷ xs) xs)
one-filtered P true x xs h e = (h, e)
one-filtered P false x xs h e = e

pub each-filter : {X : Type 0} (P : X → Type 0) (test : X → Bool) (xs : List X) → Each P xs → Each P (filter test xs)
each-filter P test [] e = tt
each-filter P test (x ∷ xs) e = one-filtered P (test x) x (filter test xs) e.0 (each-filter P test xs e.1)

one-passing : {X : Type 0} (P : X → Type 0) (b : Bool) (x : X) (xs : List X) → (b ≡ true → P x) → Each P xs → Each P (cond b (x ∷ xs) xs)
one-passing P true x xs h e = (h refl, e)
one-passing P false x xs h e = e

-- what a filter keeps has what its test says
pub each-passing : {X : Type 0} (P : X → Type 0) (test : X → Bool) → ((x : X) → test x ≡ true → P x) → (xs : List X) → Each P (filter test xs)
each-passing P test h [] = tt
each-passing P test h (x ∷ xs) = one-passing P (test x) x (filter test xs) (h x) (each-passing P test h xs)

-- ---- tests of all and of some

pub front-true : (a b : Bool) → (a && b) ≡ true → a ≡ true
front-true true b h = refl
front-true false b h = h

pub back-true : (a b : Bool) → (a && b) ≡ true → b ≡ true
back-true true b h = h
back-true false b h = absurd (true≢false (sym h))

pub both-true : (a b : Bool) → a ≡ true → b ≡ true → (a && b) ≡ true
both-true true b h i = i
both-true false b h i = absurd (true≢false (sym h))

pub and-true : (a : Bool) → (a && true) ≡ a
and-true true = refl
and-true false = refl

pub and-turned : (a b : Bool) → (a && b) ≡ (b && a)
and-turned true true = refl
and-turned true false = refl
and-turned false true = refl
and-turned false false = refl

pub all-each : {X : Type 0} (test : X → Bool) (xs : List X) → list_all test xs ≡ true → Each (λ x. test x ≡ true) xs
all-each test [] h = tt
all-each test (x ∷ xs) h = (front-true (test x) (list_all test xs) h, all-each test xs (back-true (test x) (list_all test xs) h))

pub each-all : {X : Type 0} (test : X → Bool) (xs : List X) → Each (λ x. test x ≡ true) xs → list_all test xs ≡ true
each-all test [] e = refl
each-all test (x ∷ xs) e = both-true (test x) (list_all test xs) e.0 (each-all test xs e.1)

pub any-same : {X : Type 0} (p q : X → Bool) (xs : List X) → Each (λ x. p x ≡ q x) xs → list_any p xs ≡ list_any q xs
any-same p q [] e = refl
any-same p q (x ∷ xs) e = λ i. e.0 i || any-same p q xs e.1 i

pub front-any : (a b : Bool) → a ≡ true → (a || b) ≡ true
front-any true b h = refl
front-any false b h = absurd (true≢false (sym h))

back-any : (a b : Bool) → b ≡ true → (a || b) ≡ true
back-any true b h = refl
back-any false b h = h

-- where one of them passes, some one does
module _ {X Y : Type 0} (test : Y → X → Bool) where
  abbrev Found : List X → X → Type 0
  Found xs x = (y : Y) → test y x ≡ true → list_any (test y) xs ≡ true

  found-more : (x : X) (xs : List X) (one : X) → Found xs one → Found (x ∷ xs) one
  found-more x xs one found y h = back-any (test y x) (list_any (test y) xs) (found y h)

  pub each-any : (xs : List X) → Each (λ x. (y : Y) → test y x ≡ true → list_any (test y) xs ≡ true) xs
  each-any [] = tt
  each-any (x ∷ xs) =
      (λ y h. front-any (test y x) (list_any (test y) xs) h, each-more (Found xs) (Found (x ∷ xs)) (found-more x xs) xs (each-any xs))

-- ---- filters

not-true : (b : Bool) → (b ≡ true → false ≡ true) → b ≡ false
not-true true = λ h. sym (h refl)
not-true false = λ h. refl

skipped : {X : Type 0} (b : Bool) (x : X) (xs : List X) → b ≡ false → cond b (x ∷ xs) xs ≡ xs
skipped b x xs h = ap (λ b. cond b (x ∷ xs) xs) h

taken : {X : Type 0} (b : Bool) (x : X) (xs : List X) → b ≡ true → cond b (x ∷ xs) xs ≡ x ∷ xs
taken true x xs h = refl
taken false x xs h = absurd (true≢false (sym h))

pub filter-twice : {X : Type 0} (p q : X → Bool) (xs : List X) → filter q (filter p xs) ≡ filter (λ x. p x && q x) xs
filter-twice p q [] = refl
filter-twice p q (x ∷ xs) = by (p x) (filter-twice p q xs)
  where
    by : (b : Bool) → filter q (filter p xs) ≡ filter (λ y. p y && q y) xs
        → filter q (cond b (x ∷ filter p xs) (filter p xs)) ≡ cond (b && q x) (x ∷ filter (λ y. p y && q y) xs) (filter (λ y. p y && q y) xs)
    by true h = ap (λ l. cond (q x) (x ∷ l) l) h
    by false h = h

pub filter-same : {X : Type 0} (p q : X → Bool) (xs : List X) → Each (λ x. p x ≡ q x) xs → filter p xs ≡ filter q xs
filter-same p q [] e = refl
filter-same p q (x ∷ xs) e = λ i. cond (e.0 i) (x ∷ filter-same p q xs e.1 i) (filter-same p q xs e.1 i)

pub filter-turned : {X : Type 0} (p q : X → Bool) (xs : List X) → filter q (filter p xs) ≡ filter p (filter q xs)
filter-turned p q xs =
    filter-twice p q xs
    ∙ filter-same (λ x. p x && q x) (λ x. q x && p x) xs (each-every (λ x. (p x && q x) ≡ (q x && p x)) (λ x. and-turned (p x) (q x)) xs)
    ∙ sym (filter-twice q p xs)

pub filter-all : {X : Type 0} (p : X → Bool) (xs : List X) → Each (λ x. p x ≡ true) xs → filter p xs ≡ xs
filter-all p [] e = refl
filter-all p (x ∷ xs) e = taken (p x) x (filter p xs) e.0 ∙ ap (λ l. x ∷ l) (filter-all p xs e.1)

-- what the second test lets through the first one does too
pub filter-weaker : {X : Type 0} (p q : X → Bool) (xs : List X) → Each (λ x. q x ≡ true → p x ≡ true) xs → filter q (filter p xs) ≡ filter q xs
filter-weaker p q [] e = refl
filter-weaker p q (x ∷ xs) e = by (p x) e.0 (filter-weaker p q xs e.1)
  where
    by : (b : Bool) → (q x ≡ true → b ≡ true) → filter q (filter p xs) ≡ filter q xs
        → filter q (cond b (x ∷ filter p xs) (filter p xs)) ≡ cond (q x) (x ∷ filter q xs) (filter q xs)
    by true g h = ap (λ l. cond (q x) (x ∷ l) l) h
    by false g h = h ∙ sym (skipped (q x) x (filter q xs) (not-true (q x) g))

missed : (c b : Bool) → c ≡ false → b ≡ (c || b)
missed c b h = sym (ap (λ c. c || b) h)

pub any-weaker : {X : Type 0} (p q : X → Bool) (xs : List X) → Each (λ x. q x ≡ true → p x ≡ true) xs → list_any q (filter p xs) ≡ list_any q xs
any-weaker p q [] e = refl
any-weaker p q (x ∷ xs) e = by (p x) e.0 (any-weaker p q xs e.1)
  where
    by : (b : Bool) → (q x ≡ true → b ≡ true) → list_any q (filter p xs) ≡ list_any q xs
        → list_any q (cond b (x ∷ filter p xs) (filter p xs)) ≡ (q x || list_any q xs)
    by true g h = ap (λ c. q x || c) h
    by false g h = h ∙ missed (q x) (list_any q xs) (not-true (q x) g)

pub filter-map : {X Y : Type 0} (p : Y → Bool) (f : X → Y) (xs : List X) → filter p (map f xs) ≡ map f (filter (λ x. p (f x)) xs)
filter-map p f [] = refl
filter-map p f (x ∷ xs) = by (p (f x)) (filter-map p f xs)
  where
    by : (b : Bool) → filter p (map f xs) ≡ map f (filter (λ y. p (f y)) xs)
        → cond b (f x ∷ filter p (map f xs)) (filter p (map f xs)) ≡ map f (cond b (x ∷ filter (λ y. p (f y)) xs) (filter (λ y. p (f y)) xs))
    by true h = ap (λ l. f x ∷ l) h
    by false h = h

-- all pass, or none
pub filter-either : {X : Type 0} (p : X → Bool) (b : Bool) (xs : List X) → Each (λ x. p x ≡ b) xs → filter p xs ≡ cond b xs []
filter-either p true xs e = filter-all p xs e
filter-either p false [] e = refl
filter-either p false (x ∷ xs) e = skipped (p x) x (filter p xs) e.0 ∙ filter-either p false xs e.1

-- ---- lists of lists

pub flat-same : {X Y : Type 0} (f g : X → List Y) (xs : List X) → Each (λ x. f x ≡ g x) xs → flat_map f xs ≡ flat_map g xs
flat-same f g [] e = refl
flat-same f g (x ∷ xs) e = λ i. e.0 i ++ flat-same f g xs e.1 i

pub flat-mapped : {X Y Z : Type 0} (f : Y → List Z) (g : X → Y) (xs : List X) → flat_map f (map g xs) ≡ flat_map (λ x. f (g x)) xs
flat-mapped f g [] = refl
flat-mapped f g (x ∷ xs) = ap (λ l. f (g x) ++ l) (flat-mapped f g xs)

pub map-flat : {X Y Z : Type 0} (f : Y → Z) (g : X → List Y) (xs : List X) → map f (flat_map g xs) ≡ flat_map (λ x. map f (g x)) xs
map-flat f g [] = refl
map-flat f g (x ∷ xs) = map-append f (g x) (flat_map g xs) ∙ ap (λ l. map f (g x) ++ l) (map-flat f g xs)

pub flat-filtered : {X Y : Type 0} (p : Y → Bool) (f : X → List Y) (xs : List X) → filter p (flat_map f xs) ≡ flat_map (λ x. filter p (f x)) xs
flat-filtered p f [] = refl
flat-filtered p f (x ∷ xs) = filter-append p (f x) (flat_map f xs) ∙ ap (λ l. filter p (f x) ++ l) (flat-filtered p f xs)
