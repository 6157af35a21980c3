-- Why sorted and stable pairs are the pairs by key, and why parts that were worked on are the whole.
use Rattle.std.proofs.Common.{◌≡◌, ℕ, zero, suc, ◌+◌, ◌<◌, Bool, true, false, not, ◌&&◌, cond, List, [], ◌∷◌, ◌++◌, length, get_or, refl, sym, ap, ◌∙◌, subst, arith, append_assoc}
use Rattle.std.specs.List.{AllZip, flat_map, filter}
use Rattle.std.specs.List.Sorted.{IsSortedBy, IsStableBy, ties}
use Rattle.std.specs.Cmp.{IsStrictWeakOrder, IsTotalOrder}
use Rattle.std.specs.declared.cmp.Ordering.{Ordering}
use Rattle.std.specs.declared.result.Result.{Result}
use Rattle.std.specs.declared.result.Result.TheVariants.{Ok, Err}
use Rattle.std.specs.Global.{Vec}
use Rattle.std.proofs.lemmas.List.Sorted.{sorted_far, ranks_by}
use Rattle.std.proofs.lemmas.List.{append-nil}
use Rattle.hv_base.specs.declared.failure.NoMemory.{NoMemory}
use Rattle.hv_shuffle.specs.Parts.{AreOfParts, IsPartOf}
use Rattle.std.specs.Borrow.{Bor}
use Rattle.std.specs.Fn.{Shared}
use Rattle.std.specs.List.{All}
use Rattle.std.specs.Result.{IfOk}
use Rattle.hv_shuffle.specs.Calls.{IsFixed, MapsTo, ReducesTo, JoinsTo, StandsSorted, AreFound}
use Rattle.hv_shuffle.specs.Shuffled.{IsShuffled, before, put, by_key, grouped, keyed}
use Rattle.hv_shuffle.proofs.SortLemmas.{stable_joined}
use Rattle.std.specs.Ordering.{is_eq}

-- ---- parts that were worked on one by one, and what they gave put together

module _ {X Y : Type 0} (rel : List X → List Y → Type 0) (none : rel [] [])
    (both : (us cs : List X) (bs ds : List Y) → rel us bs → rel cs ds → rel (us ++ cs) (bs ++ ds)) where
  joins : (gives : List X → Result (Vec Y) NoMemory → Type 0) (parts : List (List X)) (answers : List (Result (Vec Y) NoMemory)) (lists : List (Vec Y))
      → ((part : List X) (list : Vec Y) → gives part (Ok list) → rel part list.items)
      → AllZip gives parts answers → AllZip (λ answer list. answer ≡ Ok list) answers lists
      → rel (flat_map (λ part. part) parts) (flat_map (λ list. list.items) lists)
  joins gives [] [] [] means given ok = none
  joins gives [] [] (list ∷ lists) means given ok = absurd ok
  joins gives [] (answer ∷ answers) lists means given ok = absurd given
  joins gives (part ∷ parts) [] lists means given ok = absurd given
  joins gives (part ∷ parts) (answer ∷ answers) [] means given ok = absurd ok
  joins gives (part ∷ parts) (answer ∷ answers) (list ∷ lists) means given ok =
      both part (flat_map (λ p. p) parts) list.items (flat_map (λ l. l.items) lists)
      (means part list (rw ok.0 at given.0))
      (joins gives parts answers lists means given.1 ok.1)

  pub parts_joined : (gives : List X → Result (Vec Y) NoMemory → Type 0) (items : List X) (answers : List (Result (Vec Y) NoMemory)) (all : List Y)
      → ((part : List X) (list : Vec Y) → gives part (Ok list) → rel part list.items)
      → AreOfParts gives items answers → JoinsTo answers all → rel items all
  parts_joined gives items answers all means of_parts joined =
      let h = joins gives of_parts.parts answers joined.lists means of_parts.each joined.each in
      rw (of_parts.whole, joined.joined) at h

pub zip_append : {X Y : Type 0} (R : X → Y → Type 0) (us cs : List X) (bs ds : List Y) → AllZip R us bs → AllZip R cs ds → AllZip R (us ++ cs) (bs ++ ds)
zip_append R [] cs [] ds h k = k
zip_append R [] cs (b ∷ bs) ds h k = absurd h
zip_append R (a ∷ us) cs [] ds h k = absurd h
zip_append R (a ∷ us) cs (b ∷ bs) ds h k = (h.0, zip_append R us cs bs ds h.1 k)

pub flat_append : {X : Type 0} (xs ys : List (List X)) → flat_map (λ (l : List X). l) (xs ++ ys) ≡ flat_map (λ (l : List X). l) xs ++ flat_map (λ (l : List X). l) ys
flat_append [] ys = refl
flat_append (x ∷ xs) ys = ap (λ l. x ++ l) (flat_append xs ys) ∙ sym (append_assoc x (flat_map (λ l. l) xs) (flat_map (λ l. l) ys))

-- ---- a sorted list is told by its members of each key, in order

module _ {K V : Type 0} (cmp : K → K → Ordering) (order : IsStrictWeakOrder (before {K = K} {V = V} cmp)) where
  abbrev lt : K × V → K × V → Bool
  lt p q = before cmp p q

  -- no member of the list comes before x
  abbrev Leads : K × V → List (K × V) → Type 0
  Leads x [] = Unit {0}
  Leads x (y ∷ ys) = (lt y x ≡ false) × Leads x ys

  abbrev Rises : List (K × V) → Type 0
  Rises [] = Unit {0}
  Rises (x ∷ xs) = Leads x xs × Rises xs

  leads_from : (x : K × V) (ys : List (K × V)) → ((j : ℕ) → j < length ys → lt (get_or ys j x) x ≡ false) → Leads x ys
  leads_from x [] h = tt
  leads_from x (y ∷ ys) h = (h 0 (omega arith), leads_from x ys (λ j p. h (suc j) (omega arith)))

  rises_from : (xs : List (K × V)) → IsSortedBy (before cmp) xs → Rises xs
  rises_from [] up = tt
  rises_from (x ∷ xs) up = (
    leads_from x xs (λ j p. sorted_far (before cmp) order (x ∷ xs) up 0 (suc j) x (omega arith) (omega arith)),
    rises_from xs (λ k d low high. next k d (up (suc k) d (omega arith) (omega arith))),
  )
    where
      next : (k : ℕ) (d : K × V) → lt (get_or (x ∷ xs) (suc k + 1) d) (get_or xs k d) ≡ false → lt (get_or xs (k + 1) d) (get_or xs k d) ≡ false
      next k d h = let e : suc k + 1 ≡ suc (k + 1) = omega arith in subst (λ n. lt (get_or (x ∷ xs) n d) (get_or xs k d) ≡ false) e h

  own_by : (b : Bool) → (b ≡ true → b ≡ false) → b ≡ false
  own_by true h = h refl
  own_by false h = refl

  own : (x : K × V) → lt x x ≡ false
  own x = own_by (lt x x) (order.one_way x x)

  leads_chain : (p q : K × V) (qs : List (K × V)) → lt q p ≡ false → Leads q qs → Leads p qs
  leads_chain p q [] below h = tt
  leads_chain p q (r ∷ rs) below h = (order.chain r q p h.0 below, leads_chain p q rs below h.1)

  leads_put_by : (x p q : K × V) (qs : List (K × V)) (b : Bool) → lt p x ≡ false → lt q x ≡ false → Leads x qs → Leads x (put cmp p qs)
      → Leads x (cond b (q ∷ put cmp p qs) (p ∷ q ∷ qs))
  leads_put_by x p q qs true one two rest more = (two, more)
  leads_put_by x p q qs false one two rest more = (one, (two, rest))

  leads_put : (x p : K × V) (qs : List (K × V)) → lt p x ≡ false → Leads x qs → Leads x (put cmp p qs)
  leads_put x p [] one h = (one, tt)
  leads_put x p (q ∷ qs) one h = leads_put_by x p q qs (lt q p) one h.0 h.1 (leads_put x p qs one h.1)

  rises_put_by : (p q : K × V) (qs : List (K × V)) (b : Bool) → lt q p ≡ b → Leads q qs → Rises qs → Rises (put cmp p qs)
      → Rises (cond b (q ∷ put cmp p qs) (p ∷ q ∷ qs))
  rises_put_by p q qs true is leads up more = (leads_put q p qs (order.one_way q p is) leads, more)
  rises_put_by p q qs false is leads up more = ((is, leads_chain p q qs is leads), (leads, up))

  rises_put : (p : K × V) (qs : List (K × V)) → Rises qs → Rises (put cmp p qs)
  rises_put p [] up = (tt, tt)
  rises_put p (q ∷ qs) up = rises_put_by p q qs (lt q p) refl up.0 up.1 (rises_put p qs up.1)

  rises_by_key : (ps : List (K × V)) → Rises (by_key cmp ps)
  rises_by_key [] = tt
  rises_by_key (p ∷ ps) = rises_put p (by_key cmp ps) (rises_by_key ps)

  -- two that tie with x don't come one before the other
  apart : (x p q : K × V) → ties (before cmp) x p ≡ true → ties (before cmp) x q ≡ true → lt q p ≡ false
  apart x p q tp tq = order.chain q x p (second (lt x q) (lt q x) tq) (first (lt x p) (lt p x) tp)
    where
      first : (a b : Bool) → not a && not b ≡ true → a ≡ false
      first true b h = cc
      first false b h = refl

      second : (a b : Bool) → not a && not b ≡ true → b ≡ false
      second true b h = cc
      second false true h = cc
      second false false h = refl

  swapped_by : (p q : K × V) (rest : List (K × V)) (a b : Bool) → (a ≡ true → b ≡ true → ⊥)
      → cond b (q ∷ cond a (p ∷ rest) rest) (cond a (p ∷ rest) rest) ≡ cond a (p ∷ cond b (q ∷ rest) rest) (cond b (q ∷ rest) rest)
  swapped_by p q rest true true not_both = absurd (not_both refl refl)
  swapped_by p q rest true false not_both = refl
  swapped_by p q rest false b not_both = refl

  kept_by : (x p q : K × V) (qs : List (K × V)) (b : Bool) → lt q p ≡ b
      → filter (ties (before cmp) x) (put cmp p qs) ≡ filter (ties (before cmp) x) (p ∷ qs)
      → filter (ties (before cmp) x) (cond b (q ∷ put cmp p qs) (p ∷ q ∷ qs)) ≡ filter (ties (before cmp) x) (p ∷ q ∷ qs)
  kept_by x p q qs true is rest =
      let t = ties (before cmp) x in
      ap (λ l. cond (t q) (q ∷ l) l) rest
      ∙ swapped_by p q (filter t qs) (t p) (t q) (λ one two. true_is_not_false (sym is ∙ apart x p q one two))
    where
      true_is_not_false : true ≡ false → ⊥
      true_is_not_false e = cc
  kept_by x p q qs false is rest = refl

  kept_put : (x p : K × V) (qs : List (K × V)) → filter (ties (before cmp) x) (put cmp p qs) ≡ filter (ties (before cmp) x) (p ∷ qs)
  kept_put x p [] = refl
  kept_put x p (q ∷ qs) = kept_by x p q qs (lt q p) refl (kept_put x p qs)

  stable_by_key : (ps : List (K × V)) → IsStableBy (before cmp) ps (by_key cmp ps)
  stable_by_key [] x = refl
  stable_by_key (p ∷ ps) x =
      let t = ties (before cmp) x in
      kept_put x p (by_key cmp ps) ∙ ap (λ l. cond (t p) (p ∷ l) l) (stable_by_key ps x)

  -- what a test keeps of a list that y leads isn't before y
  kept_led : (test : K × V → Bool) (y a : K × V) (zs rest : List (K × V)) → Leads y zs → filter test zs ≡ a ∷ rest → lt a y ≡ false
  kept_led test y a [] rest led is = cc
  kept_led test y a (z ∷ zs) rest led is = by (test z) is (λ e. kept_led test y a zs rest led.1 e)
    where
      by : (b : Bool) → cond b (z ∷ filter test zs) (filter test zs) ≡ a ∷ rest → (filter test zs ≡ a ∷ rest → lt a y ≡ false) → lt a y ≡ false
      by true e below = let same : z ≡ a = cc in rw (← same) led.0
      by false e below = below e

  SameTies : List (K × V) → List (K × V) → Type 0
  SameTies xs ys = (z : K × V) → filter (ties (before cmp) z) xs ≡ filter (ties (before cmp) z) ys

  tied_itself : (x : K × V) → ties (before cmp) x x ≡ true
  tied_itself x = rw (own x) refl

  not_after : (x y : K × V) (xs ys : List (K × V)) → Leads y ys → SameTies (x ∷ xs) (y ∷ ys) → lt x y ≡ false
  unfolding SameTies
  not_after x y xs ys led same =
      let t = ties (before cmp) x in
      let head : filter t (x ∷ xs) ≡ x ∷ filter t xs = rw (tied_itself x) refl in
      kept_led t y x (y ∷ ys) (filter t xs) (own y, led) (sym (same x) ∙ head)

  same_first : (x y : K × V) (xs ys : List (K × V)) → Leads x xs → Leads y ys → SameTies (x ∷ xs) (y ∷ ys) → x ≡ y
  unfolding SameTies
  same_first x y xs ys up up' same =
      let t = ties (before cmp) x in
      let one = not_after x y xs ys up' same in
      let two = not_after y x ys xs up (λ z. sym (same z)) in
      let tie : t y ≡ true = rw (one, two) refl in
      let left : filter t (x ∷ xs) ≡ x ∷ filter t xs = rw (tied_itself x) refl in
      let right : filter t (y ∷ ys) ≡ y ∷ filter t ys = rw tie refl in
      let both : x ∷ filter t xs ≡ y ∷ filter t ys = sym left ∙ same x ∙ right in
      cc

  same_rest : (x y : K × V) (xs ys : List (K × V)) → x ≡ y → SameTies (x ∷ xs) (y ∷ ys) → SameTies xs ys
  unfolding SameTies
  same_rest x y xs ys e same z =
      let t = ties (before cmp) z in
      let h : cond (t x) (x ∷ filter t xs) (filter t xs) ≡ cond (t x) (y ∷ filter t ys) (filter t ys) = same z ∙ ap (λ (w : K × V). cond (t w) (y ∷ filter t ys) (filter t ys)) (sym e) in
      by (t x) h
    where
      by : (b : Bool) → cond b (x ∷ filter (ties (before cmp) z) xs) (filter (ties (before cmp) z) xs) ≡ cond b (y ∷ filter (ties (before cmp) z) ys) (filter (ties (before cmp) z) ys)
          → filter (ties (before cmp) z) xs ≡ filter (ties (before cmp) z) ys
      by true h = cc
      by false h = h

  one_list : (xs ys : List (K × V)) → Rises xs → Rises ys → SameTies xs ys → xs ≡ ys
  unfolding SameTies
  one_list [] [] up up' same = refl
  one_list [] (y ∷ ys) up up' same = let h = same y in let k : cond (ties (before cmp) y y) (y ∷ filter (ties (before cmp) y) ys) (filter (ties (before cmp) y) ys) ≡ y ∷ filter (ties (before cmp) y) ys = rw (tied_itself y) refl in let e : [] ≡ y ∷ filter (ties (before cmp) y) ys = h ∙ k in cc
  one_list (x ∷ xs) [] up up' same = let h = same x in let k : cond (ties (before cmp) x x) (x ∷ filter (ties (before cmp) x) xs) (filter (ties (before cmp) x) xs) ≡ x ∷ filter (ties (before cmp) x) xs = rw (tied_itself x) refl in let e : [] ≡ x ∷ filter (ties (before cmp) x) xs = sym h ∙ k in cc
  one_list (x ∷ xs) (y ∷ ys) up up' same =
      let first = same_first x y xs ys up.0 up'.0 same in
      let rest = one_list xs ys up.1 up'.1 (same_rest x y xs ys first same) in
      λ i. first i ∷ rest i

  -- a stable sort gives the pairs by key
  pub sorted_is_by_key : (pairs sorted : List (K × V)) → IsSortedBy (before cmp) sorted → IsStableBy (before cmp) pairs sorted → sorted ≡ by_key cmp pairs
  unfolding SameTies
  sorted_is_by_key pairs sorted up stable =
      one_list sorted (by_key cmp pairs) (rises_from sorted up) (rises_by_key pairs) (λ z. stable z ∙ sym (stable_by_key pairs z))

pub ordered_by_key : {K V : Type 0} {cmp : K → K → Ordering} → IsTotalOrder cmp → IsStrictWeakOrder (before {K = K} {V = V} cmp)
ordered_by_key {K} {V} total = ranks_by total (λ (p : K × V). p.0)

-- ---- laws of the records

pub zip_one : {X Y : Type 0} (R : X → Y → Type 0) → IsFixed R → (xs : List X) (ys zs : List Y) → AllZip R xs ys → AllZip R xs zs → ys ≡ zs
zip_one R fixed [] [] [] h k = refl
zip_one R fixed [] [] (z ∷ zs) h k = absurd k
zip_one R fixed [] (y ∷ ys) zs h k = absurd h
zip_one R fixed (x ∷ xs) [] zs h k = absurd h
zip_one R fixed (x ∷ xs) (y ∷ ys) [] h k = absurd k
zip_one R fixed (x ∷ xs) (y ∷ ys) (z ∷ zs) h k =
    let first = fixed x y z h.0 k.0 in
    let rest = zip_one R fixed xs ys zs h.1 k.1 in
    λ i. first i ∷ rest i

pub shuffled_one : {T K V O : Type 0} (maps : T → List (K × V) → Type 0) (reduces : K × List V → O → Type 0) (cmp : K → K → Ordering) (inputs : List T) (answers others : List O)
    → IsFixed maps → IsFixed reduces → IsShuffled maps reduces cmp inputs answers → IsShuffled maps reduces cmp inputs others → answers ≡ others
shuffled_one maps reduces cmp inputs answers others one_found one_answer a b =
    let same = zip_one maps one_found inputs b.found a.found b.mapped a.mapped in
    let reduced = subst (λ found. AllZip reduces (keyed cmp (flat_map (λ pairs. pairs) found)) others) same b.reduced in
    zip_one reduces one_answer (keyed cmp (flat_map (λ pairs. pairs) a.found)) answers others a.reduced reduced

pub sorted_both : {T K V : Type 0} (maps : T → List (K × V) → Type 0) (cmp : K → K → Ordering) (us cs : List T) (bs ds : List (K × V))
    → StandsSorted maps cmp us bs → StandsSorted maps cmp cs ds → StandsSorted maps cmp (us ++ cs) (bs ++ ds)
sorted_both maps cmp us cs bs ds one two = record {
  found = one.found ++ two.found;
  mapped = zip_append maps us cs one.found two.found one.mapped two.mapped;
  stable = rw flat_append (stable_joined (before cmp) (flat_map (λ list. list) one.found) bs (flat_map (λ list. list) two.found) ds one.stable two.stable);
}

pub sorted_none : {T K V : Type 0} (maps : T → List (K × V) → Type 0) (cmp : K → K → Ordering) → StandsSorted maps cmp [] []
sorted_none maps cmp = record { found = []; mapped = tt; stable = λ x. refl }

pub found_none : {T P : Type 0} (maps : T → List P → Type 0) → AreFound maps [] []
found_none maps = record { found = []; mapped = tt; flat = refl }

pub found_more : {T P : Type 0} (maps : T → List P → Type 0) (inputs : List T) (pairs more : List P) (input : T) → AreFound maps inputs pairs → maps input more
    → AreFound maps (inputs ++ input ∷ []) (pairs ++ more)
found_more maps inputs pairs more input so_far says = record {
  found = so_far.found ++ more ∷ [];
  mapped = zip_append maps inputs (input ∷ []) so_far.found (more ∷ []) so_far.mapped (says, tt);
  flat = flat_append so_far.found (more ∷ []) ∙ (λ i. so_far.flat i ++ append-nil more i);
}

pub joins_none : {X : Type 0} → JoinsTo {X = X} [] []
joins_none = record { lists = []; each = tt; joined = refl }

flat_items : {X : Type 0} (xs ys : List (Vec X)) → flat_map (λ (l : Vec X). l.items) (xs ++ ys) ≡ flat_map (λ (l : Vec X). l.items) xs ++ flat_map (λ (l : Vec X). l.items) ys
flat_items [] ys = refl
flat_items (x ∷ xs) ys = ap (λ l. x.items ++ l) (flat_items xs ys) ∙ sym (append_assoc x.items (flat_map (λ l. l.items) xs) (flat_map (λ l. l.items) ys))

pub joins_more : {X : Type 0} (answers : List (Result (Vec X) NoMemory)) (all : List X) (answer : Result (Vec X) NoMemory) (list : Vec X) → JoinsTo answers all → answer ≡ Ok list
    → JoinsTo (answers ++ answer ∷ []) (all ++ list.items)
joins_more answers all answer list so_far is = record {
  lists = so_far.lists ++ list ∷ [];
  each = zip_append (λ answer list. answer ≡ Ok list) answers (answer ∷ []) so_far.lists (list ∷ []) so_far.each (is, tt);
  joined = flat_items so_far.lists (list ∷ []) ∙ (λ i. so_far.joined i ++ append-nil list.items i);
}

-- a pair behind groups of which g is the last
pub grouped_last : {K V : Type 0} (cmp : K → K → Ordering) (gs : List (K × List V)) (g : K × List V) (p : K × V)
    → grouped cmp (gs ++ g ∷ []) p ≡ cond (is_eq (cmp p.0 g.0)) (gs ++ (g.0, g.1 ++ p.1 ∷ []) ∷ []) ((gs ++ g ∷ []) ++ (p.0, p.1 ∷ []) ∷ [])
grouped_last cmp [] g p = refl
grouped_last cmp (h ∷ []) g p = pulled (is_eq (cmp p.0 g.0))
  where
    pulled : (b : Bool) → h ∷ cond b ((g.0, g.1 ++ p.1 ∷ []) ∷ []) (g ∷ (p.0, p.1 ∷ []) ∷ []) ≡ cond b (h ∷ (g.0, g.1 ++ p.1 ∷ []) ∷ []) (h ∷ g ∷ (p.0, p.1 ∷ []) ∷ [])
    pulled true = refl
    pulled false = refl
grouped_last cmp (h ∷ k ∷ gs) g p = ap (λ l. h ∷ l) (grouped_last cmp (k ∷ gs) g p) ∙ pulled (is_eq (cmp p.0 g.0))
  where
    pulled : (b : Bool) → h ∷ cond b ((k ∷ gs) ++ (g.0, g.1 ++ p.1 ∷ []) ∷ []) (((k ∷ gs) ++ g ∷ []) ++ (p.0, p.1 ∷ []) ∷ [])
        ≡ cond b ((h ∷ k ∷ gs) ++ (g.0, g.1 ++ p.1 ∷ []) ∷ []) (((h ∷ k ∷ gs) ++ g ∷ []) ++ (p.0, p.1 ∷ []) ∷ [])
    pulled true = refl
    pulled false = refl

-- a pair behind a last group of its key, and behind one of another key
module _ {K V : Type 0} (cmp : K → K → Ordering) (gs : List (K × List V)) (g : K × List V) (p : K × V) (new : List (K × List V)) where
  pub goes_in : is_eq (cmp p.0 g.0) ≡ true → new ≡ gs ++ (g.0, g.1 ++ p.1 ∷ []) ∷ [] → new ≡ grouped cmp (gs ++ g ∷ []) p
  goes_in same is =
      is ∙ sym (grouped_last cmp gs g p ∙ ap (λ b. cond b (gs ++ (g.0, g.1 ++ p.1 ∷ []) ∷ []) ((gs ++ g ∷ []) ++ (p.0, p.1 ∷ []) ∷ [])) same)

  pub goes_behind : (back : List (K × List V)) → back ≡ gs ++ g ∷ [] → is_eq (cmp p.0 g.0) ≡ false → new ≡ back ++ (p.0, p.1 ∷ []) ∷ [] → new ≡ grouped cmp (gs ++ g ∷ []) p
  goes_behind back again other is =
      is ∙ ap (λ l. l ++ (p.0, p.1 ∷ []) ∷ []) again
      ∙ sym (grouped_last cmp gs g p ∙ ap (λ b. cond b (gs ++ (g.0, g.1 ++ p.1 ∷ []) ∷ []) ((gs ++ g ∷ []) ++ (p.0, p.1 ∷ []) ∷ [])) other)

-- what holds of all holds of a part
all_behind : {X : Type 0} (P : X → Type 0) (before rest : List X) → All P (before ++ rest) → All P rest
all_behind P [] rest h = h
all_behind P (b ∷ bs) rest h = all_behind P bs rest (λ k d below. h (suc k) d (omega arith))

all_front : {X : Type 0} (P : X → Type 0) (part rest : List X) → All P (part ++ rest) → All P part
all_front P [] rest h k d below = absurd (omega arith)
all_front P (x ∷ xs) rest h zero d below = h zero d (omega arith)
all_front P (x ∷ xs) rest h (suc k) d below = all_front P xs rest (λ k d b. h (suc k) d (omega arith)) k d (omega arith)

pub all_of_part : {X : Type 0} (P : X → Type 0) (part whole : List X) → IsPartOf part whole → All P whole → All P part
all_of_part P part whole is h = all_front P part is.after (all_behind P is.before (part ++ is.after) (rw is.stands at h))

-- what one call of the reducer, and one of the mapper, says
pub reduces_at : {F K V O : Type 0} (g : Shared F (Bor K × (Bor (List V) × Unit {0})) (Result O NoMemory)) (f : F) (key : Bor K) (values : Bor (List V)) (r : Result O NoMemory)
    → g.post f (key, (values, tt)) r → IfOk r (ReducesTo g f (key.now, values.now))
reduces_at g f key values (Ok o) met = record { key = key; values = values; key_is = refl; values_are = refl; call = met }
reduces_at g f key values (Err e) met = tt

pub maps_at : {M T P : Type 0} (g : Shared M (Bor T × Unit {0}) (Result (Vec P) NoMemory)) (f : M) (input : Bor T) (r : Result (Vec P) NoMemory)
    → g.post f (input, tt) r → IfOk r (λ pairs. MapsTo g f input.now pairs.items)
maps_at g f input (Ok pairs) met = record { shown = input; shows = refl; found = pairs; finds = refl; call = met }
maps_at g f input (Err e) met = tt
