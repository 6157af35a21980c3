-- What one hold makes of a chair: its seat, what it has seen, and its own places.
use Rattle.std.proofs.Common.{◌≡◌, ◌≤◌, ℕ, zero, suc, ◌+◌, ◌-◌, true, false, Option, Some, None, List, [], ◌∷◌, ◌++◌, length, inl, inr, refl, sym, ap, ◌∙◌, subst, append-nil, length-append, arith}
use Rattle.atomic_table.specs.Seated.{TableId}
use Rattle.hv_shelf.specs.Disk.{Store}
use Rattle.hv_trail.specs.declared.trail.TrailItem.{TrailItem}
use Rattle.hv_trail.specs.Steps.{HouseSeen, Call, Outcome, Step}
use Rattle.hv_actor.specs.Acting.{IsLater, Held, Went, Anything, Touched, sees, numbers_from}
use Rattle.hv_actor.specs.Rows.{anything_rows}
use Rattle.hv_actor.proofs.Weaving.{went-held}
use Rattle.hv_turn.specs.Counts.{rising}
use Rattle.hv_turn.specs.Views.{places_behind, GoesOn}
use Rattle.hv_turn.specs.Tokens.{Token, IsSameOrOneMore}
use Rattle.hv_seated.specs.declared.shared.Shared.{Shared}
use Rattle.hv_seated.specs.declared.shared.Origin.{Origin}
use Rattle.hv_seated.specs.Seats.{Fixed, fixed_of, IsSeated}

-- ---- small facts

some-same : {A : Type 0} (a b : A) → Some a ≡ Some b → a ≡ b
some-same a b e = let both : Some a ≡ Some b = e in cc

-- one item more, or none
few-more : {I : Type 0} (stood history gained : List I) → history ≡ stood ++ gained → length gained ≤ 1 → IsSameOrOneMore stood history
few-more stood history [] adds few = inl (adds ∙ append-nil stood)
few-more stood history (x ∷ []) adds few = inr (x, adds)
few-more stood history (x ∷ y ∷ more) adds few = absurd (omega (arith, few))

-- the numbers of the turn are those of actors
rising-numbers : (n k : ℕ) → rising n k ≡ numbers_from n k
rising-numbers n zero = refl
rising-numbers n (suc k) =
    let next : suc n ≡ n + 1 = omega arith in
    ap (λ (ns : List ℕ). n ∷ ns) (rising-numbers (suc n) k ∙ ap (λ (m : ℕ). numbers_from m k) next)

places-are : {I : Type 0} (stood history gained : List I) → history ≡ stood ++ gained
    → places_behind stood history ≡ numbers_from (length stood) (length gained)
places-are stood history gained adds =
    let count : length history - length stood ≡ length gained = omega (arith, ap length adds, length-append stood gained) in
    ap (λ (k : ℕ). rising (length stood) k) count ∙ rising-numbers (length stood) (length gained)

-- ---- what was seen

module _ {S : Type 0} where
  -- the value goes on from the one that was seen
  pub reached-from : (later : S → S → Type 0) (saw : Option S) (was x : S) → saw ≡ Some was → GoesOn later saw x → later was x
  reached-from later saw was x is goes = subst (λ (s : S). later s x) (some-same goes.0 was (sym goes.1 ∙ is)) goes.2

  pub goes-as : (later : S → S → Type 0) (saw : Option S) (x seen : S) → seen ≡ x → GoesOn later saw x → GoesOn later saw seen
  goes-as later saw x seen is goes = subst (λ (s : S). GoesOn later saw s) (sym is) goes

-- ---- a hold of a seat: the turn comes with one value, and goes with another

abbrev pub Enters : {S I Q : Type 0} → Token S I Q → Token S I Q → List I → S → Type 0
Enters old mid stood x = mid ≡ record old { stood = stood; took = Some x; has_turn = true }

abbrev pub Leaves : {S I Q : Type 0} → Token S I Q → Token S I Q → List I → S → Type 0
Leaves mid new history y =
    new ≡ record mid { seen = history; saw = Some y; stood = []; took = None; own = mid.own ++ places_behind mid.stood history; has_turn = false }

module _ {S I Q : Type 0} where
  pub few-behind : (old mid : Token S I Q) (x : S) (stood history gained : List I) → Enters old mid stood x
      → history ≡ stood ++ gained → length gained ≤ 1 → IsSameOrOneMore mid.stood history
  few-behind old mid x stood history gained enters adds few =
      subst (λ (s : List I). IsSameOrOneMore s history) (sym (ap (λ (t : Token S I Q). t.stood) enters))
      (few-more stood history gained adds few)

  -- nothing was done
  pub same-behind : (old mid : Token S I Q) (x : S) (stood : List I) → Enters old mid stood x → IsSameOrOneMore mid.stood stood
  same-behind old mid x stood enters = inl (sym (ap (λ (t : Token S I Q). t.stood) enters))

  pub took-behind : (later : S → S → Type 0) (old mid : Token S I Q) (x y : S) (stood : List I)
      → Enters old mid stood x → later x y → GoesOn later mid.took y
  took-behind later old mid x y stood enters goes = (x, ap (λ (t : Token S I Q). t.took) enters, goes)

  own-behind : (old mid new : Token S I Q) (x y : S) (stood history gained : List I) → Enters old mid stood x → Leaves mid new history y
      → history ≡ stood ++ gained → new.own ≡ old.own ++ numbers_from (length stood) (length gained)
  own-behind old mid new x y stood history gained enters leaves adds =
      ap (λ (t : Token S I Q). t.own) leaves
      ∙ ap (λ (t : Token S I Q). t.own ++ places_behind t.stood history) enters
      ∙ ap (λ (ps : List ℕ). old.own ++ ps) (places-are stood history gained adds)

  pub own-same : (old mid new : Token S I Q) (x y : S) (stood : List I) → Enters old mid stood x → Leaves mid new stood y
      → new.own ≡ old.own
  own-same old mid new x y stood enters leaves =
      own-behind old mid new x y stood stood [] enters leaves (sym (append-nil stood)) ∙ append-nil old.own

module _ {D H : Type 0} where
  pub seated-behind : (turn : TableId) (old mid new : Token (Shared D H) TrailItem (Origin D)) (x y seen : Shared D H) (stood history : List TrailItem)
      (keeps shuts : H → Type 0) (stays : Fixed)
      → old.turn ≡ turn → fixed_of old ≡ stays → Enters old mid stood x → Leaves mid new history y → seen ≡ y
      → keeps y.house → shuts y.house → IsSeated turn new seen keeps shuts stays
  seated-behind turn old mid new x y seen stood history keeps shuts stays of_it same enters leaves is kept shut = record {
    of_it = ap (λ (t : Token (Shared D H) TrailItem (Origin D)). t.turn) leaves ∙ ap (λ (t : Token (Shared D H) TrailItem (Origin D)). t.turn) enters ∙ of_it;
    free = ap (λ (t : Token (Shared D H) TrailItem (Origin D)). t.has_turn) leaves;
    saw = ap (λ (t : Token (Shared D H) TrailItem (Origin D)). t.saw) leaves ∙ ap (λ (s : Shared D H). Some s) (sym is);
    kept = subst (λ (s : Shared D H). keeps s.house) (sym is) kept;
    shut = subst (λ (s : Shared D H). shuts s.house) (sym is) shut;
    same = ap (λ (t : Token (Shared D H) TrailItem (Origin D)). fixed_of t) leaves ∙ ap (λ (t : Token (Shared D H) TrailItem (Origin D)). fixed_of t) enters ∙ same;
  }

  -- ---- what is promised of a step

  pub held-behind : (told : D → Option Store) (faults : D → ℕ) (look : H → HouseSeen D) (keeps : H → Type 0) (before : H) (x y seen : Shared D H)
      (call : HouseSeen D → Call) (outcome : Outcome) (does : HouseSeen D → HouseSeen D → Type 0)
      → seen ≡ y → Touched faults look before x.house → keeps x.house
      → Step told faults (call (look x.house)) outcome (look x.house) (look y.house) → does (look x.house) (look y.house)
      → Held (sees told faults look keeps) (Touched faults look) before seen.house call outcome does
  held-behind told faults look keeps before x y seen call outcome does is reached kept step did =
      subst (λ (s : Shared D H). Held (sees told faults look keeps) (Touched faults look) before s.house call outcome does) (sym is)
      (record { house = x.house; reached = reached; kept = kept; step = step; does_it = did })

  pub went-behind : (faults : D → ℕ) (look : H → HouseSeen D) (old mid new : Token (Shared D H) TrailItem (Origin D)) (was x y seen : Shared D H) (gained : List TrailItem)
      → Enters old mid (look x.house).trail x → Leaves mid new (look y.house).trail y → seen ≡ y → IsLater faults (look was.house) (look x.house)
      → (look y.house).trail ≡ (look x.house).trail ++ gained
      → Went Anything gained old.own new.own (look was.house).trail (look seen.house).trail
  went-behind faults look old mid new was x y seen gained enters leaves is reached adds =
      subst (λ (s : Shared D H). Went Anything gained old.own new.own (look was.house).trail (look s.house).trail) (sym is)
      (went-held Anything anything_rows (look was.house).trail (look x.house).trail (look y.house).trail gained reached.added old.own new.own
      tt reached.trail adds (own-behind old mid new x y (look x.house).trail (look y.house).trail gained enters leaves adds))
