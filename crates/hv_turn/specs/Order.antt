-- The rule of the turn. Its words are the next ticket, the ticket served and the length of the history, and its one slot has the value.
use Rattle.std.specs.Prelude.{◌≡◌, ◌≢◌, ℕ, ◌^◌, ◌<◌, ◌≤◌, List, [], ◌∷◌, length, Option, Some}
use mathlib.Core.Option.{some}
use mathlib.Core.List.{IsPrefix}
use lib.ListN.{get_elem?}
use Rattle.atomic_table.specs.Table.{State, Me, Step, rest}
use Rattle.hv_turn.specs.declared.view.Stage.TheVariants.{Idle, Waits}
use Rattle.hv_turn.specs.declared.view.View.{View}
use Rattle.hv_turn.specs.Counts.{total, times, within}
use Rattle.hv_turn.specs.Views.{tickets_of, turns_of, waits, takes, counts, passes, Fits, GoesOn, Before, IsSeen}

module _ {S I Q : Type 0} (items : S → List I) (root : S → Q) (later : S → S → Type 0) (keeping : S → Type 0) where
  -- the first seat has all parts, and has seen the whole history
  abbrev pub beginning : S → View S I Q
  beginning x = record { seen = items x; stood = []; saw = Some x; age = 0; took = Some x; own = []; parts = 64; root = Some (root x); start = length (items x); stage = Idle }

  -- of two values that seats have seen the elder goes on to the younger
  abbrev pub IsOrdered : List (View S I Q) → Type 0
  IsOrdered views = (i j : ℕ) (a b : View S I Q) → get_elem? views i ≡ some a → get_elem? views j ≡ some b → 0 < a.parts → 0 < b.parts → a.age ≤ b.age → Before later a.saw b.saw

  -- the list that a seat has seen is that of the value that it has seen
  abbrev pub IsRead : List (View S I Q) → Type 0
  IsRead views = (id : ℕ) (v : View S I Q) → get_elem? views id ≡ some v → 0 < v.parts → IsSeen items v.saw v.seen

  module _ (first : S) (ticket serving : ℕ) (log : List I) where
    -- where no seat has the turn, the value is at home, with the whole history
    abbrev pub IsHome : S → State (Option S) (View S I Q) → Type 0
    IsHome newest s = total (λ v. turns_of v.stage) s.views ≡ 0 → (x : S) × (get_elem? s.homes 0 ≡ some (some (Some x))) × (items x ≡ log) × (root x ≡ root first) × (x ≡ newest)

    -- some seat has seen the whole history
    abbrev pub IsSeenWhole : ℕ → List (View S I Q) → Type 0
    IsSeenWhole round views = (id : ℕ) × (v : View S I Q) × (get_elem? views id ≡ some v) × (0 < v.parts) × (v.seen ≡ log) × (v.age ≡ round)

    -- each ticket from the one served up to below the next is with one view, and each place since the start is one view's own
    pub record Standing (s : State (Option S) (View S I Q)) : Type 0 where
      pub newest : S
      pub round : ℕ
      pub is_log : items newest ≡ log
      pub is_root : root newest ≡ root first
      pub kept : keeping newest
      pub words : s.words ≡ ticket ∷ serving ∷ length log ∷ []
      pub served : serving ≤ ticket
      pub room : ticket < 2 ^ 64
      pub begun : length (items first) ≤ length log
      pub tickets : (n : ℕ) → total (λ v. times n (tickets_of v.stage)) s.views ≡ within serving ticket n
      pub places : (p : ℕ) → total (λ v. times p v.own) s.views ≡ within (length (items first)) (length log) p
      pub parts : total (λ v. v.parts) s.views ≡ 64
      pub whole : IsSeenWhole round s.views
      pub ordered : IsOrdered s.views
      pub read : IsRead s.views
      pub each : (id : ℕ) (v : View S I Q) → get_elem? s.views id ≡ some v → Fits later log serving (root first) (length (items first)) newest round v
      pub home : IsHome newest s

  unfoldable pub Turning : S → State (Option S) (View S I Q) → Type 0
  Turning first s = (ticket : ℕ) × (serving : ℕ) × (log : List I) × Standing first ticket serving log s

  abbrev Here : Type 0
  Here = Me (Option S) (View S I Q)

  -- a ticket was drawn, where the number found was the one expected
  abbrev pub draws : Step (Option S) → Here → ℕ → Here → Type 0
  draws st m found m' = (found ≡ st.first → m' ≡ (waits m.0 st.first, m.1)) × (found ≢ st.first → m' ≡ m)

  -- the turn came, with the value, whose history begins with what the seat had seen
  pub record Comes (m : Here) (ticket : ℕ) (m' : Here) : Type 0 where
    pub value : S
    pub slot : m'.1 ≡ (0, Some value) ∷ m.1
    pub view : m'.0 ≡ takes m.0 ticket (items value) value
    pub begins : IsPrefix m.0.seen (items value)
    pub of_root : m.0.root ≡ Some (root value)
    pub kept : keeping value
    pub goes_on : GoesOn later m.0.saw value
    pub read : IsSeen items m.0.saw m.0.seen
    pub alone : m.0.parts ≡ 64 → (items value ≡ m.0.seen) × (m.0.saw ≡ Some value)

  abbrev pub looks : Step (Option S) → Here → ℕ → Here → Type 0
  looks st m found m' = (ticket : ℕ) → m.0.stage ≡ Waits ticket → (found ≡ ticket → Comes m ticket m') × (found ≢ ticket → m' ≡ m)

  -- the history of the value in the slot was counted
  abbrev pub tallies : Step (Option S) → Here → ℕ → Here → Type 0
  tallies st m found m' = (x : S) → m.1 ≡ (0, Some x) ∷ [] → (n : ℕ) × (m' ≡ (counts m.0 (items x) x n, m.1))

  abbrev pub hands_on : Step (Option S) → Here → ℕ → Here → Type 0
  hands_on st m found m' = m' ≡ (passes m.0, rest m.1)

  -- of two beginnings that the seat keeps the shorter begins the longer
  abbrev pub settles : Step (Option S) → Here → ℕ → Here → Type 0
  settles st m found m' = (m' ≡ m) × (length m.0.stood ≤ length m.0.seen → IsPrefix m.0.stood m.0.seen) × Before later m.0.took m.0.saw
