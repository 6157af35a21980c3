-- Each step keeps the rule.
use Rattle.std.proofs.Common.{◌≡◌, ◌≢◌, ℕ, zero, suc, ◌+◌, ◌-◌, ◌^◌, ◌<◌, ◌≤◌, List, [], ◌∷◌, ◌++◌, length, set, Option, Some, sym, refl, ap, ◌∙◌, subst, ⊎_elim, arith, true, false, nat_le}
use mathlib.Core.Option.{Option as Home, some, none, some-injective, some-ne-none}
use mathlib.Core.List.{IsPrefix}
use mathlib.Core.Logic.{dite}
use native.Mathlib.Decide.{ℕ_discrete}
use lib.ListN.{get_elem?}
use Rattle.atomic_table.specs.Table.{State, Me}
use Rattle.atomic_table.proofs.Lists.{at_set, set_here, set_else, set_again, at_longer, at_snoc}
use Rattle.hv_turn.specs.declared.view.Stage.{Stage}
use Rattle.hv_turn.specs.declared.view.Stage.TheVariants.{Idle, Waits, Has}
use Rattle.hv_turn.specs.declared.view.View.{View}
use Rattle.hv_turn.specs.Counts.{total, same, times, within, rising}
use Rattle.hv_turn.specs.Views.{tickets_of, turns_of, longer, shorter, spent, waits, takes, counts, passes, gives_part, one_part, joined, HasTurnAt, HasTaken, IsSettled, Before, IsSeen, of_later, GoesOn, Fits}
use Rattle.hv_turn.specs.Order.{IsSeenWhole, IsOrdered, IsRead, Standing, Turning}
use Rattle.std.proofs.lemmas.Bool.Decides.{leb_tells}
use Rattle.hv_turn.proofs.CountLemmas.{total-set, total-push, one_of, two_of, total_below, times-append, same_self, within_one_at_most, within_there, within_one, within_more, times-rising}
use Rattle.hv_turn.proofs.Prefixes.{prefix_self, prefix_nil, prefix_trans, prefix_length, either_of, of_either, of_either_at, older_left, older_right, longer_left, longer_right}

-- what holds of the element put in and of each other one holds of each
each_set : {A : Type 0} (P : A → Type 0) (l : List A) (i : ℕ) (w : A) → P w → ((j : ℕ) (u : A) → j ≢ i → get_elem? l j ≡ some u → P u) → (j : ℕ) (u : A) → get_elem? (set l i w) j ≡ some u → P u
each_set P l i w here others j u e = ⊎_elim (λ (t : (j ≡ i) × (w ≡ u)). subst P t.1 here) (λ (t : (j ≢ i) × (get_elem? l j ≡ some u)). others j u t.0 t.1) (at_set l i j w u e)

-- an element of a list stands at a place of the list
within_list : {A : Type 0} (l : List A) (i : ℕ) (a : A) → get_elem? l i ≡ some a → i < length l
within_list [] i a at = absurd (some-ne-none a (sym at))
within_list (x ∷ xs) zero a at = omega arith
within_list (x ∷ xs) (suc i) a at = let h = within_list xs i a at in omega arith

one_time : (n : ℕ) → times n (n ∷ []) ≡ 1
one_time n = let h = same_self n in omega arith

module _ {I : Type 0} where
  -- a turn is had by a ticket that is served
  turn_ticket : (log : List I) (serving : ℕ) (stood : List I) (t : Stage) → HasTurnAt log serving stood t → turns_of t ≤ times serving (tickets_of t)
  turn_ticket log serving stood Idle h = omega arith
  turn_ticket log serving stood (Waits n) h = omega arith
  turn_ticket log serving stood (Has n) h = let o : times serving (n ∷ []) ≡ 1 = ap (λ m. times serving (m ∷ [])) h.0 ∙ one_time serving in omega arith

  pub had_log : (log : List I) (serving : ℕ) (stood : List I) (t : Stage) {n : ℕ} → t ≡ Has n → HasTurnAt log serving stood t → stood ≡ log
  had_log log serving stood Idle e h = absurd (cc)
  had_log log serving stood (Waits n) e h = absurd (cc)
  had_log log serving stood (Has n) e h = h.1

  pub had_ticket : (log : List I) (serving : ℕ) (stood : List I) (t : Stage) (n : ℕ) → t ≡ Has n → HasTurnAt log serving stood t → n ≡ serving
  had_ticket log serving stood Idle n e h = absurd (cc)
  had_ticket log serving stood (Waits m) n e h = absurd (cc)
  had_ticket log serving stood (Has m) n e h = cc (h.0)

  -- a seat without the served ticket has no turn, whatever is served next
  other_turn : (log : List I) (serving : ℕ) (log' : List I) (serving' : ℕ) (stood : List I) (t : Stage) → times serving (tickets_of t) ≡ 0 → HasTurnAt log serving stood t → HasTurnAt log' serving' stood t
  other_turn log serving log' serving' stood Idle not h = tt
  other_turn log serving log' serving' stood (Waits n) not h = tt
  other_turn log serving log' serving' stood (Has n) not h = let o : times serving (n ∷ []) ≡ 1 = ap (λ m. times serving (m ∷ [])) h.0 ∙ one_time serving in absurd (omega arith)

pub some_same : {A : Type 0} {a b : A} → Some a ≡ Some b → a ≡ b
some_same e = cc e

module _ {S : Type 0} where
  pub had_taken : (newest : S) (took : Option S) (t : Stage) {n : ℕ} → t ≡ Has n → HasTaken newest took t → took ≡ Some newest
  had_taken newest took Idle e h = absurd (cc)
  had_taken newest took (Waits n) e h = absurd (cc)
  had_taken newest took (Has n) e h = h

module _ {S I : Type 0} where
  -- a seat without the served ticket has taken nothing
  other_taken : (log : List I) (serving : ℕ) (stood : List I) (newest newest' : S) (took : Option S) (t : Stage) → times serving (tickets_of t) ≡ 0 → HasTurnAt log serving stood t → HasTaken newest' took t
  other_taken log serving stood newest newest' took Idle not h = tt
  other_taken log serving stood newest newest' took (Waits n) not h = tt
  other_taken log serving stood newest newest' took (Has n) not h = let o : times serving (n ∷ []) ≡ 1 = ap (λ m. times serving (m ∷ [])) h.0 ∙ one_time serving in absurd (omega arith)

module _ {S I Q : Type 0} (items : S → List I) (root : S → Q) (later : S → S → Type 0) (keeping : S → Type 0) (first : S) where
  abbrev pub V : Type 0
  V = View S I Q

  abbrev pub St : Type 0
  St = State (Option S) V

  abbrev pub Here : Type 0
  Here = Me (Option S) V

  abbrev pub Stands : ℕ → ℕ → List I → St → Type 0
  Stands ticket serving log s = Standing items root later keeping first ticket serving log s

  abbrev pub Turns : St → Type 0
  Turns = Turning items root later keeping first

  abbrev pub state : List ℕ → List (Home (Option S)) → List V → St
  state ws hs vs = record { words = ws; homes = hs; views = vs }

  -- a view whose history stays, and whose parts stay, changes nothing of who has seen the whole
  whole_set : (log : List I) (views : List V) (id : ℕ) (v w : V) → get_elem? views id ≡ some v → (v.seen ≡ log → w.seen ≡ log) → w.age ≡ v.age → 0 < w.parts
      → (round : ℕ) → IsSeenWhole items root later keeping first 0 0 log round views → IsSeenWhole items root later keeping first 0 0 log round (set views id w)
  whole_set log views id v w at kept same_age some_part round all = dite (ℕ_discrete all.0 id)
      (λ (here : all.0 ≡ id). (id, w, set_here views id w (within_list views id v at), some_part, kept (ap (λ (u : V). u.seen) (some-injective _ _ (sym at ∙ (ap (λ n. get_elem? views n) (sym here) ∙ all.2))) ∙ all.4), same_age ∙ (ap (λ (u : V). u.age) (some-injective _ _ (sym at ∙ (ap (λ n. get_elem? views n) (sym here) ∙ all.2))) ∙ all.5)))
      (λ (else : all.0 ≢ id). (all.0, all.1, set_else views id all.0 w else ∙ all.2, all.3, all.4, all.5))

  read_set : (views : List V) (id : ℕ) (w : V) → (0 < w.parts → IsSeen items w.saw w.seen) → IsRead items root later keeping views → IsRead items root later keeping (set views id w)
  read_set views id w here all = each_set (λ (u : V). 0 < u.parts → IsSeen items u.saw u.seen) views id w here (λ j u _ au. all j u au)

  -- what was seen earlier begins what was seen later
  seen_begins : ((x z : S) → later x z → IsPrefix (items x) (items z)) → (a b : Option S) (xs ys : List I) → IsSeen items a xs → IsSeen items b ys → Before later a b → IsPrefix xs ys
  seen_begins begins a b xs ys p q o =
      let e : p.0 ≡ o.0 = some_same (sym p.1 ∙ o.2) in
      let f : q.0 ≡ o.1 = some_same (sym q.1 ∙ o.3) in
      let g : items o.0 ≡ xs = ap items (sym e) ∙ p.2 in
      let h : items o.1 ≡ ys = ap items (sym f) ∙ q.2 in
      subst (λ l. IsPrefix l ys) g (subst (λ l. IsPrefix (items o.0) l) h (begins o.0 o.1 o.4))

  -- a seat that knows the same was there before
  abbrev Source : List V → V → Type 0
  Source views u = (j : ℕ) × (x : V) × (get_elem? views j ≡ some x) × (0 < x.parts) × (u.saw ≡ x.saw) × (u.age ≡ x.age)

  source_set : (views : List V) (id : ℕ) (v w : V) → get_elem? views id ≡ some v → 0 < v.parts → w.saw ≡ v.saw → w.age ≡ v.age → (j : ℕ) (u : V) → get_elem? (set views id w) j ≡ some u → 0 < u.parts → Source views u
  source_set views id v w at live saw age = each_set (λ (u : V). 0 < u.parts → Source views u) views id w (λ _. (id, v, at, live, saw, age)) (λ j u _ au some. (j, u, au, some, refl, refl))

  ordered_from : (old new : List V) → ((j : ℕ) (u : V) → get_elem? new j ≡ some u → 0 < u.parts → Source old u) → IsOrdered items root later keeping old → IsOrdered items root later keeping new
  ordered_from old new source k i j a b ai bj la lb le =
      let p = source i a ai la in let q = source j b bj lb in
      let e = p.5 in let f = q.5 in
      let o = k p.0 q.0 p.1 q.1 p.2 q.2 p.3 q.3 (omega arith) in
      subst (λ z. Before later z b.saw) (sym p.4) (subst (λ z. Before later p.1.saw z) (sym q.4) o)

  module _ (ticket serving : ℕ) (log : List I) (s : St) (k : Stands ticket serving log s) (id : ℕ) (v : V) (at : get_elem? s.views id ≡ some v) where
    -- a step that changes no word and no view
    pub same_stands : (ws : List ℕ) → ws ≡ ticket ∷ serving ∷ length log ∷ [] → Stands ticket serving log (state ws s.homes (set s.views id v))
    same_stands ws e = let P : List V → Type 0 = λ vs. Stands ticket serving log (state ws s.homes vs) in subst P (sym (set_again s.views id v at))
        record { newest = k.newest; round = k.round; is_log = k.is_log; is_root = k.is_root; kept = k.kept; words = e; served = k.served; room = k.room; begun = k.begun; tickets = k.tickets; places = k.places; parts = k.parts; whole = k.whole; ordered = k.ordered; read = k.read; each = k.each; home = k.home }

    -- the next ticket is drawn
    pub draw_stands : v.stage ≡ Idle → 0 < v.parts → ticket + 1 < 2 ^ 64 → (ws : List ℕ) → ws ≡ (ticket + 1) ∷ serving ∷ length log ∷ [] → Stands (ticket + 1) serving log (state ws s.homes (set s.views id (waits v ticket)))
    draw_stands idle some_part room ws e = let w : V = waits v ticket in let fit = k.each id v at in record {
      newest = k.newest;
      round = k.round;
      is_log = k.is_log;
      is_root = k.is_root;
      kept = k.kept;
      words = e;
      served = let h = k.served in omega arith;
      room = room;
      begun = k.begun;
      tickets = λ n.
          let c = total-set (λ (u : V). times n (tickets_of u.stage)) s.views id v w at in
          let none_yet : times n (tickets_of v.stage) ≡ 0 = ap (λ t. times n (tickets_of t)) idle in
          let t = k.tickets n in
          let m = within_more serving ticket (ticket + 1) n k.served (omega arith) in
          let o = within_one ticket n in omega arith;
      places = λ p. let c = total-set (λ (u : V). times p u.own) s.views id v w at in let t = k.places p in omega arith;
      parts = let c = total-set (λ (u : V). u.parts) s.views id v w at in let t = k.parts in omega arith;
      whole = whole_set log s.views id v w at (λ h. h) refl some_part k.round k.whole;
      ordered = ordered_from s.views (set s.views id w) (source_set s.views id v w at some_part refl refl) k.ordered;
      read = read_set s.views id w (λ _. k.read id v at some_part) k.read;
      each = each_set (Fits later log serving (root first) (length (items first)) k.newest k.round) s.views id w
          record { seen = fit.seen; stood = fit.stood; turn = tt; live = fit.live; saw = fit.saw; age = fit.age; last = fit.last; settled = λ _. tt; took = tt; spent = λ none. absurd (omega arith) } (λ j u _ au. k.each j u au);
      home = λ none. let c = total-set (λ (u : V). turns_of u.stage) s.views id v w at in let t : turns_of v.stage ≡ 0 = ap turns_of idle in k.home (omega arith);
    }

    -- where a seat has the ticket that is served and not yet the turn, no seat has the turn
    pub no_turn : v.stage ≡ Waits serving → total (λ (u : V). turns_of u.stage) s.views ≡ 0
    no_turn waiting =
        let F : V → ℕ = λ u. turns_of u.stage in
        let G : V → ℕ = λ u. times serving (tickets_of u.stage) in
        let less : (j : ℕ) (u : V) → get_elem? s.views j ≡ some u → F u ≤ G u = λ j u au. turn_ticket log serving u.stood u.stage (k.each j u au).turn in
        let b = total_below F G s.views id v at less in
        let none_yet : F v ≡ 0 = ap turns_of waiting in
        let one : G v ≡ 1 = ap (λ t. times serving (tickets_of t)) waiting ∙ one_time serving in
        let t : total G s.views ≡ within serving ticket serving = k.tickets serving in
        let m = within_one_at_most serving ticket serving in omega arith

    -- a seat with all parts has seen the whole history
    pub alone_saw : v.parts ≡ 64 → (log ≡ v.seen) × (v.age ≡ k.round)
    alone_saw all = let w = k.whole in dite (ℕ_discrete w.0 id)
        (λ (here : w.0 ≡ id).
        let same : v ≡ w.1 = some-injective _ _ (sym at ∙ (ap (λ n. get_elem? s.views n) (sym here) ∙ w.2)) in (sym (ap (λ (u : V). u.seen) same ∙ w.4), ap (λ (u : V). u.age) same ∙ w.5))
        (λ (else : w.0 ≢ id). let t = two_of (λ (u : V). u.parts) s.views id w.0 v w.1 at w.2 else in let p = k.parts in let q = w.3 in absurd (omega arith))

    -- the turn comes to the seat whose ticket is served
    pub look_stands : v.stage ≡ Waits serving → 0 < v.parts → (ws : List ℕ) → ws ≡ ticket ∷ serving ∷ length log ∷ [] → Stands ticket serving log (state ws (set s.homes 0 none) (set s.views id (takes v serving log k.newest)))
    look_stands waiting some_part ws e = let w : V = takes v serving log k.newest in let fit = k.each id v at in record {
      newest = k.newest;
      round = k.round;
      is_log = k.is_log;
      is_root = k.is_root;
      kept = k.kept;
      words = e;
      served = k.served;
      room = k.room;
      begun = k.begun;
      tickets = λ n.
          let c = total-set (λ (u : V). times n (tickets_of u.stage)) s.views id v w at in
          let same_ticket : times n (tickets_of v.stage) ≡ times n (tickets_of w.stage) = ap (λ t. times n (tickets_of t)) waiting in
          let t = k.tickets n in omega arith;
      places = λ p. let c = total-set (λ (u : V). times p u.own) s.views id v w at in let t = k.places p in omega arith;
      parts = let c = total-set (λ (u : V). u.parts) s.views id v w at in let t = k.parts in omega arith;
      whole = whole_set log s.views id v w at (λ h. h) refl some_part k.round k.whole;
      ordered = ordered_from s.views (set s.views id w) (source_set s.views id v w at some_part refl refl) k.ordered;
      read = read_set s.views id w (λ _. k.read id v at some_part) k.read;
      each = each_set (Fits later log serving (root first) (length (items first)) k.newest k.round) s.views id w
          record { seen = fit.seen; stood = prefix_self log; turn = (refl, refl); live = fit.live; saw = fit.saw; age = fit.age; last = fit.last; settled = λ _. tt; took = refl; spent = λ none. absurd (omega arith) } (λ j u _ au. k.each j u au);
      home = λ none. let c = total-set (λ (u : V). turns_of u.stage) s.views id v w at in let t : turns_of v.stage ≡ 0 = ap turns_of waiting in absurd (omega arith);
    }

    -- where this seat has the turn, no other seat has it
    pub only_one : v.stage ≡ Has serving → (log' : List I) (serving' : ℕ) (j : ℕ) (u : V) → j ≢ id → get_elem? s.views j ≡ some u → HasTurnAt log' serving' u.stood u.stage
    only_one has log' serving' j u apart au =
        let G : V → ℕ = λ u. times serving (tickets_of u.stage) in
        let two = two_of G s.views id j v u at au apart in
        let one : G v ≡ 1 = ap (λ t. times serving (tickets_of t)) has ∙ one_time serving in
        let t : total G s.views ≡ within serving ticket serving = k.tickets serving in
        let m = within_one_at_most serving ticket serving in
        other_turn log serving log' serving' u.stood u.stage (omega arith) (k.each j u au).turn

    only_taken : v.stage ≡ Has serving → (newest' : S) (j : ℕ) (u : V) → j ≢ id → get_elem? s.views j ≡ some u → HasTaken newest' u.took u.stage
    only_taken has newest' j u apart au =
        let G : V → ℕ = λ u. times serving (tickets_of u.stage) in
        let two = two_of G s.views id j v u at au apart in
        let one : G v ≡ 1 = ap (λ t. times serving (tickets_of t)) has ∙ one_time serving in
        let t : total G s.views ≡ within serving ticket serving = k.tickets serving in
        let m = within_one_at_most serving ticket serving in
        other_taken log serving u.stood k.newest newest' u.took u.stage (omega arith) (k.each j u au).turn

    -- the holder counts a longer history
    pub tally_stands : v.stage ≡ Has serving → 0 < v.parts → (log' : List I) → IsPrefix log log' → (y : S) → items y ≡ log' → root y ≡ root first → keeping y → later y y → ((x : S) → later x k.newest → later x y) → (ws : List ℕ) → ws ≡ ticket ∷ serving ∷ length log' ∷ [] → Stands ticket serving log' (state ws s.homes (set s.views id (counts v log' y (k.round + 1))))
    tally_stands has some_part log' more y y_log y_root y_kept y_same onward ws e = let w : V = counts v log' y (k.round + 1) in let fit = k.each id v at in
        let le = prefix_length log log' more in
        let here : v.stood ≡ log = had_log log serving v.stood v.stage has fit.turn in
        record {
          newest = y;
          round = k.round + 1;
          is_log = y_log;
          is_root = y_root;
          kept = y_kept;
          words = e;
          served = k.served;
          room = k.room;
          begun = let b = k.begun in omega arith;
          tickets = λ n. let c = total-set (λ (u : V). times n (tickets_of u.stage)) s.views id v w at in let t = k.tickets n in omega arith;
          places = λ p.
              let c = total-set (λ (u : V). times p u.own) s.views id v w at in
              let t = k.places p in
              let a = times-append p v.own (rising (length v.stood) (length log' - length v.stood)) in
              let r = times-rising p (length v.stood) (length log' - length v.stood) in
              let l : length v.stood ≡ length log = ap length here in
              let l' : length v.stood + (length log' - length v.stood) ≡ length log' = omega arith in
              let r' : within (length v.stood) (length v.stood + (length log' - length v.stood)) p ≡ within (length log) (length log') p = rw l' (rw l refl) in
              let m = within_more (length (items first)) (length log) (length log') p k.begun le in omega arith;
          parts = let c = total-set (λ (u : V). u.parts) s.views id v w at in let t = k.parts in omega arith;
          whole = (id, w, set_here s.views id w (within_list s.views id v at), some_part, refl, refl);
          ordered = λ i j a b ai bj la lb le. ⊎_elim
              (λ (p : (i ≡ id) × (w ≡ a)). ⊎_elim
              (λ (q : (j ≡ id) × (w ≡ b)). subst (λ (x : V). Before later x.saw b.saw) p.1 (subst (λ (x : V). Before later w.saw x.saw) q.1 (y, y, refl, refl, y_same)))
              (λ (q : (j ≢ id) × (get_elem? s.views j ≡ some b)). let f = (k.each j b q.1).age in let e : k.round + 1 ≡ a.age = ap (λ (x : V). x.age) p.1 in absurd (omega arith))
              (at_set s.views id j w b bj))
              (λ (p : (i ≢ id) × (get_elem? s.views i ≡ some a)). ⊎_elim
              (λ (q : (j ≡ id) × (w ≡ b)). subst (λ (x : V). Before later a.saw x.saw) q.1 (let g = (k.each i a p.1).saw la in (g.0, y, g.1, refl, onward g.0 g.2)))
              (λ (q : (j ≢ id) × (get_elem? s.views j ≡ some b)). k.ordered i j a b p.1 q.1 la lb le)
              (at_set s.views id j w b bj))
              (at_set s.views id i w a ai);
          read = read_set s.views id w (λ _. (y, refl, y_log)) k.read;
          each = each_set (Fits later log' serving (root first) (length (items first)) y (k.round + 1)) s.views id w
              record { seen = prefix_self log'; stood = prefix_self log'; turn = subst (λ t. HasTurnAt log' serving log' t) (sym has) (refl, refl); live = fit.live; saw = λ _. (y, refl, y_same); age = omega arith; last = λ _ _. refl; settled = λ _. subst (λ t. IsSettled later (Some y) (Some y) t) (sym has) tt; took = subst (λ t. HasTaken y (Some y) t) (sym has) refl; spent = λ none. absurd (omega arith) }
              (λ j u apart au. let f = k.each j u au in record { seen = prefix_trans _ _ _ f.seen more; stood = prefix_trans _ _ _ f.stood more; turn = only_one has log' serving j u apart au; live = f.live; saw = λ some. let g = f.saw some in (g.0, g.1, onward g.0 g.2); age = let h = f.age in omega arith; last = λ _ e. let h = f.age in absurd (omega arith); settled = f.settled; took = only_taken has y j u apart au; spent = f.spent });
          home = λ none. let c = total-set (λ (u : V). turns_of u.stage) s.views id v w at in let o = one_of (λ (u : V). turns_of u.stage) s.views id v at in let t : turns_of v.stage ≡ 1 = ap turns_of has in absurd (omega arith);
        }

    pub turn_below : v.stage ≡ Has serving → serving < ticket
    turn_below has =
        let one : times serving (tickets_of v.stage) ≡ 1 = ap (λ t. times serving (tickets_of t)) has ∙ one_time serving in
        let o = one_of (λ (u : V). times serving (tickets_of u.stage)) s.views id v at in
        let t = k.tickets serving in within_there serving ticket serving (omega arith)

    -- the holder, which has seen all, hands the turn on, with the value at home
    pub pass_stands : v.stage ≡ Has serving → 0 < v.parts → (x : S) → x ≡ k.newest → Before later v.took v.saw → (hs : List (Home (Option S))) → get_elem? hs 0 ≡ some (some (Some x))
        → (ws : List ℕ) → ws ≡ ticket ∷ (serving + 1) ∷ length log ∷ [] → Stands ticket (serving + 1) log (state ws hs (set s.views id (passes v)))
    pass_stands has some_part x is settled hs home ws e = let w : V = passes v in let fit = k.each id v at in
        let below = turn_below has in
        record {
          newest = k.newest;
          round = k.round;
          is_log = k.is_log;
          is_root = k.is_root;
          kept = k.kept;
          words = e;
          served = omega arith;
          room = k.room;
          begun = k.begun;
          tickets = λ n.
              let c = total-set (λ (u : V). times n (tickets_of u.stage)) s.views id v w at in
              let mine : times n (tickets_of v.stage) ≡ same n serving + 0 = ap (λ t. times n (tickets_of t)) has in
              let t = k.tickets n in
              let m = within_more serving (serving + 1) ticket n (omega arith) (omega arith) in
              let o = within_one serving n in omega arith;
          places = λ p. let c = total-set (λ (u : V). times p u.own) s.views id v w at in let t = k.places p in omega arith;
          parts = let c = total-set (λ (u : V). u.parts) s.views id v w at in let t = k.parts in omega arith;
          whole = whole_set log s.views id v w at (λ h. h) refl some_part k.round k.whole;
          ordered = ordered_from s.views (set s.views id w) (source_set s.views id v w at some_part refl refl) k.ordered;
          read = read_set s.views id w (λ _. k.read id v at some_part) k.read;
          each = each_set (Fits later log (serving + 1) (root first) (length (items first)) k.newest k.round) s.views id w
              record { seen = fit.seen; stood = fit.stood; turn = tt; live = fit.live; saw = fit.saw; age = fit.age; last = fit.last; settled = λ _. settled; took = tt; spent = λ none. absurd (omega arith) }
              (λ j u apart au. let f = k.each j u au in record { seen = f.seen; stood = f.stood; turn = only_one has log (serving + 1) j u apart au; live = f.live; saw = f.saw; age = f.age; last = f.last; settled = f.settled; took = only_taken has k.newest j u apart au; spent = f.spent });
          home = λ none. (x, home, ap items is ∙ k.is_log, ap root is ∙ k.is_root, is);
        }

    -- a part goes to a new seat
    pub split_stands : v.stage ≡ Idle → 1 < v.parts → Stands ticket serving log (state s.words s.homes (set s.views id (gives_part v) ++ one_part v ∷ []))
    split_stands idle parts = let l : V = gives_part v in let r : V = one_part v in let fit = k.each id v at in let vs : List V = set s.views id l in record {
      newest = k.newest;
      round = k.round;
      is_log = k.is_log;
      is_root = k.is_root;
      kept = k.kept;
      words = k.words;
      served = k.served;
      room = k.room;
      begun = k.begun;
      tickets = λ n.
          let c = total-set (λ (u : V). times n (tickets_of u.stage)) s.views id v l at in
          let d = total-push (λ (u : V). times n (tickets_of u.stage)) vs r in
          let t = k.tickets n in omega arith;
      places = λ p. let c = total-set (λ (u : V). times p u.own) s.views id v l at in let d = total-push (λ (u : V). times p u.own) vs r in let t = k.places p in omega arith;
      parts = let c = total-set (λ (u : V). u.parts) s.views id v l at in let d = total-push (λ (u : V). u.parts) vs r in let t = k.parts in omega arith;
      whole = let h = whole_set log s.views id v l at (λ h. h) refl (omega arith) k.round k.whole in (h.0, h.1, at_longer vs (r ∷ []) h.0 h.1 h.2, h.3, h.4, h.5);
      ordered = ordered_from s.views (vs ++ r ∷ [])
          (λ j u au. ⊎_elim (source_set s.views id v l at (omega arith) refl refl j u) (λ (t : r ≡ u). subst (λ (x : V). 0 < x.parts → Source s.views x) t (λ _. (id, v, at, omega arith, refl, refl))) (at_snoc vs r u j au))
          k.ordered;
      read = λ j u au. ⊎_elim (read_set s.views id l (λ _. k.read id v at (omega arith)) k.read j u) (λ (t : r ≡ u). subst (λ (x : V). 0 < x.parts → IsSeen items x.saw x.seen) t (λ _. k.read id v at (omega arith))) (at_snoc vs r u j au);
      each = λ j u au. ⊎_elim
          (each_set (Fits later log serving (root first) (length (items first)) k.newest k.round) s.views id l
          record { seen = fit.seen; stood = fit.stood; turn = fit.turn; live = λ _. fit.live (omega arith); saw = λ _. fit.saw (omega arith); age = fit.age; last = λ _. fit.last (omega arith); settled = λ _. fit.settled (omega arith); took = fit.took; spent = λ none. absurd (omega arith) } (λ j u _ au. k.each j u au) j u)
          (λ (t : r ≡ u). subst (Fits later log serving (root first) (length (items first)) k.newest k.round) t
          record { seen = fit.seen; stood = fit.stood; turn = tt; live = λ _. fit.live (omega arith); saw = λ _. fit.saw (omega arith); age = fit.age; last = λ _. fit.last (omega arith); settled = λ _. subst (λ t. IsSettled later v.took v.saw t) idle (fit.settled (omega arith)); took = tt; spent = λ none. absurd (omega arith) })
          (at_snoc vs r u j au);
      home = λ none. let c = total-set (λ (u : V). turns_of u.stage) s.views id v l at in let d = total-push (λ (u : V). turns_of u.stage) vs r in k.home (omega arith);
    }

    -- two free seats become one
    pub join_stands : (other : ℕ) (u : V) → v.stage ≡ Idle → u.stage ≡ Idle → 0 < v.parts → 0 < u.parts → ((x z : S) → later x z → IsPrefix (items x) (items z)) → other ≢ id → get_elem? s.views other ≡ some u
        → Stands ticket serving log (state s.words s.homes (set (set s.views id (joined v u)) other spent))
    join_stands other u idle idle' some_part other_part begins apart au =
        let w : V = joined v u in let z : V = spent in let vs : List V = set s.views id w in
        let fit = k.each id v at in let fit' = k.each other u au in
        let there : get_elem? vs other ≡ some u = set_else s.views id other w apart ∙ au in
        let in_order : Before later (of_later v.age u.age u.saw v.saw) (of_later v.age u.age v.saw u.saw) =
        ⊎_elim (λ (t : (nat_le v.age u.age ≡ true) × (v.age ≤ u.age)). rw t.0 (k.ordered id other v u at au some_part other_part t.1))
        (λ (t : (nat_le v.age u.age ≡ false) × (u.age < v.age)). rw t.0 (k.ordered other id u v au at other_part some_part (let h = t.1 in omega arith))) (leb_tells v.age u.age) in
        let joined_read : IsSeen items (of_later v.age u.age v.saw u.saw) (longer v.seen u.seen) =
        let mine = k.read id v at some_part in
        let theirs = k.read other u au other_part in
        ⊎_elim (λ (t : (nat_le v.age u.age ≡ true) × (v.age ≤ u.age)).
        let more = longer_right v.seen u.seen u.seen (seen_begins begins v.saw u.saw v.seen u.seen mine theirs (k.ordered id other v u at au some_part other_part t.1)) refl in
        (theirs.0, rw t.0 theirs.1, theirs.2 ∙ sym more))
        (λ (t : (nat_le v.age u.age ≡ false) × (u.age < v.age)).
        let more = longer_left v.seen u.seen v.seen refl (seen_begins begins u.saw v.saw u.seen v.seen theirs mine (k.ordered other id u v au at other_part some_part (let h = t.1 in omega arith))) in
        (mine.0, rw t.0 mine.1, mine.2 ∙ sym more)) (leb_tells v.age u.age) in
        let both = either_of (λ l. IsPrefix l log) v.seen u.seen fit.seen fit'.seen in
        record {
          newest = k.newest;
          round = k.round;
          is_log = k.is_log;
          is_root = k.is_root;
          kept = k.kept;
          words = k.words;
          served = k.served;
          room = k.room;
          begun = k.begun;
          tickets = λ n.
              let c = total-set (λ (x : V). times n (tickets_of x.stage)) s.views id v w at in
              let d = total-set (λ (x : V). times n (tickets_of x.stage)) vs other u z there in
              let none' : times n (tickets_of u.stage) ≡ 0 = ap (λ t. times n (tickets_of t)) idle' in
              let t = k.tickets n in omega arith;
          places = λ p.
              let c = total-set (λ (x : V). times p x.own) s.views id v w at in
              let d = total-set (λ (x : V). times p x.own) vs other u z there in
              let a = times-append p v.own u.own in let t = k.places p in omega arith;
          parts = let c = total-set (λ (x : V). x.parts) s.views id v w at in let d = total-set (λ (x : V). x.parts) vs other u z there in let t = k.parts in omega arith;
          whole = let h = k.whole in dite (ℕ_discrete h.0 id)
              (λ (here : h.0 ≡ id).
              let same : v ≡ h.1 = some-injective _ _ (sym at ∙ (ap (λ n. get_elem? s.views n) (sym here) ∙ h.2)) in
              let is : v.seen ≡ log = ap (λ (x : V). x.seen) same ∙ h.4 in
              let is_age : v.age ≡ k.round = ap (λ (x : V). x.age) same ∙ h.5 in
              (id, w, set_else vs other id z (λ e. apart (sym e)) ∙ set_here s.views id w (within_list s.views id v at), omega arith, longer_left v.seen u.seen log is fit'.seen, older_left v.age u.age k.round is_age fit'.age))
              (λ (else : h.0 ≢ id). dite (ℕ_discrete h.0 other)
              (λ (here : h.0 ≡ other).
              let same : u ≡ h.1 = some-injective _ _ (sym au ∙ (ap (λ n. get_elem? s.views n) (sym here) ∙ h.2)) in
              let is : u.seen ≡ log = ap (λ (x : V). x.seen) same ∙ h.4 in
              let is_age : u.age ≡ k.round = ap (λ (x : V). x.age) same ∙ h.5 in
              (id, w, set_else vs other id z (λ e. apart (sym e)) ∙ set_here s.views id w (within_list s.views id v at), omega arith, longer_right v.seen u.seen log fit.seen is, older_right v.age u.age k.round fit.age is_age))
              (λ (else' : h.0 ≢ other). (h.0, h.1, set_else vs other h.0 z else' ∙ (set_else s.views id h.0 w else ∙ h.2), h.3, h.4, h.5)));
          ordered = ordered_from s.views (set vs other z)
              (λ j x ax. each_set (λ (x : V). 0 < x.parts → Source s.views x) vs other z (λ some. absurd (omega arith))
              (λ j x _ ax. each_set (λ (x : V). 0 < x.parts → Source s.views x) s.views id w
              (λ _. of_either_at (λ o n. (j : ℕ) × (x : V) × (get_elem? s.views j ≡ some x) × (0 < x.parts) × (o ≡ x.saw) × (n ≡ x.age)) v.age u.age v.saw u.saw (id, v, at, some_part, refl, refl) (other, u, au, other_part, refl, refl))
              (λ j x _ ax some. (j, x, ax, some, refl, refl)) j x ax) j x ax)
              k.ordered;
          read = read_set vs other z (λ some. absurd (omega arith)) (read_set s.views id w (λ _. joined_read) k.read);
          each = each_set (Fits later log serving (root first) (length (items first)) k.newest k.round) vs other z
              record { seen = prefix_nil log; stood = prefix_nil log; turn = tt; live = λ some. absurd (omega arith); saw = λ some. absurd (omega arith); age = omega arith; last = λ some. absurd (omega arith); settled = λ some. absurd (omega arith); took = tt; spent = λ _. (refl, refl) }
              (λ j x _ ax. each_set (Fits later log serving (root first) (length (items first)) k.newest k.round) s.views id w
              record { seen = both.0; stood = both.1; turn = subst (λ t. HasTurnAt log serving (shorter v.seen u.seen) t) (sym idle) tt; live = λ _. fit.live some_part; saw = λ _. of_either (λ a. GoesOn later a k.newest) v.age u.age v.saw u.saw (fit.saw some_part) (fit'.saw other_part); age = of_either (λ n. n ≤ k.round) v.age u.age v.age u.age fit.age fit'.age; last = λ _. of_either_at (λ a n. n ≡ k.round → a ≡ Some k.newest) v.age u.age v.saw u.saw (fit.last some_part) (fit'.last other_part); settled = λ _. subst (λ t. IsSettled later w.took w.saw t) (sym idle) in_order; took = subst (λ t. HasTaken k.newest w.took t) (sym idle) tt; spent = λ none. absurd (omega arith) }
              (λ j x _ ax. k.each j x ax) j x ax);
          home = λ none.
              let c = total-set (λ (x : V). turns_of x.stage) s.views id v w at in
              let d = total-set (λ (x : V). turns_of x.stage) vs other u z there in
              let t : turns_of u.stage ≡ 0 = ap turns_of idle' in k.home (omega arith);
        }
