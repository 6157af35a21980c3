-- What each call of the table asks.
use Rattle.std.proofs.Common.{◌≡◌, ◌≢◌, ℕ, zero, suc, ◌+◌, ◌%◌, ◌^◌, ◌<◌, eqb, List, [], ◌∷◌, length, get_or, set, Option, Some, sym, refl, ap, ◌∙◌, subst, arith, eq-eqb, ne_eqb}
use mathlib.Core.Option.{some, none, some-injective}
use mathlib.Core.List.{IsPrefix}
use mathlib.Core.Logic.{dite}
use native.Mathlib.Decide.{ℕ_discrete}
use lib.ListN.{get_elem?}
use prog.Atomic.{either}
use Rattle.atomic_table.specs.Table.{step, stepped, keeps, takes as taking, gives, put_back, opening, Allows, Splits, Joins, Final, Seen}
use Rattle.atomic_table.proofs.Lists.{set_here, set_else}
use Rattle.hv_turn.specs.declared.view.Stage.TheVariants.{Idle, Waits, Has}
use Rattle.hv_turn.specs.declared.view.View.{View}
use Rattle.hv_turn.specs.Counts.{total, times, within}
use Rattle.hv_turn.specs.Views.{turns_of, spent, waits, takes, counts, passes, gives_part, one_part, joined, Fits, GoesOn, Before, IsSettled, IsSeen}
use Rattle.hv_turn.specs.Order.{beginning, Turning, draws, looks, tallies, hands_on, settles}
use Rattle.hv_turn.proofs.CountLemmas.{two_of, total_alone, within_empty}
use Rattle.hv_turn.proofs.Prefixes.{prefix_self, prefix_nil, prefix_shorter}
use Rattle.hv_turn.proofs.Steps.{St, Here, Turns, same_stands, draw_stands, no_turn, alone_saw, look_stands, tally_stands, turn_below, pass_stands, split_stands, join_stands, had_log, had_ticket, had_taken, some_same}

heads : {A : Type 0} (a b : A) (xs ys : List A) → a ∷ xs ≡ b ∷ ys → a ≡ b
heads a b xs ys e = cc e

-- the one slot has one value
pub one_value : {A : Type 0} (l : List (ℕ × Option A)) (n : ℕ) (a b : A) → l ≡ (n, Some a) ∷ [] → l ≡ (n, Some b) ∷ [] → a ≡ b
one_value l n a b e f = let g : Some a ≡ Some b = ap (λ p. p.1) (heads (n, Some a) (n, Some b) [] [] (sym e ∙ f)) in cc g

-- what was taken out of the slot and unwrapped is the value that lay there
pub found_value : {A : Type 0} (slots : List (Option A)) (o : Option A) (a b : A) → get_elem? slots 0 ≡ some o → get_elem? slots 0 ≡ some (Some a) → o ≡ Some b → a ≡ b
found_value slots o a b at home is = let e : o ≡ Some a = some-injective _ _ (sym at ∙ home) in cc (e, is)

module _ {S I Q : Type 0} (items : S → List I) (root : S → Q) (later : S → S → Type 0) (keeping : S → Type 0) (first : S) where
  abbrev T : St items root later keeping first → Type 0
  T = Turns items root later keeping first

  each_of_one : (v : View S I Q) → Fits later (items first) 0 (root first) (length (items first)) first 0 v → (j : ℕ) (u : View S I Q) → get_elem? (v ∷ []) j ≡ some u → Fits later (items first) 0 (root first) (length (items first)) first 0 u
  each_of_one v fit zero u at = subst (Fits later (items first) 0 (root first) (length (items first)) first 0) (cc at) fit
  each_of_one v fit (suc j) u at = absurd (cc at)

  only : (v : View S I Q) (j : ℕ) (u : View S I Q) → get_elem? (v ∷ []) j ≡ some u → v ≡ u
  only v zero u at = cc at
  only v (suc j) u at = absurd (cc at)

  pub starts : later first first → keeping first → T (opening (0 ∷ 0 ∷ length (items first) ∷ []) (Some first ∷ []) (beginning items root later keeping first))
  unfolding Turning
  starts same kept = let l : List I = items first in (
    0,
    0,
    l,
    record {
      newest = first;
      round = 0;
      is_log = refl;
      is_root = refl;
      kept = kept;
      words = refl;
      served = omega arith;
      room = omega arith;
      begun = omega arith;
      tickets = λ n. sym (within_empty 0 n);
      places = λ p. sym (within_empty (length l) p);
      parts = refl;
      whole = (0, beginning items root later keeping first, refl, omega arith, refl, refl);
      ordered = λ i j a b ai bj la lb le. subst (λ (x : View S I Q). Before later x.saw b.saw) (only (beginning items root later keeping first) i a ai) (subst (λ (x : View S I Q). Before later (Some first) x.saw) (only (beginning items root later keeping first) j b bj) (first, first, refl, refl, same));
      read = λ j u au. subst (λ (x : View S I Q). 0 < x.parts → IsSeen items x.saw x.seen) (only (beginning items root later keeping first) j u au) (λ _. (first, refl, refl));
      each = each_of_one (beginning items root later keeping first) record { seen = prefix_self l; stood = prefix_nil l; turn = tt; live = λ _. (refl, refl); saw = λ _. (first, refl, same); age = omega arith; last = λ _ _. refl; settled = λ _. (first, first, refl, refl, same); took = tt; spent = λ none. absurd (omega arith) };
      home = λ _. (first, refl, refl, refl, refl);
    },
  )

  pub draws_allowed : (slots id : ℕ) (me : Here items root later keeping first) (old : ℕ) → me.0.stage ≡ Idle → 0 < me.0.parts → old + 1 < 2 ^ 64
      → Allows T slots id me 0 (λ n. either (eqb n old) (old + 1) n) (draws items root later keeping (step slots 0 old (old + 1) none) me)
  unfolding Turning
  draws_allowed slots id me old idle some_part room s h len at small =
      let ticket = h.0 in let serving = h.1 in let log = h.2 in let k = h.3 in
      let x : ℕ = get_or s.words 0 0 in
      let is : x ≡ ticket = ap (λ ws. get_or ws 0 0) k.words in
      dite (ℕ_discrete x old)
      (λ (hit : x ≡ old). (
        waits me.0 old,
        keeps,
        tt,
        subst (λ b. T (stepped s 0 (either b (old + 1) x) id me.1 (waits me.0 old) keeps)) (sym (eq-eqb x old hit))
            (subst (λ (n : ℕ). T (stepped s 0 (n + 1) id me.1 (waits me.0 n) keeps)) (sym is ∙ hit)
            (ticket + 1, serving, log, draw_stands items root later keeping first ticket serving log s k id me.0 at idle some_part (omega arith) (set s.words 0 (ticket + 1)) (ap (λ ws. set ws 0 (ticket + 1)) k.words))),
        ((λ _. refl), λ not. absurd (not hit)),
      ))
      (λ (miss : x ≢ old). (
        me.0,
        keeps,
        tt,
        subst (λ b. T (stepped s 0 (either b (old + 1) x) id me.1 me.0 keeps)) (sym (ne_eqb x old miss))
            (ticket, serving, log, same_stands items root later keeping first ticket serving log s k id me.0 at (set s.words 0 x) (ap (λ ws. set ws 0 (get_or ws 0 0)) k.words)),
        ((λ hit. absurd (miss hit)), λ _. refl),
      ))

  pub looks_allowed : (slots id : ℕ) (me : Here items root later keeping first) (mine : ℕ) → me.0.stage ≡ Waits mine → 0 < me.0.parts
      → Allows T slots id me 1 (λ n. n) (looks items root later keeping (step slots 1 0 0 none) me)
  unfolding Turning
  looks_allowed slots id me mine waiting some_part s h len at small =
      let ticket = h.0 in let serving = h.1 in let log = h.2 in let k = h.3 in
      let x : ℕ = get_or s.words 1 0 in
      let is : x ≡ serving = ap (λ ws. get_or ws 1 0) k.words in
      let e : set s.words 1 x ≡ ticket ∷ serving ∷ length log ∷ [] = ap (λ ws. set ws 1 (get_or ws 1 0)) k.words in
      dite (ℕ_discrete x mine)
      (λ (hit : x ≡ mine).
      let served : me.0.stage ≡ Waits serving = waiting ∙ ap Waits (sym hit ∙ is) in
      let home = k.home (no_turn items root later keeping first ticket serving log s k id me.0 at served) in
      let fit = k.each id me.0 at in (
        takes me.0 serving log k.newest,
        taking 0 (Some home.0),
        home.1,
        (ticket, serving, log, look_stands items root later keeping first ticket serving log s k id me.0 at served some_part (set s.words 1 x) e),
        λ mine' waiting'. (
          (λ hit'. record {
            value = home.0;
            slot = refl;
            view = ap (λ n. takes me.0 n log k.newest) (sym is ∙ hit') ∙ (ap (λ l. takes me.0 mine' l k.newest) (sym home.2) ∙ ap (λ x. takes me.0 mine' (items home.0) x) (sym home.4));
            begins = subst (λ l. IsPrefix me.0.seen l) (sym home.2) fit.seen;
            of_root = (fit.live some_part).0 ∙ ap Some (sym home.3);
            kept = subst keeping (sym home.4) k.kept;
            goes_on = subst (GoesOn later me.0.saw) (sym home.4) (fit.saw some_part);
            read = k.read id me.0 at some_part;
            alone = λ all. let w = alone_saw items root later keeping first ticket serving log s k id me.0 at all in (home.2 ∙ w.0, fit.last some_part w.1 ∙ ap Some (sym home.4));
          }),
          λ miss'. let same : mine ≡ mine' = cc (waiting, waiting') in absurd (miss' (hit ∙ same)),
        ),
      ))
      (λ (miss : x ≢ mine). (
        me.0,
        keeps,
        tt,
        (ticket, serving, log, same_stands items root later keeping first ticket serving log s k id me.0 at (set s.words 1 x) e),
        λ mine' waiting'. let same : mine ≡ mine' = cc (waiting, waiting') in ((λ hit'. absurd (miss (hit' ∙ sym same))), λ _. refl),
      ))

  pub tallies_allowed : (slots id : ℕ) (me : Here items root later keeping first) (mine : ℕ) (y : S) (n : ℕ) → me.0.stage ≡ Has mine → 0 < me.0.parts → me.1 ≡ (0, Some y) ∷ [] → IsPrefix me.0.stood (items y)
      → GoesOn later me.0.took y → keeping y → later y y → ((x z w : S) → later x z → later z w → later x w) → ((x z : S) → later x z → root x ≡ root z)
      → length me.0.stood + n ≡ length (items y) → length (items y) < 2 ^ 64 → Allows T slots id me 2 (λ m. (m + n) % 2 ^ 64) (tallies items root later keeping (step slots 2 n 0 none) me)
  unfolding Turning
  tallies_allowed slots id me mine y n has some_part out more went kept same_y onward alike longer fits s h len at small =
      let ticket = h.0 in let serving = h.1 in let log = h.2 in let k = h.3 in
      let fit = k.each id me.0 at in
      let here : me.0.stood ≡ log = had_log log serving me.0.stood me.0.stage has fit.turn in
      let served : me.0.stage ≡ Has serving = has ∙ ap Has (had_ticket log serving me.0.stood me.0.stage mine has fit.turn) in
      let from : went.0 ≡ k.newest = some_same (sym went.1 ∙ had_taken k.newest me.0.took me.0.stage has fit.took) in
      let next : later k.newest y = subst (λ z. later z y) from went.2 in
      let x : ℕ = get_or s.words 2 0 in
      let is : x ≡ length log = ap (λ ws. get_or ws 2 0) k.words in
      let l : length me.0.stood ≡ length log = ap length here in
      let sum : (x + n) % 2 ^ 64 ≡ length (items y) = omega arith in (
        counts me.0 (items y) y (k.round + 1),
        keeps,
        tt,
        (
          ticket,
          serving,
          items y,
          tally_stands items root later keeping first ticket serving log s k id me.0 at served some_part (items y) (subst (λ l. IsPrefix l (items y)) here more) y refl (sym (alike _ _ next) ∙ k.is_root) kept same_y (λ z before. onward _ _ _ before next) (set s.words 2 ((x + n) % 2 ^ 64))
              (ap (λ ws. set ws 2 ((x + n) % 2 ^ 64)) k.words ∙ ap (λ m. ticket ∷ serving ∷ m ∷ []) sum),
        ),
        λ y' out'. let same : y ≡ y' = one_value me.1 0 y y' out out' in (k.round + 1, ap (λ v. (counts me.0 (items v) v (k.round + 1), me.1)) same),
      )

  pub hands_on_allowed : (slots id : ℕ) (me : Here items root later keeping first) (mine : ℕ) (y : S) → me.0.stage ≡ Has mine → 0 < me.0.parts → me.1 ≡ (0, Some y) ∷ [] → me.0.took ≡ Some y → me.0.saw ≡ Some y → later y y → 0 < slots
      → Allows T slots id me 1 (λ n. (n + 1) % 2 ^ 64) (hands_on items root later keeping (step slots 1 1 0 none) me)
  unfolding Turning
  hands_on_allowed slots id me mine y has some_part out took saw self one_slot s h len at small =
      let ticket = h.0 in let serving = h.1 in let log = h.2 in let k = h.3 in
      let fit = k.each id me.0 at in
      let here : me.0.stood ≡ log = had_log log serving me.0.stood me.0.stage has fit.turn in
      let served : me.0.stage ≡ Has serving = has ∙ ap Has (had_ticket log serving me.0.stood me.0.stage mine has fit.turn) in
      let x : ℕ = get_or s.words 1 0 in
      let is : x ≡ serving = ap (λ ws. get_or ws 1 0) k.words in
      let below : serving < ticket = turn_below items root later keeping first ticket serving log s k id me.0 at served in
      let room : ticket < 2 ^ 64 = k.room in
      let next : (x + 1) % 2 ^ 64 ≡ serving + 1 = omega arith in
      let same_y : y ≡ k.newest = some_same (sym took ∙ had_taken k.newest me.0.took me.0.stage has fit.took) in
      let home : get_elem? (put_back s.homes me.1) 0 ≡ some (some (Some y)) = subst (λ c. get_elem? (put_back s.homes c) 0 ≡ some (some (Some y))) (sym out) (set_here s.homes 0 (some (Some y)) (omega arith)) in (
        passes me.0,
        gives,
        tt,
        (
          ticket,
          serving + 1,
          log,
          pass_stands items root later keeping first ticket serving log s k id me.0 at served some_part y same_y (y, y, took, saw, self) (put_back s.homes me.1) home (set s.words 1 ((x + 1) % 2 ^ 64))
              (ap (λ ws. set ws 1 ((x + 1) % 2 ^ 64)) k.words ∙ ap (λ m. ticket ∷ m ∷ length log ∷ []) next),
        ),
        refl,
      )

  pub splits_allowed : (id : ℕ) (v : View S I Q) → v.stage ≡ Idle → 1 < v.parts → Splits T id v (gives_part v) (one_part v)
  unfolding Turning
  splits_allowed id v idle parts s h at = (h.0, h.1, h.2, split_stands items root later keeping first h.0 h.1 h.2 s h.3 id v at idle parts)

  pub joins_allowed : (id : ℕ) (v : View S I Q) (other : ℕ) (w : View S I Q) → v.stage ≡ Idle → w.stage ≡ Idle → 0 < v.parts → 0 < w.parts → ((x z : S) → later x z → IsPrefix (items x) (items z)) → Joins T id v other w (joined v w) spent
  unfolding Turning
  joins_allowed id v other w idle idle' some_part other_part begins s h at apart there =
      (h.0, h.1, h.2, join_stands items root later keeping first h.0 h.1 h.2 s h.3 id v at other w idle idle' some_part other_part begins apart (sym (set_else s.views id other (joined v w) apart) ∙ there))

  pub settles_allowed : (slots id : ℕ) (me : Here items root later keeping first) → me.0.stage ≡ Idle → 0 < me.0.parts → Allows T slots id me 0 (λ n. n) (settles items root later keeping (step slots 0 0 0 none) me)
  unfolding Turning
  settles_allowed slots id me idle some_part s h len at small =
      let log = h.2 in let k = h.3 in let fit = k.each id me.0 at in (
        me.0,
        keeps,
        tt,
        (h.0, h.1, log, same_stands items root later keeping first h.0 h.1 log s k id me.0 at (set s.words 0 (get_or s.words 0 0)) (ap (λ ws. set ws 0 (get_or ws 0 0)) k.words)),
        (refl, prefix_shorter me.0.stood me.0.seen log fit.stood fit.seen, subst (λ t. IsSettled later me.0.took me.0.saw t) idle (fit.settled some_part)),
      )

  -- what the seat with all parts finds at the end
  pub record IsClosed (v : View S I Q) (slots : List (Option S)) : Type 0 where
    pub value : S
    pub home : get_elem? slots 0 ≡ some (Some value)
    pub whole : items value ≡ v.seen
    pub of_root : v.root ≡ Some (root value)
    pub kept : keeping value
    pub last : v.saw ≡ Some value
    pub places : (p : ℕ) → times p v.own ≡ within v.start (length (items value)) p

  pub closes : (id : ℕ) (v : View S I Q) (ws : List ℕ) (slots : List (Option S)) → Final (Seen T id v) ws slots → v.stage ≡ Idle → v.parts ≡ 64 → IsClosed v slots
  unfolding Turning
  closes id v ws slots end idle all =
      let s = end.0 in let h = end.1.0 in let at = end.1.1 in let log = h.2 in let k = h.3 in
      let fit = k.each id v at in
      let none_else : (j : ℕ) (u : View S I Q) → j ≢ id → get_elem? s.views j ≡ some u → u.parts ≡ 0 =
      λ j u apart au. let t = two_of (λ (x : View S I Q). x.parts) s.views id j v u at au apart in let p = k.parts in omega arith in
      let idle_turn : turns_of v.stage ≡ 0 = ap turns_of idle in
      let no_turn : total (λ (x : View S I Q). turns_of x.stage) s.views ≡ 0 =
      total_alone (λ (x : View S I Q). turns_of x.stage) s.views id v at (λ j u apart au. ap turns_of ((k.each j u au).spent (none_else j u apart au)).1) ∙ idle_turn in
      let home = k.home no_turn in
      let live = fit.live (omega arith) in
      let saw_all = alone_saw items root later keeping first h.0 h.1 log s k id v at all in
      record {
        value = home.0;
        home = end.4 0 (Some home.0) home.1;
        whole = home.2 ∙ saw_all.0;
        of_root = live.0 ∙ ap Some (sym home.3);
        kept = subst keeping (sym home.4) k.kept;
        last = fit.last (omega arith) saw_all.1 ∙ ap Some (sym home.4);
        places = λ p.
            let t = total_alone (λ (x : View S I Q). times p x.own) s.views id v at (λ j u apart au. ap (times p) ((k.each j u au).spent (none_else j u apart au)).0) in
            sym t ∙ (k.places p ∙ ap (λ (z : ℕ × List I). within z.0 (length z.1) p) (λ i. (sym live.1 i, sym home.2 i)));
      }
