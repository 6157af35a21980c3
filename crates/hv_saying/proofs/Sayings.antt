-- Statement by statement: what is done with the rest is done with all.
use Rattle.std.proofs.Common.{◌≡◌, ℕ, List, [], ◌∷◌, ◌++◌, length, map, refl, sym, ap, ◌∙◌, subst, append-nil, append_assoc, arith}
use Rattle.std.specs.List.{AllByRecursion}
use Rattle.hv_stands.specs.Running.{Asking}
use Rattle.hv_actor.specs.Acting.{Setting, Moment}
use Rattle.hv_session.specs.declared.asking.Asking.{Asking as Handed}
use Rattle.hv_session.specs.Taking.{asked_of}
use Rattle.hv_session.specs.hv_beginning.specs.hv_steps.specs.Going.{IsOpenHouse}
use Rattle.hv_session.specs.hv_beginning.specs.hv_steps.specs.hv_table_reader.specs.hv_acts.specs.declared.told.ToldHouse.{ToldHouse}
use Rattle.hv_session.specs.hv_beginning.specs.hv_steps.specs.hv_table_reader.specs.hv_acts.specs.hv_telling.specs.hv_house.specs.declared.fault.HouseFault.{HouseFault}
use Rattle.hv_session.specs.hv_beginning.specs.hv_steps.specs.declared.ready.Reply.{Reply}
use Rattle.hv_session.specs.hv_beginning.specs.hv_steps.specs.Phases.{HaltsBeginning}
use Rattle.hv_saying.specs.Saying.{IsShort, SaysOne, SaysAll, StopsSaying}

pub empty-rest : {X : Type 0} (n : ℕ) (xs : List X) → n ≡ length xs → n ≡ 0 → xs ≡ []
empty-rest n [] is none = refl
empty-rest n (x ∷ xs) is none = absurd (omega (arith, is, none))

-- of these statements those before the rest were said: with the rest from that moment on, all of them are
pub record SaysUpTo {D : Type 0} (setting : Setting D (ToldHouse D)) (first now : Moment (ToldHouse D)) (all rest : List Handed)
    (replies : List Reply) : Type 0 where
  pub running : IsOpenHouse now.house
  pub short : AllByRecursion IsShort rest
  pub says : (last : Moment (ToldHouse D)) (more : List Reply) → SaysAll setting now last (map asked_of rest) more
      → SaysAll setting first last (map asked_of all) (replies ++ more)
  pub stops : (last : Moment (ToldHouse D)) (more : List Reply) (why : HouseFault) → StopsSaying setting now last (map asked_of rest) more why
      → StopsSaying setting first last (map asked_of all) (replies ++ more) why

module _ {D : Type 0} (setting : Setting D (ToldHouse D)) where
  abbrev M : Type 0
  M = Moment (ToldHouse D)

  -- none was said
  pub up-none : (a : M) (all rest : List Handed) (replies : List Reply) → IsOpenHouse a.house → rest ≡ all → AllByRecursion IsShort all → replies ≡ []
      → SaysUpTo setting a a all rest replies
  up-none a all rest replies running is short none = record {
    running = running;
    short = subst (AllByRecursion IsShort) (sym is) short;
    says = λ last more h.
        subst (λ (rs : List Reply). SaysAll setting a last (map asked_of all) rs) (sym (ap (λ (rs : List Reply). rs ++ more) none))
        (subst (λ (hs : List Handed). SaysAll setting a last (map asked_of hs) more) is h);
    stops = λ last more why h.
        subst (λ (rs : List Reply). StopsSaying setting a last (map asked_of all) rs why) (sym (ap (λ (rs : List Reply). rs ++ more) none))
        (subst (λ (hs : List Handed). StopsSaying setting a last (map asked_of hs) more why) is h);
  }

  -- the next one is short
  pub up-first : (a b : M) (all before behind : List Handed) (asking : Handed) (replies : List Reply) → before ≡ asking ∷ behind
      → SaysUpTo setting a b all before replies → IsShort asking
  up-first a b all before behind asking replies is up = (subst (AllByRecursion IsShort) is up.short).0

  more-replies : (replies replies' more : List Reply) (reply : Reply) → replies' ≡ replies ++ reply ∷ [] → replies ++ reply ∷ more ≡ replies' ++ more
  more-replies replies replies' more reply same = sym (append_assoc replies (reply ∷ []) more) ∙ ap (λ (rs : List Reply). rs ++ more) (sym same)

  -- and was said
  pub up-more : (a b c : M) (all before behind : List Handed) (asking : Handed) (reply : Reply) (replies replies' : List Reply) → before ≡ asking ∷ behind
      → replies' ≡ replies ++ reply ∷ [] → SaysUpTo setting a b all before replies → SaysOne setting b c (asked_of asking) reply
      → SaysUpTo setting a c all behind replies'
  up-more a b c all before behind asking reply replies replies' is same up one = record {
    running = one.1.running;
    short = (subst (AllByRecursion IsShort) is up.short).1;
    says = λ last more h.
        let said : SaysAll setting b last (map asked_of (asking ∷ behind)) (reply ∷ more) = (c, one, h) in
        subst (λ (rs : List Reply). SaysAll setting a last (map asked_of all) rs) (more-replies replies replies' more reply same)
        (up.says last (reply ∷ more) (subst (λ (hs : List Handed). SaysAll setting b last (map asked_of hs) (reply ∷ more)) (sym is) said));
    stops = λ last more why h.
        let said : StopsSaying setting b last (map asked_of (asking ∷ behind)) (reply ∷ more) why = (c, one, h) in
        subst (λ (rs : List Reply). StopsSaying setting a last (map asked_of all) rs why) (more-replies replies replies' more reply same)
        (up.stops last (reply ∷ more) why (subst (λ (hs : List Handed). StopsSaying setting b last (map asked_of hs) (reply ∷ more) why) (sym is) said));
  }

  -- none is left
  pub up-end : (a b : M) (all rest : List Handed) (replies : List Reply) → rest ≡ [] → SaysUpTo setting a b all rest replies
      → SaysAll setting a b (map asked_of all) replies
  up-end a b all rest replies none up =
      let said : SaysAll setting b b (map asked_of []) [] = refl in
      subst (λ (rs : List Reply). SaysAll setting a b (map asked_of all) rs) (append-nil replies)
      (up.says b [] (subst (λ (hs : List Handed). SaysAll setting b b (map asked_of hs) []) (sym none) said))

  -- the run stops in the next one
  pub up-stops : (a b c : M) (all before behind : List Handed) (asking : Handed) (replies : List Reply) (why : HouseFault) → before ≡ asking ∷ behind
      → SaysUpTo setting a b all before replies → HaltsBeginning setting (asked_of asking) b c why → StopsSaying setting a c (map asked_of all) replies why
  up-stops a b c all before behind asking replies why is up halts =
      let said : StopsSaying setting b c (map asked_of (asking ∷ behind)) [] why = halts in
      subst (λ (rs : List Reply). StopsSaying setting a c (map asked_of all) rs why) (append-nil replies)
      (up.stops c [] why (subst (λ (hs : List Handed). StopsSaying setting b c (map asked_of hs) [] why) (sym is) said))
