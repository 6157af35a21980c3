-- A pattern along a text.
use Rattle.std.proofs.Common.{◌≡◌, ℕ, Bool, true, false, ◌&&◌, ◌||◌, List, [], ◌∷◌, refl, sym, ap, ◌∙◌}
use Rattle.hv_text.specs.declared.pattern.Part.{Part}
use Rattle.hv_text.specs.declared.pattern.Part.TheVariants as part
use Rattle.hv_text.specs.Patterns.{is_any, takes, some_end, fits}

pub both_ways : (a b : Bool) → (a ≡ true → b ≡ true) → (b ≡ true → a ≡ true) → a ≡ b
both_ways true true f g = refl
both_ways true false f g = sym (f refl)
both_ways false true f g = g refl
both_ways false false f g = refl

or_left : (a b : Bool) → a ≡ true → (a || b) ≡ true
or_left true b e = refl
or_left false b e = absurd (cc)

or_right : (a b : Bool) → b ≡ true → (a || b) ≡ true
or_right true b e = refl
or_right false b e = e

or_cases : {P : Type 0} (a b : Bool) → (a || b) ≡ true → (a ≡ true → P) → (b ≡ true → P) → P
or_cases true b e f g = f refl
or_cases false b e f g = g e

second : (a b : Bool) → (a && b) ≡ true → b ≡ true
second true b e = e
second false b e = absurd (cc)

pub fits_part : (p : Part) (ps : List Part) (c : ℕ) (cs : List ℕ) → is_any p ≡ false → fits (p ∷ ps) (c ∷ cs) ≡ (takes p c && fits ps cs)
fits_part part.Any ps c cs e = absurd (cc)
fits_part part.One ps c cs e = refl
fits_part (part.Plain p) ps c cs e = refl

pub fits_nothing : (p : Part) (ps : List Part) → is_any p ≡ false → fits (p ∷ ps) [] ≡ false
fits_nothing part.Any ps e = absurd (cc)
fits_nothing part.One ps e = refl
fits_nothing (part.Plain p) ps e = refl

pub whole_ends : (ps : List Part) (cs : List ℕ) → fits ps cs ≡ true → some_end (fits ps) cs ≡ true
whole_ends ps [] e = e
whole_ends ps (c ∷ cs) e = or_left (fits ps (c ∷ cs)) (some_end (fits ps) cs) e

-- where a part and the rest stand for some end, the rest stands for some end behind the first character
pub ends_step : (p : Part) (ps : List Part) (c : ℕ) (cs : List ℕ) → is_any p ≡ false
    → some_end (fits (p ∷ ps)) (c ∷ cs) ≡ true → some_end (fits ps) cs ≡ true
ends_step p ps c [] n e =
    or_cases (fits (p ∷ ps) (c ∷ [])) (fits (p ∷ ps) []) e
    (λ h. second (takes p c) (fits ps []) (sym (fits_part p ps c [] n) ∙ h))
    (λ h. let none = fits_nothing p ps n in absurd (cc))
ends_step p ps c (d ∷ ds) n e =
    or_cases (fits (p ∷ ps) (c ∷ d ∷ ds)) (some_end (fits (p ∷ ps)) (d ∷ ds)) e
    (λ h. whole_ends ps (d ∷ ds) (second (takes p c) (fits ps (d ∷ ds)) (sym (fits_part p ps c (d ∷ ds) n) ∙ h)))
    (λ h. or_right (fits ps (d ∷ ds)) (some_end (fits ps) ds) (ends_step p ps d ds n h))

-- two `%` are as good as one
pub any_twice : (ps : List Part) (cs : List ℕ) → some_end (fits (part.Any ∷ ps)) cs ≡ true → some_end (fits ps) cs ≡ true
any_twice ps [] e = e
any_twice ps (c ∷ cs) e =
    or_cases (some_end (fits ps) (c ∷ cs)) (some_end (fits (part.Any ∷ ps)) cs) e (λ h. h)
    (λ h. or_right (fits ps (c ∷ cs)) (some_end (fits ps) cs) (any_twice ps cs h))

pub any_is : (p : Part) → is_any p ≡ true → p ≡ part.Any
any_is part.Any e = refl
any_is part.One e = absurd (cc)
any_is (part.Plain p) e = absurd (cc)

pub step_whole : (pp ps : List Part) (p : Part) (tt cs : List ℕ) (c : ℕ) → pp ≡ p ∷ ps → tt ≡ c ∷ cs → is_any p ≡ false → takes p c ≡ true
    → fits pp tt ≡ fits ps cs
step_whole pp ps p tt cs c e f n t =
    (λ i. fits (e i) (f i)) ∙ fits_part p ps c cs n ∙ ap (λ b. b && fits ps cs) t

pub step_ends : (pp ps : List Part) (p : Part) (tt cs : List ℕ) (c : ℕ) → pp ≡ p ∷ ps → tt ≡ c ∷ cs → is_any p ≡ false
    → some_end (fits pp) tt ≡ true → some_end (fits ps) cs ≡ true
step_ends pp ps p tt cs c e f n h = ends_step p ps c cs n (sym (λ i. some_end (fits (e i)) (f i)) ∙ h)

pub stop_whole : (pp ps : List Part) (p : Part) (tt : List ℕ) → pp ≡ p ∷ ps → is_any p ≡ true → fits pp tt ≡ some_end (fits ps) tt
stop_whole pp ps p tt e n = ap (λ pp. fits pp tt) (e ∙ ap (λ p. p ∷ ps) (any_is p n))

pub stop_ends : (pp ps : List Part) (p : Part) (tt : List ℕ) → pp ≡ p ∷ ps → is_any p ≡ true
    → some_end (fits pp) tt ≡ true → some_end (fits ps) tt ≡ true
stop_ends pp ps p tt e n h = any_twice ps tt (sym (ap (λ pp. some_end (fits pp) tt) (e ∙ ap (λ p. p ∷ ps) (any_is p n))) ∙ h)

-- the text ended, or its first character is another
pub short_text : (pp ps : List Part) (p : Part) (tt : List ℕ) → pp ≡ p ∷ ps → is_any p ≡ false → tt ≡ [] → false ≡ fits pp tt
short_text pp ps p tt e n f = sym ((λ i. fits (e i) (f i)) ∙ fits_nothing p ps n)

pub other_character : (pp ps : List Part) (p : Part) (tt cs : List ℕ) (c : ℕ) → pp ≡ p ∷ ps → tt ≡ c ∷ cs → is_any p ≡ false → takes p c ≡ false
    → false ≡ fits pp tt
other_character pp ps p tt cs c e f n t = sym ((λ i. fits (e i) (f i)) ∙ fits_part p ps c cs n ∙ ap (λ b. b && fits ps cs) t)

pub ruleset steps = (step_whole, step_ends, stop_whole, stop_ends, short_text, other_character)
