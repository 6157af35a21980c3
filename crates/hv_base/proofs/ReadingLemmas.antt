use Rattle.std.proofs.Common.{◌≡◌, ℕ, suc, ◌+◌, ◌-◌, ◌<◌, ◌≤◌, List, [], ◌∷◌, ◌++◌, length, take, drop, Option, refl, sym, ◌∙◌, ap, subst, arith, append_assoc, length-append, length-drop, min, ◌^◌}
use Rattle.std.proofs.lemmas.List.{drop_at, length-take, length-take-le, take-append-le}
use Rattle.hv_base.specs.Source.{GivesNext, GivesAll, GivesFront, LosesFront, PassesLimit}
use Rattle.hv_base.specs.Told.{Moves}
use Rattle.hv_base.proofs.ToldLemmas.{Moves-then, Moves-weaken, Moves-same}

no_items : (xs : List ℕ) → length xs ≡ 0 → xs ≡ []
no_items [] e = refl
no_items (x ∷ xs) e = absurd (omega arith)

after_empty : (xs : List ℕ) → xs ++ [] ≡ xs
after_empty [] = refl
after_empty (x ∷ xs) = ap (λ t. x ∷ t) (after_empty xs)

-- before the first read
pub GivesFront-none : (bytes : List ℕ) (a : Option (List ℕ)) → bytes ≡ [] → Moves (GivesFront bytes) a a
GivesFront-none bytes a e = Moves-same (GivesFront bytes) (λ x. sym (ap (λ b. b ++ x) e)) a

-- after a read that failed
pub LosesFront-failed : (bytes : List ℕ) (a b c : Option (List ℕ)) → Moves (GivesFront bytes) a b → c ≡ b → Moves LosesFront a c
LosesFront-failed bytes a b c given same =
    Moves-weaken (GivesFront bytes) LosesFront (λ x y p. (bytes, p)) a c (subst (λ w. Moves (GivesFront bytes) a w) (sym same) given)

joined : (bytes buffer x y z : List ℕ) (count : ℕ) → GivesFront bytes x y → GivesNext count buffer y z → x ≡ (bytes ++ take count buffer) ++ z
joined bytes buffer x y z count p q = p ∙ ap (λ w. bytes ++ w) q.given ∙ sym (append_assoc bytes (take count buffer) z)

-- one more read
pub GivesFront-more : (bytes buffer : List ℕ) (count : ℕ) (a b c : Option (List ℕ)) →
    Moves (GivesFront bytes) a b → Moves (GivesNext count buffer) b c → Moves (GivesFront (bytes ++ take count buffer)) a c
GivesFront-more bytes buffer count a b c =
    Moves-then (GivesFront bytes) (GivesNext count buffer) (GivesFront (bytes ++ take count buffer))
    (λ x y z p q. joined bytes buffer x y z count p q) a b c

pub LosesFront-more : (bytes buffer : List ℕ) (count : ℕ) (a b c : Option (List ℕ)) →
    Moves (GivesFront bytes) a b → Moves (GivesNext count buffer) b c → Moves LosesFront a c
LosesFront-more bytes buffer count a b c p q =
    Moves-weaken (GivesFront (bytes ++ take count buffer)) LosesFront (λ x y s. (bytes ++ take count buffer, s)) a c
    (GivesFront-more bytes buffer count a b c p q)

at_end : (bytes buffer x y z : List ℕ) (count : ℕ) → count ≡ 0 → 0 < length buffer → GivesFront bytes x y → GivesNext count buffer y z →
    GivesAll bytes x z
at_end bytes buffer x y z count none room p q =
    let nothing : length y ≡ 0 = grind (arith, q.some room)
    in let empty : y ≡ [] = no_items y nothing
    in record {
      given = p ∙ ap (λ w. bytes ++ w) empty ∙ after_empty bytes;
      ended = sym (ap (λ n. take n buffer ++ z) none) ∙ sym q.given ∙ empty;
    }

-- a read that gave nothing
pub GivesAll-end : (bytes buffer : List ℕ) (count : ℕ) (a b c : Option (List ℕ)) → count ≡ 0 → 0 < length buffer →
    Moves (GivesFront bytes) a b → Moves (GivesNext count buffer) b c → Moves (GivesAll bytes) a c
GivesAll-end bytes buffer count a b c none room =
    Moves-then (GivesFront bytes) (GivesNext count buffer) (GivesAll bytes)
    (λ x y z p q. at_end bytes buffer x y z count none room p q) a b c

too_many : (bytes buffer x y z : List ℕ) (count limit : ℕ) → length bytes + count ≡ suc limit → count ≤ length buffer →
    GivesFront bytes x y → GivesNext count buffer y z → PassesLimit limit x z
too_many bytes buffer x y z count limit past fits p q =
    let whole : x ≡ (bytes ++ take count buffer) ++ z = joined bytes buffer x y z count p q
    in let taken : length (bytes ++ take count buffer) ≡ suc limit =
    length-append bytes (take count buffer) ∙ ap (λ n. length bytes + n) (length-take-le count buffer fits) ∙ past
    in record {
      more = omega (arith, ap length whole, length-append (bytes ++ take count buffer) z);
      taken = sym (ap (drop (suc limit)) whole ∙ drop_at (bytes ++ take count buffer) z (suc limit) taken);
    }

-- a read that passed the limit
pub PassesLimit-more : (bytes buffer : List ℕ) (count limit : ℕ) (a b c : Option (List ℕ)) → length bytes + count ≡ suc limit → count ≤ length buffer →
    Moves (GivesFront bytes) a b → Moves (GivesNext count buffer) b c → Moves (PassesLimit limit) a c
PassesLimit-more bytes buffer count limit a b c past fits =
    Moves-then (GivesFront bytes) (GivesNext count buffer) (PassesLimit limit)
    (λ x y z p q. too_many bytes buffer x y z count limit past fits p q) a b c

-- how long the part of the buffer is that a read is given
pub length-asked : (out chunk : List ℕ) (most room : ℕ) → length out ≡ length (take (most + 1) chunk) → most ≡ min room 65535 →
    length chunk ≡ 65536 → length out ≡ min room 65535 + 1
length-asked out chunk most room asked is whole = omega (arith, length-take (most + 1) chunk)

-- the buffer keeps its length
pub length-chunk : (out chunk : List ℕ) (most room : ℕ) → length out ≡ length (take (most + 1) chunk) → most ≡ min room 65535 →
    length chunk ≡ 65536 → length (out ++ drop (most + 1) chunk) ≡ 65536
length-chunk out chunk most room asked is whole =
    omega (arith, length-asked out chunk most room asked is whole, length-append out (drop (most + 1) chunk), length-drop (most + 1) chunk)

-- a read that gave more than there is room for gave one byte more
pub one_past : (held len limit count asked room : ℕ) → len ≡ held → held ≤ limit → room ≡ limit - held → asked ≡ min room 65535 + 1 →
    count ≤ asked → room < count → len + count ≡ suc limit
one_past held len limit count asked room same within is a b c = omega arith

-- the bytes read so far, after one more read
pub held-more : (held held' count : ℕ) (out tail : List ℕ) → held' ≡ held + length (take count (out ++ tail)) → count ≤ length out → held' ≡ held + count
held-more held held' count out tail pushed fits =
    omega (arith, ap length (take-append-le count out tail fits), length-take-le count out fits)

pub held-within : (held held' count limit room : ℕ) → held' ≡ held + count → held ≤ limit → room ≡ limit - held → count ≤ room → held' ≤ limit
held-within held held' count limit room more within is fits = omega arith

pub reads-more : (held held' count first reads reads' : ℕ) → held' ≡ held + count → ¬ (count ≡ 0) → reads ≤ first + held → reads' ≡ min (reads + 1) (2 ^ 64 - 1) →
    reads' ≤ first + held'
reads-more held held' count first reads reads' more some before counted = omega arith

-- what is taken out of the buffer is what was read
pub GivesFront-pushed : (bytes bytes' out tail : List ℕ) (count : ℕ) (a b c : Option (List ℕ)) →
    bytes' ≡ bytes ++ take count (out ++ tail) → count ≤ length out →
    Moves (GivesFront bytes) a b → Moves (GivesNext count out) b c → Moves (GivesFront bytes') a c
GivesFront-pushed bytes bytes' out tail count a b c pushed fits p q =
    subst (λ w. Moves (GivesFront w) a c) (sym (pushed ∙ ap (λ w. bytes ++ w) (take-append-le count out tail fits)))
    (GivesFront-more bytes out count a b c p q)
