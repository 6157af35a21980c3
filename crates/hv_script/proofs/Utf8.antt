-- Where a script is UTF-8, its items are.
use Rattle.std.proofs.Common.{◌≡◌, ℕ, ◌<◌, ◌+◌, zero, suc, length, get_or, Bool, true, false, cond, ◌==◌, ◌||◌, ◌&&◌, not, Option, Some, None, List, [], ◌∷◌, ◌++◌, refl, sym, ap, subst, ◌∙◌, append_assoc, eqb-true, arith}
use Rattle.std.specs.Prelude.{take, drop}
use Rattle.std.specs.Str.{IsUtf8, is_utf8}
use Rattle.std.specs.Str.Lossy.{utf8_valid_len}
use Rattle.std.proofs.lemmas.List.{append-nil}
use Rattle.std.proofs.lemmas.Str.{IsUtf8-nil, IsUtf8-from_is_utf8, is_utf8-from_IsUtf8, IsUtf8-take, IsUtf8-drop, IsCharBoundary-before_ascii, IsCharBoundary-after_ascii}
use Rattle.hv_script.specs.declared.items.Item.{Item}
use Rattle.hv_script.specs.declared.items.Stand.{Stand}
use Rattle.hv_script.specs.declared.items.Move.{Move}
use Rattle.hv_script.specs.declared.items.Move.TheVariants.{Skip, Begin, Keep, Finish, Lone}
use Rattle.hv_script.specs.declared.items.Stand.TheVariants.{Between, Skipped, Directive, Outside, Comment, Quoted, Escaped}
use Rattle.hv_script.specs.Items.{blank, opens_quote, opens_comment, behind, items_from, items_by, move_of, first_of, line_behind, with_byte, last_item, no_bytes, items_of}
use Rattle.hv_script.specs.Script.{broken_line, limit_line, line_at, earlier, front, bytes_line, HaveUtf8}

-- ---- a text may be cut before and behind an ASCII byte

at-seam : (a c : List ℕ) (b : ℕ) → get_or (a ++ b ∷ c) (length a) 0 ≡ b
at-seam [] c b = refl
at-seam (x ∷ a) c b = at-seam a c b

taken-seam : (a rest : List ℕ) → take (length a) (a ++ rest) ≡ a
taken-seam [] rest = refl
taken-seam (x ∷ a) rest = ap (λ (xs : List ℕ). x ∷ xs) (taken-seam a rest)

dropped-seam : (a c : List ℕ) (b : ℕ) → drop (suc (length a)) (a ++ b ∷ c) ≡ c
dropped-seam [] c b = refl
dropped-seam (x ∷ a) c b = dropped-seam a c b

length-seam : (a c : List ℕ) (b : ℕ) → length a < length (a ++ b ∷ c)
length-seam [] c b = omega arith
length-seam (x ∷ a) c b = let rest = length-seam a c b in omega arith

cut : (a c : List ℕ) (b : ℕ) → b < 128 → IsUtf8 (a ++ b ∷ c) → IsUtf8 a × IsUtf8 c
cut a c b low whole =
    let low_there : get_or (a ++ b ∷ c) (length a) 0 < 128 = subst (λ (x : ℕ). x < 128) (sym (at-seam a c b)) low in
    let here = length-seam a c b in
    let before = IsUtf8-take (a ++ b ∷ c) (length a) whole (IsCharBoundary-before_ascii (a ++ b ∷ c) (length a) here low_there) in
    let later = IsUtf8-drop (a ++ b ∷ c) (length a + 1) whole (IsCharBoundary-after_ascii (a ++ b ∷ c) (length a) whole here low_there) in
    let next : length a + 1 ≡ suc (length a) = omega arith in
    (subst IsUtf8 (taken-seam a (b ∷ c)) before, subst IsUtf8 (ap (λ (n : ℕ). drop n (a ++ b ∷ c)) next ∙ dropped-seam a c b) later)

kept-on : (a c : List ℕ) (b : ℕ) → IsUtf8 (a ++ b ∷ c) → IsUtf8 ((a ++ b ∷ []) ++ c)
kept-on a c b = subst IsUtf8 (sym (append_assoc a (b ∷ []) c))

-- ---- which bytes are ASCII

is-low : (b n : ℕ) → n < 128 → (b == n) ≡ true → b < 128
is-low b n low e = subst (λ (x : ℕ). x < 128) (sym (eqb-true b n e)) low

or-low : (b : ℕ) (one other : Bool) → (one ≡ true → b < 128) → (other ≡ true → b < 128) → (one || other) ≡ true → b < 128
or-low b true other first second e = first refl
or-low b false other first second e = second e

blank-low : (b : ℕ) → blank b ≡ true → b < 128
blank-low b =
    or-low b (b == 32 || b == 9 || b == 13) (b == 10)
    (or-low b (b == 32 || b == 9) (b == 13) (or-low b (b == 32) (b == 9) (is-low b 32 (omega arith)) (is-low b 9 (omega arith))) (is-low b 13 (omega arith)))
    (is-low b 10 (omega arith))

-- ---- the bytes kept so far, by where the next one stands: with those to come they are UTF-8

abbrev GoesOn : Stand → List ℕ → List ℕ → Type 0
GoesOn Between kept bytes = IsUtf8 bytes
GoesOn Skipped kept bytes = (skipped : List ℕ) × IsUtf8 (skipped ++ bytes)
GoesOn _ kept bytes = IsUtf8 (kept ++ bytes)

-- what a move asks for
abbrev Allows : Move → List ℕ → ℕ → List ℕ → Type 0
Allows (Skip stand) kept b bytes = GoesOn stand kept bytes
Allows (Begin stand) kept b bytes = GoesOn stand (b ∷ []) bytes
Allows (Keep stand) kept b bytes = GoesOn stand (kept ++ b ∷ []) bytes
Allows Finish kept b bytes = IsUtf8 kept × IsUtf8 bytes
Allows Lone kept b bytes = IsUtf8 bytes

by-test : (test : Bool) (one other : Move) (kept : List ℕ) (b : ℕ) (bytes : List ℕ) → (test ≡ true → Allows one kept b bytes)
    → (test ≡ false → Allows other kept b bytes) → Allows (cond test one other) kept b bytes
by-test true one other kept b bytes first second = first refl
by-test false one other kept b bytes first second = second refl

goes-behind : (quote comment : Bool) (b : ℕ) (kept bytes : List ℕ) → IsUtf8 (kept ++ bytes)
    → GoesOn (cond quote (Quoted b) (cond comment Comment Outside)) kept bytes
goes-behind true comment b kept bytes whole = whole
goes-behind false true b kept bytes whole = whole
goes-behind false false b kept bytes whole = whole

allows : (stand : Stand) (b : ℕ) (next : Option ℕ) (kept bytes : List ℕ) → GoesOn stand kept (b ∷ bytes) → Allows (move_of stand b next) kept b bytes
allows Between b next kept bytes on =
    by-test (blank b) (Skip Between) _ kept b bytes (λ e. (cut [] bytes b (blank-low b e) on).1)
    (λ _. by-test (opens_comment b next) (Skip Skipped) _ kept b bytes (λ _. (b ∷ [], on))
    (λ _. by-test (b == 33) (Begin Directive) _ kept b bytes (λ _. on)
    (λ _. by-test (b == 59) Lone (Begin (behind b next)) kept b bytes (λ e. (cut [] bytes b (is-low b 59 (omega arith) e) on).1)
    (λ _. goes-behind (opens_quote b) (opens_comment b next) b (b ∷ []) bytes on))))
allows Skipped b next kept bytes on =
    by-test (b == 10) (Skip Between) (Skip Skipped) kept b bytes (λ e. (cut on.0 bytes b (is-low b 10 (omega arith) e) on.1).1)
    (λ _. (on.0 ++ b ∷ [], kept-on on.0 bytes b on.1))
allows Directive b next kept bytes on =
    by-test (b == 10) Finish (Keep Directive) kept b bytes (λ e. cut kept bytes b (is-low b 10 (omega arith) e) on) (λ _. kept-on kept bytes b on)
allows Outside b next kept bytes on =
    by-test (b == 59) Finish (Keep (behind b next)) kept b bytes (λ e. cut kept bytes b (is-low b 59 (omega arith) e) on)
    (λ _. goes-behind (opens_quote b) (opens_comment b next) b (kept ++ b ∷ []) bytes (kept-on kept bytes b on))
allows Comment b next kept bytes on =
    by-test (b == 10) (Keep Outside) (Keep Comment) kept b bytes (λ _. kept-on kept bytes b on) (λ _. kept-on kept bytes b on)
allows (Quoted q) b next kept bytes on =
    by-test (b == q) (Keep Outside) _ kept b bytes (λ _. kept-on kept bytes b on)
    (λ _. by-test (b == 92 && not (q == 96)) (Keep (Escaped q)) (Keep (Quoted q)) kept b bytes (λ _. kept-on kept bytes b on) (λ _. kept-on kept bytes b on))
allows (Escaped q) b next kept bytes on = kept-on kept bytes b on

-- ---- the items

utf8-by : (rest : Stand → Item → List Item) (move : Move) (line : ℕ) (item : Item) (b : ℕ) (bytes : List ℕ) → Allows move item.bytes b bytes
    → ((stand : Stand) (begun : Item) → GoesOn stand begun.bytes bytes → HaveUtf8 (rest stand begun)) → HaveUtf8 (items_by rest move line item b)
utf8-by rest (Skip stand) line item b bytes on r = r stand item on
utf8-by rest (Begin stand) line item b bytes on r = r stand (record { line = line; bytes = b ∷ [] }) on
utf8-by rest (Keep stand) line item b bytes on r = r stand (with_byte item b) on
utf8-by rest Finish line item b bytes on r = (on.0, r Between (no_bytes item.line) on.1)
utf8-by rest Lone line item b bytes on r = (IsUtf8-nil, r Between (no_bytes line) on)

at-end : (kept : List ℕ) → IsUtf8 (kept ++ []) → IsUtf8 kept
at-end kept = subst IsUtf8 (append-nil kept)

utf8-last : (stand : Stand) (item : Item) → GoesOn stand item.bytes [] → HaveUtf8 (last_item stand item)
utf8-last Between item on = tt
utf8-last Skipped item on = tt
utf8-last Directive item on = (at-end item.bytes on, tt)
utf8-last Outside item on = (at-end item.bytes on, tt)
utf8-last Comment item on = (at-end item.bytes on, tt)
utf8-last (Quoted q) item on = (at-end item.bytes on, tt)
utf8-last (Escaped q) item on = (at-end item.bytes on, tt)

utf8-items : (stand : Stand) (line : ℕ) (item : Item) (bytes : List ℕ) → GoesOn stand item.bytes bytes → HaveUtf8 (items_from stand line item bytes)
utf8-items stand line item [] on = utf8-last stand item on
utf8-items stand line item (b ∷ bytes) on =
    utf8-by (λ behind begun. items_from behind (line_behind line b) begun bytes) (move_of stand b (first_of bytes)) line item b bytes
    (allows stand b (first_of bytes) item.bytes bytes on)
    (λ behind begun goes. utf8-items behind (line_behind line b) begun bytes goes)

whole-script : (test : Bool) (script : List ℕ) (line : ℕ) → is_utf8 script ≡ test → cond test None (Some line) ≡ None → IsUtf8 script
whole-script true script line is e = IsUtf8-from_is_utf8 script is
whole-script false script line is e = absurd (cc)

pub utf8_at : (items : List Item) (i : ℕ) (d : Item) → HaveUtf8 items → i < length items → IsUtf8 (get_or items i d).bytes
utf8_at [] i d all h = absurd (omega arith)
utf8_at (item ∷ items) zero d all h = all.0
utf8_at (item ∷ items) (suc i) d all h = utf8_at items i d all.1 (omega arith)

pub earlier_none : (line other : Option ℕ) → earlier line other ≡ None → (line ≡ None) × (other ≡ None)
earlier_none None other e = (refl, e)
earlier_none (Some line) None e = cc
earlier_none (Some line) (Some other) e = cc

-- a script whose bytes no line refuses has items in UTF-8
pub utf8-unrefused : (script : List ℕ) → bytes_line script ≡ None → HaveUtf8 (items_of (front script))
utf8-unrefused script e =
    let unbroken_script = earlier_none (broken_line (front script)) (limit_line script) e in
    utf8-items Between 1 (no_bytes 1) (front script) (whole-script (is_utf8 (front script)) (front script) _ refl unbroken_script.0)

-- ---- the line of the first byte that isn't UTF-8

pub unbroken : (bytes : List ℕ) → IsUtf8 bytes → None ≡ broken_line bytes
unbroken bytes whole = sym (ap (λ (test : Bool). cond test None (Some (line_at (utf8_valid_len bytes) bytes))) (is_utf8-from_IsUtf8 bytes whole))

pub broken-at : (bytes : List ℕ) (place line : ℕ) → (IsUtf8 bytes → ⊥) → place ≡ utf8_valid_len bytes → line ≡ line_at place bytes → Some line ≡ broken_line bytes
broken-at bytes place line broken is here = by (is_utf8 bytes) refl
  where
    by : (test : Bool) → is_utf8 bytes ≡ test → Some line ≡ cond test None (Some (line_at (utf8_valid_len bytes) bytes))
    by true e = absurd (broken (IsUtf8-from_is_utf8 bytes e))
    by false e = ap Some (here ∙ ap (λ (n : ℕ). line_at n bytes) is)
