-- What is counted of some partitions is what is counted of all of them there.
use Rattle.std.proofs.Common.{◌≡◌, ℕ, ◌+◌, arith, ◌&&◌, Bool, true, false, cond, List, [], ◌∷◌, filter, length, refl, sym, ap, ◌∙◌, true≢false}
use Rattle.std.specs.Prelude.{nat_eq}
use Rattle.std.specs.Cmp.Lexicographic.{pointwise}
use Rattle.std.proofs.lemmas.Slice.Eq.{bytes_eq-Decides}
use Rattle.hv_book.specs.Past.{total, only_if}
use Rattle.hv_table_rows.specs.Reading.{Sheet}
use Rattle.hv_counts.specs.declared.due.Due.{Due}
use Rattle.hv_counts.specs.Counts.{due_rows, due_at, due_sum, is_due_wanted, dues_wanted, is_own_of, stored_at, stored_sum, sheets_wanted, WantedAreCounted}

-- ---- sums over what is kept

and-none : (n : ℕ) → n ≡ 0 + n
and-none n = omega arith

module _ {X : Type 0} (weight : X → ℕ) (keep : X → Bool) where
  -- what isn't kept weighs nothing
  same-total : ((x : X) → keep x ≡ false → weight x ≡ 0) → (xs : List X) → total weight (filter keep xs) ≡ total weight xs
  same-total light [] = refl
  same-total light (x ∷ xs) = by (keep x) refl (same-total light xs)
    where
      by : (b : Bool) → keep x ≡ b → total weight (filter keep xs) ≡ total weight xs
          → total weight (cond b (x ∷ filter keep xs) (filter keep xs)) ≡ weight x + total weight xs
      by true is rest = ap (λ n. weight x + n) rest
      by false is rest = rest ∙ (and-none (total weight xs) ∙ ap (λ n. n + total weight xs) (sym (light x is)))

  -- what is kept weighs nothing
  none-total : ((x : X) → keep x ≡ true → weight x ≡ 0) → (xs : List X) → total weight (filter keep xs) ≡ 0
  none-total light [] = refl
  none-total light (x ∷ xs) = by (keep x) refl (none-total light xs)
    where
      by : (b : Bool) → keep x ≡ b → total weight (filter keep xs) ≡ 0 → total weight (cond b (x ∷ filter keep xs) (filter keep xs)) ≡ 0
      by true is rest = λ i. light x is i + rest i
      by false is rest = rest

-- what is kept weighs what it weighs
abbrev kept : {X : Type 0} → (X → ℕ) → (X → Bool) → X → ℕ
kept weight keep x = cond (keep x) (weight x) 0

kept-total : {X : Type 0} (weight : X → ℕ) (keep : X → Bool) (xs : List X) → total weight (filter keep xs) ≡ total (kept weight keep) xs
kept-total weight keep [] = refl
kept-total weight keep (x ∷ xs) = by (keep x) (kept-total weight keep xs)
  where
    by : (b : Bool) → total weight (filter keep xs) ≡ total (kept weight keep) xs
        → total weight (cond b (x ∷ filter keep xs) (filter keep xs)) ≡ cond b (weight x) 0 + total (kept weight keep) xs
    by true rest = ap (λ n. weight x + n) rest
    by false rest = rest ∙ and-none (total (kept weight keep) xs)

-- so the same dues, in any order, are the same where they are wanted
pub wanted-totals : (wants : List ℕ → Bool) (dues others : List Due) → ((weight : Due → ℕ) → total weight dues ≡ total weight others)
    → (weight : Due → ℕ) → total weight (dues_wanted wants dues) ≡ total weight (dues_wanted wants others)
wanted-totals wants dues others same weight =
    kept-total weight (is_due_wanted wants) dues ∙ same (kept weight (is_due_wanted wants)) ∙ sym (kept-total weight (is_due_wanted wants) others)

-- ---- of a partition

same-text : (a b : List ℕ) → pointwise nat_eq a b ≡ true → a ≡ b
same-text a b e = (bytes_eq-Decides a b).0 e

unlike : (wants : List ℕ → Bool) (a b : List ℕ) (c : Bool) → wants a ≡ c → (wants b ≡ c → ⊥) → pointwise nat_eq a b ≡ false
unlike wants a b c is not_so = by (pointwise nat_eq a b) refl
  where
    by : (e : Bool) → pointwise nat_eq a b ≡ e → e ≡ false
    by true same = absurd (not_so (sym (ap wants (same-text a b same)) ∙ is))
    by false same = refl

none-of : (first second : Bool) (n : ℕ) → second ≡ false → only_if (first && second) n ≡ 0
none-of true second n none = ap (λ b. only_if b n) none
none-of false second n none = refl

not-both : (b : Bool) → b ≡ true → b ≡ false → ⊥
not-both b yes_it_is none = true≢false (sym yes_it_is ∙ none)

module _ (wants : List ℕ → Bool) (deletes : Bool) (write : ℕ) (partition : List ℕ) where
  due-none : (due : Due) → pointwise nat_eq due.partition partition ≡ false → due_at deletes write partition due ≡ 0
  due-none due none = none-of (nat_eq due.write write) (pointwise nat_eq due.partition partition) (due_rows deletes due) none

  stored-none : (sheet : Sheet) → pointwise nat_eq sheet.file.place.partition partition ≡ false → stored_at write partition sheet ≡ 0
  stored-none sheet none =
      none-of (is_own_of write sheet.file.dir) (pointwise nat_eq sheet.file.place.partition partition) (length sheet.recs) none

  dues-same : wants partition ≡ true → (dues : List Due) → due_sum deletes write partition (dues_wanted wants dues) ≡ due_sum deletes write partition dues
  dues-same wanted dues =
      same-total (due_at deletes write partition) (λ (due : Due). wants due.partition)
      (λ due none. due-none due (unlike wants due.partition partition false none (not-both (wants partition) wanted))) dues

  dues-none : wants partition ≡ false → (dues : List Due) → due_sum deletes write partition (dues_wanted wants dues) ≡ 0
  dues-none unwanted dues =
      none-total (due_at deletes write partition) (λ (due : Due). wants due.partition)
      (λ due kept. due-none due (unlike wants due.partition partition true kept (λ wanted. not-both (wants partition) wanted unwanted))) dues

  sheets-same : wants partition ≡ true → (sheets : List Sheet) → stored_sum write partition (sheets_wanted wants sheets) ≡ stored_sum write partition sheets
  sheets-same wanted sheets =
      same-total (stored_at write partition) (λ (sheet : Sheet). wants sheet.file.place.partition)
      (λ sheet none. stored-none sheet (unlike wants sheet.file.place.partition partition false none (not-both (wants partition) wanted))) sheets

  sheets-none : wants partition ≡ false → (sheets : List Sheet) → stored_sum write partition (sheets_wanted wants sheets) ≡ 0
  sheets-none unwanted sheets =
      none-total (stored_at write partition) (λ (sheet : Sheet). wants sheet.file.place.partition)
      (λ sheet kept. stored-none sheet (unlike wants sheet.file.place.partition partition true kept (λ wanted. not-both (wants partition) wanted unwanted))) sheets

  pub counted-there : (dues : List Due) (sheets : List Sheet) → stored_sum write partition sheets ≡ due_sum deletes write partition dues
      → stored_sum write partition (sheets_wanted wants sheets) ≡ due_sum deletes write partition (dues_wanted wants dues)
  counted-there dues sheets same = by (wants partition) refl
    where
      by : (b : Bool) → wants partition ≡ b → stored_sum write partition (sheets_wanted wants sheets) ≡ due_sum deletes write partition (dues_wanted wants dues)
      by true wanted = sheets-same wanted sheets ∙ same ∙ sym (dues-same wanted dues)
      by false unwanted = sheets-none unwanted sheets ∙ sym (dues-none unwanted dues)

pub wanted-are-counted : WantedAreCounted
wanted-are-counted wants deletes dues sheets counted write partition = counted-there wants deletes write partition dues sheets (counted write partition)
