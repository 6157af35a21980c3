-- A transaction has just the write ids that were given to it, from entry to entry.
use Rattle.std.proofs.Common.{refl, ◌≡◌, ℕ, zero, suc, ◌+◌, ◌==◌, ◌⊎◌, inl, inr, Bool, true, false, cond, Option, Some, None, List, [], ◌∷◌, ◌++◌, length, sym, ap, ◌∙◌, eqb-true, eq-eqb}
use Rattle.hv_history.specs.State.{numbered, given_in}
use Rattle.hv_stands.specs.Sound.{given_among, owner_among, AreGiven}
use Rattle.hv_stands.proofs.Numbers.{one_value, none_is, either, numbered-more, numbered-or-last, numbered-last}

-- ---- one more, without a write id

given-beside : (given : List (List (ℕ × ℕ))) (txn table write : ℕ) → given_among (numbered (given ++ [] ∷ []) txn) table ≡ Some write
    → given_among (numbered given txn) table ≡ Some write
given-beside given txn table write e = by (numbered (given ++ [] ∷ []) txn) refl e
  where
    by : (o : Option (List (ℕ × ℕ))) → numbered (given ++ [] ∷ []) txn ≡ o → given_among o table ≡ Some write → given_among (numbered given txn) table ≡ Some write
    by None is e = cc
    by (Some g) is e = or (numbered-or-last given [] txn g is)
      where
        or : (numbered given txn ≡ Some g) ⊎ ((txn ≡ length given + 1) × (g ≡ [])) → given_among (numbered given txn) table ≡ Some write
        or (inl h) = ap (λ o. given_among o table) h ∙ e
        or (inr h) = let none : given_in table [] ≡ Some write = ap (given_in table) (sym h.1) ∙ e in cc

owner-beside : (owners : List (List ℕ)) (txn table write : ℕ) → owner_among (numbered (owners ++ [] ∷ []) table) write ≡ Some txn
    → owner_among (numbered owners table) write ≡ Some txn
owner-beside owners txn table write e = by (numbered (owners ++ [] ∷ []) table) refl e
  where
    none : (write : ℕ) → numbered {A = ℕ} [] write ≡ None
    none zero = refl
    none (suc n) = refl

    by : (o : Option (List ℕ)) → numbered (owners ++ [] ∷ []) table ≡ o → owner_among o write ≡ Some txn → owner_among (numbered owners table) write ≡ Some txn
    by None is e = cc
    by (Some os) is e = or (numbered-or-last owners [] table os is)
      where
        or : (numbered owners table ≡ Some os) ⊎ ((table ≡ length owners + 1) × (os ≡ [])) → owner_among (numbered owners table) write ≡ Some txn
        or (inl h) = ap (λ o. owner_among o write) h ∙ e
        or (inr h) = absurd (none_is (numbered os write) txn (ap (λ xs. numbered xs write) h.1 ∙ none write) e)

given-kept : (given : List (List (ℕ × ℕ))) (more : List (ℕ × ℕ)) (txn table write : ℕ) → given_among (numbered given txn) table ≡ Some write
    → given_among (numbered (given ++ more ∷ []) txn) table ≡ Some write
given-kept given more txn table write e = by (numbered given txn) refl e
  where
    by : (o : Option (List (ℕ × ℕ))) → numbered given txn ≡ o → given_among o table ≡ Some write → given_among (numbered (given ++ more ∷ []) txn) table ≡ Some write
    by None is e = cc
    by (Some g) is e = ap (λ o. given_among o table) (numbered-more given more txn g is) ∙ e

owner-kept : (owners : List (List ℕ)) (more : List ℕ) (txn table write : ℕ) → owner_among (numbered owners table) write ≡ Some txn
    → owner_among (numbered (owners ++ more ∷ []) table) write ≡ Some txn
owner-kept owners more txn table write e = by (numbered owners table) refl e
  where
    by : (o : Option (List ℕ)) → numbered owners table ≡ o → owner_among o write ≡ Some txn → owner_among (numbered (owners ++ more ∷ []) table) write ≡ Some txn
    by None is e = cc
    by (Some os) is e = ap (λ o. owner_among o write) (numbered-more owners more table os is) ∙ e

-- a transaction more
pub opened-given : (given : List (List (ℕ × ℕ))) (owners : List (List ℕ)) → AreGiven given owners → AreGiven (given ++ [] ∷ []) owners
opened-given given owners are = record {
  has_owner = λ txn table write e. are.has_owner txn table write (given-beside given txn table write e);
  is_given = λ txn table write e. given-kept given [] txn table write (are.is_given txn table write e);
}

-- a table more
pub created-given : (given : List (List (ℕ × ℕ))) (owners : List (List ℕ)) → AreGiven given owners → AreGiven given (owners ++ [] ∷ [])
created-given given owners are = record {
  has_owner = λ txn table write e. owner-kept owners [] txn table write (are.has_owner txn table write e);
  is_given = λ txn table write e. are.is_given txn table write (owner-beside owners txn table write e);
}

-- ---- one write id more

given-by : (table key write : ℕ) (more : List (ℕ × ℕ)) (b : Bool) (first : ℕ × ℕ) (rest now : Option ℕ) → (rest ≡ Some write → now ≡ Some write)
    → cond b (Some first.1) rest ≡ Some write → cond b (Some first.1) now ≡ Some write
given-by table key write more true first rest now f e = e
given-by table key write more false first rest now f e = f e

given-longer : (g more : List (ℕ × ℕ)) (table write : ℕ) → given_in table g ≡ Some write → given_in table (g ++ more) ≡ Some write
given-longer [] more table write e = cc
given-longer (first ∷ g) more table write e =
    given-by table table write more (first.0 == table) first (given_in table g) (given_in table (g ++ more)) (given-longer g more table write) e

given-new : (g : List (ℕ × ℕ)) (table write : ℕ) → given_in table g ≡ None → given_in table (g ++ (table, write) ∷ []) ≡ Some write
given-new [] table write none = ap (λ b. cond b (Some write) None) (eq-eqb table table refl)
given-new (first ∷ g) table write none = by (first.0 == table) (given-new g table write) none
  where
    by : (b : Bool) → (given_in table g ≡ None → given_in table (g ++ (table, write) ∷ []) ≡ Some write)
        → cond b (Some first.1) (given_in table g) ≡ None → cond b (Some first.1) (given_in table (g ++ (table, write) ∷ [])) ≡ Some write
    by true rest e = cc
    by false rest e = rest e

pub given-or-new : (g : List (ℕ × ℕ)) (key id table write : ℕ) → given_in table (g ++ (key, id) ∷ []) ≡ Some write
    → (given_in table g ≡ Some write) ⊎ ((table ≡ key) × (write ≡ id))
given-or-new [] key id table write e = by (either (key == table)) e
  where
    by : (key == table ≡ true) ⊎ (key == table ≡ false) → cond (key == table) (Some id) None ≡ Some write
        → (given_in table [] ≡ Some write) ⊎ ((table ≡ key) × (write ≡ id))
    by (inl is) e = inr (sym (eqb-true key table is), sym (one_value id write (sym (ap (λ b. cond b (Some id) None) is) ∙ e)))
    by (inr is) e = absurd (none_is (cond (key == table) (Some id) None) write (ap (λ b. cond b (Some id) None) is) e)
given-or-new (first ∷ g) key id table write e = by (first.0 == table) (given-or-new g key id table write) e
  where
    by : (b : Bool) → (given_in table (g ++ (key, id) ∷ []) ≡ Some write → (given_in table g ≡ Some write) ⊎ ((table ≡ key) × (write ≡ id)))
        → cond b (Some first.1) (given_in table (g ++ (key, id) ∷ [])) ≡ Some write
        → (cond b (Some first.1) (given_in table g) ≡ Some write) ⊎ ((table ≡ key) × (write ≡ id))
    by true rest e = inl e
    by false rest e = rest e

module _ (given : List (List (ℕ × ℕ))) (owners : List (List ℕ)) (n k : ℕ) (g : List (ℕ × ℕ)) (os : List ℕ)
    (has : numbered given n ≡ Some g) (at : numbered owners k ≡ Some os) (fresh : given_in k g ≡ None)
    (given_now : List (List (ℕ × ℕ))) (owners_now : List (List ℕ))
    (given_is : (m : ℕ) → numbered given_now m ≡ cond (m == n) (Some (g ++ (k, length os + 1) ∷ [])) (numbered given m))
    (owners_are : (m : ℕ) → numbered owners_now m ≡ cond (m == k) (Some (os ++ n ∷ [])) (numbered owners m)) where
  owner-stays : (txn table write : ℕ) → owner_among (numbered owners table) write ≡ Some txn → owner_among (numbered owners_now table) write ≡ Some txn
  owner-stays txn table write e = ap (λ o. owner_among o write) (owners_are table) ∙ by (either (table == k))
    where
      by : (table == k ≡ true) ⊎ (table == k ≡ false) → owner_among (cond (table == k) (Some (os ++ n ∷ [])) (numbered owners table)) write ≡ Some txn
      by (inl is) =
          ap (λ b. owner_among (cond b (Some (os ++ n ∷ [])) (numbered owners table)) write) is
          ∙ numbered-more os n write txn (ap (λ o. owner_among o write) (sym (ap (numbered owners) (eqb-true table k is) ∙ at)) ∙ e)
      by (inr is) = ap (λ b. owner_among (cond b (Some (os ++ n ∷ [])) (numbered owners table)) write) is ∙ e

  given-stays : (txn table write : ℕ) → given_among (numbered given txn) table ≡ Some write → given_among (numbered given_now txn) table ≡ Some write
  given-stays txn table write e = ap (λ o. given_among o table) (given_is txn) ∙ by (either (txn == n))
    where
      by : (txn == n ≡ true) ⊎ (txn == n ≡ false) → given_among (cond (txn == n) (Some (g ++ (k, length os + 1) ∷ [])) (numbered given txn)) table ≡ Some write
      by (inl is) =
          ap (λ b. given_among (cond b (Some (g ++ (k, length os + 1) ∷ [])) (numbered given txn)) table) is
          ∙ given-longer g ((k, length os + 1) ∷ []) table write (ap (λ o. given_among o table) (sym (ap (numbered given) (eqb-true txn n is) ∙ has)) ∙ e)
      by (inr is) = ap (λ b. given_among (cond b (Some (g ++ (k, length os + 1) ∷ [])) (numbered given txn)) table) is ∙ e

  owner-new : owner_among (numbered owners_now k) (length os + 1) ≡ Some n
  owner-new =
      ap (λ o. owner_among o (length os + 1)) (owners_are k)
      ∙ ap (λ b. owner_among (cond b (Some (os ++ n ∷ [])) (numbered owners k)) (length os + 1)) (eq-eqb k k refl)
      ∙ numbered-last os n

  given-here : given_among (numbered given_now n) k ≡ Some (length os + 1)
  given-here =
      ap (λ o. given_among o k) (given_is n)
      ∙ ap (λ b. given_among (cond b (Some (g ++ (k, length os + 1) ∷ [])) (numbered given n)) k) (eq-eqb n n refl)
      ∙ given-new g k (length os + 1) fresh

  pub gave-given : AreGiven given owners → AreGiven given_now owners_now
  gave-given are = record { has_owner = to; is_given = from }
    where
      to : (txn table write : ℕ) → given_among (numbered given_now txn) table ≡ Some write → owner_among (numbered owners_now table) write ≡ Some txn
      to txn table write e = by (either (txn == n)) (ap (λ o. given_among o table) (sym (given_is txn)) ∙ e)
        where
          or : (txn ≡ n) → (given_in table g ≡ Some write) ⊎ ((table ≡ k) × (write ≡ length os + 1)) → owner_among (numbered owners_now table) write ≡ Some txn
          or same (inl h) = owner-stays txn table write (are.has_owner txn table write (ap (λ o. given_among o table) (ap (numbered given) same ∙ has) ∙ h))
          or same (inr h) = (λ i. owner_among (numbered owners_now (h.0 i)) (h.1 i)) ∙ owner-new ∙ ap Some (sym same)

          by : (txn == n ≡ true) ⊎ (txn == n ≡ false) → given_among (cond (txn == n) (Some (g ++ (k, length os + 1) ∷ [])) (numbered given txn)) table ≡ Some write
              → owner_among (numbered owners_now table) write ≡ Some txn
          by (inl is) e =
              or (eqb-true txn n is)
              (given-or-new g k (length os + 1) table write
              (sym (ap (λ b. given_among (cond b (Some (g ++ (k, length os + 1) ∷ [])) (numbered given txn)) table) is) ∙ e))
          by (inr is) e =
              owner-stays txn table write
              (are.has_owner txn table write (sym (ap (λ b. given_among (cond b (Some (g ++ (k, length os + 1) ∷ [])) (numbered given txn)) table) is) ∙ e))

      from : (txn table write : ℕ) → owner_among (numbered owners_now table) write ≡ Some txn → given_among (numbered given_now txn) table ≡ Some write
      from txn table write e = by (either (table == k)) (ap (λ o. owner_among o write) (sym (owners_are table)) ∙ e)
        where
          or : (table ≡ k) → (numbered os write ≡ Some txn) ⊎ ((write ≡ length os + 1) × (txn ≡ n)) → given_among (numbered given_now txn) table ≡ Some write
          or same (inl h) = given-stays txn table write (are.is_given txn table write (ap (λ o. owner_among o write) (ap (numbered owners) same ∙ at) ∙ h))
          or same (inr h) = (λ i. given_among (numbered given_now (h.1 i)) (same i)) ∙ given-here ∙ ap Some (sym h.0)

          by : (table == k ≡ true) ⊎ (table == k ≡ false) → owner_among (cond (table == k) (Some (os ++ n ∷ [])) (numbered owners table)) write ≡ Some txn
              → given_among (numbered given_now txn) table ≡ Some write
          by (inl is) e =
              or (eqb-true table k is)
              (numbered-or-last os n write txn (sym (ap (λ b. owner_among (cond b (Some (os ++ n ∷ [])) (numbered owners table)) write) is) ∙ e))
          by (inr is) e =
              given-stays txn table write
              (are.is_given txn table write (sym (ap (λ b. owner_among (cond b (Some (os ++ n ∷ [])) (numbered owners table)) write) is) ∙ e))
