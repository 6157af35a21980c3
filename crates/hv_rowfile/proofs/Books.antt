-- Records one behind the other, and the head before them.
use Rattle.std.proofs.Common.{◌≡◌, ◌≢◌, ℕ, ◌+◌, ◌-◌, ◌<◌, ◌^◌, Bool, List, [], ◌∷◌, ◌++◌, length, drop, Option, Some, None, Result, Ok, Err, refl, sym, ap, subst, ◌∙◌, append_assoc, arith, ◌⊎◌, inl, inr}
use Rattle.std.specs.Prelude.{MatchResult, IfOk, IfErr, codes}
use Rattle.std.specs.Global.{Vec}
use Rattle.std.specs.List.{flat_map, AllByRecursion}
use Rattle.std.proofs.lemmas.List.{length-append, append-nil}
use Rattle.std.proofs.lemmas.List.Concat.{flat_map-cons}
use Rattle.hv_base.specs.declared.ids.RowId.{RowId}
use Rattle.hv_bytes.specs.Spelling.{four_bytes, eight_bytes}
use Rattle.hv_bytes.specs.Reading.{◌>>=◌, four_at, eight_at}
use Rattle.hv_bytes.proofs.Lengths.{length-four}
use Rattle.hv_bytes.proofs.Again.{four_again, eight_again}
use Rattle.hv_bytes.proofs.Only.{read_one}
use Rattle.hv_rowfile.specs.declared.record.Rec.{Rec}
use Rattle.hv_rowfile.specs.declared.fault.FileFault.{FileFault}
use Rattle.hv_rowfile.specs.declared.fault.FileFault.TheVariants as fault
use Rattle.hv_rowfile.specs.Layout.{truth_byte, rec_spelling, head_spelling, file_spelling, RecIsTaken, RecFits, RisesFrom, id_of, last_id, IsNext, Leads, HasNoNext, IsFile}
use Rattle.hv_rowfile.specs.Faults.{IsHeadFault, IsNextFault, IsBodyFault, IsFaultIn}
use Rattle.hv_rowfile.specs.Reading.{truth_at, rec_at}
use Rattle.hv_rowfile.proofs.Again.{truth_again, rec_again}
use Rattle.hv_rowfile.proofs.RowLemmas.{length-head}

pub rec_one : (deletes : Bool) (bucket : ℕ) (r s : Rec) (x y : List ℕ) → RecIsTaken deletes bucket r → RecFits r → RecIsTaken deletes bucket s → RecFits s → rec_spelling r ++ x ≡ rec_spelling s ++ y → (r ≡ s) × (x ≡ y)
rec_one deletes bucket r s x y rt rf st sf same = read_one r s x y (sym (rec_again deletes bucket r x rt rf) ∙ ap (rec_at deletes bucket) same ∙ rec_again deletes bucket s y st sf)

-- ---- records in order

spelled_first : (r : Rec) (recs : List Rec) (rest : List ℕ) → flat_map rec_spelling (r ∷ recs) ++ rest ≡ rec_spelling r ++ (flat_map rec_spelling recs ++ rest)
spelled_first r recs rest = ap (λ (x : List ℕ). x ++ rest) (flat_map-cons rec_spelling r recs) ∙ append_assoc (rec_spelling r) (flat_map rec_spelling recs) rest

pub leads_more : (deletes : Bool) (bucket : ℕ) (before : Option RowId) (recs : List Rec) (bytes rest : List ℕ) (r : Rec) (after : List ℕ) → Leads deletes bucket before recs bytes rest → IsNext deletes bucket (last_id before recs) r → rest ≡ rec_spelling r ++ after
    → Leads deletes bucket before (recs ++ r ∷ []) bytes after
leads_more deletes bucket before [] bytes rest r after led next e = (after, next, led ∙ e, refl)
leads_more deletes bucket before (d ∷ recs) bytes rest r after led next e = (led.0, led.1, led.2, leads_more deletes bucket (Some (id_of d)) recs led.0 rest r after led.3 next e)

pub last_more : (before : Option RowId) (recs : List Rec) (r : Rec) → last_id before (recs ++ r ∷ []) ≡ Some (id_of r)
last_more before [] r = refl
last_more before (d ∷ recs) r = last_more (Some (id_of d)) recs r

pub leads_len : (deletes : Bool) (bucket : ℕ) (before : Option RowId) (recs : List Rec) (bytes rest : List ℕ) → Leads deletes bucket before recs bytes rest → length bytes ≡ length (flat_map rec_spelling recs) + length rest
leads_len deletes bucket before [] bytes rest led = ap length led ∙ omega arith
leads_len deletes bucket before (r ∷ recs) bytes rest led =
    ap length led.2 ∙ omega (arith, length-append (rec_spelling r) led.0, leads_len deletes bucket (Some (id_of r)) recs led.0 rest led.3, ap length (flat_map-cons rec_spelling r recs), length-append (rec_spelling r) (flat_map rec_spelling recs))

-- what the records that lead are, each of them
pub record Each (deletes : Bool) (bucket : ℕ) (before : Option RowId) (recs : List Rec) (bytes rest : List ℕ) : Type 0 where
  pub taken : AllByRecursion (RecIsTaken deletes bucket) recs
  pub fits : AllByRecursion RecFits recs
  pub rising : RisesFrom before recs
  pub parts : bytes ≡ flat_map rec_spelling recs ++ rest

pub leads_each : (deletes : Bool) (bucket : ℕ) (before : Option RowId) (recs : List Rec) (bytes rest : List ℕ) → Leads deletes bucket before recs bytes rest → Each deletes bucket before recs bytes rest
leads_each deletes bucket before [] bytes rest led = record { taken = tt; fits = tt; rising = tt; parts = led }
leads_each deletes bucket before (r ∷ recs) bytes rest led =
    let more = leads_each deletes bucket (Some (id_of r)) recs led.0 rest led.3 in
    record {
      taken = (led.1.taken, more.taken);
      fits = (led.1.fits, more.fits);
      rising = (led.1.follows, more.rising);
      parts = led.2 ∙ ap (λ (x : List ℕ). rec_spelling r ++ x) more.parts ∙ sym (spelled_first r recs rest);
    }

-- where a reader stops before the end, no whole file stands
leads_stop : (deletes : Bool) (bucket : ℕ) (before : Option RowId) (front recs : List Rec) (body rest : List ℕ) → Leads deletes bucket before front body rest
    → ((length front < length recs) × HasNoNext deletes bucket (last_id before front) rest) ⊎ ((length front ≡ length recs) × (rest ≢ []))
    → AllByRecursion (RecIsTaken deletes bucket) recs → AllByRecursion RecFits recs → RisesFrom before recs → body ≡ flat_map rec_spelling recs → ⊥
leads_stop deletes bucket before [] [] body rest led (inl h) t f r e = let lt = h.0 in omega arith
leads_stop deletes bucket before [] [] body rest led (inr h) t f r e = h.1 (sym led ∙ e)
leads_stop deletes bucket before [] (x ∷ recs) body rest led (inl h) t f r e =
    h.1 x (flat_map rec_spelling recs) (record { taken = t.0; fits = f.0; follows = r.0 }) (sym led ∙ e ∙ flat_map-cons rec_spelling x recs)
leads_stop deletes bucket before [] (x ∷ recs) body rest led (inr h) t f r e = let same = h.0 in omega arith
leads_stop deletes bucket before (y ∷ front) [] body rest led (inl h) t f r e = let lt = h.0 in omega arith
leads_stop deletes bucket before (y ∷ front) [] body rest led (inr h) t f r e = let same = h.0 in omega arith
leads_stop deletes bucket before (y ∷ front) (x ∷ recs) body rest led (inl h) t f r e =
    let one = rec_one deletes bucket y x led.0 (flat_map rec_spelling recs) led.1.taken led.1.fits t.0 f.0 (sym led.2 ∙ e ∙ flat_map-cons rec_spelling x recs) in
    let rising = subst (λ (q : Rec). RisesFrom (Some (id_of q)) recs) (sym one.0) r.1 in
    let lt = h.0 in
    leads_stop deletes bucket (Some (id_of y)) front recs led.0 rest led.3 (inl (omega arith, h.1)) t.1 f.1 rising one.1
leads_stop deletes bucket before (y ∷ front) (x ∷ recs) body rest led (inr h) t f r e =
    let one = rec_one deletes bucket y x led.0 (flat_map rec_spelling recs) led.1.taken led.1.fits t.0 f.0 (sym led.2 ∙ e ∙ flat_map-cons rec_spelling x recs) in
    let rising = subst (λ (q : Rec). RisesFrom (Some (id_of q)) recs) (sym one.0) r.1 in
    let same = h.0 in
    leads_stop deletes bucket (Some (id_of y)) front recs led.0 rest led.3 (inr (omega arith, h.1)) t.1 f.1 rising one.1

-- so many records are spelled in one way
same_recs : (deletes : Bool) (bucket : ℕ) (xs ys : List Rec) (m n : List ℕ) → AllByRecursion (RecIsTaken deletes bucket) xs → AllByRecursion RecFits xs → AllByRecursion (RecIsTaken deletes bucket) ys → AllByRecursion RecFits ys
    → length xs ≡ length ys → flat_map rec_spelling xs ++ m ≡ flat_map rec_spelling ys ++ n → (xs ≡ ys) × (m ≡ n)
same_recs deletes bucket [] [] m n at af bt bf len e = (refl, e)
same_recs deletes bucket [] (b ∷ ys) m n at af bt bf len e = absurd (omega arith)
same_recs deletes bucket (a ∷ xs) [] m n at af bt bf len e = absurd (omega arith)
same_recs deletes bucket (a ∷ xs) (b ∷ ys) m n at af bt bf len e =
    let one = rec_one deletes bucket a b (flat_map rec_spelling xs ++ m) (flat_map rec_spelling ys ++ n) at.0 af.0 bt.0 bf.0 (sym (spelled_first a xs m) ∙ e ∙ spelled_first b ys n) in
    let more = same_recs deletes bucket xs ys m n at.1 af.1 bt.1 bf.1 (omega arith) one.1 in
    (λ i. one.0 i ∷ more.0 i, more.1)

-- ---- the head

pub head_parts : (bytes r1 r2 r3 r4 : List ℕ) (deletes : Bool) (bucket count : ℕ) → bytes ≡ codes "HVR1" ++ r1 → r1 ≡ truth_byte deletes ∷ r2 → r2 ≡ four_bytes bucket ++ r3 → r3 ≡ eight_bytes count ++ r4 → bytes ≡ head_spelling deletes bucket count ++ r4
unfolding head_spelling
head_parts bytes r1 r2 r3 r4 deletes bucket count p1 p2 p3 p4 =
    p1 ∙ ap (λ (x : List ℕ). codes "HVR1" ++ x) (p2 ∙ ap (λ (x : List ℕ). truth_byte deletes ∷ x) (p3 ∙ ap (λ (x : List ℕ). four_bytes bucket ++ x) p4 ∙ sym (append_assoc (four_bytes bucket) (eight_bytes count) r4)))

abbrev head_at : List ℕ → Option ((Bool × (ℕ × ℕ)) × List ℕ)
head_at bytes = truth_at (drop 4 bytes) >>= λ t. four_at t.1 >>= λ b. eight_at b.1 >>= λ n. Some ((t.0, (b.0, n.0)), n.1)

head_again : (deletes : Bool) (bucket count : ℕ) (rest : List ℕ) → bucket < 2 ^ 32 → count < 2 ^ 64 → head_at (head_spelling deletes bucket count ++ rest) ≡ Some ((deletes, (bucket, count)), rest)
unfolding head_spelling
head_again deletes bucket count rest small short =
    rw (truth_again deletes ((four_bytes bucket ++ eight_bytes count) ++ rest), append_assoc (four_bytes bucket) (eight_bytes count) rest, four_again bucket (eight_bytes count ++ rest) small, eight_again count rest short) refl

pub behind_mark : (x y : List ℕ) → codes "HVR1" ++ x ≡ codes "HVR1" ++ y → x ≡ y
behind_mark x y e = cc

-- a whole head is not wrong
good_head : (bytes : List ℕ) (deletes : Bool) (bucket count : ℕ) (rest : List ℕ) → bytes ≡ head_spelling deletes bucket count ++ rest → (e : FileFault) → IsHeadFault bytes e → ⊥
unfolding head_spelling
good_head bytes deletes bucket count rest parts fault.NoMemory bad = bad
good_head bytes deletes bucket count rest parts (fault.Damaged at) (inl h) = h.1 ((truth_byte deletes ∷ four_bytes bucket ++ eight_bytes count) ++ rest) parts
good_head bytes deletes bucket count rest parts (fault.Damaged at) (inr (inl h)) =
    h.1.none deletes ((four_bytes bucket ++ eight_bytes count) ++ rest) (behind_mark _ _ (sym h.1.parts ∙ parts))
good_head bytes deletes bucket count rest parts (fault.Damaged at) (inr (inr (inl h))) =
    let short = h.1.short in
    omega (arith, ap length h.1.parts, ap length parts, length-append (head_spelling deletes bucket count) rest, length-head deletes bucket count)
good_head bytes deletes bucket count rest parts (fault.Damaged at) (inr (inr (inr h))) =
    let short = h.1.short in
    omega (arith, ap length h.1.parts, ap length parts, length-append (head_spelling deletes bucket count) rest, length-head deletes bucket count, length-append (four_bytes h.1.bucket) h.1.rest, length-four h.1.bucket)

-- ---- files

pub file_found : (bytes : List ℕ) (deletes : Bool) (bucket count : ℕ) (body : List ℕ) (recs : List Rec) → bucket < 2 ^ 32 → count < 2 ^ 64 → bytes ≡ head_spelling deletes bucket count ++ body → length recs ≡ count → Leads deletes bucket None recs body []
    → IsFile deletes bucket recs × (bytes ≡ file_spelling deletes bucket recs)
unfolding file_spelling
file_found bytes deletes bucket count body recs small short parts len led =
    let each = leads_each deletes bucket None recs body [] led in (
      record { can_write = record { each = each.taken; rising = each.rising }; fits = each.fits; bucket_fits = small; count_fits = omega arith },
      parts ∙ ap (λ (k : ℕ). head_spelling deletes bucket k ++ body) (sym len) ∙ ap (λ (x : List ℕ). head_spelling deletes bucket (length recs) ++ x) (each.parts ∙ append-nil (flat_map rec_spelling recs)),
    )

pub head_fault : (bytes : List ℕ) (e : FileFault) → IsHeadFault bytes e → IsFaultIn bytes e
head_fault bytes fault.NoMemory bad = absurd bad
head_fault bytes (fault.Damaged at) (inl h) = inl h
head_fault bytes (fault.Damaged at) (inr (inl h)) = inr (inl h)
head_fault bytes (fault.Damaged at) (inr (inr (inl h))) = inr (inr (inl h))
head_fault bytes (fault.Damaged at) (inr (inr (inr h))) = inr (inr (inr (inl h)))

pub body_fault : (bytes : List ℕ) (deletes : Bool) (bucket count : ℕ) (body : List ℕ) (e : FileFault) → bucket < 2 ^ 32 → count < 2 ^ 64 → bytes ≡ head_spelling deletes bucket count ++ body → IsBodyFault deletes bucket count body e → IsFaultIn bytes e
body_fault bytes deletes bucket count body fault.NoMemory small short parts bad = tt
body_fault bytes deletes bucket count body (fault.Damaged at) small short parts bad =
    let b = bad.2 in
    inr (inr (inr (inr (bad.0, bad.1, record { deletes = deletes; bucket = bucket; count = count; body = body; rest = b.rest; bucket_fits = small; count_fits = short; parts = parts; leads = b.leads; within = b.within; wrong = b.wrong }))))

abbrev head_is : Bool → ℕ → ℕ → Bool × (ℕ × ℕ)
head_is deletes bucket count = (deletes, (bucket, count))

pub head_one : (d e : Bool) (b c m n : ℕ) (x y : List ℕ) → b < 2 ^ 32 → c < 2 ^ 32 → m < 2 ^ 64 → n < 2 ^ 64 → head_spelling d b m ++ x ≡ head_spelling e c n ++ y → (head_is d b m ≡ head_is e c n) × (x ≡ y)
head_one d e b c m n x y bs cs ms ns same = read_one {A = Bool × (ℕ × ℕ)} (head_is d b m) (head_is e c n) x y (sym (head_again d b m x bs ms) ∙ ap head_at same ∙ head_again e c n y cs ns)

-- no file begins another
pub file_one : (d e : Bool) (b c : ℕ) (recs others : List Rec) (rest : List ℕ) → IsFile d b recs → IsFile e c others → file_spelling d b recs ++ rest ≡ file_spelling e c others → (rest ≡ []) × (d ≡ e) × (b ≡ c) × (recs ≡ others)
unfolding file_spelling
file_one d e b c recs others rest one other same =
    let body = flat_map rec_spelling recs in
    let head = head_one d e b c (length recs) (length others) (body ++ rest) (flat_map rec_spelling others) one.bucket_fits other.bucket_fits one.count_fits other.count_fits (sym (append_assoc (head_spelling d b (length recs)) body rest) ∙ same) in
    let kind : d ≡ e = ap (λ (p : Bool × (ℕ × ℕ)). p.0) head.0 in
    let bucket : b ≡ c = ap (λ (p : Bool × (ℕ × ℕ)). p.1.0) head.0 in
    let count : length recs ≡ length others = ap (λ (p : Bool × (ℕ × ℕ)). p.1.1) head.0 in
    let taken : AllByRecursion (RecIsTaken d b) others = subst (λ (k : Bool). AllByRecursion (RecIsTaken k b) others) (sym kind) (subst (λ (k : ℕ). AllByRecursion (RecIsTaken e k) others) (sym bucket) other.can_write.each) in
    let more = same_recs d b recs others rest [] one.can_write.each one.fits taken other.fits count (head.1 ∙ sym (append-nil (flat_map rec_spelling others))) in
    (more.1, kind, bucket, more.0)

pub file_not_behind : (bytes : List ℕ) (deletes : Bool) (bucket : ℕ) (recs : List Rec) → IsFile deletes bucket recs → bytes ≡ file_spelling deletes bucket recs → (e : FileFault) → IsFaultIn bytes e → e ≡ fault.NoMemory
unfolding file_spelling
file_not_behind bytes deletes bucket recs file is fault.NoMemory bad = refl
file_not_behind bytes deletes bucket recs file is (fault.Damaged at) (inl h) = absurd (good_head bytes deletes bucket (length recs) (flat_map rec_spelling recs) is (fault.Damaged at) (inl h))
file_not_behind bytes deletes bucket recs file is (fault.Damaged at) (inr (inl h)) = absurd (good_head bytes deletes bucket (length recs) (flat_map rec_spelling recs) is (fault.Damaged at) (inr (inl h)))
file_not_behind bytes deletes bucket recs file is (fault.Damaged at) (inr (inr (inl h))) = absurd (good_head bytes deletes bucket (length recs) (flat_map rec_spelling recs) is (fault.Damaged at) (inr (inr (inl h))))
file_not_behind bytes deletes bucket recs file is (fault.Damaged at) (inr (inr (inr (inl h)))) = absurd (good_head bytes deletes bucket (length recs) (flat_map rec_spelling recs) is (fault.Damaged at) (inr (inr (inr h))))
file_not_behind bytes deletes bucket recs file is (fault.Damaged at) (inr (inr (inr (inr h)))) =
    let b = h.2 in
    let head = head_one b.deletes deletes b.bucket bucket b.count (length recs) b.body (flat_map rec_spelling recs) b.bucket_fits file.bucket_fits b.count_fits file.count_fits (sym b.parts ∙ is) in
    let kind : deletes ≡ b.deletes = sym (ap (λ (p : Bool × (ℕ × ℕ)). p.0) head.0) in
    let same : bucket ≡ b.bucket = sym (ap (λ (p : Bool × (ℕ × ℕ)). p.1.0) head.0) in
    let count : b.count ≡ length recs = ap (λ (p : Bool × (ℕ × ℕ)). p.1.1) head.0 in
    let taken : AllByRecursion (RecIsTaken b.deletes b.bucket) recs = subst (λ (k : Bool). AllByRecursion (RecIsTaken k b.bucket) recs) kind (subst (λ (k : ℕ). AllByRecursion (RecIsTaken deletes k) recs) same file.can_write.each) in
    let wrong = subst (λ (n : ℕ). ((length h.0 < n) × HasNoNext b.deletes b.bucket (last_id None h.0) b.rest) ⊎ ((length h.0 ≡ n) × (b.rest ≢ []))) count b.wrong in
    absurd (leads_stop b.deletes b.bucket None h.0 recs b.body b.rest b.leads wrong taken file.fits file.can_write.rising head.1)

-- what reading answers is all that it may answer
pub file_only : (bytes : List ℕ) (r : Result (Bool × ℕ × Vec Rec) FileFault) → IfOk r (λ x. IsFile x.0 x.1 x.2.items × (bytes ≡ file_spelling x.0 x.1 x.2.items)) → IfErr r (IsFaultIn bytes)
    → (deletes : Bool) (bucket : ℕ) (recs : List Rec) → IsFile deletes bucket recs → bytes ≡ file_spelling deletes bucket recs
    → MatchResult r (λ x. (x.0 ≡ deletes) × (x.1 ≡ bucket) × (x.2.items ≡ recs)) (λ e. e ≡ fault.NoMemory)
file_only bytes (Ok x) read bad deletes bucket recs file is =
    let one = file_one x.0 deletes x.1 bucket x.2.items recs [] read.0 file (append-nil (file_spelling x.0 x.1 x.2.items) ∙ sym read.1 ∙ is) in
    (one.1, one.2, one.3)
file_only bytes (Err e) read bad deletes bucket recs file is = file_not_behind bytes deletes bucket recs file is e bad

pub next_fault : (deletes : Bool) (bucket count i : ℕ) (body : List ℕ) (recs : List Rec) (rest : List ℕ) (before : Option RowId) (e : FileFault) → Leads deletes bucket None recs body rest → length recs ≡ i → i < count → before ≡ last_id None recs
    → IsNextFault deletes bucket before rest (17 + (length body - length rest)) e → IsBodyFault deletes bucket count body e
next_fault deletes bucket count i body recs rest before fault.NoMemory led len lt last bad = tt
next_fault deletes bucket count i body recs rest before (fault.Damaged at) led len lt last bad =
    let at_is = bad.0 in (
      recs,
      omega (arith, leads_len deletes bucket None recs body rest led),
      record { rest = rest; leads = led; within = omega arith; wrong = inl (omega arith, subst (λ (q : Option RowId). HasNoNext deletes bucket q rest) last bad.1) },
    )
