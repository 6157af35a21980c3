-- The journal behind noted entries.
use Rattle.std.proofs.Common.{◌≡◌, ℕ, ◌+◌, ◌*◌, ◌^◌, ◌<◌, ◌≤◌, Option, Some, None, List, [], ◌∷◌, ◌++◌, length, sym, ap, ◌∙◌, subst, arith}
use Rattle.std.specs.List.{AllByRecursion}
use Rattle.std.proofs.lemmas.List.{length-append}
use Rattle.hv_base.specs.Told.{Tells, Moves}
use Rattle.hv_shelf.specs.Disk.{Store}
use Rattle.hv_history.specs.declared.entry.Entry.{Entry}
use Rattle.hv_history.specs.Journal.{place_of}
use Rattle.hv_journal.specs.Appending.{Holds, KeepsTree}
use Rattle.hv_house.specs.declared.house.House.{House}
use Rattle.hv_house.specs.House.{entries_of, IsSmall, IsKept, AreNoted}
use Rattle.hv_journal.specs.Writing.{CanPutEntry}
use Rattle.hv_journal.proofs.Books.{place_join, leads_len}
use Rattle.hv_bytes.proofs.ItemLemmas.{all_map}
use Rattle.hv_journal.proofs.Lengths.{length-record}

-- the closed gate of a book stands within its journal
pub reached : (told : Option Store) (book : List Entry) (place : ℕ) → Holds told book → place ≡ place_of book → Tells told (λ s. place < length s.journal)
reached None book place holds at = tt
reached (Some s) book place holds at = omega (arith, leads_len book s.journal (0 ∷ holds.0) holds.1, at)

-- small entries have small records
pub few_bytes : (es : List Entry) → AllByRecursion IsSmall es → place_of es ≤ length es * 65541
few_bytes [] small = omega arith
few_bytes (e ∷ es) small = omega (arith, length-record e, small.0, few_bytes es small.1)

can_one : (e : Entry) → IsSmall e → CanPutEntry e
can_one e small = omega (arith, small)

pub can_put : (es : List Entry) → AllByRecursion IsSmall es → AllByRecursion CanPutEntry es
can_put es small = all_map IsSmall CanPutEntry can_one es small

noted_near : (book events : List Entry) (place now : ℕ) → place ≤ 2 ^ 62 + length book * 65541 → AllByRecursion IsSmall events
    → now ≡ place + place_of events → now ≤ 2 ^ 62 + length (book ++ events) * 65541
noted_near book events place now near small is = omega (arith, length-append book events, few_bytes events small, near, is)

-- what was written of entries, and their place behind the book, make them noted
pub noted : {D : Type 0} (told : D → Option Store) (events : List Entry) (before now : House D) → IsKept told before
    → AllByRecursion IsSmall events → length (entries_of before) + length events ≤ 9999999
    → entries_of now ≡ entries_of before ++ events
    → now.place ≡ before.place + place_of events
    → Holds (told now.shelf) (entries_of before ++ events)
    → now.trail.closed ≡ before.trail.closed
    → now.trail.starved ≡ before.trail.starved
    → Moves KeepsTree (told before.shelf) (told now.shelf)
    → AreNoted told events before now
noted told events before now kept small room entries place holds closed starved tree = record {
  kept = record {
    place = omega (arith, place, kept.place, place_join (entries_of before) events) ∙ ap place_of (sym entries);
    near = subst (λ (b : List Entry). now.place ≤ 2 ^ 62 + length b * 65541) (sym entries)
        (noted_near (entries_of before) events before.place now.place kept.near small place);
    few = omega (arith, ap length entries, length-append (entries_of before) events, room);
    reads = subst (Holds (told now.shelf)) (sym entries) holds;
    running = closed ∙ kept.running;
    fed = starved ∙ kept.fed;
  };
  entries = entries;
  tree = tree;
}
