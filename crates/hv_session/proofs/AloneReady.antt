-- Where others add nothing, a statement that is ready is under way still, and its end can be noted and is what it means.
use Rattle.std.proofs.Common.{◌≡◌, inl, inr, ℕ, ◌<◌, Option, Some, List, [], ◌∷◌, ◌++◌, take, refl, sym, ap, ◌∙◌, subst, append-nil}
use Rattle.hv_base.specs.declared.ids.JobId.{JobId}
use Rattle.hv_base.specs.declared.ids.TableId.{TableId}
use Rattle.hv_base.specs.declared.ids.WriteId.{WriteId}
use Rattle.hv_ast.specs.declared.statement.Stmt.{Stmt}
use Rattle.hv_ast.specs.declared.table.CompactionKind.{CompactionKind}
use Rattle.hv_logic.specs.declared.catalog.TableInfo.{TableInfo}
use Rattle.hv_logic.specs.declared.effect.Effect.{Effect}
use Rattle.hv_logic.specs.declared.meaning.Meaning.{Meaning}
use Rattle.hv_logic.specs.declared.meaning.Meaning.TheVariants.{Change, Ask}
use Rattle.hv_route.specs.Touching.{touches_of}
use Rattle.hv_history.specs.declared.entry.Entry.{Entry}
use Rattle.hv_history.specs.Legal.{TouchesAreMeant}
use Rattle.hv_history.specs.JobsTrue.{kind_of}
use Rattle.hv_history.specs.Answers.{committed_text, ok_line}
use Rattle.hv_stands.specs.Laws.{changes_in}
use Rattle.hv_stands.specs.Running.{Asking, meant, IsUnderWay}
use Rattle.hv_stands.specs.Statements.{AllFitting}
use Rattle.hv_stands.proofs.Begun.{ids-given}
use Rattle.hv_beginning.specs.hv_steps.specs.hv_table_reader.specs.hv_acts.specs.hv_telling.specs.hv_house.specs.House.{entries_of}
use Rattle.hv_beginning.specs.hv_steps.specs.hv_table_reader.specs.hv_acts.specs.declared.told.ToldHouse.{ToldHouse}
use Rattle.hv_beginning.specs.hv_steps.specs.declared.ready.Way.{Way}
use Rattle.hv_beginning.specs.hv_steps.specs.declared.ready.Ready.{Ready}
use Rattle.hv_shelf.specs.declared.place.Place.{Place}
use Rattle.hv_beginning.specs.hv_steps.specs.declared.ready.End.{End}
use Rattle.hv_beginning.specs.hv_steps.specs.declared.reply.Prepared.TheVariants as prepared
use Rattle.hv_beginning.specs.hv_steps.specs.Ending.{EndCanBeNoted, EndIsTrue, IsReadyToEnd, CanChange, giving, job_asked, idle_end}
use Rattle.hv_beginning.specs.hv_steps.specs.Phases.{IsChangeReady}
use Rattle.hv_session.specs.Alone.{IsPreparedAlone, on_its_way}
use Rattle.hv_beginning.specs.hv_steps.proofs.Shorts.{short_idle, short_change}
use Rattle.hv_beginning.specs.hv_steps.proofs.Standing.{means-still, change-stays}
use Rattle.hv_beginning.specs.hv_steps.proofs.Touched.{nothing-touched, well-touched}
use Rattle.hv_session.proofs.JobsAsked.{job-under}

module _ {D : Type 0} (faults : D → ℕ) (asking : Asking) (said : Stmt) (way : Way) (before now : ToldHouse D)
    (under : IsUnderWay (entries_of before.house) asking way.txn.0 way.place said []) (ready : Ready) where
  abbrev old_book : List Entry
  old_book = entries_of before.house

  -- ---- without a write id

  module _ (meaning : Meaning) (last : End) (text : List ℕ) (same : entries_of now.house ≡ old_book) (end_is : ready.end ≡ last) (text_is : ready.text ≡ text)
      (can : EndCanBeNoted old_book way.txn.0 [] last) (truly : EndIsTrue (Some meaning) [] last text) where
    abbrev plain-stands : IsReadyToEnd (entries_of now.house) asking way.txn.0 way.place said ready
    plain-stands = record {
      given = [];
      under_way = subst (λ (b : List Entry). IsUnderWay b asking way.txn.0 way.place said []) (sym same) under;
      can = subst (λ (b : List Entry). EndCanBeNoted b way.txn.0 [] ready.end) (sym same) (subst (EndCanBeNoted old_book way.txn.0 []) (sym end_is) can);
    }

    plain-true : (m : Option Meaning) → m ≡ Some meaning → EndIsTrue m [] ready.end ready.text
    plain-true m is =
        subst (λ (o : Option Meaning). EndIsTrue o [] ready.end ready.text) (sym is)
        (subst (λ (e : End). EndIsTrue (Some meaning) [] e ready.text) (sym end_is)
        (subst (EndIsTrue (Some meaning) [] last) (sym text_is) truly))

    pub plain-ready : IsPreparedAlone faults (on_its_way asking said way) meaning before now (prepared.Ready ready)
    plain-ready = record {
      prepares = record {
        added = [];
        book = same ∙ sym (append-nil old_book);
        shape = inl refl;
        of_it = tt;
        counts = tt;
        undamaged = tt;
      };
      stands = plain-stands;
      truly = λ means. record {
        to_end = plain-stands;
        truly = plain-true (meant (take way.place (entries_of now.house)) said) (ap (λ (b : List Entry). meant (take way.place b) said) same ∙ means);
      };
      last = tt;
      asked = record { added = []; book = same ∙ sym (append-nil old_book); asked = tt };
    }

  -- without a touch
  pub idle-ready : (meaning : Meaning) (text : List ℕ) → TouchesAreMeant [] (Some meaning) → text ≡ committed_text (Some meaning) []
      → entries_of now.house ≡ old_book → ready.end ≡ idle_end → ready.text ≡ text
      → IsPreparedAlone faults (on_its_way asking said way) meaning before now (prepared.Ready ready)
  idle-ready meaning text are says same end_is text_is =
      plain-ready meaning idle_end text same end_is text_is (record { small = short_idle way.txn.0; touched = nothing-touched; change = inl refl })
      (record { meant = are; reply = says; files_are = inl (refl, refl) })

  -- ---- behind the job that it asks for

  module _ (table : TableId) (partition : List ℕ) (kind : CompactionKind) (job : JobId) where
    abbrev noted_job : Entry
    noted_job = job_asked way.txn.0 job table partition (kind_of kind)

    module _ (book : entries_of now.house ≡ old_book ++ noted_job ∷ []) (end_is : ready.end ≡ idle_end) (text_is : ready.text ≡ ok_line) where
      abbrev job-stands : IsReadyToEnd (entries_of now.house) asking way.txn.0 way.place said ready
      job-stands = record {
        given = [];
        under_way = subst (λ (b : List Entry). IsUnderWay b asking way.txn.0 way.place said []) (sym book)
            (job-under old_book asking way.txn.0 way.place said job table partition (kind_of kind) under);
        can = subst (EndCanBeNoted (entries_of now.house) way.txn.0 []) (sym end_is)
            (record { small = short_idle way.txn.0; touched = nothing-touched; change = inl refl });
      }

      job-true : (m : Option Meaning) → m ≡ Some (Ask table partition kind) → EndIsTrue m [] ready.end ready.text
      job-true m is =
          subst (λ (o : Option Meaning). EndIsTrue o [] ready.end ready.text) (sym is)
          (subst (λ (e : End). EndIsTrue (Some (Ask table partition kind)) [] e ready.text) (sym end_is)
          (record { meant = refl; reply = text_is; files_are = inl (refl, refl) }))

      pub job-ready : IsPreparedAlone faults (on_its_way asking said way) (Ask table partition kind) before now (prepared.Ready ready)
      job-ready = record {
        prepares = record {
          added = noted_job ∷ [];
          book = book;
          shape = inr (inr (job, table, partition, kind_of kind, refl));
          of_it = (refl, tt);
          counts = (tt, tt);
          undamaged = (tt, tt);
        };
        stands = job-stands;
        truly = λ means. record {
          to_end = job-stands;
          truly = job-true (meant (take way.place (entries_of now.house)) said)
              (ap (λ (b : List Entry). meant (take way.place b) said) book
              ∙ means-still old_book asking way.txn.0 way.place said [] under (noted_job ∷ []) ∙ means);
        };
        last = tt;
        asked = record { added = noted_job ∷ []; book = book; asked = (tt, tt) };
      }

  -- ---- with its write id, for a change of rows

  module _ (info : TableInfo) (effect : Effect) (write : WriteId) (put : List Place) where
    abbrev noted : Entry
    noted = giving way.txn.0 info.table write

    abbrev with_id : List Entry
    with_id = old_book ++ noted ∷ []

    abbrev ids : List (ℕ × ℕ)
    ids = (info.table.0, write.0) ∷ []

    module _ (book : entries_of now.house ≡ with_id) (fit : AllFitting with_id) (can : CanChange old_book info effect) (some : 0 < changes_in effect)
        (so : IsChangeReady info effect write.0 put ready) where
      abbrev change-stands : IsReadyToEnd (entries_of now.house) asking way.txn.0 way.place said ready
      change-stands = record {
        given = ids;
        under_way = subst (λ (b : List Entry). IsUnderWay b asking way.txn.0 way.place said ids) (sym book)
            (ids-given old_book asking way.txn.0 way.place said [] info.table write under);
        can = subst (EndCanBeNoted (entries_of now.house) way.txn.0 ids) (sym so.end_is) (record {
          small = short_change way.txn.0 info effect (touches_of info effect) can.within refl;
          touched = well-touched info effect write.0 (touches_of info effect) some can.within refl;
          change = inr (record {
            info = info;
            effect = effect;
            can = subst (λ (b : List Entry). CanChange b info effect) (sym book) (change-stays old_book (noted ∷ []) info effect fit can);
            write = write.0;
            touches = refl;
            id = refl;
            places_are = so.places;
          });
        });
      }

      change-true : (m : Option Meaning) → m ≡ Some (Change info effect) → EndIsTrue m ids ready.end ready.text
      change-true m is =
          subst (λ (o : Option Meaning). EndIsTrue o ids ready.end ready.text) (sym is)
          (subst (λ (e : End). EndIsTrue (Some (Change info effect)) ids e ready.text) (sym so.end_is) (record {
            meant = refl;
            reply = so.text_is;
            files_are = inr (record {
              info = info;
              effect = effect;
              write = write.0;
              is_change = refl;
              named = refl;
              id = refl;
              held = so.held;
              encoded = so.encoded;
              places = so.places;
            });
          }))

      pub change-ready : IsPreparedAlone faults (on_its_way asking said way) (Change info effect) before now (prepared.Ready ready)
      change-ready = record {
        prepares = record {
          added = noted ∷ [];
          book = book;
          shape = inr (inl (info.table, write, refl));
          of_it = (refl, tt);
          counts = (tt, tt);
          undamaged = (tt, tt);
        };
        stands = change-stands;
        truly = λ means. record {
          to_end = change-stands;
          truly = change-true (meant (take way.place (entries_of now.house)) said)
              (ap (λ (b : List Entry). meant (take way.place b) said) book ∙ means-still old_book asking way.txn.0 way.place said [] under (noted ∷ []) ∙ means);
        };
        last = tt;
        asked = record { added = noted ∷ []; book = book; asked = ((refl, some), tt) };
      }
