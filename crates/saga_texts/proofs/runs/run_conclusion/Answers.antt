use Rattle.std.proofs.Common.{◌∙◌, ℕ, arith, ap, length, refl, subst, sym, List}
use Rattle.std.specs.Borrow.{Bor}
use Rattle.std.specs.List.{range_with_len}
use Rattle.std.specs.String.{string_bytes}
use Rattle.std.proofs.lemmas.List.{length-map}
use Rattle.saga_def.specs.Contents.{Contents}
use Rattle.saga_desk.specs.Finish.{AreOfShards, HeadlineHolds, MergesAreLegal, events_of}
use Rattle.saga_work.specs.Asked.{AreOpenedAsAsked}
use Rattle.saga_report.specs.Reports.{IsCountedReport}
use Rattle.saga_texts.proofs.ListLemmas.{zip_length}
use Rattle.saga_texts.proofs.RunLemmas.{answered_told, headline_log}
use Rattle.saga_texts.proofs.runs.run_conclusion.Goals as goal

pub places_of-requires : goal.places_of-requires
places_of-requires g c =
    let same = zip_length _ _ _ c.in-Ok-read_shelf.ensures.shelf in
    omega (arith, ap length c.deref.ensures.value, same, length-map c.args.definitions.now (λ (t : Bor (List ℕ)). t.now), c.if-definitions-gt-MAX_SHELF.false)

pub returns-in-Ok-run_all : goal.returns-in-Ok-run_all
returns-in-Ok-run_all g c =
    let shelf = c.in-Ok-read_shelf.shelf.items in
    let books = c.in-Ok-run_all.run'.books.items in
    let read = c.in-Ok.ensures in
    let ran = c.in-Ok-run_all.ensures in
    let told = c.in_ok-account_of-in-Ok-run_all.ensures.tells in
    let back = c.in_ok-account_of-in-Ok-run_all.ensures.read_back in
    let account = c.in_ok-account_of-in-Ok-run_all.field-0 in
    let of_shelf = c.deref-2.ensures.value in
    let legal : MergesAreLegal shelf books = subst (λ (s : List Contents). MergesAreLegal s books) of_shelf ran.legal in
    let headline : HeadlineHolds shelf books = subst (λ (s : List Contents). HeadlineHolds s books) of_shelf ran.headline in
    record {
      few = omega (arith, length-map c.args.definitions.now (λ (t : Bor (List ℕ)). t.now), c.if-definitions-gt-MAX_SHELF.false);
      statements = read.0;
      script_is = read.1;
      shelf = shelf;
      shelf_is = c.in-Ok-read_shelf.ensures.shelf;
      books = books;
      run = record {
        shards_are = subst (λ (s : List Contents). AreOfShards s c.args.shards books) of_shelf ran.shards;
        opened = subst (λ (asks : List ℕ). AreOpenedAsAsked c.args.shards asks books)
            (c.deref-3.ensures.value ∙ (c.in_ok-asks.ensures ∙ ap (λ s. range_with_len 0 (length s)) c.deref.ensures.value)) ran.opened;
        answered = answered_told c.in-Ok.script read.0 books read.2 ran.answered;
        over = λ e. ran.ended (sym told.stop ∙ e);
        legal = legal;
        headline = headline;
      };
      tells = record {
        report = subst (λ (s : List Contents). IsCountedReport s (events_of books) (string_bytes account.report) account.stuck)
            c.deref-in-Ok-run_all.ensures.value told.report;
        log = told.log;
        stop = refl;
      };
      written = headline_log shelf books (string_bytes account.log) legal headline
          (rw c.deref-in-Ok-run_all.ensures.value at back);
    }
