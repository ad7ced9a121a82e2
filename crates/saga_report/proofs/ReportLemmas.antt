-- All sagas are told.
use Rattle.std.proofs.Common.{◌≡◌, ◌∙◌, ◌≤◌, ◌++◌, ℕ, List, length, take, flat_map, sum_by, ap, refl}
use Rattle.std.specs.Prelude.{count_by}
use Rattle.std.proofs.lemmas.List.{take_all}
use Rattle.saga_def.specs.Contents.{Contents}
use Rattle.saga_history.specs.declared.events.Event.{Event}
use Rattle.saga_report.specs.declared.sagas.Entry.{Entry}
use Rattle.saga_report.specs.Lines.{contents_of, total_line}
use Rattle.saga_report.specs.Reports.{AreInOrder, IsReport, IsCountedReport, changes_at, story_at, text_at, phase_at, is_ended, is_stuck}
use Rattle.saga_report.proofs.PhaseLemmas.{phase_is}

pub counted_report_is : (shelf : List Contents) (histories : List (List Event)) (entries : List Entry) (k : ℕ) (before text : List ℕ) (count ended stuck total : ℕ)
    → AreInOrder histories entries → length entries ≤ k → before ≡ flat_map (text_at shelf histories) (take k entries)
    → ended ≡ count_by (λ e. is_ended (phase_at shelf histories e)) (take k entries) → stuck ≡ count_by (λ e. is_stuck (phase_at shelf histories e)) (take k entries)
    → count ≡ length entries → total ≡ sum_by length histories → text ≡ before ++ total_line count ended stuck total → IsCountedReport shelf histories text stuck
counted_report_is shelf histories entries k before text count ended stuck total order long told are_ended are_stuck counted events is =
    let all : take k entries ≡ entries = take_all k entries long in
    record {
      entries = entries;
      in_order = order;
      phases = λ e. phase_is (contents_of shelf (story_at histories e)) (changes_at histories e);
      text_is = is ∙ rw (told, are_ended, are_stuck, counted, events, all) refl;
      stuck_are = are_stuck ∙ ap (count_by (λ e. is_stuck (phase_at shelf histories e))) all;
    }

-- its text is the report
pub its_report : (shelf : List Contents) (histories : List (List Event)) (text : List ℕ) (stuck : ℕ) → IsCountedReport shelf histories text stuck
    → IsReport shelf histories text
its_report shelf histories text stuck r = record { entries = r.entries; in_order = r.in_order; phases = r.phases; text_is = r.text_is }
