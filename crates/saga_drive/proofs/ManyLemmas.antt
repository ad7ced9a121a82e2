-- Many tasks that begin one after the other: one more behind the others.
use Rattle.std.proofs.Common.{◌≡◌, ◌∙◌, ◌↔◌, ℕ, ◌+◌, ◌<◌, List, [], ◌∷◌, ◌++◌, Bool, true, false, IsTrue, refl, sym, ap, subst, arith, append_assoc, append-nil, codes, flat_map, inl, length-append, string_bytes}
use Rattle.std.proofs.lemmas.List.{flat_map_more}
use Rattle.saga_history.specs.declared.events.Event.{Event}
use Rattle.saga_history.specs.declared.tasks.Task.{Task}
use Rattle.saga_core.specs.Book.{Book}
use Rattle.saga_core.specs.Tasks.{AllAreOver, IsFirstTask, NoTaskIsAllowed}
use Rattle.saga_log.specs.Logs.{event_line}
use Rattle.saga_drive.specs.declared.replies.Reply.{Reply}
use Rattle.saga_drive.specs.declared.requests.Request.TheVariants as request
use Rattle.saga_drive.specs.declared.tellings.Telling.{Telling}
use Rattle.saga_drive.specs.Answers.{IsMet}
use Rattle.saga_drive.specs.Starts.{AreReadBack, IsUntouched, NextIsStarted, Starts, after}
use Rattle.saga_drive.specs.Many.{HasStarted, HasStartedAll, HasStartedFewer, IsUntold, StartInTurn, is_some}
use Rattle.saga_drive.specs.Replies.{last_tasks_front, lines_of, text_of}
use Rattle.saga_views.specs.Words.{listed}
use Rattle.saga_drive.specs.Tellings.{comma_if}

-- two runs of events, one after the other
after_both : (book : Book) (first rest : List Event) → after (after book first) rest ≡ after book (first ++ rest)
after_both book first rest = ap (λ h. record book { history = h }) (append_assoc book.history first rest)

in_turn_more : (tasks : List Task) (t : Task) (book : Book) (gained more : List Event) (told : List (List ℕ)) (text : List ℕ)
    → StartInTurn tasks book gained told → IsFirstTask (after book gained) t → Starts (after book gained) t more text
    → StartInTurn (tasks ++ t ∷ []) book (gained ++ more) (told ++ text ∷ [])
in_turn_more [] t book gained more told text (none, untold) first begins =
    let here : after book gained ≡ book = rw none (ap (λ h. record book { history = h }) (append-nil book.history)) in (
      more,
      text,
      [],
      [],
      subst (λ (b : Book). IsFirstTask b t) here first,
      subst (λ (b : Book). Starts b t more text) here begins,
      (refl, refl),
      ap (λ g. g ++ more) none ∙ sym (append-nil more),
      ap (λ l. l ++ text ∷ []) untold,
    )
in_turn_more (u ∷ tasks) t book gained more told text (one, a, rest, texts, is_first, begins_one, others, all, all_told) first begins =
    let there : after book gained ≡ after (after book one) rest = ap (after book) all ∙ sym (after_both book one rest) in (
      one,
      a,
      rest ++ more,
      texts ++ text ∷ [],
      is_first,
      begins_one,
      in_turn_more tasks t (after book one) rest more texts text others
          (subst (λ (b : Book). IsFirstTask b t) there first) (subst (λ (b : Book). Starts b t more text) there begins),
      ap (λ g. g ++ more) all ∙ append_assoc one rest more,
      ap (λ l. l ++ text ∷ []) all_told,
    )

pub back_both : (first rest : List Event) → AreReadBack first → AreReadBack rest → AreReadBack (first ++ rest)
back_both [] rest one other = other
back_both (e ∷ first) rest one other = (one.0, back_both first rest one.1 other)

-- texts behind each other
is_some-more : (told : List (List ℕ)) (text : List ℕ) → true ≡ is_some (told ++ text ∷ [])
is_some-more [] text = refl
is_some-more (x ∷ told) text = refl

listed_more : (told : List (List ℕ)) (text : List ℕ) → listed (codes ",") told ++ (comma_if (is_some told) ++ text) ≡ listed (codes ",") (told ++ text ∷ [])
listed_more [] text = sym (append-nil text)
listed_more (x ∷ told) text = flat_map_more (λ y. codes "," ++ y) x told text

-- none has begun
pub has_started_none : (book : Book) (telling : Telling) → IsUntold telling → HasStarted book book telling 0
has_started_none book telling untold = record {
  tasks = [];
  told = [];
  gained = [];
  counted = refl;
  told_all = refl;
  begin = (refl, refl);
  grows = sym (ap (λ h. record book { history = h }) (append-nil book.history));
  back = tt;
  text = untold.text;
  lines = untold.lines;
  apart = untold.apart;
}

flat_both : (first rest : List Event) → flat_map event_line first ++ flat_map event_line rest ≡ flat_map event_line (first ++ rest)
flat_both [] rest = refl
flat_both (e ∷ first) rest = append_assoc (event_line e) (flat_map event_line first) (flat_map event_line rest) ∙ ap (λ l. event_line e ++ l) (flat_both first rest)

pub has_started_more : (old mid new : Book) (a b : Telling) (count : ℕ) → HasStarted old mid a count → NextIsStarted true mid new a b → HasStarted old new b (count + 1)
has_started_more old mid new a b count has (t, first, begun) = record {
  tasks = has.tasks ++ t ∷ [];
  told = has.told ++ begun.told ∷ [];
  gained = has.gained ++ begun.gained;
  counted = length-append has.tasks (t ∷ []) ∙ ap (λ n. n + 1) has.counted;
  told_all = length-append has.told (begun.told ∷ []) ∙ ap (λ n. n + 1) has.told_all;
  begin = in_turn_more has.tasks t old has.gained begun.gained has.told begun.told has.begin
      (subst (λ (book : Book). IsFirstTask book t) has.grows first)
      (subst (λ (book : Book). Starts book t begun.gained begun.told) has.grows begun.begins);
  grows = begun.grows ∙ (ap (λ book. after book begun.gained) has.grows ∙ after_both old has.gained begun.gained);
  back = back_both has.gained begun.gained has.back begun.back;
  text = begun.more.text ∙ (ap (λ l. l ++ (comma_if a.apart ++ begun.told)) has.text
      ∙ (ap (λ p. listed (codes ",") has.told ++ (comma_if p ++ begun.told)) has.apart ∙ listed_more has.told begun.told));
  lines = begun.more.lines ∙ (ap (λ l. l ++ flat_map event_line begun.gained) has.lines ∙ flat_both has.gained begun.gained);
  apart = begun.more.apart ∙ is_some-more has.told begun.told;
}

-- where nothing more happened, what has begun still has
has_started_still : (old mid new : Book) (a b : Telling) (count : ℕ) → HasStarted old mid a count → IsUntouched mid new a b → HasStarted old new b count
has_started_still old mid new a b count has (same, untold) = record {
  tasks = has.tasks;
  told = has.told;
  gained = has.gained;
  counted = has.counted;
  told_all = has.told_all;
  begin = has.begin;
  grows = same ∙ has.grows;
  back = has.back;
  text = untold.text ∙ has.text;
  lines = untold.lines ∙ has.lines;
  apart = untold.apart ∙ has.apart;
}

pub has_started_fewer : (old mid new : Book) (a b : Telling) (count most : ℕ) → HasStarted old mid a count → count < most → IsUntouched mid new a b
    → HasStartedFewer old new b most
has_started_fewer old mid new a b count most has lt untouched = record {
  count = count;
  fewer = lt;
  started = has_started_still old mid new a b count has untouched;
}

pub has_started_last : (old mid new : Book) (a b : Telling) (count most : ℕ) → HasStarted old mid a count → count < most → NextIsStarted false mid new a b
    → HasStartedAll false old new b most
has_started_last old mid new a b count most has lt (none, same, untold) =
    (has_started_fewer old mid new a b count most has lt (same, untold), subst (λ (book : Book). NoTaskIsAllowed book) (sym same) none)

-- where no task is left, they are the last
pub are_the_last : (old new : Book) (telling : Telling) (most : ℕ) (settled : Bool) (front : List ℕ) (reply : Reply) → HasStartedAll false old new telling most
    → (IsTrue settled ↔ AllAreOver new) → front ≡ last_tasks_front settled
    → text_of reply ≡ front ++ string_bytes telling.text ++ codes "]}\n" → lines_of reply ≡ string_bytes telling.lines → IsMet old new (request.NextMany most) reply
are_the_last old new telling most settled front reply (fewer, none) over is text lines =
    let has : HasStarted old new telling fewer.count = fewer.started in
    record {
      gained = has.gained;
      gains = record { grows = has.grows; logged = lines ∙ has.lines; back = has.back };
      meets = record {
        tasks = has.tasks;
        told = has.told;
        within = omega (arith, has.counted, fewer.fewer);
        begin = has.begin;
        end = inl (record {
          none = subst (λ (book : Book). NoTaskIsAllowed book) has.grows none;
          settled = settled;
          settled_is = subst (λ (book : Book). IsTrue settled ↔ AllAreOver book) has.grows over;
          text_is = text ∙ (ap (λ l. l ++ string_bytes telling.text ++ codes "]}\n") is
              ∙ ap (λ l. last_tasks_front settled ++ l ++ codes "]}\n") has.text);
        });
      };
    }
