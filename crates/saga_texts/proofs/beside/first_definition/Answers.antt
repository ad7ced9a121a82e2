use Rattle.std.proofs.Common.{rules, arith, ◌≡◌, ◌∙◌, ◌++◌, ap, sym, drop, take, length, length-append, string_bytes}
use Rattle.std.proofs.Math.Seq.{drop-append_seam}
use Rattle.saga_texts.specs.Beside.{head_line}
use Rattle.saga_texts.specs.Lines.{line_feed}
use Rattle.saga_texts.proofs.BesideLemmas.{counted, first_framed, line_back, line_front, line_parts}
use Rattle.saga_texts.proofs.beside.first_definition.Goals.{then-from-count-via-then-from-count, then-from-count-via-else-from-count+then-not-is_same}
use Rattle.saga_texts.proofs.beside.first_definition.Goals as goal

pub returns-clause-begins : goal.returns-clause-begins
returns-clause-begins c =
    let text = c.split_at-2.result.0.now in
    let start : c.split_at.result.0.now ≡ string_bytes c.in_ok-head.head = c.is_same.ensures.0 (search rules) ∙ search rules in
    let line : string_bytes c.in_ok-head.head ≡ head_line (length text) = c.in_ok-head.ensures ∙ ap head_line (sym c.split_at-2.ensures.front_len) in
    let end : c.split_at-3.result.0.now ≡ line_feed = c.is_same-2.ensures.0 (search rules) in
    first_framed c.args.file.now c.split_at.result.0.now c.split_at.result.1.now text c.split_at-2.result.1.now c.split_at-3.result.1.now
    c.split_at.ensures.by_index.0 (start ∙ line) c.split_at-2.ensures.by_index.0 (c.split_at-3.ensures.by_index.0 ∙ ap (λ l. l ++ c.split_at-3.result.1.now) end)

pub returns-in_default-clause-none : goal.returns-in_default-clause-none
returns-in_default-clause-none c text more is =
    let found = c.count_at.ensures text more is in
    let none = c.in_default.is in
    absurd cc

pub returns-then-file-len-clause-none : goal.returns-then-file-len-clause-none
returns-then-file-len-clause-none c text more is =
    let head = string_bytes c.in_ok-head.head in
    let line = c.in_ok-head.ensures ∙ ap head_line (counted c.count_at.result c.in-Some.count (length text) c.in-Some.is (c.count_at.ensures text more is)) in
    absurd (omega (arith, c.if-file-len.true, ap length (line_parts c.args.file.now head text more is line), length-append head (text ++ (line_feed ++ more))))

pub returns-then-from-count-clause-none : goal.returns-then-from-count-clause-none
returns-then-from-count-clause-none c text more is =
    let head = string_bytes c.in_ok-head.head in
    let count = counted c.count_at.result c.in-Some.count (length text) c.in-Some.is (c.count_at.ensures text more is) in
    let line = c.in_ok-head.ensures ∙ ap head_line count in
    let size : c.len-2.result ≡ length head = search rules in
    let from : c.split_at.result.1.now ≡ text ++ (line_feed ++ more) = c.split_at.ensures.back ∙ (ap (λ k. drop k c.args.file.now) size ∙ line_back c.args.file.now head text more is line) in
    let start : c.split_at.result.0.now ≡ head = c.split_at.ensures.front ∙ (ap (λ k. take k c.args.file.now) size ∙ line_front c.args.file.now head text more is line) in
    elim c.then-from-count.branch [
      | then-from-count-via-then-from-count w ↦ absurd (omega (arith, w.if-from-count.true, count, ap length from, length-append text (line_feed ++ more), length-append line_feed more))
      | then-from-count-via-else-from-count+then-not-is_same w ↦ absurd (let same = w.is_same.ensures.1 (start ∙ search rules) in let other = w.if-not-is_same in search rules)
    ]

pub returns-then-not-is_same-2-clause-none : goal.returns-then-not-is_same-2-clause-none
returns-then-not-is_same-2-clause-none c text more is =
    let head = string_bytes c.in_ok-head.head in
    let count = counted c.count_at.result c.in-Some.count (length text) c.in-Some.is (c.count_at.ensures text more is) in
    let line = c.in_ok-head.ensures ∙ ap head_line count in
    let size : c.len-2.result ≡ length head = search rules in
    let from : c.split_at.result.1.now ≡ text ++ (line_feed ++ more) = c.split_at.ensures.back ∙ (ap (λ k. drop k c.args.file.now) size ∙ line_back c.args.file.now head text more is line) in
    let rest : c.split_at-2.result.1.now ≡ line_feed ++ more =
    c.split_at-2.ensures.back ∙ (ap (λ k. drop k c.split_at.result.1.now) count ∙ (ap (drop (length text)) from ∙ drop-append_seam text (line_feed ++ more))) in
    let end : c.split_at-3.result.0.now ≡ line_feed = c.split_at-3.ensures.front ∙ ap (take 1) rest in
    absurd (let same = c.is_same-2.ensures.1 (end ∙ search rules) in let other = c.if-not-is_same-2 in search rules)
