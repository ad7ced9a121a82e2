use Rattle.std.proofs.Common.{ℕ, ◌≡◌, ◌<◌, ◌*◌, ◌∙◌, ◌++◌, ◌∷◌, [], List, length, ap, arith}
use Rattle.std.specs.Prelude.{false}
use Rattle.std.proofs.lemmas.List.{length_push}
use Rattle.saga_rows.proofs.BitSetLemmas.{word_more, number_more, marks_long}
use Rattle.saga_rows.proofs.bit_sets.BitSet.push.Goals as goal
use Rattle.saga_rows.proofs.bit_sets.BitSet.push.Goals.{then-self-len+in_ok-push, else-self-len}

pub invariant_of-self-2 : goal.invariant_of-self-2
invariant_of-self-2 c =
    let ws : List ℕ = c.self.inside.words.items in
    let few : c.self.inside.len < 4096 = rw (← c.self.view_is, marks_long ws c.self.inside.len) at c.requires in
    elim c.if-self-len.branch [
      | then-self-len+in_ok-push w ↦
          let full : c.self.inside.len ≡ 64 * length ws = omega (arith, w.if-self-len.true, c.len.ensures) in
          rw (w.self-inside-is, w.in_ok-push.ensures.items) (number_more (ws ++ 0 ∷ []) c.self.inside.summary c.self.inside.len (omega (arith, full, length_push ws 0)) (word_more ws c.self.inside.summary c.self.inside.len few full c.self.invariant).0).0
      | else-self-len w ↦
          rw w.self-inside-is (number_more ws c.self.inside.summary c.self.inside.len (omega (arith, w.if-self-len.false, c.len.ensures, c.self.invariant.room)) c.self.invariant).0
    ]

pub returns-clause-ok : goal.returns-clause-ok
returns-clause-ok c =
    let ws : List ℕ = c.self.inside.words.items in
    let few : c.self.inside.len < 4096 = rw (← c.self.view_is, marks_long ws c.self.inside.len) at c.requires in
    elim c.if-self-len.branch [
      | then-self-len+in_ok-push w ↦
          let full : c.self.inside.len ≡ 64 * length ws = omega (arith, w.if-self-len.true, c.len.ensures) in
          let more = word_more ws c.self.inside.summary c.self.inside.len few full c.self.invariant in
          rw (← c.self.view_is, w.self-inside-is, w.in_ok-push.ensures.items) ((number_more (ws ++ 0 ∷ []) c.self.inside.summary c.self.inside.len (omega (arith, full, length_push ws 0)) more.0).1 ∙ ap (λ ms. ms ++ false ∷ []) more.1)
      | else-self-len w ↦
          rw (← c.self.view_is, w.self-inside-is) (number_more ws c.self.inside.summary c.self.inside.len (omega (arith, w.if-self-len.false, c.len.ensures, c.self.invariant.room)) c.self.invariant).1
    ]
