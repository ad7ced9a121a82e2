use Rattle.std.proofs.Common.{◌≡◌, ◌∙◌, ◌<◌, ◌++◌, ℕ, List, ap, arith, length, map, string_bytes, true}
use Rattle.std.proofs.lemmas.List.{length-map}
use Rattle.saga_views.specs.Lists.{is_told_at, text_at, text_if}
use Rattle.saga_views.specs.Limits.{most_sagas}
use Rattle.saga_views.proofs.ListLemmas.{few_more, told_more}
use Rattle.saga_views.proofs.lists.told_sagas.Goals as goal
use Rattle.saga_views.proofs.lists.told_sagas.Goals.{else-told-via-then-told+else-len-ge-MOST_SAGAS, else-told-via-else-told}

pub loop-place-preserved : goal.loop-place-preserved
loop-place-preserved c =
    let book = c.args.book.now in
    let phases = c.args.phases.now in
    let k : ℕ = c.loop-place.place in
    let one : List (List ℕ) = text_if (is_told_at book c.args.from c.args.wanted phases k) (text_at book phases k) in
    let has : map string_bytes c.push_saga.new.texts.items ≡ map string_bytes c.loop-place.texts.items ++ one =
    rw (c.is_told-told.ensures, c.first-first.ensures.value, c.stride-stride.ensures.value) at c.in_ok-push_saga.ensures in
    let less : c.is_told-told.result ≡ true → length (map string_bytes c.loop-place.texts.items) < most_sagas = λ yes. elim c.else-told.branch [
      | else-told-via-then-told+else-len-ge-MOST_SAGAS w ↦ (let same = length-map c.loop-place.texts.items string_bytes in omega (arith, same))
      | else-told-via-else-told w ↦ absurd (let no = w.if-told.false in cc)
    ] in
    record {
      told = has ∙ (ap (λ ts. ts ++ one) c.loop-place.invariant.told ∙ told_more book c.args.from c.args.wanted phases k);
      few = few_more c.is_told-told.result _ (map string_bytes c.loop-place.texts.items) _ c.in_ok-push_saga.ensures c.loop-place.invariant.few less;
    }
