use Rattle.std.proofs.Common.{rules, tests, ◌≡◌, true, false, nat_lt, refl}
use Rattle.std.proofs.lemmas.Iterator.{YieldsList-from_slice}
use Rattle.std.proofs.lemmas.Iterator.Search.{all_from_yields_List}
use Rattle.std.proofs.lemmas.Bool.{false≢true}
use Rattle.std.specs.List.{list_all}
use Rattle.saga_cert.specs.Kept.{is_increasing}
use Rattle.saga_cert.proofs.KeptLemmas.{true-increasing, increasing-false}
use Rattle.saga_cert.proofs.kept.is_kept.Goals as goal

pub returns-then-is_increasing : goal.returns-then-is_increasing
returns-then-is_increasing c =
    let below : c.all.result ≡ list_all (λ n. nat_lt n c.args.count) c.args.numbers.now = all_from_yields_List (λ n. nat_lt n c.args.count) _ _ _ c.all.ensures.ran (YieldsList-from_slice c.args.numbers.now c.iter.ensures.rest) (λ x b q k. search (rules, tests)) in
    let up : is_increasing c.args.numbers.now ≡ true = true-increasing c.args.numbers.now (c.if-is_increasing.ensures.0 refl) in
    rw (up, below)

pub returns-else-is_increasing : goal.returns-else-is_increasing
returns-else-is_increasing c =
    let up : is_increasing c.args.numbers.now ≡ false = increasing-false c.args.numbers.now (λ increasing. false≢true (c.if-is_increasing.ensures.1 increasing)) in
    rw (up, c.if-is_increasing.false) refl
