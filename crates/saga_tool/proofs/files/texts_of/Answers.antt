use Rattle.std.proofs.Common.{◌≡◌, rules}
use Rattle.std.specs.Prelude.{Ok, Err}
use Rattle.saga_texts.proofs.ListLemmas.{text_here, zip_pushed}
use Rattle.saga_tool.proofs.ReplyLemmas.{first_unreadable}
use Rattle.saga_tool.proofs.files.texts_of.Goals as goal

pub returns-in_err-text-clause-stop : goal.returns-in_err-text-clause-stop
returns-in_err-text-clause-stop g c =
    let is : c.from_residual.result ≡ Err c.in_err-text.field-0.0 = search rules in
    rw is (first_unreadable (g.W.Outside.world c.args.outside.now).file_gives c.args.limit c.args.paths.now c.loop-path.path-index _ _ c.in_err-text.field-0.0
    c.loop-path-test.true c.loop-path.invariant c.in_err-text.ensures.stop)

pub loop-path-preserved : goal.loop-path-preserved
loop-path-preserved g c =
    zip_pushed (λ path text. (g.W.Outside.world c.args.outside.now).file_gives path c.args.limit (Ok text)) _ c.loop-path.texts.items c.push.new.self.items
    c.loop-path.path-index _ c.in_ok-text.text (text_here c.args.paths.now c.loop-path.path-index _ c.loop-path-test.true) c.loop-path.invariant
    c.in_ok-text.ensures.text c.in_ok-push.ensures.items
