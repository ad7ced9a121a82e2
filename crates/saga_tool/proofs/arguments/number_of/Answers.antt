use Rattle.std.proofs.Common.{◌≡◌, ◌∙◌, sym, ap, Some, None, unwrap_or, ℕ, Option}
use Rattle.clap.specs.Words.{found_of, rows_of}
use Rattle.clap.proofs.WalkLemmas.{one_text-rows}
use Rattle.saga_tool.specs.Forms.{outline_of}
use Rattle.std.specs.Str.Parse.{ParsesUnsigned, ExplainsUnsignedError, HasUnsignedDigitsIfOk}
use Rattle.saga_tool.proofs.MatchLemmas.{found_number, read_number, is_numbered}
use Rattle.saga_tool.proofs.arguments.number_of.Goals as goal

pub unreachable-requires : goal.unreachable-requires
unreachable-requires c =
    let f = found_of c.args.matches.now in
    let has = sym c.has_number.ensures ∙ c.if-not-has_number.false in
    let text = found_number (rows_of f) c.args.name.now (outline_of c.args.form.now).arguments c.requires.holds has in
    let read = read_number (λ bs r. ParsesUnsigned 64 10 bs r × ExplainsUnsignedError 10 bs r × HasUnsignedDigitsIfOk bs r) text.0 c.get_one.result
    (c.get_one.ensures.value text.0 (one_text-rows f c.args.name.now ∙ text.1)) (λ u x g. g.0) text.2 in
    let bad : Some read.0 ≡ None = sym read.1 ∙ c.in-None.is in cc

pub returns-clause-number : goal.returns-clause-number
returns-clause-number c =
    let f = found_of c.args.matches.now in
    let has = sym c.has_number.ensures ∙ c.if-not-has_number.false in
    let text = found_number (rows_of f) c.args.name.now (outline_of c.args.form.now).arguments c.requires.holds has in
    let read = read_number (λ bs r. ParsesUnsigned 64 10 bs r × ExplainsUnsignedError 10 bs r × HasUnsignedDigitsIfOk bs r) text.0 c.get_one.result
    (c.get_one.ensures.value text.0 (one_text-rows f c.args.name.now ∙ text.1)) (λ u x g. g.0) text.2 in
    let same : c.in-Some.number ≡ read.0 = ap (λ (o : Option ℕ). unwrap_or o 0) (sym c.in-Some.is ∙ read.1) in
    is_numbered (outline_of c.args.form.now).arguments (rows_of f) c.args.name.now c.in-Some.number text.0 has text.1 (same ∙ read.2)

pub returns-clause-within : goal.returns-clause-within
returns-clause-within c =
    let f = found_of c.args.matches.now in
    let has = sym c.has_number.ensures ∙ c.if-not-has_number.false in
    let text = found_number (rows_of f) c.args.name.now (outline_of c.args.form.now).arguments c.requires.holds has in
    let read = read_number (λ bs r. ParsesUnsigned 64 10 bs r × ExplainsUnsignedError 10 bs r × HasUnsignedDigitsIfOk bs r) text.0 c.get_one.result
    (c.get_one.ensures.value text.0 (one_text-rows f c.args.name.now ∙ text.1)) (λ u x g. g.0) text.2 in
    let same : c.in-Some.number ≡ read.0 = ap (λ (o : Option ℕ). unwrap_or o 0) (sym c.in-Some.is ∙ read.1) in
    rw same (read.3, read.4)
