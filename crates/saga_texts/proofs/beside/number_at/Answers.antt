use Rattle.std.proofs.Common.{◌∙◌, decimal, sym, subst}
use Rattle.std.specs.Str.{IsUtf8}
use Rattle.std.proofs.lemmas.Fmt.{IsAscii-decimal, parse-decimal}
use Rattle.std.proofs.lemmas.Str.{IsUtf8-from_ascii}
use Rattle.memchr.specs.Find.{IsFirstByte, is_byte}
use Rattle.saga_texts.proofs.BesideLemmas.{number_before, space_behind}
use Rattle.saga_texts.proofs.beside.number_at.Goals as goal

pub returns-in_default : goal.returns-in_default
returns-in_default c n more small is =
    let found = space_behind n more c.args.text.now c.memchr.result small is c.memchr.ensures in
    let none = c.in_default.is in
    absurd cc

pub returns-in_default-from_utf8 : goal.returns-in_default-from_utf8
returns-in_default-from_utf8 c n more small is =
    let digits = c.split_at.ensures.front ∙ number_before n c.in-Some.end more c.args.text.now small is (subst (IsFirstByte (is_byte 32) c.args.text.now) c.in-Some.is c.memchr.ensures) in
    absurd (c.in_default-from_utf8.ensures.cases.0 (subst IsUtf8 (sym digits) (IsUtf8-from_ascii (decimal n) (IsAscii-decimal n small))))

pub returns-in-Ok-parse : goal.returns-in-Ok-parse
returns-in-Ok-parse c n more small is =
    let digits = c.split_at.ensures.front ∙ number_before n c.in-Some.end more c.args.text.now small is (subst (IsFirstByte (is_byte 32) c.args.text.now) c.in-Some.is c.memchr.ensures) in
    let read = parse-decimal 64 n c.in-Ok.digits.now c.parse.result small small (c.in-Ok.ensures.cases.0 ∙ digits) c.parse.ensures.value.0 in
    let is_read = c.in-Ok-parse.is in
    cc

pub returns-in-Err : goal.returns-in-Err
returns-in-Err c n more small is =
    let digits = c.split_at.ensures.front ∙ number_before n c.in-Some.end more c.args.text.now small is (subst (IsFirstByte (is_byte 32) c.args.text.now) c.in-Some.is c.memchr.ensures) in
    let read = parse-decimal 64 n c.in-Ok.digits.now c.parse.result small small (c.in-Ok.ensures.cases.0 ∙ digits) c.parse.ensures.value.0 in
    let failed = c.in-Err.is in
    absurd cc
