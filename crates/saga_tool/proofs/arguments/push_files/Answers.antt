use Rattle.std.proofs.Common.{arith, sym, Some, None}
use Rattle.std.proofs.lemmas.List.{append-nil}
use Rattle.clap.specs.Words.{found_of}
use Rattle.saga_tool.proofs.MatchLemmas.{file_is, files_are, now_ended, now_pushed}
use Rattle.saga_tool.proofs.arguments.push_files.Goals as goal

pub returns-in_ok-push-in-File : goal.returns-in_ok-push-in-File
returns-in_ok-push-in-File c =
    let e = file_is (found_of c.args.matches.now) c.args.parameter.now.kind c.args.parameter.now.name.now c.get_str.result (Some c.in-Some.path) c.in-File.is c.get_str.ensures c.in-Some.is in
    rw e (now_pushed c.args.files.now.items c.push.new.self.items c.in-Some.path c.in_ok-push-in-File.ensures.items)

pub returns-in_default : goal.returns-in_default
returns-in_default c =
    let e = file_is (found_of c.args.matches.now) c.args.parameter.now.kind c.args.parameter.now.name.now c.get_str.result None c.in-File.is c.get_str.ensures c.in_default.is in
    rw e (sym (append-nil _))

pub returns-after-loop-path : goal.returns-after-loop-path
returns-after-loop-path c =
    let e = files_are (found_of c.args.matches.now) c.args.parameter.now.kind c.args.parameter.now.name.now c.get_strs.result (Some c.in-Some-get_strs.paths) c.in-Files.is c.get_strs.ensures c.in-Some-get_strs.is in
    rw e (now_ended c.loop-path.files.items c.args.files.now.items c.in-Some-get_strs.paths.now c.loop-path.path-index c.loop-path.invariant (omega (arith, c.loop-path-test.false)))

pub returns-in_default-get_strs : goal.returns-in_default-get_strs
returns-in_default-get_strs c =
    let e = files_are (found_of c.args.matches.now) c.args.parameter.now.kind c.args.parameter.now.name.now c.get_strs.result None c.in-Files.is c.get_strs.ensures c.in_default-get_strs.is in
    rw e (sym (append-nil _))
