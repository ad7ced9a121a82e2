-- How many files a command gives.
use Rattle.std.proofs.Common.{◌≡◌, ◌≤◌, ◌||◌, ap, Bool, true, false, Option, Some, None, List, [], ◌∷◌, length, map, refl, arith, length-append}
use Rattle.std.specs.List.{All, list_any}
use Rattle.std.specs.Borrow.{Bor}
use Rattle.std.proofs.lemmas.List.Elements.{All-drop, All-get_or}
use Rattle.clap.specs.Walk.{Row, Text}
use Rattle.clap.specs.Words.{first_of}
use Rattle.saga_tool.specs.declared.forms.Kind.{Kind}
use Rattle.saga_tool.specs.declared.forms.Kind.TheVariants.{File, Optional, Files, Flag, Path, Number}
use Rattle.saga_tool.specs.Forms.{Argument}
use Rattle.saga_tool.specs.Given.{Holds, HoldsBy, IsCount, files_by, files_in, files_room, files_wanted, one_or_none, room, takes_more, wanted}

at_least : (rows : List Row) (kind : Kind) (name : Text) → HoldsBy kind name rows → files_wanted kind ≤ length (files_by kind name rows)
at_least rows File name holds = rw holds.1 (omega arith)
at_least rows Optional name holds = omega arith
at_least rows Files name holds = omega arith
at_least rows Flag name holds = omega arith
at_least rows Path name holds = omega arith
at_least rows Number name holds = omega arith

one_at_most : (o : Option Text) → length (one_or_none o) ≤ 1
one_at_most None = omega arith
one_at_most (Some path) = omega arith

at_most : (rows : List Row) (kind : Kind) (name : Text) → takes_more kind ≡ false → length (files_by kind name rows) ≤ files_room kind
at_most rows File name one = one_at_most (first_of name rows)
at_most rows Optional name one = one_at_most (first_of name rows)
at_most rows Files name one = cc
at_most rows Flag name one = omega arith
at_most rows Path name one = omega arith
at_most rows Number name one = omega arith

either : (a b : Bool) → (a || b) ≡ false → (a ≡ false) × (b ≡ false)
either true b h = cc
either false b h = (refl, h)

enough : (rows : List Row) (args : List Argument) → All (Holds rows) args → wanted args ≤ length (files_in rows args)
enough rows [] all = omega arith
enough rows (a ∷ more) all =
    let here = at_least rows a.kind a.name (All-get_or (Holds rows) (a ∷ more) 0 a (omega arith) all) in
    let rest = enough rows more (All-drop (Holds rows) 1 (a ∷ more) all) in
    omega (arith, here, rest, length-append (files_by a.kind a.name rows) (files_in rows more))

few : (rows : List Row) (args : List Argument) → list_any (λ a. takes_more a.kind) args ≡ false → length (files_in rows args) ≤ room args
few rows [] none = omega arith
few rows (a ∷ more) none =
    let no = either (takes_more a.kind) (list_any (λ (b : Argument). takes_more b.kind) more) none in
    let here = at_most rows a.kind a.name no.0 in
    let rest = few rows more no.1 in
    omega (arith, here, rest, length-append (files_by a.kind a.name rows) (files_in rows more))

same_length : (xs : List (Bor Text)) → length (map (λ (s : Bor Text). s.now) xs) ≡ length xs
same_length [] = refl
same_length (x ∷ xs) = omega (arith, same_length xs)

-- the files that matches give are as many as the command wants, and no more than it has names for
pub counted : (rows : List Row) (args : List Argument) (files : List (Bor Text)) → All (Holds rows) args
    → map (λ (s : Bor Text). s.now) files ≡ files_in rows args → IsCount args (length files)
counted rows args files all is =
    let same = same_length files in
    let long : length (map (λ (s : Bor Text). s.now) files) ≡ length (files_in rows args) = ap length is in
    record {
      enough = omega (arith, same, long, enough rows args all);
      few = λ none. omega (arith, same, long, few rows args none);
    }
