-- The commands as `clap` sees them.
use Rattle.std.specs.Prelude.{List, Some, codes, true, ◌∷◌, [], fold, map}
use Rattle.clap.specs.Words.{Rule, App, new_rule, new_app, with_rule}
use Rattle.clap.specs.Walk.{Text}
use Rattle.clap.specs.declared.builder.action.ArgAction.TheVariants.{Set, SetTrue, Append}
use Rattle.clap.specs.declared.builder.value_parser.ValueParser.TheVariants as parser
use Rattle.saga_tool.specs.Limits.{max_number}
use Rattle.saga_tool.specs.declared.forms.Kind.{Kind}
use Rattle.saga_tool.specs.declared.forms.Kind.TheVariants.{File, Optional, Files, Flag, Path, Number}
use Rattle.saga_tool.specs.declared.forms.Parameter.{Parameter}
use Rattle.saga_tool.specs.declared.forms.Form.{Form}
use Rattle.saga_tool.specs.declared.forms.Name.{Name}
use Rattle.saga_tool.specs.declared.forms.Name.TheVariants.{Check, Plan, Run, Audit, Draw, Drive}

-- a required file, an optional file, any number of files, a flag, an option with a path, or an option with a number
-- from 1 to 16 (default: 1)
abbrev pub rule_by : Kind → Text → Rule
rule_by File name = record (new_rule name) { required = true; action = Some Set; value_names = 1 }
rule_by Optional name = record (new_rule name) { action = Some Set; value_names = 1 }
rule_by Files name = record (new_rule name) { action = Some Append; value_names = 1 }
rule_by Flag name = record (new_rule name) { long = Some name; action = Some SetTrue }
rule_by Path name = record (new_rule name) { long = Some name; action = Some Set; value_names = 1 }
rule_by Number name = record (new_rule name) {
  long = Some name;
  action = Some Set;
  value_names = 1;
  parser = Some (parser.Unsigned 1 max_number);
  defaults = codes "1" ∷ [];
}

-- the kind and the name of an argument
pub record Argument : Type 0 where
  pub kind : Kind
  pub name : Text

abbrev pub argument : Kind → Text → Argument
argument kind name = record { kind = kind; name = name }

abbrev pub argument_of : Parameter → Argument
argument_of p = argument p.kind p.name.now

abbrev pub rule_for : Argument → Rule
rule_for a = rule_by a.kind a.name

abbrev pub bare_app : Text → App
bare_app name = record (new_app name) { top = record (new_app name).top { no_binary_name = true } }

-- a row of the table, without its texts: the title of a command, and its arguments in order
pub record Outline : Type 0 where
  pub title : Text
  pub arguments : List Argument

abbrev pub outline_of : Form → Outline
outline_of form = record { title = form.title.now; arguments = map argument_of form.parameters.now }

abbrev pub added : App → Argument → App
added a arg = with_rule a (rule_for arg)

-- the command as `clap` sees it
abbrev pub app_by : Outline → App
app_by o = fold added (bare_app o.title) o.arguments

-- the commands
abbrev pub word_for : Name → Text
word_for Check = codes "check"
word_for Plan = codes "plan"
word_for Run = codes "run"
word_for Audit = codes "audit"
word_for Draw = codes "draw"
word_for Drive = codes "drive"

abbrev pub outline_for : Name → Outline
outline_for Check = record {
  title = codes "sagas check";
  arguments = argument File (codes "DEF") ∷ argument File (codes "CASE") ∷ argument File (codes "ANSWER") ∷ [];
}
outline_for Plan = record {
  title = codes "sagas plan";
  arguments = argument File (codes "DEF") ∷ argument File (codes "CASE") ∷ [];
}
outline_for Run = record {
  title = codes "sagas run";
  arguments = argument Number (codes "workers") ∷ argument Number (codes "shards") ∷ argument Path (codes "script") ∷ argument Path (codes "log")
      ∷ argument File (codes "DEF") ∷ argument Files (codes "MORE") ∷ [];
}
outline_for Audit = record {
  title = codes "sagas audit";
  arguments = argument Flag (codes "fleet") ∷ argument File (codes "LOG") ∷ argument Files (codes "DEF") ∷ [];
}
outline_for Draw = record {
  title = codes "sagas draw";
  arguments = argument File (codes "DEF") ∷ argument Optional (codes "CASE") ∷ argument Optional (codes "ANSWER") ∷ [];
}
outline_for Drive = record {
  title = codes "sagas drive";
  arguments = argument Path (codes "log") ∷ argument Flag (codes "lines") ∷ argument Path (codes "from")
      ∷ argument Files (codes "DEF") ∷ [];
}
