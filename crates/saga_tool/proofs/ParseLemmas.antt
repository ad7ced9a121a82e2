-- What a parse that succeeds has of each argument of a row.
use Rattle.std.proofs.Common.{◌||◌, ◌≡◌, ◌⊎◌, ◌∙◌, ◌<◌, ◌≤◌, ap, ℕ, Bool, true, false, List, [], ◌∷◌, length, is_some, Option, Some, None, refl, sym, subst, inl, inr, arith, not, codes, ◌&&◌, zero, suc, map, bytes_eq}
use Rattle.std.specs.List.{All, slice_index_or, list_all, list_any}
use Rattle.std.specs.Str.{bytes_eq}
use Rattle.std.specs.Prelude.{option_map, slice_get, find, fold, drop, ◌++◌, Result, Ok, Err, IfOk, IfErr}
use Rattle.std.specs.Borrow.{Bor}
use Rattle.std.proofs.lemmas.Slice.Eq.{bytes_eq-Decides}
use Rattle.std.proofs.lemmas.List.Elements.{All-get_or}
use Rattle.clap.specs.Facts.{args_of, groups_of, IsParsed, Entry, EntryPasses, ValuesPass, PassesArg, HasReading, least_values, parser_of, parser_of_value, HasIn, unwrap_or_range, WantsDefault}
use Rattle.clap.specs.Built.{IsPlain, IsParsedFrom, IsAuto, SameRules}
use Rattle.clap.specs.Matches.{matched_of, first_value, one_text, found_of, has_subcommand}
use Rattle.clap.specs.declared.parser.matches.Found.{Found}
use Rattle.clap.specs.Values.{Accepts, read_as, reading_of}
use Rattle.clap.specs.declared.builder.value_parser.Reading.{Reading}
use Rattle.clap.proofs.CallerLemmas.{entry_by_id, same_rules_by_id, required_present, default_present, present_has_entry}
use Rattle.clap.specs.declared.builder.action.ArgAction.TheVariants.{Set, Count}
use Rattle.clap.specs.declared.builder.arg.Arg.{Arg}
use Rattle.clap.specs.declared.builder.command.Command.{Command}
use Rattle.clap.specs.declared.builder.command.Command.TheViews.{out-Command}
use Rattle.clap.specs.declared.builder.value_parser.ValueParser.{ValueParser}
use Rattle.clap.specs.declared.parser.matches.ArgMatches.{ArgMatches}
use Rattle.clap.specs.Walk.{Rule, Text, rule_of, rows_of}
use Rattle.clap.specs.Simple.{is_simple, App, app_of, shape_of, IsSimple, is_ready, is_ready_leaf, HasReadyLeaves}
use Rattle.clap.specs.Faults.{is_simple_and_free, has_free_rules}
use Rattle.clap.proofs.SimpleLemmas.{ready_simple, leaf_subcommands, simple_groups, is_false}
use Rattle.clap.proofs.FaultLemmas.{free_args}
use Rattle.clap.specs.declared.builder.range.ValueRange.{ValueRange}
use Rattle.clap.specs.Kinds.{FailsBy, HasKind, Kinds}
use Rattle.clap.specs.declared.error.Error.{Error}
use Rattle.clap.proofs.WalkLemmas.{first_value-rows, one_text-rows}
use Rattle.std.proofs.lemmas.List.{append-nil, append_assoc}
use Rattle.clap.specs.declared.builder.value_parser.ValueParser.TheVariants as parser
use Rattle.saga_tool.specs.declared.forms.Kind.{Kind}
use Rattle.saga_tool.specs.declared.forms.Kind.TheVariants.{File, Optional, Files, Flag, Path, Number}
use Rattle.saga_tool.specs.Forms.{Argument, Outline, added, app_by, bare_app, rule_by, rule_for}
use Rattle.saga_tool.specs.Given.{Holds, HoldsBy}
use Rattle.saga_tool.specs.Suited.{is_own, are_apart, is_suited}
use Rattle.clap.specs.declared.parser.matches.MatchedArg.{MatchedArg}

-- the first of values that all pass
head_passes : (P : Bor (List ℕ) → Type 0) (how : Reading) (vs : List (Bor (List ℕ))) → All P vs
    → is_some (option_map (λ s. s.now) (slice_get vs 0)) ≡ true
    → (v : Bor (List ℕ)) × (option_map (λ s. read_as how s.now) (slice_get vs 0) ≡ Some (read_as how v.now)) × P v
head_passes P how [] h some = cc
head_passes P how (v ∷ vs) h some = (v, refl, All-get_or P (v ∷ vs) 0 v (omega arith) h)

-- what an entry reads as its first value
one_text_at_entry : (f : Found) (id : List ℕ) (x : MatchedArg) (how : Reading) (t : List ℕ) → matched_of f id ≡ Some x → x.reading ≡ how
    → option_map (λ s. read_as how s.now) (slice_get x.vals.items 0) ≡ Some t → one_text f id ≡ Some t
one_text_at_entry f id x how t found is v = rw (found, is) v

-- an argument with the id of the caller's argument is read as the caller's parser says
only_reading : (old : Command) (m : ArgMatches) (p : IsParsedFrom old m) (k : ℕ) (d : Arg) → k < length (args_of old)
    → ((j : ℕ) (e : Arg) → j < length (args_of old)
    → bytes_eq (slice_index_or (args_of old) j e).id.now (slice_index_or (args_of old) k d).id.now ≡ true → j ≡ k)
    → (IsAuto (slice_index_or (args_of old) k d) → ⊥)
    → (q : ValueParser) → (slice_index_or (args_of old) k d).value_parser ≡ Some q
    → (r : Reading) → HasReading p.built (slice_index_or (args_of old) k d).id.now r → r ≡ reading_of q
only_reading old m p k d lt unique own q parser r any =
    let s = same_rules_by_id old m p k d lt unique own any.0 any.1 any.2 any.3 any.4.0 in
    let is_q : parser_of any.1 ≡ q = ap parser_of_value (s.parser q parser) in
    sym any.4.1 ∙ ap reading_of is_q

-- what its parser accepts
accepts_of : (a y : Arg) (q : ValueParser) (t : List ℕ) → SameRules a y → a.value_parser ≡ Some q
    → Accepts y.ignore_case (parser_of y) t → Accepts a.ignore_case q t
accepts_of a y q t s parser read =
    let is_q : parser_of y ≡ q = ap parser_of_value (s.parser q parser) in
    let as_q : Accepts y.ignore_case q t = subst (λ (w : ValueParser). Accepts y.ignore_case w t) is_q read in
    subst (λ (b : Bool). Accepts b q t) s.ignore_case as_q

-- a value that passed has passed that parser
passes_read : (old : Command) (m : ArgMatches) (p : IsParsedFrom old m) (k : ℕ) (d : Arg) → k < length (args_of old)
    → ((j : ℕ) (e : Arg) → j < length (args_of old)
    → bytes_eq (slice_index_or (args_of old) j e).id.now (slice_index_or (args_of old) k d).id.now ≡ true → j ≡ k)
    → (IsAuto (slice_index_or (args_of old) k d) → ⊥)
    → (q : ValueParser) → (slice_index_or (args_of old) k d).value_parser ≡ Some q
    → (w : List ℕ) (v : Bor (List ℕ)) → w ≡ (slice_index_or (args_of old) k d).id.now → PassesArg p.built w v.now
    → Accepts (slice_index_or (args_of old) k d).ignore_case q v.now
passes_read old m p k d lt unique own q parser w v key pass =
    let same : bytes_eq pass.1.id.now (slice_index_or (args_of old) k d).id.now ≡ true =
    subst (λ (u : List ℕ). bytes_eq pass.1.id.now u ≡ true) key pass.4.0 in
    accepts_of _ pass.1 q v.now (same_rules_by_id old m p k d lt unique own pass.0 pass.1 pass.2 pass.3 same) parser pass.4.1

-- what one entry gives
read_of : (c : Command) (f : Found) (id : List ℕ) (Q : List ℕ → Type 0) (how : Reading) (x : MatchedArg) (e : Entry)
    → groups_of c ≡ [] → (id ≡ [] → ⊥) → ((r : Reading) → HasReading c id r → r ≡ how)
    → ((v : Bor (List ℕ)) → PassesArg c id v.now → Q v.now)
    → matched_of f id ≡ Some x → is_some (option_map (λ s. s.now) (slice_get x.vals.items 0)) ≡ true
    → e.1 ≡ x → e.0.now ≡ id → EntryPasses c e
    → (t : List ℕ) × (one_text f id ≡ Some (read_as how t)) × Q t
read_of c f id Q how x e no_groups named reads read found first same_x key_id pass =
    let no_group : e.1.is_group ≡ true → ⊥ = λ g. elim (pass.3 g) [
      | inl empty ↦ named (sym key_id ∙ empty)
      | inr lots ↦
          let bad : 0 < 0 = rw no_groups at lots in
          absurd (omega arith)
    ] in
    let all : All (λ v. PassesArg c id v.now) x.vals.items = elim pass.0 [
      | inl g ↦ absurd (no_group g)
      | inr vals ↦ subst (λ (w : List ℕ). All (λ v. PassesArg c w v.now) x.vals.items) key_id (rw same_x at vals)
    ] in
    let is : e.1.reading ≡ how = elim pass.4 [
      | inl g ↦ absurd (no_group g)
      | inr h ↦ reads e.1.reading (subst (λ (w : List ℕ). HasReading c w e.1.reading) key_id h)
    ] in
    finish (head_passes (λ v. PassesArg c id v.now) how x.vals.items all first) (ap (λ (y : MatchedArg). y.reading) (sym same_x) ∙ is)
  where
    finish : ((v : Bor (List ℕ)) × (option_map (λ s. read_as how s.now) (slice_get x.vals.items 0) ≡ Some (read_as how v.now)) × PassesArg c id v.now)
        → x.reading ≡ how → (t : List ℕ) × (one_text f id ≡ Some (read_as how t)) × Q t
    finish hd is = (hd.0.now, one_text_at_entry f id x how (read_as how hd.0.now) found is hd.1, read hd.0 hd.2)

-- what the entry of an id gives, where it is an argument's with a first value
entry_read : (c : Command) (f : Found) (id : List ℕ) (Q : List ℕ → Type 0) (how : Reading) → ValuesPass c f → groups_of c ≡ [] → (id ≡ [] → ⊥)
    → is_some (first_value f id) ≡ true → ((r : Reading) → HasReading c id r → r ≡ how)
    → ((v : Bor (List ℕ)) → PassesArg c id v.now → Q v.now)
    → (t : List ℕ) × (one_text f id ≡ Some (read_as how t)) × Q t
entry_read c f id Q how values no_groups named has reads read = go (matched_of f id) refl has
  where
    step : (x : MatchedArg) → matched_of f id ≡ Some x → is_some (option_map (λ s. s.now) (slice_get x.vals.items 0)) ≡ true
        → ((e : Entry) × (e.1 ≡ x) × (bytes_eq e.0.now id ≡ true) × EntryPasses c e)
        → (t : List ℕ) × (one_text f id ≡ Some (read_as how t)) × Q t
    step x found first got =
        read_of c f id Q how x got.0 no_groups named reads read found first got.1 ((bytes_eq-Decides got.0.0.now id).0 got.2) got.3

    go : (o : Option MatchedArg) → matched_of f id ≡ o → is_some (first_value f id) ≡ true → (t : List ℕ) × (one_text f id ≡ Some (read_as how t)) × Q t
    go None e h =
        let bad : false ≡ true = rw e at h in
        cc
    go (Some x) e h = step x e (rw e at h) (entry_by_id (EntryPasses c) f.entries.items id x values e)

both : (a b : Bool) → (a && b) ≡ true → (a ≡ true) × (b ≡ true)
both true true h = (refl, refl)
both true false h = (refl, h)
both false true h = (h, refl)
both false false h = (h, h)

-- what is suited, in its parts
record Suits (a : App) : Type 0 where
  simple : is_simple_and_free a ≡ true
  ready : is_ready a.top ≡ true
  free : has_free_rules a.top ≡ true
  leaf : a.top.is_leaf ≡ true
  negates : a.top.subcommand_negates_reqs ≡ false
  names : are_apart a.top.rules ≡ true

suits : (a : App) → is_suited a ≡ true → Suits a
suits a h =
    let one = both _ _ h in
    let two = both _ _ one.1 in
    let three = both _ _ two.1 in
    let four = both _ _ three.1 in
    let five = both _ _ four.1 in
    record { simple = one.0; ready = two.0; free = three.0; leaf = four.0; negates = is_false _ five.0; names = five.1 }

-- the rule in a place is that of the argument in it
rule_at : (args : List Arg) (k : ℕ) (d : Arg) (e : Rule) → k < length args
    → slice_index_or (map rule_of args) k e ≡ rule_of (slice_index_or args k d)
rule_at [] k d e lt = absurd (omega arith)
rule_at (x ∷ xs) zero d e lt = refl
rule_at (x ∷ xs) (suc k) d e lt = rule_at xs k d e (omega (arith, lt))

-- a name of a list that is apart is its own
own_at : (args : List Arg) (k : ℕ) (d : Arg) → are_apart (map rule_of args) ≡ true → k < length args
    → is_own (slice_index_or args k d).id.now ≡ true
own_at [] k d h lt = absurd (omega arith)
own_at (x ∷ xs) zero d h lt = (both _ _ h).0
own_at (x ∷ xs) (suc k) d h lt = own_at xs k d (both _ _ (both _ _ h).1).1 (omega (arith, lt))

neither : (a b : Bool) → (a || b) ≡ false → b ≡ false
neither true b h = cc
neither false b h = h

-- no later argument has the id
none_later : (args : List Arg) (id : Text) (k : ℕ) (d : Arg) → list_any (λ (other : Rule). bytes_eq other.id id) (map rule_of args) ≡ false
    → k < length args → bytes_eq (slice_index_or args k d).id.now id ≡ true → ⊥
none_later [] id k d h lt same = absurd (omega arith)
none_later (x ∷ xs) id zero d h lt same =
    let bad : true ≡ false = rw same at h in cc
none_later (x ∷ xs) id (suc k) d h lt same = none_later xs id k d (neither _ _ h) (omega (arith, lt)) same

same_back : (s t : Text) → bytes_eq s t ≡ true → bytes_eq t s ≡ true
same_back s t h = let e : s ≡ t = (bytes_eq-Decides s t).0 h in subst (λ (w : Text). bytes_eq w s ≡ true) e (subst (λ (w : Text). bytes_eq s w ≡ true) (sym e) h)

-- so that two places of one id are one
one_place : (args : List Arg) (j k : ℕ) (d e : Arg) → are_apart (map rule_of args) ≡ true → j < length args → k < length args
    → bytes_eq (slice_index_or args j e).id.now (slice_index_or args k d).id.now ≡ true → j ≡ k
one_place [] j k d e h j-lt k-lt same = absurd (omega arith)
one_place (x ∷ xs) zero zero d e h j-lt k-lt same = refl
one_place (x ∷ xs) zero (suc k) d e h j-lt k-lt same =
    absurd (none_later xs x.id.now k d (is_false _ (both _ _ (both _ _ h).1).0) (omega (arith, k-lt)) (same_back x.id.now (slice_index_or xs k d).id.now same))
one_place (x ∷ xs) (suc j) zero d e h j-lt k-lt same =
    absurd (none_later xs x.id.now j e (is_false _ (both _ _ (both _ _ h).1).0) (omega (arith, j-lt)) same)
one_place (x ∷ xs) (suc j) (suc k) d e h j-lt k-lt same =
    ap suc (one_place xs j k d e (both _ _ (both _ _ h).1).1 (omega (arith, j-lt)) (omega (arith, k-lt)) same)

own_some : (id : Text) → is_own id ≡ true → id ≡ [] → ⊥
own_some [] h e = cc
own_some (x ∷ xs) h e = cc

own_none : (id : Text) → is_own id ≡ true → ((id ≡ codes "help") ⊎ (id ≡ codes "version")) → ⊥
own_none id own auto =
    let rest = both _ _ (both _ _ own).1 in
    elim auto [
      | inl h ↦ let bad : false ≡ true = subst (λ (t : Text). not (bytes_eq t (codes "help")) ≡ true) h rest.0 in cc
      | inr h ↦ let bad : false ≡ true = subst (λ (t : Text). not (bytes_eq t (codes "version")) ≡ true) h rest.1 in cc
    ]

-- what a suited command is before it is built
record Stands (c : Command) : Type 0 where
  plain : IsPlain c
  globals : (out-Command c).has_globals ≡ false
  negates : (out-Command c).subcommand_negates_reqs ≡ false
  simple : IsSimple c
  apart : are_apart (map rule_of (args_of c)) ≡ true

leaves : (c : Command) → (shape_of c).is_leaf ≡ true → HasReadyLeaves c
leaves c leaf = subst (λ (subs : List Command). list_all is_ready_leaf (map shape_of subs) ≡ true) (sym (leaf_subcommands c leaf)) refl

stands : (c : Command) → is_suited (app_of c) ≡ true → Stands c
stands c h =
    let s = suits (app_of c) h in
    let simple : IsSimple c = ready_simple c s.ready (leaves c s.leaf) in
    let free = free_args c simple s.free in
    let groups = simple_groups c (both _ _ (both _ _ s.ready).0).1 in
    record {
      plain = ((λ k d lt. let f = free k d lt in (f.exclusive, f.conflicts, f.overrides, groups k d lt)), simple.groups);
      globals = simple.globals;
      negates = s.negates;
      simple = simple;
      apart = s.names;
    }

first_some : (xs : List (Bor (List ℕ))) → 0 < length xs → is_some (option_map (λ s. s.now) (slice_get xs 0)) ≡ true
first_some [] lt = absurd (omega arith)
first_some (x ∷ xs) lt = refl

-- the argument in a place takes one value
record TakesOne (a : Arg) : Type 0 where
  set : a.action ≡ Some Set
  one : a.num_vals ≡ None

-- an entry of such an argument has a value
has_value : (c : Command) (m : ArgMatches) → Stands c → IsParsedFrom c m → (k : ℕ) (d : Arg) → k < length (args_of c)
    → TakesOne (slice_index_or (args_of c) k d) → is_some (matched_of (found_of m) (slice_index_or (args_of c) k d).id.now) ≡ true
    → is_some (first_value (found_of m) (slice_index_or (args_of c) k d).id.now) ≡ true
has_value c m st p k d lt takes some =
    let own = own_at (args_of c) k d st.apart lt in
    let parsed = p.parsed (p.from.globals ∙ st.globals) in
    go (matched_of (found_of m) (slice_index_or (args_of c) k d).id.now) refl some parsed (own_some _ own) (own_none _ own)
    (λ j e j-lt same. one_place (args_of c) j k d e st.apart j-lt lt same)
  where
    go : (o : Option MatchedArg) → matched_of (found_of m) (slice_index_or (args_of c) k d).id.now ≡ o → is_some (matched_of (found_of m) (slice_index_or (args_of c) k d).id.now) ≡ true
        → IsParsed p.built (found_of m) (has_subcommand m)
        → ((slice_index_or (args_of c) k d).id.now ≡ [] → ⊥) → (IsAuto (slice_index_or (args_of c) k d) → ⊥)
        → ((j : ℕ) (e : Arg) → j < length (args_of c) → bytes_eq (slice_index_or (args_of c) j e).id.now (slice_index_or (args_of c) k d).id.now ≡ true → j ≡ k)
        → is_some (first_value (found_of m) (slice_index_or (args_of c) k d).id.now) ≡ true
    go None e some parsed named own unique = cc
    go (Some x) e some parsed named own unique =
        let got = entry_by_id (EntryPasses p.built) (found_of m).entries.items (slice_index_or (args_of c) k d).id.now x parsed.values e in
        let same_x : got.0.1 ≡ x = got.1 in
        let key_id : got.0.0.now ≡ (slice_index_or (args_of c) k d).id.now = (bytes_eq-Decides _ _).0 got.2 in
        let no_groups : groups_of p.built ≡ [] = (p.from.plain st.plain).1 in
        let one : (slice_index_or (args_of c) k d).num_vals ≡ None = takes.one in
        elim got.3.1 [
          | inl h ↦ elim h.1 [
            | inl empty ↦ absurd (named (sym key_id ∙ empty))
            | inr has ↦
                let bad : 0 < 0 = rw no_groups at has in
                absurd (omega arith)
          ]
          | inr (inl v) ↦ rw e (first_some x.vals.items (rw same_x at v))
          | inr (inr (inl h)) ↦
              let any = h.1 in
              let s = same_rules_by_id c m p k d lt unique own any.0 any.1 any.2 any.3 (rw key_id at any.4.0) in
              let is_set : any.1.action ≡ Some Set = s.action Set takes.set in
              let bad : Set ≡ Count = rw is_set at any.4.1 in
              cc
          | inr (inr (inr h)) ↦
              let s = same_rules_by_id c m p k d lt unique own h.0 h.1 h.2 h.3 (rw key_id at h.4.0) in
              elim h.4.1 [
                | inl none ↦
                    let least : 1 ≤ least_values (slice_index_or (args_of c) k d) = subst (λ (o : Option ValueRange). 1 ≤ (unwrap_or_range o).start_inclusive) (sym one) (omega arith) in
                    let more : 1 ≤ least_values h.1 = s.least takes.set least in
                    absurd (omega arith)
                | inr has ↦
                    let delim : (slice_index_or (args_of c) k d).val_delim ≡ None = (st.simple.args k d lt).delimiter in
                    let bad : false ≡ true = rw (s.val_delim, delim) at has in
                    cc
              ]
        ]

-- and its first value has passed its parser
value_read : (c : Command) (m : ArgMatches) → Stands c → (p : IsParsedFrom c m) → (k : ℕ) (d : Arg) → k < length (args_of c)
    → is_some (first_value (found_of m) (slice_index_or (args_of c) k d).id.now) ≡ true
    → (q : ValueParser) → (slice_index_or (args_of c) k d).value_parser ≡ Some q
    → (t : List ℕ) × (one_text (found_of m) (slice_index_or (args_of c) k d).id.now ≡ Some (read_as (reading_of q) t))
    × Accepts (slice_index_or (args_of c) k d).ignore_case q t
value_read c m st p k d lt has q parser =
    let own = own_at (args_of c) k d st.apart lt in
    let parsed = p.parsed (p.from.globals ∙ st.globals) in
    let unique : (j : ℕ) (e : Arg) → j < length (args_of c) → bytes_eq (slice_index_or (args_of c) j e).id.now (slice_index_or (args_of c) k d).id.now ≡ true → j ≡ k =
    λ j e j-lt same. one_place (args_of c) j k d e st.apart j-lt lt same in
    entry_read p.built (found_of m) (slice_index_or (args_of c) k d).id.now
    (λ (t : List ℕ). Accepts (slice_index_or (args_of c) k d).ignore_case q t) (reading_of q)
    parsed.values (p.from.plain st.plain).1 (own_some _ own) has
    (only_reading c m p k d lt unique (own_none _ own) q parser)
    (λ v pass. passes_read c m p k d lt unique (own_none _ own) q parser _ v refl pass)

-- an id that has an entry matches
has_match : (xs : List Entry) (id : Text) → HasIn xs id → is_some (option_map (λ (e : Entry). e.1) (find (λ (e : Entry). bytes_eq e.0.now id) xs)) ≡ true
has_match [] id has = absurd (omega (arith, has.1))
has_match (x ∷ xs) id has = go (bytes_eq x.0.now id) refl (λ later. has_match xs id later)
  where
    go : (b : Bool) → bytes_eq x.0.now id ≡ b
        → (HasIn xs id → is_some (option_map (λ (e : Entry). e.1) (find (λ (e : Entry). bytes_eq e.0.now id) xs)) ≡ true)
        → is_some (option_map (λ (e : Entry). e.1) (find (λ (e : Entry). bytes_eq e.0.now id) (x ∷ xs))) ≡ true
    go true e rec = rw e refl
    go false e rec = rw e (rec (later has.0 has.1 has.2))
      where
        later : (i : ℕ) → i < length (x ∷ xs) → ((d : Entry) → bytes_eq (slice_index_or (x ∷ xs) i d).0.now id ≡ true) → HasIn xs id
        later zero i-lt at = let bad : false ≡ true = sym e ∙ at x in cc
        later (suc i) i-lt at = (i, omega (arith, i-lt), at)

-- the rules of an outline are those of its arguments
fold_rules : (a : App) (args : List Argument) → (fold added a args).top.rules ≡ a.top.rules ++ map rule_for args
fold_rules a [] = sym (append-nil _)
fold_rules a (x ∷ xs) = fold_rules (added a x) xs ∙ append_assoc a.top.rules (rule_for x ∷ []) (map rule_for xs)

-- the argument in the place of an outline's
record IsAt (args : List Arg) (outline : List Argument) (k : ℕ) (e : Argument) : Type 0 where
  arg : Arg
  lt : k < length args
  rule : rule_of (slice_index_or args k arg) ≡ rule_for (slice_index_or outline k e)

at_place : (args : List Arg) (outline : List Argument) → map rule_of args ≡ map rule_for outline → (k : ℕ) (e : Argument) → k < length outline → IsAt args outline k e
at_place args [] same k e lt = absurd (omega (arith, lt))
at_place [] (y ∷ ys) same k e lt = let bad : 0 ≡ suc (length (map rule_for ys)) = ap length same in absurd (omega (arith, bad))
at_place (x ∷ xs) (y ∷ ys) same zero e lt = record { arg = x; lt = omega arith; rule = ap (λ (l : List Rule). slice_index_or l 0 (rule_of x)) same }
at_place (x ∷ xs) (y ∷ ys) same (suc k) e lt =
    let rest = at_place xs ys (ap (λ (l : List Rule). drop 1 l) same) k e (omega (arith, lt)) in
    record { arg = rest.arg; lt = omega (arith, rest.lt); rule = rest.rule }

some_text : (o : Option Text) → is_some o ≡ true → (t : Text) × (o ≡ Some t)
some_text None h = cc
some_text (Some t) h = (t, refl)

not_empty : (xs : List (Bor Text)) (t : Text) → map (λ s. s.now) xs ≡ t ∷ [] → 0 < length xs
not_empty [] t h = let bad : 0 ≡ 1 = ap length h in absurd (omega (arith, bad))
not_empty (x ∷ xs) t h = omega arith

-- an argument of an outline has what its kind promises
holds_by : (c : Command) (m : ArgMatches) → Stands c → IsParsedFrom c m → (k : ℕ) (d : Arg) → k < length (args_of c) → (kind : Kind) (name : Text)
    → rule_of (slice_index_or (args_of c) k d) ≡ rule_by kind name → HoldsBy kind name (rows_of (found_of m))
holds_by c m st p k d lt File name e =
    let f = found_of m in
    let arg = slice_index_or (args_of c) k d in
    let id : arg.id.now ≡ name = ap (λ (r : Rule). r.id) e in
    let present = required_present c m p st.plain st.globals st.negates k d lt (ap (λ (r : Rule). r.required) e) in
    let some = has_value c m st p k d lt (record { set = ap (λ (r : Rule). r.action) e; one = ap (λ (r : Rule). r.range) e }) (present_has_entry f arg.id.now present) in
    let t = some_text _ some in
    (t.0, sym (first_value-rows f name) ∙ (ap (first_value f) (sym id) ∙ t.1))
holds_by c m st p k d lt Number name e =
    let f = found_of m in
    let arg = slice_index_or (args_of c) k d in
    let id : arg.id.now ≡ name = ap (λ (r : Rule). r.id) e in
    let wants : WantsDefault arg = ((st.simple.args k d lt).default_ifs, not_empty _ _ (ap (λ (r : Rule). r.defaults) e)) in
    let match : is_some (matched_of f arg.id.now) ≡ true = has_match f.entries.items arg.id.now (default_present c m p st.globals k d lt wants) in
    let some = has_value c m st p k d lt (record { set = ap (λ (r : Rule). r.action) e; one = ap (λ (r : Rule). r.range) e }) match in
    let read = value_read c m st p k d lt some (parser.Unsigned 1 16) (ap (λ (r : Rule). r.parser) e) in
    (read.0, sym (one_text-rows f name) ∙ (ap (one_text f) (sym id) ∙ read.1), read.2)
holds_by c m st p k d lt Optional name e = tt
holds_by c m st p k d lt Files name e = tt
holds_by c m st p k d lt Flag name e = tt
holds_by c m st p k d lt Path name e = tt

-- a parse by a suited outline has what each of its arguments promises
pub all_hold : (c : Command) (m : ArgMatches) (o : Outline) → app_of c ≡ app_by o → is_suited (app_by o) ≡ true → IsParsedFrom c m
    → All (Holds (rows_of (found_of m))) o.arguments
all_hold c m o is suited p = λ k e lt.
    let st = stands c (subst (λ (a : App). is_suited a ≡ true) (sym is) suited) in
    let same : map rule_of (args_of c) ≡ map rule_for o.arguments = ap (λ (a : App). a.top.rules) is ∙ fold_rules (bare_app o.title) o.arguments in
    let at = at_place (args_of c) o.arguments same k e lt in
    holds_by c m st p k at.arg at.lt (slice_index_or o.arguments k e).kind (slice_index_or o.arguments k e).name at.rule

pub suits_simply : (a : App) → is_suited a ≡ true → is_simple_and_free a ≡ true
suits_simply a h = (suits a h).simple

pub is_simply : (a : App) → is_suited a ≡ true → is_simple a ≡ true
is_simply a h = (both _ _ (suits a h).simple).0

pub no_kind : {T : Type 0} (kinds : Kinds) (r : Result T Error) → FailsBy kinds r → IfOk r (λ _. kinds ≡ [])
no_kind kinds (Ok x) h = h
no_kind kinds (Err e) h = tt

pub its_kind : {T : Type 0} (kinds : Kinds) (r : Result T Error) → FailsBy kinds r → IfErr r (HasKind kinds)
its_kind kinds (Ok x) h = tt
its_kind kinds (Err e) h = h
