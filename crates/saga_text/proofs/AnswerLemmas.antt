-- A text has one answer.
use Rattle.std.proofs.Common.{ℕ, ◌≡◌, ◌≢◌, ◌<◌, ◌≤◌, ◌∙◌, ◌⊎◌, inl, inr, List, length, Some, Result, Ok, Err, refl, sym, ap, subst, arith}
use Rattle.toml.specs.Data.{Members}
use Rattle.saga_def.specs.Contents.{Contents}
use Rattle.saga_def.specs.Sound.{IsSound}
use Rattle.saga_def.specs.Faults.{IsFirstFault}
use Rattle.saga_def.specs.Laws.{HasOneFault, HasNoFault}
use Rattle.saga_def.specs.declared.faults.DefFault.{DefFault}
use Rattle.saga_def.specs.declared.faults.DefFault.TheVariants.{OutOfMemory as NoMemory}
use Rattle.saga_text.specs.declared.faults.TextFault.{TextFault}
use Rattle.saga_text.specs.declared.faults.TextFault.TheVariants.{TooLong, NotToml, Def, OutOfMemory}
use Rattle.saga_text.specs.Faults.{word_of}
use Rattle.saga_text.specs.Format.{contents_of}
use Rattle.saga_text.specs.Laws.{TellTheSame, HasOneAnswer}
use Rattle.saga_text.specs.Limits.{max_definition}
use Rattle.saga_text.specs.Reads.{Holds, Reads}
use Rattle.saga_text.specs.Trees.{IsTextOf}

-- ---- a text has one tree, so one reading of it

some_same : (top other : Members) → Some top ≡ Some other → top ≡ other
some_same top other e = cc

one_reading : (text : List ℕ) (a b : Result Contents TextFault) → Holds text a → Holds text b → a ≡ b
one_reading text a b (short, (top, is, gives)) (also, (other, was, gave)) =
    let same : top ≡ other = some_same top other (sym is.tree ∙ was.tree) in
    sym gives ∙ ap contents_of same ∙ gave

abbrev ok : Contents → Result Contents TextFault
ok c = Ok c

abbrev err : TextFault → Result Contents TextFault
err f = Err f

ok_same : (c d : Contents) → ok c ≡ ok d → c ≡ d
ok_same c d e = cc

err_same : (e f : TextFault) → err e ≡ err f → e ≡ f
err_same e f is = cc

ok_is_err : (c : Contents) (f : TextFault) → ok c ≡ err f → ⊥
ok_is_err c f e = cc

-- ---- the five sorts of answers

record IsLong (text : List ℕ) (a : Result Contents TextFault) : Type 0 where
  long : max_definition < length text
  same : a ≡ Err TooLong

record HasNoTree (text : List ℕ) (a : Result Contents TextFault) : Type 0 where
  short : length text ≤ max_definition
  none : (top : Members) → IsTextOf top text → ⊥
  same : a ≡ Err NotToml

record IsMade (text : List ℕ) (a : Result Contents TextFault) : Type 0 where
  contents : Contents
  held : Holds text (Ok contents)
  sound : IsSound contents
  same : a ≡ Ok contents

record IsUnsound (text : List ℕ) (a : Result Contents TextFault) : Type 0 where
  contents : Contents
  fault : DefFault
  held : Holds text (Ok contents)
  told : fault ≢ NoMemory
  first : IsFirstFault contents fault
  same : a ≡ Err (Def fault)

record IsMisshapen (text : List ℕ) (a : Result Contents TextFault) : Type 0 where
  fault : TextFault
  held : Holds text (Err fault)
  same : a ≡ Err fault

abbrev Sort : List ℕ → Result Contents TextFault → Type 0
Sort text a = IsLong text a ⊎ (HasNoTree text a ⊎ (IsMade text a ⊎ (IsUnsound text a ⊎ IsMisshapen text a)))

misshapen : (text : List ℕ) (f : TextFault) → Holds text (Err f) → Sort text (Err f)
misshapen text f held = inr (inr (inr (inr (record { fault = f; held = held; same = refl }))))

unsound : (text : List ℕ) (f : DefFault) → f ≢ NoMemory → (c : Contents) × Holds text (Ok c) × IsFirstFault c f → Sort text (Err (Def f))
unsound text f told (c, held, first) = inr (inr (inr (inl (record { contents = c; fault = f; held = held; told = told; first = first; same = refl }))))

sort_of : (text : List ℕ) (a : Result Contents TextFault) → a ≢ Err OutOfMemory → Reads text a → Sort text a
sort_of text (Ok c) told (held, sound) = inr (inr (inl (record { contents = c; held = held; sound = sound; same = refl })))
sort_of text (Err TooLong) told long = inl (record { long = long; same = refl })
sort_of text (Err NotToml) told (short, none) = inr (inl (record { short = short; none = none; same = refl }))
sort_of text (Err OutOfMemory) told held = absurd (told refl)
sort_of text (Err (Def NoMemory)) told never = absurd never
sort_of text (Err (Def fault)) told is = unsound text fault (λ e. cc) is
sort_of text (Err fault) told held = misshapen text fault held

-- ---- two answers to one text are of one sort

past : (text : List ℕ) (a b : Result Contents TextFault) → IsLong text a → length text ≤ max_definition → TellTheSame a b
past text a b one short = absurd (omega (arith, one.long, short))

-- what a tree holds, and a text that has none
treeless : (text : List ℕ) (a b reading : Result Contents TextFault) → HasNoTree text a → Holds text reading → TellTheSame a b
treeless text a b reading one (short, (top, is, gives)) = absurd (one.none top is)

module _ (one : (c : Contents) → HasOneFault c) (none : (c : Contents) → HasNoFault c) where
  -- sound contents have no fault
  sound_fault : (text : List ℕ) (a b : Result Contents TextFault) → IsMade text a → IsUnsound text b → ⊥
  sound_fault text a b made bad =
      let same : made.contents ≡ bad.contents = ok_same _ _ (one_reading text _ _ made.held bad.held) in
      bad.told (none bad.contents (subst IsSound same made.sound) bad.fault bad.first)

  made_with : (text : List ℕ) (a b : Result Contents TextFault) → IsMade text a → Sort text b → TellTheSame a b
  made_with text a b made (inl long) = absurd (omega (arith, long.long, made.held.0))
  made_with text a b made (inr (inl bare)) = absurd (bare.none made.held.1.0 made.held.1.1)
  made_with text a b made (inr (inr (inl other))) = rw (made.same, other.same) (ok_same _ _ (one_reading text _ _ made.held other.held))
  made_with text a b made (inr (inr (inr (inl bad)))) = absurd (sound_fault text a b made bad)
  made_with text a b made (inr (inr (inr (inr odd)))) = absurd (ok_is_err _ _ (one_reading text _ _ made.held odd.held))

  unsound_with : (text : List ℕ) (a b : Result Contents TextFault) → IsUnsound text a → Sort text b → TellTheSame a b
  unsound_with text a b bad (inl long) = absurd (omega (arith, long.long, bad.held.0))
  unsound_with text a b bad (inr (inl bare)) = absurd (bare.none bad.held.1.0 bad.held.1.1)
  unsound_with text a b bad (inr (inr (inl made))) = absurd (sound_fault text b a made bad)
  unsound_with text a b bad (inr (inr (inr (inl other)))) =
      let same : bad.contents ≡ other.contents = ok_same _ _ (one_reading text _ _ bad.held other.held) in
      rw (bad.same, other.same) (one other.contents bad.fault other.fault bad.told other.told (subst (λ (c : Contents). IsFirstFault c bad.fault) same bad.first) other.first)
  unsound_with text a b bad (inr (inr (inr (inr odd)))) = absurd (ok_is_err _ _ (one_reading text _ _ bad.held odd.held))

  misshapen_with : (text : List ℕ) (a b : Result Contents TextFault) → IsMisshapen text a → Sort text b → TellTheSame a b
  misshapen_with text a b odd (inl long) = absurd (omega (arith, long.long, odd.held.0))
  misshapen_with text a b odd (inr (inl bare)) = absurd (bare.none odd.held.1.0 odd.held.1.1)
  misshapen_with text a b odd (inr (inr (inl made))) = absurd (ok_is_err _ _ (one_reading text _ _ made.held odd.held))
  misshapen_with text a b odd (inr (inr (inr (inl bad)))) = absurd (ok_is_err _ _ (one_reading text _ _ bad.held odd.held))
  misshapen_with text a b odd (inr (inr (inr (inr other)))) = rw (odd.same, other.same) (ap word_of (err_same _ _ (one_reading text _ _ odd.held other.held)))

  sorts_agree : (text : List ℕ) (a b : Result Contents TextFault) → Sort text a → Sort text b → TellTheSame a b
  sorts_agree text a b (inl long) (inl other) = rw (long.same, other.same) refl
  sorts_agree text a b (inl long) (inr (inl bare)) = past text a b long bare.short
  sorts_agree text a b (inl long) (inr (inr (inl made))) = past text a b long made.held.0
  sorts_agree text a b (inl long) (inr (inr (inr (inl bad)))) = past text a b long bad.held.0
  sorts_agree text a b (inl long) (inr (inr (inr (inr odd)))) = past text a b long odd.held.0
  sorts_agree text a b (inr (inl bare)) (inl long) = absurd (omega (arith, long.long, bare.short))
  sorts_agree text a b (inr (inl bare)) (inr (inl other)) = rw (bare.same, other.same) refl
  sorts_agree text a b (inr (inl bare)) (inr (inr (inl made))) = treeless text a b _ bare made.held
  sorts_agree text a b (inr (inl bare)) (inr (inr (inr (inl bad)))) = treeless text a b _ bare bad.held
  sorts_agree text a b (inr (inl bare)) (inr (inr (inr (inr odd)))) = treeless text a b _ bare odd.held
  sorts_agree text a b (inr (inr (inl made))) other = made_with text a b made other
  sorts_agree text a b (inr (inr (inr (inl bad)))) other = unsound_with text a b bad other
  sorts_agree text a b (inr (inr (inr (inr odd)))) other = misshapen_with text a b odd other

  pub has_one_answer : (text : List ℕ) → HasOneAnswer text
  has_one_answer text a b told_a told_b reads_a reads_b = sorts_agree text a b (sort_of text a told_a reads_a) (sort_of text b told_b reads_b)
