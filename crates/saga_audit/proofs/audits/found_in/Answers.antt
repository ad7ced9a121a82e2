use Rattle.std.proofs.Common.{◌≡◌, ℕ, ◌<◌, arith, sym, get_or, subst, ◌∙◌, IfOk, Result, List, [], ◌∷◌, zero, suc, length, zero-add}
use Rattle.std.specs.List.{range_with_len, AllZip}
use Rattle.std.specs.declared.alloc.AllocError.{AllocError}
use Rattle.std.proofs.lemmas.List.FromFn.{length-range_with_len, get_or-range_with_len}
use Rattle.saga_audit.specs.declared.answers.Finding.{Finding}
use Rattle.saga_audit.specs.Groups.{Finds, is_in}
use Rattle.saga_audit.proofs.audits.found_in.Goals as goal

zip_at : {A B : Type 0} (R : A → B → Type 0) (xs : List A) (ys : List B) (i : ℕ) (d : A) (e : B) → AllZip R xs ys → i < length xs → R (get_or xs i d) (get_or ys i e)
zip_at R [] ys i d e h lt = absurd (omega arith)
zip_at R (x ∷ xs) [] i d e h lt = absurd h
zip_at R (x ∷ xs) (y ∷ ys) zero d e h lt = h.0
zip_at R (x ∷ xs) (y ∷ ys) (suc i) d e h lt = zip_at R xs ys i d e h.1 (omega arith)

pub returns-in-Some : goal.returns-in-Some
returns-in-Some c =
    let R : ℕ → Result Finding AllocError → Type 0 = λ i r. IfOk r (Finds c.args.shelf.now (is_in c.args.workers i) c.args.events.now) in
    let here : get_or (range_with_len 0 c.args.workers) c.args.group 0 ≡ c.args.group = get_or-range_with_len 0 c.args.workers c.args.group 0 c.requires.within ∙ zero-add c.args.group in
    let read : c.in-Some.found.now ≡ get_or c.args.all.now c.args.group c.in-Some.found.now = c.in-Some.ensures.lookup.1 in
    let both = zip_at R (range_with_len 0 c.args.workers) c.args.all.now c.args.group 0 c.in-Some.found.now c.requires.all (omega (arith, length-range_with_len 0 c.args.workers)) in
    subst (λ (r : Result Finding AllocError). R c.args.group r) (sym read) (subst (λ (k : ℕ). R k (get_or c.args.all.now c.args.group c.in-Some.found.now)) here both)
