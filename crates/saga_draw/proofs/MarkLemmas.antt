-- One more step of a chain.
use Rattle.std.proofs.Common.{◌≡◌, ◌∙◌, ℕ, ◌+◌, List, Bool, sym, refl, get_or}
use Rattle.std.specs.Prelude.{cond, true, false, ◌==◌, ◌&&◌, ◌||◌}
use Rattle.std.specs.List.{list_any, range_with_len}
use Rattle.std.proofs.lemmas.Bool.{or_right}
use Rattle.saga_draw.proofs.RangeLemmas.{any_more, or_false}

abbrev pub link_at : List ℕ → ℕ → ℕ → ℕ → Bool
link_at chain s o k = get_or chain k 0 == s && get_or chain (k + 1) 0 == o

either : (new old listed : Bool) → old ≡ listed → cond new true old ≡ (listed || new)
either true old listed same = sym (or_right listed true refl)
either false old listed same = same ∙ sym (or_false listed)

pub links_more : (chain : List ℕ) (k s o : ℕ) (old : Bool) → old ≡ list_any (link_at chain s o) (range_with_len 0 k)
    → cond (link_at chain s o k) true old ≡ list_any (link_at chain s o) (range_with_len 0 (k + 1))
links_more chain k s o old same = either (link_at chain s o k) old _ same ∙ sym (any_more (link_at chain s o) k)
