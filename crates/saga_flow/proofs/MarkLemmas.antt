-- The marks that two lists stand for: how many, at a node, and after a change.
use Rattle.std.proofs.Common.{◌≡◌, ◌≢◌, ℕ, zero, suc, ◌<◌, ◌==◌, true, false, not, List, Option, [], ◌∷◌, Some, None, length, get_or, set, map, replicate, ◌⊎◌, inl, inr, refl, sym, ap, ◌∙◌, arith}
use Rattle.std.specs.Prelude.{is_some, if◌then◌else◌, Bool}
use Rattle.std.proofs.lemmas.Bool.{ne_eqb}
use Rattle.std.proofs.lemmas.List.{get_or_read}
use Rattle.saga_flow.specs.declared.residual_arcs.ResidualArc.{ResidualArc}
use Rattle.saga_flow.specs.Marks.{Mark, mark_of, marks_of, mark_at, by_of, IsDepth, no_depth}

pub marks_length : (depths : List ℕ) (by : List ResidualArc) → length depths ≡ length by → length (marks_of depths by) ≡ length depths
marks_length [] by same = refl
marks_length (d ∷ depths) [] same = absurd (omega (arith, same))
marks_length (d ∷ depths) (s ∷ by) same = omega (arith, marks_length depths by (omega (arith, same)))

-- what stands in both lists is the node's mark
pub marks_at : (depths : List ℕ) (by : List ResidualArc) (node : ℕ) (s : ResidualArc) → length depths ≡ length by → node < length depths → mark_at (marks_of depths by) node ≡ mark_of (get_or depths node 0) (get_or by node s)
marks_at [] by node s same less = absurd (omega (arith, less))
marks_at (d ∷ depths) [] node s same less = absurd (omega (arith, same))
marks_at (d ∷ depths) (t ∷ by) zero s same less = refl
marks_at (d ∷ depths) (t ∷ by) (suc node) s same less = marks_at depths by node s (omega (arith, same)) (omega (arith, less))

pub marks_set : (depths : List ℕ) (by : List ResidualArc) (node d : ℕ) (s : ResidualArc) → length depths ≡ length by → marks_of (set depths node d) (set by node s) ≡ set (marks_of depths by) node (mark_of d s)
marks_set [] [] node d s same = refl
marks_set [] (t ∷ by) node d s same = absurd (omega (arith, same))
marks_set (c ∷ depths) [] node d s same = absurd (omega (arith, same))
marks_set (c ∷ depths) (t ∷ by) zero d s same = refl
marks_set (c ∷ depths) (t ∷ by) (suc node) d s same = ap (λ marks. mark_of c t ∷ marks) (marks_set depths by node d s (omega (arith, same)))

pub marks_begin : (depths : List ℕ) (by : List ResidualArc) (node : ℕ) → length depths ≡ length by → marks_of (set depths node 0) by ≡ set (marks_of depths by) node (Some (record { depth = 0; by = None }))
marks_begin [] by node same = refl
marks_begin (c ∷ depths) [] node same = absurd (omega (arith, same))
marks_begin (c ∷ depths) (t ∷ by) zero same = refl
marks_begin (c ∷ depths) (t ∷ by) (suc node) same = ap (λ marks. mark_of c t ∷ marks) (marks_begin depths by node (omega (arith, same)))

pub marks_none : (nodes : ℕ) (s : ResidualArc) → marks_of (replicate nodes no_depth) (replicate nodes s) ≡ replicate nodes None
marks_none zero s = refl
marks_none (suc nodes) s = ap (λ marks. None ∷ marks) (marks_none nodes s)

flag : (d : ℕ) (s : ResidualArc) → is_some (mark_of d s) ≡ not (d == no_depth)
flag d s = by_test (d == no_depth) refl
  where
    by_test : (b : Bool) → (d == no_depth) ≡ b → is_some (mark_of d s) ≡ not (d == no_depth)
    by_test true test = rw test refl
    by_test false test = rw test refl

pub marks_flags : (depths : List ℕ) (by : List ResidualArc) → length depths ≡ length by → map (λ d. not (d == no_depth)) depths ≡ map is_some (marks_of depths by)
marks_flags [] by same = refl
marks_flags (d ∷ depths) [] same = absurd (omega (arith, same))
marks_flags (d ∷ depths) (s ∷ by) same = rw (flag d s, marks_flags depths by (omega (arith, same))) refl

mark_none : (d : ℕ) (s : ResidualArc) → d ≡ no_depth → mark_of d s ≡ None
mark_none d s is = rw is refl

mark_some : (d : ℕ) (s : ResidualArc) → d ≢ no_depth → mark_of d s ≡ Some (record { depth = d; by = if d == 0 then None else Some s })
mark_some d s other = rw (ne_eqb d no_depth other) refl

mark_found : (d : ℕ) (s : ResidualArc) → 0 < d → d < no_depth → mark_of d s ≡ Some (record { depth = d; by = Some s })
mark_found d s some less = rw (ne_eqb d no_depth (λ is. omega (arith, is, less)), ne_eqb d 0 (λ is. omega (arith, is, some))) refl

-- what was read from the list of depths at a node of the marks
pub record IsRead (marks : List (Option Mark)) (by : List ResidualArc) (node d : ℕ) : Type 0 where
  pub within : node < length by
  pub none : d ≡ no_depth → mark_at marks node ≡ None
  pub some : d ≢ no_depth → (s : ResidualArc) → mark_at marks node ≡ Some (record { depth = d; by = if d == 0 then None else Some (get_or by node s) })

-- a node of the marks is in both lists
pub marks_within : (depths : List ℕ) (by : List ResidualArc) (marks : List (Option Mark)) (node : ℕ) → length depths ≡ length by → marks_of depths by ≡ marks → node < length marks → (node < length depths) × (node < length by)
marks_within depths by marks node same is less =
    let lt : node < length depths = rw (← is, marks_length depths by same) at less in
    (lt, omega (arith, lt, same))

pub marks_read : (depths : List ℕ) (by : List ResidualArc) (marks : List (Option Mark)) (node d : ℕ) → length depths ≡ length by → marks_of depths by ≡ marks → node < length marks → d ≡ get_or depths node d → IsRead marks by node d
marks_read depths by marks node d same is less read =
    let lt = marks_within depths by marks node same is less in
    let there : (s : ResidualArc) → mark_at marks node ≡ mark_of d (get_or by node s) =
    λ s. ap (λ ms. mark_at ms node) (sym is) ∙ marks_at depths by node s same lt.0 ∙ ap (λ x. mark_of x (get_or by node s)) (sym (get_or_read depths node d lt.0 read 0)) in
    record {
      within = lt.1;
      none = λ no. there (record { arc = 0; forward = false }) ∙ mark_none d _ no;
      some = λ other s. there s ∙ mark_some d _ other;
    }

pub marks_put : (depths : List ℕ) (by : List ResidualArc) (marks : List (Option Mark)) (node d : ℕ) (s : ResidualArc) → length depths ≡ length by → marks_of depths by ≡ marks → 0 < d → d < no_depth → marks_of (set depths node d) (set by node s) ≡ set marks node (Some (record { depth = d; by = Some s }))
marks_put depths by marks node d s same is some less =
    marks_set depths by node d s same ∙ ap (λ ms. set ms node (mark_of d s)) is ∙ ap (set marks node) (mark_found d s some less)

-- no residual arc led to where a search began, nor to a node without a mark
pub by_none : (marks : List (Option Mark)) (by : List ResidualArc) (node d : ℕ) → IsRead marks by node d → (d ≡ 0) ⊎ ((d ≢ 0) × (d ≡ no_depth)) → by_of (mark_at marks node) ≡ None
by_none marks by node d read (inl zero_is) =
    ap by_of (read.some (λ no. omega (arith, no, zero_is)) (record { arc = 0; forward = false })) ∙ rw zero_is refl
by_none marks by node d read (inr away) = ap by_of (read.none away.1)

pub by_some : (marks : List (Option Mark)) (by : List ResidualArc) (node d : ℕ) (s : ResidualArc) → IsRead marks by node d → d ≢ 0 → d ≢ no_depth → s ≡ get_or by node s → by_of (mark_at marks node) ≡ Some s
by_some marks by node d s read some other is =
    ap by_of (read.some other s) ∙ rw (ne_eqb d 0 some) (ap Some (sym is))

-- what was read, as the depth of a mark
pub read_depth : (marks : List (Option Mark)) (by : List ResidualArc) (node d : ℕ) → IsRead marks by node d → IsDepth (mark_at marks node) d
read_depth marks by node d read = record {
  none = read.none;
  some = λ other. (_, read.some other (record { arc = 0; forward = false }), refl);
}
