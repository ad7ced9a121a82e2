-- Where residual arcs lead.
use Rattle.std.proofs.Common.{◌≡◌, ℕ, ◌<◌, ◌≤◌, Bool, true, false, not, List, length, get_or, refl, sym, ap, subst, ◌∙◌, inl, inr, arith}
use Rattle.std.proofs.lemmas.Option.{slice_get-get_or, slice_get_cases, slice_get_within, same_Some}
use Rattle.saga_flow.specs.declared.nets.Arc.{Arc}
use Rattle.saga_flow.specs.declared.residual_arcs.ResidualArc.{ResidualArc}
use Rattle.saga_flow.specs.Residual.{Joins, Leads, HasRoom, Carries}
use Rattle.saga_flow.specs.Listed.{turned}
use Rattle.saga_flow.proofs.NetLemmas.{AreEnds}

-- a residual arc along an arc that was read
pub leads_along : (arcs : List Arc) (s : ResidualArc) (d : Arc) → s.arc < length arcs → s.forward ≡ true → Leads arcs s (get_or arcs s.arc d).from (get_or arcs s.arc d).to
leads_along arcs s d short way = (get_or arcs s.arc d, slice_get-get_or arcs s.arc d short, rw way (refl, refl))

-- a residual arc back against it
pub leads_back : (arcs : List Arc) (s : ResidualArc) (d : Arc) → s.arc < length arcs → s.forward ≡ false → Leads arcs s (get_or arcs s.arc d).to (get_or arcs s.arc d).from
leads_back arcs s d short way = (get_or arcs s.arc d, slice_get-get_or arcs s.arc d short, rw way (refl, refl))

-- a residual arc leads from one node to one node
joins_same : (way : Bool) (a : Arc) (u v x y : ℕ) → Joins way a u v → Joins way a x y → (u ≡ x) × (v ≡ y)
joins_same true a u v x y one other = (sym one.0 ∙ other.0, sym one.1 ∙ other.1)
joins_same false a u v x y one other = (sym one.0 ∙ other.0, sym one.1 ∙ other.1)

pub leads_same : (arcs : List Arc) (s : ResidualArc) (u v x y : ℕ) → Leads arcs s u v → Leads arcs s x y → (u ≡ x) × (v ≡ y)
leads_same arcs s u v x y one other =
    let same : one.0 ≡ other.0 = same_Some _ _ (sym one.1 ∙ other.1) in
    joins_same s.forward other.0 u v x y (rw same at one.2) other.2

-- a residual arc's arc is one of the net
pub leads_within : (arcs : List Arc) (s : ResidualArc) (u v : ℕ) → Leads arcs s u v → s.arc < length arcs
leads_within arcs s u v lead = slice_get_within arcs s.arc lead.0 lead.1

-- and leads between nodes
joins_nodes : (nodes : ℕ) (way : Bool) (a : Arc) (u v : ℕ) → Joins way a u v → a.from < nodes → a.to < nodes → (u < nodes) × (v < nodes)
joins_nodes nodes true a u v joins h k = (rw joins.0 at h, rw joins.1 at k)
joins_nodes nodes false a u v joins h k = (rw joins.0 at k, rw joins.1 at h)

pub leads_nodes : (nodes : ℕ) (arcs : List Arc) (s : ResidualArc) (u v : ℕ) → AreEnds nodes arcs → Leads arcs s u v → (u < nodes) × (v < nodes)
leads_nodes nodes arcs s u v ends lead =
    joins_nodes nodes s.forward lead.0 u v lead.2 (ends s.arc lead.0 lead.1).0 (ends s.arc lead.0 lead.1).1

-- a residual arc back carries something where its arc has something
pub back_room : (way : Bool) (a : Arc) (x : ℕ) → way ≡ false → 0 < x → HasRoom way a.cap x 1
back_room way a x back some = rw back (omega arith)

pub back_some : (way : Bool) (a : Arc) (x : ℕ) → way ≡ false → HasRoom way a.cap x 1 → 0 < x
back_some way a x back room = let more : 1 ≤ x = rw back at room in omega arith

pub back_open : (arcs : List Arc) (on : List ℕ) (s : ResidualArc) → s.arc < length arcs → s.forward ≡ false → 0 < get_or on s.arc 0 → Carries arcs on 1 s
back_open arcs on s short back some =
    elim (slice_get_cases arcs s.arc).1 [
      | inl found ↦ (found.0, found.2, back_room s.forward found.0 (get_or on s.arc 0) back some)
      | inr past ↦ absurd (omega (arith, past.0))
    ]

-- a residual arc turned round leads back
joins_turned : (way : Bool) (a : Arc) (u v : ℕ) → Joins way a u v → Joins (not way) a v u
joins_turned true a u v joins = (joins.1, joins.0)
joins_turned false a u v joins = (joins.1, joins.0)

pub leads_turned : (arcs : List Arc) (s : ResidualArc) (u v : ℕ) → Leads arcs s u v → Leads arcs (turned s) v u
leads_turned arcs s u v lead = (lead.0, lead.1, joins_turned s.forward lead.0 u v lead.2)

-- turned twice it is the residual arc again
turned_back : (way : Bool) → not (not way) ≡ way
turned_back true = refl
turned_back false = refl

turned_twice : (s : ResidualArc) → turned (turned s) ≡ s
turned_twice s = ap (λ way. record { arc = s.arc; forward = way }) (turned_back s.forward)

pub from_turned_twice : (P : ResidualArc → Type 0) (s : ResidualArc) → P (turned (turned s)) → P s
from_turned_twice P s h = subst P (turned_twice s) h

pub to_turned_twice : (P : ResidualArc → Type 0) (s : ResidualArc) → P s → P (turned (turned s))
to_turned_twice P s h = subst P (sym (turned_twice s)) h
