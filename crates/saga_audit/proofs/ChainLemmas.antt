-- Links of the events of each saga, one event earlier.
use Rattle.std.proofs.Common.{◌≡◌, ℕ, ◌+◌, ◌<◌, Bool, true, false, List, [], ◌∷◌, ◌++◌, length, take, Option, Some, None, eqb, refl, sym, ap, ◌∙◌, subst, inl, inr, arith}
use Rattle.std.specs.Prelude.{slice_get, if◌then◌else◌, ◌==◌}
use Rattle.std.proofs.lemmas.Bool.{cases_Bool, cases_lt, eq-eqb, eqb-true, ne_eqb}
use Rattle.std.proofs.lemmas.List.{get_or_append_left, length-append, length_push}
use Rattle.std.proofs.Math.Seq.{get_or-append_seam, take-length}
use Rattle.saga_history.specs.declared.events.Event.{Event}
use Rattle.saga_history.specs.Changes.{saga_of, change_of, past, changes}
use Rattle.saga_history.proofs.SagaLemmas.{changes_own, changes_other}
use Rattle.saga_history.proofs.PartLemmas.{past_more}
use Rattle.saga_audit.specs.declared.chains.Link.{Link}
use Rattle.saga_audit.specs.Chains.{AreChains, AreHeads, AreLinks, IsBelow, IsLink, IsOwn, Leads, changes_before, link_at, no_link}

-- ---- what changed in a saga, one event further

pub changes_more_own : (events : List Event) (place : ℕ) (e : Event) → slice_get events place ≡ Some e → changes (saga_of e) (past (take (place + 1) events)) ≡ change_of e ∷ changes (saga_of e) (past (take place events))
changes_more_own events place e here =
    ap (changes (saga_of e)) (past_more events place e here) ∙ changes_own (saga_of e) e (past (take place events)) (eq-eqb (saga_of e) (saga_of e) refl)

changes_more_other : (events : List Event) (place i : ℕ) (e : Event) → slice_get events place ≡ Some e → eqb i (saga_of e) ≡ false → changes i (past (take (place + 1) events)) ≡ changes i (past (take place events))
changes_more_other events place i e here away =
    ap (changes i) (past_more events place e here) ∙ changes_other i e (past (take place events)) away

-- ---- links

-- no event is behind the last one
pub no_chains : (mine : ℕ → Bool) (events : List Event) (heads : ℕ → Option ℕ) (place : ℕ) → place ≡ length events → ((i : ℕ) → heads i ≡ None) → AreChains mine events [] heads place
no_chains mine events heads place is none = record {
  linked = λ k lt. absurd (omega (arith, lt));
  headed = λ i ours. subst (λ (o : Option ℕ). Leads events [] i place o) (sym (none i)) (record {
    own = tt;
    nothing_between = ap (λ (h : List Event). changes i (past h)) (sym (ap (λ (n : ℕ). take n events) is ∙ take-length events));
  });
  ours = λ i k some. let bad : None ≡ Some k = sym (none i) ∙ some in cc;
}

-- an event of another saga changes nothing
leads_skip : (events : List Event) (links : List Link) (place i : ℕ) (e : Event) (to : Option ℕ) → slice_get events place ≡ Some e → eqb i (saga_of e) ≡ false → Leads events links i (place + 1) to → Leads events links i place to
leads_skip events links place i e to here away leads = record {
  own = leads.own;
  nothing_between = leads.nothing_between ∙ changes_more_other events place i e here away;
}

pub skip_event : (mine : ℕ → Bool) (events : List Event) (links : List Link) (heads : ℕ → Option ℕ) (place : ℕ) (e : Event) → slice_get events place ≡ Some e → mine (saga_of e) ≡ false → AreChains mine events links heads (place + 1) → AreChains mine events links heads place
skip_event mine events links heads place e here other chains = record {
  linked = chains.linked;
  headed = λ i ours. elim (cases_Bool (eqb i (saga_of e))) [
    | inl own ↦
        let same : mine i ≡ false = ap mine (eqb-true i (saga_of e) own) ∙ other in
        let bad : true ≡ false = sym ours ∙ same in
        cc
    | inr away ↦ leads_skip events links place i e (heads i) here away (chains.headed i ours)
  ];
  ours = chains.ours;
}

-- ---- one link more

module _ (events : List Event) (links : List Link) (x : Link) where
  older : (k : ℕ) → k < length links → link_at (links ++ x ∷ []) k ≡ link_at links k
  older k lt = get_or_append_left links (x ∷ []) no_link k lt

  newest : link_at (links ++ x ∷ []) (length links) ≡ x
  newest = get_or-append_seam links x [] no_link

  own_more : (i : ℕ) (to : Option ℕ) → IsOwn events links i to → IsOwn events (links ++ x ∷ []) i to
  own_more i None own = tt
  own_more i (Some k) own = record {
    event = own.event;
    below = omega (arith, own.below, length-append links (x ∷ []));
    here = rw (older k own.below) own.here;
    named = own.named;
  }

  before_more : (i : ℕ) (to : Option ℕ) → IsOwn events links i to → changes_before events (links ++ x ∷ []) i to ≡ changes_before events links i to
  before_more i None own = refl
  before_more i (Some k) own = ap (λ (l : Link). changes i (past (take l.place events))) (older k own.below)

  leads_more : (i place : ℕ) (to : Option ℕ) → Leads events links i place to → Leads events (links ++ x ∷ []) i place to
  leads_more i place to leads = record {
    own = own_more i to leads.own;
    nothing_between = before_more i to leads.own ∙ leads.nothing_between;
  }

  below_of : (i : ℕ) (to : Option ℕ) → IsOwn events links i to → IsBelow (length links) to
  below_of i None own = tt
  below_of i (Some k) own = own.below

  link_more : (k : ℕ) (link : Link) → IsLink events links k link → IsLink events (links ++ x ∷ []) k link
  link_more k link was = record {
    event = was.event;
    here = was.here;
    below = was.below;
    leads = leads_more (saga_of was.event) (link.place + 1) link.next was.leads;
  }

abbrev pub new_link : ℕ → Option ℕ → Link
new_link place next = record { place = place; next = next }

-- the links of one event more, which stands before those that have links
pub add_event : (mine : ℕ → Bool) (events : List Event) (links : List Link) (heads heads' : ℕ → Option ℕ) (place : ℕ) (e : Event) → slice_get events place ≡ Some e → mine (saga_of e) ≡ true
    → ((i : ℕ) → heads' i ≡ (if saga_of e == i then Some (length links) else heads i)) → AreChains mine events links heads (place + 1)
    → AreChains mine events (links ++ new_link place (heads (saga_of e)) ∷ []) heads' place
add_event mine events links heads heads' place e here ours put chains = record { linked = linked; headed = headed; ours = λ i k is. of_group i k (eqb (saga_of e) i) refl is }
  where
    leads : Leads events links (saga_of e) (place + 1) (heads (saga_of e))
    leads = chains.headed (saga_of e) ours

    linked : AreLinks events (links ++ new_link place (heads (saga_of e)) ∷ [])
    linked k lt = elim (cases_lt k (length links)) [
      | inl less ↦ subst (IsLink events (links ++ new_link place (heads (saga_of e)) ∷ []) k) (sym (older events links (new_link place (heads (saga_of e))) k less)) (link_more events links (new_link place (heads (saga_of e))) k (link_at links k) (chains.linked k less))
      | inr more ↦
          let last : k ≡ length links = omega (arith, lt, more, length_push links (new_link place (heads (saga_of e)))) in
          subst (λ (j : ℕ). IsLink events (links ++ new_link place (heads (saga_of e)) ∷ []) j (link_at (links ++ new_link place (heads (saga_of e)) ∷ []) j)) (sym last) (subst (IsLink events (links ++ new_link place (heads (saga_of e)) ∷ []) (length links)) (sym (newest events links (new_link place (heads (saga_of e))))) (record {
            event = e;
            here = here;
            below = below_of events links (new_link place (heads (saga_of e))) (saga_of e) (heads (saga_of e)) leads.own;
            leads = leads_more events links (new_link place (heads (saga_of e))) (saga_of e) (place + 1) (heads (saga_of e)) leads;
          }))
    ]

    first : Leads events (links ++ new_link place (heads (saga_of e)) ∷ []) (saga_of e) place (Some (length links))
    first = record {
      own = record {
        event = e;
        below = omega (arith, length_push links (new_link place (heads (saga_of e))));
        here = rw (newest events links (new_link place (heads (saga_of e)))) here;
        named = refl;
      };
      nothing_between = rw (newest events links (new_link place (heads (saga_of e)))) refl;
    }

    headed : AreHeads mine events (links ++ new_link place (heads (saga_of e)) ∷ []) heads' place
    headed i my = subst (λ (o : Option ℕ). Leads events (links ++ new_link place (heads (saga_of e)) ∷ []) i place o) (sym (put i)) (elim (cases_Bool (eqb (saga_of e) i)) [
      | inl own ↦
          let same : saga_of e ≡ i = eqb-true (saga_of e) i own in
          rw own (subst (λ (q : ℕ). Leads events (links ++ new_link place (heads (saga_of e)) ∷ []) q place (Some (length links))) same first)
      | inr away ↦
          let other : eqb i (saga_of e) ≡ false = ne_eqb i (saga_of e) (λ is. let bad : eqb (saga_of e) i ≡ true = eq-eqb (saga_of e) i (sym is) in let no_way : true ≡ false = sym bad ∙ away in cc) in
          rw away (leads_skip events (links ++ new_link place (heads (saga_of e)) ∷ []) place i e (heads i) here other (leads_more events links (new_link place (heads (saga_of e))) i (place + 1) (heads i) (chains.headed i my)))
    ])

    of_group : (i k : ℕ) (b : Bool) → eqb (saga_of e) i ≡ b → heads' i ≡ Some k → mine i ≡ true
    of_group i k true own is = subst (λ (q : ℕ). mine q ≡ true) (eqb-true (saga_of e) i own) ours
    of_group i k false away is = chains.ours i k (sym (rw away at (put i)) ∙ is)
