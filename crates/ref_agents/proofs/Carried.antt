-- No more is held than what the last actions carried, and what is held ascends.
use Rattle.std.proofs.Common.{◌≡◌, ◌∙◌, ◌≤◌, ◌+◌, ◌-◌, ◌==◌, ◌||◌, ℕ, zero, suc, cond, not, nat_lt, Bool, true, false, ◌⊎◌, inl, inr, is_some, List, [], ◌∷◌, ◌++◌, Option, None, Some, Result, Ok, Err, slice_get, arith, refl, sym, ap, subst}
use Rattle.std.proofs.lemmas.Bool.{cases_eq, eq-eqb, ne_eqb}
use Rattle.ref_value.specs.Edn.{Edn}
use Rattle.ref_fun.specs.Meaning.{Means}
use Rattle.ref_fun.specs.Rule.{Accepts}
use Rattle.ref_fun.specs.declared.actions.Action.{Action}
use Rattle.ref_fun.specs.declared.carries.Carry.{Carry}
use Rattle.ref_log.specs.declared.guards.Guard.{Guard}
use Rattle.ref_agents.specs.Account.{AccountSeen, has_carried, is_carried_by, kept_queue, last_carries, last_released, most_folded, number_of, released, released_by, with_ended, with_head_ended}
use Rattle.ref_agents.specs.Agents.{IsStore, can_fold, carried, carries_at, carries_if_here, carrying, change_agent, error_at, error_if_here, folding, head_job, is_carrying_at, is_carrying_if_here, job_out, out_if_here, put_agent, queuing, releasing, revived, with_carries, with_each, with_each_released, with_send}
use Rattle.ref_agents.specs.Carried.{AreCarried, AreRising, held_by, may_hold, queue_at, queue_if_here, sends_to}
use Rattle.ref_agents.specs.Ends.{after_end, ending, goes_out, has_carry}
use Rattle.ref_agents.specs.Indexed.{IndexedSeen}
use Rattle.ref_agents.specs.Jobs.{JobSeen}
use Rattle.ref_agents.specs.declared.accounts.Mark.{Mark}
use Rattle.ref_agents.specs.declared.accounts.Queued.{Queued}
use Rattle.ref_agents.specs.declared.accounts.SentBy.{SentBy}
use Rattle.ref_agents.specs.declared.accounts.SentBy.TheVariants.{Carried, Commit, Outside}
use Rattle.ref_agents.specs.declared.accounts.Handled.{Handled}
use Rattle.ref_agents.specs.declared.agents.Agent.{Agent}
use Rattle.ref_agents.specs.declared.agents.ErrorMode.{ErrorMode}
use Rattle.ref_agents.specs.declared.agents.ErrorMode.TheVariants.{Continue, Fail}
use Rattle.ref_agents.specs.declared.faults.AgentError.{AgentError}
use Rattle.ref_agents.proofs.Changed.{first, not_both, relate_change}
use Rattle.ref_agents.proofs.Ended.{out_each}
use Rattle.ref_agents.proofs.Folded.{with_folded}
use Rattle.ref_agents.proofs.Index.{get_elsewhere, get_here}

-- what is always so of a store
abbrev pub Stands : Means → Accepts → List Guard → IndexedSeen → Type 0
Stands means accepts guards seen = IsStore means accepts seen.items guards × AreCarried seen.items × AreRising seen.unreleased

-- ---- an agent that is changed

changed_here : (agents : List Agent) (g : ℕ) (f : Agent → Agent) (x : Agent) → slice_get agents g ≡ Some x → slice_get (change_agent agents g f) g ≡ Some (f x)
changed_here agents g f x is = ap (λ o. slice_get (put_agent agents g f o) g) is ∙ get_here agents g x (f x) is

changed_apart : (agents : List Agent) (g h : ℕ) (f : Agent → Agent) → (h ≡ g → ⊥) → slice_get (change_agent agents g f) h ≡ slice_get agents h
changed_apart agents g h f other = by (slice_get agents g) where
  by : (there : Option Agent) → slice_get (put_agent agents g f there) h ≡ slice_get agents h
  by None = refl
  by (Some x) = get_elsewhere agents g h (f x) other

changed_none : (agents : List Agent) (g : ℕ) (f : Agent → Agent) → slice_get agents g ≡ None → change_agent agents g f ≡ agents
changed_none agents g f none = ap (put_agent agents g f) none

-- What an agent carries is as it was, it isn't failed meanwhile, and no more is held among what waits for it.
record Keeps (o p : Option Agent) : Type 0 where
  carrying : is_carrying_if_here p ≡ is_carrying_if_here o
  carries : is_carrying_if_here o ≡ true → carries_if_here p ≡ carries_if_here o
  error : is_carrying_if_here o ≡ true → error_if_here p ≡ error_if_here o
  held : (h : ℕ) → held_by h (queue_if_here p) ≤ held_by h (queue_if_here o)

keeps_all : (o : Option Agent) → Keeps o o
keeps_all o = record { carrying = refl; carries = λ is. refl; error = λ is. refl; held = λ h. omega arith }

-- what may be held is the same then
may_kept : (agents new : List Agent) → ((g : ℕ) → Keeps (slice_get agents g) (slice_get new g)) → (h g : ℕ) → may_hold new h g ≡ may_hold agents h g
may_kept agents new keeps h g = ap (λ b. cond b (sends_to (carries_at new h) g) 0) ((keeps h).carrying) ∙ by (is_carrying_at agents h) refl where
  by : (b : Bool) → is_carrying_at agents h ≡ b → cond (is_carrying_at agents h) (sends_to (carries_at new h) g) 0 ≡ cond (is_carrying_at agents h) (sends_to (carries_at agents h) g) 0
  by true is = ap (λ cs. cond (is_carrying_at agents h) (sends_to cs g) 0) ((keeps h).carries is)
  by false is = ap (λ b. cond b (sends_to (carries_at new h) g) 0) is ∙ sym (ap (λ b. cond b (sends_to (carries_at agents h) g) 0) is)

carried_kept : (agents new : List Agent) → ((g : ℕ) → Keeps (slice_get agents g) (slice_get new g)) → AreCarried agents → AreCarried new
carried_kept agents new keeps are = record {
  holds = λ h g. omega (arith, (keeps g).held h, are.holds h g, may_kept agents new keeps h g);
  sound = λ g is.
      let was = sym ((keeps g).carrying) ∙ is in
      (keeps g).error was ∙ are.sound g was;
}

keeps_change : (agents : List Agent) (h : ℕ) (f : Agent → Agent) → ((x : Agent) → slice_get agents h ≡ Some x → Keeps (Some x) (Some (f x)))
    → (g : ℕ) → Keeps (slice_get agents g) (slice_get (change_agent agents h f) g)
keeps_change agents h f ok g = by (cases_eq g h) where
  at : (there : Option Agent) → slice_get agents h ≡ there → Keeps (slice_get agents h) (slice_get (change_agent agents h f) h)
  at None is = subst (λ l. Keeps (slice_get agents h) (slice_get l h)) (sym (changed_none agents h f is)) (keeps_all (slice_get agents h))
  at (Some x) is = subst (λ o. Keeps o (slice_get (change_agent agents h f) h)) (sym is) (subst (Keeps (Some x)) (sym (changed_here agents h f x is)) (ok x is))

  by : (g ≡ h) ⊎ (g ≡ h → ⊥) → Keeps (slice_get agents g) (slice_get (change_agent agents h f) g)
  by (inl same) = subst (λ n. Keeps (slice_get agents n) (slice_get (change_agent agents h f) n)) (sym same) (at (slice_get agents h) refl)
  by (inr other) = subst (Keeps (slice_get agents g)) (sym (changed_apart agents h g f other)) (keeps_all (slice_get agents g))

carried_change : (agents : List Agent) (h : ℕ) (f : Agent → Agent) → ((x : Agent) → slice_get agents h ≡ Some x → Keeps (Some x) (Some (f x))) → AreCarried agents → AreCarried (change_agent agents h f)
carried_change agents h f ok = carried_kept agents (change_agent agents h f) (keeps_change agents h f ok)

-- where neither its account nor what it carries changes, and it isn't failed by it
pub carried_same : (agents : List Agent) (h : ℕ) (f : Agent → Agent) → ((x : Agent) → (f x).account ≡ x.account) → ((x : Agent) → (f x).is_carrying ≡ x.is_carrying) → ((x : Agent) → (f x).error ≡ x.error)
    → AreCarried agents → AreCarried (change_agent agents h f)
carried_same agents h f accounts carrying errors = carried_change agents h f (λ x is. record {
  carrying = carrying x;
  carries = λ on. ap (λ (a : AccountSeen). last_carries a.handled) (accounts x);
  error = λ on. errors x;
  held = λ k. omega (arith, ap (λ (a : AccountSeen). held_by k a.queue) (accounts x));
})

-- ---- one more agent

keeps_more : (agents : List Agent) (y : Agent) → Keeps None (Some y) → (g : ℕ) → Keeps (slice_get agents g) (slice_get (agents ++ y ∷ []) g)
keeps_more [] y new zero = new
keeps_more [] y new (suc g) = keeps_all None
keeps_more (a ∷ agents) y new zero = keeps_all (Some a)
keeps_more (a ∷ agents) y new (suc g) = keeps_more agents y new g

pub carried_made : (agents : List Agent) (y : Agent) → y.is_carrying ≡ false → y.account.queue ≡ [] → AreCarried agents → AreCarried (agents ++ y ∷ [])
carried_made agents y idle none = carried_kept agents (agents ++ y ∷ []) (keeps_more agents y (record {
  carrying = idle;
  carries = λ on. absurd (not_both refl on);
  error = λ on. absurd (not_both refl on);
  held = λ h. omega (arith, ap (held_by h) none);
}))

-- ---- one more action that waits

held_append : (h : ℕ) (xs ys : List Queued) → held_by h (xs ++ ys) ≡ held_by h xs + held_by h ys
held_append h [] ys = omega arith
held_append h (x ∷ xs) ys = by (held_append h xs ys) (is_carried_by h x.by) where
  by : held_by h (xs ++ ys) ≡ held_by h xs + held_by h ys → (b : Bool) → cond b (suc (held_by h (xs ++ ys))) (held_by h (xs ++ ys)) ≡ cond b (suc (held_by h xs)) (held_by h xs) + held_by h ys
  by rest true = omega (arith, rest)
  by rest false = rest

held_one : (h : ℕ) (q : Queued) (qs : List Queued) → is_carried_by h q.by ≡ false → held_by h (qs ++ q ∷ []) ≡ held_by h qs
held_one h q qs other = omega (arith, held_append h qs (q ∷ []), ap (λ b. cond b (suc 0) 0) other)

held_more : (h : ℕ) (q : Queued) (qs : List Queued) → held_by h (qs ++ q ∷ []) ≤ held_by h qs + 1
held_more h q qs = omega (arith, held_append h qs (q ∷ []), one (is_carried_by h q.by)) where
  one : (b : Bool) → cond b (suc 0) 0 ≤ 1
  one true = omega arith
  one false = omega arith

keeps_queued : (x : Agent) (q : Queued) → ((h : ℕ) → is_carried_by h q.by ≡ false) → Keeps (Some x) (Some (queuing q x))
keeps_queued x q other = record { carrying = refl; carries = λ on. refl; error = λ on. refl; held = λ h. omega (arith, held_one h q x.account.queue (other h)) }

-- which no action carried
pub carried_send : (agents : List Agent) (g : ℕ) (q : Queued) → ((h : ℕ) → is_carried_by h q.by ≡ false) → AreCarried agents → AreCarried (with_send agents g q)
carried_send agents g q other = carried_change agents g (queuing q) (λ x is. keeps_queued x q other)

pub carried_sends : {X : Type 0} (to : X → ℕ) (of : X → Action) (point : ℕ) (xs : List X) (agents : List Agent) → AreCarried agents → AreCarried (with_each to of (Commit point) xs agents)
carried_sends to of point [] agents are = are
carried_sends to of point (x ∷ xs) agents are =
    let q : Queued = record { action = of x; by = Commit point } in
    carried_sends to of point xs (with_send agents (to x) q) (carried_send agents (to x) q (λ h. refl) are)

-- ---- a fold, and a restart

keeps_folded : (x : Agent) → Keeps (Some x) (Some (folding x))
keeps_folded x = by (can_fold x) refl where
  idle : can_fold x ≡ true → x.is_carrying ≡ true → ⊥
  idle can on = not_both (ap not on) (first (not x.is_carrying) (nat_lt (number_of x.account) most_folded) can)

  by : (b : Bool) → can_fold x ≡ b → Keeps (Some x) (Some (cond b (with_folded x) x))
  by true can = record { carrying = refl; carries = λ on. absurd (idle can on); error = λ on. refl; held = λ h. omega arith }
  by false can = keeps_all (Some x)

pub carried_folded : (agents : List Agent) (g : ℕ) → AreCarried agents → AreCarried (change_agent agents g folding)
carried_folded agents g = carried_change agents g folding (λ x is. keeps_folded x)

pub may_folded : (agents : List Agent) (g h k : ℕ) → may_hold (change_agent agents g folding) h k ≡ may_hold agents h k
may_folded agents g = may_kept agents (change_agent agents g folding) (keeps_change agents g folding (λ x is. keeps_folded x))

held_kept : (h : ℕ) (clear : Bool) (queue : List Queued) → held_by h (kept_queue clear queue) ≤ held_by h queue
held_kept h true queue = omega arith
held_kept h false queue = omega arith

keeps_revived : (state : Edn) (clear : Bool) (x : Agent) → (x.is_carrying ≡ true → ⊥) → Keeps (Some x) (Some (revived state clear x))
keeps_revived state clear x idle = record {
  carrying = refl;
  carries = λ on. absurd (idle on);
  error = λ on. absurd (idle on);
  held = λ h. held_kept h clear x.account.queue;
}

failed_none : (e : Option AgentError) → is_some e ≡ true → e ≡ None → ⊥
failed_none None failed none = cc
failed_none (Some error) failed none = cc

-- of a failed agent
pub carried_revived : (agents : List Agent) (g : ℕ) (state : Edn) (clear : Bool) → is_some (error_at agents g) ≡ true → AreCarried agents → AreCarried (change_agent agents g (revived state clear))
carried_revived agents g state clear failed are =
    carried_change agents g (revived state clear) (λ x is. keeps_revived state clear x (λ on. failed_none (error_at agents g) failed (are.sound g (ap is_carrying_if_here is ∙ on)))) are

-- ---- a release

more_or_same : (b : Bool) (n : ℕ) → n ≤ cond b (suc n) n
more_or_same true n = omega arith
more_or_same false n = omega arith

more_both : (b : Bool) (m n : ℕ) → m ≤ n → cond b (suc m) m ≤ cond b (suc n) n
more_both true m n few = omega (arith, few)
more_both false m n few = few

fewer_by : (f h : ℕ) (by : SentBy) (n : ℕ) → cond (is_carried_by f (released_by h by)) (suc n) n ≤ cond (is_carried_by f by) (suc n) n
fewer_by f h Outside n = omega arith
fewer_by f h (Commit point) n = omega arith
fewer_by f h (Carried k) n = at (k == h) where
  at : (b : Bool) → cond (is_carried_by f (cond b Outside (Carried k))) (suc n) n ≤ cond (k == f) (suc n) n
  at true = more_or_same (k == f) n
  at false = more_both (k == f) n n (omega arith)

fewer_released : (f h : ℕ) (qs : List Queued) → held_by f (last_released h qs) ≤ held_by f qs
fewer_released f h [] = omega arith
fewer_released f h (q ∷ qs) = by (has_carried h qs) (fewer_released f h qs) where
  by : (b : Bool) → held_by f (last_released h qs) ≤ held_by f qs → held_by f (cond b (q ∷ last_released h qs) (released h q ∷ qs)) ≤ held_by f (q ∷ qs)
  by true few = more_both (is_carried_by f q.by) (held_by f (last_released h qs)) (held_by f qs) few
  by false few = fewer_by f h q.by (held_by f qs)

not_any_more : (h : ℕ) (by : SentBy) → is_carried_by h (released_by h by) ≡ false
not_any_more h Outside = refl
not_any_more h (Commit point) = refl
not_any_more h (Carried f) = at (f == h) refl where
  at : (b : Bool) → (f == h) ≡ b → is_carried_by h (cond b Outside (Carried f)) ≡ false
  at true is = refl
  at false is = is

some_held : (h : ℕ) (qs : List Queued) → has_carried h qs ≡ true → 1 ≤ held_by h qs
some_held h [] has = absurd cc
some_held h (q ∷ qs) has = at (some_held h qs) (is_carried_by h q.by) has where
  at : (has_carried h qs ≡ true → 1 ≤ held_by h qs) → (b : Bool) → (b || has_carried h qs) ≡ true → 1 ≤ cond b (suc (held_by h qs)) (held_by h qs)
  at rest true has = omega arith
  at rest false has = rest has

none_held : (h : ℕ) (qs : List Queued) → has_carried h qs ≡ false → held_by h qs ≡ 0
none_held h [] none = refl
none_held h (q ∷ qs) none = at (none_held h qs) (is_carried_by h q.by) none where
  at : (has_carried h qs ≡ false → held_by h qs ≡ 0) → (b : Bool) → (b || has_carried h qs) ≡ false → cond b (suc (held_by h qs)) (held_by h qs) ≡ 0
  at rest true none = absurd cc
  at rest false none = rest none

-- one less is held in its name
last_less : (h : ℕ) (qs : List Queued) → held_by h (last_released h qs) ≡ held_by h qs - 1
last_less h [] = refl
last_less h (q ∷ qs) = at (last_less h qs) (has_carried h qs) refl where
  more : held_by h (last_released h qs) ≡ held_by h qs - 1 → (b : Bool) → has_carried h qs ≡ true → cond b (suc (held_by h (last_released h qs))) (held_by h (last_released h qs)) ≡ cond b (suc (held_by h qs)) (held_by h qs) - 1
  more rest true has = omega (arith, rest, some_held h qs has)
  more rest false has = rest

  this : (b : Bool) → held_by h qs ≡ 0 → held_by h qs ≡ cond b (suc (held_by h qs)) (held_by h qs) - 1
  this true none = omega (arith, none)
  this false none = omega (arith, none)

  at : held_by h (last_released h qs) ≡ held_by h qs - 1 → (b : Bool) → has_carried h qs ≡ b → held_by h (cond b (q ∷ last_released h qs) (released h q ∷ qs)) ≡ held_by h (q ∷ qs) - 1
  at rest true has = more rest (is_carried_by h q.by) has
  at rest false none = rw (not_any_more h q.by) (this (is_carried_by h q.by) (none_held h qs none))

pub carried_released : (agents : List Agent) (h g : ℕ) → AreCarried agents → AreCarried (change_agent agents h (releasing g))
carried_released agents h g =
    carried_change agents h (releasing g) (λ x is. record { carrying = refl; carries = λ on. refl; error = λ on. refl; held = λ f. fewer_released f g x.account.queue })

one_freed : (g k : ℕ) (agents : List Agent) → held_by g (queue_at (change_agent agents k (releasing g)) k) ≡ held_by g (queue_at agents k) - 1
one_freed g k agents = by (slice_get agents k) refl where
  by : (there : Option Agent) → slice_get agents k ≡ there → held_by g (queue_at (change_agent agents k (releasing g)) k) ≡ held_by g (queue_at agents k) - 1
  by None is =
      let empty : queue_at agents k ≡ [] = ap queue_if_here is in
      ap (λ l. held_by g (queue_at l k)) (changed_none agents k (releasing g) is) ∙ ap (held_by g) empty ∙ sym (ap (λ l. held_by g l - 1) empty)
  by (Some x) is =
      ap (λ o. held_by g (queue_if_here o)) (changed_here agents k (releasing g) x is) ∙ last_less g x.account.queue ∙ sym (ap (λ o. held_by g (queue_if_here o) - 1) is)

each_freed : (g : ℕ) (cs : List Carry) (agents : List Agent) (k : ℕ) → held_by g (queue_at (with_each_released g cs agents) k) ≤ held_by g (queue_at agents k) - sends_to cs k
each_freed g [] agents k = omega arith
each_freed g (c ∷ cs) agents k = by (each_freed g cs (change_agent agents c.g (releasing g)) k) (cases_eq k c.g) where
  by : held_by g (queue_at (with_each_released g cs (change_agent agents c.g (releasing g))) k) ≤ held_by g (queue_at (change_agent agents c.g (releasing g)) k) - sends_to cs k
      → (k ≡ c.g) ⊎ (k ≡ c.g → ⊥)
      → held_by g (queue_at (with_each_released g cs (change_agent agents c.g (releasing g))) k) ≤ held_by g (queue_at agents k) - cond (c.g == k) (suc (sends_to cs k)) (sends_to cs k)
  by rest (inl same) =
      let one = subst (λ n. held_by g (queue_at (change_agent agents n (releasing g)) k) ≡ held_by g (queue_at agents k) - 1) same (one_freed g k agents) in
      let sends = ap (λ b. cond b (suc (sends_to cs k)) (sends_to cs k)) (eq-eqb c.g k (sym same)) in
      omega (arith, rest, one, sends)
  by rest (inr other) =
      let one = ap (λ o. held_by g (queue_if_here o)) (changed_apart agents c.g k (releasing g) other) in
      let sends = ap (λ b. cond b (suc (sends_to cs k)) (sends_to cs k)) (ne_eqb c.g k (λ same. other (sym same))) in
      omega (arith, rest, one, sends)

-- where all that it carried was released, nothing is held
pub all_freed : (agents : List Agent) (g : ℕ) → AreCarried agents → is_carrying_at agents g ≡ true → (k : ℕ) → held_by g (queue_at (with_each_released g (carries_at agents g) agents) k) ≡ 0
all_freed agents g are on k =
    let may : may_hold agents g k ≡ sends_to (carries_at agents g) k = ap (λ b. cond b (sends_to (carries_at agents g) k) 0) on in
    omega (arith, each_freed g (carries_at agents g) agents k, are.holds g k, may)

-- ---- nothing of what it carried is held any more

pub same_queue : (agents : List Agent) (g k : ℕ) → queue_at (change_agent agents g (carrying false)) k ≡ queue_at agents k
same_queue agents g k = relate_change (λ o p. queue_if_here p ≡ queue_if_here o) (carrying false) (λ o. refl) (λ x. refl) agents g k

down_here : (agents : List Agent) (g : ℕ) → is_carrying_at (change_agent agents g (carrying false)) g ≡ false
down_here agents g = by (slice_get agents g) refl where
  by : (there : Option Agent) → slice_get agents g ≡ there → is_carrying_at (change_agent agents g (carrying false)) g ≡ false
  by None is = ap (λ l. is_carrying_at l g) (changed_none agents g (carrying false) is) ∙ ap is_carrying_if_here is
  by (Some x) is = ap is_carrying_if_here (changed_here agents g (carrying false) x is)

pub carried_down : (agents : List Agent) (g : ℕ) → ((k : ℕ) → held_by g (queue_at agents k) ≡ 0) → AreCarried agents → AreCarried (change_agent agents g (carrying false))
carried_down agents g free are = record {
  holds = λ h k. few h k (cases_eq h g);
  sound = λ k on. fine k on (cases_eq k g);
} where
  few : (h k : ℕ) → (h ≡ g) ⊎ (h ≡ g → ⊥) → held_by h (queue_at (change_agent agents g (carrying false)) k) ≤ may_hold (change_agent agents g (carrying false)) h k
  few h k (inl same) =
      let none : held_by h (queue_at (change_agent agents g (carrying false)) k) ≡ 0 = ap (held_by h) (same_queue agents g k) ∙ ap (λ n. held_by n (queue_at agents k)) same ∙ free k in
      omega (arith, none)
  few h k (inr other) =
      let may = ap (λ o. cond (is_carrying_if_here o) (sends_to (carries_if_here o) k) 0) (changed_apart agents g h (carrying false) other) in
      omega (arith, ap (held_by h) (same_queue agents g k), may, are.holds h k)

  fine : (k : ℕ) → is_carrying_at (change_agent agents g (carrying false)) k ≡ true → (k ≡ g) ⊎ (k ≡ g → ⊥) → error_at (change_agent agents g (carrying false)) k ≡ None
  fine k on (inl same) = absurd (not_both (ap (is_carrying_at (change_agent agents g (carrying false))) same ∙ down_here agents g) on)
  fine k on (inr other) =
      let apart = changed_apart agents g k (carrying false) other in
      ap error_if_here apart ∙ are.sound k (sym (ap is_carrying_if_here apart) ∙ on)

-- ---- the end of an action

module _ {X : Type 0} (to : X → ℕ) (of : X → Action) (by : SentBy) where
  seen_each : {T : Type 0} (see : Option Agent → T) → ((x : Agent) (q : Queued) → see (Some (queuing q x)) ≡ see (Some x)) → (xs : List X) (agents : List Agent) (g : ℕ)
      → see (slice_get (with_each to of by xs agents) g) ≡ see (slice_get agents g)
  seen_each see same [] agents g = refl
  seen_each see same (x ∷ xs) agents g =
      let q : Queued = record { action = of x; by = by } in
      seen_each see same xs (with_send agents (to x) q) g ∙ relate_change (λ o p. see p ≡ see o) (queuing q) (λ o. refl) (λ y. same y q) agents (to x) g

  held_others : (h : ℕ) → is_carried_by h by ≡ false → (xs : List X) (agents : List Agent) (g : ℕ) → held_by h (queue_at (with_each to of by xs agents) g) ≤ held_by h (queue_at agents g)
  held_others h other [] agents g = omega arith
  held_others h other (x ∷ xs) agents g =
      let q : Queued = record { action = of x; by = by } in
      let one = relate_change (λ o p. held_by h (queue_if_here p) ≡ held_by h (queue_if_here o)) (queuing q) (λ o. refl) (λ y. held_one h q y.account.queue other) agents (to x) g in
      omega (arith, one, held_others h other xs (with_send agents (to x) q) g)

held_send : (h k : ℕ) (q : Queued) (agents : List Agent) → held_by h (queue_at (with_send agents k q) k) ≤ held_by h (queue_at agents k) + 1
held_send h k q agents = by (slice_get agents k) refl where
  by : (there : Option Agent) → slice_get agents k ≡ there → held_by h (queue_at (with_send agents k q) k) ≤ held_by h (queue_at agents k) + 1
  by None is = omega (arith, ap (λ l. held_by h (queue_at l k)) (changed_none agents k (queuing q) is))
  by (Some x) is =
      omega (arith, ap (λ o. held_by h (queue_if_here o)) (changed_here agents k (queuing q) x is), ap (λ o. held_by h (queue_if_here o)) is, held_more h q x.account.queue)

held_own : (h : ℕ) (cs : List Carry) (agents : List Agent) (k : ℕ) → held_by h (queue_at (with_carries h cs agents) k) ≤ held_by h (queue_at agents k) + sends_to cs k
held_own h [] agents k = omega arith
held_own h (c ∷ cs) agents k = by (held_own h cs (with_send agents c.g (record { action = carried c; by = Carried h })) k) (cases_eq k c.g) where
  by : held_by h (queue_at (with_carries h cs (with_send agents c.g (record { action = carried c; by = Carried h }))) k) ≤ held_by h (queue_at (with_send agents c.g (record { action = carried c; by = Carried h })) k) + sends_to cs k
      → (k ≡ c.g) ⊎ (k ≡ c.g → ⊥)
      → held_by h (queue_at (with_carries h cs (with_send agents c.g (record { action = carried c; by = Carried h }))) k) ≤ held_by h (queue_at agents k) + cond (c.g == k) (suc (sends_to cs k)) (sends_to cs k)
  by rest (inl same) =
      let one = subst (λ n. held_by h (queue_at (with_send agents n (record { action = carried c; by = Carried h })) k) ≤ held_by h (queue_at agents k) + 1) same (held_send h k (record { action = carried c; by = Carried h }) agents) in
      let sends = ap (λ b. cond b (suc (sends_to cs k)) (sends_to cs k)) (eq-eqb c.g k (sym same)) in
      omega (arith, rest, one, sends)
  by rest (inr other) =
      let one = ap (λ o. held_by h (queue_if_here o)) (changed_apart agents c.g k (queuing (record { action = carried c; by = Carried h })) other) in
      let sends = ap (λ b. cond b (suc (sends_to cs k)) (sends_to cs k)) (ne_eqb c.g k (λ same. other (sym same))) in
      omega (arith, rest, one, sends)

-- the first that waits, where it is on its way
record IsFirst (agents : List Agent) (g : ℕ) (action : Action) : Type 0 where
  agent : Agent
  here : slice_get agents g ≡ Some agent
  first : Queued
  rest : List Queued
  queue : agent.account.queue ≡ first ∷ rest
  same : first.action ≡ action

first_out : (agents : List Agent) (g : ℕ) (job : JobSeen) → job_out agents g ≡ Some job → IsFirst agents g job.action
first_out agents g job is = by (slice_get agents g) refl is where
  by : (there : Option Agent) → slice_get agents g ≡ there → out_if_here g there ≡ Some job → IsFirst agents g job.action
  by None here is = absurd cc
  by (Some agent) here is = queued agent.is_out agent.account.queue refl is where
    queued : (b : Bool) (queue : List Queued) → agent.account.queue ≡ queue → cond b (head_job g agent queue) None ≡ Some job → IsFirst agents g job.action
    queued false queue waits is = absurd cc
    queued true [] waits is = absurd cc
    queued true (q ∷ qs) waits is =
        let same : job ≡ record { agent = g; number = number_of agent.account; action = q.action; state = agent.value } = cc in
        record { agent = agent; here = here; first = q; rest = qs; queue = waits; same = sym (ap (λ (j : JobSeen). j.action) same) }

last_push : (hs : List Handled) (h : Handled) → last_carries (hs ++ h ∷ []) ≡ h.action.carries
last_push [] h = refl
last_push (x ∷ []) h = refl
last_push (x ∷ y ∷ hs) h = last_push (y ∷ hs) h

held_head : (h : ℕ) (account : AccountSeen) (mark : Mark) (queue : List Queued) → account.queue ≡ queue → held_by h (with_head_ended account mark queue).queue ≤ held_by h account.queue
held_head h account mark [] is = omega arith
held_head h account mark (q ∷ qs) is = omega (arith, ap (held_by h) is, more_or_same (is_carried_by h q.by) (held_by h qs))

held_ended : (h : ℕ) (mode : ErrorMode) (judgement : Result Edn AgentError) (cs : List Carry) (agent : Agent) → held_by h (after_end mode judgement cs agent).account.queue ≤ held_by h agent.account.queue
held_ended h mode (Ok v) cs agent = held_head h agent.account _ agent.account.queue refl
held_ended h Fail (Err error) cs agent = held_head h agent.account _ agent.account.queue refl
held_ended h Continue (Err error) cs agent = held_head h agent.account _ agent.account.queue refl

carries_head : (account : AccountSeen) (mark : Mark) (first : Queued) (rest : List Queued) → account.queue ≡ first ∷ rest → last_carries (with_ended account mark).handled ≡ first.action.carries
carries_head account mark first rest is =
    ap (λ l. last_carries (with_head_ended account mark l).handled) is ∙ last_push account.handled (record { action = first.action; mark = mark })

carries_ended : (mode : ErrorMode) (judgement : Result Edn AgentError) (cs : List Carry) (agent : Agent) (first : Queued) (rest : List Queued) → agent.account.queue ≡ first ∷ rest → last_carries (after_end mode judgement cs agent).account.handled ≡ first.action.carries
carries_ended mode (Ok v) cs agent first rest is = carries_head agent.account _ first rest is
carries_ended Fail (Err error) cs agent first rest is = carries_head agent.account _ first rest is
carries_ended Continue (Err error) cs agent first rest is = carries_head agent.account _ first rest is

carrying_ended : (mode : ErrorMode) (judgement : Result Edn AgentError) (cs : List Carry) (agent : Agent) → agent.is_carrying ≡ false → (after_end mode judgement cs agent).is_carrying ≡ has_carry (goes_out judgement cs)
carrying_ended mode (Ok v) cs agent idle = refl
carrying_ended Fail (Err error) cs agent idle = idle
carrying_ended Continue (Err error) cs agent idle = idle

-- what went out is what may be held then
out_may : (judgement : Result Edn AgentError) (cs : List Carry) (k : ℕ) → sends_to (goes_out judgement cs) k ≤ cond (has_carry (goes_out judgement cs)) (sends_to cs k) 0
out_may (Ok v) [] k = omega arith
out_may (Ok v) (c ∷ cs) k = omega arith
out_may (Err error) cs k = omega arith

fine_ended : (mode : ErrorMode) (judgement : Result Edn AgentError) (cs : List Carry) (agent : Agent) → has_carry (goes_out judgement cs) ≡ true → (after_end mode judgement cs agent).error ≡ None
fine_ended mode (Ok v) cs agent on = refl
fine_ended mode (Err error) cs agent on = absurd cc

module _ (agents : List Agent) (job : JobSeen) (judgement : Result Edn AgentError) (idle : is_carrying_at agents job.agent ≡ false) (are : AreCarried agents) where
  abbrev mid : List Agent
  mid = with_carries job.agent (goes_out judgement job.action.carries) agents

  abbrev after : List Agent
  after = change_agent (with_carries job.agent (goes_out judgement job.action.carries) agents) job.agent (ending judgement job.action.carries)

  see_mid : {T : Type 0} (see : Option Agent → T) → ((x : Agent) (q : Queued) → see (Some (queuing q x)) ≡ see (Some x)) → (k : ℕ) → see (slice_get mid k) ≡ see (slice_get agents k)
  see_mid see same k = seen_each (λ (c : Carry). c.g) carried (Carried job.agent) see same (goes_out judgement job.action.carries) agents k

  module _ (f : IsFirst mid job.agent job.action) where
    here : slice_get after job.agent ≡ Some (ending judgement job.action.carries f.agent)
    here = changed_here mid job.agent (ending judgement job.action.carries) f.agent f.here

    apart : (k : ℕ) → (k ≡ job.agent → ⊥) → slice_get after k ≡ slice_get mid k
    apart k other = changed_apart mid job.agent k (ending judgement job.action.carries) other

    held_after : (h k : ℕ) → held_by h (queue_at after k) ≤ held_by h (queue_at mid k)
    held_after h k = by (cases_eq k job.agent) where
      by : (k ≡ job.agent) ⊎ (k ≡ job.agent → ⊥) → held_by h (queue_at after k) ≤ held_by h (queue_at mid k)
      by (inl same) = subst (λ n. held_by h (queue_at after n) ≤ held_by h (queue_at mid n)) (sym same)
          (omega (arith, ap (λ o. held_by h (queue_if_here o)) here, ap (λ o. held_by h (queue_if_here o)) f.here, held_ended h f.agent.mode judgement job.action.carries f.agent))
      by (inr other) = omega (arith, ap (λ o. held_by h (queue_if_here o)) (apart k other))

    carrying_here : is_carrying_at after job.agent ≡ has_carry (goes_out judgement job.action.carries)
    carrying_here =
        let was : f.agent.is_carrying ≡ false = sym (ap is_carrying_if_here f.here) ∙ see_mid is_carrying_if_here (λ x q. refl) job.agent ∙ idle in
        ap is_carrying_if_here here ∙ carrying_ended f.agent.mode judgement job.action.carries f.agent was

    carries_here : carries_at after job.agent ≡ job.action.carries
    carries_here = ap carries_if_here here ∙ carries_ended f.agent.mode judgement job.action.carries f.agent f.first f.rest f.queue ∙ ap (λ (a : Action). a.carries) f.same

    few : (h k : ℕ) → (h ≡ job.agent) ⊎ (h ≡ job.agent → ⊥) → held_by h (queue_at after k) ≤ may_hold after h k
    few h k (inl same) = subst (λ n. held_by n (queue_at after k) ≤ may_hold after n k) (sym same)
        (let none : may_hold agents job.agent k ≡ 0 = ap (λ b. cond b (sends_to (carries_at agents job.agent) k) 0) idle in
        let may : may_hold after job.agent k ≡ cond (has_carry (goes_out judgement job.action.carries)) (sends_to job.action.carries k) 0 =
        ap (λ b. cond b (sends_to (carries_at after job.agent) k) 0) carrying_here ∙ ap (λ cs. cond (has_carry (goes_out judgement job.action.carries)) (sends_to cs k) 0) carries_here in
        omega (arith, held_after job.agent k, held_own job.agent (goes_out judgement job.action.carries) agents k, are.holds job.agent k, none, out_may judgement job.action.carries k, may))
    few h k (inr other) =
        let may : may_hold after h k ≡ may_hold agents h k =
        ap (λ o. cond (is_carrying_if_here o) (sends_to (carries_if_here o) k) 0) (apart h other)
        ∙ see_mid (λ o. cond (is_carrying_if_here o) (sends_to (carries_if_here o) k) 0) (λ x q. refl) h in
        let others = held_others (λ (c : Carry). c.g) carried (Carried job.agent) h (ne_eqb job.agent h (λ same. other (sym same))) (goes_out judgement job.action.carries) agents k in
        omega (arith, held_after h k, others, are.holds h k, may)

    fine : (k : ℕ) → is_carrying_at after k ≡ true → (k ≡ job.agent) ⊎ (k ≡ job.agent → ⊥) → error_at after k ≡ None
    fine k on (inl same) =
        let went : has_carry (goes_out judgement job.action.carries) ≡ true = sym carrying_here ∙ ap (is_carrying_at after) (sym same) ∙ on in
        ap (error_at after) same ∙ ap error_if_here here ∙ fine_ended f.agent.mode judgement job.action.carries f.agent went
    fine k on (inr other) =
        ap error_if_here (apart k other) ∙ see_mid error_if_here (λ x q. refl) k
        ∙ are.sound k (sym (ap is_carrying_if_here (apart k other) ∙ see_mid is_carrying_if_here (λ x q. refl) k) ∙ on)

    finished : AreCarried after
    finished = record { holds = λ h k. few h k (cases_eq h job.agent); sound = λ k on. fine k on (cases_eq k job.agent) }

pub carried_end : (agents : List Agent) (job : JobSeen) (judgement : Result Edn AgentError) → job_out agents job.agent ≡ Some job → is_carrying_at agents job.agent ≡ false → AreCarried agents
    → AreCarried (change_agent (with_carries job.agent (goes_out judgement job.action.carries) agents) job.agent (ending judgement job.action.carries))
carried_end agents job judgement out idle are =
    let went = goes_out judgement job.action.carries in
    finished agents job judgement idle are
    (first_out (with_carries job.agent went agents) job.agent job (out_each (λ (c : Carry). c.g) carried (Carried job.agent) went agents job.agent job out))
