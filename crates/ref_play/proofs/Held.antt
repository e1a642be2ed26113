-- How much of what waits is held in the name of an agent.
use Rattle.std.proofs.Common.{◌≡◌, ◌≤◌, ℕ, suc, ◌+◌, ◌-◌, ◌==◌, ◌||◌, cond, Bool, true, false, List, [], ◌∷◌, ◌++◌, map, refl, sym, ap, ◌∙◌, arith}
use Rattle.std.proofs.lemmas.Bool.{eq-eqb, eqb-false, eqb-true, ne_eqb}
use Rattle.ref_fun.specs.declared.actions.Action.{Action}
use Rattle.ref_fun.specs.declared.carries.Carry.{Carry}
use Rattle.ref_agents.specs.Account.{has_carried, is_carried_by, last_released, released, released_by}
use Rattle.ref_agents.specs.Agents.{carried}
use Rattle.ref_agents.specs.declared.accounts.Queued.{Queued}
use Rattle.ref_agents.specs.declared.accounts.SentBy.{SentBy}
use Rattle.ref_agents.specs.declared.accounts.SentBy.TheVariants.{Outside, Commit, Carried}
use Rattle.ref_play.specs.Given.{those_to, without_first}
use Rattle.ref_play.specs.Runs.{held_by, sends_to}

-- ---- what is added, and what is taken

pub held_append : (h : ℕ) (xs ys : List Queued) → held_by h (xs ++ ys) ≡ held_by h xs + held_by h ys
held_append h [] ys = omega arith
held_append h (x ∷ xs) ys = by (held_append h xs ys) (is_carried_by h x.by) where
  by : held_by h (xs ++ ys) ≡ held_by h xs + held_by h ys → (b : Bool) → cond b (suc (held_by h (xs ++ ys))) (held_by h (xs ++ ys)) ≡ cond b (suc (held_by h xs)) (held_by h xs) + held_by h ys
  by rest true = omega (arith, rest)
  by rest false = rest

pub held_rest : (h : ℕ) (qs : List Queued) → held_by h (without_first qs) ≤ held_by h qs
held_rest h [] = omega arith
held_rest h (q ∷ qs) = by (is_carried_by h q.by) where
  by : (b : Bool) → held_by h qs ≤ cond b (suc (held_by h qs)) (held_by h qs)
  by true = omega arith
  by false = omega arith

abbrev pub sent_as : {X : Type 0} → (X → Action) → SentBy → X → Queued
sent_as of sent x = record { action = of x; by = sent }

-- what isn't carried by h
pub held_none : {X : Type 0} (h : ℕ) (to : X → ℕ) (of : X → Action) (sent : SentBy) → is_carried_by h sent ≡ false → (g : ℕ) (xs : List X)
    → held_by h (those_to to (sent_as of sent) g xs) ≡ 0
held_none h to of sent other g [] = refl
held_none h to of sent other g (x ∷ xs) = at (held_none h to of sent other g xs) (to x == g) where
  at : held_by h (those_to to (sent_as of sent) g xs) ≡ 0 → (b : Bool) → held_by h (cond b (sent_as of sent x ∷ those_to to (sent_as of sent) g xs) (those_to to (sent_as of sent) g xs)) ≡ 0
  at rest true = rw other rest
  at rest false = rest

-- what is
pub held_all : (h g : ℕ) (cs : List Carry) → held_by h (those_to (λ c. c.g) (sent_as carried (Carried h)) g cs) ≡ sends_to cs g
held_all h g [] = refl
held_all h g (c ∷ cs) = at (held_all h g cs) (c.g == g) where
  at : held_by h (those_to (λ c. c.g) (sent_as carried (Carried h)) g cs) ≡ sends_to cs g → (b : Bool) → held_by h (cond b (sent_as carried (Carried h) c ∷ those_to (λ c. c.g) (sent_as carried (Carried h)) g cs) (those_to (λ c. c.g) (sent_as carried (Carried h)) g cs)) ≡ cond b (suc (sends_to cs g)) (sends_to cs g)
  at rest true = rw (eq-eqb h h refl) (ap suc rest)
  at rest false = rest

-- ---- what is released

pub by_twice : (h : ℕ) (by : SentBy) → released_by h (released_by h by) ≡ released_by h by
by_twice h Outside = refl
by_twice h (Commit point) = refl
by_twice h (Carried by) = at (by == h) refl where
  at : (b : Bool) → (by == h) ≡ b → released_by h (cond b Outside (Carried by)) ≡ cond b Outside (Carried by)
  at true is = refl
  at false is = rw is refl

pub not_carried : (h : ℕ) (by : SentBy) → is_carried_by h by ≡ false → released_by h by ≡ by
not_carried h Outside isnt = refl
not_carried h (Commit point) isnt = refl
not_carried h (Carried f) isnt = rw isnt refl

not_any_more : (h : ℕ) (by : SentBy) → is_carried_by h (released_by h by) ≡ false
not_any_more h Outside = refl
not_any_more h (Commit point) = refl
not_any_more h (Carried f) = at (f == h) refl where
  at : (b : Bool) → (f == h) ≡ b → is_carried_by h (cond b Outside (Carried f)) ≡ false
  at true is = refl
  at false is = is

-- another agent's
pub held_other : (f h : ℕ) (by : SentBy) → (f == h) ≡ false → is_carried_by f (released_by h by) ≡ is_carried_by f by
held_other f h Outside other = refl
held_other f h (Commit point) other = refl
held_other f h (Carried k) other = at (k == h) refl where
  at : (b : Bool) → (k == h) ≡ b → is_carried_by f (cond b Outside (Carried k)) ≡ (k == f)
  at true is = sym (ap (λ n. n == f) (eqb-true k h is) ∙ ne_eqb h f (λ same. eqb-false f h other (sym same)))
  at false is = refl

pub held_released : (f h : ℕ) (qs : List Queued) → (f == h) ≡ false → held_by f (map (released h) qs) ≡ held_by f qs
held_released f h [] other = refl
held_released f h (q ∷ qs) other = rw (held_other f h q.by other) (at (held_released f h qs other) (is_carried_by f q.by)) where
  at : held_by f (map (released h) qs) ≡ held_by f qs → (b : Bool) → cond b (suc (held_by f (map (released h) qs))) (held_by f (map (released h) qs)) ≡ cond b (suc (held_by f qs)) (held_by f qs)
  at rest true = ap suc rest
  at rest false = rest

pub none_left : (h : ℕ) (qs : List Queued) → held_by h (map (released h) qs) ≡ 0
none_left h [] = refl
none_left h (q ∷ qs) = rw (not_any_more h q.by) (none_left h qs)

-- where none is held nothing changes
pub map_none : (h : ℕ) (qs : List Queued) → held_by h qs ≤ 0 → map (released h) qs ≡ qs
map_none h [] none = refl
map_none h (q ∷ qs) none = at (map_none h qs) (is_carried_by h q.by) refl none where
  at : (held_by h qs ≤ 0 → map (released h) qs ≡ qs) → (b : Bool) → is_carried_by h q.by ≡ b → cond b (suc (held_by h qs)) (held_by h qs) ≤ 0 → released h q ∷ map (released h) qs ≡ q ∷ qs
  at rest true is none = absurd (omega (arith, none))
  at rest false is none =
      ap (λ by. (record { action = q.action; by = by }) ∷ map (released h) qs) (not_carried h q.by is) ∙ ap (λ l. q ∷ l) (rest none)

some_held : (h : ℕ) (qs : List Queued) → has_carried h qs ≡ true → 1 ≤ held_by h qs
some_held h [] has = absurd cc
some_held h (q ∷ qs) has = at (some_held h qs) (is_carried_by h q.by) has where
  at : (has_carried h qs ≡ true → 1 ≤ held_by h qs) → (b : Bool) → (b || has_carried h qs) ≡ true → 1 ≤ cond b (suc (held_by h qs)) (held_by h qs)
  at rest true has = omega arith
  at rest false has = rest has

none_held : (h : ℕ) (qs : List Queued) → has_carried h qs ≡ false → held_by h qs ≡ 0
none_held h [] none = refl
none_held h (q ∷ qs) none = at (none_held h qs) (is_carried_by h q.by) none where
  at : (has_carried h qs ≡ false → held_by h qs ≡ 0) → (b : Bool) → (b || has_carried h qs) ≡ false → cond b (suc (held_by h qs)) (held_by h qs) ≡ 0
  at rest true none = absurd cc
  at rest false none = rest none

-- the last is released: one less is held
pub last_less : (h : ℕ) (qs : List Queued) → held_by h (last_released h qs) ≡ held_by h qs - 1
last_less h [] = refl
last_less h (q ∷ qs) = at (last_less h qs) (has_carried h qs) refl where
  more : held_by h (last_released h qs) ≡ held_by h qs - 1 → (b : Bool) → has_carried h qs ≡ true → cond b (suc (held_by h (last_released h qs))) (held_by h (last_released h qs)) ≡ cond b (suc (held_by h qs)) (held_by h qs) - 1
  more rest true has = omega (arith, rest, some_held h qs has)
  more rest false has = rest

  this : (b : Bool) → held_by h qs ≡ 0 → held_by h qs ≡ cond b (suc (held_by h qs)) (held_by h qs) - 1
  this true none = omega (arith, none)
  this false none = omega (arith, none)

  at : held_by h (last_released h qs) ≡ held_by h qs - 1 → (b : Bool) → has_carried h qs ≡ b → held_by h (cond b (q ∷ last_released h qs) (released h q ∷ qs)) ≡ held_by h (q ∷ qs) - 1
  at rest true has = more rest (is_carried_by h q.by) has
  at rest false none = rw (not_any_more h q.by) (this (is_carried_by h q.by) (none_held h qs none))

-- and it is one of those that a release of all releases
pub map_last : (h : ℕ) (qs : List Queued) → map (released h) (last_released h qs) ≡ map (released h) qs
map_last h [] = refl
map_last h (q ∷ qs) = at (map_last h qs) (has_carried h qs) where
  at : map (released h) (last_released h qs) ≡ map (released h) qs → (b : Bool) → map (released h) (cond b (q ∷ last_released h qs) (released h q ∷ qs)) ≡ released h q ∷ map (released h) qs
  at rest true = ap (λ l. released h q ∷ l) rest
  at rest false = ap (λ by. (record { action = q.action; by = by }) ∷ map (released h) qs) (by_twice h q.by)
