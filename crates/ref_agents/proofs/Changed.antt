-- Agents that are changed, and what stays so of them.
use Rattle.std.proofs.Common.{◌≡◌, ◌∙◌, ℕ, ◌<◌, zero, suc, Bool, true, false, not, ◌&&◌, List, [], ◌∷◌, ◌++◌, length, Option, None, Some, Result, is_some, slice_get, slice_set, get_or, refl, sym, ap, subst, ◌^◌, arith}
use Rattle.std.proofs.lemmas.List.{length-append, length-set, set-get_or}
use Rattle.std.proofs.lemmas.Option.{get_or_from_slice_get, slice_get_read}
use Rattle.ref_value.specs.Edn.{Edn}
use Rattle.ref_fun.specs.Meaning.{Means}
use Rattle.ref_fun.specs.Rule.{Accepts}
use Rattle.ref_fun.specs.declared.actions.Action.{Action}
use Rattle.ref_fun.specs.declared.faults.Cause.{Cause}
use Rattle.ref_fun.specs.declared.rules.Rule.{Rule}
use Rattle.ref_log.specs.Guards.{AreAccepted, with_guard}
use Rattle.ref_log.specs.declared.guards.Guard.{Guard}
use Rattle.ref_agents.specs.Account.{AccountSeen, after_handled, and_handled, fit_marks, is_failed_mark, restarted}
use Rattle.ref_agents.specs.Agents.{AgentsSeen, AreAgents, IsAgent, IsAgentIfHere, IsStore, change_agent, put_agent, queuing, revived, values_of, with_each, with_send}
use Rattle.ref_agents.specs.declared.accounts.Handled.{Handled}
use Rattle.ref_agents.specs.declared.accounts.Queued.{Queued}
use Rattle.ref_agents.specs.declared.accounts.SentBy.{SentBy}
use Rattle.ref_agents.specs.declared.agents.Agent.{Agent}

pub not_both : {b : Bool} → b ≡ false → b ≡ true → ⊥
not_both isnt is = cc

all_of : (a b : Bool) → a ≡ true → b ≡ true → (a && b) ≡ true
all_of a b is also = rw (is, also) refl

pub first : (a b : Bool) → (a && b) ≡ true → a ≡ true
first true b both = refl
first false b both = both

pub second : (a b : Bool) → (a && b) ≡ true → b ≡ true
second true b both = both
second false b both = absurd (not_both refl both)

-- an agent that was read
pub there : (items agents : List Agent) (g : ℕ) (x : Agent) → items ≡ agents → g < length items → x ≡ get_or items g x → slice_get agents g ≡ Some x
there items agents g x same here is =
    ap (λ l. slice_get l g) (sym same) ∙ slice_get_read items (length items) g x refl here is

-- ---- what is always so

pub agent_at : (means : Means) (agents : List Agent) (g : ℕ) (x : Agent) → AreAgents means agents → slice_get agents g ≡ Some x → IsAgent means x
agent_at means agents g x are is = subst (IsAgentIfHere means) is (are g)

pub agents_set : (means : Means) (agents : List Agent) (g : ℕ) (y : Agent) → IsAgent means y → AreAgents means agents → AreAgents means (slice_set agents g y)
agents_set means [] g y ok are i = are i
agents_set means (x ∷ xs) zero y ok are zero = ok
agents_set means (x ∷ xs) zero y ok are (suc i) = are (suc i)
agents_set means (x ∷ xs) (suc g) y ok are zero = are zero
agents_set means (x ∷ xs) (suc g) y ok are (suc i) = agents_set means xs g y ok (λ k. are (suc k)) i

pub agents_more : (means : Means) (agents : List Agent) (y : Agent) → IsAgent means y → AreAgents means agents → AreAgents means (agents ++ y ∷ [])
agents_more means [] y ok are zero = ok
agents_more means [] y ok are (suc i) = tt
agents_more means (x ∷ xs) y ok are zero = are zero
agents_more means (x ∷ xs) y ok are (suc i) = agents_more means xs y ok (λ k. are (suc k)) i

-- ---- an agent that is changed

pub same_set : (agents : List Agent) (g : ℕ) (x : Agent) → slice_get agents g ≡ Some x → slice_set agents g x ≡ agents
same_set agents g x is = ap (λ y. slice_set agents g y) (sym (get_or_from_slice_get agents g x x is)) ∙ set-get_or agents g x

pub change_is : (agents : List Agent) (g : ℕ) (x y : Agent) (f : Agent → Agent) → slice_get agents g ≡ Some x → y ≡ f x → slice_set agents g y ≡ change_agent agents g f
change_is agents g x y f is same = ap (slice_set agents g) same ∙ sym (ap (put_agent agents g f) is)

pub values_set : (agents : List Agent) (g : ℕ) (y : Agent) → values_of (slice_set agents g y) ≡ slice_set (values_of agents) g y.value
values_set [] g y = refl
values_set (x ∷ xs) zero y = refl
values_set (x ∷ xs) (suc g) y = ap (λ l. x.value ∷ l) (values_set xs g y)

pub values_same : (agents : List Agent) (g : ℕ) (x y : Agent) → slice_get agents g ≡ Some x → y.value ≡ x.value → values_of (slice_set agents g y) ≡ values_of agents
values_same [] g x y is same = refl
values_same (a ∷ agents) zero x y is same =
    let first : a ≡ x = cc in
    ap (λ v. v ∷ values_of agents) (same ∙ ap (λ k. k.value) (sym first))
values_same (a ∷ agents) (suc g) x y is same = ap (λ l. a.value ∷ l) (values_same agents g x y is same)

pub values_change : (agents : List Agent) (g : ℕ) (f : Agent → Agent) → ((x : Agent) → (f x).value ≡ x.value) → values_of (change_agent agents g f) ≡ values_of agents
values_change agents g f same = by (slice_get agents g) refl where
  by : (there : Option Agent) → slice_get agents g ≡ there → values_of (put_agent agents g f there) ≡ values_of agents
  by None is = refl
  by (Some x) is = values_same agents g x (f x) is (same x)

-- where all rules still accept
pub set_agent : (means : Means) (accepts : Accepts) (agents : List Agent) (guards : List Guard) (g : ℕ) (y : Agent) → IsAgent means y
    → AreAccepted accepts guards (values_of (slice_set agents g y)) → IsStore means accepts agents guards → IsStore means accepts (slice_set agents g y) guards
set_agent means accepts agents guards g y ok accepted store = (
  omega (arith, length-set agents g y, store.0),
  store.1 ∙ sym (length-set agents g y),
  accepted,
  agents_set means agents g y ok store.3,
)

-- where its state is as it was
pub kept : (means : Means) (accepts : Accepts) (agents : List Agent) (guards : List Guard) (g : ℕ) (x y : Agent) → slice_get agents g ≡ Some x → IsAgent means y
    → y.value ≡ x.value → IsStore means accepts agents guards → IsStore means accepts (slice_set agents g y) guards
kept means accepts agents guards g x y is ok same store =
    set_agent means accepts agents guards g y ok (subst (AreAccepted accepts guards) (sym (values_same agents g x y is same)) store.2) store

pub kept_change : (means : Means) (accepts : Accepts) (agents : List Agent) (guards : List Guard) (g : ℕ) (f : Agent → Agent)
    → ((x : Agent) → slice_get agents g ≡ Some x → IsAgent means x → IsAgent means (f x)) → ((x : Agent) → (f x).value ≡ x.value)
    → IsStore means accepts agents guards → IsStore means accepts (change_agent agents g f) guards
kept_change means accepts agents guards g f ok same store = by (slice_get agents g) refl where
  by : (there : Option Agent) → slice_get agents g ≡ there → IsStore means accepts (put_agent agents g f there) guards
  by None is = store
  by (Some x) is = kept means accepts agents guards g x (f x) is (ok x is (agent_at means agents g x store.3 is)) (same x) store

-- with more actions that wait
pub kept_each : {X : Type 0} (to : X → ℕ) (of : X → Action) (by : SentBy) (means : Means) (accepts : Accepts) (guards : List Guard) (xs : List X) (agents : List Agent)
    → IsStore means accepts agents guards → IsStore means accepts (with_each to of by xs agents) guards
kept_each to of by means accepts guards [] agents store = store
kept_each to of by means accepts guards (x ∷ xs) agents store =
    let q : Queued = record { action = of x; by = by } in
    kept_each to of by means accepts guards xs (with_send agents (to x) q)
    (kept_change means accepts agents guards (to x) (queuing q) (λ y is ok. record { folded = ok.folded; marked = ok.marked; single = ok.single; idle = ok.idle }) (λ y. refl) store)

-- What an agent that is changed has in common with the one from before: each other agent is as it was.
pub relate_set : (R : Option Agent → Option Agent → Type 0) (x y : Agent) → ((o : Option Agent) → R o o) → R (Some x) (Some y)
    → (agents : List Agent) (h g : ℕ) → slice_get agents h ≡ Some x → R (slice_get agents g) (slice_get (slice_set agents h y) g)
relate_set R x y same here [] h g is = cc
relate_set R x y same here (a ∷ agents) zero zero is = subst (λ o. R o (Some y)) (sym is) here
relate_set R x y same here (a ∷ agents) zero (suc g) is = same (slice_get agents g)
relate_set R x y same here (a ∷ agents) (suc h) zero is = same (Some a)
relate_set R x y same here (a ∷ agents) (suc h) (suc g) is = relate_set R x y same here agents h g is

relate_put : (R : Option Agent → Option Agent → Type 0) (f : Agent → Agent) → ((o : Option Agent) → R o o) → ((x : Agent) → R (Some x) (Some (f x)))
    → (agents : List Agent) (h g : ℕ) (o : Option Agent) → slice_get agents h ≡ o → R (slice_get agents g) (slice_get (put_agent agents h f o) g)
relate_put R f same here agents h g None is = same (slice_get agents g)
relate_put R f same here agents h g (Some x) is = relate_set R x (f x) same (here x) agents h g is

pub relate_change : (R : Option Agent → Option Agent → Type 0) (f : Agent → Agent) → ((o : Option Agent) → R o o) → ((x : Agent) → R (Some x) (Some (f x)))
    → (agents : List Agent) (h g : ℕ) → R (slice_get agents g) (slice_get (change_agent agents h f) g)
relate_change R f same here agents h g = relate_put R f same here agents h g (slice_get agents h) refl

-- one more agent, which no action waits for
values_more : (agents : List Agent) (y : Agent) → values_of (agents ++ y ∷ []) ≡ values_of agents ++ y.value ∷ []
values_more [] y = refl
values_more (x ∷ xs) y = ap (λ l. x.value ∷ l) (values_more xs y)

pub as_many : (agents : List Agent) → length (values_of agents) ≡ length agents
as_many [] = refl
as_many (x ∷ xs) = omega (arith, as_many xs)

pub store_more : (means : Means) (accepts : Accepts) (agents : List Agent) (guards : List Guard) (rule : Option Rule) (y : Agent) → IsAgent means y
    → AreAccepted accepts (with_guard guards rule) (values_of agents ++ y.value ∷ []) → length agents < 2 ^ 20
    → IsStore means accepts agents guards → IsStore means accepts (agents ++ y ∷ []) (with_guard guards rule)
store_more means accepts agents guards rule y ok accepted room store =
    let guard : Guard = record { rule = rule; watches = [] } in (
      omega (arith, length-append agents (y ∷ []), room),
      omega (arith, length-append agents (y ∷ []), length-append guards (guard ∷ []), store.1),
      subst (AreAccepted accepts (with_guard guards rule)) (sym (values_more agents y)) accepted,
      agents_more means agents y ok store.3,
    )

pub and_false : (a b : Bool) → b ≡ false → (a && b) ≡ false
and_false true b is = is
and_false false b is = refl

-- one that was restarted
pub restarted_agent : (means : Means) (account : AccountSeen) (y : Agent) (state : Edn) (clear : Bool) → y.account ≡ restarted account state clear → y.value ≡ state → y.error ≡ None → (y.is_out && y.is_carrying) ≡ false → IsAgent means y
restarted_agent means account y state clear is value error idle = record {
  folded = rw (is, value) refl;
  marked = rw (is, error) refl;
  single = and_false y.is_out (is_some y.error) (ap is_some error);
  idle = idle;
}

pub store_restarted : (means : Means) (accepts : Accepts) (agents : List Agent) (guards : List Guard) (g : ℕ) (state : Edn) (clear : Bool) → AreAccepted accepts guards (slice_set (values_of agents) g state)
    → IsStore means accepts agents guards → IsStore means accepts (change_agent agents g (revived state clear)) guards
store_restarted means accepts agents guards g state clear accepted store = by (slice_get agents g) refl where
  by : (there : Option Agent) → slice_get agents g ≡ there → IsStore means accepts (put_agent agents g (revived state clear) there) guards
  by None is = store
  by (Some x) is =
      let y : Agent = revived state clear x in
      set_agent means accepts agents guards g y (restarted_agent means x.account y state clear refl refl refl (agent_at means agents g x store.3 is).idle)
      (subst (AreAccepted accepts guards) (sym (values_set agents g y)) accepted) store

abbrev pub seen : List Agent → List Guard → List ℕ → AgentsSeen
seen agents guards unreleased = record { agents = agents; guards = guards; unreleased = unreleased }

-- ---- accounts

pub after_handled-append : (means : Means) (hs : List Handled) (h : Handled) (v : Result Edn Cause) → after_handled means (hs ++ h ∷ []) v ≡ and_handled means h (after_handled means hs v)
after_handled-append means [] h v = refl
after_handled-append means (x ∷ hs) h v = after_handled-append means hs h (and_handled means x v)

-- where none was marked failed, one more may be
pub fit_marks-append : (hs : List Handled) (h : Handled) (failed : Bool) → failed ≡ is_failed_mark h.mark → fit_marks false hs ≡ true → fit_marks failed (hs ++ h ∷ []) ≡ true
fit_marks-append [] h true is fit = sym is
fit_marks-append [] h false is fit = ap not (sym is)
fit_marks-append (x ∷ []) h true is fit = rw fit (sym is)
fit_marks-append (x ∷ []) h false is fit = rw fit (ap not (sym is))
fit_marks-append (x ∷ y ∷ hs) h failed is fit = all_of (not (is_failed_mark x.mark)) (fit_marks failed (y ∷ hs ++ h ∷ [])) (first _ _ fit) (fit_marks-append (y ∷ hs) h failed is (second _ _ fit))
